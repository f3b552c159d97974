use Rattle.job_meaning.proofs.ItemWalkLemmas.{by_items, decided_by_items, over_nothing}
use Rattle.job_meaning.proofs.laws.walks_go_item_by_item.Goals as goal

pub returns-clause-walk : goal.returns-clause-walk
returns-clause-walk c = by_items

pub returns-clause-find : goal.returns-clause-find
returns-clause-find c = decided_by_items

pub returns-clause-over : goal.returns-clause-over
returns-clause-over c = over_nothing
