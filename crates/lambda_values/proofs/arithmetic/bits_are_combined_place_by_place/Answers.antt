use Rattle.lambda_values.proofs.DivisionLaws.{and_places, or_places, xor_places}
use Rattle.lambda_values.proofs.arithmetic.bits_are_combined_place_by_place.Goals as goal

pub returns-clause-and : goal.returns-clause-and
returns-clause-and c = and_places

pub returns-clause-or : goal.returns-clause-or
returns-clause-or c = or_places

pub returns-clause-xor : goal.returns-clause-xor
returns-clause-xor c = xor_places
