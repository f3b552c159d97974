-- Condition: items that batches are made of.
use Rattle.std.specs.Prelude.{ℤ, List, length}
use Rattle.trace.specs.Cover.{counted, placed}
use Rattle.lambda_values.specs.declared.item.Item.{Item}
use Rattle.batch_eval.specs.Batches.{flagged_items, flagged_values, holds, laid_items}
use Rattle.batch_eval.specs.LaneValues.{value_at}
use Rattle.batch_eval.specs.declared.batch_items.BatchItems.{BatchItems}
use Rattle.batch_eval.specs.declared.batch_items.BatchItems.TheVariants as items
use Rattle.batch_eval.specs.declared.flagged_lanes.FlaggedLanes.{FlaggedLanes}
use Rattle.batch_eval.specs.declared.lane_items.LaneItems.{LaneItems}

-- the items of lanes
abbrev pub laid : LaneItems → List Item
laid l = laid_items l.start l.places.now l.values.now

-- items in lanes, or integers that count up at places that do
abbrev pub batch_items : BatchItems → List Item
batch_items (items.Lanes l) = laid l
batch_items (items.Range r) = placed r.origin (counted r.first r.count)

-- the items of the lanes whose flag is set
abbrev pub set_in : FlaggedLanes → List Item
set_in l = flagged_items (holds l.set) l.start l.origins.now (value_at l.values) l.flags.now

-- their values
abbrev pub values_in : FlaggedLanes → List ℤ
values_in l = flagged_values (holds l.set) (value_at l.values) l.flags.now (length l.flags.now)
