use Rattle.std.proofs.Common.{◌≡◌, ℤ, ◌++◌, List, length, take, sym, subst, ◌∙◌, add-one, arith}
use Rattle.std.proofs.Math.Seq.{take-append_seam}
use Rattle.batch_eval.proofs.SetItemLemmas.{none_left}
use Rattle.batch_eval.proofs.batch.Batch.+go_on.Goals as goal

pub returns-in-Some-Map-default-clause-walk : goal.returns-in-Some-Map-default-clause-walk
returns-in-Some-Map-default-clause-walk t c =
    let split = c.in-Some-Map-default.ensures in
    let on = rw (c.map.ensures, split.first, split.env, add-one) at c.go_on.ensures.walk in
    rw (split.stages, c.in-Some-Map-default.field-0-0-is) on

pub returns-then-is_empty-clause-walk : goal.returns-then-is_empty-clause-walk
returns-then-is_empty-clause-walk t c =
    let split = c.in-Some-Filter-default.ensures in
    let flags : List ℤ = c.sift-later.new.flags in
    let rest : List ℤ = c.sift-later.new.room in
    let size : length flags ≡ 1024 = omega
    (arith, c.sift-later.auto.flags, c.flag_lanes.auto.flags, c.split_at_mut-flags.ensures.front_len) in
    let front : take 1024 (flags ++ rest) ≡ flags =
    subst (λ n. take n (flags ++ rest) ≡ flags) size (take-append_seam flags rest) in
    let gone = none_left c.sift-later.result.stages.now
    (sym c.is_empty-then-takes_flags.ensures ∙ c.if-is_empty.true) in
    let on = rw (gone, c.flag_lanes.ensures, split.first, split.env, add-one) at c.sift-later.ensures.walk in
    rw (front, split.stages, c.in-Some-Filter-default.field-0-0-is) on

pub returns-else-takes_flags-clause-walk : goal.returns-else-takes_flags-clause-walk
returns-else-takes_flags-clause-walk t c =
    let split = c.in-Some-Filter-default.ensures in
    let on = rw (c.keep.ensures, c.sift-later.ensures.walk, c.flag_lanes.ensures, split.first, split.env, add-one) at
    c.go_on-in-Some-Filter-default.ensures.walk in
    rw (split.stages, c.in-Some-Filter-default.field-0-0-is) on
