use Rattle.std.proofs.Common.{◌≡◌, ◌+◌, ◌<◌, length, length-append, ap, sym, ◌∙◌, ◌++◌, arith}
use Rattle.trace.specs.Cover.{placed}
use Rattle.spliterator.specs.Parts.{plain_values, all_values}
use Rattle.spliterator.proofs.SplitLemmas.{length-placed}
use Rattle.spliterator.proofs.PartLemmas.{length-plain, split_values, same_split, split_off, split_front, whole_front}
use Rattle.spliterator.proofs.PartLemmas.{half_front}
use Rattle.spliterator.proofs.concat_split.ConcatSplitLongSpliterator.try_split.Goals as goal

pub hand_out-requires-clause-size : goal.hand_out-requires-clause-size
hand_out-requires-clause-size c = c.exact_size-head_size.ensures ∙ length-plain c.skip_empty_parts.new.self.head

pub returns-then-head_size-self-clause-some : goal.returns-then-head_size-self-clause-some
returns-then-head_size-self-clause-some c =
    let s = c.skip_empty_parts.new.self in
    let more = c.if-head_size-self.true in
    let size = s.sized ∙ length-append (plain_values s.head) (all_values s.tail.now) in
    let head = c.exact_size-head_size.ensures ∙ length-plain s.head in
    let some : 0 < length (all_values c.skip_empty_parts.new.self.tail.now) = omega arith in
    same_split _ _ _ (placed s.origin (plain_values s.head))
    (placed (s.origin + length (plain_values s.head)) (all_values s.tail.now))
    (placed s.origin (plain_values s.head ++ all_values s.tail.now))
    c.hand_out.ensures.front
    (c.hand_out.ensures.back ∙ (λ i. placed (s.origin + head i) (c.no_items.ensures i ++ all_values s.tail.now)))
    (sym c.skip_empty_parts.ensures.same)
    (split_off s.origin (plain_values s.head) (all_values s.tail.now) c.skip_empty_parts.ensures.none some)

pub returns-in_default-clause-few : goal.returns-in_default-clause-few
returns-in_default-clause-few c =
    let s = c.skip_empty_parts.new.self in
    let few = c.in_default.ensures.few in
    let size = c.skip_empty_parts.new.self.sized in
    let head = c.exact_size-head_size.ensures in
    let last = c.if-head_size-self.false in
    let left = ap length (sym c.skip_empty_parts.ensures.same)
    ∙ length-placed s.origin (plain_values s.head ++ all_values s.tail.now) in
    omega arith

pub hand_out-requires-2-clause-size : goal.hand_out-requires-2-clause-size
hand_out-requires-2-clause-size c = c.exact_size.ensures ∙ length-plain c.in-Some.front

pub hand_out-requires-2-clause-whole : goal.hand_out-requires-2-clause-whole
hand_out-requires-2-clause-whole c = split_values c.in-Some.front c.try_split.new.self c.skip_empty_parts.new.self.head
    c.in-Some.ensures.some

pub returns-clause-some : goal.returns-clause-some
returns-clause-some c =
    let s = c.skip_empty_parts.new.self in
    let front = c.in-Some.front in
    let back = c.try_split.new.self in
    let size = c.exact_size.ensures ∙ length-plain front in
    same_split _ _ _ (placed s.origin (plain_values front))
    (placed (s.origin + length (plain_values front)) (plain_values back ++ all_values s.tail.now))
    (placed s.origin (plain_values s.head ++ all_values s.tail.now))
    c.hand_out-2.ensures.front
    (c.hand_out-2.ensures.back ∙ ap (λ n. placed (s.origin + n) (plain_values back ++ all_values s.tail.now)) size)
    (sym c.skip_empty_parts.ensures.same)
    (split_front s.origin front back s.head (all_values s.tail.now) c.in-Some.ensures.some)

pub returns-then-head_size-self-clause-front : goal.returns-then-head_size-self-clause-front
returns-then-head_size-self-clause-front c =
    let s = c.skip_empty_parts.new.self in
    let more = c.if-head_size-self.true in
    let size = s.sized ∙ length-append (plain_values s.head) (all_values s.tail.now) in
    let head = c.exact_size-head_size.ensures ∙ length-plain s.head in
    let some : 0 < length (all_values c.skip_empty_parts.new.self.tail.now) = omega arith in
    c.hand_out.ensures.values ∙ whole_front s.head s.tail.now c.skip_empty_parts.ensures.none some
    ∙ c.skip_empty_parts.ensures.front

pub returns-clause-front : goal.returns-clause-front
returns-clause-front c =
    let s = c.skip_empty_parts.new.self in
    let size = s.sized ∙ length-append (plain_values s.head) (all_values s.tail.now) in
    let head = c.exact_size-head_size.ensures ∙ length-plain s.head in
    let last = c.if-head_size-self.false in
    let none : length (all_values c.skip_empty_parts.new.self.tail.now) ≡ 0 = omega arith in
    c.hand_out-2.ensures.values ∙ half_front c.in-Some.front c.try_split.new.self s.head s.tail.now
    c.in-Some.ensures.some c.in-Some.ensures.half none ∙ c.skip_empty_parts.ensures.front
