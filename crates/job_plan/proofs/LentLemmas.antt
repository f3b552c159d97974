-- Parts of a prefix over sources whose items are lent, and how many items sources have.
use Rattle.std.proofs.Common.{◌≡◌, ℕ, false, Option, Some, None, List, [], ◌++◌, sym, ap, subst, ◌∙◌, append_assoc}
use Rattle.std.proofs.Common.{refl, ◌+◌, ◌-◌, ◌<◌, ◌≤◌, ◌^◌, min, ℤ, Bool, true, if◌then◌else◌, nat_lt, ◌∷◌, length}
use Rattle.std.proofs.Common.{take, drop, arith}
use Rattle.std.proofs.lemmas.List.{append-nil}
use Rattle.lambda_values.specs.Earlier.{Numbers, nothing_named}
use Rattle.lambda_values.specs.declared.item.Item.{Item}
use Rattle.trace.specs.declared.item.End.{End}
use Rattle.trace.specs.declared.item.End.TheVariants as end
use Rattle.trace.specs.Stages.{AbstractStage, pipe, stages_of}
use Rattle.trace.specs.Trace.{Trace, trace, nothing, append}
use Rattle.job_plan.specs.declared.part.Part.TheVariants as part
use Rattle.prefix_walks.specs.declared.prefix.Prefix.{Prefix}
use Rattle.job_routes.specs.declared.segment.Segment.{Segment}
use Rattle.job_routes.specs.declared.ends.SegmentEnd.TheVariants as ends
use Rattle.batch_eval.specs.Faultless.{AreFaultless, left_by}
use Rattle.job_routes.specs.Legs.{number_after, end_in, segment_in}
use Rattle.job_plan.specs.Parts.{EndsFor, StandsFor}
use Rattle.prefix_walks.specs.Pieces.{after, elements, piece_of, span}
use Rattle.prefix_walks.specs.Scans.{AbstractScan, scan, scan_append}
use Rattle.trace.specs.Cover.{placed, counted, too_long}
use Rattle.trace.proofs.JoinLemmas.{append_nothing}
use Rattle.job_language.specs.Jobs.{sources_of, AbstractPlainSource, source_of}
use Rattle.job_language.specs.declared.job.PlainSource.{PlainSource}
use Rattle.job_meaning.specs.Walks.{values_of, plain_values, source_walk}
use Rattle.batch_eval.proofs.FaultlessLemmas.{left_none}
use Rattle.prefix_walks.proofs.Elements.{elements_none, source_parts}
use Rattle.std.proofs.lemmas.Bool.{ltb-false, ltb-true, lt-ltb}
use Rattle.trace.proofs.Sources.{length-counted, length-placed}

-- items after others
pub grown : (w : Trace) (ys zs : List Item)
    → append (append w (trace ys end.Done)) (trace zs end.Done) ≡ append w (trace (ys ++ zs) end.Done)
grown w ys zs = by w.items w.ending
  where
    by : (xs : List Item) (e : End) → append (append (trace xs e) (trace ys end.Done)) (trace zs end.Done)
        ≡ append (trace xs e) (trace (ys ++ zs) end.Done)
    by xs end.Done = ap (λ (l : List Item). trace l end.Done) (append_assoc xs ys zs)
    by xs (end.Fault f) = refl

pub scanned_none : (p : AbstractScan) (gs : List AbstractStage) (from : ℕ) (to : Option ℕ) (origin : ℕ)
    (ss : List PlainSource) → ss ≡ []
    → p ≡ scan_append p (trace (left_by gs (elements from to (placed origin (values_of (sources_of ss))))) end.Done)
scanned_none p gs from to origin ss none = sym (
    ap (λ (l : List PlainSource). scan_append p
    (trace (left_by gs (elements from to (placed origin (values_of (sources_of l))))) end.Done)) none
    ∙ ap (λ (xs : List Item). scan_append p (trace (left_by gs xs) end.Done)) (elements_none from to)
    ∙ ap (λ (xs : List Item). scan_append p (trace xs end.Done)) (left_none gs)
    ∙ ap (scan p.op p.range p.stage) (append_nothing p.walk)
    )

pub scanned_both : (p q r : AbstractScan) (ys zs all : List Item) → q ≡ scan_append p (trace ys end.Done)
    → r ≡ scan_append q (trace zs end.Done) → all ≡ ys ++ zs → r ≡ scan_append p (trace all end.Done)
scanned_both p q r ys zs all first second both =
    second ∙ ap (λ (x : AbstractScan). scan_append x (trace zs end.Done)) first
    ∙ ap (scan p.op p.range p.stage)
    (grown p.walk ys zs ∙ ap (λ (l : List Item). append p.walk (trace l end.Done)) (sym both))

-- what cheap stages leave of the items at some positions, and the end of the piece
pub piece_again : (gs : List AbstractStage) (from : ℕ) (to : Option ℕ) (t : Trace) (ending : End)
    → ending ≡ (piece_of 0 to t).ending
    → append (append nothing (trace (left_by gs (elements from to t.items)) end.Done)) (trace [] ending)
    ≡ trace (left_by gs (piece_of from to t).items) (piece_of from to t).ending
piece_again gs from None t ending e = (λ j. trace (append-nil (left_by gs (elements from None t.items)) j) (e j))
piece_again gs from (Some to) t ending e =
    (λ j. trace (append-nil (left_by gs (elements from (Some to) t.items)) j) (e j))

-- a part of a segment whose stages are cheap
pub lent_stands : (segment : Segment) (prefix : Prefix) (p : AbstractScan) (t : Trace) (env : Numbers)
    → segment.end ≡ ends.Prefix prefix → AreFaultless false (stages_of segment.stages.list.items)
    → p ≡ scan prefix.op prefix.range (number_after segment.stages)
    (trace (left_by (stages_of segment.stages.list.items) t.items) t.ending)
    → StandsFor (segment_in segment) env (part.Prefix p) t
lent_stands segment prefix p t env e plain is =
    let n = segment.stages.first in
    let gs = stages_of segment.stages.list.items in
    let last : ℕ = number_after segment.stages in
    let none : Numbers = nothing_named in
    let walk : pipe n gs env t ≡ trace (left_by gs t.items) t.ending = (plain none).0 n env tt t.items t.ending in
    let stands : p ≡ scan prefix.op prefix.range last (pipe n gs env t) =
    is ∙ ap (scan prefix.op prefix.range last) (sym walk) in
    subst (λ d. EndsFor (end_in d) last env (part.Prefix p) (pipe n gs env t)) (sym e) stands

-- ---- how many items a walk over sources has, and how many values a range

-- the walk over sources of too many values, and over others, by how many values the program counts
pub long_walk : (ss : List AbstractPlainSource) → 4611686018427387904 < length (values_of ss)
    → too_long ≡ source_walk ss
long_walk ss h = sym (ap (λ (b : Bool). if b then too_long else trace (placed 0 (values_of ss)) end.Done)
    (lt-ltb 4611686018427387904 (length (values_of ss)) h))

pub short_walk : (ss : List AbstractPlainSource) → length (values_of ss) ≤ 4611686018427387904
    → trace (placed 0 (values_of ss)) end.Done ≡ source_walk ss
short_walk ss h = by (nat_lt (2 ^ 62) (length (values_of ss))) refl
  where
    by : (b : Bool) → nat_lt (2 ^ 62) (length (values_of ss)) ≡ b
        → trace (placed 0 (values_of ss)) end.Done ≡ (if b then too_long else trace (placed 0 (values_of ss)) end.Done)
    by true k = let l = ltb-true 4611686018427387904 (length (values_of ss)) k in absurd (omega (arith, l, h))
    by false k = refl

pub walk_below : (ss : List AbstractPlainSource) → length (source_walk ss).items < 18446744073709551616
walk_below ss = by (nat_lt (2 ^ 62) (length (values_of ss))) refl
  where
    by : (b : Bool) → nat_lt (2 ^ 62) (length (values_of ss)) ≡ b
        → length (if b then too_long else trace (placed 0 (values_of ss)) end.Done).items < 18446744073709551616
    by true k = omega arith
    by false k = let l = ltb-false 4611686018427387904 (length (values_of ss)) k in
        let n = length-placed 0 (values_of ss) in omega (arith, l, n)

-- how many values a range has, as the program counts them
pub counted_size : (a : ℤ) (n : ℕ) → n < 18446744073709551616 → n ≡ min (length (counted a n)) 18446744073709551615
counted_size a n h = let l = length-counted a n in omega arith

pub counted_least : (a : ℤ) (n : ℕ) → min n 18446744073709551615 ≡ min (length (counted a n)) 18446744073709551615
counted_least a n = ap (λ m. min m 18446744073709551615) (sym (length-counted a n))

-- the items at these positions of sources are those of the first one, and then those of the others
pub first_part : (ss : List PlainSource) (x : PlainSource) (later : List PlainSource) (xs : List Item) (o from : ℕ)
    (to : Option ℕ) (size start count : ℕ) → ss ≡ x ∷ later → o + length (values_of (sources_of ss)) ≤ 2 ^ 62
    → size ≡ min (length (plain_values (source_of x))) (2 ^ 64 - 1) → start ≡ min from size → count ≡ span from to size
    → xs ≡ placed (o + start) (take count (drop start (plain_values (source_of x))))
    → elements from to (placed o (values_of (sources_of ss)))
    ≡ xs ++ elements (from - size) (after to size) (placed (o + size) (values_of (sources_of later)))
first_part ss x later xs o from to size start count split =
    source_parts (values_of (sources_of ss)) (plain_values (source_of x)) (values_of (sources_of later)) xs o from to
    size start count (ap (λ l. values_of (sources_of l)) split)
