-- Folds that look at no item, or at the first one alone: counts after maps, and those that keep the first value.
use Rattle.std.proofs.Common.{◌≡◌, ℕ, Bool, suc, ◌+◌, ◌≤◌, ◌-◌, ℤ, pos, ◌+ℤ◌, true, List, [], ◌∷◌, length, drop, Option}
use Rattle.std.proofs.Common.{Some, None, refl, sym, ap, subst, ◌∙◌, arith, rules}
use Rattle.std.proofs.lemmas.Int.{int_wrap_fits}
use Rattle.std.proofs.lemmas.List.{append-nil, length-drop, length-take}
use Rattle.std.specs.Int.{w64}
use Rattle.lambda_values.specs.Earlier.{Numbers}
use Rattle.lambda_values.specs.Wrap.{wrap}
use Rattle.lambda_values.specs.declared.item.Item.{Item}
use Rattle.trace.specs.declared.item.End.{End}
use Rattle.trace.specs.declared.item.End.TheVariants as end
use Rattle.trace.specs.Stages.{AbstractStage, pipe, stages_of}
use Rattle.trace.specs.Trace.{Trace, trace, append}
use Rattle.reduce_ops.specs.declared.op.Op.{Op}
use Rattle.reduce_ops.specs.declared.op.Op.TheVariants as op
use Rattle.reduce_ops.specs.declared.partial.Partial.{Partial}
use Rattle.reduce_ops.specs.Folds.{fold_from, fold_items, ones}
use Rattle.reduce_ops.specs.Operators.{value_of}
use Rattle.reduce_ops.specs.Parts.{StandsFor as FoldStands}
use Rattle.reduce_ops.proofs.FoldLemmas.{counted}
use Rattle.job_plan.specs.declared.fold_part.FoldPart.{FoldPart}
use Rattle.job_plan.specs.declared.part.Part.TheVariants as part
use Rattle.job_routes.specs.declared.ends.Fold.{Fold}
use Rattle.job_routes.specs.declared.segment.Segment.{Segment}
use Rattle.job_routes.specs.declared.ends.SegmentEnd.TheVariants as ends
use Rattle.batch_eval.specs.Faultless.{AreFaultless, AreMaps}
use Rattle.job_plan.specs.Parts.{EndsFor, IsFold, StandsFor}
use Rattle.job_routes.specs.Legs.{end_in, segment_in}
use Rattle.prefix_walks.specs.Pieces.{piece_of, span}
use Rattle.prefix_walks.specs.Batches.{counted_as}
use Rattle.trace.proofs.JoinLemmas.{pipe_ended}
use Rattle.job_routes.proofs.MapLemmas.{first_mapped}
use Rattle.job_plan.proofs.WalkLemmas.{same_ending}

-- two walks have equally many items, and one end
abbrev HasSize : Trace → Trace → Type 0
HasSize t u = (length u.items ≡ length t.items) × (u.ending ≡ t.ending)

maps_keep : (m : ℕ) (gs : List AbstractStage) → AreMaps gs → AreFaultless true gs → (env : Numbers) (t : Trace)
    → HasSize t (pipe m gs env t)
maps_keep m gs h calm env t = (
  by t.items t.ending,
  ap (λ (w : Trace). w.ending) ((calm env).0 m env refl t.items t.ending),
)
  where
    by : (xs : List Item) (e : End) → length (pipe m gs env (trace xs e)).items ≡ length xs
    by [] e = ap (λ (w : Trace). length w.items) (pipe_ended m gs env e)
    by (x ∷ xs) e = ap (λ (w : Trace). length w.items) (first_mapped gs h calm m env x xs e).1 ∙ ap suc (by xs e)

-- how many items stand at positions
piece_size : (from : ℕ) (to : Option ℕ) (t : Trace) → length (piece_of from to t).items ≡ span from to (length t.items)
piece_size from None t = length-drop from t.items
piece_size from (Some to) t =
    let a = length-take (to - from) (drop from t.items) in
    let d = length-drop from t.items in
    a ∙ omega (arith, d)

-- the sum of some ones
some_ones : (n : ℕ) (xs : List Item) → n ≤ 4611686018427387904 → 1 ≤ n → length xs ≡ n
    → Some (pos n) ≡ fold_items (value_of op.Sum) (ones xs)
some_ones n [] few some is = absurd (omega (arith, some, is))
some_ones n (x ∷ xs) few some is =
    let one : wrap (pos 0 +ℤ pos 1) ≡ pos 1 = int_wrap_fits w64 (pos 1) (search rules) in
    let all = counted (x ∷ xs) in
    let fits : wrap (pos n) ≡ pos n = int_wrap_fits w64 (pos n) (search rules) in
    ap Some (sym (ap (λ (z : ℤ). fold_from (value_of op.Sum) z (ones xs)) (sym one) ∙ all
    ∙ ap (λ (k : ℕ). wrap (pos k)) is ∙ fits))

-- their fold
pub ones_stand : (p : Partial) (n : ℕ) (xs : List Item) → n ≤ 4611686018427387904 → 1 ≤ n → p.op ≡ op.Sum
    → p.value ≡ Some (pos n) → p.end ≡ end.Done → length xs ≡ n → FoldStands p (trace (ones xs) end.Done)
ones_stand p n xs few some adds value done is = record {
  value = value ∙ some_ones n xs few some is ∙ ap (λ (o : Op). fold_items (value_of o) (ones xs)) (sym adds);
  ending = done;
}

-- a fold of ones, and the end of the walk
pub counted_end : (p : Partial) (t : Trace) (counts : Bool) (ending : End) → counts ≡ true → t.ending ≡ ending
    → FoldStands p (append (trace (ones t.items) end.Done) (trace [] ending))
    → FoldStands p (trace (counted_as counts t.items) t.ending)
counted_end p t counts ending adds last =
    subst (λ (u : Trace). FoldStands p u)
    ((λ i. trace (append-nil (ones t.items) i) (sym last i))
    ∙ ap (λ (c : Bool). trace (counted_as c t.items) t.ending) (sym adds))

-- a part of a segment that counts after maps that can't have a fault
pub counted_stands : (segment : Segment) (fold : Fold) (p : FoldPart) (from : ℕ) (to : Option ℕ) (t : Trace) (count : ℕ)
    (ending : End) (env : Numbers)
    → segment.end ≡ ends.Fold fold → AreMaps (stages_of segment.stages.list.items)
    → AreFaultless true (stages_of segment.stages.list.items) → count ≡ span from to (length t.items)
    → ending ≡ (piece_of 0 to t).ending
    → ((u : Trace) → length u.items ≡ count → u.ending ≡ ending → IsFold fold.op fold.start fold.counts p u)
    → StandsFor (segment_in segment) env (part.Fold p) (piece_of from to t)
counted_stands segment fold p from to t count ending env e maps calm few last made =
    let n = segment.stages.first in
    let gs = stages_of segment.stages.list.items in
    let piece = piece_of from to t in
    let kept = maps_keep n gs maps calm env piece in
    let stands : IsFold fold.op fold.start fold.counts p (pipe n gs env piece) =
    made (pipe n gs env piece) (kept.0 ∙ piece_size from to t ∙ sym few)
    (kept.1 ∙ sym (last ∙ same_ending from to t)) in
    subst (λ d. EndsFor (end_in d) (n + length gs) env (part.Fold p) (pipe n gs env piece)) (sym e) stands
