-- An answer is equal to itself.
use Rattle.std.proofs.Common.{◌≡◌, ℕ, ℤ, Bool, true, false, List, [], ◌∷◌, Option, Some, None, refl, ap, ◌∙◌, arith}
use Rattle.std.specs.Prelude.{◌&&◌, ◌==◌}
use Rattle.std.specs.Cmp.Lexicographic.{pointwise}
use Rattle.std.specs.Ordering.{int_eq}
use Rattle.std.proofs.lemmas.Grind.{common_steps}
use Rattle.trace.specs.declared.item.Fault.{Fault}
use Rattle.job_meaning.specs.declared.answer.Answer.{Answer}
use Rattle.job_meaning.specs.declared.answer.Answer.TheVariants as answer
use Rattle.report_merge.specs.Merging.{kind_number, same_answer, same_fault, same_optional, same_place, same_truth}

same_int : (z : ℤ) → int_eq z z ≡ true
same_int z = grind (arith, common_steps)

same_nat : (n : ℕ) → (n == n) ≡ true
same_nat n = grind (arith, common_steps)

all_same : (zs : List ℤ) → pointwise int_eq zs zs ≡ true
all_same [] = refl
all_same (z ∷ zs) = ap (λ (t : Bool). t && pointwise int_eq zs zs) (same_int z) ∙ all_same zs

place_same : (o : Option ℕ) → same_place o o ≡ true
place_same None = refl
place_same (Some i) = same_nat i

optional_same : (v : Option ℤ) → same_optional v v ≡ true
optional_same None = refl
optional_same (Some z) = same_int z

truth_same : (b : Bool) → same_truth b b ≡ true
truth_same true = refl
truth_same false = refl

fault_same : (f : Fault) → same_fault f f ≡ true
fault_same f =
    ap (λ (t : Bool). t && ((f.stage == f.stage) && same_place f.origin f.origin)) (same_nat (kind_number f.kind))
    ∙ ap (λ (t : Bool). t && same_place f.origin f.origin) (same_nat f.stage)
    ∙ place_same f.origin

pub same_self : (a : Answer) → same_answer a a ≡ true
same_self (answer.Number z) = same_int z
same_self (answer.Truth b) = truth_same b
same_self (answer.Optional v) = optional_same v
same_self (answer.Array vs) = all_same vs
same_self (answer.Fault f) = fault_same f
same_self (answer.Unusable i) = same_nat i
