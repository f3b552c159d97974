-- How what one step reaches is what the next one goes on from.
use Rattle.std.proofs.Common.{◌≡◌, ℕ, ◌<◌, ◌≤◌, ℤ, Option, Some, None, Result, Ok, Err, sym, subst, ◌∙◌, ap, arith}
use Rattle.lambda_values.specs.declared.fault.FaultKind.{FaultKind}
use Rattle.lambda_values.specs.Operators.{on}
use Rattle.batch_eval.specs.declared.reached.Reached.{Reached}
use Rattle.batch_eval.specs.Lanes.{StopsAt, Reaches, later_fault, after}

-- facts of a function hold of another one that agrees with it on the lanes
pub Reaches_same : (f g : ℕ → Result ℤ FaultKind) (c : ℕ → ℤ) (n : ℕ) (r : Reached) → ((k : ℕ) → k < n → f k ≡ g k)
    → Reaches f c n r → Reaches g c n r
Reaches_same f g c n r same h =
    record {
      within = h.within;
      values = λ k below. sym (same k (let w = h.within in omega arith)) ∙ h.values k below;
      stop = stop_same r.live r.fault h.stop;
    }
  where
    stop_same : (live : ℕ) (fault : Option FaultKind) → StopsAt f n live fault → StopsAt g n live fault
    stop_same live None s = s
    stop_same live (Some kind) s = (s.0, sym (same live s.0) ∙ s.1)

-- a function that has a value where another one has one, and the faults of that one
pub Reaches_image : (f g : ℕ → Result ℤ FaultKind) (c d : ℕ → ℤ) (n : ℕ) (r : Reached)
    → ((k : ℕ) → f k ≡ Ok (c k) → g k ≡ Ok (d k)) → ((k : ℕ) (kind : FaultKind) → f k ≡ Err kind → g k ≡ Err kind)
    → Reaches f c n r → Reaches g d n r
Reaches_image f g c d n r ok err h =
    record {
      within = h.within;
      values = λ k below. ok k (h.values k below);
      stop = stop_image r.live r.fault h.stop;
    }
  where
    stop_image : (live : ℕ) (fault : Option FaultKind) → StopsAt f n live fault → StopsAt g n live fault
    stop_image live None s = s
    stop_image live (Some kind) s = (s.0, err live kind s.1)

module _ (fa : ℕ → Result ℤ FaultKind) (g : ℕ → ℤ → Result ℤ FaultKind) (c : ℕ → ℤ) where
  abbrev both : ℕ → Result ℤ FaultKind
  both k = on (fa k) (g k)

  value_on : (k : ℕ) (v : Result ℤ FaultKind) → fa k ≡ Ok (c k) → g k (c k) ≡ v → both k ≡ v
  value_on k v a b = ap (λ (r : Result ℤ FaultKind). on r (g k)) a ∙ b

  stop_on : (n live one : ℕ) (first second : Option FaultKind) → StopsAt fa n one first
      → ((k : ℕ) → k < one → fa k ≡ Ok (c k)) → one ≤ n → StopsAt (λ k. g k (c k)) one live second
      → StopsAt both n live (later_fault second first)
  stop_on n live one first (Some kind) s values within t =
      (omega (arith, t.0), value_on live (Err kind) (values live t.0) t.1)
  stop_on n live one None None s values within t = t ∙ s
  stop_on n live one (Some kind) None s values within t =
      subst (λ (l : ℕ). StopsAt both n l (Some kind)) (sym t) (s.0, ap (λ (r : Result ℤ FaultKind). on r (g one)) s.1)

  -- a step that goes on with the values of an earlier one
  pub Reaches_on : (out : ℕ → ℤ) (n : ℕ) (r s : Reached) → Reaches fa c n r → Reaches (λ k. g k (c k)) out r.live s
      → Reaches both out n (after s r)
  Reaches_on out n r s a b =
      record {
        within = let w = a.within in let v = b.within in omega arith;
        values = λ k below. value_on k (Ok (out k)) (a.values k (let v = b.within in omega arith)) (b.values k below);
        stop = stop_on n s.live r.live r.fault s.fault a.stop a.values a.within b.stop;
      }
