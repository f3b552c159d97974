-- Slices that come after maps alone.
use Rattle.std.proofs.Common.{◌≡◌, ℕ, zero, suc, ◌+◌, nat_lt, if◌then◌else◌, Bool, true, false, List, [], ◌∷◌, ◌++◌}
use Rattle.std.proofs.Common.{length, take, Result, Ok, Err, refl, sym, ap, ◌∙◌, arith}
use Rattle.std.proofs.lemmas.Bool.{ltb-false, ltb-true, lt-ltb}
use Rattle.lambda_values.specs.Earlier.{Numbers}
use Rattle.lambda_values.specs.Term.{parameter}
use Rattle.trace.specs.declared.item.Fault.{Fault}
use Rattle.lambda_values.specs.declared.item.Item.{Item}
use Rattle.trace.specs.declared.item.End.{End}
use Rattle.trace.specs.declared.item.End.TheVariants as end
use Rattle.trace.specs.Stages.{AbstractStage, map, pipe, through}
use Rattle.trace.specs.Trace.{Trace, trace, nothing, append}
use Rattle.slice_ops.specs.Slices.{limited, skipped}
use Rattle.batch_eval.specs.Faultless.{AreFaultless, AreMaps, one_or}
use Rattle.trace.proofs.JoinLemmas.{pipe_ended, pipe_more}
use Rattle.prefix_walks.proofs.Elements.{drop_none, take_none}

-- ---- `limit` and `skip` of a walk through maps

pub skip_none : (t : Trace) → skipped 0 t ≡ t
skip_none t = ap (λ xs. trace xs t.ending) (drop_none t.items)

abbrev pub first_of : Item → Trace → Trace
first_of x t = append (trace (x ∷ []) end.Done) t

pub limited_none : (t : Trace) → limited 0 t ≡ nothing
limited_none t = by (nat_lt (length t.items) 0) refl
  where
    by : (b : Bool) → nat_lt (length t.items) 0 ≡ b → (if b then t else trace (take 0 t.items) end.Done) ≡ nothing
    by true h = let l = ltb-true (length t.items) 0 h in absurd (omega (arith, l))
    by false h = ap (λ xs. trace xs end.Done) (take_none t.items)

pub limited_end : (n : ℕ) (e : End) → limited (suc n) (trace [] e) ≡ trace [] e
limited_end n e = ap (λ (b : Bool). if b then trace [] e else trace (take (suc n) []) end.Done)
    (lt-ltb 0 (suc n) (omega arith))

pub limited_next : (n : ℕ) (x : Item) (t : Trace) → limited (suc n) (first_of x t) ≡ first_of x (limited n t)
limited_next n x t = by (nat_lt (length t.items) n) refl (nat_lt (suc (length t.items)) (suc n)) refl
  where
    by : (b : Bool) → nat_lt (length t.items) n ≡ b → (c : Bool) → nat_lt (suc (length t.items)) (suc n) ≡ c
        → (if c then first_of x t else trace (take (suc n) (x ∷ t.items)) end.Done)
        ≡ first_of x (if b then t else trace (take n t.items) end.Done)
    by true h true k = refl
    by false h false k = refl
    by true h false k = let l = ltb-true (length t.items) n h in let m = ltb-false (suc (length t.items)) (suc n) k in
        absurd (omega (arith, l, m))
    by false h true k = let l = ltb-false (length t.items) n h in let m = ltb-true (suc (length t.items)) (suc n) k in
        absurd (omega (arith, l, m))

-- what maps make of a first item, and of those after it
first_made : (gs : List AbstractStage) (h : AreMaps gs) (m : ℕ) (env : Numbers) (x : Item) (xs : List Item) (e : End)
    → pipe m gs env (trace (x ∷ xs) e) ≡ append (one_or (h m env x).0) (pipe m gs env (trace xs e))
first_made gs h m env x xs e = pipe_more m gs env (x ∷ []) xs e
    ∙ ap (λ (t : Trace). append t (pipe m gs env (trace xs e))) (h m env x).1

pub limit_before_maps : (m : ℕ) (gs : List AbstractStage) → AreMaps gs → (n : ℕ) (env : Numbers) (t : Trace)
    → limited n (pipe m gs env t) ≡ pipe m gs env (limited n t)
limit_before_maps m gs h n env t = by n t.items t.ending
  where
    one : (n : ℕ) (r : Result Item Fault) (a b : Trace) → limited n a ≡ b
        → limited (suc n) (append (one_or r) a) ≡ append (one_or r) b
    one n (Ok y) a b later = limited_next n y a ∙ ap (first_of y) later
    one n (Err f) a b later = limited_end n (end.Fault f)

    by : (n : ℕ) (xs : List Item) (e : End)
        → limited n (pipe m gs env (trace xs e)) ≡ pipe m gs env (limited n (trace xs e))
    by zero xs e = limited_none (pipe m gs env (trace xs e))
        ∙ sym (ap (pipe m gs env) (limited_none (trace xs e)) ∙ pipe_ended m gs env end.Done)
    by (suc n) [] e = ap (limited (suc n)) (pipe_ended m gs env e) ∙ limited_end n e
        ∙ sym (ap (pipe m gs env) (limited_end n e) ∙ pipe_ended m gs env e)
    by (suc n) (x ∷ xs) e =
        let l : Trace = limited n (trace xs e) in
        ap (limited (suc n)) (first_made gs h m env x xs e)
        ∙ one n (h m env x).0 (pipe m gs env (trace xs e)) (pipe m gs env l) (by n xs e)
        ∙ sym (ap (pipe m gs env) (limited_next n x (trace xs e)) ∙ first_made gs h m env x l.items l.ending)

-- maps without a fault make an item of a first item
pub first_mapped : (gs : List AbstractStage) → AreMaps gs → AreFaultless true gs
    → (m : ℕ) (env : Numbers) (x : Item) (xs : List Item) (e : End)
    → (y : Item) × (pipe m gs env (trace (x ∷ xs) e) ≡ first_of y (pipe m gs env (trace xs e)))
first_mapped gs h calm m env x xs e = by (h m env x).0 (h m env x).1 (first_made gs h m env x xs e)
  where
    by : (r : Result Item Fault) → pipe m gs env (trace (x ∷ []) end.Done) ≡ one_or r
        → pipe m gs env (trace (x ∷ xs) e) ≡ append (one_or r) (pipe m gs env (trace xs e))
        → (y : Item) × (pipe m gs env (trace (x ∷ xs) e) ≡ first_of y (pipe m gs env (trace xs e)))
    by (Ok y) one is = (y, is)
    by (Err f) one is = absurd (let z : end.Done ≡ end.Fault f =
        ap (λ (t : Trace). t.ending) (sym ((calm env).0 m env refl (x ∷ []) end.Done) ∙ one) in cc)

pub skip_before_maps : (m : ℕ) (gs : List AbstractStage) → AreMaps gs → AreFaultless true gs
    → (n : ℕ) (env : Numbers) (t : Trace) → skipped n (pipe m gs env t) ≡ pipe m gs env (skipped n t)
skip_before_maps m gs h calm n env t = by n t.items t.ending
  where
    by : (n : ℕ) (xs : List Item) (e : End)
        → skipped n (pipe m gs env (trace xs e)) ≡ pipe m gs env (skipped n (trace xs e))
    by zero xs e = skip_none (pipe m gs env (trace xs e)) ∙ sym (ap (pipe m gs env) (skip_none (trace xs e)))
    by (suc n) [] e = ap (skipped (suc n)) (pipe_ended m gs env e) ∙ sym (pipe_ended m gs env e)
    by (suc n) (x ∷ xs) e = ap (skipped (suc n)) (first_mapped gs h calm m env x xs e).1 ∙ by n xs e

-- ---- walks through maps

-- maps in two parts
pub pipe_joined : (n : ℕ) (gs hs : List AbstractStage) (env : Numbers) (t : Trace)
    → pipe n (gs ++ hs) env t ≡ pipe (n + length gs) hs env (pipe n gs env t)
pipe_joined n [] hs env t = let e : n ≡ n + 0 = omega arith in ap (λ (m : ℕ). pipe m hs env t) e
pipe_joined n (g ∷ gs) hs env t =
    let e : suc n + length gs ≡ n + suc (length gs) = omega arith in
    pipe_joined (suc n) gs hs env (through n g env t)
    ∙ ap (λ (m : ℕ). pipe m hs env (pipe (suc n) gs env (through n g env t))) e

-- the map that changes nothing
pub same_items : (n : ℕ) (env : Numbers) (xs : List Item) (e : End)
    → through n (map (parameter 0)) env (trace xs e) ≡ trace xs e
same_items n env [] e = refl
same_items n env (x ∷ xs) e = ap (first_of x) (same_items n env xs e)
