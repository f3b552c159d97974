-- Items that stand in pieces: what changes with a piece, and how they are read one by one.
use Rattle.std.proofs.Common.{◌≡◌, ◌≢◌, ℕ, zero, suc, ◌+◌, ◌<◌, List, [], ◌∷◌, ◌++◌, All, length, take, get_or, map}
use Rattle.std.proofs.Common.{set, refl, sym, ap, ◌∙◌, append_assoc, arith}
use Rattle.std.specs.List.{flat_map}
use Rattle.std.proofs.lemmas.List.{append-nil, map-append, take_more}
use Rattle.std.proofs.lemmas.List.Elements.{All-head}
use Rattle.lambda_values.specs.declared.item.Item.{Item}
use Rattle.trace.specs.declared.item.End.{End}
use Rattle.trace.specs.declared.item.End.TheVariants as end
use Rattle.trace.specs.Trace.{Trace, trace}

-- the last piece grows
last_grows : {X A : Type 0} (f : X → List A) (xs : List X) (i : ℕ) (x y : X) (more : List A) → suc i ≡ length xs
    → f y ≡ f (get_or xs i x) ++ more → flat_map f (set xs i y) ≡ flat_map f xs ++ more
last_grows f [] i x y more last is = absurd (omega (arith, last))
last_grows f (z ∷ []) zero x y more last is =
    append-nil (f y) ∙ is ∙ ap (λ front. front ++ more) (sym (append-nil (f z)))
last_grows f (z ∷ []) (suc i) x y more last is = absurd (omega (arith, last))
last_grows f (z ∷ w ∷ xs) zero x y more last is = absurd (omega (arith, last))
last_grows f (z ∷ w ∷ xs) (suc i) x y more last is =
    ap (λ rest. f z ++ rest) (last_grows f (w ∷ xs) i x y more (omega (arith, last)) is)
    ∙ sym (append_assoc (f z) (flat_map f (w ∷ xs)) more)

-- the last piece grows by what was read
pub read_grows : {X A : Type 0} (f : X → List A) (xs : List X) (i : ℕ) (x y : X) (more : List A) → suc i ≡ length xs
    → x ≡ get_or xs i x → f y ≡ f x ++ more → flat_map f (set xs i y) ≡ flat_map f xs ++ more
read_grows f xs i x y more last here is = last_grows f xs i x y more last (is ∙ ap (λ z. f z ++ more) here)

-- and of one that stays as it is
pub read_stays : {X A : Type 0} (f : X → List A) (xs : List X) (i : ℕ) (x y : X) → suc i ≡ length xs → x ≡ get_or xs i x
    → f y ≡ f x → flat_map f (set xs i y) ≡ flat_map f xs
read_stays f xs i x y last here is = read_grows f xs i x y [] last here (is ∙ sym (append-nil (f x)))
    ∙ append-nil (flat_map f xs)

-- pieces that all have items have an item
pub some_item : {X A : Type 0} (f : X → List A) (xs : List X) → All (λ x. f x ≢ []) xs → 0 < length xs
    → flat_map f xs ≡ [] → ⊥
some_item f [] full some_piece e = absurd (omega (arith, some_piece))
some_item f (x ∷ xs) full some_piece e = All-head (λ y. f y ≢ []) x xs full (front_empty (f x) (flat_map f xs) e)
  where
    front_empty : {A : Type 0} (front bs : List A) → front ++ bs ≡ [] → front ≡ []
    front_empty [] bs e = refl
    front_empty (a ∷ front) bs e = cc

-- one item more
pub map_more : {A B : Type 0} (f : A → B) (xs ys : List A) (i : ℕ) (d : A) → i < length ys
    → map f (xs ++ take (i + 1) ys) ≡ map f (xs ++ take i ys) ++ f (get_or ys i d) ∷ []
map_more f xs ys i d within =
    ap (λ zs. map f (xs ++ zs)) (take_more ys i d within)
    ∙ ap (map f) (sym (append_assoc xs (take i ys) (get_or ys i d ∷ [])))
    ∙ map-append f (xs ++ take i ys) (get_or ys i d ∷ [])

pub pushed_is : {B : Type 0} (new old vs : List B) (written v : B) → new ≡ old ++ written ∷ [] → old ≡ vs → written ≡ v
    → new ≡ vs ++ v ∷ []
pushed_is new old vs written v is same at_v = is ∙ ap (λ us. us ++ written ∷ []) same ∙ ap (λ w. vs ++ w ∷ []) at_v

-- the trace of pieces that grew, and of pieces that are as they were
pub trace_grows : (xs ys more : List Item) (e : End) (t : Trace) → ys ≡ xs ++ more → trace xs e ≡ t
    → t.ending ≡ end.Done → trace ys e ≡ trace (t.items ++ more) end.Done
trace_grows xs ys more e t grown is done =
    ap (λ zs. trace zs e) grown ∙ ap (λ (u : Trace). trace (u.items ++ more) u.ending) is
    ∙ ap (trace (t.items ++ more)) done

pub same_trace : (xs ys : List Item) (e : End) (t : Trace) → ys ≡ xs → trace xs e ≡ t → trace ys e ≡ t
same_trace xs ys e t same is = ap (λ zs. trace zs e) same ∙ is
