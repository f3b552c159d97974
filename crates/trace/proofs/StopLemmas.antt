-- The first item that ends a walk over items in pieces.
use Rattle.std.proofs.Common.{◌≡◌, ℕ, suc, ◌+◌, ◌<◌, List, [], ◌∷◌, ◌++◌, length, length-append, take, drop, get_or}
use Rattle.std.proofs.Common.{Option, Some, None, refl, sym, ap, ◌∙◌, arith}
use Rattle.std.specs.List.{flat_map}
use Rattle.std.specs.Option.{option_or}
use Rattle.std.proofs.Math.Seq.{take-append-add, drop-append-add}
use Rattle.std.proofs.lemmas.List.{take-append-drop}
use Rattle.std.proofs.lemmas.List.Concat.{flat_map-append}
use Rattle.lambda_values.specs.declared.item.Item.{Item}
use Rattle.trace.specs.declared.item.End.{End}
use Rattle.trace.specs.Cuts.{IsCut}
use Rattle.trace.specs.Stops.{shift, stop_or, stop_at}
use Rattle.trace.proofs.CutLemmas.{take_on, drop_on, first_of}

pub shift_twice : (j k : ℕ) (o : Option (ℕ × End)) → shift j (shift k o) ≡ shift (j + k) o
shift_twice j k None = refl
shift_twice j k (Some p) = let e : j + (k + p.0) ≡ j + k + p.0 = omega arith in ap (λ (n : ℕ). Some (n, p.1)) e

shift_zero : (o : Option (ℕ × End)) → shift 0 o ≡ o
shift_zero None = refl
shift_zero (Some p) = let e : 0 + p.0 ≡ p.0 = omega arith in ap (λ (n : ℕ). Some (n, p.1)) e

shift_or : (k : ℕ) (a b : Option (ℕ × End)) → shift k (option_or a b) ≡ option_or (shift k a) (shift k b)
shift_or k None b = refl
shift_or k (Some p) b = refl

module _ (g : Item → Option End) where
  at_front : (o : Option End) (a b : Option (ℕ × End)) → stop_or o (option_or a b) ≡ option_or (stop_or o a) b
  at_front (Some e) a b = refl
  at_front None a b = refl

  -- a stop of the front, or else of the back
  pub stop_joined : (xs ys : List Item) → stop_at g (xs ++ ys)
      ≡ option_or (stop_at g xs) (shift (length xs) (stop_at g ys))
  stop_joined [] ys = sym (shift_zero (stop_at g ys))
  stop_joined (x ∷ xs) ys =
      let n : 1 + length xs ≡ suc (length xs) = omega arith in
      ap (λ o. stop_or (g x) (shift 1 o)) (stop_joined xs ys)
      ∙ ap (stop_or (g x)) (shift_or 1 (stop_at g xs) (shift (length xs) (stop_at g ys))
      ∙ ap (option_or (shift 1 (stop_at g xs)))
      (shift_twice 1 (length xs) (stop_at g ys) ∙ ap (λ m. shift m (stop_at g ys)) n))
      ∙ at_front (g x) (shift 1 (stop_at g xs)) (shift (suc (length xs)) (stop_at g ys))

  module _ {X : Type 0} (f : X → List Item) where
    -- a loop over pieces
    abbrev pub StopsLater : List X → ℕ → Type 0
    StopsLater ps w = stop_at g (flat_map f ps)
        ≡ shift (length (flat_map f (take w ps))) (stop_at g (flat_map f (drop w ps)))

    pub pieces_pass : (ps : List X) (w : ℕ) (p : X) → w < length ps → p ≡ get_or ps w p → stop_at g (f p) ≡ None
        → StopsLater ps w → StopsLater ps (w + 1)
    pieces_pass ps w p h e none s =
        let rest = flat_map f (drop (w + 1) ps) in
        let size = ap length (take_on f ps w p h e) ∙ length-append (flat_map f (take w ps)) (f p) in
        s ∙ ap (λ zs. shift (length (flat_map f (take w ps))) (stop_at g zs)) (drop_on f ps w p h e)
        ∙ ap (shift (length (flat_map f (take w ps))))
        (stop_joined (f p) rest ∙ ap (λ o. option_or o (shift (length (f p)) (stop_at g rest))) none)
        ∙ shift_twice (length (flat_map f (take w ps))) (length (f p)) (stop_at g rest)
        ∙ ap (λ m. shift m (stop_at g rest)) (sym size)

    pub pieces_stop : (ps : List X) (w k : ℕ) (p : X) (v : End) → w < length ps → p ≡ get_or ps w p
        → stop_at g (f p) ≡ Some (k, v) → StopsLater ps w
        → stop_at g (flat_map f ps) ≡ Some (length (flat_map f (take w ps)) + k, v)
    pieces_stop ps w k p v h e some s =
        let rest = flat_map f (drop (w + 1) ps) in
        s ∙ ap (λ zs. shift (length (flat_map f (take w ps))) (stop_at g zs)) (drop_on f ps w p h e)
        ∙ ap (shift (length (flat_map f (take w ps))))
        (stop_joined (f p) rest ∙ ap (λ o. option_or o (shift (length (f p)) (stop_at g rest))) some)

  -- a stop is at one of the items
  pub stop_within : (xs : List Item) (n : ℕ) (v : End) → stop_at g xs ≡ Some (n, v) → n < length xs
  stop_within [] n v e = absurd (let k : None ≡ Some (n, v) = e in cc)
  stop_within (x ∷ xs) n v e = by_front (g x) (stop_at g xs) (stop_within xs) e where
    by_front : (o : Option End) (later : Option (ℕ × End)) → ((m : ℕ) (u : End) → later ≡ Some (m, u) → m < length xs)
        → stop_or o (shift 1 later) ≡ Some (n, v) → n < suc (length xs)
    by_front (Some u) later h k = let z : (0, u) ≡ (n, v) = some_same (0, u) (n, v) k in
        let z0 : 0 ≡ n = ap (λ q. q.0) z in omega arith
      where
        some_same : (a b : ℕ × End) → Some a ≡ Some b → a ≡ b
        some_same a b q = cc
    by_front None (Some q) h k = let z : (1 + q.0, q.1) ≡ (n, v) = some_same (1 + q.0, q.1) (n, v) k in
        let z0 : 1 + q.0 ≡ n = ap (λ r. r.0) z in let b = h q.0 q.1 refl in omega arith
      where
        some_same : (a b : ℕ × End) → Some a ≡ Some b → a ≡ b
        some_same a b q = cc
    by_front None None h k = absurd (let z : None ≡ Some (n, v) = k in cc)

-- a position in a piece is a cut
pub cut_here : {X A : Type 0} (f : X → List A) (ps : List X) (w k : ℕ) (p : X) → w < length ps → p ≡ get_or ps w p
    → k < length (f p) → IsCut f ps (length (flat_map f (take w ps)) + k) w k
cut_here f ps w k p h e few =
    let whole : flat_map f ps ≡ flat_map f (take w ps) ++ flat_map f (drop w ps) =
    ap (flat_map f) (sym (take-append-drop w ps)) ∙ flat_map-append f (take w ps) (drop w ps) in
    record {
      inside = record { pieces = omega arith; next = λ z. let l = ap length (first_of f ps w p h e) in omega arith };
      front = ap (take (length (flat_map f (take w ps)) + k)) whole
          ∙ take-append-add (flat_map f (take w ps)) (flat_map f (drop w ps)) k;
      back = ap (drop (length (flat_map f (take w ps)) + k)) whole
          ∙ drop-append-add (flat_map f (take w ps)) (flat_map f (drop w ps)) k;
    }
