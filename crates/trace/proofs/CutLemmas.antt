-- Items that stand in pieces, cut at an item.
use Rattle.std.proofs.Common.{◌≡◌, ℕ, zero, suc, ◌+◌, ◌-◌, ◌<◌, ◌≤◌, List, [], ◌∷◌, ◌++◌, length, take, drop, get_or}
use Rattle.std.proofs.Common.{set, length-append, refl, sym, ap, ◌∙◌, append_assoc, arith}
use Rattle.std.specs.List.{flat_map}
use Rattle.std.proofs.lemmas.List.{append-nil, take_more, take-append-le}
use Rattle.std.proofs.Math.Seq.{drop-cons, take-append-add, drop-append-add}
use Rattle.std.proofs.lemmas.List.Concat.{flat_map-append}
use Rattle.trace.specs.Cuts.{IsCut}

module _ {A : Type 0} where
  -- past a front whole
  pub take_past : (xs ys : List A) (n : ℕ) → length xs ≤ n → take n (xs ++ ys) ≡ xs ++ take (n - length xs) ys
  take_past xs ys n h = let e : n ≡ length xs + (n - length xs) = omega arith in
      ap (λ m. take m (xs ++ ys)) e ∙ take-append-add xs ys (n - length xs)

  pub drop_past : (xs ys : List A) (n : ℕ) → length xs ≤ n → drop n (xs ++ ys) ≡ drop (n - length xs) ys
  drop_past xs ys n h = let e : n ≡ length xs + (n - length xs) = omega arith in
      ap (λ m. drop m (xs ++ ys)) e ∙ drop-append-add xs ys (n - length xs)

  take_nothing : (xs : List A) → take 0 xs ≡ []
  take_nothing [] = refl
  take_nothing (x ∷ xs) = refl

  drop_nothing : (xs : List A) → drop 0 xs ≡ xs
  drop_nothing [] = refl
  drop_nothing (x ∷ xs) = refl

module _ {X A : Type 0} (f : X → List A) where
  pub take_on : (ps : List X) (w : ℕ) (p : X) → w < length ps → p ≡ get_or ps w p
      → flat_map f (take (w + 1) ps) ≡ flat_map f (take w ps) ++ f p
  take_on ps w p h e =
      ap (flat_map f) (take_more ps w p h) ∙ flat_map-append f (take w ps) (get_or ps w p ∷ [])
      ∙ ap (λ zs. flat_map f (take w ps) ++ zs) (append-nil (f (get_or ps w p)) ∙ ap f (sym e))

  pub drop_on : (ps : List X) (w : ℕ) (p : X) → w < length ps → p ≡ get_or ps w p
      → flat_map f (drop w ps) ≡ f p ++ flat_map f (drop (w + 1) ps)
  drop_on ps w p h e =
      let k : suc w ≡ w + 1 = omega arith in
      ap (flat_map f) (drop-cons ps w p h) ∙ (λ i. f (sym e i) ++ flat_map f (drop (k i) ps))

  -- what a walk over the pieces keeps, with this many items still to pass
  pub record Passed (ps : List X) (n w left : ℕ) : Type 0 where
    pub front : take n (flat_map f ps) ≡ flat_map f (take w ps) ++ take left (flat_map f (drop w ps))
    pub back : drop n (flat_map f ps) ≡ drop left (flat_map f (drop w ps))
    pub size : length (flat_map f ps) + left ≡ n + length (flat_map f (drop w ps))

  pub passed_none : (ps : List X) (n : ℕ) → Passed ps n 0 n
  passed_none ps n = record {
    front = sym (λ i. flat_map f (take_nothing ps i) ++ take n (flat_map f (drop_nothing ps i)));
    back = sym (ap (λ qs. drop n (flat_map f qs)) (drop_nothing ps));
    size = let e = ap (λ qs. length (flat_map f qs)) (drop_nothing ps) in omega arith;
  }

  pub passed_one : (ps : List X) (n w left : ℕ) (p : X) → w < length ps → p ≡ get_or ps w p → length (f p) ≤ left
      → Passed ps n w left → Passed ps n (w + 1) (left - length (f p))
  passed_one ps n w left p h e k s =
      let next = drop_on ps w p h e in
      let rest = flat_map f (drop (w + 1) ps) in
      let l = ap length next ∙ length-append (f p) (flat_map f (drop (w + 1) ps)) in
      let size = s.size in
      record {
        front = s.front ∙ ap (λ zs. flat_map f (take w ps) ++ take left zs) next
            ∙ ap (λ zs. flat_map f (take w ps) ++ zs) (take_past (f p) rest left k)
            ∙ sym (append_assoc (flat_map f (take w ps)) (f p) (take (left - length (f p)) rest))
            ∙ ap (λ zs. zs ++ take (left - length (f p)) rest) (sym (take_on ps w p h e));
        back = s.back ∙ ap (drop left) next ∙ drop_past (f p) rest left k;
        size = omega arith;
      }

  pub first_of : (ps : List X) (w : ℕ) (p : X) → w < length ps → p ≡ get_or ps w p
      → flat_map f (take 1 (drop w ps)) ≡ f p
  first_of ps w p h e = ap (λ qs. flat_map f (take 1 qs)) (drop-cons ps w p h)
      ∙ ap (λ qs. f (get_or ps w p) ++ flat_map f qs) (take_nothing (drop (suc w) ps)) ∙ append-nil (f (get_or ps w p))
      ∙ ap f (sym e)

  -- or after the last one
  pub cut_after : (ps : List X) (n w : ℕ) → w ≡ length ps → Passed ps n w 0 → IsCut f ps n w 0
  cut_after ps n w e s = record {
    inside = record { pieces = omega arith; next = λ z. absurd (omega arith) };
    front = s.front;
    back = s.back;
  }

  pub next_exists : (ps : List X) (w : ℕ) → 0 < length (flat_map f (take 1 (drop w ps))) → w < length ps
  next_exists [] zero h = absurd (omega arith)
  next_exists [] (suc w) h = absurd (omega arith)
  next_exists (p ∷ ps) zero h = omega arith
  next_exists (p ∷ ps) (suc w) h = let k = next_exists ps w h in omega arith

  set_on : (ps : List X) (w : ℕ) (q : X) → w < length ps → set (take (suc w) ps) w q ≡ take w ps ++ q ∷ []
  set_on [] w q h = absurd (omega arith)
  set_on (p ∷ ps) zero q h = ap (λ qs. q ∷ qs) (take_nothing ps) ∙ sym (ap (λ qs. qs ++ q ∷ []) (take_nothing (p ∷ ps)))
  set_on (p ∷ ps) (suc w) q h = ap (λ qs. p ∷ qs) (set_on ps w q (omega arith))

  -- whole pieces, and some items of the next one
  pub kept_front : (ps : List X) (w k : ℕ) (p q : X) → w < length ps → p ≡ get_or ps w p → k ≤ length (f p)
      → f q ≡ take k (f p)
      → flat_map f (set (take (w + 1) ps) w q) ≡ flat_map f (take w ps) ++ take k (flat_map f (drop w ps))
  kept_front ps w k p q h e few is =
      let n : w + 1 ≡ suc w = omega arith in
      ap (λ m. flat_map f (set (take m ps) w q)) n ∙ ap (flat_map f) (set_on ps w q h)
      ∙ flat_map-append f (take w ps) (q ∷ [])
      ∙ ap (λ zs. flat_map f (take w ps) ++ zs)
      (append-nil (f q) ∙ is ∙ sym (take-append-le k (f p) (flat_map f (drop (w + 1) ps)) few)
      ∙ ap (take k) (sym (drop_on ps w p h e)))
