-- Keys of columns, and the looks that they ask for.
use Rattle.std.proofs.Common.{◌≡◌, ◌<◌, ◌+◌, ◌++◌, ◌∷◌, ◌∙◌, ◌==◌, ◌&&◌, ◌||◌, ◌⊎◌, [], ℕ, zero, suc, List, Bool, true}
use Rattle.std.proofs.Common.{false, cond, refl, ap, subst, inl, inr, arith, length, take, get_or, nat_eq}
use Rattle.std.proofs.lemmas.Bool.Decides.{nat_tests}
use Rattle.std.proofs.lemmas.List.{take_more}
use Rattle.std.proofs.lemmas.List.Elements.{filter-append}
use Rattle.std.proofs.lemmas.Bool.{cases_Bool}
use Rattle.std.specs.List.{filter, list_any}
use Rattle.std.specs.Str.{bytes_eq}
use Rattle.job_names.specs.ColumnKeys.{key_of}
use Rattle.columns.specs.Layouts.{begun_by}
use Rattle.columns.specs.TableForms.{looks_or}

-- a key with places, byte by byte
pub key_same : (name key : List ℕ) (p i : ℕ) → (p == 0) ≡ false → i ≡ length name → length key ≡ length name + 2
    → (get_or key i 0 == 34) ≡ true → (get_or key (suc i) 0 == p) ≡ true
    → bytes_eq (key_of name p) key ≡ bytes_eq name (take i key)
key_same name key zero i some is long quote last = cc some
key_same [] [] (suc p) i some is long quote last = absurd (omega (arith, long))
key_same [] (a ∷ []) (suc p) i some is long quote last = absurd (omega (arith, long))
key_same [] (a ∷ b ∷ c ∷ key) (suc p) i some is long quote last = absurd (omega (arith, long))
key_same [] (a ∷ b ∷ []) (suc p) zero some is long quote last = grind (arith, nat_tests, quote, last)
key_same [] (a ∷ b ∷ []) (suc p) (suc i) some is long quote last = absurd (omega (arith, is))
key_same (n ∷ name) [] (suc p) i some is long quote last = absurd (omega (arith, long))
key_same (n ∷ name) (k ∷ key) (suc p) zero some is long quote last = absurd (omega (arith, is))
key_same (n ∷ name) (k ∷ key) (suc p) (suc i) some is long quote last =
    ap (λ b. nat_eq n k && b) (key_same name key (suc p) i some (omega (arith, is)) (omega (arith, long)) quote last)

pub key_other : (name key : List ℕ) (p i : ℕ) → (p == 0) ≡ false → i ≡ length name → length key ≡ length name + 2
    → ((get_or key i 0 == 34) ≡ false) ⊎ ((get_or key (suc i) 0 == p) ≡ false) → bytes_eq (key_of name p) key ≡ false
key_other name key zero i some is long other = cc some
key_other [] [] (suc p) i some is long other = absurd (omega (arith, long))
key_other [] (a ∷ []) (suc p) i some is long other = absurd (omega (arith, long))
key_other [] (a ∷ b ∷ c ∷ key) (suc p) i some is long other = absurd (omega (arith, long))
key_other [] (a ∷ b ∷ []) (suc p) zero some is long (inl other) = grind (arith, nat_tests, other)
key_other [] (a ∷ b ∷ []) (suc p) zero some is long (inr other) = grind (arith, nat_tests, other)
key_other [] (a ∷ b ∷ []) (suc p) (suc i) some is long other = absurd (omega (arith, is))
key_other (n ∷ name) [] (suc p) i some is long other = absurd (omega (arith, long))
key_other (n ∷ name) (k ∷ key) (suc p) zero some is long other = absurd (omega (arith, is))
key_other (n ∷ name) (k ∷ key) (suc p) (suc i) some is long other =
    ap (λ b. nat_eq n k && b) (key_other name key (suc p) i some (omega (arith, is)) (omega (arith, long)) other)
    ∙ none (nat_eq n k)
  where
    none : (b : Bool) → (b && false) ≡ false
    none true = refl
    none false = refl

-- one number of places more
pub filter_more : (test : ℕ → Bool) (xs : List ℕ) (i : ℕ) (b : Bool) → i < length xs → test (get_or xs i 0) ≡ b
    → filter test (take (i + 1) xs) ≡ filter test (take i xs) ++ cond b (get_or xs i 0 ∷ []) []
filter_more test xs i b h is =
    ap (filter test) (take_more xs i 0 h) ∙ filter-append test (take i xs) (get_or xs i 0 ∷ [])
    ∙ ap (λ l. filter test (take i xs) ++ cond l (get_or xs i 0 ∷ []) []) is

pub key_equal : (name key : List ℕ) (p : ℕ) → (p == 0) ≡ false → length key ≡ length name + 2
    → (get_or key (length name) 0 == 34) ≡ true → (get_or key (length name + 1) 0 == p) ≡ true
    → bytes_eq (key_of name p) key ≡ bytes_eq name (take (length name) key)
key_equal name key p some long quote last =
    let one : length name + 1 ≡ suc (length name) = omega arith in
    key_same name key p (length name) some refl long quote (subst (λ i. (get_or key i 0 == p) ≡ true) one last)

pub key_differs : (name key : List ℕ) (p : ℕ) → (p == 0) ≡ false → length key ≡ length name + 2
    → ((get_or key (length name) 0 == 34) ≡ false) ⊎ ((get_or key (length name + 1) 0 == p) ≡ false)
    → bytes_eq (key_of name p) key ≡ false
key_differs name key p some long other =
    let one : length name + 1 ≡ suc (length name) = omega arith in
    key_other name key p (length name) some refl long
    (subst (λ i. ((get_or key (length name) 0 == 34) ≡ false) ⊎ ((get_or key i 0 == p) ≡ false)) one other)

-- the looks at a column that keys name
pub looks_or_some : (xs : List ℕ) (b : Bool) → 0 < length xs → looks_or xs b ≡ xs
looks_or_some [] b h = absurd (omega (arith, h))
looks_or_some (x ∷ xs) b h = refl

pub one_zero : (xs : List ℕ) → length xs ≡ 1 → get_or xs 0 0 ≡ 0 → xs ≡ 0 ∷ []
one_zero [] h is = absurd (omega (arith, h))
one_zero (x ∷ []) h is = ap (λ y. y ∷ []) is
one_zero (x ∷ y ∷ xs) h is = absurd (omega (arith, h))

-- keys none of which begins with the name
pub short_key : (name key : List ℕ) → length key < length name → bytes_eq name (take (length name) key) ≡ false
short_key [] key h = absurd (omega (arith, h))
short_key (n ∷ name) [] h = refl
short_key (n ∷ name) (k ∷ key) h = rw (short_key name key (omega (arith, h))) (and_false (nat_eq n k))
  where
    and_false : (b : Bool) → (b && false) ≡ false
    and_false true = refl
    and_false false = refl

other_key : (name key : List ℕ) (p : ℕ) → bytes_eq name (take (length name) key) ≡ false
    → bytes_eq (key_of name p) key ≡ false
other_key [] key p h = cc h
other_key (n ∷ name) [] zero h = refl
other_key (n ∷ name) [] (suc p) h = refl
other_key (n ∷ name) (k ∷ key) zero h = elim (cases_Bool (nat_eq n k)) [
  | inl same ↦ rw same (other_key name key zero (rw same at h))
  | inr other ↦ rw other refl
]
other_key (n ∷ name) (k ∷ key) (suc p) h = elim (cases_Bool (nat_eq n k)) [
  | inl same ↦ rw same (other_key name key (suc p) (rw same at h))
  | inr other ↦ rw other refl
]

-- the keys that begin with a name are enough to find out whether one names it
pub begun_enough : (name : List ℕ) (p : ℕ) (keys : List (List ℕ))
    → list_any (bytes_eq (key_of name p)) (begun_by name keys) ≡ list_any (bytes_eq (key_of name p)) keys
begun_enough name p [] = refl
begun_enough name p (k ∷ keys) = elim (cases_Bool (bytes_eq name (take (length name) k))) [
  | inl begun ↦ rw begun (ap (λ b. bytes_eq (key_of name p) k || b) (begun_enough name p keys))
  | inr other ↦ rw (other, other_key name k p other) (begun_enough name p keys)
]
