-- What one turn of the loop in `cut` keeps, and what the tokens of a text have in common.
use Rattle.std.proofs.Common.{◌≡◌, ℕ, zero, suc, ◌+◌, ◌-◌, ◌<◌, ◌≤◌, Bool, true, false, List, [], ◌∷◌, ◌++◌, length}
use Rattle.std.proofs.Common.{take, drop, slice_index, sym, refl, ap, ◌∙◌, subst, arith, All, get_or, ⊎_elim, inl, inr}
use Rattle.std.proofs.Common.{length-drop, length-take, ◌==◌, ◌||◌, Result, Ok, Err, OnErr}
use Rattle.std.specs.List.{list_all}
use Rattle.std.proofs.str.Laws.{order}
use Rattle.std.proofs.lemmas.Bool.{eqb-true}
use Rattle.std.proofs.lemmas.List.{take_rest, get_or-drop, get_or-take}
use Rattle.std.proofs.lemmas.List.Sums.{AllPass-from_list_all}
use Rattle.std.proofs.lemmas.List.Folds.{list_all_more}
use Rattle.stream_tokens.specs.declared.token.TokenKind.{TokenKind}
use Rattle.stream_tokens.specs.declared.token.TokenKind.TheVariants.{Bad}
use Rattle.stream_tokens.specs.declared.token.Token.{Token}
use Rattle.stream_tokens.specs.Bytes.{is_blank}
use Rattle.stream_tokens.specs.Forms.{HasForm}
use Rattle.stream_tokens.specs.Tokens.{IsLongest, IsFirstToken, AreBlank, CutBetween, StandInOrder}
use Rattle.stream_tokens.proofs.Runs.{and_true}
use Rattle.stream_tokens.proofs.Fronts.{kind_at, kind_is}
use Rattle.stream_tokens.proofs.Longest.{formed_some}

-- no bytes are blank
pub none_blank : (text : List ℕ) (a : ℕ) → AreBlank text a a
none_blank text a = ap (λ n. list_all is_blank (take n (drop a text))) (let e : a - a ≡ 0 = omega arith in e)

-- one more blank
pub blank_more : (text : List ℕ) (a b : ℕ) → a ≤ b → b < length text → AreBlank text a b
    → is_blank (slice_index text b) ≡ true → AreBlank text a (b + 1)
blank_more text a b h less all here =
    let one : b + 1 - a ≡ b - a + 1 = omega arith in
    let same : a + (b - a) ≡ b = omega arith in
    let byte : is_blank (get_or (drop a text) (b - a) 0) ≡ true =
    ap is_blank (get_or-drop a text (b - a) 0 ∙ ap (slice_index text) same) ∙ here in
    ap (λ n. list_all is_blank (take n (drop a text))) one
    ∙ list_all_more is_blank (drop a text) (b - a) 0 (let e = length-drop a text in omega (arith, e))
    ∙ and_true _ _ all byte

pub cut_blank : (text : List ℕ) (a : ℕ) (ts : List Token) (b : ℕ) → b < length text → CutBetween text a ts b
    → is_blank (slice_index text b) ≡ true → CutBetween text a ts (b + 1)
cut_blank text a [] b less h here = (omega (arith, h.0), blank_more text a b h.0 less h.1 here)
cut_blank text a (t ∷ ts) b less h here = (h.0, h.1, h.2, h.3, cut_blank text t.to ts b less h.4 here)

pub cut_push : (text : List ℕ) (a : ℕ) (ts : List Token) (b : ℕ) (t : Token) → CutBetween text a ts b → t.from ≡ b
    → t.from < t.to → IsFirstToken (drop t.from text) t.kind (t.to - t.from) → CutBetween text a (ts ++ t ∷ []) t.to
cut_push text a [] b t h is some first =
    (omega (arith, h.0), subst (AreBlank text a) (sym is) h.1, some, first, (omega arith, none_blank text t.to))
cut_push text a (u ∷ ts) b t h is some first = (h.0, h.1, h.2, h.3, cut_push text u.to ts b t h.4 is some first)

-- a token has a byte, and ends within its text
longest_some : (text : List ℕ) (kind : TokenKind) (n : ℕ) → IsLongest text kind n → 0 < n
longest_some text kind zero f = absurd (formed_some kind f.form)
longest_some text kind (suc n) f = omega arith

pub first_some : (text : List ℕ) (kind : TokenKind) (n : ℕ) → IsFirstToken text kind n → (0 < n) × (n ≤ length text)
first_some text kind n (inl f) = (longest_some text kind n f, f.within)
first_some text kind n (inr f) = (omega (arith, f.single), omega (arith, f.single, f.within))

-- no token begins with a blank
space_kind : (w : List ℕ) → kind_at (32 ∷ w) ≡ Bad
space_kind [] = refl
space_kind (b ∷ w) = refl

tab_kind : (w : List ℕ) → kind_at (9 ∷ w) ≡ Bad
tab_kind [] = refl
tab_kind (b ∷ w) = refl

blank_kind : (a : ℕ) (w : List ℕ) → is_blank a ≡ true → kind_at (a ∷ w) ≡ Bad
blank_kind a w h = blank_is (a == 32) (a == 9) refl refl h
  where
    blank_is : (x y : Bool) → (a == 32) ≡ x → (a == 9) ≡ y → (x || y) ≡ true → kind_at (a ∷ w) ≡ Bad
    blank_is true y e f g = ap (λ b. kind_at (b ∷ w)) (eqb-true a 32 e) ∙ space_kind w
    blank_is false true e f g = ap (λ b. kind_at (b ∷ w)) (eqb-true a 9 f) ∙ tab_kind w
    blank_is false false e f g = absurd (let k : false ≡ true = g in cc)

formed_solid : (kind : TokenKind) (w : List ℕ) → HasForm kind w → is_blank (slice_index w 0) ≡ true → ⊥
formed_solid kind [] h blank = formed_some kind h
formed_solid kind (a ∷ w) h blank = subst (λ k. HasForm k (a ∷ w)) (sym (kind_is kind (a ∷ w) h) ∙ blank_kind a w blank)
    h

longest_solid : (text : List ℕ) (kind : TokenKind) (n : ℕ) → IsLongest text kind n
    → is_blank (slice_index text 0) ≡ true → ⊥
longest_solid text kind n f blank = formed_solid kind (take n text) f.form
    (ap is_blank (get_or-take n text 0 0 (longest_some text kind n f)) ∙ blank)

first_solid : (text : List ℕ) (kind : TokenKind) (n : ℕ) → IsFirstToken text kind n
    → is_blank (slice_index text 0) ≡ true → ⊥
first_solid text kind n (inl f) blank = longest_solid text kind n f blank
first_solid text kind n (inr f) blank = let e : false ≡ true = sym f.solid ∙ blank in cc

-- a text has one token at its front
pub first_once : (text : List ℕ) (k j : TokenKind) (n m : ℕ) → IsFirstToken text k n → IsFirstToken text j m
    → (k ≡ j) × (n ≡ m)
first_once text k j n m (inl f) (inl g) =
    let size : n ≡ m = omega (arith, g.longest k n f.within f.form, f.longest j m g.within g.form) in
    (sym (kind_is k (take n text) f.form) ∙ ap (λ i. kind_at (take i text)) size ∙ kind_is j (take m text) g.form, size)
first_once text k j n m (inl f) (inr g) = absurd (g.formless k n f.within f.form)
first_once text k j n m (inr f) (inl g) = absurd (f.formless j m g.within g.form)
first_once text k j n m (inr f) (inr g) = (f.bad ∙ sym g.bad, f.single ∙ sym g.single)

-- a byte among blanks is blank
blank_at : (text : List ℕ) (a b i : ℕ) → AreBlank text a b → a ≤ i → i < b → i < length text
    → is_blank (slice_index text i) ≡ true
blank_at text a b i all low high less =
    let size = length-drop a text in
    let range = length-take (b - a) (drop a text) in
    let same : a + (i - a) ≡ i = omega arith in
    ap (λ k. is_blank (slice_index text k)) (sym same)
    ∙ ap is_blank (sym (get_or-drop a text (i - a) 0)
    ∙ sym (get_or-take (b - a) (drop a text) (i - a) 0 (omega arith)))
    ∙ AllPass-from_list_all is_blank (take (b - a) (drop a text)) all (i - a) 0 (omega (arith, size, range))

-- where a token begins, a byte that isn't blank stands
begins_solid : (text : List ℕ) (t : Token) → IsFirstToken (drop t.from text) t.kind (t.to - t.from)
    → (t.from < length text) × (t.to ≤ length text) × (is_blank (slice_index text t.from) ≡ true → ⊥)
begins_solid text t f =
    let some = first_some (drop t.from text) t.kind (t.to - t.from) f in
    let size = length-drop t.from text in
    let here : slice_index (drop t.from text) 0 ≡ slice_index text t.from =
    get_or-drop t.from text 0 0 ∙ ap (slice_index text) (let e : t.from + 0 ≡ t.from = omega arith in e) in (
      omega (arith, some.0, some.1, size),
      omega (arith, some.0, some.1, size),
      λ blank. first_solid (drop t.from text) t.kind (t.to - t.from) f (ap is_blank here ∙ blank),
    )

-- a token of one list begins no later than a token of another one
no_later : (text : List ℕ) (a : ℕ) (t : Token) (b : ℕ) → a ≤ t.from
    → IsFirstToken (drop t.from text) t.kind (t.to - t.from) → AreBlank text a b → t.from < b → ⊥
no_later text a t b low f blank high =
    let s = begins_solid text t f in
    s.2 (blank_at text a b t.from blank low high s.0)

cut_le : (text : List ℕ) (a : ℕ) (ts : List Token) (b : ℕ) → CutBetween text a ts b → a ≤ b
cut_le text a [] b h = h.0
cut_le text a (t ∷ ts) b h = omega (arith, h.0, h.2, cut_le text t.to ts b h.4)

same_from : (text : List ℕ) (a : ℕ) (t u : Token) → a ≤ t.from → a ≤ u.from → AreBlank text a t.from
    → AreBlank text a u.from → IsFirstToken (drop t.from text) t.kind (t.to - t.from)
    → IsFirstToken (drop u.from text) u.kind (u.to - u.from) → t.from ≡ u.from
same_from text a t u p q x y f g =
    let one : u.from ≤ t.from = not_less (λ less. no_later text a t u.from p f y less) in
    let two : t.from ≤ u.from = not_less (λ less. no_later text a u t.from q g x less) in
    omega arith
  where
    not_less : {m n : ℕ} → (m < n → ⊥) → n ≤ m
    not_less {m} {n} h = ⊎_elim (λ (less : m < n). absurd (h less)) (λ (more : n ≤ m). more) (order m n)

same_token : (text : List ℕ) (t u : Token) → t.from < t.to → u.from < u.to → t.from ≡ u.from
    → IsFirstToken (drop t.from text) t.kind (t.to - t.from) → IsFirstToken (drop u.from text) u.kind (u.to - u.from)
    → t ≡ u
same_token text t u p q from f g =
    let h = first_once (drop u.from text) t.kind u.kind (t.to - t.from) (u.to - u.from)
    (subst (λ i. IsFirstToken (drop i text) t.kind (t.to - t.from)) from f) g in
    let to : t.to ≡ u.to = omega (arith, h.1) in
    λ i. record { kind = h.0 i; from = from i; to = to i }

pub same_tokens : (text : List ℕ) (a : ℕ) (ts us : List Token) (b : ℕ) → CutBetween text a ts b → CutBetween text a us b
    → ts ≡ us
same_tokens text a [] [] b h k = refl
same_tokens text a [] (u ∷ us) b h k = absurd
    (no_later text a u b k.0 k.3 h.1 (omega (arith, k.2, cut_le text u.to us b k.4)))
same_tokens text a (t ∷ ts) [] b h k = absurd
    (no_later text a t b h.0 h.3 k.1 (omega (arith, h.2, cut_le text t.to ts b h.4)))
same_tokens text a (t ∷ ts) (u ∷ us) b h k =
    let same = same_token text t u h.2 k.2 (same_from text a t u h.0 k.0 h.1 k.1 h.3 k.3) h.3 k.3 in
    let more = same_tokens text u.to ts us b (subst (λ (v : Token). CutBetween text v.to ts b) same h.4) k.4 in
    λ i. same i ∷ more i

-- tokens that cut a text stand in order
pub cut_in_order : (text : List ℕ) (a : ℕ) (ts : List Token) (b : ℕ) → CutBetween text a ts b → StandInOrder a ts b
cut_in_order text a [] b h = h.0
cut_in_order text a (t ∷ ts) b h = (h.0, h.2, cut_in_order text t.to ts b h.4)

order_le : (a : ℕ) (ts : List Token) (b : ℕ) → StandInOrder a ts b → a ≤ b
order_le a [] b h = h
order_le a (t ∷ ts) b h = omega (arith, h.0, h.1, order_le t.to ts b h.2)

pub order_in_range : (a : ℕ) (ts : List Token) (b : ℕ) → StandInOrder a ts b
    → All (λ (t : Token). (t.from < t.to) × (t.to ≤ b)) ts
order_in_range a [] b h k d less = absurd (omega arith)
order_in_range a (t ∷ ts) b h zero d less = (h.1, order_le t.to ts b h.2)
order_in_range a (t ∷ ts) b h (suc k) d less = order_in_range t.to ts b h.2 k d (omega arith)

-- a token that was pushed at the place that was reached
pub cut_next : (text : List ℕ) (ts us : List Token) (b : ℕ) (kind : TokenKind) (n : ℕ) → CutBetween text 0 ts b
    → IsFirstToken (take (length text - b) (drop b text)) kind n
    → us ≡ ts ++ record { kind = kind; from = b; to = b + n } ∷ [] → CutBetween text 0 us (b + n)
cut_next text ts us b kind n cuts first pushed =
    let t : Token = record { kind = kind; from = b; to = b + n } in
    let size : n ≡ b + n - b = omega arith in
    let here : IsFirstToken (drop b text) kind n = subst (λ w. IsFirstToken w kind n) (take_rest text b) first in
    let some = first_some (drop b text) kind n here in
    subst (λ us. CutBetween text 0 us (b + n)) (sym pushed)
    (cut_push text 0 ts b t cuts refl (omega (arith, some.0)) (subst (IsFirstToken (drop b text) kind) size here))

pub next_within : (text : List ℕ) (b : ℕ) (kind : TokenKind) (n : ℕ) → b ≤ length text
    → IsFirstToken (take (length text - b) (drop b text)) kind n → b + n ≤ length text
next_within text b kind n low first =
    let some = first_some (drop b text) kind n (subst (λ w. IsFirstToken w kind n) (take_rest text b) first) in
    let size = length-drop b text in
    omega (arith, some.1, size)

-- a fact that needs no fault
pub OnErr-all : {A E : Type 0} (P : Type 0) (r : Result A E) → P → OnErr r P
OnErr-all P (Ok x) h = tt
OnErr-all P (Err fault) h = h
