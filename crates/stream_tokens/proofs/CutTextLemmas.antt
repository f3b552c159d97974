-- A part of a text and its tokens.
use Rattle.std.proofs.Common.{◌≡◌, ℕ, zero, suc, ◌+◌, ◌-◌, ◌<◌, ◌≤◌, List, [], ◌∷◌, length, take, drop, get_or, sym}
use Rattle.std.proofs.Common.{refl, ap, ◌∙◌, subst, arith, inl, inr, length-drop, length-take}
use Rattle.std.specs.Prelude.{slice_range}
use Rattle.std.specs.List.{list_all}
use Rattle.std.proofs.lemmas.List.{take-take, drop-drop, get_or-take, get_or-drop}
use Rattle.stream_tokens.specs.declared.token.TokenKind.{TokenKind}
use Rattle.stream_tokens.specs.declared.token.Token.{Token}
use Rattle.stream_tokens.specs.Bytes.{is_blank}
use Rattle.stream_tokens.specs.Forms.{HasForm}
use Rattle.stream_tokens.specs.Tokens.{IsFirstToken, CutBetween, AreTokensOf, token_text}
use Rattle.stream_tokens.specs.CutTexts.{TokenizedText, shifted, column, part, between}
use Rattle.stream_tokens.specs.CutFields.{tokenized, IsCut}
use Rattle.stream_tokens.specs.declared.cut_text.CutText.TheInside.{Inside}

-- the first token of a text is the first token of each front that holds it
shorter : (text : List ℕ) (kind : TokenKind) (n m : ℕ) → n ≤ m → IsFirstToken text kind n
    → IsFirstToken (take m text) kind n
shorter text kind n m h (inl f) = inl (record {
  within = let e = length-take m text in let w = f.within in omega arith;
  form = subst (HasForm kind) (sym (take-take n m text h)) f.form;
  longest = λ other j lt form.
      let e = length-take m text in
      let low : j ≤ m = omega arith in
      let less : j ≤ length text = omega arith in
      f.longest other j less (subst (HasForm other) (take-take j m text low) form);
})
shorter text kind n m h (inr f) = inr (record {
  within = let e = length-take m text in let w = f.within in let s = f.single in omega arith;
  solid = let s = f.single in let lt : 0 < m = omega arith in ap is_blank (get_or-take m text 0 0 lt) ∙ f.solid;
  formless = λ other j lt form.
      let e = length-take m text in
      let low : j ≤ m = omega arith in
      let less : j ≤ length text = omega arith in
      f.formless other j less (subst (HasForm other) (take-take j m text low) form);
  bad = f.bad;
  single = f.single;
})

take_none : (k : ℕ) → take {A = ℕ} k [] ≡ []
take_none zero = refl
take_none (suc k) = refl

drop_take : (n m : ℕ) (xs : List ℕ) → n ≤ m → drop n (take m xs) ≡ take (m - n) (drop n xs)
drop_take zero m xs h = ap (λ k. take k xs) (let e : m ≡ m - 0 = omega arith in e)
drop_take (suc n) zero xs h = absurd (omega arith)
drop_take (suc n) (suc m) [] h = sym (take_none (suc m - suc n))
drop_take (suc n) (suc m) (x ∷ xs) h = drop_take n m xs (omega arith)
    ∙ ap (λ k. take k (drop n xs)) (let e : m - n ≡ suc m - suc n = omega arith in e)

-- what is left of a part from a place on
rest_of : (text : List ℕ) (a b x : ℕ) → a ≤ x → x ≤ b → drop (x - a) (slice_range text a b) ≡ take (b - x) (drop x text)
rest_of text a b x h k =
    let e : b - a - (x - a) ≡ b - x = omega arith in
    let f : a + (x - a) ≡ x = omega arith in
    drop_take (x - a) (b - a) (drop a text) (omega arith) ∙ ap (λ n. take n (drop (x - a) (drop a text))) e
    ∙ ap (take (b - x)) (drop-drop (x - a) a text ∙ ap (λ n. drop n text) f)

-- a part of a part
pub part_of : (text : List ℕ) (a b x y : ℕ) → a ≤ x → x ≤ y → y ≤ b
    → slice_range (slice_range text a b) (x - a) (y - a) ≡ slice_range text x y
part_of text a b x y h k l =
    let e : y - a - (x - a) ≡ y - x = omega arith in
    ap (take (y - a - (x - a))) (rest_of text a b x h (omega arith))
    ∙ take-take (y - a - (x - a)) (b - x) (drop x text) (omega arith) ∙ ap (λ n. take n (drop x text)) e

pub cut_bound : (text : List ℕ) (a : ℕ) (ts : List Token) (b : ℕ) → CutBetween text a ts b → a ≤ b
cut_bound text a [] b c = c.0
cut_bound text a (t ∷ ts) b c = let k = cut_bound text t.to ts b c.4 in let l = c.0 in let m = c.2 in omega arith

-- the tokens of a part, counted from its beginning
from_place : (text : List ℕ) (a c : ℕ) (ts : List Token) (b : ℕ) → a ≤ c → CutBetween text c ts b
    → CutBetween (slice_range text a b) (c - a) (shifted a ts) (b - a)
from_place text a c [] b h k = (
  let l = k.0 in omega arith,
  ap (list_all is_blank) (part_of text a b c b h k.0 (omega arith)) ∙ k.1,
)
from_place text a c (t ∷ ts) b h k =
    let low = k.0 in
    let lt = k.2 in
    let end = cut_bound text t.to ts b k.4 in
    let e : t.to - a - (t.from - a) ≡ t.to - t.from = omega arith in
    let first = shorter (drop t.from text) t.kind (t.to - t.from) (b - t.from) (omega arith) k.3 in
    let there : IsFirstToken (drop (t.from - a) (slice_range text a b)) t.kind (t.to - t.from) =
    subst (λ v. IsFirstToken v t.kind (t.to - t.from)) (sym (rest_of text a b t.from (omega arith) (omega arith)))
    first in (
      omega arith,
      ap (list_all is_blank) (part_of text a b c t.from h low (omega arith)) ∙ k.1,
      omega arith,
      subst (IsFirstToken (drop (t.from - a) (slice_range text a b)) t.kind) (sym e) there,
      from_place text a t.to ts b (omega arith) k.4,
    )

pub length_part : (text : List ℕ) (a b : ℕ) → b ≤ length text → length (slice_range text a b) ≡ b - a
length_part text a b h = let e = length-take (b - a) (drop a text) in let f = length-drop a text in omega arith

pub part_tokens : (text : List ℕ) (a b : ℕ) (ts : List Token) → b ≤ length text → CutBetween text a ts b
    → AreTokensOf (shifted a ts) (slice_range text a b)
part_tokens text a b ts h k =
    let zero_ : a - a ≡ 0 = omega arith in
    subst (CutBetween (slice_range text a b) 0 (shifted a ts)) (sym (length_part text a b h))
    (subst (λ c. CutBetween (slice_range text a b) c (shifted a ts) (b - a)) zero_
    (from_place text a a ts b (omega arith) k))

-- the tokens before and after one of them
pub after_token : (text : List ℕ) (a b : ℕ) (ts : List Token) (i : ℕ) (d : Token) → i < length ts
    → CutBetween text a ts b → CutBetween text (get_or ts i d).to (drop (i + 1) ts) b
after_token text a b [] i d h k = absurd (omega arith)
after_token text a b (t ∷ ts) zero d h k = k.4
after_token text a b (t ∷ ts) (suc i) d h k = let e : suc (i + 1) ≡ suc i + 1 = omega arith in
    subst (λ n. CutBetween text (get_or ts i d).to (drop n (t ∷ ts)) b) e
    (after_token text t.to b ts i d (omega arith) k.4)

pub before_token : (text : List ℕ) (a b : ℕ) (ts : List Token) (i : ℕ) (d : Token) → i < length ts
    → CutBetween text a ts b → CutBetween text a (take i ts) (get_or ts i d).from
before_token text a b [] i d h k = absurd (omega arith)
before_token text a b (t ∷ ts) zero d h k = (k.0, k.1)
before_token text a b (t ∷ ts) (suc i) d h k = (k.0, k.1, k.2, k.3, before_token text t.to b ts i d (omega arith) k.4)

pub token_bound : (text : List ℕ) (a b : ℕ) (ts : List Token) (i : ℕ) (d : Token) → i < length ts
    → CutBetween text a ts b → (a ≤ (get_or ts i d).from) × ((get_or ts i d).to ≤ b)
    × ((get_or ts i d).from < (get_or ts i d).to)
token_bound text a b [] i d h k = absurd (omega arith)
token_bound text a b (t ∷ ts) zero d h k = (k.0, cut_bound text t.to ts b k.4, k.2)
token_bound text a b (t ∷ ts) (suc i) d h k = let r = token_bound text t.to b ts i d (omega arith) k.4 in let l = k.0 in
    let m = k.2 in let n = r.0 in (omega arith, r.1, r.2)

pub part_between : (text : List ℕ) (a b : ℕ) (ts : List Token) (i j : ℕ) (d : Token) → i < j → j < length ts
    → CutBetween text a ts b → CutBetween text (get_or ts i d).to (slice_range ts (i + 1) j) (get_or ts j d).from
part_between text a b ts i j d lt h k =
    let rest = after_token text a b ts i d (omega arith) k in
    let less : j - (i + 1) < length (drop (i + 1) ts) = omega (arith, length-drop (i + 1) ts) in
    let same : (i + 1) + (j - (i + 1)) ≡ j = omega arith in
    let there : get_or (drop (i + 1) ts) (j - (i + 1)) d ≡ get_or ts j d =
    get_or-drop (i + 1) ts (j - (i + 1)) d ∙ ap (λ n. get_or ts n d) same in
    subst (λ t. CutBetween text (get_or ts i d).to (slice_range ts (i + 1) j) t.from) there
    (before_token text (get_or ts i d).to b (drop (i + 1) ts) (j - (i + 1)) d less rest)

-- columns count from the part's beginning
pub column_at : (text : List ℕ) (a : ℕ) (ts : List Token) (i : ℕ) (d : Token) → i < length ts
    → column text (shifted a ts) i ≡ suc ((get_or ts i d).from - a)
column_at text a [] i d h = absurd (omega arith)
column_at text a (t ∷ ts) zero d h = refl
column_at text a (t ∷ ts) (suc i) d h = column_at text a ts i d (omega arith)

pub column_past : (text : List ℕ) (a : ℕ) (ts : List Token) (i : ℕ) → length ts ≤ i
    → column text (shifted a ts) i ≡ suc (length text)
column_past text a [] i h = refl
column_past text a (t ∷ ts) zero h = absurd (omega arith)
column_past text a (t ∷ ts) (suc i) h = column_past text a ts i (omega arith)

-- positions counted from the first byte stay
pub shifted_none : (ts : List Token) → shifted 0 ts ≡ ts
shifted_none [] = refl
shifted_none (t ∷ ts) = let e : t.from - 0 ≡ t.from = omega arith in let f : t.to - 0 ≡ t.to = omega arith in
    rw (shifted_none ts) (rw e (rw f refl))

pub length_shifted : (a : ℕ) (ts : List Token) → length (shifted a ts) ≡ length ts
length_shifted a [] = refl
length_shifted a (t ∷ ts) = ap suc (length_shifted a ts)

-- a token with its positions counted from position a
abbrev pub moved : ℕ → Token → Token
moved a t = record { kind = t.kind; from = t.from - a; to = t.to - a }

pub token_at : (a : ℕ) (ts : List Token) (i : ℕ) (d : Token) → i < length ts
    → get_or (shifted a ts) i d ≡ moved a (get_or ts i d)
token_at a [] i d h = absurd (omega arith)
token_at a (t ∷ ts) zero d h = refl
token_at a (t ∷ ts) (suc i) d h = token_at a ts i d (omega arith)

shifted_twice : (a x : ℕ) (ts : List Token) → a ≤ x → shifted (x - a) (shifted a ts) ≡ shifted x ts
shifted_twice a x [] h = refl
shifted_twice a x (t ∷ ts) h =
    let e : t.from - a - (x - a) ≡ t.from - x = omega arith in
    let f : t.to - a - (x - a) ≡ t.to - x = omega arith in
    rw (shifted_twice a x ts h) (rw e (rw f refl))

shifted_drop : (a i : ℕ) (ts : List Token) → drop i (shifted a ts) ≡ shifted a (drop i ts)
shifted_drop a zero ts = refl
shifted_drop a (suc i) [] = refl
shifted_drop a (suc i) (t ∷ ts) = shifted_drop a i ts

shifted_take : (a i : ℕ) (ts : List Token) → take i (shifted a ts) ≡ shifted a (take i ts)
shifted_take a zero ts = refl
shifted_take a (suc i) [] = refl
shifted_take a (suc i) (t ∷ ts) = ap (λ us. moved a t ∷ us) (shifted_take a i ts)

-- the tokens of a part of a part
pub shifted_part : (a x : ℕ) (ts : List Token) (i j : ℕ) → a ≤ x
    → shifted (x - a) (slice_range (shifted a ts) i j) ≡ shifted x (slice_range ts i j)
shifted_part a x ts i j h =
    ap (shifted (x - a)) (ap (take (j - i)) (shifted_drop a i ts) ∙ shifted_take a (j - i) (drop i ts))
    ∙ shifted_twice a x (slice_range ts i j) h

-- fields and value have equally many tokens
pub same_length : (c : Inside) (t : TokenizedText) → tokenized c ≡ t → length c.tokens.now ≡ length t.tokens
same_length c t h = sym (length_shifted c.from c.tokens.now) ∙ ap (λ (t : TokenizedText). length t.tokens) h

-- the bytes of a token
pub word_at : (c : Inside) (t : TokenizedText) (i : ℕ) (d : Token) → IsCut c → tokenized c ≡ t → i < length c.tokens.now
    → slice_range c.text.now (get_or c.tokens.now i d).from (get_or c.tokens.now i d).to
    ≡ token_text t.bytes (get_or t.tokens i d)
word_at c t i d k h lt =
    let bound = token_bound c.text.now c.from c.to c.tokens.now i d lt k.tokens in
    let low = bound.0 in
    let high = bound.1 in
    let some = bound.2 in
    let there = token_at c.from c.tokens.now i d lt in
    sym (part_of c.text.now c.from c.to (get_or c.tokens.now i d).from (get_or c.tokens.now i d).to low (omega arith)
    high)
    ∙ ap (token_text (slice_range c.text.now c.from c.to)) (sym there)
    ∙ ap (λ (t : TokenizedText). token_text t.bytes (get_or t.tokens i d)) h

pub kind_at : (c : Inside) (t : TokenizedText) (i : ℕ) (d : Token) → tokenized c ≡ t → i < length c.tokens.now
    → (get_or c.tokens.now i d).kind ≡ (get_or t.tokens i d).kind
kind_at c t i d h lt =
    ap (λ (u : Token). u.kind) (sym (token_at c.from c.tokens.now i d lt))
    ∙ ap (λ (t : TokenizedText). (get_or t.tokens i d).kind) h

-- the fields of the part between two tokens
pub part_is_cut : (c : Inside) (i j : ℕ) (o u : Token) (d : Token) → IsCut c → i < j → j < length c.tokens.now
    → o ≡ get_or c.tokens.now i d → u ≡ get_or c.tokens.now j d
    → (u.from ≤ length c.text.now) × (o.to ≤ u.from)
    × CutBetween c.text.now o.to (slice_range c.tokens.now (i + 1) j) u.from
part_is_cut c i j o u d k lt less is was =
    let part = part_between c.text.now c.from c.to c.tokens.now i j d lt less k.tokens in
    let bound = token_bound c.text.now c.from c.to c.tokens.now j d less k.tokens in
    let high = bound.1 in
    let some = bound.2 in
    let within = k.within in
    let here : (get_or c.tokens.now j d).from ≤ length c.text.now = omega arith in
    rw is (rw was (
      here,
      cut_bound c.text.now (get_or c.tokens.now i d).to (slice_range c.tokens.now (i + 1) j)
          (get_or c.tokens.now j d).from part,
      part,
    ))

pub part_stands : (c : Inside) (t : TokenizedText) (i j : ℕ) (o u : Token) (us : List Token) (d : Token) → IsCut c
    → tokenized c ≡ t → i < j → j < length c.tokens.now → o ≡ get_or c.tokens.now i d → u ≡ get_or c.tokens.now j d
    → us ≡ slice_range c.tokens.now (i + 1) j
    → record { bytes = slice_range c.text.now o.to u.from; tokens = shifted o.to us }
    ≡ between t (get_or t.tokens i d) (get_or t.tokens j d) i j
part_stands c t i j o u us d k h lt less is was are =
    let first = token_bound c.text.now c.from c.to c.tokens.now i d (omega arith) k.tokens in
    let last = token_bound c.text.now c.from c.to c.tokens.now j d less k.tokens in
    let cut = part_is_cut c i j o u d k lt less is was in
    let to_is : o.to ≡ (get_or c.tokens.now i d).to = ap (λ (t : Token). t.to) is in
    let from_is : u.from ≡ (get_or c.tokens.now j d).from = ap (λ (t : Token). t.from) was in
    let low = first.0 in
    let some = first.2 in
    let order = cut.1 in
    let end = last.1 in
    let solid = last.2 in
    let a : c.from ≤ o.to = omega arith in
    let b : u.from ≤ c.to = omega arith in
    let there : TokenizedText = record {
      bytes =
          slice_range (slice_range c.text.now c.from c.to) (o.to - c.from) (u.from - c.from);
      tokens = shifted (o.to - c.from) (slice_range (shifted c.from c.tokens.now) (i + 1) j);
    } in
    let bytes = part_of c.text.now c.from c.to o.to u.from a order b in
    let tokens = shifted_part c.from o.to c.tokens.now (i + 1) j a in
    let here : record { bytes = slice_range c.text.now o.to u.from; tokens = shifted o.to us } ≡ there =
    rw are (rw bytes (rw tokens refl)) in
    let opened : o.to - c.from ≡ (get_or (tokenized c).tokens i d).to =
    ap (λ n. n - c.from) to_is ∙ ap (λ (t : Token). t.to) (sym (token_at c.from c.tokens.now i d (omega arith))) in
    let closed : u.from - c.from ≡ (get_or (tokenized c).tokens j d).from =
    ap (λ n. n - c.from) from_is ∙ ap (λ (t : Token). t.from) (sym (token_at c.from c.tokens.now j d less)) in
    here ∙ ap (λ n. part (tokenized c) n (u.from - c.from) (i + 1) j) opened
    ∙ ap (λ n. part (tokenized c) (get_or (tokenized c).tokens i d).to n (i + 1) j) closed
    ∙ ap (λ t. between t (get_or t.tokens i d) (get_or t.tokens j d) i j) h
