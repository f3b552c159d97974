-- The reader of calls gives the parts that were written, and no others.
use Rattle.std.proofs.Common.{◌≡◌, ℕ, zero, suc, List, [], ◌∷◌, ◌++◌, Option, Some, None, refl, sym, ap, subst, ◌∙◌}
use Rattle.std.proofs.Common.{append_assoc, append-nil}
use Rattle.lambda_expr.specs.Words.{Word, sign}
use Rattle.stream_tokens.specs.declared.symbol.Symbol.TheVariants as symbol
use Rattle.job_language.specs.declared.word.Bracket.{Bracket}
use Rattle.job_language.specs.declared.word.Bracket.TheVariants as bracket
use Rattle.job_language.specs.Calls.{bracket_of, nest, nested, nests, IsPart, AreParts, parts_words}
use Rattle.job_language.specs.Splitting.{State, inside, closed, with_last, goes, read_by, read, reads, start}

pub reads_append : (s : State) (a b : List Word) → reads s (a ++ b) ≡ reads (reads s a) b
reads_append s [] b = refl
reads_append s (w ∷ a) b = reads_append (read s w) a b

pub closed_stays : (xs : List (List Word)) (ws : List Word) → reads (closed xs) ws ≡ closed xs
closed_stays xs [] = refl
closed_stays xs (w ∷ ws) = closed_stays xs ws

nests_none : (ws : List Word) → nests None ws ≡ None
nests_none [] = refl
nests_none (w ∷ ws) = nests_none ws

-- words whose parentheses pair up are taken into the part
takes_on : (a : List Word) (w : Word) (done : List (List Word)) (cur : List Word) (e : ℕ) (b : Bracket) (o : Option ℕ)
    → ((d : ℕ) → nests (Some d) a ≡ Some e
    → reads (inside done (cur ++ w ∷ []) d) a ≡ inside done ((cur ++ w ∷ []) ++ a) e) → nests o a ≡ Some e
    → reads (goes done cur w b o) a ≡ inside done (cur ++ w ∷ a) e
takes_on a w done cur e b None again h = let gone = nests_none a in absurd cc
takes_on a w done cur e b (Some d) again h = again d h ∙ ap (λ v. inside done v e) (append_assoc cur (w ∷ []) a)

pub takes : (a : List Word) (done : List (List Word)) (cur : List Word) (d e : ℕ) → nests (Some d) a ≡ Some e
    → reads (inside done cur d) a ≡ inside done (cur ++ a) e
takes [] done cur d e h = let same : d ≡ e = cc in
    ap (inside done cur) same ∙ ap (λ v. inside done v e) (sym (append-nil cur))
takes (w ∷ a) done cur d e h = takes_on a w done cur e (bracket_of w) (nest d (bracket_of w))
    (λ d k. takes a done (cur ++ w ∷ []) d e k) h

-- the left inverse: written parts are read again
some_done : (done : List (List Word)) (b a : List Word) → with_last (done ++ b ∷ []) a ≡ (done ++ b ∷ []) ++ a ∷ []
some_done [] b a = refl
some_done (x ∷ done) b a = refl

back_from : (a : List Word) (xs : List (List Word)) (done : List (List Word)) (b : List Word) (rest : List Word)
    → IsPart a → AreParts xs → reads (inside (done ++ b ∷ []) [] 0) (parts_words (a ∷ xs) ++ sign symbol.Close ∷ rest)
    ≡ closed ((done ++ b ∷ []) ++ a ∷ xs)
back_from a [] done b rest h k =
    reads_append (inside (done ++ b ∷ []) [] 0) a (sign symbol.Close ∷ rest)
    ∙ ap (λ s. reads s (sign symbol.Close ∷ rest)) (takes a (done ++ b ∷ []) [] 0 0 h)
    ∙ closed_stays (with_last (done ++ b ∷ []) a) rest
    ∙ ap closed (some_done done b a)
back_from a (c ∷ xs) done b rest h k =
    ap (reads (inside (done ++ b ∷ []) [] 0))
    (append_assoc a (sign symbol.Comma ∷ parts_words (c ∷ xs)) (sign symbol.Close ∷ rest))
    ∙ reads_append (inside (done ++ b ∷ []) [] 0) a
    (sign symbol.Comma ∷ (parts_words (c ∷ xs) ++ sign symbol.Close ∷ rest))
    ∙ ap (λ s. reads s (sign symbol.Comma ∷ (parts_words (c ∷ xs) ++ sign symbol.Close ∷ rest)))
    (takes a (done ++ b ∷ []) [] 0 0 h)
    ∙ back_from c xs (done ++ b ∷ []) a rest k.0 k.1
    ∙ ap closed (append_assoc (done ++ b ∷ []) (a ∷ []) (c ∷ xs))

-- no call of one part has an empty one
abbrev pub AreNoEmpty : List (List Word) → Type 0
AreNoEmpty ([] ∷ []) = ⊥
AreNoEmpty xs = Unit {0}

pub read_back : (xs : List (List Word)) (rest : List Word) → AreParts xs → AreNoEmpty xs
    → reads start (parts_words xs ++ sign symbol.Close ∷ rest) ≡ closed xs
read_back [] rest h n = closed_stays [] rest
read_back ([] ∷ []) rest h n = absurd n
read_back ((w ∷ a) ∷ []) rest h n =
    reads_append start (w ∷ a) (sign symbol.Close ∷ rest)
    ∙ ap (λ s. reads s (sign symbol.Close ∷ rest)) (takes (w ∷ a) [] [] 0 0 h.0)
    ∙ closed_stays ((w ∷ a) ∷ []) rest
read_back (a ∷ c ∷ xs) rest h n =
    ap (reads start) (append_assoc a (sign symbol.Comma ∷ parts_words (c ∷ xs)) (sign symbol.Close ∷ rest))
    ∙ reads_append start a (sign symbol.Comma ∷ (parts_words (c ∷ xs) ++ sign symbol.Close ∷ rest))
    ∙ ap (λ s. reads s (sign symbol.Comma ∷ (parts_words (c ∷ xs) ++ sign symbol.Close ∷ rest))) (takes a [] [] 0 0 h.0)
    ∙ back_from c xs [] a rest h.1.0 h.1.1

-- what is read spells the words so far
abbrev pub commas : List (List Word) → List Word
commas [] = []
commas (a ∷ xs) = a ++ sign symbol.Comma ∷ commas xs

commas_more : (xs : List (List Word)) (a : List Word)
    → commas (xs ++ a ∷ []) ≡ commas xs ++ (a ++ sign symbol.Comma ∷ [])
commas_more [] a = refl
commas_more (b ∷ xs) a = ap (λ v. b ++ sign symbol.Comma ∷ v) (commas_more xs a)
    ∙ sym (append_assoc b (sign symbol.Comma ∷ commas xs) (a ++ sign symbol.Comma ∷ []))

last_words : (xs : List (List Word)) (a : List Word) → parts_words (xs ++ a ∷ []) ≡ commas xs ++ a
last_words [] a = refl
last_words (b ∷ []) a = sym (append_assoc b (sign symbol.Comma ∷ []) a)
last_words (b ∷ c ∷ xs) a = ap (λ v. b ++ sign symbol.Comma ∷ v) (last_words (c ∷ xs) a)
    ∙ sym (append_assoc b (sign symbol.Comma ∷ commas (c ∷ xs)) a)

parts_more : (xs : List (List Word)) (a : List Word) → AreParts xs → IsPart a → AreParts (xs ++ a ∷ [])
parts_more [] a h k = (k, tt)
parts_more (b ∷ xs) a h k = (h.0, parts_more xs a h.1 k)

nests_append : (o : Option ℕ) (a b : List Word) → nests o (a ++ b) ≡ nests (nests o a) b
nests_append o [] b = refl
nests_append o (w ∷ a) b = nests_append (nested o w) a b

pub record IsWritten (ws : List Word) (xs : List (List Word)) : Type 0 where
  pub rest : List Word
  pub pair : AreParts xs
  pub spelled : parts_words xs ++ sign symbol.Close ∷ rest ≡ ws

abbrev pub Stands : List Word → State → Type 0
Stands ws (inside done a d) = (commas done ++ a ≡ ws) × AreParts done × (nests (Some 0) a ≡ Some d)
Stands ws (closed xs) = IsWritten ws xs

abbrev put : List Word → Word → List Word
put ws w = ws ++ w ∷ []

taken : (ws : List Word) (done : List (List Word)) (a : List Word) (d e : ℕ) (w : Word) → nest d (bracket_of w) ≡ Some e
    → Stands ws (inside done a d) → Stands (put ws w) (inside done (a ++ w ∷ []) e)
taken ws done a d e w h s = (
  sym (append_assoc (commas done) a (w ∷ [])) ∙ ap (λ v. v ++ w ∷ []) s.0,
  s.1,
  nests_append (Some 0) a (w ∷ []) ∙ ap (λ o. nested o w) s.2 ∙ h,
)

shut : (ws : List Word) (done : List (List Word)) (a : List Word) → Stands ws (inside done a 0)
    → IsWritten (put ws (sign symbol.Close)) (with_last done a)
shut ws [] [] s = record { rest = []; pair = tt; spelled = ap (λ v. v ++ sign symbol.Close ∷ []) s.0 }
shut ws [] (w ∷ a) s = record { rest = []; pair = (s.2, tt); spelled = ap (λ v. v ++ sign symbol.Close ∷ []) s.0 }
shut ws (b ∷ done) a s = record {
  rest = [];
  pair = parts_more (b ∷ done) a s.1 s.2;
  spelled = ap (λ v. v ++ sign symbol.Close ∷ []) (last_words (b ∷ done) a ∙ s.0);
}

split_off : (ws : List Word) (done : List (List Word)) (a : List Word) → Stands ws (inside done a 0)
    → Stands (put ws (sign symbol.Comma)) (inside (done ++ a ∷ []) [] 0)
split_off ws done a s =
    let flat : (commas done ++ a) ++ sign symbol.Comma ∷ [] ≡ ws ++ sign symbol.Comma ∷ [] =
    ap (λ v. v ++ sign symbol.Comma ∷ []) s.0 in (
      append-nil (commas (done ++ a ∷ [])) ∙ commas_more done a
          ∙ sym (append_assoc (commas done) a (sign symbol.Comma ∷ [])) ∙ flat,
      parts_more done a s.1 s.2,
      refl,
    )

written_on : (ws : List Word) (xs : List (List Word)) (w : Word) → IsWritten ws xs → IsWritten (put ws w) xs
written_on ws xs w s = record {
  rest = s.rest ++ w ∷ [];
  pair = s.pair;
  spelled = sym (append_assoc (parts_words xs) (sign symbol.Close ∷ s.rest) (w ∷ []))
      ∙ ap (λ v. v ++ w ∷ []) s.spelled;
}

close_sign : (w : Word) → bracket_of w ≡ bracket.Close → w ≡ sign symbol.Close
close_sign (sign symbol.Close) h = refl
close_sign w h = absurd cc

comma_sign : (w : Word) → bracket_of w ≡ bracket.Comma → w ≡ sign symbol.Comma
comma_sign (sign symbol.Comma) h = refl
comma_sign w h = absurd cc

keeps_by : (ws : List Word) (done : List (List Word)) (a : List Word) (d : ℕ) (w : Word) (b : Bracket)
    → bracket_of w ≡ b → Stands ws (inside done a d) → Stands (put ws w) (read_by done a d w b)
keeps_by ws done a zero w bracket.Close h s =
    subst (λ v. IsWritten (put ws v) (with_last done a)) (sym (close_sign w h)) (shut ws done a s)
keeps_by ws done a (suc d) w bracket.Close h s = taken ws done a (suc d) d w (ap (nest (suc d)) h) s
keeps_by ws done a zero w bracket.Comma h s =
    subst (λ v. Stands (put ws v) (inside (done ++ a ∷ []) [] 0)) (sym (comma_sign w h)) (split_off ws done a s)
keeps_by ws done a (suc d) w bracket.Comma h s = taken ws done a (suc d) (suc d) w (ap (nest (suc d)) h) s
keeps_by ws done a d w bracket.Open h s = taken ws done a d (suc d) w (ap (nest d) h) s
keeps_by ws done a d w bracket.Plain h s = taken ws done a d d w (ap (nest d) h) s

keeps : (ws : List Word) (s : State) (w : Word) → Stands ws s → Stands (put ws w) (read s w)
keeps ws (closed xs) w s = written_on ws xs w s
keeps ws (inside done a d) w s = keeps_by ws done a d w (bracket_of w) refl s

stands_from : (ws vs : List Word) (s : State) → Stands ws s → Stands (ws ++ vs) (reads s vs)
stands_from ws [] s h = subst (λ v. Stands v s) (sym (append-nil ws)) h
stands_from ws (w ∷ vs) s h = subst (λ v. Stands v (reads (read s w) vs)) (append_assoc ws (w ∷ []) vs)
    (stands_from (put ws w) vs (read s w) (keeps ws s w h))

-- what is read is written
pub reads_written : (ws : List Word) (xs : List (List Word)) → reads start ws ≡ closed xs → IsWritten ws xs
reads_written ws xs h = subst (Stands ws) h (stands_from [] ws start (refl, tt, refl))
