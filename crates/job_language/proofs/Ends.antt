-- Parts by the places where they end.
use Rattle.std.proofs.Common.{◌≡◌, ℕ, zero, suc, ◌+◌, ◌-◌, ◌<◌, ◌≤◌, List, [], ◌∷◌, ◌++◌, length, take, drop, get_or}
use Rattle.std.proofs.Common.{slice_range, Some, None, refl, sym, ap, subst, ◌∙◌, arith, length-drop}
use Rattle.std.proofs.lemmas.List.{take_more, take_all, take-append-drop, get_or-drop}
use Rattle.job_language.specs.declared.operation.Operation.{Operation}
use Rattle.lambda_expr.specs.Words.{Word, bad}
use Rattle.job_language.specs.declared.word.Bracket.{Bracket}
use Rattle.job_language.specs.declared.word.Bracket.TheVariants as bracket
use Rattle.job_language.specs.Calls.{bracket_of, nest}
use Rattle.job_language.specs.Splitting.{inside, closed, with_last, parted, goes, read, reads, start, pieces, start_of}
use Rattle.job_language.specs.Splitting.{fits_from, IsAt, IsOpen, IsSplit, AreEnds}
use Rattle.job_language.proofs.Splits.{reads_append, closed_stays}

slice_more : (ws : List Word) (a b : ℕ) → a ≤ b → b < length ws
    → slice_range ws a (b + 1) ≡ slice_range ws a b ++ get_or ws b bad ∷ []
slice_more ws a b h lt =
    let one : b + 1 - a ≡ b - a + 1 = omega arith in
    let same : a + (b - a) ≡ b = omega arith in
    let less : b - a < length (drop a ws) = omega (arith, length-drop a ws) in
    ap (λ n. take n (drop a ws)) one ∙ take_more (drop a ws) (b - a) bad less
    ∙ ap (λ v. take (b - a) (drop a ws) ++ v ∷ []) (get_or-drop a ws (b - a) bad ∙ ap (λ n. get_or ws n bad) same)

pub pieces_more : (ws : List Word) (a : ℕ) (es : List ℕ) (e : ℕ)
    → pieces ws a (es ++ e ∷ []) ≡ pieces ws a es ++ slice_range ws (start_of a es) e ∷ []
pieces_more ws a [] e = refl
pieces_more ws a (d ∷ es) e = ap (λ v. slice_range ws a d ∷ v) (pieces_more ws (d + 1) es e)

start_more : (a : ℕ) (es : List ℕ) (e : ℕ) → start_of a (es ++ e ∷ []) ≡ e + 1
start_more a [] e = refl
start_more a (d ∷ es) e = start_more (d + 1) es e

none_slice : (ws : List Word) (a : ℕ) → slice_range ws a a ≡ []
none_slice ws a = ap (λ n. take n (drop a ws)) (let e : a - a ≡ 0 = omega arith in e)

next : (ws : List Word) (at d : ℕ) (es : List ℕ) → at < length ws → IsAt ws at d es
    → reads start (take (at + 1) ws) ≡ goes (pieces ws 0 es) (slice_range ws (start_of 0 es) at) (get_or ws at bad)
    (bracket_of (get_or ws at bad)) (nest d (bracket_of (get_or ws at bad)))
next ws at d es lt s = ap (reads start) (take_more ws at bad lt)
    ∙ reads_append start (take at ws) (get_or ws at bad ∷ []) ∙ ap (λ s. read s (get_or ws at bad)) s.state

pub wider : (a : ℕ) (es : List ℕ) (n m : ℕ) → n ≤ m → AreEnds a es n → AreEnds a es m
wider a [] n m h k = tt
wider a (e ∷ es) n m h k = (k.0, (let l = k.1 in omega arith), wider (e + 1) es n m h k.2)

ends_more : (a : ℕ) (es : List ℕ) (e : ℕ) → start_of a es ≤ e → AreEnds a es e → AreEnds a (es ++ e ∷ []) (e + 1)
ends_more a [] e h k = (h, omega arith, tt)
ends_more a (d ∷ es) e h k = (k.0, (let l = k.1 in omega arith), ends_more (d + 1) es e h k.2)

-- a word within a part
pub goes_on : (ws : List Word) (at d e : ℕ) (es : List ℕ) → at < length ws
    → nest d (bracket_of (get_or ws at bad)) ≡ Some e → e ≤ d + 1 → IsAt ws at d es → IsAt ws (at + 1) e es
goes_on ws at d e es lt is bound s =
    let begun = s.begun in
    let low = s.low in
    record {
      state = next ws at d es lt s ∙ ap (goes (pieces ws 0 es) (slice_range ws (start_of 0 es) at) (get_or ws at bad)
          (bracket_of (get_or ws at bad))) is
          ∙ ap (λ v. inside (pieces ws 0 es) v e) (sym (slice_more ws (start_of 0 es) at s.begun lt));
      begun = omega arith;
      low = omega arith;
      ends = wider 0 es at (at + 1) (omega arith) s.ends;
    }

comma_parts : (done : List (List Word)) (a : List Word) (b : Bracket) → (b ≡ bracket.Close → ⊥)
    → parted done a b ≡ inside (done ++ a ∷ []) [] 0
comma_parts done a bracket.Close n = absurd (n refl)
comma_parts done a x n = refl

none_at_zero : (d : ℕ) (b : Bracket) → nest d b ≡ None → d ≡ 0
none_at_zero zero b h = refl
none_at_zero (suc d) bracket.Close h = absurd cc
none_at_zero (suc d) x h = absurd cc

-- a comma after a part
pub parts_on : (ws : List Word) (at d : ℕ) (es fs : List ℕ) → at < length ws
    → nest d (bracket_of (get_or ws at bad)) ≡ None → (bracket_of (get_or ws at bad) ≡ bracket.Close → ⊥)
    → fs ≡ es ++ at ∷ [] → IsAt ws at d es → IsAt ws (at + 1) d fs
parts_on ws at d es fs lt is n more s =
    let none_open : d ≡ 0 = none_at_zero d (bracket_of (get_or ws at bad)) is in
    let begins : start_of 0 fs ≡ at + 1 = ap (start_of 0) more ∙ start_more 0 es at in
    let low = s.low in
    record {
      state =
          next ws at d es lt s
          ∙ ap (goes (pieces ws 0 es) (slice_range ws (start_of 0 es) at) (get_or ws at bad)
          (bracket_of (get_or ws at bad))) is
          ∙ comma_parts (pieces ws 0 es) (slice_range ws (start_of 0 es) at) (bracket_of (get_or ws at bad)) n
          ∙ ap (λ v. inside v [] 0) (sym (ap (pieces ws 0) more ∙ pieces_more ws 0 es at))
          ∙ ap (λ v. inside (pieces ws 0 fs) v 0)
          (sym (ap (λ k. slice_range ws k (at + 1)) begins ∙ none_slice ws (at + 1)))
          ∙ ap (inside (pieces ws 0 fs) (slice_range ws (start_of 0 fs) (at + 1))) (sym none_open);
      begun = omega arith;
      low = omega arith;
      ends = subst (λ v. AreEnds 0 v (at + 1)) (sym more) (ends_more 0 es at s.begun s.ends);
    }

first_none : (es : List ℕ) → AreEnds 0 es 0 → es ≡ []
first_none [] k = refl
first_none (e ∷ es) k = let l = k.1 in absurd (omega arith)

some_slice : (ws : List Word) (at : ℕ) → 0 < at → at < length ws → slice_range ws 0 at ≡ [] → ⊥
some_slice (w ∷ ws) (suc at) h lt e =
    let one : suc at - 0 ≡ suc at = omega arith in
    let f : w ∷ take at ws ≡ [] = ap (λ n. take n (w ∷ ws)) (sym one) ∙ e in
    absurd cc
some_slice x at h lt e = absurd (omega arith)

last_whole : (done : List (List Word)) (a : List Word) → (done ≡ [] → a ≡ [] → ⊥) → with_last done a ≡ done ++ a ∷ []
last_whole [] [] n = absurd (n refl refl)
last_whole x a n = refl

reads_all : (ws : List Word) (n : ℕ) (xs : List (List Word)) → reads start (take n ws) ≡ closed xs
    → reads start ws ≡ closed xs
reads_all ws n xs h = ap (reads start) (sym (take-append-drop n ws)) ∙ reads_append start (take n ws) (drop n ws)
    ∙ ap (λ s. reads s (drop n ws)) h ∙ closed_stays xs (drop n ws)

shut_here : (ws : List Word) (at d : ℕ) (es : List ℕ) → at < length ws → nest d (bracket_of (get_or ws at bad)) ≡ None
    → bracket_of (get_or ws at bad) ≡ bracket.Close → IsAt ws at d es
    → reads start ws ≡ closed (with_last (pieces ws 0 es) (slice_range ws (start_of 0 es) at))
shut_here ws at d es lt is close s =
    let done = pieces ws 0 es in
    let a = slice_range ws (start_of 0 es) at in
    reads_all ws (at + 1) (with_last done a)
    (next ws at d es lt s ∙ ap (goes done a (get_or ws at bad) (bracket_of (get_or ws at bad))) is
    ∙ ap (parted done a) close)

no_pieces : (ws : List Word) (es : List ℕ) → pieces ws 0 es ≡ [] → es ≡ []
no_pieces ws [] h = refl
no_pieces ws (e ∷ es) h = absurd cc

-- the parenthesis that closes the call, after a part
pub closes : (ws : List Word) (at d : ℕ) (es fs : List ℕ) → at < length ws → 0 < at
    → nest d (bracket_of (get_or ws at bad)) ≡ None → bracket_of (get_or ws at bad) ≡ bracket.Close → fs ≡ es ++ at ∷ []
    → IsAt ws at d es → IsSplit ws fs
closes ws at d es fs lt some is close more s =
    let done = pieces ws 0 es in
    let a = slice_range ws (start_of 0 es) at in
    let full : done ≡ [] → a ≡ [] → ⊥ = λ e f. some_slice ws at some lt
    (ap (λ v. slice_range ws (start_of 0 v) at) (sym (no_pieces ws es e)) ∙ f) in
    record {
      state = shut_here ws at d es lt is close s
          ∙ ap closed (last_whole done a full ∙ sym (ap (pieces ws 0) more ∙ pieces_more ws 0 es at));
      ends = subst (λ v. AreEnds 0 v (length ws)) (sym more)
          (wider 0 (es ++ at ∷ []) (at + 1) (length ws) (omega arith) (ends_more 0 es at s.begun s.ends));
    }

-- and one that closes it at once
pub closes_first : (ws : List Word) (at d : ℕ) (es : List ℕ) → at < length ws → at ≡ 0
    → nest d (bracket_of (get_or ws at bad)) ≡ None → bracket_of (get_or ws at bad) ≡ bracket.Close → IsAt ws at d es
    → IsSplit ws es
closes_first ws at d es lt first is close s =
    let none_yet : es ≡ [] = first_none es (subst (AreEnds 0 es) first s.ends) in
    record {
      state = shut_here ws at d es lt is close s
          ∙ ap (λ v. closed (with_last (pieces ws 0 v) (slice_range ws (start_of 0 v) at))) none_yet
          ∙ ap (λ n. closed (with_last [] (slice_range ws 0 n))) first
          ∙ ap (λ v. closed (pieces ws 0 v)) (sym none_yet);
      ends = subst (λ v. AreEnds 0 v (length ws)) (sym none_yet) tt;
    }

pub ends_open : (ws : List Word) (n d : ℕ) (es : List ℕ) → length ws ≤ n → IsAt ws n d es → IsOpen (reads start ws)
ends_open ws n d es h s = subst IsOpen (sym s.state ∙ ap (reads start) (take_all n ws h)) tt

-- the parts from here on decide whether all fit
pub record IsFitting (o : Operation) (ws : List Word) (es : List ℕ) (at : ℕ) (from : ℕ) : Type 0 where
  pub same : fits_from o (length es) 0 (pieces ws 0 es) ≡ fits_from o (length es) at (pieces ws from (drop at es))
  pub ends : AreEnds from (drop at es) (length ws)

-- the end of the part that comes next
pub next_end : (from : ℕ) (es : List ℕ) (at n : ℕ) → at < length es → AreEnds from (drop at es) n
    → (from ≤ get_or es at 0) × (get_or es at 0 < n)
next_end from [] at n lt h = absurd (omega arith)
next_end from (e ∷ es) zero n lt h = (h.0, h.1)
next_end from (e ∷ es) (suc at) n lt h = next_end from es at n (omega arith) h
