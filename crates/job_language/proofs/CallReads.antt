-- What the reader of a call answers, in both directions.
use Rattle.std.proofs.Common.{◌≡◌, ℕ, suc, Bool, true, false, List, [], ◌∷◌, ◌++◌, length, refl, sym, ap, subst, ◌∙◌}
use Rattle.std.specs.Prelude.{◌&&◌}
use Rattle.std.proofs.lemmas.List.{append_cancel_left}
use Rattle.stream_tokens.specs.declared.symbol.Symbol.TheVariants as symbol
use Rattle.lambda_expr.specs.Words.{Word, sign}
use Rattle.job_language.specs.declared.operation.Operation.{Operation}
use Rattle.job_language.specs.declared.operation.Param.{Param}
use Rattle.job_language.specs.declared.operation.Param.TheVariants as param
use Rattle.job_language.specs.Table.{allows, param_of, fits}
use Rattle.job_language.specs.Calls.{Call, FitFrom, parts_words}
use Rattle.job_language.specs.Splitting.{closed, reads, start, pieces, fits_from, IsOpen, IsSplit, IsReadAs, Completes}
use Rattle.job_language.proofs.CauseLemmas.{length_parts}
use Rattle.job_language.proofs.Splits.{AreNoEmpty, read_back, reads_written}

both : (a b : Bool) → a && b ≡ true → (a ≡ true) × (b ≡ true)
both true b h = (refl, h)
both false b h = absurd cc

pub fit_all : (o : Operation) (n i : ℕ) (xs : List (List Word)) → fits_from o n i xs ≡ true → FitFrom o n i xs
fit_all o n i [] h = tt
fit_all o n i (a ∷ xs) h = let two = both (fits (param_of o n i) a) (fits_from o n (suc i) xs) h in
    (two.0, fit_all o n (suc i) xs two.1)

pub fit_again : (o : Operation) (n i : ℕ) (xs : List (List Word)) → FitFrom o n i xs → fits_from o n i xs ≡ true
fit_again o n i [] h = refl
fit_again o n i (a ∷ xs) h = ap (λ b. b && fits_from o n (suc i) xs) h.0 ∙ fit_again o n (suc i) xs h.1

-- nothing is no part
nothing_fits : (p : Param) → fits p [] ≡ false
nothing_fits param.Number = refl
nothing_fits x = refl

no_empty : (o : Operation) (n i : ℕ) (xs : List (List Word)) → FitFrom o n i xs → AreNoEmpty xs
no_empty o n i ([] ∷ []) h = let e : true ≡ false = sym h.0 ∙ nothing_fits (param_of o n i) in absurd cc
no_empty o n i x h = tt

-- a call is read as it was written
pub reads_call : (c : Call) (rest ws : List Word) → Completes c rest ws → reads start ws ≡ closed c.parts
reads_call c rest ws h = ap (reads start) (sym h.spelled)
    ∙ read_back c.parts rest h.call.pair (no_empty c.operation (length c.parts) 0 c.parts h.call.fit)

same_parts : (c d : Call) (r s ws : List Word) → Completes c r ws → Completes d s ws → c.parts ≡ d.parts
same_parts c d r s ws h k = let e : closed c.parts ≡ closed d.parts = sym (reads_call c r ws h) ∙ reads_call d s ws k in
    cc

same_call : (c d : Call) → c.operation ≡ d.operation → c.parts ≡ d.parts → c ≡ d
same_call c d h k = rw h (rw k refl)

pub one_reading : (c d : Call) (r s ws : List Word) → c.operation ≡ d.operation → Completes c r ws → Completes d s ws
    → (c ≡ d) × (r ≡ s)
one_reading c d r s ws same h k =
    let parts = same_parts c d r s ws h k in
    let again : parts_words c.parts ++ sign symbol.Close ∷ s ≡ ws =
    ap (λ xs. parts_words xs ++ sign symbol.Close ∷ s) parts ∙ k.spelled in
    let rest : sign symbol.Close ∷ r ≡ sign symbol.Close ∷ s =
    append_cancel_left (parts_words c.parts) (sign symbol.Close ∷ r) (sign symbol.Close ∷ s)
    (h.spelled ∙ sym again) in
    (same_call c d same parts, cc)

pub is_read : (o : Operation) (ws : List Word) (es : List ℕ) → IsSplit ws es → allows o (length es) ≡ true
    → fits_from o (length es) 0 (pieces ws 0 es) ≡ true → IsReadAs o ws es
is_read o ws es s allowed fit =
    let w = reads_written ws (pieces ws 0 es) s.state in
    let n = length_parts ws 0 es in
    record {
      rest = w.rest;
      completes = record {
        call = record {
          pair = w.pair;
          allowed = ap (allows o) n ∙ allowed;
          fit = fit_all o (length (pieces ws 0 es)) 0 (pieces ws 0 es)
              (ap (λ n. fits_from o n 0 (pieces ws 0 es)) n ∙ fit);
        };
        spelled = w.spelled;
      };
      ends = s.ends;
    }

pub is_open : (c : Call) (rest ws : List Word) → IsOpen (reads start ws) → Completes c rest ws → ⊥
is_open c rest ws h k = subst IsOpen (reads_call c rest ws k) h

same_pieces : (c : Call) (rest ws : List Word) (es : List ℕ) → IsSplit ws es → Completes c rest ws
    → c.parts ≡ pieces ws 0 es
same_pieces c rest ws es s k = let e : closed c.parts ≡ closed (pieces ws 0 es) =
    sym (reads_call c rest ws k) ∙ s.state in cc

pub not_allowed : (c : Call) (rest ws : List Word) (es : List ℕ) → IsSplit ws es
    → allows c.operation (length es) ≡ false → Completes c rest ws → ⊥
not_allowed c rest ws es s h k =
    let e : true ≡ false = sym k.call.allowed ∙ ap (λ v. allows c.operation (length v)) (same_pieces c rest ws es s k)
    ∙ ap (allows c.operation) (length_parts ws 0 es) ∙ h in
    absurd cc

pub not_fit : (c : Call) (rest ws : List Word) (es : List ℕ) → IsSplit ws es
    → fits_from c.operation (length es) 0 (pieces ws 0 es) ≡ false → Completes c rest ws → ⊥
not_fit c rest ws es s h k =
    let same = same_pieces c rest ws es s k in
    let n : length c.parts ≡ length es = ap length same ∙ length_parts ws 0 es in
    let e : true ≡ false = sym (fit_again c.operation (length c.parts) 0 c.parts k.call.fit)
    ∙ ap (λ n. fits_from c.operation n 0 c.parts) n ∙ ap (fits_from c.operation (length es) 0) same ∙ h in
    absurd cc
