-- Bytes have one answer.
use Rattle.std.proofs.Common.{◌≡◌, ℕ, List, [], ◌∷◌, ◌++◌, Result, Ok, Err, inl, inr, sym, ap, subst, ◌∙◌, arith}
use Rattle.stream_tokens.specs.declared.job_text.JobText.{JobText}
use Rattle.stream_tokens.specs.declared.job_text.TextFault.{TextFault}
use Rattle.stream_tokens.specs.declared.job_text.TextFault.TheVariants as text
use Rattle.tables.specs.Table.{NamedColumn}
use Rattle.job_language.specs.declared.fault.Cause.{Cause}
use Rattle.job_language.specs.declared.fault.JobFault.{JobFault}
use Rattle.job_language.specs.Files.{AreJobsLeft, AreJobsRead, IsNext, fault_at, scope_below}
use Rattle.job_language.specs.Jobs.{AbstractJob}
use Rattle.job_language.proofs.OneVerdict.{one_read}

next_once : (version : ℕ) (columns : List NamedColumn) (above : List AbstractJob) (t : List ℕ)
    (r q : Result AbstractJob Cause) → IsNext version columns above t r → IsNext version columns above t q → r ≡ q
next_once version columns above t r q (inl h) (inl k) = h.1 ∙ sym k.1
next_once version columns above t r q (inl h) (inr k) = absurd (omega (arith, h.0, k.0))
next_once version columns above t r q (inr h) (inl k) = absurd (omega (arith, h.0, k.0))
next_once version columns above t r q (inr h) (inr k) = one_read (scope_below version columns above) t r q h.1 k.1

texts_once : (version : ℕ) (columns : List NamedColumn) (above : List AbstractJob) (ts : List JobText)
    (r q : Result (List AbstractJob) JobFault) → AreJobsRead version columns above ts r
    → AreJobsRead version columns above ts q → r ≡ q
texts_once version columns above [] r q h k = h ∙ sym k
texts_once version columns above (t ∷ ts) r q (inl h) (inl k) =
    let e = next_once version columns above t.text (Err h.0) (Err k.0) h.1 k.1 in
    let same : h.0 ≡ k.0 = cc in
    h.2 ∙ ap (λ (c : Cause). Err (fault_at t c)) same ∙ sym k.2
texts_once version columns above (t ∷ ts) r q (inl h) (inr k) = let e =
    next_once version columns above t.text (Err h.0) (Ok k.0) h.1 k.1 in absurd cc
texts_once version columns above (t ∷ ts) r q (inr h) (inl k) = let e =
    next_once version columns above t.text (Ok h.0) (Err k.0) h.1 k.1 in absurd cc
texts_once version columns above (t ∷ ts) r q (inr h) (inr k) =
    let e = next_once version columns above t.text (Ok h.0) (Ok k.0) h.1 k.1 in
    let same : h.0 ≡ k.0 = cc in
    texts_once version columns (above ++ k.0 ∷ []) ts r q
    (subst (λ (j : AbstractJob). AreJobsRead version columns (above ++ j ∷ []) ts r) same h.2) k.2

pub left_once : (version : ℕ) (columns : List NamedColumn) (left : Result (List JobText) TextFault)
    (r q : Result (List AbstractJob) JobFault) → AreJobsLeft version columns [] left r
    → AreJobsLeft version columns [] left q → r ≡ q
left_once version columns (Ok texts) r q h k = texts_once version columns [] texts r q h k
left_once version columns (Err (text.Syntax line)) r q h k = h ∙ sym k
left_once version columns (Err text.NoMemory) r q h k = absurd h
