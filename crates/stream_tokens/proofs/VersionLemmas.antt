-- What the newest version changes: files that say version 3 alone.
use Rattle.std.proofs.Common.{◌≡◌, ◌⊎◌, inl, inr, ℕ, Bool, true, false, nat_eq, List, [], ◌∷◌, Option, Some, None}
use Rattle.std.proofs.Common.{Result, Err, refl, ap, ◌&&◌}
use Rattle.std.specs.Prelude.{if◌then◌else◌, unwrap_or, codes, drop}
use Rattle.std.specs.List.{list_all, starts_with}
use Rattle.stream_tokens.specs.declared.job_text.JobText.{JobText}
use Rattle.stream_tokens.specs.declared.job_text.TextFault.{TextFault}
use Rattle.stream_tokens.specs.declared.job_text.TextFault.TheVariants.{Syntax}
use Rattle.stream_tokens.specs.declared.line.LineKind.{LineKind}
use Rattle.stream_tokens.specs.declared.line.LineKind.TheVariants.{Skipped, Continues, Begins}
use Rattle.stream_tokens.specs.Bytes.{is_blank}
use Rattle.stream_tokens.specs.JobTexts.{NumberedLine, after_said, begins_blank, by_kind, job_texts_of}
use Rattle.stream_tokens.specs.JobTexts.{job_texts_within, jobs_of_lines, kind_of, lines_in, named_version}
use Rattle.stream_tokens.specs.JobTexts.{said_version, texts_of_lines, version_after_blanks, version_digit, version_in}
use Rattle.stream_tokens.specs.JobTexts.{version_of, version_within, without_blanks}

-- version 3 is said, or nothing differs
abbrev Said : Option ℕ → Option ℕ → Type 0
Said o p = (o ≡ Some 3) ⊎ (o ≡ p)

digit_by : (a b : Bool) → Said (if a then Some 2 else (if b && true then Some 3 else None))
    (if a then Some 2 else (if b && false then Some 3 else None))
digit_by true b = inr refl
digit_by false true = inl refl
digit_by false false = inr refl

either_said : (b : Bool) (o p : Option ℕ) → Said o p → Said (if b then o else None) (if b then p else None)
either_said true o p h = h
either_said false o p h = inr refl

digit_named : (bytes : List ℕ) → Said (named_version 3 bytes) (named_version 2 bytes)
digit_named [] = inr refl
digit_named (d ∷ rest) = either_said (list_all is_blank rest) (version_digit 3 d) (version_digit 2 d)
    (digit_by (nat_eq d 50) (nat_eq d 51))

after_blanks : (bytes : List ℕ) → Said (version_after_blanks 3 bytes) (version_after_blanks 2 bytes)
after_blanks bytes = either_said (starts_with nat_eq bytes (codes "version") && begins_blank (drop 7 bytes)) _ _
    (digit_named (without_blanks (drop 7 bytes)))

-- version 3 is read, or the version and the texts are the same
abbrev pub AreAlike : ℕ → ℕ → Result (List JobText) TextFault → Result (List JobText) TextFault → Type 0
AreAlike v w t u = (v ≡ 3) ⊎ ((v ≡ w) × (t ≡ u))

by_line : (k : LineKind) (v w : ℕ) (t u e : Result (List JobText) TextFault) (o p : Option ℕ)
    (x y : Result (List JobText) TextFault) → AreAlike v w t u → Said o p
    → AreAlike (by_kind k v 1 (unwrap_or o 1)) (by_kind k w 1 (unwrap_or p 1)) (by_kind k t e (after_said o x y))
    (by_kind k u e (after_said p x y))
by_line Skipped v w t u e o p x y h s = h
by_line Continues v w t u e o p x y h s = inr (refl, refl)
by_line Begins v w t u e o p x y h (inl is) = inl (ap (λ o. unwrap_or o 1) is)
by_line Begins v w t u e o p x y h (inr is) = inr (ap (λ o. unwrap_or o 1) is, ap (λ o. after_said o x y) is)

alike_lines : (lines : List NumberedLine)
    → AreAlike (version_in 3 lines) (version_in 2 lines) (texts_of_lines 3 lines) (texts_of_lines 2 lines)
alike_lines [] = inr (refl, refl)
alike_lines (line ∷ lines) = by_line (kind_of line.bytes) (version_in 3 lines) (version_in 2 lines)
    (texts_of_lines 3 lines) (texts_of_lines 2 lines) (Err (Syntax line.number)) (said_version 3 line.bytes)
    (said_version 2 line.bytes) (jobs_of_lines lines) (jobs_of_lines (line ∷ lines)) (alike_lines lines)
    (after_blanks (without_blanks line.bytes))

pub alike : (bytes : List ℕ) → AreAlike (version_within 3 bytes) (version_of bytes) (job_texts_within 3 bytes)
    (job_texts_of bytes)
unfolding version_within job_texts_within
alike bytes = alike_lines (lines_in bytes)
