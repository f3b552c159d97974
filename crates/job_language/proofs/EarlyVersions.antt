-- The versions of files where version 2 is the newest.
use Rattle.std.proofs.Common.{◌≡◌, ℕ, Bool, true, false, ◌&&◌, nat_eq, List, [], ◌∷◌, Option, Some, None, inl, inr}
use Rattle.std.proofs.Common.{refl, sym, subst}
use Rattle.std.specs.Prelude.{codes, drop, if◌then◌else◌, nat_le, unwrap_or}
use Rattle.std.specs.List.{list_all, starts_with}
use Rattle.stream_tokens.specs.JobTexts.{NumberedLine, begins_blank, by_kind, lines_in, named_version, said_version}
use Rattle.stream_tokens.specs.JobTexts.{version_digit, version_in, version_within, without_blanks}
use Rattle.job_language.proofs.LineKinds.{HasKind, each_kind}

-- version 3 isn't said
abbrev IsEarly : ℕ → Type 0
IsEarly v = nat_le 3 v ≡ false

abbrev SaysEarly : Option ℕ → Type 0
SaysEarly o = IsEarly (unwrap_or o 1)

either_early : (b : Bool) (o p : Option ℕ) → SaysEarly o → SaysEarly p → SaysEarly (if b then o else p)
either_early true o p h k = h
either_early false o p h k = k

by_both : (b : Bool) → SaysEarly (if b && false then Some 3 else None)
by_both true = refl
by_both false = refl

digit_early : (bytes : List ℕ) → SaysEarly (named_version 2 bytes)
digit_early [] = refl
digit_early (d ∷ rest) = either_early (list_all _ rest) (version_digit 2 d) None
    (either_early (nat_eq d 50) (Some 2) _ refl (by_both (nat_eq d 51))) refl

said_early : (line : List ℕ) → SaysEarly (said_version 2 line)
said_early line =
    let bytes = without_blanks line in
    either_early (starts_with nat_eq bytes (codes "version") && begins_blank (drop 7 bytes))
    (named_version 2 (without_blanks (drop 7 bytes))) None (digit_early (without_blanks (drop 7 bytes))) refl

by_line : (line : NumberedLine) (lines : List NumberedLine) → HasKind line.bytes → IsEarly (version_in 2 lines)
    → SaysEarly (said_version 2 line.bytes) → IsEarly (version_in 2 (line ∷ lines))
by_line line lines (inl e) h s = subst (λ k. IsEarly
    (by_kind k (version_in 2 lines) 1 (unwrap_or (said_version 2 line.bytes) 1))) (sym e) h
by_line line lines (inr (inl e)) h s = subst
    (λ k. IsEarly (by_kind k (version_in 2 lines) 1 (unwrap_or (said_version 2 line.bytes) 1))) (sym e) refl
by_line line lines (inr (inr e)) h s = subst
    (λ k. IsEarly (by_kind k (version_in 2 lines) 1 (unwrap_or (said_version 2 line.bytes) 1))) (sym e) s

lines_early : (lines : List NumberedLine) → IsEarly (version_in 2 lines)
lines_early [] = refl
lines_early (line ∷ lines) = by_line line lines (each_kind line.bytes) (lines_early lines) (said_early line.bytes)

-- where version 2 is the newest, no file is of version 3
pub version_early : (bytes : List ℕ) → nat_le 3 (version_within 2 bytes) ≡ false
unfolding version_within
version_early bytes = lines_early (lines_in bytes)
