-- A file that says version 3 is no file of jobs where version 2 is the newest.
use Rattle.std.proofs.Common.{◌≡◌, ℕ, zero, suc, ◌+◌, ◌-◌, ◌<◌, ◌≤◌, Bool, true, false, ◌&&◌, nat_eq, List, [], ◌∷◌}
use Rattle.std.proofs.Common.{◌++◌, length, take, drop, slice_index, cond, Option, Some, None, Result, Ok, Err, inl}
use Rattle.std.proofs.Common.{inr, refl, sym, ap, subst, ◌∙◌, arith}
use Rattle.std.specs.Prelude.{if◌then◌else◌, unwrap_or, codes}
use Rattle.std.specs.Cmp.Lexicographic.{same_text}
use Rattle.std.specs.List.{list_all, prefix_len, starts_with}
use Rattle.std.proofs.lemmas.Bool.{eqb-true}
use Rattle.std.proofs.lemmas.Grind.{common_steps}
use Rattle.std.proofs.lemmas.List.{drop-drop, take-append-drop}
use Rattle.stream_tokens.specs.declared.job_text.JobText.{JobText}
use Rattle.stream_tokens.specs.declared.job_text.TextFault.{TextFault}
use Rattle.stream_tokens.specs.declared.job_text.TextFault.TheVariants as fault
use Rattle.stream_tokens.specs.declared.symbol.Symbol.{Symbol as SymbolType}
use Rattle.stream_tokens.specs.declared.symbol.Symbol.TheVariants as symbol
use Rattle.stream_tokens.specs.declared.token.Token.{Token}
use Rattle.stream_tokens.specs.declared.token.TokenKind.{TokenKind}
use Rattle.stream_tokens.specs.declared.token.TokenKind.TheVariants.{Bad, Name, Symbol}
use Rattle.stream_tokens.specs.Bytes.{is_blank, is_name_byte, is_name_start}
use Rattle.stream_tokens.specs.Forms.{HasForm}
use Rattle.stream_tokens.specs.JobTexts.{NumberedLine, after_said, begins_blank, begun, by_kind, job_texts_of}
use Rattle.stream_tokens.specs.JobTexts.{job_texts_within, joined, jobs_after, jobs_of_lines, kind_of, lines_in}
use Rattle.stream_tokens.specs.JobTexts.{named_version, said_version, texts_of_lines, version_digit, version_in}
use Rattle.stream_tokens.specs.JobTexts.{version_of, version_within, without_blanks}
use Rattle.stream_tokens.specs.Tokens.{AreBlank, CutBetween, IsFirstToken, token_text}
use Rattle.stream_tokens.proofs.CutLemmas.{first_once}
use Rattle.stream_tokens.proofs.Longest.{longest_name}
use Rattle.stream_tokens.proofs.VersionLemmas.{AreAlike, alike}
use Rattle.tables.specs.Table.{NamedColumn}
use Rattle.lambda_expr.specs.Words.{Word, named, sign, word_for, words_of}
use Rattle.lambda_expr.proofs.WordList.{named_kind}
use Rattle.job_language.specs.Causes.{Scope}
use Rattle.job_language.specs.Files.{AreJobsLeft, AreJobsRead, SpellsJobs, SpellsJobsWithin, scope_below}
use Rattle.job_language.specs.Grammar.{job_pieces, pieces_words}
use Rattle.job_language.specs.Jobs.{AbstractJob}
use Rattle.job_language.specs.Verdicts.{IsRead}
use Rattle.job_language.specs.Verdicts as verdict
use Rattle.job_language.proofs.LineKinds.{HasKind, each_kind}

-- ---- lines

-- a text begins as a line that says version 3
pub record SaysThree (text : List ℕ) : Type 0 where
  pub rest : List ℕ
  pub more : List ℕ
  pub word : without_blanks text ≡ codes "version" ++ rest
  pub apart : begins_blank rest ≡ true
  pub digit : without_blanks rest ≡ 51 ∷ more

by_front : (c : Bool) (a : ℕ) (t s : List ℕ) (b : ℕ) (bs : List ℕ)
    → (without_blanks t ≡ b ∷ bs → without_blanks (t ++ s) ≡ b ∷ (bs ++ s))
    → (if c then without_blanks t else a ∷ t) ≡ b ∷ bs
    → (if c then without_blanks (t ++ s) else a ∷ (t ++ s)) ≡ b ∷ (bs ++ s)
by_front true a t s b bs further h = further h
by_front false a t s b bs further h = ap (λ v. v ++ s) h

blanks_append : (t s : List ℕ) (b : ℕ) (bs : List ℕ) → without_blanks t ≡ b ∷ bs
    → without_blanks (t ++ s) ≡ b ∷ (bs ++ s)
blanks_append [] s b bs h = absurd cc
blanks_append (a ∷ t) s b bs h = by_front (is_blank a) a t s b bs (blanks_append t s b bs) h

begins_append : (t s : List ℕ) → begins_blank t ≡ true → begins_blank (t ++ s) ≡ true
begins_append [] s h = absurd (let e : false ≡ true = h in cc)
begins_append (b ∷ t) s h = h

-- bytes after it don't matter
more_said : (t s : List ℕ) → SaysThree t → SaysThree (t ++ s)
more_said t s h = record {
  rest = h.rest ++ s;
  more = h.more ++ s;
  word = blanks_append t s 118 (codes "ersion" ++ h.rest) h.word;
  apart = begins_append h.rest s h.apart;
  digit = blanks_append h.rest s 51 h.more h.digit;
}

both_true : (a b : Bool) → a && b ≡ true → (a ≡ true) × (b ≡ true)
both_true true b h = (refl, h)
both_true false b h = absurd (let e : false ≡ true = h in cc)

starts_is : (xs ys : List ℕ) → starts_with nat_eq xs ys ≡ true → xs ≡ ys ++ drop (length ys) xs
starts_is xs ys h = sym (take-append-drop (length ys) xs)
    ∙ ap (λ v. v ++ drop (length ys) xs) (sym (same_text ys (take (length ys) xs) (sym h)))

-- version 3 is said where it may be, and nothing is where 2 is the newest
abbrev digit_said : Bool → Bool → Bool → Option ℕ
digit_said a b new = if a then Some 2 else (if b && new then Some 3 else None)

by_digit : (a b : Bool) → digit_said a b true ≡ Some 3 → (b ≡ true) × (digit_said a b false ≡ None)
by_digit true b h = absurd cc
by_digit false true h = (refl, refl)
by_digit false false h = absurd cc

abbrev IsDigit : List ℕ → Type 0
IsDigit bytes = (more : List ℕ) × (bytes ≡ 51 ∷ more) × (named_version 2 bytes ≡ None)

by_rest : (c : Bool) (d : ℕ) (rest : List ℕ) → (if c then version_digit 3 d else None) ≡ Some 3
    → (d ≡ 51) × ((if c then version_digit 2 d else None) ≡ None)
by_rest true d rest h = let p = by_digit (nat_eq d 50) (nat_eq d 51) h in (eqb-true d 51 p.0, p.1)
by_rest false d rest h = absurd cc

digit_is : (bytes : List ℕ) → named_version 3 bytes ≡ Some 3 → IsDigit bytes
digit_is [] h = absurd cc
digit_is (d ∷ rest) h = let p = by_rest (list_all is_blank rest) d rest h in (rest, ap (λ v. v ∷ rest) p.0, p.1)

by_word : (bytes : List ℕ) (a b : Bool) → starts_with nat_eq bytes (codes "version") ≡ a
    → begins_blank (drop 7 bytes) ≡ b → (if a && b then named_version 3 (without_blanks (drop 7 bytes)) else None)
    ≡ Some 3
    → (bytes ≡ codes "version" ++ drop 7 bytes) × (begins_blank (drop 7 bytes) ≡ true)
    × IsDigit (without_blanks (drop 7 bytes))
by_word bytes true true is blank h = (
  starts_is bytes (codes "version") is,
  blank,
  digit_is (without_blanks (drop 7 bytes)) h,
)
by_word bytes true false is blank h = absurd cc
by_word bytes false b is blank h = absurd cc

either_none : (b : Bool) (o : Option ℕ) → o ≡ None → (if b then o else None) ≡ None
either_none true o h = h
either_none false o h = refl

said_three : (line : List ℕ) → said_version 3 line ≡ Some 3 → SaysThree line × (said_version 2 line ≡ None)
said_three line h =
    let bytes = without_blanks line in
    let p = by_word bytes (starts_with nat_eq bytes (codes "version")) (begins_blank (drop 7 bytes)) refl refl h in (
      record { rest = drop 7 bytes; more = p.2.0; word = p.0; apart = p.1; digit = p.2.1 },
      either_none (starts_with nat_eq bytes (codes "version") && begins_blank (drop 7 bytes))
          (named_version 2 (without_blanks (drop 7 bytes))) p.2.2,
    )

-- ---- the first text

abbrev Left : Type 0
Left = Result (List JobText) TextFault

pub record BeginsThree (left : Left) : Type 0 where
  pub first : JobText
  pub others : List JobText
  pub is : left ≡ Ok (first ∷ others)
  pub says : SaysThree first.text

by_further : (job : JobText) (line : NumberedLine) (lines : List NumberedLine) → HasKind line.bytes
    → BeginsThree (Ok (jobs_after job lines)) → BeginsThree (Ok (jobs_after (joined job line.bytes) lines))
    → SaysThree job.text
    → BeginsThree (Ok (jobs_after job (line ∷ lines)))
by_further job line lines (inl e) same longer says =
    subst (λ k. BeginsThree (Ok (by_kind k (jobs_after job lines) (jobs_after (joined job line.bytes) lines)
    (job ∷ jobs_after (begun line) lines)))) (sym e) same
by_further job line lines (inr (inl e)) same longer says =
    subst (λ k. BeginsThree (Ok (by_kind k (jobs_after job lines) (jobs_after (joined job line.bytes) lines)
    (job ∷ jobs_after (begun line) lines)))) (sym e) longer
by_further job line lines (inr (inr e)) same longer says =
    subst (λ k. BeginsThree (Ok (by_kind k (jobs_after job lines) (jobs_after (joined job line.bytes) lines)
    (job ∷ jobs_after (begun line) lines)))) (sym e)
    (record { first = job; others = jobs_after (begun line) lines; is = refl; says = says })

first_after : (job : JobText) (lines : List NumberedLine) → SaysThree job.text → BeginsThree (Ok (jobs_after job lines))
first_after job [] says = record { first = job; others = []; is = refl; says = says }
first_after job (line ∷ lines) says =
    by_further job line lines (each_kind line.bytes) (first_after job lines says)
    (first_after (joined job line.bytes) lines (more_said job.text (32 ∷ line.bytes) says)) says

by_said : (o p : Option ℕ) (line : NumberedLine) (lines : List NumberedLine) → kind_of line.bytes ≡ kind_of (97 ∷ [])
    → said_version 3 line.bytes ≡ o → said_version 2 line.bytes ≡ p → unwrap_or o 1 ≡ 3
    → BeginsThree (after_said p (jobs_of_lines lines) (jobs_of_lines (line ∷ lines)))
by_said None p line lines begins three two h = absurd (let e : 1 ≡ 3 = h in omega arith)
by_said (Some v) p line lines begins three two h =
    let said = said_three line.bytes (three ∙ ap Some h) in
    let jobs : jobs_of_lines (line ∷ lines) ≡ Ok (jobs_after (begun line) lines) =
    ap (λ k. by_kind k (jobs_of_lines lines) (Err (fault.Syntax line.number)) (Ok (jobs_after (begun line) lines)))
    begins in
    let none : p ≡ None = sym two ∙ said.1 in
    subst BeginsThree (sym (ap (λ o. after_said o (jobs_of_lines lines) (jobs_of_lines (line ∷ lines))) none ∙ jobs))
    (first_after (begun line) lines said.0)

by_line : (line : NumberedLine) (lines : List NumberedLine) → HasKind line.bytes
    → (version_in 3 lines ≡ 3 → BeginsThree (texts_of_lines 2 lines)) → version_in 3 (line ∷ lines) ≡ 3
    → BeginsThree (texts_of_lines 2 (line ∷ lines))
by_line line lines (inl e) further =
    subst (λ k. by_kind k (version_in 3 lines) 1 (unwrap_or (said_version 3 line.bytes) 1) ≡ 3
    → BeginsThree (by_kind k (texts_of_lines 2 lines) (Err (fault.Syntax line.number))
    (after_said (said_version 2 line.bytes) (jobs_of_lines lines) (jobs_of_lines (line ∷ lines))))) (sym e)
    further
by_line line lines (inr (inl e)) further =
    subst (λ k. by_kind k (version_in 3 lines) 1 (unwrap_or (said_version 3 line.bytes) 1) ≡ 3
    → BeginsThree (by_kind k (texts_of_lines 2 lines) (Err (fault.Syntax line.number))
    (after_said (said_version 2 line.bytes) (jobs_of_lines lines) (jobs_of_lines (line ∷ lines))))) (sym e)
    (λ h. absurd (let one : 1 ≡ 3 = h in omega arith))
by_line line lines (inr (inr e)) further =
    subst (λ k. by_kind k (version_in 3 lines) 1 (unwrap_or (said_version 3 line.bytes) 1) ≡ 3
    → BeginsThree (by_kind k (texts_of_lines 2 lines) (Err (fault.Syntax line.number))
    (after_said (said_version 2 line.bytes) (jobs_of_lines lines) (jobs_of_lines (line ∷ lines))))) (sym e)
    (λ h. by_said (said_version 3 line.bytes) (said_version 2 line.bytes) line lines e refl refl h)

first_line : (lines : List NumberedLine) → version_in 3 lines ≡ 3 → BeginsThree (texts_of_lines 2 lines)
first_line [] h = absurd (let e : 1 ≡ 3 = h in omega arith)
first_line (line ∷ lines) h = by_line line lines (each_kind line.bytes) (first_line lines) h

pub begins_three : (bytes : List ℕ) → version_within 3 bytes ≡ 3 → BeginsThree (job_texts_of bytes)
unfolding version_within job_texts_within
begins_three bytes h = first_line (lines_in bytes) h

-- ---- its words

front_blank : (n : ℕ) (u : List ℕ) → list_all is_blank (take n u) ≡ true → without_blanks u ≡ without_blanks (drop n u)
front_blank zero u h = refl
front_blank (suc n) [] h = refl
front_blank (suc n) (b ∷ u) h =
    let p = both_true (is_blank b) (list_all is_blank (take n u)) h in
    ap (λ c. if c then without_blanks u else b ∷ u) p.0 ∙ front_blank n u p.1

-- the blanks before a token
before_token : (text : List ℕ) (a b : ℕ) → a ≤ b → AreBlank text a b
    → without_blanks (drop a text) ≡ without_blanks (drop b text)
before_token text a b le blank =
    let far : a + (b - a) ≡ b = omega arith in
    front_blank (b - a) (drop a text) blank ∙ ap without_blanks (drop-drop (b - a) a text ∙ ap (λ n. drop n text) far)

solid_name : (b : ℕ) → is_name_start b ≡ true → is_blank b ≡ false
solid_name b h = grind (arith, common_steps)

no_name_byte : (b : ℕ) → is_blank b ≡ true → is_name_byte b ≡ false
no_name_byte b h = grind (arith, common_steps)

front_is : (b : ℕ) (w : List ℕ) → is_blank b ≡ false → without_blanks (b ∷ w) ≡ b ∷ w
front_is b w h = ap (λ c. if c then without_blanks w else b ∷ w) h

at_name : (n : ℕ) (w : List ℕ) → HasForm Name (take n w)
    → (without_blanks w ≡ w) × (is_name_start (slice_index w 0) ≡ true)
at_name zero w h = absurd h
at_name (suc n) [] h = absurd h
at_name (suc n) (b ∷ w) h = (front_is b w (solid_name b h.0), h.0)

at_sign : (n : ℕ) (w more : List ℕ) → HasForm (Symbol symbol.Assign) (take n w) → without_blanks w ≡ 51 ∷ more → ⊥
at_sign zero w more h e = absurd cc
at_sign (suc n) [] more h e = absurd cc
at_sign (suc n) (b ∷ w) more h e =
    let is : b ≡ 61 = cc in
    let solid : is_blank b ≡ false = ap is_blank is in
    let digit : b ∷ w ≡ 51 ∷ more = sym (front_is b w solid) ∙ e in
    let same : b ≡ 51 = cc in
    omega arith

after_word : (rest : List ℕ) → begins_blank rest ≡ true → prefix_len is_name_byte rest ≡ 0
after_word [] h = refl
after_word (b ∷ rest) h = ap (λ c. cond c (1 + prefix_len is_name_byte rest) 0) (no_name_byte b h)

seven : (rest : List ℕ) → begins_blank rest ≡ true → prefix_len is_name_byte (codes "version" ++ rest) ≡ 7
seven rest h = ap (λ n. 1 + (1 + (1 + (1 + (1 + (1 + (1 + n))))))) (after_word rest h)

form_of : (w : List ℕ) (k : TokenKind) (n : ℕ) → (k ≡ Bad → ⊥) → IsFirstToken w k n → HasForm k (take n w)
form_of w k n other (inl l) = l.form
form_of w k n other (inr b) = absurd (other b.bad)

sign_kind : (k : TokenKind) (bytes : List ℕ) (s : SymbolType) → word_for k bytes ≡ sign s → k ≡ Symbol s
sign_kind (Symbol x) bytes s h = let same : x ≡ s = cc in ap Symbol same
sign_kind x bytes s h = cc

-- the first word ends before the blank
by_first : (text : List ℕ) (t : Token) → SaysThree text → t.kind ≡ Name → 0 ≤ t.from → AreBlank text 0 t.from
    → t.from < t.to → IsFirstToken (drop t.from text) t.kind (t.to - t.from)
    → (more : List ℕ) × (without_blanks (drop t.to text) ≡ 51 ∷ more)
by_first text t s is le blank some first =
    let w = drop t.from text in
    let n = t.to - t.from in
    let name : IsFirstToken w Name n = subst (λ k. IsFirstToken w k n) is first in
    let at = at_name n w (form_of w Name n (λ e. cc) name) in
    let word : w ≡ codes "version" ++ s.rest = sym at.0 ∙ sym (before_token text 0 t.from le blank) ∙ s.word in
    let size : n ≡ 7 = (first_once w Name Name n (prefix_len is_name_byte w) name (inl (longest_name w at.1))).1
    ∙ ap (prefix_len is_name_byte) word ∙ seven s.rest s.apart in
    let far : t.from + 7 ≡ t.to = omega arith in
    let rest : drop t.to text ≡ s.rest = sym (drop-drop 7 t.from text ∙ ap (λ i. drop i text) far) ∙ ap (drop 7) word in
    (s.more, ap without_blanks rest ∙ s.digit)

by_second : (text : List ℕ) (a : ℕ) (t : Token) (more : List ℕ) → t.kind ≡ Symbol symbol.Assign → a ≤ t.from
    → AreBlank text a t.from → IsFirstToken (drop t.from text) t.kind (t.to - t.from)
    → without_blanks (drop a text) ≡ 51 ∷ more → ⊥
by_second text a t more is le blank first digit =
    let w = drop t.from text in
    let n = t.to - t.from in
    let assign : IsFirstToken w (Symbol symbol.Assign) n = subst (λ k. IsFirstToken w k n) is first in
    at_sign n w more (form_of w (Symbol symbol.Assign) n (λ e. cc) assign)
    (sym (before_token text a t.from le blank) ∙ digit)

-- a text that says version 3 begins no job
pub begins_none : (text w : List ℕ) (ts : List Token) (n : ℕ) (vs : List Word) → SaysThree text → CutBetween text 0 ts n
    → named w ∷ sign symbol.Assign ∷ vs ≡ words_of text ts → ⊥
begins_none text w [] n vs s cut e = absurd cc
begins_none text w (t ∷ []) n vs s cut e = absurd cc
begins_none text w (t ∷ u ∷ ts) n vs s cut e =
    let first : word_for t.kind (token_text text t) ≡ named w = cc in
    let second : word_for u.kind (token_text text u) ≡ sign symbol.Assign = cc in
    let after = by_first text t s (named_kind t.kind (token_text text t) w first) cut.0 cut.1 cut.2 cut.3 in
    by_second text t.to u after.0 (sign_kind u.kind (token_text text u) symbol.Assign second) cut.4.0 cut.4.1 cut.4.3
    after.1

-- ---- a file of jobs

no_job : (s : Scope) (text : List ℕ) (j : AbstractJob) → SaysThree text → IsRead s text (Ok j) → ⊥
no_job s text j says (verdict.long a) = let no_job = a.refused in absurd cc
no_job s text j says (verdict.outside a) = let no_job = a.refused in absurd cc
no_job s text j says (verdict.inside a) =
    begins_none text a.job.name a.tokens (length text) (pieces_words (job_pieces a.job)) says a.cut a.is.spelled.spelled

no_jobs : (version : ℕ) (columns : List NamedColumn) (jobs : List AbstractJob) (t : JobText) (ts : List JobText)
    → SaysThree t.text → AreJobsRead version columns [] (t ∷ ts) (Ok jobs) → ⊥
no_jobs version columns jobs t ts says (inl h) = let refused = h.2 in absurd cc
no_jobs version columns jobs t ts says (inr (j, inl h, rest)) = let refused = h.1 in absurd cc
no_jobs version columns jobs t ts says (inr (j, inr h, rest)) =
    no_job (scope_below version columns []) t.text j says h.1

-- a file that says version 3 is no file of jobs where 2 is the newest
pub no_earlier : (bytes : List ℕ) (columns : List NamedColumn) (jobs : List AbstractJob) → version_within 3 bytes ≡ 3
    → SpellsJobs bytes columns jobs → ⊥
no_earlier bytes columns jobs is h =
    let b = begins_three bytes is in
    no_jobs (version_of bytes) columns jobs b.first b.others b.says
    (subst (λ texts. AreJobsLeft (version_of bytes) columns [] texts (Ok jobs)) b.is h)

by_later : (bytes : List ℕ) (columns : List NamedColumn) (jobs : List AbstractJob)
    → AreAlike (version_within 3 bytes) (version_of bytes) (job_texts_within 3 bytes) (job_texts_of bytes)
    → SpellsJobs bytes columns jobs → SpellsJobsWithin 3 bytes columns jobs
by_later bytes columns jobs (inl is) h = absurd (no_earlier bytes columns jobs is h)
by_later bytes columns jobs (inr (version, texts)) h =
    subst (λ t. AreJobsLeft (version_within 3 bytes) columns [] t (Ok jobs)) (sym texts)
    (subst (λ v. AreJobsLeft v columns [] (job_texts_of bytes) (Ok jobs)) (sym version) h)

pub reads_more : (bytes : List ℕ) (columns : List NamedColumn) (jobs : List AbstractJob) → SpellsJobs bytes columns jobs
    → SpellsJobsWithin 3 bytes columns jobs
reads_more bytes columns jobs h = by_later bytes columns jobs (alike bytes) h
