-- A job whose items are rows has a column among its sources.
use Rattle.std.proofs.Common.{◌≡◌, inl, inr, ℕ, ◌+◌, ℤ, Bool, true, false, List, [], ◌∷◌, ◌++◌, length, Option, Some}
use Rattle.std.proofs.Common.{None, Result, Ok, Err, refl, sym, ap, subst, ◌∙◌}
use Rattle.std.specs.Prelude.{◌||◌, ◌==◌, if◌then◌else◌}
use Rattle.stream_tokens.specs.CutTexts.{TokenizedText}
use Rattle.tables.specs.Table.{cells_named}
use Rattle.lambda_expr.specs.Words.{Word}
use Rattle.job_language.specs.declared.fault.Cause.{Cause}
use Rattle.job_language.specs.declared.operation.Operation.{Operation}
use Rattle.job_language.specs.declared.operation.Operation.TheVariants as operation
use Rattle.job_language.specs.declared.operation.Param.TheVariants as param
use Rattle.job_language.specs.Arguments.{PlacedCall, IsArgumentRead, IsReadBy, column_answer, key_answer, key_in}
use Rattle.job_language.specs.Calls.{Call}
use Rattle.job_language.specs.Causes.{Scope, early_causes, first_cause, goes_over_rows, is_column as is_column_call}
use Rattle.job_language.specs.Causes.{is_one_column, numbers_of, stage_cause}
use Rattle.job_language.specs.Grammar.{Job, Piece, call, begin_concat, owner, comma, close, dot, semicolon, calls_of}
use Rattle.job_language.specs.Grammar.{piece_words, source_pieces}
use Rattle.job_language.specs.Jobs.{AbstractJob, AbstractPlainSource, AbstractTerminal, values}
use Rattle.job_language.specs.Rows.{AbstractCall, Argument, column, fallback, nothing, source, stage, terminal}
use Rattle.job_language.specs.Table.{built_of, role_of}
use Rattle.job_language.specs.Verdicts.{AreRead, BegunJob, IsNextCall, IsReadAfter, IsReadInTurn, added, below_terminal}
use Rattle.job_language.specs.Verdicts.{finished_by, job_named, placed, placed_calls}
use Rattle.report_merge.specs.Cuts.{AreBare}
use Rattle.report_merge.specs.Mergeable.{is_column, reads_column}
use Rattle.report_merge.proofs.ColumnLemmas.{bare_cells}

-- ---- the first call

-- the first of these calls is of `column`
abbrev BeginsWithColumn : List PlacedCall → Type 0
BeginsWithColumn [] = ⊥
BeginsWithColumn (c ∷ cs) = c.call.operation ≡ operation.Column

is_column_operation : (o : Operation) → is_column_call o ≡ true → o ≡ operation.Column
is_column_operation operation.Column h = refl
is_column_operation o h = absurd cc

one_call : (c : Call) (cs : List Call) → is_one_column (c ∷ cs) ≡ true → c.operation ≡ operation.Column
one_call c [] h = is_column_operation c.operation h
one_call c (d ∷ cs) h = absurd (let z : false ≡ true = h in cc)

pieces_begin : (n : ℕ) (ps qs : List Piece) → is_one_column (calls_of ps) ≡ true
    → BeginsWithColumn (placed n (ps ++ qs))
pieces_begin n [] qs h = absurd (let z : false ≡ true = h in cc)
pieces_begin n (call c ∷ ps) qs h = one_call c (calls_of ps) h
pieces_begin n (begin_concat ∷ ps) qs h = pieces_begin (n + length (piece_words begin_concat)) ps qs h
pieces_begin n (owner ∷ ps) qs h = pieces_begin (n + length (piece_words owner)) ps qs h
pieces_begin n (comma ∷ ps) qs h = pieces_begin (n + length (piece_words comma)) ps qs h
pieces_begin n (close ∷ ps) qs h = pieces_begin (n + length (piece_words close)) ps qs h
pieces_begin n (dot ∷ ps) qs h = pieces_begin (n + length (piece_words dot)) ps qs h
pieces_begin n (semicolon ∷ ps) qs h = pieces_begin (n + length (piece_words semicolon)) ps qs h

-- ---- what it builds, over columns without cells

-- a column without cells
abbrev IsBareColumn : AbstractCall → Type 0
IsBareColumn g = g ≡ source (values [])

same_call : (f g : AbstractCall) → ◌≡◌ {A = Result AbstractCall Cause} (Ok f) (Ok g) → f ≡ g
same_call f g h = cc

-- what a column is built of
of_argument : (a b : Argument) (ks : List ℤ) (g : AbstractCall) → ◌≡◌ {A = Result Argument Cause} (Ok b) (Ok a)
    → built_of operation.Column a ks ≡ Ok g → built_of operation.Column b ks ≡ Ok g
of_argument a b ks g h is = let now : b ≡ a = cc in ap (λ (x : Argument). built_of operation.Column x ks) now ∙ is

of_nothing : (ks : List ℤ) (g : AbstractCall) → built_of operation.Column nothing ks ≡ Ok g → IsBareColumn g
of_nothing ks g is = absurd cc

-- a job with more sources has the columns that it had
more_sources : (ss : List AbstractPlainSource) (s : AbstractPlainSource) → reads_column ss ≡ true
    → reads_column (ss ++ s ∷ []) ≡ true
more_sources [] s h = absurd (let z : false ≡ true = h in cc)
more_sources (r ∷ ss) s h = by_first (is_column r) (reads_column ss) (reads_column (ss ++ s ∷ [])) (more_sources ss s) h
  where
    by_first : (a b c : Bool) → (b ≡ true → c ≡ true) → (a || b) ≡ true → (a || c) ≡ true
    by_first true b c k h = refl
    by_first false b c k h = k h

added_kept : (j : BegunJob) (g : AbstractCall) → reads_column j.sources ≡ true → reads_column (added j g).sources ≡ true
added_kept j (source s) h = more_sources j.sources s h
added_kept j (stage g) h = h
added_kept j (terminal d) h = h
added_kept j (fallback z) h = h

module _ (s : Scope) (bare : AreBare s.columns) (t : TokenizedText) where
  of_cells : (w : List ℕ) (o : Option (List ℤ)) (ks : List ℤ) (a : Argument) (g : AbstractCall)
      → cells_named w s.columns ≡ o → column_answer o ≡ Ok a → built_of operation.Column a ks ≡ Ok g → IsBareColumn g
  of_cells w None ks a g e h is = absurd cc
  of_cells w (Some vs) ks a g e h is =
      sym (same_call (source (values vs)) g (of_argument a (column vs) ks g h is))
      ∙ ap (λ (us : List ℤ). source (values us)) (bare_cells s.columns bare w vs e)

  of_key : (o : Option (List ℕ)) (ks : List ℤ) (a : Argument) (g : AbstractCall) → key_answer s o ≡ Ok a
      → built_of operation.Column a ks ≡ Ok g → IsBareColumn g
  of_key None ks a g h is = of_nothing ks g (of_argument a nothing ks g h is)
  of_key (Some w) ks a g h is = of_cells w (cells_named w s.columns) ks a g refl h is

  -- a column is read by its key, with decimal places and without
  by_key : (b : Bool) (xs : List (List Word)) (bytes : List ℕ) (a : Argument)
      → IsReadBy (if b then param.Text else param.Places) s xs bytes (Ok a) → key_answer s (key_in xs) ≡ Ok a
  by_key true xs bytes a h = h
  by_key false xs bytes a h = h

  abbrev column_call : ℕ → List (List Word) → PlacedCall
  column_call opened parts = record { opened = opened; call = record { operation = operation.Column; parts = parts } }

  of_parts : (opened : ℕ) (parts : List (List Word)) (ks : List ℤ) (a : Argument) (g : AbstractCall)
      → IsArgumentRead s t (column_call opened parts) (Ok a) → built_of operation.Column a ks ≡ Ok g → IsBareColumn g
  of_parts opened [] ks a g h is = of_nothing ks g (of_argument a nothing ks g h is)
  of_parts opened (p ∷ ps) ks a g h is = of_key (key_in (p ∷ ps)) ks a g (by_key (length ps == 0) (p ∷ ps) _ a h) is

  of_after : (o : Option Cause) (opened : ℕ) (parts : List (List Word)) (g : AbstractCall)
      → IsReadAfter o s t (column_call opened parts) (Ok g) → IsBareColumn g
  of_after (Some e) opened parts g h = absurd cc
  of_after None opened parts g (Err e, read, is) = absurd cc
  of_after None opened parts g (Ok a, read, is) =
      of_parts opened parts (numbers_of operation.Column (length parts) 0 parts) a g read is

  of_turn : (o : Option Cause) (opened : ℕ) (parts : List (List Word)) (g : AbstractCall)
      → IsReadInTurn o s t (column_call opened parts) (Ok g) → IsBareColumn g
  of_turn (Some e) opened parts g h = absurd cc
  of_turn None opened parts g h = of_after (first_cause (early_causes (column_call opened parts).call)) opened parts g h

  below_same : (d : Option AbstractTerminal) (q : Result AbstractCall Cause) (g : AbstractCall)
      → ((f : AbstractCall) → q ≡ Ok f → IsBareColumn f) → below_terminal d q ≡ Ok g → IsBareColumn g
  below_same d (Err e) g h is = absurd cc
  below_same d (Ok f) g h is =
      let here : f ≡ source (values []) = h f refl in
      let now : below_terminal d (Ok (source (values []))) ≡ Ok g =
      ap (λ (x : AbstractCall). below_terminal d (Ok x)) (sym here) ∙ is in
      sym (same_call (source (values [])) g now)

  of_next : (j : BegunJob) (opened : ℕ) (parts : List (List Word)) (g : AbstractCall)
      → IsNextCall j s t (column_call opened parts) (Ok g) → IsBareColumn g
  of_next j opened parts g (q, turn, is) =
      let o = stage_cause (length j.stages) (role_of operation.Column) in
      below_same j.terminal q g (λ f same. of_turn o opened parts f
      (subst (λ (r : Result AbstractCall Cause). IsReadInTurn o s t (column_call opened parts) r) same turn)) is

  next_is : (j : BegunJob) (c : PlacedCall) (g : AbstractCall) → c.call.operation ≡ operation.Column
      → IsNextCall j s t c (Ok g) → IsBareColumn g
  next_is j c g same next = of_next j c.opened c.call.parts g
      (subst (λ (o : Operation). IsNextCall j s t
      (record { opened = c.opened; call = record { operation = o; parts = c.call.parts } }) (Ok g)) same next)

  -- ---- the job

  ended : (j : BegunJob) (d : Option AbstractTerminal) (job : AbstractJob) → reads_column j.sources ≡ true
      → finished_by s j d ≡ Ok job → reads_column job.sources ≡ true
  ended j None job h is = absurd cc
  ended j (Some d) job h is = sources_of_job job _ is ∙ h
    where
      sources_of_job : (job b : AbstractJob) → ◌≡◌ {A = Result AbstractJob Cause} (Ok b) (Ok job)
          → reads_column job.sources ≡ reads_column b.sources
      sources_of_job job b e = let now : b ≡ job = cc in sym (ap (λ (x : AbstractJob). reads_column x.sources) now)

  kept : (cs : List PlacedCall) (j : BegunJob) (job : AbstractJob) → reads_column j.sources ≡ true
      → AreRead s t j cs (Ok job) → reads_column job.sources ≡ true
  kept [] j job h is = ended j j.terminal job h is
  kept (c ∷ cs) j job h (inl (e, read, is)) = absurd cc
  kept (c ∷ cs) j job h (inr (g, read, is)) = kept cs (added j g) job (added_kept j g h) is

  begun : (name : List ℕ) (cs : List PlacedCall) (job : AbstractJob) → BeginsWithColumn cs
      → AreRead s t (job_named name) cs (Ok job) → reads_column job.sources ≡ true
  begun name [] job h is = absurd h
  begun name (c ∷ cs) job h (inl (e, read, is)) = absurd cc
  begun name (c ∷ cs) job h (inr (g, read, is)) =
      kept cs (added (job_named name) g) job
      (ap (λ (f : AbstractCall). reads_column (added (job_named name) f).sources)
      (next_is (job_named name) c g h read)) is

  pub rows_have_columns : (j : Job) (job : AbstractJob) → goes_over_rows j ≡ true
      → AreRead s t (job_named j.name) (placed_calls j) (Ok job) → reads_column job.sources ≡ true
  rows_have_columns j job h is = begun j.name (placed_calls j) job (pieces_begin 2 (source_pieces j.source) _ h) is
