-- The jobs that bytes spell with one list of columns and with another differ in the cells alone.
use Rattle.std.proofs.Common.{◌≡◌, inl, inr, ℕ, ℤ, Bool, true, false, List, [], ◌∷◌, ◌++◌, length, Option, Some, None}
use Rattle.std.proofs.Common.{Result, Ok, Err, refl, sym, ap, subst, ◌∙◌}
use Rattle.std.specs.Prelude.{map, ◌&&◌, if◌then◌else◌}
use Rattle.stream_tokens.specs.declared.job_text.JobText.{JobText}
use Rattle.stream_tokens.specs.declared.job_text.TextFault.{TextFault}
use Rattle.stream_tokens.specs.declared.job_text.TextFault.TheVariants as text
use Rattle.stream_tokens.specs.CutTexts.{TokenizedText}
use Rattle.stream_tokens.specs.JobTexts.{job_texts_within, version_within}
use Rattle.stream_tokens.proofs.CutLemmas.{same_tokens}
use Rattle.lambda_expr.specs.Words.{Word, words_of}
use Rattle.lambda_expr.proofs.OneAnswer.{Outcome, many, outside, judged, one_outcome}
use Rattle.lambda_expr.specs.declared.fault.ReadFault.{ReadFault}
use Rattle.lambda_expr.specs.declared.fault.ReadFault.TheVariants as fault
use Rattle.lambda_expr.specs.declared.want.Want.{Want}
use Rattle.lambda_expr.specs.declared.want.Want.TheVariants as want
use Rattle.lambda_values.specs.Lambda.{AbstractLambda}
use Rattle.tables.specs.Table.{NamedColumn, cells_named}
use Rattle.reduce_ops.specs.declared.op.Op.{Op}
use Rattle.job_language.specs.declared.fault.Cause.{Cause}
use Rattle.job_language.specs.declared.fault.Cause.TheVariants as cause
use Rattle.job_language.specs.declared.operation.Operation.{Operation}
use Rattle.job_language.specs.declared.operation.Operation.TheVariants as operation
use Rattle.job_language.specs.declared.operation.Param.{Param}
use Rattle.job_language.specs.declared.operation.Param.TheVariants as param
use Rattle.job_language.specs.Arguments.{PlacedCall, IsArgumentRead, IsLambdaRead, IsOperatorRead, IsOutcome, IsReadBy}
use Rattle.job_language.specs.Arguments.{after_names, argument_of, argument_text, column_answer, key_answer, key_in}
use Rattle.job_language.specs.Arguments.{lambda_answer, last_param, last_part, listed, name_answer, named_causes}
use Rattle.job_language.specs.Arguments.{reads_cells}
use Rattle.job_language.specs.Causes.{Earlier, Scope, causes_of, early_causes, first_cause, goes_over_rows, numbers_of}
use Rattle.job_language.specs.Causes.{stage_cause}
use Rattle.job_language.specs.Files.{AreJobsLeft, AreJobsRead, IsNext, SpellsJobsWithin, scope_below}
use Rattle.job_language.specs.Grammar.{IsJob, Job}
use Rattle.job_language.specs.Jobs.{AbstractJob, AbstractJobStage, AbstractPlainSource, AbstractTerminal, values}
use Rattle.job_language.specs.Operators.{is_add_exact, spelled_op}
use Rattle.job_language.specs.Rows.{AbstractCall, Argument, column as column_cells, exact, fallback, nothing, source}
use Rattle.job_language.specs.Rows.{stage, terminal}
use Rattle.job_language.specs.Table.{built_of, name_in, role_of}
use Rattle.job_language.specs.Verdicts.{AreRead, BegunJob, IsInside, IsJobRead, IsNextCall, IsRead, IsReadAfter}
use Rattle.job_language.specs.Verdicts.{IsReadInTurn, added, below_terminal, call_answer, earlier_of, finished_by}
use Rattle.job_language.specs.Verdicts.{job_named, placed_calls, table_of}
use Rattle.job_language.specs.Verdicts as verdict
use Rattle.job_language.proofs.ShapeLemmas.{one_spelled}
use Rattle.report_merge.specs.Cuts.{AreBare}
use Rattle.report_merge.specs.Mergeable.{reads_column}
use Rattle.report_merge.proofs.ColumnLemmas.{bare_cells}
use Rattle.report_merge.proofs.RowLemmas.{rows_have_columns}
use Rattle.report_merge.proofs.Written.{Cells, WrittenJob, WrittenSource, all_filled, column, earlier_same, filled}
use Rattle.report_merge.proofs.Written.{filled_more, filled_sources, literal, no_cells, none_named, sources_more}

-- an argument, a call and a job that is being read, as they are written
data WrittenArgument : Type 0 where
  plain_argument : Argument → WrittenArgument
  column_argument : List ℕ → WrittenArgument

abbrev filled_argument : Cells → WrittenArgument → Argument
filled_argument g (plain_argument a) = a
filled_argument g (column_argument w) = column_cells (g.named w)

data WrittenCall : Type 0 where
  plain_call : AbstractCall → WrittenCall
  column_call : List ℕ → WrittenCall

abbrev filled_call : Cells → WrittenCall → AbstractCall
filled_call g (plain_call c) = c
filled_call g (column_call w) = source (values (g.named w))

record WrittenBegun : Type 0 where
  name : List ℕ
  sources : List WrittenSource
  stages : List AbstractJobStage
  terminal : Option AbstractTerminal
  on_fault : Option ℤ

abbrev filled_begun : Cells → WrittenBegun → BegunJob
filled_begun g j = record {
  name = j.name;
  sources = filled_sources g.named j.sources;
  stages = j.stages;
  terminal = j.terminal;
  on_fault = j.on_fault;
}

-- these are the columns, and the cells under each name that they have
pub record Agree (columns : List NamedColumn) (g : Cells) : Type 0 where
  pub cells : (w : List ℕ) (vs : List ℤ) → cells_named w columns ≡ Some vs → vs ≡ g.named w
  pub table : columns ≡ g.table

-- ---- a column is read from its name

built_column : (o : Operation) (vs : List ℤ) (ks : List ℤ) (c : AbstractCall) → built_of o (column_cells vs) ks ≡ Ok c
    → c ≡ source (values vs)
built_column operation.Column vs ks c h = let same : source (values vs) ≡ c = cc in sym same
built_column o vs ks c h = absurd cc

column_same : (w : List ℕ) (columns : List NamedColumn) (g : Cells) → Agree columns g
    → (a : Argument) (o : Option (List ℤ)) → cells_named w columns ≡ o → column_answer o ≡ Ok a
    → a ≡ column_cells (g.named w)
column_same w columns g agree a None e h = absurd cc
column_same w columns g agree a (Some vs) e h =
    let same : column_cells vs ≡ a = cc in
    sym same ∙ ap (λ (us : List ℤ). column_cells us) (agree.cells w vs e)

same_ok : {A E : Type 0} (r : Result A E) (a b : A) → r ≡ Ok a → r ≡ Ok b → b ≡ a
same_ok r a b h k = let both : Ok a ≡ Ok b = sym h ∙ k in let same : a ≡ b = cc in sym same

to_outcome : (cells : Bool) (bytes : List ℕ) (w : Want) (o : Result AbstractLambda ReadFault)
    → IsOutcome cells bytes w o → Outcome cells bytes w o
to_outcome cells bytes w (Ok l) j = judged j
to_outcome cells bytes w (Err (fault.Syntax at)) h = outside at h refl
to_outcome cells bytes w (Err fault.TooDeep) (inl m) = many m refl
to_outcome cells bytes w (Err fault.TooDeep) (inr j) = judged j
to_outcome cells bytes w (Err fault.LiteralTooLarge) j = judged j
to_outcome cells bytes w (Err fault.UnknownName) j = judged j
to_outcome cells bytes w (Err fault.WrongType) j = judged j
to_outcome cells bytes w (Err fault.NoMemory) h = absurd h

-- helper: what a lambda gives, if its names are there
abbrev named_as : Result AbstractLambda ReadFault → Result Argument Cause
named_as (Ok l) = argument_of l
named_as (Err f) = Err (cause.Expr f)

module _ (version : ℕ) (rows : Bool) (earlier : List Earlier) where
  -- what may be named with these columns
  abbrev scope_with : List NamedColumn → Scope
  scope_with columns = record { version = version; rows = rows; jobs = earlier; columns = columns }

  all_there : (o : Option Cause) (l : AbstractLambda) (a : Argument) → after_names o l ≡ Ok a → argument_of l ≡ Ok a
  all_there None l a h = h
  all_there (Some e) l a h = absurd cc

  names_there : (cs : List NamedColumn) (o : Result AbstractLambda ReadFault) (a : Argument)
      → lambda_answer (scope_with cs) o ≡ Ok a → named_as o ≡ Ok a
  names_there cs (Err f) a h = absurd cc
  names_there cs (Ok l) a h = all_there (first_cause (named_causes (scope_with cs) l)) l a h

  one_lambda : (cs ds : List NamedColumn) (bytes : List ℕ) (w : Want) (a b : Argument)
      → IsLambdaRead (scope_with cs) bytes w (Ok a) → IsLambdaRead (scope_with ds) bytes w (Ok b) → b ≡ a
  one_lambda cs ds bytes w a b h k =
      let cells = reads_cells (scope_with cs) in
      same_ok (named_as k.0) a b
      (ap named_as (one_outcome cells bytes w k.0 h.0 (to_outcome cells bytes w k.0 k.1)
      (to_outcome cells bytes w h.0 h.1)) ∙ names_there cs h.0 a h.2)
      (names_there ds k.0 b k.2)

  one_operator : (cs ds : List NamedColumn) (t : Bool) (o : Option (Option Op)) (bytes : List ℕ) (a b : Argument)
      → IsOperatorRead t o (scope_with cs) bytes (Ok a) → IsOperatorRead t o (scope_with ds) bytes (Ok b) → b ≡ a
  one_operator cs ds true o bytes a b h k = same_ok (Ok exact) a b h k
  one_operator cs ds false (Some f) bytes a b h k = same_ok (listed f) a b h k
  one_operator cs ds false None bytes a b h k = one_lambda cs ds bytes want.Pair a b h k

  name_same : (cs ds : List NamedColumn) (o : Option (List ℕ))
      → name_answer (scope_with cs) o ≡ name_answer (scope_with ds) o
  name_same cs ds None = refl
  name_same cs ds (Some w) = refl

  module _ (columns : List NamedColumn) (g : Cells) (agree : Agree columns g) (plain : g.named ≡ none_named) where
    -- a part of a call, with these columns and with any others
    abbrev ArgumentWith : (List NamedColumn → Result Argument Cause → Type 0) → Argument → Type 0
    ArgumentWith Read a = (k : WrittenArgument) × (a ≡ filled_argument g k)
        × ((ds : List NamedColumn) (h : Cells) → Agree ds h → (b : Argument) → Read ds (Ok b) → b ≡ filled_argument h k)

    plain_with : (Read : List NamedColumn → Result Argument Cause → Type 0) (a : Argument)
        → ((ds : List NamedColumn) (b : Argument) → Read ds (Ok b) → b ≡ a) → ArgumentWith Read a
    plain_with Read a one = (plain_argument a, refl, λ ds h agrees b read. one ds b read)

    key_with : (a : Argument) (o : Option (List ℕ)) → key_answer (scope_with columns) o ≡ Ok a
        → ArgumentWith (λ ds r. key_answer (scope_with ds) o ≡ r) a
    key_with a None h = plain_with (λ ds r. key_answer (scope_with ds) None ≡ r) a
        (λ ds b k. same_ok (key_answer (scope_with ds) None) a b h k)
    key_with a (Some w) h = (
      column_argument w,
      column_same w columns g agree a (cells_named w columns) refl h,
      λ ds d agrees b k. column_same w ds d agrees b (cells_named w ds) refl k,
    )

    read_with : (p : Param) (xs : List (List Word)) (bytes : List ℕ) (a : Argument)
        → IsReadBy p (scope_with columns) xs bytes (Ok a)
        → ArgumentWith (λ ds r. IsReadBy p (scope_with ds) xs bytes r) a
    read_with param.Number xs bytes a h =
        plain_with (λ ds r. IsReadBy param.Number (scope_with ds) xs bytes r) a (λ ds b k. same_ok (Ok nothing) a b h k)
    read_with param.Text xs bytes a h = key_with a (key_in xs) h
    read_with param.Places xs bytes a h = key_with a (key_in xs) h
    read_with param.Name xs bytes a h = plain_with (λ ds r. IsReadBy param.Name (scope_with ds) xs bytes r) a
        (λ ds b k. same_ok (name_answer (scope_with ds) (name_in (last_part xs))) a b
        (name_same ds columns (name_in (last_part xs)) ∙ h) k)
    read_with param.Long xs bytes a h = plain_with (λ ds r. IsReadBy param.Long (scope_with ds) xs bytes r) a
        (λ ds b k. one_lambda columns ds bytes want.Long a b h k)
    read_with param.Bool xs bytes a h = plain_with (λ ds r. IsReadBy param.Bool (scope_with ds) xs bytes r) a
        (λ ds b k. one_lambda columns ds bytes want.Bool a b h k)
    read_with param.Stream xs bytes a h =
        plain_with (λ ds r. IsReadBy param.Stream (scope_with ds) xs bytes r) a
        (λ ds b k. one_lambda columns ds bytes want.Stream a b h k)
    read_with param.Operator xs bytes a h =
        plain_with (λ ds r. IsReadBy param.Operator (scope_with ds) xs bytes r) a
        (λ ds b k. one_operator columns ds (is_add_exact (last_part xs)) (spelled_op (last_part xs)) bytes a b h k)

    -- a call
    abbrev CallWith : (List NamedColumn → Result AbstractCall Cause → Type 0) → AbstractCall → Type 0
    CallWith Read c = (k : WrittenCall) × (c ≡ filled_call g k)
        × ((ds : List NamedColumn) (h : Cells) → Agree ds h → (b : AbstractCall) → Read ds (Ok b) → b ≡ filled_call h k)

    module _ (t : TokenizedText) (c : PlacedCall) where
      abbrev numbers : List ℤ
      numbers = numbers_of c.call.operation (length c.call.parts) 0 c.call.parts

      -- what is built of an argument
      abbrev BuiltWith : WrittenArgument → AbstractCall → Type 0
      BuiltWith k f = (m : WrittenCall) × (f ≡ filled_call g m)
          × ((h : Cells) (b : AbstractCall) → built_of c.call.operation (filled_argument h k) numbers ≡ Ok b
          → b ≡ filled_call h m)

      built_with : (k : WrittenArgument) (f : AbstractCall)
          → built_of c.call.operation (filled_argument g k) numbers ≡ Ok f → BuiltWith k f
      built_with (plain_argument a) f h =
          (plain_call f, refl, λ d b k. same_ok (built_of c.call.operation a numbers) f b h k)
      built_with (column_argument w) f h = (
        column_call w,
        built_column c.call.operation (g.named w) numbers f h,
        λ d b k. built_column c.call.operation (d.named w) numbers b k,
      )

      built_from : (ds : List NamedColumn) (h : Cells) (k : WrittenArgument) (m : WrittenCall)
          → ((b : Argument) → IsArgumentRead (scope_with ds) t c (Ok b) → b ≡ filled_argument h k)
          → ((b : AbstractCall) → built_of c.call.operation (filled_argument h k) numbers ≡ Ok b → b ≡ filled_call h m)
          → (q : Result Argument Cause) (b : AbstractCall) → IsArgumentRead (scope_with ds) t c q
          → call_answer c.call.operation numbers q ≡ Ok b → b ≡ filled_call h m
      built_from ds h k m same built (Err e) b read is = absurd cc
      built_from ds h k m same built (Ok a) b read is =
          built b (ap (λ (z : Argument). built_of c.call.operation z numbers) (sym (same a read)) ∙ is)

      answer_with : (q : Result Argument Cause) (f : AbstractCall) → IsArgumentRead (scope_with columns) t c q
          → call_answer c.call.operation numbers q ≡ Ok f → CallWith (λ ds r. IsReadAfter None (scope_with ds) t c r) f
      answer_with (Err e) f read h = absurd cc
      answer_with (Ok a) f read h =
          let k = read_with (last_param c.call.operation c.call.parts) c.call.parts (argument_text t c).bytes a read in
          let m = built_with k.0 f (ap (λ (z : Argument). built_of c.call.operation z numbers) (sym k.1) ∙ h) in
          (m.0, m.1, λ ds d agrees b after. built_from ds d k.0 m.0 (k.2 ds d agrees) (m.2 d) after.0 b after.1 after.2)

      after_with : (o : Option Cause) (f : AbstractCall) → IsReadAfter o (scope_with columns) t c (Ok f)
          → CallWith (λ ds r. IsReadAfter o (scope_with ds) t c r) f
      after_with (Some e) f h = absurd cc
      after_with None f h = answer_with h.0 f h.1 h.2

      turn_with : (o : Option Cause) (f : AbstractCall) → IsReadInTurn o (scope_with columns) t c (Ok f)
          → CallWith (λ ds r. IsReadInTurn o (scope_with ds) t c r) f
      turn_with (Some e) f h = absurd cc
      turn_with None f h = after_with (first_cause (early_causes c.call)) f h

      -- what a call is below a terminal
      below_same : (d : Option AbstractTerminal) (h : Cells) (k : WrittenCall) (f : AbstractCall)
          → below_terminal d (Ok (filled_call g k)) ≡ Ok f
          → (m : WrittenCall) × (f ≡ filled_call g m)
          × ((h : Cells) (b : AbstractCall) → below_terminal d (Ok (filled_call h k)) ≡ Ok b → b ≡ filled_call h m)
      below_same d h (plain_call e) f is = (plain_call f, refl, λ z b k. same_ok (below_terminal d (Ok e)) f b is k)
      below_same d h (column_call w) f is = (
        column_call w,
        same_ok (Ok (source (values (g.named w)))) (source (values (g.named w))) f refl is,
        λ z b k. same_ok (Ok (source (values (z.named w)))) (source (values (z.named w))) b refl k,
      )

      next_from : (j : WrittenBegun) (ds : List NamedColumn) (h : Cells) (k m : WrittenCall)
          → ((b : AbstractCall) → IsReadInTurn (stage_cause (length j.stages) (role_of c.call.operation))
          (scope_with ds) t c (Ok b) → b ≡ filled_call h k)
          → ((b : AbstractCall) → below_terminal j.terminal (Ok (filled_call h k)) ≡ Ok b → b ≡ filled_call h m)
          → (q : Result AbstractCall Cause) (b : AbstractCall)
          → IsReadInTurn (stage_cause (length j.stages) (role_of c.call.operation)) (scope_with ds) t c q
          → below_terminal j.terminal q ≡ Ok b → b ≡ filled_call h m
      next_from j ds h k m same below (Err e) b read is = absurd cc
      next_from j ds h k m same below (Ok f) b read is =
          below b (ap (λ (z : AbstractCall). below_terminal j.terminal (Ok z)) (sym (same f read)) ∙ is)

      next_answer : (j : WrittenBegun) (q : Result AbstractCall Cause) (f : AbstractCall)
          → IsReadInTurn (stage_cause (length j.stages) (role_of c.call.operation)) (scope_with columns) t c q
          → below_terminal j.terminal q ≡ Ok f
          → (k : WrittenCall) × (f ≡ filled_call g k)
          × ((ds : List NamedColumn) (h : Cells) → Agree ds h → (b : AbstractCall)
          → IsNextCall (filled_begun h j) (scope_with ds) t c (Ok b) → b ≡ filled_call h k)
      next_answer j (Err e) f read h = absurd cc
      next_answer j (Ok e) f read h =
          let k = turn_with (stage_cause (length j.stages) (role_of c.call.operation)) e read in
          let m = below_same j.terminal g k.0 f
          (ap (λ (z : AbstractCall). below_terminal j.terminal (Ok z)) (sym k.1) ∙ h) in
          (m.0, m.1, λ ds d agrees b next. next_from j ds d k.0 m.0 (k.2 ds d agrees) (m.2 d) next.0 b next.1 next.2)

    -- a job
    -- whether its items are rows
    abbrev over_rows : Bool
    over_rows = reads_cells (scope_with columns) && rows

    table_same : (ss : List WrittenSource) (ds : List NamedColumn) (h : Cells) → ds ≡ h.table
        → (over_rows ≡ true → reads_column (filled_sources none_named ss) ≡ true)
        → table_of (scope_with ds) ≡ (if over_rows && reads_column (filled_sources none_named ss) then h.table else [])
    table_same ss ds h same over = by_rows over_rows (reads_column (filled_sources none_named ss)) over
        ∙ ap (λ (t : List NamedColumn). if over_rows && reads_column (filled_sources none_named ss) then t else []) same
      where
        by_rows : (a b : Bool) → (a ≡ true → b ≡ true) → (if a then ds else []) ≡ (if a && b then ds else [])
        by_rows true b k = ap (λ (t : Bool). if t then ds else []) (sym (k refl))
        by_rows false b k = refl

    abbrev written_of : WrittenBegun → AbstractTerminal → WrittenJob
    written_of j d = record {
      name = j.name;
      sources = j.sources;
      stages = j.stages;
      terminal = d;
      on_fault = j.on_fault;
      rows = over_rows;
    }

    abbrev job_over : WrittenBegun → AbstractTerminal → Cells → List NamedColumn → AbstractJob
    job_over j d h t = record {
      name = j.name;
      sources = filled_sources h.named j.sources;
      stages = j.stages;
      terminal = d;
      on_fault = j.on_fault;
      table = t;
    }

    finished_is : (j : WrittenBegun) (d : AbstractTerminal) (ds : List NamedColumn) (h : Cells) (b : AbstractJob)
        → ds ≡ h.table → (over_rows ≡ true → reads_column (filled_sources none_named j.sources) ≡ true)
        → finished_by (scope_with ds) (filled_begun h j) (Some d) ≡ Ok b → b ≡ filled h (written_of j d)
    finished_is j d ds h b same over is =
        let now : job_over j d h (table_of (scope_with ds)) ≡ b = cc in
        sym now ∙ ap (job_over j d h) (table_same j.sources ds h same over)

    -- the job that is read has a column among its sources if its items are rows
    finished_with : (j : WrittenBegun) (d : Option AbstractTerminal) (job : AbstractJob)
        → (over_rows ≡ true → reads_column job.sources ≡ true)
        → finished_by (scope_with columns) (filled_begun g j) d ≡ Ok job
        → (k : WrittenJob) × (job ≡ filled g k)
        × ((ds : List NamedColumn) (h : Cells) → Agree ds h → (b : AbstractJob)
        → finished_by (scope_with ds) (filled_begun h j) d ≡ Ok b → b ≡ filled h k)
    finished_with j None job over h = absurd cc
    finished_with j (Some d) job over h =
        let now : job_over j d g (table_of (scope_with columns)) ≡ job = cc in
        let sources : job.sources ≡ filled_sources none_named j.sources =
        sym (ap (λ (b : AbstractJob). b.sources) now)
        ∙ ap (λ (n : List ℕ → List ℤ). filled_sources n j.sources) plain in
        let there : (over_rows ≡ true → reads_column (filled_sources none_named j.sources) ≡ true) =
        λ e. sym (ap reads_column sources) ∙ over e in (
          written_of j d,
          finished_is j d columns g job agree.table there h,
          λ ds z agrees b is. finished_is j d ds z b agrees.table there is,
        )

    -- with one more call
    abbrev with_call : WrittenBegun → WrittenCall → WrittenBegun
    with_call j (column_call w) = record j { sources = j.sources ++ column w ∷ [] }
    with_call j (plain_call (source s)) = record j { sources = j.sources ++ literal s ∷ [] }
    with_call j (plain_call (stage f)) = record j { stages = j.stages ++ f ∷ [] }
    with_call j (plain_call (terminal d)) = record j { terminal = Some d }
    with_call j (plain_call (fallback z)) = record j { on_fault = Some z }

    abbrev with_sources : WrittenBegun → List AbstractPlainSource → BegunJob
    with_sources j ss = record {
      name = j.name;
      sources = ss;
      stages = j.stages;
      terminal = j.terminal;
      on_fault = j.on_fault;
    }

    added_with : (h : Cells) (j : WrittenBegun) (k : WrittenCall)
        → added (filled_begun h j) (filled_call h k) ≡ filled_begun h (with_call j k)
    added_with h j (column_call w) = ap (with_sources j) (sym (sources_more h.named j.sources (column w)))
    added_with h j (plain_call (source s)) = ap (with_sources j) (sym (sources_more h.named j.sources (literal s)))
    added_with h j (plain_call (stage f)) = refl
    added_with h j (plain_call (terminal d)) = refl
    added_with h j (plain_call (fallback z)) = refl

    abbrev JobWith : (List NamedColumn → Cells → AbstractJob → Type 0) → AbstractJob → Type 0
    JobWith Read job = (k : WrittenJob) × (job ≡ filled g k)
        × ((ds : List NamedColumn) (h : Cells) → Agree ds h → (b : AbstractJob) → Read ds h b → b ≡ filled h k)

    calls_from : (t : TokenizedText) (c : PlacedCall) (cs : List PlacedCall) (j : WrittenBegun) (k : WrittenJob)
        (m : WrittenCall) (ds : List NamedColumn) (h : Cells) (b : AbstractJob)
        → ((e : AbstractCall) → IsNextCall (filled_begun h j) (scope_with ds) t c (Ok e) → e ≡ filled_call h m)
        → (AreRead (scope_with ds) t (filled_begun h (with_call j m)) cs (Ok b) → b ≡ filled h k)
        → AreRead (scope_with ds) t (filled_begun h j) (c ∷ cs) (Ok b) → b ≡ filled h k
    calls_from t c cs j k m ds h b same rest (inl (e, read, is)) = absurd cc
    calls_from t c cs j k m ds h b same rest (inr (e, read, is)) =
        let now : added (filled_begun h j) e ≡ filled_begun h (with_call j m) =
        ap (added (filled_begun h j)) (same e read) ∙ added_with h j m in
        rest (subst (λ (z : BegunJob). AreRead (scope_with ds) t z cs (Ok b)) now is)

    calls_with : (t : TokenizedText) (cs : List PlacedCall) (j : WrittenBegun) (job : AbstractJob)
        → (over_rows ≡ true → reads_column job.sources ≡ true)
        → AreRead (scope_with columns) t (filled_begun g j) cs (Ok job)
        → JobWith (λ ds h b. AreRead (scope_with ds) t (filled_begun h j) cs (Ok b)) job
    calls_with t [] j job over is = finished_with j j.terminal job over is
    calls_with t (c ∷ cs) j job over (inl (e, read, is)) = absurd cc
    calls_with t (c ∷ cs) j job over (inr (e, read, is)) =
        let m = next_answer t c j read.0 e read.1 read.2 in
        let now : added (filled_begun g j) e ≡ filled_begun g (with_call j m.0) =
        ap (added (filled_begun g j)) m.1 ∙ added_with g j m.0 in
        let rest = calls_with t cs (with_call j m.0) job over
        (subst (λ (z : BegunJob). AreRead (scope_with columns) t z cs (Ok job)) now is) in (
          rest.0,
          rest.1,
          λ ds h agrees b later. calls_from t c cs j rest.0 m.0 ds h b (m.2 ds h agrees)
              (rest.2 ds h agrees b) later,
        )

module _ (version : ℕ) (earlier : List Earlier) (columns : List NamedColumn) (bare : AreBare columns) where
  -- the columns have no cells here
  abbrev g : Cells
  g = no_cells columns

  agree : Agree columns g
  agree = record { cells = bare_cells columns bare; table = refl }

  -- before it is known whether the items of the job are rows
  abbrev scope_of : List NamedColumn → Scope
  scope_of ds = scope_with version false earlier ds

  abbrev TextWith : (List NamedColumn → Cells → AbstractJob → Type 0) → AbstractJob → Type 0
  TextWith Read job = (k : WrittenJob) × (job ≡ filled g k)
      × ((ds : List NamedColumn) (h : Cells) → Agree ds h → (b : AbstractJob) → Read ds h b → b ≡ filled h k)

  second : (a b : Bool) → (a && b) ≡ true → b ≡ true
  second true b h = h
  second false b h = absurd (let z : false ≡ true = h in cc)

  job_with : (o : Option Cause) (t : TokenizedText) (j : Job) (job : AbstractJob)
      → IsJobRead o (scope_of columns) t j (Ok job) → TextWith (λ ds h b. IsJobRead o (scope_of ds) t j (Ok b)) job
  job_with (Some e) t j job is = absurd cc
  job_with None t j job is =
      let rows = goes_over_rows j in
      let scope = scope_with version rows earlier columns in
      calls_with version rows earlier columns g agree refl t (placed_calls j)
      (record { name = j.name; sources = []; stages = []; terminal = None; on_fault = None }) job
      (λ over. rows_have_columns scope bare t j job (second (reads_cells scope) rows over) is) is

  inside_same : (bytes : List ℕ) (ds : List NamedColumn) (job b : AbstractJob)
      (x : IsInside (scope_of columns) bytes (Ok job)) → IsInside (scope_of ds) bytes (Ok b)
      → IsJobRead (first_cause (causes_of (scope_of ds) x.job)) (scope_of ds)
      (record { bytes = bytes; tokens = x.tokens }) x.job (Ok b)
  inside_same bytes ds job b x y =
      let same : y.tokens ≡ x.tokens = same_tokens bytes 0 y.tokens x.tokens (length bytes) y.cut x.cut in
      let is : IsJob (words_of bytes x.tokens) y.job = subst (λ ts. IsJob (words_of bytes ts) y.job) same y.is in
      let one : y.job ≡ x.job = one_spelled (words_of bytes x.tokens) y.job x.job is.spelled x.is.spelled in
      let there = subst (λ ts. IsJobRead (first_cause (causes_of (scope_of ds) y.job)) (scope_of ds)
      (record { bytes = bytes; tokens = ts }) y.job (Ok b)) same y.read in
      subst (λ j. IsJobRead (first_cause (causes_of (scope_of ds) j)) (scope_of ds)
      (record { bytes = bytes; tokens = x.tokens }) j (Ok b)) one there

  text_from : (bytes : List ℕ) (job : AbstractJob) (x : IsInside (scope_of columns) bytes (Ok job)) (k : WrittenJob)
      (ds : List NamedColumn) (h : Cells) (b : AbstractJob)
      → (IsJobRead (first_cause (causes_of (scope_of columns) x.job)) (scope_of ds)
      (record { bytes = bytes; tokens = x.tokens }) x.job (Ok b) → b ≡ filled h k)
      → IsRead (scope_of ds) bytes (Ok b) → b ≡ filled h k
  text_from bytes job x k ds h b same (verdict.long a) = let no_job = a.refused in absurd cc
  text_from bytes job x k ds h b same (verdict.outside a) = let no_job = a.refused in absurd cc
  text_from bytes job x k ds h b same (verdict.inside y) = same (inside_same bytes ds job b x y)

  text_read : (bytes : List ℕ) (job : AbstractJob) → IsRead (scope_of columns) bytes (Ok job)
      → TextWith (λ ds h b. IsRead (scope_of ds) bytes (Ok b)) job
  text_read bytes job (verdict.long a) = let no_job = a.refused in absurd cc
  text_read bytes job (verdict.outside a) = let no_job = a.refused in absurd cc
  text_read bytes job (verdict.inside x) =
      let k = job_with (first_cause (causes_of (scope_of columns) x.job)) (record { bytes = bytes; tokens = x.tokens })
      x.job job x.read in
      (k.0, k.1, λ ds h agrees b read. text_from bytes job x k.0 ds h b (k.2 ds h agrees b) read)

-- ---- the jobs of a file

module _ (version : ℕ) (columns : List NamedColumn) (bare : AreBare columns) where
  -- over the header alone
  abbrev over_header : Cells
  over_header = no_cells columns

  next_from_text : (above : List WrittenJob) (bytes : List ℕ) (k : WrittenJob) (ds : List NamedColumn) (h : Cells)
      (b : AbstractJob)
      → (IsRead (scope_below version ds (all_filled over_header above)) bytes (Ok b) → b ≡ filled h k)
      → IsNext version ds (all_filled h above) bytes (Ok b) → b ≡ filled h k
  next_from_text above bytes k ds h b same (inl x) = let no_job = x.1 in absurd cc
  next_from_text above bytes k ds h b same (inr x) =
      same (subst (λ (js : List Earlier). IsRead (record { version = version; rows = false; jobs = js; columns = ds })
      bytes (Ok b)) (earlier_same h over_header above) x.1)

  next_with : (above : List WrittenJob) (bytes : List ℕ) (job : AbstractJob)
      → IsNext version columns (all_filled over_header above) bytes (Ok job)
      → (k : WrittenJob) × (job ≡ filled over_header k)
      × ((ds : List NamedColumn) (h : Cells) → Agree ds h → (b : AbstractJob)
      → IsNext version ds (all_filled h above) bytes (Ok b) → b ≡ filled h k)
  next_with above bytes job (inl x) = let no_job = x.1 in absurd cc
  next_with above bytes job (inr x) =
      let k = text_read version (map earlier_of (all_filled over_header above)) columns bare bytes job x.1 in
      (k.0, k.1, λ ds h agrees b read. next_from_text above bytes k.0 ds h b (k.2 ds h agrees b) read)

  texts_from : (t : JobText) (ts : List JobText) (above : List WrittenJob) (ks : List WrittenJob) (k : WrittenJob)
      (ds : List NamedColumn) (h : Cells) (js : List AbstractJob)
      → ((b : AbstractJob) → IsNext version ds (all_filled h above) t.text (Ok b) → b ≡ filled h k)
      → (AreJobsRead version ds (all_filled h (above ++ k ∷ [])) ts (Ok js) → js ≡ all_filled h ks)
      → AreJobsRead version ds (all_filled h above) (t ∷ ts) (Ok js) → js ≡ all_filled h ks
  texts_from t ts above ks k ds h js same rest (inl x) = let no_jobs = x.2 in absurd cc
  texts_from t ts above ks k ds h js same rest (inr x) =
      let now : all_filled h above ++ x.0 ∷ [] ≡ all_filled h (above ++ k ∷ []) =
      ap (λ (j : AbstractJob). all_filled h above ++ j ∷ []) (same x.0 x.1) ∙ sym (filled_more h above k) in
      rest (subst (λ (all : List AbstractJob). AreJobsRead version ds all ts (Ok js)) now x.2)

  texts_with : (ts : List JobText) (above : List WrittenJob) (jobs : List AbstractJob)
      → AreJobsRead version columns (all_filled over_header above) ts (Ok jobs)
      → (ks : List WrittenJob) × (jobs ≡ all_filled over_header ks)
      × ((ds : List NamedColumn) (h : Cells) → Agree ds h → (js : List AbstractJob)
      → AreJobsRead version ds (all_filled h above) ts (Ok js) → js ≡ all_filled h ks)
  texts_with [] above jobs is = (
    above,
    same_ok (Ok (all_filled over_header above)) (all_filled over_header above) jobs refl (sym is),
    λ ds h agrees js read. same_ok (Ok (all_filled h above)) (all_filled h above) js refl (sym read),
  )
  texts_with (t ∷ ts) above jobs (inl x) = let no_jobs = x.2 in absurd cc
  texts_with (t ∷ ts) above jobs (inr x) =
      let k = next_with above t.text x.0 x.1 in
      let now : all_filled over_header above ++ x.0 ∷ [] ≡ all_filled over_header (above ++ k.0 ∷ []) =
      ap (λ (j : AbstractJob). all_filled over_header above ++ j ∷ []) k.1
      ∙ sym (filled_more over_header above k.0) in
      let rest = texts_with ts (above ++ k.0 ∷ []) jobs
      (subst (λ (all : List AbstractJob). AreJobsRead version columns all ts (Ok jobs)) now x.2) in (
        rest.0,
        rest.1,
        λ ds h agrees js read. texts_from t ts above rest.0 k.0 ds h js (k.2 ds h agrees)
            (rest.2 ds h agrees js) read,
      )

  left_with : (left : Result (List JobText) TextFault) (jobs : List AbstractJob)
      → AreJobsLeft version columns [] left (Ok jobs)
      → (ks : List WrittenJob) × (jobs ≡ all_filled over_header ks)
      × ((ds : List NamedColumn) (h : Cells) → Agree ds h → (js : List AbstractJob)
      → AreJobsLeft version ds [] left (Ok js) → js ≡ all_filled h ks)
  left_with (Ok texts) jobs is = texts_with texts [] jobs is
  left_with (Err (text.Syntax line)) jobs is = absurd cc
  left_with (Err text.NoMemory) jobs is = absurd is

-- the jobs that bytes spell over columns without cells, as they are written: with other columns they spell these over
-- their
-- cells
pub spelled_with : (newest : ℕ) (bytes : List ℕ) (columns : List NamedColumn) (jobs : List AbstractJob)
    → AreBare columns → SpellsJobsWithin newest bytes columns jobs
    → (ks : List WrittenJob) × (jobs ≡ all_filled (no_cells columns) ks)
    × ((ds : List NamedColumn) (h : Cells) → Agree ds h → (js : List AbstractJob)
    → SpellsJobsWithin newest bytes ds js → js ≡ all_filled h ks)
spelled_with newest bytes columns jobs bare h =
    left_with (version_within newest bytes) columns bare (job_texts_within newest bytes) jobs h
