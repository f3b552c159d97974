-- What a run is given and gives: its two files, its report, and the faults before the report is written.
use Rattle.std.proofs.Common.{◌≡◌, ◌≢◌, ℕ, List, [], Bool, true, false, Option, Some, None, Result, Ok, Err, IfSome}
use Rattle.std.proofs.Common.{IfErr, IfOk, OnOk, refl, sym, ap, subst, ◌∙◌}
use Rattle.std.specs.Prelude.{◌||◌, ◌&&◌, nat_le, if◌then◌else◌}
use Rattle.std.specs.Borrow.{MutBor}
use Rattle.std.specs.Io.KnownBytes.{IsAtEnd, Keeps}
use Rattle.columns.specs.declared.fault.ColumnFault.{ColumnFault}
use Rattle.columns.specs.declared.fault.ColumnFault.TheVariants as column
use Rattle.columns.specs.Layouts.{IsAnswerBy}
use Rattle.columns.specs.TableForms.{AbstractForm, cells_by}
use Rattle.tables.specs.Table.{NamedColumn}
use Rattle.job_names.specs.JobNames.{names_of_texts}
use Rattle.run_settings.specs.Asked.{Asked}
use Rattle.counted_io.specs.FailureCounts.{HasRisen}
use Rattle.stream_tokens.specs.JobTexts.{job_texts_within, version_within}
use Rattle.engine.specs.declared.fault.EngineFault.{EngineFault}
use Rattle.engine.specs.declared.fault.EngineFault.TheVariants.{Columns, Jobs, JobsRead, NoMemory, Write}
use Rattle.engine.specs.Given.{CountedBytes, HoldsOver, HoldsWith, IsAnswered, IsFile, IsGiven, IsLeft, IsSent, IsWhole}
use Rattle.engine.specs.Refused.{IsCutShort, IsEarly, IsUnread}
use Rattle.engine.specs.Run.{Input, Faulted, HasColumns, IsReport, Says, columns_by, form_for, form_with, reads_by_jobs}

-- ---- the files

-- a reader has some bytes left, if it isn't known which
pub some_whole : (left : Option (List ℕ)) → (bytes : List ℕ) × IsWhole left bytes
some_whole None = ([], tt)
some_whole (Some bytes) = (bytes, refl)

-- what a reader of columns answers is the answer to what it has left, and to some bytes if it isn't known what that is
pub whole_answer : (form : AbstractForm) (left : Option (List ℕ)) (r : Result (List NamedColumn) ColumnFault)
    → IfSome left (λ bytes. IsAnswerBy form bytes r) → ((bytes : List ℕ) × IsAnswerBy form bytes r)
    → (bytes : List ℕ) × IsWhole left bytes × IsAnswerBy form bytes r
whole_answer form None r known some_bytes = (some_bytes.0, tt, some_bytes.1)
whole_answer form (Some bytes) r known some_bytes = (bytes, refl, known)

pub answered_ok : (form : AbstractForm) (bytes : List ℕ) (r : Result (List NamedColumn) ColumnFault)
    (table : List NamedColumn) → IsAnswerBy form bytes r → r ≡ Ok table → cells_by form bytes ≡ Ok table
answered_ok form bytes (Ok columns) table answer is = answer ∙ is
answered_ok form bytes (Err f) table answer is = absurd (let e = is in cc)

pub answered_err : (form : AbstractForm) (bytes : List ℕ) (r : Result (List NamedColumn) ColumnFault) (f : ColumnFault)
    → IsAnswerBy form bytes r → r ≡ Err f → f ≢ column.Read → f ≢ column.NoMemory → cells_by form bytes ≡ Err f
answered_err form bytes (Ok columns) f answer is = absurd (let e = is in cc)
answered_err form bytes (Err h) f answer is =
    let same : h ≡ f = let e = is in cc in
    subst (λ (k : ColumnFault). k ≢ column.Read → k ≢ column.NoMemory → cells_by form bytes ≡ Err k) same answer

not_read : (named newest said : Bool) → (named || newest) ≡ false → (named || (newest && said)) ≡ false
not_read true newest said h = h
not_read false true said h = absurd (cc)
not_read false false said h = refl

-- the form, where it doesn't depend on the job file
by_no_job : (asked : Asked) (bytes : List ℕ) → reads_by_jobs asked ≡ false
    → form_with asked.table [] ≡ form_for asked bytes
by_no_job asked bytes h =
    ap (λ (c : Bool). form_with asked.table (if c then names_of_texts (job_texts_within asked.newest bytes) else []))
    (sym (not_read asked.table.only_named (nat_le 3 asked.newest) (nat_le 3 (version_within asked.newest bytes)) h))

-- the file that the optional reader has left has this table, whatever the job file
pub record HasTable {C : Type 0} (remaining : C → Option (List ℕ)) (columns : Option (MutBor C)) (asked : Asked)
    (table : List NamedColumn) : Type 0 where
  pub file : Option (List ℕ)
  pub is : IsFile remaining columns file
  pub gives : (bytes : List ℕ) → columns_by (form_for asked bytes) file ≡ Ok table

pub some_table : {C : Type 0} (remaining : C → Option (List ℕ)) (columns : Option (MutBor C)) (asked : Asked)
    (table : List NamedColumn) (reader : MutBor C) (r : Result (List NamedColumn) ColumnFault) → columns ≡ Some reader
    → reads_by_jobs asked ≡ false → ((bytes : List ℕ) × IsWhole (remaining reader.now) bytes
    × IsAnswerBy (form_with asked.table []) bytes r) → r ≡ Ok table → HasTable remaining columns asked table
some_table remaining columns asked table reader r is not_by_jobs (bytes, whole, answer) ok =
    record {
      file = Some bytes;
      is = rw is (bytes, refl, whole);
      gives = λ jobs. subst (λ (form : AbstractForm). cells_by form bytes ≡ Ok table) (by_no_job asked jobs not_by_jobs)
          (answered_ok (form_with asked.table []) bytes r table answer ok);
    }

pub no_table : {C : Type 0} (remaining : C → Option (List ℕ)) (columns : Option (MutBor C)) (asked : Asked)
    (table : List NamedColumn) → columns ≡ None → table ≡ [] → HasTable remaining columns asked table
no_table remaining columns asked table is none_there =
    record { file = None; is = rw is refl; gives = λ jobs. rw none_there refl }

-- ---- the faults

-- a refused column file; the job file is any that its reader may hold
pub columns_refused : {C : Type 0} (remaining : C → Option (List ℕ)) (columns : Option (MutBor C))
    (jobs : Option (List ℕ)) (asked : Asked) (before after : Option (List ℕ)) (reader : MutBor C)
    (r : Result (List NamedColumn) ColumnFault) (f : ColumnFault) → columns ≡ Some reader → reads_by_jobs asked ≡ false
    → ((bytes : List ℕ) × IsWhole (remaining reader.now) bytes × IsAnswerBy (form_with asked.table []) bytes r)
    → r ≡ Err f
    → Keeps before after → (input : Input) × IsGiven remaining columns jobs asked input
    × Faulted input before after (Columns f)
columns_refused remaining columns jobs asked before after reader r f is not_by_jobs (bytes, whole, answer) err keeps =
    let rest = some_whole jobs in
    let refused = subst (λ (form : AbstractForm). f ≢ column.Read → f ≢ column.NoMemory → cells_by form bytes ≡ Err f)
    (by_no_job asked rest.0 not_by_jobs) (answered_err (form_with asked.table []) bytes r f answer err) in (
      record { columns = Some bytes; jobs = rest.0; asked = asked },
      record { columns_file = rw is (bytes, refl, whole); jobs_file = rest.1; asked_for = refl },
      (refused, keeps),
    )

-- a job file that isn't read says that there are columns, if they were read before
pub unread_says : (input : Input) (f : EngineFault) → IsUnread f → HasColumns input → Says input f
unread_says input (Columns f) unread columns = absurd unread
unread_says input (Write n) unread columns = absurd unread
unread_says input (Jobs f) unread columns = absurd unread
unread_says input JobsRead unread columns = λ by_jobs_not. columns
unread_says input NoMemory unread columns = λ by_jobs_not. columns

-- it says nothing of the columns, if they are read after it
pub unread_by_jobs : (input : Input) (f : EngineFault) → reads_by_jobs input.asked ≡ true → IsUnread f → Says input f
unread_by_jobs input (Columns f) named unread = absurd unread
unread_by_jobs input (Write n) named unread = absurd unread
unread_by_jobs input (Jobs f) named unread = absurd unread
unread_by_jobs input JobsRead named unread =
    λ by_jobs_not. absurd (let e : true ≡ false = sym named ∙ by_jobs_not in cc)
unread_by_jobs input NoMemory named unread =
    λ by_jobs_not. absurd (let e : true ≡ false = sym named ∙ by_jobs_not in cc)

pub unread_early : (f : EngineFault) → IsUnread f → IsEarly f
unread_early (Columns f) unread = absurd unread
unread_early (Write n) unread = absurd unread
unread_early (Jobs f) unread = absurd unread
unread_early JobsRead unread = tt
unread_early NoMemory unread = tt

-- a write of the report failed
cut_fault : (input : Input) (report : List ℕ) (before after : Option (List ℕ)) (f : EngineFault)
    → IsReport input report → IsCutShort report before after f → Faulted input before after f
cut_fault input report before after f is (n, fault, short, appends) = rw fault (report, is, short, appends)

-- ---- the run

pub on_ok : {X E : Type 0} (r : Result X E) (P : Type 0) → P → OnOk r P
on_ok (Ok x) P h = h
on_ok (Err e) P h = tt

-- what holds with the columns of a file holds of what the run is given
given_with : {C : Type 0} (remaining : C → Option (List ℕ)) (columns : Option (MutBor C)) (jobs : Option (List ℕ))
    (asked : Asked) (table : List NamedColumn) (P : Input → Type 0)
    → HasTable remaining columns asked table → HoldsWith table jobs asked P
    → (input : Input) × IsGiven remaining columns jobs asked input × P input
given_with remaining columns jobs asked table P t (bytes, whole, holds) = (
  record { columns = t.file; jobs = bytes; asked = asked },
  record { columns_file = t.is; jobs_file = whole; asked_for = refl },
  holds t.file (t.gives bytes),
)

-- what holds of two readers holds of what the run is given
given_over : {C : Type 0} (remaining : C → Option (List ℕ)) (columns : Option (MutBor C)) (reader : MutBor C)
    (jobs : Option (List ℕ)) (asked : Asked) (P : Input → Type 0) → columns ≡ Some reader
    → HoldsOver (remaining reader.now) jobs asked P
    → (input : Input) × IsGiven remaining columns jobs asked input × P input
given_over remaining columns reader jobs asked P is (file, whole, bytes, jobs_whole, holds) = (
  record { columns = Some file; jobs = bytes; asked = asked },
  record { columns_file = rw is (file, refl, whole); jobs_file = jobs_whole; asked_for = refl },
  holds,
)

-- ---- a report, and what is sent of it

-- what holds before a report is written: it is the report of an input that the run is given, or a fault says something
-- of one
pub record IsMade {C : Type 0} (remaining : C → Option (List ℕ)) (columns : Option (MutBor C)) (asked : Asked)
    (jobs jobs_after : CountedBytes) (made : Result (List ℕ) EngineFault) : Type 0 where
  pub ok : IfOk made (λ report. (input : Input) × IsGiven remaining columns jobs.bytes asked input
      × IsReport input report)
  pub err : IfErr made (λ fault. (input : Input) × IsGiven remaining columns jobs.bytes asked input × Says input fault)
  pub end : OnOk made (IsAtEnd jobs_after.bytes)
  pub unread : reads_by_jobs asked ≡ false → IfErr made (λ fault. (cause : ColumnFault) → fault ≢ Columns cause)
  pub read_failed : IfErr made (λ fault. fault ≡ JobsRead → HasRisen jobs.failures jobs_after.failures)

module _ {C : Type 0} (remaining : C → Option (List ℕ)) (columns : Option (MutBor C)) (asked : Asked)
    (jobs jobs_after : CountedBytes) where
  -- over columns that are read as the job file asks
  pub made_over : (made : Result (List ℕ) EngineFault) (reader : MutBor C) → columns ≡ Some reader
      → reads_by_jobs asked ≡ true
      → IfOk made (λ report. HoldsOver (remaining reader.now) jobs.bytes asked (λ input. IsReport input report))
      → IfErr made (λ fault. HoldsOver (remaining reader.now) jobs.bytes asked (λ input. Says input fault))
      → OnOk made (IsAtEnd jobs_after.bytes)
      → IfErr made (λ fault. fault ≡ JobsRead → HasRisen jobs.failures jobs_after.failures)
      → IsMade remaining columns asked jobs jobs_after made
  made_over (Ok report) reader is by_jobs ok err end failed = record {
    ok = given_over remaining columns reader jobs.bytes asked (λ input. IsReport input report) is ok;
    err = tt;
    end = end;
    unread = λ before. tt;
    read_failed = tt;
  }
  made_over (Err f) reader is by_jobs ok err end failed = record {
    ok = tt;
    err = given_over remaining columns reader jobs.bytes asked (λ input. Says input f) is err;
    end = tt;
    unread = λ before. absurd (let e : true ≡ false = sym by_jobs ∙ before in cc);
    read_failed = failed;
  }

  -- with the columns of a file that was read before
  pub made_with : (made : Result (List ℕ) EngineFault) (table : List NamedColumn)
      → HasTable remaining columns asked table
      → IfOk made (λ report. HoldsWith table jobs.bytes asked (λ input. IsReport input report))
      → IfErr made (λ fault. HoldsWith table jobs.bytes asked (λ input. Says input fault))
      → OnOk made (IsAtEnd jobs_after.bytes) → IfErr made IsEarly
      → IfErr made (λ fault. fault ≡ JobsRead → HasRisen jobs.failures jobs_after.failures)
      → IsMade remaining columns asked jobs jobs_after made
  made_with (Ok report) table has ok err end early failed = record {
    ok = given_with remaining columns jobs.bytes asked table (λ input. IsReport input report) has ok;
    err = tt;
    end = end;
    unread = λ before. tt;
    read_failed = tt;
  }
  made_with (Err f) table has ok err end early failed = record {
    ok = tt;
    err = given_with remaining columns jobs.bytes asked table (λ input. Says input f) has err;
    end = tt;
    unread = λ before cause is. subst IsEarly is early;
    read_failed = failed;
  }

-- a fault that says something of an input is no failed write
says_no_write : (input : Input) (f : EngineFault) (n : ℕ) → Says input f → f ≢ Write n
says_no_write input f n says is = subst (Says input) is says

-- nothing was written after this fault
unwritten : (input : Input) (before after : Option (List ℕ)) (f : EngineFault) → Says input f → Keeps before after
    → Faulted input before after f
unwritten input before after (Columns f) says keeps = (says, keeps)
unwritten input before after (Write n) says keeps = absurd says
unwritten input before after (Jobs f) says keeps = (says, keeps)
unwritten input before after JobsRead says keeps = (says, keeps)
unwritten input before after NoMemory says keeps = (says, keeps)

-- the run after what was made is sent
pub run_of : {C X : Type 0} {remaining : C → Option (List ℕ)} {columns : Option (MutBor C)} {asked : Asked}
    {jobs jobs_after : CountedBytes} (before after : CountedBytes) (made : Result (List ℕ) EngineFault)
    (answer : Result X EngineFault) → IsMade remaining columns asked jobs jobs_after made
    → IsSent made before after answer → IsAnswered remaining columns jobs.bytes asked before.bytes after.bytes answer
    × IsLeft asked jobs jobs_after before after answer
run_of before after (Ok report) (Ok x) known sent = (
  ((known.ok.0, known.ok.1, (report, known.ok.2, sent)), tt),
  record {
    read_up = known.end;
    unread = λ first. tt;
    unwritten = tt;
    untouched = tt;
    read_failed = tt;
    write_failed = tt;
  },
)
run_of before after (Ok report) (Err f) known (short, risen) =
    let (n, is, few, appends) = short in (
      (tt, (known.ok.0, known.ok.1, cut_fault known.ok.0 report before.bytes after.bytes f known.ok.2 short)),
      record {
        read_up = tt;
        unread = λ first cause other. absurd (let e : Write n ≡ Columns cause = sym is ∙ other in cc);
        unwritten = λ none. absurd (none n is);
        untouched = λ none. absurd (none n is);
        read_failed = λ other. absurd (let e : Write n ≡ JobsRead = sym is ∙ other in cc);
        write_failed = λ m other. risen;
      },
    )
run_of before after (Err f) (Ok x) known sent = absurd sent
run_of before after (Err f) (Err back) known (is, keeps, same) =
    let (input, given, says) = known.err in
    rw is (
      (tt, (input, given, unwritten input before.bytes after.bytes f says keeps)),
      record {
        read_up = tt;
        unread = λ first cause other. absurd (known.unread first cause other);
        unwritten = λ none. keeps;
        untouched = λ none. same;
        read_failed = known.read_failed;
        write_failed = λ n other. absurd (says_no_write input f n says other);
      },
    )

-- what is known before a report is written is known after it
pub sent_ok : {X : Type 0} (made : Result (List ℕ) EngineFault) (before after : CountedBytes)
    (answer : Result X EngineFault) (P : Type 0) → IsSent made before after answer → OnOk made P → OnOk answer P
sent_ok (Ok report) before after (Ok x) P sent h = h
sent_ok made before after (Err f) P sent h = tt
sent_ok (Err f) before after (Ok x) P sent h = absurd sent

pub sent_columns : {X : Type 0} (made : Result (List ℕ) EngineFault) (before after : CountedBytes)
    (answer : Result X EngineFault) (P : Type 0) → IsSent made before after answer
    → IfErr made (λ fault. fault ≡ Columns column.Read → P) → IfErr answer (λ fault. fault ≡ Columns column.Read → P)
sent_columns made before after (Ok x) P sent h = tt
sent_columns (Ok report) before after (Err f) P (short, risen) h =
    λ is. absurd (let e : Write short.0 ≡ Columns column.Read = sym short.1 ∙ is in cc)
sent_columns (Err f) before after (Err back) P (same, keeps, failures) h = λ is. h (sym same ∙ is)

pub early_columns : (made : Result (List ℕ) EngineFault) (P : Type 0) → IfErr made IsEarly
    → IfErr made (λ fault. fault ≡ Columns column.Read → P)
early_columns (Ok report) P early = tt
early_columns (Err f) P early = λ is. absurd (subst IsEarly is early)
