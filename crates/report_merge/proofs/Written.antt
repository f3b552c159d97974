-- Jobs as they are written, in which a column is its name; and what they are over cells.
use Rattle.std.proofs.Common.{◌≡◌, ℕ, ℤ, Bool, true, false, List, [], ◌∷◌, ◌++◌, Option, refl, sym, ap, ◌∙◌}
use Rattle.std.specs.Prelude.{map, ◌&&◌, ◌||◌, if◌then◌else◌}
use Rattle.tables.specs.Table.{NamedColumn}
use Rattle.job_language.specs.Jobs.{AbstractPlainSource, range, range_closed, values, result, AbstractJobStage}
use Rattle.job_language.specs.Jobs.{AbstractTerminal, AbstractJob, names_of}
use Rattle.job_language.specs.Verdicts.{earlier_of}
use Rattle.job_meaning.specs.Names.{all_source_names, names_in_job, all_stage_names, terminal_names}
use Rattle.report_merge.specs.Mergeable.{is_column, reads_column}

pub data WrittenSource : Type 0 where
  literal : AbstractPlainSource → WrittenSource
  column : List ℕ → WrittenSource

pub record WrittenJob : Type 0 where
  pub name : List ℕ
  pub sources : List WrittenSource
  pub stages : List AbstractJobStage
  pub terminal : AbstractTerminal
  pub on_fault : Option ℤ
  pub rows : Bool

-- the cells under each name
abbrev pub Named : Type 0
Named = List ℕ → List ℤ

-- the cells under each name, and the columns
pub record Cells : Type 0 where
  pub named : Named
  pub table : List NamedColumn

abbrev pub filled_source : Named → WrittenSource → AbstractPlainSource
filled_source g (literal s) = s
filled_source g (column w) = values (g w)

abbrev pub filled_sources : Named → List WrittenSource → List AbstractPlainSource
filled_sources g [] = []
filled_sources g (s ∷ ss) = filled_source g s ∷ filled_sources g ss

-- over the header alone
abbrev pub none_named : Named
none_named w = []

abbrev pub no_cells : List NamedColumn → Cells
no_cells header = record { named = none_named; table = header }

-- whether the items are rows: then one of the sources is a column
abbrev pub are_rows : WrittenJob → Bool
are_rows k = k.rows && reads_column (filled_sources none_named k.sources)

abbrev pub filled : Cells → WrittenJob → AbstractJob
filled g k =
    record {
      name = k.name;
      sources = filled_sources g.named k.sources;
      stages = k.stages;
      terminal = k.terminal;
      on_fault = k.on_fault;
      table = if are_rows k then g.table else [];
    }

abbrev pub all_filled : Cells → List WrittenJob → List AbstractJob
all_filled g [] = []
all_filled g (k ∷ ks) = filled g k ∷ all_filled g ks

pub filled_more : (g : Cells) (ks : List WrittenJob) (k : WrittenJob)
    → all_filled g (ks ++ k ∷ []) ≡ all_filled g ks ++ filled g k ∷ []
filled_more g [] k = refl
filled_more g (j ∷ ks) k = ap (λ (js : List AbstractJob). filled g j ∷ js) (filled_more g ks k)

pub sources_more : (g : Named) (ss : List WrittenSource) (s : WrittenSource)
    → filled_sources g (ss ++ s ∷ []) ≡ filled_sources g ss ++ filled_source g s ∷ []
sources_more g [] s = refl
sources_more g (r ∷ ss) s = ap (λ (rs : List AbstractPlainSource). filled_source g r ∷ rs) (sources_more g ss s)

-- what other jobs see of them, their names and their number don't depend on cells
pub earlier_same : (g h : Cells) (ks : List WrittenJob)
    → map earlier_of (all_filled g ks) ≡ map earlier_of (all_filled h ks)
earlier_same g h [] = refl
earlier_same g h (k ∷ ks) = ap (λ js. earlier_of (filled g k) ∷ js) (earlier_same g h ks)

pub names_same : (g h : Cells) (ks : List WrittenJob) → names_of (all_filled g ks) ≡ names_of (all_filled h ks)
names_same g h [] = refl
names_same g h (k ∷ ks) = ap (λ (names : List (List ℕ)). k.name ∷ names) (names_same g h ks)

source_names_same : (g h : Named) (ss : List WrittenSource)
    → all_source_names (filled_sources g ss) ≡ all_source_names (filled_sources h ss)
source_names_same g h [] = refl
source_names_same g h (literal (range a b) ∷ ss) = source_names_same g h ss
source_names_same g h (literal (range_closed a b) ∷ ss) = source_names_same g h ss
source_names_same g h (literal (values vs) ∷ ss) = source_names_same g h ss
source_names_same g h (literal (result name) ∷ ss) =
    ap (λ (names : List (List ℕ)). name ∷ names) (source_names_same g h ss)
source_names_same g h (column w ∷ ss) = source_names_same g h ss

pub job_names_same : (g h : Cells) (k : WrittenJob) → names_in_job (filled g k) ≡ names_in_job (filled h k)
job_names_same g h k = ap (λ (names : List (List ℕ)). names ++ (all_stage_names k.stages ++ terminal_names k.terminal))
    (source_names_same g.named h.named k.sources)

-- sources without a column
pub no_column : (g h : Named) (ss : List WrittenSource) → reads_column (filled_sources none_named ss) ≡ false
    → filled_sources g ss ≡ filled_sources h ss
no_column g h [] e = refl
no_column g h (literal s ∷ ss) e = ap (λ (rs : List AbstractPlainSource). s ∷ rs)
    (no_column g h ss (rest (is_column s) (reads_column (filled_sources none_named ss)) e))
  where
    rest : (a b : Bool) → (a || b) ≡ false → b ≡ false
    rest true b e = absurd (let z : true ≡ false = e in cc)
    rest false b e = e
no_column g h (column w ∷ ss) e = absurd (let z : true ≡ false = e in cc)

-- and then no table
pub no_table : (g h : Cells) (k : WrittenJob) → reads_column (filled_sources none_named k.sources) ≡ false
    → (filled g k).table ≡ (filled h k).table
no_table g h k e = ap (λ (t : Bool). if k.rows && t then g.table else []) e ∙ either k.rows
    ∙ sym (ap (λ (t : Bool). if k.rows && t then h.table else []) e)
  where
    either : (t : Bool) → (if t && false then g.table else []) ≡ (if t && false then h.table else [])
    either true = refl
    either false = refl
