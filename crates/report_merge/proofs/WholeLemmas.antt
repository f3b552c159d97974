-- The merged answers of the parts of a table are the answers over all its rows.
use Rattle.std.proofs.Common.{◌≡◌, ◌⊎◌, inl, inr, ℕ, ◌+◌, ◌<◌, ◌≤◌, ◌^◌, Bool, true, false, List, [], ◌∷◌, ◌++◌, length}
use Rattle.std.proofs.Common.{length-append, append_assoc, append-nil, Option, Some, None, refl, sym, ap, subst, ◌∙◌}
use Rattle.std.proofs.Common.{arith}
use Rattle.std.specs.Prelude.{if◌then◌else◌, nat_lt}
use Rattle.std.proofs.lemmas.Grind.{common_steps}
use Rattle.columns.specs.Table.{columns_under}
use Rattle.columns.specs.TableForms.{AbstractForm}
use Rattle.tables.specs.Table.{NamedColumn}
use Rattle.job_language.specs.Files.{SpellsJobsWithin}
use Rattle.job_language.specs.Jobs.{AbstractJob, names_of}
use Rattle.job_meaning.specs.declared.answer.Answer.{Answer}
use Rattle.job_meaning.specs.FileAnswers.{meaning_of}
use Rattle.report_merge.specs.Cuts.{AreAnswered, IsAnswered, IsCut, IsOver, Row, all_rows, asked}
use Rattle.report_merge.specs.Mergeable.{first_unmergeable}
use Rattle.report_merge.specs.Merging.{Part, all_as_one, answers_beside, as_one, finished, first_part, merged}
use Rattle.report_merge.specs.Merging.{part_with, rows_in, with_fallbacks}
use Rattle.report_merge.proofs.ColumnLemmas.{cells_at, cells_count, cells_joined, cells_under, column_names, kept_rows}
use Rattle.report_merge.proofs.ColumnLemmas.{table_columns}
use Rattle.report_merge.proofs.FileLemmas.{fallbacks_join, meanings_join}
use Rattle.report_merge.proofs.JobLemmas.{AreJoined}
use Rattle.report_merge.proofs.SpelledLemmas.{Agree, spelled_with}
use Rattle.report_merge.proofs.Written.{Cells, WrittenJob, all_filled, names_same, no_cells}

few_enough : (n m : ℕ) → nat_lt n m ≡ false → m ≤ n
few_enough n m h = grind (arith, common_steps)

many : (n m : ℕ) → nat_lt n m ≡ true → n < m
many n m h = grind (arith, common_steps)

not_many : (n m : ℕ) → m ≤ n → nat_lt n m ≡ false
not_many n m h = grind (arith, common_steps)

-- the cells of a table with this header and these rows, which is read in this form
abbrev cells_over : AbstractForm → Row → List Row → Cells
cells_over form header rows =
    let names = column_names form header in
    record {
      named = cells_at names (kept_rows form header rows);
      table = columns_under names (kept_rows form header rows);
    }

module _ (form : AbstractForm) (newest : ℕ) (bytes : List ℕ) (header : Row) (columns : List NamedColumn)
    (jobs : List WrittenJob)
    (unique : (rows : List Row) (js : List AbstractJob) → IsOver form newest bytes header rows js
    → js ≡ all_filled (cells_over form header rows) jobs)
    (good : first_unmergeable (all_filled (no_cells columns) jobs) ≡ None) where
  abbrev over_header : List AbstractJob
  over_header = all_filled (no_cells columns) jobs

  -- what is asked, over these rows
  abbrev answers_over : List Row → List Answer
  answers_over rows = meaning_of (asked over_header (all_filled (cells_over form header rows) jobs))

  -- the part has these rows and the answers over them
  record Stands (rows : List Row) (p : Part) : Type 0 where
    count : p.rows ≡ length rows
    answers : p.answers ≡ answers_over rows

  stands : (rows : List Row) (p : Part) → IsAnswered form newest bytes header over_header rows p → Stands rows p
  stands rows p h = record {
    count = h.count;
    answers = h.answered ∙ ap (λ (js : List AbstractJob). meaning_of (asked over_header js))
        (unique rows h.jobs h.over);
  }

  -- ---- two parts

  abbrev one : List Row → Part → Part → Part
  one rows p q = record { rows = p.rows + q.rows; answers = answers_over rows }

  module _ (xs ys : List Row) (p q : Part) (left : Stands xs p) (right : Stands ys q) where
    one_stands : Stands (xs ++ ys) (one (xs ++ ys) p q)
    one_stands = record { count = (λ i. left.count i + right.count i) ∙ sym (length-append xs ys); answers = refl }

    joins : p.rows + q.rows ≤ 2 ^ 62 → answers_beside over_header p.rows q.rows p.answers q.answers
        ≡ Some (answers_over (xs ++ ys))
    joins few =
        let cells : AreJoined p.rows q.rows (cells_over form header xs) (cells_over form header ys)
        (cells_over form header (xs ++ ys)) = record {
          whole = cells_joined form header xs ys;
          left = λ w. cells_count form header xs w ∙ sym left.count;
          right = λ w. cells_count form header ys w ∙ sym right.count;
          few = few;
        } in
        (λ i. answers_beside over_header p.rows q.rows (left.answers i) (right.answers i))
        ∙ meanings_join columns p.rows q.rows (cells_over form header xs) (cells_over form header ys)
        (cells_over form header (xs ++ ys)) cells jobs good

    as_one_is : nat_lt (2 ^ 62) (p.rows + q.rows) ≡ false → as_one over_header p q ≡ Some (one (xs ++ ys) p q)
    as_one_is h =
        ap (λ (t : Bool). if t then None
        else part_with (p.rows + q.rows) (answers_beside over_header p.rows q.rows p.answers q.answers)) h
        ∙ ap (part_with (p.rows + q.rows)) (joins (few_enough (2 ^ 62) (p.rows + q.rows) h))

    as_none : nat_lt (2 ^ 62) (p.rows + q.rows) ≡ true → as_one over_header p q ≡ None
    as_none h = ap (λ (t : Bool). if t then None
        else part_with (p.rows + q.rows) (answers_beside over_header p.rows q.rows p.answers q.answers)) h

  -- ---- all parts

  -- one part more, if it fits
  after_one : (xs ys rows : List Row) (p q r : Part) (ps : List Part) → Stands xs p → Stands ys q
      → (Stands (xs ++ ys) (one (xs ++ ys) p q) → all_as_one over_header (Some (one (xs ++ ys) p q)) ps ≡ Some r
      → Stands rows r)
      → all_as_one over_header (Some p) (q ∷ ps) ≡ Some r → (t : Bool) → nat_lt (2 ^ 62) (p.rows + q.rows) ≡ t
      → Stands rows r
  after_one xs ys rows p q r ps s next later h true e =
      let no : None ≡ Some r = sym (ap (λ (o : Option Part). all_as_one over_header o ps) (as_none xs ys p q s next e))
      ∙ h in
      absurd cc
  after_one xs ys rows p q r ps s next later h false e =
      later (one_stands xs ys p q s next)
      (sym (ap (λ (o : Option Part). all_as_one over_header o ps) (as_one_is xs ys p q s next e)) ∙ h)

  after_all : (tables : List (List Row)) (ps : List Part) (xs : List Row) (p r : Part) → Stands xs p
      → AreAnswered form newest bytes header over_header tables ps → all_as_one over_header (Some p) ps ≡ Some r
      → Stands (xs ++ all_rows tables) r
  after_all [] [] xs p r s a h =
      let same : p ≡ r = cc in
      subst (λ (zs : List Row). Stands zs r) (sym (append-nil xs)) (subst (λ (q : Part). Stands xs q) same s)
  after_all [] (q ∷ ps) xs p r s a h = absurd a
  after_all (ys ∷ tables) [] xs p r s a h = absurd a
  after_all (ys ∷ tables) (q ∷ ps) xs p r s a h =
      after_one xs ys (xs ++ (ys ++ all_rows tables)) p q r ps s (stands ys q a.0)
      (λ both later. subst (λ (zs : List Row). Stands zs r) (append_assoc xs ys (all_rows tables))
      (after_all tables ps (xs ++ ys) (one (xs ++ ys) p q) r both a.1 later))
      h (nat_lt (2 ^ 62) (p.rows + q.rows)) refl

  all_there : (tables : List (List Row)) (ps : List Part) (xs : List Row) (p : Part) → Stands xs p
      → AreAnswered form newest bytes header over_header tables ps → p.rows + rows_in ps ≤ 2 ^ 62
      → (r : Part) × (all_as_one over_header (Some p) ps ≡ Some r) × Stands (xs ++ all_rows tables) r
  all_there [] [] xs p s a few = (p, refl, subst (λ (zs : List Row). Stands zs p) (sym (append-nil xs)) s)
  all_there [] (q ∷ ps) xs p s a few = absurd a
  all_there (ys ∷ tables) [] xs p s a few = absurd a
  all_there (ys ∷ tables) (q ∷ ps) xs p s a few =
      let next = stands ys q a.0 in
      let more : p.rows + q.rows ≤ 2 ^ 62 = omega (arith, few) in
      let fits : p.rows + q.rows + rows_in ps ≤ 2 ^ 62 = omega (arith, few) in
      let all = all_there tables ps (xs ++ ys) (one (xs ++ ys) p q) (one_stands xs ys p q s next) a.1 fits in (
        all.0,
        ap (λ (o : Option Part). all_as_one over_header o ps)
            (as_one_is xs ys p q s next (not_many (2 ^ 62) (p.rows + q.rows) more)) ∙ all.1,
        subst (λ (zs : List Row). Stands zs all.0) (append_assoc xs ys (all_rows tables)) all.2,
      )

  -- ---- the whole

  over_whole : (rows : List Row) (r : Part) → Stands rows r
      → with_fallbacks over_header r.answers ≡ Some (meaning_of (all_filled (cells_over form header rows) jobs))
  over_whole rows r s = ap (with_fallbacks over_header) s.answers
      ∙ fallbacks_join columns (cells_over form header rows) jobs good

  names_kept : (rows : List Row) (whole : List AbstractJob) → IsOver form newest bytes header rows whole
      → names_of over_header ≡ names_of whole
  names_kept rows whole over = names_same (no_cells columns) (cells_over form header rows) jobs
      ∙ ap names_of (sym (unique rows whole over))

  after_first : (rows : List Row) (o : Option Part) (whole : List AbstractJob) (answers : List Answer)
      → ((r : Part) → o ≡ Some r → Stands rows r) → IsOver form newest bytes header rows whole
      → finished over_header o ≡ Some answers → answers ≡ meaning_of whole
  after_first rows None whole answers s over h = absurd cc
  after_first rows (Some r) whole answers s over h =
      let both : Some answers ≡ Some (meaning_of (all_filled (cells_over form header rows) jobs)) =
      sym h ∙ over_whole rows r (s r refl) in
      let same : answers ≡ meaning_of (all_filled (cells_over form header rows) jobs) = cc in
      same ∙ ap meaning_of (sym (unique rows whole over))

  after_first_part : (tables : List (List Row)) (ps : List Part) (xs : List Row) (p r : Part) (t : Bool)
      → AreAnswered form newest bytes header over_header (xs ∷ tables) (p ∷ ps)
      → all_as_one over_header (if t then None else Some p) ps ≡ Some r → Stands (xs ++ all_rows tables) r
  after_first_part tables ps xs p r true a e = absurd cc
  after_first_part tables ps xs p r false a e = after_all tables ps xs p r (stands xs p a.0) a.1 e

  merged_is : (tables : List (List Row)) (parts : List Part) (whole : List AbstractJob) (answers : List Answer)
      → AreAnswered form newest bytes header over_header tables parts
      → IsOver form newest bytes header (all_rows tables) whole
      → merged over_header parts ≡ Some answers → answers ≡ meaning_of whole
  merged_is tables [] whole answers a over h = absurd cc
  merged_is [] (p ∷ ps) whole answers a over h = absurd a
  merged_is (xs ∷ tables) (p ∷ ps) whole answers a over h =
      after_first (xs ++ all_rows tables) (all_as_one over_header (first_part p) ps) whole answers
      (λ r e. after_first_part tables ps xs p r (nat_lt (2 ^ 62) p.rows) a e) over h

  merged_there : (tables : List (List Row)) (parts : List Part)
      → AreAnswered form newest bytes header over_header tables parts → merged over_header parts ≡ None
      → (parts ≡ []) ⊎ (2 ^ 62 < rows_in parts)
  merged_there tables [] a h = inl refl
  merged_there [] (p ∷ ps) a h = absurd a
  merged_there (xs ∷ tables) (p ∷ ps) a h = by_rows (nat_lt (2 ^ 62) (rows_in (p ∷ ps))) refl
    where
      by_rows : (t : Bool) → nat_lt (2 ^ 62) (p.rows + rows_in ps) ≡ t → (p ∷ ps ≡ []) ⊎ (2 ^ 62 < p.rows + rows_in ps)
      by_rows true e = inr (many (2 ^ 62) (p.rows + rows_in ps) e)
      by_rows false e =
          let all = all_there tables ps xs p (stands xs p a.0) a.1 (few_enough (2 ^ 62) (p.rows + rows_in ps) e) in
          let alone : p.rows ≤ 2 ^ 62 = omega (arith, few_enough (2 ^ 62) (p.rows + rows_in ps) e) in
          let some_there : finished over_header (all_as_one over_header (first_part p) ps)
          ≡ Some (meaning_of (all_filled (cells_over form header (xs ++ all_rows tables)) jobs)) =
          ap (λ (t : Bool). finished over_header (all_as_one over_header (if t then None else Some p) ps))
          (not_many (2 ^ 62) p.rows alone)
          ∙ ap (finished over_header) all.1 ∙ over_whole (xs ++ all_rows tables) all.0 all.2 in
          let no : None ≡ Some (meaning_of (all_filled (cells_over form header (xs ++ all_rows tables)) jobs)) =
          sym h ∙ some_there in
          absurd cc

-- ---- for jobs that are spelled

module _ (form : AbstractForm) (newest : ℕ) (bytes : List ℕ) (over_header : List AbstractJob) (parts : List Part)
    (whole : List AbstractJob) (good : first_unmergeable over_header ≡ None)
    (cut : IsCut form newest bytes over_header parts whole) where
  abbrev header : Row
  header = cut.header

  written : (ks : List WrittenJob) × (over_header ≡ all_filled (no_cells cut.columns) ks)
      × ((ds : List NamedColumn) (h : Cells) → Agree ds h → (js : List AbstractJob)
      → SpellsJobsWithin newest bytes ds js → js ≡ all_filled h ks)
  written = spelled_with newest bytes cut.columns over_header cut.bare cut.named

  unique : (rows : List Row) (js : List AbstractJob) → IsOver form newest bytes header rows js
      → js ≡ all_filled (cells_over form header rows) written.0
  unique rows js h =
      let names = column_names form header in
      let kept = kept_rows form header rows in
      written.2 (columns_under names kept) (cells_over form header rows)
      (record { cells = cells_under names kept; table = refl }) js
      (subst (λ (columns : List NamedColumn). SpellsJobsWithin newest bytes columns js)
      (table_columns form header rows h.columns h.table) h.spelled)

  pub whole_is : (answers : List Answer) → merged over_header parts ≡ Some answers
      → (answers ≡ meaning_of whole) × (names_of over_header ≡ names_of whole)
  whole_is = subst (λ (js : List AbstractJob). first_unmergeable js ≡ None
      → AreAnswered form newest bytes header js cut.tables parts → (answers : List Answer)
      → merged js parts ≡ Some answers → (answers ≡ meaning_of whole) × (names_of js ≡ names_of whole))
      (sym written.1)
      (λ g a answers h. (
        merged_is form newest bytes header cut.columns written.0 unique g cut.tables parts whole
            answers a cut.over h,
        names_kept form newest bytes header cut.columns written.0 unique g (all_rows cut.tables)
            whole cut.over,
      ))
      good cut.answered

  pub refused_is : merged over_header parts ≡ None → (parts ≡ []) ⊎ (2 ^ 62 < rows_in parts)
  refused_is = subst (λ (js : List AbstractJob). first_unmergeable js ≡ None
      → AreAnswered form newest bytes header js cut.tables parts → merged js parts ≡ None
      → (parts ≡ []) ⊎ (2 ^ 62 < rows_in parts))
      (sym written.1)
      (λ g a h. merged_there form newest bytes header cut.columns written.0 unique g cut.tables parts a h)
      good cut.answered
