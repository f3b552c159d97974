-- A text whose first rows stand in the columns, until all of its rows do.
use Rattle.std.proofs.Common.{◌≡◌, ◌<◌, ◌≤◌, ◌++◌, ◌∷◌, ◌∙◌, ◌⊎◌, ◌+◌, [], ℕ, zero, suc, List, Option, Some, None}
use Rattle.std.proofs.Common.{IfSome, Result, Ok, Err, refl, sym, ap, subst, inl, inr, arith, append_assoc, length}
use Rattle.std.proofs.Common.{take, drop}
use Rattle.std.proofs.lemmas.List.{append-nil, length-map, length-take, take-append-drop}
use Rattle.std.proofs.lemmas.Option.{same_Some}
use Rattle.std.specs.Prelude.{⊤, OnOk}
use Rattle.std.specs.Io.KnownBytes.{Consumes, IsAtEnd}
use Rattle.csv.specs.Machine.{Read}
use Rattle.csv.specs.Reading.{Reached, records, strip_bom}
use Rattle.csv.specs.declared.parser.State.TheVariants as st
use Rattle.counted_io.specs.CountedRead.{GaveSome}
use Rattle.counted_io.proofs.GivenBytes.{Consumes-append}
use Rattle.columns.specs.declared.fault.ColumnFault.{ColumnFault}
use Rattle.columns.specs.declared.fault.ColumnFault.TheVariants as fault
use Rattle.columns.specs.declared.layout.Layout.{Layout}
use Rattle.columns.specs.Fronts.{ArePutUnder, Goes, IsAnswerOf, IsFront, IsPutBy, IsReadWhole, fault_by, kept_rows}
use Rattle.columns.specs.Layouts.{AreReadBy, IsAnswerBy, IsLayout, looks_in, records_in}
use Rattle.columns.specs.Pieces.{cells_at}
use Rattle.columns.specs.Refusals.{header_fault}
use Rattle.columns.specs.Table.{columns_under, first_number}
use Rattle.tables.specs.Table.{NamedColumn}
use Rattle.columns.specs.TableForms.{AbstractForm, cells_by, config_of, filled_rows, kept, kept_names, table_by}
use Rattle.columns.specs.TextRows.{AreRowsIn, EndsFirst, HaveRows}
use Rattle.columns.proofs.FileLemmas.{table_bad, table_good}
use Rattle.columns.proofs.MarkLemmas.{strip_bom-more}
use Rattle.columns.proofs.RecordLemmas.{AreRecords-records_from}
use Rattle.columns.proofs.TableLemmas.{with_rows-columns_under}
use Rattle.columns.proofs.TextRowLemmas.{AreRowsIn-none, AreRowsIn-row, AreRowsIn-same, fault_more, rows_more}

pub rows_of_text : (s : ℕ) (xs : List ℕ) → AreRowsIn s xs (records (config_of s) xs)
rows_of_text s xs = AreRecords-records_from (config_of s) (length xs + 1) st.StartRecord xs (omega arith)

cells_of_first : (header : List (List ℕ)) (rows : List (List (List ℕ))) → 0 < length (columns_under header rows)
    → length (cells_at (columns_under header rows) 0) ≡ length rows
cells_of_first [] rows h = absurd (omega arith)
cells_of_first (name ∷ names) rows h = length-map rows first_number

-- the number of rows is the number of cells of the first column
rows_so_far : (form : AbstractForm) (l : Layout) (text left : List ℕ) (columns : List NamedColumn)
    (f : IsFront form l text left columns) → 0 < length columns
    → length (cells_at columns 0) ≡ length (filled_rows l.blank f.rows)
rows_so_far form l text left columns f h =
    let under = f.put ∙ with_rows-columns_under (kept_names (looks_in l) f.header) [] (kept_rows l f.rows) in
    ap (λ c. length (cells_at c 0)) under
    ∙ cells_of_first (kept_names (looks_in l) f.header) (kept_rows l f.rows) (rw under at h)
    ∙ length-map (filled_rows l.blank f.rows) (kept (looks_in l))

-- columns without rows
pub HaveRows-under : (names : List (List ℕ)) → HaveRows 0 (columns_under names [])
HaveRows-under [] = tt
HaveRows-under (name ∷ names) = (refl, HaveRows-under names)

-- the header
header_is : (s : ℕ) (text : List ℕ) (end : ℕ) (first : EndsFirst s text end) (header : List (List ℕ))
    (rows : List (List (List ℕ))) → AreRowsIn s text (header ∷ rows) → first.fields ≡ header
unfolding Reached
header_is s text end first header rows (s2, zs, (p, found, same, others), none) =
    let here = rw (take-append-drop end text) at (first.reads (drop end text)) in
    let one : (first.fields, first.state, drop end text) ≡ p =
    same_Some (first.fields, first.state, drop end text) p (sym here ∙ found) in
    ap (λ (q : Read). q.0) one ∙ sym same

pub IsFront-header : (form : AbstractForm) (l : Layout) (bytes : List ℕ) (end : ℕ) (header : List (List ℕ))
    (rows : List (List (List ℕ))) (columns : List NamedColumn)
    → EndsFirst form.separator (strip_bom bytes) end → records_in form.separator bytes ≡ header ∷ rows
    → IsLayout form l header → header_fault (kept_names (looks_in l) header) ≡ None
    → columns ≡ columns_under (kept_names (looks_in l) header) []
    → IsFront form l (strip_bom bytes) (drop end (strip_bom bytes)) columns
IsFront-header form l bytes end header rows columns first split is fits under =
    let s = form.separator in
    let text = strip_bom bytes in
    let all : AreRowsIn s text (header ∷ rows) = subst (AreRowsIn s text) split (rows_of_text s text) in
    let same : first.fields ≡ header = header_is s text end first header rows all in
    let whole : (rest : List ℕ) → take end text ++ (drop end text ++ rest) ≡ text ++ rest =
    λ rest. sym (append_assoc (take end text) (drop end text) rest)
    ∙ ap (λ t. t ++ rest) (take-append-drop end text) in
    let reads : (rest : List ℕ) (more : List (List (List ℕ))) → AreRowsIn s (drop end text ++ rest) more
    → AreRowsIn s (text ++ rest) (header ∷ more) =
    λ rest more r. rw (sym (whole rest), sym same)
    (AreRowsIn-row s (take end text ++ (drop end text ++ rest)) (drop end text ++ rest) first.fields more
    (first.state, first.between, first.reads (drop end text ++ rest)) r) in
    record {
      header = header;
      rows = [];
      layout = is;
      reads = rw is.separator reads;
      fits = fits;
      good = refl;
      put = under;
    }

-- rows more
IsFront-more : (form : AbstractForm) (l : Layout) (text xs ys : List ℕ) (a b : List NamedColumn)
    → IsFront form l text xs a → AreReadBy l xs ys a b → IsFront form l text ys b
IsFront-more form l text xs ys a b f read = record {
  header = f.header;
  rows = f.rows ++ read.rows;
  layout = f.layout;
  reads = λ rest more r. rw (append_assoc f.rows read.rows more)
      (f.reads rest (read.rows ++ more) (read.reads rest more r));
  fits = f.fits;
  good = fault_more (looks_in l) l.blank 1 f.rows read.rows f.good
      ∙ read.good (1 + length (filled_rows l.blank f.rows));
  put = rows_more (looks_in l) l.blank (columns_under (kept_names (looks_in l) f.header) []) a b f.rows read.rows f.put
      read.put;
}

-- bytes after it
IsFront-given : (form : AbstractForm) (l : Layout) (text left gone : List ℕ) (a : List NamedColumn)
    → IsFront form l text left a → IsFront form l (text ++ gone) (left ++ gone) a
IsFront-given form l text left gone a f = record {
  header = f.header;
  rows = f.rows;
  layout = f.layout;
  reads = λ rest more r. rw (append_assoc text gone rest)
      (f.reads (gone ++ rest) more (rw (append_assoc left gone rest) at r));
  fits = f.fits;
  good = f.good;
  put = f.put;
}

-- the rest of the text is read by its records
IsFront-records : (form : AbstractForm) (l : Layout) (text left : List ℕ) (a b : List NamedColumn)
    (answer : Result ⊤ ColumnFault) → 0 < length a → IsFront form l text left a
    → ArePutUnder l left a answer b → IsAnswerOf form text answer b
IsFront-records form l text left a b (Ok u) some f put all are =
    let s = l.separator in
    let more = records (config_of s) left in
    let (none_bad, under) = put more (rows_of_text s left) in
    let number : length (cells_at a 0) + 1 ≡ 1 + length (filled_rows l.blank f.rows) =
    omega (arith, rows_so_far form l text left a f some) in
    let good : fault_by l 1 (f.rows ++ more) ≡ None =
    fault_more (looks_in l) l.blank 1 f.rows more f.good ∙ rw number at none_bad in
    let columns = rows_more (looks_in l) l.blank (columns_under (kept_names (looks_in l) f.header) []) a b f.rows more
    f.put under in
    let are_here : AreRowsIn s text all = rw f.layout.separator are in
    let read : AreRowsIn s text (f.header ∷ (f.rows ++ more)) =
    rw (append-nil text) at (f.reads [] more (rw (append-nil left) (rows_of_text s left))) in
    ap (table_by form) (AreRowsIn-same s text all (f.header ∷ (f.rows ++ more)) are_here read)
    ∙ table_good form l f.header (f.rows ++ more) b f.layout f.fits good columns
IsFront-records form l text left a b (Err cause) some f put all are = λ no_read no_memory.
    let s = l.separator in
    let more = records (config_of s) left in
    let bad = put more (rows_of_text s left) no_memory in
    let number : length (cells_at a 0) + 1 ≡ 1 + length (filled_rows l.blank f.rows) =
    omega (arith, rows_so_far form l text left a f some) in
    let first : fault_by l 1 (f.rows ++ more) ≡ Some cause =
    fault_more (looks_in l) l.blank 1 f.rows more f.good ∙ rw number at bad in
    let are_here : AreRowsIn s text all = rw f.layout.separator are in
    let read : AreRowsIn s text (f.header ∷ (f.rows ++ more)) =
    rw (append-nil text) at (f.reads [] more (rw (append-nil left) (rows_of_text s left))) in
    ap (table_by form) (AreRowsIn-same s text all (f.header ∷ (f.rows ++ more)) are_here read)
    ∙ table_bad form l f.header (f.rows ++ more) cause f.layout f.fits first

-- nothing is left
pub ArePutUnder-none : (l : Layout) (text : List ℕ) (columns : List NamedColumn) → length text ≡ 0
    → ArePutUnder l text columns (Ok tt) columns
ArePutUnder-none l [] columns none rows are =
    let nothing : rows ≡ [] = AreRowsIn-same l.separator [] rows [] are (AreRowsIn-none l.separator) in
    rw nothing (refl, refl)
ArePutUnder-none l (x ∷ text) columns none rows are = absurd (omega (arith, none))

-- rows that are plain, and then others by their records
pub IsFront-put : (form : AbstractForm) (l : Layout) (text xs ys : List ℕ) (a b c : List NamedColumn)
    (answer : Result ⊤ ColumnFault) → 0 < length b → AreReadBy l xs ys a b
    → ArePutUnder l ys b answer c → IsFront form l text xs a → IsAnswerOf form text answer c
IsFront-put form l text xs ys a b c answer some read put f =
    IsFront-records form l text ys b c answer some (IsFront-more form l text xs ys a b f read) put

-- a fault of the reader or of memory answers all
answer_failed : (form : AbstractForm) (text : List ℕ) (cause : ColumnFault) (columns : List NamedColumn)
    → (cause ≡ fault.Read) ⊎ (cause ≡ fault.NoMemory) → IsAnswerOf form text (Err cause) columns
answer_failed form text cause columns (inl is) all are no_read no_memory = absurd (no_read is)
answer_failed form text cause columns (inr is) all are no_read no_memory = absurd (no_memory is)

Consumes-none : (a : Option (List ℕ)) → Consumes a a []
Consumes-none None = tt
Consumes-none (Some xs) = refl

-- nothing given yet, and one after the other
pub Goes-none : (l : Layout) (a : Option (List ℕ)) (bytes : List ℕ) (columns : List NamedColumn)
    → Goes l a a bytes bytes columns columns
Goes-none l a bytes columns = ([], Consumes-none a, λ form text f. rw (append-nil text) f)

pub Goes-on : (l : Layout) (a b c : Option (List ℕ)) (bytes left last : List ℕ) (before columns now : List NamedColumn)
    → Goes l a b bytes left before columns → Goes l b c left last columns now
    → Goes l a c bytes last before now
Goes-on l a b c bytes left last before columns now (one, first, go) (two, second, on) = (
  one ++ two,
  Consumes-append a b c one two first second,
  λ form text f. rw (sym (append_assoc text one two)) (on form (text ++ one) (go form text f)),
)

pub Goes-put : (l : Layout) (a b c : Option (List ℕ)) (bytes left : List ℕ) (before columns now : List NamedColumn)
    (answer : Result ⊤ ColumnFault) → Goes l a b bytes left before columns
    → IsPutBy l b c left columns answer now → IsPutBy l a c bytes before answer now
Goes-put l a b c bytes left before columns now answer (one, first, go) (two, second, on) = (
  one ++ two,
  Consumes-append a b c one two first second,
  λ form text f. rw (sym (append_assoc text one two)) (on form (text ++ one) (go form text f)),
)

pub Goes-failed : (l : Layout) (a b c : Option (List ℕ)) (bytes left : List ℕ) (before columns now : List NamedColumn)
    (cause : ColumnFault) → Goes l a b bytes left before columns
    → GaveSome b c → (cause ≡ fault.Read) ⊎ (cause ≡ fault.NoMemory) → IsPutBy l a c bytes before (Err cause) now
Goes-failed l a b c bytes left before columns now cause (one, first, go) (two, second) is = (
  one ++ two,
  Consumes-append a b c one two first second,
  λ form text f. answer_failed form (text ++ (one ++ two)) cause now is,
)

-- a round whose rows were put up to a place, and the bytes that were read meanwhile
drop-front : (n : ℕ) (xs ys : List ℕ) → n ≤ length xs → drop n (xs ++ ys) ≡ drop n xs ++ ys
drop-front zero xs ys h = refl
drop-front (suc n) [] ys h = absurd (omega (arith, h))
drop-front (suc n) (x ∷ xs) ys h = drop-front n xs ys (omega (arith, h))

-- the lines that are left of a round, before the bytes that were read meanwhile
pub drop-round : (from end put_to a b : ℕ) (bytes spare : List ℕ) → a ≡ from + put_to → b ≡ from + end
    → b ≤ length bytes
    → drop a (take b bytes ++ spare) ≡ drop put_to (take end (drop from bytes) ++ spare)
drop-round zero end put_to a b bytes spare is to within =
    let start : a ≡ put_to = omega (arith, is) in
    let stop : b ≡ end = omega (arith, to) in
    rw (start, stop) refl
drop-round (suc from) end put_to zero b bytes spare is to within = absurd (omega (arith, is))
drop-round (suc from) end put_to (suc a) zero bytes spare is to within = absurd (omega (arith, to))
drop-round (suc from) end put_to (suc a) (suc b) [] spare is to within = absurd (omega (arith, within))
drop-round (suc from) end put_to (suc a) (suc b) (x ∷ bytes) spare is to within =
    drop-round from end put_to a b bytes spare (omega (arith, is)) (omega (arith, to)) (omega (arith, within))

AreReadBy-given : (l : Layout) (xs ys gone : List ℕ) (a b : List NamedColumn) → AreReadBy l xs ys a b
    → AreReadBy l (xs ++ gone) (ys ++ gone) a b
AreReadBy-given l xs ys gone a b read = record {
  rows = read.rows;
  reads = λ rest more r. rw (append_assoc xs gone rest)
      (read.reads (gone ++ rest) more (rw (append_assoc ys gone rest) at r));
  good = read.good;
  put = read.put;
}

pub Goes-round : (l : Layout) (a b : Option (List ℕ)) (bytes spare gone next : List ℕ) (end put_to : ℕ)
    (before now : List NamedColumn) → put_to ≤ end → end ≤ length bytes
    → AreReadBy l (take end bytes) (drop put_to (take end bytes)) before now → Consumes a b gone
    → spare ≡ drop end bytes ++ gone → next ≡ drop put_to (take end bytes ++ spare)
    → Goes l a b bytes next before now
Goes-round l a b bytes spare gone next end put_to before now within in_bytes read consumed is from = (
  gone,
  consumed,
  λ form text f.
      let lines = take end bytes in
      let tail = drop end bytes ++ gone in
      let whole : bytes ++ gone ≡ lines ++ tail =
      ap (λ t. t ++ gone) (sym (take-append-drop end bytes)) ∙ append_assoc lines (drop end bytes) gone in
      let left : next ≡ drop put_to lines ++ tail =
      from ∙ ap (λ t. drop put_to (lines ++ t)) is
      ∙ drop-front put_to lines tail (omega (arith, length-take end bytes, within, in_bytes)) in
      rw left (IsFront-more form l (text ++ gone) (lines ++ tail) (drop put_to lines ++ tail) before now
      (rw whole at (IsFront-given form l text bytes gone before f))
      (AreReadBy-given l lines (drop put_to lines) tail before now read)),
)

-- the last bytes
pub IsPutBy-last : (l : Layout) (left : Option (List ℕ)) (bytes ys : List ℕ) (before columns now : List NamedColumn)
    (answer : Result ⊤ ColumnFault) → 0 < length columns
    → AreReadBy l bytes ys before columns → ArePutUnder l ys columns answer now
    → IsPutBy l left left bytes before answer now
IsPutBy-last l left bytes ys before columns now answer some read put = (
  [],
  Consumes-none left,
  λ form text f. rw (append-nil text)
      (IsFront-put form l text bytes ys before columns now answer some read put f),
)

pub IsPutBy-failed : (l : Layout) (left : Option (List ℕ)) (bytes : List ℕ) (before now : List NamedColumn)
    (cause : ColumnFault) → (cause ≡ fault.Read) ⊎ (cause ≡ fault.NoMemory)
    → IsPutBy l left left bytes before (Err cause) now
IsPutBy-failed l left bytes before now cause is =
    ([], Consumes-none left, λ form text f. answer_failed form (text ++ []) cause now is)

pub IsPutBy-records : (l : Layout) (a b : Option (List ℕ)) (bytes gone text : List ℕ) (before now : List NamedColumn)
    (answer : Result ⊤ ColumnFault) → 0 < length before → Consumes a b gone
    → text ≡ bytes ++ gone → ArePutUnder l text before answer now → IsPutBy l a b bytes before answer now
IsPutBy-records l a b bytes gone text before now answer some consumed is put = (
  gone,
  consumed,
  λ form all f. IsFront-records form l (all ++ gone) (bytes ++ gone) before now answer some
      (IsFront-given form l all bytes gone before f) (rw is at put),
)

-- the rows after the header are the file's
pub file_answer : (l : Layout) (a b : Option (List ℕ)) (bytes left : List ℕ) (before now : List NamedColumn)
    (answer : Result ⊤ ColumnFault) → 3 ≤ length bytes
    → IsPutBy l a b left before answer now
    → (gone : List ℕ) × Consumes a b gone
    × ((form : AbstractForm) → IsFront form l (strip_bom bytes) left before
    → IsAnswerOf form (strip_bom (bytes ++ gone)) answer now)
file_answer l a b bytes left before now answer long (gone, consumed, put) =
    (gone, consumed, λ form f. rw (strip_bom-more bytes gone long) (put form (strip_bom bytes) f))

pub file_columns : (form : AbstractForm) (bytes : List ℕ) (now : List NamedColumn)
    → IsAnswerOf form (strip_bom bytes) (Ok tt) now → cells_by form bytes ≡ Ok now
file_columns form bytes now is = is (records_in form.separator bytes) (rows_of_text form.separator (strip_bom bytes))

pub file_fault : (form : AbstractForm) (bytes : List ℕ) (now : List NamedColumn) (cause : ColumnFault)
    → IsAnswerOf form (strip_bom bytes) (Err cause) now → IsAnswerBy form bytes (Err cause)
file_fault form bytes now cause is = is (records_in form.separator bytes)
    (rows_of_text form.separator (strip_bom bytes))

pub text_columns : (form : AbstractForm) (bytes text : List ℕ) (now : List NamedColumn) → text ≡ strip_bom bytes
    → IsAnswerOf form text (Ok tt) now → cells_by form bytes ≡ Ok now
text_columns form bytes text now same is = file_columns form bytes now (rw same at is)

pub text_fault : (form : AbstractForm) (bytes text : List ℕ) (now : List NamedColumn) (cause : ColumnFault)
    → text ≡ strip_bom bytes → IsAnswerOf form text (Err cause) now → IsAnswerBy form bytes (Err cause)
text_fault form bytes text now cause same is = file_fault form bytes now cause (rw same at is)

-- what is known of a reader's bytes
pub answer_known : (form : AbstractForm) (a b : Option (List ℕ)) (gone : List ℕ)
    (answer : Result (List NamedColumn) ColumnFault) → Consumes a b gone → IsReadWhole b answer
    → IsAnswerBy form gone answer
    → IfSome a (λ bytes. IsAnswerBy form bytes answer)
answer_known form None b gone answer consumed whole is = tt
answer_known form (Some xs) None gone answer consumed whole is = absurd consumed
answer_known form (Some xs) (Some ys) gone (Ok columns) consumed whole is =
    let all : xs ≡ gone = consumed ∙ ap (λ l. gone ++ l) whole ∙ append-nil gone in
    rw all is
answer_known form (Some xs) (Some ys) gone (Err cause) consumed whole is = λ no_read no_memory.
    let all : xs ≡ gone = consumed ∙ ap (λ l. gone ++ l) (whole no_read no_memory) ∙ append-nil gone in
    rw all (is no_read no_memory)

pub whole_ok : (b : Option (List ℕ)) (answer : Result (List NamedColumn) ColumnFault) → IsReadWhole b answer
    → OnOk answer (IsAtEnd b)
whole_ok b (Ok columns) whole = whole
whole_ok b (Err cause) whole = tt

pub at_end_whole : {X : Type 0} (b : Option (List ℕ)) (answer : Result X ColumnFault) → IsAtEnd b → IsReadWhole b answer
at_end_whole b (Ok x) end = end
at_end_whole b (Err cause) end = λ no_read no_memory. end
