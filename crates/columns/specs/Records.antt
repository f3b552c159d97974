-- Condition: which records a reader still has to give.
use Rattle.std.specs.Prelude.{◌≡◌, ◌∷◌, [], ℕ, List, Bool, true, Some}
use Rattle.std.specs.Borrow.{Bor}
use Rattle.std.specs.Bool.{MatchBool}
use Rattle.csv.specs.Reading.{AreRecords, Ready, is_flexible, reader_config, reader_state, reader_trim, source_of}
use Rattle.csv.specs.declared.reader.Reader.{Reader}
use Rattle.csv.specs.declared.reader.Trim.TheVariants as trim

-- the reader trims nothing, has no header row and takes records of any length
pub record IsSetUp (reader : Reader (Bor (List ℕ))) : Type 0 where
  pub untrimmed : reader_trim reader ≡ trim.None
  pub flexible : is_flexible reader ≡ true
  pub ready : Ready reader

-- these are all the records that the reader has left, by the way it is set
pub record IsReading (reader : Reader (Bor (List ℕ))) (rows : List (List (List ℕ))) : Type 0 where
  pub set_up : IsSetUp reader
  pub left : List ℕ
  pub source : source_of (λ bytes. Some bytes.now) reader ≡ Some left
  pub records : AreRecords (reader_config reader) (reader_state reader) left rows

-- the first of the rows was found, with these fields, and the reader still has the others; or there was none
abbrev pub GaveNext : List (List (List ℕ)) → Bool → List (List ℕ) → Reader (Bor (List ℕ)) → Type 0
GaveNext rows found fields reader =
    MatchBool found ((others : List (List (List ℕ))) × (rows ≡ fields ∷ others) × IsReading reader others) (rows ≡ [])
