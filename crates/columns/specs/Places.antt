-- Condition: the places in a record as the states of `csv`.
use Rattle.csv.specs.declared.parser.State.{State}
use Rattle.csv.specs.declared.parser.State.TheVariants as st
use Rattle.columns.specs.declared.header.RecordPlace.{RecordPlace}
use Rattle.columns.specs.declared.header.RecordPlace.TheVariants as place

-- the state of `csv` at a place
abbrev pub state_of : RecordPlace → State
state_of place.RecordStart = st.StartRecord
state_of place.FieldStart = st.StartField
state_of place.Field = st.InField
state_of place.Quoted = st.InQuoted
state_of place.AfterQuote = st.AfterQuote
