-- Design: the words of early stop, the views of its seats, and what each call is.
use Rattle.std.specs.Prelude.{◌≡◌, ℕ, ◌<◌, ◌≤◌, ◌==◌, min, List, [], ◌∷◌, ◌++◌, length, slice_index_or, slice_set}
use Rattle.std.specs.Prelude.{replicate, if◌then◌else◌}
use mathlib.Core.Option.{some}
use lib.ListN.{get_elem?}
use Rattle.atomic_table.specs.Table.{State, Me, Step, opening}
use Rattle.early_stop.specs.Decisive.{no_place}
use Rattle.early_stop.specs.declared.view.KnownPlaces.{KnownPlaces}

-- helper: under a shorter name
abbrev pub greatest : ℕ
greatest = no_place

-- helper: the least of the places of segment i; the greatest u64 if there is none
abbrev pub least : ℕ → List (ℕ × ℕ) → ℕ
least i [] = greatest
least i (x ∷ xs) = if x.0 == i then min x.1 (least i xs) else least i xs

-- the least that any seat lowered for segment i
abbrev pub least_lowered : ℕ → List KnownPlaces → ℕ
least_lowered i [] = greatest
least_lowered i (v ∷ vs) = min (least i v.lowered) (least_lowered i vs)

-- what a new seat has lowered and knows: nothing
abbrev pub blank : KnownPlaces
blank = record { lowered = []; known = [] }

-- the seat lowered segment i to p
abbrev pub lowered_view : ℕ → ℕ → KnownPlaces → KnownPlaces
lowered_view i p v = record { lowered = (i, p) ∷ v.lowered; known = (i, p) ∷ v.known }

-- the seat saw p in the word of segment i
abbrev pub seen_view : ℕ → ℕ → KnownPlaces → KnownPlaces
seen_view i p v = record { lowered = v.lowered; known = (i, p) ∷ v.known }

-- a seat that was split stays as it was; the other one has lowered nothing, and knows what the first one knows
abbrev pub rest_view : KnownPlaces → KnownPlaces
rest_view v = v

abbrev pub part_view : KnownPlaces → KnownPlaces
part_view v = record { lowered = []; known = v.known }

-- helper: the words, and the views of the seats
abbrev pub Board : Type 0
Board = State (Unit {0}) KnownPlaces

-- Between any two steps: the word of a segment is the least place that any seat has lowered there, it is decisive, and
-- it is no greater than what any seat knows.
pub record Ruled (decides : ℕ → ℕ → Type 0) (words : ℕ) (s : Board) : Type 0 where
  pub size : length s.words ≡ words
  pub word : (i : ℕ) → i < words → slice_index_or s.words i 0 ≡ least_lowered i s.views
  pub decisive : (i : ℕ) → i < words → decides i (slice_index_or s.words i 0)
  pub known : (i : ℕ) → i < words → (a : ℕ) (v : KnownPlaces) → get_elem? s.views a ≡ some v
      → slice_index_or s.words i 0 ≤ least i v.known

-- One atomic step of the actor's, on the word i, which had n and then has n'. Its view was v and then is w, and nothing
-- else changed.
pub record OneStep (decides : ℕ → ℕ → Type 0) (words i n n' actor : ℕ) (v w : KnownPlaces) : Type 0 where
  pub before : Board
  pub later : Board
  pub ruled : Ruled decides words before
  pub found : slice_index_or before.words i 0 ≡ n
  pub viewed : get_elem? before.views actor ≡ some v
  pub words_after : later.words ≡ slice_set before.words i n'
  pub views_after : later.views ≡ slice_set before.views actor w
  pub ruled_after : Ruled decides words later

pub record IsLowered (decides : ℕ → ℕ → Type 0) (words actor i p : ℕ) (v w : KnownPlaces) : Type 0 where
  pub view : w ≡ lowered_view i p v
  pub found : ℕ
  pub one_step : OneStep decides words i found (min found p) actor v w

pub record IsSeen (decides : ℕ → ℕ → Type 0) (words actor i : ℕ) (v : KnownPlaces) (n : ℕ) (w : KnownPlaces) : Type
    0 where
  pub view : w ≡ seen_view i n v
  pub decisive : decides i n
  pub known : n ≤ least i v.known
  pub one_step : OneStep decides words i n n actor v w

-- a split adds one view and changes nothing else, whatever the words and the other views are; that the new view is of
-- the
-- second seat's own actor isn't said
abbrev pub IsSplit : (ℕ → ℕ → Type 0) → ℕ → KnownPlaces → KnownPlaces → KnownPlaces → Type 0
IsSplit decides words v rest part = (s : Board) (actor : ℕ) → Ruled decides words s → get_elem? s.views actor ≡ some v
    → Ruled decides words (record {
      words = s.words;
      homes = s.homes;
      views = slice_set s.views actor rest ++ part ∷ [];
    })

-- at the start
abbrev pub IsOpened : (ℕ → ℕ → Type 0) → ℕ → KnownPlaces → Type 0
IsOpened decides words v = Ruled decides words (opening (replicate words greatest) [] v)

-- what each step of the table means to its caller
module _ (decides : ℕ → ℕ → Type 0) (words actor : ℕ) where
  abbrev pub lowered_at : Step (Unit {0}) → Me (Unit {0}) KnownPlaces → ℕ → Me (Unit {0}) KnownPlaces → Type 0
  lowered_at st m n m' = (m'.1 ≡ m.1) × IsLowered decides words actor st.word st.first m.0 m'.0

  abbrev pub seen_at : Step (Unit {0}) → Me (Unit {0}) KnownPlaces → ℕ → Me (Unit {0}) KnownPlaces → Type 0
  seen_at st m n m' = (m'.1 ≡ m.1) × IsSeen decides words actor st.word m.0 n m'.0
