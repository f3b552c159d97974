-- The records of a text, from one to the next.
use Rattle.std.proofs.Common.{◌≡◌, ◌<◌, ◌≤◌, ℕ, zero, suc, List, [], ◌∷◌, Bool, true, false, Some, None, Option, length}
use Rattle.std.proofs.Common.{refl, sym, ap, subst, ◌∙◌, arith, inl, inr}
use Rattle.std.proofs.lemmas.Bool.{cases_Bool}
use Rattle.std.proofs.lemmas.Option.{same_Some}
use Rattle.csv.specs.Machine.{Read, ends_at_end, is_end, next_record, step}
use Rattle.std.specs.Borrow.{Bor}
use Rattle.csv.specs.Reading.{AreRecords, Reached, ReadRecord, is_flexible, reader_config, records_from, records_next}
use Rattle.csv.specs.Reading.{took_first}
use Rattle.csv.specs.declared.reader.Reader.{Reader}
use Rattle.csv.proofs.ReadFacts.{rows-end, rows-more}
use Rattle.columns.specs.Records.{GaveNext, IsReading, IsSetUp}
use Rattle.csv.specs.declared.parser.Config.{Config}
use Rattle.csv.specs.declared.parser.State.{State}
use Rattle.csv.specs.declared.parser.State.TheVariants as st

-- at the end of a text a record leaves nothing
pub next_record-end : (cfg : Config) (s : State) (fields : List (List ℕ)) (field : List ℕ) (p : Read)
    → next_record cfg s fields field [] ≡ Some p
    → (p.1 ≡ st.StartRecord) × (p.2 ≡ [])
unfolding next_record
next_record-end cfg s fields field p h = elim (cases_Bool (ends_at_end s)) [
  | inl ends ↦ let e = rw ends at h in (cc e, cc e)
  | inr goes ↦ cc (rw goes at h)
]

-- before it a record takes one byte at least
next_record-shorter : (cfg : Config) (rest : List ℕ) (s : State) (fields : List (List ℕ)) (field : List ℕ) (c : ℕ)
    (p : Read)
    → next_record cfg s fields field (c ∷ rest) ≡ Some p → length p.2 ≤ length rest
unfolding next_record
next_record-shorter cfg [] s fields field c p h = elim (cases_Bool (is_end (step cfg s c).1)) [
  | inl ends ↦ let e = rw ends at h in let none : p.2 ≡ [] = cc e in rw none (omega arith)
  | inr goes ↦ rw (next_record-end cfg _ _ _ p (rw goes at h)).1 (omega arith)
]
next_record-shorter cfg (d ∷ rest) s fields field c p h = elim (cases_Bool (is_end (step cfg s c).1)) [
  | inl ends ↦ let e = rw ends at h in let others : p.2 ≡ d ∷ rest = cc e in rw others (omega arith)
  | inr goes ↦ omega (arith, next_record-shorter cfg rest _ _ _ d p (rw goes at h))
]

records_from-none : (cfg : Config) (n : ℕ) → records_from cfg n st.StartRecord [] ≡ []
unfolding records_from next_record
records_from-none cfg zero = refl
records_from-none cfg (suc n) = refl

-- what is left after a record has fewer bytes
after_record : (cfg : Config) (n : ℕ) (xs : List ℕ) (s : State) (p : Read) → length xs < suc n
    → next_record cfg s [] [] xs ≡ Some p
    → ((t : State) (ys : List ℕ) → length ys < n → AreRecords cfg t ys (records_from cfg n t ys))
    → AreRecords cfg p.1 p.2 (records_from cfg n p.1 p.2)
unfolding Reached next_record
after_record cfg n [] s p h e more =
    let (start, nothing) = next_record-end cfg s [] [] p e in
    rw (start, nothing, records_from-none cfg n) (st.StartRecord, [], (refl, refl), refl)
after_record cfg n (c ∷ rest) s p h e more = more p.1 p.2 (omega (arith, next_record-shorter cfg rest s [] [] c p e))

-- the number of bytes, and one more, is enough for all records
pub AreRecords-records_from : (cfg : Config) (n : ℕ) (s : State) (xs : List ℕ) → length xs < n
    → AreRecords cfg s xs (records_from cfg n s xs)
unfolding records_from Reached
AreRecords-records_from cfg zero s xs h = absurd (omega arith)
AreRecords-records_from cfg (suc n) s xs h = next (next_record cfg s [] [] xs) refl (AreRecords-records_from cfg n)
  where
    next : (o : Option Read) → next_record cfg s [] [] xs ≡ o
        → ((t : State) (ys : List ℕ) → length ys < n → AreRecords cfg t ys (records_from cfg n t ys))
        → AreRecords cfg s xs (records_next (records_from cfg n) o)
    next None e more = (s, xs, (refl, refl), e)
    next (Some p) e more =
        let (s2, ys, reached, none) = after_record cfg n xs s p h e more in
        (s2, ys, (p, e, refl, reached), none)

Reached-at : (cfg : Config) (p : Read) (t : State) (z : List ℕ) (rows : List (List (List ℕ))) (s2 : State) (ys : List ℕ)
    → p.1 ≡ t → p.2 ≡ z
    → Reached cfg p.1 p.2 rows s2 ys → Reached cfg t z rows s2 ys
Reached-at cfg p t z rows s2 ys a b h = rw (sym a, sym b) h

-- a read of a record leaves the reader set up
pub IsSetUp-read : (a b : Reader (Bor (List ℕ))) (found : Bool) (fields : List (List ℕ)) → IsSetUp a
    → ReadRecord (λ bytes. Some bytes.now) a b found fields → took_first b ≡ true → is_flexible b ≡ is_flexible a
    → IsSetUp b
IsSetUp-read a b found fields s read first same = record {
  untrimmed = read.3 ∙ s.untrimmed;
  flexible = same ∙ s.flexible;
  ready = inl first;
}

-- what a read of a record does to a reader that has these rows left
pub GaveNext-read : (a b : Reader (Bor (List ℕ))) (found : Bool) (fields : List (List ℕ)) (rows : List (List (List ℕ)))
    → IsReading a rows → ReadRecord (λ bytes. Some bytes.now) a b found fields → IsSetUp b
    → GaveNext rows found fields b
unfolding Reached
GaveNext-read a b true fields [] r read after =
    let cfg = reader_config a in
    let (z, at_z, took) = rows-more (λ bytes. Some bytes.now) a b fields cfg a.state r.left r.left [] refl r.source
    (refl, refl) read in
    let (p, found, same, end) = took in
    let (s2, ys, reached, none) = r.records in
    let nothing : next_record cfg a.state [] [] r.left ≡ None = rw (reached.0, reached.1) none in
    cc (sym nothing ∙ found)
GaveNext-read a b true fields (row ∷ rows) r read after =
    let cfg = reader_config a in
    let (z, at_z, took) = rows-more (λ bytes. Some bytes.now) a b fields cfg a.state r.left r.left [] refl r.source
    (refl, refl) read in
    let (p, found, same, end) = took in
    let (s2, ys, reached, none) = r.records in
    let (q, first_is, row_is, others) = reached in
    let one : q ≡ p = same_Some q p (sym first_is ∙ found) in
    let here : Reached cfg b.state z rows s2 ys =
    Reached-at cfg p b.state z rows s2 ys end.0 end.1 (rw one at others) in
    let left : row ≡ fields = row_is ∙ ap (λ (m : Read). m.0) one ∙ sym same in
    let all : AreRecords cfg b.state z rows = (s2, ys, here, none) in (
      rows,
      ap (λ f. f ∷ rows) left,
      record {
        set_up = after;
        left = z;
        source = at_z;
        records = subst (λ c. AreRecords c b.state z rows) (sym read.2) all;
      },
    )
GaveNext-read a b false fields [] r read after = refl
GaveNext-read a b false fields (row ∷ rows) r read after =
    let nothing = rows-end (λ bytes. Some bytes.now) a b fields (reader_config a) r.left refl r.source read in
    let (s2, ys, reached, none) = r.records in
    let (q, first_is, row_is, others) = reached in
    cc (sym nothing ∙ first_is)
