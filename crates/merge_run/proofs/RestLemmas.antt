-- What is left of a report while its objects are read.
use Rattle.std.proofs.Common.{◌≡◌, ◌≢◌, ℕ, ◌+◌, ◌<◌, ◌≤◌, get_or, Bool, true, false, List, [], ◌∷◌, ◌++◌, length}
use Rattle.std.proofs.Common.{Option, Some, None, refl, sym, ap, subst, ◌∙◌, append_assoc, append-nil, arith, rules}
use Rattle.std.proofs.Common.{drop}
use Rattle.std.specs.Prelude.{All, codes, slice_index_or}
use Rattle.std.specs.List.{list_all}
use Rattle.std.proofs.lemmas.Grind.{common_steps}
use Rattle.std.proofs.lemmas.List.{drop_all, drop_more}
use Rattle.std.proofs.lemmas.List.Elements.{All-head, All-tail}
use Rattle.job_meaning.specs.declared.answer.Answer.{Answer}
use Rattle.merge_run.specs.Objects.{IsObject, object_then, objects_then}
use Rattle.merge_run.specs.Small.{AreAnswersOf, AreHeld, IsHeld, IsReportOfNone}
use Rattle.merge_run.specs.Taken.{ends_text, is_plain}
use Rattle.merge_run.specs.declared.objects.JobObject.{JobObject}
use Rattle.merge_run.proofs.ObjectTexts.{AreNames, report_is}
use Rattle.report.specs.Json.{report_json}
use Rattle.serde_json.specs.Written.{comma_if}
use Rattle.stream_tokens.specs.Bytes.{is_name_byte, is_name_start}
use Rattle.stream_tokens.specs.Forms.{IsName}

pub names_are : (ns : List (List ℕ)) → All IsName ns → AreNames ns
names_are [] all = tt
names_are (n ∷ ns) all = (All-head IsName n ns all, names_are ns (All-tail IsName n ns all))

plain_byte : (b : ℕ) → is_name_byte b ≡ true → ends_text b ≡ false
plain_byte b is = grind (arith, common_steps, is)

plain_bytes : (bs : List ℕ) → list_all is_name_byte bs ≡ true → is_plain bs ≡ true
plain_bytes [] all = refl
plain_bytes (b ∷ bs) all =
    let parts : (is_name_byte b ≡ true) × (list_all is_name_byte bs ≡ true) = search rules in
    let first = plain_byte b parts.0 in
    let more = plain_bytes bs parts.1 in
    search rules

plain_start : (b : ℕ) → is_name_start b ≡ true → ends_text b ≡ false
plain_start b is = grind (arith, common_steps, is)

pub name_is_plain : (n : List ℕ) → IsName n → is_plain n ≡ true
name_is_plain [] is = absurd is
name_is_plain (b ∷ bs) is =
    let first = plain_start b is.0 in
    let more = plain_bytes bs is.1 in
    search rules

pub names_are_plain : (ns : List (List ℕ)) → All IsName ns → All (λ name. is_plain name ≡ true) ns
names_are_plain ns all = λ i d within. name_is_plain (slice_index_or ns i d) (all i d within)

-- of the answers of jobs with these names some were found, and the objects of the other jobs are left
pub record AreLeft (names : List (List ℕ)) (later : Bool) (ns : List (List ℕ)) (others found : List Answer)
    (left : List ℕ) : Type 0 where
  pub more : List Answer
  pub all : others ≡ found ++ more
  pub held : AreHeld names more
  pub paired : length ns ≡ length more
  pub text : left ≡ objects_then names later ns more

-- the bytes are a report of no other answers than these are the beginning of, if it is of any
abbrev pub Reads : List (List ℕ) → List ℕ → Bool → List (List ℕ) → List Answer → List ℕ → Type 0
Reads names bytes later ns found left = (others : List Answer) → AreAnswersOf names others
    → bytes ≡ report_json names others → AreLeft names later ns others found left

drop_first : (names : List (List ℕ)) (others : List Answer) (bytes left : List ℕ) → All IsName names
    → AreHeld names others → bytes ≡ 91 ∷ left → bytes ≡ report_json names others
    → left ≡ objects_then names false names others
drop_first names others bytes left are held begins same =
    ap (drop 1) (sym begins ∙ same ∙ report_is names others (names_are names are) held)

pub begun : (names : List (List ℕ)) (bytes left : List ℕ) → All IsName names → bytes ≡ 91 ∷ left
    → Reads names bytes false names [] left
begun names bytes left are begins = λ others is same. record {
  more = others;
  all = refl;
  held = is.held;
  paired = is.paired;
  text = drop_first names others bytes left are is.held begins same;
}

pub never_begun : (names : List (List ℕ)) (bytes : List ℕ) → All IsName names → ((rest : List ℕ) → bytes ≢ 91 ∷ rest)
    → IsReportOfNone names bytes
never_begun names bytes are none = λ others is same. none _
    (same ∙ report_is names others (names_are names are) is.held)

-- the answer of the next job, and what is left after its object
record IsNext (names : List (List ℕ)) (later : Bool) (n : List ℕ) (ns : List (List ℕ)) (others found : List Answer)
    (left : List ℕ) : Type 0 where
  pub a : Answer
  pub more : List Answer
  pub all : others ≡ found ++ a ∷ more
  pub held : IsHeld names a
  pub held_more : AreHeld names more
  pub paired : length ns ≡ length more
  pub text : left ≡ comma_if later ++ 123 ∷ object_then names n a (objects_then names true ns more)

next_of : (names : List (List ℕ)) (later : Bool) (n : List ℕ) (ns : List (List ℕ)) (others found : List Answer)
    (left : List ℕ)
    → AreLeft names later (n ∷ ns) others found left → IsNext names later n ns others found left
next_of names later n ns others found left is = of is.more is.all is.held is.paired is.text
  where
    of : (more : List Answer) → others ≡ found ++ more → AreHeld names more → length (n ∷ ns) ≡ length more
        → left ≡ objects_then names later (n ∷ ns) more
        → IsNext names later n ns others found left
    of [] all held paired text = absurd (omega (arith, paired))
    of (a ∷ more) all held paired text =
        record {
          a = a;
          more = more;
          all = all;
          held = held.0;
          held_more = held.1;
          paired = omega (arith, paired);
          text = text;
        }

-- no object comes next, though a job is left
pub no_next : (names : List (List ℕ)) (bytes : List ℕ) (later : Bool) (n : List ℕ) (ns : List (List ℕ))
    (found : List Answer) (left : List ℕ) → Reads names bytes later (n ∷ ns) found left
    → ((rest : List ℕ) → left ≢ comma_if later ++ 123 ∷ rest) → IsReportOfNone names bytes
no_next names bytes later n ns found left reads none =
    λ others is same. none _ (next_of names later n ns others found left (reads others is same)).text

object_left : (later : Bool) (left rest object : List ℕ) → left ≡ comma_if later ++ 123 ∷ rest
    → left ≡ comma_if later ++ 123 ∷ object → rest ≡ object
object_left false left rest object a b = ap (drop 1) (sym a ∙ b)
object_left true left rest object a b = ap (drop 2) (sym a ∙ b)

-- what the contract of the reader of one object says of what it gives
abbrev pub TakesObject : List (List ℕ) → List ℕ → Option JobObject → Type 0
TakesObject names bytes found =
    (name : List ℕ) (a : Answer) (rest : List ℕ) → is_plain name ≡ true → IsHeld names a
    → bytes ≡ object_then names name a rest → IsObject name a rest found

module _ (names : List (List ℕ)) (bytes : List ℕ) (later : Bool) (n : List ℕ) (ns : List (List ℕ)) (found : List Answer)
    (left object : List ℕ) (is_name : IsName n)
    (reads : Reads names bytes later (n ∷ ns) found left) (begins : left ≡ comma_if later ++ 123 ∷ object) where
  taken_of : (o : Option JobObject) → TakesObject names object o → (others : List Answer) → AreAnswersOf names others
      → bytes ≡ report_json names others
      → (next : IsNext names later n ns others found left) × IsObject n next.a (objects_then names true ns next.more) o
  taken_of o takes others is same =
      let next = next_of names later n ns others found left (reads others is same) in (
        next,
        takes n next.a (objects_then names true ns next.more) (name_is_plain n is_name) next.held
            (object_left later left object _ begins next.text),
      )

  -- the object isn't one of a report
  pub no_object : TakesObject names object None → IsReportOfNone names bytes
  no_object takes = λ others is same. (taken_of None takes others is same).1

  -- it is the object of another job
  pub other_object : (o : JobObject) → TakesObject names object (Some o) → o.name.now ≢ n → IsReportOfNone names bytes
  other_object o takes differs = λ others is same. differs (taken_of (Some o) takes others is same).1.0

  pub one_more : (o : JobObject) → TakesObject names object (Some o)
      → Reads names bytes true ns (found ++ o.answer ∷ []) o.rest.now
  one_more o takes = λ others is same.
      let taken = taken_of (Some o) takes others is same in
      let next = taken.0 in
      record {
        more = next.more;
        all = next.all ∙ ap (λ a. found ++ a ∷ next.more) (sym taken.1.1)
            ∙ sym (append_assoc found (o.answer ∷ []) next.more);
        held = next.held_more;
        paired = next.paired;
        text = taken.1.2;
      }

-- no job is left
no_job_left : (names : List (List ℕ)) (later : Bool) (others found : List Answer) (left : List ℕ)
    → AreLeft names later [] others found left → (found ≡ others) × (left ≡ codes "]\n")
no_job_left names later others found left is = of is.more is.all is.paired is.text
  where
    of : (more : List Answer) → others ≡ found ++ more → length {A = List ℕ} [] ≡ length more
        → left ≡ objects_then names later [] more → (found ≡ others) × (left ≡ codes "]\n")
    of [] all paired text = (sym (all ∙ append-nil found), text)
    of (a ∷ more) all paired text = absurd (omega (arith, paired))

pub all_read : (names : List (List ℕ)) (bytes : List ℕ) (later : Bool) (found : List Answer) (left : List ℕ)
    → Reads names bytes later [] found left
    → (others : List Answer) → AreAnswersOf names others → bytes ≡ report_json names others → found ≡ others
all_read names bytes later found left reads =
    λ others is same. (no_job_left names later others found left (reads others is same)).0

pub goes_on : (names : List (List ℕ)) (bytes : List ℕ) (later : Bool) (found : List Answer) (left : List ℕ)
    → Reads names bytes later [] found left → left ≢ codes "]\n" → IsReportOfNone names bytes
goes_on names bytes later found left reads differs =
    λ others is same. differs (no_job_left names later others found left (reads others is same)).1

-- a job is left
pub reads_next : (names : List (List ℕ)) (bytes : List ℕ) (later : Bool) (i : ℕ) (d : List ℕ) (found : List Answer)
    (left : List ℕ) → i < length names
    → Reads names bytes later (drop i names) found left
    → Reads names bytes later (get_or names i d ∷ drop (i + 1) names) found left
reads_next names bytes later i d found left within =
    subst (λ (ns : List (List ℕ)). Reads names bytes later ns found left) (drop_more names i d within)

-- no job is left
pub reads_all : (names : List (List ℕ)) (bytes : List ℕ) (later : Bool) (i : ℕ) (found : List Answer) (left : List ℕ)
    → length names ≤ i
    → Reads names bytes later (drop i names) found left → Reads names bytes later [] found left
reads_all names bytes later i found left past =
    subst (λ (ns : List (List ℕ)). Reads names bytes later ns found left) (drop_all i names past)
