-- Parts of a leg, from the part of no item to the one for all positions, and the answer that it gives.
use Rattle.std.proofs.Common.{◌≡◌, ℕ, suc, ◌+◌, ◌-◌, ◌<◌, ◌≤◌, drop, length, take, Bool, true, false, List, [], ◌∷◌}
use Rattle.std.proofs.Common.{Option, Some, None, Result, Ok, Err, IfOk, if◌then◌else◌, ◌==◌, ap, sym, subst, ◌∙◌, refl}
use Rattle.std.proofs.Common.{arith, eq-eqb, ne_eqb, zero, get_or}
use Rattle.trace.specs.Trace.{Trace, append, nothing}
use Rattle.lambda_values.specs.Earlier.{Numbers}
use Rattle.job_routes.specs.declared.outcome.Outcome.{Outcome}
use Rattle.job_plan.specs.declared.part.Part.{Part}
use Rattle.std.proofs.lemmas.List.{length-drop, length-take}
use Rattle.early_stop.specs.Decisive.{Decides}
use Rattle.early_stop.specs.Leaving.{IsEnough}
use Rattle.early_stop.proofs.Leaving.{enough_as, enough_gives, enough_joined, enough_left}
use Rattle.job_plan.specs.Parts.{EndsFor, StandsEnough, StandsFor, is_running, is_settled, may_search}
use Rattle.job_plan.specs.Plans.{plan_in, plans_in}
use Rattle.job_routes.specs.Legs.{is_one_piece, AbstractEnd, AbstractLeg, AbstractSegment, ended, exactly, given_answer}
use Rattle.job_routes.specs.Legs.{given_walk, last_stage, leg_at, legs_answer, linked, outcome_of, walk_of}
use Rattle.job_routes.specs.Legs.{AbstractLegs, leg_among, leg_outcome, leg_walk, left_after, left_by_search, scanned}
use Rattle.job_routes.specs.Legs.{scanned_from}
use Rattle.job_routes.specs.Legs.{searched, sums_many}
use Rattle.job_routes.specs.declared.route.PlaceSide.{PlaceSide}
use Rattle.job_plan.proofs.EnoughLemmas.{whole_enough}
use Rattle.job_plan.proofs.PartLemmas.{other_ends, settled_decides}
use Rattle.prefix_walks.specs.Pieces.{IsNotAfter, piece_of}
use Rattle.prefix_walks.proofs.ScanLemmas.{pieces_joined, whole_piece}
use Rattle.job_routes.proofs.LinkLemmas.{without_slices, unlinked}
use Rattle.job_table.specs.PlanLegs.{AbstractChain, PartStands, given_at, gives_at, last_leg, piece_between, size_at}
use Rattle.job_table.specs.PlanLegs.{gives_on, search_at, source_at, upto, walk_at, walk_size, plan_at}
use Rattle.job_plan.specs.declared.plan.JobPlan.{JobPlan}

-- the leg after all that end in prefixes
last_among : (ls : List AbstractLeg) (last : AbstractLeg) → leg_among (length ls) ls last ≡ last
last_among [] last = refl
last_among (l ∷ ls) last = last_among ls last

module _ (env : Numbers) where
  all_passed : (ls : List AbstractLeg) (t : Trace) → scanned (take (length ls) ls) env t ≡ scanned ls env t
  all_passed [] t = refl
  all_passed (l ∷ ls) t = all_passed ls (given_walk (leg_outcome l env t))

  last_passed : (o : Option PlaceSide) (ls : List AbstractLeg) (t : Trace)
      → scanned_from o (take (length ls) ls) env t ≡ scanned_from o ls env t
  last_passed None ls t = all_passed ls t
  last_passed (Some d) [] t = refl
  last_passed (Some d) (l ∷ ls) t = all_passed ls (searched d l env t)

  -- the answer of legs is the answer of the last one
  pub answer_there : (legs : AbstractLegs) (t : Trace)
      → legs_answer legs env t ≡ given_answer (leg_outcome (leg_at (last_leg legs) legs) env
      (scanned_from legs.search (take (last_leg legs) legs.scans) env t))
  answer_there legs t = sym (λ i. given_answer
      (leg_outcome (last_among legs.scans legs.last i) env (last_passed legs.search legs.scans t i)))

  -- a leg goes over what the one before it gave
  among_on : (k : ℕ) (ls : List AbstractLeg) (last : AbstractLeg) (t : Trace) → k < length ls
      → scanned (take (suc k) ls) env t ≡ given_walk (leg_outcome (leg_among k ls last) env (scanned (take k ls) env t))
  among_on k [] last t h = absurd (omega arith)
  among_on zero (l ∷ ls) last t h = refl
  among_on (suc k) (l ∷ ls) last t h = among_on k ls last (given_walk (leg_outcome l env t)) (omega arith)

  pub goes_on : (k : ℕ) (legs : AbstractLegs) (t : Trace) → k < last_leg legs
      → scanned_from legs.search (take (suc k) legs.scans) env t
      ≡ gives_on (search_at k legs) (leg_at k legs) env (scanned_from legs.search (take k legs.scans) env t)
  goes_on k legs t h = by k legs.search legs.scans h
    where
      by : (k : ℕ) (o : Option PlaceSide) (ls : List AbstractLeg) → k < length ls
          → scanned_from o (take (suc k) ls) env t
          ≡ gives_on (search_at k (record { search = o; scans = ls; last = legs.last })) (leg_among k ls legs.last) env
          (scanned_from o (take k ls) env t)
      by k o [] h = absurd (omega arith)
      by zero None (l ∷ ls) h = among_on zero (l ∷ ls) legs.last t h
      by (suc k) None (l ∷ ls) h = among_on (suc k) (l ∷ ls) legs.last t h
      by zero (Some d) (l ∷ ls) h = refl
      by (suc k) (Some d) (l ∷ ls) h = among_on k ls legs.last (searched d l env t) (omega arith)

-- the first leg is given what its job goes over
pub first_given : (chain : AbstractChain) → given_at chain 0 ≡ chain.source
first_given chain = by chain.legs.search
  where
    by : (o : Option PlaceSide) → scanned_from o (take 0 chain.legs.scans) chain.numbers chain.source ≡ chain.source
    by None = refl
    by (Some d) = refl

-- and so is a search
pub search_given : (chain : AbstractChain) (leg : ℕ) (d : PlaceSide) → search_at leg chain.legs ≡ Some d
    → given_at chain leg ≡ chain.source
search_given chain zero d h = first_given chain
search_given chain (suc leg) d h = absurd (let z : None ≡ Some d = h in cc)

-- a job of the program
pub plans_length : (js : List JobPlan) → length (plans_in js) ≡ length js
plans_length [] = refl
plans_length (j ∷ js) = ap suc (plans_length js)

pub job_within : (js ks : List JobPlan) (job : ℕ) → js ≡ ks → job < length (plans_in ks) → job < length js
job_within js ks job same low = let l = plans_length ks in let e = ap length same in omega arith

pub plan_got : (js : List JobPlan) (k : ℕ) (j : JobPlan) → k < length js → j ≡ get_or js k j
    → plan_in j ≡ plan_at (plans_in js) k
plan_got [] k j h e = absurd (omega arith)
plan_got (i ∷ js) zero j h e = ap plan_in e
plan_got (i ∷ js) (suc k) j h e = plan_got js k j (omega arith) e

upto_middle : (size middle : ℕ) → middle < size → upto size middle ≡ Some middle
upto_middle size middle h = ap (λ (b : Bool). if b then None else Some middle) (ne_eqb middle size (λ e. omega arith))

upto_last : (size : ℕ) → upto size size ≡ None
upto_last size = ap (λ (b : Bool). if b then None else Some size) (eq-eqb size size refl)

not_after : (b : Bool) (middle to : ℕ) → middle ≤ to → IsNotAfter middle (if b then None else Some to)
not_after true middle to h = tt
not_after false middle to h = h

-- no more positions than items
pub size_within : (chain : AbstractChain) (leg : ℕ) → size_at chain leg ≤ length (walk_at chain leg).items
size_within chain leg = by (is_one_piece at) refl
  where
    at : AbstractLeg
    at = leg_at leg chain.legs

    by : (b : Bool) → is_one_piece at ≡ b
        → (if b then 0 else walk_size (source_at chain leg)) ≤ length (walk_at chain leg).items
    by true e = omega arith
    by false e = let same = ap (λ (t : Trace). length t.items)
        (unlinked at.links chain.numbers (source_at chain leg) (without_slices at e)) in omega (arith, same)

between_joined : (t : Trace) (size from middle to : ℕ) → from < middle → middle < to → to ≤ size
    → append (piece_between size from middle t) (piece_between size middle to t) ≡ piece_between size from to t
between_joined t size from middle to l h w =
    ap (λ (o : Option ℕ). append (piece_of from o t) (piece_between size middle to t))
    (upto_middle size middle (omega arith))
    ∙ pieces_joined t from middle (upto size to) (omega arith) (not_after (to == size) middle to (omega arith))

between_all : (t : Trace) (size : ℕ) → piece_between size 0 size t ≡ t
between_all t size = ap (λ (o : Option ℕ). piece_of 0 o t) (upto_last size) ∙ whole_piece t

between_long : (t : Trace) (size from middle : ℕ) → from < middle → middle < size → size ≤ length t.items
    → from + length (piece_between size from middle t).items ≡ middle
between_long t size from middle l w fits =
    ap (λ (o : Option ℕ). from + length (piece_of from o t).items) (upto_middle size middle w)
    ∙ (let a = length-take (middle - from) (drop from t.items) in let d = length-drop from t.items in omega arith)

pub merged : (chain : AbstractChain) (leg from middle to : ℕ) (p q r : Part) → from < middle → middle < to
    → to ≤ size_at chain leg
    → PartStands chain leg from middle p → PartStands chain leg middle to q
    → ((s : AbstractSegment) (env : Numbers) (a b : Trace) → StandsFor s env p a → StandsFor s env q b
    → StandsFor s env r (append a b))
    → PartStands chain leg from to r
merged chain leg from middle to p q r l h w (a, ea, sa) (b, eb, sb) merges =
    let decides = Decides (gives_at chain leg) (walk_at chain leg) in
    let size = size_at chain leg in
    let t = walk_at chain leg in (
      append a b,
      subst (λ (u : Trace). IsEnough decides from u (append a b)) (between_joined t size from middle to l h w)
          (enough_joined decides from (piece_between size from middle t) a (piece_between size middle to t) b ea
          (subst (λ (n : ℕ). IsEnough decides n (piece_between size middle to t) b)
          (sym (between_long t size from middle l (omega arith) (size_within chain leg))) eb)),
      merges (leg_at leg chain.legs).last chain.numbers a b sa sb,
    )

-- a piece that is left out
pub left_stands : (chain : AbstractChain) (leg from to : ℕ) (p : Part) (c : ℕ) → c ≤ from
    → Decides (gives_at chain leg) (walk_at chain leg) c
    → StandsFor (leg_at leg chain.legs).last chain.numbers p nothing → PartStands chain leg from to p
left_stands chain leg from to p c h ok stands = (
  nothing,
  enough_left (Decides (gives_at chain leg) (walk_at chain leg)) from c
      (piece_between (size_at chain leg) from to (walk_at chain leg)) nothing ok h,
  stands,
)

-- after a settled part nothing matters
pub part_decides : (chain : AbstractChain) (leg from to : ℕ) (p : Part) → from ≤ to → to < size_at chain leg
    → is_settled p ≡ true → (is_running p ≡ true → from ≡ 0) → PartStands chain leg from to p
    → Decides (gives_at chain leg) (walk_at chain leg) to
part_decides chain leg from to p h w settled first stands =
    let l = leg_at leg chain.legs in
    let fits = size_within chain leg in
    settled_decides l.last chain.numbers p (walk_at chain leg) from to h (omega arith) settled first
    (subst (λ (o : Option ℕ). StandsEnough (Decides (gives_at chain leg) (walk_at chain leg)) l.last chain.numbers p
    from (piece_of from o (walk_at chain leg))) (upto_middle (size_at chain leg) to w) stands)

module _ (chain : AbstractChain) (leg : ℕ) (part : Part) where
  outcome_all : (o : Outcome) → ((s : AbstractSegment) (t : Trace) → StandsFor s chain.numbers part t
      → o ≡ outcome_of s chain.numbers t) → PartStands chain leg 0 (size_at chain leg) part
      → o ≡ gives_at chain leg (walk_at chain leg)
  outcome_all o ends (t, enough, h) =
      ends (leg_at leg chain.legs).last t h
      ∙ enough_gives (gives_at chain leg) (walk_at chain leg) t
      (subst (λ (u : Trace). IsEnough (Decides (gives_at chain leg) (walk_at chain leg)) 0 u t)
      (between_all (walk_at chain leg) (size_at chain leg)) enough)

  -- the next leg goes over what this one gave
  pub goes_over : (o : Outcome) → ((s : AbstractSegment) (t : Trace) → StandsFor s chain.numbers part t
      → o ≡ outcome_of s chain.numbers t) → leg < last_leg chain.legs → search_at leg chain.legs ≡ None
      → PartStands chain leg 0 (size_at chain leg) part → given_walk o ≡ given_at chain (suc leg)
  goes_over o ends before none stands = ap given_walk (outcome_all o ends stands)
      ∙ sym (goes_on chain.numbers leg chain.legs chain.source before
      ∙ ap (λ (d : Option PlaceSide). gives_on d (leg_at leg chain.legs) chain.numbers (given_at chain leg)) none)

  -- or what it left of its source, as a search
  pub goes_over_left : (d : PlaceSide) (o : Outcome)
      → ((s : AbstractSegment) (t : Trace) → StandsFor s chain.numbers part t
      → o ≡ outcome_of s chain.numbers t) → leg < last_leg chain.legs → search_at leg chain.legs ≡ Some d
      → PartStands chain leg 0 (size_at chain leg) part
      → left_after d (leg_at leg chain.legs) (given_answer o) (given_at chain leg) ≡ given_at chain (suc leg)
  goes_over_left d o ends before search stands =
      ap (λ (p : Outcome). left_after d (leg_at leg chain.legs) (given_answer p) (given_at chain leg))
      (outcome_all o ends stands)
      ∙ sym (goes_on chain.numbers leg chain.legs chain.source before
      ∙ ap (λ (e : Option PlaceSide). gives_on e (leg_at leg chain.legs) chain.numbers (given_at chain leg)) search)

  -- a part that leaves it open what its leg gives is of a leg that gives no walk
  none_given : (d : Option PlaceSide) (l : AbstractLeg) (t u : Trace)
      → EndsFor l.last.ending (last_stage l.last) chain.numbers part t → may_search part ≡ true
      → nothing ≡ gives_on d l chain.numbers u
  none_given d l t u h may = by d l.last.ending refl h
    where
      by : (d : Option PlaceSide) (e : AbstractEnd) → l.last.ending ≡ e
          → EndsFor e (last_stage l.last) chain.numbers part t → nothing ≡ gives_on d l chain.numbers u
      by None exactly same h = sym (ap (λ (e : AbstractEnd). given_walk (ended e (last_stage l.last) chain.numbers
          (walk_of l.last chain.numbers (linked l.links chain.numbers (leg_walk l u))))) same)
      by (Some d) exactly same h = sym (ap (λ (e : AbstractEnd). if sums_many e true then nothing
          else left_by_search d l.from (given_answer (leg_outcome l chain.numbers u)) (leg_walk l u)) same)
      by d e same h = absurd (let z : true ≡ false =
          sym may ∙ other_ends e (last_stage l.last) chain.numbers part t
          (λ x. (let k : e ≡ exactly = x in cc)) h in cc)

  pub goes_nowhere : leg < last_leg chain.legs → PartStands chain leg 0 (size_at chain leg) part
      → may_search part ≡ true → nothing ≡ given_at chain (suc leg)
  goes_nowhere before (t, enough, h) may =
      let l = leg_at leg chain.legs in
      none_given (search_at leg chain.legs) l (walk_of l.last chain.numbers t) (given_at chain leg) h may
      ∙ sym (goes_on chain.numbers leg chain.legs chain.source before)

  -- the last leg gives the answer of the job
  pub last_answer : (o : Outcome) → ((s : AbstractSegment) (t : Trace) → StandsFor s chain.numbers part t
      → o ≡ outcome_of s chain.numbers t) → leg ≡ last_leg chain.legs → PartStands chain leg 0 (size_at chain leg) part
      → given_answer o ≡ legs_answer chain.legs chain.numbers chain.source
  last_answer o ends last stands =
      ap given_answer (outcome_all o ends stands)
      ∙ ap (λ (k : ℕ). given_answer (gives_at chain k (walk_at chain k))) last
      ∙ sym (answer_there chain.numbers chain.legs chain.source)

-- the part of all that comes through a leg's slices
all_stands : {F : Type 0} (chain : AbstractChain) (leg : ℕ) (l : AbstractLeg) (r : Result Part F) (env : Numbers)
    (w : Trace) → l ≡ leg_at leg chain.legs → env ≡ chain.numbers → w ≡ source_at chain leg
    → IfOk r (λ part. StandsFor l.last env part (linked l.links env w))
    → IfOk r (λ part. PartStands chain leg 0 (size_at chain leg) part)
all_stands chain leg l (Ok p) env w got alone walks h =
    let size = size_at chain leg in
    let t = walk_at chain leg in
    let a = subst (λ (u : Trace). StandsFor l.last env p (linked l.links env u)) walks h in
    let b = subst (λ (e : Numbers). StandsFor l.last e p (linked l.links e (source_at chain leg))) alone a in
    let d = subst (λ (k : AbstractLeg). StandsFor k.last chain.numbers p
    (linked k.links chain.numbers (source_at chain leg))) got b in
    let stands = subst (λ (u : Trace). StandsFor (leg_at leg chain.legs).last chain.numbers p u)
    (sym (between_all t size)) d in
    whole_enough (leg_at leg chain.legs).last chain.numbers p (Decides (gives_at chain leg) t) 0
    (piece_between size 0 size t) stands
all_stands chain leg l (Err e) env w got alone walks h = tt

-- a piece of a leg whose walk is one piece is all of it
pub one_piece : (chain : AbstractChain) (leg from to : ℕ) (l : AbstractLeg) → l ≡ leg_at leg chain.legs
    → is_one_piece l ≡ true → from ≤ to → to ≤ size_at chain leg → (from ≡ 0) × (to ≡ size_at chain leg)
one_piece chain leg from to l got whole ordered within =
    let none : size_at chain leg ≡ 0 = ap (λ (b : Bool). if b then 0 else walk_size (source_at chain leg))
    (ap is_one_piece (sym got) ∙ whole) in
    (omega (arith, none, ordered, within), omega (arith, none, within))

-- a leg and what it goes over, where they are found, are those of the chain
pub leg_over : (chain : AbstractChain) (k : ℕ) {legs : AbstractLegs} {leg : AbstractLeg} {t w : Trace}
    → chain.legs ≡ legs → leg ≡ leg_at k legs → t ≡ given_at chain k → w ≡ leg_walk leg t
    → (leg ≡ leg_at k chain.legs) × (w ≡ source_at chain k)
leg_over chain k is got walks over =
    let same = got ∙ ap (leg_at k) (sym is) in (same, over ∙ (λ i. leg_walk (same i) (walks i)))

-- the part of a piece that is all of a leg
pub streamed_stands : {F : Type 0} (chain : AbstractChain) (leg from to : ℕ) (l : AbstractLeg) (r : Result Part F)
    (env : Numbers) (w : Trace) → l ≡ leg_at leg chain.legs → env ≡ chain.numbers
    → w ≡ source_at chain leg → (from ≡ 0) × (to ≡ size_at chain leg)
    → IfOk r (λ part. StandsFor l.last env part (linked l.links env w))
    → IfOk r (λ part. PartStands chain leg from to part)
streamed_stands chain leg from to l r env w got alone walks whole h =
    subst (λ (n : ℕ). IfOk r (λ part. PartStands chain leg n to part)) (sym whole.0)
    (subst (λ (n : ℕ). IfOk r (λ part. PartStands chain leg 0 n part)) (sym whole.1)
    (all_stands chain leg l r env w got alone walks h))

-- the end of a piece, by a test whether it is the last position
pub upto_all : (size n to : ℕ) (u : Option ℕ) → n ≡ size → to ≡ n → u ≡ None → u ≡ upto size to
upto_all size n to u same here e = e ∙ sym
    (ap (λ (b : Bool). if b then None else Some to) (eq-eqb to size (here ∙ same)))

pub upto_some : (size n to : ℕ) (u : Option ℕ) → n ≡ size → (to ≡ n → ⊥) → u ≡ Some to → u ≡ upto size to
upto_some size n to u same other e = e ∙ sym
    (ap (λ (b : Bool). if b then None else Some to) (ne_eqb to size (λ x. other (x ∙ sym same))))

-- the part of a piece of a leg whose walk may be cut
pub piece_stands : {F : Type 0} (chain : AbstractChain) (leg from to : ℕ) (l : AbstractLeg) (w : Trace) (env : Numbers)
    (u : Option ℕ) (decides : ℕ → Type 0) (r : Result Part F)
    → l ≡ leg_at leg chain.legs → is_one_piece l ≡ false → env ≡ chain.numbers → w ≡ source_at chain leg
    → u ≡ upto (walk_size w) to → ((c : ℕ) → decides c → Decides (gives_at chain leg) (walk_at chain leg) c)
    → IfOk r (λ part. StandsEnough decides l.last env part from (piece_of from u w))
    → IfOk r (λ part. PartStands chain leg from to part)
piece_stands chain leg from to l w env u decides (Ok p) got plain alone walks ends more h =
    let at = leg_at leg chain.legs in
    let cut : is_one_piece at ≡ false = ap is_one_piece (sym got) ∙ plain in
    let bare = without_slices at cut in
    let over : w ≡ walk_at chain leg = walks ∙ sym (unlinked at.links chain.numbers (source_at chain leg) bare) in
    let size : walk_size w ≡ size_at chain leg =
    ap walk_size walks ∙ sym (ap (λ (b : Bool). if b then 0 else walk_size (source_at chain leg)) cut) in
    let last : u ≡ upto (size_at chain leg) to = ends ∙ ap (λ (n : ℕ). upto n to) size in
    let a = subst (λ (e : Numbers). StandsEnough decides l.last e p from (piece_of from u w)) alone h in
    let b = subst (λ (v : Option ℕ). StandsEnough decides l.last chain.numbers p from (piece_of from v w)) last a in
    let d = subst (λ (t : Trace). StandsEnough decides l.last chain.numbers p from
    (piece_between (size_at chain leg) from to t)) over b in
    let k = subst (λ (k : AbstractLeg). StandsEnough decides k.last chain.numbers p from
    (piece_between (size_at chain leg) from to (walk_at chain leg))) got d in (
      k.0,
      enough_as decides (Decides (gives_at chain leg) (walk_at chain leg)) from
          (piece_between (size_at chain leg) from to (walk_at chain leg)) k.0 more k.1,
      k.2,
    )
piece_stands chain leg from to l w env u decides (Err e) got plain alone walks ends more h = tt
