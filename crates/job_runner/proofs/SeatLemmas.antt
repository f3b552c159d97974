-- Seats that have what start nodes kept: from the arrivals that begin a job to those that its end frees.
use Rattle.std.proofs.Common.{drop, get_or, cond, eqb, eq-eqb, ◌≡◌, ℕ, zero, suc, ◌+◌, ◌-◌, ◌<◌, ◌≤◌, List, [], ◌∷◌}
use Rattle.std.proofs.Common.{◌++◌, length, sym, refl, ap, ◌∙◌, subst, arith, Option, Some, None, ne_eqb}
use Rattle.std.proofs.lemmas.List.{drop_more, append-nil}
use mathlib.Core.Logic.{dite}
use native.Mathlib.Decide.{ℕ_discrete}
use Rattle.atomic_table.specs.Seated.{TableId}
use Rattle.completion_core.specs.Graph.{copies}
use Rattle.completion_core.specs.Legal.{count}
use Rattle.pending_count.specs.declared.view.View.{View}
use Rattle.pending_count.specs.declared.place.Place.{Place}
use Rattle.pending_count.specs.declared.place.Fits.{Ghosts}
use Rattle.pending_count.specs.declared.seat.Seat.{Seat}
use Rattle.pending_count.specs.Seats.{view_of, table_of}
use Rattle.pending_count.specs.Views.{left_slot, right_slot, less, part_view, rest_view, note_of, side_at, sides_of}
use Rattle.pending_count.specs.Views.{joined_view}
use Rattle.pending_count.specs.Steps.{IsArrived}
use Rattle.pending_count.proofs.SumLemmas.{one_at, at_here, at_else, total-append, total-less}
use Rattle.pending_count.proofs.RecordLemmas.{fresh-count, fresh_here}
use Rattle.pending_count.proofs.CallerLemmas.{last_held, last_sides, last_noted, last_side_notes}
use Rattle.completer_tree.specs.Roots as tree
use Rattle.completer_tree.specs.Trees.{CanKeep, CanHand, IsUnchanged}
use Rattle.job_runner.specs.Tasks.{KnowsStart, KnowsStarts, KnowsTop, HasKept, CanArrive, nodes_below}
use Rattle.job_runner.proofs.ArmLemmas.{start_by}
use Rattle.job_runner.specs.Waits.{nodes_in}
use Rattle.job_runner.specs.declared.start.Waiting.{Waiting}
use Rattle.completer_tree.specs.Roots.{Rooted}

-- where no side belongs to an entry, none is kept
plain_side : (i : ℕ) (sides : List ℕ) → count (left_slot i) sides ≡ 0 → count (right_slot i) sides ≡ 0
    → side_at i sides ≡ []
plain_side i sides a b =
    ap (λ c. cond c (cond (eqb (count (right_slot i) sides) 0) [] (right_slot i ∷ [])) (left_slot i ∷ []))
    (eq-eqb (count (left_slot i) sides) 0 a)
    ∙ ap (λ c. cond c [] (right_slot i ∷ [])) (eq-eqb (count (right_slot i) sides) 0 b)

pub plain_sides : (onward sides : List ℕ)
    → ((i : ℕ) → 0 < count i onward → (count (left_slot i) sides ≡ 0) × (count (right_slot i) sides ≡ 0))
    → sides_of onward sides ≡ []
plain_sides [] sides plain = refl
plain_sides (i ∷ is) sides plain =
    let here = plain i (let o = at_here i in omega arith) in
    ap (λ l. l ++ sides_of is sides) (plain_side i sides here.0 here.1)
    ∙ plain_sides is sides (λ j h. plain j (omega arith))

module _ {T : Type 0} where
  -- what a start node keeps is below each node above all that were noted
  kept_below : (node i p : ℕ) (kept : List ℕ) (v : View T) → KnowsStart node kept v → 0 < count i kept → 0 < p
      → ((l : List ℕ) → note_of node v.noted ≡ Some l → node < p) → i < p
  kept_below node i p kept v h there some above = dite (ℕ_discrete node 0)
      (λ z. let e : count i kept ≡ one_at i 0 + 0 = ap (count i) (h.lone z) in
      dite (ℕ_discrete i 0) (λ y. omega arith)
      (λ n. let o = at_else i 0 (λ y. n (sym y)) in absurd (omega arith)))
      (λ n. let on : 0 < node = omega arith in let a = h.smaller on i there in let b = above kept (h.noted on) in
      omega arith)

module _ {T : Type 0} {jobs : ℕ} {start : ℕ → ℕ} {keeps : ℕ → List ℕ} where
  -- a seat with equal notes, and no more sides, knows what this one knows
  pub known_as : (v w : View T) → KnowsStarts jobs start keeps v → w.noted ≡ v.noted → w.noted_sides ≡ v.noted_sides
      → w.places ≡ v.places → ((k : ℕ) → count k w.sides ≤ count k v.sides) → KnowsStarts jobs start keeps w
  known_as v w h noted noted_sides places few = record {
    known = λ job low. start_by (start job) (keeps job) v w (h.known job low)
        (λ l e. ap (note_of (start job)) noted ∙ e) (λ l e. ap (note_of (start job)) noted_sides ∙ e);
    plain = λ job i low there. let p = h.plain job i low there in let a = few (left_slot i) in
        let b = few (right_slot i) in let pa = p.0 in let pb = p.1 in (omega arith, omega arith);
    rooted = subst (λ l. tree.Rooted l) (sym places) h.rooted;
  }

  -- the halves of a fork know what the seat knew
  pub known_forked : (at : Option (Place T)) (onward : List ℕ) (p : Place T) (v w : View T)
      → KnowsStarts jobs start keeps v → tree.KnowsTop at onward p v w → tree.Rooted w.places
      → KnowsStarts jobs start keeps w
  known_forked at onward p v w h k rooted = record {
    known = λ job low. start_by (start job) (keeps job) v w (h.known job low) (k.still_noted (start job))
        (k.still_noted_sides (start job));
    plain = λ job i low there.
        let q = h.plain job i low there in
        let qa = q.0 in
        let qb = q.1 in
        let a = k.only_own (left_slot i) in
        let b = k.only_own (right_slot i) in
        let lower = kept_below (start job) i p.node (keeps job) v (h.known job low) there k.inner
        (k.above (start job)) in
        let ll = at_else (left_slot i) (left_slot p.node) (λ e. absurd (omega arith)) in
        let lr = at_else (left_slot i) (right_slot p.node) (λ e. absurd (omega arith)) in
        let rl = at_else (right_slot i) (left_slot p.node) (λ e. absurd (omega arith)) in
        let rr = at_else (right_slot i) (right_slot p.node) (λ e. absurd (omega arith)) in
        (omega arith, omega arith);
    rooted = rooted;
  }

  -- the top of a new tree keeps what the seat had
  pub top_known : (job : ℕ) (onward : List ℕ) → onward ≡ keeps job → job < jobs → (p : Place T) (v w : View T)
      → KnowsStarts jobs start keeps v → tree.KnowsTop None onward p v w → KnowsTop (keeps job) p.root w
  top_known job onward is low p v w h k = record {
    noted = k.noted (keeps job) (ap Some is);
    noted_sides = k.noted_sides [] (ap Some
        (ap (λ l. sides_of l v.sides) is ∙ plain_sides (keeps job) v.sides (λ i there. h.plain job i low there)));
  }

-- the halves of each node below it know what the top keeps
pub top_still : {T : Type 0} (mine onward : List ℕ) (at p : Place T) (v w : View T) → KnowsTop mine at.root v
    → tree.KnowsTop (Some at) onward p v w → KnowsTop mine p.root w
top_still mine onward at p v w h k = record
    { noted = k.noted mine h.noted; noted_sides = k.noted_sides [] h.noted_sides }

module _ {V K T : Type 0} {g : Ghosts K V T} where
  rest_held : (node credit : ℕ) (left : List ℕ) (seat rest : Seat V K T g)
      → ((i : ℕ) → count i (node ∷ left) ≤ count i (view_of seat).held)
      → view_of rest ≡ rest_view node 1 credit [] (view_of seat) → (i : ℕ) → count i left ≤ count i (view_of rest).held
  rest_held node credit left seat rest h is i =
      let e : count i (view_of rest).held ≡ count i (less node (view_of seat).held) =
      ap (λ (u : View T). count i u.held) is in
      let here = h node in
      let o = at_here node in
      let l = total-less (one_at i) node (view_of seat).held (omega arith) in
      let a = h i in
      omega arith

module _ {V K T : Type 0} {g : Ghosts K V T} (start : ℕ → ℕ) where
  -- the first jobs but the last one have start nodes at which the seat has arrivals
  pub below_held : (n credit : ℕ) (seat rest : Seat V K T g) → 0 < n
      → ((i : ℕ) → count i (nodes_below start n) ≤ count i (view_of seat).held)
      → view_of rest ≡ rest_view (start (n - 1)) 1 credit [] (view_of seat) → (i : ℕ)
      → count i (nodes_below start (n - 1)) ≤ count i (view_of rest).held
  below_held zero credit seat rest some h is = absurd (omega arith)
  below_held (suc n) credit seat rest some h is = let same : suc n - 1 ≡ n = omega arith in
      λ i. subst (λ k. count i (nodes_below start k) ≤ count i (view_of rest).held) (sym same)
      (rest_held (start n) credit (nodes_below start n) seat rest h
      (is ∙ ap (λ k. rest_view (start k) 1 credit [] (view_of seat)) same) i)

  -- start nodes of the first jobs but the last one, at which the seat has arrivals, by another name of the last one's
  -- node
  pub below_held_at : (n node credit : ℕ) (seat rest : Seat V K T g) → 0 < n
      → ((i : ℕ) → count i (nodes_below start n) ≤ count i (view_of seat).held) → node ≡ start (n - 1)
      → view_of rest ≡ rest_view node 1 credit [] (view_of seat) → (i : ℕ)
      → count i (nodes_below start (n - 1)) ≤ count i (view_of rest).held
  below_held_at n node credit seat rest some h named is =
      below_held n credit seat rest some h (is ∙ ap (λ k. rest_view k 1 credit [] (view_of seat)) named)

  pub below_has : (n : ℕ) (seat : Seat V K T g) → 0 < n
      → ((i : ℕ) → count i (nodes_below start n) ≤ count i (view_of seat).held)
      → 0 < count (start (n - 1)) (view_of seat).held
  below_has zero seat some h = absurd (omega arith)
  below_has (suc n) seat some h = let same : suc n - 1 ≡ n = omega arith in
      subst (λ k. 0 < count (start k) (view_of seat).held) (sym same)
      (let a = h (start n) in let o = at_here (start n) in omega arith)

module _ {V K T : Type 0} {g : Ghosts K V T} {jobs : ℕ} {start : ℕ → ℕ} {keeps : ℕ → List ℕ} where
  rest_knows : (node credit : ℕ) (seat rest : Seat V K T g) → KnowsStarts jobs start keeps (view_of seat)
      → view_of rest ≡ rest_view node 1 credit [] (view_of seat) → KnowsStarts jobs start keeps (view_of rest)
  rest_knows node credit seat rest h is =
      known_as (view_of seat) (view_of rest) h (ap (λ (u : View T). u.noted) is) (ap (λ (u : View T). u.noted_sides) is)
      (ap (λ (u : View T). u.places) is)
      (λ k. let z : count k (view_of rest).sides ≡ count k (view_of seat).sides =
      ap (λ (u : View T). count k u.sides) is in omega arith)

  pub rest_purse : (node credit : ℕ) (seat rest : Seat V K T g) → KnowsStarts jobs start keeps (view_of seat)
      → ((k : ℕ) → count k (view_of seat).sides ≡ 0) → view_of rest ≡ rest_view node 1 credit [] (view_of seat)
      → KnowsStarts jobs start keeps (view_of rest) × ((k : ℕ) → count k (view_of rest).sides ≡ 0)
  rest_purse node credit seat rest h none_held is =
      (rest_knows node credit seat rest h is, λ k. ap (λ (u : View T). count k u.sides) is ∙ none_held k)

module _ {V K T : Type 0} {g : Ghosts K V T} {id : TableId} {jobs : ℕ} {start : ℕ → ℕ} {keeps : ℕ → List ℕ} where
  -- a seat can have the top of a tree keep what it has
  pub can_keep : (mine onward : List ℕ) (seat : Seat V K T g) → onward ≡ mine → HasKept id jobs start keeps mine seat
      → CanKeep onward (view_of seat)
  can_keep mine onward seat is h = subst (λ l. CanKeep l (view_of seat)) (sym is) (record {
    have = h.held;
    one_side = λ i there. let p = h.plain_at i there in let a = p.0 in let b = p.1 in omega arith;
  })

  -- who can arrive at END has what a job without a start node has
  pub lone_kept : (job : ℕ) (seat : Seat V K T g) → job < jobs → start job ≡ 0
      → CanArrive id jobs start keeps job seat → HasKept id jobs start keeps (keeps job) seat
  lone_kept job seat low z can =
      let lone = (can.knows.known job low).lone z in
      let end : 0 < count 0 (view_of seat).held = subst (λ k. 0 < count k (view_of seat).held) z can.held in
      record {
        table = can.table;
        held = λ i.
            let e : count i (keeps job) ≡ one_at i 0 + 0 = ap (count i) lone in
            dite (ℕ_discrete i 0)
            (λ y. subst (λ j. count j (keeps job) ≤ count j (view_of seat).held) (sym y)
            (let f : count 0 (keeps job) ≡ one_at 0 0 + 0 = ap (count 0) lone in let o = at_here 0 in omega arith))
            (λ n. let o = at_else i 0 (λ y. n (sym y)) in omega arith);
        plain_at = λ i there. (can.no_side (left_slot i), can.no_side (right_slot i));
        knows = can.knows;
      }

  -- who made the last arrival at a start node has what it kept
  pub arrived_kept : {S : Type 0} {nodes actor : ℕ} (job node n : ℕ) (seat later : Seat V K T g) → job < jobs
      → 0 < node → node ≡ start job → CanArrive id jobs start keeps job seat → table_of later ≡ id → n ≡ 1
      → IsArrived S nodes actor node (view_of seat) n (view_of later)
      → HasKept id jobs start keeps (keeps job) later
  arrived_kept job node n seat later low some is can table one told =
      let known = can.knows.known job low in
      let on : 0 < start job = subst (λ k. 0 < k) is some in
      let have : 0 < count node (view_of seat).held = subst (λ k. 0 < count k (view_of seat).held) (sym is) can.held in
      let note : note_of node (view_of seat).noted ≡ Some (keeps job) =
      ap (λ k. note_of k (view_of seat).noted) is ∙ known.noted on in
      let side_note : note_of node (view_of seat).noted_sides ≡ Some [] =
      ap (λ k. note_of k (view_of seat).noted_sides) is ∙ known.noted_sides on in
      let sides = last_sides node n told have one side_note can.no_side in
      record {
        table = table;
        held = λ i.
            let a = last_held node n told have one (keeps job) note i in
            dite (ℕ_discrete i node)
            (λ e. let h : 0 < count i (view_of seat).held = subst (λ k. 0 < count k (view_of seat).held) (sym e) have in
            let o : one_at node i ≡ 1 = ap (one_at node) e ∙ at_here node in omega arith)
            (λ e. let o = at_else node i e in omega arith);
        plain_at = λ i there. (sides (left_slot i), sides (right_slot i));
        knows = known_as (view_of seat) (view_of later) can.knows (last_noted node n told have one)
            (last_side_notes node n told have one) (ap (λ (u : View T). u.places) (told.last one).2)
            (λ k. let z = sides k in omega arith);
      }

  -- what is split off can arrive
  pub part_arrives : (job node credit : ℕ) (seat part : Seat V K T g) → node ≡ start job
      → KnowsStarts jobs start keeps (view_of seat) → table_of part ≡ id
      → view_of part ≡ part_view node 1 credit [] (view_of seat) → CanArrive id jobs start keeps job part
  part_arrives job node credit seat part named h table is = record {
    table = table;
    held = subst (λ k. 0 < count k (view_of part).held) named
        (let e : count node (view_of part).held ≡ count node (copies 1 node) =
        ap (λ (u : View T). count node u.held) is in let f = fresh-count node 1 node in let o = fresh_here node 1 in
        omega arith);
    no_side = λ k. ap (λ (u : View T). count k u.sides) is;
    knows = known_as (view_of seat) (view_of part) h (ap (λ (u : View T). u.noted) is)
        (ap (λ (u : View T). u.noted_sides) is) (ap (λ (u : View T). u.places) is)
        (λ k. let z : count k (view_of part).sides ≡ 0 = ap (λ (u : View T). count k u.sides) is in omega arith);
  }

  -- and what is left has the rest
  pub rest_kept : (node credit : ℕ) (left : List ℕ) (seat rest : Seat V K T g) → table_of rest ≡ table_of seat
      → view_of rest ≡ rest_view node 1 credit [] (view_of seat) → HasKept id jobs start keeps (node ∷ left) seat
      → HasKept id jobs start keeps left rest
  rest_kept node credit left seat rest table is h = record {
    table = table ∙ h.table;
    held = rest_held node credit left seat rest h.held is;
    plain_at = λ i there.
        let p = h.plain_at i (omega arith) in
        let pa = p.0 in
        let pb = p.1 in
        let a : count (left_slot i) (view_of rest).sides ≡ count (left_slot i) (view_of seat).sides =
        ap (λ (u : View T). count (left_slot i) u.sides) is in
        let b : count (right_slot i) (view_of rest).sides ≡ count (right_slot i) (view_of seat).sides =
        ap (λ (u : View T). count (right_slot i) u.sides) is in
        (omega arith, omega arith);
    knows = rest_knows node credit seat rest h.knows is;
  }

  -- who gave the result of a tree has what its top kept
  pub kept_back : (job : ℕ) (seat later : Seat V K T g) (p : Place T) → job < jobs → table_of later ≡ id
      → CanHand id p seat → KnowsTop (keeps job) p.root (view_of seat) → KnowsStarts jobs start keeps (view_of seat)
      → tree.HasKept p (view_of seat) (view_of later)
      → HasKept id jobs start keeps (keeps job) later
  kept_back job seat later p low table can top knows back =
      let known : KnowsStarts jobs start keeps (view_of later) =
      known_as (view_of seat) (view_of later) knows back.noted back.noted_sides back.places
      (λ k. let e = back.sides [] top.noted_sides k in omega arith) in
      record {
        table = table;
        held = λ i.
            let a = back.held (keeps job) top.noted i in
            let have = can.held in
            dite (ℕ_discrete p.node i)
            (λ e. let h : 0 < count i (view_of seat).held = subst (λ k. 0 < count k (view_of seat).held) e have in
            let o : one_at i p.node ≡ 1 = ap (one_at i) e ∙ at_here i in omega arith)
            (λ e. let o = at_else i p.node e in omega arith);
        plain_at = λ i there. known.plain job i low there;
        knows = known;
      }

  -- a seat that is as it was has what it had
  pub kept_still : (mine : List ℕ) (seat later : Seat V K T g) → table_of later ≡ id → IsUnchanged seat later
      → HasKept id jobs start keeps mine seat → HasKept id jobs start keeps mine later
  kept_still mine seat later table same h = record {
    table = table;
    held = λ i. let a = ap (count i) same.held in let b = h.held i in omega arith;
    plain_at = λ i there. let p = h.plain_at i there in
        (ap (count (left_slot i)) same.sides ∙ p.0, ap (count (right_slot i)) same.sides ∙ p.1);
    knows = known_as (view_of seat) (view_of later) h.knows same.noted same.noted_sides same.places
        (λ k. let e = ap (count k) same.sides in omega arith);
  }

  -- what the start node kept: an arrival for each job that waits, and one at END
  pub begin_waiting : (mine : List ℕ) (ws : List Waiting) (seat : Seat V K T g) → mine ≡ nodes_in ws ++ 0 ∷ []
      → HasKept id jobs start keeps mine seat → HasKept id jobs start keeps (nodes_in (drop 0 ws) ++ 0 ∷ []) seat
  begin_waiting mine ws seat is h = subst (λ l. HasKept id jobs start keeps l seat) is h

  pub ends_kept : (l : List ℕ) (seat : Seat V K T g) → HasKept id jobs start keeps (l ++ 0 ∷ []) seat
      → 0 < count 0 (view_of seat).held
  ends_kept l seat h = let a = h.held 0 in let t = total-append (one_at 0) l (0 ∷ []) in let o = at_here 0 in
      omega arith

  -- the next of those that wait
  pub next_waits : (ws : List Waiting) (k : ℕ) (w : Waiting) (seat : Seat V K T g) → k < length ws
      → HasKept id jobs start keeps (nodes_in (drop k ws) ++ 0 ∷ []) seat
      → HasKept id jobs start keeps ((get_or ws k w).node ∷ (nodes_in (drop (k + 1) ws) ++ 0 ∷ [])) seat
  next_waits ws k w seat low h = subst (λ l. HasKept id jobs start keeps l seat)
      (ap (λ (l : List Waiting). nodes_in l ++ 0 ∷ []) (drop_more ws k w low)) h

-- ---- credit that is split off one seat and joined to another

-- a note that stands is the first one still, if others come after it
first_note : {A : Type 0} (i : ℕ) (k : A) (xs ys : List (ℕ × A)) → note_of i xs ≡ Some k → note_of i (xs ++ ys) ≡ Some k
first_note i k [] ys e = absurd (grind arith)
first_note i k (x ∷ xs) ys e = dite (ℕ_discrete x.0 i)
    (λ h. ap (λ b. cond b (Some x.1) (note_of i (xs ++ ys))) (eq-eqb x.0 i h)
    ∙ sym (ap (λ b. cond b (Some x.1) (note_of i xs)) (eq-eqb x.0 i h)) ∙ e)
    (λ n. ap (λ b. cond b (Some x.1) (note_of i (xs ++ ys))) (ne_eqb x.0 i n)
    ∙ first_note i k xs ys (sym (ap (λ b. cond b (Some x.1) (note_of i xs)) (ne_eqb x.0 i n)) ∙ e))

-- nothing comes after a list, if what comes has no length
no_more : {A : Type 0} (xs ys : List A) → length ys ≡ 0 → xs ++ ys ≡ xs
no_more xs [] e = append-nil xs
no_more xs (y ∷ ys) e = absurd (omega arith)

module _ {V K T : Type 0} {g : Ghosts K V T} where
  -- credit alone that was split off has noted no place, if the seat had noted none
  pub part_unplaced : (credit : ℕ) (seat part : Seat V K T g) → length (view_of seat).places ≡ 0
      → view_of part ≡ part_view 0 0 credit [] (view_of seat) → length (view_of part).places ≡ 0
  part_unplaced credit seat part none is = ap (λ (u : View T). length u.places) is ∙ none

module _ {V K T : Type 0} {g : Ghosts K V T} {jobs : ℕ} {start : ℕ → ℕ} {keeps : ℕ → List ℕ} where
  -- a seat from which credit alone was split off holds and knows what it did
  pub credit_rest : (credit : ℕ) (seat rest : Seat V K T g) → KnowsStarts jobs start keeps (view_of seat)
      → ((k : ℕ) → count k (view_of seat).sides ≡ 0) → view_of rest ≡ rest_view 0 0 credit [] (view_of seat)
      → ((i : ℕ) → count i (view_of rest).held ≡ count i (view_of seat).held)
      × ((k : ℕ) → count k (view_of rest).sides ≡ 0) × KnowsStarts jobs start keeps (view_of rest)
  credit_rest credit seat rest h none is =
      let same : (k : ℕ) → count k (view_of rest).sides ≡ count k (view_of seat).sides =
      λ k. ap (λ (u : View T). count k u.sides) is in (
        (λ i. ap (λ (u : View T). count i u.held) is),
        (λ k. same k ∙ none k),
        known_as (view_of seat) (view_of rest) h (ap (λ (u : View T). u.noted) is)
            (ap (λ (u : View T). u.noted_sides) is) (ap (λ (u : View T). u.places) is)
            (λ k. let e = same k in omega arith),
      )

module _ {V K T : Type 0} {g : Ghosts K V T} {id : TableId} {jobs : ℕ} {start : ℕ → ℕ} {keeps : ℕ → List ℕ} where
  -- a seat to which credit alone was joined has what it had
  pub credit_joined : (credit : ℕ) (mine : List ℕ) (seat spare part later : Seat V K T g) → table_of later ≡ id
      → length (view_of spare).places ≡ 0 → view_of part ≡ part_view 0 0 credit [] (view_of spare)
      → view_of later ≡ joined_view (view_of seat) (view_of part) → HasKept id jobs start keeps mine seat
      → HasKept id jobs start keeps mine later
  credit_joined credit mine seat spare part later table none off is h =
      let v = view_of seat in
      let u = view_of part in
      let placed : (view_of later).places ≡ v.places =
      ap (λ (w : View T). w.places) is ∙ no_more v.places u.places (part_unplaced credit spare part none off) in
      let sides : (k : ℕ) → count k (view_of later).sides ≡ count k v.sides = λ k.
      (let a : count k (view_of later).sides ≡ count k (v.sides ++ u.sides) = ap (λ (w : View T). count k w.sides) is in
      let b = total-append (one_at k) v.sides u.sides in
      let d : count k u.sides ≡ 0 = ap (λ (w : View T). count k w.sides) off in omega arith) in
      record {
        table = table;
        held = λ i.
            let a : count i (view_of later).held ≡ count i (v.held ++ u.held) =
            ap (λ (w : View T). count i w.held) is in
            let b = total-append (one_at i) v.held u.held in
            let d = h.held i in
            omega arith;
        plain_at = λ i there. let p = h.plain_at i there in (sides (left_slot i) ∙ p.0, sides (right_slot i) ∙ p.1);
        knows = record {
          known = λ job low. start_by (start job) (keeps job) v (view_of later) (h.knows.known job low)
              (λ l e. ap (λ (w : View T). note_of (start job) w.noted) is
              ∙ first_note (start job) l v.noted u.noted e)
              (λ l e. ap (λ (w : View T). note_of (start job) w.noted_sides) is
              ∙ first_note (start job) l v.noted_sides u.noted_sides e);
          plain = λ job i low there. let p = h.knows.plain job i low there in
              (sides (left_slot i) ∙ p.0, sides (right_slot i) ∙ p.1);
          rooted = subst (λ l. Rooted l) (sym placed) h.knows.rooted;
        };
      }
