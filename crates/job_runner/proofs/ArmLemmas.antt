-- How start nodes are claimed and armed, what arrives at them, and the lists of those that wait.
use Rattle.std.proofs.Common.{◌≡◌, ◌≢◌, ℕ, zero, suc, ◌+◌, ◌-◌, ◌<◌, ◌≤◌, cond, nat_lt, true, List, [], ◌∷◌, ◌++◌}
use Rattle.std.proofs.Common.{length, set, get_or, sym, refl, ap, ◌∙◌, subst, arith, Some, None, Option, Vec, Global}
use Rattle.std.proofs.lemmas.Grind.{common_steps}
use mathlib.Core.Logic.{dite}
use native.Mathlib.Decide.{ℕ_discrete}
use Rattle.completion_core.specs.Graph.{copies}
use Rattle.completion_core.specs.Legal.{count, only_at}
use Rattle.pending_count.specs.declared.view.View.{View}
use Rattle.pending_count.specs.Views.{left_slot, right_slot, note_of}
use Rattle.pending_count.specs.Steps.{IsClaimed, IsArmed, drawn_node, IsArrived}
use Rattle.pending_count.proofs.SumLemmas.{one_at, at_here, at_else, total-append}
use Rattle.pending_count.proofs.RecordLemmas.{fresh-count, fresh_here, fresh_else}
use Rattle.pending_count.proofs.CallerLemmas.{drawn_is, claim_larger, arm_held, arm_note, arm_sides, arm_side_note}
use Rattle.pending_count.proofs.CallerLemmas.{arm_note_else, arm_side_note_else}
use Rattle.completer_tree.specs.Roots.{Rooted}
use Rattle.job_runner.specs.declared.start.Start.{Start}
use Rattle.job_runner.specs.declared.start.Waiting.{Waiting}
use Rattle.job_runner.specs.Waits.{nodes_in}
use Rattle.job_runner.specs.Tasks.{HasStarts, all_waiting, start_nodes, node_at, kept_at, nodes_below, KnowsStart}
use Rattle.job_runner.specs.Tasks.{KnowsStarts, CanArrive}
use Rattle.atomic_table.specs.Seated.{TableId}
use Rattle.pending_count.specs.declared.place.Fits.{Ghosts}
use Rattle.pending_count.specs.declared.seat.Seat.{Seat}
use Rattle.pending_count.specs.Seats.{view_of}
use Rattle.completer_tree.specs.Paths.{IsPath, Propagates}

-- one more list of jobs that wait
pub all_snoc : (i : ℕ) (xs : List (Vec Waiting Global)) (w : Vec Waiting Global)
    → count i (all_waiting (xs ++ w ∷ [])) ≡ count i (all_waiting xs) + count i (nodes_in w.items)
all_snoc i [] w = total-append (one_at i) (nodes_in w.items) []
    ∙ (let e : count i (nodes_in w.items) + 0 ≡ 0 + count i (nodes_in w.items) = omega arith in e)
all_snoc i (x ∷ xs) w =
    let a = total-append (one_at i) (nodes_in x.items) (all_waiting (xs ++ w ∷ [])) in
    let b = total-append (one_at i) (nodes_in x.items) (all_waiting xs) in
    let r = all_snoc i xs w in
    omega arith

-- another list of jobs that wait
pub all_set : (i : ℕ) (xs : List (Vec Waiting Global)) (k : ℕ) (v w : Vec Waiting Global) → k < length xs
    → v ≡ get_or xs k v → count i (all_waiting (set xs k w)) + count i (nodes_in v.items)
    ≡ count i (all_waiting xs) + count i (nodes_in w.items)
all_set i [] k v w low e = absurd (omega arith)
all_set i (x ∷ xs) zero v w low e =
    let a = total-append (one_at i) (nodes_in x.items) (all_waiting xs) in
    let b = total-append (one_at i) (nodes_in w.items) (all_waiting xs) in
    let s = ap (λ (u : Vec Waiting Global). count i (nodes_in u.items)) e in
    omega arith
all_set i (x ∷ xs) (suc k) v w low e =
    let a = total-append (one_at i) (nodes_in x.items) (all_waiting (set xs k w)) in
    let b = total-append (one_at i) (nodes_in x.items) (all_waiting xs) in
    let r = all_set i xs k v w (omega arith) e in
    omega arith

-- one more that waits
pub nodes_snoc : (ws : List Waiting) (w : Waiting) → nodes_in (ws ++ w ∷ []) ≡ nodes_in ws ++ w.node ∷ []
nodes_snoc [] w = refl
nodes_snoc (x ∷ ws) w = ap (λ l. x.node ∷ l) (nodes_snoc ws w)

none_in : (ws : List Waiting) → length ws ≡ 0 → nodes_in ws ≡ []
none_in [] e = refl
none_in (w ∷ ws) e = absurd (omega arith)

-- one more start node
starts_snoc : (i : ℕ) (ss : List Start) (s : Start)
    → count i (start_nodes (ss ++ s ∷ [])) ≡ count i (start_nodes ss) + one_at i s.node
starts_snoc i [] s = omega arith
starts_snoc i (x ∷ ss) s = let r = starts_snoc i ss s in omega arith

pub length_snoc : {A : Type 0} (xs : List A) (x : A) → length (xs ++ x ∷ []) ≡ length xs + 1
length_snoc [] x = refl
length_snoc (y ∷ xs) x = let r = length_snoc xs x in omega arith

node_before : (ss : List Start) (s : Start) (k : ℕ) → k < length ss → node_at (ss ++ s ∷ []) k ≡ node_at ss k
node_before [] s k low = absurd (omega arith)
node_before (x ∷ ss) s zero low = refl
node_before (x ∷ ss) s (suc k) low = node_before ss s k (omega arith)

kept_before : (ss : List Start) (s : Start) (k : ℕ) → k < length ss → kept_at (ss ++ s ∷ []) k ≡ kept_at ss k
kept_before [] s k low = absurd (omega arith)
kept_before (x ∷ ss) s zero low = refl
kept_before (x ∷ ss) s (suc k) low = kept_before ss s k (omega arith)

node_last : (ss : List Start) (s : Start) → node_at (ss ++ s ∷ []) (length ss) ≡ s.node
node_last [] s = refl
node_last (x ∷ ss) s = node_last ss s

kept_last : (ss : List Start) (s : Start) → kept_at (ss ++ s ∷ []) (length ss) ≡ s.onward.items
kept_last [] s = refl
kept_last (x ∷ ss) s = kept_last ss s

-- each start node is one that was there, or the new one
by_last : (P : ℕ → List ℕ → Type 0) (ss : List Start) (s : Start)
    → ((k : ℕ) → k < length ss → P (node_at ss k) (kept_at ss k)) → P s.node s.onward.items → (k : ℕ)
    → k < length (ss ++ s ∷ []) → P (node_at (ss ++ s ∷ []) k) (kept_at (ss ++ s ∷ []) k)
by_last P ss s old new k low =
    let n = length_snoc ss s in
    dite (ℕ_discrete k (length ss))
    (λ e. subst (λ j. P (node_at (ss ++ s ∷ []) j) (kept_at (ss ++ s ∷ []) j)) (sym e)
    (subst (λ a. P a (kept_at (ss ++ s ∷ []) (length ss))) (sym (node_last ss s))
    (subst (λ l. P s.node l) (sym (kept_last ss s)) new)))
    (λ e. let below : k < length ss = omega arith in
    subst (λ a. P a (kept_at (ss ++ s ∷ []) k)) (sym (node_before ss s k below))
    (subst (λ l. P (node_at ss k) l) (sym (kept_before ss s k below)) (old k below)))

below : (n nodes : ℕ) → n < nodes → nat_lt n nodes ≡ true
below n nodes h = grind (arith, common_steps)

module _ {T : Type 0} where
  -- who has noted no less knows of a start node what was known
  pub start_by : (node : ℕ) (keeps : List ℕ) (v w : View T) → KnowsStart node keeps v
      → ((l : List ℕ) → note_of node v.noted ≡ Some l → note_of node w.noted ≡ Some l)
      → ((l : List ℕ) → note_of node v.noted_sides ≡ Some l → note_of node w.noted_sides ≡ Some l)
      → KnowsStart node keeps w
  start_by node keeps v w h noted noted_sides = record {
    lone = h.lone;
    noted = λ on. noted keeps (h.noted on);
    noted_sides = λ on. noted_sides [] (h.noted_sides on);
    smaller = h.smaller;
    ends = h.ends;
  }

  pub record Claimed (nodes node : ℕ) (v w : View T) : Type 0 where
    pub held : w.held ≡ v.held
    pub sides : w.sides ≡ v.sides
    pub places : w.places ≡ v.places
    pub noted : w.noted ≡ v.noted
    pub noted_sides : w.noted_sides ≡ v.noted_sides
    pub larger : (i : ℕ) → 0 < count i v.held → i < node
    pub unnoted : (i : ℕ) (l : List ℕ) → note_of i v.noted ≡ Some l → i < node
    pub unnoted_sides : (i : ℕ) (l : List ℕ) → note_of i v.noted_sides ≡ Some l → i < node
    pub mine : 0 < count node w.claims

  claimed_as : {S : Type 0} {nodes actor : ℕ} (n node : ℕ) (v w : View T) → drawn_node nodes n ≡ Some node
      → IsClaimed S nodes actor v n w → Claimed nodes node v w
  claimed_as {nodes = nodes} n node v w drew claim =
      let d = drawn_is nodes n node drew in
      let is : w ≡ record v { credit = v.credit - 1; claims = (n + 1) ∷ v.claims } =
      claim.view ∙ ap (λ c. cond c (record v { credit = v.credit - 1; claims = (n + 1) ∷ v.claims })
      (record v { credit = v.credit - 1; none_left = true })) (below n nodes d.1) in
      record {
        held = ap (λ (u : View T). u.held) is;
        sides = ap (λ (u : View T). u.sides) is;
        places = ap (λ (u : View T). u.places) is;
        noted = ap (λ (u : View T). u.noted) is;
        noted_sides = ap (λ (u : View T). u.noted_sides) is;
        larger = claim_larger n node claim drew;
        unnoted = λ i l e. let a = claim.unnoted i l e in let b = d.0 in omega arith;
        unnoted_sides = λ i l e. let a = claim.unnoted_sides i l e in let b = d.0 in omega arith;
        mine = (let e : count node w.claims ≡ one_at node (n + 1) + count node v.claims =
            ap (λ (u : View T). count node u.claims) is in
            let f : one_at node (n + 1) ≡ 1 = ap (one_at node) (sym d.0) ∙ at_here node in omega arith);
      }

  -- a node that was drawn is new to the seat
  pub drawn_by : {S : Type 0} {nodes actor : ℕ} (drawn : Option ℕ) (v w : View T)
      → (v.credit ≡ 0 → (drawn ≡ None) × (w ≡ v))
      → (0 < v.credit → (n : ℕ) × (drawn ≡ drawn_node nodes n) × IsClaimed S nodes actor v n w) → (node : ℕ)
      → drawn ≡ Some node → Claimed nodes node v w
  drawn_by {nodes = nodes} drawn v w unpaid claimed node is = dite (ℕ_discrete v.credit 0)
      (λ z. let f : None ≡ Some node = sym (unpaid z).0 ∙ is in absurd (grind arith))
      (λ n. let c = claimed (omega arith) in claimed_as c.0 node v w (sym c.1 ∙ is) c.2)

  module _ (job node : ℕ) {nodes : ℕ} (ss : List Start) (all taken : List ℕ) (ws : List Waiting) (onward : List ℕ)
      (v v1 : View T) (has : HasStarts (job + 1) ss all v) (claim : Claimed nodes node v v1)
      (took : (i : ℕ) → count i taken + count i (nodes_in ws) ≡ count i all) (is : onward ≡ nodes_in ws ++ 0 ∷ []) where
    onward_count : (i : ℕ) → count i onward ≡ count i (nodes_in ws) + one_at i 0
    onward_count i = ap (count i) is ∙ total-append (one_at i) (nodes_in ws) (0 ∷ [])
        ∙ (let e : count i (nodes_in ws) + (one_at i 0 + 0) ≡ count i (nodes_in ws) + one_at i 0 = omega arith in e)

    ends_more : (i : ℕ) → count i (copies (job + 1) 0) ≡ one_at i 0 + count i (copies job 0)
    ends_more i = ap (λ k. count i (copies k 0)) (let e : job + 1 ≡ suc job = omega arith in e)

    pub can_arm : (i : ℕ) → count i onward ≤ count i v1.held
    can_arm i = let a = has.held i in let b = took i in let c = onward_count i in let d = ends_more i in
        let e = ap (count i) claim.held in omega arith

    pub arm_smaller : (i : ℕ) → 0 < count i onward → i < node
    arm_smaller i there = claim.larger i (let a = can_arm i in let e = ap (count i) claim.held in omega arith)

    no_side : (k : ℕ) → count k v1.sides ≡ 0
    no_side k = ap (count k) claim.sides ∙ has.no_side k

    end_kept : 0 < count 0 onward
    end_kept = let c = onward_count 0 in let o = at_here 0 in omega arith

    module _ {S : Type 0} {actor pending : ℕ} (s : Start) (later : List ℕ) (v2 : View T) (named : s.node ≡ node)
        (keeps : s.onward.items ≡ onward) (told : IsArmed S nodes actor node pending onward v1 v2)
        (more : (i : ℕ) → count i later ≤ count i (copies pending node) + count i taken) where
      other : (i : ℕ) (l : List ℕ) → note_of i v.noted ≡ Some l → i ≢ node
      other i l e z = let a = claim.unnoted i l e in absurd (omega arith)

      other_side : (i : ℕ) (l : List ℕ) → note_of i v.noted_sides ≡ Some l → i ≢ node
      other_side i l e z = let a = claim.unnoted_sides i l e in absurd (omega arith)

      pub armed_starts : HasStarts job (ss ++ s ∷ []) later v2
      armed_starts = record {
        held = λ i.
            let a = has.held i in
            let b = took i in
            let c = onward_count i in
            let d = ends_more i in
            let e = ap (count i) claim.held in
            let f = arm_held node pending onward told can_arm i in
            let h = more i in
            let k = fresh-count node pending i in
            let n = starts_snoc i ss s in
            let o : one_at i s.node ≡ one_at i node = ap (one_at i) named in
            dite (ℕ_discrete i node)
            (λ z. let p : only_at node (pending + 1) i ≡ pending + 1 =
            ap (only_at node (pending + 1)) z ∙ fresh_here node (pending + 1) in
            let q : only_at node pending i ≡ pending = ap (only_at node pending) z ∙ fresh_here node pending in
            let r : one_at i node ≡ 1 = ap (λ j. one_at j node) z ∙ at_here node in omega arith)
            (λ z. let p = fresh_else node (pending + 1) i z in let q = fresh_else node pending i z in
            let r = at_else i node (λ y. z (sym y)) in omega arith);
        no_side = arm_sides node pending onward told no_side;
        rooted = subst (λ l. Rooted l) (sym (ap (λ (u : View T). u.places) told.view ∙ claim.places)) has.rooted;
        unplaced = ap (λ (u : View T). length u.places) told.view ∙ ap length claim.places ∙ has.unplaced;
        known = by_last (λ n l. KnowsStart n l v2) ss s
            (λ k low. start_by (node_at ss k) (kept_at ss k) v v2 (has.known k low)
            (λ l e. arm_note_else node pending onward told (node_at ss k) (other (node_at ss k) l e)
            ∙ ap (note_of (node_at ss k)) claim.noted ∙ e)
            (λ l e. arm_side_note_else node pending onward told (node_at ss k) (other_side (node_at ss k) l e)
            ∙ ap (note_of (node_at ss k)) claim.noted_sides ∙ e))
            (record {
              lone = λ z. let p = arm_smaller 0 end_kept in absurd (omega arith);
              noted = λ on. ap (λ n. note_of n v2.noted) named ∙ arm_note node pending onward told
                  ∙ ap Some (sym keeps);
              noted_sides = λ on. ap (λ n. note_of n v2.noted_sides) named
                  ∙ arm_side_note node pending onward told no_side;
              smaller = λ on i there. subst (λ n. i < n) (sym named)
                  (arm_smaller i (subst (λ l. 0 < count i l) keeps there));
              ends = subst (λ l. 0 < count 0 l) (sym keeps) end_kept;
            });
      }

  -- a job that names none, and for which none waits, has END for its start node
  pub lone_starts : (job names : ℕ) (ss : List Start) (all taken later : List ℕ) (ws : List Waiting) (s : Start)
      (v : View T) → HasStarts (job + 1) ss all v
      → ((i : ℕ) → count i taken + count i (nodes_in ws) ≡ count i all) → names ≡ 0 → length ws ≡ 0
      → ((i : ℕ) → count i later ≤ count i (copies names 0) + count i taken) → s.node ≡ 0
      → s.onward.items ≡ nodes_in ws ++ 0 ∷ [] → HasStarts job (ss ++ s ∷ []) later v
  lone_starts job names ss all taken later ws s v has took none_named none_waits more named keeps =
      let kept : s.onward.items ≡ 0 ∷ [] = keeps ∙ ap (λ l. l ++ 0 ∷ []) (none_in ws none_waits) in
      record {
        held = λ i.
            let a = has.held i in
            let b = took i in
            let c : count i (copies names 0) ≡ 0 = ap (λ k. count i (copies k 0)) none_named in
            let h = more i in
            let n = starts_snoc i ss s in
            let o : one_at i s.node ≡ one_at i 0 = ap (one_at i) named in
            let d : count i (copies (job + 1) 0) ≡ one_at i 0 + count i (copies job 0) =
            ap (λ k. count i (copies k 0)) (let e : job + 1 ≡ suc job = omega arith in e) in
            omega arith;
        no_side = has.no_side;
        rooted = has.rooted;
        unplaced = has.unplaced;
        known = by_last (λ n l. KnowsStart n l v) ss s has.known (record {
          lone = λ _. kept;
          noted = λ on. absurd (omega arith);
          noted_sides = λ on. absurd (omega arith);
          smaller = λ on i there. absurd (omega arith);
          ends = subst (λ l. 0 < count 0 l) (sym kept) (let o = at_here 0 in omega arith);
        });
      }

  -- a seat that armed all start nodes knows them
  pub starts_known : (jobs : ℕ) (start : ℕ → ℕ) (keeps : ℕ → List ℕ) (left : ℕ) (ss : List Start) (all : List ℕ)
      (v : View T) → length ss ≡ jobs → ((j : ℕ)
      → (start j ≡ node_at ss (jobs - 1 - j)) × (keeps j ≡ kept_at ss (jobs - 1 - j))) → HasStarts left ss all v
      → KnowsStarts jobs start keeps v
  starts_known jobs start keeps left ss all v count_is is h =
      record {
        known = λ j low.
            let e = is j in
            let k = h.known (jobs - 1 - j) (omega arith) in
            subst (λ n. KnowsStart n (keeps j) v) (sym e.0)
            (subst (λ l. KnowsStart (node_at ss (jobs - 1 - j)) l v) (sym e.1) k);
        plain = λ j i low there. (h.no_side (left_slot i), h.no_side (right_slot i));
        rooted = h.rooted;
      }

-- the start nodes of all jobs, the last one's first, are those that were armed
pub all_below : (start : ℕ → ℕ) (ss : List Start) (n : ℕ) → length ss ≡ n
    → ((k : ℕ) → k < n → start k ≡ node_at ss (n - 1 - k)) → nodes_below start n ≡ start_nodes ss
all_below start [] zero e is = refl
all_below start [] (suc n) e is = absurd (omega arith)
all_below start (s ∷ ss) zero e is = absurd (omega arith)
all_below start (s ∷ ss) (suc n) e is =
    ap (λ a. a ∷ nodes_below start n) (is n (omega arith)
    ∙ ap (node_at (s ∷ ss)) (let z : suc n - 1 - n ≡ 0 = omega arith in z))
    ∙ ap (λ l. s.node ∷ l) (all_below start ss n (omega arith)
    (λ k low. is k (omega arith) ∙ ap (node_at (s ∷ ss))
    (let z : suc n - 1 - k ≡ suc (n - 1 - k) = omega arith in z)))

-- the start node with this position
pub start_got : (ss : List Start) (k : ℕ) (s : Start) → k < length ss → s ≡ get_or ss k s
    → (s.node ≡ node_at ss k) × (s.onward.items ≡ kept_at ss k)
start_got [] k s low e = absurd (omega arith)
start_got (x ∷ ss) zero s low e = (ap (λ (z : Start). z.node) e, ap (λ (z : Start). z.onward.items) e)
start_got (x ∷ ss) (suc k) s low e = start_got ss k s (omega arith) e

-- ---- arrivals at start nodes, as arrivals along a path of one node

module _ {V K T : Type 0} {g : Ghosts K V T} {id : TableId} {jobs : ℕ} {start : ℕ → ℕ} {keeps : ℕ → List ℕ} where
  -- who can arrive at a start node can do so along the path of that node alone
  pub start_path : (job node : ℕ) (seat : Seat V K T g) → 0 < node → node ≡ start job
      → CanArrive id jobs start keeps job seat → IsPath (node ∷ []) (view_of seat)
  start_path job node seat some is can = (
    subst (λ k. 0 < count k (view_of seat).held) (sym is) can.held,
    (λ k there.
        let same : k ≡ node = dite (ℕ_discrete k node) (λ e. e)
        (λ n. let o = at_else k node (λ e. n (sym e)) in absurd (omega arith)) in
        (omega arith, (can.no_side (left_slot k), can.no_side (right_slot k)))),
    tt,
  )

-- along a path of this kind the arrival was the last, if any node was finished
pub last_along : {T S : Type 0} {nodes actor : ℕ} (node finished : ℕ) (v w : View T)
    → Propagates S nodes actor (node ∷ []) v w finished → finished ≢ 0
    → (n : ℕ) × (n ≡ 1) × IsArrived S nodes actor node v n w
last_along {S = S} {nodes = nodes} {actor = actor} node finished v w p some =
    let one : p.0 ≡ 1 = dite (ℕ_discrete p.0 1) (λ e. e) (λ n. absurd (some (p.3 n).0)) in
    let rest = p.4 one in
    (p.0, one, subst (λ z. IsArrived S nodes actor node v p.0 z) (sym rest.2.1) p.2)
