-- Each step of the table keeps the rule, and says what it is to the graph.
use Rattle.std.proofs.Common.{◌≡◌, ◌≢◌, ℕ, ◌+◌, ◌-◌, ◌%◌, ◌^◌, ◌<◌, ◌≤◌, eqb, cond, nat_lt, Bool, true, false, Option}
use Rattle.std.proofs.Common.{List, [], ◌∷◌, length, get_or, set, sym, refl, ap, ◌∙◌, subst, arith, eq-eqb, ne_eqb}
use mathlib.Core.Logic.{dite}
use mathlib.Core.Option.{none, some}
use native.Mathlib.Decide.{ℕ_discrete}
use lib.ListN.{get_elem?}
use Rattle.atomic_table.specs.Table.{State, Me, step, stepped, keeps, Allows, Splits, Joins}
use Rattle.completion_core.specs.declared.action.Action.TheVariants.{Claim, Arm, Add, Arrive, Run, Settle, Give}
use Rattle.completion_core.specs.Runs.{LegalAll, after_all}
use Rattle.pending_count.specs.Steps.{gives_all}
use Rattle.completion_core.specs.Graph.{Graph}
use Rattle.completion_core.specs.Legal.{count, after}
use Rattle.pending_count.specs.declared.view.View.{View}
use Rattle.pending_count.specs.Views.{blank, left_slot, right_slot, IsPlainAt, SplitOff, InRange, joined_view, note_of}
use Rattle.pending_count.specs.Views.{given_by_all, sides_given_by_all, claimed_view, armed_view, arrived_view}
use Rattle.pending_count.specs.Views.{finished_view, added_view, looked_view, rest_view, part_view}
use Rattle.pending_count.specs.declared.place.Side.{Side}
use Rattle.pending_count.specs.declared.place.Place.{Place}
use Rattle.pending_count.specs.declared.place.Slot.{Slot}
use Rattle.pending_count.specs.Shows.{Shows}
use Rattle.pending_count.specs.Pairs.{Pairing, Ruled, side_slot}
use Rattle.pending_count.proofs.SumLemmas.{held_left}
use Rattle.pending_count.proofs.RecordLemmas.{count-given_by_all}
use Rattle.pending_count.proofs.RuleLemmas.{there, mine, in_range}
use Rattle.std.proofs.lemmas.List.{set-get_or}
use Rattle.atomic_table.proofs.Lists.{set_here, set_else}
use Rattle.completion_core.specs.declared.action.Action.{Action}
use Rattle.completion_core.specs.declared.action.Reply.{Reply}
use Rattle.completion_core.specs.declared.action.Reply.TheVariants.{Done}
use Rattle.completion_core.specs.Legal.{reply, reply_of_arrival}
use Rattle.pending_count.specs.Steps.{OneStep, Answers, arrival_actions, drawn_node, reply_of_claim}
use Rattle.pending_count.specs.Plays.{claimed, armed, arrived, added, settled, looked}
use Rattle.pending_count.proofs.ClaimLemmas as claims
use Rattle.pending_count.proofs.ArmLemmas as arming
use Rattle.pending_count.proofs.ArrivalLemmas as arrivals
use Rattle.pending_count.proofs.AddLemmas as adding
use Rattle.pending_count.proofs.ChangedHandsLemmas.{count-sides_given}
use Rattle.pending_count.proofs.PlainSideLemmas as plain_sides
use Rattle.pending_count.proofs.ArmSideLemmas as armed_sides
use Rattle.pending_count.proofs.GiveSideLemmas as given_sides
use Rattle.pending_count.proofs.ClaimSideLemmas.{claimed_sides, not_drawn, end_plain, added_sides, split_off}
use Rattle.pending_count.proofs.GiveLemmas as giving
use Rattle.pending_count.proofs.JoinLemmas as joining

pub one_less : (x : ℕ) → 0 < x → x < 18446744073709551616 → (x + (2 ^ 64 - 1)) % 2 ^ 64 ≡ x - 1
one_less x h l = omega arith

no_wrap : (x d : ℕ) → x + d < 18446744073709551616 → (x + d) % 2 ^ 64 ≡ x + d
no_wrap x d h = omega arith

pub cond_one : (x : ℕ) {A : Type 0} (a b : A) → x ≡ 1 → cond (eqb x 1) a b ≡ a
cond_one x a b e = ap (λ c. cond c a b) (eq-eqb x 1 e)

pub cond_more : (x : ℕ) {A : Type 0} (a b : A) → x ≢ 1 → cond (eqb x 1) a b ≡ b
cond_more x a b n = ap (λ c. cond c a b) (ne_eqb x 1 n)

module _ {S T : Type 0} (nodes : ℕ) where
  -- a step of the actor that has this number
  module _ (s : State S (View T)) (g0 : Graph) (r0 : Shows nodes s g0) (id : ℕ) (v : View T)
      (at : get_elem? s.views id ≡ some v) where
    pub steps_to : (i n' actor : ℕ) (w : View T) (actions : List Action) (answer : Reply) (t : State S (View T))
        → actor ≡ id → t.words ≡ set s.words i n' → t.views ≡ set s.views id w
        → ((g : Graph) → Shows nodes s g
        → LegalAll actions g × Answers actions g answer × Shows nodes t (after_all actions g))
        → OneStep S nodes i (get_or s.words i 0) n' actor v w actions answer
    steps_to i n' actor w actions answer t by_me ws vs shown = record {
      before = s;
      later = t;
      ruled = (g0, r0);
      found = refl;
      viewed = subst (λ a. get_elem? s.views a ≡ some v) (sym by_me) at;
      words = ws;
      views = vs ∙ ap (λ a. set s.views a w) (sym by_me);
      shown = shown;
      in_range = in_range nodes t (after_all actions g0) (shown g0 r0).2 id w
          (ap (λ l. get_elem? l id) vs ∙ set_here s.views id w (there s.views id v at));
    }

-- what a claim leaves as it was, whether or not a node is left
claim_keeps : {T A : Type 0} (part : View T → A) (nodes n : ℕ) (v : View T)
    → part (record v { credit = v.credit - 1; claims = (n + 1) ∷ v.claims }) ≡ part v
    → part (record v { credit = v.credit - 1; none_left = true }) ≡ part v → part (claimed_view nodes n v) ≡ part v
claim_keeps part nodes n v one none_there = either (nat_lt n nodes)
  where
    either : (b : Bool) → part (cond b (record v { credit = v.credit - 1; claims = (n + 1) ∷ v.claims })
        (record v { credit = v.credit - 1; none_left = true })) ≡ part v
    either true = one
    either false = none_there

module _ {V K T : Type 0} (fits : T → Side → V → Type 0) (tag_of : K → T) (place_of : K → Option (Place T))
    (nodes : ℕ) where
  abbrev Rule : State (Option (Slot V K)) (View T) → Type 0
  Rule = Ruled fits tag_of place_of nodes

  claims_one : (slots id actor i : ℕ) (me : Me (Option (Slot V K)) (View T)) → actor ≡ id → i ≡ nodes + 1
      → 0 < me.0.credit → Allows (Rule) slots id me i (λ n. (n + 1) % 2 ^ 64)
      (claimed nodes actor (step slots i 1 0 none) me)
  claims_one slots id actor i me by_me word_is paying =
      subst (λ j. Allows (Rule) slots id me j (λ n. (n + 1) % 2 ^ 64) (claimed nodes actor (step slots j 1 0 none) me))
      (sym word_is) here'
    where
      here' : Allows (Rule) slots id me (nodes + 1) (λ n. (n + 1) % 2 ^ 64)
          (claimed nodes actor (step slots (nodes + 1) 1 0 none) me)
      here' s (g0, r0, p0) _ at _ =
          let v : View T = me.0 in
          let n : ℕ = get_or s.words (nodes + 1) 0 in
          let w : View T = claimed_view nodes n v in
          let t : State (Option (Slot V K)) (View T) = stepped s (nodes + 1) (n + 1) id me.1 w keeps in
          let low = claims.small nodes s g0 r0 id v at paying in
          let same : (n + 1) % 2 ^ 64 ≡ n + 1 = no_wrap n 1 (omega arith) in (
            w,
            keeps,
            tt,
            subst (λ k. Rule (stepped s (nodes + 1) k id me.1 w keeps)) (sym same) (
              after (Claim id) g0,
              claims.drawn_shows nodes s g0 r0 id v at paying t refl refl,
              claimed_sides fits tag_of place_of nodes s g0 r0 p0 id v at n (nat_lt n nodes)
                  (nat_lt g0.drawn g0.nodes),
            ),
            (
              refl,
              claim_keeps (λ (u : View T). u.taken) nodes n v refl refl,
              record {
                view = refl;
                larger = claims.larger nodes s g0 r0 id v at paying;
                no_side =
                    (let d = r0.counting.draws in
                    let same_sides : w.sides ≡ v.sides = claim_keeps (λ (u : View T). u.sides) nodes n v refl refl in
                    let none_at : (b : Bool) → count (side_slot (n + 1) b) w.sides ≡ 0 =
                    λ b. ap (count (side_slot (n + 1) b)) same_sides
                    ∙ not_drawn fits tag_of place_of nodes s g0 r0 p0 id v at (n + 1) b (omega arith) in
                    (none_at true, none_at false));
                unnoted = λ i l e.
                    let armed_there = (r0.noting.noted id i l
                    (ap (λ (u : View T). note_of i u.noted) (mine s.views id v at) ∙ e)).0 in
                    let b = r0.running.below i armed_there in
                    let low = b.1 in
                    let d = r0.counting.draws in omega arith;
                unnoted_sides = λ i l e.
                    let armed_there = (p0.noting.noted id i l
                    (ap (λ (u : View T). note_of i u.noted_sides) (mine s.views id v at) ∙ e)).0 in
                    let b = r0.running.below i armed_there in
                    let low = b.1 in
                    let d = r0.counting.draws in omega arith;
                unplaced = λ i q e.
                    let armed_there = p0.noting.placed id i q
                    (ap (λ (u : View T). note_of i u.places) (mine s.views id v at) ∙ e) in
                    let b = r0.running.below i armed_there in
                    let low = b.1 in
                    let d = r0.counting.draws in omega arith;
                one_step = subst (λ a. OneStep (Option (Slot V K)) nodes (nodes + 1) n (n + 1) a v w (Claim a ∷ [])
                    (reply_of_claim (drawn_node nodes n))) (sym by_me)
                    (steps_to nodes s g0 r0 id v at (nodes + 1) (n + 1) id w (Claim id ∷ [])
                    (reply_of_claim (drawn_node nodes n)) t refl refl refl
                    (λ g r. (
                      (tt, tt),
                      claims.answers nodes s g r id v at paying,
                      claims.drawn_shows nodes s g r id v at paying t refl refl,
                    )));
              },
            ),
          )

  arms_one : (slots id actor node p n : ℕ) (onward : List ℕ) (me : Me (Option (Slot V K)) (View T)) → actor ≡ id
      → n ≡ p + 1 → 0 < count node me.0.claims → p < 4294967296 → ((i : ℕ) → count i onward ≤ count i me.0.held)
      → ((i : ℕ) → 0 < count i onward → i < node)
      → ((i : ℕ) → 0 < count i onward → count (left_slot i) me.0.sides + count (right_slot i) me.0.sides ≤ 1)
      → me.0.taken ≡ []
      → Allows (Rule) slots id me node (λ _. n) (λ _. armed nodes actor p onward (step slots node n 0 none) me n)
  arms_one slots id actor node p n onward me by_me n_is drew small have lower one_side free s (g0, r0, p0) _ at _ =
      let v : View T = me.0 in
      let w : View T = armed_view node p onward v in
      let t : State (Option (Slot V K)) (View T) = stepped s node (p + 1) id me.1 w keeps in (
        w,
        keeps,
        tt,
        subst (λ k. Rule (stepped s node k id me.1 w keeps)) (sym n_is) (
          after (Arm id node p onward) g0,
          arming.arms nodes s g0 r0 id v at node p onward drew small have t refl refl,
          armed_sides.arms_sides fits tag_of place_of nodes s g0 r0 p0 id v at node p onward drew small have one_side
              (λ k. ap (count k) free),
        ),
        (
          refl,
          refl,
          record {
            view = refl;
            one_step = subst (λ (z : ℕ × ℕ). OneStep (Option (Slot V K)) nodes node z.0 (p + 1) z.1 v w
                (Arm z.1 node p onward ∷ []) Done)
                (λ q. (arming.unarmed_word nodes s g0 r0 id v at node p onward drew small have q, sym by_me q))
                (steps_to nodes s g0 r0 id v at node (p + 1) id w (Arm id node p onward ∷ []) Done t refl refl refl
                (λ g r. (
                  (arming.legal nodes s g r id v at node p onward drew small have lower, tt),
                  refl,
                  arming.arms nodes s g r id v at node p onward drew small have t refl refl,
                )));
          },
        ),
      )

  arrives_one : (slots id actor node : ℕ) (me : Me (Option (Slot V K)) (View T)) → actor ≡ id → 0 < node
      → 0 < count node me.0.held → IsPlainAt node me.0
      → Allows (Rule) slots id me node (λ n. (n + (2 ^ 64 - 1)) % 2 ^ 64)
      (arrived nodes actor (step slots node 1 0 none) me)
  arrives_one slots id actor node me by_me pos have plain s (g0, r0, p0) _ at small =
      let v : View T = me.0 in
      let x : ℕ = get_or s.words node 0 in
      let some_owed : 0 < x = (let a = r0.counting.word node (arrivals.low nodes s g0 r0 id v at node have) in
      let b = arrivals.mine_there nodes s g0 r0 id v at node have in let c = held_left id (g0.arrivals node) in
      omega arith) in
      let n : ℕ = x - 1 in
      let less_one : n + 1 ≡ x = omega arith in
      let becomes : (x + (2 ^ 64 - 1)) % 2 ^ 64 ≡ n = one_less x some_owed small in
      let answers : (g : Graph) → (r : Shows nodes s g) → reply (Arrive id node) g ≡ reply_of_arrival n =
      λ g r. ap reply_of_arrival (sym (arrivals.fewer nodes s g r id v at node have n less_one)) in
      dite (ℕ_discrete x 1)
      (λ one.
      let w : View T = finished_view node (given_by_all node s.views) (sides_given_by_all node s.views) v in
      let none_left : n ≡ 0 = omega arith in
      let t : State (Option (Slot V K)) (View T) = stepped s node n id me.1 w keeps in
      let acts : arrival_actions id node x ≡ Arrive id node ∷ Run id node ∷ [] = cond_one x _ _ one in
      let shows : (g : Graph) → Shows nodes s g → Shows nodes t (after (Run id node) (after (Arrive id node) g)) =
      λ g r. arrivals.runs nodes s g r id v at node have pos (sym one) t (ap (set s.words node) none_left) refl in (
        w,
        keeps,
        tt,
        subst (λ k. Rule (stepped s node k id me.1 w keeps)) (sym becomes) (
          after (Run id node) (after (Arrive id node) g0),
          shows g0 r0,
          plain_sides.runs_sides fits tag_of place_of nodes s g0 r0 p0 id v at node have
              (plain_sides.is_plain fits tag_of place_of nodes s g0 r0 p0 id v at node have plain),
        ),
        (
          refl,
          refl,
          record {
            some_owed = some_owed;
            pending = λ more. absurd (more one);
            last = λ _. (
              given_by_all node s.views,
              sides_given_by_all node s.views,
              refl,
              (λ given e j. count-given_by_all node j s.views
                  ∙ sym ((r0.noting.noted id node given
                  (ap (λ (u : View T). note_of node u.noted) (mine s.views id v at) ∙ e)).1 j)),
              λ given e k. count-sides_given node k s.views
                  ∙ sym ((p0.noting.noted id node given
                  (ap (λ (u : View T). note_of node u.noted_sides) (mine s.views id v at) ∙ e)).1 k),
            );
            one_step = subst (λ a. OneStep (Option (Slot V K)) nodes node x n a v w (arrival_actions a node x)
                (reply_of_arrival n)) (sym by_me)
                (subst (λ l. OneStep (Option (Slot V K)) nodes node x n id v w l (reply_of_arrival n)) (sym acts)
                (steps_to nodes s g0 r0 id v at node n id w (Arrive id node ∷ Run id node ∷ []) (reply_of_arrival n) t
                refl refl refl
                (λ g r. (
                  (
                    arrivals.legal1 nodes s g r id v at node have pos,
                    (
                      arrivals.legal2 nodes s g r id v at node have pos
                          (let a = arrivals.fewer nodes s g r id v at node have n less_one in omega arith),
                      tt,
                    ),
                  ),
                  answers g r,
                  shows g r,
                ))));
          },
        ),
      ))
      (λ more.
      let w : View T = arrived_view node v in
      let some_left : 0 < n = omega arith in
      let t : State (Option (Slot V K)) (View T) = stepped s node n id me.1 w keeps in
      let acts : arrival_actions id node x ≡ Arrive id node ∷ [] = cond_more x _ _ more in
      let shows : (g : Graph) → Shows nodes s g → Shows nodes t (after (Arrive id node) g) =
      λ g r. arrivals.pends nodes s g r id v at node have n less_one t refl refl (λ _. some_left) in (
        w,
        keeps,
        tt,
        subst (λ k. Rule (stepped s node k id me.1 w keeps)) (sym becomes) (
          after (Arrive id node) g0,
          shows g0 r0,
          plain_sides.pends_sides fits tag_of place_of nodes s g0 r0 p0 id v at node have
              (plain_sides.is_plain fits tag_of place_of nodes s g0 r0 p0 id v at node have plain),
        ),
        (
          refl,
          refl,
          record {
            some_owed = some_owed;
            pending = λ _. refl;
            last = λ one. absurd (more one);
            one_step = subst (λ a. OneStep (Option (Slot V K)) nodes node x n a v w (arrival_actions a node x)
                (reply_of_arrival n)) (sym by_me)
                (subst (λ l. OneStep (Option (Slot V K)) nodes node x n id v w l (reply_of_arrival n)) (sym acts)
                (steps_to nodes s g0 r0 id v at node n id w (Arrive id node ∷ []) (reply_of_arrival n) t refl refl refl
                (λ g r. ((arrivals.legal1 nodes s g r id v at node have pos, tt), answers g r, shows g r))));
          },
        ),
      ))

  settles_one : (slots id actor : ℕ) (me : Me (Option (Slot V K)) (View T)) → actor ≡ id → 0 < count 0 me.0.held
      → Allows (Rule) slots id me 0 (λ n. (n + (2 ^ 64 - 1)) % 2 ^ 64) (settled nodes actor (step slots 0 1 0 none) me)
  settles_one slots id actor me by_me have s (g0, r0, p0) _ at small =
      let v : View T = me.0 in
      let x : ℕ = get_or s.words 0 0 in
      let some_owed : 0 < x = (let a = r0.counting.word 0 (omega arith) in
      let b = arrivals.mine_there nodes s g0 r0 id v at 0 have in let c = held_left id (g0.arrivals 0) in
      omega arith) in
      let n : ℕ = x - 1 in
      let less_one : n + 1 ≡ x = omega arith in
      let becomes : (x + (2 ^ 64 - 1)) % 2 ^ 64 ≡ n = one_less x some_owed small in
      let w : View T = arrived_view 0 v in
      let t : State (Option (Slot V K)) (View T) = stepped s 0 n id me.1 w keeps in
      let shows : (g : Graph) → Shows nodes s g → Shows nodes t (after (Settle id) g) =
      λ g r. arrivals.settles nodes s g r id v at 0 have n less_one refl t refl refl in (
        w,
        keeps,
        tt,
        subst (λ k. Rule (stepped s 0 k id me.1 w keeps)) (sym becomes) (
          after (Settle id) g0,
          shows g0 r0,
          plain_sides.pends_sides fits tag_of place_of nodes s g0 r0 p0 id v at 0 have
              (end_plain fits tag_of place_of nodes s g0 r0 p0),
        ),
        (
          refl,
          refl,
          record {
            view = refl;
            found = x;
            some_owed = some_owed;
            one_step = subst (λ a. OneStep (Option (Slot V K)) nodes 0 x n a v w (Settle a ∷ []) Done) (sym by_me)
                (steps_to nodes s g0 r0 id v at 0 n id w (Settle id ∷ []) Done t refl refl refl
                (λ g r. ((arrivals.mine_there nodes s g r id v at 0 have, tt), refl, shows g r)));
          },
        ),
      )

  adds_one : (slots id actor node d : ℕ) (me : Me (Option (Slot V K)) (View T)) → actor ≡ id → 0 < node
      → 0 < count node me.0.held → d ≤ me.0.credit → IsPlainAt node me.0
      → Allows (Rule) slots id me node (λ n. (n + d) % 2 ^ 64) (added nodes actor (step slots node d 0 none) me)
  adds_one slots id actor node d me by_me pos have pays plain s (g0, r0, p0) _ at _ =
      let v : View T = me.0 in
      let x : ℕ = get_or s.words node 0 in
      let w : View T = added_view node d v in
      let t : State (Option (Slot V K)) (View T) = stepped s node (x + d) id me.1 w keeps in
      let shows : (g : Graph) → Shows nodes s g → Shows nodes t (after (Add id node d) g) =
      λ g r. adding.adds nodes s g r id v at node d pos have pays t refl refl in (
        w,
        keeps,
        tt,
        subst (λ k. Rule (stepped s node k id me.1 w keeps))
            (sym (no_wrap x d (adding.no_wrap nodes s g0 r0 id v at node d pos have pays))) (
              after (Add id node d) g0,
              shows g0 r0,
              added_sides fits tag_of place_of nodes s g0 r0 p0 id v at node d
                  (plain_sides.is_plain fits tag_of place_of nodes s g0 r0 p0 id v at node have plain),
            ),
        (
          refl,
          refl,
          record {
            view = refl;
            found = x;
            one_step = subst (λ a. OneStep (Option (Slot V K)) nodes node x (x + d) a v w (Add a node d ∷ []) Done)
                (sym by_me)
                (steps_to nodes s g0 r0 id v at node (x + d) id w (Add id node d ∷ []) Done t refl refl refl
                (λ g r. ((adding.legal nodes s g r id v at node d pos have pays, tt), refl, shows g r)));
          },
        ),
      )

  looks_one : (slots id actor : ℕ) (me : Me (Option (Slot V K)) (View T)) → actor ≡ id
      → Allows (Rule) slots id me 0 (λ n. n) (looked nodes actor (step slots 0 0 0 none) me)
  looks_one slots id actor me by_me s (g0, r0, p0) _ at _ =
      let v : View T = me.0 in
      let x : ℕ = get_or s.words 0 0 in
      let w : View T = looked_view x v in
      let t : State (Option (Slot V K)) (View T) = stepped s 0 x id me.1 w keeps in
      let same : t.words ≡ s.words = set-get_or s.words 0 0 in
      let shows : (g : Graph) → Shows nodes s g → Shows nodes t g =
      λ g r. adding.looks nodes s g r id v at t same refl in
      let one : OneStep (Option (Slot V K)) nodes 0 x x actor v w [] Done =
      steps_to nodes s g0 r0 id v at 0 x actor w [] Done t by_me refl refl (λ g r. (tt, tt, shows g r)) in (
        w,
        keeps,
        tt,
        (
          g0,
          shows g0 r0,
          plain_sides.plain_stays fits tag_of place_of nodes s g0 r0 p0 id v at w g0.arrivals refl refl
              refl refl refl refl refl (λ i h. h) (λ i t e f. refl),
        ),
        (
          refl,
          refl,
          record {
            view = refl;
            enough = adding.enough nodes s g0 r0 id v at;
            one_step = one;
            all = λ g r. sym (r.counting.word 0 (omega arith)) ∙ one.found;
          },
        ),
      )

  splits_one : (id node k c : ℕ) (l : List ℕ) (v : View T) → k ≤ count node v.held → c ≤ v.credit
      → ((j : ℕ) → count j l ≤ count j v.sides) → v.taken ≡ [] → (k ≡ 0 → node ≡ 0) → SplitOff node k l v
      → Splits Rule id v (rest_view node k c l v) (part_view node k c l v)
  splits_one id node k c l v have pays within free end off s (g, r, p) at = (
    after (Give id (length s.views) node k) g,
    giving.parts nodes s g r id v at node k c l have pays,
    given_sides.parts_sides fits tag_of place_of nodes s g r p id v at node k c l have pays within
        (λ j. ap (count j) free) (split_off fits tag_of place_of nodes s g r p id v at node k l have end off),
  )

  joins_one : (id other : ℕ) (v u : View T) → ((i : ℕ) → count i u.claims ≡ 0) → u.taken ≡ []
      → Joins Rule id v other u (joined_view v u) blank
  joins_one id other v u spent free s (g, r, p) at apart at1 =
      let there' : get_elem? s.views other ≡ some u = sym (set_else s.views id other (joined_view v u) apart) ∙ at1 in (
        after_all (gives_all other id u.held nodes) g,
        joining.joins nodes s g r id other apart v u at there' spent,
        subst (λ h. Pairing fits tag_of place_of nodes s.homes (set (set s.views id (joined_view v u)) other blank)
            h.arrivals h.armed h.ran) (sym (joining.after_gives other id apart u.held nodes g))
            (given_sides.joins_sides fits tag_of place_of nodes s g r p id other apart v u at there' spent
            (λ j. ap (count j) free)),
      )

-- what a claim leaves as it was, if the key of the table has this number of nodes
module _ {V K T : Type 0} (fits : T → Side → V → Type 0) (tag_of : K → T) (place_of : K → Option (Place T))
    (key nodes : ℕ) (same_nodes : key ≡ nodes) where
  pub claims_allowed : (slots id actor i : ℕ) (me : Me (Option (Slot V K)) (View T)) → actor ≡ id → i ≡ nodes + 1
      → 0 < me.0.credit → Allows (Ruled fits tag_of place_of key) slots id me i (λ n. (n + 1) % 2 ^ 64)
      (claimed nodes actor (step slots i 1 0 none) me)
  claims_allowed slots id actor i me h1 h2 h3 =
      subst (λ k. Allows (Ruled fits tag_of place_of k) slots id me i (λ n. (n + 1) % 2 ^ 64)
      (claimed nodes actor (step slots i 1 0 none) me)) (sym same_nodes)
      (claims_one fits tag_of place_of nodes slots id actor i me h1 h2 h3)

  pub arms_allowed : (slots id actor node p n : ℕ) (onward : List ℕ) (me : Me (Option (Slot V K)) (View T)) → actor ≡ id
      → n ≡ p + 1 → 0 < count node me.0.claims → p < 4294967296 → ((i : ℕ) → count i onward ≤ count i me.0.held)
      → ((i : ℕ) → 0 < count i onward → i < node)
      → ((i : ℕ) → 0 < count i onward → count (left_slot i) me.0.sides + count (right_slot i) me.0.sides ≤ 1)
      → me.0.taken ≡ [] → Allows (Ruled fits tag_of place_of key) slots id me node (λ _. n)
      (λ _. armed nodes actor p onward (step slots node n 0 none) me n)
  arms_allowed slots id actor node p n onward me h1 h2 h3 h4 h5 h6 h7 h8 =
      subst (λ k. Allows (Ruled fits tag_of place_of k) slots id me node (λ _. n)
      (λ _. armed nodes actor p onward (step slots node n 0 none) me n)) (sym same_nodes)
      (arms_one fits tag_of place_of nodes slots id actor node p n onward me h1 h2 h3 h4 h5 h6 h7 h8)

  pub arrives_allowed : (slots id actor node : ℕ) (me : Me (Option (Slot V K)) (View T)) → actor ≡ id → 0 < node
      → 0 < count node me.0.held → IsPlainAt node me.0
      → Allows (Ruled fits tag_of place_of key) slots id me node (λ n. (n + (2 ^ 64 - 1)) % 2 ^ 64)
      (arrived nodes actor (step slots node 1 0 none) me)
  arrives_allowed slots id actor node me h1 h2 h3 h4 =
      subst (λ k. Allows (Ruled fits tag_of place_of k) slots id me node (λ n. (n + (2 ^ 64 - 1)) % 2 ^ 64)
      (arrived nodes actor (step slots node 1 0 none) me)) (sym same_nodes)
      (arrives_one fits tag_of place_of nodes slots id actor node me h1 h2 h3 h4)

  pub settles_allowed : (slots id actor : ℕ) (me : Me (Option (Slot V K)) (View T)) → actor ≡ id → 0 < count 0 me.0.held
      → Allows (Ruled fits tag_of place_of key) slots id me 0 (λ n. (n + (2 ^ 64 - 1)) % 2 ^ 64)
      (settled nodes actor (step slots 0 1 0 none) me)
  settles_allowed slots id actor me h1 h2 =
      subst (λ k. Allows (Ruled fits tag_of place_of k) slots id me 0 (λ n. (n + (2 ^ 64 - 1)) % 2 ^ 64)
      (settled nodes actor (step slots 0 1 0 none) me)) (sym same_nodes)
      (settles_one fits tag_of place_of nodes slots id actor me h1 h2)

  pub adds_allowed : (slots id actor node d : ℕ) (me : Me (Option (Slot V K)) (View T)) → actor ≡ id → 0 < node
      → 0 < count node me.0.held → d ≤ me.0.credit → IsPlainAt node me.0
      → Allows (Ruled fits tag_of place_of key) slots id me node (λ n. (n + d) % 2 ^ 64)
      (added nodes actor (step slots node d 0 none) me)
  adds_allowed slots id actor node d me h1 h2 h3 h4 h5 =
      subst (λ k. Allows (Ruled fits tag_of place_of k) slots id me node (λ n. (n + d) % 2 ^ 64)
      (added nodes actor (step slots node d 0 none) me)) (sym same_nodes)
      (adds_one fits tag_of place_of nodes slots id actor node d me h1 h2 h3 h4 h5)

  pub looks_allowed : (slots id actor : ℕ) (me : Me (Option (Slot V K)) (View T)) → actor ≡ id
      → Allows (Ruled fits tag_of place_of key) slots id me 0 (λ n. n) (looked nodes actor (step slots 0 0 0 none) me)
  looks_allowed slots id actor me h1 = subst
      (λ k. Allows (Ruled fits tag_of place_of k) slots id me 0 (λ n. n)
      (looked nodes actor (step slots 0 0 0 none) me)) (sym same_nodes)
      (looks_one fits tag_of place_of nodes slots id actor me h1)

  pub splits_allowed : (id node k c : ℕ) (l : List ℕ) (v : View T) → k ≤ count node v.held → c ≤ v.credit
      → ((j : ℕ) → count j l ≤ count j v.sides) → v.taken ≡ [] → (k ≡ 0 → node ≡ 0) → SplitOff node k l v
      → Splits (Ruled fits tag_of place_of key) id v (rest_view node k c l v) (part_view node k c l v)
  splits_allowed id node k c l v h1 h2 h3 h4 h5 h6 =
      subst (λ q. Splits (Ruled fits tag_of place_of q) id v (rest_view node k c l v) (part_view node k c l v))
      (sym same_nodes) (splits_one fits tag_of place_of nodes id node k c l v h1 h2 h3 h4 h5 h6)

  pub joins_allowed : (id other : ℕ) (v u : View T) → ((i : ℕ) → count i u.claims ≡ 0) → u.taken ≡ []
      → Joins (Ruled fits tag_of place_of key) id v other u (joined_view v u) blank
  joins_allowed id other v u h1 h2 = subst
      (λ k. Joins (Ruled fits tag_of place_of k) id v other u (joined_view v u) blank) (sym same_nodes)
      (joins_one fits tag_of place_of nodes id other v u h1 h2)

-- the nodes of a view, in a table of this many words
module _ {T : Type 0} (words nodes : ℕ) (sized : words ≡ nodes + 2) where
  pub ranged : (w : View T) → InRange nodes w → (n : ℕ) → words ≡ n + 2 → InRange n w
  ranged w low n e = let same : n ≡ nodes = omega arith in subst (λ k. InRange k w) (sym same) low

  pub in_table : (v : View T) → ((n : ℕ) → words ≡ n + 2 → InRange n v) → (node : ℕ)
      → 0 < count node v.held + count node v.claims → node < words
  in_table v low node have = let h = low nodes sized node have in omega arith
