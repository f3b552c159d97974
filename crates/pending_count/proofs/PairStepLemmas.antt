-- Each step at a pair keeps the rule, and says what it is to the graph.
use Rattle.std.proofs.Common.{◌≡◌, ◌≢◌, ℕ, ◌+◌, ◌-◌, ◌%◌, ◌<◌, ◌≤◌, eqb, cond, not, Bool, List, [], ◌∷◌, get_or, set}
use Rattle.std.proofs.Common.{sym, refl, ap, ◌∙◌, subst, arith, eq-eqb, ne_eqb, Option, Some, None, ◌⊎◌, inl, inr}
use mathlib.Core.Logic.{dite}
use mathlib.Core.Option.{none, some}
use native.Mathlib.Decide.{ℕ_discrete}
use lib.ListN.{get_elem?}
use Rattle.atomic_table.specs.Table.{State, Me, step, stepped, takes, gives, chain, rest, Allows, Splits}
use Rattle.atomic_table.proofs.Lists.{set_else}
use Rattle.completion_core.specs.Graph.{left, Graph}
use Rattle.completion_core.specs.Legal.{count}
use Rattle.pending_count.specs.declared.view.View.{View}
use Rattle.pending_count.specs.declared.place.Side.{Side}
use Rattle.pending_count.specs.declared.place.Side.TheVariants.{Left, Right, Whole}
use Rattle.pending_count.specs.declared.place.Place.{Place}
use Rattle.pending_count.specs.declared.place.Slot.{Slot}
use Rattle.pending_count.specs.declared.place.Slot.TheVariants.{Value, Kept as KeptValue}
use Rattle.pending_count.specs.Views.{left_slot, right_slot, kept_slot, side_at, sides_of, blank, note_of, given_by_all}
use Rattle.pending_count.specs.Views.{sides_given_by_all, taken_view, paired_view, handed_view, closed_view, armed_view}
use Rattle.pending_count.specs.Views.{arrived_view, finished_view}
use Rattle.pending_count.specs.Shows.{Shows}
use Rattle.pending_count.specs.Pairs.{side_slot, side_of, slot_of, noted_place, Pairing}
use Rattle.pending_count.proofs.SumLemmas.{one_at, total-append, at_here, at_else, some_is}
use Rattle.pending_count.proofs.RuleLemmas.{there, mine}
use Rattle.pending_count.proofs.SideRuleLemmas.{slot_not_kept}
use Rattle.pending_count.proofs.ChangedHandsLemmas.{count-sides_given}
use Rattle.std.proofs.Common.{◌^◌}
use Rattle.std.proofs.lemmas.List.{set-get_or}
use Rattle.completion_core.specs.declared.action.Action.TheVariants.{Arm, Arrive, Run}
use Rattle.completion_core.specs.declared.action.Reply.TheVariants.{Done}
use Rattle.completion_core.specs.Legal.{reply, reply_of_arrival, after}
use Rattle.pending_count.specs.Steps.{OneStep, IsTaken, arrival_actions}
use Rattle.pending_count.specs.Pairs.{Ruled, tags_after}
use Rattle.pending_count.specs.PairSteps.{IsPlaced}
use Rattle.pending_count.specs.Plays.{took, paired, handed}
use Rattle.pending_count.proofs.SumLemmas.{held_left}
use Rattle.pending_count.proofs.RecordLemmas.{count-given_by_all}
use Rattle.pending_count.proofs.StepLemmas.{steps_to, one_less, cond_one, cond_more}
use Rattle.pending_count.proofs.SameGraphLemmas.{Agrees, same_graph, same_graph_step}
use Rattle.pending_count.proofs.ArmLemmas as arming
use Rattle.pending_count.proofs.ArrivalLemmas as arrivals
use Rattle.pending_count.proofs.TakeSlotLemmas as taken_sides
use Rattle.pending_count.proofs.ArmPairLemmas as paired_sides
use Rattle.pending_count.proofs.ArriveWithLemmas as handed_sides
use Rattle.pending_count.proofs.MoveSeatLemmas as moved_sides

-- the kept value in the slot that was taken last
abbrev kept_in : {V K : Type 0} → K → Option (Slot V K) → K
kept_in d None = d
kept_in d (Some (Value x)) = d
kept_in d (Some (KeptValue k)) = k

abbrev kept_head : {V K : Type 0} → K → List (ℕ × Option (Slot V K)) → K
kept_head d [] = d
kept_head d (x ∷ xs) = kept_in d x.1

module _ {V K T : Type 0} (fits : T → Side → V → Type 0) (tag_of : K → T) (place_of : K → Option (Place T))
    (nodes : ℕ) where
  abbrev Rule : State (Option (Slot V K)) (View T) → Type 0
  Rule = Ruled fits tag_of place_of nodes

  agrees : (v : View T) (l : List ℕ) → Agrees v (record v { taken = l })
  agrees v l = record {
    credit = refl;
    added = refl;
    held = refl;
    claims = refl;
    armed = refl;
    noted = refl;
    seen = refl;
    none_left = refl;
  }

  -- views of pairs beside views of plain nodes, with a slot out
  agrees_paired : (node : ℕ) (onward : List ℕ) (tag : T) (place : Option (ℕ × (ℕ × (ℕ × T)))) (v : View T)
      → Agrees (armed_view node 1 onward (taken_view (kept_slot node) v)) (paired_view node onward tag place v)
  agrees_paired node onward tag place v =
      record {
        credit = refl;
        added = refl;
        held = refl;
        claims = refl;
        armed = refl;
        noted = refl;
        seen = refl;
        none_left = refl;
      }

  agrees_closed : (node slot : ℕ) (kept kept_sides : List ℕ) (tags : List (ℕ × T)) (v : View T)
      → Agrees (finished_view node kept kept_sides (taken_view slot v)) (closed_view node slot kept kept_sides tags v)
  agrees_closed node slot kept kept_sides tags v =
      record {
        credit = refl;
        added = refl;
        held = refl;
        claims = refl;
        armed = refl;
        noted = refl;
        seen = refl;
        none_left = refl;
      }

  agrees_handed : (node slot : ℕ) (v : View T)
      → Agrees (arrived_view node (taken_view slot v)) (handed_view node slot v)
  agrees_handed node slot v = record {
    credit = refl;
    added = refl;
    held = refl;
    claims = refl;
    armed = refl;
    noted = refl;
    seen = refl;
    none_left = refl;
  }

  -- a load by which an empty slot is taken
  takes_one : (slots id actor i t : ℕ) (me : Me (Option (Slot V K)) (View T)) → actor ≡ id
      → ((s : State (Option (Slot V K)) (View T)) (g : Graph) → Shows nodes s g
      → Pairing fits tag_of place_of nodes s.homes s.views g.arrivals g.armed g.ran → get_elem? s.views id ≡ some me.0
      → (get_elem? s.homes t ≡ some (some None))
      × Pairing fits tag_of place_of nodes (set s.homes t none) (set s.views id (taken_view t me.0)) g.arrivals
      g.armed g.ran)
      → Allows Rule slots id me i (λ n. n) (took nodes actor t (step slots i 0 0 none) me)
  takes_one slots id actor i t me by_me can s (g0, r0, p0) _ at _ =
      let v : View T = me.0 in
      let x : ℕ = get_or s.words i 0 in
      let w : View T = taken_view t v in
      let later : State (Option (Slot V K)) (View T) = stepped s i x id me.1 w (takes t None) in
      let shows : (g : Graph) → Shows nodes s g → Shows nodes later g =
      λ g r. subst (λ ws. Shows nodes (record { words = ws; homes = set s.homes t none; views = set s.views id w })
      g) (sym (set-get_or s.words i 0))
      (same_graph nodes s.words g id s.views s.homes (set s.homes t none) v w at (agrees v (t ∷ v.taken)) r) in
      let c = can s g0 r0 p0 at in (
        w,
        takes t None,
        c.0,
        (g0, shows g0 r0, c.1),
        (
          record {
            view = refl;
            found = x;
            one_step = steps_to nodes s g0 r0 id v at i x actor w [] Done later by_me refl refl
                (λ g r. (tt, tt, shows g r));
          },
          refl,
        ),
      )

  takes_side_one : (slots id actor i node : ℕ) (b : Bool) (me : Me (Option (Slot V K)) (View T)) → actor ≡ id
      → me.0.taken ≡ [] → 0 < count (side_slot node b) me.0.sides
      → Allows Rule slots id me i (λ n. n) (took nodes actor (side_slot node b) (step slots i 0 0 none) me)
  takes_side_one slots id actor i node b me by_me free holds =
      takes_one slots id actor i (side_slot node b) me by_me
      (λ s g r p at. (
        taken_sides.side_home fits tag_of place_of nodes s g r p id me.0 at free node b holds,
        taken_sides.takes_side fits tag_of place_of nodes s g r p id me.0 at free node b holds,
      ))

  takes_kept_one : (slots id actor i node : ℕ) (me : Me (Option (Slot V K)) (View T)) → actor ≡ id → me.0.taken ≡ []
      → 0 < count node me.0.claims → Allows Rule slots id me i (λ n. n)
      (took nodes actor (kept_slot node) (step slots i 0 0 none) me)
  takes_kept_one slots id actor i node me by_me free drew =
      takes_one slots id actor i (kept_slot node) me by_me
      (λ s g r p at. (
        taken_sides.kept_home fits tag_of place_of nodes s g r p id me.0 at free node drew,
        taken_sides.takes_kept fits tag_of place_of nodes s g r p id me.0 at free node drew,
      ))

  -- what is asked of a kept value that has a place
  abbrev pub PlaceHeld : K → List ℕ → View T → Type 0
  PlaceHeld kept onward v = (pl : Place T) → place_of kept ≡ Some pl
      → (onward ≡ pl.node ∷ []) × ((j : ℕ) → count j (sides_of onward v.sides) ≡ count j (slot_of pl.node pl.side ∷ []))
      × (note_of pl.node v.tags ≡ Some pl.tag)

  module _ (slots id actor node : ℕ) (onward : List ℕ) (v : View T) (kept : K) (carried : List (ℕ × Option (Slot V K)))
      (by_me : actor ≡ id) (free : v.taken ≡ []) (drew : 0 < count node v.claims)
      (have : (i : ℕ) → count i onward ≤ count i v.held) (lower : (i : ℕ) → 0 < count i onward → i < node)
      (one_side : (i : ℕ) → 0 < count i onward → count (left_slot i) v.sides + count (right_slot i) v.sides ≤ 1)
      (placed : PlaceHeld kept onward v) where
    abbrev u : View T
    u = taken_view (kept_slot node) v

    abbrev mine' : Me (Option (Slot V K)) (View T)
    mine' = (u, (kept_slot node, Some (KeptValue kept)) ∷ carried)

    abbrev w : View T
    w = paired_view node onward (tag_of kept) (noted_place (place_of kept)) v

    pairs_here : Allows Rule slots id mine' node (λ _. 2)
        (λ _. paired fits tag_of place_of nodes actor onward (step slots node 2 0 none) mine' 2)
    pairs_here s (g0, r0, p0) _ at _ =
        let small : 1 < 4294967296 = omega arith in
        let out : u.taken ≡ kept_slot node ∷ [] = ap (λ l. kept_slot node ∷ l) free in
        let t : State (Option (Slot V K)) (View T) = stepped s node 2 id mine'.1 w gives in
        let shows : (g : Graph) → Shows nodes s g → Shows nodes t (after (Arm id node 1 onward) g) =
        λ g r. same_graph_step nodes (set s.words node 2) (after (Arm id node 1 onward) g) id s.views s.homes
        t.homes (armed_view node 1 onward u) w (there s.views id u at)
        (agrees_paired node onward (tag_of kept) (noted_place (place_of kept)) v)
        (arming.arms nodes s g r id u at node 1 onward drew small have
        (record {
          words = set s.words node 2;
          homes = s.homes;
          views = set s.views id (armed_view node 1 onward u);
        }) refl refl) in (
          w,
          gives,
          tt,
          (
            after (Arm id node 1 onward) g0,
            shows g0 r0,
            paired_sides.pairs_sides fits tag_of place_of nodes s g0 r0 p0 id u at node onward drew small have
                one_side out kept lower placed,
          ),
          λ v' k same loaded.
              let is : kept ≡ k = ap (kept_head kept) loaded in
              record {
                view = (λ q. paired_view node onward (tag_of (is q)) (noted_place (place_of (is q))) (same q));
                one_step = subst (λ y. OneStep (Option (Slot V K)) nodes node 0 2 actor y w
                    (Arm actor node 1 onward ∷ []) Done) same
                    (subst (λ (z : ℕ × ℕ). OneStep (Option (Slot V K)) nodes node z.0 2 z.1 u w
                    (Arm z.1 node 1 onward ∷ []) Done)
                    (λ q. (arming.unarmed_word nodes s g0 r0 id u at node 1 onward drew small have q, sym by_me q))
                    (steps_to nodes s g0 r0 id u at node 2 id w (Arm id node 1 onward ∷ []) Done t refl refl refl
                    (λ g r. (
                      (arming.legal nodes s g r id u at node 1 onward drew small have lower, tt),
                      refl,
                      shows g r,
                    ))));
              },
        )

  module _ (slots id actor node : ℕ) (b : Bool) (v : View T) (x : V) (tg : T) (carried : List (ℕ × Option (Slot V K)))
      (by_me : actor ≡ id) (free : v.taken ≡ []) (have : 0 < count node v.held)
      (holds : 0 < count (side_slot node b) v.sides) (known : note_of node v.tags ≡ Some tg)
      (ok : fits tg (side_of b) x) where
    abbrev h : View T
    h = taken_view (side_slot node b) v

    abbrev hand : Me (Option (Slot V K)) (View T)
    hand = (h, (side_slot node b, Some (Value x)) ∷ carried)

    -- the tags that the seat knows after the last arrival are the tags of their nodes
    known_after : (tag : ℕ → Option T) (place : Option (Place T)) (tags : List (ℕ × T))
        → ((i : ℕ) (c : T) → note_of i tags ≡ Some c → tag i ≡ Some c)
        → ((pl : Place T) → place ≡ Some pl → tag pl.node ≡ Some pl.tag)
        → (i : ℕ) (c : T) → note_of i (tags_after place tags) ≡ Some c → tag i ≡ Some c
    known_after tag None tags before holds i c e = before i c e
    known_after tag (Some pl) tags before holds i c e = dite (ℕ_discrete pl.node i)
        (λ q. ap tag (sym q) ∙ holds pl refl
        ∙ sym (ap (λ y. cond y (Some pl.tag) (note_of i tags)) (eq-eqb pl.node i q)) ∙ e)
        (λ m. before i c (sym (ap (λ y. cond y (Some pl.tag) (note_of i tags)) (ne_eqb pl.node i m)) ∙ e))

    hands_here : Allows Rule slots id hand node (λ n. (n + (2 ^ 64 - 1)) % 2 ^ 64)
        (handed fits tag_of place_of nodes actor b (step slots node 1 0 none) hand)
    hands_here s (g0, r0, p0) _ at small =
        let n0 : ℕ = get_or s.words node 0 in
        let some_owed : 0 < n0 = (let a = r0.counting.word node (arrivals.low nodes s g0 r0 id h at node have) in
        let c = arrivals.mine_there nodes s g0 r0 id h at node have in let d = held_left id (g0.arrivals node) in
        omega arith) in
        let n : ℕ = n0 - 1 in
        let less_one : n + 1 ≡ n0 = omega arith in
        let becomes : (n0 + (2 ^ 64 - 1)) % 2 ^ 64 ≡ n = one_less n0 some_owed small in
        let out : h.taken ≡ side_slot node b ∷ [] = ap (λ l. side_slot node b ∷ l) free in
        let tagged : p0.tag node ≡ Some tg =
        p0.noting.tags id node tg (ap (λ (u : View T). note_of node u.tags) (mine s.views id h at) ∙ known) in
        let pos : 0 < node = (handed_sides.above fits tag_of place_of nodes s g0 r0 p0 id h at node b have holds out tg
        tagged).0 in
        let answers : (g : Graph) → (r : Shows nodes s g) → reply (Arrive id node) g ≡ reply_of_arrival n =
        λ g r. ap reply_of_arrival (sym (arrivals.fewer nodes s g r id h at node have n less_one)) in
        dite (ℕ_discrete n0 1)
        (λ one.
        let none_left : n ≡ 0 = omega arith in
        let gone : left (arrivals.arr1 nodes s g0 r0 id h at node have node) ≡ 0 =
        (let a = arrivals.fewer nodes s g0 r0 id h at node have n less_one in omega arith) in
        let y = handed_sides.other_value fits tag_of place_of nodes s g0 r0 p0 id h at node b have holds out tg tagged
        gone in
        let k = handed_sides.kept_value fits tag_of place_of nodes s g0 r0 p0 id h at node b have holds out tg tagged
        gone in
        let kept : List ℕ = given_by_all node s.views in
        let kept_sides : List ℕ = sides_given_by_all node s.views in
        let tags : List (ℕ × T) = tags_after (place_of k.0) v.tags in
        let w : View T = closed_view node (side_slot node b) kept kept_sides tags v in
        let act = chain (takes (side_slot node (not b)) (Some (Value y.0)))
        (takes (kept_slot node) (Some (KeptValue k.0))) in
        let t : State (Option (Slot V K)) (View T) = stepped s node n id hand.1 w act in
        let acts : arrival_actions id node n0 ≡ Arrive id node ∷ Run id node ∷ [] = cond_one n0 _ _ one in
        let shows : (g : Graph) → Shows nodes s g → Shows nodes t (after (Run id node) (after (Arrive id node) g)) =
        λ g r. same_graph_step nodes (set s.words node n) (after (Run id node) (after (Arrive id node) g)) id
        s.views s.homes t.homes (finished_view node kept kept_sides h) w (there s.views id h at)
        (agrees_closed node (side_slot node b) kept kept_sides tags v)
        (arrivals.runs nodes s g r id h at node have pos (sym one)
        (record {
          words = set s.words node n;
          homes = s.homes;
          views = set s.views id (finished_view node kept kept_sides h);
        }) (ap (set s.words node) none_left) refl) in (
          w,
          act,
          (
            y.1,
            set_else s.homes (side_slot node (not b)) (kept_slot node) none
                (λ e. slot_not_kept node node (not b) (sym e)) ∙ k.1,
          ),
          subst (λ q. Rule (stepped s node q id hand.1 w act)) (sym becomes) (
            after (Run id node) (after (Arrive id node) g0),
            shows g0 r0,
            handed_sides.closes_side fits tag_of place_of nodes s g0 r0 p0 id h at node b have holds out tg tagged gone
                tags
                (known_after p0.tag (place_of k.0) v.tags
                (λ i c e. p0.noting.tags id i c (ap (λ (u : View T). note_of i u.tags) (mine s.views id h at) ∙ e))
                (λ pl e. (k.3 pl e).0)),
          ),
          λ v' same. (
            record {
              some_owed = some_owed;
              pending = λ more. absurd (more one);
              one_step = subst (λ z. OneStep (Option (Slot V K)) nodes node n0 n actor z w
                  (arrival_actions actor node n0) (reply_of_arrival n)) same
                  (subst (λ a. OneStep (Option (Slot V K)) nodes node n0 n a h w (arrival_actions a node n0)
                  (reply_of_arrival n)) (sym by_me)
                  (subst (λ l. OneStep (Option (Slot V K)) nodes node n0 n id h w l (reply_of_arrival n)) (sym acts)
                  (steps_to nodes s g0 r0 id h at node n id w (Arrive id node ∷ Run id node ∷ []) (reply_of_arrival n) t
                  refl refl refl
                  (λ g r. (
                    (
                      arrivals.legal1 nodes s g r id h at node have pos,
                      (
                        arrivals.legal2 nodes s g r id h at node have pos
                            (let a = arrivals.fewer nodes s g r id h at node have n less_one in omega arith),
                        tt,
                      ),
                    ),
                    answers g r,
                    shows g r,
                  )))));
            },
            λ _. record {
              value = y.0;
              kept_value = k.0;
              kept = kept;
              kept_sides = kept_sides;
              view = (λ q. closed_view node (side_slot node b) kept kept_sides (tags_after (place_of k.0) (same q).tags)
                  (same q));
              slots = refl;
              fit = λ tag e.
                  let is : tg ≡ tag = some_is tg tag
                  (sym known ∙ ap (λ (u : View T). note_of node u.tags) same ∙ e) in (
                    subst (λ c. fits c (side_of (not b)) y.0) is y.2,
                    record {
                      same_tag = k.2 ∙ is;
                      place = λ pl z. (
                        (λ j. count-given_by_all node j s.views ∙ (k.3 pl z).1 j),
                        λ j. count-sides_given node j s.views ∙ (k.3 pl z).2 j,
                      );
                      smaller = λ pl z. (k.3 pl z).3;
                      agrees = λ pl z t e. some_is t pl.tag
                          (sym (p0.noting.tags id pl.node t
                          (ap (λ (u : View T). note_of pl.node u.tags) (mine s.views id h at ∙ same) ∙ e))
                          ∙ (k.3 pl z).0);
                      armed_with = λ q z. k.4 id q
                          (ap (λ (u : View T). note_of node u.places) (mine s.views id h at ∙ same) ∙ z);
                      noted = λ given z j. count-given_by_all node j s.views
                          ∙ sym ((r0.noting.noted id node given
                          (ap (λ (u : View T). note_of node u.noted) (mine s.views id h at ∙ same) ∙ z)).1 j);
                      noted_sides = λ given z j. count-sides_given node j s.views
                          ∙ sym ((p0.noting.noted id node given
                          (ap (λ (u : View T). note_of node u.noted_sides) (mine s.views id h at ∙ same) ∙ z)).1 j);
                    },
                  );
            },
          ),
        ))
        (λ more.
        let w : View T = handed_view node (side_slot node b) v in
        let some_left : 0 < n = omega arith in
        let t : State (Option (Slot V K)) (View T) = stepped s node n id hand.1 w gives in
        let acts : arrival_actions id node n0 ≡ Arrive id node ∷ [] = cond_more n0 _ _ more in
        let shows : (g : Graph) → Shows nodes s g → Shows nodes t (after (Arrive id node) g) =
        λ g r. same_graph_step nodes (set s.words node n) (after (Arrive id node) g) id s.views s.homes t.homes
        (arrived_view node h) w (there s.views id h at)
        (agrees_handed node (side_slot node b) v)
        (arrivals.pends nodes s g r id h at node have n less_one
        (record { words = set s.words node n; homes = s.homes; views = set s.views id (arrived_view node h) }) refl
        refl (λ _. some_left)) in (
          w,
          gives,
          tt,
          subst (λ k. Rule (stepped s node k id hand.1 w gives)) (sym becomes) (
            after (Arrive id node) g0,
            shows g0 r0,
            handed_sides.gives_side fits tag_of place_of nodes s g0 r0 p0 id h at node b have holds out tg tagged x
                ok,
          ),
          λ v' same. (
            record {
              some_owed = some_owed;
              pending = λ _. ap (λ u. handed_view node (side_slot node b) u) same;
              one_step = subst (λ y. OneStep (Option (Slot V K)) nodes node n0 n actor y w
                  (arrival_actions actor node n0) (reply_of_arrival n)) same
                  (subst (λ a. OneStep (Option (Slot V K)) nodes node n0 n a h w (arrival_actions a node n0)
                  (reply_of_arrival n)) (sym by_me)
                  (subst (λ l. OneStep (Option (Slot V K)) nodes node n0 n id h w l (reply_of_arrival n)) (sym acts)
                  (steps_to nodes s g0 r0 id h at node n id w (Arrive id node ∷ []) (reply_of_arrival n) t refl refl
                  refl
                  (λ g r. ((arrivals.legal1 nodes s g r id h at node have pos, tt), answers g r, shows g r)))));
            },
            λ one. absurd (more one),
          ),
        ))

  -- all that a seat holds goes to a new one
  moves_one : (id : ℕ) (v : View T) → ((i : ℕ) → count i v.claims ≡ 0) → v.taken ≡ [] → Splits Rule id v blank v
  moves_one id v spent free s (g, r, p) at = (
    record g {
      arrivals = moved_sides.arr fits tag_of place_of nodes s g r p id v at spent
          (λ j. ap (count j) free);
    },
    moved_sides.moves fits tag_of place_of nodes s g r p id v at spent
        (λ j. ap (count j) free),
    moved_sides.moves_sides fits tag_of place_of nodes s g r p id v at spent
        (λ j. ap (count j) free),
  )

-- the load at which a slot was taken, by the names that the call has for nodes, actor and slot
pub taken_at : {S T : Type 0} (nodes nodes' actor actor' node slot slot' : ℕ) (v w : View T) → nodes ≡ nodes'
    → actor ≡ actor' → slot ≡ slot' → IsTaken S nodes actor node slot v w
    → IsTaken S nodes' actor' node slot' v (taken_view slot' v)
taken_at {S = S} {T = T} nodes nodes' actor actor' node slot slot' v w e f h t =
    subst (λ (z : ℕ × (ℕ × (ℕ × View T))). IsTaken S z.0 z.1.0 node z.1.1.0 v z.1.1.1)
    (λ q. (e q, (f q, (h q, (t.view ∙ ap (λ s. taken_view s v) h) q)))) t

-- the load at which a slot was taken, if the key of the table has this number of nodes
module _ {V K T : Type 0} (fits : T → Side → V → Type 0) (tag_of : K → T) (place_of : K → Option (Place T))
    (key nodes : ℕ) (same_nodes : key ≡ nodes) where
  pub moves_allowed : (id : ℕ) (v : View T) → ((i : ℕ) → count i v.claims ≡ 0) → v.taken ≡ []
      → Splits (Ruled fits tag_of place_of key) id v blank v
  moves_allowed id v spent free = subst (λ n. Splits (Ruled fits tag_of place_of n) id v blank v) (sym same_nodes)
      (moves_one fits tag_of place_of nodes id v spent free)

  pub takes_kept_allowed : (slots id actor i node slot : ℕ) (me : Me (Option (Slot V K)) (View T)) → actor ≡ id
      → slot ≡ kept_slot node → me.0.taken ≡ [] → 0 < count node me.0.claims
      → Allows (Ruled fits tag_of place_of key) slots id me i (λ n. n)
      (took nodes actor slot (step slots i 0 0 none) me)
  takes_kept_allowed slots id actor i node slot me by_me is free drew =
      subst (λ (z : ℕ × ℕ). Allows (Ruled fits tag_of place_of z.0) slots id me i (λ n. n)
      (took nodes actor z.1 (step slots i 0 0 none) me)) (λ q. (sym same_nodes q, sym is q))
      (takes_kept_one fits tag_of place_of nodes slots id actor i node me by_me free drew)

  pub takes_side_allowed : (slots id actor i node : ℕ) (b : Bool) (slot : ℕ) (me : Me (Option (Slot V K)) (View T))
      → actor ≡ id → slot ≡ side_slot node b → me.0.taken ≡ [] → 0 < count (side_slot node b) me.0.sides
      → Allows (Ruled fits tag_of place_of key) slots id me i (λ n. n)
      (took nodes actor slot (step slots i 0 0 none) me)
  takes_side_allowed slots id actor i node b slot me by_me is free holds =
      subst (λ (z : ℕ × ℕ). Allows (Ruled fits tag_of place_of z.0) slots id me i (λ n. n)
      (took nodes actor z.1 (step slots i 0 0 none) me)) (λ q. (sym same_nodes q, sym is q))
      (takes_side_one fits tag_of place_of nodes slots id actor i node b me by_me free holds)

  pub pairs_allowed : (slots id actor node : ℕ) (onward : List ℕ) (v : View T) (kept : K)
      (carried : List (ℕ × Option (Slot V K))) (me : Me (Option (Slot V K)) (View T))
      → me ≡ (taken_view (kept_slot node) v, (kept_slot node, Some (KeptValue kept)) ∷ carried) → actor ≡ id
      → v.taken ≡ [] → 0 < count node v.claims → ((i : ℕ) → count i onward ≤ count i v.held)
      → ((i : ℕ) → 0 < count i onward → i < node)
      → ((i : ℕ) → 0 < count i onward → count (left_slot i) v.sides + count (right_slot i) v.sides ≤ 1)
      → PlaceHeld fits tag_of place_of nodes kept onward v
      → Allows (Ruled fits tag_of place_of key) slots id me node (λ _. 2)
      (λ _. paired fits tag_of place_of nodes actor onward (step slots node 2 0 none) me 2)
  pairs_allowed slots id actor node onward v kept carried me is by_me free drew have lower one_side placed =
      subst (λ (z : ℕ × Me (Option (Slot V K)) (View T)). Allows (Ruled fits tag_of place_of z.0) slots id z.1 node
      (λ _. 2) (λ _. paired fits tag_of place_of nodes actor onward (step slots node 2 0 none) z.1 2))
      (λ q. (sym same_nodes q, sym is q))
      (pairs_here fits tag_of place_of nodes slots id actor node onward v kept carried by_me free drew have lower
      one_side placed)

  pub hands_allowed : (slots id actor node : ℕ) (b : Bool) (v : View T) (x : V) (tg : T)
      (carried : List (ℕ × Option (Slot V K))) (me : Me (Option (Slot V K)) (View T))
      → me ≡ (taken_view (side_slot node b) v, (side_slot node b, Some (Value x)) ∷ carried) → actor ≡ id → v.taken ≡ []
      → 0 < count node v.held → 0 < count (side_slot node b) v.sides → note_of node v.tags ≡ Some tg
      → fits tg (side_of b) x
      → Allows (Ruled fits tag_of place_of key) slots id me node (λ n. (n + (2 ^ 64 - 1)) % 2 ^ 64)
      (handed fits tag_of place_of nodes actor b (step slots node 1 0 none) me)
  hands_allowed slots id actor node b v x tg carried me is by_me free have holds known ok =
      subst (λ (z : ℕ × Me (Option (Slot V K)) (View T)). Allows (Ruled fits tag_of place_of z.0) slots id z.1 node
      (λ n. (n + (2 ^ 64 - 1)) % 2 ^ 64) (handed fits tag_of place_of nodes actor b (step slots node 1 0 none) z.1))
      (λ q. (sym same_nodes q, sym is q))
      (hands_here fits tag_of place_of nodes slots id actor node b v x tg carried by_me free have holds known ok)

  -- a place whose side the seat holds, alone of its node
  pub place_held : (kept : K) (onward : List ℕ) (v : View T)
      → ((i : ℕ) → 0 < count i onward → count (left_slot i) v.sides + count (right_slot i) v.sides ≤ 1)
      → IsPlaced place_of kept onward v → PlaceHeld fits tag_of place_of nodes kept onward v
  place_held kept onward v one_side placed pl e =
      let h = placed pl e in
      let one : count (left_slot pl.node) v.sides + count (right_slot pl.node) v.sides ≤ 1 =
      one_side pl.node (let a = ap (count pl.node) h.0 in let b = at_here pl.node in omega arith) in (
        h.0,
        (λ j. ap (λ l. count j (sides_of l v.sides)) h.0
            ∙ (let a = total-append (one_at j) (side_at pl.node v.sides) [] in omega arith)
            ∙ ap (count j) (stands pl.node pl.side v.sides one h.1.0 h.1.1)),
        h.2,
      )
    where
      stands : (n : ℕ) (side : Side) (sides : List ℕ) → count (left_slot n) sides + count (right_slot n) sides ≤ 1
          → 0 < count (slot_of n side) sides → side ≢ Whole → side_at n sides ≡ slot_of n side ∷ []
      stands n Left sides one has w = ap
          (λ b. cond b (cond (eqb (count (right_slot n) sides) 0) [] (right_slot n ∷ [])) (left_slot n ∷ []))
          (ne_eqb (count (left_slot n) sides) 0 (λ e. absurd (omega arith)))
      stands n Right sides one has w = ap
          (λ b. cond b (cond (eqb (count (right_slot n) sides) 0) [] (right_slot n ∷ [])) (left_slot n ∷ []))
          (eq-eqb (count (left_slot n) sides) 0 (omega arith))
          ∙ ap (λ b. cond b [] (right_slot n ∷ [])) (ne_eqb (count (right_slot n) sides) 0 (λ e. absurd (omega arith)))
      stands n Whole sides one has w = absurd (w refl)

-- a token's slots and view once a slot was taken and filled
module _ {S T : Type 0} where
  pub filled : (slot slot' : ℕ) (m0 m1 m2 : Me (Option S) (View T)) (x : Option S) → slot ≡ slot'
      → m1.0 ≡ taken_view slot m0.0 → m2 ≡ (m1.0, (slot', x) ∷ rest m1.1)
      → m2 ≡ (taken_view slot' m0.0, (slot', x) ∷ rest m1.1)
  filled slot slot' m0 m1 m2 x is taken e =
      e ∙ (λ q. ((taken ∙ ap (λ k. taken_view k m0.0) is) q, (slot', x) ∷ rest m1.1))

  pub head_form : (slot : ℕ) (x : Option S) (m : Me (Option S) (View T)) (u : View T) (l : List (ℕ × Option S))
      → m ≡ (u, (slot, x) ∷ l) → m.1 ≡ (slot, x) ∷ rest m.1
  head_form slot x m u l e = ap (λ (m : Me (Option S) (View T)). m.1) e
      ∙ ap (λ k. (slot, x) ∷ k) (sym (ap (λ (m : Me (Option S) (View T)). rest m.1) e))

-- a slot that stands in a list, alone, stands there no oftener than there
pub side_within : (slot : ℕ) (sides : List ℕ) → 0 < count slot sides → (j : ℕ) → count j (slot ∷ []) ≤ count j sides
side_within slot sides have j = dite (ℕ_discrete j slot)
    (λ e. subst (λ k. count k (slot ∷ []) ≤ count k sides) (sym e) (let a = at_here slot in omega arith))
    (λ n. let a = at_else j slot (λ e. n (sym e)) in omega arith)

pub side_off : (n : ℕ) (side : Side) → side ≢ Whole
    → (slot_of n side ∷ [] ≡ left_slot n ∷ []) ⊎ (slot_of n side ∷ [] ≡ right_slot n ∷ [])
side_off n Left w = inl refl
side_off n Right w = inr refl
side_off n Whole w = absurd (w refl)
