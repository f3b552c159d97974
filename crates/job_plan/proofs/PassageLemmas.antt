-- What goes on from a slice in the middle of a walk.
use Rattle.std.proofs.Common.{◌≡◌, ℕ, List, [], ◌++◌, take, drop, Some, Result, Ok, Err, IfOk, refl, sym, ap, subst}
use Rattle.std.proofs.Common.{◌∙◌, append_assoc, None}
use Rattle.std.proofs.lemmas.List.{append-nil, take-append-drop}
use Rattle.lambda_values.specs.Earlier.{Numbers}
use Rattle.lambda_values.specs.declared.item.Item.{Item}
use Rattle.trace.specs.declared.item.Fault.{Fault}
use Rattle.trace.specs.declared.item.End.{End}
use Rattle.trace.specs.declared.item.End.TheVariants as end
use Rattle.trace.specs.declared.feeding.Fed.{Fed}
use Rattle.trace.specs.declared.feeding.Fed.TheVariants as fed
use Rattle.trace.specs.declared.sink.Flow.{Flow}
use Rattle.trace.specs.declared.sink.Flow.TheVariants as flow
use Rattle.trace.specs.Sinks.{IsFed, flow_after}
use Rattle.trace.specs.Trace.{Trace, trace, nothing, append}
use Rattle.trace.proofs.JoinLemmas.{append_faulted, append_grouped, pipe_append, pipe_ended, pipe_more}
use Rattle.slice_ops.specs.Slices.{AbstractSlice, sliced}
use Rattle.job_plan.specs.declared.link_sink.Passage.{Passage}
use Rattle.job_plan.specs.declared.link_sink.Passage.TheVariants as passage
use Rattle.job_plan.specs.Passages.{AbstractJunction, EndsAs, HasPassedTo, IsAfter, fed_by, onward, passage_flow}
use Rattle.job_plan.specs.Passages.{through_link}
use Rattle.job_routes.specs.Legs.{AbstractSegment, walk_of, AbstractEnd, last_stage}
use Rattle.job_plan.proofs.WalkLemmas.{enough_at_last, taken_none, piece_in_two, stands_more, stands_fault}
use Rattle.job_plan.proofs.WalkLemmas.{stands_enough}
use Rattle.job_plan.specs.declared.part.Part.{Part}
use Rattle.job_plan.specs.Parts.{EndsFor, GoesOnFrom, HasTaken, StandsFor}
use Rattle.prefix_walks.specs.Pieces.{elements}
use Rattle.prefix_walks.proofs.ScanLemmas.{whole_piece}

-- all items were taken
pub answered : {T : Type 0} (has : T → List Item → Type 0) (t : T) (xs items : List Item) (p : Passage)
    → has t (xs ++ items) → IsFed has xs (trace items end.Done) (Ok (fed_by p)) t
answered has t xs items passage.Open took = (took, refl)
answered has t xs items passage.Enough took = enough_at_last (has t) xs items took
answered has t xs items (passage.Ended e) took = enough_at_last (has t) xs items took
answered has t xs items passage.Refused took = enough_at_last (has t) xs items took

pub if_ok_map : {A E : Type 0} (P Q : A → Type 0) (r : Result A E) → ((a : A) → P a → Q a) → IfOk r P → IfOk r Q
if_ok_map P Q (Ok a) f h = f a h
if_ok_map P Q (Err e) f h = h

pub if_ok_both : {A E : Type 0} (P Q R : A → Type 0) (r : Result A E) → ((a : A) → P a → Q a → R a) → IfOk r P
    → IfOk r Q → IfOk r R
if_ok_both P Q R (Ok a) f p q = f a p q
if_ok_both P Q R (Err e) f p q = p

module _ {S : Type 0} (h : S → List Item → Type 0) (f : S → Flow) (begun : AbstractSlice)
    (j : AbstractJunction) where
  abbrev Passed : AbstractSlice → Passage → S → List Item → Type 0
  Passed = HasPassedTo h f begun j

  -- before any item
  passed_none : (s : S) → h s [] → Passed begun passage.Open s []
  passed_none s took = ([], took, λ later. refl)

  closed_none : (s : S) → h s [] → ((m : ℕ) (e : Numbers) (later : Trace) → sliced begun m e later ≡ nothing)
      → Passed begun (passage.Ended end.Done) s []
  closed_none s took closed = (
    [],
    took,
    λ later. ap (walk_of j.next j.env) (closed j.stage j.env later)
        ∙ pipe_ended j.next.first j.next.stages j.env end.Done,
  )

  pub passed_first : (p : Passage) (s : S) → h s [] → IsAfter fed.More end.Done begun p → Passed begun p s []
  passed_first passage.Open s took next = passed_none s took
  passed_first passage.Enough s took next = absurd next
  passed_first (passage.Ended e) s took next =
      subst (λ (k : End). Passed begun (passage.Ended k) s []) (sym next.0) (closed_none s took (next.1 refl))
  passed_first passage.Refused s took next = absurd next

  module _ (xs items win : List Item) (e : End) (rest left : AbstractSlice) (ys : List Item) (s : S)
      (so_far : (later : Trace) → onward h f begun j xs later
      ≡ append (trace ys end.Done) (through_link rest j later))
      (cut : (later : Trace) → sliced rest j.stage j.env (append (trace items end.Done) later)
      ≡ append (trace win e) (sliced left j.stage j.env later)) where
    -- what the items that pass become
    abbrev w : Trace
    w = walk_of j.next j.env (trace win end.Done)

    -- what comes after them
    abbrev behind : Trace → Trace
    behind later = append (trace [] e) (through_link left j later)

    with_end : walk_of j.next j.env (trace win e) ≡ append w (trace [] e)
    with_end =
        let none : List Item = [] in
        ap (λ (zs : List Item). walk_of j.next j.env (trace zs e)) (sym (append-nil win))
        ∙ pipe_more j.next.first j.next.stages j.env win none e
        ∙ ap (append w) (pipe_ended j.next.first j.next.stages j.env e)

    went : (later : Trace) → onward h f begun j (xs ++ items) later
        ≡ append (trace ys end.Done) (append w (behind later))
    went later =
        let u : Trace = sliced left j.stage j.env later in
        ap (λ (zs : List Item). through_link begun j (trace zs later.ending)) (append_assoc xs items later.items)
        ∙ so_far (append (trace items end.Done) later)
        ∙ ap (λ (t : Trace). append (trace ys end.Done) (walk_of j.next j.env t)) (cut later)
        ∙ ap (append (trace ys end.Done))
        (pipe_append j.next.first j.next.stages j.env (trace win e) u
        ∙ ap (λ (t : Trace). append t (walk_of j.next j.env u)) with_end
        ∙ append_grouped w (trace [] e) (walk_of j.next j.env u))

    grown : (zs : List Item) (t : Trace)
        → append (trace ys end.Done) (append (trace zs end.Done) t) ≡ append (trace (ys ++ zs) end.Done) t
    grown zs t = ap (λ (us : List Item). trace us t.ending) (sym (append_assoc ys zs t.items))

    all_went : w.ending ≡ end.Done → (later : Trace)
        → onward h f begun j (xs ++ items) later ≡ append (trace (ys ++ w.items) end.Done) (behind later)
    all_went done later = went later ∙ ap
        (λ (k : End). append (trace ys end.Done) (append (trace w.items k) (behind later))) done
        ∙ grown w.items (behind later)

    -- after a fault of the slice nothing comes, nor after a slice that lets nothing pass
    ends : (later : Trace) → (e ≡ end.Done → (m : ℕ) (v : Numbers) (u : Trace) → sliced left m v u ≡ nothing)
        → behind later ≡ trace [] e
    ends later closed = by e refl
      where
        by : (k : End) → e ≡ k → behind later ≡ trace [] e
        by end.Done is =
            ap (λ (k : End). append (trace [] k) (through_link left j later)) is
            ∙ ap (walk_of j.next j.env) (closed is j.stage j.env later)
            ∙ pipe_ended j.next.first j.next.stages j.env end.Done
            ∙ ap (λ (k : End). trace [] k) (sym is)
        by (end.Fault x) is = ap (λ (k : End). append (trace [] k) (through_link left j later)) is
            ∙ ap (λ (k : End). trace [] k) (sym is)

    -- all items that passed went on
    went_on : (p : Passage) → IsFed h ys w (Ok fed.More) s → IsAfter fed.More e left p → Passed left p s (xs ++ items)
    went_on passage.Open took next = (
      ys ++ w.items,
      took.0,
      λ later. all_went took.1 later ∙ ap
          (λ (k : End). append (trace (ys ++ w.items) end.Done) (append (trace [] k) (through_link left j later)))
          next,
    )
    went_on passage.Enough took next = absurd next
    went_on (passage.Ended k) took next = (
      ys ++ w.items,
      took.0,
      λ later. all_went took.1 later ∙ ap (append (trace (ys ++ w.items) end.Done))
          (ends later next.1 ∙ ap (λ (z : End). trace [] z) (sym next.0)),
    )
    went_on passage.Refused took next = absurd next

    -- one of them ended the walk in a fault of a later stage
    went_faulted : (x : Fault) → IsFed h ys w (Ok (fed.Fault x)) s
        → Passed left (passage.Ended (end.Fault x)) s (xs ++ items)
    went_faulted x took = (
      ys ++ w.items,
      took.0,
      λ later. went later ∙ ap (append (trace ys end.Done)) (append_faulted w (behind later) x took.1)
          ∙ (λ i. trace (sym (append-nil (ys ++ w.items)) i) (took.1 i)),
    )

    -- the next sink has enough
    went_enough : IsFed h ys w (Ok fed.Enough) s → f s ≡ flow.Enough → Passed left passage.Enough s (xs ++ items)
    went_enough took enough =
        let k = took.0 in
        let front : Trace = trace (take k w.items) end.Done in
        let back : Trace = trace (drop k w.items) w.ending in (
          ys ++ take k w.items,
          took.2,
          enough,
          λ later. (
            append back (behind later),
            went later
                ∙ ap (append (trace ys end.Done))
                (ap (λ (zs : List Item). append (trace zs w.ending) (behind later))
                (sym (take-append-drop k w.items)) ∙ append_grouped front back (behind later))
                ∙ grown (take k w.items) (append back (behind later)),
          ),
        )

    pub passed_on : (r : Fed) (p : Passage) → IsFed h ys w (Ok r) s → f s ≡ flow_after (Ok r) → IsAfter r e left p
        → Passed left p s (xs ++ items)
    passed_on fed.More p took wants next = went_on p took next
    passed_on (fed.Fault x) p took wants next =
        subst (λ (q : Passage). Passed left q s (xs ++ items)) (sym next) (went_faulted x took)
    passed_on fed.Enough p took wants next =
        subst (λ (q : Passage). Passed left q s (xs ++ items)) (sym next) (went_enough took wants)

  -- what a next sink makes that is closed instead of the slice
  module _ (P : Trace → Type 0) (rest : AbstractSlice) (s : S) (xs : List Item) where
    -- what it makes of items, by how the walk ends after them, and if it has enough
    abbrev Ends : End → Type 0
    Ends k = (ys : List Item) → h s ys → P (append (trace ys end.Done) (trace [] k))

    abbrev Suffices : Type 0
    Suffices = f s ≡ flow.Enough → (ys : List Item) (u : Trace) → h s ys → P (append (trace ys end.Done) u)

    settled : (later : Trace) → Passed rest passage.Enough s xs → Suffices → P (onward h f begun j xs later)
    settled later took p = subst P (sym (took.3 later).1) (p took.2 took.0 (took.3 later).0 took.1)

    ended : (x k : End) (later : Trace) → k ≡ x → Passed rest (passage.Ended x) s xs → Ends k
        → P (onward h f begun j xs later)
    ended x k later is took p = subst P (sym
        (took.2 later ∙ ap (λ (z : End). append (trace took.0 end.Done) (trace [] z)) (sym is))) (p took.0 took.1)

    pub closed_as : (p : Passage) (e k : End) → EndsAs p rest e (Some k) → Passed rest p s xs → Ends k → Suffices
        → P (onward h f begun j xs (trace [] e))
    closed_as passage.Open e k ends took last enough =
        subst P (sym (took.2 (trace [] e)
        ∙ ap (λ (t : Trace). append (trace took.0 end.Done) (walk_of j.next j.env t)) (ends j.stage j.env)
        ∙ ap (append (trace took.0 end.Done)) (pipe_ended j.next.first j.next.stages j.env k))) (last took.0 took.1)
    closed_as passage.Enough e k ends took last enough = settled (trace [] e) took enough
    closed_as (passage.Ended x) e k ends took last enough = ended x k (trace [] e) ends took last
    closed_as passage.Refused e k ends took last enough = absurd ends

    pub enough_as : (p : Passage) (e k : End) (later : Trace) → EndsAs p rest e (Some k)
        → passage_flow p (f s) ≡ flow.Enough → Passed rest p s xs → Ends k → Suffices
        → P (onward h f begun j xs later)
    enough_as passage.Open e k later ends wants took last enough =
        subst P (sym (took.2 later)) (enough wants took.0 (through_link rest j later) took.1)
    enough_as passage.Enough e k later ends wants took last enough = settled later took enough
    enough_as (passage.Ended x) e k later ends wants took last enough = ended x k later ends took last
    enough_as passage.Refused e k later ends wants took last enough = absurd ends

-- ---- what a sink makes of the whole walk of a source

-- P holds of the walks that a value describes
module _ (P : Trace → Type 0) (g : AbstractSegment) (env : Numbers) (t : Trace) where
  abbrev fed_walk : Trace
  fed_walk = walk_of g env (trace (elements 0 None t.items) end.Done)

  of_whole : P (append fed_walk (trace [] t.ending)) → P (walk_of g env t)
  of_whole p = subst P (sym (piece_in_two g env 0 None t) ∙ ap (walk_of g env) (whole_piece t)) p

  pub more_fed : (e : End) → e ≡ t.ending → fed_walk.ending ≡ end.Done
      → P (append (trace ([] ++ fed_walk.items) end.Done) (trace [] e)) → P (walk_of g env t)
  more_fed e is done p = of_whole (stands_more P fed_walk t.ending done
      (subst (λ (k : End). P (append (trace ([] ++ fed_walk.items) end.Done) (trace [] k))) is p))

  pub fault_fed : (f : Fault) → fed_walk.ending ≡ end.Fault f
      → P (append (trace ([] ++ fed_walk.items) end.Done) (trace [] (end.Fault f))) → P (walk_of g env t)
  fault_fed f h p = of_whole (stands_fault P fed_walk t.ending f h p)

  pub enough_fed : (k : ℕ) → ((u : Trace) → P (append (trace ([] ++ take k fed_walk.items) end.Done) u))
      → P (walk_of g env t)
  enough_fed k p = of_whole (stands_enough P fed_walk t.ending k p)

  pub none_fed : ((u : Trace) → P (append (trace [] end.Done) u)) → P (walk_of g env t)
  none_fed p = p (walk_of g env t)

-- a slice before any item
pub begun_as : {S : Type 0} (h : S → List Item → Type 0) (f : S → Flow) (d e : AbstractSlice) (j : AbstractJunction)
    (p : Passage) (s : S) → d ≡ e → HasPassedTo h f d j d p s [] → HasPassedTo h f e j d p s []
begun_as h f d e j p s is x = subst (λ (b : AbstractSlice). HasPassedTo h f b j d p s []) is x

-- ---- from the part of no item

pub stands_after : (s : AbstractSegment) (env : Numbers) (none p : Part) (t : Trace)
    → EndsFor s.ending (last_stage s) env none nothing → GoesOnFrom s.ending (last_stage s) env none p (walk_of s env t)
    → StandsFor s env p t
stands_after s env none p t first on = on.0 nothing first

pub begun_with : (e : AbstractEnd) (n : ℕ) (env : Numbers) (none begun : Part) → none ≡ begun
    → HasTaken e n env begun none []
begun_with e n env none begun is = subst (λ (b : Part). HasTaken e n env b none []) is (taken_none e n env none)
