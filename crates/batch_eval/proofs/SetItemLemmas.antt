-- Batches whose items are those of the lanes whose flag is set.
use Rattle.std.proofs.Common.{◌≡◌, ◌==◌, ◌&&◌, ℕ, zero, suc, ◌<◌, ◌≤◌, ℤ, pos, Bool, true, false, List, [], ◌∷◌, ◌++◌}
use Rattle.std.proofs.Common.{get_or, take, Option, None, Some, Result, Ok, Err, if◌then◌else◌, refl, sym, ap, subst}
use Rattle.std.proofs.Common.{◌∙◌, arith, length, length-append}
use Rattle.std.proofs.lemmas.Bool.Decides.{Decides-eqb}
use Rattle.trace.specs.declared.stage.Stage.{Stage}
use Rattle.lambda_values.specs.declared.fault.FaultKind.{FaultKind}
use Rattle.lambda_values.specs.Earlier.{Numbers}
use Rattle.lambda_values.specs.Term.{Long, Truth}
use Rattle.lambda_values.specs.Value.{long_value, truth_value}
use Rattle.lambda_values.specs.declared.item.Item.{Item}
use Rattle.trace.specs.declared.item.End.{End}
use Rattle.trace.specs.declared.item.End.TheVariants as end
use Rattle.trace.specs.Trace.{Trace, trace, append, each}
use Rattle.trace.specs.Stages.{filter, image, map, of_item, passed}
use Rattle.lambda_values.specs.declared.operator.Connective.TheVariants as connective
use Rattle.batch_eval.specs.Choices.{connected_flag}
use Rattle.batch_eval.specs.declared.reached.Reached.{Reached}
use Rattle.batch_eval.specs.Lanes.{at, flag_of, flagged, is_set, Reaches, StopsAt}
use Rattle.batch_eval.specs.Batches.{end_after, flagged_items, flagged_walk, gathered, item_at, lanes, origin_at}
use Rattle.batch_eval.specs.Batches.{passing, set_items}
use Rattle.batch_eval.proofs.FlaggedLemmas.{flags_cut, set_flag}
use Rattle.batch_eval.proofs.Items.{length_lanes}
use Rattle.batch_eval.proofs.Walks.{each_filtered, each_gathered, gathered_picked, gathered_same, kept_if, lanes_same}
use Rattle.batch_eval.proofs.Walks.{later, passed_flag}

-- no stages
pub none_left : (stages : List Stage) → (length stages == 0) ≡ true → stages ≡ []
none_left [] h = refl
none_left (g ∷ gs) h = let same = (Decides-eqb (length (g ∷ gs)) 0).0 h in absurd (omega arith)

set_more : (flags : List ℤ) (xs : List Item) (y : Item)
    → set_items flags (xs ++ y ∷ []) ≡ set_items flags xs ++ kept_if (is_set (at flags (length xs))) y
set_more [] [] y = refl
set_more [] (x ∷ xs) y = refl
set_more (f ∷ flags) [] y = refl
set_more (f ∷ flags) (x ∷ xs) y = by_flag (is_set f) (set_more flags xs y) where
  by_flag : (b : Bool) → set_items flags (xs ++ y ∷ [])
      ≡ set_items flags xs ++ kept_if (is_set (at flags (length xs))) y
      → (if b then x ∷ set_items flags (xs ++ y ∷ []) else set_items flags (xs ++ y ∷ []))
      ≡ (if b then x ∷ set_items flags xs else set_items flags xs) ++ kept_if (is_set (at flags (length xs))) y
  by_flag true before = ap (λ (ys : List Item). x ∷ ys) before
  by_flag false before = before

-- lane by lane
pub set_lanes : (flags : List ℤ) (n : ℕ) (g : ℕ → Item)
    → set_items flags (lanes n g) ≡ gathered n (λ k. kept_if (is_set (at flags k)) (g k))
set_lanes flags zero g = refl
set_lanes flags (suc n) g =
    let before = set_lanes flags n g in
    set_more flags (lanes n g) (g n) ∙ rw (length_lanes n g, before) refl

kept_image : (f : Item → Trace) (x y : Item) (b : Bool) (e : End) → f x ≡ trace (y ∷ []) end.Done
    → each f (kept_if b x) e ≡ trace (kept_if b y) e
kept_image f x y true e is = rw is refl
kept_image f x y false e is = refl

kept_both : (f : Item → Trace) (x : Item) (b c : Bool) (e : End) → f x ≡ trace (kept_if c x) end.Done
    → each f (kept_if b x) e ≡ trace (kept_if (if c then b else false) x) e
kept_both f x true true e is = rw is refl
kept_both f x true false e is = rw is refl
kept_both f x false true e is = refl
kept_both f x false false e is = refl

cleared : (c : Bool) (z : ℤ) → is_set (if c then z else pos 0) ≡ (if c then is_set z else false)
cleared true z = refl
cleared false z = refl

module _ (live : ℕ) (start : Option ℕ) (origins : List ℕ) (values flags : List ℤ) (e : End) (t : Trace) where
  abbrev lane : ℕ → Item
  lane = item_at start origins values

  -- moved to the front
  pub kept_lanes : (new_values : List ℤ) (new_origins : List ℕ) (kept : ℕ) → kept ≡ length (passing flags live)
      → ((j : ℕ) → j < kept → at new_values j ≡ at values (get_or (passing flags live) j 0))
      → ((j : ℕ) → j < kept → get_or new_origins j 0 ≡ origin_at start origins (get_or (passing flags live) j 0))
      → trace (lanes live lane) e ≡ t → trace (lanes kept (item_at None new_origins new_values)) e
      ≡ flagged_walk flags t
  kept_lanes new_values new_origins kept count new_value new_origin seen =
      let new : ℕ → Item = item_at None new_origins new_values in
      let items : lanes kept new ≡ lanes kept (λ j. lane (get_or (passing flags live) j 0)) =
      lanes_same kept new (λ j. lane (get_or (passing flags live) j 0))
      (λ j below. let a = new_value j below in let b = new_origin j below in cc) in
      let all = items ∙ ap (λ (n : ℕ). lanes n (λ j. lane (get_or (passing flags live) j 0))) count
      ∙ gathered_picked (λ k. is_set (at flags k)) lane live in
      subst (λ (u : Trace). trace (lanes kept new) e ≡ flagged_walk flags u) seen
      (rw (all, set_lanes flags live lane) refl)

  -- given to a sink
  pub set_cut : (p : ℤ → Bool) → ((z : ℤ) → p z ≡ is_set z) → live ≤ length flags → trace (lanes live lane) e ≡ t
      → trace (flagged_items p start origins (at values) (take live flags)) e ≡ flagged_walk flags t
  set_cut p is within seen =
      let same = gathered_same live (λ k. kept_if (is_set (flag_of (p (at flags k)))) (lane k))
      (λ k. kept_if (is_set (at flags k)) (lane k))
      (λ k below. ap (λ (b : Bool). kept_if b (lane k)) (set_flag (p (at flags k)) ∙ is (at flags k))) in
      let cut = flags_cut p start origins (at values) flags live within ∙ same ∙ sym (set_lanes flags live lane) in
      subst (λ (u : Trace). trace (flagged_items p start origins (at values) (take live flags)) e
      ≡ flagged_walk flags u)
      seen (ap (λ (ys : List Item). trace ys e) cut)

  module _ (env : Numbers) (stage : ℕ) (r : Reached) where
    -- after a `filter`
    pub filter_flagged : (test : Truth) → Reaches (λ k. flagged (truth_value test (lane k) env)) (at flags) live r
        → trace (lanes live lane) e ≡ t → flagged_walk flags
        (trace (lanes r.live lane) (end_after e stage (origin_at start origins r.live) r.fault))
        ≡ each (of_item stage (filter test) env) t.items t.ending
    filter_flagged test reaches seen =
        let one = each_filtered test env stage live lane (at flags) r e reaches in
        subst (λ (u : Trace). flagged_walk flags
        (trace (lanes r.live lane) (end_after e stage (origin_at start origins r.live) r.fault))
        ≡ each (of_item stage (filter test) env) u.items u.ending) seen (rw (set_lanes flags r.live lane) (sym one))

    -- after a `map` of all lanes
    pub map_all : (expr : Long) (images : List ℤ) → Reaches (λ k. long_value expr (lane k) env) (at images) live r
        → live ≤ r.live → trace (lanes live lane) e ≡ t
        → flagged_walk flags (trace (lanes live (item_at start origins images)) e)
        ≡ each (of_item stage (map expr) env) (set_items flags t.items) t.ending
    map_all expr images reaches all seen =
        let f : Item → Trace = of_item stage (map expr) env in
        let new : ℕ → Item = item_at start origins images in
        let one = each_gathered f (λ k. kept_if (is_set (at flags k)) (lane k))
        (λ k. kept_if (is_set (at flags k)) (new k)) live
        (λ k below e. kept_image f (lane k) (new k) (is_set (at flags k)) e
        (ap (image stage (lane k)) (reaches.values k (omega arith)))) e in
        subst (λ (u : Trace). flagged_walk flags (trace (lanes live new) e) ≡ each f (set_items flags u.items) u.ending)
        seen (rw (set_lanes flags live new, set_lanes flags live lane) (sym one))

    -- after a `filter` of all lanes, by whether each of them passes
    pub filter_known : (test : Truth) (passes : ℕ → Bool) (new_flags : List ℤ) → ((k : ℕ) → k < live
        → passed stage (lane k) (truth_value test (lane k) env) ≡ trace (kept_if (passes k) (lane k)) end.Done)
        → ((k : ℕ) → k < live → is_set (at new_flags k) ≡ (if passes k then is_set (at flags k) else false))
        → trace (lanes live lane) e ≡ t → flagged_walk new_flags (trace (lanes live lane) e)
        ≡ each (of_item stage (filter test) env) (set_items flags t.items) t.ending
    filter_known test passes new_flags known new seen =
        let f : Item → Trace = of_item stage (filter test) env in
        let one = each_gathered f (λ k. kept_if (is_set (at flags k)) (lane k))
        (λ k. kept_if (is_set (at new_flags k)) (lane k)) live
        (λ k below e. kept_both f (lane k) (is_set (at flags k)) (passes k) e (known k below)
        ∙ ap (λ (b : Bool). trace (kept_if b (lane k)) e) (sym (new k below))) e in
        subst (λ (u : Trace). flagged_walk new_flags (trace (lanes live lane) e)
        ≡ each f (set_items flags u.items) u.ending) seen
        (rw (set_lanes flags live lane, set_lanes new_flags live lane) (sym one))

    -- by flags for the lanes that pass
    pub filter_all : (test : Truth) (passes new_flags : List ℤ)
        → Reaches (λ k. flagged (truth_value test (lane k) env)) (at passes) live r → live ≤ r.live
        → ((k : ℕ) → k < live → at new_flags k ≡ (if is_set (at passes k) then at flags k else pos 0))
        → trace (lanes live lane) e ≡ t → flagged_walk new_flags (trace (lanes live lane) e)
        ≡ each (of_item stage (filter test) env) (set_items flags t.items) t.ending
    filter_all test passes new_flags reaches all new =
        filter_known test (λ k. is_set (at passes k)) new_flags
        (λ k below. passed_flag stage (lane k) (truth_value test (lane k) env) (at passes k)
        (reaches.values k (omega arith)))
        (λ k below. ap is_set (new k below) ∙ cleared (is_set (at passes k)) (at flags k))

    -- by flags that are connected with whether each lane passes
    pub filter_connected : (test : Truth) (passes : ℕ → Bool) (new_flags : List ℤ)
        → ((k : ℕ) → k < live → truth_value test (lane k) env ≡ Ok (passes k))
        → ((k : ℕ) → k < live → at new_flags k ≡ connected_flag connective.And (at flags k) (passes k))
        → trace (lanes live lane) e ≡ t → flagged_walk new_flags (trace (lanes live lane) e)
        ≡ each (of_item stage (filter test) env) (set_items flags t.items) t.ending
    filter_connected test passes new_flags known new =
        filter_known test passes new_flags
        (λ k below. ap (passed stage (lane k)) (known k below) ∙ passed_known (passes k) (lane k))
        (λ k below. ap is_set (new k below) ∙ both_set (is_set (at flags k)) (passes k))
      where
        passed_known : (b : Bool) (x : Item) → passed stage x (Ok b) ≡ trace (kept_if b x) end.Done
        passed_known true x = refl
        passed_known false x = refl

        both_set : (b c : Bool) → is_set (flag_of (b && c)) ≡ (if c then b else false)
        both_set true true = refl
        both_set true false = refl
        both_set false true = refl
        both_set false false = refl

-- flags that are connected with booleans have no fault
pub connected_everywhere : (flags : ℕ → ℤ) (passes : ℕ → Bool) (register : ℕ → ℤ) (n : ℕ) (r : Reached)
    → Reaches (λ k. Ok (connected_flag connective.And (flags k) (passes k))) register n r → (k : ℕ) → k < n
    → register k ≡ connected_flag connective.And (flags k) (passes k)
connected_everywhere flags passes register n r reaches k below =
    same (reaches.values k (omega (arith, below, all r.live r.fault reaches.stop))) where
      same : {z w : ℤ} → ◌≡◌ {A = Result ℤ FaultKind} (Ok z) (Ok w) → w ≡ z
      same e = cc

      all : (live : ℕ) (fault : Option FaultKind)
          → StopsAt (λ k. Ok (connected_flag connective.And (flags k) (passes k))) n live fault → n ≤ live
      all live None stops = omega (arith, stops)
      all live (Some kind) stops = cc

-- one more flag, for one more item
set_last : (fs : List ℤ) (xs : List Item) (f : ℤ) (x : Item) → length fs ≡ length xs
    → set_items (fs ++ f ∷ []) (xs ++ x ∷ []) ≡ set_items fs xs ++ kept_if (is_set f) x
set_last [] [] f x same = refl
set_last [] (y ∷ ys) f x same = absurd (omega (arith, same))
set_last (g ∷ gs) [] f x same = absurd (omega (arith, same))
set_last (g ∷ gs) (y ∷ ys) f x same = by_flag (is_set g) (set_last gs ys f x (omega (arith, same))) where
  by_flag : (b : Bool) → set_items (gs ++ f ∷ []) (ys ++ x ∷ []) ≡ set_items gs ys ++ kept_if (is_set f) x
      → (if b then y ∷ set_items (gs ++ f ∷ []) (ys ++ x ∷ []) else set_items (gs ++ f ∷ []) (ys ++ x ∷ []))
      ≡ (if b then y ∷ set_items gs ys else set_items gs ys) ++ kept_if (is_set f) x
  by_flag true before = ap (λ (zs : List Item). y ∷ zs) before
  by_flag false before = before

-- items without a flag
set_none : (fs : List ℤ) (xs ys : List Item) → length fs ≡ length xs → set_items fs (xs ++ ys) ≡ set_items fs xs
set_none [] [] [] same = refl
set_none [] [] (y ∷ ys) same = refl
set_none [] (x ∷ xs) ys same = absurd (omega (arith, same))
set_none (f ∷ fs) [] ys same = absurd (omega (arith, same))
set_none (f ∷ fs) (x ∷ xs) ys same = by_flag (is_set f) (set_none fs xs ys (omega (arith, same))) where
  by_flag : (b : Bool) → set_items fs (xs ++ ys) ≡ set_items fs xs
      → (if b then x ∷ set_items fs (xs ++ ys) else set_items fs (xs ++ ys))
      ≡ (if b then x ∷ set_items fs xs else set_items fs xs)
  by_flag true before = ap (λ (zs : List Item). x ∷ zs) before
  by_flag false before = before

-- flags of the first lanes
abbrev pub flags_by : (ℕ → Bool) → ℕ → List ℤ
flags_by p zero = []
flags_by p (suc n) = flags_by p n ++ flag_of (p n) ∷ []

length_flags : (p : ℕ → Bool) (n : ℕ) → length (flags_by p n) ≡ n
length_flags p zero = refl
length_flags p (suc n) = omega (arith, length-append (flags_by p n) (flag_of (p n) ∷ []), length_flags p n)

set_by : (p : ℕ → Bool) (g : ℕ → Item) (n : ℕ)
    → set_items (flags_by p n) (lanes n g) ≡ gathered n (λ k. kept_if (p k) (g k))
set_by p g zero = refl
set_by p g (suc n) =
    let same : length (flags_by p n) ≡ length (lanes n g) = length_flags p n ∙ sym (length_lanes n g) in
    set_last (flags_by p n) (lanes n g) (flag_of (p n)) (g n) same ∙ rw (set_by p g n, set_flag (p n)) refl

-- the first of some lanes, as flags choose them
pub set_front : (p : ℕ → Bool) (g : ℕ → Item) (n all : ℕ) → n ≤ all
    → set_items (flags_by p n) (lanes all g) ≡ gathered n (λ k. kept_if (p k) (g k))
set_front p g n all within =
    let rest = later n all (λ k. g k ∷ []) within in
    let same : length (flags_by p n) ≡ length (lanes n g) = length_flags p n ∙ sym (length_lanes n g) in
    ap (set_items (flags_by p n)) rest.1 ∙ set_none (flags_by p n) (lanes n g) rest.0 same ∙ set_by p g n

module _ (expr : Long) (env : Numbers) (stage : ℕ) where
  abbrev imaged : Item → Trace
  imaged = of_item stage (map expr) env

  -- an item with an image, before others
  image_set : (x : Item) (xs : List Item) (y : Item) (ys : List Item) (f : End) → imaged x ≡ trace (y ∷ []) end.Done
      → ((gs : List ℤ) → each imaged (set_items gs xs) f ≡ trace (set_items gs ys) f) → (flags : List ℤ)
      → each imaged (set_items flags (x ∷ xs)) f ≡ trace (set_items flags (y ∷ ys)) f
  image_set x xs y ys f one more [] = refl
  image_set x xs y ys f one more (g ∷ gs) = by_flag (is_set g) where
    by_flag : (b : Bool) → each imaged (if b then x ∷ set_items gs xs else set_items gs xs) f
        ≡ trace (if b then y ∷ set_items gs ys else set_items gs ys) f
    by_flag true = rw (one, more gs) refl
    by_flag false = more gs

  -- a `map` that leaves no item out has an image of each item
  pub each_imaged : (xs ys : List Item) (e end_of : End) → each imaged xs e ≡ trace ys end_of → length ys ≡ length xs
      → (flags : List ℤ) (f : End) → each imaged (set_items flags xs) f ≡ trace (set_items flags ys) f
  each_imaged [] [] e end_of gives same flags f = refl
  each_imaged [] (y ∷ ys) e end_of gives same flags f = absurd (omega (arith, same))
  each_imaged (x ∷ xs) ys e end_of gives same flags f =
      by_value (λ zs rest_end goes count gs. each_imaged xs zs e rest_end goes count gs f) (long_value expr x env)
      refl where
        by_value : ((zs : List Item) (rest_end : End) → each imaged xs e ≡ trace zs rest_end → length zs ≡ length xs
            → (gs : List ℤ) → each imaged (set_items gs xs) f ≡ trace (set_items gs zs) f) → (r : Result ℤ FaultKind)
            → long_value expr x env ≡ r → each imaged (set_items flags (x ∷ xs)) f ≡ trace (set_items flags ys) f
        by_value more (Ok v) is =
            let y : Item = record { origin = x.origin; value = v } in
            let rest : List Item = (each imaged xs e).items in
            let one : imaged x ≡ trace (y ∷ []) end.Done = ap (image stage x) is in
            let whole : trace (y ∷ rest) (each imaged xs e).ending ≡ trace ys end_of =
            sym (ap (λ (t : Trace). append t (each imaged xs e)) one) ∙ gives in
            let items : y ∷ rest ≡ ys = ap (λ (t : Trace). t.items) whole in
            let count : length rest ≡ length xs = let n = ap length items in omega (arith, n, same) in
            image_set x xs y rest f one (more rest (each imaged xs e).ending refl count) flags
            ∙ ap (λ (zs : List Item). trace (set_items flags zs) f) items
        by_value more (Err kind) is =
            let fault : imaged x ≡ trace []
            (end.Fault (record { kind = kind; stage = stage; origin = Some x.origin })) =
            ap (image stage x) is in
            let whole : trace [] (end.Fault (record { kind = kind; stage = stage; origin = Some x.origin }))
            ≡ trace ys end_of = sym (ap (λ (t : Trace). append t (each imaged xs e)) fault) ∙ gives in
            let none : 0 ≡ length ys = ap (λ (t : Trace). length t.items) whole in
            absurd (omega (arith, none, same))
