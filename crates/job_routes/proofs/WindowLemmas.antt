-- Positions of walks without an item before a fault, and the slices that select them.
use Rattle.std.proofs.Common.{◌≡◌, ℕ, zero, suc, ◌+◌, ◌-◌, ◌<◌, ◌^◌, ℤ, nat_lt, if◌then◌else◌, Bool, true, false, List}
use Rattle.std.proofs.Common.{[], ◌∷◌, ◌++◌, length, take, drop, slice_get, Option, Some, None, refl, sym, ap, subst}
use Rattle.std.proofs.Common.{◌∙◌, arith}
use Rattle.std.proofs.lemmas.Bool.{ltb-true, lt-ltb}
use Rattle.std.proofs.lemmas.List.{take_all, take_more}
use Rattle.std.proofs.lemmas.Option.{slice_get_within, get_or_from_slice_get}
use Rattle.lambda_values.specs.Earlier.{Numbers}
use Rattle.trace.specs.Cover.{placed, too_long}
use Rattle.trace.specs.Trace.{Trace, trace}
use Rattle.lambda_values.specs.declared.item.Item.{Item}
use Rattle.trace.specs.declared.item.End.{End}
use Rattle.trace.specs.declared.item.End.TheVariants as end
use Rattle.reduce_ops.specs.Operators.{value_of}
use Rattle.slice_ops.specs.Slices.{limited, skipped}
use Rattle.prefix_scan.specs.Prefixes.{Range, ends_after, out_of_array, prefixed, prefixed_to, running}
use Rattle.sort_ops.specs.Runs.{with_places}
use Rattle.sort_ops.specs.Orders.{sorted_to, sorted_walk}
use Rattle.sort_ops.specs.Parts.{done_after}
use Rattle.job_language.specs.Jobs.{AbstractPlainSource}
use Rattle.prefix_walks.specs.Pieces.{elements}
use Rattle.job_routes.specs.Building.{IsClean}
use Rattle.job_routes.specs.Legs.{AbstractEnd, collecting, end_in, ended, exactly, finding, folding, given_walk}
use Rattle.job_routes.specs.Legs.{keeping_firsts, last_stage, leg_in, leg_walk, legs_in, linked, links_in, scanned}
use Rattle.job_routes.specs.Legs.{scanning, segment_in, sorting, walk_of, windowed}
use Rattle.job_meaning.specs.Walks.{source_walk, values_of}
use Rattle.job_routes.specs.declared.leg.Leg.{Leg}
use Rattle.job_routes.proofs.LinkLemmas.{last_scanned}
use Rattle.prefix_walks.proofs.Elements.{drop_none, elements_none}

-- a window of all positions
pub all_positions : (t : Trace) → windowed 0 None t ≡ t
all_positions t = ap (λ xs. trace xs t.ending) (drop_none t.items)

-- ---- walks without an item before a fault: over sources, of prefixes, and positions of these

pub clean_window : (f : ℕ) (o : Option ℕ) (t : Trace) → IsClean t → IsClean (windowed f o t)
clean_window f o t h = λ g e. ap (elements f o) (h g e) ∙ elements_none f o

pub clean_source : (ss : List AbstractPlainSource) → IsClean (source_walk ss)
clean_source ss = by (nat_lt (2 ^ 62) (length (values_of ss)))
  where
    by : (b : Bool) → IsClean (if b then too_long else trace (placed 0 (values_of ss)) end.Done)
    by true = λ g h. refl
    by false = λ g h. absurd (let z : end.Done ≡ end.Fault g = h in cc)

clean_prefixed : (f : ℤ → ℤ → ℤ) (r : Range) (n : ℕ) (t : Trace) → IsClean (prefixed f r n t)
clean_prefixed f r n t = by t.ending
  where
    of : (b : Bool) → IsClean (if b then out_of_array n else trace (running f r 0 [] t.items) end.Done)
    of true = λ g h. refl
    of false = λ g h. absurd (let z : end.Done ≡ end.Fault g = h in cc)

    by : (e : End) → IsClean (prefixed_to f r n t.items e)
    by end.Done = of (ends_after r (length t.items))
    by (end.Fault g) = λ h e. refl

clean_sorted : (t : Trace) → IsClean (sorted_walk t)
clean_sorted t = by t.ending
  where
    by : (e : End) → IsClean (sorted_to t.items e)
    by end.Done = λ g h. absurd (let z : end.Done ≡ end.Fault g = h in cc)
    by (end.Fault g) = λ h e. refl

clean_done : (m : Option ℕ) (t : Trace) → IsClean t → IsClean (done_after m t)
clean_done None t h = h
clean_done (Some n) t h = by (nat_lt (length t.items) n)
  where
    by : (b : Bool) → IsClean (if b then t else trace (take n t.items) end.Done)
    by true = h
    by false = λ g e. absurd (let z : end.Done ≡ end.Fault g = e in cc)

-- only `distinct` gives items before a fault
clean_given : (e : AbstractEnd) (n : ℕ) (env : Numbers) (t : Trace) → ((m : Option ℕ) → e ≡ keeping_firsts m → ⊥)
    → IsClean (given_walk (ended e n env t))
clean_given (folding f a counts) n env t other = λ g h. refl
clean_given (finding d) n env t other = λ g h. refl
clean_given (scanning f r) n env t other = clean_prefixed (value_of f) r n t
clean_given (sorting m places) n env t other =
    clean_done m (sorted_walk (with_places places t)) (clean_sorted (with_places places t))
clean_given (keeping_firsts m) n env t other = absurd (other m refl)
clean_given exactly n env t other = λ g h. refl
clean_given collecting n env t other = λ g h. refl

-- what the last of several legs gives
pub clean_last : (ls : List Leg) (l : Leg) (env : Numbers) (t : Trace) → Some l ≡ slice_get ls (length ls - 1)
    → ((m : Option ℕ) → end_in l.last.end ≡ keeping_firsts m → ⊥) → IsClean (scanned (legs_in ls) env t)
clean_last ls l env t is other =
    let i = length ls - 1 in
    let within = slice_get_within ls i l (sym is) in
    let more : take (i + 1) ls ≡ take i ls ++ l ∷ [] =
    take_more ls i l within ∙ ap (λ (m : Leg). take i ls ++ m ∷ []) (get_or_from_slice_get ls i l l (sym is)) in
    let all : ls ≡ take i ls ++ l ∷ [] = sym (take_all (i + 1) ls (omega (arith, within))) ∙ more in
    let s = segment_in l.last in
    let u : Trace = walk_of s env (linked (links_in l.links.items) env
    (leg_walk (leg_in l) (scanned (legs_in (take i ls)) env t))) in
    subst (λ (w : Trace). IsClean w) (sym (last_scanned ls (take i ls) l env t all))
    (clean_given (end_in l.last.end) (last_stage s) env u other)

-- ---- slices of positions

abbrev no_items : List Item
no_items = []

-- `limit` of at least one item leaves the end of such a walk as it is
limited_clean : (n : ℕ) (ys : List Item) (e : End) → IsClean (trace ys e)
    → limited (suc n) (trace ys e) ≡ trace (take (suc n) ys) e
limited_clean n ys end.Done h = whole (nat_lt (length ys) (suc n)) refl
  where
    whole : (b : Bool) → nat_lt (length ys) (suc n) ≡ b
        → (if b then trace ys end.Done else trace (take (suc n) ys) end.Done) ≡ trace (take (suc n) ys) end.Done
    whole true e = let l = ltb-true (length ys) (suc n) e in
        ap (λ zs. trace zs end.Done) (sym (take_all (suc n) ys (omega (arith, l))))
    whole false e = refl
limited_clean n ys (end.Fault g) h =
    subst (λ (zs : List Item). limited (suc n) (trace zs (end.Fault g)) ≡ trace (take (suc n) zs) (end.Fault g))
    (sym (h g refl))
    (ap (λ (b : Bool). if b then trace no_items (end.Fault g) else trace (take (suc n) no_items) end.Done)
    (lt-ltb 0 (suc n) (omega arith)))

-- what a slice makes of a window
pub skips : (f : ℕ) (o : Option ℕ) (n g : ℕ) (q : Option ℕ) (t : Trace)
    → ((xs : List Item) → elements g q xs ≡ drop n (elements f o xs)) → skipped n (windowed f o t) ≡ windowed g q t
skips f o n g q t h = ap (λ xs. trace xs t.ending) (sym (h t.items))

pub limits : (f : ℕ) (o : Option ℕ) (n g : ℕ) (q : Option ℕ) (t : Trace) → 0 < n → IsClean t
    → ((xs : List Item) → elements g q xs ≡ take n (elements f o xs)) → limited n (windowed f o t) ≡ windowed g q t
limits f o zero g q t some_there clean h = absurd (omega arith)
limits f o (suc n) g q t some_there clean h =
    limited_clean n (elements f o t.items) t.ending (clean_window f o t clean)
    ∙ ap (λ xs. trace xs t.ending) (sym (h t.items))
