-- The values of inner streams, from the registers of their operands, one after the other.
use Rattle.std.proofs.Common.{◌≡◌, ℕ, zero, suc, ◌+◌, ◌*◌, ◌-◌, ◌/◌, ◌<◌, ◌≤◌, ℤ, pos, List, [], ◌∷◌, ◌++◌, length}
use Rattle.std.proofs.Common.{get_or, take, Option, Some, Result, Ok, refl, sym, ap, subst, ◌∙◌, append_assoc, arith}
use Rattle.std.proofs.Common.{add-one, add-zero}
use Rattle.std.proofs.Math.Nat.{le-div_iff_mul-le}
use Rattle.std.proofs.lemmas.List.{append-nil, get_or-append_right, get_or_append_left, take_all}
use Rattle.std.proofs.lemmas.Option.{get_or_from_slice_get}
use Rattle.std.specs.List.{slice_get}
use mathlib.Core.Logic.{dite}
use native.Mathlib.Decide.{ℕ_discrete}
use Rattle.lambda_values.specs.Earlier.{Numbers}
use Rattle.lambda_values.specs.Streams.{Inner, each_value, exprs_of, inner_value, range, range_closed, values}
use Rattle.lambda_values.specs.Term.{Long}
use Rattle.lambda_values.specs.Value.{long_value}
use Rattle.lambda_values.specs.declared.expr.LongExpr.{LongExpr}
use Rattle.lambda_values.specs.declared.fault.FaultKind.{FaultKind}
use Rattle.lambda_values.specs.declared.item.Item.{Item}
use Rattle.trace.specs.declared.item.End.{End}
use Rattle.trace.specs.declared.item.End.TheVariants as end
use Rattle.trace.specs.Trace.{Trace, trace, each}
use Rattle.trace.specs.Stages.{at_place, flat_map, flattened, of_item}
use Rattle.batch_eval.specs.Lanes.{at}
use Rattle.batch_eval.specs.Batches.{gathered, item_at, lanes, origin_at}
use Rattle.batch_eval.specs.InnerColumns.{ArePut, HaveOperands, IsMore, given, row, values_at, valid_values}
use Rattle.batch_eval.proofs.Items.{lane_at, lanes_add, lanes_taken, length_lanes}
use Rattle.batch_eval.proofs.WaitingItemLemmas.{each_next}
use Rattle.batch_eval.proofs.Walks.{lanes_same}

-- what items from a position on give without a fault, after what those before them give
pub each_further : (f : Item → Trace) (os : List Item) (p : ℕ) (g : ℕ → Item) (outs : ℕ → List Item) (n : ℕ)
    → ((k : ℕ) → k < n → slice_get os (p + k) ≡ Some (g k)) → ((k : ℕ) → k < n → f (g k) ≡ trace (outs k) end.Done)
    → IsMore f os p (p + n) (gathered n outs)
each_further f os p g outs zero here gives = λ done.
    let front : Trace = each f (take p os) end.Done in
    let same : front ≡ trace front.items end.Done = ap (λ (e : End). trace front.items e) done in
    ap (λ (m : ℕ). each f (take m os) end.Done) (add-zero p) ∙ same
    ∙ ap (λ (xs : List Item). trace xs end.Done) (sym (append-nil front.items))
each_further f os p g outs (suc n) here gives = λ done.
    let front : Trace = each f (take p os) end.Done in
    let before = each_further f os p g outs n (λ k below. here k (omega arith)) (λ k below. gives k (omega arith))
    done in
    let ended = ap (λ (t : Trace). t.ending) before in
    let one = each_next f os (p + n) (g n) (outs n) (here n (omega arith)) ended (gives n (omega arith)) in
    let on : p + suc n ≡ p + n + 1 = omega arith in
    ap (λ (m : ℕ). each f (take m os) end.Done) on ∙ one ∙ ap (λ (t : Trace). trace (t.items ++ outs n) end.Done) before
    ∙ ap (λ (xs : List Item). trace xs end.Done) (append_assoc front.items (gathered n outs) (outs n))

module _ (stage : ℕ) (inner : Inner) (env : Numbers) (start : Option ℕ) (places : List ℕ) (xs : List ℤ) (live : ℕ)
    (registers : List ℤ) (p : ℕ) where
  abbrev lane : ℕ → Item
  lane = item_at start places xs

  abbrev expand : Item → Trace
  expand = of_item stage (flat_map inner) env

  abbrev outs_of : ℕ → List Item
  outs_of k = at_place (origin_at start places (p + k)) (values_at inner registers (p + k))

  -- the values of lanes of a batch from one on are what `flatMap` makes of its items
  pub few_added : (e : End) (t : Trace) (n m : ℕ) → live ≤ length xs → trace (lanes live lane) e ≡ t
      → m ≤ length t.items → n ≤ m - p →
      ((k : ℕ) → k < n → given inner registers (p + k) ≡ Ok (values_at inner registers (p + k)))
      → HaveOperands inner env t.items m registers → IsMore expand t.items p (p + n) (gathered n outs_of)
  few_added e t n m sized seen within less valid =
      let size : length (lanes live lane) ≡ length t.items = ap (λ (u : Trace). length u.items) seen in
      let inside : (k : ℕ) → k < n → p + k < live =
      λ k below. omega (arith, below, less, within, size, length_lanes live lane) in
      let value : (j : ℕ) → j < live → get_or (lanes live lane) j (record { origin = 0; value = pos 0 }) ≡ lane j =
      λ j below. get_or_from_slice_get (lanes live lane) j (lane j) (record { origin = 0; value = pos 0 })
      (lane_at live j lane below) in
      subst (λ (u : Trace). HaveOperands inner env u.items m registers
      → IsMore expand u.items p (p + n) (gathered n outs_of)) seen
      (λ operands. each_further expand (lanes live lane) p (λ k. lane (p + k)) outs_of n
      (λ k below. lane_at live (p + k) lane (inside k below))
      (λ k below. ap (flattened stage (lane (p + k)))
      (ap (λ (x : Item). inner_value inner x env) (sym (value (p + k) (inside k below)))
      ∙ operands (p + k) (omega (arith, below, less)) ∙ valid k below)))

-- the items at lanes from one on
pub items_lanes : (items : List Item) (n : ℕ) (g : ℕ → Item) → n ≡ length items
    → ((k : ℕ) → k < n → slice_get items (0 + k) ≡ Some (g k)) → items ≡ lanes n g
items_lanes items n g size here =
    let part : take (0 + n) items ≡ lanes n g = lanes_taken items 0 n g here in
    let whole : take (0 + n) items ≡ items = take_all (0 + n) items (omega (arith, size)) in
    sym whole ∙ part

at_place_more : (o : ℕ) (vs : List ℤ) (v : ℤ)
    → at_place o (vs ++ v ∷ []) ≡ at_place o vs ++ record { origin = o; value = v } ∷ []
at_place_more o [] v = refl
at_place_more o (u ∷ vs) v = ap (λ (xs : List Item). record { origin = o; value = u } ∷ xs) (at_place_more o vs v)

-- what registers hold at a lane, at one place
pub row_lanes : (o : ℕ) (registers : List ℤ) (lane n : ℕ)
    → at_place o (row registers lane n) ≡ lanes n (λ k. record { origin = o; value = at registers (k * 1024 + lane) })
row_lanes o registers lane zero = refl
row_lanes o registers lane (suc n) =
    let v : ℤ = at registers (n * 1024 + lane) in
    at_place_more o (row registers lane n) v
    ∙ ap (λ (xs : List Item). xs ++ record { origin = o; value = v } ∷ []) (row_lanes o registers lane n)

row_more : (column later : List ℤ) (lane n : ℕ) → length column ≡ 1024 → lane < 1024
    → row (column ++ later) lane (suc n) ≡ at column lane ∷ row later lane n
row_more column later lane zero size below =
    let on : 0 * 1024 + lane ≡ lane = omega arith in
    ap (λ (k : ℕ). at (column ++ later) k ∷ []) on
    ∙ ap (λ (z : ℤ). z ∷ []) (get_or_append_left column later (pos 0) lane (omega (arith, size, below)))
row_more column later lane (suc n) size below =
    let on : suc n * 1024 + lane - 1024 ≡ n * 1024 + lane = omega arith in
    let last : at (column ++ later) (suc n * 1024 + lane) ≡ at later (n * 1024 + lane) =
    get_or-append_right column later 1024 (suc n * 1024 + lane) (pos 0) size (omega arith) ∙ ap (at later) on in
    ap (λ (vs : List ℤ). vs ++ at (column ++ later) (suc n * 1024 + lane) ∷ [])
    (row_more column later lane n size below) ∙ ap (λ (z : ℤ). at column lane ∷ (row later lane n ++ z ∷ [])) last

-- the values of one expression more
pub values_more : (e : Long) (es : List Long) (x : Item) (env : Numbers) (column later : List ℤ) (k n : ℕ)
    → length column ≡ 1024 → k < 1024 → long_value e x env ≡ Ok (at column k) → each_value es x env ≡ Ok (row later k n)
    → each_value (e ∷ es) x env ≡ Ok (row (column ++ later) k (suc n))
values_more e es x env column later k n size below one others =
    rw (one, others) (ap (λ (vs : List ℤ). let r : Result (List ℤ) FaultKind = Ok vs in r)
    (sym (row_more column later k n size below)))

length_exprs : (es : List LongExpr) → length (exprs_of es) ≡ length es
length_exprs [] = refl
length_exprs (e ∷ es) = ap suc (length_exprs es)

-- the values of `of` with n operands
pub of_rows : (inner : Inner) (es xs : List LongExpr) (n : ℕ) → inner ≡ values (exprs_of es) → xs ≡ es → length xs ≡ n
    → (registers : List ℤ) (k : ℕ) → given inner registers k ≡ Ok (row registers k n)
of_rows inner es xs n is same size registers k =
    ap (λ (i : Inner). given i registers k) is
    ∙ ap (λ (m : ℕ). let r : Result (List ℤ) FaultKind = Ok (row registers k m) in r)
    (length_exprs es ∙ ap length (sym same) ∙ size)

pub of_operands : (inner : Inner) (es xs : List LongExpr) → inner ≡ values (exprs_of es) → xs ≡ es
    → (x : Item) (env : Numbers) (registers : List ℤ) (k : ℕ)
    → each_value (exprs_of xs) x env ≡ Ok (row registers k (length xs))
    → inner_value inner x env ≡ given inner registers k
of_operands inner es xs is same x env registers k here =
    ap (λ (i : Inner). inner_value i x env) is ∙ ap (λ (ys : List LongExpr). each_value (exprs_of ys) x env) (sym same)
    ∙ here ∙ sym (of_rows inner es xs (length xs) is same refl registers k)

-- the values of ranges with these bounds
pub range_given : (inner : Inner) (a b : Long) → inner ≡ range a b
    → (x : Item) (env : Numbers) (registers : List ℤ) (k : ℕ)
    → (long_value a x env ≡ Ok (at registers k)) × (long_value b x env ≡ Ok (at registers (1024 + k)))
    → inner_value inner x env ≡ given inner registers k
range_given inner a b is x env registers k h = rw is (rw (h.0, h.1) refl)

pub range_closed_given : (inner : Inner) (a b : Long) → inner ≡ range_closed a b
    → (x : Item) (env : Numbers) (registers : List ℤ) (k : ℕ)
    → (long_value a x env ≡ Ok (at registers k)) × (long_value b x env ≡ Ok (at registers (1024 + k)))
    → inner_value inner x env ≡ given inner registers k
range_closed_given inner a b is x env registers k h = rw is (rw (h.0, h.1) refl)

-- two registers side by side
pub beside : (f t : List ℤ) (k : ℕ) → length f ≡ 1024 → k < 1024
    → (at (f ++ t) k ≡ at f k) × (at (f ++ t) (1024 + k) ≡ at t k)
beside f t k size below =
    let on : 1024 + k - 1024 ≡ k = omega arith in (
      get_or_append_left f t (pos 0) k (omega (arith, size, below)),
      get_or-append_right f t 1024 (1024 + k) (pos 0) size (omega arith) ∙ ap (at t) on,
    )

-- there is space for the values of one item more
pub space_more : (n s i m : ℕ) → 0 < n → i < m → m ≤ s / n → i * n + n ≤ s
space_more n s i m some below few =
    let all : (i + 1) * n ≤ s = (le-div_iff_mul-le some).0 (omega (arith, below, few)) in
    let on : (i + 1) * n ≡ i * n + n = grind (arith) in
    omega (arith, all, on)

module _ (inner : Inner) (registers : List ℤ) (from : ℕ) (place : ℕ → ℕ) (before : List Item) where
  none_gathered : (n : ℕ) → ((k : ℕ) → given inner registers k ≡ Ok [])
      → gathered n (λ k. at_place (place (from + k)) (values_at inner registers (from + k))) ≡ []
  none_gathered zero empty = refl
  none_gathered (suc n) empty =
      let last : values_at inner registers (from + n) ≡ [] = ap valid_values (empty (from + n)) in
      ap (λ (xs : List Item). xs ++ at_place (place (from + n)) (values_at inner registers (from + n)))
      (none_gathered n empty) ∙ ap (at_place (place (from + n))) last

  -- inner streams without values
  pub empty_put : (n next : ℕ) (item : ℕ → Item) → ((k : ℕ) → given inner registers k ≡ Ok []) → next ≤ 1024
      → lanes next item ≡ before → ArePut inner registers from place before n next item
  empty_put n next item empty within is = record {
    valid = λ k below. empty (from + k) ∙ ap (λ (vs : List ℤ). let r : Result (List ℤ) FaultKind = Ok vs in r)
        (sym (ap valid_values (empty (from + k))));
    put = is ∙ sym (append-nil before) ∙ ap (λ (xs : List Item). before ++ xs) (sym (none_gathered n empty));
    within = within;
  }

  -- the values of one lane more, after those that are there
  pub put_more : (n next size o : ℕ) (vs : List ℤ) (item item' : ℕ → Item) → given inner registers (from + n) ≡ Ok vs
      → o ≡ place (from + n) → at_place o vs ≡ lanes size (λ k. item' (next + k))
      → ((k : ℕ) → k < next → item' k ≡ item k) → next + size ≤ 1024
      → ArePut inner registers from place before n next item
      → ArePut inner registers from place before (n + 1) (next + size) item'
  put_more n next size o vs item item' here there put kept within so_far =
      let outs : ℕ → List Item = λ k. at_place (place (from + k)) (values_at inner registers (from + k)) in
      let found : vs ≡ values_at inner registers (from + n) = sym (ap valid_values here) in
      let first : lanes next item' ≡ before ++ gathered n outs = lanes_same next item' item kept ∙ so_far.put in
      let last : lanes size (λ k. item' (next + k)) ≡ outs n =
      sym put ∙ ap (λ (i : ℕ). at_place i vs) there ∙ ap (at_place (place (from + n))) found in
      record {
        valid = λ k below.
            dite (ℕ_discrete k n)
            (λ is. subst (λ (j : ℕ). given inner registers (from + j) ≡ Ok (values_at inner registers (from + j)))
            (sym is) (here ∙ ap (λ (ws : List ℤ). let r : Result (List ℤ) FaultKind = Ok ws in r) found))
            (λ other. so_far.valid k (omega arith));
        put = lanes_add next size item' ∙ ap (λ (ys : List Item). ys ++ lanes size (λ k. item' (next + k))) first
            ∙ ap (λ (ys : List Item). (before ++ gathered n outs) ++ ys) last
            ∙ append_assoc before (gathered n outs) (outs n)
            ∙ ap (λ (m : ℕ). before ++ gathered m outs) (sym (add-one n));
        within = within;
      }
