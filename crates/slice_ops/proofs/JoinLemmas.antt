-- What slices keep of joined pieces.
use Rattle.std.proofs.Common.{◌≡◌, ℕ, zero, suc, ◌<◌, ◌≤◌, Bool, true, false, not, nat_lt, if◌then◌else◌, is_some, List}
use Rattle.std.proofs.Common.{[], ◌∷◌, ◌++◌, length, length-append, take, Option, Some, None, refl, sym, ap, subst, ◌∙◌}
use Rattle.std.proofs.Common.{arith}
use Rattle.std.specs.Option.{option_or}
use Rattle.std.proofs.Math.Seq.{take-append-add}
use Rattle.std.proofs.lemmas.List.{take-append-le}
use Rattle.std.proofs.lemmas.Bool.Decides.{nat_tests}
use Rattle.lambda_values.specs.Earlier.{Numbers}
use Rattle.lambda_values.specs.Term.{Truth}
use Rattle.lambda_values.specs.declared.item.Item.{Item}
use Rattle.trace.specs.declared.item.End.{End}
use Rattle.trace.specs.declared.item.End.TheVariants as end
use Rattle.trace.specs.Stops.{shift, stop_at, kept_before}
use Rattle.trace.specs.Trace.{Trace, trace, then_on, append}
use Rattle.trace.proofs.StopLemmas.{stop_joined, stop_within}
use Rattle.slice_ops.specs.declared.slice_part.SlicePart.{SlicePart}
use Rattle.slice_ops.specs.Slices.{AbstractSlice, limit, skip, take_while, drop_while, slice_of, limited, taken}
use Rattle.slice_ops.specs.Slices.{front_ends}
use Rattle.slice_ops.specs.Parts.{kept_of, stops, StandsFor, IsJoined}

-- ---- limit

pub at_least : (m k : ℕ) → nat_lt m k ≡ false → k ≤ m
at_least m k h = grind (arith, nat_tests)

pub is_below : (m k : ℕ) → m < k → nat_lt m k ≡ true
is_below m k h = grind (arith, nat_tests)

pub is_above : (m k : ℕ) → nat_lt m k ≡ true → m < k
is_above m k h = grind (arith, nat_tests)

is_enough : (m k : ℕ) → k ≤ m → nat_lt m k ≡ false
is_enough m k h = grind (arith, nat_tests)

pub limited_enough : (k : ℕ) (t : Trace) → k ≤ length t.items → limited k t ≡ trace (take k t.items) end.Done
limited_enough k t h = ap (λ (b : Bool). if b then t else trace (take k t.items) end.Done)
    (is_enough (length t.items) k h)

pub limited_few : (k : ℕ) (t : Trace) → nat_lt (length t.items) k ≡ true → limited k t ≡ t
limited_few k t h = ap (λ (b : Bool). if b then t else trace (take k t.items) end.Done) h

pub limit_stays : (k : ℕ) (xs : List Item) (e : End) (b : Trace) → k ≤ length xs
    → limited k (then_on xs e b) ≡ limited k (trace xs e)
limit_stays k xs end.Done b h =
    let l = length-append xs b.items in
    limited_enough k (trace (xs ++ b.items) b.ending) (omega arith)
    ∙ ap (λ (ys : List Item). trace ys end.Done) (take-append-le k xs b.items h)
    ∙ sym (limited_enough k (trace xs end.Done) h)
limit_stays k xs (end.Fault f) b h = refl

longer : (xs : List Item) (e : End) (b : Trace) (k : ℕ) → k ≤ length xs → k ≤ length (then_on xs e b).items
longer xs end.Done b k h = let l = length-append xs b.items in omega arith
longer xs (end.Fault f) b k h = h

pub take_twice : (k j : ℕ) (ys : List Item) → k ≤ j → take k (take j ys) ≡ take k ys
take_twice zero j [] h = refl
take_twice zero zero (y ∷ ys) h = refl
take_twice zero (suc j) (y ∷ ys) h = refl
take_twice (suc k) zero ys h = absurd (omega arith)
take_twice (suc k) (suc j) [] h = refl
take_twice (suc k) (suc j) (y ∷ ys) h = ap (λ (zs : List Item). y ∷ zs) (take_twice k j ys (omega arith))

take_inner : (k j : ℕ) (xs ys : List Item) → k ≤ j → take k (xs ++ take j ys) ≡ take k (xs ++ ys)
take_inner k j [] ys h = take_twice k j ys h
take_inner zero j (x ∷ xs) ys h = refl
take_inner (suc k) j (x ∷ xs) ys h = ap (λ (zs : List Item). x ∷ zs) (take_inner k j xs ys (omega arith))

pub take_all_of : (k : ℕ) (ys : List Item) → k ≤ length ys → length (take k ys) ≡ k
take_all_of zero [] h = refl
take_all_of zero (y ∷ ys) h = refl
take_all_of (suc k) [] h = absurd (omega arith)
take_all_of (suc k) (y ∷ ys) h = ap suc (take_all_of k ys (omega arith))

-- a limited right piece after a left one
module _ (k : ℕ) (xs : List Item) (b : Trace) where
  by_size : (t : Bool) → nat_lt (length b.items) k ≡ t
      → limited k (trace (xs ++ (limited k b).items) (limited k b).ending) ≡ limited k (trace (xs ++ b.items) b.ending)
  by_size true h = ap (λ (t : Trace). limited k (trace (xs ++ t.items) t.ending)) (limited_few k b h)
  by_size false h =
      let many = at_least (length b.items) k h in
      let size = take_all_of k b.items many in
      let l = length-append xs (take k b.items) in
      let m = length-append xs b.items in
      ap (λ (t : Trace). limited k (trace (xs ++ t.items) t.ending)) (limited_enough k b many)
      ∙ limited_enough k (trace (xs ++ take k b.items) end.Done) (omega arith)
      ∙ ap (λ (ys : List Item). trace ys end.Done) (take_inner k k xs b.items (omega arith))
      ∙ sym (limited_enough k (trace (xs ++ b.items) b.ending) (omega arith))

  size_by : (t : Bool) → nat_lt (length b.items) k ≡ t
      → nat_lt (length (xs ++ (limited k b).items)) k ≡ nat_lt (length (xs ++ b.items)) k
  size_by true h = ap (λ (t : Trace). nat_lt (length (xs ++ t.items)) k) (limited_few k b h)
  size_by false h =
      let many = at_least (length b.items) k h in
      let size = take_all_of k b.items many in
      let l = length-append xs (take k b.items) in
      let m = length-append xs b.items in
      ap (λ (t : Trace). nat_lt (length (xs ++ t.items)) k) (limited_enough k b many)
      ∙ is_enough (length (xs ++ take k b.items)) k (omega arith)
      ∙ sym (is_enough (length (xs ++ b.items)) k (omega arith))

-- ---- takeWhile

module _ (g : Item → Option End) where
  pub front_stays : (xs : List Item) (e : End) (b : Trace) (q : ℕ × End) → stop_at g xs ≡ Some q
      → kept_before (stop_at g (then_on xs e b).items) (then_on xs e b) ≡ kept_before (stop_at g xs) (trace xs e)
  front_stays xs end.Done b q h =
      let few : q.0 ≤ length xs = let w = stop_within g xs q.0 q.1 h in omega arith in
      ap (λ o. kept_before o (trace (xs ++ b.items) b.ending))
      (stop_joined g xs b.items ∙ ap (λ o. option_or o (shift (length xs) (stop_at g b.items))) h)
      ∙ ap (λ (ys : List Item). trace ys q.1) (take-append-le q.0 xs b.items few)
      ∙ sym (ap (λ o. kept_before o (trace xs end.Done)) h)
  front_stays xs (end.Fault f) b q h = refl

  pub still_stops : (xs : List Item) (e : End) (b : Trace) (q : ℕ × End) → stop_at g xs ≡ Some q
      → stop_at g (then_on xs e b).items ≡ Some q
  still_stops xs end.Done b q h = stop_joined g xs b.items
      ∙ ap (λ o. option_or o (shift (length xs) (stop_at g b.items))) h
  still_stops xs (end.Fault f) b q h = h

  pub after_front : (xs ys : List Item) → stop_at g xs ≡ None → stop_at g (xs ++ ys) ≡ shift (length xs) (stop_at g ys)
  after_front xs ys h = stop_joined g xs ys ∙ ap (λ o. option_or o (shift (length xs) (stop_at g ys))) h

  kept_later : (xs : List Item) (b : Trace) (o : Option (ℕ × End))
      → trace (xs ++ (kept_before o b).items) (kept_before o b).ending
      ≡ kept_before (shift (length xs) o) (trace (xs ++ b.items) b.ending)
  kept_later xs b None = refl
  kept_later xs b (Some q) = ap (λ (ys : List Item). trace ys q.1) (sym (take-append-add xs b.items q.0))

shifted_is : (k : ℕ) (o : Option (ℕ × End)) → is_some (shift k o) ≡ is_some o
shifted_is k None = refl
shifted_is k (Some q) = refl

pub not_some : {A : Type 0} → (o : Option A) → is_some o ≡ false → o ≡ None
not_some None h = refl
not_some (Some a) h = absurd (let k : true ≡ false = h in cc)

pub the_some : {A : Type 0} → (o : Option A) → is_some o ≡ true → (a : A) × (o ≡ Some a)
the_some None h = absurd (let k : false ≡ true = h in cc)
the_some (Some a) h = (a, refl)

not_true : (b : Bool) → not b ≡ true → b ≡ false
not_true true h = absurd (let k : false ≡ true = h in cc)
not_true false h = refl

pub not_false : (b : Bool) → not b ≡ false → b ≡ true
not_false true h = refl
not_false false h = absurd (let k : true ≡ false = h in cc)

-- ---- parts

module _ (n : ℕ) (env : Numbers) (a b : Trace) where
  -- after a piece that stops, nothing matters
  kept_stays : (d : AbstractSlice) → stops d n env a ≡ true → kept_of d n env (append a b) ≡ kept_of d n env a
  kept_stays (limit k) h = limit_stays k a.items a.ending b
      (at_least (length a.items) k (not_true (nat_lt (length a.items) k) h))
  kept_stays (skip k) h = absurd (let z : false ≡ true = h in cc)
  kept_stays (take_while p) h = let s = the_some (stop_at (front_ends p n env) a.items) h in
      front_stays (front_ends p n env) a.items a.ending b s.0 s.1
  kept_stays (drop_while p) h = absurd (let z : false ≡ true = h in cc)

  stop_stays : (d : AbstractSlice) → stops d n env a ≡ true → stops d n env (append a b) ≡ true
  stop_stays (limit k) h = ap not (is_enough (length (append a b).items) k
      (longer a.items a.ending b k (at_least (length a.items) k (not_true (nat_lt (length a.items) k) h))))
  stop_stays (skip k) h = absurd (let z : false ≡ true = h in cc)
  stop_stays (take_while p) h = let s = the_some (stop_at (front_ends p n env) a.items) h in
      ap is_some (still_stops (front_ends p n env) a.items a.ending b s.0 s.1)
  stop_stays (drop_while p) h = absurd (let z : false ≡ true = h in cc)

  pub stays : (d : AbstractSlice) (p : SlicePart) → p.stopped ≡ true → StandsFor d n env p a
      → StandsFor d n env p (append a b)
  stays d p h s = let k = sym s.stopped ∙ h in
      record {
        slice = s.slice;
        stage = s.stage;
        chunk = s.chunk ∙ sym (kept_stays d k);
        stopped = h ∙ sym (stop_stays d k);
      }

  -- before that, a piece is kept whole
  pub whole : (d : AbstractSlice) → stops d n env a ≡ false → kept_of d n env a ≡ a
  whole (limit k) h = limited_few k a (not_false (nat_lt (length a.items) k) h)
  whole (skip k) h = refl
  whole (take_while p) h = ap (λ o. kept_before o a) (not_some (stop_at (front_ends p n env) a.items) h)
  whole (drop_while p) h = refl

  done_joined : (c : Trace) → a.ending ≡ end.Done → append a c ≡ trace (a.items ++ c.items) c.ending
  done_joined c h = ap (λ (e : End). then_on a.items e c) h

  -- the parts of two pieces, where the left one goes on
  pub limits_join : (k : ℕ) → a.ending ≡ end.Done → limited k (append a (limited k b)) ≡ limited k (append a b)
  limits_join k done = ap (limited k) (done_joined (limited k b) done)
      ∙ by_size k a.items b (nat_lt (length b.items) k) refl ∙ sym (ap (limited k) (done_joined b done))

  pub sizes_join : (k : ℕ) → a.ending ≡ end.Done
      → nat_lt (length (append a (limited k b)).items) k ≡ nat_lt (length (append a b).items) k
  sizes_join k done =
      ap (λ (t : Trace). nat_lt (length t.items) k) (done_joined (limited k b) done)
      ∙ size_by k a.items b (nat_lt (length b.items) k) refl
      ∙ sym (ap (λ (t : Trace). nat_lt (length t.items) k) (done_joined b done))

  pub fronts_join : (p : Truth) → a.ending ≡ end.Done → stop_at (front_ends p n env) a.items ≡ None
      → append a (taken p n env b) ≡ taken p n env (append a b)
  fronts_join p done h =
      let g = front_ends p n env in
      done_joined (taken p n env b) done ∙ kept_later g a.items b (stop_at g b.items)
      ∙ ap (λ o. kept_before o (trace (a.items ++ b.items) b.ending)) (sym (after_front g a.items b.items h))
      ∙ sym (ap (taken p n env) (done_joined b done))

  pub stops_join : (p : Truth) → a.ending ≡ end.Done → stop_at (front_ends p n env) a.items ≡ None
      → is_some (stop_at (front_ends p n env) b.items) ≡ is_some (stop_at (front_ends p n env) (append a b).items)
  stops_join p done h =
      let g = front_ends p n env in
      sym (ap (λ (t : Trace). is_some (stop_at g t.items)) (done_joined b done)
      ∙ ap is_some (after_front g a.items b.items h) ∙ shifted_is (length a.items) (stop_at g b.items))

  module _ (p q r : SlicePart) (goes_on : p.stopped ≡ false) (done : p.chunk.ending ≡ end.Done) where
    joined_as : (d : AbstractSlice) → StandsFor d n env p a → StandsFor d n env q b
        → IsJoined d (append p.chunk q.chunk) q.stopped r.chunk r.stopped
        → (r.chunk ≡ kept_of d n env (append a b)) × (r.stopped ≡ stops d n env (append a b))
    joined_as (limit k) s t j =
        let left : p.chunk ≡ a = s.chunk ∙ whole (limit k) (sym s.stopped ∙ goes_on) in
        let last : a.ending ≡ end.Done = sym (ap (λ (u : Trace). u.ending) left) ∙ done in (
          j.0 ∙ (λ i. limited k (append (left i) (t.chunk i))) ∙ limits_join k last,
          j.1 ∙ (λ i. not (nat_lt (length (append (left i) (t.chunk i)).items) k)) ∙ ap not (sizes_join k last),
        )
    joined_as (skip k) s t j = let left : p.chunk ≡ a = s.chunk in
        (j.0 ∙ (λ i. append (left i) (t.chunk i)), j.1 ∙ t.stopped)
    joined_as (take_while f) s t j =
        let left : p.chunk ≡ a = s.chunk ∙ whole (take_while f) (sym s.stopped ∙ goes_on) in
        let last : a.ending ≡ end.Done = sym (ap (λ (u : Trace). u.ending) left) ∙ done in
        let none = not_some (stop_at (front_ends f n env) a.items) (sym s.stopped ∙ goes_on) in
        (j.0 ∙ (λ i. append (left i) (t.chunk i)) ∙ fronts_join f last none, j.1 ∙ t.stopped ∙ stops_join f last none)
    joined_as (drop_while f) s t j = let left : p.chunk ≡ a = s.chunk in
        (j.0 ∙ (λ i. append (left i) (t.chunk i)), j.1 ∙ t.stopped)

    pub joined : (d : AbstractSlice) → StandsFor d n env p a → StandsFor d n env q b
        → slice_of r.slice.now ≡ slice_of p.slice.now → r.stage ≡ p.stage
        → IsJoined (slice_of p.slice.now) (append p.chunk q.chunk) q.stopped r.chunk r.stopped
        → StandsFor d n env r (append a b)
    joined d s t slice stage j =
        let k = joined_as d s t (subst (λ (e : AbstractSlice). IsJoined e (append p.chunk q.chunk) q.stopped r.chunk
        r.stopped) s.slice j) in
        record { slice = slice ∙ s.slice; stage = stage ∙ s.stage; chunk = k.0; stopped = k.1 }
