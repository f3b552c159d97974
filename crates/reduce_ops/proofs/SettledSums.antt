-- What settles an exact sum.
use Rattle.std.proofs.Common.{◌≡◌, ℕ, ℤ, pos, true, false, Some, Result, Ok, Err, sym, refl, ap, subst, ◌∙◌}
use Rattle.lambda_values.specs.Operators.{is_long}
use Rattle.lambda_values.specs.declared.fault.FaultKind.TheVariants as kind
use Rattle.lambda_values.specs.declared.item.Item.{Item}
use Rattle.trace.specs.declared.item.Fault.{Fault}
use Rattle.trace.specs.declared.item.End.{End}
use Rattle.trace.specs.declared.item.End.TheVariants as end
use Rattle.trace.specs.Trace.{Trace, append}
use Rattle.reduce_ops.specs.declared.exact.Exact.{Exact}
use Rattle.reduce_ops.specs.declared.exact.Exact.TheVariants as exact
use Rattle.reduce_ops.specs.declared.exact_part.ExactPart.TheVariants as piece
use Rattle.reduce_ops.specs.declared.sum_part.SumPart.{SumPart}
use Rattle.reduce_ops.specs.declared.sum_part.SumPart.TheVariants as part
use Rattle.reduce_ops.specs.ExactSums.{exact_from, exact_end, exact_sum, sum_on}
use Rattle.reduce_ops.specs.Reaches.{IsExact, IsOver, IsPiece, StandsFor, is_ended, is_fault, is_running, is_settled}
use Rattle.reduce_ops.proofs.ExactLemmas.{ended_stays, err_stays, joined_sum, on_fault, over_stays, sum_joined}
use Rattle.reduce_ops.proofs.ExactLemmas.{the_long}

the_fault : (e : End) → is_fault e ≡ true → (f : Fault) × (e ≡ end.Fault f)
the_fault end.Done h = absurd (let z : false ≡ true = h in cc)
the_fault (end.Fault f) h = (f, refl)

-- after what settles a piece, nothing matters
pub sum_settled : (n : ℕ) (p : SumPart) (a b : Trace) → is_settled p ≡ true → StandsFor n p a
    → StandsFor n p (append a b)
sum_settled n (part.Piece (piece.Within r e)) a b h s =
    let f = the_fault e h in
    subst (λ (t : Trace). IsPiece (piece.Within r e) t) (sym (on_fault a b f.0 (sym s.1 ∙ f.1))) s
sum_settled n (part.Piece piece.Over) a b h s = over_stays a b s
sum_settled n (part.Running r) a b h s = ended_stays n a b r h s
sum_settled n part.Unknown a b h s = tt

-- ---- whatever came before

module _ (n : ℕ) where
  faulted_end : (f : Fault) (r : Result ℤ Item) → (g : Fault) × (exact_end n (end.Fault f) r ≡ Err g)
  faulted_end f (Ok z) = (f, refl)
  faulted_end f (Err x) = (record { kind = kind.Overflow; stage = n; origin = Some x.origin }, refl)

  over_end : (e : End) (r : Result ℤ Item) (x : Item) → r ≡ Err x → (g : Fault) × (exact_end n e r ≡ Err g)
  over_end e r x h = (record { kind = kind.Overflow; stage = n; origin = Some x.origin }, ap (exact_end n e) h)

  -- the sum of a walk that goes on with this one has a fault
  abbrev pub Faults : Trace → Type 0
  Faults t = (z : ℤ) → is_long z ≡ true → (g : Fault) × (sum_on n (Ok z) t ≡ Err g)

  faulted : (t : Trace) → is_fault t.ending ≡ true → Faults t
  faulted t h z long =
      let f = the_fault t.ending h in
      let g = faulted_end f.0 (exact_from z t.items) in
      (g.0, ap (λ e. exact_end n e (exact_from z t.items)) f.1 ∙ g.1)

  overflows : (t : Trace) → IsOver t.items → Faults t
  overflows t over z long = let x = over z long in over_end t.ending (exact_from z t.items) x.0 x.1

  after_any : (a t : Trace) → Faults t → (g : Fault) × (exact_sum n (append a t) ≡ Err g)
  after_any a t faults = by (exact_sum n a) refl
    where
      by : (r : Result ℤ Fault) → exact_sum n a ≡ r → (g : Fault) × (exact_sum n (append a t) ≡ Err g)
      by (Ok z) h =
          let g = faults z (the_long n a z h) in
          (g.0, sum_joined n a t ∙ ap (λ q. sum_on n q t) h ∙ g.1)
      by (Err g) h = (g, sum_joined n a t ∙ ap (λ q. sum_on n q t) h)

  -- and so have all that go on with it
  settles : (t : Trace) → Faults t → (a b c : Trace)
      → exact_sum n (append (append a t) b) ≡ exact_sum n (append (append a t) c)
  settles t faults a b c =
      let g = after_any a t faults in
      joined_sum n (append a t) b (Err g.0) (sym g.1) ∙ sym (joined_sum n (append a t) c (Err g.0) (sym g.1))

-- a part of a piece that is settled settles the sum, whatever came before the piece
pub sum_settles : (n : ℕ) (p : SumPart) (t : Trace) → is_settled p ≡ true → is_running p ≡ false → StandsFor n p t
    → (a b c : Trace) → exact_sum n (append (append a t) b) ≡ exact_sum n (append (append a t) c)
sum_settles n (part.Piece (piece.Within r e)) t h k s = settles n t (faulted n t (ap is_fault (sym s.1) ∙ h))
sum_settles n (part.Piece piece.Over) t h k s = settles n t (overflows n t s)
sum_settles n (part.Running r) t h k s = absurd (let z : true ≡ false = k in cc)
sum_settles n part.Unknown t h k s = absurd (let z : false ≡ true = h in cc)

-- a part of a walk from the first item on that is settled has a fault, whatever comes after the walk
first_faults : (n : ℕ) (t : Trace) (r : Exact) → is_ended r ≡ true → IsExact n t r
    → (g : Fault) × ((b : Trace) → exact_sum n (append t b) ≡ Err g)
first_faults n t (exact.Sum z) h s = absurd (let k : false ≡ true = h in cc)
first_faults n t (exact.Fault f) h s = (f, λ b. joined_sum n t b (Err f) (sym s))
first_faults n t exact.Search h s = (
  record { kind = kind.Overflow; stage = n; origin = Some s.0.origin },
  λ b. ap (exact_end n (append t b).ending) (err_stays (pos 0) s.0 t b s.1),
)

pub first_settles : (n : ℕ) (p : SumPart) (t : Trace) → is_settled p ≡ true → is_running p ≡ true → StandsFor n p t
    → (b c : Trace) → exact_sum n (append t b) ≡ exact_sum n (append t c)
first_settles n (part.Piece p) t h k s b c = absurd (let z : false ≡ true = k in cc)
first_settles n (part.Running r) t h k s b c = let g = first_faults n t r h s in g.1 b ∙ sym (g.1 c)
first_settles n part.Unknown t h k s b c = absurd (let z : false ≡ true = k in cc)
