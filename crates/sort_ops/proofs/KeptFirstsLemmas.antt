-- Parts that keep the firsts of a walk, or enough of them.
use Rattle.std.proofs.Common.{◌≡◌, ℕ, Bool, true, false, List, [], ◌++◌, Option, refl, sym, ap, subst, ◌∙◌}
use Rattle.lambda_values.specs.declared.item.Item.{Item}
use Rattle.trace.specs.declared.item.Fault.{Fault}
use Rattle.trace.specs.declared.item.End.{End}
use Rattle.trace.specs.declared.item.End.TheVariants as end
use Rattle.trace.specs.Trace.{Trace, trace, nothing, append, then_on}
use Rattle.trace.proofs.JoinLemmas.{append_faulted, append_grouped, append_nothing}
use Rattle.sort_ops.specs.Firsts.{distinct_walk, firsts}
use Rattle.sort_ops.specs.Parts.{AbstractFirsts, AbstractKept, AreEnough, AreFirsts, firsts_merged, firsts_of}
use Rattle.sort_ops.specs.Parts.{done_after, trace_of}
use Rattle.sort_ops.proofs.FirstLemmas.{firsts_side, firsts_twice}
use Rattle.sort_ops.proofs.EnoughLemmas.{enough_after, enough_before, enough_stays}

-- the firsts of a whole walk
whole_of : (m : Option ℕ) (p : AbstractFirsts) (t : Trace) → AreFirsts m p t → p.full ≡ false → p.kept ≡ firsts_of t
whole_of m p t are open_yet =
    let a = are.front.0 in
    are.front.3 ∙ ap firsts_of (sym (are.front.2 ∙ ap (append a) (are.front.4 open_yet) ∙ append_nothing a))

-- the items of a part have different values
pub own_items : (m : Option ℕ) (p : AbstractFirsts) (t : Trace) → AreFirsts m p t
    → firsts [] p.kept.items ≡ p.kept.items
own_items m p t are =
    let is : p.kept.items ≡ firsts [] are.front.0.items = ap (λ (k : AbstractKept). k.items) are.front.3 in
    ap (firsts []) is ∙ firsts_twice [] [] are.front.0.items ∙ sym is

-- a part that isn't full goes on with a walk, and keeps it whole
pub goes_on : (m : Option ℕ) (p new : AbstractFirsts) (t u : Trace) → p.full ≡ false → new.most ≡ p.most
    → new.kept ≡ firsts_merged p.kept (firsts_of u)
    → (new.full ≡ true → AreEnough p.most new.kept.items) → AreFirsts m p t → AreFirsts m new (append t u)
goes_on m p new t u open_yet same is enough are = record {
  most = same ∙ are.most;
  enough = λ full. subst (λ (k : Option ℕ). AreEnough k new.kept.items) are.most (enough full);
  front = (
    append t u,
    nothing,
    sym (append_nothing (append t u)),
    is ∙ ap (λ (k : AbstractKept). firsts_merged k (firsts_of u)) (whole_of m p t are open_yet) ∙ firsts_side t u,
    λ h. refl,
  );
}

-- a full part stays as it is
pub stays_full : (m : Option ℕ) (p : AbstractFirsts) (t u : Trace) → p.full ≡ true → AreFirsts m p t
    → AreFirsts m p (append t u)
stays_full m p t u full are =
    let a = are.front.0 in
    let b = are.front.1 in
    record {
      most = are.most;
      enough = are.enough;
      front = (
        a,
        append b u,
        ap (λ (w : Trace). append w u) are.front.2 ∙ append_grouped a b u,
        are.front.3,
        λ h. absurd (let z : true ≡ false = sym full ∙ h in cc),
      );
    }

-- and so does one that a fault has ended
pub stays_faulted : (m : Option ℕ) (p : AbstractFirsts) (t u : Trace) (f : Fault) → p.kept.ending ≡ end.Fault f
    → AreFirsts m p t → AreFirsts m p (append t u)
stays_faulted m p t u f is are =
    let a = are.front.0 in
    let b = are.front.1 in
    let faulted : a.ending ≡ end.Fault f = sym (ap (λ (k : AbstractKept). k.ending) are.front.3) ∙ is in
    let same : append t u ≡ a = ap (λ (w : Trace). append w u) are.front.2 ∙ append_grouped a b u
    ∙ append_faulted a (append b u) f faulted in
    record {
      most = are.most;
      enough = are.enough;
      front = (a, nothing, same ∙ sym (append_nothing a), are.front.3, λ h. refl);
    }

-- two parts side by side, of which the left one isn't full
pub side_by_side : (m : Option ℕ) (p q new : AbstractFirsts) (t u : Trace) → p.full ≡ false → p.kept.ending ≡ end.Done
    → new.most ≡ p.most → new.kept ≡ firsts_merged p.kept q.kept
    → (q.full ≡ true → new.full ≡ true) → (new.full ≡ true → q.full ≡ false → AreEnough p.most new.kept.items)
    → AreFirsts m p t → AreFirsts m q u → AreFirsts m new (append t u)
side_by_side m p q new t u open_yet done same is keeps enough are these =
    let a = these.front.0 in
    let b = these.front.1 in
    let joined : append t u ≡ append (append t a) b = ap (append t) these.front.2 ∙ sym (append_grouped t a b) in
    let gives : new.kept ≡ firsts_of (append t a) =
    is ∙ (λ i. firsts_merged (whole_of m p t are open_yet i) (these.front.3 i)) ∙ firsts_side t a in
    let items : new.kept.items ≡ firsts [] (append t a).items = ap (λ (k : AbstractKept). k.items) gives in
    let running : t.ending ≡ end.Done = sym (ap (λ (k : AbstractKept). k.ending) (whole_of m p t are open_yet))
    ∙ done in
    let by_right : q.full ≡ true → AreEnough m new.kept.items = λ h.
    subst (AreEnough m) (sym (items ∙ after t a running))
    (enough_after m t.items a.items (subst (AreEnough m) (ap (λ (k : AbstractKept). k.items) these.front.3)
    (these.enough h))) in
    record {
      most = same ∙ are.most;
      enough = λ full. by q.full refl full by_right
          (λ h. subst (λ (k : Option ℕ). AreEnough k new.kept.items) are.most (enough full h));
      front = (append t a, b, joined, gives, λ h. these.front.4 (not_full q.full refl h keeps));
    }
  where
    after : (t a : Trace) → t.ending ≡ end.Done → firsts [] (append t a).items ≡ firsts [] (t.items ++ a.items)
    after t a done = ap (λ (e : End). firsts [] (then_on t.items e a).items) done

    by : {P : Type 0} (b : Bool) → b ≡ b → new.full ≡ true → (b ≡ true → P) → (b ≡ false → P) → P
    by true s full yes_case no_case = yes_case refl
    by false s full yes_case no_case = no_case refl

    not_full : (b : Bool) → b ≡ b → new.full ≡ false → (b ≡ true → new.full ≡ true) → b ≡ false
    not_full true s h keeps = let z : true ≡ false = sym (keeps refl) ∙ h in cc
    not_full false s h keeps = refl

-- what a part gives
pub gives_first : (m : Option ℕ) (p : AbstractFirsts) (t : Trace) → AreFirsts m p t
    → done_after m (trace_of p.kept) ≡ done_after m (distinct_walk [] t)
gives_first m p t are = by p.full refl
  where
    a : Trace
    a = are.front.0

    of_front : done_after m (trace_of p.kept) ≡ done_after m (distinct_walk [] a)
    of_front = ap (λ (k : AbstractKept). done_after m (trace_of k)) are.front.3

    by : (b : Bool) → p.full ≡ b → done_after m (trace_of p.kept) ≡ done_after m (distinct_walk [] t)
    by false h = ap (λ (k : AbstractKept). done_after m (trace_of k)) (whole_of m p t are h)
    by true h =
        of_front ∙ sym (ap (λ (w : Trace). done_after m (distinct_walk [] w)) are.front.2
        ∙ enough_stays m a are.front.1 (subst (AreEnough m) (ap (λ (k : AbstractKept). k.items) are.front.3)
        (are.enough h)))

-- a walk with enough firsts settles what is given of any walk that it is a part of
pub full_settles : (m : Option ℕ) (p : AbstractFirsts) (t : Trace) → p.full ≡ true → AreFirsts m p t → (x y : Trace)
    → done_after m (distinct_walk [] (append (append x t) y)) ≡ done_after m (distinct_walk [] (append x t))
full_settles m p t full are x y = by x.items x.ending
  where
    enough : AreEnough m (firsts [] t.items)
    enough = subst (λ (w : Trace). AreEnough m (firsts [] w.items)) (sym are.front.2)
        (enough_before m are.front.0 are.front.1
        (subst (AreEnough m) (ap (λ (k : AbstractKept). k.items) are.front.3) (are.enough full)))

    by : (xs : List Item) (e : End) → done_after m (distinct_walk [] (append (then_on xs e t) y))
        ≡ done_after m (distinct_walk [] (then_on xs e t))
    by xs end.Done = enough_stays m (trace (xs ++ t.items) t.ending) y (enough_after m xs t.items enough)
    by xs (end.Fault f) = refl

-- the part of no item
pub none_kept : (m : Option ℕ) (p : AbstractFirsts) → p.most ≡ m → p.kept ≡ firsts_of nothing → p.full ≡ false
    → AreFirsts m p nothing
none_kept m p most is empty = record {
  most = most;
  enough = λ h. absurd (let z : true ≡ false = sym h ∙ empty in cc);
  front = (nothing, nothing, sym (append_nothing nothing), is, λ h. refl);
}

-- a part that ends in a fault is of a walk that ends so
pub faulted_whole : (m : Option ℕ) (p : AbstractFirsts) (t : Trace) (f : Fault) → p.kept.ending ≡ end.Fault f
    → AreFirsts m p t → t.ending ≡ end.Fault f
faulted_whole m p t f is are =
    let a = are.front.0 in
    let faulted : a.ending ≡ end.Fault f = sym (ap (λ (k : AbstractKept). k.ending) are.front.3) ∙ is in
    ap (λ (w : Trace). w.ending) (are.front.2 ∙ append_faulted a are.front.1 f faulted) ∙ faulted
