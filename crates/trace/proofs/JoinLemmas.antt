-- How walks are joined, and how what the stages make of them is.
use Rattle.std.proofs.Common.{◌≡◌, ℕ, suc, List, [], ◌∷◌, ◌++◌, refl, sym, ap, subst, ◌∙◌, append_assoc, rules}
use Rattle.lambda_values.specs.Earlier.{Numbers}
use Rattle.lambda_values.specs.declared.item.Item.{Item}
use Rattle.trace.specs.declared.item.Fault.{Fault}
use Rattle.trace.specs.declared.item.End.{End}
use Rattle.trace.specs.declared.item.End.TheVariants as end
use Rattle.trace.specs.Trace.{Trace, trace, nothing, then_on, append, each}
use Rattle.trace.specs.Stages.{AbstractStage, of_item, pipe}

then_on_nothing : (xs : List Item) (e : End) → then_on xs e nothing ≡ trace xs e
then_on_nothing xs end.Done = search rules
then_on_nothing xs (end.Fault f) = refl

-- nothing, joined from the right, changes nothing
pub append_nothing : (a : Trace) → append a nothing ≡ a
append_nothing a = then_on_nothing a.items a.ending

then_on_grouped : (xs : List Item) (e : End) (b c : Trace) → append (then_on xs e b) c ≡ then_on xs e (append b c)
then_on_grouped xs end.Done b c = joined_grouped xs b.items b.ending c where
  joined_grouped : (xs ys : List Item) (e : End) (c : Trace)
      → then_on (xs ++ ys) e c ≡ trace (xs ++ (then_on ys e c).items) (then_on ys e c).ending
  joined_grouped xs ys end.Done c = ap (λ (zs : List Item). trace zs c.ending) (append_assoc xs ys c.items)
  joined_grouped xs ys (end.Fault f) c = refl
then_on_grouped xs (end.Fault f) b c = refl

-- walks join in any grouping
pub append_grouped : (a b c : Trace) → append (append a b) c ≡ append a (append b c)
append_grouped a b c = then_on_grouped a.items a.ending b c

-- after a fault nothing comes
pub append_faulted : (a b : Trace) (f : Fault) → a.ending ≡ end.Fault f → append a b ≡ a
append_faulted a b f h = subst (λ (e : End). then_on a.items e b ≡ trace a.items e) (sym h) refl

each_joined : (f : Item → Trace) (xs : List Item) (e : End) (b : Trace)
    → each f (then_on xs e b).items (then_on xs e b).ending ≡ append (each f xs e) (each f b.items b.ending)
each_joined f [] end.Done b = refl
each_joined f [] (end.Fault g) b = refl
each_joined f (x ∷ xs) end.Done b = ap (append (f x)) (each_joined f xs end.Done b)
    ∙ sym (append_grouped (f x) (each f xs end.Done) (each f b.items b.ending))
each_joined f (x ∷ xs) (end.Fault g) b =
    ap (append (f x)) (each_joined f xs (end.Fault g) b)
    ∙ sym (append_grouped (f x) (each f xs (end.Fault g)) (each f b.items b.ending))

-- what is made of joined walks item by item is joined of what is made of each
pub each_append : (f : Item → Trace) (a b : Trace)
    → each f (append a b).items (append a b).ending ≡ append (each f a.items a.ending) (each f b.items b.ending)
each_append f a b = each_joined f a.items a.ending b

-- without an item the stages change nothing
pub pipe_ended : (n : ℕ) (gs : List AbstractStage) (env : Numbers) (e : End) → pipe n gs env (trace [] e) ≡ trace [] e
pipe_ended n [] env e = refl
pipe_ended n (g ∷ gs) env e = pipe_ended (suc n) gs env e

-- the stages keep walks joined
pub pipe_append : (n : ℕ) (gs : List AbstractStage) (env : Numbers) (a b : Trace)
    → pipe n gs env (append a b) ≡ append (pipe n gs env a) (pipe n gs env b)
pipe_append n [] env a b = refl
pipe_append n (g ∷ gs) env a b =
    let f : Item → Trace = of_item n g env in
    ap (pipe (suc n) gs env) (each_append f a b)
    ∙ pipe_append (suc n) gs env (each f a.items a.ending) (each f b.items b.ending)

-- the stages keep one list of items joined, cut anywhere
pub pipe_more : (n : ℕ) (gs : List AbstractStage) (env : Numbers) (xs ys : List Item) (e : End)
    → pipe n gs env (trace (xs ++ ys) e) ≡ append (pipe n gs env (trace xs end.Done)) (pipe n gs env (trace ys e))
pipe_more n gs env xs ys e = pipe_append n gs env (trace xs end.Done) (trace ys e)

-- a fault that a beginning meets is the whole's, and nothing comes out after it
pub pipe_faulted : (n : ℕ) (gs : List AbstractStage) (env : Numbers) (a b : Trace) (f : Fault)
    → (pipe n gs env a).ending ≡ end.Fault f → pipe n gs env (append a b) ≡ pipe n gs env a
pipe_faulted n gs env a b f h = pipe_append n gs env a b ∙ append_faulted (pipe n gs env a) (pipe n gs env b) f h

-- what the stages make of the whole, one stage after the other, is joined of what they make of each item: a walk that
-- takes each item through all stages before the next one gives it too
pub pipe_each : (n : ℕ) (gs : List AbstractStage) (env : Numbers) (xs : List Item) (e : End)
    → pipe n gs env (trace xs e) ≡ each (λ (x : Item). pipe n gs env (trace (x ∷ []) end.Done)) xs e
pipe_each n gs env [] e = pipe_ended n gs env e
pipe_each n gs env (x ∷ xs) e =
    pipe_more n gs env (x ∷ []) xs e ∙ ap (append (pipe n gs env (trace (x ∷ []) end.Done))) (pipe_each n gs env xs e)
