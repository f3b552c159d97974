-- Each step keeps the rule, and its pass learns what its clause says.
use Rattle.std.proofs.Common.{◌≡◌, ◌≢◌, ℕ, zero, suc, ◌+◌, ◌<◌, ◌≤◌, min, Bool, true, false, cond, eqb, List, [], ◌∷◌}
use Rattle.std.proofs.Common.{◌++◌, length, map, set, sym, refl, ap, ◌∙◌, subst, ⊎_elim, arith, eq-eqb, ne_eqb, Option}
use Rattle.std.proofs.Common.{Some, None, ◌⊎◌, inl, inr, length-set, length-append}
use mathlib.Core.Option.{some, some-ne-none}
use mathlib.Core.List.{map-append}
use lib.ListN.{get_elem?}
use Rattle.crossbeam_deque.specs.Tasks.{Pushes, Takes, Pops, Finds, FindsFew, Admits}
use Rattle.crossbeam_deque.proofs.Lists.{at_set, at_snoc, at_longer, at_last}
use Rattle.deques.specs.declared.calls.Call.{Call}
use Rattle.deques.specs.declared.calls.Call.TheVariants.{Added, Newest, Oldest}
use Rattle.deques.specs.declared.calls.Calls.{Calls}
use Rattle.deques.specs.Tasks.{Entry, Step, Does, Leads, calls_of, calls_by, number_out, NotOut, IsStep}
use Rattle.deques.specs.Rule.{calls, none_yet, IsIn, AllIn, Lacks, Apart, Kept, Adds, Hands, FoundEmpty}
use Rattle.deques.specs.Rule.{FoundNearlyEmpty}

there : {A : Type 0} (l : List A) (i : ℕ) (a : A) → get_elem? l i ≡ some a → i < length l
there [] i a e = absurd (some-ne-none a (sym e))
there (x ∷ xs) zero a e = omega arith
there (x ∷ xs) (suc i) a e = let h = there xs i a e in omega arith

-- what stands in a list with one more at its end
snoc_cases : {A : Type 0} (l : List A) (a b : A) (j : ℕ) → get_elem? (l ++ a ∷ []) j ≡ some b
    → (get_elem? l j ≡ some b) ⊎ ((length l ≤ j) × (a ≡ b))
snoc_cases [] a b zero e = ⊎_elim (λ x. inl x) (λ x. inr (omega arith, x)) (at_snoc [] a b zero e)
snoc_cases [] a b (suc j) e = absurd (some-ne-none b (sym e))
snoc_cases (x ∷ xs) a b zero e = inl e
snoc_cases (x ∷ xs) a b (suc j) e = ⊎_elim (λ x. inl x) (λ x. let h = x.0 in inr (omega arith, x.1))
    (snoc_cases xs a b j e)

abbrev head_of : {A : Type 0} → A → List A → A
head_of d [] = d
head_of d (x ∷ xs) = x

abbrev tail_of : {A : Type 0} → List A → List A
tail_of [] = []
tail_of (x ∷ xs) = xs

abbrev IsNil : {A : Type 0} → List A → Type 0
IsNil [] = Unit {0}
IsNil (x ∷ xs) = ⊥

cons_ne_nil : {A : Type 0} (x : A) (xs : List A) → x ∷ xs ≢ []
cons_ne_nil x xs e = subst IsNil (sym e) tt

abbrev number : Option ℕ → ℕ
number (Some x) = x
number None = 0

some_is : (j k : ℕ) → Some j ≡ Some k → j ≡ k
some_is j k e = ap number e

abbrev IsNone : Option ℕ → Type 0
IsNone None = Unit {0}
IsNone (Some x) = ⊥

none_is : (k : ℕ) → None ≢ Some k
none_is k e = subst IsNone e tt

module _ {T : Type 0} where
  abbrev task : Entry T → T
  task e = e.1

  -- the calls of each pass, in a longer history
  one_more : (b : Bool) (c : Call T) (l m : List (Call T)) → cond b (c ∷ l ++ m) (l ++ m) ≡ cond b (c ∷ l) l ++ m
  one_more true c l m = refl
  one_more false c l m = refl

  by-append : (p : ℕ) (xs ys : List (Step T)) → calls_by p (xs ++ ys) ≡ calls_by p xs ++ calls_by p ys
  by-append p [] ys = refl
  by-append p (s ∷ ss) ys = ap (λ l. cond (eqb s.0 p) (s.1 ∷ l) l) (by-append p ss ys)
      ∙ one_more (eqb s.0 p) s.1 (calls_by p ss) (calls_by p ys)

  by_mine : (p : ℕ) (c : Call T) → calls_by p ((p, c) ∷ []) ≡ c ∷ []
  by_mine p c = ap (λ b. cond b (c ∷ []) []) (eq-eqb p p refl)

  by_other : (p q : ℕ) (c : Call T) → q ≢ p → calls_by q ((p, c) ∷ []) ≡ []
  by_other p q c n = ap (λ b. cond b (c ∷ []) []) (ne_eqb p q (λ e. n (sym e)))

  append_nil : (l : List (Call T)) → l ++ [] ≡ l
  append_nil [] = refl
  append_nil (x ∷ xs) = ap (λ l. x ∷ l) (append_nil xs)

  leads_more : (n : ℕ) (from mid to : List (Entry T)) (cs : List (Call T)) (c : Call T) → Leads n from cs mid
      → Does (n + length cs) mid c to → Leads n from (cs ++ c ∷ []) to
  leads_more n from mid to [] c e d = (
    to,
    subst (λ (l : List (Entry T)). Does n l c to) (sym e) (subst (λ (k : ℕ). Does k mid c to) (omega arith) d),
    refl,
  )
  leads_more n from mid to (x ∷ xs) c h d =
      (h.0, h.1, leads_more (suc n) h.0 mid to xs c h.2 (subst (λ (k : ℕ). Does k mid c to) (omega arith) d))

  -- a task that is held stays so where another call is made that doesn't hand it out
  not_out_more : (k : ℕ) (log : List (Step T)) (s : Step T) → number_out s.1 ≢ Some k → NotOut k log
      → NotOut k (log ++ s ∷ [])
  not_out_more k [] s n h = (n, tt)
  not_out_more k (x ∷ xs) s n h = (h.0, not_out_more k xs s n h.1)

  in_more : (log : List (Step T)) (s : Step T) (e : Entry T) → number_out s.1 ≢ Some e.0 → IsIn log e
      → IsIn (log ++ s ∷ []) e
  in_more log s e n h = ((h.0.0, at_longer log (s ∷ []) e.0 _ h.0.1), not_out_more e.0 log s n h.1)

  all_more_added : (log : List (Step T)) (p : ℕ) (x : T) (es : List (Entry T)) → AllIn log es
      → AllIn (log ++ (p, Added x) ∷ []) es
  all_more_added log p x [] h = tt
  all_more_added log p x (e ∷ es) h = (in_more log (p, Added x) e (none_is e.0) h.0, all_more_added log p x es h.1)

  all_more_out : (log : List (Step T)) (s : Step T) (k : ℕ) → number_out s.1 ≡ Some k → (es : List (Entry T))
      → Lacks k es → AllIn log es → AllIn (log ++ s ∷ []) es
  all_more_out log s k is [] n h = tt
  all_more_out log s k is (e ∷ es) n h =
      (in_more log s e (λ x. n.0 (sym (some_is k e.0 (sym is ∙ x)))) h.0, all_more_out log s k is es n.1 h.1)

  all_both : (log : List (Step T)) (es fs : List (Entry T)) → AllIn log es → AllIn log fs → AllIn log (es ++ fs)
  all_both log [] fs a b = b
  all_both log (e ∷ es) fs a b = (a.0, all_both log es fs a.1 b)

  all_left : (log : List (Step T)) (es fs : List (Entry T)) → AllIn log (es ++ fs) → AllIn log es
  all_left log [] fs h = tt
  all_left log (e ∷ es) fs h = (h.0, all_left log es fs h.1)

  all_right : (log : List (Step T)) (es fs : List (Entry T)) → AllIn log (es ++ fs) → AllIn log fs
  all_right log [] fs h = h
  all_right log (e ∷ es) fs h = all_right log es fs h.1

  -- numbers
  lacks_new : (log : List (Step T)) (n : ℕ) → length log ≤ n → (es : List (Entry T)) → AllIn log es → Lacks n es
  lacks_new log n le [] h = tt
  lacks_new log n le (e ∷ es) h = ((λ is. let lt = there log e.0 _ h.0.0.1 in omega arith), lacks_new log n le es h.1)

  lacks_more : (k : ℕ) (f : Entry T) → f.0 ≢ k → (es : List (Entry T)) → Lacks k es → Lacks k (es ++ f ∷ [])
  lacks_more k f n [] h = (n, tt)
  lacks_more k f n (e ∷ es) h = (h.0, lacks_more k f n es h.1)

  lacks_less : (k : ℕ) (f : Entry T) (es : List (Entry T)) → Lacks k (es ++ f ∷ []) → Lacks k es × (f.0 ≢ k)
  lacks_less k f [] h = (tt, h.0)
  lacks_less k f (e ∷ es) h = let r = lacks_less k f es h.1 in ((h.0, r.0), r.1)

  apart_more : (f : Entry T) (es : List (Entry T)) → Lacks f.0 es → Apart es → Apart (es ++ f ∷ [])
  apart_more f [] n h = (tt, tt)
  apart_more f (e ∷ es) n h = (lacks_more e.0 f (λ is. n.0 (sym is)) es h.0, apart_more f es n.1 h.1)

  apart_less : (f : Entry T) (es : List (Entry T)) → Apart (es ++ f ∷ []) → Apart es × Lacks f.0 es
  apart_less f [] h = (tt, tt)
  apart_less f (e ∷ es) h = let r = apart_less f es h.1 in let l = lacks_less e.0 f es h.0 in
      ((l.0, r.0), ((λ is. l.1 (sym is)), r.1))

  -- the last of the tasks held, and the first
  last_entry : (items : List T) (x : T) (es : List (Entry T)) → map task es ≡ items ++ x ∷ []
      → (left : List (Entry T)) × (k : ℕ) × (es ≡ left ++ (k, x) ∷ []) × (map task left ≡ items)
  last_entry [] x [] h = absurd (cons_ne_nil x [] (sym h))
  last_entry [] x (e ∷ []) h = ([], e.0, (λ i. (e.0, ap (head_of x) h i) ∷ []), refl)
  last_entry [] x (e ∷ f ∷ fs) h = absurd (cons_ne_nil f.1 (map task fs) (ap tail_of h))
  last_entry (y ∷ ys) x [] h = absurd (cons_ne_nil y (ys ++ x ∷ []) (sym h))
  last_entry (y ∷ ys) x (e ∷ es) h = let r = last_entry ys x es (ap tail_of h) in
      (e ∷ r.0, r.1, ap (λ l. e ∷ l) r.2, λ i. ap (head_of x) h i ∷ r.3 i)

  first_entry : (items : List T) (x : T) (es : List (Entry T)) → map task es ≡ x ∷ items
      → (left : List (Entry T)) × (k : ℕ) × (es ≡ (k, x) ∷ left) × (map task left ≡ items)
  first_entry items x [] h = absurd (cons_ne_nil x items (sym h))
  first_entry items x (e ∷ es) h = (es, e.0, (λ i. (e.0, ap (head_of x) h i) ∷ es), ap tail_of h)

  -- one call of one pass
  module _ (items : List T) (views : List (Calls T)) (r : Kept items views) (port : ℕ) (v : Calls T)
      (at : get_elem? views port ≡ some v) (c : Call T) (left : List (Entry T))
      (does : Does (length r.log) r.held c left) where
    abbrev w : Calls T
    w = calls (v.list ++ c ∷ [])

    abbrev after : List (Step T)
    after = r.log ++ (port, c) ∷ []

    abbrev says : IsStep v.list w.list c
    says = record {
      by = port;
      before = r.log;
      held = r.held;
      left = left;
      legal = r.legal;
      does = does;
      own = r.own port v at;
      grown = refl;
    }

    same_calls : calls_of after ≡ calls_of r.log ++ c ∷ []
    same_calls = map-append (λ s. s.1) r.log ((port, c) ∷ [])

    length-calls : (l : List (Step T)) → length (calls_of l) ≡ length l
    length-calls [] = refl
    length-calls (x ∷ xs) = let e = length-calls xs in omega arith

    goes : (rest : List T) → map task left ≡ rest → ((k : ℕ) → length r.log ≤ k → number_out c ≢ Some (suc k))
        → AllIn after left → Apart left → Kept rest (set views port w)
    goes rest is low inside apart = record {
      log = after;
      held = left;
      legal = subst (λ l. Leads 0 [] l left) (sym same_calls)
          (leads_more 0 [] r.held left (calls_of r.log) c r.legal
          (subst (λ (k : ℕ). Does k r.held c left) (let e = length-calls r.log in omega arith) does));
      holds = is;
      own = λ j u e. by-append j r.log ((port, c) ∷ []) ∙ ⊎_elim
          (λ (x : (j ≡ port) × (w ≡ u)). (λ i. calls_by (x.0 i) r.log ++ calls_by (x.0 i) ((port, c) ∷ []))
          ∙ (λ i. r.own port v at i ++ by_mine port c i) ∙ ap (λ (y : Calls T). y.list) x.1)
          (λ (x : (j ≢ port) × (get_elem? views j ≡ some u)). (λ i. r.own j u x.1 i ++ by_other port j c x.0 i)
          ∙ append_nil u.list)
          (at_set views port j w u e);
      known = λ j le. let n = length-set views port w in let lt = there views port v at in
          by-append j r.log ((port, c) ∷ [])
          ∙ (λ i. r.known j (omega arith) i ++ by_other port j c (λ e. omega arith) i);
      fresh = λ k le. let n = length-append r.log ((port, c) ∷ []) in fresh_at k (omega arith);
      inside = inside;
      apart = apart;
    }
      where
        fresh_at : (k : ℕ) → length r.log < k → NotOut k after
        fresh_at zero lt = absurd (omega arith)
        fresh_at (suc k) lt = not_out_more (suc k) r.log (port, c) (low k (omega arith)) (r.fresh (suc k) (omega arith))

  pub adds : (port : ℕ) (v : Calls T) (x : T) → Pushes Kept port v (x ∷ []) (Adds v (x ∷ []))
  adds port v x items views r at =
      let n : ℕ = length r.log in
      let e : Entry T = (n, x) in
      let left : List (Entry T) = r.held ++ e ∷ [] in (
        w items views r port v at (Added x) left refl,
        goes items views r port v at (Added x) left refl (items ++ x ∷ [])
            (map-append task r.held (e ∷ []) ∙ ap (λ l. l ++ x ∷ []) r.holds) (λ k le. none_is (suc k))
            (all_both _ r.held (e ∷ []) (all_more_added r.log port x r.held r.inside) (
              (
                (port, at_last r.log (port, Added x) n refl),
                not_out_more n r.log (port, Added x) (none_is n) (r.fresh n (omega arith)),
              ),
              tt,
            ))
            (apart_more e r.held (lacks_new r.log n (omega arith) r.held r.inside) r.apart),
        says items views r port v at (Added x) left refl,
      )

  pub pops : (port : ℕ) (v : Calls T) → Pops Kept port v (Hands Newest v)
  pops port v x items views r at =
      let l = last_entry items x r.held r.holds in
      let k : ℕ = l.1 in
      let inside : AllIn r.log (l.0 ++ (k, x) ∷ []) = subst (AllIn r.log) l.2 r.inside in
      let one = (all_right r.log l.0 ((k, x) ∷ []) inside).0 in
      let apart = apart_less (k, x) l.0 (subst Apart l.2 r.apart) in
      let lt = there r.log k _ one.0.1 in (
        w (items ++ x ∷ []) views r port v at (Newest k x) l.0 l.2,
        goes (items ++ x ∷ []) views r port v at (Newest k x) l.0 l.2 items l.3
            (λ j le e. let is = some_is k (suc j) e in omega arith)
            (all_more_out r.log (port, Newest k x) k refl l.0 apart.1 (all_left r.log l.0 ((k, x) ∷ []) inside))
            apart.0,
        record {
          number = k;
          step = says (items ++ x ∷ []) views r port v at (Newest k x) l.0 l.2;
          adder = one.0.0;
          added = one.0.1;
          first = one.1;
        },
      )

  takes_one : (port : ℕ) (v : Calls T) (x : T) (items : List T) (views : List (Calls T)) → Kept (x ∷ items) views
      → get_elem? views port ≡ some v → (w : Calls T) × Kept items (set views port w) × Hands Oldest v (x ∷ []) w
  takes_one port v x items views r at =
      let l = first_entry items x r.held r.holds in
      let k : ℕ = l.1 in
      let inside : AllIn r.log ((k, x) ∷ l.0) = subst (AllIn r.log) l.2 r.inside in
      let one = inside.0 in
      let apart : Apart ((k, x) ∷ l.0) = subst Apart l.2 r.apart in
      let lt = there r.log k _ one.0.1 in (
        w (x ∷ items) views r port v at (Oldest k x) l.0 l.2,
        goes (x ∷ items) views r port v at (Oldest k x) l.0 l.2 items l.3
            (λ j le e. let is = some_is k (suc j) e in omega arith)
            (all_more_out r.log (port, Oldest k x) k refl l.0 apart.0 inside.1)
            apart.1,
        record {
          number = k;
          step = says (x ∷ items) views r port v at (Oldest k x) l.0 l.2;
          adder = one.0.0;
          added = one.0.1;
          first = one.1;
        },
      )

  pub takes : (port : ℕ) (v : Calls T) → Takes Kept port v 1 (Hands Oldest v)
  takes port v [] items views more few r at = absurd (omega arith)
  takes port v (x ∷ []) items views more few r at = takes_one port v x items views r at
  takes port v (x ∷ y ∷ ys) items views more few r at = absurd (omega arith)

  none_held : (es : List (Entry T)) → map task es ≡ [] → es ≡ []
  none_held [] h = refl
  none_held (e ∷ es) h = absurd (cons_ne_nil e.1 (map task es) h)

  pub finds : (port : ℕ) (v : Calls T) → Finds Kept port v (FoundEmpty v)
  finds port v views r at = record {
    by = port;
    before = r.log;
    legal = subst (λ l. Leads 0 [] (calls_of r.log) l) (none_held r.held r.holds) r.legal;
    own = r.own port v at;
  }

  length-entries : (es : List (Entry T)) → length (map task es) ≡ length es
  length-entries [] = refl
  length-entries (e ∷ es) = let h = length-entries es in omega arith

  pub finds_few : (flavor port : ℕ) (v : Calls T) → FindsFew Kept (min flavor 1) port v (FoundNearlyEmpty v)
  finds_few flavor port v items views few r at =
      let n = length-entries r.held in
      let m : length (map task r.held) ≡ length items = ap length r.holds in
      record {
        by = port;
        before = r.log;
        held = r.held;
        legal = r.legal;
        few = omega arith;
        own = r.own port v at;
      }

  pub opens : Kept {T = T} [] (none_yet ∷ [])
  opens = record {
    log = [];
    held = [];
    legal = refl;
    holds = refl;
    own = λ j u e. ⊎_elim (λ x. absurd (some-ne-none u (sym x))) (λ (x : none_yet ≡ u). ap (λ (y : Calls T). y.list) x)
        (at_snoc [] none_yet u j e);
    known = λ j le. refl;
    fresh = λ k le. tt;
    inside = tt;
    apart = tt;
  }

  pub admits : Admits (Kept {T = T}) none_yet
  admits items views r = record {
    log = r.log;
    held = r.held;
    legal = r.legal;
    holds = r.holds;
    own = λ j u e. ⊎_elim (λ x. r.own j u x)
        (λ (x : (length views ≤ j) × (none_yet ≡ u)). r.known j x.0 ∙ ap (λ (y : Calls T). y.list) x.1)
        (snoc_cases views none_yet u j e);
    known = λ j le. let n = length-append views (none_yet ∷ []) in r.known j (omega arith);
    fresh = r.fresh;
    inside = r.inside;
    apart = r.apart;
  }
