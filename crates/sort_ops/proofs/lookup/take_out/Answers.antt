use Rattle.std.proofs.Common.{◌≡◌, ◌+◌, ◌≤◌, ◌++◌, ◌∷◌, [], List, drop, length, take, set, refl, sym, ap}
use Rattle.std.proofs.Common.{subst, ◌∙◌, append-nil, arith, rules}
use Rattle.std.proofs.lemmas.List.{drop_all, length-set, take-append-drop, take_more_set}
use Rattle.lambda_values.specs.declared.item.Item.{Item}
use Rattle.sort_ops.specs.Firsts.{firsts}
use Rattle.sort_ops.specs.NewValues.{AreOnce, Knows, is_in}
use Rattle.sort_ops.proofs.NewLemmas.{again, fewer_once, next_item, one_once, written}
use Rattle.sort_ops.proofs.lookup.take_out.Goals.{then-stays, else-stays}
use Rattle.sort_ops.proofs.lookup.take_out.Goals as goal

pub loop-position-init : goal.loop-position-init
loop-position-init c =
    let all = c.args.items.now.items in
    let same : take c.args.from all ++ drop c.args.from all ≡ all = take-append-drop c.args.from all in
    record {
      long = refl;
      end = search rules;
      kept = omega arith;
      firsts = ap (firsts []) same;
      known = c.requires.known;
      class = refl;
      once = λ going once. once;
      going = λ going. going;
      others = λ k once. subst (AreOnce k) (sym same) once;
    }

pub index_mut-requires : goal.index_mut-requires
index_mut-requires c = let i = c.loop-position.invariant in search (rules, i.long, i.end, i.kept)

pub overflow_add-kept : goal.overflow_add-kept
overflow_add-kept c = let i = c.loop-position.invariant in search (rules, i.long, i.end, i.kept)

pub loop-position-preserved : goal.loop-position-preserved
loop-position-preserved c =
    let i = c.loop-position.invariant in
    let xs = c.loop-position.items.items in
    let k = c.loop-position.kept in
    let at = c.loop-position.position in
    let x : Item = c.index-item.result.now in
    let within : at + 1 ≤ length xs = search (rules, i.long, i.end) in
    let next : drop at xs ≡ x ∷ drop (at + 1) xs = next_item xs at x within c.index-item.ensures in
    let seen = take k xs in
    elim c.if-stays.branch [
      | then-stays w ↦
          let is : c.if-stays.items.items ≡ set xs k x = search rules in
          let more : c.if-stays.kept ≡ k + 1 = w.kept-is in
          let front : take c.if-stays.kept c.if-stays.items.items ≡ seen ++ x ∷ [] =
          (λ j. take (more j) (is j)) ∙ take_more_set xs k x (omega (arith, within, i.kept)) in
          let same : take c.if-stays.kept c.if-stays.items.items ++ drop (at + 1) c.if-stays.items.items
          ≡ seen ++ drop at xs =
          (λ j. take (more j) (is j) ++ drop (at + 1) (is j)) ∙ written xs k at x i.kept within next in
          record {
            long = ap length is ∙ length-set xs k x ∙ i.long;
            end = i.end;
            kept = omega (arith, more, i.kept);
            firsts = ap (firsts []) same ∙ i.firsts;
            known = subst (Knows c.stays.new.self) (sym front) (c.stays.ensures.new w.if-stays.true seen i.known);
            class = c.stays.ensures.class ∙ i.class;
            once = λ going before. subst (AreOnce c.args.lookup.now.class) (sym front)
                (one_once c.args.lookup.now.class seen x (i.once (c.stays.ensures.going going) before)
                (λ inside. c.stays.ensures.once w.if-stays.true seen going i.known
                (ap (λ l. is_in l x.value) i.class ∙ inside)));
            going = λ going. i.going (c.stays.ensures.going going);
            others = λ d once. subst (AreOnce d) (sym same) (i.others d once);
          }
      | else-stays w ↦
          let is : c.if-stays.items.items ≡ xs = search rules in
          let more : c.if-stays.kept ≡ k = w.kept-is in
          let front : take c.if-stays.kept c.if-stays.items.items ≡ seen = λ j. take (more j) (is j) in
          let rest : drop (at + 1) c.if-stays.items.items ≡ drop (at + 1) xs = ap (drop (at + 1)) is in
          record {
            long = ap length is ∙ i.long;
            end = i.end;
            kept = omega (arith, more, i.kept);
            firsts = ap (firsts []) ((λ j. front j ++ rest j)) ∙ again seen x (drop (at + 1) xs)
                (c.stays.ensures.again w.if-stays.false seen i.known)
                ∙ ap (λ (l : List Item). firsts [] (seen ++ l)) (sym next) ∙ i.firsts;
            known = subst (Knows c.stays.new.self) (sym front) (c.stays.ensures.old w.if-stays.false seen i.known);
            class = c.stays.ensures.class ∙ i.class;
            once = λ going before. subst (AreOnce c.args.lookup.now.class) (sym front)
                (i.once (c.stays.ensures.going going) before);
            going = λ going. i.going (c.stays.ensures.going going);
            others = λ d once. subst (AreOnce d) (λ j. sym front j ++ sym rest j)
                (fewer_once d seen x (drop (at + 1) xs)
                (subst (λ (l : List Item). AreOnce d (seen ++ l)) next (i.others d once)));
          }
    ]

pub returns-clause-firsts : goal.returns-clause-firsts
returns-clause-firsts c =
    let i = c.loop-position.invariant in
    let xs = c.loop-position.items.items in
    let none : drop c.loop-position.position xs ≡ [] =
    drop_all c.loop-position.position xs (search (rules, i.long, i.end)) in
    ap (firsts []) (c.truncate.ensures.items ∙ sym (append-nil (take c.loop-position.kept xs))
    ∙ ap (λ (l : List Item). take c.loop-position.kept xs ++ l) (sym none)) ∙ i.firsts

pub returns-clause-known : goal.returns-clause-known
returns-clause-known c = subst (Knows c.loop-position.lookup) (sym c.truncate.ensures.items)
    c.loop-position.invariant.known

pub returns-clause-class : goal.returns-clause-class
returns-clause-class c = c.loop-position.invariant.class

pub returns-clause-once : goal.returns-clause-once
returns-clause-once c = λ going once. subst (AreOnce c.args.lookup.now.class) (sym c.truncate.ensures.items)
    (c.loop-position.invariant.once going once)

pub returns-clause-others : goal.returns-clause-others
returns-clause-others c = λ k once.
    let i = c.loop-position.invariant in
    let xs = c.loop-position.items.items in
    let none : drop c.loop-position.position xs ≡ [] =
    drop_all c.loop-position.position xs (search (rules, i.long, i.end)) in
    subst (AreOnce k) (ap (λ (l : List Item). take c.loop-position.kept xs ++ l) none
    ∙ append-nil (take c.loop-position.kept xs) ∙ sym c.truncate.ensures.items) (i.others k once)

pub returns-clause-going : goal.returns-clause-going
returns-clause-going c = c.loop-position.invariant.going
