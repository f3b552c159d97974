use Rattle.std.proofs.Common.{rules, ◌≡◌, ℤ, true, sym, subst}
use Rattle.sort_ops.specs.declared.noted.Noted.{Noted}
use Rattle.sort_ops.specs.Firsts.{is_among}
use Rattle.sort_ops.specs.NewValues.{AreNoted}
use Rattle.sort_ops.specs.Parts.{values_in}
use Rattle.sort_ops.proofs.NotedLemmas.{pair_among, pair_set}
use Rattle.sort_ops.proofs.noted.Noted.note.Goals.{then-is_empty+then-count-ge-FEW, else-is_empty}
use Rattle.sort_ops.proofs.noted.Noted.note.Goals as goal

pub returns-in-Some : goal.returns-in-Some
returns-in-Some c = λ xs among all.
    let vs = values_in xs in
    let ps = c.if-is_empty.self.values.items in
    let at = c.place.result in
    let was = c.in-Some.noted.now in
    let begun : AreNoted c.if-is_empty.self xs = elim c.if-is_empty.branch [
      | then-is_empty+then-count-ge-FEW w ↦
          subst (λ (n : Noted). AreNoted n xs) (sym w.self-is) (w.begin.ensures xs among all)
      | else-is_empty w ↦ subst (λ (n : Noted). AreNoted n xs) (sym w.self-is) all
    ] in
    let are = pair_among vs ps at was (search rules) (search rules) begun in
    pair_set vs ps at c.after.result (subst (λ (p : ℤ × ℤ). is_among p.0 vs ≡ true) (sym c.after.ensures) among)
    (subst (λ (p : ℤ × ℤ). is_among p.1 vs ≡ true) (sym c.after.ensures) are.0) begun

pub returns-in_default : goal.returns-in_default
returns-in_default c = λ xs among all. elim c.if-is_empty.branch [
  | then-is_empty+then-count-ge-FEW w ↦
      subst (λ (n : Noted). AreNoted n xs) (sym w.self-is) (w.begin.ensures xs among all)
  | else-is_empty w ↦ subst (λ (n : Noted). AreNoted n xs) (sym w.self-is) all
]
