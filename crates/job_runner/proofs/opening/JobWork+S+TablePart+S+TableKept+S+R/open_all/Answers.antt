use Rattle.std.proofs.Common.{◌≡◌, ◌-◌, ◌≤◌, ◌∙◌, ap, sym, subst, [], length, arith}
use Rattle.completion_core.specs.Legal.{count}
use Rattle.pending_count.specs.Seats.{view_of}
use Rattle.job_runner.specs.Tasks.{node_at}
use Rattle.job_runner.proofs.ArmLemmas.{all_below, starts_known}
use Rattle.job_runner.proofs.SeatLemmas.{credit_rest, part_unplaced}
use Rattle.job_runner.proofs.opening.JobWork+S+TablePart+S+TableKept+S+R.open_all.Goals as goal

pub invariant_of-unopened : goal.invariant_of-unopened
invariant_of-unopened g c =
    let nodes = c.args.self.now.nodes in
    let ss = nodes.starts.items in
    let n = c.len.result in
    let made = c.len.ensures in
    let many = nodes.count in
    let all : length ss ≡ n = omega arith in
    let s = c.split-seat.ensures in
    let known = starts_known g.R.RunBrand.jobs g.R.RunBrand.start g.R.RunBrand.keeps 0 ss [] (view_of c.args.seat)
    nodes.count nodes.started c.requires.started in
    let below = all_below g.R.RunBrand.start ss n all
    (λ k low. (nodes.started k).0 ∙ ap (node_at ss)
    (let e : g.R.RunBrand.jobs - 1 - k ≡ n - 1 - k = omega arith in e)) in
    let rest = credit_rest _ c.args.seat c.split-seat.result.0 known c.requires.started.no_side s.parts.0 in
    record {
      table = s.seat.0.0 ∙ c.requires.table;
      held = λ i. subst (λ l. count i l ≤ count i (view_of c.split-seat.result.0).held) (sym below)
          (let a = c.requires.started.held i in let e = rest.0 i in omega arith);
      no_side = rest.1;
      knows = rest.2;
      few = omega arith;
    }

pub invariant_of-spare : goal.invariant_of-spare
invariant_of-spare g c =
    let s = c.split-seat.ensures in
    record {
      table = s.seat.1 ∙ c.requires.table;
      unplaced = part_unplaced _ c.args.seat c.split-seat.result.1 c.requires.started.unplaced s.parts.1;
    }
