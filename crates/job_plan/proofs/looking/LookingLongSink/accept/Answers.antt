use Rattle.std.proofs.Common.{true≢false, sym, ◌∙◌}
use Rattle.job_plan.proofs.LookLemmas.{inner_flow, inner_wants, not_left, on_err_map, still_taken, unless_left}
use Rattle.job_plan.proofs.PartLemmas.{on_ok_map}
use Rattle.job_plan.proofs.PassageLemmas.{if_ok_map}
use Rattle.job_plan.proofs.looking.LookingLongSink.accept.Goals as goal

pub accept-requires : goal.accept-requires
accept-requires g c = inner_wants _ _ c.requires

pub returns : goal.returns
returns g c =
    let h = g.S.LongSink.has_taken in
    let decides = g.P.StartBrand.decides in
    let from = g.P.StartBrand.from in
    let self = c.args.self.now in
    let stays = not_left self.has_left (g.S.LongSink.flow self.inner) c.requires in
    let same = inner_flow self.has_left (g.S.LongSink.flow c.accept.new.self) stays in record {
      ok = on_ok_map c.accept.result
          (λ took xs looked. (
            looked.0,
            looked.1,
            unless_left decides from (h c.accept.new.self _) self.has_left (λ e. absurd (true≢false (sym e ∙ stays)))
                (took xs (still_taken decides from (h self.inner xs) self.has_left stays looked.2)),
          ))
          c.accept.ensures.ok;
      answer = if_ok_map _ _ c.accept.result (λ a e. e ∙ sym same) c.accept.ensures.answer;
      err = on_err_map c.accept.result
          (λ took xs looked. (
            looked.0,
            looked.1,
            unless_left decides from (h c.accept.new.self xs) self.has_left (λ e. absurd (true≢false (sym e ∙ stays)))
                (took xs (still_taken decides from (h self.inner xs) self.has_left stays looked.2)),
          ))
          c.accept.ensures.err;
      wants = on_err_map c.accept.result (λ e. same ∙ e) c.accept.ensures.wants;
      refused = c.accept.ensures.refused;
    }
