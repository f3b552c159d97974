use Rattle.std.proofs.Common.{sym, ap, ◌∙◌, rules, subst, ℤ, Ok, [], ◌∷◌, FitsSigned, w64}
use Rattle.std.proofs.lemmas.Int.{to_z-of_z}
use Rattle.trace.specs.declared.item.End.TheVariants as end
use Rattle.trace.specs.Trace.{trace, append}
use Rattle.reduce_ops.specs.ExactSums.{sum_on}
use Rattle.reduce_ops.specs.declared.exact.Exact.{Exact}
use Rattle.reduce_ops.specs.Reaches.{IsExact, exact_of, is_search}
use Rattle.reduce_ops.proofs.ExactLemmas.{ended_else, ended_stays, exact_known, joined_sum, known_search}
use Rattle.reduce_ops.proofs.exact.Exact.push.Goals as goal

pub returns-in-Sum : goal.returns-in-Sum
returns-in-Sum c =
    let u = trace (c.args.item ∷ []) end.Done in
    let fits : FitsSigned w64 c.in-Sum.before = search rules in
    let added = c.added.ensures ∙ ap (λ (z : ℤ). exact_of (sum_on c.args.stage (Ok z) u))
    (to_z-of_z w64 c.in-Sum.before fits) in
    record {
      stands = λ t h.
          let sum = rw c.in-Sum.is at h in
          subst (λ (r : Exact). IsExact c.args.stage (append t u) r) (sym added)
          (exact_known c.args.stage (append t u) (sum_on c.args.stage (Ok c.in-Sum.before) u)
          (sym (joined_sum c.args.stage t u (Ok c.in-Sum.before) (sym sum))));
      search = ap is_search added ∙ known_search (sum_on c.args.stage (Ok c.in-Sum.before) u)
          ∙ sym (ap is_search c.in-Sum.is);
    }

pub returns-in_default : goal.returns-in_default
returns-in_default c = record {
  stands = λ t h. ended_stays c.args.stage t (trace (c.args.item ∷ []) end.Done) c.args.self.now
      (ended_else c.args.self.now c.in_default.not-Sum) h;
  search = search rules;
}
