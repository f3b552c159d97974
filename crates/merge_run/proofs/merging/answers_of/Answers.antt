use Rattle.std.proofs.Common.{◌≡◌, ℕ, ◌+◌, append_assoc, length-append, List, [], ◌∷◌, ◌++◌, ap, is_ok, refl, sym}
use Rattle.std.proofs.Common.{subst, ◌∙◌}
use Rattle.std.specs.Prelude.{All}
use Rattle.std.proofs.lemmas.List.Elements.{All-push}
use Rattle.std.proofs.ResultArms.{chosen}
use Rattle.job_language.specs.Jobs.{jobs_of}
use Rattle.report.specs.Named.{IsNamed}
use Rattle.report_merge.specs.declared.part.PartAnswers.{PartAnswers}
use Rattle.report_merge.specs.Merging.{Part, part_of, parts_of}
use Rattle.merge_run.specs.declared.part_report.PartReport.{PartReport}
use Rattle.merge_run.specs.Merged.{ArePossible, AreReportsOf, IsReportOf}
use Rattle.merge_run.specs.Small.{ArePartsSmall, IsReportOfNone}
use Rattle.merge_run.proofs.ReportLemmas.{parts_more, parts_small_more, possible_more, reports_more}
use Rattle.merge_run.proofs.merging.answers_of.Goals as goal

pub loop-part-preserved : goal.loop-part-preserved
loop-part-preserved c =
    let names = c.args.names.now in
    let jobs = jobs_of c.args.jobs.now in
    let before = c.loop-part.found.items in
    let all = c.loop-part.yielded ++ c.in-Some.part ∷ [] in
    let part : PartAnswers = record { rows = c.in-Some.part.rows; answers = c.in-Ok.answers } in
    let items : c.push.new.self.items ≡ before ++ part ∷ [] =
    chosen _ _ _ _ c.push.ensures.items (ap is_ok c.in_ok-push.was) in
    let one : IsReportOf names c.in-Some.part (part_of part) =
    record { rows = refl; bytes = sym c.deref.ensures.value ∙ c.in-Ok.ensures.written } in
    let more = reports_more names c.loop-part.yielded (parts_of before) c.in-Some.part (part_of part)
    c.loop-part.invariant.0 one in
    let small = parts_small_more names (parts_of before) (part_of part) c.loop-part.invariant.4 c.in-Ok.ensures.paired
    c.in-Ok.ensures.small in
    let can = possible_more jobs (parts_of before) (part_of part) c.loop-part.invariant.2
    (sym (sym c.in_default.is ∙ c.in_ok-job.ensures)) in (
      subst (λ (found : List PartAnswers). AreReportsOf names all (parts_of found)) (sym items)
          (subst (λ (ps : List Part). AreReportsOf names all ps) (sym (parts_more before part)) more),
      subst (λ (found : List PartAnswers). All (λ (p : PartAnswers). All (IsNamed names) p.answers.items) found)
          (sym items)
          (All-push (λ (p : PartAnswers). All (IsNamed names) p.answers.items) before part c.loop-part.invariant.1
          c.in-Ok.ensures.named),
      subst (λ (found : List PartAnswers). ArePossible jobs (parts_of found)) (sym items)
          (subst (λ (ps : List Part). ArePossible jobs ps) (sym (parts_more before part)) can),
      chosen _ _ _ _ c.push.ensures.len (ap is_ok c.in_ok-push.was) ∙ ap (λ (n : ℕ). n + 1) c.loop-part.invariant.3
          ∙ sym (length-append c.loop-part.yielded (c.in-Some.part ∷ [])),
      subst (λ (found : List PartAnswers). ArePartsSmall names (parts_of found)) (sym items)
          (subst (ArePartsSmall names) (sym (parts_more before part)) small),
      append_assoc c.loop-part.yielded (c.in-Some.part ∷ []) _
          ∙ ap (λ (rs : List PartReport). c.loop-part.yielded ++ rs) (sym c.in-Some.ensures.steps.0)
          ∙ c.loop-part.invariant.5,
    )

pub returns-in-Some-2-clause-refused : goal.returns-in-Some-2-clause-refused
returns-in-Some-2-clause-refused c =
    let names = c.args.names.now in
    let part : PartAnswers = record { rows = c.in-Some.part.rows; answers = c.in-Ok.answers } in
    let one : IsReportOf names c.in-Some.part (part_of part) =
    record { rows = refl; bytes = sym c.deref.ensures.value ∙ c.in-Ok.ensures.written } in
    record {
      report = c.in-Some.part;
      at = record {
        before = c.loop-part.yielded;
        later = _;
        all = sym c.loop-part.invariant.5
            ∙ ap (λ (rs : List PartReport). c.loop-part.yielded ++ rs) c.in-Some.ensures.steps.0;
        number_is = c.len-in-Some-2.ensures ∙ c.loop-part.invariant.3;
      };
      part = part_of part;
      read = subst (λ (ns : List (List ℕ)). IsReportOf ns c.in-Some.part (part_of part)) c.requires.names one;
      place = c.in-Some-2.job;
      first = sym c.in_ok-job.ensures ∙ c.in-Some-2.is;
      named = sym c.in_ok-job-2.ensures;
    }

pub returns-in-Err-clause-refused : goal.returns-in-Err-clause-refused
returns-in-Err-clause-refused c =
    c.in_ok-part_fault-in-Err.ensures c.args.parts.items
    (λ known. record {
      report = c.in-Some.part;
      at = record {
        before = c.loop-part.yielded;
        later = _;
        all = sym c.loop-part.invariant.5
            ∙ ap (λ (rs : List PartReport). c.loop-part.yielded ++ rs) c.in-Some.ensures.steps.0;
        number_is = c.len.ensures ∙ c.loop-part.invariant.3;
      };
      none = subst (λ (ns : List (List ℕ)). IsReportOfNone ns c.in-Some.part.bytes.items) c.requires.names
          (subst (λ (bs : List ℕ). IsReportOfNone c.args.names.now bs) c.deref.ensures.value
          (c.in-Err.ensures.none known));
    })
