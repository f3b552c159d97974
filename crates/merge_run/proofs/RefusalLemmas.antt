-- Why the answers of parts aren't merged, as a refusal of their reports.
use Rattle.std.proofs.Common.{◌≡◌, ℕ, ◌+◌, ◌<◌, ◌^◌, List, [], ◌∷◌, length, None, Some, refl, sym, subst, inl, inr, ◌∙◌}
use Rattle.std.proofs.Common.{arith}
use Rattle.job_language.specs.Jobs.{AbstractJob, names_of}
use Rattle.job_meaning.specs.declared.answer.Answer.{Answer}
use Rattle.merge_run.specs.declared.part_report.PartReport.{PartReport}
use Rattle.merge_run.specs.Merged.{ArePossible, AreReportsOf, IsRefusalOf, called, rows_of}
use Rattle.merge_run.specs.Small.{ArePartsSmall}
use Rattle.report_merge.specs.Apart.{IsRefusal, first_unpaired}
use Rattle.report_merge.specs.declared.fault.MergeFault.{MergeFault}
use Rattle.report_merge.specs.declared.fault.MergeFault.TheVariants as fault
use Rattle.report_merge.specs.Merging.{Part, rows_in}

-- the parts have the rows of their reports
rows_same : (names : List (List ℕ)) (rs : List PartReport) (ps : List Part) → AreReportsOf names rs ps
    → rows_in ps ≡ rows_of rs
rows_same names [] [] h = refl
rows_same names [] (p ∷ ps) h = absurd h
rows_same names (r ∷ rs) [] h = absurd h
rows_same names (r ∷ rs) (p ∷ ps) h = λ i. h.0.rows i + rows_same names rs ps h.1 i

no_report : (names : List (List ℕ)) (rs : List PartReport) (ps : List Part) → AreReportsOf names rs ps → ps ≡ []
    → rs ≡ []
no_report names [] ps h e = refl
no_report names (r ∷ rs) [] h e = absurd h
no_report names (r ∷ rs) (p ∷ ps) h e = absurd cc

paired : (n : ℕ) (jobs : List AbstractJob) (ls : List Answer) → length (names_of jobs) ≡ length ls
    → first_unpaired n jobs ls ≡ None
paired n [] [] e = refl
paired n [] (a ∷ ls) e = absurd (omega (arith, e))
paired n (job ∷ jobs) [] e = absurd (omega (arith, e))
paired n (job ∷ jobs) (a ∷ ls) e = paired (n + 1) jobs ls (omega (arith, e))

module _ (jobs : List AbstractJob) (rs : List PartReport) (ps : List Part) (read : AreReportsOf (names_of jobs) rs ps)
    (small : ArePartsSmall (names_of jobs) ps) (possible : ArePossible jobs ps) where
  all_paired : (p : Part) → ps ≡ p ∷ [] → first_unpaired 0 jobs p.answers ≡ None
  all_paired p e = paired 0 jobs p.answers (subst (ArePartsSmall (names_of jobs)) e small).0

  pub refused_by : (f : MergeFault) → IsRefusal jobs ps f → IsRefusalOf jobs rs (called (names_of jobs) f)
  refused_by fault.NoPart says = no_report (names_of jobs) rs ps read says
  refused_by fault.TooManyRows says = subst (λ (n : ℕ). 2 ^ 62 < n) (rows_same (names_of jobs) rs ps read) says
  refused_by fault.NoMemory says = tt
  refused_by (fault.Part part job) (inl apart) =
      record { parts = ps; read = read; small = small; possible = possible; place = job; apart = apart; named = refl }
  refused_by (fault.Part part job) (inr one) =
      let none : None ≡ Some job = sym (all_paired one.part one.all) ∙ one.first in
      absurd cc
