-- The part that a refusal names, and the job.
use Rattle.std.proofs.Common.{◌≡◌, ℕ, suc, ◌+◌, ◌-◌, ◌<◌, ◌≤◌, ◌^◌, ◌⊎◌, min, Bool, true, false, List, [], ◌∷◌, ◌++◌}
use Rattle.std.proofs.Common.{length, append_assoc, append-nil, length-append, Option, Some, None, refl, sym, ap, subst}
use Rattle.std.proofs.Common.{inl, inr, ◌∙◌, arith, drop}
use Rattle.std.specs.Prelude.{if◌then◌else◌, is_some, nat_lt}
use Rattle.std.proofs.lemmas.List.{drop_all, length-drop}
use Rattle.job_language.specs.declared.job.Job.{Job}
use Rattle.job_language.specs.Jobs.{AbstractJob, jobs_of}
use Rattle.job_meaning.specs.declared.answer.Answer.{Answer}
use Rattle.report_merge.specs.declared.fault.MergeFault.{MergeFault}
use Rattle.report_merge.specs.declared.fault.MergeFault.TheVariants as fault
use Rattle.report_merge.specs.declared.part.PartAnswers.{PartAnswers}
use Rattle.report_merge.specs.Apart.{IsApart, IsRefusal, IsRefusedAt, first_apart, first_unpaired}
use Rattle.report_merge.proofs.LoopLemmas.{rows_on}
use Rattle.report_merge.specs.Merging.{Part, all_as_one, answer_beside, answers_beside, as_one, both, finished}
use Rattle.report_merge.specs.Merging.{first_part, merged, part_of, part_with, parts_of, rows_in, together}

nothing : {A B : Type 0} {x : A} → None ≡ Some x → B
nothing e = absurd cc

the_same : {A : Type 0} {x y : A} → Some x ≡ Some y → x ≡ y
the_same e = cc

-- ---- answers over rows and over the part after them

module _ (jobs : List Job) (n before rows : ℕ) (ls left right : List Answer)
    (is : first_apart n (jobs_of (drop n jobs)) before rows ls (drop n right)
    ≡ first_apart 0 (jobs_of jobs) before rows left right) where
  -- an answer of the left part is left, and none of the right one
  pub without_right : (a : Answer) (rest : List Answer) → length right ≤ n → ls ≡ a ∷ rest
      → first_apart 0 (jobs_of jobs) before rows left right ≡ Some n
  without_right a rest over next =
      sym is ∙ (λ i. first_apart n (jobs_of (drop n jobs)) before rows (next i) (drop_all n right over i))
      ∙ none (drop n jobs)
    where
      none : (js : List Job) → first_apart n (jobs_of js) before rows (a ∷ rest) [] ≡ Some n
      none [] = refl
      none (j ∷ js) = refl

  -- a job is left, and no answer of the left part
  pub without_left : n < length jobs → ls ≡ [] → first_apart 0 (jobs_of jobs) before rows left right ≡ Some n
  without_left few none =
      sym is ∙ (λ i. first_apart n (jobs_of (drop n jobs)) before rows (none i) (drop n right))
      ∙ more (drop n jobs) (omega (arith, length-drop n jobs, few))
    where
      more : (js : List Job) → 0 < length js → first_apart n (jobs_of js) before rows [] (drop n right) ≡ Some n
      more [] h = absurd (omega (arith, h))
      more (j ∷ js) h = refl

-- ---- one part

module _ (jobs : List Job) (n : ℕ) (ls answers : List Answer)
    (is : first_unpaired n (jobs_of (drop n jobs)) ls ≡ first_unpaired 0 (jobs_of jobs) answers) where
  pub more_jobs : n < length jobs → ls ≡ [] → first_unpaired 0 (jobs_of jobs) answers ≡ Some n
  more_jobs few none =
      sym is ∙ (λ i. first_unpaired n (jobs_of (drop n jobs)) (none i))
      ∙ more (drop n jobs) (omega (arith, length-drop n jobs, few))
    where
      more : (js : List Job) → 0 < length js → first_unpaired n (jobs_of js) [] ≡ Some n
      more [] h = absurd (omega (arith, h))
      more (j ∷ js) h = refl

-- ---- parts

-- the parts so far as one, if there are some
abbrev pub AreOne : List AbstractJob → Option PartAnswers → List Part → Type 0
AreOne jobs None ps = ps ≡ []
AreOne jobs (Some p) ps = together jobs ps ≡ Some (part_of p)

-- these parts are done, as one, and these are left
pub record AreDone (jobs : List AbstractJob) (whole : Option PartAnswers) (number : ℕ)
    (done left all : List PartAnswers) : Type 0 where
  pub together_are : done ++ left ≡ all
  pub number_is : number ≡ length done
  pub few : length all < 2 ^ 64
  pub one : AreOne jobs whole (parts_of done)

parts_beside : (ps qs : List PartAnswers) → parts_of (ps ++ qs) ≡ parts_of ps ++ parts_of qs
parts_beside [] qs = refl
parts_beside (p ∷ ps) qs = ap (λ (rs : List Part). part_of p ∷ rs) (parts_beside ps qs)

length_parts : (ps : List PartAnswers) → length (parts_of ps) ≡ length ps
length_parts [] = refl
length_parts (p ∷ ps) = ap suc (length_parts ps)

-- helper: a part, if there is one, and the part after it as one
abbrev then_one : List AbstractJob → Option Part → Part → Option Part
then_one jobs None q = None
then_one jobs (Some p) q = as_one jobs p q

alone : (jobs : List AbstractJob) (o : Option Part) → all_as_one jobs o [] ≡ o
alone jobs None = refl
alone jobs (Some p) = refl

all_more : (jobs : List AbstractJob) (o : Option Part) (qs : List Part) (q : Part)
    → all_as_one jobs o (qs ++ q ∷ []) ≡ then_one jobs (all_as_one jobs o qs) q
all_more jobs None qs q = refl
all_more jobs (Some p) [] q = alone jobs (as_one jobs p q)
all_more jobs (Some p) (r ∷ qs) q = all_more jobs (as_one jobs p r) qs q

together_more : (jobs : List AbstractJob) (ps : List Part) (p q : Part) → together jobs ps ≡ Some p
    → together jobs (ps ++ q ∷ []) ≡ as_one jobs p q
together_more jobs [] p q e = nothing e
together_more jobs (r ∷ ps) p q e = all_more jobs (first_part r) ps q ∙ ap (λ o. then_one jobs o q) e

-- before the first part
pub none_done : (jobs : List AbstractJob) (left all : List PartAnswers) → left ≡ all → length all < 2 ^ 64
    → AreDone jobs None 0 [] left all
none_done jobs left all e few = record { together_are = e; number_is = refl; few = few; one = refl }

module _ (jobs : List AbstractJob) (number n : ℕ) (q r : PartAnswers) (done left all : List PartAnswers)
    (next : n ≡ min (number + 1) (2 ^ 64 - 1)) where
  -- helper: one part more is done
  one_more : (o : Option PartAnswers) → AreDone jobs o number done (q ∷ left) all
      → together jobs (parts_of done ++ part_of q ∷ []) ≡ Some (part_of r)
      → AreDone jobs (Some r) n (done ++ q ∷ []) left all
  one_more o h e =
      let lengths : length done + (length left + 1) ≡ length all =
      omega (arith, ap length h.together_are, length-append done (q ∷ left)) in
      record {
        together_are = append_assoc done (q ∷ []) left ∙ h.together_are;
        number_is = omega (arith, next, h.number_is, h.few, lengths, length-append done (q ∷ []));
        few = h.few;
        one = ap (together jobs) (parts_beside done (q ∷ [])) ∙ e;
      }

  pub first_done : (whole : Option PartAnswers) (items : List PartAnswers) → whole ≡ None → items ≡ q ∷ left
      → AreDone jobs whole number done items all
      → first_part (part_of q) ≡ Some (part_of r) → AreDone jobs (Some r) n (done ++ q ∷ []) left all
  first_done whole items none next_is h e =
      let one : parts_of done ≡ [] = subst (λ (o : Option PartAnswers). AreOne jobs o (parts_of done)) none h.one in
      one_more whole (subst (λ (qs : List PartAnswers). AreDone jobs whole number done qs all) next_is h)
      (ap (λ (ps : List Part). together jobs (ps ++ part_of q ∷ [])) one ∙ (alone jobs (first_part (part_of q)) ∙ e))

  pub next_done : (p : PartAnswers) (whole : Option PartAnswers) (items : List PartAnswers) → whole ≡ Some p
      → items ≡ q ∷ left → AreDone jobs whole number done items all
      → as_one jobs (part_of p) (part_of q) ≡ Some (part_of r) → AreDone jobs (Some r) n (done ++ q ∷ []) left all
  next_done p whole items here next_is h e =
      let one : together jobs (parts_of done) ≡ Some (part_of p) =
      subst (λ (o : Option PartAnswers). AreOne jobs o (parts_of done)) here h.one in
      one_more whole (subst (λ (qs : List PartAnswers). AreDone jobs whole number done qs all) next_is h)
      (together_more jobs (parts_of done) (part_of p) (part_of q) one ∙ e)

-- ---- merged answers are paired with the jobs

both_are : (o : Option Answer) (os : Option (List Answer)) (cs : List Answer) → both o os ≡ Some cs
    → (c : Answer) × (rest : List Answer) × (os ≡ Some rest) × (c ∷ rest ≡ cs)
both_are None os cs e = nothing e
both_are (Some c) None cs e = nothing e
both_are (Some c) (Some rest) cs e = (c, rest, refl, the_same e)

beside_paired : (n : ℕ) (jobs : List AbstractJob) (before rows : ℕ) (ls bs cs : List Answer)
    → answers_beside jobs before rows ls bs ≡ Some cs → first_unpaired n jobs cs ≡ None
beside_paired n [] before rows [] [] cs e = ap (first_unpaired n []) (sym (the_same e))
beside_paired n [] before rows [] (b ∷ bs) cs e = nothing e
beside_paired n [] before rows (a ∷ ls) bs cs e = nothing e
beside_paired n (job ∷ jobs) before rows [] bs cs e = nothing e
beside_paired n (job ∷ jobs) before rows (a ∷ ls) [] cs e = nothing e
beside_paired n (job ∷ jobs) before rows (a ∷ ls) (b ∷ bs) cs e =
    let p = both_are (answer_beside job before rows a b) (answers_beside jobs before rows ls bs) cs e in
    ap (first_unpaired n (job ∷ jobs)) (sym p.3) ∙ beside_paired (n + 1) jobs before rows ls bs p.1 p.2

one_paired : (jobs : List AbstractJob) (t : Bool) (rows before : ℕ) (ls bs : List Answer) (r : Part)
    → (if t then None else part_with (before + rows) (answers_beside jobs before rows ls bs)) ≡ Some r
    → first_unpaired 0 jobs r.answers ≡ None
one_paired jobs true rows before ls bs r e = nothing e
one_paired jobs false rows before ls bs r e = there (answers_beside jobs before rows ls bs) refl e
  where
    there : (o : Option (List Answer)) → answers_beside jobs before rows ls bs ≡ o
        → part_with (before + rows) o ≡ Some r → first_unpaired 0 jobs r.answers ≡ None
    there None w e = nothing e
    there (Some cs) w e = ap (λ (p : Part). first_unpaired 0 jobs p.answers) (sym (the_same e))
        ∙ beside_paired 0 jobs before rows ls bs cs w

all_paired : (jobs : List AbstractJob) (o : Option Part) (qs : List Part) (r : Part)
    → ((p : Part) → o ≡ Some p → first_unpaired 0 jobs p.answers ≡ None)
    → all_as_one jobs o qs ≡ Some r → first_unpaired 0 jobs r.answers ≡ None
all_paired jobs None qs r h e = nothing e
all_paired jobs (Some p) [] r h e = h r e
all_paired jobs (Some p) (q ∷ qs) r h e =
    all_paired jobs (as_one jobs p q) qs r
    (λ s. one_paired jobs (nat_lt (2 ^ 62) (p.rows + q.rows)) q.rows p.rows p.answers q.answers s) e

two_paired : (jobs : List AbstractJob) (o : Option Part) (q : Part) (qs : List Part) (r : Part)
    → all_as_one jobs o (q ∷ qs) ≡ Some r → first_unpaired 0 jobs r.answers ≡ None
two_paired jobs None q qs r e = nothing e
two_paired jobs (Some p) q qs r e =
    all_paired jobs (as_one jobs p q) qs r
    (λ s. one_paired jobs (nat_lt (2 ^ 62) (p.rows + q.rows)) q.rows p.rows p.answers q.answers s) e

first_is : (t : Bool) (p r : Part) → (if t then None else Some p) ≡ Some r → p ≡ r
first_is true p r e = nothing e
first_is false p r e = the_same e

-- ---- refusals

module _ (jobs : List AbstractJob) where
  -- helper: the next part can't be merged with those that are done
  refused_after : (p q : PartAnswers) (number : ℕ) (done left all : List PartAnswers) (f : MergeFault)
      → AreDone jobs (Some p) number done (q ∷ left) all
      → rows_on (Some p) (parts_of (q ∷ left)) ≡ rows_in (parts_of all)
      → IsRefusedAt number (p.rows + q.rows) (first_apart 0 jobs p.rows q.rows p.answers.items q.answers.items) f
      → IsRefusal jobs (parts_of all) f
  refused_after p q number done left all fault.NoPart h rows at = absurd at
  refused_after p q number done left all fault.TooManyRows h rows at = omega (arith, rows, at)
  refused_after p q number done left all fault.NoMemory h rows at = tt
  refused_after p q number done left all (fault.Part part job) h rows at = inl (record {
    before = parts_of done;
    part = part_of q;
    later = parts_of left;
    all = sym (ap parts_of h.together_are) ∙ parts_beside done (q ∷ left);
    number_is = at.0 ∙ (h.number_is ∙ sym (length_parts done));
    whole = part_of p;
    merged = h.one;
    first = at.1;
  })

  pub refused_next : (p q : PartAnswers) (whole : Option PartAnswers) (items : List PartAnswers) (number : ℕ)
      (done left all : List PartAnswers) (f : MergeFault) → whole ≡ Some p → items ≡ q ∷ left
      → AreDone jobs whole number done items all → rows_on whole (parts_of items) ≡ rows_in (parts_of all)
      → IsRefusedAt number (p.rows + q.rows) (first_apart 0 jobs p.rows q.rows p.answers.items q.answers.items) f
      → IsRefusal jobs (parts_of all) f
  refused_next p q whole items number done left all f here next h rows at =
      refused_after p q number done left all f
      (subst (λ (o : Option PartAnswers). AreDone jobs o number done (q ∷ left) all) here
      (subst (λ (qs : List PartAnswers). AreDone jobs whole number done qs all) next h))
      (subst (λ (o : Option PartAnswers). rows_on o (parts_of (q ∷ left)) ≡ rows_in (parts_of all)) here
      (subst (λ (qs : List PartAnswers). rows_on whole (parts_of qs) ≡ rows_in (parts_of all)) next rows))
      at

  -- all are merged, and the number of answers isn't that of the jobs
  pub refused_last : (p : Part) (ps : List Part) (f : MergeFault) → together jobs ps ≡ Some p
      → IsRefusedAt 0 0 (first_unpaired 0 jobs p.answers) f → IsRefusal jobs ps f
  refused_last p ps fault.NoPart e at = absurd at
  refused_last p ps fault.TooManyRows e at = absurd (omega (arith, at))
  refused_last p ps fault.NoMemory e at = tt
  refused_last p [] (fault.Part part job) e at = nothing e
  refused_last p (q ∷ []) (fault.Part part job) e at =
      inr (record {
        part = q;
        all = refl;
        number_is = at.0;
        first = ap (λ (r : Part). first_unpaired 0 jobs r.answers)
            (first_is (nat_lt (2 ^ 62) q.rows) q p (sym (alone jobs (first_part q)) ∙ e)) ∙ at.1;
      })
  refused_last p (q ∷ r ∷ ps) (fault.Part part job) e at =
      nothing (sym (two_paired jobs (first_part q) r ps p e) ∙ at.1)

  pub refused_all : (p : PartAnswers) (whole : Option PartAnswers) (items : List PartAnswers) (number : ℕ)
      (done all : List PartAnswers) (f : MergeFault) → whole ≡ Some p → items ≡ []
      → AreDone jobs whole number done items all → IsRefusedAt 0 0 (first_unpaired 0 jobs p.answers.items) f
      → IsRefusal jobs (parts_of all) f
  refused_all p whole items number done all f here none h at =
      let one : together jobs (parts_of done) ≡ Some (part_of p) =
      subst (λ (o : Option PartAnswers). AreOne jobs o (parts_of done)) here h.one in
      let same : done ≡ all = sym (append-nil done)
      ∙ (ap (λ (qs : List PartAnswers). done ++ qs) (sym none) ∙ h.together_are) in
      refused_last (part_of p) (parts_of all) f
      (subst (λ (ps : List PartAnswers). together jobs (parts_of ps) ≡ Some (part_of p)) same one) at

-- ---- what is apart isn't merged, and nothing else is named

beside_none : (n : ℕ) (jobs : List AbstractJob) (before rows : ℕ) (ls bs : List Answer) (j : ℕ)
    → first_apart n jobs before rows ls bs ≡ Some j → answers_beside jobs before rows ls bs ≡ None
beside_none n [] before rows [] [] j e = nothing e
beside_none n [] before rows [] (b ∷ bs) j e = refl
beside_none n [] before rows (a ∷ ls) bs j e = refl
beside_none n (job ∷ jobs) before rows [] bs j e = refl
beside_none n (job ∷ jobs) before rows (a ∷ ls) [] j e = refl
beside_none n (job ∷ jobs) before rows (a ∷ ls) (b ∷ bs) j e =
    by_first (answer_beside job before rows a b) (beside_none (n + 1) jobs before rows ls bs j) e
  where
    by_first : (o : Option Answer) → (first_apart (n + 1) jobs before rows ls bs ≡ Some j
        → answers_beside jobs before rows ls bs ≡ None)
        → (if is_some o then first_apart (n + 1) jobs before rows ls bs else Some n) ≡ Some j
        → both o (answers_beside jobs before rows ls bs) ≡ None
    by_first None more h = refl
    by_first (Some c) more h = ap (both (Some c)) (more h)

all_then : (jobs : List AbstractJob) (o : Option Part) (qs rs : List Part)
    → all_as_one jobs o (qs ++ rs) ≡ all_as_one jobs (all_as_one jobs o qs) rs
all_then jobs None qs [] = refl
all_then jobs None qs (r ∷ rs) = refl
all_then jobs (Some p) [] rs = refl
all_then jobs (Some p) (q ∷ qs) rs = all_then jobs (as_one jobs p q) qs rs

no_one : (t : Bool) (n : ℕ) (o : Option (List Answer)) → o ≡ None → (if t then None else part_with n o) ≡ None
no_one true n o e = refl
no_one false n o e = ap (part_with n) e

not_together : (jobs : List AbstractJob) (ps : List Part) (p q : Part) (qs : List Part) → together jobs ps ≡ Some p
    → as_one jobs p q ≡ None → together jobs (ps ++ q ∷ qs) ≡ None
not_together jobs [] p q qs e none = nothing e
not_together jobs (r ∷ ps) p q qs e none =
    all_then jobs (first_part r) ps (q ∷ qs)
    ∙ (ap (λ o. all_as_one jobs o (q ∷ qs)) e ∙ ap (λ o. all_as_one jobs o qs) none)

-- two elements of a list: one and the same, or one of them before the other
two_places : (xs ys : List Part) (p q : Part) (ps qs : List Part) → xs ++ p ∷ ps ≡ ys ++ q ∷ qs
    → ((xs ≡ ys) × (p ≡ q)) ⊎ (((more : List Part) × (ys ≡ xs ++ p ∷ more))
    ⊎ ((more : List Part) × (xs ≡ ys ++ q ∷ more)))
two_places [] [] p q ps qs e = inl (refl, cc)
two_places [] (y ∷ ys) p q ps qs e = let same : y ≡ p = cc in inr (inl (ys, ap (λ (r : Part). r ∷ ys) same))
two_places (x ∷ xs) [] p q ps qs e = let same : x ≡ q = cc in inr (inr (xs, ap (λ (r : Part). r ∷ xs) same))
two_places (x ∷ xs) (y ∷ ys) p q ps qs e =
    let same : x ≡ y = cc in
    let rest : xs ++ p ∷ ps ≡ ys ++ q ∷ qs = cc in
    further same (two_places xs ys p q ps qs rest)
  where
    further : x ≡ y → ((xs ≡ ys) × (p ≡ q))
        ⊎ (((more : List Part) × (ys ≡ xs ++ p ∷ more)) ⊎ ((more : List Part) × (xs ≡ ys ++ q ∷ more)))
        → ((x ∷ xs ≡ y ∷ ys) × (p ≡ q)) ⊎
        (((more : List Part) × (y ∷ ys ≡ x ∷ xs ++ p ∷ more))
        ⊎ ((more : List Part) × (x ∷ xs ≡ y ∷ ys ++ q ∷ more)))
    further same (inl at) = inl ((λ i. same i ∷ at.0 i), at.1)
    further same (inr (inl at)) = inr (inl (at.0, λ i. sym same i ∷ at.1 i))
    further same (inr (inr at)) = inr (inr (at.0, λ i. same i ∷ at.1 i))

module _ (jobs : List AbstractJob) (parts : List Part) where
  not_one : (number job : ℕ) (h : IsApart jobs parts number job) → as_one jobs h.whole h.part ≡ None
  not_one number job h =
      no_one (nat_lt (2 ^ 62) (h.whole.rows + h.part.rows)) (h.whole.rows + h.part.rows)
      (answers_beside jobs h.whole.rows h.part.rows h.whole.answers h.part.answers)
      (beside_none 0 jobs h.whole.rows h.part.rows h.whole.answers h.part.answers job h.first)

  pub none_merged : (number job : ℕ) → IsApart jobs parts number job → merged jobs parts ≡ None
  none_merged number job h =
      ap (merged jobs) h.all ∙ ap (finished jobs)
      (not_together jobs h.before h.whole h.part h.later h.merged (not_one number job h))

  -- helper: a part before one that is apart isn't apart
  not_before : {A : Type 0} (number job other another : ℕ) (h : IsApart jobs parts number job)
      (k : IsApart jobs parts other another) (more : List Part) → k.before ≡ h.before ++ h.part ∷ more → A
  not_before number job other another h k more e =
      nothing (sym (not_together jobs h.before h.whole h.part more h.merged (not_one number job h))
      ∙ (ap (together jobs) (sym e) ∙ k.merged))

  pub one_apart : (number job other another : ℕ) → IsApart jobs parts number job → IsApart jobs parts other another
      → (number ≡ other) × (job ≡ another)
  one_apart number job other another h k =
      at (two_places h.before k.before h.part k.part h.later k.later (sym h.all ∙ k.all))
    where
      at : ((h.before ≡ k.before) × (h.part ≡ k.part))
          ⊎ (((more : List Part) × (k.before ≡ h.before ++ h.part ∷ more))
          ⊎ ((more : List Part) × (h.before ≡ k.before ++ k.part ∷ more)))
          → (number ≡ other) × (job ≡ another)
      at (inl same) =
          let whole : h.whole ≡ k.whole = the_same (sym h.merged ∙ (ap (together jobs) same.0 ∙ k.merged)) in (
            h.number_is ∙ (ap length same.0 ∙ sym k.number_is),
            the_same (sym h.first ∙ ((λ i. first_apart 0 jobs (whole i).rows (same.1 i).rows (whole i).answers
                (same.1 i).answers) ∙ k.first)),
          )
      at (inr (inl found)) = not_before number job other another h k found.0 found.1
      at (inr (inr found)) = not_before other another number job k h found.0 found.1
