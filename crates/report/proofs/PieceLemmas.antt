-- The text of numbers that lie in pieces.
use Rattle.std.proofs.Common.{◌≡◌, ◌+◌, ◌<◌, ◌∷◌, ◌++◌, ◌∙◌, [], ℕ, ℤ, List, Vec, Global}
use Rattle.std.proofs.Common.{flat_map, sym, ap, length, get_or, take}
use Rattle.std.proofs.lemmas.List.{append-nil, take_more}
use Rattle.std.proofs.lemmas.List.Concat.{flat_map-append}
use denote.Ref.{Bor}
use Rattle.report.specs.AnswerForms.{further}
use Rattle.report.specs.Runs.{runs_in}
use Rattle.report.proofs.NumberLemmas.{further-append}

-- the numbers of the runs up to one, and then the numbers of that one
pub run_on : (runs : List (Bor (List ℤ))) (n : ℕ) (d : Bor (List ℤ)) → n < length runs
    → runs_in (take (n + 1) runs) ≡ runs_in (take n runs) ++ (get_or runs n d).now
run_on runs n d below =
    ap runs_in (take_more runs n d below) ∙ flat_map-append (λ run. run.now) (take n runs) (get_or runs n d ∷ [])
    ∙ ap (λ zs. runs_in (take n runs) ++ zs) (append-nil (get_or runs n d).now)

-- the numbers of groups, one group after the other
abbrev pub numbers_in : List (Vec (Bor (List ℤ)) Global) → List ℤ
numbers_in groups = flat_map (λ group. runs_in group.items) groups

-- one group more, and its text
pub text_more : (separator : List ℕ) (groups before : List (Vec (Bor (List ℤ)) Global))
    (last : Vec (Bor (List ℤ)) Global) (all texts : List (Vec ℕ Global)) (text : Vec ℕ Global)
    → groups ≡ before ++ last ∷ [] → all ≡ texts ++ text ∷ []
    → flat_map (λ t. t.items) texts ≡ further separator (numbers_in before)
    → text.items ≡ further separator (runs_in last.items)
    → flat_map (λ t. t.items) all ≡ further separator (numbers_in groups)
text_more separator groups before last all texts text in_groups in_all so_far made =
    ap (λ ts. flat_map (λ t. t.items) ts) in_all
    ∙ flat_map-append (λ t. t.items) texts (text ∷ [])
    ∙ ap (λ b. flat_map (λ t. t.items) texts ++ b) (append-nil text.items ∙ made)
    ∙ ap (λ b. b ++ further separator (runs_in last.items)) so_far
    ∙ sym (further-append separator (numbers_in before) (runs_in last.items))
    ∙ ap (λ ns. further separator (numbers_in before ++ ns)) (sym (append-nil (runs_in last.items)))
    ∙ ap (λ ns. further separator ns) (sym (flat_map-append (λ g. runs_in g.items) before (last ∷ [])))
    ∙ ap (λ gs. further separator (numbers_in gs)) (sym in_groups)
