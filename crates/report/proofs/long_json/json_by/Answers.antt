use Rattle.std.proofs.Common.{◌≡◌, ◌≤◌, ◌∷◌, ◌++◌, [], IfOk, List, ℕ, append_assoc, codes, false, ap, length, drop, sym}
use Rattle.std.proofs.Common.{◌∙◌, subst, arith, rules}
use Rattle.std.proofs.lemmas.List.Elements.{All-get_or}
use Rattle.std.proofs.lemmas.Slice.Zip.{zip_turn, zip_end}
use Rattle.std.proofs.Math.ListN.{drop_of_length-le}
use Rattle.std.specs.Iterator.Adapters.{zip_first, zip_second}
use Rattle.std.specs.Slice.Iter.{iter_rest}
use Rattle.serde_json.specs.View.{items_of}
use Rattle.serde_json.specs.Written.{items_text}
use Rattle.report.specs.Json.{jobs_json}
use Rattle.report.specs.Named.{IsText}
use Rattle.report.specs.Pieces.{draft_bytes}
use Rattle.report.proofs.ArrayLemmas.{all_written}
use Rattle.report.proofs.SentPieces.{joined_bytes}
use Rattle.report.proofs.long_json.json_by.Goals as goal

pub text_of-requires : goal.text_of-requires
text_of-requires g c =
    let names = c.args.names.now in
    let first : iter_rest (zip_first c.into_iter-name-iterator.result) ≡ names = search rules in
    let second : iter_rest (zip_second c.into_iter-name-iterator.result) ≡ c.args.answers.now = search rules in
    let turn = zip_turn names c.args.answers.now c.loop-name.yielded c.into_iter-name-iterator.result
    c.loop-name.name-iterator c.next.new.self c.next.result first second c.loop-name.yielded_by
    (c.in-Some.name, c.in-Some.answer) c.in-Some.is c.next.ensures.steps in
    subst IsText (sym (turn.2 c.in-Some.name.now)) (All-get_or IsText names _ c.in-Some.name.now turn.0 c.requires.text)

pub returns : goal.returns
returns g c =
    let names = c.args.names.now in
    let answers = c.args.answers.now in
    let first : iter_rest (zip_first c.into_iter-name-iterator.result) ≡ names = search rules in
    let second : iter_rest (zip_second c.into_iter-name-iterator.result) ≡ answers = search rules in
    let stop = zip_end names answers c.loop-name.yielded c.into_iter-name-iterator.result c.loop-name.name-iterator
    c.next.new.self c.next.result first second c.loop-name.yielded_by c.in-None.is c.next.ensures.steps in
    let all : length names ≤ length c.loop-name.yielded = omega (arith, stop, c.requires.paired) in
    let left : jobs_json names (drop (length c.loop-name.yielded) names) (drop (length c.loop-name.yielded) answers)
    ≡ [] =
    ap (λ ns. jobs_json names ns (drop (length c.loop-name.yielded) answers)) (drop_of_length-le names all) in
    let draft = c.loop-name.draft in
    let pieces = joined_bytes draft.pieces.items in
    let objects = 91 ∷ items_text false (items_of (jobs_json names names answers)) in
    let ended = all_written (draft_bytes draft) objects c.loop-name.later
    (jobs_json names (drop (length c.loop-name.yielded) names) (drop (length c.loop-name.yielded) answers)) left
    c.loop-name.invariant in
    let whole : pieces ++ c.extend_from_slice-2.new.self.items ≡ objects ++ codes "\n" =
    ap (λ (l : List ℕ). pieces ++ l) {y = draft.last.items ++ codes "]\n"} c.in_ok-extend_from_slice-2.ensures.items
    ∙ sym (append_assoc pieces draft.last.items (codes "]\n")) ∙ ended in
    subst (λ (bytes : List ℕ). IfOk c.finish.result (λ (report : List ℕ). report ≡ bytes)) whole c.finish.ensures.ok
