use Rattle.std.proofs.Common.{◌∷◌, ◌+◌, ◌∙◌, drop, sym, ap}
use Rattle.std.proofs.lemmas.List.{take_rest}
use Rattle.stream_tokens.specs.Lines.{lines_of}
use Rattle.stream_tokens.proofs.LineLemmas.{line_before_feed, last_line, none_behind}
use Rattle.stream_tokens.proofs.line.first_line.Goals as goal

pub returns-in-Some-clause-lines : goal.returns-in-Some-clause-lines
returns-in-Some-clause-lines c =
    (line_before_feed c.args.bytes.now c.in-Some.end (sym c.line_end.ensures ∙ c.in-Some.is)).1
    ∙ ap (λ v. v ∷ lines_of (drop (c.in-Some.end + 1) c.args.bytes.now)) (sym c.without_return.ensures)
    ∙ ap (λ w. c.without_return.result.now ∷ lines_of w) (sym (take_rest c.args.bytes.now (c.in-Some.end + 1)))

pub returns-in-None-clause-lines : goal.returns-in-None-clause-lines
returns-in-None-clause-lines c =
    last_line c.args.bytes.now c.requires (sym c.line_end.ensures ∙ c.in-None.is)
    ∙ ap (λ w. c.args.bytes.now ∷ lines_of w) (sym (none_behind c.args.bytes.now))
