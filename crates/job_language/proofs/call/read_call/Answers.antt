use Rattle.std.proofs.Common.{◌≡◌, ◌+◌, true, false, drop, length, subst, rules}
use Rattle.std.specs.Prelude.{MatchOption}
use Rattle.job_language.specs.Table.{allows}
use Rattle.lambda_expr.specs.CodeWords.{words_in}
use Rattle.job_language.specs.Splitting.{reads, start, pieces, fits_from, IsOpen, IsSplit}
use Rattle.job_language.proofs.CallReads.{is_read, is_open, not_allowed, not_fit}
use Rattle.job_language.proofs.call.read_call.Goals as goal

pub returns-in-None : goal.returns-in-None
returns-in-None c = λ xs rest call.
    let ws = drop (c.args.opened + 1) (words_in c.args.text.now) in
    let here = subst (λ f. MatchOption f (IsOpen (reads start ws)) (λ ends. IsSplit ws ends.items)) c.in-None.is
    c.in_ok-split.ensures in
    is_open (record { operation = c.args.operation; parts = xs }) rest ws here call

pub returns-then-not-allows : goal.returns-then-not-allows
returns-then-not-allows c = λ xs rest call.
    let ws = drop (c.args.opened + 1) (words_in c.args.text.now) in
    let here = subst (λ f. MatchOption f (IsOpen (reads start ws)) (λ ends. IsSplit ws ends.items)) c.in-Some.is
    c.in_ok-split.ensures in
    let off : allows c.args.operation (length c.in-Some.ends.items) ≡ false = search rules in
    not_allowed (record { operation = c.args.operation; parts = xs }) rest ws c.in-Some.ends.items here off call

pub returns-then-not-fit : goal.returns-then-not-fit
returns-then-not-fit c = λ xs rest call.
    let ws = drop (c.args.opened + 1) (words_in c.args.text.now) in
    let here = subst (λ f. MatchOption f (IsOpen (reads start ws)) (λ ends. IsSplit ws ends.items)) c.in-Some.is
    c.in_ok-split.ensures in
    let off : fits_from c.args.operation (length c.in-Some.ends.items) 0 (pieces ws 0 c.in-Some.ends.items) ≡ false =
    search rules in
    not_fit (record { operation = c.args.operation; parts = xs }) rest ws c.in-Some.ends.items here off call

pub returns-else-not-fit : goal.returns-else-not-fit
returns-else-not-fit c =
    let ws = drop (c.args.opened + 1) (words_in c.args.text.now) in
    let here = subst (λ f. MatchOption f (IsOpen (reads start ws)) (λ ends. IsSplit ws ends.items)) c.in-Some.is
    c.in_ok-split.ensures in
    let on : allows c.args.operation (length c.in-Some.ends.items) ≡ true = search rules in
    let fit : fits_from c.args.operation (length c.in-Some.ends.items) 0 (pieces ws 0 c.in-Some.ends.items) ≡ true =
    search rules in
    is_read c.args.operation ws c.in-Some.ends.items here on fit
