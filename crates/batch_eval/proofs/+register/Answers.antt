use Rattle.std.proofs.Common.{◌≡◌, ◌∙◌, ◌-◌, ◌<◌, ℕ, ℤ, Bool, true, false, Result, Ok, length, get_or, ap, sym, subst}
use Rattle.std.proofs.Common.{eqb-true, rules, arith}
use Rattle.std.specs.Int.{w64, cast_unsigned}
use Rattle.lambda_values.specs.declared.fault.FaultKind.{FaultKind}
use Rattle.lambda_values.specs.Term.{Truth, truth_of}
use Rattle.lambda_values.specs.Value.{chosen, connected, truth_value}
use Rattle.batch_eval.specs.declared.operands.Step.{Step}
use Rattle.batch_eval.specs.declared.register.Operand.{Operand}
use Rattle.batch_eval.specs.Batches.{holds, wanted}
use Rattle.lambda_values.specs.Operators.{on}
use Rattle.batch_eval.specs.Choices.{chosen_value, connected_flag, lane_item, lane_passes, operand_value}
use Rattle.batch_eval.specs.Lanes.{after, at, branch_at, flagged, step_value}
use Rattle.batch_eval.specs.Rooms.{FitsChosen, FitsOperand, FitsParted}
use Rattle.batch_eval.specs.Rows.{row_at}
use Rattle.batch_eval.proofs.FlagLemmas.{flagged_connected}
use Rattle.batch_eval.proofs.ChoiceLemmas.{chosen_ones, chosen_everywhere, chosen_reaches, parted_reaches}
use Rattle.batch_eval.proofs.RowLemmas.{fewer_rows}
use Rattle.batch_eval.proofs.Steps.{Reaches_on, Reaches_same}
use Rattle.batch_eval.proofs.+register.Goals as goal

-- what is left for two operands after a register of flags
parted_fits : (c : Truth) (a b : Operand) (room rest : ℕ) → rest ≡ room - 1024 → FitsChosen c a b room
    → FitsParted a b rest
parted_fits c a b room rest is fits =
    let same : rest - 3072 ≡ room - 4096 = omega (arith, is) in (
      omega (arith, is, fits.0),
      subst (FitsOperand a) (sym same) fits.2,
      subst (FitsOperand b) (sym same) fits.3,
    )

pub choice::eval_chosen-returns : goal.choice::eval_chosen-returns
choice::eval_chosen-returns m c =
    let env = c.args.inputs.env.now in
    let t : ℕ → Result Bool FaultKind = λ k. truth_value (truth_of c.args.condition.now) (lane_item c.args.inputs k)
    env in
    let value : Operand → ℕ → Result ℤ FaultKind = λ e k. operand_value e (lane_item c.args.inputs k) env in
    rw c.after-2.ensures (chosen_reaches t (value c.args.either.chosen) (value c.args.either.other)
    c.eval_bool-tested.new.out
    c.eval_parted.new.out c.args.inputs.live c.eval_bool-tested.result c.eval_parted.result
    c.eval_bool-tested.ensures c.eval_parted.ensures)

pub choice::eval_chosen-returns-then-eval_both : goal.choice::eval_chosen-returns-then-eval_both
choice::eval_chosen-returns-then-eval_both m c =
    let env = c.args.inputs.env.now in
    let t : ℕ → Result Bool FaultKind = λ k. truth_value (truth_of c.args.condition.now) (lane_item c.args.inputs k)
    env in
    let value : Operand → ℕ → Result ℤ FaultKind = λ e k. operand_value e (lane_item c.args.inputs k) env in
    rw (c.after.ensures, c.all-then-eval_both.ensures)
    (chosen_everywhere t (value c.args.either.chosen) (value c.args.either.other)
    c.eval_bool-tested.new.out c.eval_both.new.out c.args.inputs.live c.eval_bool-tested.result
    c.eval_bool-tested.ensures (λ k below. ap
    (λ p. chosen p (value c.args.either.chosen k) (value c.args.either.other k))
    (sym (c.is_set.ensures (at c.eval_bool-tested.new.out k)))
    ∙ c.eval_both.ensures c.if-eval_both.true k below))

pub choice::eval_both-returns-then-first-inputs : goal.choice::eval_both-returns-then-first-inputs
choice::eval_both-returns-then-first-inputs m c = λ is k below.
    let env = c.args.inputs.env.now in
    let x = lane_item c.args.inputs k in
    let one = c.eval_branch.result in
    let other = c.eval_branch-2.result in
    let all : one.1.live ≡ c.args.inputs.live = c.if-first-inputs.true in
    let both : other.1.live ≡ c.args.inputs.live = eqb-true other.1.live c.args.inputs.live is in
    chosen_ones (holds c.args.set (at c.args.xs.now k)) (branch_at one.0 k) (branch_at other.0 k) (at c.blend.new.out k)
    (operand_value c.args.either.chosen x env) (operand_value c.args.either.other x env) (c.blend.ensures k below)
    (c.eval_branch.ensures.reached.values k (omega (arith, all, below)))
    (c.eval_branch-2.ensures.reached.values k (omega (arith, both, below)))

pub choice::eval_both-eval_branch-requires : goal.choice::eval_both-eval_branch-requires
choice::eval_both-eval_branch-requires t c =
    let d = c.decreases in
    let len : length c.split_at_mut-others.result.1.now ≡ length c.args.room.now - 3072 = search rules in (
      omega (arith, d),
      (
        c.requires.lanes,
        (
          c.requires.xs,
          (
            c.requires.rows,
            (search rules, subst (λ (m : ℕ). FitsOperand c.args.either.chosen m) (sym len) c.requires.room.1),
          ),
        ),
      ),
    )

pub choice::eval_both-eval_branch-requires-2 : goal.choice::eval_both-eval_branch-requires-2
choice::eval_both-eval_branch-requires-2 t c =
    let d = c.decreases in
    let len : length c.eval_branch.new.room ≡ length c.args.room.now - 3072 = search rules in (
      omega (arith, d),
      (
        c.requires.lanes,
        (
          c.requires.xs,
          (
            c.requires.rows,
            (search rules, subst (λ (m : ℕ). FitsOperand c.args.either.other m) (sym len) c.requires.room.2),
          ),
        ),
      ),
    )

pub choice::eval_parted-returns : goal.choice::eval_parted-returns
choice::eval_parted-returns m c =
    let env = c.args.inputs.env.now in
    let a = c.args.either.chosen in
    let b = c.args.either.other in
    let flags = c.args.flags.now in
    let live = c.args.inputs.live in
    let rows = c.args.inputs.rows in
    let value : Operand → ℕ → Result ℤ FaultKind = λ e k. operand_value e (lane_item c.args.inputs k) env in
    let yes_places = c.gather_rows.new.out in
    let no_places = c.gather_rows-2.new.out in
    let first : ℕ → Result ℤ FaultKind =
    λ j. operand_value a (record {
      origin = cast_unsigned w64 (at yes_places j);
      value = at c.gather-count.new.out j;
    }) env in
    let second : ℕ → Result ℤ FaultKind =
    λ j. operand_value b (record {
      origin = cast_unsigned w64 (at no_places j);
      value = at c.gather-count-2.new.out j;
    }) env in
    let yes_count = c.gather-count.ensures.count in
    let no_count = c.gather-count-2.ensures.count in
    parted_reaches (value a) (value b) flags c.eval_operand-first.new.out c.eval_operand-second.new.out c.merge.new.out
    live c.gather-count.result c.gather-count-2.result c.eval_operand-first.result c.eval_operand-second.result
    c.merge.result first second
    yes_count
    (λ j below. c.gather_rows.ensures j (subst (λ (m : ℕ). j < m) yes_count below) (at c.gather-count.new.out j) env
    ∙ ap (λ (z : ℤ). operand_value a
    (record { origin = row_at rows (get_or (wanted true flags live) j 0); value = z }) env)
    (c.gather-count.ensures.values j below))
    c.eval_operand-first.ensures
    no_count
    (λ j below. c.gather_rows-2.ensures j (subst (λ (m : ℕ). j < m) no_count below) (at c.gather-count-2.new.out j) env
    ∙ ap (λ (z : ℤ). operand_value b
    (record { origin = row_at rows (get_or (wanted false flags live) j 0); value = z }) env)
    (c.gather-count-2.ensures.values j below))
    c.eval_operand-second.ensures c.merge.ensures

pub choice::eval_parted-eval_operand-first-requires : goal.choice::eval_parted-eval_operand-first-requires
choice::eval_parted-eval_operand-first-requires t c =
    let d = c.decreases in
    let len : length c.split_at_mut-others.result.1.now ≡ length c.args.room.now - 3072 = search rules in (
      omega (arith, d),
      (
        omega (arith, c.gather-count.ensures.within, c.requires.lanes),
        (
          search rules,
          (
            search rules,
            (
              search rules,
              subst (λ (m : ℕ). FitsOperand c.args.either.chosen m) (sym len) c.requires.room.1,
            ),
          ),
        ),
      ),
    )

pub choice::eval_parted-eval_operand-second-requires : goal.choice::eval_parted-eval_operand-second-requires
choice::eval_parted-eval_operand-second-requires t c =
    let d = c.decreases in
    let len : length c.eval_operand-first.new.room ≡ length c.args.room.now - 3072 = search rules in (
      omega (arith, d),
      (
        omega (arith, c.gather-count-2.ensures.within, c.requires.lanes),
        (
          search rules,
          (
            search rules,
            (
              search rules,
              subst (λ (m : ℕ). FitsOperand c.args.either.other m) (sym len) c.requires.room.2,
            ),
          ),
        ),
      ),
    )

pub choice::eval_parted-eval_operand-requires : goal.choice::eval_parted-eval_operand-requires
choice::eval_parted-eval_operand-requires t c =
    let d = c.decreases in
    let len : length c.split_at_mut-others.result.1.now ≡ length c.args.room.now - 3072 = search rules in (
      omega (arith, d),
      (
        c.requires.lanes,
        (
          c.requires.xs,
          (
            c.requires.rows,
            (c.requires.out, subst (λ (m : ℕ). FitsOperand c.args.either.chosen m) (sym len) c.requires.room.1),
          ),
        ),
      ),
    )

pub choice::eval_parted-eval_operand-requires-then-all_flags-2 :
    goal.choice::eval_parted-eval_operand-requires-then-all_flags-2
choice::eval_parted-eval_operand-requires-then-all_flags-2 t c =
    let d = c.decreases in
    let len : length c.split_at_mut-others.result.1.now ≡ length c.args.room.now - 3072 = search rules in (
      omega (arith, d),
      (
        c.requires.lanes,
        (
          c.requires.xs,
          (
            c.requires.rows,
            (c.requires.out, subst (λ (m : ℕ). FitsOperand c.args.either.other m) (sym len) c.requires.room.2),
          ),
        ),
      ),
    )

pub register::eval_between-eval_long-second-requires : goal.register::eval_between-eval_long-second-requires
register::eval_between-eval_long-second-requires t c =
    let d = c.decreases in
    let first = c.eval_held-2.ensures.reached.within in
    let size = c.last_step-last.ensures.size in (
      omega (arith, d, size),
      (
        omega (arith, first, c.requires.lanes),
        (
          omega (arith, first, c.requires.xs),
          (
            fewer_rows c.args.inputs.rows c.eval_held-2.result.1.live c.args.inputs.live first c.requires.rows,
            (search rules, search rules),
          ),
        ),
      ),
    )

pub register::eval_connected-returns-in-Some : goal.register::eval_connected-returns-in-Some
register::eval_connected-returns-in-Some m c =
    let env = c.args.inputs.env.now in
    let connective = c.args.connective in
    let pair = c.args.pair.now in
    let found = c.in-Some.right in
    let one : ℕ → Result Bool FaultKind = λ k. truth_value (truth_of pair.left) (lane_item c.args.inputs k) env in
    let other : ℕ → Result Bool FaultKind = λ k. truth_value (truth_of pair.right) (lane_item c.args.inputs k) env in
    let whole : ℕ → Result ℤ FaultKind = λ k. flagged (on (one k) (λ p. connected connective p (other k))) in
    let next : ℕ → ℤ → Result ℤ FaultKind = λ k z. Ok (connected_flag connective z (lane_passes found k)) in
    rw c.after.ensures (Reaches_same (λ k. on (flagged (one k)) (next k)) whole (at c.connect.new.out)
    c.args.inputs.live (after c.connect.result c.eval_bool-first.result)
    (λ k below. sym (flagged_connected connective (one k) (other k) (lane_passes found k)
    (c.in-Some.ensures.passes k below)))
    (Reaches_on (λ k. flagged (one k)) next (at c.eval_bool-first.new.out) (at c.connect.new.out) c.args.inputs.live
    c.eval_bool-first.result c.connect.result c.eval_bool-first.ensures c.connect.ensures))

pub choice::eval_tested-returns : goal.choice::eval_tested-returns
choice::eval_tested-returns m c = λ is k below.
    let x = lane_item c.args.inputs k in
    let env = c.args.inputs.env.now in
    let test = c.in-Some.test in
    let still : lane_passes test k ≡ holds test.set (at test.xs.now k) =
    ap (λ (s : Step). holds test.set (step_value s (at test.xs.now k))) c.in-Stay.is in
    ap (λ (t : Result Bool FaultKind). chosen_value t (operand_value c.args.either.chosen x env)
    (operand_value c.args.either.other x env))
    (c.in-Some.ensures.passes k below ∙ ap Ok still) ∙ c.eval_both.ensures is k below

pub choice::eval_chosen-eval_both-requires : goal.choice::eval_chosen-eval_both-requires
choice::eval_chosen-eval_both-requires t c =
    let d = c.decreases in
    let within = c.eval_bool-tested.ensures.within in
    let len : length c.eval_bool-tested.new.room ≡ length c.args.room.now - 1024 = search rules in (
      omega (arith, d),
      (
        omega (arith, within, c.requires.lanes),
        (
          search rules,
          (
            omega (arith, within, c.requires.xs),
            (
              fewer_rows c.args.inputs.rows c.eval_bool-tested.result.live c.args.inputs.live within c.requires.rows,
              (
                search rules,
                parted_fits (truth_of c.args.condition.now) c.args.either.chosen c.args.either.other
                    (length c.args.room.now)
                    (length c.eval_bool-tested.new.room) len c.requires.room,
              ),
            ),
          ),
        ),
      ),
    )

pub choice::eval_chosen-eval_parted-requires : goal.choice::eval_chosen-eval_parted-requires
choice::eval_chosen-eval_parted-requires t c =
    let d = c.decreases in
    let within = c.eval_bool-tested.ensures.within in
    let len : length c.eval_both.new.room ≡ length c.args.room.now - 1024 = search rules in (
      omega (arith, d),
      (
        omega (arith, within, c.requires.lanes),
        (
          search rules,
          (
            omega (arith, within, c.requires.xs),
            (
              fewer_rows c.args.inputs.rows c.eval_bool-tested.result.live c.args.inputs.live within c.requires.rows,
              (
                search rules,
                parted_fits (truth_of c.args.condition.now) c.args.either.chosen c.args.either.other
                    (length c.args.room.now)
                    (length c.eval_both.new.room) len
                    c.requires.room,
              ),
            ),
          ),
        ),
      ),
    )
