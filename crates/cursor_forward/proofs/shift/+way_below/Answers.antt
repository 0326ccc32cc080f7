use Rattle.std.proofs.Common.{◌≡◌, ◌<◌, ◌∙◌, length, Some, None, true, false, refl, sym, ap, arith}
use Rattle.exo_tree.specs.Places.{same_step}
use Rattle.exo_tree.specs.PlainPlace.{step_taken}
use Rattle.std.specs.Prelude.{option_map}
use Rattle.cursor_forward.specs.PlainShift.{plain_below}
use Rattle.cursor_forward.proofs.Steps.{below_deeper, below_last, below_none, none_below, none_more, some_more}
use Rattle.cursor_forward.proofs.shift.+way_below.Goals as goal

pub returns-then-is_same_step : goal.returns-then-is_same_step
returns-then-is_same_step t c =
    let some : 0 < length c.in_ok-first.more.now = some_more (length c.in_ok-first.more.now) c.if-is_empty.ensures in
    let same : same_step (step_taken c.in_ok-first.first.now) (step_taken c.in_ok-step.step.now) ≡ true = sym
    c.is_same_step.ensures ∙ c.if-is_same_step.true in
    c.way_below.ensures
    ∙ sym (below_deeper c.args.from.now c.in_ok-first.more.now c.args.path.now c.in_ok-step.rest.now c.in_ok-first.first.now c.in_ok-step.step.now true c.in_ok-first.ensures.cases.0 c.in_ok-step.ensures.cases.0 some same)

pub returns-else-is_same_step : goal.returns-else-is_same_step
returns-else-is_same_step t c =
    let some : 0 < length c.in_ok-first.more.now = some_more (length c.in_ok-first.more.now) c.if-is_empty.ensures in
    let other : same_step (step_taken c.in_ok-first.first.now) (step_taken c.in_ok-step.step.now) ≡ false = sym
    c.is_same_step.ensures ∙ c.if-is_same_step.false in
    sym (below_deeper c.args.from.now c.in_ok-first.more.now c.args.path.now c.in_ok-step.rest.now c.in_ok-first.first.now c.in_ok-step.step.now false c.in_ok-first.ensures.cases.0 c.in_ok-step.ensures.cases.0 some other)

pub returns-then-is_empty : goal.returns-then-is_empty
returns-then-is_empty t c =
    let w = plain_below (record { offset = c.in_ok-offset.offset; rest = c.in_ok-step.rest }) in
    below_last c.args.from.now c.in_ok-first.more.now c.args.path.now c.in_ok-step.rest.now c.in_ok-first.first.now
    c.in_ok-step.step.now (Some c.in_ok-offset.offset) (Some w)
    c.in_ok-first.ensures.cases.0 c.in_ok-step.ensures.cases.0
    (none_more (length c.in_ok-first.more.now) c.if-is_empty.ensures) c.in_ok-offset.ensures refl

pub returns-in_err-offset : goal.returns-in_err-offset
returns-in_err-offset t c =
    ap (option_map plain_below) c.from_residual-in_err-offset.ensures
    ∙ below_last c.args.from.now c.in_ok-first.more.now c.args.path.now c.in_ok-step.rest.now c.in_ok-first.first.now
    c.in_ok-step.step.now None None
    c.in_ok-first.ensures.cases.0 c.in_ok-step.ensures.cases.0
    (none_more (length c.in_ok-first.more.now) c.if-is_empty.ensures) c.in_err-offset.ensures refl

pub returns-in_err-step : goal.returns-in_err-step
returns-in_err-step t c =
    ap (option_map plain_below) c.from_residual-in_err-step.ensures
    ∙ none_below c.args.from.now c.args.path.now c.in_err-step.ensures.cases

pub returns-in_err-first : goal.returns-in_err-first
returns-in_err-first t c =
    ap (option_map plain_below) c.from_residual.ensures
    ∙ below_none c.args.from.now c.args.path.now c.in_err-first.ensures.cases

pub way_below-requires : goal.way_below-requires
way_below-requires t c =
    let whole : length c.args.from.now ≡ t = c.decreases in
    let less : length c.in_ok-first.more.now < t = omega (arith, c.in_ok-first.ensures.cases.1) in
    (less, tt)
