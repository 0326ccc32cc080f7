use Rattle.std.proofs.Common.{◌≡◌, ◌<◌, ◌∙◌, length, true, false, sym, arith}
use Rattle.exo_tree.specs.Places.{same_step}
use Rattle.exo_tree.specs.PlainPlace.{step_taken}
use Rattle.cursor_forward.proofs.Steps.{span_deeper, span_last, span_none, none_span, span_beyond, none_more, some_more}
use Rattle.cursor_forward.proofs.cursor.+span.Goals as goal

pub returns-then-is_same_step : goal.returns-then-is_same_step
returns-then-is_same_step t c =
    let some : 0 < length c.in_ok-f.more.now = some_more (length c.in_ok-f.more.now) c.if-is_empty.ensures in
    let same : same_step (step_taken c.in_ok-f.f.now) (step_taken c.in_ok-l.l.now) ≡ true = sym c.is_same_step.ensures
    ∙ c.if-is_same_step.true in
    c.span.ensures
    ∙ sym (span_deeper c.args.first.now c.in_ok-f.more.now c.args.last.now c.in_ok-l.rest.now c.in_ok-f.f.now c.in_ok-l.l.now true c.in_ok-f.ensures.cases.0 c.in_ok-l.ensures.cases.0 some same)

pub returns-else-is_same_step : goal.returns-else-is_same_step
returns-else-is_same_step t c =
    let some : 0 < length c.in_ok-f.more.now = some_more (length c.in_ok-f.more.now) c.if-is_empty.ensures in
    let other : same_step (step_taken c.in_ok-f.f.now) (step_taken c.in_ok-l.l.now) ≡ false = sym
    c.is_same_step.ensures ∙ c.if-is_same_step.false in
    sym (span_deeper c.args.first.now c.in_ok-f.more.now c.args.last.now c.in_ok-l.rest.now c.in_ok-f.f.now c.in_ok-l.l.now false c.in_ok-f.ensures.cases.0 c.in_ok-l.ensures.cases.0 some other)

pub returns-then-is_empty-2 : goal.returns-then-is_empty-2
returns-then-is_empty-2 t c =
    span_last c.args.first.now c.in_ok-f.more.now c.args.last.now c.in_ok-l.rest.now c.in_ok-f.f.now c.in_ok-l.l.now
    c.span_between.result
    c.in_ok-f.ensures.cases.0 c.in_ok-l.ensures.cases.0 (none_more (length c.in_ok-f.more.now) c.if-is_empty.ensures)
    (none_more (length c.in_ok-l.rest.now) c.if-is_empty-2.ensures) c.span_between.ensures

pub returns-else-is_empty-2 : goal.returns-else-is_empty-2
returns-else-is_empty-2 t c =
    span_beyond c.args.first.now c.in_ok-f.more.now c.args.last.now c.in_ok-l.rest.now c.in_ok-f.f.now c.in_ok-l.l.now
    c.in_ok-f.ensures.cases.0 c.in_ok-l.ensures.cases.0 (none_more (length c.in_ok-f.more.now) c.if-is_empty.ensures)
    (some_more (length c.in_ok-l.rest.now) c.if-is_empty-2.ensures)

pub returns-in_err-l : goal.returns-in_err-l
returns-in_err-l t c =
    c.from_residual-in_err-l.ensures ∙ none_span c.args.first.now c.args.last.now c.in_err-l.ensures.cases

pub returns-in_err-f : goal.returns-in_err-f
returns-in_err-f t c =
    c.from_residual.ensures ∙ span_none c.args.first.now c.args.last.now c.in_err-f.ensures.cases

pub span-requires : goal.span-requires
span-requires t c =
    let whole : length c.args.first.now ≡ t = c.decreases in
    let less : length c.in_ok-f.more.now < t = omega (arith, c.in_ok-f.ensures.cases.1) in
    (less, tt)
