use Rattle.std.proofs.Common.{◌∙◌, sym}
use Rattle.field_rewrites.specs.Beside.{is_live_behind}
use Rattle.field_rewrites.proofs.Causes.{any_here, any_next, any_end}
use Rattle.field_rewrites.proofs.liveness.one_is_live.Goals as goal

pub returns-then-branch : goal.returns-then-branch
returns-then-branch c =
    sym (c.loop-f.invariant
    ∙ any_here (is_live_behind c.args.on.now c.args.piece.now) c.args.fields.now c.loop-f.f-index _
    c.loop-f-test.true (sym c.if-branch.true ∙ c.in_ok-is_live_behind.ensures))

pub loop-f-preserved : goal.loop-f-preserved
loop-f-preserved c =
    c.loop-f.invariant
    ∙ any_next (is_live_behind c.args.on.now c.args.piece.now) c.args.fields.now c.loop-f.f-index _
    c.loop-f-test.true (sym c.if-branch.false ∙ c.in_ok-is_live_behind.ensures)

pub returns : goal.returns
returns c =
    sym (c.loop-f.invariant
    ∙ any_end (is_live_behind c.args.on.now c.args.piece.now) c.args.fields.now c.loop-f.f-index
    c.loop-f-test.false)
