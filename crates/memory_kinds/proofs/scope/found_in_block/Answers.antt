use Rattle.std.proofs.Common.{◌-◌, take, min, ap, sym, ◌∙◌}
use Rattle.exo_tree.specs.PlainStatement.{statement}
use Rattle.memory_kinds.specs.declared.scope.Found.TheVariants.{Memory, Name}
use Rattle.memory_kinds.specs.Homes.{homes_past}
use Rattle.memory_kinds.specs.Scope.{found_in}
use Rattle.memory_kinds.proofs.Lookups.{begun, last_says, ended}
use Rattle.memory_kinds.proofs.scope.found_in_block.Goals as goal

pub loop-k-init : goal.loop-k-init
loop-k-init c = λ home. begun home c.args.b.now c.args.upto c.min-count.result c.args.x.0 (c.min-count.ensures ∙ ap (min c.args.upto) c.len.ensures)

pub returns-in-Memory : goal.returns-in-Memory
returns-in-Memory c = λ home.
    let ss = c.args.b.now in
    let before = homes_past home (take (c.min-count.result - 1 - c.loop-k.k) ss) in
    sym (last_says home ss c.min-count.result c.loop-k.k (statement c.statement.result.now) c.loop-k.name.0 (Memory c.in-Memory.m) _ c.loop-k-test.true c.statement.ensures.value (c.found_by.ensures before ∙ ap (found_in before) c.in-Memory.is) (c.loop-k.invariant home))

pub loop-k-preserved : goal.loop-k-preserved
loop-k-preserved c = λ home.
    let ss = c.args.b.now in
    let before = homes_past home (take (c.min-count.result - 1 - c.loop-k.k) ss) in
    last_says home ss c.min-count.result c.loop-k.k (statement c.statement.result.now) c.loop-k.name.0 (Name c.in-Name.y) _ c.loop-k-test.true c.statement.ensures.value (c.found_by.ensures before ∙ ap (found_in before) c.in-Name.is) (c.loop-k.invariant home)

pub returns : goal.returns
returns c = λ home. ended home c.args.b.now c.min-count.result c.loop-k.k c.loop-k.name.0 _ c.loop-k-test.false (c.loop-k.invariant home)
