use Rattle.std.proofs.Common.{Bool, List, drop, refl, sym, subst, ◌+◌}
use Rattle.std.proofs.lemmas.List.{drop_all}
use Rattle.tree_edits.specs.Made.Names.{numbered}
use Rattle.tree_edits.proofs.OfMade.Numbers.{NotedSoFar, none_noted, one_noted, all_noted}
use Rattle.tree_edits.proofs.Turns.{front_is}
use Rattle.tree_edits.proofs.made.free.taken_numbers.Goals as goal

pub loop-name-init : goal.loop-name-init
loop-name-init c =
    subst (λ (marks : List Bool). NotedSoFar (numbered c.args.x.now) c.args.taken.now c.args.taken.now marks)
    (sym (c.in_ok-marks.ensures.items_if_clones_equal (λ y e. e)))
    (none_noted (numbered c.args.x.now) c.args.taken.now _ refl)

pub loop-name-preserved : goal.loop-name-preserved
loop-name-preserved c =
    one_noted (numbered c.args.x.now) c.args.taken.now (drop (c.loop-name.name-index + 1) c.args.taken.now)
    (drop c.loop-name.name-index c.args.taken.now) c.as_str.result.now c.loop-name.marks.items c.note.new.marks.items
    (front_is c.args.taken.now c.loop-name.name-index c.name-item.result c.as_str.result.now c.loop-name-test.true
    c.name-item.is c.as_str.ensures) c.note.ensures c.loop-name.invariant

pub returns : goal.returns
returns c =
    all_noted (numbered c.args.x.now) c.args.taken.now (drop c.loop-name.name-index c.args.taken.now)
    c.loop-name.marks.items
    (drop_all c.loop-name.name-index c.args.taken.now c.loop-name-test.false) c.loop-name.invariant
