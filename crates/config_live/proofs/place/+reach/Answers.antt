use Rattle.std.proofs.Common.{◌≡◌, ◌∷◌, true, false, map, sym, ap, subst}
use Rattle.exo_tree.specs.Tree.{block}
use Rattle.exo_tree.specs.Places.{opened_in}
use Rattle.exo_tree.specs.PlainPlace.{step_taken}
use Rattle.exo_tree.specs.PlainStatement.{statement}
use Rattle.config_laws.specs.FieldRule.{gap}
use Rattle.config_live.specs.Places.{side_taken, Reaches}
use Rattle.config_live.proofs.Openings.{step_missing, branch_missing, step_lost, step_there, there_dropped}
use Rattle.config_live.proofs.place.+reach.Goals as goal

pub returns-in_default-get : goal.returns-in_default-get
returns-in_default-get t c =
    subst (λ z. Reaches c.args.table.now (opened_in 0 (gap (step_taken c.args.step ∷ z) (side_taken c.args.side)) (block c.args.b.now)) false c.args.way.now c.args.way.now c.args.added.now c.args.added.now)
    (sym (ap (map step_taken) c.in-Some.ensures.cases.0))
    (step_missing c.args.table.now (step_taken c.args.step) (step_taken c.in-Some.next.now)
    (map step_taken c.in-Some.more.now) (side_taken c.args.side) c.args.b.now _ _ _ _
    (sym c.in_default-get.ensures))

pub returns-in_default-block : goal.returns-in_default-block
returns-in_default-block t c =
    let there = there_dropped c.args.b.now c.args.step.index (statement c.in-Some-get.s.now) (sym c.in-Some-get.ensures) in
    subst (λ z. Reaches c.args.table.now (opened_in 0 (gap (step_taken c.args.step ∷ z) (side_taken c.args.side)) (block c.args.b.now)) false c.args.way.now c.args.way.now c.args.added.now c.args.added.now)
    (sym (ap (map step_taken) c.in-Some.ensures.cases.0))
    (branch_missing c.args.table.now (step_taken c.args.step) (step_taken c.in-Some.next.now)
    (map step_taken c.in-Some.more.now) (side_taken c.args.side) c.args.b.now
    (statement c.in-Some-get.s.now) _ _ _ _ there.0 there.1 (sym c.in_default-block.ensures))

pub returns-then-not-found : goal.returns-then-not-found
returns-then-not-found t c =
    let there = there_dropped c.args.b.now c.args.step.index (statement c.in-Some-get.s.now) (sym c.in-Some-get.ensures) in
    let lost : c.in_ok-found.found ≡ false = cc (c.if-not-found.true) in
    subst (λ z. Reaches c.args.table.now (opened_in 0 (gap (step_taken c.args.step ∷ z) (side_taken c.args.side)) (block c.args.b.now)) false c.args.way.now c.reach.new.way c.args.added.now c.reach.new.added)
    (sym (ap (map step_taken) c.in-Some.ensures.cases.0))
    (step_lost c.args.table.now (step_taken c.args.step) (step_taken c.in-Some.next.now)
    (map step_taken c.in-Some.more.now) (side_taken c.args.side) c.args.b.now
    (statement c.in-Some-get.s.now) (block c.in-Some-block.inner.now) _ _ _ _ there.0 there.1
    (sym c.in-Some-block.ensures)
    (subst (λ found. Reaches c.args.table.now (opened_in 0 (gap (step_taken c.in-Some.next.now ∷ map step_taken c.in-Some.more.now) (side_taken c.args.side)) (block c.in-Some-block.inner.now)) found c.args.way.now c.reach.new.way c.args.added.now c.reach.new.added)
    lost c.in_ok-found.ensures))

pub leave-requires : goal.leave-requires
leave-requires t c =
    let there = there_dropped c.args.b.now c.args.step.index (statement c.in-Some-get.s.now) (sym c.in-Some-get.ensures) in
    record { within = there.0 }

pub returns : goal.returns
returns t c =
    let there = there_dropped c.args.b.now c.args.step.index (statement c.in-Some-get.s.now) (sym c.in-Some-get.ensures) in
    let met : c.in_ok-found.found ≡ true = cc (c.if-not-found.false) in
    subst (λ z. Reaches c.args.table.now (opened_in 0 (gap (step_taken c.args.step ∷ z) (side_taken c.args.side)) (block c.args.b.now)) true c.args.way.now c.leave.new.way c.args.added.now c.leave.new.added)
    (sym (ap (map step_taken) c.in-Some.ensures.cases.0))
    (step_there c.args.table.now (step_taken c.args.step) (step_taken c.in-Some.next.now)
    (map step_taken c.in-Some.more.now) (side_taken c.args.side) c.args.b.now
    (statement c.in-Some-get.s.now) (block c.in-Some-block.inner.now) _ c.reach.new.way _ _ c.reach.new.added _
    there.0 there.1 (sym c.in-Some-block.ensures)
    (subst (λ found. Reaches c.args.table.now (opened_in 0 (gap (step_taken c.in-Some.next.now ∷ map step_taken c.in-Some.more.now) (side_taken c.args.side)) (block c.in-Some-block.inner.now)) found c.args.way.now c.reach.new.way c.args.added.now c.reach.new.added)
    met c.in_ok-found.ensures)
    c.in_ok-leave.ensures)
