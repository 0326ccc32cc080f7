use Rattle.std.proofs.Common.{◌∷◌, map, ap, sym, ◌∙◌, subst, arith}
use Rattle.exo_tree.specs.Tree.{block}
use Rattle.exo_tree.specs.Places.{opened_in}
use Rattle.exo_tree.specs.PlainPlace.{step_taken}
use Rattle.exo_tree.specs.PlainStatement.{statement}
use Rattle.exo_tree.proofs.Edits.{if_ok}
use Rattle.piece_modes.specs.PlainWay.{plain_way}
use Rattle.piece_modes.specs.Way.{LeadsTo}
use Rattle.piece_modes.proofs.Ways.{there_dropped, step_missing, branch_missing, step_leads}
use Rattle.piece_modes.proofs.way.Way.+descend.Goals as goal

pub returns-in_default-get : goal.returns-in_default-get
returns-in_default-get t c =
    let s = step_taken c.args.step in
    ap (λ z. opened_in c.args.count (s ∷ z) (block c.args.b.now)) (ap (map step_taken) c.in-Some.ensures.cases.0)
    ∙ step_missing c.args.count s (step_taken c.in-Some.next.now) (map step_taken c.in-Some.more.now) c.args.b.now (sym c.in_default-get.ensures)

pub returns-in_default-block : goal.returns-in_default-block
returns-in_default-block t c =
    let s = step_taken c.args.step in
    let a = statement c.in-Some-get.s.now in
    let there = there_dropped c.args.b.now c.args.step.index a (sym c.in-Some-get.ensures) in
    ap (λ z. opened_in c.args.count (s ∷ z) (block c.args.b.now)) (ap (map step_taken) c.in-Some.ensures.cases.0)
    ∙ branch_missing c.args.count s (step_taken c.in-Some.next.now) (map step_taken c.in-Some.more.now) c.args.b.now a there.0 there.1 (sym c.in_default-block.ensures)

pub pass_first-requires : goal.pass_first-requires
pass_first-requires t c =
    let there = there_dropped c.args.b.now c.args.step.index (statement c.in-Some-get.s.now) (sym c.in-Some-get.ensures) in
    omega (arith, there.0)

pub returns : goal.returns
returns t c =
    let s = step_taken c.args.step in
    let next = step_taken c.in-Some.next.now in
    let more = map step_taken c.in-Some.more.now in
    let a = statement c.in-Some-get.s.now in
    let inner = block c.in-Some-block.inner.now in
    let there = there_dropped c.args.b.now c.args.step.index a (sym c.in-Some-get.ensures) in
    if_ok (λ found. LeadsTo (opened_in c.args.count (next ∷ more) inner) found (plain_way c.enter.new.self) (plain_way c.descend.new.self))
    (λ found. LeadsTo (opened_in c.args.count (s ∷ map step_taken c.args.rest.now) (block c.args.b.now)) found (plain_way c.args.self.now) (plain_way c.descend.new.self))
    (λ found h.
    subst (λ z. LeadsTo (opened_in c.args.count (s ∷ z) (block c.args.b.now)) found (plain_way c.args.self.now) (plain_way c.descend.new.self))
    (sym (ap (map step_taken) c.in-Some.ensures.cases.0))
    (step_leads c.args.count s next more c.args.b.now a inner found (plain_way c.args.self.now) (plain_way c.pass_first.new.self) (plain_way c.enter.new.self) (plain_way c.descend.new.self)
    there.0 there.1 (sym c.in-Some-block.ensures) c.in_ok-pass_first.ensures c.in_ok-enter.ensures h))
    c.descend.result c.descend.ensures
