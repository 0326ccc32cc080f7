use Rattle.std.proofs.Common.{◌≡◌, true, false, ◌∙◌, ap, length, subst}
use Rattle.std.specs.Prelude.{replicate}
use Rattle.exo_tree.specs.Tree.{block}
use Rattle.config_state.proofs.Sets.{if_ok}
use Rattle.config_live.specs.Places.{side_taken}
use Rattle.config_live.specs.Ways.{IsStart}
use Rattle.config_live.proofs.Answer.{written_is, unwritten_is}
use Rattle.config_live.proofs.origins.written_from.Goals as goal

pub returns : goal.returns
returns c = λ f l.
    let n = length c.args.unit.now.fields in
    let start : IsStart n c.in_ok-way.way =
    subst (λ m. IsStart m c.in_ok-way.way) c.len-count.ensures c.in_ok-way.ensures in
    let met : c.in_ok-there.there ≡ true = cc (c.if-not-there.false) in
    written_is c.args.unit.now.procs n c.args.table.now f
    (λ k. c.requires.surely_written k f l) (block c.args.body.now) c.args.place.now
    (side_taken c.args.side) c.in_ok-there.there c.in_ok-way.way c.go_from.new.way start l met
    c.in_ok-there.ensures

pub returns-then-not-there : goal.returns-then-not-there
returns-then-not-there c =
    let n = length c.args.unit.now.fields in
    let lost : c.in_ok-there.there ≡ false = cc (c.if-not-there.true) in
    if_ok c.empty.result _ _
    (λ s none f l. unwritten_is c.args.unit.now.procs n c.args.table.now f
    (λ k. c.requires.surely_written k f l) (block c.args.body.now) c.args.place.now
    (side_taken c.args.side) c.in_ok-there.there c.in_ok-way.way c.go_from.new.way s
    (none ∙ ap (λ m. replicate m false) c.len-count.ensures) lost c.in_ok-there.ensures)
    c.empty.ensures
