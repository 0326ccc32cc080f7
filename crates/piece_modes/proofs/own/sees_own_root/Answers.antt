use Rattle.std.proofs.Common.{ap, ◌∙◌}
use Rattle.std.specs.List.{list_any}
use Rattle.exo_tree.specs.Tree.{block}
use Rattle.exo_tree.specs.PlainProcedure.{procedure}
use Rattle.exo_tree.specs.PlainUnit.{program}
use Rattle.exo_modes.specs.Aliases.{roots_in}
use Rattle.piece_modes.specs.Own.{looks_back}
use Rattle.piece_modes.proofs.Outside.{seen_outside}
use Rattle.piece_modes.proofs.own.sees_own_root.Goals as goal

pub returns : goal.returns
returns c =
    let u = program c.args.unit.now in
    let b = block c.args.body.now in
    let way = c.in_ok-aliases.field-0 in
    let roots = roots_in way.aliases.items in
    c.in_ok-found.ensures
    ∙ ap (list_any (looks_back u roots b)) c.deref.ensures.value
    ∙ seen_outside u (procedure c.args.p.now) c.args.count c.args.path.now b way.names.items roots c.in_ok-aliases.ensures
