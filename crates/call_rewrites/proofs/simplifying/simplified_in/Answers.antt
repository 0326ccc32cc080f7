use Rattle.std.proofs.Common.{sym, ◌∙◌}
use Rattle.exo_tree.specs.Tree.{block}
use Rattle.exo_tree.specs.PlainProcedure.{procedure}
use Rattle.exo_tree.specs.PlainUnit.{program}
use Rattle.affine_places.specs.Seen.{roots_in}
use Rattle.call_laws.proofs.Simplify.{rooted_is}
use Rattle.call_rewrites.proofs.Simplified.{without_extents, simplified_rooted}
use Rattle.call_rewrites.proofs.simplifying.simplified_in.Goals as goal

pub returns-then-not-has_extents : goal.returns-then-not-has_extents
returns-then-not-has_extents c =
    let p = procedure c.args.on.now.proc.now in
    simplified_rooted block (program c.args.on.now.unit.now).fields p (roots_in c.new.result)
    (block c.args.b.now) c.simplified_at.result
    (without_extents p (sym c.has_extents.ensures ∙ c.if-not-has_extents.true) ∙ sym c.new.ensures)
    c.simplified_at.ensures

pub returns : goal.returns
returns c =
    let p = procedure c.args.on.now.proc.now in
    simplified_rooted block (program c.args.on.now.unit.now).fields p (roots_in c.in_ok-roots.roots)
    (block c.args.b.now) c.simplified_at-2.result
    (rooted_is p (sym c.has_extents.ensures ∙ c.if-not-has_extents.false) ∙ sym c.in_ok-roots.ensures)
    c.simplified_at-2.ensures
