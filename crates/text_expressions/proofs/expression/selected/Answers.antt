use Rattle.std.proofs.Common.{arith, ap}
use Rattle.text_expressions.specs.Expression.{depth, nodes}
use Rattle.text_expressions.proofs.Made.{made_select}
use Rattle.text_expressions.proofs.Returns.{renamed}
use Rattle.text_expressions.proofs.expression.selected.Goals as goal

pub finished-requires-clause-deep : goal.finished-requires-clause-deep
finished-requires-clause-deep c =
    omega (
      arith,
      ap depth (made_select c.args.a.tree c.args.b.tree c.args.c.tree c.args.d.tree),
      c.requires.measured.0.depth,
      c.requires.measured.1.depth,
      c.requires.measured.2.depth,
      c.requires.measured.3.depth,
      c.max.ensures,
      c.max-2.ensures,
      c.max-depth.ensures,
    )

pub finished-requires-clause-long : goal.finished-requires-clause-long
finished-requires-clause-long c =
    omega (
      arith,
      ap nodes (made_select c.args.a.tree c.args.b.tree c.args.c.tree c.args.d.tree),
      c.requires.measured.0.nodes,
      c.requires.measured.1.nodes,
      c.requires.measured.2.nodes,
      c.requires.measured.3.nodes,
    )

pub returns-clause-reads : goal.returns-clause-reads
returns-clause-reads c =
    λ room tokens taken. c.finished.ensures.reads room tokens
    (renamed (made_select c.args.a.tree c.args.b.tree c.args.c.tree c.args.d.tree) taken)
