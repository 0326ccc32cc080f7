use Rattle.std.proofs.Common.{◌∙◌, ap, sym}
use Rattle.exo_tree.specs.Tree.{block}
use Rattle.exo_tree.specs.PlainStatement.{statement}
use Rattle.cursor_forward.specs.Cursors.{body_of}
use Rattle.cursor_forward.specs.PlainCursor.{plain_cursor}
use Rattle.cursor_forward.proofs.Steps.{body_parts}
use Rattle.cursor_forward.proofs.moves.body.Goals as goal

pub returns-in_ok-inside-in-Node : goal.returns-in_ok-inside-in-Node
returns-in_ok-inside-in-Node c =
    c.whole.ensures
    ∙ sym (body_parts (block c.args.p.now.body) c.in-Node.path c.in_ok-inside-in-Node.field-0 (statement c.in_ok-at-in-Node.field-0.now) c.in_ok-b-in-Node.b.now
    (sym c.in_ok-at-in-Node.ensures) (sym c.in_ok-b-in-Node.ensures) (sym c.in_ok-inside-in-Node.ensures))
    ∙ ap (λ k. body_of (block c.args.p.now.body) (plain_cursor k)) (sym c.in-Node.is)
