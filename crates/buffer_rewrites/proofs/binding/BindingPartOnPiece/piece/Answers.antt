use Rattle.std.proofs.Common.{refl, ap, sym, ◌∙◌}
use Rattle.exo_tree.specs.Tree.{block}
use Rattle.alloc_laws.specs.Bind.Binding.{storing, bound_store}
use Rattle.step_rules.specs.Lawful.{scope_here}
use Rattle.step_rules.specs.Rule.{Got, Piece}
use Rattle.step_rules.specs.Shapes.{tried}
use Rattle.step_driver.specs.PlainTarget.{target}
use Rattle.step_driver.specs.Spots.{spot_at}
use Rattle.buffer_rewrites.specs.PlainForm.{plain_form}
use Rattle.buffer_rewrites.proofs.Stored.{piece_found}
use Rattle.buffer_rewrites.proofs.binding.BindingPartOnPiece.piece.Goals as goal

pub returns : goal.returns
returns c =
    let o = c.args.self.now in
    let t = target c.args.on.now in
    let read = storing (plain_form o.form) o.nth in
    let one : Piece = record { path = c.args.at.now; count = 1 } in
    let made =
    ap (λ (p : Piece). tried (read (spot_at t p).opened.piece)
    (bound_store (scope_here (spot_at t p)) o.name.now 0)) (sym c.one-piece.ensures)
    ∙ c.in_ok-bound.ensures in
    piece_found read refl t c.args.at.now (bound_store (scope_here (spot_at t one)) o.name.now 0)
    (block c.in_ok-bound.field-0) made
    ∙ ap Got (sym c.one-piece.ensures)
