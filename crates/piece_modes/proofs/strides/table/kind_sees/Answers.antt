use Rattle.std.proofs.Common.{ap, sym, ◌∙◌}
use Rattle.exo_tree.specs.PlainParam.{parameter_kind}
use Rattle.exo_modes.specs.Aliases.{roots_in}
use Rattle.inplace_laws.specs.Uses.{in_controls}
use Rattle.buffer_laws.specs.Stride.Strides.{kind_uses}
use Rattle.piece_modes.proofs.strides.table.kind_sees.Goals as goal
use Rattle.buffer_laws.specs.Staging.Alone.{has_root}
use Rattle.inplace_laws.specs.CallInPlace.{no_name}

pub returns-in-Tensor : goal.returns-in-Tensor
returns-in-Tensor c =
    c.controls_use.ensures
    ∙ ap (λ xs. in_controls no_name (has_root (roots_in xs) c.args.y) c.in-Tensor.dims) c.requires
    ∙ ap (λ k. kind_uses c.args.y (parameter_kind k)) (sym c.in-Tensor.is)

pub returns-in-Window : goal.returns-in-Window
returns-in-Window c =
    c.controls_use-in-Window.ensures
    ∙ ap (λ xs. in_controls no_name (has_root (roots_in xs) c.args.y) c.in-Window.dims) c.requires
    ∙ ap (λ k. kind_uses c.args.y (parameter_kind k)) (sym c.in-Window.is)
