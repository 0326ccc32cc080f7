-- The plain form of a parameter.
use Rattle.exo_tree.specs.Tree as tree
use Rattle.exo_tree.specs.PlainBinder.{cell_type, control_kind, binding}
use Rattle.exo_tree.specs.declared.param.ParamKind.{ParamKind}
use Rattle.exo_tree.specs.declared.param.ParamKind.TheVariants.{Ctrl, Tensor, Window}
use Rattle.exo_tree.specs.declared.param.Param.{Param}

abbrev pub parameter_kind : ParamKind → tree.ParamKind
parameter_kind (Ctrl k) = tree.ControlParam (control_kind k)
parameter_kind (Tensor t dims m) = tree.TensorParam (cell_type t) dims m.0
parameter_kind (Window t dims m) = tree.WindowParam (cell_type t) dims m.0

abbrev pub parameter : Param → tree.Param
parameter p = record { binder = binding p.binder; kind = parameter_kind p.kind }
