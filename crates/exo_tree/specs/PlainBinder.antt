-- The plain forms of what trees are made of.
use Rattle.exo_tree.specs.Tree as tree
use Rattle.exo_tree.specs.declared.number.Cell.{Cell}
use Rattle.exo_tree.specs.declared.number.Cell.TheVariants.{I8, I16, I32, Ui8}
use Rattle.exo_tree.specs.declared.number.Kind.{Kind}
use Rattle.exo_tree.specs.declared.number.Kind.TheVariants.{Size, Index, Bool, Stride}
use Rattle.exo_tree.specs.declared.binder.Binder.{Binder}

abbrev pub cell_type : Cell → tree.Cell
cell_type I8 = tree.I8
cell_type I16 = tree.I16
cell_type I32 = tree.I32
cell_type Ui8 = tree.Ui8

abbrev pub control_kind : Kind → tree.Kind
control_kind Size = tree.Size
control_kind Index = tree.Index
control_kind Bool = tree.Truth
control_kind Stride = tree.Stride

abbrev pub binding : Binder → tree.Binder
binding b = record { id = b.id.0; name = b.name }
