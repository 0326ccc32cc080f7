-- The plain forms of all trees, in one place for the crates above.
pub use Rattle.exo_tree.specs.PlainBinder.{cell_type, control_kind, binding}
pub use Rattle.exo_tree.specs.PlainControl.{control, condition, coordinate}
pub use Rattle.exo_tree.specs.PlainDatum.{datum}
pub use Rattle.exo_tree.specs.PlainArgument.{argument}
pub use Rattle.exo_tree.specs.PlainStatement.{statement}
pub use Rattle.exo_tree.specs.PlainParam.{parameter_kind, parameter}
pub use Rattle.exo_tree.specs.PlainProcedure.{procedure}
pub use Rattle.exo_tree.specs.PlainTables.{config_field, memory_kind}
pub use Rattle.exo_tree.specs.PlainUnit.{program}
