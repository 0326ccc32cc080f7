-- What a block binds.
pub use Rattle.exo_tree.specs.Renaming.{binders, binders_below as step_binders}
