-- When two paths are the same.
pub use Rattle.exo_tree.specs.Places.{same_branch, same_path}
