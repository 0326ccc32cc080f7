pub use Rattle.affine_prover.specs.RowSets.Shapes
pub use Rattle.affine_prover.specs.RowSets.Rows
pub use Rattle.affine_prover.specs.RowSets.Settled
pub mod Elimination
pub mod Steps
pub mod Laws
pub mod RowSets
