-- How much a procedure may owe.
pub use Rattle.affine_systems.specs.Limits.{affine_terms, system_terms, terms_in, are_within}
