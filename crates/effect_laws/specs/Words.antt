-- The words in which laws of conflicts are said, passed on from the crates below for those above.
pub use Rattle.check_laws.specs.Facts.Laws.{fact_formula, fact_fits, context_of, context_fits}
pub use Rattle.check_laws.specs.Facts.Laws.{known_at_place, ComesToPlace, ContextsHold, allowed_in}
pub use Rattle.exo_effects.specs.Limits.{are_within, unless_refused}
pub use Rattle.exo_effects.specs.Orders.{Header}
pub use Rattle.exo_effects.specs.Conflicts.{Fault, WideForm, ManyCases, LargeSystem, ManySystems}
pub use Rattle.exo_effects.specs.Conflicts.{Listing, Lists, Refuses}
pub use Rattle.exo_effects.specs.Low.{is_low}
