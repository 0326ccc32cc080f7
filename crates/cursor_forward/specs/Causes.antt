-- Why a step is refused, as rules say it: want of memory is no matter of theirs.
use Rattle.std.specs.Prelude.{ℕ, List}
use Rattle.exo_tree.specs.Places.{Path}

-- why a normal form or a list of systems is refused
pub data FormFault : Type 0 where
  WideNumber TooManyCases SystemTooLarge TooManySystems : FormFault

pub data Cause : Type 0 where
  WrongShape OutOfScope NameTaken LimitPassed : Cause
  ConfigWrite ConfigLive NotIdempotent Aliased StrideUsed NotOnlyReduced : Cause
  StillUsed NotDescendant SharedArgument : Cause
  -- where the first place that differs is
  NoMatch : Path → Cause
  -- the name of the parameter that nothing determines
  Undetermined : List ℕ → Cause
  Form : FormFault → Cause
