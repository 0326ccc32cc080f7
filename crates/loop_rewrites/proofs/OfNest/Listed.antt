-- What is listed of what is found, or refused.
use Rattle.std.proofs.Common.{◌≡◌, false, List, [], Option, Some, None, ap}
use Rattle.std.specs.Prelude.{is_none}
use Rattle.cursor_forward.specs.Causes.{Cause}
use Rattle.step_rules.specs.Rule.{Tried, Got}
use Rattle.step_driver.specs.Needs.Outcomes.{RefusedBy}
use Rattle.loop_laws.specs.Shapes.{listed_of}

module _ {U T : Type 0} (list : U → List T) (tried : Tried U) where
  pub listed_by : (x : U) → tried ≡ Got x → listed_of list tried ≡ list x
  listed_by x h = ap (listed_of list) h

  pub nothing_listed : (why : Option Cause) → RefusedBy tried why → is_none why ≡ false
      → listed_of list tried ≡ []
  nothing_listed None h k = cc
  nothing_listed (Some cause) h k = ap (listed_of list) h
