-- What a step is: functions on plain trees. A step takes some statements of a procedure away and
-- puts others in their place. Ids from the first new one on are those of the binders that it makes.
use Rattle.std.specs.Prelude.{ℕ, zero, List, [], Option, None}
use Rattle.exo_tree.specs.Tree.{Block, Procedure, Program}
use Rattle.exo_tree.specs.Places.{Path, Opened}
pub use Rattle.exo_tree.specs.Places.{Piece}
use Rattle.meaning_laws.specs.Facts.{Fact}
use Rattle.config_laws.specs.Differing.{Origin}
use Rattle.cursor_forward.specs.Cursors.{Side, Before}
use Rattle.cursor_forward.specs.Causes.{Cause}
use Rattle.cursor_forward.specs.Shifts.{Shift}
use Rattle.effect_laws.specs.Apart.{Conflict}

-- what is asked of a rule, or why it is refused
pub data Tried (T : Type 0) : Type 0 where
  Got : T → Tried T
  Not : Cause → Tried T

-- a procedure of a unit, with its number there, and how those of the unit were made
pub record Target : Type 0 where
  pub unit : Program
  pub origins : List Origin
  pub number : ℕ
  pub proc : Procedure

-- a piece of a procedure, with what stands there and what is round it
pub record Spot : Type 0 where
  pub target : Target
  pub piece : Piece
  pub opened : Opened

-- how made indices and dimensions are written
pub data Writing : Type 0 where
  AsMade Simplified : Writing

-- what has to be shown, wherever a run comes to the place: that a fact is true, or that two pieces
-- do not clash
pub data Need : Type 0 where
  Says : Path → Fact → Need
  Apart : Path → Conflict → Need

pub record Rule : Type 0 where
  -- which statements are replaced; the conditions of shape, in their order
  pub piece : Target → Path → Tried Piece
  -- what stands in their place, by the first new id
  pub draft : Spot → Writing → ℕ → Tried Block
  -- so many of the first new ids have names that the user gives; binders behind them are copies
  pub named : ℕ
  -- the rule's own refusals, in their order
  pub refusal : Spot → Option Cause
  pub needs : Spot → List Need
  -- where the statements of the piece go
  pub shifts : Spot → List Shift
  -- the name of the result
  pub name : Procedure → List ℕ
  -- the fields that may differ from the point on
  pub fields : Spot → List ℕ
  -- the point, as a place of the result
  pub point : Spot → Path × Side

-- a rule that refuses nothing but the shape, and needs nothing to be shown
abbrev pub plain_rule :
    (Target → Path → Tried Piece) → (Spot → ℕ → Tried Block) → (Spot → List Shift) → Rule
plain_rule piece draft shifts = record {
  piece = piece;
  draft = λ s how base. draft s base;
  named = zero;
  refusal = λ s. None;
  needs = λ s. [];
  shifts = shifts;
  name = λ p. p.name;
  fields = λ s. [];
  point = λ s. ([], Before);
}
