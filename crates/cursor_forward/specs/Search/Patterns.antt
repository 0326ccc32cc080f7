-- Plain patterns, by which a schedule finds statements and the parts of right sides. No name stands for any.
use Rattle.std.specs.Prelude.{ℕ, List, Option}

pub data Pattern : Type 0 where
  Loop Alloc Assign Reduce Call : Option (List ℕ) → Pattern
  -- a loop whose only statement is a loop; a write of a field, by its configuration's name and its own
  Nest Config : Option (List ℕ) → Option (List ℕ) → Pattern
  If Pass : Pattern

pub data ExprForm : Type 0 where
  Read : Option (List ℕ) → ExprForm
  Add Sub Mul : ExprForm

pub record ExprPattern : Type 0 where
  pub form : ExprForm
  pub nth : ℕ
