-- Why the work on the texts stops, in the order of its stages.
use Rattle.std.specs.Prelude.{ℕ, List}
use Rattle.exo_reader.specs.declared.unit.ReadError.{ReadError}
use Rattle.rules_names.specs.declared.error.TypeError.{TypeError}
use Rattle.affine_prover.specs.declared.answer.Verdict.{Verdict}
use Rattle.bounds_check.specs.declared.error.CheckError.{CheckError}
use Rattle.memory_kinds.specs.declared.error.KindError.{KindError}
use Rattle.schedule_laws.specs.Versions.Lines.{Why}

pub data Stop : Type 0 where
  -- the text is no unit
  Unread : ReadError → Stop
  -- a rule is broken at a token
  Broken : TypeError → Stop
  -- what a procedure owes can't be listed: the line of its `def`, and why
  NotListed : ℕ → CheckError → Stop
  -- what is owed at a line is not shown: the claim, and the verdict on it
  NotShown : ℕ → List ℕ → Verdict → Stop
  -- the text is no schedule
  NoSchedule : ReadError → Stop
  -- a line of the schedule is refused: its number, its operator and why
  AtLine : ℕ → List ℕ → Why → Stop
  -- this name holds no version
  NoVersion : List ℕ → Stop
  -- this printed procedure breaks a rule on memories
  WrongMemory : List ℕ → KindError → Stop
  -- in the tree of this procedure a number may become too large
  TooWide : List ℕ → Stop
  -- C cannot keep this name of a function or field
  NameClash : List ℕ → Stop
