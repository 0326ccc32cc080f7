-- What the lines of a schedule do: one after the other, up to the first that is refused.
use Rattle.std.specs.Prelude.{◌≡◌, ℕ, suc, true, false, List, [], ◌∷◌}
use Rattle.schedule_text.specs.Tree as tree
use Rattle.schedule_calls.specs.Requests.{Request}
use Rattle.schedule_calls.specs.Readings.{Asks, is_unknown}
use Rattle.schedule_laws.specs.Versions.Versions.{Versions}
use Rattle.schedule_laws.specs.Versions.Lines.{Why, UnknownOperator, BadArguments, Act, Faulty}
use Rattle.schedule_laws.specs.Versions.Lines.{Went, Refused, performed, Outcome, Done, Stopped}
use Rattle.schedule_laws.specs.Operators.Operators.{act_of}

-- what a line asks, by its text alone
pub data IsAct : tree.Line → Act → Type 0 where
  asked : (line : tree.Line) (r : Request) → Asks line r → IsAct line (act_of r)
  unknown : (line : tree.Line) → is_unknown line ≡ true → IsAct line (Faulty UnknownOperator)
  bad : (line : tree.Line)
      → is_unknown line ≡ false
      → ((r : Request) → Asks line r → ⊥)
      → IsAct line (Faulty BadArguments)

-- lines from the one of an index on, with the versions before them, come to an end
pub data LinesRun : ℕ → List tree.Line → Versions → Outcome → Type 0 where
  ends : (k : ℕ) (v : Versions) → LinesRun k [] v (Done v)
  stops : (k : ℕ) (line : tree.Line) (more : List tree.Line) (v : Versions) (a : Act) (why : Why)
      → IsAct line a
      → performed v a ≡ Refused why
      → LinesRun k (line ∷ more) v (Stopped k why)
  goes : (k : ℕ) (line : tree.Line) (more : List tree.Line) (v w : Versions) (a : Act)
      (end : Outcome)
      → IsAct line a
      → performed v a ≡ Went w
      → LinesRun (suc k) more w end
      → LinesRun k (line ∷ more) v end
