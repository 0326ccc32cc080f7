-- The plain form of two statements, and the fields that statements use.
use Rattle.std.specs.Prelude.{◌&&◌, ◌||◌, ℕ, Bool}
use Rattle.exo_tree.specs.Tree.{Statement, Program}
use Rattle.exo_tree.specs.PlainStatement.{statement}
use Rattle.proc_laws.specs.Statement.ReorderStatements as plain
use Rattle.config_state.specs.Steps.Fields.{written_by, read_by}
use Rattle.proc_rewrites.specs.declared.neighbours.Neighbours.{Neighbours}

abbrev pub plain_neighbours : Neighbours → plain.Neighbours
plain_neighbours n = record { first = statement n.first.now; second = statement n.second.now }

module _ (u : Program) where
  -- it may write the field, or read it
  abbrev pub used_by : Statement → ℕ → Bool
  used_by a f = written_by u a f || read_by u a f

  -- the first may write the field, and the second uses it
  abbrev pub writes_used : Statement → Statement → ℕ → Bool
  writes_used a b f = written_by u a f && used_by b f
