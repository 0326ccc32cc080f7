-- The statements of a procedure from a path on.
use Rattle.std.specs.Prelude.{ℕ, Option, slice_get, option_map, option_and_then}
use Rattle.exo_tree.specs.Tree.{Block, Procedure, Program}
use Rattle.exo_tree.specs.Places.{Path, Opened, opened}

-- so many statements of a procedure of a unit from that path on, where they are there
abbrev pub piece_at : Program → ℕ → Path → ℕ → Option Block
piece_at unit p path count =
    option_and_then
    (λ (q : Procedure). option_map (λ (o : Opened). o.piece) (opened count path q.body))
    (slice_get unit.procedures p)
