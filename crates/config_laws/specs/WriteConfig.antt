-- A configuration write is put into a gap, where its field is not live.
use Rattle.std.specs.Prelude.{ℕ, List, [], ◌∷◌, Some, None}
use Rattle.exo_tree.specs.Tree.{Argument, Config, Block, end, next, Procedure}
use Rattle.exo_tree.specs.Places.{Path, statement_at}
use Rattle.config_laws.specs.FieldRule.{FieldRule, Tried, Got, Not, WrongShape, ConfigLive, Piece}
use Rattle.config_laws.specs.FieldRule.{Side, Behind, gap, is_live, refused_if}

abbrev pub written : ℕ → Argument → Block
written f e = next (Config f e) end

-- the gap before or behind a statement that is there
abbrev pub gap_at : Side → Procedure → Path → Tried Piece
gap_at side p at = elim (statement_at at p.body) [
  | None ↦ Not WrongShape
  | Some a ↦ Got (record { path = gap at side; count = 0 })
]

abbrev pub write_config : List Procedure → Side → ℕ → Argument → FieldRule
write_config ps side f e = record {
  piece = gap_at side;
  draft = λ p o. Got (written f e);
  refusal = λ p o. refused_if (is_live ps f o) ConfigLive;
  moved = λ o. None;
  fields = λ o. f ∷ [];
  point = λ piece o. (piece.path, Behind);
}
