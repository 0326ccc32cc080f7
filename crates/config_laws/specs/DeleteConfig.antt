-- A configuration write is left out, where its field is not live behind it.
use Rattle.std.specs.Prelude.{ℕ, zero, suc, List, [], ◌∷◌, Option, Some, None, option_map}
use Rattle.exo_tree.specs.Tree.{Statement, Config, Block, end, next, Procedure}
use Rattle.exo_tree.specs.Context.{rest_of}
use Rattle.exo_tree.specs.Places.{Step, Path, statement_at, first_of}
use Rattle.config_laws.specs.FieldRule.{FieldRule, Tried, Got, Not, WrongShape, ConfigLive, Piece}
use Rattle.config_laws.specs.FieldRule.{Side, Before, Behind, any_live, refused_if}

-- a configuration write
abbrev pub write_piece : Path → Option Statement → Tried Piece
write_piece at (Some (Config f e)) = Got (record { path = at; count = 1 })
write_piece at a = Not WrongShape

-- the field of a statement that writes one
abbrev pub field_of : Option Statement → List ℕ
field_of (Some (Config f e)) = f ∷ []
field_of a = []

-- the statement before that of a path, where there is one
abbrev pub step_back : ℕ → Step → Option Step
step_back zero s = None
step_back (suc k) s = Some (record s { index = k })

abbrev pub previous : Path → Option Path
previous [] = None
previous (s ∷ []) = option_map (λ t. t ∷ []) (step_back s.index s)
previous (s ∷ t ∷ path) = option_map (λ rest. s ∷ rest) (previous (t ∷ path))

abbrev pub behind_or_before : Option Path → Path → Path × Side
behind_or_before None at = (at, Before)
behind_or_before (Some earlier) at = (earlier, Behind)

-- before what followed, or else behind what stood before, or else before the `pass`
abbrev pub where_it_was : Path → Block → Path × Side
where_it_was at (next a b) = (at, Before)
where_it_was at end = behind_or_before (previous at) at

abbrev pub delete_config : List Procedure → FieldRule
delete_config ps = record {
  piece = λ p at. write_piece at (statement_at at p.body);
  draft = λ p o. Got end;
  refusal = λ p o. refused_if (any_live ps o (field_of (first_of o.piece))) ConfigLive;
  moved = λ o. None;
  fields = λ o. field_of (first_of o.piece);
  point = λ piece o. where_it_was piece.path (rest_of o.around);
}
