-- A call of a version in the place of a call of a procedure that it was made from.
use Rattle.std.specs.Prelude.{ℕ, if◌then◌else◌, List, [], Option, Some}
use Rattle.exo_tree.specs.Tree.{Statement, Call, Block, end, next, Program}
use Rattle.exo_tree.specs.Places.{Path, statement_at, first_of}
use Rattle.config_laws.specs.FieldRule.{FieldRule, Tried, Got, Not, Piece, Behind}
use Rattle.config_laws.specs.FieldRule.{WrongShape, ConfigLive, NotDescendant, any_live, refused_if}
use Rattle.config_laws.specs.Differing.{Origin, is_descendant, differing}

module _ (unit : Program) (os : List Origin) (j : ℕ) where
  abbrev pub version_piece : Path → Option Statement → Tried Piece
  version_piece at (Some (Call k args)) =
      if is_descendant os j k then Got (record { path = at; count = 1 }) else Not NotDescendant
  version_piece at a = Not WrongShape

  abbrev pub version_called : Option Statement → Tried Block
  version_called (Some (Call k args)) = Got (next (Call j args) end)
  version_called a = Not WrongShape

  -- the fields in which the version may differ from what is called
  abbrev pub version_fields : Option Statement → List ℕ
  version_fields (Some (Call k args)) = differing unit os j k
  version_fields a = []

  abbrev pub call_eqv : FieldRule
  call_eqv = record {
    piece = λ p at. version_piece at (statement_at at p.body);
    draft = λ p o. version_called (first_of o.piece);
    refusal = λ p o.
        refused_if (any_live unit.procedures o (version_fields (first_of o.piece))) ConfigLive;
    moved = λ o. Some 0;
    fields = λ o. version_fields (first_of o.piece);
    point = λ piece o. (piece.path, Behind);
  }
