-- The text lines of a unit's procedures and statements.
use Rattle.std.specs.Prelude.{ℕ, ◌+◌, List, [], ◌∷◌, ◌++◌, length, map, slice_get, Option, Some}
use Rattle.std.specs.Prelude.{None}
use Rattle.exo_tree.specs.declared.lines.ProcLines.{ProcLines}
use Rattle.text_lexer.specs.declared.place.Place.{Place}
use Rattle.exo_reader.specs.Source as source
use Rattle.exo_reader.specs.Source.{Statement, pass, branch, loop, allocate, call, configure}
use Rattle.exo_reader.specs.Source.{assign, reduce, view, Block, end, next, Definition, Item}
use Rattle.exo_reader.specs.Source.{procedure, instruction, configuration, memory}
use Rattle.exo_types.specs.UnitRules.{item_width}
use Rattle.rules_names.specs.ExpressionRules.{width}
use Rattle.exo_types.specs.StatementRules.{statement_width, block_width}
use Rattle.exo_types.specs.ItemRules.{body_start}

-- The numbers of the first tokens of the statements inside a statement, and of a block with those
-- inside them, in preorder; n is that of its own first token.
abbrev mutual
  pub inner_starts : ℕ → Statement → List ℕ
  inner_starts n pass = []
  inner_starts n (branch c a b) =
      let first = n + 1 + width c + 3 in
      block_starts first a ++ block_starts (first + block_width a + 5) b
  inner_starts n (loop i low high a) = block_starts (n + 5 + width low + 1 + width high + 4) a
  inner_starts n (allocate x type ds m) = []
  inner_starts n (call f args trailing) = []
  inner_starts n (configure c x e) = []
  inner_starts n (assign x ds e) = []
  inner_starts n (reduce x ds e) = []
  inner_starts n (view w x cs) = []

  pub block_starts : ℕ → Block → List ℕ
  block_starts n end = []
  block_starts n (next s more) = n ∷ (inner_starts n s ++ block_starts (n + statement_width s) more)

abbrev pub line_of : Option Place → ℕ
line_of None = 0
line_of (Some place) = place.line

-- the line of a token
abbrev pub line_at : List Place → ℕ → ℕ
line_at places n = line_of (slice_get places n)

-- n is the number of the token `def`
abbrev pub lines_of_definition : List Place → ℕ → Definition → ProcLines
lines_of_definition places n d = record {
  def = line_at places n;
  statements = map (line_at places) (block_starts (body_start n d) (source.block_of d.body));
}

abbrev pub lines_of_item : List Place → ℕ → Item → List ProcLines
lines_of_item places n (procedure d) = lines_of_definition places (n + 2) d ∷ []
lines_of_item places n (instruction template d) =
    lines_of_definition places (n + 2 + length template + 2) d ∷ []
lines_of_item places n (configuration x fs) = []
lines_of_item places n (memory x settings) = []

-- one entry for each procedure and instruction, in their order
abbrev pub lines_from : List Place → ℕ → List Item → List ProcLines
lines_from places n [] = []
lines_from places n (i ∷ more) =
    lines_of_item places n i ++ lines_from places (n + item_width i) more

abbrev pub lines_of : List Place → List Item → List ProcLines
lines_of places items = lines_from places 0 items
