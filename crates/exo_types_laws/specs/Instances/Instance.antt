-- Closed texts of which the laws speak: one that breaks no rule, the empty one, and one that names
-- what stands nowhere.
use Rattle.std.specs.Prelude.{◌≡◌, ◌≤◌, ℕ, true, false, List, [], ◌∷◌, codes, length, Some, None, slice_get}
use Rattle.text_phrases.specs.Limits.{Limits}
use Rattle.text_phrases.specs.Text.{IsText}
use Rattle.text_lexer.specs.declared.token.Literal.TheVariants.{Value}
use Rattle.text_expressions.specs.Expression.{number}
use Rattle.exo_meaning.specs.Units.{IsUnit}
use Rattle.exo_reader.specs.Source.{Definition, Item, Parameter, Statement, assign, named, plain, procedure}
use Rattle.exo_reader.specs.Items.{unit}
use Rattle.exo_reader.specs.Texts.{tokens_of, places_of}
use Rattle.rules_names.specs.declared.error.TypeKind.TheVariants.{UnknownName}
use Rattle.rules_names.specs.declared.fault.Fault.{Fault}
use Rattle.exo_types.specs.MemoryRules.{dram}
use Rattle.exo_types.specs.UnitRules.{unit_fault, unit_of}
use Rattle.exo_types_laws.specs.Laws.{IsLow}
use Rattle.exo_types_laws.specs.Small.{are_small_tokens}

-- a procedure that writes the first of four cells
abbrev pub text : List ℕ
text = codes "@proc\ndef f(x: i32[4]):\n    x[0] = 1\n"

-- a procedure that writes what is none of its names
abbrev pub stray_text : List ℕ
stray_text = codes "@proc\ndef f(x: i32[4]):\n    y[0] = 1\n"

-- x: i32[4]
abbrev pub cells : Parameter
cells = record {
  name = codes "x";
  form = plain (named (codes "i32")) (number (Value 4) ∷ []);
  memory = None;
}

-- NAME[0] = 1
abbrev pub one_in : List ℕ → Statement
one_in name = assign name (number (Value 0) ∷ []) (number (Value 1))

-- a procedure with these cells, which writes what has that name
abbrev pub defining : List ℕ → Definition
defining name = record {
  name = codes "f";
  params = cells ∷ [];
  trailing = false;
  asserts = [];
  body = one_in name ∷ [];
}

abbrev pub writing : List ℕ → List Item
writing name = procedure (defining name) ∷ []

abbrev pub items : List Item
items = writing (codes "x")

abbrev pub stray : List Item
stray = writing (codes "y")

-- the name is the text's sixteenth token
abbrev pub no_such_name : Fault
no_such_name = record { token = 15; rule = UnknownName }

pub record TypesInstance : Type 0 where
  -- what the laws ask of a unit
  pub spelled : tokens_of text ≡ unit.spell items
  pub fits : (limits : Limits) → unit.Fits limits items
  pub short : length (unit.spell items) ≤ 0x100000
  pub small : are_small_tokens (unit.spell items) ≡ true
  pub keeps : unit_fault items ≡ None
  -- and what they say of it
  pub formed : IsUnit (unit_of items)
  pub low : IsLow (unit_of items)
  pub dram : slice_get (unit_of items).memories 0 ≡ Some dram
  -- the same of what the empty text is read as
  pub none_read : IsText unit (tokens_of []) []
  pub none_few : length (places_of []) ≤ 0x100001
  pub none_keeps : unit_fault [] ≡ None
  pub none_formed : IsUnit (unit_of [])
  -- the other text is of the grammar too, and breaks a rule
  pub stray_spelled : tokens_of stray_text ≡ unit.spell stray
  pub stray_fits : (limits : Limits) → unit.Fits limits stray
  pub breaks : unit_fault stray ≡ Some no_such_name
