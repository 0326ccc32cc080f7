-- What it means to check a unit's names and types: exactly the unit that its text stands for, or exactly the first broken rule.
use Rattle.std.specs.Prelude.{◌≡◌, ℕ, ◌+◌, ◌<◌, ◌≤◌, List, length, map, slice_get, Some, None, Result, MatchResult}
use Rattle.text_phrases.specs.Limits.{Limits}
use Rattle.exo_tree.specs.declared.unit.Unit as tree
use Rattle.exo_tree.specs.PlainUnit.{program}
use Rattle.text_lexer.specs.declared.place.Place.{Place}
use Rattle.exo_reader.specs.Source.{Item}
use Rattle.exo_reader.specs.Items.{unit}
use Rattle.exo_reader.specs.Views.{plain_item}
use Rattle.exo_reader.specs.declared.unit.Source.{Source}
use Rattle.rules_names.specs.declared.error.TypeKind.{TypeKind}
use Rattle.rules_names.specs.declared.error.TypeKind.TheVariants.{Memory}
use Rattle.rules_names.specs.declared.error.TypeError.{TypeError}
use Rattle.rules_names.specs.declared.fault.Fault.{Fault}
use Rattle.exo_types.specs.declared.refusal.Refusal.{Refusal}
use Rattle.exo_types.specs.declared.refusal.Refusal.TheVariants as r
use Rattle.exo_types.specs.UnitRules.{unit_fault, unit_of}
use Rattle.exo_types.specs.UnitLines.{lines_of}

abbrev pub items_of : Source → List Item
items_of s = map plain_item s.items.items

-- the text keeps the grammar and all limits; there is a place for each token of it and one for its end, and the tokens are at most 2^20
pub record IsPlaced (s : Source) : Type 0 where
  pub fits : (limits : Limits) → unit.Fits limits (items_of s)
  pub places : length s.places.items ≡ length (unit.spell (items_of s)) + 1
  pub short : length (unit.spell (items_of s)) ≤ 0x100000

-- the text breaks no rule, and this is its unit, with the line of each procedure and statement
pub record IsTyped (s : Source) (u : tree.Unit) : Type 0 where
  pub keeps : unit_fault (items_of s) ≡ None
  pub program : program u ≡ unit_of (items_of s)
  pub lines : u.lines ≡ lines_of s.places.items (items_of s)

-- the error is the first rule that the text breaks, at the place of its token
pub record IsBroken (s : Source) (e : TypeError) : Type 0 where
  pub fault : Fault
  pub first : unit_fault (items_of s) ≡ Some fault
  pub kind : e.kind ≡ fault.rule
  pub place : Place
  pub there : slice_get s.places.items fault.token ≡ Some place
  pub line : e.line ≡ place.line
  pub column : e.column ≡ place.column

-- the place of a broken rule is among so many
abbrev pub IsInPlace : Refusal → ℕ → Type 0
IsInPlace r.Memory n = Unit {0}
IsInPlace (r.Broken fault) n = fault.token < n

-- an error says which rule is broken, and the place of its token; or that there was no memory
pub record IsErrorAt (places : List Place) (fault : Fault) (e : TypeError) : Type 0 where
  pub kind : e.kind ≡ fault.rule
  pub place : Place
  pub there : slice_get places fault.token ≡ Some place
  pub line : e.line ≡ place.line
  pub column : e.column ≡ place.column

abbrev pub IsErrorOf : Refusal → List Place → TypeError → Type 0
IsErrorOf r.Memory places e = e.kind ≡ Memory
IsErrorOf (r.Broken fault) places e = IsErrorAt places fault e

-- but for want of memory
abbrev pub IsRefused : Source → TypeKind → TypeError → Type 0
IsRefused s Memory e = Unit {0}
IsRefused s kind e = IsBroken s e

abbrev pub Types : Source → Result tree.Unit TypeError → Type 0
Types s result = MatchResult result (IsTyped s) (λ e. IsRefused s e.kind e)
