-- The rules on classes of memories, and what they are as tables of a unit.
use Rattle.std.specs.Prelude.{ℕ, ◌+◌, nat_le, Bool, true, false, not, ◌&&◌, ◌||◌, if◌then◌else◌}
use Rattle.std.specs.Prelude.{List, [], ◌∷◌, ◌++◌, length, codes, Option, Some, None}
use Rattle.std.specs.List.{list_any}
use Rattle.std.specs.Option.{is_some}
use Rattle.exo_tree.specs.Tree.{MemoryKind}
use Rattle.exo_meaning.specs.Units.{is_text, is_memory}
use Rattle.text_lexer.specs.declared.token.Literal.TheVariants.{Value, TooLarge}
use Rattle.exo_reader.specs.Source.{Setting, strings, int, yes, no, Attribute}
use Rattle.exo_reader.specs.Items.{joined}
use Rattle.rules_names.specs.declared.error.TypeKind.TheVariants.{UnknownName, Redefined}
use Rattle.rules_names.specs.declared.error.TypeKind.TheVariants.{KindMismatch}
use Rattle.rules_names.specs.declared.fault.Fault.{Fault}
use Rattle.rules_names.specs.Faults.{fault, unless, least, or_else}
use Rattle.exo_types.specs.declared.attribute.Trait.{Trait}
use Rattle.exo_types.specs.declared.attribute.Trait.TheVariants.{Ctype, Lanes, CellType, Place}
use Rattle.exo_types.specs.declared.attribute.Trait.TheVariants.{MayRead, MayWrite, MayReduce}
use Rattle.exo_types.specs.declared.attribute.Trait.TheVariants.{Header}
use Rattle.exo_types.specs.TypeRules.{cell_of_text}

-- a memory without attributes: heap, any cells, and every statement may use it
abbrev pub plain_memory : List ℕ → MemoryKind
plain_memory x = record {
  name = x;
  ctype = [];
  lanes = 0;
  cell = None;
  stack = false;
  read = true;
  write = true;
  reduce = true;
  header = [];
}

-- the memory that is always there
abbrev pub dram : MemoryKind
dram = plain_memory (codes "DRAM")

-- what an attribute says, by its name
abbrev pub trait_named : List ℕ → Option Trait
trait_named x =
    if is_text x (codes "ctype") then Some Ctype
    else (if is_text x (codes "lanes") then Some Lanes
    else (if is_text x (codes "cell") then Some CellType
    else (if is_text x (codes "place") then Some Place
    else (if is_text x (codes "read") then Some MayRead
    else (if is_text x (codes "write") then Some MayWrite
    else (if is_text x (codes "reduce") then Some MayReduce
    else (if is_text x (codes "include") then Some Header else None)))))))

-- ---- values

abbrev pub text_of : Setting → List ℕ
text_of (strings pieces) = joined pieces
text_of (int k) = []
text_of yes = []
text_of no = []

abbrev pub is_strings : Setting → Bool
is_strings (strings pieces) = true
is_strings (int k) = false
is_strings yes = false
is_strings no = false

abbrev pub is_truth_value : Setting → Bool
is_truth_value (strings pieces) = false
is_truth_value (int k) = false
is_truth_value yes = true
is_truth_value no = true

-- a type of cells, or nothing for any
abbrev pub is_cell_word : List ℕ → Bool
is_cell_word x = is_text x [] || is_some (cell_of_text x)

abbrev pub is_place_word : List ℕ → Bool
is_place_word x = is_text x (codes "heap") || is_text x (codes "stack")

-- 0 to 64
abbrev pub is_lane_count : Setting → Bool
is_lane_count (strings pieces) = false
is_lane_count (int (Value k)) = nat_le k 64
is_lane_count (int TooLarge) = false
is_lane_count yes = false
is_lane_count no = false

-- a value of the attribute's form
abbrev pub has_form : Trait → Setting → Bool
has_form Ctype v = is_strings v
has_form Lanes v = is_lane_count v
has_form CellType v = is_strings v && is_cell_word (text_of v)
has_form Place v = is_strings v && is_place_word (text_of v)
has_form MayRead v = is_truth_value v
has_form MayWrite v = is_truth_value v
has_form MayReduce v = is_truth_value v
has_form Header v = is_strings v

-- ---- rules

abbrev pub trait_faults : Option Trait → ℕ → Setting → List Fault
trait_faults None n v = fault UnknownName n
trait_faults (Some t) n v = unless (has_form t v) KindMismatch n

-- how many tokens the value of an attribute has, and an attribute
abbrev pub setting_width : Setting → ℕ
setting_width (strings pieces) = length pieces
setting_width (int k) = 1
setting_width yes = 1
setting_width no = 1

abbrev pub attribute_width : Attribute → ℕ
attribute_width a = 2 + setting_width a.value + 1

abbrev pub attributes_width : List Attribute → ℕ
attributes_width [] = 0
attributes_width (a ∷ more) = attribute_width a + attributes_width more

-- both are charged at the attribute's name; given are the names before
abbrev pub attribute_faults : List (List ℕ) → ℕ → Attribute → List Fault
attribute_faults given n a =
    trait_faults (trait_named a.name) n a.value
    ++ unless (not (list_any (λ x. is_text x a.name) given)) Redefined n

abbrev pub attributes_fault : List (List ℕ) → ℕ → List Attribute → Option Fault
attributes_fault given n [] = None
attributes_fault given n (a ∷ more) =
    or_else (least (attribute_faults given n a))
    (attributes_fault (given ++ a.name ∷ []) (n + attribute_width a) more)

-- where each attribute keeps its own rules, they keep the one on lanes together, else the memory's
-- name is charged, token n
abbrev pub lanes_faults : Option Fault → ℕ → MemoryKind → List Fault
lanes_faults None n m = unless (is_memory m) KindMismatch n
lanes_faults (Some own) n m = []

-- ---- the memory

abbrev pub count_of : Setting → ℕ
count_of (strings pieces) = 0
count_of (int (Value k)) = k
count_of (int TooLarge) = 0
count_of yes = 0
count_of no = 0

abbrev pub truth_of : Setting → Bool
truth_of (strings pieces) = false
truth_of (int k) = false
truth_of yes = true
truth_of no = false

-- a memory with one attribute more
abbrev pub with_trait : MemoryKind → Option Trait → Setting → MemoryKind
with_trait m None v = m
with_trait m (Some Ctype) v = record m { ctype = text_of v }
with_trait m (Some Lanes) v = record m { lanes = count_of v }
with_trait m (Some CellType) v = record m { cell = cell_of_text (text_of v) }
with_trait m (Some Place) v = record m { stack = is_text (text_of v) (codes "stack") }
with_trait m (Some MayRead) v = record m { read = truth_of v }
with_trait m (Some MayWrite) v = record m { write = truth_of v }
with_trait m (Some MayReduce) v = record m { reduce = truth_of v }
with_trait m (Some Header) v = record m { header = text_of v }

abbrev pub with_attributes : MemoryKind → List Attribute → MemoryKind
with_attributes m [] = m
with_attributes m (a ∷ more) = with_attributes (with_trait m (trait_named a.name) a.value) more
