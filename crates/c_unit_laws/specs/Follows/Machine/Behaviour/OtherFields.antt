-- What a call leaves alone: the machine's fields that its file does not declare.
use Rattle.std.specs.Prelude.{◌≡◌, ℕ, ℤ, pos, true, false, [], ◌∷◌, List, codes, Option, Some}
use Rattle.exo_tree.specs.Tree.{I32}
use Rattle.c_tree.specs.Names.Words.{is_in}
use Rattle.c_tree.specs.CTree.{Name, Single, Literal, InArray, Actual, Control64, CStatement}
use Rattle.c_tree.specs.CTree.{SetField, Array, Instruction, CBlock, stop, first, CUnit}
use Rattle.c_unit_laws.specs.Follows.Machine.Machine.{Outcome, Done, Fault, after, Thing, IsField}
use Rattle.c_unit_laws.specs.Follows.Machine.Machine.{Machine}
use Rattle.c_unit_laws.specs.Follows.Machine.CRun.{Behaviour, CWorld, run_c, run_file}
use Rattle.c_unit_laws.specs.Follows.Machine.Examples.{bare, no_templates, moves, from_cell, x}

-- only names that the file declares stand for fields
abbrev pub FieldsAreDeclared : CUnit → (Name → Option Thing) → Type 0
FieldsAreDeclared u names = (y : Name) → names y ≡ Some IsField → is_in u.fields y ≡ true

-- the fields of other names hold what they held
abbrev pub OthersStay : CUnit → Machine → Machine → Type 0
OthersStay u m n =
    (y : Name)
    → is_in u.fields y ≡ false
    → n.setting.fields y ≡ m.setting.fields y

-- a run that sees no others, where it is done
abbrev pub KeepsOthers : CUnit → (Machine → Outcome Machine) → Type 0
KeepsOthers u run =
    (m n : Machine)
    → FieldsAreDeclared u m.setting.names
    → run m ≡ Done n
    → OthersStay u m n

abbrev pub TemplatesKeepOthers : CUnit → (ℕ → Option Behaviour) → Type 0
TemplatesKeepOthers u templates =
    (k : ℕ) (f : Behaviour)
    → templates k ≡ Some f
    → KeepsOthers u f.run

abbrev pub FunctionsKeepOthers : CUnit → (Name → Option Behaviour) → Type 0
FunctionsKeepOthers u functions =
    (y : Name) (f : Behaviour)
    → functions y ≡ Some f
    → KeepsOthers u f.run

-- A call of a function of a file leaves each field alone whose name the file does not declare,
-- if what instructions do leaves them alone.
abbrev pub OtherFieldsStay : Type 0
OtherFieldsStay =
    (u : CUnit) (templates : ℕ → Option Behaviour) (at : ℕ) (things : List Thing) (m n : Machine)
    → TemplatesKeepOthers u templates
    → run_file u templates at things m ≡ Done n
    → OthersStay u m n

-- So does a block, if what it calls does: an instruction may do what such a block says.
abbrev pub BlocksKeepOthers : Type 0
BlocksKeepOthers =
    (u : CUnit) (world : CWorld) (b : CBlock)
    → FieldsAreDeclared u world.globals
    → FunctionsKeepOthers u world.functions
    → TemplatesKeepOthers u world.instructions
    → KeepsOthers u (run_c world b)

-- ---- a closed instance

abbrev pub here : Name
here = codes "here"

abbrev pub there : Name
there = codes "there"

abbrev pub set : Name → CStatement
set y = SetField y (Control64 (Literal (pos 5)))

-- a file of the field `here` and of a function with that body
abbrev pub file_of : CBlock → CUnit
file_of b = record {
  report = [];
  includes = [];
  structs = [];
  fields = here ∷ [];
  functions = record { name = codes "f"; formals = []; body = b } ∷ [];
}

-- what a field holds behind a call of it; before, each holds 0
abbrev pub field_after : (ℕ → Option Behaviour) → CBlock → Name → Outcome ℤ
field_after templates b y =
    after (run_file (file_of b) templates 0 [] bare) (λ n. Done (n.setting.fields y))

abbrev pub cells_at : ℤ → Actual
cells_at k = from_cell (InArray x (Literal k))

-- moves eight cells of an array, from one cell on to another
abbrev pub move : ℤ → ℤ → CStatement
move from to = Instruction 0 [] (cells_at to ∷ cells_at from ∷ [])

-- moves cells by an instruction, and then sets the field
abbrev pub move_and_set : CBlock
move_and_set =
    first (Array (Single I32) x (pos 16)) (first (move (pos 0) (pos 8)) (first (set here) stop))

-- sets the field where an array has its name
abbrev pub set_hidden : CBlock
set_hidden = first (Array (Single I32) here (pos 1)) (first (set here) stop)

-- instructions that set any field
abbrev pub lawless : ℕ → Option Behaviour
lawless k = Some (record {
  formals = [];
  run = λ m. Done (record m { setting = record m.setting { fields = λ y. pos 9 } });
})

pub record OtherFieldsInstance : Type 0 where
  pub lawful : TemplatesKeepOthers (file_of move_and_set) moves
  pub is_set : field_after moves move_and_set here ≡ Done (pos 5)
  pub stays : field_after moves move_and_set there ≡ Done (pos 0)
  -- what the file does not declare, and what an array hides, is no field there
  pub undeclared : field_after no_templates (first (set there) stop) there ≡ Fault
  pub hidden : field_after no_templates set_hidden here ≡ Fault
  -- without the premise another field may change
  pub changed : field_after lawless (first (Instruction 0 [] []) stop) there ≡ Done (pos 9)
