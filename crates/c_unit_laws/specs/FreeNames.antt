-- The names that a file of C declares: none is a word of C, and none stands for two things.
use Rattle.std.specs.Prelude.{◌≡◌, ℕ, Bool, true, not, ◌&&◌, List, [], ◌∷◌, ◌++◌, Some, slice_get}
use Rattle.std.specs.List.{list_any}
use Rattle.exo_tree.specs.Tree.{Program}
use Rattle.exo_meaning.specs.Units.{IsUnit}
use Rattle.memory_kinds.specs.Faults.{fault_of}
use Rattle.c_tree.specs.Names.Words.{Name, is_in, is_word}
use Rattle.c_tree.specs.CTree.{CStatement, Branch, Loop, Array, Malloc, Bind, CBlock, stop, first}
use Rattle.c_tree.specs.CTree.{Formal, Number64Param, ArrayParam, WindowParamOf, CFunction}
use Rattle.c_tree.specs.CTree.{StructOf, CUnit}
use Rattle.c_unit_laws.specs.Follows.Machine.CRun.{names_of_functions}
use Rattle.c_lowering.specs.Made.LoweredUnit.{Printing, is_struct, names_struct, lowered}
use Rattle.c_unit_laws.specs.Follows.Units.{AreLowered}

-- no word, and none of the names that are declared around it
abbrev pub is_free : List Name → Name → Bool
is_free around x = not (is_word x) && not (is_in around x)

-- one after the other
abbrev pub are_free : List Name → List Name → Bool
are_free around [] = true
are_free around (x ∷ xs) = is_free around x && are_free (x ∷ around) xs

-- ---- blocks

-- what a statement declares for the rest of its block
abbrev pub declared_by : CStatement → List Name
declared_by (Array element x n) = x ∷ []
declared_by (Malloc element x n) = x ∷ []
declared_by (Bind rank cell w ref strides) = w ∷ []
declared_by a = []

-- each declaration is free among those around it
abbrev mutual
  pub declares_free : List Name → CBlock → Bool
  declares_free around stop = true
  declares_free around (first a b) =
      are_free around (declared_by a)
      && (step_declares_free around a && declares_free (declared_by a ++ around) b)

  -- within a statement
  pub step_declares_free : List Name → CStatement → Bool
  step_declares_free around (Branch t a b) = declares_free around a && declares_free around b
  step_declares_free around (Loop x lo hi b) = is_free around x && declares_free (x ∷ around) b
  step_declares_free around a = true

-- ---- functions and files

abbrev pub formal_name : Formal → Name
formal_name (Number64Param x) = x
formal_name (ArrayParam cell x) = x
formal_name (WindowParamOf rank cell x) = x

-- the parameters, and then the block
abbrev pub formals_are_free : List Name → List Formal → CBlock → Bool
formals_are_free around [] body = declares_free around body
formals_are_free around (f ∷ fs) body =
    is_free around (formal_name f) && formals_are_free (formal_name f ∷ around) fs body

-- its functions, and its fields
abbrev pub file_names : CUnit → List Name
file_names u = names_of_functions u.functions ++ u.fields

pub record NamesAreFree (u : CUnit) : Type 0 where
  pub of_file : are_free [] (file_names u) ≡ true
  pub of_functions :
      (i : ℕ) (f : CFunction)
      → slice_get u.functions i ≡ Some f
      → formals_are_free (file_names u) f.formals f.body ≡ true

-- In a file that is printed no name is a word of C, and none is declared where one of the same name
-- is declared around it or before it in its block: C takes all declarations, and no name hides
-- another.
abbrev pub PrintedNamesAreFree : Type 0
PrintedNamesAreFree =
    (program : Program) (what : List Printing)
    → IsUnit program
    → AreLowered fault_of program what
    → NamesAreFree (lowered program what)

-- Each struct that a function names is printed before it.
abbrev pub NamedStructsArePrinted : Type 0
NamedStructsArePrinted =
    (program : Program) (what : List Printing) (i : ℕ) (f : CFunction) (s : StructOf)
    → IsUnit program
    → AreLowered fault_of program what
    → slice_get (lowered program what).functions i ≡ Some f
    → names_struct s f ≡ true
    → list_any (is_struct s.rank s.cell) (lowered program what).structs ≡ true
