-- The words by which texts call what a tree has.
use Rattle.std.specs.Prelude.{ℕ, List, [], Option, Some, None, codes}
use Rattle.exo_tree.specs.Tree.{Cell, I8, I16, I32, Ui8, Procedure}

-- of a procedure of a unit; empty where there is none
abbrev pub name_of : Option Procedure → List ℕ
name_of None = []
name_of (Some p) = p.name

-- of a type of cells
abbrev pub cell_word : Cell → List ℕ
cell_word I8 = codes "i8"
cell_word I16 = codes "i16"
cell_word I32 = codes "i32"
cell_word Ui8 = codes "ui8"
