-- Types of data cells by number, by which two of them are told apart.
use Rattle.std.specs.Prelude.{◌≡◌, ℕ, zero, suc, ◌==◌, Bool, true}
use Rattle.std.proofs.Common.{refl, sym, ap, ◌∙◌, eqb-true, eq-eqb}
use Rattle.exo_tree.specs.Tree.{Cell, I8, I16, I32, Ui8}

abbrev pub cell_number : Cell → ℕ
cell_number I8 = 0
cell_number I16 = 1
cell_number I32 = 2
cell_number Ui8 = 3

abbrev pub same_cell : Cell → Cell → Bool
same_cell c d = cell_number c == cell_number d

abbrev numbered : ℕ → Cell
numbered zero = I8
numbered (suc zero) = I16
numbered (suc (suc zero)) = I32
numbered (suc (suc (suc n))) = Ui8

numbers_tell : (c : Cell) → numbered (cell_number c) ≡ c
numbers_tell I8 = refl
numbers_tell I16 = refl
numbers_tell I32 = refl
numbers_tell Ui8 = refl

-- cells of one number are of one type
pub cells_are_same : (c d : Cell) → cell_number c ≡ cell_number d → c ≡ d
cells_are_same c d e = sym (numbers_tell c) ∙ ap numbered e ∙ numbers_tell d

pub same_cell_is : (c d : Cell) → same_cell c d ≡ true → c ≡ d
same_cell_is c d h = cells_are_same c d (eqb-true (cell_number c) (cell_number d) h)

pub same_itself : (c : Cell) → same_cell c c ≡ true
same_itself c = eq-eqb (cell_number c) (cell_number c) refl
