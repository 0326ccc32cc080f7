-- Closed instances of the laws.
use Rattle.std.proofs.Common.{true, ◌≡◌, ℕ, pos, negsuc, List, [], ◌∷◌, refl, arith}
use Rattle.exo_tree.specs.Tree.{Control, Lit, Var, Add, Sub, Mul, Lt}
use Rattle.affine_forms.specs.Atoms.{Variable, none, term, only, constantly}
use Rattle.affine_forms.specs.Forms.{normal}
use Rattle.affine_forms.specs.Formulas.{Formula, formula, row, at_most}
use Rattle.exo_meaning.specs.Modes.{Reading, Writing}
use Rattle.exo_effects.specs.Accesses.{At, Access}
use Rattle.affine_systems.specs.Systems.{systems_of}
use Rattle.exo_effects.specs.Conflicts.{apart, meeting}
use Rattle.exo_effects.specs.Orders.{Order, Less}
use Rattle.effect_conflicts.specs.Copies.{reading_by, flags_by}
use Rattle.effect_conflicts.specs.CopyLaws.{CopiedFormsLaw, CopiedFormulasLaw, CopiedNumbersLaw}

-- the second copy of two loops over 5 and 6, with an access in a loop over 7
abbrev second : ℕ → ℕ
second x = apart 10 1 (5 ∷ 6 ∷ []) (7 ∷ []) x

-- `2 * i5 + (i7 - n1)`
abbrev index : Control
index = Add (Mul (Lit (pos 2)) (Var 5)) (Sub (Var 7) (Var 1))

index_form : CopiedFormsLaw → normal (reading_by second) index ≡ record {
  constant = pos 0;
  terms = term (pos 2) (Variable 11) (term (pos 1) (Variable 13) (term (negsuc 0) (Variable 1) none));
}
index_form law = (law 10 1 (5 ∷ 6 ∷ []) (7 ∷ []) index (omega arith) refl).0

below_formula : CopiedFormulasLaw → formula (reading_by second) (flags_by second) (Lt (Var 6) (Var 1)) ≡ row (record {
  constant = negsuc 0;
  terms = term (pos 1) (Variable 1) (term (negsuc 0) (Variable 17) none);
})
below_formula law = (law 10 1 (5 ∷ 6 ∷ []) (7 ∷ []) (Lt (Var 6) (Var 1)) (omega arith) refl).0

-- `x[i]` is written, and read in another turn
abbrev order : Order
order = record {
  first = record { variable = 1; lower = constantly (pos 0); upper = only (Variable 0) } ∷ [];
  second = record { variable = 1; lower = constantly (pos 0); upper = only (Variable 0) } ∷ [];
  rows = Less 0 ∷ [];
  fits = true;
}

abbrev context : List Formula
context = at_most (constantly (pos 1)) (only (Variable 0)) ∷ []

abbrev written : Access
written = record { root = 3; mode = Writing; coords = At (only (Variable 1)) ∷ []; own = []; guards = []; fits = true; text = [] }

abbrev read : Access
read = record { root = 3; mode = Reading; coords = At (only (Variable 1)) ∷ []; own = []; guards = []; fits = true; text = [] }

numbers : CopiedNumbersLaw → systems_of (meeting context order 2 written read) ≡ systems_of (meeting context order 100 written read)
numbers law = (law context order written read 2 100 (omega arith) (omega arith) (omega arith) (omega arith) (omega arith)).0
