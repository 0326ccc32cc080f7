-- What a version owes that differs from an earlier one by its name alone.
use Rattle.std.specs.Prelude.{◌≡◌, ℕ, List, Some, slice_get}
use Rattle.exo_tree.specs.Tree.{Procedure, Program}
use Rattle.exo_meaning.specs.Units.{IsUnit}
use Rattle.bounds_check.specs.Obligations.{obligations_of, list_fault}
use Rattle.tree_laws.specs.Findings.Versions.{with_version}

-- a procedure of one unit owes what one of another owes, and the list is refused as there
pub record OwesTheSame (u : Program) (p : Procedure) (v : Program) (q : Procedure) : Type 0 where
  pub owed : obligations_of v q ≡ obligations_of u p
  pub fault : list_fault v q ≡ list_fault u p

abbrev pub renamed : List ℕ → Procedure → Procedure
renamed name p = record p { name = name }

-- a procedure of a unit does so under another name, behind those of the unit
abbrev pub RenamedOwesTheSame : Type 0
RenamedOwesTheSame =
    (u : Program) (k : ℕ) (p : Procedure) (name : List ℕ)
    → IsUnit u
    → slice_get u.procedures k ≡ Some p
    → OwesTheSame u p (with_version u (renamed name p)) (renamed name p)
