-- What a version owes that differs from an earlier one by one store, and perhaps by its name.
use Rattle.std.specs.Prelude.{◌≡◌, ◌++◌, ℕ, Bool, true, ⊤, if◌then◌else◌, List, [], ◌∷◌}
use Rattle.std.specs.Prelude.{Some, None, slice_get}
use Rattle.std.specs.List.{list_any}
use Rattle.exo_tree.specs.Tree.{Statement, Assign, Reduce, Config, Pass, If, For, Alloc, View, Call}
use Rattle.exo_tree.specs.Tree.{Block, end, next, Procedure, Program}
use Rattle.exo_tree.specs.Context.{Context, fill}
use Rattle.exo_tree.specs.Places.{Path, same_path, opened}
use Rattle.exo_meaning.specs.Units.{IsUnit}
use Rattle.affine_systems.specs.Outcomes.{Owed}
pub use Rattle.check_claims.specs.Claims.{claims_there}
use Rattle.bounds_check.specs.Limits.{are_within}
use Rattle.bounds_check.specs.Obligations.{owed_for_all, obligations_of, first_fault, list_fault}
use Rattle.tree_laws.specs.Findings.Versions.{with_version, HasHeadOf}

-- ---- one store for another

-- an assignment or a reduction
abbrev pub IsStore : Statement → Type 0
IsStore (Assign x is e) = ⊤
IsStore (Reduce x is e) = ⊤
IsStore (Config f a) = ⊥
IsStore Pass = ⊥
IsStore (If c a b) = ⊥
IsStore (For i lo hi b) = ⊥
IsStore (Alloc x cell dims memory) = ⊥
IsStore (View w x coords) = ⊥
IsStore (Call k args) = ⊥

-- at a path a store stands in one block and another one in the other; all else is the same
pub record StoreChanged (path : Path) (b c : Block) : Type 0 where
  pub around : Context
  pub old : Statement
  pub new : Statement
  pub opens : opened 1 path b ≡ Some (record { around = around; piece = next old end })
  pub is : c ≡ fill around (next new end)
  pub old_is : IsStore old
  pub new_is : IsStore new

-- a procedure that may come behind those of a unit differs from one of these by such a store alone,
-- or by its name too
pub record StoreVersion (u : Program) (k : ℕ) (p q : Procedure) (path : Path) : Type 0 where
  pub unit : IsUnit u
  pub place : slice_get u.procedures k ≡ Some p
  pub head : HasHeadOf p q
  pub changed : StoreChanged path p.body q.body

-- ---- what is owed at a path, and elsewhere

abbrev pub owed_there : Program → Procedure → Path → List Owed
owed_there u p path = owed_for_all u p (claims_there u p path)

abbrev pub stands_at : Path → Owed → Bool
stands_at path o = same_path o.place path

-- behind those that stand at the path at the front
abbrev pub behind_those : Path → List Owed → List Owed
behind_those path [] = []
behind_those path (o ∷ os) = if stands_at path o then behind_those path os else o ∷ os

-- others in place of those that stand at the path: what comes before the first of them, the others,
-- and what comes behind them
abbrev pub with_others_there : Path → List Owed → List Owed → List Owed
with_others_there path others [] = []
with_others_there path others (o ∷ os) =
    if stands_at path o then others ++ behind_those path os
    else o ∷ with_others_there path others os

-- what the one owes, but at the path what the other owes behind the procedures
abbrev pub owed_with_store : Program → Procedure → Procedure → Path → List Owed
owed_with_store u p q path =
    with_others_there path (owed_there (with_version u q) q path) (obligations_of u p)

-- ---- the law

pub record OwesItsStore (u : Program) (p q : Procedure) (path : Path) : Type 0 where
  pub owed : obligations_of (with_version u q) q ≡ owed_with_store u p q path
  pub fault : list_fault (with_version u q) q ≡ None

-- where the earlier one is not refused, nor what it owes with the claims of the new store
abbrev pub ChangedStoresOweTheirOwn : Type 0
ChangedStoresOweTheirOwn =
    (u : Program) (k : ℕ) (p q : Procedure) (path : Path)
    → StoreVersion u k p q path
    → list_fault u p ≡ None
    → list_any (stands_at path) (obligations_of u p) ≡ true
    → first_fault (with_version u q) q [] (claims_there (with_version u q) q path) ≡ None
    → are_within (owed_with_store u p q path) ≡ true
    → OwesItsStore u p q path
