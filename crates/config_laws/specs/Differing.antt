-- The fields in which a version may differ from one that it was made from.
use Rattle.std.specs.Prelude.{◌≡◌, ◌==◌, ◌<◌, ◌||◌, ◌++◌, ℕ, zero, suc, Bool, true, false}
use Rattle.std.specs.Prelude.{if◌then◌else◌, List, [], length, Option, Some, None, slice_get}
use Rattle.std.specs.Prelude.{Contains}
use Rattle.exo_tree.specs.Tree.{Procedure, Program}
use Rattle.exo_tree.specs.Places.{Path}
use Rattle.exo_meaning.specs.Calls.{Callee}
use Rattle.exo_meaning.specs.Run.{World, program_world}
use Rattle.exo_meaning.specs.Inputs.{Refines}
use Rattle.meaning_laws.specs.Chain.{HasHead, NeverFaults}
use Rattle.config_state.specs.FieldSets.{fields_where}
use Rattle.config_laws.specs.Live.CallVersion.{MayStandForCallee}
use Rattle.config_laws.specs.FieldRule.{Side, fields_at_end, is_listed}

-- the version that a version was made from, and the place from which these fields may differ;
-- a procedure of the text has no parent
pub record Origin : Type 0 where
  pub parent : Option ℕ
  pub place : Path
  pub side : Side
  pub fields : List ℕ

abbrev pub parent_in : List Origin → ℕ → Option ℕ
parent_in os k = elim (slice_get os k) [ None ↦ None | Some o ↦ o.parent ]

-- the fields of one step that are not written again
abbrev pub step_fields : List Procedure → List Origin → ℕ → List ℕ
step_fields ps os k = elim (slice_get os k) [
  | None ↦ []
  | Some o ↦ elim (slice_get ps k) [
    | None ↦ []
    | Some q ↦ fields_at_end ps q.body o.place o.side o.fields
  ]
]

abbrev pub from_parent : {A : Type 0} → A → Option ℕ → (ℕ → A) → A
from_parent none None go = none
from_parent none (Some j) go = go j

module _ (ps : List Procedure) (os : List Origin) (from : ℕ) where
  -- in so many steps or fewer
  abbrev pub descends : ℕ → ℕ → Bool
  descends zero k = k == from
  descends (suc n) k = (k == from) || from_parent false (parent_in os k) (descends n)

  abbrev pub fields_since : ℕ → ℕ → List ℕ
  fields_since zero k = []
  fields_since (suc n) k =
      if k == from then []
      else from_parent [] (parent_in os k) (λ j. fields_since n j ++ step_fields ps os k)

-- a parent has a lower number, so a version has no more ancestors than its number says
abbrev pub is_descendant : List Origin → ℕ → ℕ → Bool
is_descendant os k from = descends [] os from k k

-- in unit order
abbrev pub differing : Program → List Origin → ℕ → ℕ → List ℕ
differing unit os k from =
    fields_where (length unit.fields) (λ f. is_listed f (fields_since unit.procedures os from k k))

-- ---- what each step keeps

-- one procedure of a unit is made from another in one step
pub record IsStep (world : World) (j k : ℕ) (p q : Procedure) (but : List ℕ) : Type 0 where
  pub head : HasHead p q
  pub refines : Refines world p q but

pub record AreVersions (world : World) (unit : Program) (os : List Origin) : Type 0 where
  pub safe :
      (k : ℕ) (q : Procedure)
      → slice_get unit.procedures k ≡ Some q
      → NeverFaults world q
  pub steps :
      (j k : ℕ) (q : Procedure)
      → parent_in os k ≡ Some j
      → slice_get unit.procedures k ≡ Some q
      → (p : Procedure) × (slice_get unit.procedures j ≡ Some p)
      × IsStep world j k p q (step_fields unit.procedures os k)
  pub fields :
      (k f : ℕ)
      → Contains (step_fields unit.procedures os k) f
      → f < length unit.fields

-- each procedure has the head of all from which it descends, and refines them but for the fields in
-- which it may differ
abbrev pub VersionsStand : Program → List Origin → Type 0
VersionsStand unit os =
    (from k : ℕ) (p q : Procedure)
    → is_descendant os k from ≡ true
    → slice_get unit.procedures from ≡ Some p
    → slice_get unit.procedures k ≡ Some q
    → HasHead p q × Refines (program_world unit) p q (differing unit os k from)

abbrev pub DescendantsRefine : Type 0
DescendantsRefine =
    (unit : Program) (os : List Origin)
    → AreVersions (program_world unit) unit os
    → VersionsStand unit os

-- so it may stand in the place of the procedure as a callee
abbrev pub DescendantsMayBeCalled : Type 0
DescendantsMayBeCalled =
    (unit : Program) (os : List Origin) (from k : ℕ) (c d : Callee)
    → VersionsStand unit os
    → is_descendant os k from ≡ true
    → (program_world unit).callees from ≡ Some c
    → (program_world unit).callees k ≡ Some d
    → MayStandForCallee (program_world unit) c d (differing unit os k from)
