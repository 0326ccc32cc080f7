-- Fields that may differ, in a unit with a version more.
use Rattle.std.proofs.Common.{◌≡◌, ℕ, Bool, true, false, List, [], ◌∷◌, ◌++◌, length}
use Rattle.std.proofs.Common.{Option, Some, None, refl, sym, ap, ◌∙◌, subst}
use Rattle.std.specs.Prelude.{slice_get}
use Rattle.exo_tree.specs.Tree.{Block, Procedure}
use Rattle.exo_tree.specs.Places.{Path, Opened, opened}
use Rattle.meaning_laws.specs.Grown.{calls_below}
use Rattle.meaning_laws.proofs.Places.{opened_law}
use Rattle.config_laws.specs.FieldRule.{Side, gap, surely_from, fields_at_end}
use Rattle.config_laws.specs.Surely.{surely_behind, unit_surely}
use Rattle.config_laws.specs.Differing.{Origin, step_fields}
use Rattle.config_laws.proofs.Grown.{surely_behind_grown}
use Rattle.config_laws.proofs.Proposed.{fields_same}
use Rattle.schedule_laws.proofs.OfVersions.Quiet.{get_last}

-- ---- at the end of a block that calls procedures of the shorter unit alone

module _ (ps more : List Procedure) (f : ℕ) where
  from_grown : (body : Block) (at : Path) (side : Side) → calls_below (length ps) body ≡ true
      → surely_from (ps ++ more) body at side f ≡ surely_from ps body at side f
  from_grown body at side h = go (opened 0 (gap at side) body) refl
    where
      go : (o : Option Opened) → opened 0 (gap at side) body ≡ o
          → elim o as (λ o. Bool) [
            | None ↦ false
            | Some o ↦ surely_behind (unit_surely (ps ++ more)) f o.around
          ]
          ≡ elim o as (λ o. Bool) [
            | None ↦ false
            | Some o ↦ surely_behind (unit_surely ps) f o.around
          ]
      go None e = refl
      go (Some o) e =
          surely_behind_grown ps more f o.around o.piece
          (subst (λ b. calls_below (length ps) b ≡ true)
          (sym (opened_law 0 (gap at side) body o e)) h)

pub end_grown : (ps more : List Procedure) (body : Block) (at : Path) (side : Side)
    (fields : List ℕ) → calls_below (length ps) body ≡ true
    → fields_at_end (ps ++ more) body at side fields ≡ fields_at_end ps body at side fields
end_grown ps more body at side fields h =
    fields_same (surely_from (ps ++ more) body at side) (surely_from ps body at side) fields
    (λ f. from_grown ps more f body at side h)

-- ---- origins

abbrev by_origin : List Procedure → Option Origin → ℕ → List ℕ
by_origin ps o k = elim o as (λ o. List ℕ) [
  | None ↦ []
  | Some o ↦ elim (slice_get ps k) as (λ r. List ℕ) [
    | None ↦ []
    | Some q ↦ fields_at_end ps q.body o.place o.side o.fields
  ]
]

-- the fields of a step are told by its own origin
pub by_own_origin : (ps : List Procedure) (os us : List Origin) (k : ℕ)
    → slice_get os k ≡ slice_get us k → step_fields ps os k ≡ step_fields ps us k
by_own_origin ps os us k h = ap (λ o. by_origin ps o k) h

last_is : (os : List Origin) (o : Origin) (k : ℕ) → k ≡ length os
    → slice_get (os ++ o ∷ []) k ≡ Some o
last_is os o k h = ap (slice_get (os ++ o ∷ [])) h ∙ get_last os o

-- those of the last step, in a unit that has its version
pub of_last : (ps : List Procedure) (os : List Origin) (o : Origin) (q : Procedure)
    (k : ℕ) → k ≡ length os → slice_get ps k ≡ Some q
    → step_fields ps (os ++ o ∷ []) k ≡ fields_at_end ps q.body o.place o.side o.fields
of_last ps os o q k h e =
    ap (λ z. by_origin ps z k) (last_is os o k h)
    ∙ ap (λ (r : Option Procedure). elim r as (λ r. List ℕ) [
      | None ↦ []
      | Some q ↦ fields_at_end ps q.body o.place o.side o.fields
    ]) e
