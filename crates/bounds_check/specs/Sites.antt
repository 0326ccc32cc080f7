-- By what the claims of a procedure are told.
use Rattle.std.specs.Prelude.{◌≡◌, ◌<◌, true, List, [], ◌∷◌, length, slice_get, Result}
use Rattle.exo_tree.specs.Tree.{ConfigField, Procedure, Program}
use Rattle.exo_tree.specs.PlainProcedure.{procedure}
use Rattle.exo_tree.specs.PlainUnit.{program}
use Rattle.exo_meaning.specs.Calls.{Callee}
use Rattle.exo_meaning.specs.Units.{field_kind, IsProcedure}
use Rattle.meaning_laws.specs.UnitFields.{unit_writes}
use Rattle.config_state.specs.FieldSets.{IsTable}
use Rattle.affine_forms.specs.Formulas.{Formula}
use Rattle.affine_places.specs.Facts.{FieldFact}
use Rattle.affine_places.specs.Roots.{Roots, roots_of}
use Rattle.affine_places.specs.Seen.{roots_in}
use Rattle.affine_systems.specs.Outcomes.{Owed}
use Rattle.check_claims.specs.Claim.{Claim}
use Rattle.check_facts.specs.Contexts.{may_be_walked, context_of, context_fits, facts_of}
use Rattle.effect_conflicts.specs.declared.standing.Standing.{Standing}
use Rattle.bounds_check.specs.Outcomes.{Owes}
use Rattle.bounds_check.specs.declared.claims.ProcedureSite.{ProcedureSite}
use Rattle.bounds_check.specs.declared.error.CheckError.{CheckError}

-- a procedure of the unit keeps the rules, below some others
abbrev pub IsFormed : Program → Procedure → Type 0
IsFormed u p =
    (above : List Callee) × IsProcedure (field_kind u.fields) (length u.memories) (slice_get above) p

-- the tables are those of a well-formed procedure and its unit
pub record IsSite (s : ProcedureSite) : Type 0 where
  pub numbered : length (program s.unit.now).fields < 4294967296
  pub formed : IsFormed (program s.unit.now) (procedure s.proc.now)
  pub walked : may_be_walked (procedure s.proc.now) ≡ true
  pub roots : roots_in s.roots.now ≡ roots_of (procedure s.proc.now)
  pub writes :
      IsTable (length (program s.unit.now).fields) (unit_writes (program s.unit.now).procedures)
      s.writes.now

module _ (s : Standing) where
  abbrev pub unit_at : Program
  unit_at = program s.unit.now

  abbrev pub proc_at : Procedure
  proc_at = procedure s.proc.now

  -- what is known at a place of a well-formed procedure
  pub record IsTold (fields : List ConfigField) (roots : Roots) (facts : List FieldFact)
      (context : List Formula) : Type 0 where
    pub formed : IsFormed unit_at proc_at
    pub fields_are : unit_at.fields ≡ fields
    pub roots_are : roots ≡ roots_of proc_at
    pub facts_are : facts ≡ facts_of unit_at proc_at s.path.now
    pub context_is : context ≡ context_of unit_at proc_at s.path.now
    pub fits_is : context_fits unit_at proc_at s.path.now ≡ true

  -- what one claim of the place owes comes behind the others
  abbrev pub OwesThere :
      {A : Type 0} → Result A CheckError → Claim → List Owed → List Owed → Type 0
  OwesThere result c old new =
      Owes result unit_at proc_at (record { place = s.path.now; claim = c } ∷ []) old new
