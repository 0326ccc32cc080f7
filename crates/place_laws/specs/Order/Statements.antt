-- Two neighbouring statements in either order, also where one binds a name or writes a field.
use Rattle.std.specs.Prelude.{◌≡◌, ℕ, true, false, List}
use Rattle.exo_tree.specs.Tree.{Statement, Block, end, next, Procedure, ConfigField}
use Rattle.exo_meaning.specs.State.{State}
use Rattle.exo_meaning.specs.Run.{run, kinds_of, unit_world}
use Rattle.exo_meaning.specs.Unseen.{in_statement}
use Rattle.exo_meaning.specs.Units.{Scope}
use Rattle.meaning_laws.specs.Sound.{binds}
use Rattle.meaning_laws.specs.Fields.{step_writes_field}
use Rattle.meaning_laws.specs.Live.{live_step}
use Rattle.meaning_laws.specs.UnitFields.{unit_writes, unit_live}
use Rattle.meaning_laws.specs.Pairs.{AreClear}
use Rattle.meaning_laws.specs.Touched.{unit_modes, touched, MayTouch}

-- a statement does not write the field, and does not read it
pub record LeavesAlone (ps : List Procedure) (f : ℕ) (a : Statement) : Type 0 where
  pub not_written : step_writes_field (unit_writes ps) f a ≡ false
  pub not_read : live_step (unit_live ps) f a false ≡ false

-- b leaves alone each field that a writes
abbrev pub FieldsApart : List Procedure → Statement → Statement → Type 0
FieldsApart ps a b = (f : ℕ) → step_writes_field (unit_writes ps) f a ≡ true → LeavesAlone ps f b

-- and mentions no name that a binds
pub record IsBlindTo (ps : List Procedure) (a b : Statement) : Type 0 where
  pub names : in_statement (binds a) b ≡ false
  pub fields : FieldsApart ps a b

abbrev pub one : Statement → Block
one a = next a end

-- each may stand first, neither sees the names and fields of the other,
-- and no entry of the one clashes with one of the other
pub record MayChangePlaces
    (fields : List ConfigField) (memories : ℕ) (ps : List Procedure) (scope : Scope) (root : ℕ → ℕ)
    (a b : Statement) (s : State) : Type 0 where
  pub first : MayTouch fields memories ps scope root (one a) s
  pub second : MayTouch fields memories ps scope root (one b) s
  pub to_second : IsBlindTo ps a b
  pub to_first : IsBlindTo ps b a
  pub clear :
      let world = unit_world (kinds_of fields) ps in
      let modes = unit_modes (kinds_of fields) ps in
      AreClear s.scene (touched world modes (one a) s) (touched world modes (one b) s)

-- such statements may be run in either order, faults included
abbrev pub StatementsCommute : Type 0
StatementsCommute =
    (fields : List ConfigField) (memories : ℕ) (ps : List Procedure) (scope : Scope) (root : ℕ → ℕ)
    (a b : Statement) (rest : Block) (s : State)
    → MayChangePlaces fields memories ps scope root a b s
    → let world = unit_world (kinds_of fields) ps in
    run world (next a (next b rest)) s ≡ run world (next b (next a rest)) s
