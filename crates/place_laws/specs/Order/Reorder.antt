-- Two neighbouring statements of a procedure in the other order.
use Rattle.std.specs.Prelude.{◌≡◌, ℕ, Bool, true, false, List, []}
use Rattle.exo_tree.specs.Tree.{Statement, Block, end, next, Procedure, ConfigField}
use Rattle.exo_tree.specs.Context.{Context, fill}
use Rattle.exo_meaning.specs.State.{State}
use Rattle.exo_meaning.specs.Run.{kinds_of, unit_world}
use Rattle.exo_meaning.specs.Inputs.{IsAdmissible, Refines, run_procedure}
use Rattle.exo_meaning.specs.Unseen.{in_statement}
use Rattle.meaning_laws.specs.Context.{ComesTo}
use Rattle.meaning_laws.specs.Sound.{binds}
use Rattle.meaning_laws.specs.Scoped.{is_scoped}
use Rattle.meaning_laws.specs.Pairs.{AreClear}
use Rattle.meaning_laws.specs.Sorted.{MayRun}
use Rattle.meaning_laws.specs.Touched.{unit_modes, touched}
use Rattle.place_laws.specs.Order.Statements.{FieldsApart, one}

abbrev pub pair : Statement → Statement → Block
pair a b = next a (next b end)

-- where each name is bound before its use in both orders,
-- neither statement mentions what the other binds
abbrev pub OrdersApart : Type 0
OrdersApart =
    (bound : ℕ → Bool) (c : Context) (a b : Statement)
    → is_scoped bound (fill c (pair a b)) ≡ true
    → is_scoped bound (fill c (pair b a)) ≡ true
    → (in_statement (binds a) b ≡ false) × (in_statement (binds b) a ≡ false)

-- a procedure that is well formed in both orders,
-- and where neither statement sees the fields of the other
pub record MayReorder
    (fields : List ConfigField) (memories : ℕ) (ps : List Procedure) (p : Procedure)
    (c : Context) (a b : Statement) : Type 0 where
  pub there : p.body ≡ fill c (pair a b)
  pub before : MayRun fields memories ps p
  pub after : MayRun fields memories ps (record p { body = fill c (pair b a) })
  pub to_second : FieldsApart ps a b
  pub to_first : FieldsApart ps b a

-- wherever a run comes to the two, no entry of the one clashes with one of the other
abbrev pub AreClearThere :
    List ConfigField → List Procedure → Procedure → Context → Statement → Statement → Type 0
AreClearThere fields ps p c a b =
    let world = unit_world (kinds_of fields) ps in
    let modes = unit_modes (kinds_of fields) ps in
    (s u : State)
    → IsAdmissible world p s
    → ComesTo world (pair a b) c s u
    → AreClear u.scene (touched world modes (one a) u) (touched world modes (one b) u)

abbrev pub exchanged : Procedure → Context → Statement → Statement → Procedure
exchanged p c a b = record p { body = fill c (pair b a) }

-- the procedure with the two in the other order does the same, faults included
abbrev pub ReorderLaw : Type 0
ReorderLaw =
    (fields : List ConfigField) (memories : ℕ) (ps : List Procedure) (p : Procedure)
    (c : Context) (a b : Statement)
    → MayReorder fields memories ps p c a b
    → AreClearThere fields ps p c a b
    → let world = unit_world (kinds_of fields) ps in
    (s : State)
    → IsAdmissible world p s
    → run_procedure world p s ≡ run_procedure world (exchanged p c a b) s

-- so it refines it, and no field differs
abbrev pub ReorderRefines : Type 0
ReorderRefines =
    (fields : List ConfigField) (memories : ℕ) (ps : List Procedure) (p : Procedure)
    (c : Context) (a b : Statement)
    → MayReorder fields memories ps p c a b
    → AreClearThere fields ps p c a b
    → Refines (unit_world (kinds_of fields) ps) p (exchanged p c a b) []
