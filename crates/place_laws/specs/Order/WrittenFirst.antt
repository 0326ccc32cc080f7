-- A loop whose body first writes a field, with the same number in each turn.
use Rattle.std.specs.Prelude.{◌≡◌, ◌==◌, ◌&&◌, ℕ, true, false, List, [], Option, IfSome}
use Rattle.exo_tree.specs.Tree.{Kind, Argument, Config, Block, end, next, Procedure, ConfigField}
use Rattle.exo_tree.specs.Context.{Context, fill}
use Rattle.exo_meaning.specs.State.{State}
use Rattle.exo_meaning.specs.Run.{World, run, kinds_of, unit_world}
use Rattle.exo_meaning.specs.Inputs.{Refines}
use Rattle.exo_meaning.specs.Units.{Scope, is_write}
use Rattle.exo_meaning.specs.Renaming.{Renaming}
use Rattle.exo_meaning.specs.Unseen.{in_argument}
use Rattle.meaning_laws.specs.Sound.{IsSound, IsUnbound}
use Rattle.meaning_laws.specs.Substitute.{is_plain}
use Rattle.meaning_laws.specs.Copies.{Moves, IsFree}
use Rattle.meaning_laws.specs.Sorted.{MayRun}
use Rattle.meaning_laws.specs.UnitFields.{unit_writes}
use Rattle.meaning_laws.specs.Fields.{HasField, writes_field}
use Rattle.meaning_laws.specs.Live.{read_by_argument}
use Rattle.place_laws.specs.Order.TurnsOfTwo.{Loop}
use Rattle.place_laws.specs.Order.PartedLoops.{with_body, of_both, alone, parted}

-- the body is one write of f
abbrev pub writing : Loop → ℕ → Argument → Loop
writing k f a = with_body k (next (Config f a) end)

-- what is written depends on neither the loop's variable nor a field, and the second part leaves f
pub record MayWriteFirst (world : World) (k : Loop) (f : ℕ) (a : Argument) (c : Block)
    (s : State) : Type 0 where
  pub sound : IsSound s
  pub unbound : IsUnbound s k.binder.id
  pub plain : (is_plain k.lo && is_plain k.hi) ≡ true
  pub steady : in_argument (λ x. x == k.binder.id) a ≡ false
  pub reads_none : (g : ℕ) → read_by_argument g a ≡ false
  pub leaves : (t : State) → IfSome (run world c t) (HasField f t)

-- the field may be written in a loop of its own
abbrev pub WrittenFirstLaw : Type 0
WrittenFirstLaw =
    (world : World) (k : Loop) (f : ℕ) (a : Argument) (c : Block) (r : Renaming) (s : State)
    → MayWriteFirst world k f a c s
    → Moves r (IsUnbound s)
    → run world (alone (of_both (writing k f a) c)) s ≡ run world (parted (writing k f a) c r) s

-- in a well-formed write what is written depends on no field
abbrev pub WritesReadNone : Type 0
WritesReadNone =
    (fields : ℕ → Option Kind) (scope : Scope) (kind : Option Kind) (a : Argument) (g : ℕ)
    → is_write fields scope kind a ≡ true
    → read_by_argument g a ≡ false

-- ---- at a place

-- a well-formed procedure with such a loop in the hole, whose second part does not write f
pub record HasWrite (fields : List ConfigField) (memories : ℕ) (ps : List Procedure)
    (p : Procedure) (o : Context) (k : Loop) (f : ℕ) (a : Argument) (c : Block) : Type 0 where
  pub may : MayRun fields memories ps p
  pub is_there : p.body ≡ fill o (alone (of_both (writing k f a) c))
  pub free : IsFree p o k.binder.id
  pub steady : in_argument (λ x. x == k.binder.id) a ≡ false
  pub unwritten : writes_field (unit_writes ps) f c ≡ false

abbrev pub WrittenFirstRefines : Type 0
WrittenFirstRefines =
    (fields : List ConfigField) (memories : ℕ) (ps : List Procedure) (p : Procedure)
    (o : Context) (k : Loop) (f : ℕ) (a : Argument) (c : Block) (r : Renaming)
    → HasWrite fields memories ps p o k f a c
    → Moves r (IsFree p o)
    → Refines (unit_world (kinds_of fields) ps) p
    (record p { body = fill o (parted (writing k f a) c r) }) []
