-- Loops whose turns all do the same, at a place of a well-formed procedure.
use Rattle.std.specs.Prelude.{◌≡◌, ◌==◌, ◌||◌, ℕ, Bool, true, false, List}
use Rattle.exo_tree.specs.Tree.{Binder, Control, Lt, For, Block, end, next, Procedure, ConfigField}
use Rattle.exo_tree.specs.Context.{Context}
use Rattle.exo_meaning.specs.State.{State, scoped}
use Rattle.exo_meaning.specs.Run.{run, kinds_of, unit_world}
use Rattle.exo_meaning.specs.Inputs.{IsAdmissible, is_buffer_of}
use Rattle.exo_meaning.specs.Unseen.{in_block}
use Rattle.meaning_laws.specs.Context.{ComesTo}
use Rattle.meaning_laws.specs.Sound.{on_way}
use Rattle.meaning_laws.specs.Copies.{IsFree, HoldsAt}
use Rattle.meaning_laws.specs.Sorted.{MayRun}
use Rattle.meaning_laws.specs.Fields.{writes_field}
use Rattle.meaning_laws.specs.UnitFields.{unit_writes}
use Rattle.meaning_laws.specs.Touched.{Reading, Writing, Reducing}
use Rattle.config_state.specs.Reads.{reads_field, unit_reads}
use Rattle.place_laws.specs.Scope.Roots.{own_roots_at}
use Rattle.place_laws.specs.Order.Overwrite.{touches}

-- a root from outside: a parameter, or made on the way
abbrev pub is_outside : Procedure → Context → ℕ → Bool
is_outside p c y = is_buffer_of y p.params || on_way c y

-- the body lacks the variable, reduces into no root from outside, and reads none that it writes,
-- and no field that it writes; calls included
pub record IsIdempotent (fields : List ConfigField) (ps : List Procedure) (p : Procedure)
    (c : Context) (i : Binder) (b : Block) : Type 0 where
  pub fresh : IsFree p c i.id
  pub lacks : in_block (λ x. x == i.id) b ≡ false
  pub reduces : (y : ℕ) → is_outside p c y ≡ true
      → touches fields ps Reducing (own_roots_at c) b y ≡ false
  pub reads : (y : ℕ) → is_outside p c y ≡ true
      → touches fields ps Writing (own_roots_at c) b y ≡ true
      → touches fields ps Reading (own_roots_at c) b y ≡ false
  pub unread : (f : ℕ) → writes_field (unit_writes ps) f b ≡ true
      → reads_field (unit_reads ps) f b ≡ false

-- where it has turns, such a loop is its body in a scope of its own, faults included
abbrev pub RemoveLoopAtLaw : Type 0
RemoveLoopAtLaw =
    (fields : List ConfigField) (memories : ℕ) (ps : List Procedure) (p : Procedure) (c : Context)
    (i : Binder) (lo hi : Control) (b : Block) (s u : State)
    → MayRun fields memories ps p
    → IsIdempotent fields ps p c i b
    → let world = unit_world (kinds_of fields) ps in
    let old = next (For i lo hi b) end in
    HoldsAt world p old c (Lt lo hi)
    → IsAdmissible world p s
    → ComesTo world old c s u
    → run world old u ≡ scoped (run world b) u
