-- A loop that first writes a field, at a place of a procedure.
use Rattle.std.proofs.Common.{◌≡◌, ℕ, ◌&&◌, ◌||◌, not, true, false, true≢false, List, Option, Some}
use Rattle.std.proofs.Common.{None, [], refl, sym, ap₂}
use Rattle.exo_tree.specs.Tree.{Kind, Index, Control, Lit, Var, Field, StrideOf, Neg, Add, Sub, Mul}
use Rattle.exo_tree.specs.Tree.{Div, Mod, Condition, True, False, Flag, FieldFlag, Lt, Le, Gt, Ge}
use Rattle.exo_tree.specs.Tree.{Eq, And, Or, Argument, ControlArg, ConditionArg, Whole, Window}
use Rattle.exo_tree.specs.Tree.{Config, Block, next, Procedure, ConfigField}
use Rattle.exo_tree.specs.Context.{Context}
use Rattle.exo_meaning.specs.Run.{kinds_of, unit_world}
use Rattle.exo_meaning.specs.Units.{Scope, ControlName, with_name, with_strides, is_control}
use Rattle.exo_meaning.specs.Units.{is_condition, is_write, is_new, plainly, is_empty, is_short}
use Rattle.exo_meaning.specs.Units.{is_truth, is_statement, field_kind, scope_of}
use Rattle.meaning_laws.specs.Sorted.{scope_at}
use Rattle.meaning_laws.specs.Live.{read_by_control, read_by_condition, read_by_argument}
use Rattle.meaning_laws.specs.UnitFields.{unit_writes}
use Rattle.meaning_laws.specs.Copies.{IsFree}
use Rattle.meaning_laws.specs.Sound.{IsUnbound}
use Rattle.meaning_laws.specs.Substitute.{is_plain}
use Rattle.meaning_laws.proofs.Substitute.{and_parts}
use Rattle.meaning_laws.proofs.WellFormed.{plain_of}
use Rattle.meaning_laws.proofs.Fields.{fields_are_kept}
use Rattle.meaning_laws.proofs.UnitFields.{unit_leaves}
use Rattle.meaning_laws.proofs.SameRuns.{same_runs_refine}
use Rattle.meaning_laws.proofs.Copies.{place_sound, place_unbound, moves_on}
use Rattle.place_laws.specs.Scope.Roots.{own_roots_at}
use Rattle.place_laws.proofs.OfScope.WellAtPlace.{well_at_place}
use Rattle.place_laws.specs.Order.TurnsOfTwo.{Loop, whole}
use Rattle.place_laws.specs.Order.PartedLoops.{of_both, alone, parted}
use Rattle.place_laws.specs.Order.WrittenFirst.{writing, HasWrite, WritesReadNone, WrittenFirstRefines}
use Rattle.place_laws.proofs.OfOrder.WrittenFirst.{written_first_law}

-- ---- what a well-formed write reads

module _ (fields : ℕ → Option Kind) (scope : Scope) (g : ℕ) where
  abbrev Is : Control → Type 0
  Is e = is_control fields with_strides scope e ≡ true

  control_none : (e : Control) → Is e → read_by_control g e ≡ false
  control_none (Lit n) h = refl
  control_none (Var x) h = refl
  control_none (Field f) h = absurd (true≢false (sym h))
  control_none (StrideOf x k) h = refl
  control_none (Neg e) h = control_none e h
  control_none (Add e f) h =
      let p = and_parts (is_control fields with_strides scope e) _ h in
      ap₂ ◌||◌ (control_none e p.0) (control_none f p.1)
  control_none (Sub e f) h =
      let p = and_parts (is_control fields with_strides scope e) _ h in
      ap₂ ◌||◌ (control_none e p.0) (control_none f p.1)
  control_none (Mul e f) h =
      let o = and_parts (is_control fields with_strides scope e
      && is_control fields with_strides scope f) _ h in
      let p = and_parts (is_control fields with_strides scope e) _ o.0 in
      ap₂ ◌||◌ (control_none e p.0) (control_none f p.1)
  control_none (Div e c) h =
      control_none e (and_parts (is_control fields with_strides scope e) _ h).0
  control_none (Mod e c) h =
      control_none e (and_parts (is_control fields with_strides scope e) _ h).0

  two_none : (e f : Control) → (is_control fields with_strides scope e
      && is_control fields with_strides scope f) ≡ true
      → (read_by_control g e || read_by_control g f) ≡ false
  two_none e f h =
      let p = and_parts (is_control fields with_strides scope e) _ h in
      ap₂ ◌||◌ (control_none e p.0) (control_none f p.1)

  condition_none : (c : Condition) → is_condition fields with_strides scope c ≡ true
      → read_by_condition g c ≡ false
  condition_none True h = refl
  condition_none False h = refl
  condition_none (Flag x) h = refl
  condition_none (FieldFlag f) h = absurd (true≢false (sym h))
  condition_none (Lt e f) h = two_none e f h
  condition_none (Le e f) h = two_none e f h
  condition_none (Gt e f) h = two_none e f h
  condition_none (Ge e f) h = two_none e f h
  condition_none (Eq e f) h = two_none e f h
  condition_none (And c d) h =
      let p = and_parts (is_condition fields with_strides scope c) _ h in
      ap₂ ◌||◌ (condition_none c p.0) (condition_none d p.1)
  condition_none (Or c d) h =
      let p = and_parts (is_condition fields with_strides scope c) _ h in
      ap₂ ◌||◌ (condition_none c p.0) (condition_none d p.1)

pub writes_read_none : WritesReadNone
writes_read_none fields scope None a g h = absurd (true≢false (sym h))
writes_read_none fields scope (Some kind) (ControlArg e) g h =
    control_none fields scope g e (and_parts (not (is_truth kind)) _ h).1
writes_read_none fields scope (Some kind) (ConditionArg c) g h =
    condition_none fields scope g c (and_parts (is_truth kind) _ h).1
writes_read_none fields scope (Some kind) (Whole x) g h = absurd (true≢false (sym h))
writes_read_none fields scope (Some kind) (Window x coords) g h = absurd (true≢false (sym h))

-- ---- at a place

module _ (fields : List ConfigField) (memories : ℕ) (ps : List Procedure) (p : Procedure)
    (o : Context) (k : Loop) (f : ℕ) (a : Argument) (c : Block)
    (has : HasWrite fields memories ps p o k f a c) where
  abbrev old : Block
  old = alone (of_both (writing k f a) c)

  abbrev kind_of : ℕ → Option Kind
  kind_of = field_kind fields

  abbrev scope : Scope
  scope = scope_at o (scope_of [] p.params)

  abbrev inner : Scope
  inner = with_name scope k.binder (ControlName Index)

  -- the rules of the loop's bounds and of its first statement
  rules : ((is_control kind_of plainly scope k.lo && is_control kind_of plainly scope k.hi) ≡ true)
      × (is_write kind_of inner (kind_of f) a ≡ true)
  rules =
      let callees = (unit_world (kinds_of fields) ps).callees in
      let well = (well_at_place kind_of memories callees p o old has.may.procedure
      has.is_there).piece in
      let loop = and_parts (is_statement kind_of memories callees scope (own_roots_at o)
      (whole (of_both (writing k f a) c))) _ well in
      let name = and_parts (is_new scope k.binder) _ loop.0 in
      let bounds = and_parts (is_control kind_of plainly scope k.lo
      && is_control kind_of plainly scope k.hi) _ name.1 in
      let body = and_parts (not (is_empty (next (Config f a) c)) && is_short (next (Config f a) c))
      _ bounds.1 in
      (bounds.0, (and_parts (is_write kind_of inner (kind_of f) a) _ body.1).0)

  bounds_are_plain : (is_plain k.lo && is_plain k.hi) ≡ true
  bounds_are_plain =
      let q = and_parts (is_control kind_of plainly scope k.lo) _ rules.0 in
      ap₂ ◌&&◌ (plain_of kind_of scope k.lo q.0) (plain_of kind_of scope k.hi q.1)

  right_reads_none : (g : ℕ) → read_by_argument g a ≡ false
  right_reads_none g = writes_read_none kind_of inner (kind_of f) a g rules.1

pub written_first_refines : WrittenFirstRefines
written_first_refines fields memories ps p o k f a c r has moves =
    let world = unit_world (kinds_of fields) ps in
    let first = alone (of_both (writing k f a) c) in
    same_runs_refine world o first (parted (writing k f a) c r) p has.is_there (λ s u good come.
    let unbound : (x : ℕ) → IsFree p o x → IsUnbound u x =
    place_unbound world p first o s u good come in
    written_first_law world k f a c r u
    (record {
      sound = place_sound world p first o s u good come;
      unbound = unbound k.binder.id has.free;
      plain = bounds_are_plain fields memories ps p o k f a c has;
      steady = has.steady;
      reads_none = right_reads_none fields memories ps p o k f a c has;
      leaves = fields_are_kept world (unit_writes ps) (unit_leaves (kinds_of fields) ps) f c
          has.unwritten;
    })
    (moves_on r (IsFree p o) (IsUnbound u) unbound moves))
