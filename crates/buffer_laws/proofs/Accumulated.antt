-- A block that only adds to a buffer, run from zeros.
use Rattle.std.proofs.Common.{◌≡◌, ◌==◌, ℕ, ℤ, pos, ◌+ℤ◌, Bool, true, false, cond, List, [], ◌∷◌}
use Rattle.std.proofs.Common.{Some, None, refl, sym, ap, ◌∙◌, subst, eqb-true, arith}
use Rattle.std.proofs.Common.{true≢false}
use Rattle.std.proofs.lemmas.Int.{ints}
use Rattle.std.proofs.Math.Path.{fun_ext}
use Rattle.exo_tree.specs.Tree.{Cell, I8, I32, Block, Procedure, ConfigField}
use Rattle.exo_meaning.specs.Value.{Value, Undefined, Number, wrap}
use Rattle.exo_meaning.specs.Scene.{Shape}
use Rattle.exo_meaning.specs.State.{State, Cells}
use Rattle.exo_meaning.specs.Footprint.{Entry, Reads, Writes, Reduces, Made, Change, changed_by}
use Rattle.exo_meaning.specs.Footprint.{added}
use Rattle.exo_meaning.specs.Footprint.{Passes, LeavesOthers}
use Rattle.exo_meaning.specs.Inputs.{FitsCell}
use Rattle.exo_meaning.specs.Orders.{Each}
use Rattle.exo_meaning.specs.Run.{run, unit_world, kinds_of}
use Rattle.exo_meaning.specs.Units.{Scope, BufferName, sort_in, field_kind}
use Rattle.exo_meaning.proofs.Windows.{none_is_some}
use Rattle.exo_meaning.proofs.Wrap.{wrap_laws, additions_swap}
use Rattle.meaning_laws.specs.Touched.{touched, unit_modes, MayTouch, IsCovered}
use Rattle.meaning_laws.specs.Touched.{Mode, Reading, Writing, Modes, has_mode}
use Rattle.meaning_laws.proofs.Covered.{run_covered}
use Rattle.meaning_laws.proofs.Sorted.{agrees, unit_good}
use Rattle.meaning_laws.proofs.UnitFootprints.{runs_exchange}
use Rattle.buffer_laws.specs.Accumulated.{from_zero, adding, OnlyReduces, AccumLaw}
use Rattle.buffer_laws.specs.Accumulated.{AccumByModes}

from_first : (m : ℤ) → pos 0 +ℤ m ≡ m
from_first m = omega (arith, ints)

-- to add to 0 is to put there, where it fits
pub added_to_zero : (cell : Cell) (v : Value) → FitsCell cell v → added cell v (Number (pos 0)) ≡ v
added_to_zero cell Undefined h = refl
added_to_zero cell (Number m) h =
    ap Number (wrap_laws.wrapped cell (pos 0 +ℤ m) ∙ ap (wrap cell) (from_first m) ∙ h)

module _ (cell : Cell) (values : List ℤ → Value) (y : ℕ) where
  passes : (e : Entry) → OnlyReduces y cell e → Passes (adding cell values y) e
  passes (Reads q) h = λ v. ap (λ t. cond t (added cell (values q.at) v) v) h
  passes (Writes q) h = λ v. ap (λ t. cond t (added cell (values q.at) v) v) h
  passes (Made x) h = λ at v. ap (λ t. cond t (added cell (values at) v) v) h
  passes (Reduces c q) h = λ u v. go u v (q.buffer == y) h
    where
      go : (u v : Value) (t : Bool) → (t ≡ true → c ≡ cell)
          → cond t (added cell (values q.at) (added c u v)) (added c u v)
          ≡ added c u (cond t (added cell (values q.at) v) v)
      go u v false k = refl
      go u v true k = subst (λ d. added cell (values q.at) (added d u v)
          ≡ added d u (added cell (values q.at) v)) (sym (k refl))
          (additions_swap cell u (values q.at) v)

  all_pass : (es : List Entry) → Each (OnlyReduces y cell) es
      → Each (Passes (adding cell values y)) es
  all_pass [] h = tt
  all_pass (e ∷ es) h = (passes e h.0, all_pass es h.1)

module _ (fields : List ConfigField) (memories : ℕ) (ps : List Procedure) (scope : Scope)
    (root : ℕ → ℕ) (b : Block) (s : State) (y : ℕ) (shape : Shape)
    (may : MayTouch fields memories ps scope root b s)
    (there : s.scene.buffers y ≡ Some shape) where
  abbrev change : Change
  change = adding shape.cell (s.cells y) y

  abbrev pub start : State
  start = from_zero y s

  others : LeavesOthers change start.scene
  others x h at = go (x == y)
    where
      go : (t : Bool) → cond t (added shape.cell (s.cells y at) Undefined) Undefined ≡ Undefined
      go true = refl
      go false = refl

  is_start : changed_by change start ≡ s
  is_start = ap {A = Cells} (λ c. record { scene = s.scene; cells = c })
      (fun_ext (λ x. fun_ext (λ at. cell x at (x == y) refl)))
    where
      cell : (x : ℕ) (at : List ℤ) (t : Bool) → (x == y) ≡ t
          → cond t (added shape.cell (s.cells y at)
          (cond {A = List ℤ → Value} t (λ js. Number (pos 0)) (s.cells x) at))
          (cond {A = List ℤ → Value} t (λ js. Number (pos 0)) (s.cells x) at)
          ≡ s.cells x at
      cell x at true e = added_to_zero shape.cell (s.cells y at) (may.sorted.cells y shape there at)
          ∙ ap (λ z. s.cells z at) (sym (eqb-true x y e))
      cell x at false e = refl

  pub starts : MayTouch fields memories ps scope root b start
  starts = record {
    unit = may.unit;
    block = may.block;
    sound = record {
      tidy = λ x h at. tidy x at h (x == y) refl;
      seen = may.sound.seen;
    };
    sorted = record {
      buffers = may.sorted.buffers;
      views = may.sorted.views;
      cells = λ x to h at. fits x to at h (x == y);
      fields = may.sorted.fields;
    };
  }
    where
      tidy : (x : ℕ) (at : List ℤ) → s.scene.buffers x ≡ None → (t : Bool) → (x == y) ≡ t
          → cond {A = List ℤ → Value} t (λ js. Number (pos 0)) (s.cells x) at ≡ Undefined
      tidy x at h true e = absurd (none_is_some (sym h ∙ ap s.scene.buffers (eqb-true x y e)
          ∙ there))
      tidy x at h false e = may.sound.tidy x h at

      fits : (x : ℕ) (to : Shape) (at : List ℤ) → s.scene.buffers x ≡ Some to → (t : Bool)
          → FitsCell to.cell (cond {A = List ℤ → Value} t (λ js. Number (pos 0)) (s.cells x) at)
      fits x to at h true = wrap_laws.zero to.cell
      fits x to at h false = may.sorted.cells x to h at

pub accum_law : AccumLaw
accum_law fields memories ps scope root b s y shape may there only =
    let world = unit_world (kinds_of fields) ps in
    let change = adding shape.cell (s.cells y) y in
    ap (run world b)
    (sym (is_start fields memories ps scope root b s y shape may there))
    ∙ runs_exchange fields memories ps scope root b (from_zero y s)
    (starts fields memories ps scope root b s y shape may there) change
    (others fields memories ps scope root b s y shape may there)
    (all_pass shape.cell (s.cells y) y
    (touched world (unit_modes (kinds_of fields) ps) b (from_zero y s)) only)

-- ---- by the modes of the block

module _ (scope : Scope) (all : Modes) (y : ℕ) (cell : Cell) (rank : ℕ) (dense : Bool)
    (sort : sort_in scope y ≡ Some (BufferName cell rank dense)) (unread : all Reading y ≡ false)
    (unwritten : all Writing y ≡ false) where
  not_it : (m : Mode) → all m y ≡ false → (x : ℕ) → all m x ≡ true → (x == y) ≡ false
  not_it m none x h = go (x == y) refl
    where
      go : (t : Bool) → (x == y) ≡ t → t ≡ false
      go false e = refl
      go true e = absurd (true≢false (sym h ∙ ap (all m) (eqb-true x y e) ∙ none))

  new_is_other : (x : ℕ) → sort_in scope x ≡ None → (x == y) ≡ false
  new_is_other x h = go (x == y) refl
    where
      go : (t : Bool) → (x == y) ≡ t → t ≡ false
      go false e = refl
      go true e = absurd (none_is_some (sym h ∙ ap (sort_in scope) (eqb-true x y e) ∙ sort))

  one_cell : (c : Cell) (r : ℕ) (d : Bool) → BufferName cell rank dense ≡ BufferName c r d
      → c ≡ cell
  one_cell c r d e = cc

  only_reduces : (e : Entry) → IsCovered scope all e → OnlyReduces y cell e
  only_reduces (Reads q) h = not_it Reading unread q.buffer h
  only_reduces (Writes q) h = not_it Writing unwritten q.buffer h
  only_reduces (Made x) h = new_is_other x h
  only_reduces (Reduces c q) h = λ e.
      let z = h.1 (BufferName cell rank dense)
      (ap (sort_in scope) (eqb-true q.buffer y e) ∙ sort) in
      one_cell c z.0 z.1 z.2

  all_only_reduce : (es : List Entry) → Each (IsCovered scope all) es
      → Each (OnlyReduces y cell) es
  all_only_reduce [] h = tt
  all_only_reduce (e ∷ es) h = (only_reduces e h.0, all_only_reduce es h.1)

pub accum_by_modes : AccumByModes
accum_by_modes fields memories ps scope root b s y shape may there roots typed unread unwritten =
    let kinds = kinds_of fields in
    let world = unit_world kinds ps in
    let modes = unit_modes kinds ps in
    let all : Modes = λ m x. has_mode world.callees modes m root b x in
    let first = starts fields memories ps scope root b s y shape may there in
    let sort = may.sorted.buffers y shape there in
    accum_law fields memories ps scope root b s y shape may there
    (all_only_reduce scope all y shape.cell sort.0 sort.1 sort.2 unread unwritten
    (touched world modes b (from_zero y s))
    (run_covered scope all kinds (field_kind fields) (agrees fields) memories world refl
    (unit_good fields memories ps may.unit) modes b scope root may.block (λ x z e. e) typed
    (λ m x e. e) (from_zero y s)
    (record { sound = first.sound; sorted = first.sorted; roots = roots })))
