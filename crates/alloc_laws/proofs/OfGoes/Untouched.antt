-- An allocation and a nest that sets it to 0 before a block that does not use it.
use Rattle.std.proofs.Common.{◌≡◌, ◌==◌, ◌||◌, ℕ, Bool, true, false, true≢false, pos, List, [], ◌∷◌}
use Rattle.std.proofs.Common.{Option, Some, None, IsSome, refl, sym, ap, ap₂, ◌∙◌, subst}
use Rattle.std.proofs.Math.Path.{fun_ext}
use Rattle.exo_tree.specs.Tree.{Cell, Binder, Control, Alloc, Assign, Const, Statement, Block, next}
use Rattle.exo_tree.specs.Tree.{joined}
use Rattle.exo_meaning.specs.Scene.{Shape, Seen, updated}
use Rattle.exo_meaning.specs.State.{State}
use Rattle.exo_meaning.specs.Run.{World, run, writes, step_writes}
use Rattle.exo_meaning.specs.Laws.{HasRoots, IsKept}
use Rattle.exo_meaning.specs.Unseen.{in_block as mentions, SameBut}
use Rattle.exo_meaning.proofs.Compose.{compose}
use Rattle.exo_meaning.proofs.Frame.{others_are_kept}
use Rattle.exo_meaning.proofs.Ignored.{run_alike}
use Rattle.meaning_laws.specs.Context.{RefinedBut}
use Rattle.meaning_laws.specs.Fields.{writes_field, step_writes_field, HasField}
use Rattle.meaning_laws.specs.Sound.{IsSound, IsSameName}
use Rattle.meaning_laws.proofs.Fields.{fields_are_kept}
use Rattle.meaning_laws.proofs.Names.{if_gives, Others}
use Rattle.meaning_laws.proofs.Parts.{then_gives, both_some}
use Rattle.meaning_laws.proofs.Refined.{through, state_same}
use Rattle.meaning_laws.proofs.Scoped.{both_false}
use Rattle.meaning_laws.proofs.Sound.{run_sound}
use Rattle.inplace_laws.specs.Filled.{Loop, nest}
use Rattle.place_laws.specs.Scope.Scopes.{top_binders, HasNone}
use Rattle.place_laws.proofs.OfScope.Scopes.{run_names}
use Rattle.buffer_laws.specs.Staging.Stores.{variables}
use Rattle.buffer_laws.proofs.OfStaging.Known.{updated_own}
use Rattle.buffer_laws.specs.Sums.{zero_nest}
use Rattle.buffer_laws.proofs.SumsStand.{no_names}
use Rattle.alloc_laws.specs.Goes.Goes.{UntouchedGoes}

-- ---- nests

nest_writes : (world : World) (root : ℕ → ℕ) (ls : List Loop) (d : Statement) (y : ℕ)
    → step_writes world root d y ≡ false → writes world root (nest ls d) y ≡ false
nest_writes world root [] d y h = both_false (step_writes world root d y) false h refl
nest_writes world root (l ∷ ls) d y h =
    both_false (writes world root (nest ls d) y) false (nest_writes world root ls d y h) refl

nest_fields : (calls : ℕ → ℕ → Bool) (f : ℕ) (ls : List Loop) (d : Statement)
    → step_writes_field calls f d ≡ false → writes_field calls f (nest ls d) ≡ false
nest_fields calls f [] d h = both_false (step_writes_field calls f d) false h refl
nest_fields calls f (l ∷ ls) d h =
    both_false (writes_field calls f (nest ls d)) false (nest_fields calls f ls d h) refl

-- ---- the buffer of each name, as the state has it

abbrev root_of : ℕ → Option Seen → ℕ
root_of y None = y
root_of y (Some z) = z.buffer

module _ (world : World) (a : Binder) (cell : Cell) (dims : List Control) (memory : ℕ)
    (ls : List Loop) (b : Block) (s : State) (none : HasNone (λ y. y == a.id) s)
    (unused : mentions (λ y. y == a.id) b ≡ false) where
  abbrev is_new : ℕ → Bool
  is_new y = y == a.id

  abbrev zeroing : Statement
  zeroing = Assign a.id (variables ls) (Const (pos 0))

  abbrev first_part : Block
  first_part = next (Alloc a cell dims memory) (zero_nest a.id ls)

  abbrev root : ℕ → ℕ
  root y = root_of y (s.scene.views y)

  rooted : HasRoots root s.scene
  rooted y z e = sym (ap (root_of y) e)

  not_written : (y : ℕ) → is_new y ≡ false → writes world root first_part y ≡ false
  not_written y h = ap₂ ◌||◌ h (nest_writes world (updated root a.id a.id) ls zeroing y
      (ap (λ n. y == n) (updated_own root a.id a.id) ∙ h))

  module _ (m : State) (e : run world first_part s ≡ Some m) where
    sound : IsSound m
    sound = if_gives IsSound (run world first_part s) m (run_sound world first_part s none.sound) e

    name : (y : ℕ) → is_new y ≡ false → IsSameName y s m
    name y h = if_gives (Others (top_binders first_part) s) (run world first_part s) m
        (run_names world first_part s) e y (ap₂ ◌||◌ h (no_names ls zeroing y refl))

    field : (f : ℕ) → m.scene.fields f ≡ s.scene.fields f
    field f = if_gives (HasField f s) (run world first_part s) m
        (fields_are_kept world (λ k g. true) (λ k g h. absurd (true≢false h)) f first_part
        (nest_fields (λ k g. true) f ls zeroing refl) s) e

    cells : (y : ℕ) → is_new y ≡ false → (o : Option Shape) → s.scene.buffers y ≡ o
        → s.cells y ≡ m.cells y
    cells y h None k = fun_ext (λ at. none.sound.tidy y k at
        ∙ sym (sound.tidy y (sym (name y h).buffers ∙ k) at))
    cells y h (Some shape) k = sym (if_gives (IsKept y s) (run world first_part s) m
        (others_are_kept world root first_part y s rooted (subst IsSome (sym k) refl)
        (not_written y h)) e).cells

    seen_there : (y : ℕ) (z : Seen) → s.scene.views y ≡ Some z → is_new z.buffer ≡ false
    seen_there y z k = go (is_new z.buffer) refl
      where
        go : (r : Bool) → is_new z.buffer ≡ r → r ≡ false
        go false i = refl
        go true i = absurd (true≢false (sym (subst IsSome
            (none.unbound z.buffer i).buffers (none.sound.seen y z k))))

    same : SameBut is_new s m
    same = record {
      control = λ y h. (name y h).control;
      buffers = λ y h. (name y h).buffers;
      views = λ y h. (name y h).views;
      fields = fun_ext (λ f. sym (field f));
      cells = λ y h. cells y h (s.scene.buffers y) refl;
      seen = λ y z h k. seen_there y z k;
    }

  all_go : (t v : State) → run world b s ≡ Some t → run world (joined first_part b) s ≡ Some v
      → RefinedBut is_new t v
  all_go t v e f =
      let m = then_gives (run world first_part s) (run world b) v
      (sym (compose world first_part b s) ∙ f) in
      through is_new t t v (state_same t) (both_some (SameBut is_new) (run world b s)
      (run world b m.0) t v e m.2 (run_alike is_new world b unused s m.0 (same m.0 m.1)))

pub untouched_goes : UntouchedGoes
untouched_goes world a cell dims memory ls b s none unused = record {
  fresh = λ y h. (none.unbound y h).buffers;
  runs = all_go world a cell dims memory ls b s none unused;
}
