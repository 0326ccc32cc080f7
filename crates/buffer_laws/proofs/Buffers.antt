-- Allocations: another memory for one, and one that is not used taken away.
use Rattle.std.proofs.Common.{◌≡◌, ℕ, Bool, true, false, true≢false, cond, Some, IsSome}
use Rattle.std.proofs.Common.{refl, sym, ap, ◌∙◌, subst, eq-eqb}
use Rattle.exo_tree.specs.Tree.{end}
use Rattle.exo_tree.specs.Context.{fill}
use Rattle.exo_meaning.specs.Value.{Undefined}
use Rattle.exo_meaning.specs.Scene.{Shape, numbers, updated}
use Rattle.exo_meaning.specs.State.{State, with_contents, on_scene, with_buffer}
use Rattle.exo_meaning.specs.Calls.{all_positive}
use Rattle.exo_meaning.specs.Run.{World, step, tensor, unit_world}
use Rattle.exo_meaning.specs.Unseen.{SameBut}
use Rattle.exo_meaning.proofs.Frame.{updated_other}
use Rattle.meaning_laws.specs.Context.{RefinedBut, MayReplace}
use Rattle.meaning_laws.specs.Scoped.{is_param, is_scoped}
use Rattle.meaning_laws.proofs.Binders.{binders_law}
use Rattle.meaning_laws.proofs.Facts.{or_left}
use Rattle.meaning_laws.proofs.Parts.{then_gives, some_injective}
use Rattle.meaning_laws.proofs.Refined.{state_same, through}
use Rattle.meaning_laws.proofs.Replace.{where_gives}
use Rattle.meaning_laws.proofs.SameRuns.{same_runs_refine}
use Rattle.meaning_laws.proofs.WellFormed.{well_scoped}
use Rattle.place_laws.specs.Scope.Scopes.{HasNone}
use Rattle.place_laws.proofs.OfScope.Opened.{leaving_refines}
use Rattle.buffer_laws.specs.Buffers.{Buffer, allocation, only_buffer, is_buffer, MemoryLaw}
use Rattle.buffer_laws.specs.Buffers.{DeleteLaw}

pub memory_law : MemoryLaw
memory_law world p c x m was =
    same_runs_refine world c (only_buffer x) (only_buffer (record x { memory = m })) p was
    (λ s u good come. refl)

-- ---- the state behind an allocation

pub updated_own : {A : Type 0} (f : ℕ → A) (k : ℕ) (v : A) → updated f k v k ≡ v
updated_own f k v = ap (λ t. cond t v (f k)) (eq-eqb k k refl)

abbrev pub shape_of : Buffer → State → Shape
shape_of x s = tensor x.cell (numbers s.scene x.dims)

abbrev pub behind : Buffer → State → State
behind x s = with_contents x.binder.id (λ at. Undefined)
    (on_scene (with_buffer x.binder.id (shape_of x s)) s)

pub is_behind : (world : World) (x : Buffer) (s t : State)
    → step world (allocation x) s ≡ Some t → behind x s ≡ t
is_behind world x s t e = some_injective (behind x s) t
    (where_gives (all_positive (numbers s.scene x.dims)) (Some (behind x s)) t e)

-- it differs from the state before at the buffer alone
module _ (x : Buffer) (s : State) (none : HasNone (is_buffer x) s) where
  not_it : (b : ℕ) → IsSome (s.scene.buffers b) → (t : Bool) → is_buffer x b ≡ t → t ≡ false
  not_it b i false e = refl
  not_it b i true e = absurd (true≢false (sym (subst IsSome (none.unbound b e).buffers i)))

  pub beside : SameBut (is_buffer x) s (behind x s)
  beside = record {
    control = λ y h. refl;
    buffers = λ y h. sym (updated_other s.scene.buffers x.binder.id (Some (shape_of x s)) y h);
    views = λ y h. sym (updated_other s.scene.views x.binder.id _ y h);
    fields = refl;
    cells = λ y h. sym (updated_other s.cells x.binder.id (λ at. Undefined) y h);
    seen = λ y z h e. not_it z.buffer (none.sound.seen y z e) (is_buffer x z.buffer) refl;
  }

pub turned : (hidden : ℕ → Bool) (s t : State) → SameBut hidden s t → SameBut hidden t s
turned hidden s t h = record {
  control = λ x k. sym (h.control x k);
  buffers = λ x k. sym (h.buffers x k);
  views = λ x k. sym (h.views x k);
  fields = sym h.fields;
  cells = λ x k. sym (h.cells x k);
  seen = λ x z k e. h.seen x z k (h.views x k ∙ e);
}

-- ---- an allocation taken away

deleted : (world : World) (x : Buffer) (s : State) → HasNone (is_buffer x) s
    → MayReplace world (is_buffer x) (only_buffer x) end s
deleted world x s none = record {
  fresh = λ y h. (none.unbound y h).buffers;
  runs = λ a b i j.
      let p = then_gives (step world (allocation x) s) (λ t. Some t) a i in
      subst (λ z. RefinedBut (is_buffer x) z b)
      (is_behind world x s p.0 p.1 ∙ some_injective p.0 a p.2)
      (subst (RefinedBut (is_buffer x) (behind x s)) (some_injective s b j)
      (through (is_buffer x) (behind x s) (behind x s) s (state_same (behind x s))
      (turned (is_buffer x) s (behind x s) (beside x s none))));
}

pub delete_law : DeleteLaw
delete_law fields memories callees kinds ps p c x ok was unused =
    let scoped = ap (is_scoped (is_param p)) (sym was)
    ∙ (well_scoped fields memories callees p ok).0 in
    leaving_refines kinds ps c (only_buffer x) end p (record p { body = fill c end })
    (is_buffer x) was refl (record {
      free = λ y h. binders_law p c (only_buffer x) y scoped (or_left (is_buffer x y) false h);
      unused = unused;
    }) (λ s u good come none. deleted (unit_world kinds ps) x u none)
