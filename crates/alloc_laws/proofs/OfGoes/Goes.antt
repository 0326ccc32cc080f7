-- A staged block in the place of a block that may leave names of its own.
use Rattle.std.proofs.Common.{◌≡◌, ◌==◌, ◌||◌, ◌&&◌, ℕ, ℤ, Bool, true, false, true≢false, List}
use Rattle.std.proofs.Common.{Option, Some, None, IsSome, refl, sym, ap, ap₂, ◌∙◌, subst}
use Rattle.std.proofs.Common.{eqb-true}
use Rattle.exo_tree.specs.Tree.{Block}
use Rattle.exo_meaning.specs.Value.{IsRefinedBy}
use Rattle.exo_meaning.specs.Scene.{Shape, Seen}
use Rattle.exo_meaning.specs.State.{State}
use Rattle.exo_meaning.specs.Run.{World, run}
use Rattle.exo_meaning.specs.Laws.{HasRoots}
use Rattle.exo_meaning.proofs.Frame.{or_parts}
use Rattle.meaning_laws.specs.Context.{RefinedBut}
use Rattle.meaning_laws.specs.Sound.{IsSound, IsSameName}
use Rattle.meaning_laws.proofs.Names.{if_gives, Others}
use Rattle.meaning_laws.proofs.Refined.{refined_same}
use Rattle.meaning_laws.proofs.Sound.{run_sound}
use Rattle.place_laws.specs.Scope.Scopes.{top_binders, HasNone}
use Rattle.place_laws.proofs.OfScope.Scopes.{run_names}
use Rattle.buffer_laws.specs.Staging.Alone.{AreRoots}
use Rattle.buffer_laws.specs.Staging.Stage.{AreAlike}
use Rattle.buffer_laws.specs.StageMem.{roots_behind}
use Rattle.alloc_laws.specs.Goes.Goes.{goes}
use Rattle.alloc_laws.proofs.OfGoes.Bound.{roots_of_end}

-- t: the end of the block; v: the end of what stands for it. Names that see no part of buffer r
-- stand for the same in both
pub record NamesKeep (hidden : ℕ → Bool) (a r : ℕ) (t v : State) : Type 0 where
  pub control : (y : ℕ) → hidden y ≡ false → (y == a) ≡ false
      → t.scene.control y ≡ v.scene.control y
  pub buffers : (y : ℕ) → hidden y ≡ false → (y == a) ≡ false
      → t.scene.buffers y ≡ v.scene.buffers y
  pub views : (y : ℕ) → hidden y ≡ false → (y == a) ≡ false
      → ((z : Seen) → t.scene.views y ≡ Some z → (z.buffer == r) ≡ false)
      → t.scene.views y ≡ v.scene.views y
  pub cells : (y : ℕ) → hidden y ≡ false → (y == a) ≡ false → (y == r) ≡ false → (at : List ℤ)
      → t.cells y at ≡ v.cells y at

false_by : (p : Bool) → (p ≡ true → ⊥) → p ≡ false
false_by false h = refl
false_by true h = absurd (h refl)

-- what is known of both ends
module _ (world : World) (root : ℕ → ℕ) (a x : ℕ) (b new : Block) (s : State)
    (hidden : ℕ → Bool)
    (none : HasNone (λ y. (y == a) || top_binders b y) s)
    (rooted : HasRoots root s.scene)
    (there : IsSome (s.scene.buffers (root x)))
    (no_a : top_binders b a ≡ false)
    (of_new : (y : ℕ) → ((y == a) || top_binders b y) ≡ false → top_binders new y ≡ false)
    (shown : (y : ℕ) → top_binders b y ≡ true → hidden y ≡ false)
    (t v : State) (e : run world b s ≡ Some t) (f : run world new s ≡ Some v)
    (own : AreRoots (roots_behind b root) t)
    (alike : AreAlike s v t)
    (keep : NamesKeep hidden a (root x) t v) where
  abbrev is_left : ℕ → Bool
  is_left y = top_binders b y

  abbrev gone : ℕ → Bool
  gone = goes root a x b

  sound : IsSound t
  sound = if_gives IsSound (run world b s) t (run_sound world b s none.sound) e

  -- what the block leaves is no name of before
  unbound : (y : ℕ) → is_left y ≡ true → s.scene.buffers y ≡ None
  unbound y k = (none.unbound y (left_or (y == a) (is_left y) k)).buffers
    where
      left_or : (p q : Bool) → q ≡ true → (p || q) ≡ true
      left_or true q h = refl
      left_or false q h = h

  not_root : (y : ℕ) → is_left y ≡ true → (y == root x) ≡ false
  not_root y k = false_by (y == root x) (λ m. true≢false (sym (subst IsSome (ap s.scene.buffers
      (sym (eqb-true y (root x) m)) ∙ unbound y k) there)))

  roots : HasRoots (roots_behind b root) t.scene
  roots = roots_of_end world b root s t e rooted

  from_old : (y : ℕ) → is_left y ≡ false → IsSameName y s t
  from_old y k = if_gives (Others (top_binders b) s) (run world b s) t (run_names world b s) e y k

  from_new : (y : ℕ) → ((y == a) || is_left y) ≡ false → IsSameName y s v
  from_new y k = if_gives (Others (top_binders new) s) (run world new s) v (run_names world new s) f
      y (of_new y k)

  name : (y : ℕ) → gone y ≡ false → IsSameName y t v
  name y h = go (is_left y) refl
    where
      p : ((y == a) ≡ false) × ((is_left y && (roots_behind b root y == root x)) ≡ false)
      p = or_parts (y == a) (is_left y && (roots_behind b root y == root x)) h

      go : (r : Bool) → is_left y ≡ r → IsSameName y t v
      go true k = record {
        control = keep.control y (shown y k) p.0;
        buffers = keep.buffers y (shown y k) p.0;
        views = keep.views y (shown y k) p.0 (λ z m. ap (λ n. n == root x) (roots y z m)
            ∙ sym (ap (λ r. r && (roots_behind b root y == root x)) k) ∙ p.1);
      }
      go false k =
          let old = from_old y k in
          let here = from_new y (ap₂ ◌||◌ p.0 k) in
          record {
            control = sym old.control ∙ here.control;
            buffers = sym old.buffers ∙ here.buffers;
            views = sym old.views ∙ here.views;
          }

  cell : (y : ℕ) → gone y ≡ false → (at : List ℤ) → (o : Option Shape) → s.scene.buffers y ≡ o
      → (r : Bool) → is_left y ≡ r → IsRefinedBy (t.cells y at) (v.cells y at)
  cell y h at (Some shape) k r m = subst (IsRefinedBy (t.cells y at))
      (sym (alike.cells y at (subst IsSome (sym k) refl))) (refined_same (t.cells y at))
  cell y h at None k true m = subst (IsRefinedBy (t.cells y at))
      (keep.cells y (shown y m)
      (or_parts (y == a) (is_left y && (roots_behind b root y == root x)) h).0 (not_root y m) at)
      (refined_same (t.cells y at))
  cell y h at None k false m = subst (λ w. IsRefinedBy w (v.cells y at))
      (sym (sound.tidy y (sym (from_old y m).buffers ∙ k) at)) tt

  -- a buffer that the block leaves is its own
  buffer_stays : (k : ℕ) → IsSome (t.scene.buffers k) → gone k ≡ false
  buffer_stays k i = ap₂ ◌||◌ not_a (go (is_left k) refl)
    where
      not_a : (k == a) ≡ false
      not_a = false_by (k == a) (λ m. true≢false (sym (subst IsSome (ap t.scene.buffers
          (eqb-true k a m) ∙ sym (from_old a no_a).buffers
          ∙ (none.unbound a (ap (λ r. r || is_left a) (sym (is_a k m)))).buffers) i)))
        where
          is_a : (k : ℕ) → (k == a) ≡ true → true ≡ (a == a)
          is_a k m = sym (subst (λ n. (n == a) ≡ true) (eqb-true k a m) m)

      go : (r : Bool) → is_left k ≡ r → (is_left k && (roots_behind b root k == root x)) ≡ false
      go false m = ap (λ r. r && (roots_behind b root k == root x)) m
      go true m = ap₂ ◌&&◌ m (ap (λ n. n == root x) (own k i) ∙ not_root k m)

  pub refined : RefinedBut gone t v
  refined = record {
    control = λ y h. (name y h).control;
    buffers = λ y h. (name y h).buffers;
    views = λ y h. (name y h).views;
    fields = sym alike.fields;
    cells = λ y h at. cell y h at (s.scene.buffers y) refl (is_left y) refl;
    seen = λ y z h k. buffer_stays z.buffer (sound.seen y z k);
  }
