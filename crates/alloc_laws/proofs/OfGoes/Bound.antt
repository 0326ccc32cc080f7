-- The names that a block leaves, and those of its converted form.
use Rattle.std.proofs.Common.{◌≡◌, ◌==◌, ◌||◌, ℕ, Bool, true, false, List, Some, refl}
use Rattle.std.proofs.Common.{sym, ap, ap₂, ◌∙◌, subst, true≢false, eqb-true, eq-eqb}
use Rattle.exo_tree.specs.Tree.{Coord, Statement, Assign, Reduce, Config, Pass, If, For, Alloc, View}
use Rattle.exo_tree.specs.Tree.{Call, Block, end, next}
use Rattle.exo_meaning.specs.State.{State}
use Rattle.exo_meaning.specs.Run.{World, run, step, roots_after}
use Rattle.exo_meaning.specs.Laws.{HasRoots}
use Rattle.exo_meaning.specs.Unseen.{in_controls, in_coords, in_statement, in_block as mentions}
use Rattle.exo_meaning.proofs.Frame.{or_parts}
use Rattle.meaning_laws.specs.Scoped.{has_binder, step_has_binder}
use Rattle.meaning_laws.specs.Sound.{binds}
use Rattle.meaning_laws.proofs.Apart.{binds_less}
use Rattle.meaning_laws.proofs.Names.{if_gives}
use Rattle.meaning_laws.proofs.Parts.{then_gives, some_injective}
use Rattle.meaning_laws.proofs.Scoped.{both_false}
use Rattle.place_laws.specs.Scope.Scopes.{top_binders}
use Rattle.place_laws.proofs.OfScope.Roots.{roots_next}
use Rattle.buffer_laws.specs.Staging.Converted.{converted, converted_statement}
use Rattle.buffer_laws.specs.StageMem.{roots_behind}

-- one of two
pub one_of : (p q : Bool) → (p || q) ≡ true → q ≡ false → p ≡ true
one_of true q h k = refl
one_of false q h k = absurd (true≢false (sym h ∙ k))

-- ---- a converted block leaves the same names

module _ (a x : ℕ) (coords : List Coord) (y : ℕ) where
  binds_on : (d : Statement) → binds (converted_statement a x coords d) y ≡ binds d y
  binds_on (Assign z is e) = refl
  binds_on (Reduce z is e) = refl
  binds_on (Config f g) = refl
  binds_on Pass = refl
  binds_on (If c b d) = refl
  binds_on (For i lo hi b) = refl
  binds_on (Alloc z cell dims memory) = refl
  binds_on (View w z ds) = refl
  binds_on (Call k gs) = refl

  pub binders_on : (b : Block) → top_binders (converted a x coords b) y ≡ top_binders b y
  binders_on end = refl
  binders_on (next d b) = ap₂ ◌||◌ (binds_on d) (binders_on b)

-- ---- what a block does not mention it does not bind

module _ (hidden : ℕ → Bool) (y : ℕ) where
  same_id : (z : ℕ) → (y == z) ≡ true → hidden z ≡ false → hidden y ≡ false
  same_id z e h = ap hidden (eqb-true y z e) ∙ h

  bound_here : (d : Statement) → in_statement hidden d ≡ false → binds d y ≡ true
      → hidden y ≡ false
  bound_here (Assign z is e) h k = absurd (true≢false (sym k))
  bound_here (Reduce z is e) h k = absurd (true≢false (sym k))
  bound_here (Config f g) h k = absurd (true≢false (sym k))
  bound_here Pass h k = absurd (true≢false (sym k))
  bound_here (If c b d) h k = absurd (true≢false (sym k))
  bound_here (For i lo hi b) h k = absurd (true≢false (sym k))
  bound_here (Alloc z cell dims memory) h k =
      same_id z.id k (or_parts (hidden z.id) (in_controls hidden dims) h).0
  bound_here (View w z ds) h k =
      same_id w.id k (or_parts (hidden w.id) (hidden z || in_coords hidden ds) h).0
  bound_here (Call n gs) h k = absurd (true≢false (sym k))

  pub bound_shown : (b : Block) → mentions hidden b ≡ false → top_binders b y ≡ true
      → hidden y ≡ false
  bound_shown end h k = absurd (true≢false (sym k))
  bound_shown (next d b) h k =
      go (bound_shown b (or_parts (in_statement hidden d) (mentions hidden b) h).1) (binds d y) refl
    where
      go : (top_binders b y ≡ true → hidden y ≡ false) → (t : Bool) → binds d y ≡ t
          → hidden y ≡ false
      go later true e = bound_here d (or_parts (in_statement hidden d) (mentions hidden b) h).0 e
      go later false e = later (sym (ap (λ t. t || top_binders b y) e) ∙ k)

-- a name that it does not mention it does not leave
pub not_left : (a : ℕ) (b : Block) → mentions (λ y. y == a) b ≡ false → top_binders b a ≡ false
not_left a b h = go (top_binders b a) refl
  where
    go : (t : Bool) → top_binders b a ≡ t → t ≡ false
    go false e = refl
    go true e = absurd (true≢false (sym (eq-eqb a a refl) ∙ bound_shown (λ y. y == a) a b h e))

-- nor one that it binds nowhere
pub not_top : (y : ℕ) (b : Block) → has_binder b y ≡ false → top_binders b y ≡ false
not_top y end h = refl
not_top y (next d b) h =
    let p = or_parts (step_has_binder d y) (has_binder b y) h in
    both_false (binds d y) (top_binders b y) (binds_less d y p.0) (not_top y b p.1)

-- ---- the buffer of each name behind a block

pub roots_of_end : (world : World) (b : Block) (root : ℕ → ℕ) (s t : State)
    → run world b s ≡ Some t → HasRoots root s.scene → HasRoots (roots_behind b root) t.scene
roots_of_end world end root s t e h =
    subst (λ (z : State). HasRoots root z.scene) (some_injective s t e) h
roots_of_end world (next d b) root s t e h =
    let m = then_gives (step world d s) (run world b) t e in
    roots_of_end world b (roots_after d root) m.0 t m.2
    (if_gives (λ (z : State). HasRoots (roots_after d root) z.scene) (step world d s) m.0
    (roots_next world d root s h) m.1)
