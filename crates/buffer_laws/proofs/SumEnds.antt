-- The end of a block that adds to a window, and the end of the same on a buffer that started at 0.
use Rattle.std.proofs.Common.{◌≡◌, ℕ, ℤ, pos, ◌+ℤ◌, ◌==◌, Bool, true, false, true≢false, cond, List}
use Rattle.std.proofs.Common.{Option, Some, None, IsSome, refl, sym, ap, ap₂, ◌∙◌, subst}
use Rattle.std.proofs.Common.{eqb-true, eq-eqb, arith}
use Rattle.std.proofs.lemmas.Int.{ints}
use Rattle.exo_tree.specs.Tree.{Cell, I32, Block}
use Rattle.exo_meaning.specs.Value.{Value, Undefined, Number, wrap}
use Rattle.exo_meaning.specs.Scene.{Shape, Seen, cell_at, index_of, extents, whole}
use Rattle.exo_meaning.specs.State.{State}
use Rattle.exo_meaning.specs.Calls.{GivenView, copy_back, contents, held_at, value_or}
use Rattle.exo_meaning.specs.Footprint.{added, changed_by}
use Rattle.exo_meaning.specs.Inputs.{FitsCell}
use Rattle.exo_meaning.specs.Laws.{HasRoots, IsKept}
use Rattle.exo_meaning.specs.Refines.{Both}
use Rattle.exo_meaning.specs.Run.{World, run, writes, tensor}
use Rattle.exo_meaning.specs.Unseen.{SameBut, in_block as mentions}
use Rattle.exo_meaning.proofs.Frame.{others_are_kept, updated_other}
use Rattle.exo_meaning.proofs.Ignored.{run_alike}
use Rattle.exo_meaning.proofs.Windows.{cell_at_index, one_value}
use Rattle.meaning_laws.specs.Sound.{IsSound, IsUnbound}
use Rattle.meaning_laws.proofs.Names.{if_gives}
use Rattle.inplace_laws.specs.Staged.{staged, StagedAlike}
use Rattle.buffer_laws.specs.Staging.Stage.{AreAlike}
use Rattle.buffer_laws.specs.Accumulated.{from_zero, adding}
use Rattle.buffer_laws.specs.Sums.{zeros, zeroed, sums}
use Rattle.buffer_laws.proofs.Accumulated.{added_to_zero}

-- what is added may be exchanged with what it is added to
added_swap : (cell : Cell) (u v : Value) → added cell u v ≡ added cell v u
added_swap cell Undefined Undefined = refl
added_swap cell Undefined (Number n) = refl
added_swap cell (Number m) Undefined = refl
added_swap cell (Number m) (Number n) = ap (λ k. Number (wrap cell (wrap I32 k))) (swap n m)
  where
    swap : (m n : ℤ) → m +ℤ n ≡ n +ℤ m
    swap m n = omega (arith, ints)

-- the block uses a for the window, and no name of the window's buffer
pub record IsApart (hidden : ℕ → Bool) (world : World) (root : ℕ → ℕ) (a : ℕ) (seen : Seen)
    (to : Shape) (b : Block) (s : State) : Type 0 where
  pub sound : IsSound s
  pub there : s.scene.buffers seen.buffer ≡ Some to
  pub new : IsUnbound s a
  pub shown : hidden a ≡ false
  pub hides : hidden seen.buffer ≡ true
  pub only : (y : ℕ) → hidden y ≡ true → IsSome (s.scene.buffers y) → y ≡ seen.buffer
  pub views : (y : ℕ) (z : Seen) → hidden y ≡ false → s.scene.views y ≡ Some z
      → hidden z.buffer ≡ false
  pub names : mentions hidden b ≡ false
  pub roots : HasRoots root (staged a seen to s).scene
  pub not_written : writes world root b seen.buffer ≡ false

module _ (hidden : ℕ → Bool) (world : World) (root : ℕ → ℕ) (a : ℕ) (seen : Seen) (to : Shape)
    (inner : Block) (s : State) (may : IsApart hidden world root a seen to inner s) where
  abbrev zero : State
  zero = from_zero seen.buffer s

  -- on the zeros of the window's buffer, and beside what it holds
  abbrev beside : State
  beside = zeroed a seen to s

  abbrev on_zeros : State
  on_zeros = staged a seen to zero

  there_is : IsSome (s.scene.buffers seen.buffer)
  there_is = subst IsSome (sym may.there) refl

  other : (y : ℕ) → IsSome (s.scene.buffers y) → (y == a) ≡ false
  other y i = go (y == a) refl
    where
      go : (t : Bool) → (y == a) ≡ t → t ≡ false
      go false e = refl
      go true e = absurd (true≢false (sym (subst IsSome (ap s.scene.buffers (eqb-true y a e)
          ∙ may.new.buffers) i)))

  not_root : (y : ℕ) → hidden y ≡ false → (y == seen.buffer) ≡ false
  not_root y k = go (y == seen.buffer) refl
    where
      go : (t : Bool) → (y == seen.buffer) ≡ t → t ≡ false
      go false e = refl
      go true e = absurd (true≢false (sym may.hides ∙ ap hidden (sym (eqb-true y seen.buffer e))
          ∙ k))

  at_root : zero.cells seen.buffer ≡ (λ at. Number (pos 0))
  at_root = ap (λ t. cond {A = List ℤ → Value} t (λ at. Number (pos 0)) (s.cells seen.buffer))
      (eq-eqb seen.buffer seen.buffer refl)

  same_cells : (y : ℕ) → hidden y ≡ false → (t : Bool)
      → cond {A = List ℤ → Value} t (contents zero.cells seen) (zero.cells y)
      ≡ cond {A = List ℤ → Value} t (zeros seen) (s.cells y)
  same_cells y k true = ap (λ (c : List ℤ → Value). λ is. held_at c (cell_at seen.sides is)) at_root
  same_cells y k false = ap (λ t. cond {A = List ℤ → Value} t (λ at. Number (pos 0)) (s.cells y))
      (not_root y k)

  sees_open : (y : ℕ) (z : Seen) → hidden y ≡ false → (t : Bool)
      → cond {A = Option Seen} t (Some (record { buffer = a; sides = whole (extents seen.sides) }))
      (s.scene.views y) ≡ Some z → hidden z.buffer ≡ false
  sees_open y z k true e = subst (λ (w : Seen). hidden w.buffer ≡ false)
      (one_value (record { buffer = a; sides = whole (extents seen.sides) }) z e) may.shown
  sees_open y z k false e = may.views y z k e

  same : SameBut hidden on_zeros beside
  same = record {
    control = λ y k. refl;
    buffers = λ y k. refl;
    views = λ y k. refl;
    fields = refl;
    cells = λ y k. same_cells y k (y == a);
    seen = λ y z k e. sees_open y z k (y == a) e;
  }

  pub both : Both (SameBut hidden) (run world inner on_zeros) (run world inner beside)
  both = run_alike hidden world inner may.names on_zeros beside same

  -- ---- what the block leaves of the window's buffer

  still : (c : ℕ → List ℤ → Value) → (t : State) → run world inner (record on_zeros { cells = c })
      ≡ Some t → t.cells seen.buffer ≡ c seen.buffer
  still c t e = (if_gives (IsKept seen.buffer (record on_zeros { cells = c }))
      (run world inner (record on_zeros { cells = c })) t
      (others_are_kept world root inner seen.buffer (record on_zeros { cells = c }) may.roots
      (subst IsSome (sym (updated_other s.scene.buffers a
      (Some (tensor to.cell (extents seen.sides))) seen.buffer (other seen.buffer there_is)))
      there_is) may.not_written) e).cells

  module _ (t u o : State) (goes : run world inner beside ≡ Some t)
      (zeroes : run world inner on_zeros ≡ Some u) (like : SameBut hidden u t)
      (old : StagedAlike a seen zero u o) (fits : (at : List ℤ)
      → FitsCell to.cell (s.cells seen.buffer at)) where
    -- the window's buffer before the second nest, and what it was
    kept_here : t.cells seen.buffer ≡ s.cells seen.buffer
    kept_here = still beside.cells t goes
        ∙ updated_other s.cells a (zeros seen) seen.buffer (other seen.buffer there_is)

    kept_zero : (at : List ℤ) → u.cells seen.buffer at ≡ Number (pos 0)
    kept_zero at = ap (λ (c : List ℤ → Value). c at) (still on_zeros.cells u zeroes
        ∙ updated_other zero.cells a (contents zero.cells seen) seen.buffer
        (other seen.buffer there_is) ∙ at_root)

    same_buffer : u.cells a ≡ t.cells a
    same_buffer = like.cells a may.shown

    in_window : (at : List ℤ) (p : Option (List ℤ)) → index_of seen.sides at ≡ p
        → value_or p (sums to.cell (t.cells a) t.cells seen) (t.cells seen.buffer at)
        ≡ added to.cell (s.cells seen.buffer at) (value_or p (u.cells a) (u.cells seen.buffer at))
    in_window at None e = ap (λ (c : List ℤ → Value). c at) kept_here
        ∙ sym (ap (added to.cell (s.cells seen.buffer at)) (kept_zero at)
        ∙ added_to_zero to.cell (s.cells seen.buffer at) (fits at))
    in_window at (Some js) e =
        ap (λ q. added to.cell (t.cells a js) (held_at (t.cells seen.buffer) q))
        (cell_at_index seen.sides at js e)
        ∙ ap₂ (λ (c d : List ℤ → Value). added to.cell (c js) (d at)) (sym same_buffer) kept_here
        ∙ added_swap to.cell (u.cells a js) (s.cells seen.buffer at)

    abbrev added_up : State
    added_up = record t {
      cells = copy_back true (GivenView seen) (sums to.cell (t.cells a) t.cells seen) t.cells;
    }

    abbrev summed : State
    summed = changed_by (adding to.cell (s.cells seen.buffer) seen.buffer) o

    cells_are : (y : ℕ) (at : List ℤ) → IsSome (s.scene.buffers y) → (r : Bool)
        → (y == seen.buffer) ≡ r
        → cond r (value_or (index_of seen.sides at) (sums to.cell (t.cells a) t.cells seen)
        (t.cells y at)) (t.cells y at)
        ≡ cond r (added to.cell (s.cells seen.buffer at) (o.cells y at)) (o.cells y at)
    cells_are y at i true e =
        ap (λ w. value_or (index_of seen.sides at) (sums to.cell (t.cells a) t.cells seen)
        (t.cells w at)) (eqb-true y seen.buffer e)
        ∙ in_window at (index_of seen.sides at) refl
        ∙ ap (λ w. added to.cell (s.cells seen.buffer at)
        (value_or (index_of seen.sides at) (u.cells a) (u.cells w at)))
        (sym (eqb-true y seen.buffer e))
        ∙ ap (added to.cell (s.cells seen.buffer at))
        (sym (ap (λ r. cond r (value_or (index_of seen.sides at) (u.cells a) (u.cells y at))
        (u.cells y at)) e) ∙ old.cells y at i)
    cells_are y at i false e =
        ap (λ (c : List ℤ → Value). c at) (sym (like.cells y (not_hidden (hidden y) refl)))
        ∙ sym (ap (λ r. cond r (value_or (index_of seen.sides at) (u.cells a) (u.cells y at))
        (u.cells y at)) e) ∙ old.cells y at i
      where
        not_hidden : (h : Bool) → hidden y ≡ h → h ≡ false
        not_hidden false k = refl
        not_hidden true k = absurd (true≢false (sym (eq-eqb y seen.buffer (may.only y k i)) ∙ e))

    ends_alike : AreAlike s added_up summed
    ends_alike = record {
      fields = sym like.fields ∙ old.fields;
      cells = λ y at i. cells_are y at i (y == seen.buffer) refl;
    }

  -- where both come to an end, the sums behind the one are those of the other
  pub sums_end : (t o : State) → run world inner beside ≡ Some t
      → ((u : State) → run world inner on_zeros ≡ Some u → StagedAlike a seen zero u o)
      → ((at : List ℤ) → FitsCell to.cell (s.cells seen.buffer at))
      → AreAlike s (record t {
        cells = copy_back true (GivenView seen) (sums to.cell (t.cells a) t.cells seen) t.cells;
      }) (changed_by (adding to.cell (s.cells seen.buffer) seen.buffer) o)
  sums_end t o e old fits = go (run world inner on_zeros) refl
      (subst (Both (SameBut hidden) (run world inner on_zeros)) e both)
    where
      go : (p : Option State) → run world inner on_zeros ≡ p → Both (SameBut hidden) p (Some t)
          → AreAlike s (record t {
            cells = copy_back true (GivenView seen) (sums to.cell (t.cells a) t.cells seen) t.cells;
          }) (changed_by (adding to.cell (s.cells seen.buffer) seen.buffer) o)
      go None k h = absurd h
      go (Some u) k h = ends_alike t u o e k h (old u k) fits
