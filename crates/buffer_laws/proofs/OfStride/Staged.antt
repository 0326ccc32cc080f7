-- A staged buffer that is passed to procedures, none of which looks at its strides.
use Rattle.std.proofs.Common.{◌≡◌, ℕ, ℤ, ◌==◌, Bool, true, false, cond, List, Option, Some, None, IfSome, IsSome, refl, sym, ap, ◌∙◌, subst, true≢false, eqb-true, eq-eqb}
use Rattle.exo_tree.specs.Tree.{Block}
use Rattle.exo_meaning.specs.Value.{Value}
use Rattle.exo_meaning.specs.Scene.{Shape, Seen, whole, extents, index_of, strides_of}
use Rattle.exo_meaning.specs.State.{State, on_scene, with_view}
use Rattle.exo_meaning.specs.Calls.{GivenView, contents, copy_back, value_or, held_at}
use Rattle.exo_meaning.specs.Run.{World, run, tensor}
use Rattle.exo_meaning.specs.Refines.{Both}
use Rattle.exo_meaning.specs.Laws.{IsKept}
use Rattle.exo_meaning.proofs.Frame.{others_are_kept, updated_other}
use Rattle.exo_meaning.proofs.Windows.{none_is_some, one_value, cell_at_index}
use Rattle.inplace_laws.specs.InPlace.{through, held_through, IsWithin, IsPlacing, SeenStands, BufferStands, StandsFor, makes}
use Rattle.inplace_laws.specs.Staged.{staged, StagedAlike}
use Rattle.buffer_laws.specs.Stride.Strides.{uses_strides, HaveOneSize, SameButStrides, WhereBoth}
use Rattle.buffer_laws.specs.Stride.Staged.{staged_with, MayStageBlind, BlindStagedLaw}
use Rattle.buffer_laws.proofs.OfStride.Blocks.{blind_block_law}
use Rattle.inplace_laws.proofs.Sides.{whole_within, composed_whole}
use Rattle.inplace_laws.proofs.InPlace.{in_place}
use Rattle.inplace_laws.specs.CallInPlace.{no_name}

module _ (hidden : ℕ → Bool) (world : World) (sees : ℕ → ℕ → Bool) (root : ℕ → ℕ) (a : ℕ)
    (seen : Seen) (to : Shape) (b : Block) (s : State)
    (may : MayStageBlind hidden world sees root a seen to b s) where
  abbrev base : ℕ → Option Seen
  base y = cond (y == a) (Some seen) None

  abbrev all : ℕ → Bool
  all y = true

  abbrev strided : ℕ → Bool
  strided y = true

  abbrev inner : State
  inner = staged_with (strides_of seen.sides to.strides) a seen to s

  abbrev outer : State
  outer = on_scene (with_view a seen) s

  pub base_a : base a ≡ Some seen
  base_a = ap (λ t. cond {A = Option Seen} t (Some seen) None) (eq-eqb a a refl)

  is_a : (y : ℕ) (z : Seen) (t : Bool) → (y == a) ≡ t → cond {A = Option Seen} t (Some seen) None ≡ Some z → (y ≡ a) × (seen ≡ z)
  is_a y z true e k = (eqb-true y a e, one_value seen z k)
  is_a y z false e k = absurd (none_is_some k)

  pub placing : IsPlacing hidden all strided base
  placing = record {
    whole = λ y e. refl;
    outside = λ y z e. ap (λ (q : Seen). hidden q.buffer) (sym (is_a y z (y == a) refl e).1) ∙ may.hides;
    apart = λ y c z x w n e k. absurd (true≢false (sym (eq-eqb y c ((is_a y z (y == a) refl e).0 ∙ sym (is_a c x (c == a) refl k).0)) ∙ n));
  }

  pub none_made : (y : ℕ) → makes b y ≡ true → base y ≡ None
  none_made y e = go (y == a) refl
    where
      go : (t : Bool) → (y == a) ≡ t → cond {A = Option Seen} t (Some seen) None ≡ None
      go false i = refl
      go true i = absurd (true≢false (sym e ∙ ap (makes b) (eqb-true y a i) ∙ may.not_made))

  -- a is no buffer of s
  not_a : (y : ℕ) → IsSome (s.scene.buffers y) → (y == a) ≡ false
  not_a y i = go (y == a) refl
    where
      go : (t : Bool) → (y == a) ≡ t → t ≡ false
      go false e = refl
      go true e = absurd (true≢false (sym (subst IsSome (ap s.scene.buffers (eqb-true y a e) ∙ may.new.buffers) i)))

  pub base_else : (y : ℕ) → (y == a) ≡ false → base y ≡ None
  base_else y e = ap (λ t. cond {A = Option Seen} t (Some seen) None) e

  abbrev Sees : Seen → Seen → Type 0
  Sees = SeenStands hidden all no_name strided base s

  sees_a : Sees (record { buffer = a; sides = whole (extents seen.sides) }) seen
  sees_a = (may.shown, subst (λ o. IsWithin o (whole (extents seen.sides))) (sym base_a) (whole_within seen.sides), ap (λ l. record { buffer = seen.buffer; sides = l }) (sym (composed_whole seen.sides)) ∙ ap (λ o. through o (record { buffer = a; sides = whole (extents seen.sides) })) (sym base_a))

  sees_same : (y : ℕ) → hidden y ≡ false → (o : Option Seen) → s.scene.views y ≡ o → Both Sees o o
  sees_same y k None e = tt
  sees_same y k (Some z) e =
      let n = base_else z.buffer (not_a z.buffer (may.sound.seen y z e)) in
      (may.views y z k e, subst (λ o. IsWithin o z.sides) (sym n) tt, ap (λ o. through o z) (sym n))

  view_stands : (y : ℕ) → hidden y ≡ false → (t : Bool) → Both Sees (cond t (Some (record { buffer = a; sides = whole (extents seen.sides) })) (s.scene.views y)) (cond t (Some seen) (s.scene.views y))
  view_stands y k true = sees_a
  view_stands y k false = sees_same y k (s.scene.views y) refl

  abbrev shape : Shape
  shape = record {
    cell = to.cell;
    dims = extents seen.sides;
    strides = strides_of seen.sides to.strides;
  }

  buffer_stands : (y : ℕ) (t : Bool) → (y == a) ≡ t → BufferStands hidden all no_name strided base s (cond {A = Option Seen} t (Some seen) None) (cond t (Some shape) (s.scene.buffers y)) s.scene.buffers y
  buffer_stands y true e = (shape, to, refl, may.there, refl, λ st. refl)
  buffer_stands y false e = refl

  cell_stands : (y : ℕ) (at : List ℤ) (t : Bool) → cond {A = List ℤ → Value} t (contents s.cells seen) (s.cells y) at ≡ held_through (cond {A = Option Seen} t (Some seen) None) s.cells y at
  cell_stands y at true = refl
  cell_stands y at false = refl

  pub stands : StandsFor hidden all no_name strided base s inner outer
  stands = record {
    control = λ y k. refl;
    fields = refl;
    others = λ y k. refl;
    views = λ y k. view_stands y k (y == a);
    names = λ y z k n i. refl;
    buffers = λ y k. buffer_stands y (y == a) refl;
    cells = record { own = λ y k at. cell_stands y at (y == a); left = λ y at k i l. refl };
  }

  alike : (t u : State) → StandsFor hidden all no_name strided base s t u → IsKept seen.buffer inner t → StagedAlike a seen s t u
  alike t u h kept = record { fields = h.fields; cells = λ y at i. by_name y at i (hidden y) refl }
    where
      -- the window's buffer was left alone
      was : (at : List ℤ) → t.cells seen.buffer at ≡ s.cells seen.buffer at
      was at = ap (λ c. c at) kept.cells ∙ ap (λ q. cond {A = List ℤ → Value} q (contents s.cells seen) (s.cells seen.buffer) at) (not_a seen.buffer (subst IsSome (sym may.there) refl))

      in_window : (at : List ℤ) (o : Option (List ℤ)) → index_of seen.sides at ≡ o → value_or o (t.cells a) (t.cells seen.buffer at) ≡ u.cells seen.buffer at
      in_window at None e = was at ∙ sym (h.cells.left seen.buffer at may.hides (subst IsSome (sym may.there) refl) (λ y z w k l. ap (λ (q : Seen). index_of q.sides at) (sym (is_a y z (y == a) refl k).1) ∙ e))
      in_window at (Some js) e = h.cells.own a may.shown js ∙ ap (λ o. held_through o u.cells a js) base_a ∙ ap (held_at (u.cells seen.buffer)) (cell_at_index seen.sides at js e)

      by_name : (y : ℕ) (at : List ℤ) → IsSome (s.scene.buffers y) → (q : Bool) → hidden y ≡ q → copy_back true (GivenView seen) (t.cells a) t.cells y at ≡ u.cells y at
      by_name y at i true e = subst (λ x. copy_back true (GivenView seen) (t.cells a) t.cells x at ≡ u.cells x at) (sym (may.only y e i)) (ap (λ q. cond q (value_or (index_of seen.sides at) (t.cells a) (t.cells seen.buffer at)) (t.cells seen.buffer at)) (eq-eqb seen.buffer seen.buffer refl) ∙ in_window at (index_of seen.sides at) refl)
      by_name y at i false e = ap (λ q. cond q (value_or (index_of seen.sides at) (t.cells a) (t.cells y at)) (t.cells y at)) (apart (y == seen.buffer) refl) ∙ h.cells.own y e at ∙ ap (λ o. held_through o u.cells y at) (base_else y (not_a y i))
        where
          apart : (q : Bool) → (y == seen.buffer) ≡ q → q ≡ false
          apart false k = refl
          apart true k = absurd (true≢false (sym may.hides ∙ ap hidden (sym (eqb-true y seen.buffer k)) ∙ e))

  both_kept : (o q : Option State) → Both (StandsFor hidden all no_name strided base s) o q → IfSome o (IsKept seen.buffer inner) → Both (StagedAlike a seen s) o q
  both_kept None None h k = tt
  both_kept None (Some u) h k = absurd h
  both_kept (Some t) None h k = absurd h
  both_kept (Some t) (Some u) h k = alike t u h k

  still_there : IsSome (inner.scene.buffers seen.buffer)
  still_there = subst IsSome (sym (updated_other s.scene.buffers a (Some shape) seen.buffer (not_a seen.buffer (subst IsSome (sym may.there) refl)) ∙ may.there)) refl

  pub same_but : SameButStrides (λ y. y == a) (staged a seen to s) inner
  same_but = record {
    control = refl;
    views = refl;
    fields = refl;
    cells = refl;
    buffers = λ y k. ap (λ t. cond t (Some (tensor to.cell (extents seen.sides)))
        (s.scene.buffers y)) k ∙ sym (ap (λ t. cond t (Some shape) (s.scene.buffers y)) k);
    sizes = λ y. size y (y == a);
  }
    where
      same : (o : Option Shape) → Both HaveOneSize o o
      same None = tt
      same (Some x) = record { cell = refl; dims = refl }

      size : (y : ℕ) (t : Bool) → Both HaveOneSize
          (cond t (Some (tensor to.cell (extents seen.sides))) (s.scene.buffers y))
          (cond t (Some shape) (s.scene.buffers y))
      size y true = record { cell = refl; dims = refl }
      size y false = same (s.scene.buffers y)

  in_strides : Both (StagedAlike a seen s) (run world b inner) (run world b outer)
  in_strides = both_kept (run world b inner) (run world b outer)
      (in_place world hidden all no_name strided base root b s inner outer placing may.names
      (λ y e. absurd (true≢false e)) none_made may.roots stands)
      (others_are_kept world root b seen.buffer inner may.roots still_there may.not_written)

  joined : (o p q : Option State) → WhereBoth (SameButStrides (λ y. y == a)) o p
      → Both (StagedAlike a seen s) p q → WhereBoth (StagedAlike a seen s) o q
  joined None p q h k = tt
  joined (Some t) p None h k = tt
  joined (Some t) None (Some u) h k = absurd k
  joined (Some t) (Some v) (Some u) h k = record {
    fields = h.fields ∙ k.fields;
    cells = λ y at i. ap (λ c. copy_back true (GivenView seen) (c a) c y at) h.cells
        ∙ k.cells y at i;
  }

pub blind_staged_law : BlindStagedLaw
blind_staged_law hidden world sees root a seen to b s calls may =
    let inner = staged_with (strides_of seen.sides to.strides) a seen to s in
    joined hidden world sees root a seen to b s may (run world b (staged a seen to s))
    (run world b inner) (run world b (on_scene (with_view a seen) s))
    (blind_block_law world sees root (λ y. y == a) b (staged a seen to s) inner calls
    (λ y k. ap (uses_strides world.callees sees root b) (eqb-true y a k) ∙ may.strides) may.roots
    (same_but hidden world sees root a seen to b s may))
    (in_strides hidden world sees root a seen to b s may)
