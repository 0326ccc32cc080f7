-- A staged block in the place of the block.
use Rattle.std.proofs.Common.{◌≡◌, ℕ, ℤ, Bool, true, false, true≢false, List, Option, Some, None}
use Rattle.std.proofs.Common.{IsSome, refl, sym, ◌∙◌, subst}
use Rattle.exo_tree.specs.Tree.{Binder, Control, Coord, Alloc, Block, next, joined}
use Rattle.exo_tree.specs.Context.{fill}
use Rattle.exo_meaning.specs.Value.{IsRefinedBy}
use Rattle.exo_meaning.specs.Scene.{Shape, Seen, then_do}
use Rattle.exo_meaning.specs.State.{State}
use Rattle.exo_meaning.specs.Run.{World, run, unit_world}
use Rattle.exo_meaning.proofs.Compose.{compose, then_cong}
use Rattle.exo_meaning.proofs.Windows.{one_value}
use Rattle.meaning_laws.specs.Context.{RefinedBut}
use Rattle.meaning_laws.specs.Sound.{IsSound, IsSameName}
use Rattle.meaning_laws.proofs.Sound.{run_sound}
use Rattle.meaning_laws.proofs.Names.{if_gives, Others}
use Rattle.meaning_laws.proofs.Refined.{refined_same}
use Rattle.meaning_laws.proofs.Replace.{context_law}
use Rattle.inplace_laws.specs.Filled.{Loop}
use Rattle.place_laws.specs.Scope.Scopes.{top_binders}
use Rattle.place_laws.proofs.OfScope.Scopes.{run_names}
use Rattle.buffer_laws.specs.Staging.Stores.{load_nest, store_nest}
use Rattle.buffer_laws.specs.Staging.Alone.{IsAlone}
use Rattle.buffer_laws.specs.Staging.Behind.{MayGoRound}
use Rattle.buffer_laws.specs.Staging.Stage.{AreAlike}
use Rattle.buffer_laws.specs.Staging.Converted.{converted}
use Rattle.buffer_laws.specs.Staging.Whole.{MayConvert, Follows}
use Rattle.buffer_laws.specs.Staging.Replaced.{Hides, AlikeReplaces, StagedReplaces, StagedRefines}
use Rattle.buffer_laws.specs.Staging.Replaced.{between}
use Rattle.buffer_laws.proofs.OfStaging.Whole.{staged_block_law}

module _ (world : World) (hidden : ℕ → Bool) (old new : Block) (s : State)
    (hides : Hides hidden old new s) where
  -- a name that is not hidden is no top binder
  shown : (b : Block) → ((y : ℕ) → top_binders b y ≡ true → hidden y ≡ true) → (y : ℕ)
      → hidden y ≡ false → top_binders b y ≡ false
  shown b within y h = go (top_binders b y) refl
    where
      go : (t : Bool) → top_binders b y ≡ t → t ≡ false
      go false e = refl
      go true e = absurd (true≢false (sym (within y e) ∙ h))

  kept_by : (b : Block) → ((y : ℕ) → top_binders b y ≡ true → hidden y ≡ true) → (t : State)
      → run world b s ≡ Some t → (y : ℕ) → hidden y ≡ false → IsSameName y s t
  kept_by b within t e y h =
      if_gives (Others (top_binders b) s) (run world b s) t (run_names world b s) e y
      (shown b within y h)

  there : (y : ℕ) → IsSome (s.scene.buffers y) → (t : Bool) → hidden y ≡ t → t ≡ false
  there y i false e = refl
  there y i true e = absurd (true≢false (sym (subst IsSome (hides.none.unbound y e).buffers i)))

  module _ (t u : State) (e : run world old s ≡ Some t) (f : run world new s ≡ Some u)
      (alike : AreAlike s u t) where
    before : (y : ℕ) → hidden y ≡ false → IsSameName y s t
    before = kept_by old hides.of_old t e

    behind : (y : ℕ) → hidden y ≡ false → IsSameName y s u
    behind = kept_by new hides.of_new u f

    sound : IsSound t
    sound = if_gives IsSound (run world old s) t (run_sound world old s hides.none.sound) e

    cell : (y : ℕ) → hidden y ≡ false → (at : List ℤ) → (o : Option Shape)
        → s.scene.buffers y ≡ o → IsRefinedBy (t.cells y at) (u.cells y at)
    cell y h at None k = subst (λ v. IsRefinedBy v (u.cells y at))
        (sym (sound.tidy y (sym (before y h).buffers ∙ k) at)) tt
    cell y h at (Some shape) k = subst (IsRefinedBy (t.cells y at))
        (sym (alike.cells y at (subst IsSome (sym k) refl))) (refined_same (t.cells y at))

    refined : RefinedBut hidden t u
    refined = record {
      control = λ y h. sym (before y h).control ∙ (behind y h).control;
      buffers = λ y h. sym (before y h).buffers ∙ (behind y h).buffers;
      views = λ y h. sym (before y h).views ∙ (behind y h).views;
      fields = sym alike.fields;
      cells = λ y h at. cell y h at (s.scene.buffers y) refl;
      seen = λ y z h k. there z.buffer
          (hides.none.sound.seen y z ((before y h).views ∙ k)) (hidden z.buffer) refl;
    }

pub alike_replaces : AlikeReplaces
alike_replaces world hidden old new s hides alike = record {
  fresh = λ y h. (hides.none.unbound y h).buffers;
  runs = λ t u e f. refined world hidden old new s hides t u e f (alike t u e f);
}

module _ (hidden blind : ℕ → Bool) (world : World) (root : ℕ → ℕ) (a : Binder)
    (dims : List Control) (memory x : ℕ) (seen : Seen) (to : Shape) (coords : List Coord)
    (ls ks : List Loop) (b : Block) (s : State)
    (may : MayConvert world a.id x seen coords b s)
    (alone : IsAlone blind root a.id seen to (converted a.id x coords b) s)
    (round : MayGoRound world a dims x seen to coords ls ks (converted a.id x coords b) s) where
  abbrev inner : Block
  inner = converted a.id x coords b

  abbrev loads : Block
  loads = next (Alloc a to.cell dims memory) (load_nest a.id x coords ls)

  abbrev stores : Block
  stores = store_nest a.id x coords ks

  abbrev in_turn : State → Option State
  in_turn v = then_do (run world inner v) (run world stores)

  both : run world (joined loads (joined inner stores)) s ≡ then_do (run world loads s) in_turn
  both = compose world loads (joined inner stores) s
      ∙ then_cong (run world loads s) (run world (joined inner stores)) in_turn
      (compose world inner stores)

  ends_alike : (t u : State) → run world b s ≡ Some t
      → run world (joined loads (joined inner stores)) s ≡ Some u → AreAlike s u t
  ends_alike t u e f =
      let follows = if_gives (Follows (λ v w. AreAlike s w v) world b s)
      (then_do (run world loads s) in_turn) u
      (staged_block_law blind world root a dims memory x seen to coords ls ks b s may alone round)
      (sym both ∙ f) in
      subst (AreAlike s u) (one_value follows.0 t (sym follows.1 ∙ e)) follows.2

pub staged_replaces : StagedReplaces
staged_replaces hidden blind world root a cell dims memory x coords ls ks b s hides known =
    alike_replaces world hidden b
    (between a cell dims memory x coords ls ks (converted a.id x coords b)) s hides (λ t u e f.
    let k = known u f in
    ends_alike hidden blind world root a dims memory x k.seen k.to coords ls ks b s k.may k.alone
    k.round t u e
    (subst (λ z. run world (between a z dims memory x coords ls ks (converted a.id x coords b)) s
    ≡ Some u) (sym k.cell_is) f))

pub staged_refines : StagedRefines
staged_refines kinds ps p c hidden blind root a cell dims memory x coords ls ks b was unused known =
    let new = between a cell dims memory x coords ls ks (converted a.id x coords b) in
    context_law kinds ps hidden c b new p (record p { body = fill c new }) was refl unused
    (λ s u good come.
    let k = known s u good come in
    staged_replaces hidden blind (unit_world kinds ps) root a cell dims memory x coords ls ks b u
    k.0 k.1)
