-- A block that is staged, from the block as it stands.
use Rattle.std.proofs.Common.{◌≡◌, ℕ, ◌==◌, Bool, true, false, true≢false, cond, List, Option, Some}
use Rattle.std.proofs.Common.{None, IfSome, IsSome, option_map, refl, sym, ap, ◌∙◌, subst, eqb-true}
use Rattle.std.proofs.Common.{eq-eqb}
use Rattle.exo_tree.specs.Tree.{Coord, Window, Block}
use Rattle.exo_meaning.specs.Scene.{Seen, then_do, narrowed, window}
use Rattle.exo_meaning.specs.State.{State, on_scene, with_view}
use Rattle.exo_meaning.specs.Refines.{Both}
use Rattle.exo_meaning.specs.Run.{World, run}
use Rattle.exo_meaning.specs.Unseen.{SameBut}
use Rattle.exo_meaning.proofs.Frame.{updated_other}
use Rattle.exo_meaning.proofs.Ignored.{run_alike}
use Rattle.exo_meaning.proofs.Windows.{none_is_some}
use Rattle.meaning_laws.specs.Sound.{IsUnbound}
use Rattle.inplace_laws.specs.Windows.{in_block as block_with, view_of}
use Rattle.inplace_laws.specs.InlineWindow.{is_name}
use Rattle.inplace_laws.proofs.Windows.{window_law, view_kept}
use Rattle.inplace_laws.proofs.InlineWindow.{viewed_same}
use Rattle.buffer_laws.specs.Staging.Stage.{AreAlike}
use Rattle.buffer_laws.specs.Staging.Alone.{has_root}
use Rattle.buffer_laws.specs.Staging.Converted.{converted}
use Rattle.buffer_laws.specs.Staging.Whole.{MayConvert, Follows, ViewedLaw, StagedBlockLaw}
use Rattle.buffer_laws.specs.Staging.Whole.{StagedReaderLaw}
use Rattle.exo_meaning.specs.Scene.{updated}
use Rattle.buffer_laws.proofs.OfStaging.Converted.{converted_law}
use Rattle.buffer_laws.proofs.OfStaging.Gone.{gone}
use Rattle.buffer_laws.proofs.OfStaging.Alone.{alone_law}
use Rattle.buffer_laws.proofs.OfStaging.Behind.{round_law}
use Rattle.buffer_laws.proofs.OfStaging.Reader.{reader_law}

-- ---- on a view of the window

-- a name that sees something is not one that stands for nothing
is_other : (x a : ℕ) (seen : Seen) (coords : List Coord) (s : State) → IsUnbound s a
    → window s.scene x coords ≡ Some seen → (x == a) ≡ false
is_other x a seen coords s unbound e = go (x == a) refl
  where
    part_of : Seen → Option Seen
    part_of z = option_map (λ sides. record { buffer = z.buffer; sides = sides })
        (narrowed s.scene z.sides coords)

    go : (b : Bool) → (x == a) ≡ b → b ≡ false
    go false k = refl
    go true k =
        let none : s.scene.views x ≡ None = ap s.scene.views (eqb-true x a k) ∙ unbound.views in
        absurd (none_is_some (sym (ap (λ o. then_do o part_of) none) ∙ e))

module _ (world : World) (a x : ℕ) (seen : Seen) (coords : List Coord) (b : Block) (s : State)
    (may : MayConvert world a x seen coords b s) where
  abbrev viewed : State
  viewed = on_scene (with_view a seen) s

  abbrev inner : Block
  inner = converted a x coords b

  -- the converted block with the window for a
  abbrev on_x : Block
  on_x = block_with a (Window x coords) inner

  other : (x == a) ≡ false
  other = is_other x a seen coords s may.unbound may.window

  stands : view_of viewed.scene (Window x coords) ≡ Some seen
  stands = view_kept a (Window x coords) may.between.plain (Window x coords) viewed.scene s.scene
      may.between.plain (updated_other s.scene.views a (Some seen) x other) (λ y e. refl)
      ∙ may.window

  goes : IfSome (run world inner viewed) (λ u. run world on_x viewed ≡ Some u)
  goes = window_law world a (Window x coords) inner viewed (record {
    seen = seen;
    name = ap (λ t. cond t (Some seen) (s.scene.views a)) (eq-eqb a a refl);
    window = stands;
    plain = may.between.plain;
    own = may.between.own;
    root = may.between.name;
    variables = may.between.variables;
  })

  alike : Both (SameBut (is_name a)) (run world on_x viewed) (run world on_x s)
  alike = run_alike (is_name a) world on_x (gone a x coords other may.new.spots b may.new.block)
      viewed s (viewed_same a seen s may.sound may.unbound)

  abbrev Ends : State → Type 0
  Ends = Follows (λ t u. SameBut (λ y. y == a) u t) world b s

  ends : (o p q : Option State) → run world b s ≡ q → IfSome o (λ u. p ≡ Some u)
      → Both (SameBut (is_name a)) p q → IfSome o Ends
  ends None p q e h k = tt
  ends (Some u) p q e h k = go q e (subst (λ z. Both (SameBut (is_name a)) z q) h k)
    where
      go : (q : Option State) → run world b s ≡ q → Both (SameBut (is_name a)) (Some u) q → Ends u
      go None e k = absurd k
      go (Some t) e k = (t, e, k)

  pub viewed_ends : IfSome (run world inner viewed) Ends
  viewed_ends = ends (run world inner viewed) (run world on_x viewed) (run world on_x s)
      (converted_law world a x coords b s may.new may.fit) goes alike

  -- ---- and from ends that are like those on the view

  abbrev Result : State → Type 0
  Result = Follows (λ t u. AreAlike s u t) world b s

  not_a : (y : ℕ) → IsSome (s.scene.buffers y) → (t : Bool) → (y == a) ≡ t → t ≡ false
  not_a y i false e = refl
  not_a y i true e = absurd (true≢false (sym (subst IsSome
      (ap s.scene.buffers (eqb-true y a e) ∙ may.unbound.buffers) i)))

  pub from_view : (o p : Option State) → Both (AreAlike s) o p → IfSome p Ends → IfSome o Result
  from_view None p h k = tt
  from_view (Some u) None h k = absurd h
  from_view (Some u) (Some v) h k = (
    k.0,
    k.1,
    record {
      fields = h.fields ∙ k.2.fields;
      cells = λ y at i. h.cells y at i ∙ ap (λ c. c at) (k.2.cells y (not_a y i (y == a) refl));
    },
  )

pub viewed_law : ViewedLaw
viewed_law = viewed_ends

-- ---- between the nests

pub staged_block_law : StagedBlockLaw
staged_block_law blind world root a dims memory x seen to coords ls ks b s may alone round =
    from_view world a.id x seen coords b s may _ _
    (round_law blind world root a dims memory x seen to coords ls ks (converted a.id x coords b) s
    alone round)
    (viewed_ends world a.id x seen coords b s may)

pub staged_reader_law : StagedReaderLaw
staged_reader_law blind world root a dims memory x seen to coords ls b s may alone sizes before fit
    w =
    let inner = converted a.id x coords b in
    from_view world a.id x seen coords b s may _ _
    (reader_law (has_root (updated root a.id a.id) seen.buffer) blind world
    (updated root a.id a.id) a dims memory x seen to coords ls inner s
    (alone_law blind world root a.id seen to inner s alone) sizes before fit w)
    (viewed_ends world a.id x seen coords b s may)
