-- A block that only adds to a window, on a buffer of its own that starts at 0.
use Rattle.std.proofs.Common.{◌≡◌, ℕ, ◌==◌, Bool, true, false, true≢false}
use Rattle.std.proofs.Common.{List, Option, Some, None, IsSome, IfSome, refl, sym, ap}
use Rattle.std.proofs.Common.{◌∙◌, subst, eqb-true}
use Rattle.exo_tree.specs.Tree.{Cell, Binder, Control, Coord}
use Rattle.exo_tree.specs.Tree.{Block, end, Procedure, ConfigField}
use Rattle.exo_meaning.specs.Scene.{Shape, Seen}
use Rattle.exo_meaning.specs.State.{State, on_scene, with_view}
use Rattle.exo_meaning.specs.Refines.{Both}
use Rattle.exo_meaning.specs.Run.{World, run, unit_world, kinds_of}
use Rattle.exo_meaning.specs.Units.{Scope}
use Rattle.exo_meaning.specs.Unseen.{SameBut}
use Rattle.exo_meaning.proofs.Windows.{one_value}
use Rattle.meaning_laws.specs.Scoped.{has_binder}
use Rattle.meaning_laws.specs.Sound.{IsSound}
use Rattle.inplace_laws.specs.Filled.{Loop}
use Rattle.inplace_laws.specs.Staged.{staged, StagedAlike, MayStage}
use Rattle.inplace_laws.proofs.Staged.{staged_law}
use Rattle.buffer_laws.specs.Staging.Alone.{has_root, IsAlone}
use Rattle.buffer_laws.specs.Staging.Behind.{IsBetween}
use Rattle.inplace_laws.specs.Uses.{in_block}
use Rattle.buffer_laws.specs.Staging.Converted.{converted}
use Rattle.buffer_laws.specs.Staging.Whole.{MayConvert, Follows}
use Rattle.buffer_laws.specs.Staging.Known.{AreMade, IsKnown}
use Rattle.buffer_laws.specs.Staging.Readers.{IsLoaded}
use Rattle.exo_meaning.specs.Scene.{updated}
use Rattle.buffer_laws.proofs.OfStaging.Alone.{alone_law}
use Rattle.buffer_laws.proofs.OfStaging.Replaced.{alike_replaces}
use Rattle.buffer_laws.proofs.OfStaging.Whole.{viewed_law}
use Rattle.buffer_laws.specs.Accumulated.{from_zero}
use Rattle.buffer_laws.specs.StageAccum.{OnlyAdds, SumsReplace}
use Rattle.buffer_laws.specs.Sums.{between_sums}
use Rattle.buffer_laws.proofs.Mentioned.{block}
use Rattle.buffer_laws.proofs.SameScenes.{fits_from}
use Rattle.buffer_laws.proofs.OfNothing.{known_of_nothing, made_of_nothing}
use Rattle.buffer_laws.proofs.SumsStand.{its_root, zero_sound, Stands, all_alike}

module _ (fields : List ConfigField) (memories : ℕ) (ps : List Procedure) (scope : Scope)
    (blind : ℕ → Bool) (root : ℕ → ℕ) (a : Binder) (cell : Cell) (dims : List Control)
    (memory x : ℕ) (coords : List Coord) (ls ks : List Loop) (b : Block) (s : State)
    (made : AreMade blind root a dims x coords ls ks b)
    (known : IsKnown (unit_world (kinds_of fields) ps) root a cell x coords b s)
    (adds : OnlyAdds fields memories ps scope root x b s) where
  abbrev world : World
  world = unit_world (kinds_of fields) ps

  abbrev inner : Block
  inner = converted a.id x coords b

  abbrev no_block : ℕ → Bool
  no_block y = y == a.id

  nothing_made : AreMade no_block root a dims x coords ls ks end
  nothing_made = made_of_nothing root a dims x coords made.new.spots made.other made.plain made.sizes
      ls ks made.loads made.stores

  nothing_known : IsKnown world root a cell x coords end s
  nothing_known = known_of_nothing world root a cell x coords b s known

  module _ (k : IsLoaded no_block world root a cell dims x coords ls end s) where
    abbrev seen : Seen
    seen = k.seen

    abbrev to : Shape
    to = k.to

    abbrev hidden : ℕ → Bool
    hidden = has_root (updated root a.id a.id) seen.buffer

    abbrev zero : State
    zero = from_zero seen.buffer s

    is_zero_sound : IsSound zero
    is_zero_sound = zero_sound fields memories ps scope no_block root a cell dims memory x coords ls
        ks b inner s nothing_made nothing_known adds made.name k

    root_is : seen.buffer ≡ root x
    root_is = its_root fields memories ps scope no_block root a cell dims memory x coords ls ks b
        inner s nothing_made nothing_known adds made.name k

    zero_alone : IsAlone blind root a.id seen to inner zero
    zero_alone = record {
      sound = is_zero_sound;
      roots = k.alone.roots;
      own = k.alone.own;
      there = k.alone.there;
      new = record {
        control = known.unbound.control;
        buffers = known.unbound.buffers;
        views = known.unbound.views;
      };
      blinds = made.blinds;
      names = subst (λ n. in_block (has_root (updated root a.id a.id) n) blind inner ≡ false)
          (sym root_is) made.names;
      not_made = made.not_made;
    }

    may_stage : MayStage hidden blind world (updated root a.id a.id) a.id seen to inner zero
    may_stage = alone_law blind world root a.id seen to inner zero zero_alone

    between : IsBetween a.id x seen coords inner
    between = record {
      own = made.own;
      name = made.name;
      root = ap (has_binder inner) root_is ∙ made.root_name;
      plain = made.plain;
      variables = made.variables;
    }

    zero_converts : MayConvert world a.id x seen coords b zero
    zero_converts = record {
      sound = is_zero_sound;
      unbound = zero_alone.new;
      window = k.may.window;
      new = made.new;
      fit = fits_from (kinds_of fields) ps x coords b s zero refl known.fit;
      between = between;
    }

    not_a : (y : ℕ) → IsSome (s.scene.buffers y) → (r : Bool) → (y == a.id) ≡ r → r ≡ false
    not_a y i false e = refl
    not_a y i true e = absurd (true≢false (sym (subst IsSome
        (ap s.scene.buffers (eqb-true y a.id e) ∙ known.unbound.buffers) i)))

    zeros_alike : (o u : State) → run world b zero ≡ Some o
        → run world inner (staged a.id seen to zero) ≡ Some u → StagedAlike a.id seen zero u o
    zeros_alike o u e f =
        go (run world inner (on_scene (with_view a.id seen) zero))
        (subst (λ p. Both (StagedAlike a.id seen zero) p
        (run world inner (on_scene (with_view a.id seen) zero))) f
        (staged_law hidden blind world (updated root a.id a.id) a.id seen to inner zero may_stage))
        (viewed_law world a.id x seen coords b zero zero_converts)
      where
        go : (p : Option State) → Both (StagedAlike a.id seen zero) (Some u) p
            → IfSome p (Follows (λ t w. SameBut (λ y. y == a.id) w t) world b zero)
            → StagedAlike a.id seen zero u o
        go None h k = absurd h
        go (Some w) h k =
            let is_o : k.0 ≡ o = one_value k.0 o (sym k.1 ∙ e) in
            record {
              fields = h.fields ∙ k.2.fields ∙ ap (λ (z : State). z.scene.fields) is_o;
              cells = λ y at i. h.cells y at i
                  ∙ ap (λ c. c at) (k.2.cells y (not_a y i (y == a.id) refl))
                  ∙ ap (λ (z : State). z.cells y at) is_o;
            }

    stands : Stands fields memories ps scope no_block root a cell dims memory x coords ls ks b inner
        s nothing_made nothing_known adds made.name k
    stands = record {
      hidden = hidden;
      apart = record {
        sound = known.sound;
        there = k.alone.there;
        new = known.unbound;
        shown = may_stage.shown;
        hides = may_stage.hides;
        only = may_stage.only;
        views = may_stage.views;
        names = block hidden blind inner may_stage.names;
        roots = may_stage.roots;
        not_written = may_stage.not_written;
      };
      between = between;
      on_zeros = zeros_alike;
    }

pub sums_replace : SumsReplace
sums_replace fields memories ps scope hidden blind root a cell dims memory x coords ls ks b s made
    hides known adds =
    let world = unit_world (kinds_of fields) ps in
    let inner = converted a.id x coords b in
    alike_replaces world hidden b (between_sums a cell dims memory x coords ls ks inner) s hides
    (λ t u e f. all_alike fields memories ps scope (λ y. y == a.id) root a cell dims memory x coords
    ls ks b inner s
    (nothing_made fields memories ps scope blind root a cell dims memory x coords ls ks b s made
    known adds)
    (nothing_known fields memories ps scope blind root a cell dims memory x coords ls ks b s made
    known adds) adds made.name
    (stands fields memories ps scope blind root a cell dims memory x coords ls ks b s made known
    adds) t u e f)
