-- A block that only adds to a window, with a buffer from 0 that it may pass on.
use Rattle.std.proofs.Common.{◌≡◌, ℕ, ◌==◌, Bool, List, Some, option_map, refl, sym, ap}
use Rattle.std.proofs.Common.{◌∙◌, subst}
use Rattle.exo_tree.specs.Tree.{Cell, Binder, Control, Coord, Block, end, Procedure, ConfigField}
use Rattle.exo_meaning.specs.Scene.{Shape, Seen, updated}
use Rattle.exo_meaning.specs.State.{State, on_scene, with_view}
use Rattle.exo_meaning.specs.Run.{World, run, kinds_of, unit_world}
use Rattle.exo_meaning.specs.Units.{Scope}
use Rattle.meaning_laws.specs.Sound.{IsSound}
use Rattle.inplace_laws.specs.Filled.{Loop}
use Rattle.inplace_laws.specs.Staged.{staged, StagedAlike}
use Rattle.buffer_laws.specs.Staging.Alone.{has_root}
use Rattle.buffer_laws.specs.Staging.Converted.{converted}
use Rattle.buffer_laws.specs.Staging.Whole.{MayConvert}
use Rattle.buffer_laws.specs.Staging.Known.{AreMade, IsKnown}
use Rattle.buffer_laws.specs.Staging.Readers.{IsLoaded}
use Rattle.buffer_laws.proofs.OfStaging.Replaced.{alike_replaces}
use Rattle.buffer_laws.specs.Accumulated.{from_zero}
use Rattle.buffer_laws.specs.StageAccum.{OnlyAdds}
use Rattle.buffer_laws.specs.StageMem.{asked_of_statement}
use Rattle.buffer_laws.specs.Sums.{between_sums}
use Rattle.buffer_laws.proofs.SameScenes.{fits_from, known_from}
use Rattle.buffer_laws.proofs.Shown.{block}
use Rattle.buffer_laws.proofs.SumsStand.{zero_sound, Stands, all_alike}
use Rattle.buffer_laws.specs.Stride.OnView.{AllHold, LiesWithin}
use Rattle.buffer_laws.specs.Stride.Passed.{ArePassed, PassedSumsReplace}
use Rattle.buffer_laws.specs.Stride.Staged.{MayStageBlind}
use Rattle.buffer_laws.specs.Stride.Strides.{WhereBoth, CallsAreBlind}
use Rattle.buffer_laws.proofs.OfStride.Passed.{nothing_known, nothing_made, lies_between, may_stage}
use Rattle.buffer_laws.proofs.OfStride.Staged.{blind_staged_law}
use Rattle.buffer_laws.proofs.OfStride.ViewedRuns.{on_view_law}

module _ (fields : List ConfigField) (memories : ℕ) (ps : List Procedure) (scope : Scope)
    (sees : ℕ → ℕ → Bool) (root : ℕ → ℕ) (a : Binder) (cell : Cell) (dims sides : List Control)
    (memory x : ℕ) (coords : List Coord) (ls ks : List Loop) (b : Block) (s : State)
    (calls : CallsAreBlind (unit_world (kinds_of fields) ps) sees)
    (made : ArePassed (unit_world (kinds_of fields) ps).callees sees root a dims x coords ls ks b)
    (known : IsKnown (unit_world (kinds_of fields) ps) root a cell x coords b s)
    (lies : LiesWithin (unit_world (kinds_of fields) ps) x sides coords b s)
    (adds : OnlyAdds fields memories ps scope root x b s) where
  abbrev world : World
  world = unit_world (kinds_of fields) ps

  abbrev inner : Block
  inner = converted a.id x coords b

  abbrev is_new : ℕ → Bool
  is_new y = y == a.id

  pub no_known : IsKnown world root a cell x coords end s
  no_known = nothing_known world sees root a cell dims memory x coords ls ks b s made known

  pub no_made : AreMade is_new root a dims x coords ls ks end
  no_made = nothing_made world sees root a cell dims memory x coords ls ks b s made known

  module _ (k : IsLoaded is_new world root a cell dims x coords ls end s) where
    abbrev seen : Seen
    seen = k.seen

    abbrev to : Shape
    to = k.to

    abbrev hidden : ℕ → Bool
    hidden = has_root (updated root a.id a.id) seen.buffer

    abbrev zero : State
    zero = from_zero seen.buffer s

    is_zero_sound : IsSound zero
    is_zero_sound = zero_sound fields memories ps scope is_new root a cell dims memory x coords ls
        ks b inner s no_made no_known adds made.name k

    may : MayStageBlind hidden world sees (updated root a.id a.id) a.id seen to inner s
    may = may_stage world sees root a cell dims memory x coords ls ks b s made known k

    pub zero_may : MayStageBlind hidden world sees (updated root a.id a.id) a.id seen to inner zero
    zero_may = record {
      sound = is_zero_sound;
      there = may.there;
      new = record {
        control = known.unbound.control;
        buffers = known.unbound.buffers;
        views = known.unbound.views;
      };
      shown = may.shown;
      hides = may.hides;
      only = may.only;
      views = may.views;
      names = may.names;
      not_made = may.not_made;
      roots = may.roots;
      not_written = may.not_written;
      strides = may.strides;
    }

    pub zero_converts : MayConvert world a.id x seen coords b zero
    zero_converts = record {
      sound = is_zero_sound;
      unbound = zero_may.new;
      window = k.may.window;
      new = made.new;
      fit = fits_from (kinds_of fields) ps x coords b s zero refl known.fit;
      between = lies_between world sees root a cell dims memory x coords ls ks b s made known k;
    }

    pub zero_lies : LiesWithin world x sides coords b zero
    zero_lies c d u is come = known_from (kinds_of fields) ps
        (λ d z. AllHold z (asked_of_statement x sides coords d)) b s zero refl lies c d u is come

    zeros_alike : (o u : State) → run world b zero ≡ Some o
        → run world inner (staged a.id seen to zero) ≡ Some u → StagedAlike a.id seen zero u o
    zeros_alike o u e f =
        let h : StagedAlike a.id seen zero u (on_scene (with_view a.id seen) o) =
        subst (λ p. WhereBoth (StagedAlike a.id seen zero) (Some u) p)
        (on_view_law world a.id x seen sides coords b zero zero_converts zero_lies
        ∙ ap (option_map (on_scene (with_view a.id seen))) e)
        (subst (λ p. WhereBoth (StagedAlike a.id seen zero) p
        (run world inner (on_scene (with_view a.id seen) zero))) f
        (blind_staged_law hidden world sees (updated root a.id a.id) a.id seen to inner zero calls
        zero_may)) in
        record { fields = h.fields; cells = h.cells }

    pub stands : Stands fields memories ps scope is_new root a cell dims memory x coords ls ks b inner
        s no_made no_known adds made.name k
    stands = record {
      hidden = hidden;
      apart = record {
        sound = may.sound;
        there = may.there;
        new = may.new;
        shown = may.shown;
        hides = may.hides;
        only = may.only;
        views = may.views;
        names = sym (block hidden inner) ∙ may.names;
        roots = may.roots;
        not_written = may.not_written;
      };
      between = lies_between world sees root a cell dims memory x coords ls ks b s made known k;
      on_zeros = zeros_alike;
    }

pub passed_sums_replace : PassedSumsReplace
passed_sums_replace fields memories ps scope hidden sees root a cell dims sides memory x coords ls
    ks b s calls made hides known lies adds =
    let world = unit_world (kinds_of fields) ps in
    let inner = converted a.id x coords b in
    alike_replaces world hidden b (between_sums a cell dims memory x coords ls ks inner) s hides
    (λ t u e f. all_alike fields memories ps scope (λ y. y == a.id) root a cell dims memory x coords
    ls ks b inner s
    (no_made fields memories ps scope sees root a cell dims sides memory x coords ls ks b s calls
    made known lies adds)
    (no_known fields memories ps scope sees root a cell dims sides memory x coords ls ks b s calls
    made known lies adds) adds made.name
    (stands fields memories ps scope sees root a cell dims sides memory x coords ls ks b s calls
    made known lies adds) t u e f)
