-- How a call reads its arguments: as they are for a function, and as cells for an instruction.
use Rattle.std.proofs.Common.{◌≡◌, ℕ, ℤ, pos, ◌*ℤ◌, Bool, true, false, List, [], ◌∷◌, map, Option, Some, None, refl, sym, ap, ◌∙◌, subst, ⊎_elim, true≢false}
use Rattle.exo_tree.specs.Tree.{Cell, Argument, Param}
use Rattle.exo_meaning.specs.Calls.{given, all_given, Given}
use Rattle.exo_meaning.specs.State.{State}
use Rattle.c_tree.specs.CTree.{Name, Number64, InArray}
use Rattle.c_unit_laws.specs.Follows.Machine.Machine.{Outcome, Done, Fault, NoStore, after, Pointer}
use Rattle.c_unit_laws.specs.Follows.Machine.Machine.{Thing, IsNumber, IsArray, IsVectors, IsWindow}
use Rattle.c_unit_laws.specs.Follows.Machine.Machine.{Machine, moved, number64, inside, from_array}
use Rattle.c_unit_laws.specs.Follows.Machine.Machine.{from_elements, spot, spot_by}
use Rattle.c_unit_laws.specs.Follows.Machine.CRun.{as_cells, thing_by, things_by, things}
use Rattle.c_unit_laws.specs.Follows.Machine.CRun.{things_of_cells}
use Rattle.c_lowering.specs.Made.Lowered.{Forms, cell_ref, dims_of, offset, actual_of, actuals_of}
use Rattle.c_unit_laws.specs.Follows.Simulation.{Ground, Follows, Layout, Matches}
use Rattle.c_unit_laws.specs.Follows.Good.{IsBufferOf, IsGoodArgument, AreGoodArguments}
use Rattle.c_unit_laws.proofs.OfFollows.Steps.{follows_then, follows_map, follows_weaken}
use Rattle.c_unit_laws.proofs.OfFollows.Places.{tensor_here}
use Rattle.c_unit_laws.proofs.OfFollows.Given.{IsGivenAs, AreGivenAs}

-- what a way of reading makes of arrays and vectors
pub record Reads (from : Option Thing → ℤ → Outcome Pointer) (seen_as : Thing → Thing) (function : Bool) : Type 0 where
  pub array : (p : Pointer) (k : ℤ) → from (Some (IsArray p)) k ≡ Done (moved p k)
  pub vectors : function ≡ false → (p : Pointer) (lanes : ℕ) (k : ℤ) → from (Some (IsVectors p lanes)) k ≡ Done (moved p (k *ℤ pos lanes))
  pub number_is : (n : ℤ) → seen_as (IsNumber n) ≡ IsNumber n
  pub array_is : (p : Pointer) → seen_as (IsArray p) ≡ IsArray p
  pub window_is : (p : Pointer) (ts : List ℤ) → seen_as (IsWindow p ts) ≡ IsWindow p ts
  pub cells_are : function ≡ false → (p : Pointer) (lanes : ℕ) → seen_as (IsVectors p lanes) ≡ IsArray p

abbrev pub as_it_is : Thing → Thing
as_it_is t = t

pub reads_things : Reads from_array as_it_is true
reads_things = record {
  array = λ p k. refl;
  vectors = λ e. absurd (true≢false e);
  number_is = λ n. refl;
  array_is = λ p. refl;
  window_is = λ p ts. refl;
  cells_are = λ e. absurd (true≢false e);
}

pub reads_cells : Reads from_elements as_cells false
reads_cells = record {
  array = λ p k. refl;
  vectors = λ e p lanes k. refl;
  number_is = λ n. refl;
  array_is = λ p. refl;
  window_is = λ p ts. refl;
  cells_are = λ e p lanes. refl;
}

pub same_after : {A B : Type 0} (o : Outcome A) (f h : A → Outcome B) → ((a : A) → f a ≡ h a) → after o f ≡ after o h
same_after (Done a) f h same = same a
same_after Fault f h same = refl
same_after NoStore f h same = refl

module _ (Few : Type 0) (g : Ground) (forms : Forms) (most : ℕ → ℕ) (root : ℕ → ℕ) (layout : Layout) (s : State) (m : Machine) (match : Matches g forms most root layout s m) (from : Option Thing → ℤ → Outcome Pointer) (seen_as : Thing → Thing) (function : Bool) (reads : Reads from seen_as function) where
  array_spot : (x : Name) (off : Number64) (p : Pointer) → m.setting.names x ≡ Some (IsArray p) → spot_by from m.setting (InArray x off) ≡ spot m.setting (InArray x off)
  array_spot x off p name =
      ap (λ o. after (number64 m.setting off) (λ k. after (from o k) (inside m.setting))) name
      ∙ same_after (number64 m.setting off) _ _ (λ k. ap (λ o. after o (inside m.setting)) (reads.array p k))
      ∙ sym (ap (λ o. after (number64 m.setting off) (λ k. after (from_array o k) (inside m.setting))) name)

  -- a cell of a buffer without lanes
  pub same_spot : (x : ℕ) (cell : Cell) (rank : ℕ) → IsBufferOf forms x cell rank → (es : List Number64) → spot_by from m.setting (cell_ref g.naming x (forms x) es) ≡ spot m.setting (cell_ref g.naming x (forms x) es)
  same_spot x cell rank h es =
      ⊎_elim
      (λ w. subst (λ f. spot_by from m.setting (cell_ref g.naming x f es) ≡ spot m.setting (cell_ref g.naming x f es)) (sym w.0) refl)
      (λ t. subst (λ f. spot_by from m.setting (cell_ref g.naming x f es) ≡ spot m.setting (cell_ref g.naming x f es)) (sym t.1)
      (array_spot (g.naming.binder x) (offset es (dims_of g.naming t.0)) (layout x) (tensor_here g.naming forms most layout s.scene m.setting match.names x cell t.0 0 t.1).name))
      h

  -- ---- one argument, and all

  abbrev pub OneFollows : Type 0
  OneFollows =
      (bound : ℕ) (p : Param) (a : Argument)
      → IsGoodArgument g.declared forms most bound function p.kind a
      → Follows Few (λ v t. IsGivenAs layout s.scene bound p.kind v (seen_as t)) (given s.scene a) (thing_by from m.setting (actual_of g.naming forms p.kind a))

  pub all_follow : OneFollows → (bounds : ℕ → ℕ) (ps : List Param) (args : List Argument) → AreGoodArguments g.declared forms most bounds function ps args → Follows Few (λ gs ts. AreGivenAs layout s.scene bounds ps gs (map seen_as ts)) (all_given s.scene args) (things_by from m.setting (actuals_of g.naming forms ps args))
  all_follow one bounds [] [] h = tt
  all_follow one bounds [] (a ∷ args) h = absurd h
  all_follow one bounds (p ∷ ps) [] h = absurd h
  all_follow one bounds (p ∷ ps) (a ∷ args) h =
      follows_then Few (λ v t. IsGivenAs layout s.scene (bounds p.binder.id) p.kind v (seen_as t)) (λ gs ts. AreGivenAs layout s.scene bounds (p ∷ ps) gs (map seen_as ts)) (given s.scene a) _ _ _ (one (bounds p.binder.id) p a h.0)
      (λ v t e r. follows_map Few (λ gs ts. AreGivenAs layout s.scene bounds ps gs (map seen_as ts)) (λ gs ts. AreGivenAs layout s.scene bounds (p ∷ ps) gs (map seen_as ts)) (all_given s.scene args) _ (λ gs. v ∷ gs) (λ ts. t ∷ ts) (all_follow one bounds ps args h.1) (λ gs ts k. (r, k)))

mapped_same : (ts : List Thing) → map as_it_is ts ≡ ts
mapped_same [] = refl
mapped_same (t ∷ ts) = ap (λ us. t ∷ us) (mapped_same ts)

module _ (Few : Type 0) (g : Ground) (forms : Forms) (most : ℕ → ℕ) (root : ℕ → ℕ) (layout : Layout) (s : State) (m : Machine) (match : Matches g forms most root layout s m) (bounds : ℕ → ℕ) (ps : List Param) (args : List Argument) where
  pub things_follow : OneFollows Few g forms most root layout s m match from_array as_it_is true reads_things → AreGoodArguments g.declared forms most bounds true ps args → Follows Few (AreGivenAs layout s.scene bounds ps) (all_given s.scene args) (things m.setting (actuals_of g.naming forms ps args))
  things_follow one h = follows_weaken Few (λ gs ts. AreGivenAs layout s.scene bounds ps gs (map as_it_is ts)) (AreGivenAs layout s.scene bounds ps) _ _ (all_follow Few g forms most root layout s m match from_array as_it_is true reads_things one bounds ps args h) (λ gs ts k. subst (AreGivenAs layout s.scene bounds ps gs) (mapped_same ts) k)

  pub cells_follow : OneFollows Few g forms most root layout s m match from_elements as_cells false reads_cells → AreGoodArguments g.declared forms most bounds false ps args → Follows Few (AreGivenAs layout s.scene bounds ps) (all_given s.scene args) (things_of_cells m.setting (actuals_of g.naming forms ps args))
  cells_follow one h = relabelled (all_given s.scene args) (things_by from_elements m.setting (actuals_of g.naming forms ps args)) (all_follow Few g forms most root layout s m match from_elements as_cells false reads_cells one bounds ps args h)
    where
      relabelled : (o : Option (List Given)) (p : Outcome (List Thing)) → Follows Few (λ gs ts. AreGivenAs layout s.scene bounds ps gs (map as_cells ts)) o p → Follows Few (AreGivenAs layout s.scene bounds ps) o (after p (λ ts. Done (map as_cells ts)))
      relabelled None p k = tt
      relabelled (Some gs) (Done ts) k = k
      relabelled (Some gs) Fault k = k
      relabelled (Some gs) NoStore k = k
