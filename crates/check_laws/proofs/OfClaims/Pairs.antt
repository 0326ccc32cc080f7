-- Where the claims of its pairs hold, the windows of a call are apart.
use Rattle.std.proofs.Common.{◌≡◌, ℕ, suc, ◌+◌, ◌==◌, Bool, true, false, not, ◌&&◌, ◌||◌, if◌then◌else◌, List, [], ◌∷◌, Option, Some, None, option_map, arith, refl, sym, ap, ap₂, ◌∙◌, subst}
use Rattle.std.specs.Prelude.{slice_get}
use Rattle.exo_tree.specs.Tree.{Cell, Kind, Argument, ControlArg, ConditionArg, Whole, Window, Param, ParamKind, ControlParam, TensorParam, WindowParam}
use Rattle.exo_meaning.specs.Scene.{Side, Seen, Scene, then_do, narrowed, window, all_meet}
use Rattle.exo_meaning.specs.Calls.{Given, GivenNumber, GivenView, given, all_given, given_apart, apart_from, all_apart, given_at, are_apart_at}
use Rattle.exo_meaning.specs.Orders.{Each}
use Rattle.exo_meaning.specs.Units.{Sort, Scope, sort_in, has_cell, is_for, are_for}
use Rattle.affine_places.specs.Roots.{Roots}
use Rattle.check_claims.specs.Claim.{Claim, Apart}
use Rattle.check_claims.specs.Claims.{passed_root, share_root, must_be_apart, pairs_with, pair_claims}
use Rattle.check_laws.proofs.OfFacts.Standing.{has_sort}
use Rattle.check_laws.proofs.OfClaims.Basics.{and_parts, and_true, or_left, or_right, no_test, by_test, then_gives, map_gives, each_left, each_right}
use Rattle.check_laws.proofs.OfClaims.Seen.{IsKeptApart}
use Rattle.check_laws.proofs.OfClaims.Rooted.{SeesRoots}

number_view : {n : _} {z : Seen} → Some (GivenNumber n) ≡ Some (GivenView z) → ⊥
number_view e = cc

same_view : (y z : Seen) → GivenView y ≡ GivenView z → y ≡ z
same_view y z e = cc

cell_named : (cell : Cell) (o : Option Sort) → has_cell cell o ≡ true → has_sort o ≡ true
cell_named cell None h = no_test h
cell_named cell (Some sort) h = refl

from_zero : (i : ℕ) → i ≡ 0 + i
from_zero i = omega arith

behind : (k i : ℕ) → k + suc i ≡ suc k + i
behind k i = omega arith

at_itself : (k : ℕ) → k + 0 ≡ k
at_itself k = omega arith

module _ (fields : ℕ → Option Kind) (table : Roots) (scope : Scope) (scene : Scene) (sees : SeesRoots table scope scene) where
  -- ---- what is given is a part of the root

  whole_named : (kind : ParamKind) (x : ℕ) → is_for fields scope kind (Whole x) ≡ true → has_sort (sort_in scope x) ≡ true
  whole_named (ControlParam kind) x h = no_test h
  whole_named (TensorParam cell dims memory) x h = cell_named cell (sort_in scope x) (and_parts (has_cell cell (sort_in scope x)) _ h).0
  whole_named (WindowParam cell dims memory) x h = cell_named cell (sort_in scope x) (and_parts (has_cell cell (sort_in scope x)) _ h).0

  window_named : (kind : ParamKind) (x : ℕ) (cs : List _) → is_for fields scope kind (Window x cs) ≡ true → has_sort (sort_in scope x) ≡ true
  window_named (ControlParam kind) x cs h = no_test h
  window_named (TensorParam cell dims memory) x cs h = cell_named cell (sort_in scope x) (and_parts (has_cell cell (sort_in scope x)) _ h).0
  window_named (WindowParam cell dims memory) x cs h = cell_named cell (sort_in scope x) (and_parts (has_cell cell (sort_in scope x)) _ h).0

  given_root : (kind : ParamKind) (a : Argument) (z : Seen) → is_for fields scope kind a ≡ true → given scene a ≡ Some (GivenView z) → passed_root table a ≡ Some z.buffer
  given_root kind (ControlArg e) z h g = absurd (number_view g)
  given_root kind (ConditionArg c) z h g = absurd (number_view g)
  given_root kind (Whole x) z h g =
      let v = map_gives (scene.views x) GivenView (GivenView z) g in
      sees x v.0 (whole_named kind x h) v.1 ∙ ap (λ (y : Seen). Some y.buffer) (same_view v.0 z v.2)
  given_root kind (Window x cs) z h g =
      let part : Seen → List Side → Seen = λ seen sides. record { buffer = seen.buffer; sides = sides } in
      let w = map_gives (window scene x cs) GivenView (GivenView z) g in
      let v = then_gives (scene.views x) (λ seen. option_map (part seen) (narrowed scene seen.sides cs)) w.0 w.1 in
      let n = map_gives (narrowed scene v.0.sides cs) (part v.0) w.0 v.2 in
      sees x v.0 (window_named kind x cs h) v.1
      ∙ ap (λ (y : Seen). Some y.buffer) (n.2 ∙ same_view w.0 z w.2)

  module _ (args : List Argument) (claimed writes : ℕ → Bool) (are : (x : ℕ) → writes x ≡ claimed x) where
    abbrev Kept : List Claim → Type 0
    Kept cs = Each (IsKeptApart scene args) cs

    -- the argument of a number, with what it gives
    pub record Stands (k : ℕ) (p : Param) (a : Argument) (g : Given) : Type 0 where
      pub argument_is : slice_get args k ≡ Some a
      pub given_is : given scene a ≡ Some g
      pub fits : is_for fields scope p.kind a ≡ true

    -- ---- one pair

    module _ (j k : ℕ) (p q : Param) (a b : Argument) (g h : Given) (first : Stands j p a g) (second : Stands k q b h) where
      abbrev same_root : Bool
      same_root = share_root table claimed a b

      -- parts of different buffers
      others_apart : (g h : Given) → given scene a ≡ Some g → given scene b ≡ Some h → same_root ≡ false → given_apart g h ≡ true
      others_apart (GivenNumber n) h e f other = refl
      others_apart (GivenView z) (GivenNumber n) e f other = refl
      others_apart (GivenView z) (GivenView y) e f other =
          let differ : (z.buffer == y.buffer) ≡ false =
          sym (ap₂ (λ (o u : Option ℕ). elim o [ None ↦ false | Some x ↦ elim u [ None ↦ false | Some y ↦ x == y ] ])
          (given_root p.kind a z first.fits e) (given_root q.kind b y second.fits f)) ∙ other in
          ap (λ t. not (t && all_meet z.sides y.sides)) differ

      claimed_apart : are_apart_at scene args j k ≡ true → given_apart g h ≡ true
      claimed_apart m =
          let at : (i : ℕ) (r : Param) (c : Argument) (f : Given) → Stands i r c f → given_at scene args i ≡ Some f =
          λ i r c f s. ap (λ o. then_do o (given scene)) s.argument_is ∙ s.given_is in
          sym (ap₂ (λ (o u : Option Given). elim o [ None ↦ true | Some g ↦ elim u [ None ↦ true | Some h ↦ given_apart g h ] ])
          (at j p a g first) (at k q b h second)) ∙ m

      one_apart : Kept (if must_be_apart table claimed p a q b then Apart j k ∷ [] else [])
          → (not (writes p.binder.id || writes q.binder.id) || given_apart g h) ≡ true
      one_apart m =
          let touched = claimed p.binder.id || claimed q.binder.id in
          let none = not (writes p.binder.id || writes q.binder.id) in
          by_test (same_root && touched)
          (λ e. or_right none (given_apart g h) (claimed_apart (subst (λ t. Kept (if t then Apart j k ∷ [] else [])) e m).0))
          (λ e. by_test same_root
          (λ r. or_left none (given_apart g h)
          (ap (λ t. not t) (ap₂ ◌||◌ (are p.binder.id) (are q.binder.id) ∙ sym (ap (λ t. t && touched) r) ∙ e)))
          (λ r. or_right none (given_apart g h) (others_apart g h first.given_is second.given_is r)))

    -- ---- all pairs

    abbrev AreStanding : ℕ → List Param → List Argument → List Given → Type 0
    AreStanding k [] rest gs = Unit {0}
    AreStanding k (p ∷ ps) [] gs = ⊥
    AreStanding k (p ∷ ps) (a ∷ rest) [] = ⊥
    AreStanding k (p ∷ ps) (a ∷ rest) (g ∷ gs) = Stands k p a g × AreStanding (suc k) ps rest gs

    one_from : (j : ℕ) (p : Param) (a : Argument) (g : Given) → Stands j p a g → (k : ℕ) (qs : List Param) (rest : List Argument) (hs : List Given)
        → AreStanding k qs rest hs → Kept (pairs_with table claimed j p a k qs rest) → apart_from writes p.binder.id g qs hs ≡ true
    one_from j p a g s k [] rest hs all m = refl
    one_from j p a g s k (q ∷ qs) [] hs all m = absurd all
    one_from j p a g s k (q ∷ qs) (b ∷ rest) [] all m = absurd all
    one_from j p a g s k (q ∷ qs) (b ∷ rest) (h ∷ hs) all m =
        let here = if must_be_apart table claimed p a q b then Apart j k ∷ [] else [] in
        let later = pairs_with table claimed j p a (suc k) qs rest in
        and_true (not (writes p.binder.id || writes q.binder.id) || given_apart g h) (apart_from writes p.binder.id g qs hs)
        (one_apart j k p q a b g h s all.0 (each_left (IsKeptApart scene args) here later m))
        (one_from j p a g s (suc k) qs rest hs all.1 (each_right (IsKeptApart scene args) here later m))

    all_from : (k : ℕ) (ps : List Param) (rest : List Argument) (gs : List Given)
        → AreStanding k ps rest gs → Kept (pair_claims table claimed k ps rest) → all_apart writes ps gs ≡ true
    all_from k [] rest gs all m = refl
    all_from k (p ∷ ps) [] gs all m = absurd all
    all_from k (p ∷ ps) (a ∷ rest) [] all m = absurd all
    all_from k (p ∷ ps) (a ∷ rest) (g ∷ gs) all m =
        let here = pairs_with table claimed k p a (suc k) ps rest in
        let later = pair_claims table claimed (suc k) ps rest in
        and_true (apart_from writes p.binder.id g ps gs) (all_apart writes ps gs)
        (one_from k p a g all.0 (suc k) ps rest gs all.1 (each_left (IsKeptApart scene args) here later m))
        (all_from (suc k) ps rest gs all.1 (each_right (IsKeptApart scene args) here later m))

    standing : (k : ℕ) (ps : List Param) (rest : List Argument) (gs : List Given) → are_for fields scope ps rest ≡ true
        → ((i : ℕ) → slice_get rest i ≡ slice_get args (k + i)) → all_given scene rest ≡ Some gs → AreStanding k ps rest gs
    standing k [] rest gs f same e = tt
    standing k (p ∷ ps) [] gs f same e = no_test f
    standing k (p ∷ ps) (a ∷ rest) gs f same e =
        let t = then_gives (given scene a) (λ g. option_map (λ hs. g ∷ hs) (all_given scene rest)) gs e in
        let m = map_gives (all_given scene rest) (λ hs. t.0 ∷ hs) gs t.2 in
        let q = and_parts (is_for fields scope p.kind a) (are_for fields scope ps rest) f in
        subst (AreStanding k (p ∷ ps) (a ∷ rest)) m.2 (
          record { argument_is = sym (same 0 ∙ ap (slice_get args) (at_itself k)); given_is = t.1; fits = q.0 },
          standing (suc k) ps rest m.0 q.1 (λ i. same (suc i) ∙ ap (slice_get args) (behind k i)) m.1,
        )

    pub pairs_suffice : (ps : List Param) (gs : List Given) → are_for fields scope ps args ≡ true → all_given scene args ≡ Some gs
        → Kept (pair_claims table claimed 0 ps args) → all_apart writes ps gs ≡ true
    pairs_suffice ps gs f e m = all_from 0 ps args gs (standing 0 ps args gs f (λ i. ap (slice_get args) (from_zero i)) e) m
