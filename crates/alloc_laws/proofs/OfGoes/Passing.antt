-- From tests on the trees of a step to what a staged block has to know of them.
use Rattle.std.proofs.Common.{◌≡◌, ◌==◌, ◌+◌, ◌||◌, nat_lt, ℕ, suc, Bool, true, false, true≢false}
use Rattle.std.proofs.Common.{List, [], ◌∷◌, length, arith, refl, sym, ap, ap₂, ◌∙◌}
use Rattle.exo_tree.specs.Tree.{Control, Coord, Statement, Assign, Reduce, Config, Pass, If, For}
use Rattle.exo_tree.specs.Tree.{Alloc, View, Call, Block, end, next}
use Rattle.exo_meaning.specs.Scene.{numbers}
use Rattle.exo_meaning.specs.Run.{writes, unit_world}
use Rattle.meaning_laws.specs.Scoped.{has_binder, step_has_binder}
use Rattle.inplace_laws.specs.Filled.{Loop}
use Rattle.inplace_laws.specs.Windows.{coords_have}
use Rattle.buffer_laws.specs.Staging.Stores.{is_variable, AreDistinct, spans}
use Rattle.buffer_laws.specs.Staging.Inside.{extents_of}
use Rattle.buffer_laws.specs.Staging.Known.{AreOver}
use Rattle.buffer_laws.specs.Staging.Converted.{converted, converted_statement}
use Rattle.buffer_laws.proofs.OfStaging.ReadsOn.{reads_on_law}
use Rattle.buffer_laws.specs.Simplified.{IsSimplifier, all_simpler}
use Rattle.buffer_laws.specs.StageMem.{sizes, loads, stores, loops_over}
use Rattle.buffer_laws.proofs.Simplified.{numbers_same}
use Rattle.buffer_laws.specs.Stride.Passed.{ArePassed}
use Rattle.buffer_laws.proofs.OfStride.NamesOn.{names_on_law}
use Rattle.buffer_laws.proofs.OfStride.StridesOn.{strides_on_law}
use Rattle.alloc_laws.specs.Goes.Passing.{PassedByTests, SilentByModes}
use Rattle.place_laws.proofs.OfOrder.Written.{unit_block_is}

-- ---- numbers

other_side : (m n : ℕ) → (m == n) ≡ false → (n == m) ≡ false
other_side m n h = grind arith

is_less : (y n : ℕ) → nat_lt y n ≡ true → (y == n) ≡ false
is_less y n h = grind arith

less_still : (y n : ℕ) → nat_lt y n ≡ true → nat_lt y (suc n) ≡ true
less_still y n h = grind arith

less_far : (y n k : ℕ) → nat_lt y n ≡ true → nat_lt y (suc (n + k)) ≡ true
less_far y n k h = grind arith

less_next : (n : ℕ) → nat_lt n (suc n) ≡ true
less_next n = grind arith

neither : (a b : Bool) → a ≡ false → b ≡ false → (a || b) ≡ false
neither true b h k = absurd (true≢false h)
neither false b h k = k

-- ---- the loops that are made

not_later : (y id k : ℕ) (es : List Control) → nat_lt y id ≡ true
    → is_variable y (loops_over id k es) ≡ false
not_later y id k [] h = refl
not_later y id k (e ∷ es) h =
    neither (y == id) (is_variable y (loops_over (suc id) (suc k) es)) (is_less y id h)
    (not_later y (suc id) (suc k) es (less_still y id h))

are_distinct : (id k : ℕ) (es : List Control) → AreDistinct (loops_over id k es)
are_distinct id k [] = tt
are_distinct id k (e ∷ es) =
    (not_later id (suc id) (suc k) es (less_next id), are_distinct (suc id) (suc k) es)

extents_are : (id k : ℕ) (es : List Control) → extents_of (loops_over id k es) ≡ es
extents_are id k [] = refl
extents_are id k (e ∷ es) = ap (λ l. e ∷ l) (extents_are (suc id) (suc k) es)

loops_are_over : (simple : Control → Control) (is : IsSimplifier simple) (coords : List Coord)
    (id : ℕ) → ((y : ℕ) → coords_have coords y ≡ true → nat_lt y id ≡ true)
    → AreOver (loops_over id 0 (all_simpler simple (spans coords))) coords
loops_are_over simple is coords id below =
    let es = all_simpler simple (spans coords) in
    record {
      distinct = are_distinct id 0 es;
      apart = λ y h. not_later y id 0 es (below y h);
      equal = λ scene. ap (numbers scene) (extents_are id 0 es)
          ∙ sym (numbers_same simple (λ y. true) is scene (spans coords));
    }

-- ---- binders

module _ (a x : ℕ) (coords : List Coord) where
  mutual
    pub same_binders : (b : Block) (y : ℕ) → has_binder (converted a x coords b) y ≡ has_binder b y
    same_binders end y = refl
    same_binders (next d b) y = ap₂ ◌||◌ (step_same_binders d y) (same_binders b y)

    step_same_binders : (d : Statement) (y : ℕ)
        → step_has_binder (converted_statement a x coords d) y ≡ step_has_binder d y
    step_same_binders (Assign z is e) y = refl
    step_same_binders (Reduce z is e) y = refl
    step_same_binders (Config f g) y = refl
    step_same_binders Pass y = refl
    step_same_binders (If c b d) y = ap₂ ◌||◌ (same_binders b y) (same_binders d y)
    step_same_binders (For i lo hi b) y = ap (λ t. (y == i.id) || t) (same_binders b y)
    step_same_binders (Alloc z cell dims memory) y = refl
    step_same_binders (View v z ds) y = refl
    step_same_binders (Call k gs) y = refl

-- ---- all of it

pub passed_by_tests : PassedByTests
passed_by_tests called sees root simple w cell memory base b is may =
    let over : (id : ℕ) → ((y : ℕ) → coords_have w.coords y ≡ true → nat_lt y id ≡ true)
    → AreOver (loops_over id 0 (all_simpler simple (spans w.coords))) w.coords =
    λ id h. loops_are_over simple is w.coords id h in
    let first = over (suc base) (λ y h. less_still y base (may.below y h)) in
    let second = over (suc (base + length (sizes simple w cell memory base)))
    (λ y h. less_far y base (length (sizes simple w cell memory base)) (may.below y h)) in (
      made (stores simple w cell memory base) first second,
      made (loads simple w cell memory base) first first,
    )
  where
    made : (ks : List Loop) → AreOver (loads simple w cell memory base) w.coords
        → AreOver ks w.coords
        → ArePassed called sees root (record { id = base; name = w.name })
        (sizes simple w cell memory base) w.root w.coords (loads simple w cell memory base) ks b
    made ks first second = record {
      new = record { block = may.block; spots = may.spots };
      other = may.other;
      plain = may.plain;
      sizes = λ scene. sym (numbers_same simple (λ y. true) is scene (spans w.coords));
      loads = first;
      stores = second;
      names = names_on_law root base w.root w.coords b may.block
          (other_side base (root w.root) (may.roots w.root may.other)) may.bound may.points may.left
          may.aliased;
      strides = strides_on_law called sees root base w.root w.coords b may.block may.name may.roots
          may.plain may.strides;
      own = same_binders base w.root w.coords b base ∙ may.own;
      name = same_binders base w.root w.coords b w.root ∙ may.name;
      root_name = same_binders base w.root w.coords b (root w.root) ∙ may.root_name;
      variables = λ y h. same_binders base w.root w.coords b y ∙ may.variables y h;
    }

-- ---- what is not written

pub silent_by_modes : SilentByModes
silent_by_modes kinds ps root base x coords b new bound roots none =
    let world = unit_world kinds ps in
    let quiet = go (writes world root b (root x)) refl in
    (quiet, reads_on_law world root base x coords b new bound roots quiet)
  where
    go : (t : Bool) → writes (unit_world kinds ps) root b (root x) ≡ t → t ≡ false
    go false e = refl
    go true e = absurd (true≢false (sym (unit_block_is kinds ps b root (root x) e) ∙ none))
