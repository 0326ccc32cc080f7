-- What is known at a place.
use Rattle.std.proofs.Common.{◌≡◌, ◌≤ℤ◌, ◌<ℤ◌, ℕ, zero, suc, ℤ, pos, negsuc, ◌+ℤ◌, ◌-ℤ◌, ◌==◌, int_lt, int_le, Bool, true, false, cond, ◌&&◌, ◌||◌, List, [], ◌∷◌, Option, refl, sym, ap, ap₂, ◌∙◌, true≢false, eqb-true, eq-eqb, arith}
use Rattle.std.proofs.lemmas.Int.{ints}
use Rattle.std.specs.Ordering.{int_eq}
use Rattle.exo_tree.specs.Tree.{Control, Var, Condition, True, False, Flag, FieldFlag, Lt, Le, Gt, Ge, Eq, And, Or, Block}
use Rattle.exo_meaning.specs.Scene.{is_set, Scene, number, holds}
use Rattle.exo_meaning.specs.State.{State, on_scene, with_control}
use Rattle.exo_meaning.specs.Run.{World, run, turn, turns_of, range, count}
use Rattle.exo_meaning.specs.Orders.{Each}
use Rattle.exo_meaning.proofs.Frame.{updated_other}
use Rattle.exo_tree.specs.Context.{Context, Here, After, InLoop, InThen, InElse, fill}
use Rattle.meaning_laws.specs.Context.{ComesTo, ComesToTurn, now, later}
use Rattle.meaning_laws.specs.Substitute.{is_plain, has_variable}
use Rattle.meaning_laws.specs.Facts.{Fact, Holds, Fails, IsTrueAt, with_fact, facts, is_plain_condition, condition_has, AreSteady, FactsLaw, SteadyLaw}
use Rattle.meaning_laws.proofs.Substitute.{plain_same, and_parts}
use Rattle.meaning_laws.proofs.Names.{come_names, come_to_turn_names}

pub or_left : (a b : Bool) → a ≡ true → (a || b) ≡ true
or_left a b k = ap (λ z. z || b) k

pub or_right : (a b : Bool) → b ≡ true → (a || b) ≡ true
or_right true b k = refl
or_right false b k = k

-- a plain condition depends on its variables alone
module _ (s t : Scene) where
  abbrev Same : (ℕ → Bool) → Type 0
  Same has = (x : ℕ) → has x ≡ true → s.control x ≡ t.control x

  sides_same : {A : Type 0} (f : ℤ → ℤ → A) (a b : Control) → (is_plain a && is_plain b) ≡ true → Same (λ x. has_variable a x || has_variable b x) → f (number s a) (number s b) ≡ f (number t a) (number t b)
  sides_same f a b p h =
      let q = and_parts (is_plain a) (is_plain b) p in
      ap₂ f (plain_same a s t q.0 (λ x k. h x (or_left (has_variable a x) (has_variable b x) k))) (plain_same b s t q.1 (λ x k. h x (or_right (has_variable a x) (has_variable b x) k)))

  pub condition_same : (c : Condition) → is_plain_condition c ≡ true → Same (condition_has c) → holds s c ≡ holds t c
  condition_same True p h = refl
  condition_same False p h = refl
  condition_same (Flag x) p h = ap is_set (h x (eq-eqb x x refl))
  condition_same (FieldFlag f) p h = absurd (true≢false (sym p))
  condition_same (Lt a b) p h = sides_same int_lt a b p h
  condition_same (Le a b) p h = sides_same int_le a b p h
  condition_same (Gt a b) p h = sides_same (λ m n. int_lt n m) a b p h
  condition_same (Ge a b) p h = sides_same (λ m n. int_le n m) a b p h
  condition_same (Eq a b) p h = sides_same int_eq a b p h
  condition_same (And c d) p h = let q = and_parts (is_plain_condition c) (is_plain_condition d) p in ap₂ ◌&&◌ (condition_same c q.0 (λ x k. h x (or_left (condition_has c x) (condition_has d x) k))) (condition_same d q.1 (λ x k. h x (or_right (condition_has c x) (condition_has d x) k)))
  condition_same (Or c d) p h = let q = and_parts (is_plain_condition c) (is_plain_condition d) p in ap₂ ◌||◌ (condition_same c q.0 (λ x k. h x (or_left (condition_has c x) (condition_has d x) k))) (condition_same d q.1 (λ x k. h x (or_right (condition_has c x) (condition_has d x) k)))

pub steady_law : SteadyLaw
steady_law world old c s u t plain steady come = sym (condition_same s.scene u.scene t plain (λ x k. (come_names world old c s u come x (steady x k)).control))

-- ---- loops

abbrev pub Between : ℤ → ℤ → ℤ → Type 0
Between lo hi n = (lo ≤ℤ n) × (n <ℤ hi)

pub come_to_turn_each : (P : ℤ → Type 0) (go : ℤ → State → Option State) (ns : List ℤ) (s : State) (n : ℤ) (u : State) → ComesToTurn go ns s n u → Each P ns → P n
come_to_turn_each P go [] s n u z = elim z [ ]
come_to_turn_each P go (m ∷ ns) s n u now = λ h. h.0
come_to_turn_each P go (m ∷ ns) s n u (later {t} e z) = λ h. come_to_turn_each P go ns t n u z h.1

range_between : (lo hi : ℤ) (k : ℕ) → (lo +ℤ pos k) ≤ℤ hi → Each (Between lo hi) (range lo k)
range_between lo hi k h = go lo k (let e : lo ≤ℤ lo = omega (arith, ints) in e) h
  where
    go : (m : ℤ) (k : ℕ) → lo ≤ℤ m → (m +ℤ pos k) ≤ℤ hi → Each (Between lo hi) (range m k)
    go m zero l r = tt
    go m (suc k) l r = ((l, let e : m <ℤ hi = omega (arith, ints) in e), go (m +ℤ pos 1) k (let e : lo ≤ℤ (m +ℤ pos 1) = omega (arith, ints) in e) (let e : ((m +ℤ pos 1) +ℤ pos k) ≤ℤ hi = omega (arith, ints) in e))

pub turns_between : (lo hi : ℤ) → Each (Between lo hi) (range lo (count (hi -ℤ lo)))
turns_between lo hi = go (hi -ℤ lo) refl
  where
    go : (d : ℤ) → hi -ℤ lo ≡ d → Each (Between lo hi) (range lo (count d))
    go (pos k) e = range_between lo hi k (let l : (lo +ℤ pos k) ≤ℤ hi = omega (arith, ints) in l)
    go (negsuc k) e = tt

pub le_holds : (a b : ℤ) → a ≤ℤ b → int_le a b ≡ true
le_holds a b h = grind (arith, ints)

pub lt_holds : (a b : ℤ) → a <ℤ b → int_lt a b ≡ true
lt_holds a b h = grind (arith, ints)

module _ (i : ℕ) (n : ℤ) (s v : State) (names : (x : ℕ) → s.scene.control x ≡ v.scene.control x) where
  abbrev inside : State
  inside = on_scene (with_control i n) v

  bound_is : inside.scene.control i ≡ n
  bound_is = ap (λ t. cond t n (v.scene.control i)) (eq-eqb i i refl)

  outer_is : (a : Control) → is_plain a ≡ true → has_variable a i ≡ false → number inside.scene a ≡ number s.scene a
  outer_is a p k = sym (plain_same a s.scene inside.scene p (λ x h. names x ∙ sym (updated_other v.scene.control i n x (apart x (x == i) refl h))))
    where
      apart : (x : ℕ) (t : Bool) → (x == i) ≡ t → has_variable a x ≡ true → (x == i) ≡ false
      apart x true q h = absurd (true≢false (sym h ∙ ap (has_variable a) (eqb-true x i q) ∙ k))
      apart x false q h = q

-- ---- all facts

pub with_true : (scene : Scene) (t : Bool) (fact : Fact) (rest : List Fact) → (t ≡ true → IsTrueAt scene fact) → Each (IsTrueAt scene) rest → Each (IsTrueAt scene) (with_fact t fact rest)
with_true scene true fact rest h k = (h refl, k)
with_true scene false fact rest h k = k

and_true : {a : Bool} → a ≡ true → (a && true) ≡ true
and_true {a} h = ap (λ z. z && true) h

module _ (world : World) (old : Block) where
  pub facts_hold : (c : Context) (s u : State) → AreSteady c → ComesTo world old c s u → Each (IsTrueAt u.scene) (facts c)
  facts_hold (Here rest) s u k z = tt
  facts_hold (After a c) s u k z = facts_hold c z.0 u k z.2
  facts_hold (InLoop i lo hi c rest) s u k z =
      let v = on_scene (with_control i.id z.0) z.1 in
      let names = come_to_turn_names i.id (run world (fill c old)) (turns_of s.scene lo hi) s z.0 z.1 z.2 in
      let between = come_to_turn_each (Between (number s.scene lo) (number s.scene hi)) (turn i.id (run world (fill c old))) (turns_of s.scene lo hi) s z.0 z.1 z.2 (turns_between (number s.scene lo) (number s.scene hi)) in
      let control : (x : ℕ) → s.scene.control x ≡ z.1.scene.control x = λ x. (names x).control in
      let low : holds v.scene (Le lo (Var i.id)) ≡ true = ap₂ int_le (outer_is i.id z.0 s z.1 control lo k.0 k.2) (bound_is i.id z.0 s z.1 control) ∙ le_holds (number s.scene lo) z.0 between.0 in
      let high : holds v.scene (Lt (Var i.id) hi) ≡ true = ap₂ int_lt (bound_is i.id z.0 s z.1 control) (outer_is i.id z.0 s z.1 control hi k.1 k.3) ∙ lt_holds z.0 (number s.scene hi) between.1 in
      (steady_law world old c v u (Le lo (Var i.id)) (and_true k.0) k.4 z.3 ∙ low, (steady_law world old c v u (Lt (Var i.id) hi) k.1 k.5 z.3 ∙ high, facts_hold c v u k.6 z.3))
  facts_hold (InThen test c other rest) s u k z = with_true u.scene (is_plain_condition test) (Holds test) (facts c) (λ p. steady_law world old c s u test p k.0 z.1 ∙ z.0) (facts_hold c s u k.1 z.1)
  facts_hold (InElse test other c rest) s u k z = with_true u.scene (is_plain_condition test) (Fails test) (facts c) (λ p. steady_law world old c s u test p k.0 z.1 ∙ z.0) (facts_hold c s u k.1 z.1)

pub facts_law : FactsLaw
facts_law world old c s u k z = facts_hold world old c s u k z
