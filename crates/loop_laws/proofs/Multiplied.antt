-- The turns of a loop over a loop are turns of one loop, with a quotient and a remainder for the
-- variables.
use Rattle.std.proofs.Common.{◌≡◌, ◌<◌, ◌≤◌, ℕ, zero, suc, ◌+◌, ◌*◌, ℤ, pos, negsuc, ◌+ℤ◌}
use Rattle.std.proofs.Common.{◌*ℤ◌, ◌==◌, ◌||◌, Bool, true, false, true≢false, cond, List, [], ◌∷◌}
use Rattle.std.proofs.Common.{Option, None, IfSome, option_map, refl, sym, ap, ap₂, ◌∙◌, subst}
use Rattle.std.proofs.Common.{arith, eq-eqb, eqb-true, IsSome}
use Rattle.std.specs.Prelude.{◌-ℤ◌, neg_ℤ}
use Rattle.std.specs.Int.{int_div_euclid, int_rem_euclid}
use Rattle.std.proofs.Math.IntN.{pos-*ℤ-pos, negsuc-*ℤ-pos}
use Rattle.std.proofs.Math.Nat.{mul_comm}
use Rattle.std.proofs.lemmas.Int.{ints}
use Rattle.std.proofs.lemmas.Nat.{div-mul-add, mod-mul-add}
use Rattle.exo_tree.specs.Tree.{Binder, Control, Lit, Var, Mul, Div, Mod, Condition, True, False, Flag}
use Rattle.exo_tree.specs.Tree.{FieldFlag, Lt, Le, Gt, Ge, Eq, And, Or, Argument, ControlArg}
use Rattle.exo_tree.specs.Tree.{ConditionArg, Whole, Window, Statement, Assign, Reduce, Config, Pass}
use Rattle.exo_tree.specs.Tree.{If, For, Alloc, View, Call, Block, end, next}
use Rattle.exo_tree.specs.Substitution.{in_condition, in_argument, in_arguments, in_statement, in_block}
use Rattle.exo_meaning.specs.Scene.{Seen, number, then_do}
use Rattle.exo_meaning.specs.State.{State, left}
use Rattle.exo_meaning.specs.Run.{World, run, turn, turns, turns_of, range, count}
use Rattle.exo_meaning.specs.Unseen.{SameBut, in_block as mentions}
use Rattle.exo_meaning.proofs.Frame.{updated_other}
use Rattle.exo_meaning.proofs.Ignored.{run_alike}
use Rattle.exo_meaning.proofs.Nested.{pulled, then_cong_if, then_some}
use Rattle.meaning_laws.specs.Sound.{IsSound, IsUnbound}
use Rattle.meaning_laws.specs.Substitute.{bound, has_variable, has_flag, argument_has_flag, arguments_have_flag}
use Rattle.meaning_laws.specs.Substitute.{catches, step_catches}
use Rattle.meaning_laws.proofs.Copies.{unbound_on}
use Rattle.place_laws.specs.Scope.UnrollLoop.{only_loop}
use Rattle.place_laws.specs.Scope.Unrolled.{HasNamesOf}
use Rattle.place_laws.proofs.OfScope.Scopes.{left_same_but}
use Rattle.loop_laws.specs.Turns.{Turn, group}
use Rattle.loop_laws.specs.SameTurns.{MayStandIn, at_turn}
use Rattle.loop_laws.proofs.SameTurns.{own_names, if_left, left_twice, substituted}
use Rattle.loop_laws.proofs.Turns.{grouped_turns}

-- ---- what is caught stays so

-- an expression for a variable brings no truth value
module _ (i : ℕ) (e : Control) (j : ℕ) (f : Control) where
  flags_stay : (c : Condition) → has_flag j (in_condition i e c) ≡ has_flag j c
  flags_stay True = refl
  flags_stay False = refl
  flags_stay (Flag x) = refl
  flags_stay (FieldFlag g) = refl
  flags_stay (Lt a b) = refl
  flags_stay (Le a b) = refl
  flags_stay (Gt a b) = refl
  flags_stay (Ge a b) = refl
  flags_stay (Eq a b) = refl
  flags_stay (And c d) = ap₂ ◌||◌ (flags_stay c) (flags_stay d)
  flags_stay (Or c d) = ap₂ ◌||◌ (flags_stay c) (flags_stay d)

  argument_stays : (a : Argument) → argument_has_flag j (in_argument i e a) ≡ argument_has_flag j a
  argument_stays (ControlArg a) = refl
  argument_stays (ConditionArg c) = flags_stay c
  argument_stays (Whole x) = refl
  argument_stays (Window x cs) = refl

  arguments_stay : (args : List Argument)
      → arguments_have_flag j (in_arguments i e args) ≡ arguments_have_flag j args
  arguments_stay [] = refl
  arguments_stay (a ∷ rest) = ap₂ ◌||◌ (argument_stays a) (arguments_stay rest)

  mutual
    pub catches_stay : (b : Block) → catches j f (in_block i e b) ≡ catches j f b
    catches_stay end = refl
    catches_stay (next a b) = ap₂ ◌||◌ (step_stays a) (catches_stay b)

    step_stays : (a : Statement) → step_catches j f (in_statement i e a) ≡ step_catches j f a
    step_stays (Assign x is d) = refl
    step_stays (Reduce x is d) = refl
    step_stays (Config g a) = argument_stays a
    step_stays Pass = refl
    step_stays (If c a b) =
        ap₂ ◌||◌ (flags_stay c) (ap₂ ◌||◌ (catches_stay a) (catches_stay b))
    step_stays (For x lo hi b) =
        ap (λ t. (x.id == j) || (has_variable f x.id || t)) (catches_stay b)
    step_stays (Alloc x cell dims memory) = refl
    step_stays (View w x cs) = refl
    step_stays (Call k args) = arguments_stay args

-- ---- turns of few numbers

-- turns from a number on that do the same below a limit
alike_below : (Good : State → Type 0) (f g : Turn) (c : ℕ)
    → ((m : ℕ) → m < c → (t : State) → Good t → f (pos m) t ≡ g (pos m) t)
    → ((m : ℤ) (t : State) → Good t → IfSome (f m t) Good)
    → (a k : ℕ) → a + k ≤ c → (s : State) → Good s
    → turns f (range (pos a) k) s ≡ turns g (range (pos a) k) s
alike_below Good f g c same keep a zero less s h = refl
alike_below Good f g c same keep a (suc k) less s h =
    let on : pos a +ℤ pos 1 ≡ pos (suc a) = omega (arith, ints) in
    then_cong_if Good (f (pos a) s) (turns f (range (pos a +ℤ pos 1) k))
    (turns g (range (pos a +ℤ pos 1) k)) (keep (pos a) s h)
    (λ t j.
    ap (λ z. turns f (range z k) t) on
    ∙ alike_below Good f g c same keep (suc a) k (omega (arith, less)) t j
    ∙ ap (λ z. turns g (range z k) t) (sym on))
    ∙ ap (λ o. then_do o (turns g (range (pos a +ℤ pos 1) k)))
    (same a (omega (arith, less)) s h)

-- ---- numbers

turn_number : (c n m : ℕ) → (pos c *ℤ pos n) +ℤ pos m ≡ pos (n * c + m)
turn_number c n m =
    ap (λ z. z +ℤ pos m) (pos-*ℤ-pos c n ∙ ap pos (mul_comm c n)) ∙ sum (n * c)
  where
    sum : (k : ℕ) → pos k +ℤ pos m ≡ pos (k + m)
    sum k = omega (arith, ints)

-- all turns of both loops
count_times : (z : ℤ) (c : ℕ) → count z * suc c ≡ count ((z *ℤ pos (suc c)) -ℤ pos 0)
count_times (pos n) c =
    sym (ap count (less_zero (pos n *ℤ pos (suc c)) ∙ pos-*ℤ-pos n (suc c)))
  where
    less_zero : (z : ℤ) → z -ℤ pos 0 ≡ z
    less_zero z = omega (arith, ints)
count_times (negsuc n) c =
    nothing (suc c)
    ∙ sym (ap count (less_zero (negsuc n *ℤ pos (suc c)) ∙ negsuc-*ℤ-pos n (suc c)) ∙ none (suc n * suc c))
  where
    less_zero : (z : ℤ) → z -ℤ pos 0 ≡ z
    less_zero z = omega (arith, ints)

    nothing : (m : ℕ) → 0 * m ≡ 0
    nothing m = omega arith

    none : (k : ℕ) → count (neg_ℤ (pos k)) ≡ 0
    none zero = refl
    none (suc k) = refl

-- ---- at a state

-- of the variables of two loops and that of the loop for both
pub record MayMultiply (k : ℕ) (i j : ℕ) (c : ℕ) (b : Block) (s : State) : Type 0 where
  pub sound : IsSound s
  pub none : IsUnbound s k
  pub unseen : mentions (λ x. x == k) b ≡ false
  pub not_i : (k == i) ≡ false
  pub not_j : (k == j) ≡ false
  pub apart : (j == i) ≡ false
  pub for_i : MayStandIn i (Div (Var k) (pos c)) b
  pub for_j : MayStandIn j (Mod (Var k) (pos c)) (in_block i (Div (Var k) (pos c)) b)

module _ (world : World) (k i j : Binder) (d : ℕ) (b : Block) (s : State)
    (may : MayMultiply k.id i.id j.id (suc d) b s) where
  abbrev c : ℕ
  c = suc d

  abbrev first : Control
  first = Div (Var k.id) (pos c)

  abbrev second : Control
  second = Mod (Var k.id) (pos c)

  abbrev inner_body : Block
  inner_body = in_block i.id first b

  abbrev pub body : Block
  body = in_block j.id second inner_body

  abbrev go : Turn
  go = turn k.id (run world body)

  abbrev pair : ℤ → ℤ → State → Option State
  pair n m = turn i.id (turn j.id (run world b) m) n

  abbrev hidden : ℕ → Bool
  hidden x = x == k.id

  module _ (n m : ℕ) (less : m < c) (t : State) (h : HasNamesOf s t) where
    abbrev number_of : ℤ
    number_of = (pos c *ℤ pos n) +ℤ pos m

    abbrev w : State
    w = at_turn k.id number_of t

    abbrev v : State
    v = bound j.id second w

    variable_is : w.scene.control k.id ≡ number_of
    variable_is = ap (λ u. cond u number_of (t.scene.control k.id)) (eq-eqb k.id k.id refl)

    rest_is : number w.scene second ≡ pos m
    rest_is =
        ap (λ z. int_rem_euclid z (pos c)) (variable_is ∙ turn_number c n m)
        ∙ ap pos (mod-mul-add n c m less)

    group_is : number v.scene first ≡ pos n
    group_is =
        ap (λ z. int_div_euclid z (pos c))
        (updated_other w.scene.control j.id (number w.scene second) k.id may.not_j ∙ variable_is
        ∙ turn_number c n m)
        ∙ ap pos (div-mul-add n c m less)

    gone : (x : ℕ) → hidden x ≡ true → t.scene.buffers x ≡ None
    gone x e =
        ap t.scene.buffers (eqb-true x k.id e)
        ∙ (unbound_on s t k.id (h.names k.id) may.none).buffers

    -- each of the three variables but the first
    one_of : (x : ℕ) → hidden x ≡ false
        → (at_turn j.id (pos m) (at_turn i.id (pos n) t)).scene.control x
        ≡ (bound i.id first v).scene.control x
    one_of x other =
        by (x == i.id) (x == j.id) refl refl
        ∙ sym (ap (λ z. cond (x == i.id) (number v.scene first) (cond (x == j.id)
        (number w.scene second) z)) (updated_other t.scene.control k.id number_of x other))
      where
        by : (u o : Bool) → (x == i.id) ≡ u → (x == j.id) ≡ o
            → cond (x == j.id) (pos m) (cond (x == i.id) (pos n) (t.scene.control x))
            ≡ cond (x == i.id) (number v.scene first) (cond (x == j.id) (number w.scene second)
            (t.scene.control x))
        by true true p q =
            absurd (true≢false
            (sym (ap (λ y. y == i.id) (sym (eqb-true x j.id q)) ∙ p) ∙ may.apart))
        by true false p q =
            ap₂ (λ u o. cond o (pos m) (cond u (pos n) (t.scene.control x))) p q
            ∙ sym group_is
            ∙ sym (ap₂ (λ u o. cond u (number v.scene first) (cond o (number w.scene second)
            (t.scene.control x))) p q)
        by false true p q =
            ap₂ (λ u o. cond o (pos m) (cond u (pos n) (t.scene.control x))) p q
            ∙ sym rest_is
            ∙ sym (ap₂ (λ u o. cond u (number v.scene first) (cond o (number w.scene second)
            (t.scene.control x))) p q)
        by false false p q =
            ap₂ (λ u o. cond o (pos m) (cond u (pos n) (t.scene.control x))) p q
            ∙ sym (ap₂ (λ u o. cond u (number v.scene first) (cond o (number w.scene second)
            (t.scene.control x))) p q)

    alike : SameBut hidden (at_turn j.id (pos m) (at_turn i.id (pos n) t)) (bound i.id first v)
    alike = record {
      control = one_of;
      buffers = λ x e. refl;
      views = λ x e. refl;
      fields = refl;
      cells = λ x e. refl;
      seen = λ x z e q. shown z (hidden z.buffer) refl (h.sound.seen x z q);
    }
      where
        shown : (z : Seen) (u : Bool) → hidden z.buffer ≡ u → IsSome (t.scene.buffers z.buffer)
            → u ≡ false
        shown z true q there =
            absurd (true≢false (sym (subst IsSome (gone z.buffer q) there)))
        shown z false q there = refl

    pair_is : pair (pos n) (pos m) t ≡ go number_of t
    pair_is =
        let there = at_turn j.id (pos m) (at_turn i.id (pos n) t) in
        left_twice t (at_turn i.id (pos n) t) (run world b there) refl
        ∙ left_same_but hidden t gone (run world b there) (run world b (bound i.id first v))
        (run_alike hidden world b may.unseen there (bound i.id first v) alike)
        ∙ sym (substituted world i.id first b t v may.for_i)
        ∙ sym (substituted world j.id second inner_body t w may.for_j)

  abbrev inner : Block
  inner = only_loop j (Lit (pos 0)) (Lit (pos c)) b

  less_none : (z : ℤ) → z -ℤ pos 0 ≡ z
  less_none z = omega (arith, ints)

  one_group : (n : ℕ) (t : State) → HasNamesOf s t
      → turn i.id (run world inner) (pos n) t ≡ group go c (pos n) t
  one_group n t h =
      let ms = range (pos 0) (count (pos c -ℤ pos 0)) in
      ap (option_map (left t))
      (then_some (turns (turn j.id (run world b)) ms (at_turn i.id (pos n) t)))
      ∙ pulled i.id j.id (run world b) (pos n) t ms t refl h.sound.tidy
      ∙ ap (λ z. turns (pair (pos n)) (range (pos 0) (count z)) t) (less_none (pos c))
      ∙ alike_below (HasNamesOf s) (pair (pos n)) (λ m. go ((pos c *ℤ pos n) +ℤ m)) c
      (λ m less u g. pair_is n m less u g)
      (λ m u g. if_left s u (turn j.id (run world b) m (at_turn i.id (pos n) u)) g) 0 c
      (omega arith) t h

  pub multiplied_same : (hi : Control)
      → run world (only_loop i (Lit (pos 0)) hi inner) s
      ≡ run world (only_loop k (Lit (pos 0)) (Mul hi (Lit (pos c))) body) s
  multiplied_same hi =
      let z = number s.scene hi in
      let made = turn i.id (run world inner) in
      then_some (turns made (turns_of s.scene (Lit (pos 0)) hi) s)
      ∙ ap (λ y. turns made (range (pos 0) (count y)) s) (less_none z)
      ∙ alike_below (HasNamesOf s) made (group go c) (count z) (λ n less t h. one_group n t h)
      (λ n t h. if_left s t (run world inner (at_turn i.id n t)) h) 0 (count z) (omega arith) s
      (own_names s may.sound)
      ∙ grouped_turns go c (count z) s
      ∙ ap (λ y. turns go (range (pos 0) y) s) (count_times z d)
      ∙ sym (then_some (turns go (turns_of s.scene (Lit (pos 0)) (Mul hi (Lit (pos c)))) s))
