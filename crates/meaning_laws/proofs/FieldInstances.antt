-- What is known of a field at places of a small procedure, and the facts there in a run that computes.
use Rattle.std.proofs.Common.{◌≡◌, ◌≤ℤ◌, ℕ, zero, suc, ℤ, pos, ◌+ℤ◌, ◌==◌, int_lt, Bool, true, false, true≢false, cond, ◌||◌, List, [], ◌∷◌, Option, Some, None, refl, sym, ◌∙◌, arith, ◌&&◌, ap, subst, eqb-true}
use Rattle.std.proofs.lemmas.Int.{ints}
use Rattle.std.specs.Ordering.{int_eq}
use Rattle.exo_tree.specs.Tree.{Binder, I32, Index, Size, Control, Lit, Var, Field, StrideOf, Neg, Add, Sub, Mul, Div, Mod, Condition, Lt, Eq, Argument, ControlArg, ConditionArg, Whole, Window, Const, Assign, Config, If, For, Block, end, next, ControlParam, WindowParam, Procedure, ConfigField, Statement, Reduce, Pass, Alloc, View, Call}
use Rattle.exo_tree.specs.Context.{Context, Here, After, InThen, InLoop, InElse, fill}
use Rattle.exo_tree.specs.Places.{Main, Path}
use Rattle.exo_meaning.specs.Value.{Undefined}
use Rattle.exo_meaning.specs.Scene.{Scene, Shape, Seen, Range, number, stride_at, strides_of}
use Rattle.exo_meaning.specs.State.{State}
use Rattle.exo_meaning.specs.Run.{World, step, kinds_of, unit_world}
use Rattle.exo_meaning.specs.Inputs.{IsAdmissible, IsOfKind}
use Rattle.meaning_laws.specs.Context.{ComesTo}
use Rattle.meaning_laws.specs.Sorted.{MayRun}
use Rattle.meaning_laws.specs.KnownFields.{Known, UnknownAt, AtEntry, at_entry, Telling, after, known_fields}
use Rattle.meaning_laws.specs.PlaceFacts.{Strides, StridesStand, Numbers, AreNumbers, AgreeWell, argument_value, unit_telling, place_facts}
use Rattle.std.specs.Prelude.{get_or}
use Rattle.exo_meaning.specs.Units.{field_kind}
use Rattle.meaning_laws.specs.Sound.{binds, on_way, IsSameName}
use Rattle.meaning_laws.specs.Scoped.{is_param}
use Rattle.meaning_laws.specs.Made.{AreMade}
use Rattle.meaning_laws.proofs.Made.{made_law}
use Rattle.meaning_laws.proofs.Scoped.{or_elim}
use Rattle.meaning_laws.proofs.Substitute.{and_parts}
use Rattle.meaning_laws.proofs.Parts.{none_some, some_injective}
use Rattle.meaning_laws.proofs.PlaceFacts.{place_facts_law, plain_telling}

abbrev letter : ℕ → ℕ → Binder
letter n c = record { id = n; name = c ∷ [] }

-- the field C.f
abbrev fields : List ConfigField
fields = record { config = 67 ∷ []; name = 102 ∷ []; kind = Index } ∷ []

abbrev world : World
world = unit_world (kinds_of fields) []

-- C.f = a
abbrev set : Control → Block
set a = next (Config 0 (ControlArg a)) end

-- for i in seq(0, n): C.f = i
abbrev counted : Block → Block
counted rest = next (For (letter 2 105) (Lit (pos 0)) (Var 0) (set (Var 2))) rest

abbrev store : Block
store = next (Assign 1 (Lit (pos 0) ∷ []) (Const (pos 3))) end

abbrev is_less : Condition
is_less = Lt (Field 0) (Var 0)

abbrev more : Argument
more = ControlArg (Add (Var 0) (Lit (pos 1)))

-- def r(n: size, w: [i32][n]):
--     assert stride(w, 0) == 2
--     assert C.f == n
--     for i in seq(0, n): C.f = i
--     if C.f < n:
--         C.f = n + 1
--         w[0] = 3
abbrev reader : Procedure
reader = record {
  name = 114 ∷ [];
  template = None;
  params = record { binder = letter 0 110; kind = ControlParam Size } ∷ record { binder = letter 1 119; kind = WindowParam I32 (Var 0 ∷ []) 0 } ∷ [];
  asserts = Eq (StrideOf 1 0) (Lit (pos 2)) ∷ Eq (Field 0) (Var 0) ∷ [];
  body = counted (next (If is_less (next (Config 0 more) store) end) end);
}

-- round the store
abbrev there : Context
there = After (For (letter 2 105) (Lit (pos 0)) (Var 0) (set (Var 2))) (InThen is_less (After (Config 0 more) (Here end)) end end)

abbrev literal_in : Control → Option ℤ
literal_in (Lit n) = Some n
literal_in (Var x) = None
literal_in (Field f) = None
literal_in (StrideOf x k) = None
literal_in (Neg a) = None
literal_in (Add a b) = None
literal_in (Sub a b) = None
literal_in (Mul a b) = None
literal_in (Div a c) = None
literal_in (Mod a c) = None

abbrev literal : Argument → Option ℤ
literal (ControlArg e) = literal_in e
literal (ConditionArg c) = None
literal (Whole x) = None
literal (Window x coords) = None

abbrev same_number : Option ℤ → Option ℤ → Bool
same_number None o = false
same_number (Some m) None = false
same_number (Some m) (Some n) = int_eq m n

-- literals agree where they are the same number
abbrev same_literals : Argument → Argument → Bool
same_literals a b = same_number (literal a) (literal b)

abbrev tell : Telling
tell = unit_telling [] (λ a. a) same_literals

-- ---- what is known

abbrev first : Path
first = record { branch = Main; index = 0 } ∷ []

at_the_store : known_fields tell there store 0 ≡ Known more
at_the_store = refl

-- the loop made it unknown, and so it is in a turn
after_the_loop : known_fields tell (After (For (letter 2 105) (Lit (pos 0)) (Var 0) (set (Var 2))) (Here end)) end 0 ≡ UnknownAt first
after_the_loop = refl

at_first : known_fields tell (Here end) reader.body 0 ≡ AtEntry
at_first = refl

-- both branches set it to 4, or one to 4 and one to 5
one_value : after tell first (If is_less (set (Lit (pos 4))) (set (Lit (pos 4)))) at_entry 0 ≡ Known (ControlArg (Lit (pos 4)))
one_value = refl

two_values : after tell first (If is_less (set (Lit (pos 4))) (set (Lit (pos 5)))) at_entry 0 ≡ UnknownAt first
two_values = refl

-- ---- a run: n is 2, w has stride 2, C.f is 2

abbrev shape : Shape
shape = record { cell = I32; dims = pos 2 ∷ []; strides = pos 2 ∷ [] }

abbrev all_of_it : Seen
all_of_it = record { buffer = 1; sides = Range (pos 0) (pos 2) ∷ [] }

abbrev input : State
input = record {
  scene = record {
    control = λ x. cond (x == 0) (pos 2) (pos 0);
    buffers = λ x. cond (x == 1) (Some shape) None;
    views = λ x. cond (x == 1) (Some all_of_it) None;
    fields = λ f. pos 2;
  };
  cells = λ b at. Undefined;
}

may : MayRun fields 1 [] reader
may = record { unit = tt; procedure = record { params = refl; asserts = refl; body = refl; filled = refl; ids = refl; distinct = refl; paths = refl; template = refl } }

good : IsAdmissible world reader input
good = record {
  arguments = ((let e : pos 1 ≤ℤ pos 2 = omega (arith, ints) in e, refl, refl), ((pos 2 ∷ [], (refl, refl)), tt));
  no_others = others;
  cells = λ b s e at. tt;
  tidy = λ b e at. refl;
  fields = kinds;
  asserts = refl;
}
  where
    kinds : (f : ℕ) → IsOfKind (kinds_of fields f) (pos 2)
    kinds zero = tt
    kinds (suc f) = tt

    others : (x : ℕ) → ((x == 0) || ((x == 1) || false)) ≡ false → (cond (x == 0) (pos 2) (pos 0) ≡ pos 0) × (cond (x == 1) (Some shape) None ≡ None) × (cond (x == 1) (Some all_of_it) None ≡ None)
    others x k = go (x == 0) (x == 1) k
      where
        go : (s t : Bool) → (s || (t || false)) ≡ false → (cond s (pos 2) (pos 0) ≡ pos 0) × (cond t (Some shape) None ≡ None) × (cond t (Some all_of_it) None ≡ None)
        go true t k = absurd (true≢false k)
        go false true k = absurd (true≢false k)
        go false false k = (refl, refl, refl)

-- where it comes to
abbrev got : Option State → State
got None = input
got (Some t) = t

abbrev counted_up : State
counted_up = got (step world (For (letter 2 105) (Lit (pos 0)) (Var 0) (set (Var 2))) input)

abbrev at_store : State
at_store = got (step world (Config 0 more) counted_up)

comes : ComesTo world store there input at_store
comes = (counted_up, refl, (refl, (at_store, refl, refl)))

field_is_three : at_store.scene.fields 0 ≡ pos 3
field_is_three = refl

-- ---- the law there

literal_in_is : (e : Control) (m : ℤ) → literal_in e ≡ Some m → (scene : Scene) → number scene e ≡ m
literal_in_is (Lit n) m h scene = some_injective n m h
literal_in_is (Var x) m h scene = absurd (none_some h)
literal_in_is (Field f) m h scene = absurd (none_some h)
literal_in_is (StrideOf x k) m h scene = absurd (none_some h)
literal_in_is (Neg a) m h scene = absurd (none_some h)
literal_in_is (Add a b) m h scene = absurd (none_some h)
literal_in_is (Sub a b) m h scene = absurd (none_some h)
literal_in_is (Mul a b) m h scene = absurd (none_some h)
literal_in_is (Div a c) m h scene = absurd (none_some h)
literal_in_is (Mod a c) m h scene = absurd (none_some h)

literal_is : (a : Argument) (m : ℤ) → literal a ≡ Some m → (scene : Scene) → argument_value scene a ≡ m
literal_is (ControlArg e) m h scene = literal_in_is e m h scene
literal_is (ConditionArg c) m h scene = absurd (none_some h)
literal_is (Whole x) m h scene = absurd (none_some h)
literal_is (Window x coords) m h scene = absurd (none_some h)

-- w has stride 2, and no other name a stride
abbrev steps : Strides
steps values x = cond (x == 1) (pos 2 ∷ []) []

-- nothing is allocated and nothing seen through a view
abbrev mutual
  is_bare : Block → Bool
  is_bare end = true
  is_bare (next a b) = is_bare_step a && is_bare b

  is_bare_step : Statement → Bool
  is_bare_step (Assign x is e) = true
  is_bare_step (Reduce x is e) = true
  is_bare_step (Config f a) = true
  is_bare_step Pass = true
  is_bare_step (If c a b) = is_bare a && is_bare b
  is_bare_step (For i lo hi b) = is_bare b
  is_bare_step (Alloc x cell dims memory) = false
  is_bare_step (View w x coords) = false
  is_bare_step (Call k args) = true

binds_nothing : (a : Statement) (x : ℕ) → is_bare_step a ≡ true → binds a x ≡ false
binds_nothing (Assign y is e) x h = refl
binds_nothing (Reduce y is e) x h = refl
binds_nothing (Config f a) x h = refl
binds_nothing Pass x h = refl
binds_nothing (If c a b) x h = refl
binds_nothing (For i lo hi b) x h = refl
binds_nothing (Alloc y cell dims memory) x h = absurd (true≢false (sym h))
binds_nothing (View w y coords) x h = absurd (true≢false (sym h))
binds_nothing (Call k args) x h = refl

-- so the names on the way see nothing
sees_nothing : (scene : Scene) (old : Block) (c : Context) (x : ℕ) → is_bare (fill c old) ≡ true → AreMade scene c → on_way c x ≡ true → scene.views x ≡ None
sees_nothing scene old (Here rest) x bare h k = absurd (true≢false (sym k))
sees_nothing scene old (After a c) x bare h k =
    let p = and_parts (is_bare_step a) (is_bare (fill c old)) bare in
    or_elim (binds a x) (on_way c x) k (λ j. absurd (true≢false (sym j ∙ binds_nothing a x p.0))) (sees_nothing scene old c x p.1 h.1)
sees_nothing scene old (InLoop i lo hi c rest) x bare h k =
    let p = and_parts (is_bare (fill c old)) (is_bare rest) bare in
    or_elim (x == i.id) (on_way c x) k (λ e. ap scene.views (eqb-true x i.id e) ∙ h.0) (sees_nothing scene old c x p.0 h.1)
sees_nothing scene old (InThen t c other rest) x bare h k = sees_nothing scene old c x (and_parts (is_bare (fill c old)) (is_bare other) (and_parts (is_bare (fill c old) && is_bare other) (is_bare rest) bare).0).0 h k
sees_nothing scene old (InElse t other c rest) x bare h k = sees_nothing scene old c x (and_parts (is_bare other) (is_bare (fill c old)) (and_parts (is_bare other && is_bare (fill c old)) (is_bare rest) bare).0).1 h k

stand : StridesStand world reader input steps
stand c old u was come values same x k bound =
    let n = made_law (field_kind fields) 1 world.callees world reader c old input u may.procedure was good come in
    let free : on_way c 1 ≡ true → ⊥ = λ j. absurd (not_seen ((n.params 1 refl).views ∙ sees_nothing u.scene old c 1 (subst (λ b. is_bare b ≡ true) was refl) n.made j)) in
    or_elim (is_param reader x) (on_way c x) bound
    (λ h. of_param x (x == 0) (x == 1) refl (eqb-true x 0) (eqb-true x 1) h (n.params 0 refl).views (n.params 1 refl))
    (λ h. ap (λ v. stride_at u.scene v k) (sees_nothing u.scene old c x (subst (λ b. is_bare b ≡ true) was refl) n.made h) ∙ other x (x == 1) (eqb-true x 1) (λ e. free (subst (λ z. on_way c z ≡ true) e h)))
  where
    not_seen : Some all_of_it ≡ None → ⊥
    not_seen e = cc

    other : (y : ℕ) (z : Bool) → (z ≡ true → y ≡ 1) → (y ≡ 1 → ⊥) → pos 0 ≡ get_or (cond z (pos 2 ∷ []) []) k (pos 0)
    other y true is not = absurd (not (is refl))
    other y false is not = refl

    of_param : (y : ℕ) (a b : Bool) → (y == 1) ≡ b → (a ≡ true → y ≡ 0) → (b ≡ true → y ≡ 1) → (a || (b || false)) ≡ true → None ≡ u.scene.views 0 → IsSameName 1 input u → stride_at u.scene (u.scene.views y) k ≡ get_or (cond (y == 1) (pos 2 ∷ []) []) k (pos 0)
    of_param y a true e zero_is one_is h none whole = subst (λ z. stride_at u.scene (u.scene.views z) k ≡ get_or (cond (z == 1) (pos 2 ∷ []) []) k (pos 0)) (sym (one_is refl)) (ap (λ v. stride_at u.scene v k) (sym whole.views) ∙ ap (λ o. get_or (elim o as (λ o. List ℤ) [ None ↦ [] | Some s ↦ strides_of all_of_it.sides s.strides ]) k (pos 0)) (sym whole.buffers))
    of_param y true false e zero_is one_is h none whole = subst (λ z. stride_at u.scene (u.scene.views z) k ≡ get_or (cond (z == 1) (pos 2 ∷ []) []) k (pos 0)) (sym (zero_is refl)) (ap (λ v. stride_at u.scene v k) (sym none))
    of_param y false false e zero_is one_is h none whole = absurd (true≢false (sym h))

literals_agree : AgreeWell steps (λ f a. true) same_literals
literals_agree f a b one two h scene have = go (literal a) refl (literal b) refl h
  where
    same : (m n : ℤ) → int_eq m n ≡ true → m ≡ n
    same m n k = grind (arith, ints)

    go : (o : Option ℤ) → literal a ≡ o → (r : Option ℤ) → literal b ≡ r → same_number o r ≡ true → argument_value scene a ≡ argument_value scene b
    go None i r j k = absurd (true≢false (sym k))
    go (Some m) i None j k = absurd (true≢false (sym k))
    go (Some m) i (Some n) j k = literal_is a m i scene ∙ same m n k ∙ sym (literal_is b n j scene)

numbers_there : (v : Numbers) × AreNumbers world input at_store steps (λ f a. true) (known_fields tell there store) (place_facts tell reader there store) v
numbers_there = place_facts_law fields 1 [] reader may (λ a. a) same_literals (λ f a. true) (plain_telling fields 1 [] reader may) refl input steps good stand literals_agree there store at_store refl comes

abbrev its : Numbers
its = numbers_there.0

-- the field is n + 1 there
field_is_known : pos 3 ≡ its.scene.control 0 +ℤ pos 1
field_is_known = numbers_there.1.fields 0

-- the stride that an assertion speaks of
stride_is_two : int_eq (stride_at its.scene (its.scene.views 1) 0) (pos 2) ≡ true
stride_is_two = numbers_there.1.facts.1.0

-- the field that an assertion speaks of is the one at entry
field_was_n : int_eq (its.scene.fields 0) (its.scene.control 0) ≡ true
field_was_n = numbers_there.1.facts.1.1.0

-- the field that the condition speaks of is the one that the loop left
field_was_less : int_lt (its.unknown 0 first) (its.scene.control 0) ≡ true
field_was_less = numbers_there.1.facts.1.1.1.0
