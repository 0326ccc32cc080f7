-- A closed unit: a field of sizes that is not live still has a number of at least 1.
use Rattle.std.proofs.Common.{◌≡◌, ℕ, ℤ, pos, List, [], ◌∷◌, Option, Some, None, Bool, true, false}
use Rattle.std.proofs.Common.{true≢false, cond, ◌==◌, ◌<◌, zero, suc, arith, eqb-true, option_map}
use Rattle.std.proofs.Common.{refl, sym, ap, ◌∙◌, subst}
use Rattle.exo_tree.specs.Tree.{Size, Truth, Lit, Field, Condition, True, False, Le, Config, If}
use Rattle.exo_tree.specs.Tree.{ControlArg, ConditionArg, Block, end, next, Procedure, ConfigField}
use Rattle.exo_tree.specs.Tree.{Kind, Index, Stride, Binder, I8, TensorParam, For, Assign, Const}
use Rattle.exo_tree.specs.Tree.{Pass, Whole}
use Rattle.exo_tree.specs.Context.{Context, Here, fill}
use Rattle.exo_meaning.specs.Value.{Undefined, IsRefinedBy}
use Rattle.exo_meaning.specs.Scene.{then_do}
use Rattle.exo_meaning.specs.State.{State, left, scoped, on_scene, with_field}
use Rattle.exo_meaning.specs.Run.{World, run, choose, kinds_of, unit_world, callee_in, callees}
use Rattle.exo_meaning.specs.Run.{writes}
use Rattle.exo_meaning.specs.Inputs.{Refines, IsOfKind}
use Rattle.exo_meaning.specs.Units.{AreProcedures, IsProcedure, field_kind}
use Rattle.std.specs.Prelude.{Contains, slice_index_or, slice_get}
use Rattle.exo_meaning.proofs.Windows.{one_value}
use Rattle.meaning_laws.specs.Live.{RefinedLive, refield, live_behind}
use Rattle.meaning_laws.specs.Sorted.{FieldsFit, MayRun}
use Rattle.meaning_laws.specs.UnitFields.{unit_live}
use Rattle.meaning_laws.proofs.Facts.{le_holds}
use Rattle.meaning_laws.proofs.Live.{same_live}
use Rattle.meaning_laws.proofs.Refined.{state_same, refined_same}
use Rattle.meaning_laws.proofs.UnitFields.{unit_forgets}
use Rattle.std.proofs.lemmas.Int.{ints}
use Rattle.exo_meaning.specs.Calls.{Callee, call}
use Rattle.meaning_laws.proofs.Parts.{none_some}
use Rattle.config_laws.proofs.OfLive.UnitCallees.{callees_are_made}
use Rattle.config_laws.proofs.OfLive.CallFits.{call_fits}
use Rattle.config_laws.specs.Live.CallFits.{IsCalled, IsVersion}
use Rattle.config_laws.specs.Live.CallVersion.{called, IsMadeIn}
use Rattle.config_laws.proofs.OfLive.LiveFits.{live_fits}
use Rattle.config_laws.proofs.OfLive.CallVersion.{call_version}

-- field 0 holds a size, field 1 a truth value
abbrev two_fields : List ConfigField
two_fields = record { config = 99 ∷ []; name = 110 ∷ []; kind = Size }
    ∷ record { config = 99 ∷ []; name = 116 ∷ []; kind = Truth } ∷ []

abbrev world : World
world = unit_world (kinds_of two_fields) []

-- c.t = True
abbrev sets : Condition → Block
sets t = next (Config 1 (ConditionArg t)) end

-- if T: c.t = True else: c.t = False
abbrev asks : Condition → Block
asks t = next (If t (sets True) (sets False)) end

-- 1 <= c.n
abbrev is_size : Condition
is_size = Le (Lit (pos 1)) (Field 0)

-- then c.n = 2, so c.n is not live
abbrev behind : Context
behind = Here (next (Config 0 (ControlArg (Lit (pos 2)))) end)

abbrev body_is : Block → Procedure
body_is b = record { name = []; template = None; params = []; asserts = []; body = fill behind b }

may_run : MayRun two_fields 1 [] (body_is (asks is_size))
may_run = record {
  unit = tt;
  procedure = record {
    params = refl;
    asserts = refl;
    body = refl;
    filled = refl;
    ids = refl;
    distinct = refl;
    paths = refl;
    template = refl;
  };
}

-- at any numbers of their kinds both write the same
same_writes : (u : State) → FieldsFit (kinds_of two_fields) u
    → run world (asks True) u ≡ run world (asks is_size) u
same_writes u fit =
    ap (λ t. then_do (scoped (choose t (run world (sets True)) (run world (sets False))) u)
    (λ z. Some z)) (sym (le_holds (pos 1) (u.scene.fields 0) (fit 0)))

size_is_known : Refines world (body_is (asks True)) (body_is (asks is_size)) []
size_is_known =
    live_fits two_fields 1 [] (unit_live []) behind (asks True) (asks is_size) (body_is (asks True))
    (body_is (asks is_size)) (λ f. true) [] (unit_forgets (kinds_of two_fields) []) refl refl
    may_run (record { others = λ f k. refl })
    (λ s u good come g fit agree a b i j. subst (RefinedLive lives a)
    (one_value a b (sym i ∙ same_writes (refield g u) fit ∙ j)) (same a))
  where
    lives : ℕ → Bool
    lives f = live_behind (unit_live []) f (asks True) behind true

    same : (a : State) → RefinedLive lives a a
    same a = record { middle = a; live = same_live lives a; refined = state_same a }

-- ---- where it runs

abbrev input : State
input = record {
  scene = record {
    control = λ x. pos 0;
    buffers = λ b. None;
    views = λ x. None;
    fields = λ f. pos 1;
  };
  cells = λ b at. Undefined;
}

abbrev truth_after : Option State → Option ℤ
truth_after o = option_map (λ (t : State). t.scene.fields 1) o

both_true : (truth_after (run world (body_is (asks True)).body input) ≡ Some (pos 1))
    × (truth_after (run world (body_is (asks is_size)).body input) ≡ Some (pos 1))
both_true = (refl, refl)

-- with a 0 in the field, which LiveLaw asks about, it is not so

not_at_zero : (truth_after (run world (asks True) (refield (λ f. pos 0) input)) ≡ Some (pos 1))
    × (truth_after (run world (asks is_size) (refield (λ f. pos 0) input)) ≡ Some (pos 0))
not_at_zero = (refl, refl)

-- ---- a version of a callee: it leaves another number in c.t, and in c.n only where c.n is no size

abbrev done_if : Condition → Block → Block → Procedure
done_if t a b = record {
  name = [];
  template = None;
  params = [];
  asserts = [];
  body = next
      (If t a b) end;
}

-- if True: c.t = True
abbrev first_one : Procedure
first_one = done_if True (sets True) end

-- if 1 <= c.n: c.t = False else: c.n = 3
abbrev other_one : Procedure
other_one = done_if is_size (sets False) (next (Config 0 (ControlArg (Lit (pos 3)))) end)

abbrev both : List Procedure
both = first_one ∷ other_one ∷ []

abbrev unit : World
unit = unit_world (kinds_of two_fields) both

-- .. c.t = True, then c.n = 2
abbrev then_sets : Context
then_sets = Here (next (Config 1 (ConditionArg True)) (next (Config 0 (ControlArg (Lit (pos 2))))
    end))

abbrev calling : ℕ → Procedure
calling k = record {
  name = [];
  template = None;
  params = [];
  asserts = [];
  body = fill then_sets
      (called k []);
}

are_procedures : AreProcedures two_fields 1 [] both
are_procedures = (
  record {
    params = refl;
    asserts = refl;
    body = refl;
    filled = refl;
    ids = refl;
    distinct = refl;
    paths = refl;
    template =
        refl;
  },
  (
    record {
      params = refl;
      asserts = refl;
      body = refl;
      filled = refl;
      ids = refl;
      distinct = refl;
      paths = refl;
      template = refl;
    },
    tt,
  ),
)

may_call_first : MayRun two_fields 1 both (calling 0)
may_call_first = record {
  unit = are_procedures;
  procedure = record {
    params = refl;
    asserts = refl;
    body = refl;
    filled = refl;
    ids = refl;
    distinct = refl;
    paths = refl;
    template = refl;
  };
}

may_call_other : MayRun two_fields 1 both (calling 1)
may_call_other = record {
  unit = are_procedures;
  procedure = record {
    params = refl;
    asserts = refl;
    body = refl;
    filled = refl;
    ids = refl;
    distinct = refl;
    paths = refl;
    template = refl;
  };
}

-- what each leaves where c.n is a size
abbrev leaves : ℤ → State → State
leaves n u = left u (on_scene (with_field 1 n) u)

other_leaves : (u : State) → FieldsFit (kinds_of two_fields) u
    → run unit other_one.body u ≡ Some (leaves (pos 0) u)
other_leaves u fit =
    ap (λ t. then_do (scoped (choose t (run unit (sets False))
    (run unit (next (Config 0 (ControlArg (Lit (pos 3)))) end))) u) (λ z. Some z))
    (le_holds (pos 1) (u.scene.fields 0) (fit 0))

-- the list of field 1 alone
in_list : (f : ℕ) → f ≡ 1 → Contains (1 ∷ []) f
in_list f e = let less : 0 < 1 = omega arith in (0, less, sym e)

only_one : (f : ℕ) → Contains (1 ∷ []) f → f ≡ 1
only_one f c = go c.0 c.1 c.2
  where
    go : (k : ℕ) → k < 1 → slice_index_or (1 ∷ []) k f ≡ f → f ≡ 1
    go zero h e = sym e
    go (suc k) h e = absurd (no h)
      where
        no : suc k < 1 → ⊥
        no h = omega arith

ones_refine : Refines unit first_one other_one (1 ∷ [])
ones_refine = record {
  cells = λ s t u good i j b there at. subst (λ (z : State). IsRefinedBy (z.cells b at)
      (u.cells b at)) (one_value (leaves (pos 1) s) t i)
      (subst (λ (z : State). IsRefinedBy ((leaves (pos 1) s).cells b at) (z.cells b at))
      (one_value (leaves (pos 0) s) u (sym (other_leaves s good.fields) ∙ j))
      (refined_same ((leaves (pos 1) s).cells b at)));
  fields = λ s t u good i j f k. ap (λ (z : State). z.scene.fields f)
      (sym (one_value (leaves (pos 1) s) t i)) ∙ same s f k (f == 1) (eqb-true f 1)
      ∙ ap (λ (z : State). z.scene.fields f) (one_value (leaves (pos 0) s) u
      (sym (other_leaves s good.fields) ∙ j));
}
  where
    same : (s : State) (f : ℕ) → (Contains (1 ∷ []) f → ⊥) → (t : Bool) → (t ≡ true → f ≡ 1)
        → cond t (pos 1) (s.scene.fields f) ≡ cond t (pos 0) (s.scene.fields f)
    same s f k true e = absurd (k (in_list f (e refl)))
    same s f k false e = refl

version_is_called : Refines unit (calling 0) (calling 1) []
version_is_called =
    call_version two_fields 1 both (unit_live both) then_sets 0 1 [] (calling 0) (calling 1) _ _
    (1 ∷ []) (λ f. true) []
    (unit_forgets (kinds_of two_fields) both) (record { old = refl; new = refl }) may_call_first
    may_call_other refl refl
    (record { params = refl; asserts = refl; refines = ones_refine })
    (record { others = λ f k. refl }) apart
  where
    apart : (f : ℕ) → live_behind (unit_live both) f (called 0 []) then_sets true ≡ true
        → Contains (1 ∷ []) f → ⊥
    apart f e c = true≢false (sym e ∙ ap (λ g. live_behind (unit_live both) g (called 0 [])
        then_sets true) (only_one f c))

truths_agree : (truth_after (run unit (calling 0).body input) ≡ Some (pos 1))
    × (truth_after (run unit (calling 1).body input) ≡ Some (pos 1))
truths_agree = (refl, refl)

-- right after the call they do not
truths_differ : (truth_after (run unit (called 0 []) input) ≡ Some (pos 1))
    × (truth_after (run unit (called 1 []) input) ≡ Some (pos 0))
truths_differ = (refl, refl)

-- ---- the callees themselves, and a call at one state

abbrev first_callee : Callee
first_callee = callee_in (unit_world (kinds_of two_fields) []) first_one

abbrev other_callee : Callee
other_callee =
    callee_in (unit_world (kinds_of two_fields) (first_one ∷ [])) other_one

made_in_unit : IsMadeIn unit other_callee
made_in_unit = callees_are_made two_fields 1 both are_procedures 1 other_callee refl

-- c.n alone
abbrev sizes : ℕ → Bool
sizes f = f == 0

is_called : IsCalled two_fields 1 [] (λ x. x) first_callee [] input
is_called = record { params = refl; call = refl; roots = λ x seen e. absurd (none_some e) }

is_version : IsVersion unit first_callee other_callee (1 ∷ [])
is_version = record {
  params = refl;
  asserts = refl;
  old_above = (callees_are_made two_fields 1 both are_procedures 0 first_callee refl).above;
  old_made = (callees_are_made two_fields 1 both are_procedures 0 first_callee refl).made;
  new_above = made_in_unit.above;
  new_made = made_in_unit.made;
  old_run = (callees_are_made two_fields 1 both are_procedures 0 first_callee refl).runs;
  new_run = made_in_unit.runs;
  refines = ones_refine;
}

other_may_be_called :
    (a b : State)
    → call first_callee [] input ≡ Some a
    → call other_callee [] input ≡ Some b
    → RefinedLive sizes a b
other_may_be_called =
    call_fits two_fields 1 unit [] (λ x. x) first_callee other_callee [] (1 ∷ []) sizes input refl
    (record { tidy = λ b e at. refl; seen = λ x seen e. absurd (none_some e) })
    (record {
      buffers = λ b shape e. absurd (none_some e);
      views = λ x cell rank dense seen i e. absurd (none_some e);
      cells = λ b shape e. absurd (none_some e);
      fields = fields_fit;
    })
    is_called is_version (λ f e c. true≢false (sym e ∙ ap sizes (only_one f c)))
  where
    -- 1 is of each kind
    fits : (kind : Kind) → IsOfKind kind (pos 1)
    fits Size = omega (arith, ints)
    fits Index = tt
    fits Truth = (omega (arith, ints), omega (arith, ints))
    fits Stride = tt

    fields_fit : (f : ℕ) → IsOfKind (kinds_of two_fields f) (pos 1)
    fields_fit f = fits (kinds_of two_fields f)

-- ---- a version that writes less: it leaves a parameter alone which the first one may write

abbrev named : ℕ → ℕ → Binder
named n letter = record { id = n; name = letter ∷ [] }

-- x: i8[1]
abbrev with_x : Block → Procedure
with_x b = record {
  name = [];
  template = None;
  params = record { binder = named 0 120; kind = TensorParam I8 (Lit (pos 1) ∷ []) 0 } ∷ [];
  asserts = [];
  body = b;
}

-- for i in seq(0, 0): x[0] = 5
abbrev writes_none : Procedure
writes_none =
    with_x (next (For (named 1 105) (Lit (pos 0)) (Lit (pos 0))
    (next (Assign 0 (Lit (pos 0) ∷ []) (Const (pos 5))) end)) end)

abbrev only_pass : Procedure
only_pass = with_x (next Pass end)

abbrev quiet : List Procedure
quiet = writes_none ∷ only_pass ∷ []

abbrev quiet_unit : World
quiet_unit = unit_world (kinds_of []) quiet

-- the one may write x, the other does not
it_writes : (writes quiet_unit (λ x. x) writes_none.body 0 ≡ true)
    × (writes quiet_unit (λ x. x) only_pass.body 0 ≡ false)
it_writes = (refl, refl)

quiet_refines : Refines quiet_unit writes_none only_pass []
quiet_refines = record {
  cells = λ s t u good i j b there at.
      subst (λ (z : State). IsRefinedBy (t.cells b at) (z.cells b at)) (one_value t u (sym i ∙ j))
      (refined_same (t.cells b at));
  fields = λ s t u good i j f k.
      ap (λ (z : State). z.scene.fields f) (one_value t u (sym i ∙ j));
}

abbrev no_fields : List ℕ
no_fields = []

abbrev passing : ℕ → Procedure
passing k = with_x (fill (Here end) (called k (Whole 0 ∷ [])))

quiet_procedures : AreProcedures [] 1 [] quiet
quiet_procedures = (
  record {
    params = refl;
    asserts = refl;
    body = refl;
    filled = refl;
    ids = refl;
    distinct = refl;
    paths = refl;
    template =
        refl;
  },
  (
    record {
      params = refl;
      asserts = refl;
      body = refl;
      filled = refl;
      ids = refl;
      distinct = refl;
      paths = refl;
      template = refl;
    },
    tt,
  ),
)

may_pass : (k : ℕ) → IsProcedure (field_kind []) 1 (slice_get (callees (kinds_of []) [] quiet))
    (passing k) → MayRun [] 1 quiet (passing k)
may_pass k is = record { unit = quiet_procedures; procedure = is }

quiet_is_called : Refines quiet_unit (passing 0) (passing 1) []
quiet_is_called =
    call_version [] 1 quiet (unit_live quiet) (Here end) 0 1 (Whole 0 ∷ []) (passing 0) (passing 1)
    _ _ no_fields (λ f. true) [] (unit_forgets (kinds_of []) quiet)
    (record { old = refl; new = refl })
    (may_pass 0 (record {
      params = refl;
      asserts = refl;
      body = refl;
      filled = refl;
      ids = refl;
      distinct = refl;
      paths = refl;
      template = refl;
    }))
    (may_pass 1 (record {
      params = refl;
      asserts = refl;
      body = refl;
      filled = refl;
      ids = refl;
      distinct = refl;
      paths = refl;
      template = refl;
    }))
    refl refl
    (record {
      params = refl;
      asserts = refl;
      refines = quiet_refines;
    })
    (record { others = λ f k. refl }) none
  where
    none : (f : ℕ) → live_behind (unit_live quiet) f (called 0 (Whole 0 ∷ [])) (Here end) true
        ≡ true → Contains no_fields f → ⊥
    none f e c = no c.0 c.1
      where
        no : (k : ℕ) → k < 0 → ⊥
        no k h = omega arith
