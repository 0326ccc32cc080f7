-- The law of contexts at a place of a small procedure, in a run that computes.
use Rattle.std.proofs.Common.{◌≡◌, ◌≤ℤ◌, ℕ, zero, suc, pos, ◌==◌, Bool, true, false, true≢false, cond, ◌||◌, [], ◌∷◌, Option, Some, None, refl, arith}
use Rattle.std.proofs.lemmas.Int.{ints}
use Rattle.exo_tree.specs.Tree.{Index, Size, Lit, Var, Field, Add, Lt, Argument, ControlArg, Config, Pass, end, next, ControlParam, Procedure, Program}
use Rattle.exo_tree.specs.Places.{Main, Path, opened}
use Rattle.exo_meaning.specs.Value.{Undefined}
use Rattle.exo_meaning.specs.State.{State}
use Rattle.exo_meaning.specs.Run.{step, kinds_of, program_world}
use Rattle.exo_meaning.specs.Inputs.{IsAdmissible, IsOfKind}
use Rattle.meaning_laws.specs.Sorted.{MayRun}
use Rattle.affine_forms.specs.Atoms.{Valuation, value}
use Rattle.affine_forms.specs.Forms.{normal}
use Rattle.affine_forms.specs.Formulas.{at_most, is_met}
use Rattle.affine_places.specs.Facts as facts
use Rattle.affine_places.specs.Roots.{roots_of}
use Rattle.affine_places.specs.Readings.{place_reading}
use Rattle.check_facts.specs.Contexts.{known_at_place, context_of, facts_of, condition_formula}
use Rattle.check_laws.specs.Facts.Laws.{ComesToPlace, Describes, ContextsHold}

abbrev more : Argument
more = ControlArg (Add (Var 0) (Lit (pos 1)))

-- def w(n: size):
--     C.f = n + 1
--     pass
abbrev writer : Procedure
writer = record {
  name = 119 ∷ [];
  template = None;
  params = record { binder = record { id = 0; name = 110 ∷ [] }; kind = ControlParam Size } ∷ [];
  asserts = [];
  body = next (Config 0 more) (next Pass end);
}

-- the unit has the field C.f
abbrev unit : Program
unit = record { fields = record { config = 67 ∷ []; name = 102 ∷ []; kind = Index } ∷ []; memories = []; procedures = [] }

-- at the pass
abbrev there : Path
there = record { branch = Main; index = 1 } ∷ []

-- ---- what is known there

its_context : context_of unit writer there ≡ at_most (normal (place_reading unit.fields (roots_of writer) []) (Lit (pos 1))) (normal (place_reading unit.fields (roots_of writer) []) (Var 0)) ∷ []
its_context = refl

its_facts : facts_of unit writer there ≡ record { field = 0; fact = facts.Known more } ∷ []
its_facts = refl

-- ---- a run: n is 2

abbrev input : State
input = record {
  scene = record {
    control = λ x. cond (x == 0) (pos 2) (pos 0);
    buffers = λ x. None;
    views = λ x. None;
    fields = λ f. pos 7;
  };
  cells = λ b at. Undefined;
}

may : MayRun unit.fields 0 [] writer
may = record { unit = tt; procedure = record { params = refl; asserts = refl; body = refl; filled = refl; ids = refl; distinct = refl; paths = refl; template = refl } }

good : IsAdmissible (program_world unit) writer input
good = record {
  arguments = ((let e : pos 1 ≤ℤ pos 2 = omega (arith, ints) in e, refl, refl), tt);
  no_others = others;
  cells = λ b s e at. tt;
  tidy = λ b e at. refl;
  fields = kinds;
  asserts = refl;
}
  where
    kinds : (f : ℕ) → IsOfKind (kinds_of unit.fields f) (pos 7)
    kinds zero = tt
    kinds (suc f) = tt

    others : (x : ℕ) → ((x == 0) || false) ≡ false → (input.scene.control x ≡ pos 0) × (input.scene.buffers x ≡ None) × (input.scene.views x ≡ None)
    others x k = go (x == 0) k
      where
        go : (t : Bool) → (t || false) ≡ false → (cond t (pos 2) (pos 0) ≡ pos 0) × (input.scene.buffers x ≡ None) × (input.scene.views x ≡ None)
        go true k = absurd (true≢false k)
        go false k = (refl, refl, refl)

abbrev got : Option State → State
got None = input
got (Some t) = t

abbrev at_pass : State
at_pass = got (step (program_world unit) (Config 0 more) input)

comes : ComesToPlace (program_world unit) (opened 1 there writer.body) input at_pass
comes = (at_pass, refl, refl)

-- ---- the law there

module _ (law : ContextsHold) where
  numbers_there : (v : Valuation) × Describes unit writer there at_pass v
  numbers_there = law unit writer may there input at_pass good comes

  -- the field is read as n + 1, which is 3
  field_is_three : value numbers_there.0 (normal (place_reading unit.fields (roots_of writer) (facts_of unit writer there)) (Field 0)) ≡ pos 3
  field_is_three = numbers_there.1.numbers (Field 0) refl

  -- that n is less than the field is met
  less_is_met : is_met numbers_there.0 (condition_formula unit writer (known_at_place unit writer (opened 1 there writer.body)) (Lt (Var 0) (Field 0))) ≡ true
  less_is_met = numbers_there.1.conditions (Lt (Var 0) (Field 0)) refl
