-- A call that hands on windows of one tensor, one of them to be written, meets what the law on blocks asks.
use Rattle.std.proofs.Common.{◌≡◌, ◌==◌, ◌&&◌, ℕ, pos, Bool, true, false, List, [], ◌∷◌, Some, refl, sym, ap, subst, arith, true≢false, eqb-true, inl, inr, ◌⊎◌}
use Rattle.std.proofs.lemmas.Int.{ints}
use Rattle.exo_tree.specs.Tree.{I32, Control, Lit}
use Rattle.exo_meaning.specs.Calls.{Callee}
use Rattle.c_widths.specs.Few.{no_fewness, fewness_from}
use Rattle.c_unit_laws.specs.Follows.Machine.Examples.{bare, alone}
use Rattle.c_unit_laws.specs.Follows.Machine.CRun.{Behaviour, run_c}
use Rattle.c_lowering.specs.Made.Lowered.{param_forms, block_of}
use Rattle.c_unit_laws.specs.Follows.Simulation.{Matches}
use Rattle.c_unit_laws.specs.Follows.Good.{IsFresh, FitsMemory, AreNamedApart}
use Rattle.c_unit_laws.specs.Follows.Calls.{called_in, IsFollowed, CallsFollow}
use Rattle.c_unit_laws.specs.Follows.Instance.{nothing, zero_bounds, itself, layout, empty}
use Rattle.c_unit_laws.specs.Follows.CallOfCall.{no_kinds, lower_world}
use Rattle.c_unit_laws.specs.Follows.Overlapping.{params, adding, overlapping, callee, world}
use Rattle.c_unit_laws.specs.Follows.Overlapping.{few_of, own_ground, top_ground, adding_c, c_world}
use Rattle.c_unit_laws.specs.Follows.Overlapping.{Overlapping}
use Rattle.c_unit_laws.proofs.OfFollows.Windows.{some_same, no_some}
use Rattle.c_unit_laws.proofs.OfFollows.Instance.{machine_of}
use Rattle.c_unit_laws.proofs.OfFollows.WithCalls.{blocks_follow}

named_apart : AreNamedApart own_ground (param_forms params)
named_apart = record {
  others = λ x y. inr (inr (go x y (x == y) refl));
  no_field = λ x f h. absurd (true≢false (sym h));
  no_function = λ x f h. absurd (true≢false (sym h));
}
  where
    go : (x y : ℕ) (t : Bool) → (x == y) ≡ t → (x ≡ y) ⊎ (((x == y) && true) ≡ false)
    go x y true e = inl (eqb-true x y e)
    go x y false e = inr (ap (λ b. b && true) e)

no_calls : CallsFollow own_ground lower_world (fewness_from no_kinds [] no_fewness []) alone
no_calls = record {
  fields = λ f h. absurd (true≢false (sym h));
  functions = λ x h. absurd (true≢false (sym h));
  named = λ k h e. absurd (true≢false (sym h));
  each = λ k c e h. absurd (true≢false (sym h));
}

adding_follows : IsFollowed top_ground (few_of 0) callee adding_c 0
adding_follows = record {
  own = own_ground;
  params = refl;
  field = refl;
  declared = refl;
  function = refl;
  stored = refl;
  formals = refl;
  named = named_apart;
  distinct = (refl, (refl, (refl, tt)));
  good = (((tt, tt), (omega arith, tt)), (((tt, tt), (omega arith, tt)), (((tt, tt), (omega arith, tt)), tt)));
  follows = λ place s m match holds. blocks_follow own_ground (param_forms params) zero_bounds itself place lower_world no_kinds [] alone adding.body no_calls
      (((I32, inl (refl, refl)), ((tt, tt), (omega arith, tt)), (((I32, inl (refl, refl)), ((tt, tt), (omega arith, tt))), ((I32, inl (refl, refl)), ((tt, tt), (omega arith, tt))))), tt) (λ y e. e) s m match;
}

abbrev IsFirst : ℕ → Type 0
IsFirst k = (c : Callee) → world.callees k ≡ Some c → (f : Behaviour) × (called_in c_world [] (Some []) k ≡ Some f) × IsFollowed top_ground (few_of k) c f k

top_calls : CallsFollow top_ground world few_of c_world
top_calls = record {
  fields = λ f h. absurd (true≢false (sym h));
  functions = λ x h. absurd (true≢false (sym h));
  named = λ k h e. absurd (no_some (sym e));
  each = λ k c e h. subst IsFirst (sym (eqb-true k 0 h)) first c e;
}
  where
    first : IsFirst 0
    first c e = subst (λ d. (f : Behaviour) × (called_in c_world [] (Some []) 0 ≡ Some f) × IsFollowed top_ground (few_of 0) d f 0) (some_same e) (adding_c, refl, adding_follows)

empty_matches : Matches top_ground nothing zero_bounds itself layout empty bare
empty_matches = record {
  names = λ x. tt;
  fields = λ f h. absurd (true≢false (sym h));
  functions = λ f h. absurd (true≢false (sym h));
  cells = λ b shape e at r. absurd (no_some e);
  known = λ b shape e h. no_some e;
  placed = λ b shape e. absurd (no_some e);
  apart = λ b c shape other e f may at bt r q same. absurd (no_some e);
  roots = λ x seen e. absurd (no_some e);
}

fresh_first : IsFresh top_ground nothing 3
fresh_first = record { not_there = refl; other_name = λ x. inl refl; no_field = λ f h. absurd (true≢false (sym h)); no_function = λ f h. absurd (true≢false (sym h)) }

plain_memory : (ds : List Control) → FitsMemory (top_ground.naming.memory 0) zero_bounds ds
plain_memory ds = record { last = tt; literals = λ h. absurd (true≢false (sym h)); small = λ h. absurd (true≢false (sym h)) }

pub overlapping_windows : Overlapping
overlapping_windows = record {
  calls = top_calls;
  good = (
    (((tt, tt), (omega arith, tt)), fresh_first, plain_memory (Lit (pos 5) ∷ [])),
    ((refl, ((0, inr (Lit (pos 5) ∷ [], refl, refl), λ h. refl, (((tt, omega arith), (tt, omega arith)), tt), refl, tt), ((0, inr (Lit (pos 5) ∷ [], refl, refl), λ h. refl, (((tt, omega arith), (tt, omega arith)), tt), refl, tt), ((0, inr (Lit (pos 5) ∷ [], refl, refl), λ h. refl, (((tt, omega arith), (tt, omega arith)), tt), refl, tt), tt)))), tt),
  );
  may = λ y e. refl;
  matches = empty_matches;
  few = (omega (arith, ints), λ t e. ((λ gs inner i j. (tt, λ v k. tt)), λ v k. tt));
  runs = refl;
  done = (machine_of (run_c c_world (block_of top_ground.naming nothing overlapping) bare), refl);
}
