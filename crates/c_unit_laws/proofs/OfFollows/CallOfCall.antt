-- An instruction that calls an instruction meets what the law on blocks asks.
use Rattle.std.proofs.Common.{◌≡◌, ◌==◌, ℕ, pos, Bool, true, false, cond, [], ◌∷◌, Some, refl, sym, ap, ◌∙◌, subst, arith, true≢false, eqb-true, inl, inr, ◌⊎◌}
use Rattle.std.proofs.lemmas.Int.{ints}
use Rattle.exo_tree.specs.Tree.{I32, Lit}
use Rattle.exo_meaning.specs.Calls.{Callee}
use Rattle.std.specs.Prelude.{codes}
use Rattle.c_widths.specs.Few.{no_fewness, fewness_from}
use Rattle.c_unit_laws.specs.Follows.Machine.Machine.{same_name}
use Rattle.c_unit_laws.specs.Follows.Machine.Examples.{bare, alone}
use Rattle.c_unit_laws.specs.Follows.Machine.CRun.{Behaviour, run_c}
use Rattle.c_lowering.specs.Made.Lowered.{NoForm, TensorForm, param_forms, block_of}
use Rattle.c_unit_laws.specs.Follows.Simulation.{Matches}
use Rattle.c_unit_laws.specs.Follows.Good.{IsFresh, FitsMemory, AreNamedApart}
use Rattle.c_unit_laws.specs.Follows.Calls.{called_in, IsFollowed, CallsFollow}
use Rattle.c_unit_laws.specs.Follows.Instance.{nothing, zero_bounds, itself, layout, empty}
use Rattle.c_unit_laws.specs.Follows.CallOfCall.{params, setting_one, passing_on, calling_both}
use Rattle.c_unit_laws.specs.Follows.CallOfCall.{no_kinds, lower_world, lower, middle_world, middle}
use Rattle.c_unit_laws.specs.Follows.CallOfCall.{whole_world, few_of, ground_with, lower_ground}
use Rattle.c_unit_laws.specs.Follows.CallOfCall.{middle_ground, top_ground, lower_c, middle_c_world}
use Rattle.c_unit_laws.specs.Follows.CallOfCall.{middle_c, top_c_world, CallOfCall}
use Rattle.c_unit_laws.proofs.OfFollows.Windows.{some_same, no_some}
use Rattle.c_unit_laws.proofs.OfFollows.Instance.{machine_of, seven}
use Rattle.c_unit_laws.proofs.OfFollows.WithCalls.{blocks_follow}

named_apart : (stored called : ℕ → Bool) → AreNamedApart (ground_with stored called) (param_forms params)
named_apart stored called = record {
  others = λ x y. go x y (x == 0) (y == 0) refl refl;
  no_field = λ x f h. absurd (true≢false (sym h));
  no_function = λ x f h. absurd (true≢false (sym h));
}
  where
    go : (x y : ℕ) (t u : Bool) → (x == 0) ≡ t → (y == 0) ≡ u → (param_forms params x ≡ NoForm) ⊎ ((param_forms params y ≡ NoForm) ⊎ ((x ≡ y) ⊎ (same_name (codes "t") (codes "t") ≡ false)))
    go x y false u e f = inl (ap (λ b. cond b (TensorForm I32 (Lit (pos 2) ∷ []) 0) NoForm) e)
    go x y true false e f = inr (inl (ap (λ b. cond b (TensorForm I32 (Lit (pos 2) ∷ []) 0) NoForm) f))
    go x y true true e f = inr (inr (inl (eqb-true x 0 e ∙ sym (eqb-true y 0 f))))

lower_calls : CallsFollow lower_ground lower_world (fewness_from no_kinds [] no_fewness []) alone
lower_calls = record {
  fields = λ f h. absurd (true≢false (sym h));
  functions = λ x h. absurd (true≢false (sym h));
  named = λ k h e. absurd (true≢false (sym h));
  each = λ k c e h. absurd (true≢false (sym h));
}

lower_follows : IsFollowed middle_ground (fewness_from no_kinds [] no_fewness (setting_one ∷ []) 0) lower lower_c 0
lower_follows = record {
  own = lower_ground;
  params = refl;
  field = refl;
  declared = refl;
  function = refl;
  stored = refl;
  formals = refl;
  named = named_apart lower.writes (λ k. false);
  distinct = (refl, tt);
  good = (((tt, tt), (omega arith, tt)), tt);
  follows = λ place s m match holds. blocks_follow lower_ground (param_forms params) zero_bounds itself place lower_world no_kinds [] alone setting_one.body lower_calls
      (((I32, inr (Lit (pos 2) ∷ [], refl, refl)), ((tt, tt), (omega arith, tt)), seven), tt) (λ y e. e) s m match;
}

abbrev IsFirst : ℕ → Type 0
IsFirst k = (c : Callee) → middle_world.callees k ≡ Some c → (f : Behaviour) × (called_in middle_c_world [] (Some []) k ≡ Some f) × IsFollowed middle_ground (fewness_from no_kinds [] no_fewness (setting_one ∷ []) k) c f k

middle_calls : CallsFollow middle_ground middle_world (fewness_from no_kinds [] no_fewness (setting_one ∷ [])) middle_c_world
middle_calls = record {
  fields = λ f h. absurd (true≢false (sym h));
  functions = λ x h. absurd (true≢false (sym h));
  named = λ k h e. absurd (no_some (sym e));
  each = λ k c e h. subst IsFirst (sym (eqb-true k 0 h)) first c e;
}
  where
    first : IsFirst 0
    first c e = subst (λ d. (f : Behaviour) × (called_in middle_c_world [] (Some []) 0 ≡ Some f) × IsFollowed middle_ground (fewness_from no_kinds [] no_fewness (setting_one ∷ []) 0) d f 0) (some_same e) (lower_c, refl, lower_follows)

middle_follows : IsFollowed top_ground (few_of 1) middle middle_c 1
middle_follows = record {
  own = middle_ground;
  params = refl;
  field = refl;
  declared = refl;
  function = refl;
  stored = refl;
  formals = refl;
  named = named_apart middle.writes (λ k. k == 0);
  distinct = (refl, tt);
  good = (((tt, tt), (omega arith, tt)), tt);
  follows = λ place s m match holds. blocks_follow middle_ground (param_forms params) zero_bounds itself place middle_world no_kinds (setting_one ∷ []) middle_c_world passing_on.body middle_calls
      ((refl, ((Lit (pos 2) ∷ [], 0, refl, refl, λ h. refl), tt)), tt) (λ y e. e) s m match;
}

abbrev IsSecond : ℕ → Type 0
IsSecond k = (c : Callee) → whole_world.callees k ≡ Some c → (f : Behaviour) × (called_in top_c_world [] (Some []) k ≡ Some f) × IsFollowed top_ground (few_of k) c f k

top_calls : CallsFollow top_ground whole_world few_of top_c_world
top_calls = record {
  fields = λ f h. absurd (true≢false (sym h));
  functions = λ x h. absurd (true≢false (sym h));
  named = λ k h e. absurd (no_some (sym e));
  each = λ k c e h. subst IsSecond (sym (eqb-true k 1 h)) second c e;
}
  where
    second : IsSecond 1
    second c e = subst (λ d. (f : Behaviour) × (called_in top_c_world [] (Some []) 1 ≡ Some f) × IsFollowed top_ground (few_of 1) d f 1) (some_same e) (middle_c, refl, middle_follows)

empty_matches : Matches top_ground nothing zero_bounds itself layout empty bare
empty_matches = record {
  names = λ x. tt;
  fields = λ f h. absurd (true≢false (sym h));
  functions = λ f h. absurd (true≢false (sym h));
  cells = λ b shape e at r. absurd (no_some e);
  known = λ b shape e h. no_some e;
  placed = λ b shape e. absurd (no_some e);
  apart = λ b c shape other e f may at bt r q same. absurd (no_some e);
  roots = λ x seen e. absurd (no_some e);
}

fresh : IsFresh top_ground nothing 0
fresh = record { not_there = refl; other_name = λ x. inl refl; no_field = λ f h. absurd (true≢false (sym h)); no_function = λ f h. absurd (true≢false (sym h)) }

plain_memory : FitsMemory (top_ground.naming.memory 0) zero_bounds (Lit (pos 2) ∷ [])
plain_memory = record { last = tt; literals = λ h. absurd (true≢false (sym h)); small = λ h. absurd (true≢false (sym h)) }

pub call_of_call : CallOfCall
call_of_call = record {
  calls = top_calls;
  good = ((((tt, tt), (omega arith, tt)), fresh, plain_memory), ((refl, ((Lit (pos 2) ∷ [], 0, refl, refl, λ h. refl), tt)), tt));
  may = λ y e. refl;
  matches = empty_matches;
  few = (omega (arith, ints), λ t e. ((λ gs inner i j. (λ hs low k l. (tt, λ u f. tt), λ u f. tt)), λ u f. tt));
  runs = refl;
  done = (machine_of (run_c top_c_world (block_of top_ground.naming nothing calling_both) bare), refl);
}
