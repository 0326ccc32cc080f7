-- The closed instances.
use Rattle.std.proofs.Common.{◌≡◌, pos, [], ◌∷◌, Some, None, refl, sym, arith, true≢false, inl, inr}
use Rattle.std.specs.Int.{int_wrap}
use Rattle.std.proofs.lemmas.Int.{ints}
use Rattle.exo_tree.specs.Tree.{I32, Lit, Var}
use Rattle.exo_meaning.specs.Value.{wrap}
use Rattle.c_unit_laws.specs.Follows.Machine.Machine.{Outcome, Done, Fault, NoStore, Machine}
use Rattle.c_unit_laws.specs.Follows.Machine.CRun.{run_c}
use Rattle.c_unit_laws.specs.Follows.Machine.Examples.{bare, alone}
use Rattle.c_lowering.specs.Made.Lowered.{block_of}
use Rattle.c_unit_laws.specs.Follows.Simulation.{Matches}
use Rattle.c_unit_laws.specs.Follows.Good.{IsFresh, FitsMemory}
use Rattle.c_unit_laws.specs.Follows.Instance.{body, ground, nothing, zero_bounds, itself, layout}
use Rattle.c_unit_laws.specs.Follows.Instance.{empty, BlockInstance, CallInstance, RaisedInstance}

none_there : {A : Type 0} {a : A} → None ≡ Some a → ⊥
none_there e = cc

nothing_matches : Matches ground nothing zero_bounds itself layout empty bare
nothing_matches = record {
  names = λ x. tt;
  fields = λ f h. absurd (true≢false (sym h));
  functions = λ f h. absurd (true≢false (sym h));
  cells = λ b shape e at r. absurd (none_there e);
  known = λ b shape e h. none_there e;
  placed = λ b shape e. absurd (none_there e);
  apart = λ b c shape other e f may at bt r q same. absurd (none_there e);
  roots = λ x seen e. absurd (none_there e);
}

fresh : IsFresh ground nothing 0
fresh = record { not_there = refl; other_name = λ x. inl refl; no_field = λ f h. absurd (true≢false (sym h)); no_function = λ f h. absurd (true≢false (sym h)) }

plain_memory : FitsMemory (ground.naming.memory 0) zero_bounds (Lit (pos 2) ∷ [])
plain_memory = record { last = tt; literals = λ h. absurd (true≢false (sym h)); small = λ h. absurd (true≢false (sym h)) }

pub seven : wrap I32 (pos 7) ≡ pos 7
unfolding int_wrap
seven = refl

abbrev pub machine_of : Outcome Machine → Machine
machine_of (Done n) = n
machine_of Fault = bare
machine_of NoStore = bare

pub block_instance : BlockInstance
block_instance = (
  ((((tt, tt), (omega arith, tt)), fresh, plain_memory), (((I32, inr (Lit (pos 2) ∷ [], refl, refl)), ((tt, tt), (omega arith, tt)), seven), tt)),
  nothing_matches,
  (omega (arith, ints), λ t e. (tt, λ u f. tt)),
  refl,
  (machine_of (run_c alone (block_of ground.naming nothing body) bare), refl),
)

pub call_instance : CallInstance
call_instance = (
  (
    refl,
    (
      ((refl, omega arith), omega arith),
      (
        (
          0,
          inr (Var 3 ∷ Var 4 ∷ [], refl, refl),
          λ h. refl,
          (((tt, omega arith), (refl, omega arith)), (((refl, tt), (omega arith, omega arith, omega arith)), tt)),
          refl,
          tt,
        ),
        tt,
      ),
    ),
  ),
  tt,
)

pub raised_instance : RaisedInstance
raised_instance = record { given = refl; alone = refl; called = refl; not_counted = refl }
