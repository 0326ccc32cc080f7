-- The plain form of an argument that a field may stand for, and what is made with it.
use Rattle.std.specs.Prelude.{◌≡◌, ℕ, List, Option, Some, option_map, IfSome}
use Rattle.exo_tree.specs.Tree.{Statement, Call, Block}
use Rattle.exo_tree.specs.PlainArgument.{argument}
use Rattle.config_laws.specs.BindConfig.{Bound, bound_by, write_and_call}
use Rattle.step_driver.specs.declared.target.Target.{Target}
use Rattle.step_driver.specs.PlainTarget.{target}
use Rattle.field_rewrites.specs.declared.bound.BoundAt.{BoundAt}
use Rattle.field_rewrites.specs.PlainCall.{call_of, plain_call}
use Rattle.field_rewrites.specs.Binding.{with_field}

-- with a field in the place of the argument
abbrev pub plain_bound : ℕ → BoundAt → Bound
plain_bound f b = record {
  value = argument b.value.now;
  args = with_field f b.index b.call.args.now;
}

-- the argument of what is called there, for the parameter of a name
abbrev pub IsBound : Target → List ℕ → Option Statement → Option BoundAt → Type 0
IsBound on x s found =
    (f : ℕ) → option_map (plain_bound f) found ≡ bound_by (target on).unit.procedures x f s

abbrev pub IsCallOf : Option Statement → Option BoundAt → Type 0
IsCallOf s found = IfSome found (λ b. call_of s ≡ Some (plain_call b.call))

-- the call with the field, and the write before it
abbrev pub call_bound : ℕ → BoundAt → Statement
call_bound f b = Call b.call.callee.0 (plain_bound f b).args

abbrev pub bound_block : ℕ → BoundAt → Block
bound_block f b = write_and_call f b.call.callee.0 (plain_bound f b)
