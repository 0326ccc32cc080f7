-- The plain form of a call, and the fields in which a version may differ from what is called.
use Rattle.std.specs.Prelude.{ℕ, List, Option, Some, None}
use Rattle.exo_tree.specs.Tree.{Argument, Statement, Call}
use Rattle.config_laws.specs.CallEqv.{version_fields}
use Rattle.step_driver.specs.declared.target.Target.{Target}
use Rattle.step_driver.specs.PlainTarget.{target}
use Rattle.field_rewrites.specs.declared.calls.CallAt.{CallAt}

-- the number of a procedure, and its arguments
abbrev pub call_of : Option Statement → Option (ℕ × List Argument)
call_of (Some (Call k args)) = Some (k, args)
call_of s = None

abbrev pub plain_call : CallAt → ℕ × List Argument
plain_call c = (c.callee.0, c.args.now)

-- the fields in which the version of a number may differ from what a statement calls
abbrev pub fields_called : Target → ℕ → Option Statement → List ℕ
fields_called on j s = version_fields (target on).unit (target on).origins j s
