-- The entries behind do not have that number.
use Rattle.std.proofs.Common.{◌≡◌, ◌-◌, length, take}
use Rattle.c_lowering.specs.Scope.{forms_in}
use Rattle.c_lowering.proofs.scope.find.Given as goal

abbrev pub invariant-loop-k : goal.invariant-loop-k
invariant-loop-k l = forms_in (take (length l.scope - l.k) l.scope) l.x.0 ≡ forms_in l.scope l.x.0
