use Rattle.std.proofs.Common.{◌≡◌, drop}
use Rattle.affine_forms.specs.System.{coefficient_of}
use Rattle.affine_forms.proofs.system.Row.coefficient.Given as goal

abbrev pub invariant-loop-term : goal.invariant-loop-term
invariant-loop-term l = coefficient_of l.term-items l.variable ≡ coefficient_of (drop l.term-index l.term-items) l.variable
