-- The arguments that are left decide.
use Rattle.std.proofs.Common.{◌≡◌, drop}
use Rattle.exo_types.specs.ArgumentRules.{is_passed}
use Rattle.exo_types.proofs.call.is_passed.Given as goal

abbrev pub invariant-loop-before : goal.invariant-loop-before
invariant-loop-before l = is_passed l.now (drop l.before-index l.passed) ≡ is_passed l.now l.passed
