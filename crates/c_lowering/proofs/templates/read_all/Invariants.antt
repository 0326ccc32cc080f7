-- What was read and the rest make the template's parts.
use Rattle.std.proofs.Common.{◌≡◌, ◌++◌, ℕ, List}
use Rattle.exo_meaning.specs.Units.{Plain}
use Rattle.c_lowering.specs.Made.LoweredUnit.{holes_from}
use Rattle.c_lowering.specs.Reader.{all_parts}
use Rattle.c_lowering.proofs.templates.read_all.Given as goal
use lib.Utf8.{encodes}

abbrev pub invariant-loop-c : goal.invariant-loop-c
invariant-loop-c l = (rest : List ℕ) → holes_from Plain (encodes l.yielded ++ rest) ≡ all_parts l.reader rest
