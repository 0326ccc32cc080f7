use Rattle.std.proofs.Common.{◌≡◌, take}
use Rattle.affine_systems.proofs.Within.{all_terms}
use Rattle.affine_systems.proofs.list.terms_of.Given as goal

abbrev pub invariant-loop-o : goal.invariant-loop-o
invariant-loop-o l = l.count ≡ all_terms (take l.o-index l.owed)
