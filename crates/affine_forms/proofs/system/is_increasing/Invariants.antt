use Rattle.std.proofs.Common.{◌≡◌, map, drop}
use Rattle.affine_forms.specs.Bounds.{is_increasing, is_increasing_from}
use Rattle.affine_forms.proofs.system.is_increasing.Given as goal

abbrev pub invariant-loop-term : goal.invariant-loop-term
invariant-loop-term l = is_increasing (map (λ t. t.variable) l.terms) ≡ is_increasing_from l.low (map (λ t. t.variable) (drop l.term-index l.terms))
