use Rattle.std.proofs.Common.{◌≡◌, map, drop}
use Rattle.affine_forms.specs.Bounds.{are_below}
use Rattle.affine_forms.proofs.system.are_below.Given as goal

abbrev pub invariant-loop-row : goal.invariant-loop-row
invariant-loop-row l = are_below l.n (map (λ r. map (λ t. t.variable) r.terms.items) l.rows) ≡ are_below l.n (map (λ r. map (λ t. t.variable) r.terms.items) (drop l.row-index l.rows))
