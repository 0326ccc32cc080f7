use Rattle.std.proofs.Common.{◌≡◌, map, drop}
use Rattle.std.specs.Prelude.{nat_lt}
use Rattle.std.specs.List.{list_all}
use Rattle.affine_forms.proofs.system.Row.is_below.Given as goal

abbrev pub invariant-loop-term : goal.invariant-loop-term
invariant-loop-term l = list_all (λ x. nat_lt x l.n) (map (λ t. t.variable) l.term-items) ≡ list_all (λ x. nat_lt x l.n) (map (λ t. t.variable) (drop l.term-index l.term-items))
