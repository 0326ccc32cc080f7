-- Several parts one after the other.
use Rattle.std.proofs.Common.{◌≡◌}
use Rattle.std.proofs.Math.Bool.{and_assoc, and-true}
use Rattle.tree_findings.specs.declared.findings.Findings.{Findings}
use Rattle.tree_findings.specs.Classes.{fine, both}

pub both_fine : (f : Findings) → both f fine ≡ f
both_fine f = λ i. record {
  rules = and-true f.rules i;
  scope = and-true f.scope i;
  names = and-true f.names i;
  limits = and-true f.limits i;
}

pub both_turned : (f g h : Findings) → both (both f g) h ≡ both f (both g h)
both_turned f g h = λ i. record {
  rules = and_assoc f.rules g.rules h.rules i;
  scope = and_assoc f.scope g.scope h.scope i;
  names = and_assoc f.names g.names h.names i;
  limits = and_assoc f.limits g.limits h.limits i;
}
