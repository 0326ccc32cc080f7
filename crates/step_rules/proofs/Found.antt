-- Findings of two.
use Rattle.std.proofs.Common.{◌≡◌, Bool, true, ◌&&◌}
use Rattle.meaning_laws.proofs.Substitute.{and_parts}
use Rattle.tree_findings.specs.declared.findings.Findings.{Findings}
use Rattle.tree_findings.specs.Classes.{both, all_kept}

pub and_true : {a b : Bool} → a ≡ true → b ≡ true → (a && b) ≡ true
and_true p q = cc

-- what is kept of both is kept of each
pub both_kept : (f g : Findings) → all_kept (both f g) ≡ true
    → (all_kept f ≡ true) × (all_kept g ≡ true)
both_kept f g h =
    let a = and_parts ((f.rules && g.rules) && (f.scope && g.scope))
    ((f.names && g.names) && (f.limits && g.limits)) h in
    let b = and_parts (f.rules && g.rules) (f.scope && g.scope) a.0 in
    let c = and_parts (f.names && g.names) (f.limits && g.limits) a.1 in
    let r = and_parts f.rules g.rules b.0 in
    let s = and_parts f.scope g.scope b.1 in
    let n = and_parts f.names g.names c.0 in
    let l = and_parts f.limits g.limits c.1 in
    (and_true (and_true r.0 s.0) (and_true n.0 l.0), and_true (and_true r.1 s.1) (and_true n.1 l.1))
