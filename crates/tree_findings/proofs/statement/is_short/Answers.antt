use Rattle.std.proofs.Common.{◌^◌, ℕ, nat_lt, ap, sym, ◌∙◌}
use Rattle.tree_findings.proofs.Counts.{many}
use Rattle.tree_findings.proofs.statement.is_short.Goals as goal

pub returns : goal.returns
returns c = ap (λ (n : ℕ). nat_lt n (2 ^ 31)) (c.len.ensures ∙ sym (many c.args.b.now))
