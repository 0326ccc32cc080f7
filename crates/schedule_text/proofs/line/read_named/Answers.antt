use Rattle.std.proofs.Common.{◌≡◌, false, true, refl}
use Rattle.schedule_text.proofs.Lines.{line_stuck}
use Rattle.schedule_text.proofs.line.read_named.Goals as goal

pub returns-in-Some : goal.returns-in-Some
returns-in-Some c = rw c.in-Some.ensures c.read_bind.ensures

pub returns-then-is_emit : goal.returns-then-is_emit
returns-then-is_emit c = rw (c.if-is_emit.ensures.0 refl) c.read_emit.ensures

pub returns : goal.returns
returns c = line_stuck _ _ c.requires c.in_default.ensures (λ is. let h : false ≡ true = c.if-is_emit.ensures.1 is in cc (h))
