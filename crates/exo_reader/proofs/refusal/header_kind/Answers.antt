use Rattle.std.proofs.Common.{◌≡◌, false, true, refl}
use Rattle.exo_reader.proofs.refusal.header_kind.Goals as goal

pub returns-then-is_at_end : goal.returns-then-is_at_end
returns-then-is_at_end c = λ ends. c.if-is_at_end.ensures.0 refl

pub returns-then-ends_header : goal.returns-then-ends_header
returns-then-ends_header c = (c.if-ends_header.ensures.0 refl, λ ends. let h : false ≡ true = c.if-is_at_end.ensures.1 ends in cc (h))

pub returns : goal.returns
returns c = λ ends. absurd (let h : false ≡ true = c.if-ends_header.ensures.1 ends in cc (h))
