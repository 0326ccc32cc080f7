use Rattle.std.proofs.Common.{length, subst, sym, ap, arith, refl}
use Rattle.exo_reader.specs.Texts.{IsAtEnd}
use Rattle.exo_reader.proofs.Units.{not_at_end, at_end}
use Rattle.exo_reader.proofs.refusal.is_at_end.Goals as goal

pub more-init : goal.more-init
more-init c = record { there = λ h. h; back = λ h. h }

pub more-preserved : goal.more-preserved
more-preserved c = record { there = λ h. subst IsAtEnd c.in-Some.ensures (c.more.invariant.there h); back = λ h. c.more.invariant.back (subst IsAtEnd (sym c.in-Some.ensures) h) }

pub more-smaller : goal.more-smaller
more-smaller c = omega (arith, ap length c.in-Some.ensures)

pub returns-in-None : goal.returns-in-None
returns-in-None c = (λ h. c.more.invariant.back (at_end _ c.in-None.ensures), λ ends. refl)

pub returns-in-Some-next : goal.returns-in-Some-next
returns-in-Some-next c = (λ h. cc (h), λ ends. absurd (not_at_end _ _ _ c.in-Some-next.ensures c.in_default.ensures (c.more.invariant.there ends)))
