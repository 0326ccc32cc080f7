use Rattle.std.proofs.Common.{◌≡◌, false, true, sym, subst, refl}
use Rattle.schedule_text.specs.Grammar.{BeginsMove}
use Rattle.schedule_text.proofs.Moving.{begins_bracket}
use Rattle.schedule_text.proofs.moves.begins_move.Goals as goal

pub returns-then-stands_first : goal.returns-then-stands_first
returns-then-stands_first c = (λ h. subst BeginsMove (sym (c.if-stands_first.ensures.0 refl)) tt, λ begins. refl)

pub returns : goal.returns
returns c = (λ h. subst BeginsMove (sym (c.stands_first-2.ensures.0 h)) tt, λ begins. c.stands_first-2.ensures.1 (begins_bracket _ (λ e. let h : false ≡ true = c.if-stands_first.ensures.1 e in cc (h)) begins))
