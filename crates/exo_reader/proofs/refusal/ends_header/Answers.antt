use Rattle.std.proofs.Common.{arith, ap, sym, length, ◌-◌, ◌∙◌}
use Rattle.text_phrases.specs.Phrase.{first}
use Rattle.exo_reader.proofs.Units.{header_there, header_back, no_header, short_header, tail_is}
use Rattle.exo_reader.proofs.refusal.ends_header.Goals as goal

pub returns-then-before-lt2 : goal.returns-then-before-lt2
returns-then-before-lt2 c = (λ h. cc (h), λ ends. absurd (short_header c.args.before.now (omega arith) ends))

pub returns-in_default : goal.returns-in_default
returns-in_default c = (λ h. cc (h), λ ends. absurd (no_header c.args.before.now (λ e. c.in_default.ensures (ap first (tail_is c.args.before.now (length c.args.before.now - 2)) ∙ e)) ends))

pub returns : goal.returns
returns c = (λ h. header_there c.args.before.now _ (omega arith) (sym (tail_is c.args.before.now (length c.args.before.now - 2)) ∙ c.in-Some.ensures) (c.stands_first.ensures.0 h), λ ends. c.stands_first.ensures.1 (header_back c.args.before.now _ (sym (tail_is c.args.before.now (length c.args.before.now - 2)) ∙ c.in-Some.ensures) ends))
