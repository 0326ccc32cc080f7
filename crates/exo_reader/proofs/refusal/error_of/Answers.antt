use Rattle.std.proofs.Common.{refl}
use Rattle.text_phrases.specs.Limits.{too_deep, too_long, too_large}
use Rattle.exo_reader.proofs.Units.{says_limit, says_syntax}
use Rattle.exo_reader.proofs.refusal.error_of.Goals as goal

pub returns-in-Syntax : goal.returns-in-Syntax
returns-in-Syntax c = rw c.in-Syntax.is (says_syntax c.args.tokens.now _ _ _ _ c.syntax_kind-kind.ensures c.placed.ensures.kind c.placed.ensures.place)

pub returns-in-TooDeep : goal.returns-in-TooDeep
returns-in-TooDeep c = rw c.in-TooDeep.is (says_limit too_deep c.args.tokens.now _ _ _ _ refl c.placed-in-TooDeep.ensures.kind c.placed-in-TooDeep.ensures.place)

pub returns-in-TooLong : goal.returns-in-TooLong
returns-in-TooLong c = rw c.in-TooLong.is (says_limit too_long c.args.tokens.now _ _ _ _ refl c.placed-in-TooLong.ensures.kind c.placed-in-TooLong.ensures.place)

pub returns-in-TooLarge : goal.returns-in-TooLarge
returns-in-TooLarge c = rw c.in-TooLarge.is (says_limit too_large c.args.tokens.now _ _ _ _ refl c.placed-in-TooLarge.ensures.kind c.placed-in-TooLarge.ensures.place)
