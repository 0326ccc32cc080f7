use Rattle.std.proofs.Common.{sym}
use Rattle.exo_reader.proofs.Units.{kind_some, kind_none}
use Rattle.exo_reader.proofs.refusal.syntax_kind.Goals as goal

pub returns-in-Some : goal.returns-in-Some
returns-in-Some c = kind_some _ _ _ (sym c.in-Some.ensures)

pub returns-in-None : goal.returns-in-None
returns-in-None c = kind_none _ _ _ (sym c.in-None.ensures) c.header_kind.ensures
