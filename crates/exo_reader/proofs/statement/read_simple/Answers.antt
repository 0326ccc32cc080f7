use Rattle.std.proofs.Common.{◌≡◌, false, true, sym}
use Rattle.exo_reader.proofs.Statements.{statement_start, statement_end, statement_long}
use Rattle.exo_reader.proofs.statement.read_simple.Goals as goal

pub returns-in_default : goal.returns-in_default
returns-in_default c = λ nesting. statement_end _ _ c.in_default.ensures

pub returns-in_default-token : goal.returns-in_default-token
returns-in_default-token c = λ nesting. statement_start _ _ _ _ c.in-Some.ensures c.requires.no_word c.in_default-token.not-Name

pub returns-else-is_short : goal.returns-else-is_short
returns-else-is_short c = λ nesting. statement_long _ _ _ _ (rw c.in-Name.is at c.in-Some.ensures) (λ short. let h : false ≡ true = c.if-is_short.ensures.1 short in cc)

pub returns-then-is_short : goal.returns-then-is_short
returns-then-is_short c =
    λ nesting. rw (c.in-Some.ensures, c.in-Name.is, sym c.in_ok-copy-in-Name.ensures) (c.read_named.ensures nesting)
