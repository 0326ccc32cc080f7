-- The rule that exchanges the sides of a sum or product on the right of a statement.
use Rattle.std.specs.Prelude.{ℕ, nat_lt, if◌then◌else◌, Option, Some, None, option_map}
use Rattle.std.specs.Prelude.{option_and_then}
use Rattle.exo_tree.specs.Tree.{Datum, Statement, Assign, Reduce, For, Block, end, next}
use Rattle.cursor_forward.specs.Search.Patterns as pattern
use Rattle.cursor_forward.specs.Search.Patterns.{ExprForm, ExprPattern}
use Rattle.cursor_forward.specs.Shifts.{stays}
use Rattle.step_rules.specs.Rule.{Rule, plain_rule}
use Rattle.step_rules.specs.Shapes.{tried, alone_in, one_statement}
use Rattle.proc_laws.specs.Expression.Exchange.{Operation, Sum, Product, matches, exchanged}

-- a pattern of another form matches no sum and no product
abbrev pub operation_of : ExprForm → Option Operation
operation_of (pattern.Read x) = None
operation_of pattern.Add = Some Sum
operation_of pattern.Sub = None
operation_of pattern.Mul = Some Product

abbrev pub commuted_by : ℕ → Datum → Operation → Option Datum
commuted_by k e o = if nat_lt k (matches o e) then Some (exchanged o e k) else None

-- the sides of the match exchanged, where there is one
abbrev pub commuted : ExprPattern → Datum → Option Datum
commuted x e = option_and_then (commuted_by x.nth e) (operation_of x.form)

abbrev pub commuted_statement : ExprPattern → Statement → Option Statement
commuted_statement x (Assign y is e) = option_map (Assign y is) (commuted x e)
commuted_statement x (Reduce y is e) = option_map (Reduce y is) (commuted x e)
commuted_statement x _ = None

-- of a statement that is all of a block
abbrev pub commuted_alone : ExprPattern → Block → Option Statement
commuted_alone x b = option_and_then (commuted_statement x) (alone_in b)

abbrev pub commute_rule : ExprPattern → Rule
commute_rule x =
    plain_rule (one_statement (commuted_alone x))
    (λ s base. tried (commuted_alone x s.opened.piece) (λ a. next a end))
    (λ s. stays 1)
