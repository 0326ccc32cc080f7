use Rattle.std.proofs.Common.{length, take, ap, sym, ◌∙◌}
use Rattle.exo_tree.specs.Tree.{Statement, block}
use Rattle.exo_tree.specs.PlainBinder.{binding}
use Rattle.exo_tree.specs.PlainStatement.{statement}
use Rattle.tree_edits.specs.Made.Names.{Naming, tops, with_binder, name_statement, name_statements}
use Rattle.tree_edits.specs.Made.Walked.{naming, top_level}
use Rattle.tree_edits.proofs.OfMade.Scopes.{back, back_from_loop}
use Rattle.tree_edits.proofs.made.naming.NamingWalk.+naming.Goals as goal

pub branch-returns : goal.branch-returns
branch-returns t c =
    let n = naming c.args.self.now in
    let b = block c.args.b.now in
    let e = c.in_ok-statements.ensures in
    let s =
    c.truncate.ensures.items
    ∙ ap (λ k. take k c.statements.new.self.scope.items) (c.len-known.ensures ∙ c.args.self.now.scope.ok.0)
    ∙ ap (λ (m : Naming). take (length n.scope) m.scope) e
    ∙ back c.args.copies (tops c.args.copies b) n b in
    λ j. record { scope = s j; taken = (e j).taken; given = (e j).given }

pub statement-returns-in_ok-statements-in-For : goal.statement-returns-in_ok-statements-in-For
statement-returns-in_ok-statements-in-For t c =
    let n = naming c.args.self.now in
    let top = top_level c.args.top.now in
    let i = binding c.in-For.i in
    let b = block c.in-For.b in
    let inner = tops c.args.copies b in
    let e =
    c.in_ok-statements-in-For.ensures
    ∙ ap (λ (m : Naming). name_statements c.args.copies inner m b)
    (c.in_ok-bind-in-For.ensures ∙ ap (λ names. with_binder c.args.copies names n i) c.as_slice.ensures.value) in
    let s =
    c.truncate.ensures.items
    ∙ ap (λ k. take k c.statements.new.self.scope.items) (c.len-known.ensures ∙ c.args.self.now.scope.ok.0)
    ∙ ap (λ (m : Naming). take (length n.scope) m.scope) e
    ∙ back_from_loop c.args.copies top.all inner n i b in
    (λ j. record { scope = s j; taken = (e j).taken; given = (e j).given })
    ∙ ap (λ (a : Statement). name_statement c.args.copies top n a) (sym (ap statement c.in-For.is))
