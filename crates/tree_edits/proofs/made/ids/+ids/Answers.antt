use Rattle.std.proofs.Common.{◌≡◌, ℕ, ◌≤◌, ◌+◌, ◌++◌, List, drop, refl, sym, ap, subst, append_assoc, ◌∙◌}
use Rattle.std.specs.Prelude.{OnOk}
use Rattle.exo_tree.specs.Tree.{block}
use Rattle.exo_tree.specs.PlainStatement.{statement}
use Rattle.exo_tree.specs.Renaming.{binders, binders_below}
use Rattle.exo_tree.specs.declared.block.Stmt.{Stmt}
use Rattle.tree_edits.proofs.Turns.{one_put, all_put}
use Rattle.tree_edits.proofs.made.ids.+ids.Goals as goal

pub put_block-loop-k-preserved : goal.put_block-loop-k-preserved
put_block-loop-k-preserved t c =
    one_put binders binders_below (λ a b. refl) c.loop-k.ids.items c.put_statement.new.ids.items
    (c.args.ids.now.items ++ binders (block c.args.b.now)) (drop c.loop-k.k c.args.b.now) (drop (c.loop-k.k + 1)
    c.args.b.now)
    (statement c.statement.result.now) c.statement.ensures.value c.in_ok-put_statement.ensures c.loop-k.invariant

pub put_block-returns : goal.put_block-returns
put_block-returns t c =
    all_put binders refl c.loop-k.ids.items (c.args.ids.now.items ++ binders (block c.args.b.now)) c.args.b.now
    c.loop-k.k
    (subst (λ (n : ℕ). n ≤ c.loop-k.k) c.len-k-end.ensures c.loop-k-test.false) c.loop-k.invariant

pub put_statement-returns-in_ok-put_block-in-If : goal.put_statement-returns-in_ok-put_block-in-If
put_statement-returns-in_ok-put_block-in-If t c =
    subst (λ (l : List ℕ). OnOk c.put_block-in-If.result (c.put_block-in-If.new.ids.items ≡ l))
    (ap (λ (l : List ℕ). l ++ binders (block c.in-If.b)) c.in_ok-put_block-in-If.ensures
    ∙ append_assoc c.args.ids.now.items (binders (block c.in-If.a)) (binders (block c.in-If.b))
    ∙ ap (λ (s : Stmt). c.args.ids.now.items ++ binders_below (statement s)) (sym c.in-If.is)) c.put_block-in-If.ensures

pub put_statement-returns-in_ok-push-in-For : goal.put_statement-returns-in_ok-push-in-For
put_statement-returns-in_ok-push-in-For t c =
    subst (λ (l : List ℕ). OnOk c.put_block-in-For.result (c.put_block-in-For.new.ids.items ≡ l))
    (ap (λ (l : List ℕ). l ++ binders (block c.in-For.b)) c.in_ok-push-in-For.ensures.items
    ∙ append_assoc c.args.ids.now.items _ (binders (block c.in-For.b))
    ∙ ap (λ (s : Stmt). c.args.ids.now.items ++ binders_below (statement s)) (sym c.in-For.is))
    c.put_block-in-For.ensures
