use Rattle.std.proofs.Common.{◌≡◌, ◌==◌, ◌||◌, ◌≤◌, ◌+◌, OnOk, length, drop, ap, sym, ◌∙◌, subst, arith}
use Rattle.std.proofs.lemmas.List.{drop_all}
use Rattle.exo_tree.specs.Tree.{block}
use Rattle.exo_tree.specs.PlainStatement.{statement}
use Rattle.meaning_laws.specs.Scoped.{has_binder, step_has_binder}
use Rattle.block_matches.specs.Pairs.Held.{ids_in}
use Rattle.block_matches.proofs.OfPairs.Bound.{joined}
use Rattle.block_matches.proofs.pairs.ids.IdSet.+insert.Goals as goal

pub insert_block-loop-k-preserved : goal.insert_block-loop-k-preserved
insert_block-loop-k-preserved t c =
    let rest = block (drop (c.loop-k.k + 1) c.args.b.now) in
    joined (step_has_binder (statement c.statement.result.now)) (has_binder rest) (ids_in c.loop-k.self) (ids_in c.insert_statement.new.self) c.in_ok-insert_statement.ensures
    ∙ ap (λ l y. has_binder (block l) y || ids_in c.loop-k.self y) (sym c.statement.ensures.value)
    ∙ c.loop-k.invariant

pub insert_block-returns : goal.insert_block-returns
insert_block-returns t c =
    let ends : length c.args.b.now ≤ c.loop-k.k = omega (arith, c.loop-k-test.false, c.len-k-end.ensures) in
    ap (λ l y. has_binder (block l) y || ids_in c.loop-k.self y) (sym (drop_all c.loop-k.k c.args.b.now ends))
    ∙ c.loop-k.invariant

pub insert_statement-returns-in_ok-insert_block-in-If : goal.insert_statement-returns-in_ok-insert_block-in-If
insert_statement-returns-in_ok-insert_block-in-If t c =
    let both = joined (has_binder (block c.in-If.a)) (has_binder (block c.in-If.b)) (ids_in c.args.self.now) (ids_in c.insert_block.new.self) c.in_ok-insert_block-in-If.ensures in
    subst (λ f. OnOk c.insert_block-in-If.result (ids_in c.insert_block-in-If.new.self ≡ f))
    (both ∙ ap (λ s y. step_has_binder (statement s) y || ids_in c.args.self.now y) (sym c.in-If.is))
    c.insert_block-in-If.ensures

pub insert_statement-returns-in_ok-insert-in-For : goal.insert_statement-returns-in_ok-insert-in-For
insert_statement-returns-in_ok-insert-in-For t c =
    let both = joined (λ y. y == c.in-For.i.id.0) (has_binder (block c.in-For.b)) (ids_in c.args.self.now) (ids_in c.insert.new.self) c.in_ok-insert-in-For.ensures in
    subst (λ f. OnOk c.insert_block-in-For.result (ids_in c.insert_block-in-For.new.self ≡ f))
    (both ∙ ap (λ s y. step_has_binder (statement s) y || ids_in c.args.self.now y) (sym c.in-For.is))
    c.insert_block-in-For.ensures
