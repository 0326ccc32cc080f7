use Rattle.std.proofs.Common.{sym, subst}
use Rattle.exo_tree.specs.PlainStatement.{statement}
use Rattle.exo_tree.specs.Places.{Path}
use Rattle.schedule_run.specs.Changed.{ChangedAt}
use Rattle.schedule_run.proofs.Changing.{stores_at}
use Rattle.schedule_run.proofs.changed.if_stores.Goals as goal

pub returns-then-is_store-2 : goal.returns-then-is_store-2
returns-then-is_store-2 c =
    let a = statement c.args.a.now in
    let b = statement c.args.b.now in
    subst (λ (found : Path). ChangedAt c.args.path.now found a b) (sym c.duplicate.ensures)
    (stores_at c.args.path.now a b (c.is_store.ensures c.if-is_store.true)
    (c.is_store-then-is_store.ensures c.if-is_store-2.true))
