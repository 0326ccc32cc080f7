use Rattle.std.proofs.Common.{◌∙◌, subst}
use Rattle.std.specs.Prelude.{IfSome}
use Rattle.std.proofs.lemmas.Option.{same_Some}
use Rattle.exo_tree.specs.Tree.{Procedure}
use Rattle.exo_tree.specs.PlainProcedure.{procedure}
use Rattle.schedule_laws.specs.Owed.Stores.{StoreChanged}
use Rattle.schedule_run.proofs.running.Running.store_between.Goals as goal

pub returns : goal.returns
returns c = λ a b e f.
    let old = procedure c.in-Some.old.now in
    subst (λ (x : Procedure). IfSome c.changed_store.result
    (λ path. StoreChanged path x.body b.body))
    (same_Some old a (c.in-Some.ensures ∙ e))
    (subst (λ (y : Procedure). IfSome c.changed_store.result
    (λ path. StoreChanged path old.body y.body))
    (same_Some (procedure c.in-Some-get.new.now) b (c.in-Some-get.ensures ∙ f))
    c.changed_store.ensures)
