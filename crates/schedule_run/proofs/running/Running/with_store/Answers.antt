use Rattle.std.proofs.Common.{◌≡◌, Global, Option, Some, subst}
use Rattle.std.specs.Prelude.{Ok, IfSome, slice_get}
use Rattle.std.proofs.lemmas.Option.{IfSome_then}
use Rattle.exo_tree.specs.Tree.{Procedure}
use Rattle.exo_tree.specs.PlainUnit.{program}
use Rattle.bounds_check.specs.Outcomes.{AreOwedThere}
use Rattle.schedule_run.specs.Follows.{Follows}
use Rattle.schedule_run.specs.declared.running.Latest.{Latest}
use Rattle.schedule_run.proofs.Following.{owes_its_store}
use Rattle.schedule_run.proofs.running.Running.with_store.Goals as goal

pub returns : goal.returns
returns c = λ q at.
    let v = program c.args.self.now.session.unit in
    let k = c.args.k.0 in
    let l = c.in-Some.latest in
    let path = c.in-Some-store_between.path in
    let follows =
    subst (λ (o : Option Latest). IfSome o (λ l. l.version.0 ≡ k → (q : Procedure)
    → slice_get v.procedures c.args.p.0 ≡ Some q → Follows l.owed.items k v q))
    c.in-Some.is c.requires.follows in
    let f = follows (c.is_of.ensures c.if-not-is_of.false) q at in
    let listed =
    subst (λ (o : Option Procedure). AreOwedThere {A = Global} (Ok c.in-Ok.own) v o path) at
    c.in-Ok.ensures in
    IfSome_then c.spliced.result c.spliced.ensures
    (λ os s. owes_its_store c.changed_stores_owe_their_own.ensures l.owed.items c.in-Ok.own.items
    os.items k v q
    path f (λ p there. c.in-Some-store_between.ensures p q there at) listed s)
