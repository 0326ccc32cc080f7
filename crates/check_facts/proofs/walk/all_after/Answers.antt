use Rattle.std.proofs.Common.{◌≡◌, sym, subst}
use Rattle.std.specs.Prelude.{OnOk}
use Rattle.exo_tree.specs.PlainStatement.{statement}
use Rattle.meaning_laws.specs.KnownFields.{after}
use Rattle.check_facts.specs.Tables.{known_in}
use Rattle.check_facts.specs.Walks.{telling_of}
use Rattle.check_facts.proofs.Fields.{all_same}
use Rattle.check_facts.proofs.walk.all_after.Goals as goal

pub returns-in-Config : goal.returns-in-Config
returns-in-Config c =
    let tell = telling_of c.args.basis.now in
    let path = c.args.path.now in
    let old = known_in c.args.known.now in
    let new = known_in c.set.new.self in
    all_same c.set.result c.args.basis.now.count new (after tell path (statement c.args.s.now) old) (subst (λ s. OnOk c.set.result (new ≡ after tell path (statement s) old)) (sym c.in-Config.is) c.set.ensures)
