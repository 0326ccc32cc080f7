use Rattle.std.proofs.Common.{ap, sym, subst}
use Rattle.exo_tree.specs.PlainBinder.{control_kind}
use Rattle.meaning_laws.specs.Known.{kind_facts}
use Rattle.meaning_laws.specs.KnownFields.{at_entry}
use Rattle.check_facts.specs.Tables.{known_in}
use Rattle.check_facts.specs.Walks.{Added, known_first}
use Rattle.check_facts.proofs.Beginning.{entry_same, parts_added, part_refused, from_zero, up_to_one}
use Rattle.check_facts.proofs.context.add_kind.Goals as goal

pub returns-in_err-add_at_most-in-Bool : goal.returns-in_err-add_at_most-in-Bool
returns-in_err-add_at_most-in-Bool c =
    let known = entry_same c.args.basis.now.count (known_in c.args.known.now) c.requires in
    part_refused c.from_residual.result c.args.basis.now _ (from_zero c.args.x.0) (up_to_one c.args.x.0) _ _ _ (ap (λ kind. known_first (kind_facts c.args.x.0 (control_kind kind))) c.in-Bool.is) c.from_residual.ensures.1 (c.in_err-add_at_most-in-Bool.ensures at_entry known)

pub returns-in-Size : goal.returns-in-Size
returns-in-Size c =
    let known = entry_same c.args.basis.now.count (known_in c.args.known.now) c.requires in
    subst (λ kind. Added c.add_at_most.result c.args.basis.now (known_first (kind_facts c.args.x.0 (control_kind kind))) c.args.context.now c.add_at_most.new.context) (sym c.in-Size.is) (c.add_at_most.ensures at_entry known)

pub returns-in_ok-add_at_most-in-Bool : goal.returns-in_ok-add_at_most-in-Bool
returns-in_ok-add_at_most-in-Bool c =
    let known = entry_same c.args.basis.now.count (known_in c.args.known.now) c.requires in
    parts_added c.add_at_most-in-Bool-2.result c.args.basis.now _ (from_zero c.args.x.0) (up_to_one c.args.x.0) _ _ _ (ap (λ kind. known_first (kind_facts c.args.x.0 (control_kind kind))) c.in-Bool.is) (c.in_ok-add_at_most-in-Bool.ensures at_entry known) (c.add_at_most-in-Bool-2.ensures at_entry known)
