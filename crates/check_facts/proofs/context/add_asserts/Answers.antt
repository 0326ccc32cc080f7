use Rattle.std.proofs.Common.{◌+◌, [], ◌∷◌, map, drop, ap, sym, refl, subst, Ok, arith}
use Rattle.std.proofs.lemmas.List.{drop_all}
use Rattle.exo_tree.specs.PlainControl.{condition}
use Rattle.meaning_laws.specs.Facts.{Holds}
use Rattle.meaning_laws.specs.KnownFields.{at_entry}
use Rattle.affine_forms.specs.Formulas.{condition_keeps_rules}
use Rattle.check_facts.specs.Tables.{known_in}
use Rattle.check_facts.specs.Walks.{known_first}
use Rattle.check_facts.proofs.Adding.{Came, none_added}
use Rattle.check_facts.proofs.Beginning.{entry_same, parts_added, part_refused, first_assert, rest_keeps, drop_read}
use Rattle.check_facts.proofs.context.add_asserts.Goals as goal

pub returns-in_err-add_holds : goal.returns-in_err-add_holds
returns-in_err-add_holds c =
    let xs = c.as_slice-c-items.result.now in
    let read = ap (map condition) (drop_read xs c.loop-c.c-index c.c-item.result c.c-item.is c.loop-c-test.true) in
    let rest = map condition (drop (c.loop-c.c-index + 1) xs) in
    let known = entry_same c.args.basis.now.count (known_in c.args.known.now) c.requires.entry in
    let one = record { known = at_entry; fact = Holds (condition c.c-item.result) } ∷ [] in
    c.loop-c.invariant.rest c.from_residual.result c.add_holds.new.context
    (part_refused c.from_residual.result c.args.basis.now _ one (known_first (map Holds rest)) c.loop-c.context _ _
    (first_assert (condition c.c-item.result) _ rest read) c.from_residual.ensures.1 (c.in_err-add_holds.ensures at_entry known))

pub loop-c-preserved : goal.loop-c-preserved
loop-c-preserved c =
    let xs = c.as_slice-c-items.result.now in
    let read = ap (map condition) (drop_read xs c.loop-c.c-index c.c-item.result c.c-item.is c.loop-c-test.true) in
    let rest = map condition (drop (c.loop-c.c-index + 1) xs) in
    let known = entry_same c.args.basis.now.count (known_in c.args.known.now) c.requires.entry in
    let one = record { known = at_entry; fact = Holds (condition c.c-item.result) } ∷ [] in
    record {
      rest = λ r new more. c.loop-c.invariant.rest r new
          (parts_added r c.args.basis.now _ one (known_first (map Holds rest)) c.loop-c.context c.add_holds.new.context new
          (first_assert (condition c.c-item.result) _ rest read) (c.in_ok-add_holds.ensures at_entry known) more);
      rules = rest_keeps condition_keeps_rules (condition c.c-item.result) _ rest read c.loop-c.invariant.rules;
    }

pub returns : goal.returns
returns c =
    let none = drop_all c.loop-c.c-index c.as_slice-c-items.result.now (omega (arith, c.loop-c-test.false)) in
    c.loop-c.invariant.rest (Ok tt) c.loop-c.context (subst (λ cs. Came c.args.basis.now (known_first (map Holds (map condition cs))) c.loop-c.context c.loop-c.context) (sym none) (none_added c.args.basis.now c.loop-c.context c.loop-c.context refl))
