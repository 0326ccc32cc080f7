use Rattle.std.proofs.Common.{map}
use Rattle.exo_tree.specs.PlainControl.{condition}
use Rattle.affine_forms.specs.PlainFormulas.{plain_formula}
use Rattle.affine_places.specs.Seen.{roots_in}
use Rattle.affine_systems.specs.Outcomes.{plain_obligation}
use Rattle.check_claims.specs.Claim.{Is}
use Rattle.bounds_check.specs.Errors.{error_of}
use Rattle.bounds_check.specs.Sites.{unit_at, proc_at}
use Rattle.bounds_check.proofs.Owing.{refused, form_refused, systems_refused, systems_owe, owes_all}
use Rattle.bounds_check.proofs.Owing.{too_many}
use Rattle.bounds_check.proofs.claims.put_condition.Goals as goal

pub returns-in_err-formula : goal.returns-in_err-formula
returns-in_err-formula c =
    let s = c.args.standing.now in
    let at = c.args.at.now in
    let says = condition c.args.says.now in
    let e = c.in_err-formula.field-0.0 in
    refused (unit_at s) (proc_at s) s.path.now (Is says c.args.text.now) c.args.out.now c.from_residual.result
    c.args.out.now (error_of e) c.from_residual.ensures.1
    (form_refused s says c.args.text.now at.fields.now (roots_in at.roots.now) at.facts.now c.args.context.now
    c.requires.told c.args.out.now e c.in_err-formula.ensures)

pub returns-in_err-owed : goal.returns-in_err-owed
returns-in_err-owed c =
    let s = c.args.standing.now in
    let at = c.args.at.now in
    let says = condition c.args.says.now in
    let e = c.in_err-owed.field-0.0 in
    refused (unit_at s) (proc_at s) s.path.now (Is says c.args.text.now) c.args.out.now
    c.from_residual-in_err-owed.result c.args.out.now (error_of e) c.from_residual-in_err-owed.ensures.1
    (systems_refused s says c.args.text.now at.fields.now (roots_in at.roots.now) at.facts.now c.args.context.now
    c.requires.told (plain_formula c.in_ok-formula.formula) c.in_ok-formula.ensures c.args.out.now e
    c.in_err-owed.ensures.exact)

pub returns-in_err-push_all : goal.returns-in_err-push_all
returns-in_err-push_all c =
    let s = c.args.standing.now in
    let at = c.args.at.now in
    let says = condition c.args.says.now in
    let os = c.in_ok-owed.owed.items in
    let e = c.in_err-push_all.field-0.0 in
    refused (unit_at s) (proc_at s) s.path.now (Is says c.args.text.now) c.args.out.now
    c.from_residual-in_err-push_all.result c.push_all.new.self (error_of e) c.from_residual-in_err-push_all.ensures.1
    (too_many (unit_at s) (proc_at s) s.path.now (Is says c.args.text.now) c.args.out.now (map plain_obligation os)
    (systems_owe s says c.args.text.now at.fields.now (roots_in at.roots.now) at.facts.now c.args.context.now
    c.requires.told (plain_formula c.in_ok-formula.formula) c.in_ok-formula.ensures os c.in_ok-what.what
    c.in_ok-what.ensures c.in_ok-owed.ensures.exact)
    e c.push_all.new.self c.in_err-push_all.ensures)

pub returns : goal.returns
returns c =
    let s = c.args.standing.now in
    let at = c.args.at.now in
    let says = condition c.args.says.now in
    let os = c.in_ok-owed.owed.items in
    owes_all (unit_at s) (proc_at s) s.path.now (Is says c.args.text.now) c.args.out.now (map plain_obligation os)
    (systems_owe s says c.args.text.now at.fields.now (roots_in at.roots.now) at.facts.now c.args.context.now
    c.requires.told (plain_formula c.in_ok-formula.formula) c.in_ok-formula.ensures os c.in_ok-what.what
    c.in_ok-what.ensures c.in_ok-owed.ensures.exact)
    c.push_all.new.self c.in_ok-push_all.ensures
