use Rattle.std.proofs.Common.{◌≡◌, [], Option, None, Some, map, slice_get, sym, ap, ◌∙◌, subst}
use Rattle.std.specs.List.{list_all}
use Rattle.exo_tree.specs.Tree.{Procedure}
use Rattle.exo_tree.specs.PlainProcedure.{procedure}
use Rattle.exo_tree.specs.PlainUnit.{program}
use Rattle.check_claims.specs.Claims.{claims_there}
use Rattle.check_claims.specs.PlainClaim.{placed}
use Rattle.bounds_check.specs.Laws.{may_be_owed}
use Rattle.bounds_check.specs.Outcomes.{AreOwedFor, AreOwedThere}
use Rattle.bounds_check.proofs.Own.{own_may_be_owed}
use Rattle.bounds_check.proofs.WellFormed.{walked, unit_formed, few_fields, extents_there}
use Rattle.bounds_check.proofs.list.obligations_there.Goals as goal

pub of-requires : goal.of-requires
of-requires c =
    let found : slice_get (program c.args.unit.now).procedures c.args.p.0 ≡ Some (procedure c.in-Some.proc.now) =
    sym c.in-Some.ensures in
    extents_there (procedure c.in-Some.proc.now)
    (walked c.well_formed_procedures_may_be_walked.ensures (program c.args.unit.now) c.args.p.0 (procedure c.in-Some.proc.now)
    c.requires.unit found)

pub obligations_of_claims-requires-clause-site : goal.obligations_of_claims-requires-clause-site
obligations_of_claims-requires-clause-site c =
    let u = program c.args.unit.now in
    let p = procedure c.in-Some.proc.now in
    let found : slice_get u.procedures c.args.p.0 ≡ Some p = sym c.in-Some.ensures in
    record {
      numbered = few_fields u c.requires.unit;
      formed = unit_formed u c.args.p.0 p c.requires.unit found;
      walked = walked c.well_formed_procedures_may_be_walked.ensures u c.args.p.0 p c.requires.unit found;
      roots = c.in_ok-roots-in-Some.ensures;
      writes = c.requires.table;
    }

pub obligations_of_claims-requires-clause-owable : goal.obligations_of_claims-requires-clause-owable
obligations_of_claims-requires-clause-owable c =
    let u = program c.args.unit.now in
    let p = procedure c.in-Some.proc.now in
    let found : slice_get u.procedures c.args.p.0 ≡ Some p = sym c.in-Some.ensures in
    let all : map placed c.deref.result.now ≡ claims_there u p c.args.path.now =
    ap (map placed) c.deref.ensures.value ∙ c.in_ok-claims-in-Some.ensures
    ∙ ap (λ (o : Option Procedure). elim o [ None ↦ [] | Some q ↦ claims_there u q c.args.path.now ]) found in
    ap (list_all (may_be_owed p)) all
    ∙ own_may_be_owed c.claims_may_be_owed.ensures u c.args.p.0 p c.args.path.now c.requires.unit found

pub returns-in_ok-claims-in-Some : goal.returns-in_ok-claims-in-Some
returns-in_ok-claims-in-Some c =
    let u = program c.args.unit.now in
    let p = procedure c.in-Some.proc.now in
    let found : slice_get u.procedures c.args.p.0 ≡ Some p = sym c.in-Some.ensures in
    let all : map placed c.deref.result.now ≡ claims_there u p c.args.path.now =
    ap (map placed) c.deref.ensures.value ∙ c.in_ok-claims-in-Some.ensures
    ∙ ap (λ (o : Option Procedure). elim o [ None ↦ [] | Some q ↦ claims_there u q c.args.path.now ]) found in
    let answer = c.obligations_of_claims.result in
    subst (λ (o : Option Procedure). AreOwedThere answer u o c.args.path.now) (sym found)
    (subst (AreOwedFor answer u p) all c.obligations_of_claims.ensures)
