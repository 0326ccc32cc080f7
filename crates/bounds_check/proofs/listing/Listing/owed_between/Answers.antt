use Rattle.std.proofs.Common.{◌≡◌, [], None, map, ap, ◌∙◌, subst}
use Rattle.std.specs.List.{list_all}
use Rattle.check_claims.specs.PlainClaim.{placed}
use Rattle.check_claims.specs.Places.{claims_between}
use Rattle.affine_systems.specs.Outcomes.{plain_obligation}
use Rattle.bounds_check.specs.Laws.{may_be_owed}
use Rattle.bounds_check.specs.Obligations.{first_fault, owed_for_all}
use Rattle.bounds_check.specs.Parts.{unit_of, proc_of}
use Rattle.bounds_check.proofs.Listed.{owable_range}
use Rattle.bounds_check.proofs.WellFormed.{walked, unit_formed, few_fields}
use Rattle.bounds_check.proofs.listing.Listing.owed_between.Goals as goal

pub obligations_of_claims-requires-clause-site : goal.obligations_of_claims-requires-clause-site
obligations_of_claims-requires-clause-site c =
    let l = c.args.self.now in
    let u = unit_of l in
    let p = proc_of l in
    let is = c.requires.listed in
    record {
      numbered = few_fields u is.formed;
      formed = unit_formed u l.number.0 p is.formed is.found;
      walked = walked c.well_formed_procedures_may_be_walked.ensures u l.number.0 p is.formed is.found;
      roots = is.roots;
      writes = is.writes;
    }

pub obligations_of_claims-requires-clause-owable : goal.obligations_of_claims-requires-clause-owable
obligations_of_claims-requires-clause-owable c =
    let l = c.args.self.now in
    let all : map placed c.deref.result.now
    ≡ claims_between (unit_of l) (proc_of l) c.args.skip c.args.count =
    ap (map placed) c.deref.ensures.value ∙ c.in_ok-part.ensures.claims in
    ap (list_all (may_be_owed (proc_of l))) all
    ∙ owable_range l c.requires.listed c.places_have_all_claims.ensures
    c.claims_may_be_owed.ensures c.args.skip c.args.count

pub returns-clause-range : goal.returns-clause-range
returns-clause-range c =
    let l = c.args.self.now in
    let u = unit_of l in
    let p = proc_of l in
    let os = map plain_obligation c.in_ok-owed.owed.items in
    let all : map placed c.deref.result.now ≡ claims_between u p c.args.skip c.args.count =
    ap (map placed) c.deref.ensures.value ∙ c.in_ok-part.ensures.claims in
    let is = subst (λ cs. (first_fault u p [] cs ≡ None) × (os ≡ owed_for_all u p cs)) all
    c.in_ok-owed.ensures in
    record { fine = is.0; owed = is.1; more = c.in_ok-part.ensures.more }
