use Rattle.std.proofs.Common.{◌≡◌, map, ap, ◌∙◌, subst}
use Rattle.std.specs.List.{list_all}
use Rattle.check_claims.specs.PlainClaim.{placed}
use Rattle.check_claims.specs.Places.{claims_between}
use Rattle.bounds_check.specs.Laws.{may_be_owed}
use Rattle.bounds_check.specs.Obligations.{first_fault}
use Rattle.bounds_check.specs.Outcomes.{IsRefusal}
use Rattle.bounds_check.specs.Parts.{unit_of, proc_of, listed_of}
use Rattle.bounds_check.proofs.Listed.{owable_range, refused_part}
use Rattle.bounds_check.proofs.WellFormed.{walked, unit_formed, few_fields}
use Rattle.bounds_check.proofs.listing.Listing.refused.Goals as goal

pub refusal-requires-clause-site : goal.refusal-requires-clause-site
refusal-requires-clause-site c =
    let l = c.args.self.now in
    let u = unit_of l in
    let p = proc_of l in
    let is = c.requires.listed in
    record {
      numbered = few_fields u is.formed;
      formed = unit_formed u l.number.0 p is.formed is.found;
      walked = walked c.well_formed_procedures_may_be_walked.ensures u l.number.0 p is.formed is.found;
      roots = is.roots;
      writes = is.writes;
    }

pub refusal-requires-clause-owable : goal.refusal-requires-clause-owable
refusal-requires-clause-owable c =
    let l = c.args.self.now in
    let all : map placed c.deref.result.now
    ≡ claims_between (unit_of l) (proc_of l) l.next 2048 =
    ap (map placed) c.deref.ensures.value ∙ c.in-Ok.ensures.claims in
    ap (list_all (may_be_owed (proc_of l))) all
    ∙ owable_range l c.requires.listed c.places_have_all_claims.ensures
    c.claims_may_be_owed.ensures l.next 2048

pub returns-in-Ok : goal.returns-in-Ok
returns-in-Ok c =
    let l = c.args.self.now in
    let u = unit_of l in
    let p = proc_of l in
    let all : map placed c.deref.result.now ≡ claims_between u p l.next 2048 =
    ap (map placed) c.deref.ensures.value ∙ c.in-Ok.ensures.claims in
    refused_part l c.requires.listed c.places_have_all_claims.ensures c.refusal.result
    (subst (λ cs. IsRefusal c.refusal.result (first_fault u p (listed_of l) cs)) all
    (c.refusal.ensures (listed_of l) c.requires.listed.amount))
