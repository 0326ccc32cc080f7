use Rattle.std.proofs.Common.{refl, ap, sym, ◌∙◌, subst}
use Rattle.exo_tree.specs.Tree.{Procedure, Program}
use Rattle.exo_tree.specs.PlainProcedure.{procedure}
use Rattle.exo_tree.specs.PlainUnit.{program}
use Rattle.affine_forms.specs.Outcomes.{IsWide}
use Rattle.check_facts.specs.Contexts.{context_fits, context_of, facts_of}
use Rattle.check_claims.specs.PlainClaim.{placed}
use Rattle.bounds_check.specs.Laws.{claim_keeps_rules}
use Rattle.bounds_check.specs.Paths.{same_path}
use Rattle.bounds_check.proofs.Resting.{each_at, left_all, left_more, left_refused, left_none, left_unfit}
use Rattle.bounds_check.proofs.claims.put_claims.Goals as goal

pub returns-in_err-context-clause-owes : goal.returns-in_err-context-clause-owes
returns-in_err-context-clause-owes c =
    let u = program c.args.site.now.unit.now in
    let p = procedure c.args.site.now.proc.now in
    let e = c.in_err-context.field-0.0 in
    let fits = ap (λ (it : Program × Procedure). context_fits it.0 it.1 c.args.place.now) c.requires.walk in
    left_unfit u p c.args.claims.now c.args.out.now c.from_residual.result e c.args.out.now c.args.place.now
    c.requires.some c.requires.here c.from_residual.ensures.1 (subst (IsWide e) fits c.in_err-context.ensures.made)

pub loop-c-init : goal.loop-c-init
loop-c-init c =
    let u = program c.args.site.now.unit.now in
    let p = procedure c.args.site.now.proc.now in
    left_all u p c.args.claims.now c.args.out.now

pub put_claim-requires-clause-rules : goal.put_claim-requires-clause-rules
put_claim-requires-clause-rules c =
    each_at (λ d. claim_keeps_rules d.claim) placed c.args.claims.now c.loop-c.c-index c.c-item.result c.c-item.is
    c.loop-c-test.true c.requires.rules

pub put_claim-requires-clause-told : goal.put_claim-requires-clause-told
put_claim-requires-clause-told c =
    let place = c.args.place.now in
    let same = c.requires.walk in
    let made = c.in_ok-context.ensures.made in
    record {
      formed = c.requires.site.formed;
      fields_are = refl;
      roots_are = c.requires.site.roots;
      facts_are = made.1.1 ∙ ap (λ (it : Program × Procedure). facts_of it.0 it.1 place) same;
      context_is = made.1.0 ∙ ap (λ (it : Program × Procedure). context_of it.0 it.1 place) same;
      fits_is = ap (λ (it : Program × Procedure). context_fits it.0 it.1 place) (sym same) ∙ made.0;
    }

pub returns-in_err-put_claim-clause-owes : goal.returns-in_err-put_claim-clause-owes
returns-in_err-put_claim-clause-owes c =
    let u = program c.args.site.now.unit.now in
    let p = procedure c.args.site.now.proc.now in
    left_refused u p c.args.claims.now c.args.out.now c.loop-c.out c.loop-c.c-index c.c-item.result c.c-item.is
    c.loop-c-test.true c.args.place.now
    (each_at (λ d. same_path d.place c.args.place.now) placed c.args.claims.now c.loop-c.c-index c.c-item.result
    c.c-item.is c.loop-c-test.true c.requires.here)
    c.loop-c.invariant c.from_residual-in_err-put_claim.result c.in_err-put_claim.field-0.0 c.put_claim.new.out
    c.from_residual-in_err-put_claim.ensures.1 c.in_err-put_claim.ensures

pub loop-c-preserved : goal.loop-c-preserved
loop-c-preserved c =
    let u = program c.args.site.now.unit.now in
    let p = procedure c.args.site.now.proc.now in
    left_more u p c.args.claims.now c.args.out.now c.loop-c.out c.loop-c.c-index c.c-item.result c.c-item.is
    c.loop-c-test.true c.args.place.now
    (each_at (λ d. same_path d.place c.args.place.now) placed c.args.claims.now c.loop-c.c-index c.c-item.result
    c.c-item.is c.loop-c-test.true c.requires.here)
    c.loop-c.invariant c.put_claim.new.out c.in_ok-put_claim.ensures

pub returns-clause-owes : goal.returns-clause-owes
returns-clause-owes c =
    let u = program c.args.site.now.unit.now in
    let p = procedure c.args.site.now.proc.now in
    left_none u p c.args.claims.now c.args.out.now c.loop-c.out c.loop-c.c-index c.loop-c-test.false
    c.loop-c.invariant
