use Rattle.std.proofs.Common.{◌∙◌, sym, ap, refl, subst}
use Rattle.exo_tree.specs.Tree.{Procedure, Program}
use Rattle.check_facts.specs.Contexts.{context_of, context_fits, facts_of}
use Rattle.step_rules.specs.Rule.{Need}
use Rattle.step_driver.specs.Needs.Owing.{target_in, Puts}
use Rattle.step_driver.specs.Needs.PlainNeed.{plain_fact}
use Rattle.step_driver.specs.Needs.Sites.{seen}
use Rattle.step_driver.proofs.OfNeeds.OneNeed.{same_context, unfit_context, refused_form}
use Rattle.step_driver.proofs.needs.owing.put_fact.Goals as goal

pub returns-in_err-context-clause-puts : goal.returns-in_err-context-clause-puts
returns-in_err-context-clause-puts c k n h =
    let it = seen c.args.site.now in
    let t = target_in it k in
    let place = c.place_in.result in
    let path = c.args.path.now in
    let fact = plain_fact c.args.fact.now in
    let fits = ap (λ (jt : Program × Procedure). context_fits jt.0 jt.1 place) c.requires.walk in
    let same = same_context t.unit t.proc place path c.place_in.ensures.same in
    subst (λ (m : Need). Puts c.from_residual.result t m c.args.out.now c.args.out.now) (sym h)
    (refused_form t path fact c.args.out.now c.from_residual.result c.args.out.now c.in_err-context.field-0.0
    (context_fits c.args.walk.now.0 c.args.walk.now.1 place) c.from_residual.ensures.1 c.in_err-context.ensures.made
    (λ b. unfit_context t path fact (sym same.1.0 ∙ sym fits ∙ b)))

pub returns-clause-puts : goal.returns-clause-puts
returns-clause-puts c k n h =
    let t = target_in (seen c.args.site.now) k in
    let place = c.place_in.result in
    let path = c.args.path.now in
    let same = same_context t.unit t.proc place path c.place_in.ensures.same in
    let fits = ap (λ (jt : Program × Procedure). context_fits jt.0 jt.1 place) c.requires.walk in
    let context = ap (λ (jt : Program × Procedure). context_of jt.0 jt.1 place) c.requires.walk in
    let facts = ap (λ (jt : Program × Procedure). facts_of jt.0 jt.1 place) c.requires.walk in
    let made = c.in_ok-context.ensures.made in
    subst (λ (m : Need). Puts c.put_there.result t m c.args.out.now c.put_there.new.out) (sym h)
    (c.put_there.ensures t refl c.requires.site.roots (made.1.1 ∙ facts ∙ same.1.1) c.requires.site.words
    (made.1.0 ∙ context ∙ same.0) (sym same.1.0 ∙ sym fits ∙ made.0))
