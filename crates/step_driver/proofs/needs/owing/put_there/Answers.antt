use Rattle.std.proofs.Common.{◌≡◌, List, map, true, false, ap, ◌∙◌, sym, subst}
use Rattle.exo_tree.specs.Tree.{Condition, ConfigField}
use Rattle.affine_forms.specs.declared.formula.Formula.{Formula}
use Rattle.affine_forms.specs.Outcomes.{IsWide}
use Rattle.affine_forms.specs.PlainFormulas.{plain_formula}
use Rattle.affine_places.specs.Facts.{FieldFact}
use Rattle.affine_places.specs.Roots.{Roots}
use Rattle.affine_places.specs.Seen.{roots_in}
use Rattle.affine_systems.specs.Systems.{Stated, stated}
use Rattle.affine_systems.specs.Outcomes as stating
use Rattle.affine_systems.specs.Outcomes.{plain_obligation}
use Rattle.text_show.specs.Layout.{Text}
use Rattle.text_show.specs.Words.{Words}
use Rattle.step_rules.specs.Rule.{Says}
use Rattle.step_rules.specs.Owing.{condition_of, fact_text}
use Rattle.step_driver.specs.Needs.Owing.{said, text_by}
use Rattle.step_driver.specs.Needs.PlainNeed.{plain_fact}
use Rattle.step_driver.proofs.OfNeeds.OneNeed.{formula_read, fits_read, all_fit_where, claim_read}
use Rattle.step_driver.proofs.OfNeeds.OneNeed.{told}
use Rattle.step_driver.proofs.OfNeeds.OneNeed.{refused_form, refused_systems, refused_memory}
use Rattle.step_driver.proofs.OfNeeds.OneNeed.{refused_list, puts_systems, all_owed}
use Rattle.step_driver.proofs.OfNeeds.OneNeed.{text_said}
use Rattle.step_driver.proofs.needs.owing.put_there.Goals as goal

-- the formula is that of the condition, whose numbers fit
abbrev IsRead : List ConfigField → Roots → List FieldFact → Condition → Formula → Type 0
IsRead fields roots facts d f =
    (fits_read fields roots facts d ≡ true) × (plain_formula f ≡ formula_read fields roots facts d)

pub returns-in_err-formula : goal.returns-in_err-formula
returns-in_err-formula c t e f g w h k =
    let at = c.args.there.now in
    let fact = plain_fact c.args.fact.now in
    let path = c.args.path.now in
    let wide =
    subst (λ (d : Condition). IsWide c.in_err-formula.field-0.0 (fits_read at.fields.now (roots_in at.roots.now) at.facts.now d))
    c.condition.ensures c.in_err-formula.ensures in
    refused_form t path fact c.args.out.now c.from_residual.result c.args.out.now c.in_err-formula.field-0.0
    (fits_read at.fields.now (roots_in at.roots.now) at.facts.now (condition_of fact)) c.from_residual.ensures.1 wide
    (λ b. all_fit_where t path fact at.fields.now (roots_in at.roots.now) at.facts.now e f g false k b)

pub returns-in_err-claim : goal.returns-in_err-claim
returns-in_err-claim c t e f g w h k =
    refused_memory t (Says c.args.path.now (plain_fact c.args.fact.now)) c.args.out.now c.from_residual-in_err-claim.result
    c.args.out.now c.from_residual-in_err-claim.ensures.1

pub returns-in_err-what : goal.returns-in_err-what
returns-in_err-what c t e f g w h k =
    refused_memory t (Says c.args.path.now (plain_fact c.args.fact.now)) c.args.out.now c.from_residual-in_err-what.result
    c.args.out.now c.from_residual-in_err-what.ensures.1

pub returns-in_err-owed : goal.returns-in_err-owed
returns-in_err-owed c t e f g w h k =
    let at = c.args.there.now in
    let fact = plain_fact c.args.fact.now in
    let path = c.args.path.now in
    let read = IsRead at.fields.now (roots_in at.roots.now) at.facts.now in
    let made = subst (λ (d : Condition). read d c.in_ok-formula.formula) c.condition.ensures c.in_ok-formula.ensures in
    let claim = c.in_ok-claim.ensures ∙ ap (said fact) made.1 ∙ claim_read t path fact at.fields.now (roots_in at.roots.now) at.facts.now e f g in
    let same : stated c.args.context.now (plain_formula c.in_ok-claim.claim) ≡ told t path fact = λ i. stated (h i) (claim i) in
    refused_systems t path fact c.args.out.now c.from_residual-in_err-owed.result c.args.out.now c.in_err-owed.field-0.0
    c.from_residual-in_err-owed.ensures.1
    (subst (λ (s : Stated). stating.IsRefusal c.in_err-owed.field-0.0 s) same c.in_err-owed.ensures.exact)
    (all_fit_where t path fact at.fields.now (roots_in at.roots.now) at.facts.now e f g true k made.0)

pub returns-in_err-push_all : goal.returns-in_err-push_all
returns-in_err-push_all c t e f g w h k =
    let at = c.args.there.now in
    let fact = plain_fact c.args.fact.now in
    let path = c.args.path.now in
    let read = IsRead at.fields.now (roots_in at.roots.now) at.facts.now in
    let made = subst (λ (d : Condition). read d c.in_ok-formula.formula) c.condition.ensures c.in_ok-formula.ensures in
    let claim = c.in_ok-claim.ensures ∙ ap (said fact) made.1 ∙ claim_read t path fact at.fields.now (roots_in at.roots.now) at.facts.now e f g in
    let same : stated c.args.context.now (plain_formula c.in_ok-claim.claim) ≡ told t path fact = λ i. stated (h i) (claim i) in
    let fits = all_fit_where t path fact at.fields.now (roots_in at.roots.now) at.facts.now e f g true k made.0 in
    let says : c.in_ok-what.what ≡ fact_text t fact =
    c.in_ok-what.ensures ∙ ap (λ (ws : Words). text_by ws fact) w ∙ text_said t fact in
    let os = c.in_ok-owed.owed.items in
    let owes =
    subst (λ (s : Stated). stating.AreOwed os s (fact_text t fact) path) same
    (subst (λ (x : Text). stating.AreOwed os (stated c.args.context.now (plain_formula c.in_ok-claim.claim)) x path) says c.in_ok-owed.ensures.exact) in
    refused_list t (Says path fact) c.args.out.now (map plain_obligation os) (all_owed t path fact os owes fits)
    c.from_residual-in_err-push_all.result c.in_err-push_all.field-0.0 c.push_all.new.self
    c.from_residual-in_err-push_all.ensures.1 c.in_err-push_all.ensures

pub returns : goal.returns
returns c t e f g w h k =
    let at = c.args.there.now in
    let fact = plain_fact c.args.fact.now in
    let path = c.args.path.now in
    let read = IsRead at.fields.now (roots_in at.roots.now) at.facts.now in
    let made = subst (λ (d : Condition). read d c.in_ok-formula.formula) c.condition.ensures c.in_ok-formula.ensures in
    let claim = c.in_ok-claim.ensures ∙ ap (said fact) made.1 ∙ claim_read t path fact at.fields.now (roots_in at.roots.now) at.facts.now e f g in
    let same : stated c.args.context.now (plain_formula c.in_ok-claim.claim) ≡ told t path fact = λ i. stated (h i) (claim i) in
    let fits = all_fit_where t path fact at.fields.now (roots_in at.roots.now) at.facts.now e f g true k made.0 in
    let says : c.in_ok-what.what ≡ fact_text t fact =
    c.in_ok-what.ensures ∙ ap (λ (ws : Words). text_by ws fact) w ∙ text_said t fact in
    let os = c.in_ok-owed.owed.items in
    let owes =
    subst (λ (s : Stated). stating.AreOwed os s (fact_text t fact) path) same
    (subst (λ (x : Text). stating.AreOwed os (stated c.args.context.now (plain_formula c.in_ok-claim.claim)) x path) says c.in_ok-owed.ensures.exact) in
    puts_systems t (Says path fact) c.args.out.now (map plain_obligation os) (all_owed t path fact os owes fits) c.push_all.new.self c.in_ok-push_all.ensures
