use Rattle.std.proofs.Common.{◌≡◌, ◌<◌, ◌≤◌, ◌-◌, true, false, Some, ap, sym, ◌∙◌, arith}
use Rattle.std.specs.Prelude.{option_map}
use Rattle.exo_tree.specs.Tree.{Block, Procedure, block}
use Rattle.exo_tree.specs.Places.{replaced}
use Rattle.exo_tree.specs.Heights.{height}
use Rattle.exo_tree.proofs.Edits.{ok_or_some}
use Rattle.exo_tree.proofs.Heights.{height_replaced, some_and}
use Rattle.exo_tree.specs.PlainProcedure.{procedure}
use Rattle.tree_edits.proofs.Costs.{some_there}
use Rattle.tree_edits.proofs.replace.replace_counted.Goals as goal

pub returns-then-not-fits-clause-too_deep : goal.returns-then-not-fits-clause-too_deep
returns-then-not-fits-clause-too_deep g c = λ e.
    let w = block c.args.with.now in
    let made : replaced c.args.count c.args.path.now (block c.args.p.now.body) w ≡ Some (block c.in_ok-body.body) = sym c.in_ok-replaced_counted.ensures.with ∙ ap (option_map block) (ok_or_some _ _ c.in_ok-body.body c.in_ok-body.ensures.value) in
    let size = height_replaced c.args.count c.args.path.now (block c.args.p.now.body) w (block c.in_ok-body.body) c.requires (omega arith) made in
    let over : height w ≤ 33 - c.len.result → ⊥ = λ h. let f : false ≡ true = sym c.if-not-fits.true ∙ c.fits.ensures.1 h in absurd (cc) in
    some_and (λ b. 32 < height b) _ (block c.in_ok-body.body) made (size.1 (omega (arith, over)))

pub returns-clause-fits : goal.returns-clause-fits
returns-clause-fits g c =
    let w = block c.args.with.now in
    let made : replaced c.args.count c.args.path.now (block c.args.p.now.body) w ≡ Some (block c.in_ok-body.body) = sym c.in_ok-replaced_counted.ensures.with ∙ ap (option_map block) (ok_or_some _ _ c.in_ok-body.body c.in_ok-body.ensures.value) in
    let size = height_replaced c.args.count c.args.path.now (block c.args.p.now.body) w (block c.in_ok-body.body) c.requires (omega arith) made in
    let room : height w ≤ 33 - c.len.result = c.fits.ensures.0 c.if-not-fits.false in
    omega (arith, size.0 (omega arith), ap (λ q. height q.body) c.in_ok-with_body.ensures)

pub returns-in_err-replaced_counted-clause-cost : goal.returns-in_err-replaced_counted-clause-cost
returns-in_err-replaced_counted-clause-cost g c =
    c.replaced_counted.ensures.cost

pub returns-in_err-body-clause-cost : goal.returns-in_err-body-clause-cost
returns-in_err-body-clause-cost g c =
    c.replaced_counted.ensures.cost

pub returns-then-not-fits-clause-cost : goal.returns-then-not-fits-clause-cost
returns-then-not-fits-clause-cost g c =
    c.replaced_counted.ensures.cost

pub returns-in_err-with_body-clause-cost : goal.returns-in_err-with_body-clause-cost
returns-in_err-with_body-clause-cost g c =
    c.replaced_counted.ensures.cost

pub returns-clause-cost : goal.returns-clause-cost
returns-clause-cost g c =
    c.replaced_counted.ensures.cost

pub returns-clause-exact : goal.returns-clause-exact
returns-clause-exact g c =
    some_there c.in_ok-replaced_counted.field-0 c.in_ok-body.body _ (ok_or_some _ _ c.in_ok-body.body
    c.in_ok-body.ensures.value)
    c.in_ok-replaced_counted.ensures.exact

pub returns-clause-replaced : goal.returns-clause-replaced
returns-clause-replaced g c =
    sym c.in_ok-replaced_counted.ensures.with ∙ ap (option_map block) (ok_or_some _ _ c.in_ok-body.body
    c.in_ok-body.ensures.value)
    ∙ ap (λ (q : Procedure). Some q.body) (sym c.in_ok-with_body.ensures)

pub returns-clause-kept : goal.returns-clause-kept
returns-clause-kept g c =
    c.in_ok-with_body.ensures
    ∙ ap (λ (b : Block). record (procedure c.args.p.now) { body = b })
    (sym (ap (λ (q : Procedure). q.body) c.in_ok-with_body.ensures))
