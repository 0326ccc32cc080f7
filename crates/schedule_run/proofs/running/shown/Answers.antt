use Rattle.std.proofs.Common.{◌≡◌, ◌+◌, ◌++◌, ℕ, List, length, length-append, arith, map, ap, sym}
use Rattle.std.proofs.Common.{◌∙◌, subst}
use Rattle.std.specs.Prelude.{Err}
use Rattle.std.proofs.lemmas.List.{length-map}
use Rattle.affine_systems.specs.Outcomes.{plain_obligation}
use Rattle.affine_systems.specs.declared.obligation.Obligation.{Obligation}
use Rattle.ob_check.specs.Held.{held}
use Rattle.unit_check.specs.Checked.{first_open}
use Rattle.unit_check.specs.Outcomes.{Shows}
use Rattle.schedule_run.specs.PlainWhy.{why_of_show}
use Rattle.schedule_run.specs.Planned.{Got, Not, owed_with}
use Rattle.schedule_run.specs.Running.{AreSettled}
use Rattle.schedule_run.specs.declared.running.Tally.{Tally}
use Rattle.schedule_run.proofs.Answering.{first_refused, second_refused, all_shown}
use Rattle.schedule_run.proofs.Caching.{two_lists}
use Rattle.schedule_run.proofs.Going.{made_failed}
use Rattle.schedule_run.proofs.Plans.{says}
use Rattle.schedule_run.proofs.Settling.{refused_back, stays_settled}
use Rattle.schedule_run.proofs.running.shown.Goals as goal

pub show_list-requires-after_bounds : goal.show_list-requires-after_bounds
show_list-requires-after_bounds g c κs within = λ is.
    subst (λ (os : List Obligation). AreSettled os (held c.show.new.cache))
    (sym c.deref.ensures.value)
    (stays_settled c.args.must.now c.args.latest.now.owed.items (held c.args.cache.now)
    (held c.show.new.cache)
    (c.is_settled-alone.ensures.none is) c.in_ok-show.ensures.cache
    (c.requires (c.is_settled-alone.ensures.settled is)))

pub returns-in_err-show-clause-exact : goal.returns-in_err-show-clause-exact
returns-in_err-show-clause-exact g c = λ u q kept.
    let must = map plain_obligation c.args.must.now in
    made_failed (λ (t : Tally). t.count) (owed_with u must q) c.from_residual.result
    (why_of_show c.in_err-show.field-0.0) c.from_residual.ensures.1
    (first_refused u must (map plain_obligation c.args.latest.now.owed.items) q kept.0 kept.1
    c.in_err-show.field-0.0 c.in_err-show.ensures.exact)

pub returns-in_err-settled-clause-exact : goal.returns-in_err-settled-clause-exact
returns-in_err-settled-clause-exact g c = λ u q kept.
    let must = map plain_obligation c.args.must.now in
    let e = c.in_err-settled.field-0.0 in
    made_failed (λ (t : Tally). t.count) (owed_with u must q) c.from_residual-in_err-settled.result
    (why_of_show e) c.from_residual-in_err-settled.ensures.1
    (second_refused u must (map plain_obligation c.args.latest.now.owed.items) q kept.0 kept.1
    c.in_ok-show.ensures.exact e
    (subst (λ (os : List Obligation). Shows {A = Unit {0}} (Err e)
    (first_open (map plain_obligation os)))
    c.deref.ensures.value
    (refused_back e (first_open (map plain_obligation c.deref.result.now))
    c.in_err-settled.ensures.exact)))

pub returns-in_err-count-clause-exact : goal.returns-in_err-count-clause-exact
returns-in_err-count-clause-exact g c = λ u q kept.
    let must = map plain_obligation c.args.must.now in
    let owed = map plain_obligation c.args.latest.now.owed.items in
    let many : length (must ++ owed) ≡ length c.args.must.now + c.len.result =
    omega (
      arith,
      c.len.ensures,
      length-append must owed,
      length-map c.args.must.now plain_obligation,
      length-map c.args.latest.now.owed.items plain_obligation,
    ) in
    let is : owed_with u must q ≡ Got (length c.args.must.now + c.len.result) =
    all_shown u must owed q kept.0 kept.1 c.in_ok-show.ensures.exact
    (ap (λ (os : List Obligation). first_open (map plain_obligation os)) (sym c.deref.ensures.value)
    ∙ c.in_ok-settled.ensures.exact)
    ∙ ap Got many in
    made_failed (λ (t : Tally). t.count) (owed_with u must q) c.from_residual-in_err-count.result
    c.in_err-count.field-0.0 c.from_residual-in_err-count.ensures.1
    (says (λ y. Got (length c.args.must.now + c.len.result) ≡ Not y)
    (λ y. owed_with u must q ≡ Not y)
    (λ y h. is ∙ h) c.in_err-count.field-0.0 c.in_err-count.ensures)

pub returns-clause-exact : goal.returns-clause-exact
returns-clause-exact g c = λ u q kept.
    let must = map plain_obligation c.args.must.now in
    let owed = map plain_obligation c.args.latest.now.owed.items in
    let many : length (must ++ owed) ≡ length c.args.must.now + c.len.result =
    omega (
      arith,
      c.len.ensures,
      length-append must owed,
      length-map c.args.must.now plain_obligation,
      length-map c.args.latest.now.owed.items plain_obligation,
    ) in
    all_shown u must owed q kept.0 kept.1 c.in_ok-show.ensures.exact
    (ap (λ (os : List Obligation). first_open (map plain_obligation os)) (sym c.deref.ensures.value)
    ∙ c.in_ok-settled.ensures.exact)
    ∙ ap Got many ∙ c.in_ok-count.ensures

pub returns-clause-cache : goal.returns-clause-cache
returns-clause-cache g c =
    two_lists _ _ _ (map plain_obligation c.args.must.now) (map plain_obligation c.deref.result.now)
    (map plain_obligation c.args.latest.now.owed.items) c.in_ok-show.ensures.cache
    c.in_ok-settled.ensures.cache
    (ap (map plain_obligation) c.deref.ensures.value)

pub returns-clause-settled : goal.returns-clause-settled
returns-clause-settled g c = λ is.
    subst (λ (os : List Obligation). AreSettled os (held c.show_list.new.cache))
    c.deref.ensures.value
    (c.in_ok-settled.ensures.settled is)
