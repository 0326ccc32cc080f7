use Rattle.std.proofs.Common.{◌≡◌, OnOk, subst, length, map, Some, None, option_map, ap, sym, ◌∙◌, arith}
use Rattle.std.proofs.lemmas.Option.{slice_get-map}
use Rattle.exo_tree.specs.Tree.{block}
use Rattle.exo_tree.specs.PlainPlace.{step_taken}
use Rattle.exo_tree.specs.PlainStatement.{statement}
use Rattle.rules_names.specs.Scopes.PlaceScope.{scope_along}
use Rattle.rules_names.specs.Scopes.NewNames.{binds_new, step_binds_new}
use Rattle.rules_names.proofs.OfScopes.Down.{down, no_branch, in_branch, new_at, new_inside}
use Rattle.rules_names.proofs.scopes.walk.+bind_along.Goals as goal

pub returns-in_default-get : goal.returns-in_default-get
returns-in_default-get t c =
    let rest = map step_taken c.in-Some.rest.now in
    let first = slice_get-map step_taken c.in-Some.rest.now 0 ∙ ap (option_map step_taken) (sym c.in-Some-first.ensures.value) in
    down c.args.after c.args.b.now _ rest (step_taken c.in-Some.step.now) (step_taken c.in-Some-first.next.now) c.args.scope.now c.bind_behind-2.new.scope None (ap (map step_taken) c.in-Some.ensures.cases.0) first c.in_ok-bind_behind.ensures (sym c.in_default-get.ensures)

pub returns-in_default-block : goal.returns-in_default-block
returns-in_default-block t c =
    let rest = map step_taken c.in-Some.rest.now in
    let next = step_taken c.in-Some-first.next.now in
    let first = slice_get-map step_taken c.in-Some.rest.now 0 ∙ ap (option_map step_taken) (sym c.in-Some-first.ensures.value) in
    let s = statement c.in-Some-get.s.now in
    sym (no_branch (scope_along c.args.after rest) next.branch c.bind_behind-2.new.scope s (sym c.in_default-block.ensures))
    ∙ down c.args.after c.args.b.now _ rest (step_taken c.in-Some.step.now) next c.args.scope.now c.bind_behind-2.new.scope (Some s) (ap (map step_taken) c.in-Some.ensures.cases.0) first c.in_ok-bind_behind.ensures (sym c.in-Some-get.ensures)

pub bind_inside-requires : goal.bind_inside-requires
bind_inside-requires t c =
    let s = statement c.in-Some-get.s.now in
    ap (λ k. step_binds_new k s) c.in_ok-bind_behind.ensures ∙ new_at _ c.args.b.now c.args.scope.now s (sym c.in-Some-get.ensures) c.requires

pub bind_along-requires : goal.bind_along-requires
bind_along-requires t c =
    let s = statement c.in-Some-get.s.now in
    let inner = block c.in-Some-block.inner.now in
    let here = ap (λ k. step_binds_new k s) c.in_ok-bind_behind.ensures ∙ new_at _ c.args.b.now c.args.scope.now s (sym c.in-Some-get.ensures) c.requires in (
      omega (arith, ap length c.in-Some.ensures.cases.0),
      ap (λ k. binds_new k inner) c.in_ok-bind_inside.ensures ∙ new_inside _ s inner c.bind_behind-2.new.scope (sym c.in-Some-block.ensures) here,
    )

pub returns : goal.returns
returns t c =
    let rest = map step_taken c.in-Some.rest.now in
    let next = step_taken c.in-Some-first.next.now in
    let first = slice_get-map step_taken c.in-Some.rest.now 0 ∙ ap (option_map step_taken) (sym c.in-Some-first.ensures.value) in
    let s = statement c.in-Some-get.s.now in
    let inner = block c.in-Some-block.inner.now in
    let whole =
    ap (λ k. scope_along c.args.after rest k inner) c.in_ok-bind_inside.ensures
    ∙ sym (in_branch (scope_along c.args.after rest) next.branch c.bind_behind-2.new.scope s inner (sym c.in-Some-block.ensures))
    ∙ down c.args.after c.args.b.now _ rest (step_taken c.in-Some.step.now) next c.args.scope.now c.bind_behind-2.new.scope (Some s) (ap (map step_taken) c.in-Some.ensures.cases.0) first c.in_ok-bind_behind.ensures (sym c.in-Some-get.ensures) in
    subst (λ k. OnOk c.bind_along.result (c.bind_along.new.scope ≡ k)) whole c.bind_along.ensures
