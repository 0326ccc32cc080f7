use Rattle.std.proofs.Common.{◌≡◌, ◌++◌, map, sym, ap, ◌∙◌, subst, arith}
use Rattle.std.proofs.lemmas.List.{map-append}
use Rattle.exo_tree.specs.PlainProcedure.{procedure}
use Rattle.exo_tree.specs.PlainUnit.{program}
use Rattle.check_claims.specs.PlainClaim.{placed}
use Rattle.bounds_check.specs.Paths.{same_path}
use Rattle.bounds_check.proofs.Groups.{Onward, same_self, counted_within, counted_some, counted_pass, onward_all, onward_more, onward_refused, onward_none, rules_here, place_of_first, none_left}
use Rattle.bounds_check.proofs.list.obligations_of_claims.Goals as goal

pub loop-first-init : goal.loop-first-init
loop-first-init c = record {
  goes = c.new-walk.ensures;
  left =
      onward_all (program c.args.site.now.unit.now) (procedure c.args.site.now.proc.now)
      (map placed c.args.claims.now) c.new-out.result c.new-out.ensures c.requires.owable;
}

pub split_at-requires : goal.split_at-requires
split_at-requires c = let h = counted_within placed (λ d. same_path d.place c.in-Some.first.now.place) c.loop-first.rest.now in omega (arith, h, c.count_at.ensures)

pub put_claims-requires-clause-place : goal.put_claims-requires-clause-place
put_claims-requires-clause-place c =
    place_of_first placed (procedure c.args.site.now.proc.now) c.loop-first.rest.now c.in-Some.first.now
    (sym c.in-Some.ensures.value) c.loop-first.invariant.left.owable

pub put_claims-requires-clause-some : goal.put_claims-requires-clause-some
put_claims-requires-clause-some c =
    let first = c.in-Some.first.now in
    let h = counted_some placed (λ d. same_path d.place first.place) c.loop-first.rest.now first (sym c.in-Some.ensures.value) (same_self first.place) in
    omega (arith, h, c.count_at.ensures, c.split_at.ensures.front_len)

pub put_claims-requires-clause-here : goal.put_claims-requires-clause-here
put_claims-requires-clause-here c = counted_pass placed (λ d. same_path d.place c.in-Some.first.now.place) c.loop-first.rest.now c.split_at.result.0.now c.count_at.result c.count_at.ensures c.split_at.ensures.front

pub put_claims-requires-clause-rules : goal.put_claims-requires-clause-rules
put_claims-requires-clause-rules c =
    let here = c.split_at.result.0.now in
    let others = c.split_at.result.1.now in
    let split : map placed c.loop-first.rest.now ≡ map placed here ++ map placed others = ap (map placed) c.split_at.ensures.by_index.0 ∙ map-append placed here others in
    rules_here (program c.args.site.now.unit.now) (procedure c.args.site.now.proc.now) (map placed c.args.claims.now) c.loop-first.out (map placed c.loop-first.rest.now) (map placed here) (map placed others) c.loop-first.invariant.left split

pub returns-in_err-put_claims : goal.returns-in_err-put_claims
returns-in_err-put_claims c =
    let here = c.split_at.result.0.now in
    let others = c.split_at.result.1.now in
    let split : map placed c.loop-first.rest.now ≡ map placed here ++ map placed others = ap (map placed) c.split_at.ensures.by_index.0 ∙ map-append placed here others in
    onward_refused (program c.args.site.now.unit.now) (procedure c.args.site.now.proc.now) (map placed c.args.claims.now) c.loop-first.out (map placed c.loop-first.rest.now) (map placed here) (map placed others) c.loop-first.invariant.left split c.from_residual.result c.in_err-put_claims.field-0.0 c.from_residual.ensures.1
    c.in_err-put_claims.ensures.owes

pub loop-first-smaller : goal.loop-first-smaller
loop-first-smaller c =
    let first = c.in-Some.first.now in
    let h = counted_some placed (λ d. same_path d.place first.place) c.loop-first.rest.now first (sym c.in-Some.ensures.value) (same_self first.place) in
    omega (arith, h, c.count_at.ensures, c.split_at.ensures.back_len)

pub loop-first-preserved : goal.loop-first-preserved
loop-first-preserved c =
    let here = c.split_at.result.0.now in
    let others = c.split_at.result.1.now in
    let split : map placed c.loop-first.rest.now ≡ map placed here ++ map placed others = ap (map placed) c.split_at.ensures.by_index.0 ∙ map-append placed here others in
    record {
      goes = c.in_ok-put_claims.ensures.same ∙ c.loop-first.invariant.goes;
      left =
          onward_more (program c.args.site.now.unit.now) (procedure c.args.site.now.proc.now) (map placed c.args.claims.now) c.loop-first.out (map placed c.loop-first.rest.now) (map placed here) (map placed others) c.loop-first.invariant.left split c.put_claims.new.out
          c.in_ok-put_claims.ensures.owes;
    }

pub returns : goal.returns
returns c =
    let u = program c.args.site.now.unit.now in
    let p = procedure c.args.site.now.proc.now in
    let whole = map placed c.args.claims.now in
    let left = subst (λ xs. Onward u p whole c.loop-first.out (map placed xs)) (none_left c.loop-first.rest.now (sym c.in_default.ensures.value)) c.loop-first.invariant.left in
    let w = onward_none u p whole c.loop-first.out left in
    (w.0, c.into_items.ensures ∙ w.1)
