use Rattle.std.proofs.Common.{◌<◌, ◌++◌, ◌∷◌, [], map, length, pos, arith, ap, sym, subst, ◌∙◌}
use Rattle.std.proofs.lemmas.Int.{to_z-of_z}
use Rattle.std.proofs.lemmas.List.{map-id, map_push}
use Rattle.std.proofs.lemmas.Iterator.Adapters.{YieldsList-from_vec}
use Rattle.std.proofs.lemmas.Iterator.Consumers.{YieldsList-turn, YieldsList-end}
use Rattle.std.proofs.lemmas.Result.{IfOk-from_err}
use Rattle.std.specs.Int.{w128}
use Rattle.std.specs.Int.RustNames.{FitsSigned, int_lt}
use Rattle.std.specs.List.{filter}
use Rattle.affine_forms.specs.Affine.{Affine}
use Rattle.affine_prover.specs.RowSets.Rows.{is_free, is_lower_bound, is_upper_bound, without}
use Rattle.affine_prover.proofs.OfRowSets.Filtering.{lower_row, upper_row, free_row}
use Rattle.affine_prover.proofs.row_sets.signs.split.Goals as goal

pub loop-row-preserved-in-Continue-branch-2 : goal.loop-row-preserved-in-Continue-branch-2
loop-row-preserved-in-Continue-branch-2 c =
    let fz : FitsSigned w128 c.coefficient-c.result = record { sfits = c.coefficient-c.type_inv } in
    let is = sym c.coefficient-c.ensures.value ∙ sym (to_z-of_z w128 c.coefficient-c.result fz) in
    let parts = lower_row c.args.v c.loop-row.yielded c.in-Some.row (ap (λ z. int_lt (pos 0) z) is ∙ c.if-c-gt0.true) in
    record {
      frees = c.loop-row.invariant.frees ∙ ap (map (without c.args.v)) (sym parts.0);
      lowers = c.in_ok-push.ensures.items ∙ ap (λ rs. rs ++ c.in-Some.row ∷ []) c.loop-row.invariant.lowers ∙ sym parts.1;
      uppers = c.loop-row.invariant.uppers ∙ sym parts.2;
    }

pub loop-row-preserved-in-Continue-branch-3 : goal.loop-row-preserved-in-Continue-branch-3
loop-row-preserved-in-Continue-branch-3 c =
    let fz : FitsSigned w128 c.coefficient-c.result = record { sfits = c.coefficient-c.type_inv } in
    let is = sym c.coefficient-c.ensures.value ∙ sym (to_z-of_z w128 c.coefficient-c.result fz) in
    let parts = upper_row c.args.v c.loop-row.yielded c.in-Some.row (ap (λ z. int_lt z (pos 0)) is ∙ c.if-c-lt0.true) in
    record {
      frees = c.loop-row.invariant.frees ∙ ap (map (without c.args.v)) (sym parts.0);
      lowers = c.loop-row.invariant.lowers ∙ sym parts.1;
      uppers = c.in_ok-push-2.ensures.items ∙ ap (λ rs. rs ++ c.in-Some.row ∷ []) c.loop-row.invariant.uppers ∙ sym parts.2;
    }

pub loop-row-preserved : goal.loop-row-preserved
loop-row-preserved c =
    let fz : FitsSigned w128 c.coefficient-c.result = record { sfits = c.coefficient-c.type_inv } in
    let is = sym c.coefficient-c.ensures.value ∙ sym (to_z-of_z w128 c.coefficient-c.result fz) in
    let parts = free_row c.args.v c.loop-row.yielded c.in-Some.row (ap (λ z. int_lt (pos 0) z) is ∙ c.if-c-gt0.false) (ap (λ z. int_lt z (pos 0)) is ∙ c.if-c-lt0.false) in
    record {
      frees = c.in_ok-push-3.ensures.items ∙ ap (λ rs. rs ++ c.remove.new.self ∷ []) c.loop-row.invariant.frees ∙ ap (λ r. map (without c.args.v) (filter (is_free c.args.v) c.loop-row.yielded) ++ r ∷ []) c.remove.ensures ∙ sym (ap (map (without c.args.v)) parts.0 ∙ map_push (without c.args.v) (filter (is_free c.args.v) c.loop-row.yielded) c.in-Some.row);
      lowers = c.loop-row.invariant.lowers ∙ sym parts.1;
      uppers = c.loop-row.invariant.uppers ∙ sym parts.2;
    }

pub coefficient-c-requires : goal.coefficient-c-requires
coefficient-c-requires c =
    let e = YieldsList-from_vec c.args.rows.items c.into_iter-row-iterator.ensures.into_iter_gives.0
    (omega (arith, c.into_iter-row-iterator.ensures.into_iter_gives.1, c.args.rows.ok.0)) in
    let t = YieldsList-turn e c.loop-row.yielded c.loop-row.row-iterator c.loop-row.yielded_by c.next.result
    c.next.new.self c.in-Some.row c.in-Some.is c.next.ensures.steps in
    let wide = ap (λ (r : Affine). length r.coefficients) t.1
    ∙ c.requires.wide (length c.loop-row.yielded) c.in-Some.row t.0 in
    subst (λ n. c.args.v < n) (sym wide) c.requires.below

pub remove-requires : goal.remove-requires
remove-requires c =
    let e = YieldsList-from_vec c.args.rows.items c.into_iter-row-iterator.ensures.into_iter_gives.0
    (omega (arith, c.into_iter-row-iterator.ensures.into_iter_gives.1, c.args.rows.ok.0)) in
    let t = YieldsList-turn e c.loop-row.yielded c.loop-row.row-iterator c.loop-row.yielded_by c.next.result
    c.next.new.self c.in-Some.row c.in-Some.is c.next.ensures.steps in
    let wide = ap (λ (r : Affine). length r.coefficients) t.1
    ∙ c.requires.wide (length c.loop-row.yielded) c.in-Some.row t.0 in
    subst (λ n. c.args.v < n) (sym wide) c.requires.below

pub returns-clause-free : goal.returns-clause-free
returns-clause-free c =
    let e = YieldsList-from_vec c.args.rows.items c.into_iter-row-iterator.ensures.into_iter_gives.0
    (omega (arith, c.into_iter-row-iterator.ensures.into_iter_gives.1, c.args.rows.ok.0)) in
    let t = YieldsList-end e c.loop-row.yielded c.loop-row.row-iterator c.loop-row.yielded_by c.next.result
    c.next.new.self c.in-None.is c.next.ensures.steps in
    let whole = sym (map-id c.loop-row.yielded) ∙ t.0 in
    c.loop-row.invariant.frees ∙ ap (λ rs. map (without c.args.v) (filter (is_free c.args.v) rs)) whole

pub returns-clause-lower : goal.returns-clause-lower
returns-clause-lower c =
    let e = YieldsList-from_vec c.args.rows.items c.into_iter-row-iterator.ensures.into_iter_gives.0
    (omega (arith, c.into_iter-row-iterator.ensures.into_iter_gives.1, c.args.rows.ok.0)) in
    let t = YieldsList-end e c.loop-row.yielded c.loop-row.row-iterator c.loop-row.yielded_by c.next.result
    c.next.new.self c.in-None.is c.next.ensures.steps in
    let whole = sym (map-id c.loop-row.yielded) ∙ t.0 in
    c.loop-row.invariant.lowers ∙ ap (λ rs. filter (is_lower_bound c.args.v) rs) whole

pub returns-clause-upper : goal.returns-clause-upper
returns-clause-upper c =
    let e = YieldsList-from_vec c.args.rows.items c.into_iter-row-iterator.ensures.into_iter_gives.0
    (omega (arith, c.into_iter-row-iterator.ensures.into_iter_gives.1, c.args.rows.ok.0)) in
    let t = YieldsList-end e c.loop-row.yielded c.loop-row.row-iterator c.loop-row.yielded_by c.next.result
    c.next.new.self c.in-None.is c.next.ensures.steps in
    let whole = sym (map-id c.loop-row.yielded) ∙ t.0 in
    c.loop-row.invariant.uppers ∙ ap (λ rs. filter (is_upper_bound c.args.v) rs) whole

pub returns-in_err-push-clause-free : goal.returns-in_err-push-clause-free
returns-in_err-push-clause-free c = IfOk-from_err c.from_residual-in_err-push.result _
    c.from_residual-in_err-push.ensures.0

pub returns-in_err-push-clause-lower : goal.returns-in_err-push-clause-lower
returns-in_err-push-clause-lower c = IfOk-from_err c.from_residual-in_err-push.result _
    c.from_residual-in_err-push.ensures.0

pub returns-in_err-push-clause-upper : goal.returns-in_err-push-clause-upper
returns-in_err-push-clause-upper c = IfOk-from_err c.from_residual-in_err-push.result _
    c.from_residual-in_err-push.ensures.0

pub returns-in_err-push-2-clause-free : goal.returns-in_err-push-2-clause-free
returns-in_err-push-2-clause-free c = IfOk-from_err c.from_residual-in_err-push-2.result _
    c.from_residual-in_err-push-2.ensures.0

pub returns-in_err-push-2-clause-lower : goal.returns-in_err-push-2-clause-lower
returns-in_err-push-2-clause-lower c = IfOk-from_err c.from_residual-in_err-push-2.result _
    c.from_residual-in_err-push-2.ensures.0

pub returns-in_err-push-2-clause-upper : goal.returns-in_err-push-2-clause-upper
returns-in_err-push-2-clause-upper c = IfOk-from_err c.from_residual-in_err-push-2.result _
    c.from_residual-in_err-push-2.ensures.0

pub returns-in_err-push-3-clause-free : goal.returns-in_err-push-3-clause-free
returns-in_err-push-3-clause-free c = IfOk-from_err c.from_residual-in_err-push-3.result _
    c.from_residual-in_err-push-3.ensures.0

pub returns-in_err-push-3-clause-lower : goal.returns-in_err-push-3-clause-lower
returns-in_err-push-3-clause-lower c = IfOk-from_err c.from_residual-in_err-push-3.result _
    c.from_residual-in_err-push-3.ensures.0

pub returns-in_err-push-3-clause-upper : goal.returns-in_err-push-3-clause-upper
returns-in_err-push-3-clause-upper c = IfOk-from_err c.from_residual-in_err-push-3.result _
    c.from_residual-in_err-push-3.ensures.0
