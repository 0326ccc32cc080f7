use Rattle.std.proofs.Common.{length, map, option_map, ap, sym, ◌∙◌, arith}
use Rattle.std.proofs.lemmas.List.{length-map}
use Rattle.exo_reader.specs.Views.{plain_argument}
use Rattle.rules_names.specs.Faults.{charged, least}
use Rattle.exo_modes.specs.Aliases.{roots_in}
use Rattle.exo_types.specs.Seen.{signature}
use Rattle.exo_types.specs.ArgumentRules.{arguments_width, call_faults, arguments_of}
use Rattle.exo_types.proofs.Broken.{exit, refuses_first, refuses_same, kept_none, kept_err}
use Rattle.exo_types.proofs.Numbers.{number_below}
use Rattle.exo_types.proofs.Plain.{called, callee_found, callee_unknown, counted}
use Rattle.exo_types.proofs.Walked.{put}
use Rattle.exo_types.proofs.statement.add_call.Goals as goal

pub returns-in_default : goal.returns-in_default
returns-in_default c =
    let none = sym c.number_in.ensures ∙ c.in_default.is in
    refuses_first _ _ _ (refuses_same _ _ _ (ap (λ o. least (call_faults c.args.context.now.fields.now o c.args.walk.now.scope (roots_in c.args.walk.now.aliases.items) c.args.n (map plain_argument c.args.arguments.now.items.items))) (sym (callee_unknown c.args.context.now c.args.name.now none))) c.unknown_name.ensures)

pub returns-in_default-callee : goal.returns-in_default-callee
returns-in_default-callee c =
    let found = sym c.number_in.ensures ∙ c.in-Some.is in
    let none = sym c.callee.ensures ∙ ap (option_map signature) c.in_default-callee.is in
    refuses_first _ _ _ (refuses_same _ _ _ (ap (λ o. least (call_faults c.args.context.now.fields.now o c.args.walk.now.scope (roots_in c.args.walk.now.aliases.items) c.args.n (map plain_argument c.args.arguments.now.items.items))) (sym (callee_found c.args.context.now c.args.name.now c.in-Some.number _ found none))) c.unknown_name-in_default-callee.ensures)

pub returns-in_err-keep : goal.returns-in_err-keep
returns-in_err-keep c =
    let found = sym c.number_in.ensures ∙ c.in-Some.is in
    let seen = sym c.callee.ensures ∙ ap (option_map signature) c.in-Some-callee.is in
    let callee = sym (callee_found c.args.context.now c.args.name.now c.in-Some.number _ found seen) in
    let own = c.in_ok-charge.ensures.charge ∙ (λ i. charged (call_faults c.args.context.now.fields.now (callee i) c.args.walk.now.scope (roots_in (c.deref.ensures.value i)) c.args.n (map plain_argument (c.as_slice-given.ensures.value i)))) in
    exit _ _ _ _ c.from_residual-in_err-keep.ensures.1 (refuses_first _ _ _ (kept_err _ _ _ own c.in_err-keep.ensures))

pub overflow_cast-number : goal.overflow_cast-number
overflow_cast-number c =
    let h = number_below c.args.context.now.procedures.now c.args.name.now c.in-Some.number (sym c.number_in.ensures ∙ c.in-Some.is) in
    omega (arith, h, c.requires.few)

pub overflow_add-result : goal.overflow_add-result
overflow_add-result c =
    let same = counted (length (map plain_argument c.as_slice-given.result.now)) (length c.in-Some-callee.callee.params.now) c.args.n _ (kept_none _ _ c.in_ok-charge.ensures.charge c.in_ok-keep.ensures) in
    let behind = c.in_ok-charge.ensures.end (sym (length-map c.as_slice-given.result.now plain_argument) ∙ same) in
    let given = ap (λ l. arguments_width (map plain_argument l)) c.as_slice-given.ensures.value in
    omega (arith, behind, given, c.requires.room, c.comma_width-comma.ensures)

pub overflow_add-result-2 : goal.overflow_add-result-2
overflow_add-result-2 c =
    let same = counted (length (map plain_argument c.as_slice-given.result.now)) (length c.in-Some-callee.callee.params.now) c.args.n _ (kept_none _ _ c.in_ok-charge.ensures.charge c.in_ok-keep.ensures) in
    let behind = c.in_ok-charge.ensures.end (sym (length-map c.as_slice-given.result.now plain_argument) ∙ same) in
    let given = ap (λ l. arguments_width (map plain_argument l)) c.as_slice-given.ensures.value in
    omega (arith, behind, given, c.requires.room, c.comma_width-comma.ensures)

pub returns : goal.returns
returns c =
    let found = sym c.number_in.ensures ∙ c.in-Some.is in
    let seen = sym c.callee.ensures ∙ ap (option_map signature) c.in-Some-callee.is in
    let callee = sym (callee_found c.args.context.now c.args.name.now c.in-Some.number _ found seen) in
    let own = c.in_ok-charge.ensures.charge ∙ (λ i. charged (call_faults c.args.context.now.fields.now (callee i) c.args.walk.now.scope (roots_in (c.deref.ensures.value i)) c.args.n (map plain_argument (c.as_slice-given.ensures.value i)))) in
    let same = counted (length (map plain_argument c.as_slice-given.result.now)) (length c.in-Some-callee.callee.params.now) c.args.n _ (kept_none _ _ c.in_ok-charge.ensures.charge c.in_ok-keep.ensures) in
    let behind = c.in_ok-charge.ensures.end (sym (length-map c.as_slice-given.result.now plain_argument) ∙ same) in
    let given = ap (λ l. arguments_width (map plain_argument l)) c.as_slice-given.ensures.value in
    put c.args.context.now c.args.walk.now c.args.walk.now _ _ _ c.args.n _ _
    (called c.args.context.now c.args.walk.now c.args.n c.args.name.now _ c.args.arguments.now.trailing c.in-Some.number (signature c.in-Some-callee.callee) _ found seen (kept_none _ _ own c.in_ok-keep.ensures)
    (c.in_ok-args.ensures ∙ (λ i. arguments_of c.args.context.now.fields.now c.args.walk.now.scope (c.as_slice.ensures i) (map plain_argument (c.as_slice-given.ensures.value i)))))
    c.in_ok-push.ensures.pushed (omega (arith, behind, given, c.comma_width-comma.ensures))
