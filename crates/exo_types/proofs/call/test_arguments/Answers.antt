use Rattle.std.proofs.Common.{◌≤◌, ◌<◌, ◌+◌, ◌++◌, [], not, min, length, map, drop, refl, ap, sym, ◌∙◌, arith}
use Rattle.std.proofs.lemmas.List.{length-map, drop-map}
use Rattle.exo_tree.specs.PlainParam.{parameter}
use Rattle.exo_reader.specs.Views.{plain_argument}
use Rattle.rules_names.specs.declared.error.TypeKind.TheVariants.{SharedArgument}
use Rattle.rules_names.specs.Faults.{charged, unless}
use Rattle.exo_modes.specs.Aliases.{roots_in}
use Rattle.exo_modes.specs.Seen.{row_writes}
use Rattle.exo_types.specs.declared.call.Passed.{Passed}
use Rattle.exo_types.specs.ArgumentRules.{argument_faults, arguments_faults, is_passed}
use Rattle.exo_types.proofs.Calls.{none_broken, one_more, spaced_read, nothing_spaced}
use Rattle.exo_types.proofs.Gone.{gone_same, gone_next, gone_all}
use Rattle.exo_types.proofs.Lists.{drop_read}
use Rattle.exo_types.proofs.call.test_arguments.Goals as goal

pub loop-k-init : goal.loop-k-init
loop-k-init c =
    let fields = c.args.names.now.fields.now in
    let writes = row_writes c.args.callee.writes.now in
    let start = arguments_faults fields writes c.args.names.now.scope.now (roots_in c.args.aliases.now) in
    record {
      count = refl;
      gone = gone_same _ _ _ (λ i. start (c.new-passed.ensures.items i) (map parameter c.as_slice-params.result.now) c.args.n (map plain_argument c.args.arguments.now)) c.none-charge.ensures;
    }

pub test_argument-end-requires : goal.test_argument-end-requires
test_argument-end-requires c =
    let h : c.loop-k.k < length c.args.arguments.now = omega (arith, c.loop-k-test.true, c.min-k-end.ensures) in
    let w = spaced_read plain_argument c.args.arguments.now c.loop-k.k c.index-arguments-k.result c.index-arguments-k.is h in
    omega (arith, w, c.loop-k.invariant.count, c.requires)

pub overflow_add-next : goal.overflow_add-next
overflow_add-next c =
    let h : c.loop-k.k < length c.args.arguments.now = omega (arith, c.loop-k-test.true, c.min-k-end.ensures) in
    let w = spaced_read plain_argument c.args.arguments.now c.loop-k.k c.index-arguments-k.result c.index-arguments-k.is h in
    omega (arith, w, c.loop-k.invariant.count, c.requires, c.test_argument-end.ensures.end)

pub loop-k-preserved : goal.loop-k-preserved
loop-k-preserved c =
    let h : c.loop-k.k < length c.args.arguments.now = omega (arith, c.loop-k-test.true, c.min-k-end.ensures) in
    let g : c.loop-k.k < length c.as_slice-params.result.now = omega (arith, c.loop-k-test.true, c.min-k-end.ensures) in
    let w = spaced_read plain_argument c.args.arguments.now c.loop-k.k c.index-arguments-k.result c.index-arguments-k.is h in
    let fields = c.args.names.now.fields.now in
    let scope = c.args.names.now.scope.now in
    let p = parameter c.index-params-k.result in
    let a = plain_argument c.index-arguments-k.result in
    let own = argument_faults fields scope p.kind c.loop-k.next a in
    let now : Passed = record { root = c.root_of.result; written = c.has_write.result; whole = c.is_whole.result } in
    let shared = c.is_passed-shared.ensures ∙ ap (is_passed now) c.deref.ensures.value in
    let shares = c.unless-shares.ensures ∙ ap (λ b. charged (unless (not b) SharedArgument c.loop-k.next)) shared in
    record {
      count = omega (arith, w, c.loop-k.invariant.count, c.test_argument-end.ensures.end);
      gone =
          gone_next _ _ (own ++ unless (not (is_passed now c.loop-k.passed.items)) SharedArgument c.loop-k.next) _ _ _
          (λ done e. c.and-charge.ensures done _ e (c.and.ensures own _ c.test_argument-end.ensures.charge shares))
          (one_more fields (row_writes c.args.callee.writes.now) scope (roots_in c.args.aliases.now) c.loop-k.passed.items c.push.new.self.items c.loop-k.next (c.test_argument-end.result.1 + 1) p _ (map parameter (drop (c.loop-k.k + 1) c.as_slice-params.result.now)) a _ (map plain_argument (drop (c.loop-k.k + 1) c.args.arguments.now)) now
          (ap (map parameter) (drop_read c.as_slice-params.result.now c.loop-k.k c.index-params-k.result c.index-params-k.is g))
          (ap (map plain_argument) (drop_read c.args.arguments.now c.loop-k.k c.index-arguments-k.result c.index-arguments-k.is h))
          (λ i. record { root = c.root_of.ensures i; written = c.has_write.ensures i; whole = c.is_whole.ensures i })
          c.in_ok-push.ensures.items (ap (λ k. k + 1) c.test_argument-end.ensures.end))
          c.loop-k.invariant.gone;
    }

pub returns-clause-charge : goal.returns-clause-charge
returns-clause-charge c =
    let fields = c.args.names.now.fields.now in
    let ps = map parameter c.as_slice-params.result.now in
    let args = map plain_argument c.args.arguments.now in
    let h : min (length ps) (length args) ≤ c.loop-k.k = omega (arith, c.loop-k-test.false, c.min-k-end.ensures, length-map c.as_slice-params.result.now parameter, length-map c.args.arguments.now plain_argument) in
    let start = arguments_faults fields (row_writes c.args.callee.writes.now) c.args.names.now.scope.now (roots_in c.args.aliases.now) in
    gone_all _ _ _ (sym (λ i. start c.loop-k.passed.items (drop-map parameter c.loop-k.k c.as_slice-params.result.now i) c.loop-k.next (drop-map plain_argument c.loop-k.k c.args.arguments.now i)) ∙ none_broken fields _ c.args.names.now.scope.now _ c.loop-k.passed.items ps c.loop-k.next args c.loop-k.k h) c.loop-k.invariant.gone
    ∙ ap (λ l. charged (start [] l c.args.n args)) c.as_slice-params.ensures

pub returns-clause-end : goal.returns-clause-end
returns-clause-end c same =
    let h : length c.args.arguments.now ≤ c.loop-k.k = omega (arith, same, c.loop-k-test.false, c.min-k-end.ensures, length-map c.as_slice-params.result.now parameter, ap length c.as_slice-params.ensures) in
    let w = nothing_spaced plain_argument c.args.arguments.now c.loop-k.k h in
    omega (arith, w, c.loop-k.invariant.count)
