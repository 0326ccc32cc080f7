use Rattle.std.proofs.Common.{◌≡◌, ℕ, ◌+◌, ◌<◌, ◌≤◌, List, [], ◌∷◌, ◌++◌, min, drop, length, map, append_assoc}
use Rattle.std.proofs.Common.{ap, sym, ◌∙◌, arith}
use Rattle.std.proofs.lemmas.List.{append-nil, length-map, drop-map}
use Rattle.exo_tree.specs.Tree as tree
use Rattle.exo_tree.specs.Tree.{ConfigField, Param}
use Rattle.exo_tree.specs.PlainArgument.{argument}
use Rattle.exo_tree.specs.PlainParam.{parameter}
use Rattle.exo_meaning.specs.Units.{Scope}
use Rattle.exo_reader.specs.Source.{Argument}
use Rattle.exo_reader.specs.Views.{plain_argument}
use Rattle.exo_types.specs.ArgumentRules.{argument_of, arguments_of}
use Rattle.exo_types.proofs.Calls.{none_left}
use Rattle.exo_types.proofs.Lists.{drop_read}
use Rattle.exo_types.proofs.call.arguments_of.Goals as goal

below_both : (k a b least : ℕ) → k < least → least ≡ min a b → (k < a) × (k < b)
below_both k a b least h e = (omega (arith, h, e), omega (arith, h, e))

-- one argument more is made
one_made : (fields : List ConfigField) (scope : Scope) (ps more : List Param) (p : Param)
    (args rest : List Argument) (a : Argument) (made new : List tree.Argument) (one : tree.Argument)
    (whole : List tree.Argument) → ps ≡ p ∷ more → args ≡ a ∷ rest → new ≡ made ++ one ∷ []
    → one ≡ argument_of fields scope p.kind a → made ++ arguments_of fields scope ps args ≡ whole
    → new ++ arguments_of fields scope more rest ≡ whole
one_made fields scope ps more p args rest a made new one whole d e pushed is h =
    let left = arguments_of fields scope more rest in
    (λ i. pushed i ++ left) ∙ append_assoc made (one ∷ []) left ∙ ap (λ x. made ++ x ∷ left) is
    ∙ (λ i. made ++ arguments_of fields scope (sym d i) (sym e i)) ∙ h

pub returns : goal.returns
returns c =
    let fields = c.args.names.now.fields.now in
    let scope = c.args.names.now.scope.now in
    let ps = map parameter c.args.params.now in
    let args = map plain_argument c.args.arguments.now in
    let h : min (length ps) (length args) ≤ c.loop-k.k = omega (arith, c.loop-k-test.false, c.min-k-end.ensures, length-map c.args.params.now parameter, length-map c.args.arguments.now plain_argument) in
    sym (append-nil c.loop-k.made)
    ∙ ap (λ l. c.loop-k.made ++ l) (sym (none_left fields scope ps args c.loop-k.k h))
    ∙ ap (λ l. c.loop-k.made ++ l) (λ i. arguments_of fields scope (drop-map parameter c.loop-k.k c.args.params.now i) (drop-map plain_argument c.loop-k.k c.args.arguments.now i))
    ∙ c.loop-k.invariant

pub loop-k-preserved : goal.loop-k-preserved
loop-k-preserved c =
    let fields = c.args.names.now.fields.now in
    let scope = c.args.names.now.scope.now in
    let params = c.args.params.now in
    let arguments = c.args.arguments.now in
    let k = c.loop-k.k in
    let p = c.index-params-k.result in
    let a = c.index-arguments-k.result in
    let both = below_both k (length params) (length arguments) c.min-k-end.result c.loop-k-test.true
    c.min-k-end.ensures in
    let first = ap (map parameter) (drop_read params k p c.index-params-k.is both.0) in
    let second = ap (map plain_argument) (drop_read arguments k a c.index-arguments-k.is both.1) in
    let one = c.in_ok-argument_of.ensures
    ∙ ap (λ q. argument_of fields scope (parameter q).kind (plain_argument a)) (sym c.index-params-k.is) in
    one_made fields scope (map parameter (drop k params)) (map parameter (drop (k + 1) params)) (parameter p)
    (map plain_argument (drop k arguments)) (map plain_argument (drop (k + 1) arguments)) (plain_argument a)
    c.loop-k.made c.push.new.self (argument c.in_ok-argument_of.field-0) _ first second c.in_ok-push.ensures.pushed
    one c.loop-k.invariant
