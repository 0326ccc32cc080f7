use Rattle.std.proofs.Common.{◌≡◌, ℕ, suc, ◌-◌, ◌<◌, ◌≤◌, Bool, true, false, ◌&&◌, ◌||◌, List, [], ◌∷◌, length, get_or}
use Rattle.std.proofs.Common.{map}
use Rattle.std.proofs.Common.{take, drop, Option, refl, ap, sym, ◌∙◌, arith}
use Rattle.exo_tree.specs.PlainArgument.{argument}
use Rattle.exo_tree.specs.PlainParam.{parameter}
use Rattle.exo_tree.specs.Tree as tree
use Rattle.exo_tree.specs.declared.argument.Arg.{Arg}
use Rattle.exo_tree.specs.declared.param.Param.{Param}
use Rattle.exo_meaning.specs.Units.{root_of, same_root, is_whole, is_shared}
use Rattle.exo_modes.specs.Aliases.{roots_in}
use Rattle.tree_findings.specs.Walked.{ground_kinds, writes_seen}
use Rattle.tree_findings.proofs.Scopes.{taken_all}
use Rattle.tree_findings.proofs.call.+is_shared.Goals.{then-is_whole, else-is_whole}
use Rattle.tree_findings.proofs.call.+is_shared.Goals.{then-same+then-written, then-same+else-written, else-same}
use Rattle.tree_findings.proofs.call.+is_shared.Goals as goal

-- what `||` and `&&` give
or_first : {a v : Bool} (b : Bool) → a ≡ true → v ≡ a → v ≡ (a || b)
or_first b e h = h ∙ e ∙ ap (λ x. x || b) (sym e)

or_second : {a b v : Bool} → a ≡ false → v ≡ b → v ≡ (a || b)
or_second {b = b} e h = h ∙ ap (λ x. x || b) (sym e)

and_first : {a v : Bool} (b : Bool) → a ≡ false → v ≡ a → v ≡ (a && b)
and_first b e h = h ∙ e ∙ ap (λ x. x && b) (sym e)

and_second : {a b v : Bool} → a ≡ true → v ≡ b → v ≡ (a && b)
and_second {b = b} e h = h ∙ ap (λ x. x && b) (sym e)

all_taken : {X : Type 0} (n : ℕ) (xs : List X) → n ≡ length xs → take n xs ≡ xs
all_taken n xs e = ap (λ m. take m xs) e ∙ taken_all xs

module _ (fields : ℕ → Option tree.Kind) (writes : ℕ → Bool) (root : ℕ → ℕ) (p : tree.Param) (r : Option ℕ) where
  abbrev shared : List Param → List Arg → Bool
  shared ps as' = is_shared fields writes root p r (map parameter ps) (map argument as')

  -- whether the first two are of one buffer
  abbrev here : Param → Arg → Bool
  here q a =
      same_root fields r (root_of fields root (argument a))
      && ((writes p.binder.id || writes (parameter q).binder.id) && (is_whole p.kind || is_whole (parameter q).kind))

  no_param : (ps : List Param) (as' : List Arg) → length ps < 1 → false ≡ shared ps as'
  no_param [] as' h = refl
  no_param (q ∷ ps) as' h = absurd (omega arith)

  no_argument : (ps : List Param) (as' : List Arg) → length as' < 1 → false ≡ shared ps as'
  no_argument [] as' h = refl
  no_argument (q ∷ ps) [] h = refl
  no_argument (q ∷ ps) (a ∷ as') h = absurd (omega arith)

  shared_first : (ps : List Param) (as' : List Arg) (q : Param) (a : Arg) → 1 ≤ length ps → 1 ≤ length as'
      → q ≡ get_or ps 0 q → a ≡ get_or as' 0 a
      → shared ps as' ≡ (here q a || shared (take (length ps - 1) (drop 1 ps)) (take (length as' - 1) (drop 1 as')))
  shared_first [] as' q a h k e f = absurd (omega arith)
  shared_first (x ∷ ps) [] q a h k e f = absurd (omega arith)
  shared_first (x ∷ ps) (y ∷ as') q a h k e f =
      let same = all_taken (suc (length ps) - 1) ps (omega arith) in
      let same' = all_taken (suc (length as') - 1) as' (omega arith) in
      λ i. here (sym e i) (sym f i) || shared (sym same i) (sym same' i)

pub returns-in_default : goal.returns-in_default
returns-in_default t c =
    let g = c.args.ground.now in
    no_param (ground_kinds g) (writes_seen g c.args.callee.0) (roots_in c.args.aliases.now) (parameter c.args.p.now)
    c.args.buffer c.args.params.now c.args.args.now c.in_default.len_below

pub returns-in_default-args : goal.returns-in_default-args
returns-in_default-args t c =
    let g = c.args.ground.now in
    no_argument (ground_kinds g) (writes_seen g c.args.callee.0) (roots_in c.args.aliases.now) (parameter c.args.p.now)
    c.args.buffer c.args.params.now c.args.args.now c.in_default-args.len_below

pub returns-then-whole : goal.returns-then-whole
returns-then-whole t c =
    let g = c.args.ground.now in
    let kinds = ground_kinds g in
    let writes = writes_seen g c.args.callee.0 in
    let root = roots_in c.args.aliases.now in
    let p = parameter c.args.p.now in
    let r = c.args.buffer in
    let ps = c.args.params.now in
    let as' = c.args.args.now in
    let q = c.q-item.result in
    let a = c.a-item.result in
    let same = c.same_root-same.result in
    let written = c.has_write_of-written.result in
    let whole = c.if-is_whole.whole in
    let two = is_whole (parameter q).kind in
    let whole_is : whole ≡ (c.is_whole.result || two) = elim c.if-is_whole.branch [
      | then-is_whole w ↦ or_first two w.if-is_whole.true w.whole-is
      | else-is_whole w ↦ or_second w.if-is_whole.false (w.whole-is ∙ w.is_whole-whole.ensures)
    ] in
    let value_is : c.if-same.value ≡ (same && (written && whole)) = elim c.if-same.branch [
      | then-same+then-written w ↦ and_second w.if-same.true (and_second w.if-written.true w.value-is)
      | then-same+else-written w ↦ and_second w.if-same.true (and_first whole w.if-written.false w.value-is)
      | else-same w ↦ and_first (written && whole) w.if-same.false w.value-is
    ] in
    let one = c.same_root-same.ensures ∙ ap (same_root kinds r) c.root_of.ensures in
    let full = whole_is ∙ ap (λ s. s || two) c.is_whole.ensures in
    let is : c.if-same.value ≡ here kinds writes root p r q a =
    value_is ∙ (λ i. one i && (c.has_write_of-written.ensures i && full i)) in
    let rest = shared kinds writes root p r (take (length ps - 1) (drop 1 ps)) (take (length as' - 1) (drop 1 as')) in
    c.if-whole.true ∙ ap (λ b. b || rest) (sym c.if-whole.true ∙ is)
    ∙ sym (shared_first kinds writes root p r ps as' q a c.in-len1-up.len_at_least c.in-len1-up-args.len_at_least
    c.q-item.is c.a-item.is)

pub returns-else-whole : goal.returns-else-whole
returns-else-whole t c =
    let g = c.args.ground.now in
    let kinds = ground_kinds g in
    let writes = writes_seen g c.args.callee.0 in
    let root = roots_in c.args.aliases.now in
    let p = parameter c.args.p.now in
    let r = c.args.buffer in
    let ps = c.args.params.now in
    let as' = c.args.args.now in
    let q = c.q-item.result in
    let a = c.a-item.result in
    let same = c.same_root-same.result in
    let written = c.has_write_of-written.result in
    let whole = c.if-is_whole.whole in
    let two = is_whole (parameter q).kind in
    let whole_is : whole ≡ (c.is_whole.result || two) = elim c.if-is_whole.branch [
      | then-is_whole w ↦ or_first two w.if-is_whole.true w.whole-is
      | else-is_whole w ↦ or_second w.if-is_whole.false (w.whole-is ∙ w.is_whole-whole.ensures)
    ] in
    let value_is : c.if-same.value ≡ (same && (written && whole)) = elim c.if-same.branch [
      | then-same+then-written w ↦ and_second w.if-same.true (and_second w.if-written.true w.value-is)
      | then-same+else-written w ↦ and_second w.if-same.true (and_first whole w.if-written.false w.value-is)
      | else-same w ↦ and_first (written && whole) w.if-same.false w.value-is
    ] in
    let one = c.same_root-same.ensures ∙ ap (same_root kinds r) c.root_of.ensures in
    let full = whole_is ∙ ap (λ s. s || two) c.is_whole.ensures in
    let is : c.if-same.value ≡ here kinds writes root p r q a =
    value_is ∙ (λ i. one i && (c.has_write_of-written.ensures i && full i)) in
    let rest = shared kinds writes root p r (take (length ps - 1) (drop 1 ps)) (take (length as' - 1) (drop 1 as')) in
    c.is_shared.ensures ∙ ap (λ b. b || rest) (sym c.if-whole.false ∙ is)
    ∙ sym (shared_first kinds writes root p r ps as' q a c.in-len1-up.len_at_least c.in-len1-up-args.len_at_least
    c.q-item.is c.a-item.is)

pub bounds-args-0 : goal.bounds-args-0
bounds-args-0 t c = c.in-len1-up-args.len_at_least

pub bounds-params-0 : goal.bounds-params-0
bounds-params-0 t c = c.in-len1-up.len_at_least

pub slice_bounds-args-start : goal.slice_bounds-args-start
slice_bounds-args-start t c = c.in-len1-up-args.len_at_least

pub slice_bounds-args-count : goal.slice_bounds-args-count
slice_bounds-args-count t c = c.in-len1-up-args.len_at_least

pub slice_bounds-params-start : goal.slice_bounds-params-start
slice_bounds-params-start t c = c.in-len1-up.len_at_least

pub slice_bounds-params-count : goal.slice_bounds-params-count
slice_bounds-params-count t c = c.in-len1-up.len_at_least
