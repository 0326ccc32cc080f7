use Rattle.std.proofs.Common.{◌≡◌, ◌+◌, ◌-◌, [], ◌∷◌, ◌++◌, refl, vec_len, length, map, take, drop, ap, sym, subst, ◌∙◌, arith}
use Rattle.std.proofs.lemmas.List.{drop_all}
use Rattle.exo_tree.specs.PlainControl.{condition}
use Rattle.text_expressions.specs.Views.{tree_of}
use Rattle.exo_reader.specs.Source.{block_of}
use Rattle.exo_reader.specs.Views.{plain_statement}
use Rattle.rules_names.specs.Names.{named_in}
use Rattle.rules_names.specs.Resolved.{control_of}
use Rattle.exo_types.specs.TypeRules.{binder}
use Rattle.exo_types.specs.StatementRules.{statement_width, else_width}
use Rattle.exo_types.specs.Walks.{HasRoom, Puts, IsPut}
use Rattle.exo_types.proofs.Lists.{drop_read}
use Rattle.exo_types.proofs.Forms.{is_pass, is_branch, is_loop, is_allocate, is_call, is_configure, is_assign, is_reduce, is_view}
use Rattle.exo_types.proofs.Broken.{exit, refuses_same, refuses_first, kept_none, kept_err, is_free}
use Rattle.exo_types.proofs.Plain.{passed}
use Rattle.exo_types.proofs.Walked.{SoFar, so_first, so_on, room_for, ended, over_one, taken_out, put}
use Rattle.exo_types.proofs.Nested.{no_statements, some_statements, else_wider, no_block, room_behind, room_then, room_else, branched, then_refused, else_refused, inside, room_inside, looped, inside_refused}
use Rattle.exo_types.proofs.statement.+statements.Goals as goal

-- ---- blocks

pub add_statements-loop-s-init : goal.add_statements-loop-s-init
add_statements-loop-s-init t c = so_first c.args.context.now c.args.walk.now _ c.args.n _ c.requires.empty c.requires.room

pub add_statements-add_statement-requires : goal.add_statements-add_statement-requires
add_statements-add_statement-requires t c =
    let xs = c.args.statements.now in
    let read = ap (λ l. block_of (map plain_statement l)) (drop_read xs c.loop-s.s-index c.s-item.result c.s-item.is c.loop-s-test.true) in
    let f = subst (SoFar c.args.context.now c.args.walk.now c.loop-s.walk c.loop-s.made c.args.n c.loop-s.next (block_of (map plain_statement xs))) read c.loop-s.invariant in
    (omega (arith, f.width, f.forward), room_for c.args.context.now c.args.walk.now c.loop-s.walk c.push.new.self _ c.args.n c.loop-s.next _ _ _ c.requires.room f)

pub add_statements-returns-in_err-next-clause-made : goal.add_statements-returns-in_err-next-clause-made
add_statements-returns-in_err-next-clause-made t c =
    let xs = c.args.statements.now in
    let read = ap (λ l. block_of (map plain_statement l)) (drop_read xs c.loop-s.s-index c.s-item.result c.s-item.is c.loop-s-test.true) in
    let f = subst (SoFar c.args.context.now c.args.walk.now c.loop-s.walk c.loop-s.made c.args.n c.loop-s.next (block_of (map plain_statement xs))) read c.loop-s.invariant in
    exit _ _ _ _ c.from_residual-in_err-next.ensures.1 (refuses_same _ _ _ f.fault (refuses_first _ _ _ c.in_err-next.ensures))

pub add_statements-loop-s-preserved : goal.add_statements-loop-s-preserved
add_statements-loop-s-preserved t c =
    let xs = c.args.statements.now in
    let read = ap (λ l. block_of (map plain_statement l)) (drop_read xs c.loop-s.s-index c.s-item.result c.s-item.is c.loop-s-test.true) in
    let f = subst (SoFar c.args.context.now c.args.walk.now c.loop-s.walk c.loop-s.made c.args.n c.loop-s.next (block_of (map plain_statement xs))) read c.loop-s.invariant in
    let step = c.in_ok-next.ensures in
    so_on c.args.context.now c.args.walk.now c.loop-s.walk c.add_statement.new.walk c.push.new.self c.loop-s.made c.add_statement.new.made c.args.n c.loop-s.next _ _ (plain_statement c.s-item.result) _ step.made f
    (c.in_ok-push.ensures.pushed ∙ ap (λ x. c.loop-s.walk.lines ++ x ∷ []) c.line.ensures)
    step.one step.ends step.last

pub add_statements-returns-clause-made : goal.add_statements-returns-clause-made
add_statements-returns-clause-made t c =
    let xs = c.args.statements.now in
    let none = ap (λ l. block_of (map plain_statement l)) (drop_all c.loop-s.s-index xs c.loop-s-test.false) in
    let f = subst (SoFar c.args.context.now c.args.walk.now c.loop-s.walk c.loop-s.made c.args.n c.loop-s.next (block_of (map plain_statement xs))) none c.loop-s.invariant in
    let len : vec_len c.args.walk.now.aliases ≡ length c.args.walk.now.aliases.items = omega arith in
    ended c.args.context.now c.args.walk.now c.loop-s.walk _ c.loop-s.made c.args.n c.loop-s.next _ f
    (c.truncate.ensures ∙ ap (λ k. drop (length c.loop-s.walk.scope - k) c.loop-s.walk.scope) c.len-named.ensures ∙ taken_out c.args.walk.now.scope c.loop-s.walk.scope c.loop-s.invariant.over)
    (c.truncate-2.ensures.items ∙ ap (λ k. take k c.loop-s.walk.aliases.items) (c.len-viewed.ensures ∙ len) ∙ c.loop-s.invariant.views)
    refl refl

pub add_statements-returns-clause-end : goal.add_statements-returns-clause-end
add_statements-returns-clause-end t c =
    let xs = c.args.statements.now in
    let none = ap (λ l. block_of (map plain_statement l)) (drop_all c.loop-s.s-index xs c.loop-s-test.false) in
    let f = subst (SoFar c.args.context.now c.args.walk.now c.loop-s.walk c.loop-s.made c.args.n c.loop-s.next (block_of (map plain_statement xs))) none c.loop-s.invariant in
    omega (arith, f.width)

-- ---- branches

pub add_branch-returns-in_err-keep : goal.add_branch-returns-in_err-keep
add_branch-returns-in_err-keep t c = exit _ _ _ _ c.from_residual.ensures.1 (refuses_first _ _ _ (kept_err _ _ _ c.test_condition-tested.ensures.charge c.in_err-keep.ensures))

pub add_branch-add_statements-requires : goal.add_branch-add_statements-requires
add_branch-add_statements-requires t c = (
  omega arith,
  (
    room_then c.args.context.now c.args.walk.now c.args.n _ (tree_of c.args.c.now) _ (block_of (map plain_statement c.args.b.now)) c.requires (ap (λ x. x + 3) c.test_condition-tested.ensures.end),
    c.new-then_part.ensures,
  ),
)

pub add_branch-returns-in_err-end : goal.add_branch-returns-in_err-end
add_branch-returns-in_err-end t c =
    exit _ _ _ _ c.from_residual-in_err-end.ensures.1
    (then_refused c.args.context.now c.args.walk.now c.args.n _ (tree_of c.args.c.now) (block_of (map plain_statement c.args.a.now)) (block_of (map plain_statement c.args.b.now)) _ (kept_none _ _ c.test_condition-tested.ensures.charge c.in_ok-keep.ensures) (ap (λ x. x + 3) c.test_condition-tested.ensures.end) c.in_err-end.ensures.made)

pub add_branch-add_else-requires : goal.add_branch-add_else-requires
add_branch-add_else-requires t c =
    let wider = else_wider (block_of (map plain_statement c.args.b.now)) in (
      omega (arith, wider),
      (
        room_else c.args.context.now c.args.walk.now c.add_statements.new.walk c.args.n _ _ (tree_of c.args.c.now) _ (block_of (map plain_statement c.args.b.now)) _ c.requires (ap (λ x. x + 3) c.test_condition-tested.ensures.end) c.in_ok-end.ensures.made (ap (λ x. x + 1) c.in_ok-end.ensures.end),
        c.new-else_part.ensures,
      ),
    )

pub add_branch-returns-in_err-next : goal.add_branch-returns-in_err-next
add_branch-returns-in_err-next t c =
    exit _ _ _ _ c.from_residual-in_err-next.ensures.1
    (else_refused c.args.context.now c.args.walk.now c.add_statements.new.walk c.args.n _ (c.in_ok-end.end + 1 + 4) (tree_of c.args.c.now) _ (block_of (map plain_statement c.args.b.now)) _ _ (kept_none _ _ c.test_condition-tested.ensures.charge c.in_ok-keep.ensures) (ap (λ x. x + 3) c.test_condition-tested.ensures.end) c.in_ok-end.ensures.made (omega (arith, c.in_ok-end.ensures.end)) c.in_err-next.ensures.made)

pub add_branch-returns : goal.add_branch-returns
add_branch-returns t c =
    put c.args.context.now c.args.walk.now c.add_else.new.walk _ _ _ c.args.n _ _
    (branched c.args.context.now c.args.walk.now c.add_statements.new.walk c.add_else.new.walk c.args.n (c.test_condition-tested.result.end + 3) (c.in_ok-end.end + 1 + 4) (tree_of c.args.c.now) _ _ _ _ _ (kept_none _ _ c.test_condition-tested.ensures.charge c.in_ok-keep.ensures) (ap condition c.into_inner.ensures ∙ c.in_ok-condition.ensures) (ap (λ x. x + 3) c.test_condition-tested.ensures.end) c.in_ok-end.ensures.made (omega (arith, c.in_ok-end.ensures.end)) c.in_ok-next.ensures.made)
    c.in_ok-push.ensures.pushed (omega (arith, c.test_condition-tested.ensures.end, c.in_ok-end.ensures.end, c.in_ok-next.ensures.end))

pub add_else-returns-then-is_empty-clause-made : goal.add_else-returns-then-is_empty-clause-made
add_else-returns-then-is_empty-clause-made t c = no_block c.args.context.now c.args.walk.now _ _ _ c.requires.empty (no_statements plain_statement c.args.b.now (sym c.is_empty.ensures ∙ c.if-is_empty.true))

pub add_else-returns-then-is_empty-clause-end : goal.add_else-returns-then-is_empty-clause-end
add_else-returns-then-is_empty-clause-end t c =
    let none = ap else_width (no_statements plain_statement c.args.b.now (sym c.is_empty.ensures ∙ c.if-is_empty.true)) in
    omega (arith, none)

pub add_else-add_statements-requires : goal.add_else-add_statements-requires
add_else-add_statements-requires t c =
    let some = some_statements plain_statement c.args.b.now (sym c.is_empty.ensures ∙ c.if-is_empty.false) in
    (omega arith, (room_behind c.args.context.now c.args.walk.now c.args.n _ c.requires.room some, c.requires.empty))

pub add_else-overflow_add-result : goal.add_else-overflow_add-result
add_else-overflow_add-result t c =
    let some = some_statements plain_statement c.args.b.now (sym c.is_empty.ensures ∙ c.if-is_empty.false) in
    omega (arith, some, c.in_ok-end.ensures.end, c.requires.room.tokens, c.requires.room.few)

pub add_else-returns-clause-end : goal.add_else-returns-clause-end
add_else-returns-clause-end t c =
    let some = some_statements plain_statement c.args.b.now (sym c.is_empty.ensures ∙ c.if-is_empty.false) in
    omega (arith, some, c.in_ok-end.ensures.end)

-- ---- loops

pub add_loop-returns-in_err-keep : goal.add_loop-returns-in_err-keep
add_loop-returns-in_err-keep t c = exit _ _ _ _ c.from_residual.ensures.1 (refuses_first _ _ _ (kept_err _ _ _ c.test_loop-bounds_end.ensures.charge c.in_err-keep.ensures))

pub add_loop-bind-requires-clause-new : goal.add_loop-bind-requires-clause-new
add_loop-bind-requires-clause-new t c =
    ap (named_in c.args.walk.now.scope) c.as_str.ensures
    ∙ is_free c.args.walk.now.scope (c.args.n + 1) c.args.i.now _ (kept_none _ _ c.test_loop-bounds_end.ensures.charge c.in_ok-keep.ensures)

pub add_loop-add_statements-requires : goal.add_loop-add_statements-requires
add_loop-add_statements-requires t c =
    let scope = c.in_ok-binder.ensures.scope ∙ ap (inside c.args.context.now c.args.walk.now) c.as_str.ensures in
    let start = ap (λ x. x + 4) c.test_loop-bounds_end.ensures.end in (
      omega arith,
      (
        room_inside c.args.context.now c.args.walk.now c.bind.new.self c.args.n _ c.args.i.now (tree_of c.args.low.now) (tree_of c.args.high.now) _ c.requires scope c.in_ok-binder.ensures.next start,
        c.new-inside.ensures,
      ),
    )

pub add_loop-returns-in_err-end : goal.add_loop-returns-in_err-end
add_loop-returns-in_err-end t c =
    let own = kept_none _ _ c.test_loop-bounds_end.ensures.charge c.in_ok-keep.ensures in
    let scope = c.in_ok-binder.ensures.scope ∙ ap (inside c.args.context.now c.args.walk.now) c.as_str.ensures in
    let start = ap (λ x. x + 4) c.test_loop-bounds_end.ensures.end in
    exit _ _ _ _ c.from_residual-in_err-end.ensures.1
    (inside_refused c.args.context.now c.args.walk.now c.bind.new.self c.args.n _ c.args.i.now (tree_of c.args.low.now) (tree_of c.args.high.now) (block_of (map plain_statement c.args.a.now)) _ own scope c.in_ok-binder.ensures.next c.in_ok-binder.ensures.aliases start c.in_err-end.ensures.made)

pub add_loop-returns : goal.add_loop-returns
add_loop-returns t c =
    let walk = c.args.walk.now in
    let fields = c.args.context.now.fields.now in
    let own = kept_none _ _ c.test_loop-bounds_end.ensures.charge c.in_ok-keep.ensures in
    let scope = c.in_ok-binder.ensures.scope ∙ ap (inside c.args.context.now walk) c.as_str.ensures in
    let start = ap (λ x. x + 4) c.test_loop-bounds_end.ensures.end in
    let made = c.in_ok-end.ensures.made in
    let again : c.truncate.new.self ≡ walk.scope = c.truncate.ensures ∙ ap (λ k. drop (length c.add_statements.new.walk.scope - k) c.add_statements.new.walk.scope) c.len-known.ensures ∙ taken_out walk.scope c.add_statements.new.walk.scope (over_one _ _ _ (made.scope ∙ scope)) in
    put c.args.context.now walk _ _ _ _ c.args.n _ _
    (looped c.args.context.now walk c.bind.new.self c.add_statements.new.walk _ c.args.n _ c.args.i.now (tree_of c.args.low.now) (tree_of c.args.high.now) _ _ _ _ _ own scope c.in_ok-binder.ensures.next c.in_ok-binder.ensures.aliases c.in_ok-binder.ensures.lines start made
    (c.in_ok-binder.ensures.binder ∙ ap (binder walk.next_id) c.as_str.ensures)
    (ap (λ s. control_of fields s (tree_of c.args.low.now)) again) (ap (λ s. control_of fields s (tree_of c.args.high.now)) again)
    again refl refl refl)
    c.in_ok-put_loop.ensures (omega (arith, start, c.in_ok-end.ensures.end))

-- ---- statements

pub add_statement-returns-in_ok-push-in-Pass : goal.add_statement-returns-in_ok-push-in-Pass
add_statement-returns-in_ok-push-in-Pass t c =
    subst (λ x. IsPut c.args.context.now c.args.walk.now c.args.walk.now c.args.made.now c.push.new.self c.args.n (c.args.n + 2) x) (sym (is_pass _ c.in-Pass.is))
    (put c.args.context.now c.args.walk.now c.args.walk.now _ _ _ c.args.n _ _ (passed c.args.context.now c.args.walk.now c.args.n) c.in_ok-push-in-Pass.ensures.pushed refl)

pub add_statement-add_branch-requires : goal.add_statement-add_branch-requires
add_statement-add_branch-requires t c =
    let is = is_branch _ _ _ _ _ _ c.in-If.is c.deref.ensures.value c.deref-in-If.ensures.value in
    let width = ap statement_width is in
    (omega (arith, width), subst (λ x. HasRoom c.args.context.now c.args.walk.now c.args.n (statement_width x)) is c.requires)

pub add_statement-add_loop-requires : goal.add_statement-add_loop-requires
add_statement-add_loop-requires t c =
    let is = is_loop _ _ _ _ _ _ c.in-For.is c.deref-in-For.ensures.value in
    let width = ap statement_width is in
    (omega (arith, width), subst (λ x. HasRoom c.args.context.now c.args.walk.now c.args.n (statement_width x)) is c.requires)

pub add_statement-add_alloc-requires : goal.add_statement-add_alloc-requires
add_statement-add_alloc-requires t c = subst (λ x. HasRoom c.args.context.now c.args.walk.now c.args.n (statement_width x)) (is_allocate _ _ _ _ _ _ c.in-Alloc.is c.deref-in-Alloc.ensures.value) c.requires

pub add_statement-add_call-requires-clause-room : goal.add_statement-add_call-requires-clause-room
add_statement-add_call-requires-clause-room t c =
    let width = ap statement_width (is_call _ _ _ c.in-Call.is) in
    omega (arith, width, c.requires.tokens, c.requires.few)

pub add_statement-add_config-requires : goal.add_statement-add_config-requires
add_statement-add_config-requires t c =
    let width = ap statement_width (is_configure _ _ _ _ c.in-Config.is) in
    omega (arith, width, c.requires.tokens, c.requires.few)

pub add_statement-add_store-requires : goal.add_statement-add_store-requires
add_statement-add_store-requires t c =
    let width = ap statement_width (is_assign _ _ _ _ _ c.in-Assign.is c.deref-in-Assign.ensures.value) in
    omega (arith, width, c.requires.tokens, c.requires.few)

pub add_statement-add_store-requires-in-Reduce : goal.add_statement-add_store-requires-in-Reduce
add_statement-add_store-requires-in-Reduce t c =
    let width = ap statement_width (is_reduce _ _ _ _ _ c.in-Reduce.is c.deref-in-Reduce.ensures.value) in
    omega (arith, width, c.requires.tokens, c.requires.few)

pub add_statement-add_view-requires : goal.add_statement-add_view-requires
add_statement-add_view-requires t c = subst (λ x. HasRoom c.args.context.now c.args.walk.now c.args.n (statement_width x)) (is_view _ _ _ _ _ c.in-View.is c.deref-in-View.ensures.value) c.requires

pub add_statement-returns-in-If : goal.add_statement-returns-in-If
add_statement-returns-in-If t c = subst (λ x. Puts c.args.context.now c.args.walk.now c.add_branch.new.walk c.args.made.now c.add_branch.new.made c.args.n x c.add_branch.result) (sym (is_branch _ _ _ _ _ _ c.in-If.is c.deref.ensures.value c.deref-in-If.ensures.value)) c.add_branch.ensures

pub add_statement-returns-in-For : goal.add_statement-returns-in-For
add_statement-returns-in-For t c = subst (λ x. Puts c.args.context.now c.args.walk.now c.add_loop.new.walk c.args.made.now c.add_loop.new.made c.args.n x c.add_loop.result) (sym (is_loop _ _ _ _ _ _ c.in-For.is c.deref-in-For.ensures.value)) c.add_loop.ensures

pub add_statement-returns-in-Alloc : goal.add_statement-returns-in-Alloc
add_statement-returns-in-Alloc t c = subst (λ x. Puts c.args.context.now c.args.walk.now c.add_alloc.new.walk c.args.made.now c.add_alloc.new.made c.args.n x c.add_alloc.result) (sym (is_allocate _ _ _ _ _ _ c.in-Alloc.is c.deref-in-Alloc.ensures.value)) c.add_alloc.ensures

pub add_statement-returns-in-Call : goal.add_statement-returns-in-Call
add_statement-returns-in-Call t c = subst (λ x. Puts c.args.context.now c.args.walk.now c.args.walk.now c.args.made.now c.add_call.new.made c.args.n x c.add_call.result) (sym (is_call _ _ _ c.in-Call.is)) c.add_call.ensures

pub add_statement-returns-in-Config : goal.add_statement-returns-in-Config
add_statement-returns-in-Config t c = subst (λ x. Puts c.args.context.now c.args.walk.now c.args.walk.now c.args.made.now c.add_config.new.made c.args.n x c.add_config.result) (sym (is_configure _ _ _ _ c.in-Config.is)) c.add_config.ensures

pub add_statement-returns-in-Assign : goal.add_statement-returns-in-Assign
add_statement-returns-in-Assign t c = subst (λ x. Puts c.args.context.now c.args.walk.now c.args.walk.now c.args.made.now c.add_store.new.made c.args.n x c.add_store.result) (sym (is_assign _ _ _ _ _ c.in-Assign.is c.deref-in-Assign.ensures.value)) c.add_store.ensures

pub add_statement-returns-in-Reduce : goal.add_statement-returns-in-Reduce
add_statement-returns-in-Reduce t c = subst (λ x. Puts c.args.context.now c.args.walk.now c.args.walk.now c.args.made.now c.add_store-in-Reduce.new.made c.args.n x c.add_store-in-Reduce.result) (sym (is_reduce _ _ _ _ _ c.in-Reduce.is c.deref-in-Reduce.ensures.value)) c.add_store-in-Reduce.ensures

pub add_statement-returns-in-View : goal.add_statement-returns-in-View
add_statement-returns-in-View t c = subst (λ x. Puts c.args.context.now c.args.walk.now c.add_view.new.walk c.args.made.now c.add_view.new.made c.args.n x c.add_view.result) (sym (is_view _ _ _ _ _ c.in-View.is c.deref-in-View.ensures.value)) c.add_view.ensures
