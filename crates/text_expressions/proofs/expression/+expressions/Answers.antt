use Rattle.std.proofs.Common.{[], ◌∷◌, arith, ap, refl, length, subst, ◌∙◌, true, false, ◌≡◌}
use Rattle.text_phrases.proofs.Exits.{exit}
use Rattle.text_phrases.proofs.Phrases.{taken_shorter}
use Rattle.text_phrases.proofs.Sequences.{step_taken}
use Rattle.text_phrases.proofs.Commas.{listed_first}
use Rattle.text_phrases.proofs.Joints.{whole_err, now, later, both, now_by, later_by, both_by}
use Rattle.std.proofs.lemmas.List.{length-append}
use Rattle.text_expressions.proofs.Chains.{taken_of_begun}
use Rattle.text_expressions.proofs.Atoms.{wide_minus, wide_open, wide_relu, wide_select}
use Rattle.text_expressions.proofs.Made.{made_truth, made_name, made_negative, made_parens, made_relu}
use Rattle.text_expressions.proofs.Productions.{step_negative, step_parens, ended_joint, step_relu, open_joint, step_select, choice0, choice1, choice2, choice3}
use Rattle.text_expressions.proofs.Returns.{renamed, roomed, roomed_err, fronted, fronted_err, true_ok, false_ok, variable_ok, long_err, full_front, full_cell, word_err, sign_err, start_err, end_err, full_err, first_err, begun_first, chain_err, chain_next, compare_none, compare_full, compare_err, compare_ok, all_err, left_of, deep_left, place_under, same_two, same_three, same_four, ended, ended_err, ended_left, ended_deep, deep_indices, deep_inside, cell_err, bracket_err, cell_ok, indices_err_first, indices_full, indices_err, indices_next, deepest_next, indices_ok}
use Rattle.text_expressions.specs.Expression.{HasPlace, depth, nodes}
use Rattle.text_expressions.specs.Views.{tree_of}
use Rattle.text_expressions.proofs.expression.+expressions.Goals as goal

-- operators

pub read_chain-returns-in_err-inner-clause-reads : goal.read_chain-returns-in_err-inner-clause-reads
read_chain-returns-in_err-inner-clause-reads t c =
    λ tokens begun. exit _ _ _ _ _ _ c.from_residual.ensures.1 (full_err _ _ _ _ _ _ _ _ c.loop-operator.invariant.measured (c.loop-operator.invariant.begun tokens begun) c.in-Some.ensures c.requires.no_comparison c.in_err-inner.ensures)

pub read_chain-returns-in_err-right-clause-reads : goal.read_chain-returns-in_err-right-clause-reads
read_chain-returns-in_err-right-clause-reads t c =
    λ tokens begun. exit _ _ _ _ _ _ c.from_residual-in_err-right.ensures.1 (chain_err _ _ _ _ _ _ _ _ _ (c.loop-operator.invariant.begun tokens begun) c.in-Some.ensures c.requires.no_comparison c.in_ok-inner.ensures.0 c.in_err-right.ensures.reads)

pub read_chain-loop-operator-preserved : goal.read_chain-loop-operator-preserved
read_chain-loop-operator-preserved t c =
    record {
      shorter = omega (arith, c.loop-operator.invariant.shorter, taken_shorter c.in_ok-right.ensures.reads, ap length c.in-Some.ensures.0);
      measured = c.in_ok-longer.ensures.1;
      begun = λ tokens begun. chain_next _ _ _ _ _ _ _ _ _ _ _ (c.loop-operator.invariant.begun tokens begun) c.in-Some.ensures c.requires.no_comparison c.in_ok-inner.ensures.0 c.in_ok-right.ensures.reads c.in_ok-longer.ensures.0;
    }

pub read_chain-returns-clause-reads : goal.read_chain-returns-clause-reads
read_chain-returns-clause-reads t c = λ tokens begun. taken_of_begun _ _ _ _ _ (c.loop-operator.invariant.begun tokens begun) c.in_default.ensures

pub read_comparison-returns-in_default-clause-reads : goal.read_comparison-returns-in_default-clause-reads
read_comparison-returns-in_default-clause-reads t c = λ tokens taken. compare_none _ _ _ _ taken c.in_default.ensures

pub read_comparison-returns-in_err-inner-clause-reads : goal.read_comparison-returns-in_err-inner-clause-reads
read_comparison-returns-in_err-inner-clause-reads t c =
    λ tokens taken. exit _ _ _ _ _ _ c.from_residual.ensures.1 (compare_full _ _ _ _ _ _ _ c.requires.measured taken c.in-Some.ensures c.in_err-inner.ensures)

pub read_comparison-returns-in_err-right-clause-reads : goal.read_comparison-returns-in_err-right-clause-reads
read_comparison-returns-in_err-right-clause-reads t c =
    λ tokens taken. exit _ _ _ _ _ _ c.from_residual-in_err-right.ensures.1 (compare_err _ _ _ _ _ _ _ _ taken c.in-Some.ensures c.in_ok-inner.ensures.0 c.in_err-right.ensures.reads)

pub read_comparison-returns-clause-reads : goal.read_comparison-returns-clause-reads
read_comparison-returns-clause-reads t c =
    λ tokens taken. compare_ok _ _ _ _ _ _ _ _ _ _ taken c.in-Some.ensures c.in_ok-inner.ensures.0 c.in_ok-right.ensures.reads c.in_ok-both.ensures.0

pub read_from-returns-in_err-left-clause-reads : goal.read_from-returns-in_err-left-clause-reads
read_from-returns-in_err-left-clause-reads t c =
    λ tokens taken. exit _ _ _ _ _ _ c.from_residual.ensures.1 (first_err _ _ _ _ (c.in_err-left.ensures.reads tokens taken))

pub read_from-returns-then-level-eq2-clause-reads : goal.read_from-returns-then-level-eq2-clause-reads
read_from-returns-then-level-eq2-clause-reads t c =
    λ tokens taken. rw c.if-level-eq2.true (c.read_comparison.ensures.reads tokens (rw c.if-level-eq2.true at (c.in_ok-left.ensures.reads tokens taken)))

pub read_from-returns-else-level-eq2-clause-reads : goal.read_from-returns-else-level-eq2-clause-reads
read_from-returns-else-level-eq2-clause-reads t c =
    λ tokens taken. c.read_chain.ensures.reads tokens (begun_first _ _ _ _ _ (c.in_ok-left.ensures.reads tokens taken))

pub read_operand-returns-in_err-atom-clause-reads : goal.read_operand-returns-in_err-atom-clause-reads
read_operand-returns-in_err-atom-clause-reads t c =
    exit _ _ _ _ _ _ c.from_residual.ensures.1 (all_err _ _ _ _ c.requires.levels c.in_err-atom.ensures.reads)

pub read_operand-returns-clause-reads : goal.read_operand-returns-clause-reads
read_operand-returns-clause-reads t c = c.read_from.ensures.reads _ c.in_ok-atom.ensures.reads

-- an unary minus and parentheses

pub read_negative-returns-in_err-inside-clause-reads : goal.read_negative-returns-in_err-inside-clause-reads
read_negative-returns-in_err-inside-clause-reads t c =
    exit _ _ _ _ _ _ c.from_residual.ensures.1 (full_front _ _ _ _ _ _ c.requires.place wide_minus c.requires.front c.in_err-inside.ensures)

pub read_negative-returns-in_err-inner-clause-reads : goal.read_negative-returns-in_err-inner-clause-reads
read_negative-returns-in_err-inner-clause-reads t c =
    exit _ _ _ _ _ _ c.from_residual-in_err-inner.ensures.1
    (fronted_err _ _ _ _ c.requires.front (whole_err _ _ _ _ _ _ (step_negative _ _ c.in_ok-inside.ensures.1 c.in_ok-inside.ensures.2) (roomed_err _ _ _ _ _ c.in_ok-inside.ensures.0 c.in_err-inner.ensures.reads)))

pub read_negative-returns-clause-reads : goal.read_negative-returns-clause-reads
read_negative-returns-clause-reads t c =
    c.finished.ensures.reads _ _ (renamed (made_negative _) (fronted c.requires.front (step_taken _ _ _ _ _ _ _
    (step_negative _ _ c.in_ok-inside.ensures.1 c.in_ok-inside.ensures.2)
    (roomed c.in_ok-inside.ensures.0 c.in_ok-inner.ensures.reads))))

pub read_parens-returns-in_err-inside-clause-reads : goal.read_parens-returns-in_err-inside-clause-reads
read_parens-returns-in_err-inside-clause-reads t c =
    exit _ _ _ _ _ _ c.from_residual.ensures.1 (full_front _ _ _ _ _ _ c.requires.place wide_open c.requires.front c.in_err-inside.ensures)

pub read_parens-returns-in_err-inner-clause-reads : goal.read_parens-returns-in_err-inner-clause-reads
read_parens-returns-in_err-inner-clause-reads t c =
    exit _ _ _ _ _ _ c.from_residual-in_err-inner.ensures.1
    (fronted_err _ _ _ _ c.requires.front (whole_err _ _ _ _ _ _ (step_parens _ _ c.in_ok-inside.ensures.1) (ended_err _ _ _ _ _ c.in_ok-inside.ensures.0 c.in_err-inner.ensures.reads)))

pub read_parens-returns-clause-reads : goal.read_parens-returns-clause-reads
read_parens-returns-clause-reads t c =
    c.finished.ensures.reads _ _ (renamed (made_parens _) (fronted c.requires.front (step_taken _ _ _ _ _ _ _
    (step_parens _ _ c.in_ok-inside.ensures.1) (ended c.in_ok-inside.ensures.0 c.in_ok-inner.ensures.reads))))

-- the function of one argument

pub read_relu-returns-in_err-inside-clause-reads : goal.read_relu-returns-in_err-inside-clause-reads
read_relu-returns-in_err-inside-clause-reads t c =
    exit _ _ _ _ _ _ c.from_residual.ensures.1 (full_front _ _ _ _ _ _ c.requires.place wide_relu c.requires.front c.in_err-inside.ensures)

pub read_relu-returns-in_err-rest-clause-reads : goal.read_relu-returns-in_err-rest-clause-reads
read_relu-returns-in_err-rest-clause-reads t c =
    exit _ _ _ _ _ _ c.from_residual-in_err-rest.ensures.1
    (fronted_err _ _ _ _ c.requires.front (whole_err _ _ _ _ _ _ (step_relu _ _ c.in_ok-inside.ensures.1 c.in_ok-inside.ensures.2)
    (now (open_joint _ (subst HasPlace c.in_ok-inside.ensures.0 c.in_ok-inside.ensures.3)) _ _ c.in_err-rest.ensures)))

pub read_relu-returns-in_err-inner-clause-reads : goal.read_relu-returns-in_err-inner-clause-reads
read_relu-returns-in_err-inner-clause-reads t c =
    exit _ _ _ _ _ _ c.from_residual-in_err-inner.ensures.1
    (fronted_err _ _ _ _ c.requires.front (whole_err _ _ _ _ _ _ (step_relu _ _ c.in_ok-inside.ensures.1 c.in_ok-inside.ensures.2)
    (later (open_joint _ (subst HasPlace c.in_ok-inside.ensures.0 c.in_ok-inside.ensures.3)) c.in_ok-rest.ensures _ (ended_err _ _ _ _ _ c.in_ok-inside.ensures.0 c.in_err-inner.ensures.reads))))

pub read_relu-returns-clause-reads : goal.read_relu-returns-clause-reads
read_relu-returns-clause-reads t c =
    c.finished.ensures.reads _ _ (renamed (made_relu _) (fronted c.requires.front (step_taken _ _ _ _ _ _ _
    (step_relu _ _ c.in_ok-inside.ensures.1 c.in_ok-inside.ensures.2)
    (both (open_joint _ (subst HasPlace c.in_ok-inside.ensures.0 c.in_ok-inside.ensures.3)) c.in_ok-rest.ensures
    (ended c.in_ok-inside.ensures.0 c.in_ok-inner.ensures.reads)))))

-- names

pub read_named-returns-then-not-is_short-clause-reads : goal.read_named-returns-then-not-is_short-clause-reads
read_named-returns-then-not-is_short-clause-reads t c = long_err _ _ _ _ c.requires.place c.requires.front (λ short. let h : false ≡ true = c.if-not-is_short.ensures.1 short in cc)

-- cells

pub read_access-returns-in_err-inside-clause-reads : goal.read_access-returns-in_err-inside-clause-reads
read_access-returns-in_err-inside-clause-reads t c =
    exit _ _ _ _ _ _ c.from_residual.ensures.1 (full_cell _ _ _ _ _ c.requires.place c.requires.short c.requires.front c.in_err-inside.ensures)

-- words and signs

pub read_unary-returns-in_default-clause-reads : goal.read_unary-returns-in_default-clause-reads
read_unary-returns-in_default-clause-reads t c = end_err _ _ c.requires.place c.in_default.ensures

pub read_unary-returns-in_default-token : goal.read_unary-returns-in_default-token
read_unary-returns-in_default-token t c =
    record {
      measured = tt;
      reads = start_err _ _ _ _ c.requires.place c.in-Some.ensures c.in_default-token.not-Int c.in_default-token.not-Name c.in_default-token.not-Word c.in_default-token.not-Sign;
    }

pub read_chain-joined-requires-clause-shallow : goal.read_chain-joined-requires-clause-shallow
read_chain-joined-requires-clause-shallow t c =
    (omega (arith, c.in_ok-inner.ensures.0.shallow, c.loop-operator.invariant.measured.depth), omega (arith, c.in_ok-right.ensures.measured.depth, deep_left _ _ c.in_ok-inner.ensures.0.is c.in_ok-right.ensures.reads))

pub read_chain-joined-requires-clause-few : goal.read_chain-joined-requires-clause-few
read_chain-joined-requires-clause-few t c =
    omega (arith, c.loop-operator.invariant.measured.nodes, c.in_ok-right.ensures.measured.nodes, left_of _ _ c.in_ok-inner.ensures.0.is c.in_ok-right.ensures.reads)

pub read_comparison-joined-requires-clause-shallow : goal.read_comparison-joined-requires-clause-shallow
read_comparison-joined-requires-clause-shallow t c =
    (omega (arith, c.in_ok-inner.ensures.0.shallow, c.requires.measured.depth), omega (arith, c.in_ok-right.ensures.measured.depth, deep_left _ _ c.in_ok-inner.ensures.0.is c.in_ok-right.ensures.reads))

pub read_comparison-joined-requires-clause-few : goal.read_comparison-joined-requires-clause-few
read_comparison-joined-requires-clause-few t c =
    omega (arith, c.requires.measured.nodes, c.in_ok-right.ensures.measured.nodes, left_of _ _ c.in_ok-inner.ensures.0.is c.in_ok-right.ensures.reads)

pub read_from-returns-then-level-eq5-clause-reads : goal.read_from-returns-then-level-eq5-clause-reads
read_from-returns-then-level-eq5-clause-reads t c =
    λ tokens taken. rw c.if-level-eq5.true taken

pub read_negative-overflow_add-inner : goal.read_negative-overflow_add-inner
read_negative-overflow_add-inner t c =
    omega (arith, c.in_ok-inner.ensures.measured.depth, deep_left _ _ c.in_ok-inside.ensures.0 c.in_ok-inner.ensures.reads)

pub read_negative-overflow_add-inner-2 : goal.read_negative-overflow_add-inner-2
read_negative-overflow_add-inner-2 t c =
    omega (arith, c.in_ok-inner.ensures.measured.nodes, left_of _ _ c.in_ok-inside.ensures.0 c.in_ok-inner.ensures.reads)

pub read_parens-overflow_add-inner : goal.read_parens-overflow_add-inner
read_parens-overflow_add-inner t c =
    omega (arith, c.in_ok-inner.ensures.measured.depth, ended_deep _ _ c.in_ok-inside.ensures.0 c.in_ok-inner.ensures.reads)

pub read_relu-overflow_add-inner : goal.read_relu-overflow_add-inner
read_relu-overflow_add-inner t c =
    omega (arith, c.in_ok-inner.ensures.measured.depth, ended_deep _ _ c.in_ok-inside.ensures.0 c.in_ok-inner.ensures.reads)

pub read_relu-overflow_add-inner-2 : goal.read_relu-overflow_add-inner-2
read_relu-overflow_add-inner-2 t c =
    omega (arith, c.in_ok-inner.ensures.measured.nodes, ended_left _ _ c.in_ok-inside.ensures.0 c.in_ok-inner.ensures.reads)

pub read_access-returns-in_err-indices-clause-reads : goal.read_access-returns-in_err-indices-clause-reads
read_access-returns-in_err-indices-clause-reads t c =
    exit _ _ _ _ _ _ c.from_residual-in_err-indices.ensures.1 (cell_err _ _ _ _ _ _ c.requires.place c.requires.short c.in_ok-inside.ensures.1 c.in_ok-inside.ensures.0 c.requires.front c.in_err-indices.ensures.reads)

pub read_access-returns-in_err-rest-clause-reads : goal.read_access-returns-in_err-rest-clause-reads
read_access-returns-in_err-rest-clause-reads t c =
    exit _ _ _ _ _ _ c.from_residual-in_err-rest.ensures.1 (bracket_err _ _ _ _ _ _ _ _ c.requires.place c.requires.short c.in_ok-inside.ensures.1 c.in_ok-inside.ensures.0 c.requires.front c.in_ok-indices.ensures.reads c.in_err-rest.ensures)

pub read_access-accessed-requires-clause-shallow : goal.read_access-accessed-requires-clause-shallow
read_access-accessed-requires-clause-shallow t c =
    omega (arith, c.in_ok-indices.ensures.measured.depth, deep_indices c.in_ok-indices.ensures.reads, deep_inside _ _ c.in_ok-inside.ensures.0, c.in_ok-inside.ensures.1)

pub read_access-returns-clause-reads : goal.read_access-returns-clause-reads
read_access-returns-clause-reads t c =
    renamed c.in_ok-cell.ensures.same (cell_ok _ _ _ _ _ _ _ _ c.requires.place c.requires.short c.in_ok-inside.ensures.1 c.in_ok-inside.ensures.0 c.requires.front c.in_ok-indices.ensures.reads c.in_ok-rest.ensures)

pub read_named-returns-clause-reads : goal.read_named-returns-clause-reads
read_named-returns-clause-reads t c =
    c.leaf.ensures.reads _ _ (variable_ok _ _ _ _ _ _ c.requires.place c.requires.front c.in_ok-copy.ensures (c.if-not-is_short.ensures.0 refl) c.in_default.ensures c.in_default-behind.ensures (made_name _))

pub read_indices-returns-in_err-first-clause-reads : goal.read_indices-returns-in_err-first-clause-reads
read_indices-returns-in_err-first-clause-reads t c =
    exit _ _ _ _ _ _ c.from_residual.ensures.1 (indices_err_first _ _ _ c.in_err-first.ensures.reads)

pub read_indices-returns-then-len-ge-DIMENSIONS-clause-reads : goal.read_indices-returns-then-len-ge-DIMENSIONS-clause-reads
read_indices-returns-then-len-ge-DIMENSIONS-clause-reads t c =
    indices_full _ _ _ _ _ c.requires.place c.more.invariant.read c.in-Some.ensures c.more.invariant.few (omega (arith, c.len.ensures))

pub read_indices-returns-in_err-index-clause-reads : goal.read_indices-returns-in_err-index-clause-reads
read_indices-returns-in_err-index-clause-reads t c =
    exit _ _ _ _ _ _ c.from_residual-in_err-index.ensures.1 (indices_err _ _ _ _ _ _ c.more.invariant.read c.in-Some.ensures (omega (arith, c.len.ensures)) c.in_err-index.ensures.reads)

pub read_indices-more-init : goal.read_indices-more-init
read_indices-more-init t c =
    record {
      shorter = omega (arith, taken_shorter c.in_ok-first.ensures.reads);
      few = rw (c.in_ok-push.ensures.items, c.new-items.ensures.items) (omega arith);
      deepest = rw (c.in_ok-push.ensures.items, c.new-items.ensures.items, c.into_inner.ensures) (omega (arith, c.in_ok-first.ensures.measured.depth));
      read = rw (c.in_ok-push.ensures.items, c.new-items.ensures.items, c.into_inner.ensures) (listed_first _ _ _ _ _ _ c.in_ok-first.ensures.reads);
    }

pub read_indices-more-preserved : goal.read_indices-more-preserved
read_indices-more-preserved t c =
    record {
      shorter = omega (arith, c.more.invariant.shorter, taken_shorter c.in_ok-index.ensures.reads, ap length c.in-Some.ensures);
      few = omega (arith, ap length c.in_ok-push-2.ensures.items, length-append c.more.items.items (c.into_inner-in-Some.result ∷ []), c.len.ensures);
      deepest = rw (c.in_ok-push-2.ensures.items, c.into_inner-in-Some.ensures) (c.max-deepest.ensures ∙ deepest_next _ _ _ _ c.more.invariant.deepest c.in_ok-index.ensures.measured.depth);
      read = rw (c.in_ok-push-2.ensures.items, c.into_inner-in-Some.ensures) (indices_next _ _ _ _ _ _ _ c.more.invariant.read c.in-Some.ensures c.in_ok-index.ensures.reads);
    }

pub read_indices-returns-clause-reads : goal.read_indices-returns-clause-reads
read_indices-returns-clause-reads t c =
    indices_ok _ _ _ _ c.more.invariant.read c.more.invariant.few c.in_default.ensures

pub read_select-returns-in_err-inside-clause-reads : goal.read_select-returns-in_err-inside-clause-reads
read_select-returns-in_err-inside-clause-reads t c =
    exit _ _ _ _ _ _ c.from_residual.ensures.1 (full_front _ _ _ _ _ _ c.requires.place wide_select c.requires.front c.in_err-inside.ensures)

pub read_select-returns-in_err-rest-clause-reads : goal.read_select-returns-in_err-rest-clause-reads
read_select-returns-in_err-rest-clause-reads t c =
    exit _ _ _ _ _ _ c.from_residual-in_err-rest.ensures.1
    (fronted_err _ _ _ _ c.requires.front (whole_err _ _ _ _ _ _ (step_select _ _ c.in_ok-inside.ensures.1) (now (choice0 c.args.room (subst HasPlace c.in_ok-inside.ensures.0 c.in_ok-inside.ensures.3)) _ _ c.in_err-rest.ensures)))

pub read_select-returns-in_err-a-clause-reads : goal.read_select-returns-in_err-a-clause-reads
read_select-returns-in_err-a-clause-reads t c =
    exit _ _ _ _ _ _ c.from_residual-in_err-a.ensures.1
    (fronted_err _ _ _ _ c.requires.front (whole_err _ _ _ _ _ _ (step_select _ _ c.in_ok-inside.ensures.1)
    (later (choice0 c.args.room (subst HasPlace c.in_ok-inside.ensures.0 c.in_ok-inside.ensures.3)) c.in_ok-rest.ensures _ (now_by (choice1 c.args.room) c.in_ok-rest.rest.now _ (ended_err _ _ _ _ _ c.in_ok-inside.ensures.0 c.in_err-a.ensures.reads)))))

pub read_select-returns-in_err-b-clause-reads : goal.read_select-returns-in_err-b-clause-reads
read_select-returns-in_err-b-clause-reads t c =
    exit _ _ _ _ _ _ c.from_residual-in_err-b.ensures.1
    (fronted_err _ _ _ _ c.requires.front (whole_err _ _ _ _ _ _ (step_select _ _ c.in_ok-inside.ensures.1)
    (later (choice0 c.args.room (subst HasPlace c.in_ok-inside.ensures.0 c.in_ok-inside.ensures.3)) c.in_ok-rest.ensures _ (later_by (choice1 c.args.room) (ended c.in_ok-inside.ensures.0 c.in_ok-a.ensures.reads) _ (now_by (choice2 c.args.room (tree_of c.in_ok-a.a.tree.value)) c.in_ok-a.rest.now _ (ended_err _ _ _ _ _ (c.under-behind_a.ensures ∙ same_two c.args.room _ (tree_of c.in_ok-a.a.tree.value) c.in_ok-a.ensures.measured.nodes) c.in_err-b.ensures.reads))))))

pub read_select-returns-in_err-c-clause-reads : goal.read_select-returns-in_err-c-clause-reads
read_select-returns-in_err-c-clause-reads t c =
    exit _ _ _ _ _ _ c.from_residual-in_err-c.ensures.1
    (fronted_err _ _ _ _ c.requires.front (whole_err _ _ _ _ _ _ (step_select _ _ c.in_ok-inside.ensures.1)
    (later (choice0 c.args.room (subst HasPlace c.in_ok-inside.ensures.0 c.in_ok-inside.ensures.3)) c.in_ok-rest.ensures _ (later_by (choice1 c.args.room) (ended c.in_ok-inside.ensures.0 c.in_ok-a.ensures.reads) _ (later_by (choice2 c.args.room (tree_of c.in_ok-a.a.tree.value)) (ended (c.under-behind_a.ensures ∙ same_two c.args.room _ (tree_of c.in_ok-a.a.tree.value) c.in_ok-a.ensures.measured.nodes) c.in_ok-b.ensures.reads) _ (now_by (choice3 c.args.room (tree_of c.in_ok-a.a.tree.value) (tree_of c.in_ok-b.b.tree.value)) c.in_ok-b.rest.now _ (ended_err _ _ _ _ _ (c.under-behind_b.ensures ∙ same_three c.args.room _ _ (tree_of c.in_ok-a.a.tree.value) (tree_of c.in_ok-b.b.tree.value) c.in_ok-a.ensures.measured.nodes c.in_ok-b.ensures.measured.nodes) c.in_err-c.ensures.reads)))))))

pub read_select-returns-in_err-d-clause-reads : goal.read_select-returns-in_err-d-clause-reads
read_select-returns-in_err-d-clause-reads t c =
    exit _ _ _ _ _ _ c.from_residual-in_err-d.ensures.1
    (fronted_err _ _ _ _ c.requires.front (whole_err _ _ _ _ _ _ (step_select _ _ c.in_ok-inside.ensures.1)
    (later (choice0 c.args.room (subst HasPlace c.in_ok-inside.ensures.0 c.in_ok-inside.ensures.3)) c.in_ok-rest.ensures _ (later_by (choice1 c.args.room) (ended c.in_ok-inside.ensures.0 c.in_ok-a.ensures.reads) _ (later_by (choice2 c.args.room (tree_of c.in_ok-a.a.tree.value)) (ended (c.under-behind_a.ensures ∙ same_two c.args.room _ (tree_of c.in_ok-a.a.tree.value) c.in_ok-a.ensures.measured.nodes) c.in_ok-b.ensures.reads) _ (later_by (choice3 c.args.room (tree_of c.in_ok-a.a.tree.value) (tree_of c.in_ok-b.b.tree.value)) (ended (c.under-behind_b.ensures ∙ same_three c.args.room _ _ (tree_of c.in_ok-a.a.tree.value) (tree_of c.in_ok-b.b.tree.value) c.in_ok-a.ensures.measured.nodes c.in_ok-b.ensures.measured.nodes) c.in_ok-c.ensures.reads) _ (ended_err _ _ _ _ _ (c.under-behind_c.ensures ∙ same_four c.args.room _ _ _ (tree_of c.in_ok-a.a.tree.value) (tree_of c.in_ok-b.b.tree.value) (tree_of c.in_ok-c.c.tree.value) c.in_ok-a.ensures.measured.nodes c.in_ok-b.ensures.measured.nodes c.in_ok-c.ensures.measured.nodes) c.in_err-d.ensures.reads)))))))

pub read_select-returns-clause-reads : goal.read_select-returns-clause-reads
read_select-returns-clause-reads t c =
    c.selected.ensures.reads _ _ (fronted c.requires.front (step_taken _ _ _ _ _ _ _ (step_select _ _ c.in_ok-inside.ensures.1)
    (both (choice0 c.args.room (subst HasPlace c.in_ok-inside.ensures.0 c.in_ok-inside.ensures.3)) c.in_ok-rest.ensures (both_by (choice1 c.args.room) (ended c.in_ok-inside.ensures.0 c.in_ok-a.ensures.reads) (both_by (choice2 c.args.room (tree_of c.in_ok-a.a.tree.value)) (ended (c.under-behind_a.ensures ∙ same_two c.args.room _ (tree_of c.in_ok-a.a.tree.value) c.in_ok-a.ensures.measured.nodes) c.in_ok-b.ensures.reads) (both_by (choice3 c.args.room (tree_of c.in_ok-a.a.tree.value) (tree_of c.in_ok-b.b.tree.value)) (ended (c.under-behind_b.ensures ∙ same_three c.args.room _ _ (tree_of c.in_ok-a.a.tree.value) (tree_of c.in_ok-b.b.tree.value) c.in_ok-a.ensures.measured.nodes c.in_ok-b.ensures.measured.nodes) c.in_ok-c.ensures.reads) (ended (c.under-behind_c.ensures ∙ same_four c.args.room _ _ _ (tree_of c.in_ok-a.a.tree.value) (tree_of c.in_ok-b.b.tree.value) (tree_of c.in_ok-c.c.tree.value) c.in_ok-a.ensures.measured.nodes c.in_ok-b.ensures.measured.nodes c.in_ok-c.ensures.measured.nodes) c.in_ok-d.ensures.reads)))))))

pub read_select-overflow_add-a : goal.read_select-overflow_add-a
read_select-overflow_add-a t c =
    omega (arith, c.in_ok-a.ensures.measured.nodes, ended_left _ _ c.in_ok-inside.ensures.0 c.in_ok-a.ensures.reads)

pub read_select-overflow_add-a-2 : goal.read_select-overflow_add-a-2
read_select-overflow_add-a-2 t c =
    omega (arith, c.in_ok-a.ensures.measured.nodes, ended_left _ _ c.in_ok-inside.ensures.0 c.in_ok-a.ensures.reads, c.in_ok-b.ensures.measured.nodes, ended_left _ _ c.under-behind_a.ensures c.in_ok-b.ensures.reads)

pub read_select-overflow_add-a-3 : goal.read_select-overflow_add-a-3
read_select-overflow_add-a-3 t c =
    omega (arith, c.in_ok-a.ensures.measured.nodes, ended_left _ _ c.in_ok-inside.ensures.0 c.in_ok-a.ensures.reads, c.in_ok-b.ensures.measured.nodes, ended_left _ _ c.under-behind_a.ensures c.in_ok-b.ensures.reads)

pub read_select-overflow_add-a-4 : goal.read_select-overflow_add-a-4
read_select-overflow_add-a-4 t c =
    omega (arith, c.in_ok-a.ensures.measured.nodes, ended_left _ _ c.in_ok-inside.ensures.0 c.in_ok-a.ensures.reads, c.in_ok-b.ensures.measured.nodes, ended_left _ _ c.under-behind_a.ensures c.in_ok-b.ensures.reads, c.in_ok-c.ensures.measured.nodes, ended_left _ _ c.under-behind_b.ensures c.in_ok-c.ensures.reads)

pub read_select-overflow_add-a-5 : goal.read_select-overflow_add-a-5
read_select-overflow_add-a-5 t c =
    omega (arith, c.in_ok-a.ensures.measured.nodes, ended_left _ _ c.in_ok-inside.ensures.0 c.in_ok-a.ensures.reads, c.in_ok-b.ensures.measured.nodes, ended_left _ _ c.under-behind_a.ensures c.in_ok-b.ensures.reads, c.in_ok-c.ensures.measured.nodes, ended_left _ _ c.under-behind_b.ensures c.in_ok-c.ensures.reads)

pub read_select-overflow_add-a-6 : goal.read_select-overflow_add-a-6
read_select-overflow_add-a-6 t c =
    omega (arith, c.in_ok-a.ensures.measured.nodes, ended_left _ _ c.in_ok-inside.ensures.0 c.in_ok-a.ensures.reads, c.in_ok-b.ensures.measured.nodes, ended_left _ _ c.under-behind_a.ensures c.in_ok-b.ensures.reads, c.in_ok-c.ensures.measured.nodes, ended_left _ _ c.under-behind_b.ensures c.in_ok-c.ensures.reads)

pub read_select-under-behind_a-requires-clause-long : goal.read_select-under-behind_a-requires-clause-long
read_select-under-behind_a-requires-clause-long t c =
    omega (arith, c.in_ok-a.ensures.measured.nodes, ended_left _ _ c.in_ok-inside.ensures.0 c.in_ok-a.ensures.reads)

pub read_select-under-behind_b-requires-clause-long : goal.read_select-under-behind_b-requires-clause-long
read_select-under-behind_b-requires-clause-long t c =
    omega (arith, c.in_ok-a.ensures.measured.nodes, ended_left _ _ c.in_ok-inside.ensures.0 c.in_ok-a.ensures.reads, c.in_ok-b.ensures.measured.nodes, ended_left _ _ c.under-behind_a.ensures c.in_ok-b.ensures.reads)

pub read_select-under-behind_c-requires-clause-long : goal.read_select-under-behind_c-requires-clause-long
read_select-under-behind_c-requires-clause-long t c =
    omega (arith, c.in_ok-a.ensures.measured.nodes, ended_left _ _ c.in_ok-inside.ensures.0 c.in_ok-a.ensures.reads, c.in_ok-b.ensures.measured.nodes, ended_left _ _ c.under-behind_a.ensures c.in_ok-b.ensures.reads, c.in_ok-c.ensures.measured.nodes, ended_left _ _ c.under-behind_b.ensures c.in_ok-c.ensures.reads)

pub read_select-read_ended-requires-2 : goal.read_select-read_ended-requires-2
read_select-read_ended-requires-2 t c =
    (omega (arith, taken_shorter c.in_ok-rest.ensures, taken_shorter c.in_ok-a.ensures.reads), (tt, place_under _ _ _ c.under-behind_a.ensures c.in_ok-inside.ensures.1 (omega (arith, c.in_ok-a.ensures.measured.nodes, ended_left _ _ c.in_ok-inside.ensures.0 c.in_ok-a.ensures.reads))))

pub read_select-read_ended-requires-3 : goal.read_select-read_ended-requires-3
read_select-read_ended-requires-3 t c =
    (omega (arith, taken_shorter c.in_ok-rest.ensures, taken_shorter c.in_ok-a.ensures.reads, taken_shorter c.in_ok-b.ensures.reads), (tt, place_under _ _ _ c.under-behind_b.ensures c.in_ok-inside.ensures.1 (omega (arith, c.in_ok-a.ensures.measured.nodes, ended_left _ _ c.in_ok-inside.ensures.0 c.in_ok-a.ensures.reads, c.in_ok-b.ensures.measured.nodes, ended_left _ _ c.under-behind_a.ensures c.in_ok-b.ensures.reads))))

pub read_select-read_ended-requires-4 : goal.read_select-read_ended-requires-4
read_select-read_ended-requires-4 t c =
    (omega (arith, taken_shorter c.in_ok-rest.ensures, taken_shorter c.in_ok-a.ensures.reads, taken_shorter c.in_ok-b.ensures.reads, taken_shorter c.in_ok-c.ensures.reads), (tt, place_under _ _ _ c.under-behind_c.ensures c.in_ok-inside.ensures.1 (omega (arith, c.in_ok-a.ensures.measured.nodes, ended_left _ _ c.in_ok-inside.ensures.0 c.in_ok-a.ensures.reads, c.in_ok-b.ensures.measured.nodes, ended_left _ _ c.under-behind_a.ensures c.in_ok-b.ensures.reads, c.in_ok-c.ensures.measured.nodes, ended_left _ _ c.under-behind_b.ensures c.in_ok-c.ensures.reads))))

pub read_select-selected-requires-clause-shallow : goal.read_select-selected-requires-clause-shallow
read_select-selected-requires-clause-shallow t c =
    (omega (arith, c.in_ok-a.ensures.measured.depth, ended_deep _ _ c.in_ok-inside.ensures.0 c.in_ok-a.ensures.reads), omega (arith, c.in_ok-b.ensures.measured.depth, ended_deep _ _ c.under-behind_a.ensures c.in_ok-b.ensures.reads), omega (arith, c.in_ok-c.ensures.measured.depth, ended_deep _ _ c.under-behind_b.ensures c.in_ok-c.ensures.reads), omega (arith, c.in_ok-d.ensures.measured.depth, ended_deep _ _ c.under-behind_c.ensures c.in_ok-d.ensures.reads))

pub read_select-selected-requires-clause-few : goal.read_select-selected-requires-clause-few
read_select-selected-requires-clause-few t c =
    omega (arith, c.in_ok-a.ensures.measured.nodes, ended_left _ _ c.in_ok-inside.ensures.0 c.in_ok-a.ensures.reads, c.in_ok-b.ensures.measured.nodes, ended_left _ _ c.under-behind_a.ensures c.in_ok-b.ensures.reads, c.in_ok-c.ensures.measured.nodes, ended_left _ _ c.under-behind_b.ensures c.in_ok-c.ensures.reads, c.in_ok-d.ensures.measured.nodes, ended_left _ _ c.under-behind_c.ensures c.in_ok-d.ensures.reads)

pub read_signed-returns-in_default : goal.read_signed-returns-in_default
read_signed-returns-in_default t c =
    record { measured = tt; reads = sign_err _ _ _ _ c.requires.place c.requires.front c.in_default.not-Minus c.in_default.not-Open }

pub read_word-returns-in-True-clause-reads : goal.read_word-returns-in-True-clause-reads
read_word-returns-in-True-clause-reads t c =
    c.leaf.ensures.reads _ _ (true_ok _ _ _ _ _ c.requires.place c.requires.front c.in-True.is (made_truth _))

pub read_word-returns-in-False-clause-reads : goal.read_word-returns-in-False-clause-reads
read_word-returns-in-False-clause-reads t c =
    c.leaf-in-False.ensures.reads _ _ (false_ok _ _ _ _ _ c.requires.place c.requires.front c.in-False.is (made_truth _))

pub read_word-returns-in_default : goal.read_word-returns-in_default
read_word-returns-in_default t c =
    record { measured = tt; reads = word_err _ _ _ _ c.requires.place c.requires.front c.in_default.not-True c.in_default.not-False c.in_default.not-Stride c.in_default.not-Relu c.in_default.not-Select }

pub read_ended-returns-in_err-inner-clause-reads : goal.read_ended-returns-in_err-inner-clause-reads
read_ended-returns-in_err-inner-clause-reads t c =
    exit _ _ _ _ _ _ c.from_residual.ensures.1 (now (ended_joint _ _ c.requires.ends) _ _ c.in_err-inner.ensures.reads)

pub read_ended-returns-in_err-rest-clause-reads : goal.read_ended-returns-in_err-rest-clause-reads
read_ended-returns-in_err-rest-clause-reads t c =
    exit _ _ _ _ _ _ c.from_residual-in_err-rest.ensures.1 (later (ended_joint _ _ c.requires.ends) c.in_ok-inner.ensures.reads _ c.in_err-rest.ensures)

pub read_ended-returns-clause-reads : goal.read_ended-returns-clause-reads
read_ended-returns-clause-reads t c =
    both (ended_joint _ _ c.requires.ends) c.in_ok-inner.ensures.reads c.in_ok-rest.ensures

-- what is measured, and what gets shorter

pub read_chain-loop-operator-smaller : goal.read_chain-loop-operator-smaller
read_chain-loop-operator-smaller t c =
    omega (arith, taken_shorter c.in_ok-right.ensures.reads, ap length c.in-Some.ensures.0)

pub read_comparison-returns-clause-shorter : goal.read_comparison-returns-clause-shorter
read_comparison-returns-clause-shorter t c =
    omega (arith, taken_shorter c.in_ok-right.ensures.reads, ap length c.in-Some.ensures.0)

pub read_indices-more-smaller : goal.read_indices-more-smaller
read_indices-more-smaller t c =
    omega (arith, taken_shorter c.in_ok-index.ensures.reads, ap length c.in-Some.ensures)

pub read_select-selected-requires-clause-measured : goal.read_select-selected-requires-clause-measured
read_select-selected-requires-clause-measured t c =
    (c.in_ok-a.ensures.measured, c.in_ok-b.ensures.measured, c.in_ok-c.ensures.measured, c.in_ok-d.ensures.measured)

pub read_chain-joined-requires-clause-measured : goal.read_chain-joined-requires-clause-measured
read_chain-joined-requires-clause-measured t c = (c.loop-operator.invariant.measured, c.in_ok-right.ensures.measured)

pub read_comparison-joined-requires-clause-measured : goal.read_comparison-joined-requires-clause-measured
read_comparison-joined-requires-clause-measured t c = (c.requires.measured, c.in_ok-right.ensures.measured)

pub read_operand-read_from-requires : goal.read_operand-read_from-requires
read_operand-read_from-requires t c = (
  omega (arith, taken_shorter c.in_ok-atom.ensures.reads),
  (c.requires.levels, (c.requires.place, c.in_ok-atom.ensures.measured)),
)

pub read_negative-finished-requires-clause-deep : goal.read_negative-finished-requires-clause-deep
read_negative-finished-requires-clause-deep t c =
    omega (arith, ap depth (made_negative c.in_ok-inner.inner.tree), c.in_ok-inner.ensures.measured.depth)

pub read_negative-finished-requires-clause-long : goal.read_negative-finished-requires-clause-long
read_negative-finished-requires-clause-long t c =
    omega (arith, ap nodes (made_negative c.in_ok-inner.inner.tree), c.in_ok-inner.ensures.measured.nodes)

pub read_parens-finished-requires-clause-deep : goal.read_parens-finished-requires-clause-deep
read_parens-finished-requires-clause-deep t c =
    omega (arith, ap depth (made_parens c.in_ok-inner.inner.tree), c.in_ok-inner.ensures.measured.depth)

pub read_parens-finished-requires-clause-long : goal.read_parens-finished-requires-clause-long
read_parens-finished-requires-clause-long t c =
    omega (arith, ap nodes (made_parens c.in_ok-inner.inner.tree), c.in_ok-inner.ensures.measured.nodes)

pub read_relu-finished-requires-clause-deep : goal.read_relu-finished-requires-clause-deep
read_relu-finished-requires-clause-deep t c =
    omega (arith, ap depth (made_relu c.in_ok-inner.inner.tree), c.in_ok-inner.ensures.measured.depth)

pub read_relu-finished-requires-clause-long : goal.read_relu-finished-requires-clause-long
read_relu-finished-requires-clause-long t c =
    omega (arith, ap nodes (made_relu c.in_ok-inner.inner.tree), c.in_ok-inner.ensures.measured.nodes)

pub read_access-accessed-requires-clause-measured : goal.read_access-accessed-requires-clause-measured
read_access-accessed-requires-clause-measured t c = c.in_ok-indices.ensures.measured
