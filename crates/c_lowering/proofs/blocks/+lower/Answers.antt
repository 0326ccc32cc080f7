use Rattle.std.proofs.Common.{◌∙◌, ◌+◌, ap, ap₂, map, length, take, drop, arith}
use Rattle.std.proofs.lemmas.List.{drop_all, take_all}
use Rattle.exo_tree.specs.Tree.{block}
use Rattle.exo_tree.specs.PlainStatement.{statement}
use Rattle.c_tree.specs.CTree.{cblock, followed_by}
use Rattle.c_tree.specs.Plain.{plain_statement}
use Rattle.c_lowering.specs.Made.Lowered.{block_of, forms_after}
use Rattle.c_lowering.specs.Scope.{forms_in}
use Rattle.c_lowering.specs.Naming.{naming_of}
use Rattle.c_lowering.specs.Heads.{frees}
use Rattle.c_lowering.proofs.Frames.{followed_by_stop, next_made, all_made}
use Rattle.c_lowering.proofs.Scopes.{still_kept}
use Rattle.c_lowering.proofs.blocks.+lower.Goals as goal

pub lower_body-returns-clause-value : goal.lower_body-returns-clause-value
lower_body-returns-clause-value t c =
    c.in_ok-body.ensures.value ∙ ap (λ f. block_of (naming_of c.args.names.now) f (block c.args.body.now)) c.in_ok-enter.ensures.forms

pub lower_block-loop-k-init : goal.lower_block-loop-k-init
lower_block-loop-k-init t c =
    let naming = naming_of c.args.names.now in
    let whole = block_of naming (forms_in c.args.scope.now.items) (block c.args.b.now) in
    record {
      whole = ap₂ (λ made xs. followed_by (cblock made) (followed_by whole (frees naming (map (λ x. x.0) xs)))) c.new-made.ensures c.new-buffers.ensures.items ∙ followed_by_stop whole;
      kept = take_all (length c.args.scope.now.items) c.args.scope.now.items (omega arith);
    }

pub lower_block-loop-k-preserved : goal.lower_block-loop-k-preserved
lower_block-loop-k-preserved t c =
    let naming = naming_of c.args.names.now in
    let b = c.args.b.now in
    let a = statement c.statement-s.result.now in
    let scope = c.in_ok-open.ensures.forms ∙ ap (λ es. forms_after naming a (forms_in es)) c.in_ok-lower_statement.ensures.scope in
    let kept = ap (take (length c.args.scope.now.items)) c.in_ok-lower_statement.ensures.scope ∙ c.loop-k.invariant.kept in
    record {
      whole = next_made naming (forms_in c.loop-k.scope.items) (forms_in c.open.new.scope.items) a (drop (c.loop-k.k + 1) b) (drop c.loop-k.k b) c.loop-k.made c.push.new.self (plain_statement c.in_ok-lower_statement.field-0) (map (λ x. x.0) c.loop-k.buffers.items) (map (λ x. x.0) c.open.new.buffers.items) _ c.statement-s.ensures.value c.in_ok-lower_statement.ensures.value c.in_ok-push.ensures.pushed scope c.in_ok-open.ensures.buffers c.loop-k.invariant.whole;
      kept = still_kept c.args.scope.now.items c.lower_statement.new.scope.items c.open.new.scope.items kept c.in_ok-open.ensures.kept;
    }

pub lower_block-returns-clause-value : goal.lower_block-returns-clause-value
lower_block-returns-clause-value t c =
    let naming = naming_of c.args.names.now in
    let none_left = drop_all c.loop-k.k c.args.b.now (omega (arith, c.len-k-end.ensures, c.loop-k-test.false)) in
    c.in_ok-put_frees.ensures
    ∙ ap (λ xs. followed_by (cblock c.loop-k.made) (frees naming (map (λ x. x.0) xs))) c.deref.ensures.value
    ∙ all_made naming (forms_in c.loop-k.scope.items) (drop c.loop-k.k c.args.b.now) (cblock c.loop-k.made) (map (λ x. x.0) c.loop-k.buffers.items) _ none_left c.loop-k.invariant.whole
