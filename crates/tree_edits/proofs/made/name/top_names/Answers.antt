use Rattle.std.proofs.Common.{ℕ, ◌≤◌, ◌+◌, ◌++◌, List, drop, refl, ap, subst}
use Rattle.exo_tree.specs.Tree.{block}
use Rattle.exo_tree.specs.PlainStatement.{statement}
use Rattle.tree_edits.specs.Made.Names.{Name, top_names, top_name}
use Rattle.tree_edits.proofs.Turns.{one_put, all_put}
use Rattle.tree_edits.proofs.made.name.top_names.Goals as goal

pub loop-k-init : goal.loop-k-init
loop-k-init c = ap (λ (l : List Name). l ++ top_names c.args.copies (block c.args.b.now)) c.new-names.ensures.items

pub loop-k-preserved : goal.loop-k-preserved
loop-k-preserved c =
    one_put (top_names c.args.copies) (top_name c.args.copies) (λ a b. refl) c.loop-k.names.items
    c.put_top.new.names.items
    (top_names c.args.copies (block c.args.b.now)) (drop c.loop-k.k c.args.b.now) (drop (c.loop-k.k + 1) c.args.b.now)
    (statement c.statement.result.now) c.statement.ensures.value c.in_ok-put_top.ensures c.loop-k.invariant

pub returns : goal.returns
returns c =
    all_put (top_names c.args.copies) refl c.loop-k.names.items (top_names c.args.copies (block c.args.b.now))
    c.args.b.now
    c.loop-k.k (subst (λ (n : ℕ). n ≤ c.loop-k.k) c.len-k-end.ensures c.loop-k-test.false) c.loop-k.invariant
