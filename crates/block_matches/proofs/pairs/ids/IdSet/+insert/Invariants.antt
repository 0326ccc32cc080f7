-- The ids so far, and those that the rest of the block binds.
use Rattle.std.proofs.Common.{◌≡◌, ◌||◌, ℕ, Bool, drop}
use Rattle.exo_tree.specs.Tree.{block}
use Rattle.meaning_laws.specs.Scoped.{has_binder}
use Rattle.block_matches.specs.Pairs.Held.{ids_in}
use Rattle.block_matches.proofs.pairs.ids.IdSet.+insert.Given as goal

abbrev pub invariant-insert_block-loop-k : goal.invariant-insert_block-loop-k
invariant-insert_block-loop-k l =
    ◌≡◌ {A = ℕ → Bool} (λ y. has_binder (block (drop l.k l.b)) y || ids_in l.self y)
    (λ y. has_binder (block l.b) y || ids_in l.initial.self y)
