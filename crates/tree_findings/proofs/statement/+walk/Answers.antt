use Rattle.std.proofs.Common.{◌≡◌, ℕ, ◌+◌, ◌*◌, ◌<◌, List, [], ◌∷◌, ◌++◌, length, take, drop, Result, Ok, Err, OnOk}
use Rattle.std.proofs.Common.{IfOk, ◌⊎◌, inl, inr, refl, ap, sym, subst, ◌∙◌, arith}
use Rattle.std.proofs.lemmas.List.{drop_all}
use Rattle.exo_tree.specs.Tree as tree
use Rattle.exo_tree.specs.Tree.{block}
use Rattle.exo_tree.specs.Nodes.{nodes, nodes_in}
use Rattle.exo_tree.specs.PlainArgument.{argument}
use Rattle.exo_tree.specs.PlainBinder.{binding}
use Rattle.exo_tree.specs.PlainControl.{control, condition}
use Rattle.exo_tree.specs.PlainStatement.{statement}
use Rattle.exo_tree.specs.declared.block.Stmt.{Stmt}
use Rattle.exo_meaning.specs.Units.{is_short}
use Rattle.exo_modes.specs.Aliases.{roots_in}
use Rattle.tree_findings.specs.Classes.{fine, both, limit}
use Rattle.tree_findings.specs.Findings.{findings_of_block, findings_of_statement}
use Rattle.tree_findings.specs.Seen.{scope_in}
use Rattle.tree_findings.specs.declared.call.Surroundings.{Surroundings}
use Rattle.tree_findings.specs.declared.findings.Findings.{Findings}
use Rattle.tree_findings.specs.declared.walk.ScopeWalk.{ScopeWalk}
use Rattle.tree_findings.specs.Walked.{ground_kinds, ground_memories, ground_callees, walk_scope, walk_roots, Walked}
use Rattle.tree_findings.proofs.Walks.{OnWay, begun, gone_on, gone, stays, unmoved}
use Rattle.tree_findings.proofs.statement.+walk.Goals as goal

pub walk_if-returns-clause-found : goal.walk_if-returns-clause-found
walk_if-returns-clause-found t c =
    let g = c.args.ground.now in
    let found = findings_of_block (ground_kinds g) (ground_memories g) (ground_callees g) in
    let b = block c.args.b.now in
    let back = c.in_ok-first.ensures.back in
    c.joined.ensures ∙ (λ i. both (c.in_test-test.ensures i) (both (c.in_ok-first.ensures.found i)
    ((c.in_ok-second.ensures.found
    ∙ (λ j. both (limit (is_short b)) (found (scope_in (back.entries j)) (roots_in (back.aliases j)) b))) i)))

pub walk_loop-returns-clause-found : goal.walk_loop-returns-clause-found
walk_loop-returns-clause-found t c =
    let g = c.args.ground.now in
    let found = findings_of_block (ground_kinds g) (ground_memories g) (ground_callees g) in
    let b = block c.args.b.now in
    let bound = c.in_ok-bind.ensures in
    c.joined.ensures ∙ (λ i. both (c.in_variable-variable.ensures i) (both (c.in_bounds-bounds.ensures i)
    ((c.in_ok-inside.ensures.found
    ∙ (λ j. both (limit (is_short b)) (found (bound.scope j) (roots_in (bound.aliases j)) b))) i)))

take_front : {X : Type 0} (xs ys : List X) → take (length xs) (xs ++ ys) ≡ xs
take_front [] ys = refl
take_front (x ∷ xs) ys = ap (λ l. x ∷ l) (take_front xs ys)

either : {A B P : Type 0} → A ⊎ B → (A → P) → (B → P) → P
either (inl a) f g = f a
either (inr b) f g = g b

-- what is found in a statement where a walk is
abbrev found_there : Surroundings → ScopeWalk → Stmt → Findings
found_there g w s =
    findings_of_statement (ground_kinds g) (ground_memories g) (ground_callees g) (walk_scope w) (walk_roots w)
    (statement s)

-- what follows from a fact of `Ok`
under : {X E P Q : Type 0} (r : Result X E) → (P → Q) → OnOk r P → OnOk r Q
under (Ok x) f h = f h
under (Err e) f h = tt

pub walk_block-loop-k-init : goal.walk_block-loop-k-init
walk_block-loop-k-init t c =
    let g = c.args.ground.now in
    begun (ground_kinds g) (ground_memories g) (ground_callees g) c.args.walk.now c.args.b.now

pub walk_block-loop-k-preserved : goal.walk_block-loop-k-preserved
walk_block-loop-k-preserved t c =
    let g = c.args.ground.now in
    let ss = c.args.b.now in
    let left = drop c.loop-k.k ss in
    let rest = drop (c.loop-k.k + 1) ss in
    let before = c.args.walk.now in
    let after = c.walk_statement.new.walk in
    let way = gone_on (ground_kinds g) (ground_memories g) (ground_callees g) before c.loop-k.walk after
    c.loop-k.found c.in_ok-one.one ss left rest (statement c.statement.result.now)
    c.loop-k.invariant c.statement.ensures.value c.in_ok-one.ensures.found c.in_ok-one.ensures.walked in
    subst (λ f. OnWay (ground_kinds g) (ground_memories g) (ground_callees g) before after f ss rest)
    (sym c.and-found.ensures) way

pub walk_block-returns-clause-found : goal.walk_block-returns-clause-found
walk_block-returns-clause-found t c =
    let g = c.args.ground.now in
    let ss = c.args.b.now in
    let none = drop_all c.loop-k.k ss (omega (arith, c.len-k-end.ensures, c.loop-k-test.false)) in
    gone (ground_kinds g) (ground_memories g) (ground_callees g) c.args.walk.now c.loop-k.walk c.loop-k.found ss
    (drop c.loop-k.k ss) c.loop-k.invariant none

pub walk_block-returns-clause-back : goal.walk_block-returns-clause-back
walk_block-returns-clause-back t c =
    let named : c.len-named.result ≡ length c.args.walk.now.entries.items = omega (arith, c.len-named.ensures) in
    let viewed : c.len-viewed.result ≡ length c.args.walk.now.aliases.items = omega (arith, c.len-viewed.ensures) in
    let now = c.loop-k.walk in
    let way = c.loop-k.invariant in
    record {
      entries = c.truncate.ensures.items ∙ ap (λ n. take n now.entries.items) named ∙ way.entries;
      aliases = c.truncate-2.ensures.items ∙ ap (λ n. take n now.aliases.items) viewed ∙ way.aliases;
    }

pub walk_branch-returns-clause-found : goal.walk_branch-returns-clause-found
walk_branch-returns-clause-found t c =
    let short = c.limit-short.ensures ∙ ap limit c.is_short.ensures in
    c.and.ensures ∙ (λ i. both (short i) (c.in_ok-inside.ensures.found i))

pub walk_branch-returns-clause-back : goal.walk_branch-returns-clause-back
walk_branch-returns-clause-back t c = c.in_ok-inside.ensures.back

pub walk_if-returns-clause-back : goal.walk_if-returns-clause-back
walk_if-returns-clause-back t c = record {
  entries = c.in_ok-second.ensures.back.entries ∙ c.in_ok-first.ensures.back.entries;
  aliases = c.in_ok-second.ensures.back.aliases ∙ c.in_ok-first.ensures.back.aliases;
}

pub walk_loop-returns-clause-back : goal.walk_loop-returns-clause-back
walk_loop-returns-clause-back t c =
    let before = c.args.walk.now.entries.items in
    let known : c.len-known.result ≡ length before = omega (arith, c.len-known.ensures) in
    let bound = c.in_ok-bind.ensures in
    let back = c.in_ok-inside.ensures.back in
    record {
      entries = c.truncate.ensures.items ∙ ap (λ n. take n c.walk_branch.new.walk.entries.items) known
          ∙ ap (take (length before)) (back.entries ∙ bound.entries) ∙ take_front before _;
      aliases = back.aliases ∙ bound.aliases;
    }

pub walk_statement-returns-in-Call-clause-walked : goal.walk_statement-returns-in-Call-clause-walked
walk_statement-returns-in-Call-clause-walked t c =
    let w = c.args.walk.now in
    subst (λ s. Walked w w (statement s)) (sym c.in-Call.is)
    (stays w w (tree.Call c.in-Call.k.0 c.in-Call.args) (unmoved w) refl refl)

pub walk_statement-returns-in-Config-clause-walked : goal.walk_statement-returns-in-Config-clause-walked
walk_statement-returns-in-Config-clause-walked t c =
    let w = c.args.walk.now in
    subst (λ s. Walked w w (statement s)) (sym c.in-Config.is)
    (stays w w (tree.Config c.in-Config.f.0 (argument c.in-Config.a)) (unmoved w) refl refl)

pub walk_statement-returns-in-Pass-clause-walked : goal.walk_statement-returns-in-Pass-clause-walked
walk_statement-returns-in-Pass-clause-walked t c =
    let w = c.args.walk.now in
    subst (λ s. Walked w w (statement s)) (sym c.in-Pass.is) (stays w w tree.Pass (unmoved w) refl refl)

pub walk_statement-returns-in-Assign-clause-walked : goal.walk_statement-returns-in-Assign-clause-walked
walk_statement-returns-in-Assign-clause-walked t c =
    let w = c.args.walk.now in
    let f = c.in-Assign in
    let one = stays w w (statement (Stmt.Assign f.x f.at f.e)) (unmoved w) refl refl in
    let two = stays w w (statement (Stmt.Reduce f.x f.at f.e)) (unmoved w) refl refl in
    either f.is
    (λ e. subst (λ s. Walked w w (statement s)) (sym e) one)
    (λ e. subst (λ s. Walked w w (statement s)) (sym e) two)

pub walk_statement-returns-in-Assign-clause-found : goal.walk_statement-returns-in-Assign-clause-found
walk_statement-returns-in-Assign-clause-found t c =
    let g = c.args.ground.now in
    let w = c.args.walk.now in
    either c.in-Assign.is
    (λ e. subst (λ s. c.in_store.result ≡ found_there g w s) (sym e) c.in_store.ensures)
    (λ e. subst (λ s. c.in_store.result ≡ found_there g w s) (sym e) c.in_store.ensures)

pub walk_statement-returns-in-For-clause-walked : goal.walk_statement-returns-in-For-clause-walked
walk_statement-returns-in-For-clause-walked t c =
    let w = c.args.walk.now in
    let v = c.walk_loop.new.walk in
    let f = c.in-For in
    under c.walk_loop.result
    (λ back. subst (λ s. Walked w v (statement s)) (sym f.is)
    (stays w v (tree.For (binding f.i) (control f.lo) (control f.hi) (block f.b)) back refl refl))
    c.walk_loop.ensures.back

pub walk_statement-returns-in-For-clause-found : goal.walk_statement-returns-in-For-clause-found
walk_statement-returns-in-For-clause-found t c =
    let g = c.args.ground.now in
    let w = c.args.walk.now in
    subst (λ s. IfOk c.walk_loop.result (λ f. f ≡ found_there g w s))
    (sym c.in-For.is) c.walk_loop.ensures.found

pub walk_statement-returns-in-If-clause-walked : goal.walk_statement-returns-in-If-clause-walked
walk_statement-returns-in-If-clause-walked t c =
    let w = c.args.walk.now in
    let v = c.walk_if.new.walk in
    let f = c.in-If in
    under c.walk_if.result
    (λ back. subst (λ s. Walked w v (statement s)) (sym f.is)
    (stays w v (tree.If (condition f.c) (block f.a) (block f.b)) back refl refl))
    c.walk_if.ensures.back

pub walk_statement-returns-in-If-clause-found : goal.walk_statement-returns-in-If-clause-found
walk_statement-returns-in-If-clause-found t c =
    let g = c.args.ground.now in
    let w = c.args.walk.now in
    subst (λ s. IfOk c.walk_if.result (λ f. f ≡ found_there g w s))
    (sym c.in-If.is) c.walk_if.ensures.found

pub walk_statement-returns-in-Alloc-clause-walked : goal.walk_statement-returns-in-Alloc-clause-walked
walk_statement-returns-in-Alloc-clause-walked t c =
    let over = c.over_alloc in
    subst (λ s. OnOk over.result (Walked c.args.walk.now over.new.walk (statement s))) (sym c.in-Alloc.is)
    over.ensures.walked

pub walk_statement-returns-in-Alloc-clause-found : goal.walk_statement-returns-in-Alloc-clause-found
walk_statement-returns-in-Alloc-clause-found t c =
    let g = c.args.ground.now in
    let w = c.args.walk.now in
    subst (λ s. IfOk c.over_alloc.result (λ f. f ≡ found_there g w s))
    (sym c.in-Alloc.is) c.over_alloc.ensures.found

pub walk_statement-returns-in-View-clause-walked : goal.walk_statement-returns-in-View-clause-walked
walk_statement-returns-in-View-clause-walked t c =
    let over = c.over_view in
    subst (λ s. OnOk over.result (Walked c.args.walk.now over.new.walk (statement s))) (sym c.in-View.is)
    over.ensures.walked

pub walk_statement-returns-in-View-clause-found : goal.walk_statement-returns-in-View-clause-found
walk_statement-returns-in-View-clause-found t c =
    let g = c.args.ground.now in
    let w = c.args.walk.now in
    subst (λ s. IfOk c.over_view.result (λ f. f ≡ found_there g w s))
    (sym c.in-View.is) c.over_view.ensures.found

pub walk_statement-returns-in-Config-clause-found : goal.walk_statement-returns-in-Config-clause-found
walk_statement-returns-in-Config-clause-found t c =
    let g = c.args.ground.now in
    let w = c.args.walk.now in
    subst (λ s. c.in_config.result ≡ found_there g w s) (sym c.in-Config.is) c.in_config.ensures

pub walk_statement-returns-in-Call-clause-found : goal.walk_statement-returns-in-Call-clause-found
walk_statement-returns-in-Call-clause-found t c =
    let g = c.args.ground.now in
    let w = c.args.walk.now in
    subst (λ s. c.in_call_there.result ≡ found_there g w s) (sym c.in-Call.is) c.in_call_there.ensures

pub walk_statement-returns-in-Pass-clause-found : goal.walk_statement-returns-in-Pass-clause-found
walk_statement-returns-in-Pass-clause-found t c =
    let g = c.args.ground.now in
    let w = c.args.walk.now in
    subst (λ s. fine ≡ found_there g w s) (sym c.in-Pass.is) refl

pub walk_statement-in_call_there-requires : goal.walk_statement-in_call_there-requires
walk_statement-in_call_there-requires t c = c.requires

pub walk_block-statement-requires : goal.walk_block-statement-requires
walk_block-statement-requires t c = subst (λ n. c.loop-k.k < n) c.len-k-end.ensures c.loop-k-test.true

-- a block has fewer statements than the statement around it
loop_falls : (x t : ℕ) → 4 * x + 3 ≡ t → 4 * x + 2 < t
loop_falls x t e = omega arith

first_falls : (x y t : ℕ) → 4 * (x + y) + 3 ≡ t → 4 * x + 2 < t
first_falls x y t e = omega arith

second_falls : (x y t : ℕ) → 4 * (x + y) + 3 ≡ t → 4 * y + 2 < t
second_falls x y t e = omega arith

branch_falls : (x t : ℕ) → 4 * x + 2 ≡ t → 4 * x + 1 < t
branch_falls x t e = omega arith

inside_loop : (x t : ℕ) → 4 * (1 + x) ≡ t → 4 * x + 3 < t
inside_loop x t e = omega arith

inside_if : (x y t : ℕ) → 4 * (1 + x + y) ≡ t → 4 * (x + y) + 3 < t
inside_if x y t e = omega arith

pub walk_loop-walk_branch-requires : goal.walk_loop-walk_branch-requires
walk_loop-walk_branch-requires t c = (loop_falls (nodes_in (block c.args.b.now)) t c.decreases, c.requires)

pub walk_if-walk_branch-requires : goal.walk_if-walk_branch-requires
walk_if-walk_branch-requires t c =
    (first_falls (nodes_in (block c.args.a.now)) (nodes_in (block c.args.b.now)) t c.decreases, c.requires)

pub walk_if-walk_branch-requires-2 : goal.walk_if-walk_branch-requires-2
walk_if-walk_branch-requires-2 t c =
    (second_falls (nodes_in (block c.args.a.now)) (nodes_in (block c.args.b.now)) t c.decreases, c.requires)

pub walk_branch-walk_block-requires : goal.walk_branch-walk_block-requires
walk_branch-walk_block-requires t c = (branch_falls (nodes_in (block c.args.b.now)) t c.decreases, c.requires)

pub walk_statement-walk_loop-requires : goal.walk_statement-walk_loop-requires
walk_statement-walk_loop-requires t c = (
  inside_loop (nodes_in (block c.in-For.b)) t (ap (λ s. 4 * nodes (statement s)) (sym c.in-For.is) ∙ c.decreases),
  c.requires,
)

pub walk_statement-walk_if-requires : goal.walk_statement-walk_if-requires
walk_statement-walk_if-requires t c = (
  inside_if (nodes_in (block c.in-If.a)) (nodes_in (block c.in-If.b)) t
      (ap (λ s. 4 * nodes (statement s)) (sym c.in-If.is) ∙ c.decreases),
  c.requires,
)
