use Rattle.std.proofs.Common.{map, drop, min, ◌+◌, Result, Ok, Err, OnOk, arith, ap, sym, ◌∙◌, subst}
use Rattle.std.proofs.lemmas.Option.{slice_get-map}
use Rattle.std.specs.Prelude.{option_map}
use Rattle.exo_tree.specs.Places.{Main, Else, opened_in}
use Rattle.exo_tree.specs.PlainBinder.{binding}
use Rattle.exo_tree.specs.PlainControl.{control, condition}
use Rattle.exo_tree.specs.PlainPlace.{branch_taken, step_taken}
use Rattle.exo_tree.specs.PlainStatement.{statement}
use Rattle.exo_tree.specs.Tree.{block}
use Rattle.tree_findings.specs.Placed.{IsScopeIn}
use Rattle.tree_findings.specs.Walked.{walk_scope}
use Rattle.tree_findings.proofs.Places.{no_step, at_statement, beyond_all, below_statement, in_loop}
use Rattle.tree_findings.proofs.Places.{in_then, in_else}
use Rattle.tree_findings.proofs.place.+place.Goals as goal

under : {X E P Q : Type 0} (r : Result X E) → (P → Q) → OnOk r P → OnOk r Q
under (Ok x) f h = f h
under (Err e) f h = tt

pub go-returns-in-None : goal.go-returns-in-None
go-returns-in-None t c = λ count.
    no_step step_taken count c.args.path.now (block c.args.b.now) (walk_scope c.args.walk.now) (walk_scope c.args.walk.now)
    c.in-None.ensures.cases

pub go-returns-in-None-first : goal.go-returns-in-None-first
go-returns-in-None-first t c = λ count.
    let rest = c.in-Some.parts.1.now in
    at_statement count (step_taken c.in-Some.parts.0.now) (map step_taken c.args.path.now) (map step_taken rest) c.args.b.now
    (walk_scope c.args.walk.now) (ap (map step_taken) c.in-Some.ensures.cases.0) c.min.result (walk_scope c.pass_all.new.walk)
    (slice_get-map step_taken rest 0 ∙ ap (option_map step_taken) (sym c.in-None-first.ensures.value)) (c.min.ensures ∙ ap (λ n. min (step_taken c.in-Some.parts.0.now).index n) c.len.ensures) c.in_ok-pass_all.ensures

pub go-returns-then-index-len : goal.go-returns-then-index-len
go-returns-then-index-len t c = λ count.
    let s = c.in-Some.parts.0.now in
    let rest = c.in-Some.parts.1.now in
    beyond_all count (step_taken s) (map step_taken c.args.path.now) (map step_taken rest) c.args.b.now
    (walk_scope c.args.walk.now) (ap (map step_taken) c.in-Some.ensures.cases.0) (step_taken c.in-Some-first.next.now)
    (slice_get-map step_taken rest 0 ∙ ap (option_map step_taken) (sym c.in-Some-first.ensures.value))
    (walk_scope c.pass_all.new.walk) (omega (arith, c.if-index-len.true, c.len-in-Some-first.ensures))

pub go-returns-else-index-len : goal.go-returns-else-index-len
go-returns-else-index-len t c = λ count.
    let s = c.in-Some.parts.0.now in
    let rest = c.in-Some.parts.1.now in
    under c.enter.result
    (below_statement count (step_taken s) (map step_taken c.args.path.now) (map step_taken rest) c.args.b.now
    (walk_scope c.args.walk.now) (ap (map step_taken) c.in-Some.ensures.cases.0) (step_taken c.in-Some-first.next.now)
    (slice_get-map step_taken rest 0 ∙ ap (option_map step_taken) (sym c.in-Some-first.ensures.value))
    c.min.result (drop (s.index + 1) c.args.b.now) (statement c.statement.result.now) (walk_scope c.pass_all.new.walk)
    (walk_scope c.enter.new.walk) c.statement.ensures.value (c.min.ensures ∙ ap (λ n. min (step_taken c.in-Some.parts.0.now).index n) c.len.ensures) c.in_ok-pass_all.ensures)
    (c.enter.ensures count)

pub enter-returns-in-Main : goal.enter-returns-in-Main
enter-returns-in-Main t c = λ count.
    let inside = opened_in count (map step_taken c.args.path.now) in
    let outer = walk_scope c.args.walk.now in
    let inner = walk_scope c.go.new.walk in
    under c.go.result (λ h.
    subst (λ b. IsScopeIn (branch_taken b) inside (statement c.args.s.now) outer inner) (sym c.in-Main.is)
    (subst (λ s. IsScopeIn Main inside (statement s) outer inner) (sym c.in-If.is)
    (in_then inside (condition c.in-If.field-0) (block c.in-If.a) (block c.in-If.b) outer inner h)))
    (c.go.ensures count)

pub enter-returns-in-Else : goal.enter-returns-in-Else
enter-returns-in-Else t c = λ count.
    let inside = opened_in count (map step_taken c.args.path.now) in
    let outer = walk_scope c.args.walk.now in
    let inner = walk_scope c.go-in-Else.new.walk in
    under c.go-in-Else.result (λ h.
    subst (λ b. IsScopeIn (branch_taken b) inside (statement c.args.s.now) outer inner) (sym c.in-Else.is)
    (subst (λ s. IsScopeIn Else inside (statement s) outer inner) (sym c.in-If.is)
    (in_else inside (condition c.in-If.field-0) (block c.in-If.a) (block c.in-If.b) outer inner h)))
    (c.go-in-Else.ensures count)

pub enter-returns-in_ok-bind-in-Main-branch : goal.enter-returns-in_ok-bind-in-Main-branch
enter-returns-in_ok-bind-in-Main-branch t c = λ count.
    let inside = opened_in count (map step_taken c.args.path.now) in
    let outer = walk_scope c.args.walk.now in
    let inner = walk_scope c.go-in-Main-branch.new.walk in
    under c.go-in-Main-branch.result (λ h.
    subst (λ b. IsScopeIn (branch_taken b) inside (statement c.args.s.now) outer inner) (sym c.in-Main-branch.is)
    (subst (λ s. IsScopeIn Main inside (statement s) outer inner) (sym c.in-For.is)
    (in_loop inside (binding c.in-For.i) (control c.in-For.field-1) (control c.in-For.field-2) (block c.in-For.b) outer
    (walk_scope c.bind.new.self) inner c.in_ok-bind-in-Main-branch.ensures.scope h)))
    (c.go-in-Main-branch.ensures count)
