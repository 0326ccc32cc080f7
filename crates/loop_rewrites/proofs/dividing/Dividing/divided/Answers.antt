use Rattle.std.proofs.Common.{◌≡◌, ◌+◌, pos, ℕ, List, IfOk, ap, sym, ◌∙◌, subst, arith}
use Rattle.exo_tree.specs.Tree.{Statement, Lit, Mod, Gt, Block, end, block, joined}
use Rattle.exo_tree.specs.Renaming.{fresh}
use Rattle.place_laws.specs.Scope.BranchesAtPlaces.{only_branch}
use Rattle.loop_laws.specs.DivideLoop.{whole_groups, turns_behind, divided_with, divided}
use Rattle.step_targets.specs.PlainLoop.{plain_loop}
use Rattle.loop_rewrites.specs.PlainTail.{division, plain_tail}
use Rattle.loop_rewrites.specs.declared.dividing.Tail.{Tail}
use Rattle.loop_rewrites.proofs.dividing.Dividing.divided.Goals as goal

pub returns-in_ok-rest-in-Cut : goal.returns-in_ok-rest-in-Cut
returns-in_ok-rest-in-Cut c =
    let d = division c.args.self.now in
    let l = plain_loop c.args.l.now in
    let base = c.args.fresh.now in
    let two : c.take-2.new.self ≡ base + 2 =
    omega (arith, c.in_ok-outer.ensures.moved, c.in_ok-inner.ensures.moved) in
    let rest = c.in_ok-rest-in-Cut.ensures base ∙ ap (λ (n : ℕ). fresh n (turns_behind d l base)) two in
    let same : joined (whole_groups d l c.in_ok-outer.outer.0) (block c.in_ok-rest-in-Cut.rest) ≡ divided d l base =
    (λ i. joined (whole_groups d l (c.in_ok-outer.ensures.id i)) (rest i))
    ∙ ap (λ (t : Tail). divided_with d l base (plain_tail t)) (sym c.in-Cut.is) in
    subst (λ (x : Block). IfOk c.whole_with.result (λ (b : List Statement). block b ≡ x)) same c.whole_with.ensures

pub returns-in_ok-rest-in-CutAndGuard : goal.returns-in_ok-rest-in-CutAndGuard
returns-in_ok-rest-in-CutAndGuard c =
    let d = division c.args.self.now in
    let l = plain_loop c.args.l.now in
    let base = c.args.fresh.now in
    let two : c.take-2.new.self ≡ base + 2 =
    omega (arith, c.in_ok-outer.ensures.moved, c.in_ok-inner.ensures.moved) in
    let rest =
    c.in_ok-rest-in-CutAndGuard.ensures base
    ∙ ap (λ (n : ℕ). only_branch (Gt (Mod l.hi c.args.self.now.by) (Lit (pos 0))) (fresh n (turns_behind d l base)) end) two in
    let same : joined (whole_groups d l c.in_ok-outer.outer.0) (block c.in_ok-rest-in-CutAndGuard.rest) ≡ divided d l base =
    (λ i. joined (whole_groups d l (c.in_ok-outer.ensures.id i)) (rest i))
    ∙ ap (λ (t : Tail). divided_with d l base (plain_tail t)) (sym c.in-CutAndGuard.is) in
    subst (λ (x : Block). IfOk c.whole_with-in-CutAndGuard.result (λ (b : List Statement). block b ≡ x)) same c.whole_with-in-CutAndGuard.ensures
