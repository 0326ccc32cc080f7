use Rattle.std.proofs.Common.{◌≡◌, ◌<◌, ◌+◌, ◌||◌, ℕ, Bool, List, length, get_or, drop, sym, ap, ◌∙◌}
use Rattle.std.proofs.lemmas.List.{at_drop_more, at_drop_all}
use Rattle.std.specs.List.{list_any}
use Rattle.exo_tree.specs.Tree.{block}
use Rattle.exo_tree.specs.PlainUnit.{program}
use Rattle.exo_modes.specs.Aliases.{roots_in}
use Rattle.piece_modes.specs.Own.{looks_back}
use Rattle.piece_modes.proofs.own.looks_back_at.Goals as goal

-- one more element is asked
asked_on : {b : Bool} (f : ℕ → Bool) (xs : List ℕ) (k : ℕ) (r : Bool)
    → k < length xs → b ≡ list_any f (drop k xs) → r ≡ f (get_or xs k 0)
    → b ≡ (r || list_any f (drop (k + 1) xs))
asked_on f xs k r l e is =
    e ∙ at_drop_more (list_any f) xs k 0 l ∙ ap (λ b. b || list_any f (drop (k + 1) xs)) (sym is)

pub loop-y-preserved : goal.loop-y-preserved
loop-y-preserved c =
    let u = program c.args.unit.now in
    let b = block c.args.b.now in
    let ys = c.args.buffers.now in
    let k = c.loop-y.y-index in
    let f = looks_back u (roots_in c.args.aliases.now.items) b in
    let inv = c.loop-y.invariant in
    let is = c.in_ok-looks_back.ensures.looks ∙ ap (λ xs. looks_back u (roots_in xs) b (get_or ys k 0)) inv.1 in (
      asked_on f ys k _ c.loop-y-test.true inv.0 is ∙ ap (λ r. r || list_any f (drop (k + 1) ys)) c.if-branch.false,
      c.in_ok-looks_back.ensures.kept ∙ inv.1,
    )

pub returns-then-branch : goal.returns-then-branch
returns-then-branch c =
    let u = program c.args.unit.now in
    let b = block c.args.b.now in
    let ys = c.args.buffers.now in
    let k = c.loop-y.y-index in
    let f = looks_back u (roots_in c.args.aliases.now.items) b in
    let inv = c.loop-y.invariant in
    let is = c.in_ok-looks_back.ensures.looks ∙ ap (λ xs. looks_back u (roots_in xs) b (get_or ys k 0)) inv.1 in
    sym (asked_on f ys k _ c.loop-y-test.true inv.0 is ∙ ap (λ r. r || list_any f (drop (k + 1) ys)) c.if-branch.true)

pub returns : goal.returns
returns c =
    let f = looks_back (program c.args.unit.now) (roots_in c.args.aliases.now.items) (block c.args.b.now) in
    sym (c.loop-y.invariant.0 ∙ at_drop_all (list_any f) c.args.buffers.now c.loop-y.y-index c.loop-y-test.false)
