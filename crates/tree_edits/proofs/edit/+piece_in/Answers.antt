use Rattle.std.proofs.Common.{◌≡◌, map, ap, sym, ◌∙◌}
use Rattle.std.proofs.lemmas.Option.{slice_get-map}
use Rattle.std.specs.Prelude.{option_map}
use Rattle.exo_tree.specs.Tree.{block}
use Rattle.exo_tree.specs.PlainPlace.{step_taken}
use Rattle.exo_tree.proofs.Edits.{if_ok}
use Rattle.tree_edits.proofs.Pieces.{piece_in, IsTaken, taken_here, taken_inside}
use Rattle.tree_edits.proofs.edit.+piece_in.Goals as goal

pub returns-in-None-first : goal.returns-in-None-first
returns-in-None-first t c =
    let s = c.in-Some.parts.0.now in
    let rest = c.in-Some.parts.1.now in
    let path = map step_taken c.args.path.now in
    if_ok (IsTaken c.args.b.now s.index c.args.count) (λ x. option_map block x ≡ piece_in c.args.count path (block c.args.b.now))
    (λ x. taken_here c.args.count (step_taken s) path (map step_taken rest) c.args.b.now x (ap (map step_taken) c.in-Some.ensures.cases.0) (slice_get-map step_taken rest 0 ∙ ap (option_map step_taken) (sym c.in-None-first.ensures.value)))
    c.taken.result c.taken.ensures

pub returns-in-None-inner : goal.returns-in-None-inner
returns-in-None-inner t c =
    let s = c.in-Some.parts.0.now in
    let rest = c.in-Some.parts.1.now in
    sym (taken_inside c.args.count (step_taken s) (step_taken c.in-Some-first.next.now) (map step_taken c.args.path.now) (map step_taken rest) c.args.b.now _ (ap (map step_taken) c.in-Some.ensures.cases.0) (slice_get-map step_taken rest 0 ∙ ap (option_map step_taken) (sym c.in-Some-first.ensures.value)) (sym c.in-None-inner.ensures))

pub returns-in-Some-inner : goal.returns-in-Some-inner
returns-in-Some-inner t c =
    let s = c.in-Some.parts.0.now in
    let rest = c.in-Some.parts.1.now in
    let path = map step_taken c.args.path.now in
    if_ok (λ x. option_map block x ≡ piece_in c.args.count (map step_taken rest) (block c.in-Some-inner.inner.now)) (λ x. option_map block x ≡ piece_in c.args.count path (block c.args.b.now))
    (λ x h. h ∙ sym (taken_inside c.args.count (step_taken s) (step_taken c.in-Some-first.next.now) path (map step_taken rest) c.args.b.now _ (ap (map step_taken) c.in-Some.ensures.cases.0) (slice_get-map step_taken rest 0 ∙ ap (option_map step_taken) (sym c.in-Some-first.ensures.value)) (sym c.in-Some-inner.ensures)))
    c.piece_in.result c.piece_in.ensures
