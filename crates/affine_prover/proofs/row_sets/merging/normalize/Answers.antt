use Rattle.std.proofs.Common.{◌≡◌, true, false, cond, not, ◌&&◌, ◌||◌, List, [], ◌∷◌, ◌++◌, map, length, arith, ap, sym}
use Rattle.std.proofs.Common.{◌∙◌}
use Rattle.std.proofs.lemmas.Int.{to_z-of_z}
use Rattle.std.specs.List.{filter, fold, list_any}
use Rattle.std.specs.Int.{is_negative, w128}
use Rattle.std.specs.Int.RustNames.{FitsSigned}
use Rattle.std.proofs.lemmas.List.{map-id, map_push, append-nil}
use Rattle.std.proofs.lemmas.List.Elements.{filter-append}
use Rattle.std.proofs.lemmas.List.Folds.{list_any-append}
use Rattle.std.proofs.lemmas.List.Sums.{fold_push}
use Rattle.std.proofs.lemmas.Iterator.Adapters.{YieldsList-from_vec}
use Rattle.std.proofs.lemmas.Iterator.Consumers.{YieldsList-turn, YieldsList-end}
use Rattle.affine_forms.specs.Affine.{Affine}
use Rattle.affine_prover.specs.RowSets.Rows.{joined, tightened, is_constant, is_false}
use Rattle.affine_prover.proofs.OfRowSets.Normalizing.{any_at, normalized_onto-none}
use Rattle.affine_prover.proofs.OfRowSets.Normalizing.{normalized_onto-some}
use Rattle.affine_prover.proofs.row_sets.merging.normalize.Goals as goal

pub returns-then-constant-lt0 : goal.returns-then-constant-lt0
returns-then-constant-lt0 c =
    let e = YieldsList-from_vec c.args.rows.items c.into_iter-row-iterator.ensures.into_iter_gives.0 (omega (arith, c.into_iter-row-iterator.ensures.into_iter_gives.1, c.args.rows.ok.0)) in
    let t = YieldsList-turn e c.loop-row.yielded c.loop-row.row-iterator c.loop-row.yielded_by c.next.result c.next.new.self c.in-Some.row c.in-Some.is c.next.ensures.steps in
    let flat : is_constant (tightened c.in-Some.row) ≡ true = ap is_constant (sym c.tighten.ensures) ∙ sym c.is_constant.ensures ∙ c.if-not-is_constant.false in
    let fk : FitsSigned w128 c.constant.result = record { sfits = c.constant.type_inv } in
    let low : is_negative (tightened c.in-Some.row).constant ≡ true = ap (λ (r : Affine). is_negative r.constant) (sym c.tighten.ensures) ∙ ap is_negative (sym c.constant.ensures.value) ∙ ap is_negative (sym (to_z-of_z w128 c.constant.result fk)) ∙ c.if-constant-lt0.true in
    normalized_onto-none c.args.settled.items c.args.rows.items (any_at c.args.rows.items (length c.loop-row.yielded) c.in-Some.row t.0 t.1 (ap (λ b. b && is_negative (tightened c.in-Some.row).constant) flat ∙ low))

pub returns : goal.returns
returns c =
    let e = YieldsList-from_vec c.args.rows.items c.into_iter-row-iterator.ensures.into_iter_gives.0 (omega (arith, c.into_iter-row-iterator.ensures.into_iter_gives.1, c.args.rows.ok.0)) in
    let t = YieldsList-end e c.loop-row.yielded c.loop-row.row-iterator c.loop-row.yielded_by c.next.result c.next.new.self c.in-None.is c.next.ensures.steps in
    let whole = sym (map-id c.loop-row.yielded) ∙ t.0 in
    normalized_onto-some c.args.settled.items c.args.rows.items c.loop-row.kept.items
    (c.loop-row.invariant.merges ∙ ap (λ rs. fold joined c.args.settled.items (filter (λ r. not (is_constant r)) (map tightened rs))) whole)
    (ap (λ rs. list_any is_false (map tightened rs)) (sym whole) ∙ c.loop-row.invariant.possible)

-- one more row that holds everywhere
passed-next :
    (settled yielded kept : List Affine) (r : Affine) → is_constant (tightened r) ≡ true
    → is_negative (tightened r).constant ≡ false
    → kept ≡ fold joined settled (filter (λ r. not (is_constant r)) (map tightened yielded))
    → list_any is_false (map tightened yielded) ≡ false
    → (kept ≡ fold joined settled (filter (λ r. not (is_constant r)) (map tightened (yielded ++ r ∷ []))))
    × (list_any is_false (map tightened (yielded ++ r ∷ [])) ≡ false)
passed-next settled yielded kept r flat low merges possible =
    let t = tightened r in
    let ts = map tightened yielded in
    let more = map_push tightened yielded r in
    let stays = filter-append (λ r. not (is_constant r)) ts (t ∷ [])
    ∙ ap (λ b. filter (λ r. not (is_constant r)) ts ++ cond (not b) (t ∷ []) []) flat
    ∙ append-nil (filter (λ r. not (is_constant r)) ts) in (
      merges ∙ sym (ap (λ zs. fold joined settled (filter (λ r. not (is_constant r)) zs)) more
          ∙ ap (fold joined settled) stays),
      ap (list_any is_false) more ∙ list_any-append is_false ts (t ∷ []) ∙ ap (λ b. b || (is_false t || false)) possible
          ∙ ap (λ b. (is_constant t && b) || false) low ∙ ap (λ b. (b && false) || false) flat,
    )

-- one more row that is kept
joined-next :
    (settled yielded kept next : List Affine) (r : Affine) → is_constant (tightened r) ≡ false
    → kept ≡ fold joined settled (filter (λ r. not (is_constant r)) (map tightened yielded))
    → list_any is_false (map tightened yielded) ≡ false → next ≡ joined kept (tightened r)
    → (next ≡ fold joined settled (filter (λ r. not (is_constant r)) (map tightened (yielded ++ r ∷ []))))
    × (list_any is_false (map tightened (yielded ++ r ∷ [])) ≡ false)
joined-next settled yielded kept next r moves merges possible is =
    let t = tightened r in
    let ts = map tightened yielded in
    let rows = filter (λ r. not (is_constant r)) ts in
    let more = map_push tightened yielded r in
    let grows = filter-append (λ r. not (is_constant r)) ts (t ∷ [])
    ∙ ap (λ b. filter (λ r. not (is_constant r)) ts ++ cond (not b) (t ∷ []) []) moves in (
      is ∙ ap (λ ks. joined ks t) merges ∙ sym
          (ap (λ zs. fold joined settled (filter (λ r. not (is_constant r)) zs)) more ∙ ap (fold joined settled) grows
          ∙ fold_push joined settled rows t),
      ap (list_any is_false) more ∙ list_any-append is_false ts (t ∷ []) ∙ ap (λ b. b || (is_false t || false)) possible
          ∙ ap (λ b. (b && is_negative t.constant) || false) moves,
    )

pub loop-row-preserved : goal.loop-row-preserved
loop-row-preserved c =
    let flat = ap is_constant (sym c.tighten.ensures) ∙ sym c.is_constant.ensures ∙ c.if-not-is_constant.false in
    let fk : FitsSigned w128 c.constant.result = record { sfits = c.constant.type_inv } in
    let low = ap (λ (r : Affine). is_negative r.constant) (sym c.tighten.ensures)
    ∙ ap is_negative (sym c.constant.ensures.value) ∙ ap is_negative (sym (to_z-of_z w128 c.constant.result fk))
    ∙ c.if-constant-lt0.false in
    let both = passed-next c.args.settled.items c.loop-row.yielded c.loop-row.kept.items c.in-Some.row flat low
    c.loop-row.invariant.merges c.loop-row.invariant.possible in
    record { merges = both.0; possible = both.1 }

pub loop-row-preserved-in-Continue-1 : goal.loop-row-preserved-in-Continue-1
loop-row-preserved-in-Continue-1 c =
    let moves = ap is_constant (sym c.tighten.ensures) ∙ sym c.is_constant.ensures ∙ c.if-not-is_constant.true in
    let both = joined-next c.args.settled.items c.loop-row.yielded c.loop-row.kept.items c.join.new.kept.items
    c.in-Some.row moves c.loop-row.invariant.merges c.loop-row.invariant.possible
    (c.in_ok-join.ensures ∙ ap (joined c.loop-row.kept.items) c.tighten.ensures) in
    record { merges = both.0; possible = both.1 }
