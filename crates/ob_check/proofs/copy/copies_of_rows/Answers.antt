use Rattle.std.proofs.Common.{ℕ, ◌+◌, ◌<◌, ◌≡◌, List, [], ◌∷◌, ◌++◌, map, length, take, get_or, rules}
use Rattle.std.proofs.Common.{ap, ap₂, sym, ◌∙◌}
use Rattle.std.proofs.lemmas.Int.{to_z-of_z}
use Rattle.std.proofs.lemmas.List.{map_more, map_push}
use Rattle.std.specs.Int.{w128}
use Rattle.std.specs.Int.RustNames.{FitsSigned}
use Rattle.affine_forms.specs.declared.system.Row.{Row}
use Rattle.ob_check.specs.Rows.{term_numbers, row_numbers}
use Rattle.ob_check.proofs.copy.copies_of_rows.Goals as goal

-- one more row with its copy
one_copied :
    (rows made next : List Row) (i : ℕ) (r q : Row) → i < length rows → r ≡ get_or rows i r
    → next ≡ made ++ q ∷ [] → row_numbers q ≡ row_numbers r
    → map row_numbers made ≡ map row_numbers (take i rows)
    → map row_numbers next ≡ map row_numbers (take (i + 1) rows)
one_copied rows made next i r q h e is same so_far =
    ap (map row_numbers) is ∙ map_push row_numbers made q
    ∙ ap₂ (λ ns n. ns ++ n ∷ []) so_far (same ∙ ap row_numbers e) ∙ sym (map_more row_numbers rows i r h)

pub loop-r-preserved : goal.loop-r-preserved
loop-r-preserved c =
    let fz : FitsSigned w128 c.r-item.result.constant = search rules in
    let terms = ap (λ v. v.items) c.new.ensures.terms ∙ c.in_ok-terms.ensures.items ∙ c.deref.ensures.value in
    let same : row_numbers c.new.result ≡ row_numbers c.r-item.result =
    ap₂ (λ ts k. (map term_numbers ts, k)) terms (simp to_z-of_z at c.new.ensures.constant) in
    one_copied c.args.rows.now c.loop-r.all.items c.push.new.self.items c.loop-r.r-index c.r-item.result
    c.new.result c.loop-r-test.true c.r-item.is c.in_ok-push.ensures.items same c.loop-r.invariant
