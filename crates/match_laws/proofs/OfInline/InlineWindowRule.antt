-- A procedure with a view removed by the rewrite is a refinement.
use Rattle.std.proofs.Common.{◌≡◌, Some, refl, sym, ap, ◌∙◌, subst}
use Rattle.exo_tree.specs.Tree.{Window, View, Block, next}
use Rattle.exo_tree.specs.Context.{fill}
use Rattle.exo_meaning.specs.Run.{unit_world}
use Rattle.meaning_laws.proofs.Parts.{some_injective}
use Rattle.meaning_laws.proofs.Places.{opened_law}
use Rattle.inplace_laws.specs.Windows.{in_block as with_window}
use Rattle.inplace_laws.proofs.InlineWindow.{inline_window_refines}
use Rattle.match_laws.specs.Inline.InlineWindowRule.{Viewed, viewed_in, behind_first}
use Rattle.match_laws.specs.Inline.InlineWindowRule.{window_draft, MayRemoveView, InlineWindowRule}
use Rattle.match_laws.proofs.OfInline.InlineRule.{no_some, Made}

pub inline_window_rule : InlineWindowRule
inline_window_rule kinds ps p at n o made opens draft may = go o.piece refl draft
  where
    go : (b : Block) → o.piece ≡ b → window_draft b ≡ Some made
        → Made (unit_world kinds ps) p o made
    go (next (View w x coords) b) e d =
        let v : Viewed = record { binder = w; buffer = x; coords = coords } in
        let m = subst (λ c. MayRemoveView p o.around v (behind_first c)) e (may v (ap viewed_in e))
        in
        subst (λ c. Made (unit_world kinds ps) p o c)
        (some_injective (with_window w.id (Window x coords) b) made d)
        (inline_window_refines kinds ps p o.around w x coords b
        (sym (opened_law n at p.body o opens) ∙ ap (fill o.around) e) m.last m.free m.other
        m.plain m.own m.root m.variables m.gone)
    go b e d = absurd (no_some made d)
