-- The new run keeps fields of their kinds, so they are of their kinds where it comes to the new
-- block.
use Rattle.std.proofs.Common.{ℕ, ℤ, sym, ap, subst}
use Rattle.exo_tree.specs.Tree.{Block, Procedure}
use Rattle.exo_tree.specs.Context.{fill}
use Rattle.exo_meaning.specs.Scene.{Scene}
use Rattle.exo_meaning.specs.State.{State}
use Rattle.exo_meaning.specs.Run.{World, unit_world, kinds_of}
use Rattle.exo_meaning.specs.Refines.{StateRefined}
use Rattle.exo_meaning.specs.Inputs.{IsAdmissible, IsOfKind}
use Rattle.meaning_laws.specs.Context.{ComesTo}
use Rattle.meaning_laws.specs.Live.{refield}
use Rattle.meaning_laws.specs.Sorted.{FieldsFit}
use Rattle.meaning_laws.proofs.Sorted.{fits_at_law}
use Rattle.config_laws.specs.Live.LiveFits.{LiveFits}
use Rattle.config_laws.proofs.OfLive.ReplaceLive.{live_along}

-- an input of one is an input of the other
other_input : (world : World) (p : Procedure) (b : Block) (s : State) → IsAdmissible world p s
    → IsAdmissible world (record p { body = b }) s
other_input world p b s h = record {
  arguments = h.arguments;
  no_others = h.no_others;
  cells =
      h.cells;
  tidy = h.tidy;
  fields = h.fields;
  asserts = h.asserts;
}

pub live_fits : LiveFits
live_fits fields memories ps calls c old new p q out but forget was is fine exit may =
    live_along (kinds_of fields) ps calls c old new p q out but forget was is exit.others
    (λ s good u v come go g agree near. may s u good come g (fit s good v go g u near) agree)
  where
    fit : (s : State) → IsAdmissible (unit_world (kinds_of fields) ps) p s → (v : State)
        → ComesTo (unit_world (kinds_of fields) ps) new c s v → (g : ℕ → ℤ) (u : State)
        → StateRefined (refield g u) v → FieldsFit (kinds_of fields) (refield g u)
    fit s good v go g u near f =
        let world = unit_world (kinds_of fields) ps in
        let input = subst (λ z. IsAdmissible world z s) (sym is) (other_input world p (fill c new) s
        good) in
        let there = fits_at_law fields memories ps q c new fine (ap (λ (z : Procedure). z.body) is)
        s v input go in
        subst (λ (z : Scene). IsOfKind (kinds_of fields f) (z.fields f)) (sym near.scene)
        (there.fields f)
