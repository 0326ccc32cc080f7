-- A procedure with a matched block replaced by a call is a refinement.
use Rattle.std.proofs.Common.{◌≡◌, [], Some, None, refl, sym, ◌∙◌, subst}
use Rattle.exo_tree.specs.Tree.{Call, Block, end, next, Procedure}
use Rattle.exo_tree.specs.Places.{Opened}
use Rattle.exo_meaning.specs.State.{State}
use Rattle.exo_meaning.specs.Run.{World, unit_world}
use Rattle.exo_meaning.specs.Inputs.{IsAdmissible, Refines, run_procedure}
use Rattle.meaning_laws.proofs.Parts.{some_injective}
use Rattle.meaning_laws.proofs.Places.{opened_law}
use Rattle.meaning_laws.proofs.SameRuns.{same_runs_law}
use Rattle.inplace_laws.specs.Inline.{inlined}
use Rattle.inplace_laws.proofs.Inline.{replace_refines}
use Rattle.match_laws.specs.Matched.{Matched, Arguments, NoMatch, Undetermined, matched}
use Rattle.match_laws.specs.Inline.ReplaceRule.{with_block, ReplaceRule}
use Rattle.match_laws.proofs.OfInline.InlineRule.{no_some}
use Rattle.match_laws.proofs.OfInline.MatchLaw.{match_runs}

-- the inputs are those of the procedure with another body
still_admissible : (world : World) (p : Procedure) (o : Opened) (b : Block) (s : State)
    → IsAdmissible world p s → IsAdmissible world (with_block p o b) s
still_admissible world p o b s good = record {
  arguments = good.arguments;
  no_others = good.no_others;
  cells = good.cells;
  tidy = good.tidy;
  fields = good.fields;
  asserts = good.asserts;
}

-- what refines a procedure refines one that does the same
refines_same : (world : World) (p : Procedure) (o : Opened) (b : Block) (r : Procedure)
    → ((s : State) → IsAdmissible world p s
    → run_procedure world p s ≡ run_procedure world (with_block p o b) s)
    → Refines world (with_block p o b) r [] → Refines world p r []
refines_same world p o b r same by = record {
  cells = λ s t u good i j. by.cells s t u (still_admissible world p o b s good)
      (sym (same s good) ∙ i) j;
  fields = λ s t u good i j. by.fields s t u (still_admissible world p o b s good)
      (sym (same s good) ∙ i) j;
}

pub replace_rule : ReplaceRule
replace_rule kinds ps p path n o at theirs q k made above own fresh known opens draft may =
    go (matched at theirs o.piece q) refl draft
  where
    go : (found : Matched) → matched at theirs o.piece q ≡ found
        → elim found [
          | Arguments args ↦ Some (next (Call k args) end)
          | NoMatch path ↦ None
          | Undetermined x ↦ None
        ] ≡ Some made
        → Refines (unit_world kinds ps) p (with_block p o made) []
    go (NoMatch path) e d = absurd (no_some made d)
    go (Undetermined x) e d = absurd (no_some made d)
    go (Arguments args) e d =
        let m = may args e in
        let body = inlined fresh.params args fresh.body in
        subst (λ b. Refines (unit_world kinds ps) p (with_block p o b) [])
        (some_injective (next (Call k args) end) made d)
        (refines_same (unit_world kinds ps) p o body (with_block p o (next (Call k args) end))
        (same_runs_law (unit_world kinds ps) o.around o.piece body p
        (sym (opened_law n path p.body o opens))
        (λ s u good come. match_runs (unit_world kinds ps) at theirs o.piece fresh args known u m.found
        m.match (m.read s u good come).0 (m.read s u good come).1))
        (replace_refines kinds ps (with_block p o body) fresh o.around k args above own refl
        m.call))
