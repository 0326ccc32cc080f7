-- The accesses of a piece cover what a run of it touches, in a unit.
use Rattle.std.proofs.Common.{◌≡◌, ℕ, List, [], ◌∷◌, ◌++◌, map, length, Option, Some, None, option_map, slice_get, refl, sym, ap, ◌∙◌, append_assoc, inl}
use Rattle.std.proofs.lemmas.Option.{slice_get-map}
use Rattle.exo_tree.specs.Tree.{Kind, Param, Procedure, Program}
use Rattle.exo_meaning.specs.Calls.{Callee}
use Rattle.exo_meaning.specs.Run.{callee_in, world_of, callees, kinds_of, program_world}
use Rattle.exo_meaning.specs.Units.{field_kind}
use Rattle.affine_forms.specs.Laws.{NormalLaw, FormulaLaw}
use Rattle.text_show.specs.Words.{words_of}
use Rattle.exo_effects.specs.Uses.{params_of, modes_of, at_hole}
use Rattle.effect_laws.specs.Covers.{CoversLaw}
use Rattle.effect_laws.proofs.Covers.{block_covered}

-- the procedures that may be called are those of the unit
procedures : (kinds : ℕ → Kind) (above : List Callee) (ps : List Procedure) → map (λ c. c.procedure) (callees kinds above ps) ≡ map (λ c. c.procedure) above ++ ps
procedures kinds above [] = sym (no_more (map (λ c. c.procedure) above))
  where
    no_more : (qs : List Procedure) → qs ++ [] ≡ qs
    no_more [] = refl
    no_more (q ∷ qs) = ap (λ rs. q ∷ rs) (no_more qs)
procedures kinds above (p ∷ ps) =
    let own = callee_in (world_of kinds above) p in
    procedures kinds (above ++ own ∷ []) ps ∙ ap (λ qs. qs ++ ps) (last above own) ∙ append_assoc (map (λ c. c.procedure) above) (p ∷ []) ps
  where
    last : (cs : List Callee) (c : Callee) → map (λ c. c.procedure) (cs ++ c ∷ []) ≡ map (λ c. c.procedure) cs ++ c.procedure ∷ []
    last [] c = refl
    last (d ∷ cs) c = ap (λ qs. d.procedure ∷ qs) (last cs c)

params_there : (u : Program) (k : ℕ) (c : Callee) → (program_world u).callees k ≡ Some c → params_of u k ≡ c.procedure.params
params_there u k c e = go (slice_get u.procedures k) there
  where
    there : slice_get u.procedures k ≡ Some c.procedure
    there = ap (λ qs. slice_get qs k) (sym (procedures (kinds_of u.fields) [] u.procedures)) ∙ slice_get-map (λ (d : Callee). d.procedure) (callees (kinds_of u.fields) [] u.procedures) k ∙ ap (option_map (λ (d : Callee). d.procedure)) e

    go : (o : Option Procedure) → o ≡ Some c.procedure → (elim o as (λ o. List Param) [ None ↦ [] | Some p ↦ p.params ]) ≡ c.procedure.params
    go o e = ap (λ o. elim o as (λ o. List Param) [ None ↦ [] | Some p ↦ p.params ]) e

pub covers_law : NormalLaw → FormulaLaw → CoversLaw
covers_law normal formulas u p o scope s may =
    block_covered normal formulas (field_kind u.fields) (length u.memories) (program_world u) (words_of u p) (params_of u) (modes_of u) (params_there u) s.scene o.piece scope may.root (at_hole u p o) may.block s (record {
      kept = λ b shape e. e;
      buffers = may.buffers;
      sound = may.sound;
      cells = may.cells;
      flags = may.flags;
      seen = λ x seen e. inl (may.seen x seen e);
      round = tt;
      own = λ y h. refl;
    })
