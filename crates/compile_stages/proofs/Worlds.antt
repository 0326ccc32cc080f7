-- Procedures of the text run the same among the versions.
use Rattle.std.proofs.Common.{◌≡◌, ℕ, true, List, [], ◌++◌, take, drop, length, Option, Some, sym, ap, ◌∙◌, subst, arith, append_assoc, slice_get}
use Rattle.std.proofs.lemmas.List.{take-append-drop}
use Rattle.exo_tree.specs.Tree.{ConfigField, Procedure, Program}
use Rattle.exo_meaning.specs.Scene.{where_true}
use Rattle.exo_meaning.specs.State.{State}
use Rattle.exo_meaning.specs.Run.{run, callees, unit_world, kinds_of, program_world}
use Rattle.exo_meaning.specs.Inputs.{all_have_extents, run_procedure}
use Rattle.exo_meaning.specs.Units.{field_kind, IsUnit}
use Rattle.meaning_laws.specs.Grown.{calls_below, GrownLaw}
use Rattle.meaning_laws.proofs.WellFormed.{calls_are_below}
use Rattle.c_unit_laws.proofs.Standing.{table_count, formed_at}
use Rattle.meaning_laws.proofs.Grown.{grown_law}

-- a procedure calls those before it alone
below : (text : Program) (k : ℕ) (p : Procedure) → IsUnit text → slice_get text.procedures k ≡ Some p → calls_below (length (take k text.procedures)) p.body ≡ true
below text k p formed there =
    subst (λ n. calls_below n p.body ≡ true) (table_count (kinds_of text.fields) (take k text.procedures) [] ∙ omega arith)
    (calls_are_below (field_kind text.fields) (length text.memories) (callees (kinds_of text.fields) [] (take k text.procedures)) p
    (formed_at text.fields (length text.memories) text.procedures k p formed.procedures there))

module _ (text : Program) (k : ℕ) (p : Procedure) (formed : IsUnit text) (there : slice_get text.procedures k ≡ Some p) where
  -- as among those before it
  abbrev alone : State → Option State
  alone = run (unit_world (kinds_of text.fields) (take k text.procedures)) p.body

  runs_in : (ps more : List Procedure) → ps ≡ take k text.procedures ++ more → run (unit_world (kinds_of text.fields) ps) p.body ≡ alone
  runs_in ps more parts =
      ap (λ l. run (unit_world (kinds_of text.fields) l) p.body) parts
      ∙ grown_law (kinds_of text.fields) (take k text.procedures) more p.body (below text k p formed there)

  runs_in_text : run (program_world text) p.body ≡ alone
  runs_in_text = runs_in text.procedures (drop k text.procedures) (sym (take-append-drop k text.procedures))

  runs_among : (ps behind : List Procedure) → ps ≡ text.procedures ++ behind → run (unit_world (kinds_of text.fields) ps) p.body ≡ alone
  runs_among ps behind first =
      runs_in ps (drop k text.procedures ++ behind)
      (first ∙ (ap (λ l. l ++ behind) (sym (take-append-drop k text.procedures)) ∙ append_assoc (take k text.procedures) (drop k text.procedures) behind))

-- so it runs the same with versions behind those of the text
pub same_runs : (text program : Program) (behind : List Procedure) → IsUnit text
    → program.procedures ≡ text.procedures ++ behind → program.fields ≡ text.fields
    → (k : ℕ) (p : Procedure) → slice_get text.procedures k ≡ Some p → (s : State)
    → run_procedure (program_world program) p s ≡ run_procedure (program_world text) p s
same_runs text program behind formed first fields k p there s =
    ap (λ (fs : List ConfigField). run_procedure (unit_world (kinds_of fs) program.procedures) p s) fields
    ∙ ap (λ (f : State → Option State). where_true (all_have_extents s.scene p.params) (f s))
    (runs_among text k p formed there program.procedures behind first ∙ sym (runs_in_text text k p formed there))
