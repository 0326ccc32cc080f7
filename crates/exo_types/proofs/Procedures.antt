-- Procedures and instructions as items.
use Rattle.std.proofs.Common.{◌≡◌, ℕ, ◌+◌, ◌≤◌, List, [], ◌∷◌, ◌++◌, Some, None, Result, Ok, Err, MatchResult, length, ap, sym, ◌∙◌, subst, arith}
use Rattle.std.proofs.lemmas.List.{length-map}
use Rattle.text_lexer.specs.declared.place.Place.{Place}
use Rattle.exo_reader.specs.Source.{Definition, procedure, instruction}
use Rattle.exo_reader.specs.Items.{joined}
use Rattle.rules_names.specs.Faults.{least}
use Rattle.exo_types.specs.declared.refusal.Refusal.{Refusal}
use Rattle.exo_types.specs.declared.typed.UnitBuilder.{UnitBuilder}
use Rattle.exo_types.specs.Refusals.{Refuses}
use Rattle.exo_types.specs.ItemRules.{definition_end}
use Rattle.exo_types.specs.UnitRules.{Above, procedure_here, procedure_fault, with_procedure, template_faults, item_fault}
use Rattle.exo_types.specs.UnitLines.{lines_of_definition}
use Rattle.exo_types.specs.Standing.{Agrees, IsFew, HasPlaces, Stands, IsProcedure, IsAdded}
use Rattle.exo_types.proofs.Broken.{refuses_second, none_of_both}
use Rattle.exo_types.proofs.Added.{few_ids}

pub few_later : (t : UnitBuilder) (n m : ℕ) → n ≤ m → IsFew t n → IsFew t m
few_later t n m h f = record { ids = omega (arith, h, f.ids); procedures = omega (arith, h, f.procedures); fields = omega (arith, h, f.fields); memories = omega (arith, h, f.memories) }

-- the tables are short
pub few_memories : (t : UnitBuilder) (places : List Place) (n : ℕ) (d : Definition) → Agrees t → IsFew t n → HasPlaces places (definition_end n d) → length t.memories ≤ 4294967295
few_memories t places n d a f h = omega (arith, ap length a.memories, length-map t.unit.memories (λ m. m.name), f.memories, h.tokens, h.few, few_ids n d)

pub few_procedures : (t : UnitBuilder) (places : List Place) (n : ℕ) (d : Definition) → Agrees t → IsFew t n → HasPlaces places (definition_end n d) → length t.procedures ≤ 4294967295
few_procedures t places n d a f h = omega (arith, ap length a.procedures, length-map t.unit.procs (λ q. q.name), f.procedures, h.tokens, h.few, few_ids n d)

module _ (above : Above) (places : List Place) (t after : UnitBuilder) (n : ℕ) (d : Definition) where
  as_procedure : (end : ℕ) → IsProcedure above places t after None (n + 2) end d → IsAdded above places t after n end (procedure d)
  as_procedure end p = record {
    keeps = p.keeps;
    ends = omega (arith, p.ends);
    stands = p.stands;
    agrees = p.agrees;
    few = p.few;
    lines = p.lines;
  }

  pub procedure_item : (result : Result ℕ Refusal) → MatchResult result (λ end. IsProcedure above places t after None (n + 2) end d) (λ e. Refuses e (procedure_fault above (n + 2) d)) → MatchResult result (λ end. IsAdded above places t after n end (procedure d)) (λ e. Refuses e (item_fault above n (procedure d)))
  procedure_item (Ok end) p = as_procedure end p
  procedure_item (Err e) r = r

  module _ (template : List (List ℕ)) (def : ℕ) (text : List ℕ) (at : def ≡ n + 2 + length template + 2) (is : text ≡ joined template) (fits : least (template_faults above (n + 2) template d) ≡ None) where
    as_instruction : (end : ℕ) → IsProcedure above places t after (Some text) def end d → IsAdded above places t after n end (instruction template d)
    as_instruction end p = record {
      keeps = none_of_both _ _ fits (ap (λ k. procedure_fault above k d) (sym at) ∙ p.keeps);
      ends = omega (arith, p.ends, at);
      stands = subst (λ (y : List ℕ). Stands after (with_procedure above d (procedure_here above (Some y) d))) is p.stands;
      agrees = p.agrees;
      few = p.few;
      lines = p.lines ∙ ap (λ k. t.unit.lines ++ lines_of_definition places k d ∷ []) at;
    }

    pub instruction_item : (result : Result ℕ Refusal) → MatchResult result (λ end. IsProcedure above places t after (Some text) def end d) (λ e. Refuses e (procedure_fault above def d)) → MatchResult result (λ end. IsAdded above places t after n end (instruction template d)) (λ e. Refuses e (item_fault above n (instruction template d)))
    instruction_item (Ok end) p = as_instruction end p
    instruction_item (Err e) r = refuses_second e _ _ fits (subst (λ (k : ℕ). Refuses e (procedure_fault above k d)) at r)
