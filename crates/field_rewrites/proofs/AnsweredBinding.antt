-- What the rule that binds an argument says of what is found at a place.
use Rattle.std.proofs.Common.{◌≡◌, ℕ, List, Option, Some, None, refl, sym, ap, ◌∙◌}
use Rattle.exo_tree.specs.Tree.{Argument, Statement, Call, Block, Procedure}
use Rattle.exo_tree.specs.Places.{Path}
use Rattle.meaning_laws.proofs.Parts.{some_injective}
use Rattle.config_laws.specs.BindConfig.{Bound, bound_piece, bound_call, number_of, write_and_call}
use Rattle.cursor_forward.specs.Causes.{WrongShape}
use Rattle.step_rules.specs.Rule.{Got, Not}
use Rattle.call_laws.specs.Fields.FieldRules.{of_tried, of_piece}
use Rattle.field_rewrites.specs.PlainCall.{call_of}

module _ (ps : List Procedure) (x : List ℕ) (f : ℕ) where
  pub nothing_bound : (at : Path) (b : Option Bound) → None ≡ b
      → of_tried of_piece (bound_piece ps x f at b) ≡ Not WrongShape
  nothing_bound at b h = ap (λ (c : Option Bound). of_tried of_piece (bound_piece ps x f at c)) (sym h)

  pub one_bound : (at : Path) (b : Option Bound) (c : Bound) → Some c ≡ b
      → of_tried of_piece (bound_piece ps x f at b) ≡ Got (record { path = at; count = 1 })
  one_bound at b c h = ap (λ (d : Option Bound). of_tried of_piece (bound_piece ps x f at d)) (sym h)

  pub nothing_made : (k : Option ℕ) (b : Option Bound) → None ≡ b
      → of_tried (λ (made : Block). made) (bound_call ps x f k b) ≡ Not WrongShape
  nothing_made None b h = refl
  nothing_made (Some k) b h =
      ap (λ (c : Option Bound). of_tried (λ (made : Block). made) (bound_call ps x f (Some k) c)) (sym h)

  number_there : (s : Option Statement) (k : ℕ) (args : List Argument) → call_of s ≡ Some (k, args)
      → number_of ps x f s ≡ Some k
  number_there (Some (Call j others)) k args h =
      ap (λ (p : ℕ × List Argument). Some p.0) (some_injective (j, others) (k, args) h)
  number_there s k args h = cc

  pub one_made : (s : Option Statement) (k : ℕ) (args : List Argument) (b : Option Bound) (c : Bound)
      → call_of s ≡ Some (k, args) → Some c ≡ b
      → of_tried (λ (made : Block). made) (bound_call ps x f (number_of ps x f s) b)
      ≡ Got (write_and_call f k c)
  one_made s k args b c h e =
      ap (λ (n : Option ℕ). of_tried (λ (made : Block). made) (bound_call ps x f n b))
      (number_there s k args h)
      ∙ ap (λ (d : Option Bound). of_tried (λ (made : Block). made) (bound_call ps x f (Some k) d)) (sym e)
