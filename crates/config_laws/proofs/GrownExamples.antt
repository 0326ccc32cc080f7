-- The laws on units that grow, on closed units.
use Rattle.std.proofs.Common.{◌≡◌, true, List, [], ◌∷◌, Some, refl}
use Rattle.exo_tree.specs.Tree.{Pass, Call, Block, end, next, Procedure}
use Rattle.exo_tree.specs.Context.{Here}
use Rattle.config_laws.specs.Surely.{surely_writes, surely_behind, unit_surely}
use Rattle.config_laws.specs.FieldRule.{Before}
use Rattle.config_laws.specs.Differing.{Origin, step_fields}
use Rattle.config_laws.proofs.Grown.{surely_grown, surely_behind_grown, step_fields_grown}
use Rattle.config_laws.proofs.RuleExamples.{at, of_text, loud, quiet}

abbrev call_loud : Block
call_loud = next (Call 0 []) end

-- the call writes the field, whatever comes behind its procedure
still_sure : surely_writes (unit_surely (loud ∷ quiet ∷ [])) 0 call_loud ≡ true
still_sure = surely_grown (loud ∷ []) (quiet ∷ []) 0 call_loud refl

still_sure_behind : surely_behind (unit_surely (loud ∷ quiet ∷ [])) 0 (Here call_loud) ≡ true
still_sure_behind = surely_behind_grown (loud ∷ []) (quiet ∷ []) 0 (Here call_loud) (next Pass end) refl

-- a version that differs in the field at its beginning, with and without a call that writes it
abbrev passing : Block → Procedure
passing rest = record quiet { body = next Pass rest }

abbrev differing_first : List Origin
differing_first =
    of_text ∷ record { parent = Some 0; place = at 0; side = Before; fields = 0 ∷ [] } ∷ []

still_differs : step_fields (loud ∷ passing end ∷ quiet ∷ []) differing_first 1 ≡ 0 ∷ []
still_differs =
    step_fields_grown (loud ∷ passing end ∷ []) (quiet ∷ []) differing_first 1 (passing end) refl refl

still_written_again : step_fields (loud ∷ passing call_loud ∷ quiet ∷ []) differing_first 1 ≡ []
still_written_again =
    step_fields_grown (loud ∷ passing call_loud ∷ []) (quiet ∷ []) differing_first 1
    (passing call_loud) refl refl
