-- The fields that rules on configuration writes tell.
use Rattle.std.proofs.Common.{◌≡◌, ◌<◌, ℕ, Bool, true, false, List, [], ◌∷◌, refl, if◌then◌else◌, arith}
use Rattle.std.specs.Prelude.{length, nat_lt}
use Rattle.exo_meaning.specs.Orders.{Each}
use Rattle.meaning_laws.proofs.Substitute.{and_parts}
use Rattle.step_rules.specs.Rule.{Target}
use Rattle.call_laws.specs.Fields.FieldRules.{are_fields, differs, FieldsAreThere}

each_there : (t : Target) (fs : List ℕ) → are_fields t fs ≡ true
    → Each (λ f. f < length t.unit.fields) fs
each_there t [] h = tt
each_there t (f ∷ fs) h =
    let p = and_parts (nat_lt f (length t.unit.fields)) (are_fields t fs) h in
    (below p.0, each_there t fs p.1)
  where
    below : nat_lt f (length t.unit.fields) ≡ true → f < length t.unit.fields
    below h = grind (arith, h)

pub fields_are_there : FieldsAreThere
fields_are_there rule s = by (are_fields s.target (differs rule s)) refl
  where
    by : (x : Bool) → are_fields s.target (differs rule s) ≡ x
        → Each (λ f. f < length s.target.unit.fields) (if x then differs rule s else [])
    by true h = each_there s.target (differs rule s) h
    by false h = tt
