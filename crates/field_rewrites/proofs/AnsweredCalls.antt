-- What the rule that calls a version says of what is found at a place.
use Rattle.std.proofs.Common.{◌≡◌, ℕ, Bool, true, false, List, [], Option, Some, None, refl}
use Rattle.std.proofs.Common.{sym, ap, ap₂, ◌∙◌, if◌then◌else◌}
use Rattle.exo_tree.specs.Tree.{Argument, Statement, Call, Block, end, next, Program}
use Rattle.exo_tree.specs.Places.{Path}
use Rattle.meaning_laws.proofs.Parts.{some_injective}
use Rattle.config_laws.specs.FieldRule as config
use Rattle.config_laws.specs.CallEqv.{version_piece, version_called, version_fields}
use Rattle.config_laws.specs.Differing.{Origin, is_descendant}
use Rattle.cursor_forward.specs.Causes.{WrongShape, NotDescendant}
use Rattle.cursor_forward.specs.Cursors.{After}
use Rattle.step_rules.specs.Rule.{Got, Not, Target}
use Rattle.step_driver.specs.Spots.{Exit}
use Rattle.call_laws.specs.Fields.FieldRules.{of_tried, of_piece, known_fields, are_fields}
use Rattle.call_laws.proofs.OfFields.Version.{version_fields_there}
use Rattle.field_rewrites.specs.PlainCall.{call_of}

abbrev exit : List ℕ → Path → Exit
exit fs place = record { fields = fs; place = place; side = After }

module _ (unit : Program) (os : List Origin) (j : ℕ) where
  pub no_call : (at : Path) (s : Option Statement) → None ≡ call_of s
      → of_tried of_piece (version_piece unit os j at s) ≡ Not WrongShape
  no_call at (Some (Call k args)) h = cc
  no_call at s h = refl

  pub no_call_made : (s : Option Statement) → None ≡ call_of s
      → of_tried (λ (made : Block). made) (version_called unit os j s) ≡ Not WrongShape
  no_call_made (Some (Call k args)) h = cc
  no_call_made s h = refl

  call_there : (at : Path) (s : Option Statement) (k : ℕ) (args : List Argument)
      → Some (k, args) ≡ call_of s
      → version_piece unit os j at s
      ≡ (if is_descendant os j k then config.Got (record { path = at; count = 1 })
      else config.Not config.NotDescendant)
  call_there at (Some (Call i others)) k args h =
      let same : i ≡ k =
      ap (λ (p : ℕ × List Argument). p.0) (sym (some_injective (k, args) (i, others) h)) in
      ap (λ (n : ℕ). if is_descendant os j n then config.Got (record { path = at; count = 1 })
      else config.Not config.NotDescendant) same
  call_there at s k args h = cc

  pub no_descent : (at : Path) (s : Option Statement) (k : ℕ) (args : List Argument)
      → Some (k, args) ≡ call_of s → is_descendant os j k ≡ false
      → of_tried of_piece (version_piece unit os j at s) ≡ Not NotDescendant
  no_descent at s k args h d =
      ap (of_tried of_piece) (call_there at s k args h
      ∙ ap (λ (t : Bool). if t then config.Got (record { path = at; count = 1 })
      else config.Not config.NotDescendant) d)

  pub a_descent : (at : Path) (s : Option Statement) (k : ℕ) (args : List Argument)
      → Some (k, args) ≡ call_of s → is_descendant os j k ≡ true
      → of_tried of_piece (version_piece unit os j at s) ≡ Got (record { path = at; count = 1 })
  a_descent at s k args h d =
      ap (of_tried of_piece) (call_there at s k args h
      ∙ ap (λ (t : Bool). if t then config.Got (record { path = at; count = 1 })
      else config.Not config.NotDescendant) d)

  pub a_call_made : (s : Option Statement) (k : ℕ) (args : List Argument)
      → Some (k, args) ≡ call_of s
      → of_tried (λ (made : Block). made) (version_called unit os j s) ≡ Got (next (Call j args) end)
  a_call_made (Some (Call i others)) k args h =
      let same : others ≡ args =
      ap (λ (p : ℕ × List Argument). p.1) (sym (some_injective (k, args) (i, others) h)) in
      ap (λ (bs : List Argument). Got (next (Call j bs) end)) same
  a_call_made s k args h = cc

module _ (t : Target) (j : ℕ) (s : Option Statement) where
  -- the fields that are found are those that the rule tells
  pub called_known : (fs : List ℕ) → fs ≡ version_fields t.unit t.origins j s → are_fields t fs ≡ true
  called_known fs h = ap (are_fields t) h ∙ version_fields_there t j s

  pub told_behind : (fs : List ℕ) (place at : Path) → fs ≡ version_fields t.unit t.origins j s
      → place ≡ at
      → exit fs place ≡ exit (known_fields t (version_fields t.unit t.origins j s)) at
  told_behind fs place at h e =
      let all : known_fields t (version_fields t.unit t.origins j s) ≡ version_fields t.unit t.origins j s =
      ap (λ (b : Bool). if b then version_fields t.unit t.origins j s else [])
      (version_fields_there t j s) in
      ap₂ exit (h ∙ sym all) e
