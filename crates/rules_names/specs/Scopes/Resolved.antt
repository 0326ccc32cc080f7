-- What a string of a schedule stands for at a place of a unit.
use Rattle.std.specs.Prelude.{◌≡◌, ℕ, Bool, List, Result, MatchResult}
use Rattle.std.specs.List.{list_all}
use Rattle.exo_tree.specs.Tree.{ConfigField, Program}
use Rattle.exo_tree.specs.Places.{Path}
use Rattle.exo_tree.specs.declared.control.Ctrl.{Ctrl}
use Rattle.exo_tree.specs.declared.control.Cond.{Cond}
use Rattle.exo_tree.specs.declared.number.Id.{Id}
use Rattle.exo_tree.specs.declared.list.Coords.{Coords}
use Rattle.exo_tree.specs.PlainControl.{control, condition}
use Rattle.exo_meaning.specs.Units.{Scope}
use Rattle.text_expressions.specs.Expression.{Tree}
use Rattle.exo_reader.specs.Source.{Coordinate}
use Rattle.rules_names.specs.declared.argument.ArgError.{ArgError}
use Rattle.rules_names.specs.Names.{id_in}
use Rattle.rules_names.specs.Resolved.{control_of, condition_of}
use Rattle.rules_names.specs.WindowRules.{coordinates_of}
use Rattle.rules_names.specs.Arguments.{is_control_form, is_condition_form, knows_fields}
use Rattle.rules_names.specs.Arguments.{is_coordinate_form, knows_coordinate, IsRefused, IsTaken}
use Rattle.rules_names.specs.Scopes.PlaceScope.{scope_at}

-- the string is of its form and its fields are known, and this is its tree; or else the first that
-- does not hold refuses it
abbrev pub IsControlAt : Program → ℕ → Path → Bool → Tree → Result Ctrl ArgError → Type 0
IsControlAt u k path after e result =
    MatchResult result
    (λ c. IsTaken (is_control_form e) (knows_fields u.fields e)
    × (control c ≡ control_of u.fields (scope_at u k path after) e))
    (λ r. IsRefused (is_control_form e) (knows_fields u.fields e) r)

abbrev pub IsConditionAt : Program → ℕ → Path → Bool → Tree → Result Cond ArgError → Type 0
IsConditionAt u k path after e result =
    MatchResult result
    (λ c. IsTaken (is_condition_form e) (knows_fields u.fields e)
    × (condition c ≡ condition_of u.fields (scope_at u k path after) e))
    (λ r. IsRefused (is_condition_form e) (knows_fields u.fields e) r)

-- a window has an id and coordinates
abbrev pub IsWindowIn :
    List ConfigField → Scope → List ℕ → List Coordinate → Result (Id × Coords) ArgError → Type 0
IsWindowIn fields scope x cs result =
    MatchResult result
    (λ w. IsTaken (list_all is_coordinate_form cs) (list_all (knows_coordinate fields) cs)
    × (w.0.0 ≡ id_in scope x)
    × (w.1 ≡ coordinates_of fields scope cs))
    (λ r. IsRefused (list_all is_coordinate_form cs) (list_all (knows_coordinate fields) cs) r)

abbrev pub IsWindowAt :
    Program → ℕ → Path → Bool → List ℕ → List Coordinate → Result (Id × Coords) ArgError → Type 0
IsWindowAt u k path after x cs result = IsWindowIn u.fields (scope_at u k path after) x cs result
