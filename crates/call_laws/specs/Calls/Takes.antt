-- Arguments that may stand for the parameters of a callee with fresh ids.
use Rattle.std.specs.Prelude.{◌≡◌, ℕ, nat_lt, Bool, true, ◌&&◌, List, [], ◌∷◌, Some, slice_get}
use Rattle.std.specs.List.{list_all}
use Rattle.exo_tree.specs.Tree.{Argument, ControlArg, ConditionArg, Whole, Window, Procedure}
use Rattle.exo_meaning.specs.Units.{bound_ids}
use Rattle.inplace_laws.specs.Inline.{TakesAll, is_param}
use Rattle.inplace_laws.specs.Steady.{is_steady}
use Rattle.inplace_laws.specs.SteadyFlags.{is_steady_condition}
use Rattle.match_laws.specs.Inline.InlineRule.{Called, called_in, are_plain_arguments}
use Rattle.match_laws.specs.Inline.InlineRule.{with_fresh_ids}
use Rattle.step_rules.specs.Rule.{Spot}
use Rattle.step_rules.specs.Lawful.{IsSpot, old}

-- no control argument reads a field
abbrev pub is_steady_argument : Argument → Bool
is_steady_argument (ControlArg e) = is_steady e
is_steady_argument (ConditionArg c) = is_steady_condition c
is_steady_argument (Whole x) = true
is_steady_argument (Window x coords) = true

abbrev pub are_steady : List Argument → Bool
are_steady [] = true
are_steady (a ∷ rest) = is_steady_argument a && are_steady rest

-- the field `takes` of `IsInlinable`
abbrev pub CallsTake : Type 0
CallsTake =
    (s : Spot) (base : ℕ) (c : Called) (q : Procedure)
    → let fresh = with_fresh_ids base q in
    IsSpot s
    → list_all (λ x. nat_lt x base) (bound_ids s.target.proc) ≡ true
    → called_in (old s) ≡ Some c
    → slice_get s.target.unit.procedures c.callee ≡ Some q
    → are_plain_arguments c.args ≡ true
    → TakesAll (is_param fresh) fresh.params c.args fresh.body
