-- Which argument of a call a field stands for, and the call with the field.
use Rattle.std.specs.Prelude.{ℕ, zero, suc, Bool, false, not, if◌then◌else◌, List, []}
use Rattle.std.specs.Prelude.{◌∷◌, Option, Some, None, option_map, option_and_then, slice_get}
use Rattle.std.specs.Str.{bytes_eq}
use Rattle.exo_tree.specs.Tree.{Field, FieldFlag, Argument, ControlArg, ConditionArg, Whole, Window}
use Rattle.exo_tree.specs.Tree.{Param}
use Rattle.config_laws.specs.BindConfig.{reads_any, asks_any, Bound}
use Rattle.exo_meaning.specs.Units.{is_control_param}

-- a control argument that reads no field
abbrev pub is_bindable : Argument → Bool
is_bindable (ControlArg a) = not (reads_any a)
is_bindable (ConditionArg c) = not (asks_any c)
is_bindable (Whole x) = false
is_bindable (Window x coords) = false

-- the field as an argument in the place of this one
abbrev pub field_for : ℕ → Argument → Argument
field_for f (ConditionArg c) = ConditionArg (FieldFlag f)
field_for f a = ControlArg (Field f)

abbrev pub field_or : ℕ → Bool → Argument → Argument
field_or f is_it a = if is_it then field_for f a else a

-- the number of the first parameter of that name
abbrev pub named_in : List ℕ → List Param → Option ℕ
named_in x [] = None
named_in x (p ∷ ps) = if bytes_eq p.binder.name x then Some zero else option_map suc (named_in x ps)

-- the arguments with the field for one of them
abbrev pub with_field : ℕ → ℕ → List Argument → List Argument
with_field f k [] = []
with_field f zero (a ∷ args) = field_for f a ∷ args
with_field f (suc k) (a ∷ args) = a ∷ with_field f k args

abbrev pub bound_for : ℕ → ℕ → List Argument → Argument → Option Bound
bound_for f k args a =
    if is_bindable a then Some (record { value = a; args = with_field f k args }) else None

-- the parameter of that number is a control one
abbrev pub control_at : List Param → ℕ → Bool
control_at ps k = elim (slice_get ps k) [ None ↦ false | Some p ↦ is_control_param p.kind ]

abbrev pub bound_of : ℕ → List ℕ → List Param → List Argument → Option Bound
bound_of f x params args =
    option_and_then (λ k.
    if control_at params k then option_and_then (bound_for f k args) (slice_get args k) else None)
    (named_in x params)
