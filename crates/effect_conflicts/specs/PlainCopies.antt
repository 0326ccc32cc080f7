-- The plain forms of the program's copies, and what the calls on them answer.
use Rattle.std.specs.Prelude.{◌≡◌, ◌^◌, ℕ, nat_lt, Bool, true, ◌&&◌, List, ◌++◌, map}
use Rattle.std.specs.Prelude.{Result, Ok, Err, Vec}
use Rattle.std.specs.List.{list_all}
use Rattle.exo_tree.specs.PlainControl.{control}
use Rattle.meaning_laws.specs.Facts.{Fact}
use Rattle.affine_forms.specs.Formulas.{Formula}
use Rattle.affine_forms.specs.Outcomes.{IsWide}
use Rattle.affine_forms.specs.declared.error.FormError.{FormError}
use Rattle.exo_effects.specs.Accesses.{plain_form, plain_fits, guard_of, guard_fits}
use Rattle.exo_effects.specs.Accesses as plain
use Rattle.exo_effects.specs.Conflicts.{apart, variables_of}
use Rattle.exo_effects.specs.Low.{is_low, fact_is_low}
use Rattle.exo_effects.specs.Orders as orders
use Rattle.exo_effects.specs.PlainAccess.{plain_coord}
use Rattle.exo_effects.specs.PlainGuards.{facts_of}
use Rattle.exo_effects.specs.PlainUses.{all_variables}
use Rattle.exo_effects.specs.Renamed.{re_formula}
use Rattle.exo_effects.specs.declared.access.AccessCoord.{AccessCoord}
use Rattle.exo_effects.specs.declared.guards.Guard.{Guard}
use Rattle.effect_conflicts.specs.declared.twin.Turn.{Turn}
use Rattle.effect_conflicts.specs.declared.twin.Twin.{Twin}
use Rattle.effect_conflicts.specs.declared.copies.CopiedTurn.{CopiedTurn}
use Rattle.effect_conflicts.specs.declared.order.OrderRow.{OrderRow}
use Rattle.effect_conflicts.specs.declared.order.OrderRow.TheVariants as row
use Rattle.effect_conflicts.specs.declared.order.Order.{Order}

-- ---- loops

abbrev pub plain_turn : Turn → orders.Turn
plain_turn t = record {
  variable = t.variable.0;
  lower = plain_form (control t.lower.now);
  upper = plain_form (control t.upper.now);
}

-- the normal forms of its bounds can be written down
abbrev pub turn_fits : Turn → Bool
turn_fits t = plain_fits (control t.lower.now) && plain_fits (control t.upper.now)

-- its variables are below 2^31
abbrev pub turn_is_low : Turn → Bool
turn_is_low t =
    nat_lt t.variable.0 (2 ^ 31)
    && (is_low (control t.lower.now) && is_low (control t.upper.now))

abbrev pub plain_row : OrderRow → orders.OrderRow
plain_row (row.Less k) = orders.Less k
plain_row (row.Greater k) = orders.Greater k

-- the normal forms of the loops can be written down
abbrev pub order_fits : Order → Bool
order_fits o = list_all turn_fits o.first.now && list_all turn_fits o.second.now

abbrev pub plain_order : Order → orders.Order
plain_order o = record {
  first = map plain_turn o.first.now;
  second = map plain_turn o.second.now;
  rows = map plain_row o.rows.now;
  fits = order_fits o;
}

-- what it says is affine, over variables below 2^31
abbrev pub guard_is_low : Guard → Bool
guard_is_low g = list_all fact_is_low (facts_of g)

-- ---- copies

-- the variable that stands for another one in a copy
abbrev pub renamed : Twin → ℕ → ℕ
renamed c =
    apart (2 ^ 31) c.side (variables_of (map plain_turn c.turns.now)) (all_variables c.guards.now)

abbrev pub plain_copied : CopiedTurn → orders.Turn
plain_copied t = record { variable = t.variable.0; lower = t.lower; upper = t.upper }

-- a bound comes exactly where its numbers fit, and is that one
abbrev pub TurnMade : Result CopiedTurn FormError → Bool → orders.Turn → Type 0
TurnMade (Ok t) fits u = (fits ≡ true) × (plain_copied t ≡ u)
TurnMade (Err e) fits u = IsWide e fits

abbrev pub TurnsMade :
    {A : Type 0} → Result (Vec CopiedTurn A) FormError → Bool → List orders.Turn → Type 0
TurnsMade (Ok ts) fits us = (fits ≡ true) × (map plain_copied ts.items ≡ us)
TurnsMade (Err e) fits us = IsWide e fits

abbrev pub CoordsMade :
    {A : Type 0}
    → Result (Vec AccessCoord A) FormError → Bool → List plain.AccessCoord → Type 0
CoordsMade (Ok cs) fits ds = (fits ≡ true) × (map plain_coord cs.items ≡ ds)
CoordsMade (Err e) fits ds = IsWide e fits

-- what facts say in a copy comes behind the others, exactly where all their normal forms can be
-- written down
abbrev pub Said :
    {A : Type 0}
    → Result A FormError → (ℕ → ℕ) → List Fact → List Formula → List Formula → Type 0
Said (Ok t) r facts old new =
    (list_all guard_fits facts ≡ true) × (new ≡ old ++ map (re_formula r) (map guard_of facts))
Said (Err e) r facts old new = IsWide e (list_all guard_fits facts)
