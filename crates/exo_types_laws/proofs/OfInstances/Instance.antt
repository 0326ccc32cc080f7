-- What stands of the closed texts.
use Rattle.std.proofs.Common.{◌≡◌, ◌≤◌, ℕ, List, [], ◌∷◌, codes, length, Some, refl, arith}
use Rattle.text_phrases.specs.Limits.{Limits}
use Rattle.text_phrases.proofs.Phrases.{keeps_all}
use Rattle.text_lexer.specs.declared.token.Literal.TheVariants.{Value}
use Rattle.text_expressions.specs.Values.{name}
use Rattle.text_expressions.specs.Expression.{number, control, datum}
use Rattle.rules_names.specs.ExpressionRules.{width}
use Rattle.exo_reader.specs.Parts.{dims, parameter}
use Rattle.exo_reader.specs.Items.{unit}
use Rattle.exo_reader.specs.Instance.{TextInstance}
use Rattle.exo_types.specs.UnitRules.{unit_fault}
use Rattle.exo_types_laws.specs.Laws.{TypedUnitsAreFormed, ReadUnitsAreFormed, TypedUnitsAreLow, TypedUnitsHaveDram}
use Rattle.exo_types_laws.specs.Instances.Instance.{cells, writing, items, stray, no_such_name, TypesInstance}

name_fits : (limits : Limits) (x : List ℕ) → length x ≤ 63 → name.Fits limits x
name_fits limits x few = keeps_all limits tt few tt

control_fits : (limits : Limits) (n : ℕ) → control.Fits limits (number (Value n))
control_fits limits n = (tt, keeps_all limits (omega arith) (omega arith, tt) tt)

datum_fits : (limits : Limits) (n : ℕ) → datum.Fits limits (number (Value n))
datum_fits limits n = (tt, keeps_all limits (omega arith) (omega arith, tt) tt)

dims_fit : (limits : Limits) (n : ℕ) → dims.Fits limits (number (Value n) ∷ [])
dims_fit limits n = (control_fits limits n, tt, keeps_all limits tt (omega arith) tt)

cells_fit : (limits : Limits) → parameter.Fits limits cells
cells_fit limits = (name_fits limits (codes "x") (omega arith), (name_fits limits (codes "i32") (omega arith), dims_fit limits 4), tt)

fits : (n : ℕ) (limits : Limits) → unit.Fits limits (writing (n ∷ []))
fits n limits = (
  (
    name_fits limits (codes "f") (omega arith),
    (cells_fit limits, (tt, keeps_all limits tt (omega arith) tt)),
    tt,
    ((((name_fits limits (n ∷ []) (omega arith), dims_fit limits 0, datum_fits limits 1), tt), tt), tt),
  ),
  tt,
)

short : length (unit.spell items) ≤ 0x100000
short = omega arith

breaks : unit_fault stray ≡ Some no_such_name
unfolding width
breaks = refl

pub instance : TextInstance → TypedUnitsAreFormed → ReadUnitsAreFormed → TypedUnitsAreLow → TypedUnitsHaveDram → TypesInstance
instance texts formed read low dram = record {
  spelled = refl;
  fits = fits 0x78;
  short = short;
  small = refl;
  keeps = refl;
  formed = formed items (fits 0x78) short refl refl;
  low = low items short;
  dram = dram items;
  none_read = texts.no_items;
  none_few = omega arith;
  none_keeps = refl;
  none_formed = read [] [] texts.no_items (omega arith) refl;
  stray_spelled = refl;
  stray_fits = fits 0x79;
  breaks = breaks;
}
