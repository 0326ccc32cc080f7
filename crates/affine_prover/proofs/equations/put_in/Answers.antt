use Rattle.std.proofs.Common.{ℕ, ◌≡◌, List, length, arith, ap, sym, ◌∙◌}
use Rattle.std.proofs.lemmas.List.Elements.{All-same, All-from_recursion, recursion_from_All}
use Rattle.std.specs.Option.{option_map}
use Rattle.std.specs.List.{remove}
use Rattle.affine_forms.specs.Affine.{Affine}
use Rattle.affine_prover.specs.RowSets.Shapes.{AreWide}
use Rattle.affine_prover.specs.RowSets.Rows.{has_unit, is_unit, coefficient}
use Rattle.affine_prover.proofs.Rounds.{found, solved-both, wide-others, wide-rows}
use Rattle.affine_prover.proofs.Meeting.{unit_place-is, everywhere-remove}
use Rattle.affine_prover.proofs.OfRowSets.Widths.{IsWide}
use Rattle.affine_prover.proofs.equations.put_in.Goals as goal

pub substitute-requires-clause-below : goal.substitute-requires-clause-below
substitute-requires-clause-below c =
    let at = found has_unit c.args.equations.items c.args.i c.remove-e.result c.requires.first c.remove-e.ensures.value in
    omega (arith, (unit_place-is c.remove-e.result.coefficients at.3).0, c.unit_place-v.ensures)

pub substitute-requires-clause-unit : goal.substitute-requires-clause-unit
substitute-requires-clause-unit c =
    let at = found has_unit c.args.equations.items c.args.i c.remove-e.result c.requires.first c.remove-e.ensures.value in
    ap (λ v. is_unit (coefficient c.remove-e.result v)) c.unit_place-v.ensures ∙ (unit_place-is c.remove-e.result.coefficients at.3).1

pub substitute-requires-in-Some-clause-below : goal.substitute-requires-in-Some-clause-below
substitute-requires-in-Some-clause-below c =
    let at = found has_unit c.args.equations.items c.args.i c.remove-e.result c.requires.first c.remove-e.ensures.value in
    omega (arith, (unit_place-is c.remove-e.result.coefficients at.3).0, c.unit_place-v.ensures)

pub substitute-requires-in-Some-clause-unit : goal.substitute-requires-in-Some-clause-unit
substitute-requires-in-Some-clause-unit c =
    let at = found has_unit c.args.equations.items c.args.i c.remove-e.result c.requires.first c.remove-e.ensures.value in
    ap (λ v. is_unit (coefficient c.remove-e.result v)) c.unit_place-v.ensures ∙ (unit_place-is c.remove-e.result.coefficients at.3).1

pub returns-in-None : goal.returns-in-None
returns-in-None c =
    let at = found has_unit c.args.equations.items c.args.i c.remove-e.result c.requires.first c.remove-e.ensures.value in
    let others : c.remove-e.new.self.items ≡ remove c.args.equations.items c.args.i = c.remove-e.ensures.items in
    wide-others c.args.equations.items c.args.rows.items c.remove-e.new.self.items c.remove-e.result c.args.i c.unit_place-v.result at.0 at.1 c.unit_place-v.ensures others (sym (ap (option_map (λ v. v.items)) c.in-None.is) ∙ c.in_ok-substitute.ensures)

pub returns-in-None-2 : goal.returns-in-None-2
returns-in-None-2 c =
    let at = found has_unit c.args.equations.items c.args.i c.remove-e.result c.requires.first c.remove-e.ensures.value in
    let others : c.remove-e.new.self.items ≡ remove c.args.equations.items c.args.i = c.remove-e.ensures.items in
    wide-rows c.args.equations.items c.args.rows.items c.remove-e.new.self.items c.remove-e.result c.args.i c.unit_place-v.result at.0 at.1 c.unit_place-v.ensures others (sym (ap (option_map (λ v. v.items)) c.in-None-2.is) ∙ c.in_ok-substitute-in-Some.ensures)

pub returns : goal.returns
returns c =
    let at = found has_unit c.args.equations.items c.args.i c.remove-e.result c.requires.first c.remove-e.ensures.value in
    let others : c.remove-e.new.self.items ≡ remove c.args.equations.items c.args.i = c.remove-e.ensures.items in
    solved-both c.args.equations.items c.args.rows.items c.remove-e.new.self.items c.in-Some.es.items c.in-Some-2.rest.items c.remove-e.result c.args.i c.unit_place-v.result at.0 at.1 c.unit_place-v.ensures others (sym (ap (option_map (λ v. v.items)) c.in-Some.is) ∙ c.in_ok-substitute.ensures) (sym (ap (option_map (λ v. v.items)) c.in-Some-2.is) ∙ c.in_ok-substitute-in-Some.ensures)

others_wide : (n : ℕ) (xs ys : List Affine) (i : ℕ) → AreWide n xs → ys ≡ remove xs i → AreWide n ys
others_wide n xs ys i h e =
    All-same (IsWide n) ys (remove xs i) e (All-from_recursion (IsWide n) (remove xs i)
    (everywhere-remove (IsWide n) xs i (recursion_from_All (IsWide n) xs h)))

pub substitute-requires-clause-wide : goal.substitute-requires-clause-wide
substitute-requires-clause-wide c =
    let at = found has_unit c.args.equations.items c.args.i c.remove-e.result c.requires.first c.remove-e.ensures.value in
    let width = ap (λ (r : Affine). length r.coefficients) c.remove-e.ensures.value
    ∙ c.requires.wide_equations c.args.i c.remove-e.result at.2 in
    λ k d l. others_wide c.args.n c.args.equations.items c.remove-e.new.self.items c.args.i c.requires.wide_equations
    c.remove-e.ensures.items k d l ∙ sym width

pub substitute-requires-in-Some-clause-wide : goal.substitute-requires-in-Some-clause-wide
substitute-requires-in-Some-clause-wide c =
    let at = found has_unit c.args.equations.items c.args.i c.remove-e.result c.requires.first c.remove-e.ensures.value in
    let width = ap (λ (r : Affine). length r.coefficients) c.remove-e.ensures.value
    ∙ c.requires.wide_equations c.args.i c.remove-e.result at.2 in
    λ k d l. c.requires.wide_rows k d l ∙ sym width
