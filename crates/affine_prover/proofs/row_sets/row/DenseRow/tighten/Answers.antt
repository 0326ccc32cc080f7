use Rattle.std.proofs.Common.{arith, rules, ap, sym, ◌∙◌, ◌≡◌, ◌^◌, length, map, pos, take, drop, ◌++◌}
use Rattle.std.proofs.lemmas.Int.{ints, to_z-of_z, to_z_pos}
use Rattle.std.proofs.lemmas.List.{with_items_is}
use Rattle.std.specs.Int.{w128, int_div_euclid}
use Rattle.std.specs.Int.RustNames.{FitsSigned}
use Rattle.std.proofs.Common.{to_z, of_z, subst}
use Rattle.std.proofs.lemmas.Int.{fits_signed_from_abs}
use Rattle.affine_forms.specs.Affine.{Affine}
use Rattle.affine_prover.specs.RowSets.Shapes.{IsNarrow, AreNarrow}
use Rattle.affine_prover.specs.RowSets.Rows.{gcd_of, tightened}
use Rattle.affine_prover.proofs.OfRowSets.RowFacts.{gcd_of-narrow, quotient-narrow}
use Rattle.affine_prover.proofs.OfRowSets.RowFacts.{quotients-narrow, tightened-above}
use Rattle.affine_prover.proofs.OfRowSets.RowFacts.{tightened-same, affine_same}
use Rattle.affine_prover.proofs.row_sets.row.DenseRow.tighten.Goals as goal

pub overflow_cast-g : goal.overflow_cast-g
overflow_cast-g c =
    let small = gcd_of-narrow c.self.inside.coefficients.items c.self.invariant.1 in
    let is : c.gcd_of-g.result ≡ gcd_of c.self.inside.coefficients.items = c.gcd_of-g.ensures ∙ ap gcd_of c.deref.ensures.value in
    omega (arith, ints)

pub divide_all-requires : goal.divide_all-requires
divide_all-requires c =
    let small = gcd_of-narrow c.self.inside.coefficients.items c.self.invariant.1 in
    let is : c.gcd_of-g.result ≡ gcd_of c.self.inside.coefficients.items = c.gcd_of-g.ensures ∙ ap gcd_of c.deref.ensures.value in
    omega (arith, ints)

-- what the two divisions leave
divided : (c : goal.After-self-then-g-gt1-1) → (c.gcd_of-g.result ≡ gcd_of c.self.inside.coefficients.items) × (to_z w128 (of_z w128 c.div_euclid-self-inside.result) ≡ int_div_euclid c.self.inside.constant (pos c.gcd_of-g.result)) × (take c.self.inside.coefficients.len (c.divide_all.new.cs ++ drop (length c.divide_all.new.cs) c.self.inside.coefficients.items) ≡ map (λ x. int_div_euclid x (pos c.gcd_of-g.result)) c.self.inside.coefficients.items)
divided c =
    let small = gcd_of-narrow c.self.inside.coefficients.items c.self.invariant.1 in
    let is : c.gcd_of-g.result ≡ gcd_of c.self.inside.coefficients.items = c.gcd_of-g.ensures ∙ ap gcd_of c.deref.ensures.value in
    let cast = to_z_pos w128 c.gcd_of-g.result (omega arith) in
    let given : c.divide_all.new.cs ≡ map (λ x. int_div_euclid x (to_z w128 c.gcd_of-g.result)) c.deref_mut.result.now = c.divide_all.ensures in
    let all : c.divide_all.new.cs ≡ map (λ x. int_div_euclid x (pos c.gcd_of-g.result)) c.self.inside.coefficients.items = given ∙ ap (λ z. map (λ x. int_div_euclid x z) c.deref_mut.result.now) cast ∙ ap (λ zs. map (λ x. int_div_euclid x (pos c.gcd_of-g.result)) zs) c.deref_mut.ensures.value in
    let kept = c.divide_all.auto.cs in
    let items : take c.self.inside.coefficients.len (c.divide_all.new.cs ++ drop (length c.divide_all.new.cs) c.self.inside.coefficients.items) ≡ c.divide_all.new.cs = with_items_is c.self.inside.coefficients c.divide_all.new.cs (omega arith) in
    let fk : FitsSigned w128 c.self.inside.constant = fits_signed_from_abs w128 c.self.inside.constant (omega (arith, c.self.invariant.0)) in
    let fq : FitsSigned w128 c.div_euclid-self-inside.result = search rules in
    (is, to_z-of_z w128 c.div_euclid-self-inside.result fq ∙ c.div_euclid-self-inside.ensures ∙ ap (λ z. int_div_euclid z (to_z w128 c.gcd_of-g.result)) (to_z-of_z w128 c.self.inside.constant fk) ∙ ap (λ z. int_div_euclid c.self.inside.constant z) cast, items ∙ all)

pub invariant_of-self : goal.invariant_of-self
invariant_of-self c =
    let facts = divided c in (
      subst IsNarrow (sym facts.1) (quotient-narrow (2 ^ 100) c.self.inside.constant c.gcd_of-g.result c.if-g-gt1.true c.self.invariant.0),
      subst AreNarrow (sym facts.2) (quotients-narrow c.self.inside.coefficients.items c.gcd_of-g.result c.if-g-gt1.true c.self.invariant.1),
    )

pub returns-then-g-gt1 : goal.returns-then-g-gt1
returns-then-g-gt1 c =
    let facts = divided c in
    let tight = tightened-above (record { constant = c.self.inside.constant; coefficients = c.self.inside.coefficients.items }) c.gcd_of-g.result facts.0 c.if-g-gt1.true in
    affine_same facts.1 facts.2 ∙ sym tight ∙ ap tightened c.self.view_is

pub returns-else-g-gt1 : goal.returns-else-g-gt1
returns-else-g-gt1 c =
    let is : c.gcd_of-g.result ≡ gcd_of c.self.inside.coefficients.items = c.gcd_of-g.ensures ∙ ap gcd_of c.deref.ensures.value in
    let same = tightened-same c.args.self.now c.gcd_of-g.result (is ∙ ap (λ (r : Affine). gcd_of r.coefficients) c.self.view_is) (omega arith) in
    same
