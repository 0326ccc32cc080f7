use Rattle.std.proofs.Common.{ap, sym, ◌∙◌, subst, map, ◌≡◌}
use Rattle.std.specs.Prelude.{IfOk}
use Rattle.std.proofs.lemmas.List.Elements.{All-from_recursion}
use Rattle.std.proofs.lemmas.Result.{IfOk-weaker}
use Rattle.affine_prover.specs.declared.answer.Verdict.TheVariants.{Shown, Open}
use Rattle.affine_forms.specs.Affine.{HasNoIntegerPoint, HasRationalPoint}
use Rattle.affine_forms.specs.System.{plain_row, plain_system}
use Rattle.affine_prover.specs.RowSets.Shapes.{AreWide}
use Rattle.affine_prover.specs.Elimination.{verdict_on, elimination}
use Rattle.affine_prover.proofs.OfRowSets.Widths.{IsWide}
use Rattle.affine_prover.proofs.OfRowSets.Spreading.{plain_rows-wide}
use Rattle.affine_prover.proofs.Meeting.{shown_has_no_point as shown-law}
use Rattle.affine_prover.proofs.OpenEquations.{open_has_a_point as open-law}
use Rattle.affine_prover.proofs.decide.verdict.Goals as goal

pub solve-requires-clause-wide_equations : goal.solve-requires-clause-wide_equations
solve-requires-clause-wide_equations c =
    let n = c.args.s.now.vars in
    let plain : c.in_ok-equations.equations.items ≡ map (plain_row n) c.args.s.now.equations.items = c.in_ok-equations.ensures ∙ ap (map (plain_row n)) c.deref.ensures.value in
    subst (AreWide n) (sym plain) (All-from_recursion (IsWide n) (map (plain_row n) c.args.s.now.equations.items) (plain_rows-wide n c.args.s.now.equations.items))

pub solve-requires-clause-wide_rows : goal.solve-requires-clause-wide_rows
solve-requires-clause-wide_rows c =
    let n = c.args.s.now.vars in
    let plain : c.in_ok-rows.rows.items ≡ map (plain_row n) c.args.s.now.rows.items = c.in_ok-rows.ensures ∙ ap (map (plain_row n)) c.deref-2.ensures.value in
    subst (AreWide n) (sym plain) (All-from_recursion (IsWide n) (map (plain_row n) c.args.s.now.rows.items) (plain_rows-wide n c.args.s.now.rows.items))

pub returns : goal.returns
returns c =
    let s = plain_system c.args.s.now in
    let n = c.args.s.now.vars in
    let of_equations = plain_rows-wide n c.args.s.now.equations.items in
    let of_rows = plain_rows-wide n c.args.s.now.rows.items in
    let equations : c.in_ok-equations.equations.items ≡ map (plain_row n) c.args.s.now.equations.items = c.in_ok-equations.ensures ∙ ap (map (plain_row n)) c.deref.ensures.value in
    let rows : c.in_ok-rows.rows.items ≡ map (plain_row n) c.args.s.now.rows.items = c.in_ok-rows.ensures ∙ ap (map (plain_row n)) c.deref-2.ensures.value in
    let exact : IfOk c.solve.result (λ v. v ≡ elimination s) =
    subst (λ x. IfOk c.solve.result (λ v. v ≡ x)) (ap (λ es. verdict_on n es c.in_ok-rows.rows.items) equations
    ∙ ap (verdict_on n (map (plain_row n) c.args.s.now.equations.items)) rows) c.solve.ensures in
    record {
      exact = exact;
      shown_has_no_point = IfOk-weaker c.solve.result (λ v. v ≡ elimination s) (λ v. v ≡ Shown → HasNoIntegerPoint s)
          (λ v is e. shown-law s of_equations of_rows (sym is ∙ e)) exact;
      open_has_a_point = IfOk-weaker c.solve.result (λ v. v ≡ elimination s) (λ v. v ≡ Open → HasRationalPoint s)
          (λ v is e. open-law s of_equations of_rows (sym is ∙ e)) exact;
    }
