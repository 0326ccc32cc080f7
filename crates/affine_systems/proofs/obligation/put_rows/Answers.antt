use Rattle.std.proofs.Common.{rules, FitsSigned, ◌∙◌, ◌+◌, ◌++◌, map, drop, length, refl, sym, ap, ap₂}
use Rattle.std.proofs.lemmas.Int.{to_z-of_z}
use Rattle.std.specs.Int.{w128}
use Rattle.affine_forms.specs.Bounds.{are_below}
use Rattle.affine_forms.specs.PlainAtoms.{plain_atom}
use Rattle.affine_forms.specs.System.{plain_row}
use Rattle.affine_systems.specs.Systems.{affine, equations_of, rows_of}
use Rattle.affine_systems.specs.PlainMade.{plain_stated}
use Rattle.affine_systems.proofs.RowLists.{all_put}
use Rattle.affine_systems.proofs.RowLists.{left_of, equations_first, equations_past, rows_first, rows_past, one_put, below_put}
use Rattle.affine_systems.proofs.obligation.put_rows.Goals as goal
use Rattle.affine_systems.proofs.obligation.put_rows.Goals.{then-is_equation+in_ok-push, else-is_equation+in_ok-push-2}

pub loop-c-preserved : goal.loop-c-preserved
loop-c-preserved c =
    let n = length c.args.atoms.now in
    let atoms = map plain_atom c.args.atoms.now in
    let k = plain_stated c.c-item.result in
    let ks = map plain_stated (drop (c.loop-c.c-index + 1) c.args.cs.now) in
    let left = left_of c.args.cs.now c.loop-c.c-index c.c-item.result c.loop-c-test.true c.c-item.is in
    let fits : FitsSigned w128 c.constant.result = search rules in
    let value = c.in_ok-r.ensures.value ∙ ap (λ z. affine atoms (record { constant = z; terms = c.terms.result.now })) (to_z-of_z w128 c.constant.result fits) ∙ ap₂ (λ z ts. affine atoms (record { constant = z; terms = ts })) c.constant.ensures.value c.terms.ensures.value in
    elim c.if-is_equation.branch [
      | then-is_equation+in_ok-push w ↦
          let yes = sym c.is_equation.ensures ∙ w.if-is_equation.true in
          let put = ap (λ v. v.items) w.equations-is ∙ w.in_ok-push.ensures.items in
          record {
            equations = ap (λ rs. map (plain_row n) rs ++ equations_of atoms ks) put ∙ one_put n c.loop-c.equations.items c.in_ok-r.r _ _ _ _ value (ap (equations_of atoms) left ∙ equations_first atoms k ks yes) c.loop-c.invariant.equations;
            rows = ap (λ v. map (plain_row n) v.items ++ rows_of atoms ks) w.rows-is ∙ ap (λ xs. map (plain_row n) c.loop-c.rows.items ++ xs) (sym (ap (rows_of atoms) left ∙ rows_past atoms k ks yes)) ∙ c.loop-c.invariant.rows;
            equations_below = ap (λ rs. are_below n (map (λ r. map (λ t. t.variable) r.terms.items) rs)) put ∙ below_put n c.loop-c.equations.items c.in_ok-r.r c.loop-c.invariant.equations_below c.in_ok-r.ensures.below;
            rows_below = ap (λ v. are_below n (map (λ r. map (λ t. t.variable) r.terms.items) v.items)) w.rows-is ∙ c.loop-c.invariant.rows_below;
          }
      | else-is_equation+in_ok-push-2 w ↦
          let no = sym c.is_equation.ensures ∙ w.if-is_equation.false in
          let put = ap (λ v. v.items) w.rows-is ∙ w.in_ok-push-2.ensures.items in
          record {
            equations = ap (λ v. map (plain_row n) v.items ++ equations_of atoms ks) w.equations-is ∙ ap (λ xs. map (plain_row n) c.loop-c.equations.items ++ xs) (sym (ap (equations_of atoms) left ∙ equations_past atoms k ks no)) ∙ c.loop-c.invariant.equations;
            rows = ap (λ rs. map (plain_row n) rs ++ rows_of atoms ks) put ∙ one_put n c.loop-c.rows.items c.in_ok-r.r _ _ _ _ value (ap (rows_of atoms) left ∙ rows_first atoms k ks no) c.loop-c.invariant.rows;
            equations_below = ap (λ v. are_below n (map (λ r. map (λ t. t.variable) r.terms.items) v.items)) w.equations-is ∙ c.loop-c.invariant.equations_below;
            rows_below = ap (λ rs. are_below n (map (λ r. map (λ t. t.variable) r.terms.items) rs)) put ∙ below_put n c.loop-c.rows.items c.in_ok-r.r c.loop-c.invariant.rows_below c.in_ok-r.ensures.below;
          }
    ]

pub returns-clause-equations : goal.returns-clause-equations
returns-clause-equations c = all_put (equations_of (map plain_atom c.args.atoms.now)) c.loop-c.c-index c.args.cs.now
    (map (plain_row (length c.args.atoms.now)) c.loop-c.equations.items) c.loop-c-test.false refl
    c.loop-c.invariant.equations

pub returns-clause-rows : goal.returns-clause-rows
returns-clause-rows c = all_put (rows_of (map plain_atom c.args.atoms.now)) c.loop-c.c-index c.args.cs.now
    (map (plain_row (length c.args.atoms.now)) c.loop-c.rows.items) c.loop-c-test.false refl c.loop-c.invariant.rows
