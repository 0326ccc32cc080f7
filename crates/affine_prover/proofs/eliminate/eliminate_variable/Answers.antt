use Rattle.std.proofs.Common.{◌+◌, ◌*◌, ◌++◌, map, arith, sym, ap, subst, ◌∙◌, true, false}
use Rattle.std.specs.Prelude.{IsTrue}
use Rattle.std.specs.List.{All, flat_map}
use Rattle.affine_prover.specs.RowSets.Shapes.{AreWide}
use Rattle.affine_prover.specs.RowSets.Settled.{AreSettled}
use Rattle.affine_prover.specs.RowSets.Rows.{is_lower_bound, is_upper_bound, combination}
use Rattle.affine_prover.specs.Elimination.Stage.{Rows}
use Rattle.affine_prover.proofs.Staging.{variable_eliminated-many, variable_eliminated-few, split-total, split-narrow, split-following, filter-wide, filter-passes}
use Rattle.affine_prover.proofs.OfRowSets.Settling.{free-settled}
use Rattle.affine_prover.proofs.eliminate.eliminate_variable.Goals as goal

pub combine_all-requires-clause-wide_lower : goal.combine_all-requires-clause-wide_lower
combine_all-requires-clause-wide_lower c =
    subst (AreWide c.args.n) (sym (c.deref.ensures.value ∙ c.in_ok-free.ensures.lower)) (filter-wide c.args.n (is_lower_bound c.args.v) c.args.rows.items c.requires.wide)

pub combine_all-requires-clause-wide_upper : goal.combine_all-requires-clause-wide_upper
combine_all-requires-clause-wide_upper c =
    subst (AreWide c.args.n) (sym (c.deref-2.ensures.value ∙ c.in_ok-free.ensures.upper)) (filter-wide c.args.n (is_upper_bound c.args.v) c.args.rows.items c.requires.wide)

pub combine_all-requires-clause-lower : goal.combine_all-requires-clause-lower
combine_all-requires-clause-lower c =
    subst (All (λ p. IsTrue (is_lower_bound c.args.v p))) (sym (c.deref.ensures.value ∙ c.in_ok-free.ensures.lower)) (filter-passes (is_lower_bound c.args.v) c.args.rows.items)

pub returns-then-total-gt-MOST_ROWS : goal.returns-then-total-gt-MOST_ROWS
returns-then-total-gt-MOST_ROWS c =
    let parts = c.in_ok-free.ensures in
    let three = c.in_ok-free.field-0 in
    let total = split-total c.args.v c.args.rows.items three.free.items three.lower.items three.upper.items c.len.result c.len-2.result c.len-3.result parts.free parts.lower parts.upper (omega (arith, c.len.ensures, three.free.ok.0)) (omega (arith, c.len-2.ensures, three.lower.ok.0)) (omega (arith, c.len-3.ensures, three.upper.ok.0)) in
    record { stage = variable_eliminated-many c.args.v c.args.rows.items (c.len.result + c.len-2.result * c.len-3.result) total c.if-total-gt-MOST_ROWS.true; settled = tt }

pub returns-then-branch : goal.returns-then-branch
returns-then-branch c =
    let v = c.args.v in
    let rows = c.args.rows.items in
    let parts = c.in_ok-free.ensures in
    let three = c.in_ok-free.field-0 in
    let total = split-total c.args.v c.args.rows.items three.free.items three.lower.items three.upper.items c.len.result c.len-2.result c.len-3.result parts.free parts.lower parts.upper (omega (arith, c.len.ensures, three.free.ok.0)) (omega (arith, c.len-2.ensures, three.lower.ok.0)) (omega (arith, c.len-3.ensures, three.upper.ok.0)) in
    let lower = c.deref.ensures.value ∙ parts.lower in
    let upper = c.deref-2.ensures.value ∙ parts.upper in
    let made = c.in_ok-combine_all.ensures.1 c.if-branch.true ∙ ap (λ rs. rs ++ flat_map (λ p. map (combination v p) c.deref-2.result.now) c.deref.result.now) c.new-next.ensures.items in
    record {
      stage = ap Rows (ap (λ rs. three.free.items ++ rs) made ∙ split-following v rows three.free.items c.deref.result.now c.deref-2.result.now parts.free lower upper) ∙ variable_eliminated-few v rows (c.len.result + c.len-2.result * c.len-3.result) total c.if-total-gt-MOST_ROWS.false true (sym c.if-branch.true ∙ c.in_ok-combine_all.ensures.0 ∙ split-narrow v rows c.deref.result.now c.deref-2.result.now lower upper);
      settled = subst AreSettled (sym parts.free) (free-settled c.args.n v rows c.requires.wide c.requires.settled);
    }

pub returns-else-branch : goal.returns-else-branch
returns-else-branch c =
    let v = c.args.v in
    let rows = c.args.rows.items in
    let parts = c.in_ok-free.ensures in
    let three = c.in_ok-free.field-0 in
    let total = split-total c.args.v c.args.rows.items three.free.items three.lower.items three.upper.items c.len.result c.len-2.result c.len-3.result parts.free parts.lower parts.upper (omega (arith, c.len.ensures, three.free.ok.0)) (omega (arith, c.len-2.ensures, three.lower.ok.0)) (omega (arith, c.len-3.ensures, three.upper.ok.0)) in
    let lower = c.deref.ensures.value ∙ parts.lower in
    let upper = c.deref-2.ensures.value ∙ parts.upper in
    record { stage = variable_eliminated-few v rows (c.len.result + c.len-2.result * c.len-3.result) total c.if-total-gt-MOST_ROWS.false false (sym c.if-branch.false ∙ c.in_ok-combine_all.ensures.0 ∙ split-narrow v rows c.deref.result.now c.deref-2.result.now lower upper); settled = tt }
