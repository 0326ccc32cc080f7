use Rattle.std.proofs.Common.{◌≡◌, ◌<◌, ◌++◌, sym, ap, subst, ◌∙◌, Some, None, arith, length, suc, zero, ℕ}
use Rattle.std.specs.Prelude.{IfOk}
use Rattle.std.specs.Option.{option_map}
use Rattle.affine_prover.specs.Steps.{stage_of_step}
use Rattle.std.proofs.lemmas.Bool.Decides.{nat_tests}
use Rattle.affine_prover.specs.RowSets.Shapes.{AreWide}
use Rattle.affine_prover.specs.Elimination.{variable_eliminated}
use Rattle.affine_prover.specs.RowSets.Rows.{least_at, pairs}
use Rattle.affine_prover.specs.RowSets.Settled.{normalized_onto}
use Rattle.affine_prover.proofs.OfRowSets.Settling.{settled-normalized, normalized_onto-settled}
use Rattle.affine_prover.proofs.Staging.{stage-none, stage-empty, stage-some, kept-wide}
use Rattle.affine_prover.proofs.OfRowSets.Widths.{least_at-below}
use Rattle.affine_prover.proofs.eliminate.stage.Goals as goal

least-below : (f : ℕ → ℕ) (n : ℕ) → 0 < n → least_at f n < n
least-below f zero h = absurd (omega arith)
least-below f (suc n) h = least_at-below f n

pub returns-then-is_empty : goal.returns-then-is_empty
returns-then-is_empty c =
    let settled = c.args.settled.items in
    let all = settled ++ c.args.rows.items in
    let onto : Some c.in-Some.kept.items ≡ normalized_onto settled c.args.rows.items = sym (ap (option_map (λ v. v.items)) c.in-Some.is) ∙ c.in_ok-normalize.ensures in
    let is = onto ∙ settled-normalized settled c.args.rows.items c.requires.settled in
    record { stage = stage-empty c.args.n all c.in-Some.kept.items is (grind (arith, nat_tests, c.in-Some.kept.ok.0)); settled = tt }

pub cheapest-v-requires-clause-wide : goal.cheapest-v-requires-clause-wide
cheapest-v-requires-clause-wide c =
    let settled = c.args.settled.items in
    let onto : Some c.in-Some.kept.items ≡ normalized_onto settled c.args.rows.items = sym (ap (option_map (λ v. v.items)) c.in-Some.is) ∙ c.in_ok-normalize.ensures in
    let is = onto ∙ settled-normalized settled c.args.rows.items c.requires.settled in
    subst (AreWide c.args.n) (sym c.deref.ensures.value) (kept-wide c.args.n (settled ++ c.args.rows.items) c.in-Some.kept.items c.requires.wide is)

pub eliminate_variable-requires-clause-wide : goal.eliminate_variable-requires-clause-wide
eliminate_variable-requires-clause-wide c =
    let settled = c.args.settled.items in
    let onto : Some c.in-Some.kept.items ≡ normalized_onto settled c.args.rows.items = sym (ap (option_map (λ v. v.items)) c.in-Some.is) ∙ c.in_ok-normalize.ensures in
    let is = onto ∙ settled-normalized settled c.args.rows.items c.requires.settled in
    kept-wide c.args.n (settled ++ c.args.rows.items) c.in-Some.kept.items c.requires.wide is

pub eliminate_variable-requires-clause-below : goal.eliminate_variable-requires-clause-below
eliminate_variable-requires-clause-below c = omega (arith, c.cheapest-v.ensures, least-below (pairs c.deref.result.now) c.args.n c.requires.some)

pub eliminate_variable-requires-clause-settled : goal.eliminate_variable-requires-clause-settled
eliminate_variable-requires-clause-settled c =
    normalized_onto-settled c.args.settled.items c.args.rows.items c.in-Some.kept.items c.requires.settled (sym (ap (option_map (λ v. v.items)) c.in-Some.is) ∙ c.in_ok-normalize.ensures)

pub returns-in-None : goal.returns-in-None
returns-in-None c =
    let settled = c.args.settled.items in
    let onto : None ≡ normalized_onto settled c.args.rows.items = sym (ap (option_map (λ v. v.items)) c.in-None.is) ∙ c.in_ok-normalize.ensures in
    let is = onto ∙ settled-normalized settled c.args.rows.items c.requires.settled in
    record { stage = stage-none c.args.n (settled ++ c.args.rows.items) is; settled = tt }

pub returns-else-is_empty : goal.returns-else-is_empty
returns-else-is_empty c =
    let settled = c.args.settled.items in
    let kept = c.in-Some.kept.items in
    let onto : Some kept ≡ normalized_onto settled c.args.rows.items = sym (ap (option_map (λ v. v.items)) c.in-Some.is) ∙ c.in_ok-normalize.ensures in
    let is = onto ∙ settled-normalized settled c.args.rows.items c.requires.settled in
    let some : 0 < length kept = grind (arith, nat_tests, c.in-Some.kept.ok.0) in
    let v : c.cheapest-v.result ≡ least_at (pairs kept) c.args.n = c.cheapest-v.ensures ∙ ap (λ rs. least_at (pairs rs) c.args.n) c.deref.ensures.value in
    record {
      stage = subst (λ x. IfOk c.eliminate_variable.result (λ s. stage_of_step s ≡ x))
          (ap (λ n. variable_eliminated n kept) v ∙ stage-some c.args.n (settled ++ c.args.rows.items) kept is some)
          c.eliminate_variable.ensures.stage;
      settled = c.eliminate_variable.ensures.settled;
    }
