use Rattle.std.proofs.Common.{◌≡◌, ◌<◌, ◌-◌, sym, ap, subst, ◌∙◌, arith, suc, zero, ℕ, List, ◌++◌}
use Rattle.std.specs.Prelude.{IfOk}
use Rattle.std.specs.Option.{option_map}
use Rattle.affine_prover.specs.declared.answer.Verdict.{Verdict}
use Rattle.affine_forms.specs.Affine.{Affine}
use Rattle.affine_prover.specs.RowSets.Shapes.{AreWide}
use Rattle.affine_prover.specs.Elimination.{stage, verdict_on_rows}
use Rattle.affine_prover.specs.Elimination.Stage.{Ended, Rows}
use Rattle.affine_prover.specs.Steps.{stage_of_step, StepSettled}
use Rattle.affine_prover.proofs.OfRowSets.Settling.{settled-normalized}
use Rattle.affine_prover.proofs.Staging.{next-wide, verdict_on_rows-ended}
use Rattle.affine_prover.proofs.Staging.{verdict_on_rows-next, verdict_on_rows-open, verdict_on_rows-shown}
use Rattle.affine_prover.proofs.eliminate.+eliminate_behind.Goals as goal

ended : (n : ℕ) (rows : List Affine) (v : Verdict) → 0 < n → Ended v ≡ stage n rows → v ≡ verdict_on_rows n rows
ended zero rows v h e = absurd (omega arith)
ended (suc n) rows v h e = verdict_on_rows-ended n rows v e

next : (n : ℕ) (rows rest : List Affine) → 0 < n → AreWide n rows → Rows rest ≡ stage n rows →
    (verdict_on_rows (n - 1) rest ≡ verdict_on_rows n rows) × AreWide (n - 1) rest
next zero rows rest h w e = absurd (omega arith)
next (suc n) rows rest h w e =
    let one : suc n - 1 ≡ n = omega arith in (
      ap (λ k. verdict_on_rows k rest) one ∙ verdict_on_rows-next n rows rest e,
      subst (λ k. AreWide k rest) (sym one) (next-wide n rows rest w e),
    )

pub eliminate_behind-requires : goal.eliminate_behind-requires
eliminate_behind-requires t c =
    let some : 0 < c.args.n = omega arith in
    let all = c.args.settled.items ++ c.args.rows.items in
    let both = next c.args.n all (c.in-Rows.free.items ++ c.in-Rows.next.items) some c.requires.wide
    (sym (ap stage_of_step c.in-Rows.is) ∙ c.in_ok-v.ensures.stage) in
    (omega arith, (both.1, subst StepSettled c.in-Rows.is c.in_ok-v.ensures.settled))

pub returns-in-Ended : goal.returns-in-Ended
returns-in-Ended t c =
    ended c.args.n (c.args.settled.items ++ c.args.rows.items) c.in-Ended.v (omega arith)
    (sym (ap stage_of_step c.in-Ended.is) ∙ c.in_ok-v.ensures.stage)

pub returns-in-Rows : goal.returns-in-Rows
returns-in-Rows t c =
    let some : 0 < c.args.n = omega arith in
    let all = c.args.settled.items ++ c.args.rows.items in
    let both = next c.args.n all (c.in-Rows.free.items ++ c.in-Rows.next.items) some c.requires.wide
    (sym (ap stage_of_step c.in-Rows.is) ∙ c.in_ok-v.ensures.stage) in
    subst (λ x. IfOk c.eliminate_behind.result (λ v. v ≡ x)) both.0 c.eliminate_behind.ensures

pub returns-in-Some : goal.returns-in-Some
returns-in-Some t c =
    let all = c.args.settled.items ++ c.args.rows.items in
    let onto = settled-normalized c.args.settled.items c.args.rows.items c.requires.settled in
    verdict_on_rows-open all c.in-Some._kept.items (sym (ap (option_map (λ v. v.items)) c.in-Some.is) ∙ c.in_ok-_kept.ensures
    ∙ onto) ∙ ap (λ n. verdict_on_rows n all) (sym c.if-n-eq0.true)

pub returns-in-None : goal.returns-in-None
returns-in-None t c =
    let all = c.args.settled.items ++ c.args.rows.items in
    let onto = settled-normalized c.args.settled.items c.args.rows.items c.requires.settled in
    verdict_on_rows-shown all (sym (ap (option_map (λ v. v.items)) c.in-None.is) ∙ c.in_ok-_kept.ensures ∙ onto)
    ∙ ap (λ n. verdict_on_rows n all) (sym c.if-n-eq0.true)
