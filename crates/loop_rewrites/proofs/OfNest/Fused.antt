-- What the rule that makes one loop of two tells at a place.
use Rattle.std.proofs.Common.{◌≡◌, Option, Some, None, Result, Ok, Err, refl, sym, subst}
use Rattle.std.specs.Result.{IsErrAnd}
use Rattle.exo_tree.specs.Tree.{Block}
use Rattle.exo_tree.specs.Places.{Opened}
use Rattle.cursor_forward.specs.PlainProposal.{cause_of}
use Rattle.cursor_forward.specs.declared.proposal.StepError.{StepError}
use Rattle.step_rules.specs.Rule.{Tried}
use Rattle.step_rules.specs.Answer.{then_try, opened_or_wrong}
use Rattle.step_driver.specs.Outcomes.{Tries, RefusedBy}
use Rattle.step_driver.specs.Spots.{or_nothing}
use Rattle.loop_laws.specs.Nest.Fuse.{Two, fusing}
use Rattle.loop_rewrites.proofs.Unrolled.{then_refused}

module _ {T : Type 0} (x : Option Opened) (k : Two → Tried T) where
  abbrev pub at_place : Tried T
  at_place = then_try (opened_or_wrong x) (λ (o : Opened). then_try (fusing o.piece) k)

  fused_at : at_place ≡ then_try (fusing (or_nothing x).piece) k
  fused_at = by x
    where
      by : (y : Option Opened)
          → then_try (opened_or_wrong y) (λ (o : Opened). then_try (fusing o.piece) k)
          ≡ then_try (fusing (or_nothing y).piece) k
      by None = refl
      by (Some o) = refl

  -- it is refused where what stands there is
  pub refused_at : {X : Type 0} (plain : X → T) (b : Block) (result : Result X StepError)
      (e : StepError)
      → IsErrAnd result (λ r. r ≡ e)
      → b ≡ (or_nothing x).piece
      → RefusedBy (fusing b) (cause_of e)
      → Tries plain at_place result
  refused_at plain b (Ok y) e away is h = absurd away
  refused_at plain b (Err y) e away is h =
      subst (λ (r : StepError). RefusedBy at_place (cause_of r)) (sym away)
      (subst (λ (t : Tried T). RefusedBy t (cause_of e)) (sym fused_at)
      (then_refused (fusing (or_nothing x).piece) k (cause_of e)
      (subst (λ (c : Block). RefusedBy (fusing c) (cause_of e)) is h)))
