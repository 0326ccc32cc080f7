-- What the walk makes of a block is what the rule drafts.
use Rattle.std.proofs.Common.{◌≡◌, Bool, true, false, if◌then◌else◌, List, sym, ap, ◌∙◌, subst}
use Rattle.std.specs.Prelude.{option_map, Result}
use Rattle.exo_tree.specs.Tree.{ConfigField, Block, Procedure}
use Rattle.affine_forms.specs.Forms.{Reading}
use Rattle.affine_forms.specs.Outcomes.{IsWide}
use Rattle.affine_forms.specs.declared.error.FormError.{FormError}
use Rattle.affine_forms.specs.declared.error.FormError.TheVariants.{TooManyCases, SystemTooLarge, WideNumber, TooManySystems, Memory}
use Rattle.match_laws.specs.Simplify.SameControls.{in_block}
use Rattle.match_laws.specs.Widths.{is_short}
use Rattle.tree_uses.specs.Uses.{used, used_fits}
use Rattle.tree_uses.specs.Simple.Changing.{simplifying}
use Rattle.tree_uses.proofs.OfSimple.Changed.{changes_controls}
use Rattle.cursor_forward.specs.Causes as causes
use Rattle.cursor_forward.specs.PlainProposal.{fault_of}
use Rattle.cursor_forward.specs.declared.proposal.StepError.{StepError}
use Rattle.step_driver.specs.Needs.Outcomes.{RefusedBy, Tries}
use Rattle.step_rules.specs.Rule.{Tried, Got, Not}
use Rattle.affine_places.specs.Roots.{Roots, no_roots, roots_of, has_extents}
use Rattle.affine_places.specs.Readings.{entry_reading}
use Rattle.call_laws.specs.Simplify.{simpler, rooted}
use Rattle.call_rewrites.specs.Drafts.{simplified_if}

module _ (at : Reading) (b : Block) where
  abbrev answer : Bool → Tried Block
  answer fits = if fits then Got (in_block (simpler at) b) else Not (causes.Form causes.WideNumber)

  pub simplified_got : (c : Block) → used_fits (simplifying at) b ≡ true
      → c ≡ used (simplifying at) b
      → simplified_if at b ≡ Got c
  simplified_got c fits is =
      ap answer fits ∙ ap Got (sym (is ∙ changes_controls (simpler at) (is_short at) b))

  pub simplified_not : (e : FormError) → IsWide e (used_fits (simplifying at) b)
      → RefusedBy (simplified_if at b) (option_map causes.Form (fault_of e))
  simplified_not TooManyCases h = absurd h
  simplified_not SystemTooLarge h = absurd h
  simplified_not WideNumber h = ap answer h
  simplified_not TooManySystems h = absurd h
  simplified_not Memory h = tt

-- ---- of a copy

pub simplified_as : {X : Type 0} (plain : X → Block) (at : Reading) (b d : Block) (r : Result X StepError)
    → b ≡ d
    → Tries plain (simplified_if at b) r
    → Tries plain (simplified_if at d) r
simplified_as plain at b d r same h = subst (λ x. Tries plain (simplified_if at x) r) same h

-- ---- of the roots of a procedure

pub without_extents : (p : Procedure) → has_extents p ≡ false → rooted p ≡ no_roots
without_extents p h = ap (λ t. if t then roots_of p else no_roots) h

pub simplified_rooted : {X : Type 0} (plain : X → Block) (fields : List ConfigField) (p : Procedure)
    (r : Roots) (b : Block) (made : Result X StepError)
    → rooted p ≡ r
    → Tries plain (simplified_if (entry_reading fields r) b) made
    → Tries plain (simplified_if (entry_reading fields (rooted p)) b) made
simplified_rooted plain fields p r b made same h =
    subst (λ x. Tries plain (simplified_if (entry_reading fields x) b) made) (sym same) h
