-- What is made is what the rule drafts.
use Rattle.std.proofs.Common.{◌≡◌, ◌+◌, ℕ, zero, suc, Bool, true, false, if◌then◌else◌, not, ◌&&◌, ◌||◌}
use Rattle.std.proofs.Common.{List, [], ◌++◌, map, length, sym, ap, ap₂, ◌∙◌, subst}
use Rattle.std.proofs.lemmas.List.{append-nil}
use Rattle.std.specs.Prelude.{option_map, Result, Ok, Err, IsErrAnd}
use Rattle.exo_tree.specs.Tree.{Cell, Control, Block}
use Rattle.affine_forms.specs.Outcomes.{IsWide}
use Rattle.affine_forms.specs.declared.error.FormError.{FormError}
use Rattle.affine_forms.specs.declared.error.FormError.TheVariants.{TooManyCases, SystemTooLarge}
use Rattle.affine_forms.specs.declared.error.FormError.TheVariants.{WideNumber, TooManySystems, Memory}
use Rattle.meaning_laws.specs.Facts.{Holds}
use Rattle.buffer_laws.specs.Simplified.{all_simpler}
use Rattle.buffer_laws.specs.Staging.Stores.{spans}
use Rattle.buffer_laws.specs.StageMem.{Staging, staged_block}
use Rattle.cursor_forward.specs.Causes as causes
use Rattle.cursor_forward.specs.PlainProposal.{fault_of, cause_of}
use Rattle.cursor_forward.specs.declared.proposal.StepError.{StepError}
use Rattle.step_driver.specs.Needs.Outcomes.{RefusedBy, Tries}
use Rattle.step_rules.specs.Lawful.{old}
use Rattle.step_rules.specs.Rule.{Tried, Got, Not, Spot, Writing, Need, Says}
use Rattle.alloc_laws.specs.Stage.Written.{written_as, are_written, accesses_written}
use Rattle.alloc_laws.specs.Stage.Staging.{cell_here, changes_here, all_written, staged_draft}
use Rattle.alloc_laws.specs.Stage.Staging.{is_untouched, asked_of_window, sizes_here}
use Rattle.alloc_laws.specs.Stage.Staging.{needs_of_accesses, staged_needs}
use Rattle.stage_rewrites.specs.Places.{spots_from}
use Rattle.stage_rewrites.specs.Nests.{stage_written}
use Rattle.stage_rewrites.proofs.Staged.{same_length, spots_are}

module _ (w : Staging) (s : Spot) (how : Writing) (base : ℕ) where
  abbrev as_made : Control → Control
  as_made e = e

  -- the variables of the second nest do not depend on how the extents are written
  second_same :
      spots_from (suc (base + length (all_simpler as_made (spans w.coords)))) w.coords
      ≡ spots_from (suc (base + length (all_simpler (written_as how) (spans w.coords)))) w.coords
  second_same =
      ap (λ (n : ℕ). spots_from (suc (base + n)) w.coords)
      (same_length as_made (spans w.coords) ∙ sym (same_length (written_as how) (spans w.coords)))

  written_is : all_written w s how base
      ≡ stage_written how w base (changes_here w s) (old s)
  written_is =
      let first = spots_are as_made (suc base) zero w.coords in
      let last =
      spots_are as_made (suc (base + length (all_simpler as_made (spans w.coords)))) zero w.coords
      ∙ second_same in
      λ j. are_written how (spans w.coords)
      && ((w.accum || are_written how (first j))
      && (accesses_written how base w.root w.coords (old s)
      && (not (changes_here w s) || are_written how (last j))))

  abbrev answer : Bool → Tried Block
  answer fits =
      if fits
      then Got (staged_block (written_as how) w (cell_here w s) 0 base (changes_here w s) (old s))
      else Not (causes.Form causes.WideNumber)

  module _ (writes : Bool) (b : Block) (changes : writes ≡ changes_here w s) (is : b ≡ old s) where
    fits_is : stage_written how w base writes b ≡ all_written w s how base
    fits_is = ap₂ (stage_written how w base) changes is ∙ sym written_is

    pub draft_got : (cell : Cell) (made : Block) → cell ≡ cell_here w s
        → stage_written how w base writes b ≡ true
        → made ≡ staged_block (written_as how) w cell 0 base writes b
        → staged_draft w s how base ≡ Got made
    draft_got cell made types fits so =
        ap answer (sym fits_is ∙ fits)
        ∙ ap Got (sym (so
        ∙ (λ j. staged_block (written_as how) w (types j) 0 base (changes j) (is j))))

    draft_not : (e : FormError) → IsWide e (stage_written how w base writes b)
        → RefusedBy (staged_draft w s how base) (option_map causes.Form (fault_of e))
    draft_not TooManyCases h = absurd h
    draft_not SystemTooLarge h = absurd h
    draft_not WideNumber h = ap answer (sym fits_is ∙ h)
    draft_not TooManySystems h = absurd h
    draft_not Memory h = tt

    -- a form that cannot be written down is handed on
    module _ {X : Type 0} (plain : X → Block) (result : Result X StepError) where
      pub draft_refused : (e : FormError)
          → IsErrAnd result (λ r. cause_of r ≡ option_map causes.Form (fault_of e))
          → IsWide e (stage_written how w base writes b)
          → Tries plain (staged_draft w s how base) result
      draft_refused e is h = by result is
        where
          by : (r : Result X StepError)
              → IsErrAnd r (λ y. cause_of y ≡ option_map causes.Form (fault_of e))
              → Tries plain (staged_draft w s how base) r
          by (Ok x) v = absurd v
          by (Err y) v = subst (RefusedBy (staged_draft w s how base)) (sym v) (draft_not e h)

-- ---- what is needed

module _ (w : Staging) (s : Spot) where
  abbrev of_window : Bool → List Need
  of_window t =
      if t
      then map (λ c. Says s.piece.path (Holds c)) (asked_of_window w.coords (sizes_here w s))
      else []

  pub needs_alone : (ns : List Need) → is_untouched w s.target s.opened ≡ false
      → ns ≡ needs_of_accesses w s
      → ns ≡ staged_needs w s
  needs_alone ns h k =
      k
      ∙ sym (append-nil (needs_of_accesses w s))
      ∙ sym (ap (λ (t : Bool). needs_of_accesses w s ++ of_window t) h)

  pub needs_with_window : (ns ms : List Need) → is_untouched w s.target s.opened ≡ true
      → ns ≡ needs_of_accesses w s
      → ms
      ≡ ns ++ map (λ c. Says s.piece.path (Holds c)) (asked_of_window w.coords (sizes_here w s))
      → ms ≡ staged_needs w s
  needs_with_window ns ms h k l =
      l
      ∙ ap (λ (xs : List Need). xs ++ of_window true) k
      ∙ sym (ap (λ (t : Bool). needs_of_accesses w s ++ of_window t) h)
