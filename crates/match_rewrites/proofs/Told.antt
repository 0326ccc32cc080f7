-- What is told of a match, and of what is refused besides.
use Rattle.std.proofs.Common.{◌≡◌, ℕ, Bool, true, false, List, Option, Some, None, ap, sym}
use Rattle.std.proofs.Common.{◌∙◌, subst}
use Rattle.std.specs.Prelude.{if◌then◌else◌, option_map, slice_get, Result}
use Rattle.exo_tree.specs.Tree.{Argument, Procedure}
use Rattle.exo_tree.specs.Places.{Path, Opened}
use Rattle.affine_forms.specs.Outcomes.{IsWide}
use Rattle.affine_forms.specs.declared.error.FormError.{FormError}
use Rattle.affine_forms.specs.declared.error.FormError.TheVariants as form
use Rattle.affine_places.specs.Roots.{no_roots, roots_of, has_extents}
use Rattle.match_laws.specs.Names.{names_of}
use Rattle.match_laws.specs.Matched.{Matched, Arguments, NoMatch, Undetermined, matched}
use Rattle.match_laws.specs.Widths.{Said, TooWide, match_is_short}
use Rattle.cursor_forward.specs.Causes as causes
use Rattle.cursor_forward.specs.Causes.{Cause, WrongShape, SharedArgument, WideNumber, Form}
use Rattle.cursor_forward.specs.PlainProposal.{fault_of}
use Rattle.cursor_forward.specs.declared.proposal.StepError.{StepError}
use Rattle.step_driver.specs.Needs.Outcomes.{RefusedBy, Tries}
use Rattle.step_rules.specs.Rule.{Tried, Got, Not, Target}
use Rattle.call_laws.specs.Simplify.{reading_of, rooted}
use Rattle.call_laws.specs.Replace.Rule.{hands_wholes, may_share}
use Rattle.call_laws.specs.Replace.Rule.{param_name, told, told_there, said}
use Rattle.check_claims.specs.Arguments.{passed_for}

pub without_extents : (p : Procedure) → has_extents p ≡ false → rooted p ≡ no_roots
without_extents p h = ap (λ t. if t then roots_of p else no_roots) h

module _ (t : Target) (o : Opened) (k : ℕ) (q : Procedure) where
  -- ---- by the match

  abbrev short : Bool
  short = match_is_short (reading_of t) (names_of t.proc) o.piece q

  abbrev found : Matched
  found = matched (reading_of t) (names_of t.proc) o.piece q

  abbrev by_width : Bool → Tried (List Argument)
  by_width fits = told t o k q (if fits then Said found else TooWide)

  pub too_wide : (e : FormError) → IsWide e short
      → RefusedBy (told_there t o k q) (option_map Form (fault_of e))
  too_wide form.TooManyCases h = absurd h
  too_wide form.SystemTooLarge h = absurd h
  too_wide form.WideNumber h = ap by_width h
  too_wide form.TooManySystems h = absurd h
  too_wide form.Memory h = tt

  said_there : (m : Matched) → short ≡ true → m ≡ found
      → told_there t o k q ≡ told t o k q (Said m)
  said_there m h is = ap by_width h ∙ ap (λ z. told t o k q (Said z)) (sym is)

  pub arguments_there : {X : Type 0} (plain : X → List Argument) (args : List Argument)
      → (r : Result X StepError)
      → short ≡ true
      → Arguments args ≡ found
      → Tries plain (told t o k q (Said (Arguments args))) r
      → Tries plain (told_there t o k q) r
  arguments_there plain args r h is tries =
      subst (λ x. Tries plain x r) (sym (said_there (Arguments args) h is)) tries

  pub differs_there : (path : Path) → short ≡ true → NoMatch path ≡ found
      → told_there t o k q ≡ Not (causes.NoMatch path)
  differs_there path h is = said_there (NoMatch path) h is

  pub undetermined_there : (x : ℕ) (name : List ℕ) → short ≡ true → Undetermined x ≡ found
      → name ≡ param_name q.params x
      → told_there t o k q ≡ Not (causes.Undetermined name)
  undetermined_there x name h is named =
      said_there (Undetermined x) h is ∙ ap (λ n. Not (causes.Undetermined n)) (sym named)

  -- ---- by the arguments

  module _ (args : List Argument) where
    abbrev handed : Bool
    handed = hands_wholes (passed_for q.params args) q.body o.piece

    abbrev by : Bool → Bool → Tried (List Argument)
    by hands shares =
        if hands then Not WrongShape
        else (if shares then Got args else Not SharedArgument)

    abbrev answer : Tried (List Argument)
    answer = told t o k q (Said (Arguments args))

    pub hands_some : handed ≡ true → answer ≡ Not WrongShape
    hands_some h = ap (λ b. by b (may_share t o k q args)) h

    by_shares : handed ≡ false → (b : Bool) → may_share t o k q args ≡ b → answer ≡ by false b
    by_shares h b is = ap (λ c. by c (may_share t o k q args)) h ∙ ap (by false) is

    pub shares_some : handed ≡ false → may_share t o k q args ≡ false
        → answer ≡ Not SharedArgument
    shares_some h m = by_shares h false m

    pub gives_all : handed ≡ false → may_share t o k q args ≡ true → answer ≡ Got args
    gives_all h m = by_shares h true m

-- ---- by the number of the callee

module _ (t : Target) (o : Opened) (k : ℕ) where
  abbrev by_callee : Option Procedure → Tried (List Argument)
  by_callee c =
      elim c as (λ c. Tried (List Argument)) [
        | None ↦ Not WrongShape
        | Some q ↦ told_there t o k q
      ]

  pub no_callee : None ≡ slice_get t.unit.procedures k → said k t o ≡ Not WrongShape
  no_callee h = ap by_callee (sym h)

  pub callee_there : {X : Type 0} (plain : X → List Argument) (q : Procedure) (r : Result X StepError)
      → Some q ≡ slice_get t.unit.procedures k
      → Tries plain (told_there t o k q) r
      → Tries plain (said k t o) r
  callee_there plain q r h tries = subst (λ x. Tries plain x r) (ap by_callee h) tries
