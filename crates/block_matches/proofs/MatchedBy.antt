-- The match, a question at a time.
use Rattle.std.proofs.Common.{◌≡◌, ℕ, Bool, true, ◌&&◌, List, Option, Some, None, ap}
use Rattle.std.proofs.Common.{ap₂, sym, ◌∙◌}
use Rattle.std.specs.Prelude.{Result, Ok, Err}
use Rattle.exo_tree.specs.Tree.{Argument, Block, Procedure}
use Rattle.exo_tree.specs.Places.{Path}
use Rattle.exo_tree.specs.Passed.{passed_for}
use Rattle.affine_forms.specs.Forms.{Reading}
use Rattle.affine_forms.specs.Outcomes.{IsWide}
use Rattle.affine_forms.specs.declared.error.FormError.{FormError}
use Rattle.affine_forms.specs.declared.error.FormError.TheVariants.{TooManyCases, SystemTooLarge, WideNumber, TooManySystems, Memory}
use Rattle.match_laws.specs.Names.{Names}
use Rattle.match_laws.specs.Matched as plain
use Rattle.match_laws.specs.Matched.{Matched, Arguments, NoMatch, Undetermined, first_difference}
use Rattle.match_laws.specs.Matched.{first_undetermined, moving}
use Rattle.match_laws.specs.Moved.{Moving}
use Rattle.match_laws.specs.Pairs.{Pair}
use Rattle.match_laws.specs.Widths.{walk_is_short, arguments_are_short, strides_are_short}
use Rattle.match_laws.specs.Widths.{match_is_short}
use Rattle.block_matches.specs.Walks.{IsWalk}
use Rattle.block_matches.proofs.Choices.{by_is}

module _ (at : Reading) (theirs : Names) (b : Block) (q : Procedure) where
  abbrev undetermined : Option ℕ
  undetermined =
      first_undetermined (plain.params at theirs b q) (plain.own_pairs at theirs b q) q.params

  abbrev difference : Option Path
  difference = first_difference at (plain.by_walk at theirs b q) (plain.walk at theirs b q)

  abbrev walk_short : Bool
  walk_short = walk_is_short at (plain.by_walk at theirs b q) (plain.walk at theirs b q)

  abbrev last : Matched
  last = plain.with_strides at theirs b q (plain.arguments_for at theirs b q q.params)

  abbrev last_short : Bool
  last_short =
      arguments_are_short at theirs b q q.params
      && strides_are_short at theirs b q (plain.arguments_for at theirs b q q.params)

  abbrev by_difference : Option Path → Matched
  by_difference o = elim o [ Some p ↦ NoMatch p | None ↦ last ]

  abbrev by_first : Option ℕ → Matched
  by_first o = elim o [ Some x ↦ Undetermined x | None ↦ by_difference difference ]

  abbrev short_by : Option Path → Bool
  short_by o = elim o [ Some p ↦ true | None ↦ last_short ]

  abbrev short_by_first : Option ℕ → Bool
  short_by_first o = elim o [ Some x ↦ true | None ↦ walk_short && short_by difference ]

  pub is_undetermined : (x : ℕ) → Some x ≡ undetermined → Undetermined x ≡ plain.matched at theirs b q
  is_undetermined x h = ap by_first h

  pub short_undetermined : (x : ℕ) → Some x ≡ undetermined → match_is_short at theirs b q ≡ true
  short_undetermined x h = ap short_by_first (sym h)

  module _ (none : undetermined ≡ None) where
    pub differs : (p : Path) → Some p ≡ difference → NoMatch p ≡ plain.matched at theirs b q
    differs p h = ap by_difference h ∙ ap by_first (sym none)

    pub short_differs : (p : Path) → Some p ≡ difference → walk_short ≡ true
        → match_is_short at theirs b q ≡ true
    short_differs p h s =
        ap short_by_first none ∙ ap (λ t. t && short_by difference) s ∙ ap short_by (sym h)

    pub goes_on : None ≡ difference → last ≡ plain.matched at theirs b q
    goes_on h = ap by_difference h ∙ ap by_first (sym none)

    pub short_on : None ≡ difference → walk_short ≡ true → last_short ≡ match_is_short at theirs b q
    short_on h s =
        sym (ap short_by_first none ∙ ap (λ t. t && short_by difference) s ∙ ap short_by (sym h))

    pub too_wide : (e : FormError) → IsWide e walk_short → IsWide e (match_is_short at theirs b q)
    too_wide TooManyCases h = h
    too_wide SystemTooLarge h = h
    too_wide WideNumber h =
        ap short_by_first none ∙ ap (λ t. t && short_by difference) h
    too_wide TooManySystems h = h
    too_wide Memory h = tt

  -- ---- by the arguments

  abbrev by_strides : List Argument → Option Path → Matched
  by_strides args o = elim o [ None ↦ Arguments args | Some p ↦ NoMatch p ]

  abbrev given_by : List Argument → Moving
  given_by args =
      moving (plain.params at theirs b q) (plain.to at theirs b q)
      (passed_for q.params args)

  abbrev stride_difference : List Argument → Option Path
  stride_difference args = first_difference at (given_by args) (plain.walk at theirs b q)

  pub strides_same : (args : List Argument) → None ≡ stride_difference args
      → Arguments args ≡ plain.with_strides at theirs b q (Ok args)
  strides_same args h = ap (by_strides args) h

  pub strides_differ : (args : List Argument) (p : Path) → Some p ≡ stride_difference args
      → NoMatch p ≡ plain.with_strides at theirs b q (Ok args)
  strides_differ args p h = ap (by_strides args) h

  abbrev all : Result (List Argument) Path
  all = plain.arguments_for at theirs b q q.params

  pub none_given : (p : Path) → Err p ≡ all → NoMatch p ≡ plain.with_strides at theirs b q all
  none_given p h = ap (plain.with_strides at theirs b q) h

  abbrev short_with : Result (List Argument) Path → Bool
  short_with r = strides_are_short at theirs b q r

  pub short_given : (r : Result (List Argument) Path) → r ≡ all
      → arguments_are_short at theirs b q q.params ≡ true
      → short_with r ≡ last_short
  short_given r h s = ap short_with h ∙ sym (ap (λ t. t && short_with all) s)

  pub at_walk : {T : Type 0} (f : Moving → List Pair → T) (own : ℕ → Bool) (to : ℕ → Option ℕ)
      (given : ℕ → Option Argument) (walk : List Pair)
      → IsWalk at theirs b q own to given walk
      → f (moving (plain.params at theirs b q) to given) walk
      ≡ f (plain.by_walk at theirs b q) (plain.walk at theirs b q)
  at_walk f own to given walk is =
      ap₂ f (by_is at theirs b q own to given walk is) is.pairs

  pub at_arguments : {T : Type 0} (f : Moving → List Pair → T) (own : ℕ → Bool) (to : ℕ → Option ℕ)
      (given by : ℕ → Option Argument) (walk : List Pair) (args : List Argument)
      → IsWalk at theirs b q own to given walk
      → by ≡ passed_for q.params args
      → f (moving (plain.params at theirs b q) to by) walk
      ≡ f (given_by args) (plain.walk at theirs b q)
  at_arguments f own to given by walk args is h =
      ap₂ f (ap₂ (moving (plain.params at theirs b q)) is.partners h) is.pairs
