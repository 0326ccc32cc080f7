-- A match gives one argument for each parameter.
use Rattle.std.proofs.Common.{◌≡◌, ℕ, suc, List, [], ◌∷◌, length, Option, Some, None, Result, Ok}
use Rattle.std.proofs.Common.{Err}
use Rattle.std.proofs.Common.{refl, sym, ap, ◌∙◌}
use Rattle.exo_tree.specs.Tree.{Argument, Param, Block, Procedure}
use Rattle.exo_tree.specs.Places.{Path}
use Rattle.exo_tree.specs.Passed.{passed_for}
use Rattle.affine_forms.specs.Forms.{Reading}
use Rattle.match_laws.specs.Names.{Names}
use Rattle.match_laws.specs.Matched.{Arguments, NoMatch, Undetermined, with_first}
use Rattle.match_laws.specs.Matched.{first_undetermined, first_difference, params, own_pairs, walk}
use Rattle.match_laws.specs.Matched.{by_walk, argument_for, arguments_for, with_strides, moving, to}
use Rattle.match_laws.specs.Matched.{OneForEach}

abbrev pub failed : Path → Result (List Argument) Path
failed p = Err p

abbrev pub answered : List Argument → Result (List Argument) Path
answered a = Ok a

pub err_ok : (p : Path) (a : List Argument) → failed p ≡ answered a → ⊥
err_ok p a e = cc

pub same_ok : (a b : List Argument) → answered a ≡ answered b → a ≡ b
same_ok a b e = cc

pub same_arguments : (a b : List Argument) → Arguments a ≡ Arguments b → a ≡ b
same_arguments a b e = cc

pub no_match : (p : Path) (a : List Argument) → NoMatch p ≡ Arguments a → ⊥
no_match p a e = cc

pub undetermined : (x : ℕ) (a : List Argument) → Undetermined x ≡ Arguments a → ⊥
undetermined x a e = cc

module _ (at : Reading) (theirs : Names) (block : Block) (q : Procedure) where
  abbrev found : List Param → Result (List Argument) Path
  found = arguments_for at theirs block q

  -- one argument joins those of the later parameters
  joined : (ps : List Param) (first : Result Argument Path) (rest : Result (List Argument) Path)
      (args : List Argument)
      → ((more : List Argument) → rest ≡ Ok more → length more ≡ length ps)
      → with_first first rest ≡ Ok args → length args ≡ suc (length ps)
  joined ps (Err p) rest args h e = absurd (err_ok p args e)
  joined ps (Ok a) (Err p) args h e = absurd (err_ok p args e)
  joined ps (Ok a) (Ok more) args h e =
      ap length (sym (same_ok (a ∷ more) args e)) ∙ ap suc (h more refl)

  one_each : (ps : List Param) (args : List Argument) → found ps ≡ Ok args
      → length args ≡ length ps
  one_each [] args e = ap length (sym (same_ok [] args e))
  one_each (p ∷ ps) args e =
      joined ps (argument_for at theirs block q p.binder.id p.kind) (found ps) args
      (λ more f. one_each ps more f) e

  by_strides : (o : Result (List Argument) Path) (args : List Argument)
      → ((more : List Argument) → o ≡ Ok more → length more ≡ length q.params)
      → with_strides at theirs block q o ≡ Arguments args → length args ≡ length q.params
  by_strides (Err p) args h e = absurd (no_match p args e)
  by_strides (Ok more) args h e = go (first_difference at (moving (params at theirs block q)
      (to at theirs block q) (passed_for q.params more))
      (walk at theirs block q)) e
    where
      go : (o : Option Path)
          → elim o [ None ↦ Arguments more | Some p ↦ NoMatch p ] ≡ Arguments args
          → length args ≡ length q.params
      go None f = ap length (sym (same_arguments more args f)) ∙ h more refl
      go (Some p) f = absurd (no_match p args f)

  by_difference : (o : Option Path) (args : List Argument)
      → elim o [
        | Some p ↦ NoMatch p
        | None ↦ with_strides at theirs block q (found q.params)
      ] ≡ Arguments args → length args ≡ length q.params
  by_difference None args e =
      by_strides (found q.params) args (λ more f. one_each q.params more f) e
  by_difference (Some p) args e = absurd (no_match p args e)

  by_own : (o : Option ℕ) (args : List Argument)
      → elim o [
        | Some x ↦ Undetermined x
        | None ↦ elim (first_difference at (by_walk at theirs block q) (walk at theirs block q)) [
          | Some p ↦ NoMatch p
          | None ↦ with_strides at theirs block q (found q.params)
        ]
      ] ≡ Arguments args → length args ≡ length q.params
  by_own None args e = by_difference
      (first_difference at (by_walk at theirs block q) (walk at theirs block q)) args e
  by_own (Some x) args e = absurd (undetermined x args e)

pub one_for_each : OneForEach
one_for_each at theirs block q args e =
    by_own at theirs block q (first_undetermined (params at theirs block q)
    (own_pairs at theirs block q) q.params) args e
