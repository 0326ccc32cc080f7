-- Where a block is matched, each pair of the walk fits.
use Rattle.std.proofs.Common.{◌≡◌, ℕ, Bool, true, false, not, if◌then◌else◌, List, []}
use Rattle.std.proofs.Common.{◌∷◌, Option, Some, None, IfSome, Result, Ok, Err, refl, sym, ap}
use Rattle.std.proofs.Common.{subst, true≢false, eqb-true}
use Rattle.std.proofs.lemmas.Bool.{or_parts}
use Rattle.exo_tree.specs.Tree.{Control, Condition, Argument, Param, Block, Procedure}
use Rattle.exo_tree.specs.Places.{Path}
use Rattle.exo_meaning.specs.Orders.{Each}
use Rattle.meaning_laws.specs.Scoped.{has_binder}
use Rattle.affine_forms.specs.Forms.{Reading}
use Rattle.match_laws.specs.Names.{Names}
use Rattle.match_laws.specs.Pairs.{Pair, Numbers, Truths, Binders, Own, Access, Unlike}
use Rattle.match_laws.specs.Moved.{Moving, moved, moved_condition, agree, conditions_agree}
use Rattle.match_laws.specs.Matched.{Arguments, NoMatch, Undetermined, with_first}
use Rattle.match_laws.specs.Matched.{first_undetermined, first_difference, params, own_pairs, walk}
use Rattle.match_laws.specs.Matched.{all_pairs, to, by_walk, argument_for, arguments_for}
use Rattle.match_laws.specs.Matched.{with_strides, walked, ends_at, is_own_unlike, is_partner}
use Rattle.match_laws.specs.Matched.{is_caught, known_by, seen_with, path_of, differs}
use Rattle.match_laws.specs.Matched.{number_differs, truth_differs}
use Rattle.match_laws.specs.MatchedFits.{Fits, AreGiven, given_names, IsMatch, MatchedFits}
use Rattle.match_laws.proofs.Matched.{err_ok, same_ok, same_arguments, no_match, undetermined}

no_path : (p : Path) → Some p ≡ None → ⊥
no_path p e = cc

holds : (t : Bool) → not t ≡ false → t ≡ true
holds true h = refl
holds false h = absurd (true≢false h)

-- ---- pairs

module _ (at : Reading) (params bound : ℕ → Bool) (to : ℕ → Option ℕ) (m : Moving) where
  partners : (x y : ℕ) (o : Option ℕ) → is_partner y o ≡ true → o ≡ Some y
  partners x y None h = absurd (true≢false (sym h))
  partners x y (Some z) h = ap Some (sym (eqb-true y z h))

  number_fits : (g : Control) (o : Option Control) → number_differs at g o ≡ false
      → IfSome o (λ f. agree at f g ≡ true)
  number_fits g None h = tt
  number_fits g (Some f) h = holds (agree at f g) h

  truth_fits : (d : Condition) (o : Option Condition) → truth_differs at d o ≡ false
      → IfSome o (λ r. conditions_agree at r d ≡ true)
  truth_fits d None h = tt
  truth_fits d (Some r) h = holds (conditions_agree at r d) h

  pair_fits : (a : Pair) → differs at m a ≡ false → is_own_unlike to a ≡ false
      → Fits at to m a
  pair_fits (Numbers p whole e g) h k = number_fits g (moved m e) h
  pair_fits (Truths p whole c d) h k = truth_fits d (moved_condition m c) h
  pair_fits (Binders x y) h k = tt
  pair_fits (Own p x y) h k = partners x y (to x) (holds (is_partner y (to x)) k)
  pair_fits (Access p x cs y ds) h k = tt
  pair_fits (Unlike p) h k = absurd (true≢false h)

  abbrev from_here : (ℕ → Bool) → List Pair → List Pair
  from_here = walked params bound to

  abbrev later : (ℕ → Bool) → Pair → ℕ → Bool
  later seen a = seen_with (known_by params a) seen

  -- of what is left behind a pair
  abbrev Rest : (ℕ → Bool) → Pair → List Pair → Type 0
  Rest seen a pairs =
      first_difference at m (from_here (later seen a) pairs) ≡ None
      → (from_here (later seen a) pairs ≡ pairs) × Each (Fits at to m) pairs

  walk_fits : (seen : ℕ → Bool) (pairs : List Pair)
      → first_difference at m (from_here seen pairs) ≡ None
      → (from_here seen pairs ≡ pairs) × Each (Fits at to m) pairs
  walk_fits seen [] h = (refl, tt)
  walk_fits seen (a ∷ pairs) h =
      go (λ f. walk_fits (later seen a) pairs f) (ends_at params bound to seen a) refl h
    where
      here : Rest seen a pairs → ends_at params bound to seen a ≡ false → (t : Bool)
          → differs at m a ≡ t
          → (if t then Some (path_of a) else first_difference at m (from_here (later seen a) pairs))
          ≡ None
          → (a ∷ from_here (later seen a) pairs ≡ a ∷ pairs) × Each (Fits at to m) (a ∷ pairs)
      here by goes true d f = absurd (no_path (path_of a) f)
      here by goes false d f =
          let rest = by f in
          let own = or_parts (is_own_unlike to a) (is_caught seen bound (known_by params a)) goes
          in
          (ap (λ z. a ∷ z) rest.0, (pair_fits a d own.0, rest.1))

      go : Rest seen a pairs → (t : Bool) → ends_at params bound to seen a ≡ t
          → first_difference at m
          (if t then Unlike (path_of a) ∷ [] else a ∷ from_here (later seen a) pairs) ≡ None
          → ((if t then Unlike (path_of a) ∷ [] else a ∷ from_here
          (later seen a) pairs) ≡ a ∷ pairs)
          × Each (Fits at to m) (a ∷ pairs)
      go by true e f = absurd (no_path (path_of a) f)
      go by false e f = here by e (differs at m a) refl f

-- ---- the match

module _ (at : Reading) (theirs : Names) (block : Block) (q : Procedure) where
  abbrev found : List Param → Result (List Argument) Path
  found = arguments_for at theirs block q

  abbrev its_walk : List Pair
  its_walk = walk at theirs block q

  abbrev no_other : Option ℕ
  no_other = first_undetermined (params at theirs block q) (own_pairs at theirs block q) q.params

  given_by : (ps : List Param) (p : Param) (first : Result Argument Path)
      (rest : Result (List Argument) Path) (args : List Argument)
      → argument_for at theirs block q p.binder.id p.kind ≡ first
      → ((more : List Argument) → rest ≡ Ok more → AreGiven at theirs block q ps more)
      → with_first first rest ≡ Ok args → AreGiven at theirs block q (p ∷ ps) args
  given_by ps p (Err e) rest args i h f = absurd (err_ok e args f)
  given_by ps p (Ok a) (Err e) args i h f = absurd (err_ok e args f)
  given_by ps p (Ok a) (Ok more) args i h f =
      subst (λ z. AreGiven at theirs block q (p ∷ ps) z) (same_ok (a ∷ more) args f)
      (i, h more refl)

  all_given : (ps : List Param) (args : List Argument) → found ps ≡ Ok args
      → AreGiven at theirs block q ps args
  all_given [] args e =
      subst (λ z. AreGiven at theirs block q [] z) (same_ok [] args e) tt
  all_given (p ∷ ps) args e =
      given_by ps p (argument_for at theirs block q p.binder.id p.kind) (found ps) args refl
      (λ more f. all_given ps more f) e

  abbrev Goal : List Argument → Type 0
  Goal args = IsMatch at theirs block q args

  no_difference : (args more : List Argument) → no_other ≡ None → found q.params ≡ Ok more
      → (o : Option Path)
      → first_difference at (given_names at theirs block q more) its_walk ≡ o
      → elim o [ None ↦ Arguments more | Some p ↦ NoMatch p ] ≡ Arguments args → Goal args
  no_difference args more none all (Some p) d f = absurd (no_match p args f)
  no_difference args more none all None d f =
      subst (λ z. IsMatch at theirs block q z) (same_arguments more args f) (record {
        determined = none;
        walked = it.0;
        fits = it.1;
        given = all_given q.params more all;
      })
    where
      it : (its_walk ≡ all_pairs at theirs block q)
          × Each (Fits at (to at theirs block q) (given_names at theirs block q more))
          (all_pairs at theirs block q)
      it = walk_fits at (params at theirs block q) (has_binder block) (to at theirs block q)
          (given_names at theirs block q more) (λ x. false) (all_pairs at theirs block q) d

  by_strides : (args : List Argument) → no_other ≡ None
      → (o : Result (List Argument) Path) → found q.params ≡ o
      → with_strides at theirs block q o ≡ Arguments args → Goal args
  by_strides args none (Err p) e f = absurd (no_match p args f)
  by_strides args none (Ok more) e f =
      no_difference args more none e
      (first_difference at (given_names at theirs block q more) its_walk) refl f

  by_difference : (args : List Argument) → no_other ≡ None → (o : Option Path)
      → elim o [
        | Some p ↦ NoMatch p
        | None ↦ with_strides at theirs block q (found q.params)
      ] ≡ Arguments args → Goal args
  by_difference args none None f = by_strides args none (found q.params) refl f
  by_difference args none (Some p) f = absurd (no_match p args f)

  by_own : (args : List Argument) (o : Option ℕ) → no_other ≡ o
      → elim o [
        | Some x ↦ Undetermined x
        | None ↦ elim (first_difference at (by_walk at theirs block q) its_walk) [
          | Some p ↦ NoMatch p
          | None ↦ with_strides at theirs block q (found q.params)
        ]
      ] ≡ Arguments args → Goal args
  by_own args None e f =
      by_difference args e (first_difference at (by_walk at theirs block q) its_walk) f
  by_own args (Some x) e f = absurd (undetermined x args f)

pub matched_fits : MatchedFits
matched_fits at theirs block q args e =
    by_own at theirs block q args
    (first_undetermined (params at theirs block q) (own_pairs at theirs block q) q.params) refl e
