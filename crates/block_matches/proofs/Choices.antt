-- The arguments of parameters, by a walk of a callee's body with a block.
use Rattle.std.proofs.Common.{◌≡◌, ℕ, Bool, true, ◌&&◌, List, [], ◌∷◌, ◌++◌, length, Option}
use Rattle.std.proofs.Common.{Some, None, refl, ap, ap₂, sym, ◌∙◌, subst, append_assoc}
use Rattle.std.specs.Prelude.{nat_lt, Result, Ok, Err, IfOk, IsErrAnd}
use Rattle.exo_tree.specs.Tree.{Control, Argument, Param, Block, Procedure}
use Rattle.exo_tree.specs.Places.{Path}
use Rattle.affine_forms.specs.Forms.{Reading}
use Rattle.affine_forms.specs.Outcomes.{IsWide}
use Rattle.affine_forms.specs.declared.error.FormError.{FormError}
use Rattle.affine_forms.specs.declared.error.FormError.TheVariants.{TooManyCases, SystemTooLarge, WideNumber, TooManySystems, Memory}
use Rattle.meaning_laws.specs.Scoped.{has_binder}
use Rattle.match_laws.specs.Names.{Names}
use Rattle.match_laws.specs.Pairs.{Pair}
use Rattle.match_laws.specs.Moved.{Moving}
use Rattle.match_laws.specs.Windows.{Use, uses_of, argument_of}
use Rattle.match_laws.specs.Matched.{or_differs, first_path, with_first, argument_in, moving}
use Rattle.match_laws.specs.Matched as plain
use Rattle.match_laws.specs.Widths.{buffer_is_short, argument_is_short, arguments_are_short}
use Rattle.tree_uses.specs.Outcomes.{ComesIf}
use Rattle.block_matches.specs.Choices.{put_behind, outcome}
use Rattle.block_matches.specs.Walks.{IsWalk}

-- ---- of results

pub same_value : {X Y : Type 0} (f : X → Y) (x y : Y) (r : Result X FormError) → x ≡ y
    → IfOk r (λ m. f m ≡ x) → IfOk r (λ m. f m ≡ y)
same_value f x y r same h = subst (λ z. IfOk r (λ m. f m ≡ z)) same h

pub of_same : {X Y E : Type 0} (f : X → Y) (x y : Y) (r : Result X E) → x ≡ y → IfOk r (λ m. f m ≡ x)
    → IfOk r (λ m. f m ≡ y)
of_same f x y r same h = subst (λ z. IfOk r (λ m. f m ≡ z)) same h

pub same_fits : {X : Type 0} (r : Result X FormError) (a b : Bool) → a ≡ b → ComesIf r a → ComesIf r b
same_fits r a b same h = subst (ComesIf r) same h

-- what is said of a part that is too wide
pub left_over : {X : Type 0} (r : Result X FormError) (e : FormError) (a b : Bool)
    → IsErrAnd r (λ x. x ≡ e)
    → IsWide e a
    → (IsWide e a → IsWide e b)
    → ComesIf r b
left_over (Ok x) e a b h wide on = absurd h
left_over (Err f) e a b h wide on = subst (λ y. IsWide y b) (sym h) (on wide)

pub wide_both : (e : FormError) (a b : Bool) → IsWide e a → IsWide e (a && b)
wide_both TooManyCases a b h = h
wide_both SystemTooLarge a b h = h
wide_both WideNumber a b h = ap (λ c. c && b) h
wide_both TooManySystems a b h = h
wide_both Memory a b h = tt

pub nothing_more : (args : List Argument) → args ++ [] ≡ args
nothing_more [] = refl
nothing_more (a ∷ args) = ap (λ rest. a ∷ rest) (nothing_more args)

-- ---- of one parameter

module _ (at : Reading) (theirs : Names) (b : Block) (q : Procedure) (own : ℕ → Bool)
    (to : ℕ → Option ℕ) (given : ℕ → Option Argument) (walk : List Pair)
    (is : IsWalk at theirs b q own to given walk) where
  abbrev params : ℕ → Bool
  params = plain.params at theirs b q

  given_is : given ≡ argument_in params (plain.walk at theirs b q)
  given_is = is.known ∙ ap (argument_in params) is.pairs

  pub by_is : moving params to given ≡ plain.by_walk at theirs b q
  by_is = ap₂ (moving params) is.partners given_is

  pub not_known : (x : ℕ) (p : Path) → p ≡ [] → None ≡ given x
      → Err p ≡ or_differs [] (argument_in params (plain.walk at theirs b q) x)
  not_known x p e h = ap Err e ∙ ap (or_differs []) (h ∙ (λ i. given_is i x))

  pub some_known : (x : ℕ) (a c : Argument) → c ≡ a → Some a ≡ given x
      → Ok c ≡ or_differs [] (argument_in params (plain.walk at theirs b q) x)
  some_known x a c e h = ap Ok e ∙ ap (or_differs []) (h ∙ (λ i. given_is i x))

  module _ (x : ℕ) (dims : List Control) (tensor whole : Bool) (us : List Use)
      (uses : us ≡ uses_of x walk) (form : whole ≡ (tensor && nat_lt 0 (length dims))) where
    abbrev found : Moving → (ℕ → Bool) → Bool → List Use → Result Argument Path
    found m bound w vs = or_differs (first_path vs) (argument_of at m bound w dims theirs vs)

    abbrev short : Moving → (ℕ → Bool) → Bool → List Use → Bool
    short m bound w vs = buffer_is_short at m bound w dims theirs vs

    in_walk : us ≡ uses_of x (plain.walk at theirs b q)
    in_walk = uses ∙ ap (uses_of x) is.pairs

    same : {T : Type 0} (f : Moving → (ℕ → Bool) → Bool → List Use → T)
        → f (moving params to given) own whole us
        ≡ f (plain.by_walk at theirs b q) (has_binder b) (tensor && nat_lt 0 (length dims))
        (uses_of x (plain.walk at theirs b q))
    same f =
        ap (λ m. f m own whole us) by_is
        ∙ ap (λ o. f (plain.by_walk at theirs b q) o whole us) is.names
        ∙ ap (λ w. f (plain.by_walk at theirs b q) (has_binder b) w us) form
        ∙ ap (f (plain.by_walk at theirs b q) (has_binder b) (tensor && nat_lt 0 (length dims))) in_walk

    pub no_window : (p : Path) → p ≡ first_path us
        → None ≡ argument_of at (moving params to given) own whole dims theirs us
        → Err p ≡ plain.buffer_argument at theirs b q x dims tensor
    no_window p e h = ap Err e ∙ ap (or_differs (first_path us)) h ∙ same found

    pub one_window : (a : Argument)
        → Some a ≡ argument_of at (moving params to given) own whole dims theirs us
        → Ok a ≡ plain.buffer_argument at theirs b q x dims tensor
    one_window a h = ap (or_differs (first_path us)) h ∙ same found

    pub fits_is : short (moving params to given) own whole us
        ≡ short (plain.by_walk at theirs b q) (has_binder b) (tensor && nat_lt 0 (length dims))
        (uses_of x (plain.walk at theirs b q))
    fits_is = same short

-- ---- of all parameters

module _ (at : Reading) (theirs : Names) (b : Block) (q : Procedure) where
  abbrev one : Param → Result Argument Path
  one p = plain.argument_for at theirs b q p.binder.id p.kind

  abbrev all : List Param → Result (List Argument) Path
  all = plain.arguments_for at theirs b q

  abbrev one_short : Param → Bool
  one_short p = argument_is_short at theirs b q p.binder.id p.kind

  abbrev are_short : List Param → Bool
  are_short = arguments_are_short at theirs b q

  pub none_left : (args : List Argument) → put_behind args (all []) ≡ outcome None args
  none_left args = ap Ok (nothing_more args)

  pub ends_here : (p : Param) (ps : List Param) (args : List Argument) (path : Path)
      → Err path ≡ one p
      → put_behind args (all (p ∷ ps)) ≡ outcome (Some path) args
  ends_here p ps args path h = ap (λ r. put_behind args (with_first r (all ps))) (sym h)

  moved_on : (args : List Argument) (a : Argument) (rest : Result (List Argument) Path)
      → put_behind args (with_first (Ok a) rest) ≡ put_behind (args ++ a ∷ []) rest
  moved_on args a (Err p) = refl
  moved_on args a (Ok more) = ap Ok (sym (append_assoc args (a ∷ []) more))

  pub goes_on : (p : Param) (ps : List Param) (args new : List Argument) (a : Argument)
      → Ok a ≡ one p
      → new ≡ args ++ a ∷ []
      → put_behind new (all ps) ≡ put_behind args (all (p ∷ ps))
  goes_on p ps args new a h e =
      ap (λ l. put_behind l (all ps)) e
      ∙ sym (moved_on args a (all ps))
      ∙ ap (λ r. put_behind args (with_first r (all ps))) h

  abbrev by_first : Result Argument Path → List Param → Bool
  by_first r ps = elim r [ Err path ↦ true | Ok a ↦ are_short ps ]

  pub short_end : (p : Param) (ps : List Param) (path : Path) → Err path ≡ one p → one_short p ≡ true
      → are_short (p ∷ ps) ≡ true
  short_end p ps path h s =
      ap (λ t. t && by_first (one p) ps) s ∙ ap (λ r. by_first r ps) (sym h)

  pub short_on : (p : Param) (ps : List Param) (a : Argument) → Ok a ≡ one p → one_short p ≡ true
      → are_short ps ≡ are_short (p ∷ ps)
  short_on p ps a h s =
      sym (ap (λ t. t && by_first (one p) ps) s ∙ ap (λ r. by_first r ps) (sym h))

  pub from_none : (r : Result (List Argument) Path) → put_behind [] r ≡ r
  from_none (Err p) = refl
  from_none (Ok args) = refl
