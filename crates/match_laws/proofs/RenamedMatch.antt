-- The match with a callee that has other ids is the match with the callee.
use Rattle.std.proofs.Common.{◌≡◌, ◌∙◌, ℕ, suc, ◌==◌, nat_lt, Bool, true, false, ◌&&◌, ◌||◌, not, List, []}
use Rattle.std.proofs.Common.{◌∷◌, ◌++◌, map, length, Option, Some, None, option_map, Result, Ok, Err}
use Rattle.std.proofs.Common.{if◌then◌else◌, refl, sym, ap, ap₂}
use Rattle.exo_tree.specs.Tree.{Control, Lit, Var, Field, StrideOf, Neg, Add, Sub, Mul, Div, Mod}
use Rattle.exo_tree.specs.Tree.{Condition, True, False, Flag, FieldFlag, Lt, Le, Gt, Ge, Eq, And}
use Rattle.exo_tree.specs.Tree.{Or, Coord, At, Span, Argument, ControlArg, ConditionArg}
use Rattle.exo_tree.specs.Tree.{ParamKind, ControlParam, TensorParam, WindowParam, Param, Block}
use Rattle.exo_tree.specs.Tree.{Procedure}
use Rattle.exo_tree.specs.Places.{Path}
use Rattle.exo_tree.specs.Passed.{passed_for}
use Rattle.exo_tree.specs.Renaming.{re_control, re_controls, re_condition, re_coords, re_block}
use Rattle.exo_meaning.specs.Renaming.{Renaming}
use Rattle.meaning_laws.specs.Scoped.{has_binder}
use Rattle.affine_forms.specs.Forms.{Reading}
use Rattle.inplace_laws.specs.Inline.{is_param}
use Rattle.match_laws.specs.Names.{Buffer, Names, names_of}
use Rattle.match_laws.specs.Pairs.{Pair, Numbers, Truths, Binders, Own, Access, Unlike, paired}
use Rattle.match_laws.specs.Moved.{Moving, both, one, moved, moved_condition}
use Rattle.match_laws.specs.Windows.{Use, uses_of, choices, Spot, Offset, Point, spots, if_agree}
use Rattle.match_laws.specs.Windows.{are_as, all_as, are_free, fitting, all_moved}
use Rattle.match_laws.specs.Windows.{argument_from, first_fitting, all_of_name, argument_among}
use Rattle.match_laws.specs.Windows.{argument_of}
use Rattle.match_laws.specs.Matched.{Matched, Arguments, NoMatch, Undetermined, Known, variable_of}
use Rattle.match_laws.specs.Matched.{flag_of, known_if, known_by, argument_if, argument_in}
use Rattle.match_laws.specs.Matched.{partner_if, partner, is_partner, holds_bound, is_caught}
use Rattle.match_laws.specs.Matched.{seen_with, is_own_unlike, path_of, ends_at, walked, number_in}
use Rattle.match_laws.specs.Matched.{truth_in, stride_in, variable_for, stride_for, moving}
use Rattle.match_laws.specs.Matched.{number_differs, truth_differs, differs, first_difference}
use Rattle.match_laws.specs.Matched.{first_path, or_differs, with_first, is_undetermined}
use Rattle.match_laws.specs.Matched.{first_undetermined, all_pairs, own_pairs, to, walk}
use Rattle.match_laws.specs.Matched.{by_walk, buffer_argument, argument_for, arguments_for}
use Rattle.match_laws.specs.Matched.{with_strides, matched}
use Rattle.match_laws.specs.RenamedCallee.{re_kind, re_params, re_procedure}
use Rattle.match_laws.specs.RenamedMatch.{re_matched, MatchIsRenamed}
use Rattle.match_laws.proofs.RenamedCallee.{same_ids}
use Rattle.match_laws.proofs.RenamedNames.{names_re, param_re, control_stays, condition_stays}
use Rattle.match_laws.proofs.RenamedNames.{coords_stay, block_stays, names_stay}
use Rattle.match_laws.proofs.RenamedPairs.{re_pair, paired_re}

module _ (r : Renaming) where
  -- ---- pairs whose block keeps its ids

  abbrev re_left : Pair → Pair
  re_left (Numbers p whole e d) = Numbers p whole (re_control r.to e) d
  re_left (Truths p whole c d) = Truths p whole (re_condition r.to c) d
  re_left (Binders x y) = Binders (r.to x) y
  re_left (Own p x y) = Own p (r.to x) y
  re_left (Access p x cs y ds) = Access p (r.to x) (re_coords r.to cs) y ds
  re_left (Unlike p) = Unlike p

  left_is : (a : Pair) → re_pair r.to (λ x. x) a ≡ re_left a
  left_is (Numbers p whole e d) = ap (Numbers p whole (re_control r.to e)) (control_stays d)
  left_is (Truths p whole c d) = ap (Truths p whole (re_condition r.to c)) (condition_stays d)
  left_is (Binders x y) = refl
  left_is (Own p x y) = refl
  left_is (Access p x cs y ds) = ap (Access p (r.to x) (re_coords r.to cs) y) (coords_stay ds)
  left_is (Unlike p) = refl

  lefts_are : (pairs : List Pair) → map (re_pair r.to (λ x. x)) pairs ≡ map re_left pairs
  lefts_are [] = refl
  lefts_are (a ∷ pairs) = ap₂ ◌∷◌ (left_is a) (lefts_are pairs)

  -- ---- what determines a parameter

  -- for a change of what determines it
  abbrev re_known : (Argument → Argument) → Known → Known
  re_known h k = record { param = r.to k.param; argument = h k.argument }

  variable_re : (e : Control) → variable_of (re_control r.to e) ≡ option_map r.to (variable_of e)
  variable_re (Var x) = refl
  variable_re e = refl

  flag_re : (c : Condition) → flag_of (re_condition r.to c) ≡ option_map r.to (flag_of c)
  flag_re (Flag x) = refl
  flag_re c = refl

  if_same : (x k : ℕ) (a b : Option Argument)
      → (if r.to x == r.to k then a else b) ≡ (if x == k then a else b)
  if_same x k a b = ap (λ t. if t then a else b) (same_ids r x k)

  module _ (those its : ℕ → Bool) (param : (x : ℕ) → those (r.to x) ≡ its x) where
    known_if_re : (h : Argument → Argument) (a : Argument) (o : Option ℕ)
        → known_if those (h a) (option_map r.to o) ≡ option_map (re_known h) (known_if its a o)
    known_if_re h a None = refl
    known_if_re h a (Some x) =
        ap (λ t. if t then Some (record { param = r.to x; argument = h a }) else None) (param x)
        ∙ go (its x)
      where
        go : (t : Bool)
            → (if t then Some (record { param = r.to x; argument = h a }) else None)
            ≡ option_map (re_known h) (if t then Some (record { param = x; argument = a }) else None)
        go true = refl
        go false = refl

    known_re : (a : Pair) → known_by those (re_left a)
        ≡ option_map (re_known (λ z. z)) (known_by its a)
    known_re (Numbers p true e d) =
        ap (known_if those (ControlArg d)) (variable_re e)
        ∙ known_if_re (λ z. z) (ControlArg d) (variable_of e)
    known_re (Numbers p false e d) = refl
    known_re (Truths p true c d) =
        ap (known_if those (ConditionArg d)) (flag_re c)
        ∙ known_if_re (λ z. z) (ConditionArg d) (flag_of c)
    known_re (Truths p false c d) = refl
    known_re (Binders x y) = refl
    known_re (Own p x y) = refl
    known_re (Access p x cs y ds) = refl
    known_re (Unlike p) = refl

    argument_if_re : (x : ℕ) (o : Option Known)
        → argument_if (r.to x) (option_map (re_known (λ z. z)) o) ≡ argument_if x o
    argument_if_re x None = refl
    argument_if_re x (Some k) = if_same k.param x (Some k.argument) None

    argument_in_re : (pairs : List Pair) (x : ℕ)
        → argument_in those (map re_left pairs) (r.to x) ≡ argument_in its pairs x
    argument_in_re [] x = refl
    argument_in_re (a ∷ pairs) x =
        ap₂ (λ (o : Option Argument) (rest : Option Argument). elim o [ None ↦ rest | Some argument ↦ Some argument ])
        (ap (argument_if (r.to x)) (known_re a) ∙ argument_if_re x (known_by its a))
        (argument_in_re pairs x)

    -- ---- of the callee alone

    abbrev re_own : Pair → Pair
    re_own = re_pair r.to r.to

    abbrev is_missing : Option Argument → Bool
    is_missing o = elim o [ None ↦ true | Some a ↦ false ]

    missing_if : (x : ℕ) (a b : Argument) (o : Option ℕ)
        → is_missing (argument_if (r.to x) (known_if those a (option_map r.to o)))
        ≡ is_missing (argument_if x (known_if its b o))
    missing_if x a b None = refl
    missing_if x a b (Some y) =
        ap (λ t. is_missing (argument_if (r.to x)
        (if t then Some (record { param = r.to y; argument = a }) else None))) (param y)
        ∙ go (its y)
      where
        by : (t : Bool) → is_missing (if t then Some a else None)
            ≡ is_missing (if t then Some b else None)
        by true = refl
        by false = refl

        go : (t : Bool)
            → is_missing (argument_if (r.to x)
            (if t then Some (record { param = r.to y; argument = a }) else None))
            ≡ is_missing (argument_if x
            (if t then Some (record { param = y; argument = b }) else None))
        go true = ap is_missing (if_same y x (Some a) None) ∙ by (y == x)
        go false = refl

    missing_by : (x : ℕ) (a : Pair)
        → is_missing (argument_if (r.to x) (known_by those (re_own a)))
        ≡ is_missing (argument_if x (known_by its a))
    missing_by x (Numbers p true e d) =
        ap (λ o. is_missing (argument_if (r.to x)
        (known_if those (ControlArg (re_control r.to d)) o))) (variable_re e)
        ∙ missing_if x (ControlArg (re_control r.to d)) (ControlArg d) (variable_of e)
    missing_by x (Numbers p false e d) = refl
    missing_by x (Truths p true c d) =
        ap (λ o. is_missing (argument_if (r.to x)
        (known_if those (ConditionArg (re_condition r.to d)) o))) (flag_re c)
        ∙ missing_if x (ConditionArg (re_condition r.to d)) (ConditionArg d) (flag_of c)
    missing_by x (Truths p false c d) = refl
    missing_by x (Binders y z) = refl
    missing_by x (Own p y z) = refl
    missing_by x (Access p y cs z ds) = refl
    missing_by x (Unlike p) = refl

    missing_or : (o : Option Argument) (rest : Option Argument)
        → is_missing (elim o [ None ↦ rest | Some argument ↦ Some argument ])
        ≡ (if is_missing o then is_missing rest else false)
    missing_or None rest = refl
    missing_or (Some a) rest = refl

    missing_in : (pairs : List Pair) (x : ℕ)
        → is_missing (argument_in those (map re_own pairs) (r.to x))
        ≡ is_missing (argument_in its pairs x)
    missing_in [] x = refl
    missing_in (a ∷ pairs) x =
        missing_or (argument_if (r.to x) (known_by those (re_own a)))
        (argument_in those (map re_own pairs) (r.to x))
        ∙ ap₂ (λ (s : Bool) (t : Bool). if s then t else false) (missing_by x a) (missing_in pairs x)
        ∙ sym (missing_or (argument_if x (known_by its a)) (argument_in its pairs x))

    uses_by : (x y : ℕ) (a b : Use) (us vs : List Use) → length us ≡ length vs
        → length ((if r.to y == r.to x then a ∷ [] else []) ++ us)
        ≡ length ((if y == x then b ∷ [] else []) ++ vs)
    uses_by x y a b us vs h =
        ap (λ t. length ((if t then a ∷ [] else []) ++ us)) (same_ids r y x) ∙ go (y == x)
      where
        go : (t : Bool) → length ((if t then a ∷ [] else []) ++ us)
            ≡ length ((if t then b ∷ [] else []) ++ vs)
        go true = ap suc h
        go false = h

    as_many : (x : ℕ) (pairs : List Pair)
        → length (uses_of (r.to x) (map re_own pairs)) ≡ length (uses_of x pairs)
    as_many x [] = refl
    as_many x (Numbers p whole e d ∷ pairs) = as_many x pairs
    as_many x (Truths p whole c d ∷ pairs) = as_many x pairs
    as_many x (Binders a b ∷ pairs) = as_many x pairs
    as_many x (Own p a b ∷ pairs) = as_many x pairs
    as_many x (Access p a cs y ds ∷ pairs) =
        uses_by x a
        (record { path = p; ours = re_coords r.to cs; name = r.to y; theirs = re_coords r.to ds })
        (record { path = p; ours = cs; name = y; theirs = ds })
        (uses_of (r.to x) (map re_own pairs)) (uses_of x pairs) (as_many x pairs)
    as_many x (Unlike p ∷ pairs) = as_many x pairs

    undetermined_re : (pairs : List Pair) (x : ℕ) (name : List ℕ) (kind : ParamKind)
        → is_undetermined those (map re_own pairs)
        (record { binder = record { id = r.to x; name = name }; kind = re_kind r kind })
        ≡ is_undetermined its pairs
        (record { binder = record { id = x; name = name }; kind = kind })
    undetermined_re pairs x name (ControlParam kind) = missing_in pairs x
    undetermined_re pairs x name (TensorParam cell dims memory) =
        ap (λ n. n == 0) (as_many x pairs)
    undetermined_re pairs x name (WindowParam cell dims memory) =
        ap (λ n. n == 0) (as_many x pairs)

    first_missing : (pairs : List Pair) (ps : List Param)
        → first_undetermined those (map re_own pairs) (re_params r ps)
        ≡ option_map r.to (first_undetermined its pairs ps)
    first_missing pairs [] = refl
    first_missing pairs (p ∷ ps) =
        ap₂ (λ (t : Bool) (o : Option ℕ). if t then Some (r.to p.binder.id) else o)
        (undetermined_re pairs p.binder.id p.binder.name p.kind) (first_missing pairs ps)
        ∙ go (is_undetermined its pairs p) (first_undetermined its pairs ps)
      where
        go : (t : Bool) (o : Option ℕ)
            → (if t then Some (r.to p.binder.id) else option_map r.to o)
            ≡ option_map r.to (if t then Some p.binder.id else o)
        go true o = refl
        go false o = refl

  -- ---- up to where the walk goes

  if_binder : (x k y : ℕ) → (if r.to k == r.to x then Some y else None)
      ≡ (if k == x then Some y else None)
  if_binder x k y = ap (λ t. if t then Some y else None) (same_ids r k x)

  partner_if_re : (x : ℕ) (a : Pair) → partner_if (r.to x) (re_left a) ≡ partner_if x a
  partner_if_re x (Numbers p whole e d) = refl
  partner_if_re x (Truths p whole c d) = refl
  partner_if_re x (Binders k y) = if_binder x k y
  partner_if_re x (Own p k y) = refl
  partner_if_re x (Access p k cs y ds) = refl
  partner_if_re x (Unlike p) = refl

  partner_re : (pairs : List Pair) (x : ℕ)
      → partner (map re_left pairs) (r.to x) ≡ partner pairs x
  partner_re [] x = refl
  partner_re (a ∷ pairs) x =
      ap₂ (λ (o : Option ℕ) (rest : Option ℕ). elim o [ None ↦ rest | Some y ↦ Some y ])
      (partner_if_re x a) (partner_re pairs x)

  path_re : (a : Pair) → path_of (re_left a) ≡ path_of a
  path_re (Numbers p whole e d) = refl
  path_re (Truths p whole c d) = refl
  path_re (Binders k y) = refl
  path_re (Own p k y) = refl
  path_re (Access p k cs y ds) = refl
  path_re (Unlike p) = refl

  module _ (those its : ℕ → Bool) (param : (x : ℕ) → those (r.to x) ≡ its x)
      (bound : ℕ → Bool) (those_to its_to : ℕ → Option ℕ)
      (to_re : (x : ℕ) → those_to (r.to x) ≡ its_to x) where
    own_re : (a : Pair) → is_own_unlike those_to (re_left a) ≡ is_own_unlike its_to a
    own_re (Numbers p whole e d) = refl
    own_re (Truths p whole c d) = refl
    own_re (Binders k y) = refl
    own_re (Own p k y) = ap (λ o. not (is_partner y o)) (to_re k)
    own_re (Access p k cs y ds) = refl
    own_re (Unlike p) = refl

    abbrev Seen : (ℕ → Bool) → (ℕ → Bool) → Type 0
    Seen that seen = (x : ℕ) → that (r.to x) ≡ seen x

    caught_re : (that seen : ℕ → Bool) → Seen that seen → (o : Option Known)
        → is_caught that bound (option_map (re_known (λ z. z)) o) ≡ is_caught seen bound o
    caught_re that seen h None = refl
    caught_re that seen h (Some k) =
        ap (λ t. not t && holds_bound bound k.argument) (h k.param)

    seen_re : (that seen : ℕ → Bool) → Seen that seen → (o : Option Known)
        → Seen (seen_with (option_map (re_known (λ z. z)) o) that) (seen_with o seen)
    seen_re that seen h None x = h x
    seen_re that seen h (Some k) x = ap₂ ◌||◌ (same_ids r x k.param) (h x)

    ends_re : (that seen : ℕ → Bool) → Seen that seen → (a : Pair)
        → ends_at those bound those_to that (re_left a) ≡ ends_at its bound its_to seen a
    ends_re that seen h a =
        ap₂ ◌||◌ (own_re a) (ap (is_caught that bound) (known_re those its param a)
        ∙ caught_re that seen h (known_by its a))

    walked_re : (pairs : List Pair) (that seen : ℕ → Bool) → Seen that seen
        → walked those bound those_to that (map re_left pairs)
        ≡ map re_left (walked its bound its_to seen pairs)
    walked_re [] that seen h = refl
    walked_re (a ∷ pairs) that seen h =
        ap₂ (λ (t : Bool) (rest : List Pair).
        if t then Unlike (path_of (re_left a)) ∷ [] else re_left a ∷ rest)
        (ends_re that seen h a)
        (walked_re pairs (seen_with (known_by those (re_left a)) that)
        (seen_with (known_by its a) seen)
        (λ x. ap (λ o. seen_with o that (r.to x)) (known_re those its param a)
        ∙ seen_re that seen h (known_by its a) x))
        ∙ ap (λ p. if ends_at its bound its_to seen a then Unlike p ∷ []
        else re_left a ∷ map re_left (later)) (path_re a)
        ∙ go (ends_at its bound its_to seen a) later
      where
        later : List Pair
        later = walked its bound its_to (seen_with (known_by its a) seen) pairs

        go : (t : Bool) (rest : List Pair)
            → (if t then Unlike (path_of a) ∷ [] else re_left a ∷ map re_left rest)
            ≡ map re_left (if t then Unlike (path_of a) ∷ [] else a ∷ rest)
        go true rest = refl
        go false rest = refl

  -- ---- expressions in the block's names

  module _ (those_m its_m : Moving)
      (variable_same : (x : ℕ) → those_m.variable (r.to x) ≡ its_m.variable x)
      (flag_same : (x : ℕ) → those_m.flag (r.to x) ≡ its_m.flag x)
      (stride_same : (x k : ℕ) → those_m.stride (r.to x) k ≡ its_m.stride x k) where
    moved_re : (e : Control) → moved those_m (re_control r.to e) ≡ moved its_m e
    moved_re (Lit n) = refl
    moved_re (Var x) = variable_same x
    moved_re (Field f) = refl
    moved_re (StrideOf x k) = stride_same x k
    moved_re (Neg a) = ap (one Neg) (moved_re a)
    moved_re (Add a b) = ap₂ (both Add) (moved_re a) (moved_re b)
    moved_re (Sub a b) = ap₂ (both Sub) (moved_re a) (moved_re b)
    moved_re (Mul a b) = ap₂ (both Mul) (moved_re a) (moved_re b)
    moved_re (Div a c) = ap (one (λ e. Div e c)) (moved_re a)
    moved_re (Mod a c) = ap (one (λ e. Mod e c)) (moved_re a)

    truth_re : (c : Condition)
        → moved_condition those_m (re_condition r.to c) ≡ moved_condition its_m c
    truth_re True = refl
    truth_re False = refl
    truth_re (Flag x) = flag_same x
    truth_re (FieldFlag f) = refl
    truth_re (Lt a b) = ap₂ (both Lt) (moved_re a) (moved_re b)
    truth_re (Le a b) = ap₂ (both Le) (moved_re a) (moved_re b)
    truth_re (Gt a b) = ap₂ (both Gt) (moved_re a) (moved_re b)
    truth_re (Ge a b) = ap₂ (both Ge) (moved_re a) (moved_re b)
    truth_re (Eq a b) = ap₂ (both Eq) (moved_re a) (moved_re b)
    truth_re (And c d) = ap₂ (both And) (truth_re c) (truth_re d)
    truth_re (Or c d) = ap₂ (both Or) (truth_re c) (truth_re d)

    module _ (at : Reading) where
      differs_re : (a : Pair) → differs at those_m (re_left a) ≡ differs at its_m a
      differs_re (Numbers p whole e d) = ap (number_differs at d) (moved_re e)
      differs_re (Truths p whole c d) = ap (truth_differs at d) (truth_re c)
      differs_re (Binders k y) = refl
      differs_re (Own p k y) = refl
      differs_re (Access p k cs y ds) = refl
      differs_re (Unlike p) = refl

      difference_re : (pairs : List Pair)
          → first_difference at those_m (map re_left pairs) ≡ first_difference at its_m pairs
      difference_re [] = refl
      difference_re (a ∷ pairs) =
          ap₂ (λ (t : Bool) (p : Path).
          if t then Some p else first_difference at those_m (map re_left pairs))
          (differs_re a) (path_re a)
          ∙ ap (λ o. if differs at its_m a then Some (path_of a) else o) (difference_re pairs)

    module _ (at : Reading) (bound : ℕ → Bool) where
      spots_re : (listed : List Bool) (cs ds : List Coord)
          → spots at those_m bound listed (re_coords r.to cs) ds
          ≡ spots at its_m bound listed cs ds
      spots_re [] [] [] = refl
      spots_re (true ∷ listed) (At e ∷ cs) (At g ∷ ds) =
          ap₂ (λ o rest. both (λ s more. s ∷ more) (one (λ f. Offset (Sub g f)) o) rest)
          (moved_re e) (spots_re listed cs ds)
      spots_re (true ∷ listed) (Span e f ∷ cs) (Span g h ∷ ds) =
          ap₂ (λ o rest. if_agree at those_m bound (Sub h g) (both Sub o (moved those_m
          (re_control r.to e)))
          (both (λ s more. s ∷ more) (one (λ z. Offset (Sub g z)) (moved those_m
          (re_control r.to e))) rest))
          (moved_re f) (spots_re listed cs ds)
          ∙ ap (λ o. if_agree at those_m bound (Sub h g) (both Sub (moved its_m f) o)
          (both (λ s more. s ∷ more) (one (λ z. Offset (Sub g z)) o)
          (spots at its_m bound listed cs ds))) (moved_re e)
      spots_re (false ∷ listed) cs (At g ∷ ds) =
          ap (one (λ rest. Point g ∷ rest)) (spots_re listed cs ds)
      spots_re listed cs ds = refl

      abbrev re_use : Use → Use
      re_use u =
          record { path = u.path; ours = re_coords r.to u.ours; name = u.name; theirs = u.theirs }

      all_as_re : (listed : List Bool) (first : List Spot) (us : List Use)
          → all_as at those_m bound listed first (map re_use us)
          ≡ all_as at its_m bound listed first us
      all_as_re listed first [] = refl
      all_as_re listed first (u ∷ us) =
          ap₂ ◌&&◌ (ap (are_as at its_m bound first) (spots_re listed u.ours u.theirs))
          (all_as_re listed first us)

      abbrev kept_if : List Spot → Bool → Option (List Spot)
      kept_if ss t = if are_free at its_m bound ss && t then Some ss else None

      abbrev kept : (List Spot → Bool) → Option (List Spot) → Option (List Spot)
      kept others o = elim o [ None ↦ None | Some ss ↦ kept_if ss (others ss) ]

      fitting_re : (listed : List Bool) (u : Use) (us : List Use)
          → fitting at those_m bound listed (re_use u) (map re_use us)
          ≡ fitting at its_m bound listed u us
      fitting_re listed u us =
          ap (kept (λ ss. all_as at those_m bound listed ss (map re_use us)))
          (spots_re listed u.ours u.theirs)
          ∙ go (spots at its_m bound listed u.ours u.theirs)
        where
          go : (o : Option (List Spot))
              → kept (λ ss. all_as at those_m bound listed ss (map re_use us)) o
              ≡ kept (λ ss. all_as at its_m bound listed ss us) o
          go None = refl
          go (Some ss) = ap (kept_if ss) (all_as_re listed ss us)

      first_fitting_re : (whole : Bool) (b : Buffer) (ds : List Control) (u : Use)
          (us : List Use) (lists : List (List Bool))
          → first_fitting at those_m bound whole b ds (re_use u) (map re_use us) lists
          ≡ first_fitting at its_m bound whole b ds u us lists
      first_fitting_re whole b ds u us [] = refl
      first_fitting_re whole b ds u us (listed ∷ more) =
          ap₂ (λ (o : Option (List Spot)) (rest : Option Argument). elim o [
            | None ↦ rest
            | Some ss ↦ elim (argument_from at its_m bound whole b u.name ds ss) [
              | None ↦ rest
              | Some a ↦ Some a
            ]
          ]) (fitting_re listed u us) (first_fitting_re whole b ds u us more)

      names_same : (y : ℕ) (us : List Use)
          → all_of_name at those_m bound y (map re_use us) ≡ all_of_name at its_m bound y us
      names_same y [] = refl
      names_same y (u ∷ us) = ap (λ t. (u.name == y) && t) (names_same y us)

      among_re : (whole : Bool) (rank : ℕ) (u : Use) (us : List Use) (b : Option Buffer)
          (ds : Option (List Control))
          → argument_among at those_m bound whole rank (re_use u) (map re_use us) b ds
          ≡ argument_among at its_m bound whole rank u us b ds
      among_re whole rank u us None ds = refl
      among_re whole rank u us (Some b) None = refl
      among_re whole rank u us (Some b) (Some ds) =
          ap₂ (λ (t : Bool) (o : Option Argument). if not (bound u.name) && t then o else None)
          (names_same u.name us)
          (first_fitting_re whole b ds u us (choices (length b.extents) rank))

      all_moved_re : (ds : List Control)
          → all_moved at those_m bound (re_controls r.to ds) ≡ all_moved at its_m bound ds
      all_moved_re [] = refl
      all_moved_re (d ∷ ds) = ap₂ (both (λ e es. e ∷ es)) (moved_re d) (all_moved_re ds)

      argument_re : (whole : Bool) (dims : List Control) (theirs : ℕ → Option Buffer)
          (us : List Use)
          → argument_of at those_m bound whole (re_controls r.to dims) theirs (map re_use us)
          ≡ argument_of at its_m bound whole dims theirs us
      argument_re whole dims theirs [] = refl
      argument_re whole dims theirs (u ∷ us) =
          ap₂ (λ (n : ℕ) (o : Option (List Control)).
          argument_among at those_m bound whole n (re_use u) (map re_use us) (theirs u.name) o)
          (as_long dims) (all_moved_re dims)
          ∙ among_re whole (length dims) u us (theirs u.name) (all_moved at its_m bound dims)
        where
          as_long : (es : List Control) → length (re_controls r.to es) ≡ length es
          as_long [] = refl
          as_long (e ∷ es) = ap suc (as_long es)

  -- ---- the uses of a parameter

  abbrev re_uses : List Use → List Use
  re_uses us = map (λ u. record {
    path = u.path;
    ours = re_coords r.to u.ours;
    name = u.name;
    theirs = u.theirs;
  }) us

  uses_re : (x : ℕ) (pairs : List Pair)
      → uses_of (r.to x) (map re_left pairs) ≡ re_uses (uses_of x pairs)
  uses_re x [] = refl
  uses_re x (Numbers p whole e d ∷ pairs) = uses_re x pairs
  uses_re x (Truths p whole c d ∷ pairs) = uses_re x pairs
  uses_re x (Binders a b ∷ pairs) = uses_re x pairs
  uses_re x (Own p a b ∷ pairs) = uses_re x pairs
  uses_re x (Access p a cs y ds ∷ pairs) =
      ap₂ (λ (t : Bool) (rest : List Use). (if t then
      (record { path = p; ours = re_coords r.to cs; name = y; theirs = ds }) ∷ [] else []) ++ rest)
      (same_ids r a x) (uses_re x pairs)
      ∙ go (a == x)
    where
      go : (t : Bool)
          → (if t then
          (record { path = p; ours = re_coords r.to cs; name = y; theirs = ds }) ∷ [] else [])
          ++ re_uses (uses_of x pairs)
          ≡ re_uses ((if t then
          (record { path = p; ours = cs; name = y; theirs = ds }) ∷ [] else []) ++ uses_of x pairs)
      go true = refl
      go false = refl
  uses_re x (Unlike p ∷ pairs) = uses_re x pairs

  first_path_re : (us : List Use) → first_path (re_uses us) ≡ first_path us
  first_path_re [] = refl
  first_path_re (u ∷ us) = refl

  -- ---- the match

  module _ (at : Reading) (theirs : Names) (block : Block) (q : Procedure) where
    abbrev other : Procedure
    other = re_procedure r q

    all_re : all_pairs at theirs block other ≡ map re_left (all_pairs at theirs block q)
    all_re =
        ap (λ d. paired (is_param other) (has_binder block) (names_of other) theirs
        (re_block r.to q.body) d) (sym (block_stays block))
        ∙ paired_re r.to (λ x. x) (is_param other) (is_param q) (has_binder block)
        (has_binder block) (names_of other) (names_of q) theirs theirs (param_re r q)
        (λ y. refl) (names_re r q) (names_stay theirs) q.body block
        ∙ lefts_are (all_pairs at theirs block q)

    own_pairs_re : own_pairs at theirs block other
        ≡ map (re_pair r.to r.to) (own_pairs at theirs block q)
    own_pairs_re = paired_re r.to r.to (is_param other) (is_param q) (λ x. false) (λ x. false)
        (names_of other) (names_of q) (names_of other) (names_of q) (param_re r q) (λ y. refl)
        (names_re r q) (names_re r q) q.body q.body

    to_re : (x : ℕ) → to at theirs block other (r.to x) ≡ to at theirs block q x
    to_re x = ap (λ ps. partner ps (r.to x)) all_re ∙ partner_re (all_pairs at theirs block q) x

    walk_re : walk at theirs block other ≡ map re_left (walk at theirs block q)
    walk_re =
        ap (walked (is_param other) (has_binder block) (to at theirs block other) (λ x. false))
        all_re
        ∙ walked_re (is_param other) (is_param q) (param_re r q) (has_binder block)
        (to at theirs block other) (to at theirs block q) to_re (all_pairs at theirs block q)
        (λ x. false) (λ x. false) (λ x. refl)

    found_re : (x : ℕ)
        → argument_in (is_param other) (walk at theirs block other) (r.to x)
        ≡ argument_in (is_param q) (walk at theirs block q) x
    found_re x = ap (λ ps. argument_in (is_param other) ps (r.to x)) walk_re
        ∙ argument_in_re (is_param other) (is_param q) (param_re r q) (walk at theirs block q) x

    -- for what is given to the parameters
    module _ (that given : ℕ → Option Argument)
        (given_re : (x : ℕ) → that (r.to x) ≡ given x) where
      abbrev those_names : Moving
      those_names = moving (is_param other) (to at theirs block other) that

      abbrev its_names : Moving
      its_names = moving (is_param q) (to at theirs block q) given

      variables_re : (x : ℕ) → those_names.variable (r.to x) ≡ its_names.variable x
      variables_re x =
          ap₂ (λ (t : Bool) (o : Option Control).
          if t then number_in (that (r.to x)) else o) (param_re r q x)
          (ap variable_for (to_re x))
          ∙ ap (λ o. if is_param q x then number_in o else variable_for (to at theirs block q x))
          (given_re x)

      flags_re : (x : ℕ) → those_names.flag (r.to x) ≡ its_names.flag x
      flags_re x = ap truth_in (given_re x)

      strides_re : (x k : ℕ) → those_names.stride (r.to x) k ≡ its_names.stride x k
      strides_re x k =
          ap₂ (λ (t : Bool) (o : Option Control).
          if t then stride_in (that (r.to x)) k else o) (param_re r q x)
          (ap (λ o. stride_for o k) (to_re x))
          ∙ ap (λ o. if is_param q x then stride_in o k
          else stride_for (to at theirs block q x) k) (given_re x)

      differences_re : first_difference at those_names (walk at theirs block other)
          ≡ first_difference at its_names (walk at theirs block q)
      differences_re = ap (first_difference at those_names) walk_re
          ∙ difference_re those_names its_names variables_re flags_re strides_re at
          (walk at theirs block q)

    abbrev those_known : ℕ → Option Argument
    those_known = argument_in (is_param other) (walk at theirs block other)

    abbrev its_known : ℕ → Option Argument
    its_known = argument_in (is_param q) (walk at theirs block q)

    controls_as_long : (es : List Control) → length (re_controls r.to es) ≡ length es
    controls_as_long [] = refl
    controls_as_long (e ∷ es) = ap suc (controls_as_long es)

    buffer_re : (x : ℕ) (dims : List Control) (tensor : Bool)
        → buffer_argument at theirs block other (r.to x) (re_controls r.to dims) tensor
        ≡ buffer_argument at theirs block q x dims tensor
    buffer_re x dims tensor =
        ap (λ us. or_differs (first_path us) (argument_of at (by_walk at theirs block other)
        (has_binder block) (tensor && nat_lt 0 (length (re_controls r.to dims)))
        (re_controls r.to dims) theirs us)) uses_are
        ∙ ap (λ n. or_differs (first_path (re_uses uses)) (argument_of at
        (by_walk at theirs block other) (has_binder block) (tensor && nat_lt 0 n)
        (re_controls r.to dims) theirs (re_uses uses))) (controls_as_long dims)
        ∙ ap₂ or_differs (first_path_re uses)
        (argument_re (by_walk at theirs block other) (by_walk at theirs block q)
        (variables_re those_known its_known found_re) (flags_re those_known its_known found_re)
        (strides_re those_known its_known found_re) at (has_binder block)
        (tensor && nat_lt 0 (length dims)) dims theirs uses)
      where
        uses : List Use
        uses = uses_of x (walk at theirs block q)

        uses_are : uses_of (r.to x) (walk at theirs block other) ≡ re_uses uses
        uses_are = ap (uses_of (r.to x)) walk_re ∙ uses_re x (walk at theirs block q)

    for_re : (x : ℕ) (kind : ParamKind)
        → argument_for at theirs block other (r.to x) (re_kind r kind)
        ≡ argument_for at theirs block q x kind
    for_re x (ControlParam kind) = ap (or_differs []) (found_re x)
    for_re x (TensorParam cell dims memory) = buffer_re x dims true
    for_re x (WindowParam cell dims memory) = buffer_re x dims false

    all_for_re : (ps : List Param)
        → arguments_for at theirs block other (re_params r ps)
        ≡ arguments_for at theirs block q ps
    all_for_re [] = refl
    all_for_re (p ∷ ps) = ap₂ with_first (for_re p.binder.id p.kind) (all_for_re ps)

    given_re : (ps : List Param) (args : List Argument) (x : ℕ)
        → passed_for (re_params r ps) args (r.to x)
        ≡ passed_for ps args x
    given_re [] args x = refl
    given_re (p ∷ ps) [] x = refl
    given_re (p ∷ ps) (a ∷ args) x =
        ap₂ (λ (t : Bool) (o : Option Argument). if t then Some a else o)
        (same_ids r p.binder.id x) (given_re ps args x)

    abbrev by_path : List Argument → Option Path → Matched
    by_path args o = elim o [ None ↦ Arguments args | Some p ↦ NoMatch p ]

    with_strides_re : (o : Result (List Argument) Path)
        → with_strides at theirs block other o ≡ with_strides at theirs block q o
    with_strides_re (Err p) = refl
    with_strides_re (Ok args) = ap (by_path args)
        (differences_re (passed_for (re_params r q.params) args)
        (passed_for q.params args) (given_re q.params args))

    abbrev by_difference : Matched → Option Path → Matched
    by_difference m o = elim o [ Some p ↦ NoMatch p | None ↦ m ]

    abbrev by_own : Matched → Option ℕ → Matched
    by_own m o = elim o [ Some x ↦ Undetermined x | None ↦ m ]

    -- what is said where all is determined
    abbrev said : Matched
    said = by_difference (with_strides at theirs block q (arguments_for at theirs block q q.params))
        (first_difference at (by_walk at theirs block q) (walk at theirs block q))

    said_re : by_difference (with_strides at theirs block other
        (arguments_for at theirs block other (re_params r q.params)))
        (first_difference at (by_walk at theirs block other) (walk at theirs block other))
        ≡ said
    said_re = ap₂ by_difference
        (ap (with_strides at theirs block other) (all_for_re q.params)
        ∙ with_strides_re (arguments_for at theirs block q q.params))
        (differences_re those_known its_known found_re)

    strides_stay : (o : Result (List Argument) Path)
        → with_strides at theirs block q o ≡ re_matched r (with_strides at theirs block q o)
    strides_stay (Err p) = refl
    strides_stay (Ok args) = go (first_difference at (moving (is_param q) (to at theirs block q)
        (passed_for q.params args)) (walk at theirs block q))
      where
        go : (o : Option Path) → by_path args o ≡ re_matched r (by_path args o)
        go None = refl
        go (Some p) = refl

    said_stays : (o : Option Path)
        → by_difference (with_strides at theirs block q (arguments_for at theirs block q q.params)) o
        ≡ re_matched r (by_difference
        (with_strides at theirs block q (arguments_for at theirs block q q.params)) o)
    said_stays None = strides_stay (arguments_for at theirs block q q.params)
    said_stays (Some p) = refl

    missing_re : first_undetermined (is_param other) (own_pairs at theirs block other)
        (re_params r q.params)
        ≡ option_map r.to
        (first_undetermined (is_param q) (own_pairs at theirs block q) q.params)
    missing_re =
        ap (λ ps. first_undetermined (is_param other) ps (re_params r q.params)) own_pairs_re
        ∙ first_missing (is_param other) (is_param q) (param_re r q)
        (own_pairs at theirs block q) q.params

    it_is_renamed : matched at theirs block other ≡ re_matched r (matched at theirs block q)
    it_is_renamed =
        ap₂ by_own said_re missing_re
        ∙ go (first_undetermined (is_param q) (own_pairs at theirs block q) q.params)
      where
        go : (o : Option ℕ) → by_own said (option_map r.to o) ≡ re_matched r (by_own said o)
        go None = said_stays
            (first_difference at (by_walk at theirs block q) (walk at theirs block q))
        go (Some x) = refl

pub match_is_renamed : MatchIsRenamed
match_is_renamed r at theirs block q = it_is_renamed r at theirs block q
