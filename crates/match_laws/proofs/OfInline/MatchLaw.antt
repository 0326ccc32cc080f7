-- A matched block does what the callee's body does.
use Rattle.std.proofs.Common.{◌≡◌, ◌∙◌, ℕ, zero, suc, ℤ, ◌+ℤ◌, ◌==◌, pos, Bool, true, false, ◌&&◌, ◌||◌}
use Rattle.std.proofs.Common.{if◌then◌else◌, List, [], ◌∷◌, ◌++◌, length, Option, Some, None}
use Rattle.std.proofs.Common.{IfSome, Ok, refl, sym, ap, ap₂, subst, true≢false}
use Rattle.std.proofs.Common.{eqb-true, eq-eqb, arith}
use Rattle.std.specs.Prelude.{nat_lt}
use Rattle.exo_tree.specs.Tree.{Control, Lit, Var, StrideOf, Add, Sub}
use Rattle.exo_tree.specs.Tree.{Coord, At, Span, Argument, ControlArg, ConditionArg, Whole, Window}
use Rattle.exo_tree.specs.Tree.{ParamKind, ControlParam, TensorParam, WindowParam, Param}
use Rattle.exo_tree.specs.Tree.{Block, Procedure}
use Rattle.exo_tree.specs.Places.{Path}
use Rattle.exo_meaning.specs.Inputs.{is_buffer_of}
use Rattle.exo_meaning.specs.Orders.{Each}
use Rattle.exo_meaning.specs.Scene.{Scene, number}
use Rattle.affine_forms.specs.Forms.{Reading, is_affine}
use Rattle.std.proofs.lemmas.Int.{ints}
use Rattle.affine_forms.proofs.Values.{and_parts, none_some, some_injective}
use Rattle.meaning_laws.specs.Scoped.{has_binder}
use Rattle.inplace_laws.specs.Along.{SameAlong}
use Rattle.inplace_laws.specs.Inline.{inlined, is_view}
use Rattle.inplace_laws.specs.Windows.{joined_coords, root_in, coords_of}
use Rattle.match_laws.specs.Simplify.SameControls.{OfCoords}
use Rattle.match_laws.specs.Simplify.SimplifiedBlocks.{standing, IsRead}
use Rattle.match_laws.specs.Names.{Names, Buffer, names_of, extents_of, whole_of}
use Rattle.match_laws.specs.Fitting.{SameCoords, IsAffine, OfSpots, IsComposed}
use Rattle.match_laws.specs.Fitting.{coords_moved}
use Rattle.match_laws.specs.Moved.{Moving, both, one, moved, moved_condition, agree, simpler}
use Rattle.match_laws.specs.Moved.{conditions_agree}
use Rattle.match_laws.specs.Pairs.{Pair, Numbers, Truths, Binders, Own, Access, Unlike}
use Rattle.match_laws.specs.Windows.{Use, use_in, uses_of, Spot, Offset, Point, coords_from}
use Rattle.match_laws.specs.Windows.{window_of, all_moved, are_at_zero, is_at_zero, argument_from}
use Rattle.match_laws.specs.Windows.{all_of_name, argument_of, fitting, spots, are_free, all_as}
use Rattle.match_laws.specs.Windows.{if_agree}
use Rattle.match_laws.specs.Matched.{Known, known_if, known_by, variable_of, flag_of, argument_if}
use Rattle.match_laws.specs.Matched.{argument_in, partner_if, partner, number_in, truth_in}
use Rattle.match_laws.specs.Matched.{stride_in, variable_for, stride_for, or_differs}
use Rattle.match_laws.specs.Matched.{Arguments, matched, params, all_pairs, to, walk, by_walk}
use Rattle.match_laws.specs.Matched.{buffer_argument, argument_for, first_path}
use Rattle.match_laws.specs.MatchedFits.{AreGiven, given_names, IsMatch}
use Rattle.match_laws.specs.ArgumentFits.{IsFitting}
use Rattle.match_laws.specs.Alike.{nameless}
use Rattle.match_laws.proofs.Agree.{agree_law, simpler_law}
use Rattle.match_laws.proofs.Alike.{run_nameless}
use Rattle.inplace_laws.proofs.Along.{along_law}
use Rattle.match_laws.proofs.ArgumentFits.{argument_fits}
use Rattle.match_laws.proofs.Fitting.{fitting_law, spotted}
use Rattle.match_laws.proofs.MatchedFits.{matched_fits}
use Rattle.match_laws.specs.Inline.AtOnce.{Put, puts, with_put, put_control, put_controls}
use Rattle.match_laws.specs.Inline.AtOnce.{put_condition, put_coords, put_window, root_for, coords_for}
use Rattle.match_laws.specs.Inline.AtOnce.{suits, all_suit}
use Rattle.match_laws.specs.Inline.Meets.{is_window, Meets, PutsParams}
use Rattle.match_laws.specs.Inline.MovedIsPut.{is_of_kind, are_of_kinds, HasBlockIds, Agrees}
use Rattle.match_laws.specs.Inline.Known.{strides_of, Sees, ReadsHere}
use Rattle.match_laws.proofs.OfInline.Known.{wider}
use Rattle.match_laws.specs.Inline.MatchLaw.{is_known, dims_if, dims_of, has_length}
use Rattle.match_laws.specs.Inline.MatchLaw.{are_of_known, are_moved_of_known, has_one_id}
use Rattle.match_laws.specs.Inline.MatchLaw.{have_one_id, stands, all_stand, no_buffer}
use Rattle.match_laws.specs.Inline.MatchLaw.{numbers_are_numbers, MayMatch, MatchLaw, MatchRuns}
use Rattle.match_laws.proofs.OfInline.AtOnce.{puts_keep, at_once, Keeps}
use Rattle.match_laws.proofs.OfInline.Meets.{meets_along, each_split}
use Rattle.match_laws.proofs.OfInline.MovedIsPut.{control_is, first_is, later_is, GivenIs, stride_under}
use Rattle.match_laws.proofs.OfInline.MovedIsPut.{matched_agrees}

no : {P : Type 0} → false ≡ true → P
no h = absurd (true≢false (sym h))

-- ---- one id for binders that correspond

pub one_id : (pairs : List Pair) (x y : ℕ) → have_one_id pairs ≡ true → partner pairs x ≡ Some y
    → x ≡ y
one_id [] x y h k = absurd (none_some k)
one_id (a ∷ pairs) x y h k =
    let p = and_parts (has_one_id a) (have_one_id pairs) h in
    first a p.0 (one_id pairs x y p.1) k
  where
    go : (t : Bool) (b c : ℕ) → (b == x) ≡ t → b ≡ c
        → (partner pairs x ≡ Some y → x ≡ y)
        → elim (if t then Some c else None) [ None ↦ partner pairs x | Some z ↦ Some z ] ≡ Some y
        → x ≡ y
    go true b c e same rest i = sym (eqb-true b x e) ∙ same ∙ some_injective c y i
    go false b c e same rest i = rest i

    first : (a : Pair) → has_one_id a ≡ true → (partner pairs x ≡ Some y → x ≡ y)
        → elim (partner_if x a) [ None ↦ partner pairs x | Some z ↦ Some z ] ≡ Some y → x ≡ y
    first (Numbers p whole e g) i rest j = rest j
    first (Truths p whole c d) i rest j = rest j
    first (Binders b c) i rest j = go (b == x) b c refl (eqb-true b c i) rest j
    first (Own p b c) i rest j = rest j
    first (Access p b cs c ds) i rest j = rest j
    first (Unlike p) i rest j = rest j

-- ---- what the arguments put

views_put : (ps : List Param) (args : List Argument) (x : ℕ) → are_of_kinds ps args ≡ true
    → is_view ((puts ps args).name x) ≡ true
views_put [] args x h = refl
views_put (p ∷ ps) [] x h = refl
views_put (p ∷ ps) (a ∷ args) x h =
    let fit = and_parts (is_of_kind p.kind a) (are_of_kinds ps args) h in
    go p.kind a fit.0 (views_put ps args x fit.1)
  where
    choose : (t : Bool) (a b : Argument) → is_view a ≡ true → is_view b ≡ true
        → is_view (if t then a else b) ≡ true
    choose true a b i j = i
    choose false a b i j = j

    go : (kind : ParamKind) (a : Argument) → is_of_kind kind a ≡ true
        → is_view ((puts ps args).name x) ≡ true
        → is_view ((with_put p.binder.id kind a (puts ps args)).name x) ≡ true
    go (ControlParam kind) (ControlArg e) i j = j
    go (ControlParam kind) (ConditionArg c) i j = j
    go (ControlParam kind) (Whole y) i j = j
    go (ControlParam kind) (Window y cs) i j = j
    go (TensorParam cell dims memory) a i j =
        choose (x == p.binder.id) a ((puts ps args).name x) i j
    go (WindowParam cell dims memory) a i j =
        choose (x == p.binder.id) a ((puts ps args).name x) i j

suit_kinds : (ps : List Param) (args : List Argument) → are_of_kinds ps args ≡ true
    → all_suit ps args ≡ true
suit_kinds [] args h = refl
suit_kinds (p ∷ ps) [] h = refl
suit_kinds (p ∷ ps) (a ∷ args) h =
    let fit = and_parts (is_of_kind p.kind a) (are_of_kinds ps args) h in
    ap₂ ◌&&◌ (go p.kind fit.0) (suit_kinds ps args fit.1)
  where
    go : (kind : ParamKind) → is_of_kind kind a ≡ true → suits kind a ≡ true
    go (ControlParam kind) i = refl
    go (TensorParam cell dims memory) i = i
    go (WindowParam cell dims memory) i = i

-- ---- coordinates

wide_coords : (known : ℕ → Bool) (scene : Scene) → Sees known scene → (cs : List Coord)
    → are_of_known known cs ≡ true → OfCoords (IsAffine (standing scene)) cs
wide_coords known scene sees [] h = tt
wide_coords known scene sees (At a ∷ cs) h =
    let p = and_parts (is_affine (strides_of known) a) (are_of_known known cs) h in
    (wider known scene sees a p.0, wide_coords known scene sees cs p.1)
wide_coords known scene sees (Span a b ∷ cs) h =
    let p = and_parts (is_affine (strides_of known) a)
    (is_affine (strides_of known) b && are_of_known known cs) h in
    let q = and_parts (is_affine (strides_of known) b) (are_of_known known cs) p.1 in
    (wider known scene sees a p.0, wider known scene sees b q.0, wide_coords known scene sees cs q.1)

affine_coords : (at : Reading) (scene : Scene) (cs : List Coord) → OfCoords (IsRead at scene) cs
    → OfCoords (IsAffine (standing scene)) cs
affine_coords at scene [] h = tt
affine_coords at scene (At a ∷ cs) h = (h.0.1, affine_coords at scene cs h.1)
affine_coords at scene (Span a b ∷ cs) h = (h.0.1, h.1.1, affine_coords at scene cs h.2)

-- ---- coordinates in the block's names

module _ (m : Moving) (put : Put)
    (controls : (e : Control) → IfSome (moved m e) (λ f. f ≡ put_control put e)) where
  one_at : (e : Control) (o : Option Control) (r : Option (List Coord)) (rest : List Coord)
      → IfSome o (λ f. f ≡ put_control put e) → IfSome r (λ ds. ds ≡ rest)
      → IfSome (both ◌∷◌ (one At o) r) (λ ds. ds ≡ At (put_control put e) ∷ rest)
  one_at e None r rest h k = tt
  one_at e (Some f) None rest h k = tt
  one_at e (Some f) (Some ds) rest h k = ap₂ (λ x y. At x ∷ y) h k

  one_span : (e g : Control) (o q : Option Control) (r : Option (List Coord)) (rest : List Coord)
      → IfSome o (λ f. f ≡ put_control put e) → IfSome q (λ f. f ≡ put_control put g)
      → IfSome r (λ ds. ds ≡ rest)
      → IfSome (both ◌∷◌ (both Span o q) r)
      (λ ds. ds ≡ Span (put_control put e) (put_control put g) ∷ rest)
  one_span e g None q r rest h i k = tt
  one_span e g (Some f) None r rest h i k = tt
  one_span e g (Some f) (Some l) None rest h i k = tt
  one_span e g (Some f) (Some l) (Some ds) rest h i k =
      ap₂ (λ x y. Span x y ∷ ds) h i
      ∙ ap (λ y. Span (put_control put e) (put_control put g) ∷ y) k

  coords_are : (cs : List Coord) → IfSome (coords_moved m cs) (λ ds. ds ≡ put_coords put cs)
  coords_are [] = refl
  coords_are (At e ∷ cs) =
      one_at e (moved m e) (coords_moved m cs) (put_coords put cs) (controls e) (coords_are cs)
  coords_are (Span e g ∷ cs) =
      one_span e g (moved m e) (moved m g) (coords_moved m cs) (put_coords put cs) (controls e)
      (controls g) (coords_are cs)

-- ---- the dimensions

module _ (at : Reading) (m : Moving) (bound : ℕ → Bool) where
  moved_length : (dims ds : List Control) → all_moved at m bound dims ≡ Some ds
      → length ds ≡ length dims
  moved_length [] ds h = ap length (sym (some_injective [] ds h))
  moved_length (d ∷ dims) ds h =
      go (moved m d) (all_moved at m bound dims) (λ es e. moved_length dims es e) h
    where
      go : (o : Option Control) (r : Option (List Control))
          → ((es : List Control) → r ≡ Some es → length es ≡ length dims)
          → both (λ e es. e ∷ es) o r ≡ Some ds → length ds ≡ suc (length dims)
      go None r rest k = absurd (none_some k)
      go (Some c) None rest k = absurd (none_some k)
      go (Some c) (Some es) rest k =
          ap length (sym (some_injective (c ∷ es) ds k)) ∙ ap suc (rest es refl)

  -- ---- a tensor given whole

  module _ (scene : Scene) (reads : ReadsHere at scene) where
    zero_plus : (n : ℤ) → pos 0 +ℤ n ≡ n
    zero_plus n = omega (arith, ints)

    at_zero : (e c : Control) → is_affine (standing scene) e ≡ true
        → agree at e (Lit (pos 0)) ≡ true
        → number scene c ≡ number scene (Add (simpler at e) c)
    at_zero e c i h =
        sym (ap (λ n. n +ℤ number scene c) (simpler_law (standing scene) at scene e reads i
        ∙ agree_law (standing scene) at scene e (Lit (pos 0)) reads i refl h)
        ∙ zero_plus (number scene c))

    whole_coords : (ss : List Spot) (ds : List Control) (cs gs : List Coord)
        → are_at_zero at m bound ss ≡ true → OfSpots (IsAffine (standing scene)) ss
        → length cs ≡ length ds
        → SameCoords scene (joined_coords (coords_from at m bound ss ds) cs) gs
        → SameCoords scene cs gs
    whole_coords [] ds cs gs z i len h = h
    whole_coords (Point g ∷ ss) ds cs gs z i len h = no z
    whole_coords (Offset e ∷ ss) [] cs gs z i len h = h
    whole_coords (Offset e ∷ ss) (d ∷ ds) [] gs z i len h = h
    whole_coords (Offset e ∷ ss) (d ∷ ds) (At c ∷ cs) [] z i len h = absurd h
    whole_coords (Offset e ∷ ss) (d ∷ ds) (Span c k ∷ cs) [] z i len h = absurd h
    whole_coords (Offset e ∷ ss) (d ∷ ds) (At c ∷ cs) (Span g l ∷ gs) z i len h = absurd h
    whole_coords (Offset e ∷ ss) (d ∷ ds) (Span c k ∷ cs) (At g ∷ gs) z i len h = absurd h
    whole_coords (Offset e ∷ ss) (d ∷ ds) (At c ∷ cs) (At g ∷ gs) z i len h =
        let p = and_parts (is_at_zero at m bound (Offset e)) (are_at_zero at m bound ss) z in
        (at_zero e c i.0 p.0 ∙ h.0, whole_coords ss ds cs gs p.1 i.1 (less len) h.1)
      where
        less : {a b : ℕ} → suc a ≡ suc b → a ≡ b
        less e = cc
    whole_coords (Offset e ∷ ss) (d ∷ ds) (Span c k ∷ cs) (Span g l ∷ gs) z i len h =
        let p = and_parts (is_at_zero at m bound (Offset e)) (are_at_zero at m bound ss) z in (
          at_zero e c i.0 p.0 ∙ h.0,
          at_zero e k i.0 p.0 ∙ h.1,
          whole_coords ss ds cs gs p.1 i.1 (less len) h.2,
        )
      where
        less : {a b : ℕ} → suc a ≡ suc b → a ≡ b
        less e = cc

-- ---- the whole of the parameter has the coordinates of its window

abbrev offsets : List Spot → ℕ
offsets [] = zero
offsets (Offset e ∷ ss) = suc (offsets ss)
offsets (Point g ∷ ss) = offsets ss

module _ (at : Reading) (m : Moving) (bound : ℕ → Bool) where
  abbrev Counted : Option (List Spot) → ℕ → Type 0
  Counted o n = IfSome o (λ ss. offsets ss ≡ n)

  offset_counted : (o : Option Control) (g : Control) (p : Option (List Spot)) (n : ℕ) → Counted p n
      → Counted (both (λ s rest. s ∷ rest) (one (λ f. Offset (Sub g f)) o) p) (suc n)
  offset_counted None g p n h = tt
  offset_counted (Some f) g None n h = tt
  offset_counted (Some f) g (Some ss) n h = ap suc h

  if_counted : (g : Control) (o : Option Control) (p : Option (List Spot)) (n : ℕ) → Counted p n
      → Counted (if_agree at m bound g o p) n
  if_counted g None p n h = tt
  if_counted g (Some f) p n h = go (agree at g f)
    where
      go : (t : Bool) → Counted (if t then p else None) n
      go true = h
      go false = tt

  point_counted : (g : Control) (p : Option (List Spot)) (n : ℕ) → Counted p n
      → Counted (one (λ rest. Point g ∷ rest) p) n
  point_counted g None n h = tt
  point_counted g (Some ss) n h = h

  counted : (listed : List Bool) (cs gs : List Coord)
      → Counted (spots at m bound listed cs gs) (length cs)
  counted [] [] [] = refl
  counted (true ∷ listed) (At e ∷ cs) (At g ∷ gs) =
      offset_counted (moved m e) g (spots at m bound listed cs gs) (length cs) (counted listed cs gs)
  counted (true ∷ listed) (Span e f ∷ cs) (Span g h ∷ gs) =
      if_counted (Sub h g) (moved m (Sub f e))
      (both (λ s rest. s ∷ rest) (one (λ k. Offset (Sub g k)) (moved m e)) (spots at m bound listed cs gs))
      (suc (length cs))
      (offset_counted (moved m e) g (spots at m bound listed cs gs) (length cs) (counted listed cs gs))
  counted (false ∷ listed) cs (At g ∷ gs) =
      point_counted g (spots at m bound listed cs gs) (length cs) (counted listed cs gs)
  counted listed cs gs = tt

  module _ (scene : Scene) (reads : ReadsHere at scene) where
    plus_zero : (n : ℤ) → n +ℤ pos 0 ≡ n
    plus_zero n = omega (arith, ints)

    unlike : {a : ℕ} → zero ≡ suc a → ⊥
    unlike e = cc

    one_less : {a b : ℕ} → suc a ≡ suc b → a ≡ b
    one_less e = cc

    own_coords : (ss : List Spot) (ds : List Control) → offsets ss ≡ length ds
        → OfCoords (IsAffine (standing scene)) (whole_of ds)
        → OfCoords (IsAffine (standing scene)) (coords_from at m bound ss ds)
        → SameCoords scene (joined_coords (coords_from at m bound ss ds) (whole_of ds))
        (coords_from at m bound ss ds)
    own_coords [] [] n i j = tt
    own_coords [] (d ∷ ds) n i j = absurd (unlike n)
    own_coords (Point g ∷ ss) ds n i j = (refl, own_coords ss ds n i j.1)
    own_coords (Offset e ∷ ss) [] n i j = absurd (unlike (sym n))
    own_coords (Offset e ∷ ss) (d ∷ ds) n i j = (
      plus_zero (number scene (simpler at e)),
      sym (simpler_law (standing scene) at scene (Add (simpler at e) d) reads (ap₂ ◌&&◌ j.0 i.1)),
      own_coords ss ds (one_less n) i.2 j.2,
    )

put_whole : (put : Put) (dims : List Control)
    → put_coords put (whole_of dims) ≡ whole_of (put_controls put dims)
put_whole put [] = refl
put_whole put (d ∷ dims) =
    ap (λ r. Span (Lit (pos 0)) (put_control put d) ∷ r) (put_whole put dims)

put_length : (put : Put) (cs : List Coord) → length (put_coords put cs) ≡ length cs
put_length put [] = refl
put_length put (At e ∷ cs) = ap suc (put_length put cs)
put_length put (Span e f ∷ cs) = ap suc (put_length put cs)

-- ---- accesses of a parameter

abbrev use_stands : (ℕ → Bool) → Moving → List Control → Use → Bool
use_stands known m dims u =
    (length dims == length u.ours)
    && (are_moved_of_known known (coords_moved m u.ours) && are_of_known known u.theirs)

abbrev UseMeets : Reading → (ℕ → Bool) → Put → ℕ → List Control → Use → Type 0
UseMeets at known put x dims u =
    (root_for put x ≡ u.name)
    × ((scene : Scene)
    → Sees known scene
    → ReadsHere at scene
    → SameCoords scene (put_window put x u.ours) u.theirs)
    × ((scene : Scene)
    → Sees known scene
    → ReadsHere at scene
    → u.ours ≡ whole_of dims
    → is_window (put.name x) ≡ true
    → OfCoords (IsRead at scene) (coords_for put x)
    → SameCoords scene (put_window put x u.ours) (coords_for put x))

module _ (at : Reading) (known : ℕ → Bool) (m : Moving) (bound : ℕ → Bool) (put : Put)
    (controls : (e : Control) → IfSome (moved m e) (λ f. f ≡ put_control put e)) where
  moved_put : (dims ds : List Control) → all_moved at m bound dims ≡ Some ds
      → ds ≡ put_controls put dims
  moved_put [] ds h = sym (some_injective [] ds h)
  moved_put (d ∷ dims) ds h =
      go (moved m d) (all_moved at m bound dims) (controls d) (λ es e. moved_put dims es e) h
    where
      go : (o : Option Control) (r : Option (List Control)) → IfSome o (λ f. f ≡ put_control put d)
          → ((es : List Control) → r ≡ Some es → es ≡ put_controls put dims)
          → both (λ e es. e ∷ es) o r ≡ Some ds → ds ≡ put_controls put (d ∷ dims)
      go None r i rest k = absurd (none_some k)
      go (Some c) None i rest k = absurd (none_some k)
      go (Some c) (Some es) i rest k =
          sym (some_injective (c ∷ es) ds k) ∙ ap₂ ◌∷◌ i (rest es refl)

  names_one : (y : ℕ) (us : List Use) → all_of_name at m bound y us ≡ true
      → Each (λ u. u.name ≡ y) us
  names_one y [] h = tt
  names_one y (u ∷ us) h =
      let p = and_parts (u.name == y) (all_of_name at m bound y us) h in
      (eqb-true u.name y p.0, names_one y us p.1)

  fitting_spots : (listed : List Bool) (u : Use) (us : List Use) (ss : List Spot)
      → fitting at m bound listed u us ≡ Some ss
      → spots at m bound listed u.ours u.theirs ≡ Some ss
  fitting_spots listed u us ss h = go (spots at m bound listed u.ours u.theirs) h
    where
      chosen : (t : Bool) (rs : List Spot) → (if t then Some rs else None) ≡ Some ss
          → Some rs ≡ Some ss
      chosen true rs k = k
      chosen false rs k = absurd (none_some k)

      go : (o : Option (List Spot)) → elim o [
        | None ↦ None
        | Some rs ↦ if are_free at m bound rs && all_as at m bound listed rs us then Some rs
            else None
      ] ≡ Some ss → o ≡ Some ss
      go None k = absurd (none_some k)
      go (Some rs) k = chosen (are_free at m bound rs && all_as at m bound listed rs us) rs k

  spots_affine : (scene : Scene) → Sees known scene → ReadsHere at scene → (listed : List Bool) (u : Use)
      (ss : List Spot) → spots at m bound listed u.ours u.theirs ≡ Some ss
      → are_moved_of_known known (coords_moved m u.ours) ≡ true → are_of_known known u.theirs ≡ true
      → OfSpots (IsAffine (standing scene)) ss
  spots_affine scene sees reads listed u ss e h k =
      go (coords_moved m u.ours)
      (subst (λ o. IfSome o (λ rs. IfSome (coords_moved m u.ours) (λ cs.
      OfCoords (IsAffine (standing scene)) cs → OfCoords (IsAffine (standing scene)) u.theirs
      → OfSpots (IsAffine (standing scene)) rs))) e
      (spotted (standing scene) at m bound scene reads listed u.ours u.theirs)) h
    where
      go : (q : Option (List Coord)) → IfSome q (λ cs.
          OfCoords (IsAffine (standing scene)) cs → OfCoords (IsAffine (standing scene)) u.theirs
          → OfSpots (IsAffine (standing scene)) ss) → are_moved_of_known known q ≡ true
          → OfSpots (IsAffine (standing scene)) ss
      go None i j = no j
      go (Some cs) i j = i (wide_coords known scene sees cs j) (wide_coords known scene sees u.theirs k)

  -- the access on the argument
  abbrev OnArgument : ℕ → ℕ → List Control → Use → Argument → Type 0
  OnArgument x y dims u a =
      (root_in a x ≡ y)
      × ((scene : Scene) → Sees known scene → ReadsHere at scene
      → SameCoords scene (joined_coords (coords_of a) (put_coords put u.ours)) u.theirs)
      × ((scene : Scene) → Sees known scene → ReadsHere at scene → u.ours ≡ whole_of dims
      → is_window a ≡ true → OfCoords (IsRead at scene) (coords_of a)
      → SameCoords scene (joined_coords (coords_of a) (put_coords put u.ours)) (coords_of a))

  on_window : (x y : ℕ) (dims : List Control) (u : Use) (cs : List Coord)
      → ((scene : Scene) → Sees known scene → ReadsHere at scene
      → SameCoords scene (joined_coords cs (put_coords put u.ours)) u.theirs)
      → ((scene : Scene) → Sees known scene → ReadsHere at scene → u.ours ≡ whole_of dims
      → OfCoords (IsRead at scene) cs
      → SameCoords scene (joined_coords cs (put_coords put u.ours)) cs)
      → OnArgument x y dims u (window_of at m bound y cs)
  on_window x y dims u [] h k = (refl, h, λ scene sees reads whole w j. no w)
  on_window x y dims u (c ∷ cs) h k = (refl, h, λ scene sees reads whole w j. k scene sees reads whole j)

  by_argument : (P : Argument → Type 0) (whole : Bool) (b : Buffer) (y : ℕ) (ds : List Control)
      (ss : List Spot) (a : Argument)
      → P (window_of at m bound y (coords_from at m bound ss ds))
      → (are_at_zero at m bound ss ≡ true → P (Whole y))
      → argument_from at m bound whole b y ds ss ≡ Some a → P a
  by_argument P false b y ds ss a window name h =
      subst P (some_injective (window_of at m bound y (coords_from at m bound ss ds)) a h) window
  by_argument P true b y ds ss a window name h =
      go (b.tensor && are_at_zero at m bound ss) refl h
    where
      go : (t : Bool) → (b.tensor && are_at_zero at m bound ss) ≡ t
          → (if t then Some (Whole y) else None) ≡ Some a → P a
      go false e k = absurd (none_some k)
      go true e k =
          subst P (some_injective (Whole y) a k)
          (name (and_parts b.tensor (are_at_zero at m bound ss) e).1)

  one_use : (x y : ℕ) (u : Use) (a : Argument) (whole : Bool) (b : Buffer)
      (dims ds : List Control) (ss : List Spot) → use_stands known m dims u ≡ true → u.name ≡ y
      → all_moved at m bound dims ≡ Some ds → offsets ss ≡ length ds
      → ((scene : Scene) → Sees known scene → ReadsHere at scene → OfSpots (IsAffine (standing scene)) ss)
      → ((scene : Scene) → Sees known scene → ReadsHere at scene
      → IsComposed (standing scene) m scene (length ds) (coords_from at m bound ss ds) u)
      → argument_from at m bound whole b y ds ss ≡ Some a → put.name x ≡ a
      → UseMeets at known put x dims u
  one_use x y u a whole b dims ds ss st name moves count affine composed from is =
      let p = and_parts (length dims == length u.ours)
      (are_moved_of_known known (coords_moved m u.ours) && are_of_known known u.theirs) st in
      let q = and_parts (are_moved_of_known known (coords_moved m u.ours))
      (are_of_known known u.theirs) p.1 in
      let rank = moved_length at m bound dims ds moves ∙ eqb-true (length dims) (length u.ours) p.0 in
      let on = by_argument (OnArgument x y dims u) whole b y ds ss a
      (on_window x y dims u (coords_from at m bound ss ds) (λ scene sees reads. core q.0 q.1 (sym rank)
      scene sees (composed scene sees reads)) (own q.0))
      (λ zero. (
        refl,
        λ scene sees reads. whole_coords at m bound scene reads ss ds
            (put_coords put u.ours) u.theirs zero (affine scene sees reads)
            (put_length put u.ours ∙ sym rank)
            (core q.0 q.1 (sym rank) scene sees (composed scene sees reads)),
        λ scene sees reads whole w j. no w,
      )) from in
      let there = subst (OnArgument x y dims u) (sym is) on in
      (there.0 ∙ sym name, there.1, there.2)
    where
      own : are_moved_of_known known (coords_moved m u.ours) ≡ true → (scene : Scene)
          → Sees known scene → ReadsHere at scene → u.ours ≡ whole_of dims
          → OfCoords (IsRead at scene) (coords_from at m bound ss ds)
          → SameCoords scene (joined_coords (coords_from at m bound ss ds) (put_coords put u.ours))
          (coords_from at m bound ss ds)
      own moves_known scene sees reads is_whole j =
          subst (λ r. SameCoords scene (joined_coords (coords_from at m bound ss ds) r)
          (coords_from at m bound ss ds)) (sym same)
          (own_coords at m bound scene reads ss ds count
          (subst (λ r. OfCoords (IsAffine (standing scene)) r) same
          (go (coords_moved m u.ours) moves_known (coords_are m put controls u.ours)))
          (affine_coords at scene (coords_from at m bound ss ds) j))
        where
          same : put_coords put u.ours ≡ whole_of ds
          same = ap (put_coords put) is_whole ∙ put_whole put dims
              ∙ ap whole_of (sym (moved_put dims ds moves))

          go : (o : Option (List Coord)) → are_moved_of_known known o ≡ true
              → IfSome o (λ cs. cs ≡ put_coords put u.ours)
              → OfCoords (IsAffine (standing scene)) (put_coords put u.ours)
          go None k i = no k
          go (Some cs) k i =
              subst (λ r. OfCoords (IsAffine (standing scene)) r) i (wide_coords known scene sees cs k)

      core : are_moved_of_known known (coords_moved m u.ours) ≡ true
          → are_of_known known u.theirs ≡ true → length u.ours ≡ length ds → (scene : Scene) → Sees known scene
          → IsComposed (standing scene) m scene (length ds) (coords_from at m bound ss ds) u
          → SameCoords scene (joined_coords (coords_from at m bound ss ds) (put_coords put u.ours))
          u.theirs
      core moves plain long scene sees composed =
          go (coords_moved m u.ours) moves composed (coords_are m put controls u.ours)
        where
          go : (q : Option (List Coord)) → are_moved_of_known known q ≡ true
              → IfSome q (λ cs. length u.ours ≡ length ds
              → OfCoords (IsAffine (standing scene)) cs
              → OfCoords (IsAffine (standing scene)) u.theirs
              → SameCoords scene (joined_coords (coords_from at m bound ss ds) cs) u.theirs)
              → IfSome q (λ cs. cs ≡ put_coords put u.ours)
              → SameCoords scene (joined_coords (coords_from at m bound ss ds)
              (put_coords put u.ours)) u.theirs
          go None k i e = no k
          go (Some cs) k i e =
              subst (λ r. SameCoords scene (joined_coords (coords_from at m bound ss ds) r)
              u.theirs) e (i long (wide_coords known scene sees cs k) (wide_coords known scene sees u.theirs plain))

  uses_meet : (x y : ℕ) (us : List Use) (a : Argument) (whole : Bool) (b : Buffer)
      (dims ds : List Control) (ss : List Spot) → Each (λ u. use_stands known m dims u ≡ true) us
      → Each (λ u. u.name ≡ y) us → all_moved at m bound dims ≡ Some ds → offsets ss ≡ length ds
      → ((scene : Scene) → Sees known scene → ReadsHere at scene → OfSpots (IsAffine (standing scene)) ss)
      → ((scene : Scene) → Sees known scene → ReadsHere at scene
      → Each (IsComposed (standing scene) m scene (length ds) (coords_from at m bound ss ds)) us)
      → argument_from at m bound whole b y ds ss ≡ Some a → put.name x ≡ a
      → Each (UseMeets at known put x dims) us
  uses_meet x y [] a whole b dims ds ss st name moves count affine composed from is = tt
  uses_meet x y (u ∷ us) a whole b dims ds ss st name moves count affine composed from is = (
    one_use x y u a whole b dims ds ss st.0 name.0 moves count affine
        (λ scene sees reads. (composed scene sees reads).0) from is,
    uses_meet x y us a whole b dims ds ss st.1 name.1 moves count affine
        (λ scene sees reads. (composed scene sees reads).1) from is,
  )

  fitting_meets : (x : ℕ) (whole : Bool) (dims : List Control) (theirs : Names)
      (uses : List Use) (a : Argument)
      → IsFitting at m bound whole dims theirs uses a → put.name x ≡ a
      → Each (λ u. use_stands known m dims u ≡ true) uses
      → Each (UseMeets at known put x dims) uses
  fitting_meets x whole dims theirs uses a f is st =
      let all = subst (Each (λ u. use_stands known m dims u ≡ true)) f.uses_are st in
      let p = and_parts (length dims == length f.first.ours)
      (are_moved_of_known known (coords_moved m f.first.ours) && are_of_known known f.first.theirs)
      all.0 in
      let q = and_parts (are_moved_of_known known (coords_moved m f.first.ours))
      (are_of_known known f.first.theirs) p.1 in
      let spotted_so = fitting_spots f.listed f.first f.others f.spots f.fits in
      let affine : (scene : Scene) → Sees known scene → ReadsHere at scene
      → OfSpots (IsAffine (standing scene)) f.spots
      = λ scene sees reads. spots_affine scene sees reads f.listed f.first f.spots spotted_so q.0 q.1 in
      let count : offsets f.spots ≡ length f.dimensions
      = subst (λ o. IfSome o (λ ss. offsets ss ≡ length f.first.ours)) spotted_so
      (counted at m bound f.listed f.first.ours f.first.theirs)
      ∙ sym (eqb-true (length dims) (length f.first.ours) p.0)
      ∙ sym (moved_length at m bound dims f.dimensions f.dimensions_are) in
      subst (Each (UseMeets at known put x dims)) (sym f.uses_are)
      (uses_meet x f.first.name (f.first ∷ f.others) a whole f.buffer dims f.dimensions f.spots
      all (refl, names_one f.first.name f.others f.one_name) f.dimensions_are count affine
      (λ scene sees reads. fitting_law (standing scene) at m bound scene f.listed f.first f.others
      f.spots f.dimensions f.fits reads (affine scene sees reads)) f.argument is)

-- ---- the walk's numbers

none_is : {A : Type 0} (P : A → Type 0) (o : Option A) → o ≡ None → IfSome o P
none_is P None h = tt
none_is P (Some a) h = absurd (none_some (sym h))

module _ (par : ℕ → Bool) where
  abbrev IsNumber : Known → Type 0
  IsNumber k = (par k.param ≡ true) × ((n : ℕ) → stride_in (Some k.argument) n ≡ None)

  if_number : (a : Argument) → ((n : ℕ) → stride_in (Some a) n ≡ None) → (o : Option ℕ)
      → IfSome (known_if par a o) IsNumber
  if_number a h None = tt
  if_number a h (Some x) = go (par x) refl
    where
      go : (t : Bool) → par x ≡ t
          → IfSome (if t then Some (record { param = x; argument = a }) else None) IsNumber
      go true e = (e, h)
      go false e = tt

  by_number : (a : Pair) → IfSome (known_by par a) IsNumber
  by_number (Numbers p true e g) = if_number (ControlArg g) (λ n. refl) (variable_of e)
  by_number (Numbers p false e g) = tt
  by_number (Truths p true c d) = if_number (ConditionArg d) (λ n. refl) (flag_of c)
  by_number (Truths p false c d) = tt
  by_number (Binders x y) = tt
  by_number (Own p x y) = tt
  by_number (Access p x cs y ds) = tt
  by_number (Unlike p) = tt

  abbrev IsFound : ℕ → Argument → Type 0
  IsFound x a = (par x ≡ true) × ((n : ℕ) → stride_in (Some a) n ≡ None)

  found_number : (pairs : List Pair) (x : ℕ) → IfSome (argument_in par pairs x) (IsFound x)
  found_number [] x = tt
  found_number (a ∷ pairs) x = go (known_by par a) (by_number a) (found_number pairs x)
    where
      this : (k : Known) (t : Bool) → (k.param == x) ≡ t → IsNumber k
          → IfSome (argument_in par pairs x) (IsFound x)
          → IfSome (elim (if t then Some k.argument else None) [
            | None ↦ argument_in par pairs x
            | Some argument ↦ Some argument
          ]) (IsFound x)
      this k true e h rest = (ap par (sym (eqb-true k.param x e)) ∙ h.0, h.1)
      this k false e h rest = rest

      go : (o : Option Known) → IfSome o IsNumber
          → IfSome (argument_in par pairs x) (IsFound x)
          → IfSome (elim (argument_if x o) [
            | None ↦ argument_in par pairs x
            | Some argument ↦ Some argument
          ]) (IsFound x)
      go None h rest = rest
      go (Some k) h rest = this k (k.param == x) refl h rest

ok_same : (a b : Argument) (o : Option Argument) (p : Path) → o ≡ Some a → or_differs p o ≡ Ok b
    → a ≡ b
ok_same a b o p e h = one a b (sym (ap (or_differs p) e) ∙ h)
  where
    one : (a b : Argument) → or_differs p (Some a) ≡ Ok b → a ≡ b
    one a b h = cc

ok_some : (b : Argument) (o : Option Argument) (p : Path) → or_differs p o ≡ Ok b → o ≡ Some b
ok_some b None p h = cc
ok_some b (Some a) p h = cc

-- ---- the arguments of parameters

module _ (at : Reading) (theirs : Names) (block : Block) (q : Procedure) where
  abbrev found : ℕ → Option Argument
  found = argument_in (params at theirs block q) (walk at theirs block q)

  abbrev Given : List Param → List Argument → Type 0
  Given = AreGiven at theirs block q

  abbrev BufferGiven : Put → ℕ → List Control → Type 0
  BufferGiven put x dims =
      (tensor : Bool) × (a : Argument)
      × (buffer_argument at theirs block q x dims tensor ≡ Ok a) × (put.name x ≡ a)

  buffer_given : (ps : List Param) (args : List Argument) (x : ℕ) (dims : List Control)
      → Given ps args → dims_of ps x ≡ Some dims → BufferGiven (puts ps args) x dims
  buffer_given [] args x dims h e = absurd (none_some e)
  buffer_given (p ∷ ps) [] x dims h e = absurd h
  buffer_given (p ∷ ps) (a ∷ args) x dims h e =
      go p.kind a h.0 (buffer_given ps args x dims h.1) e
    where
      named : (tensor : Bool) (own : List Control) (a : Argument) (t : Bool)
          → (x == p.binder.id) ≡ t
          → buffer_argument at theirs block q p.binder.id own tensor ≡ Ok a
          → (dims_of ps x ≡ Some dims → BufferGiven (puts ps args) x dims)
          → (if t then Some own else dims_of ps x) ≡ Some dims
          → (tensor : Bool) × (b : Argument)
          × (buffer_argument at theirs block q x dims tensor ≡ Ok b)
          × ((if t then a else (puts ps args).name x) ≡ b)
      named tensor own a true i k rest j = (
        tensor,
        a,
        ap₂ (λ y ds. buffer_argument at theirs block q y ds tensor) (eqb-true x p.binder.id i)
            (sym (some_injective own dims j)) ∙ k,
        refl,
      )
      named tensor own a false i k rest j = rest j

      go : (kind : ParamKind) (a : Argument)
          → argument_for at theirs block q p.binder.id kind ≡ Ok a
          → (dims_of ps x ≡ Some dims → BufferGiven (puts ps args) x dims)
          → dims_if kind (x == p.binder.id) (dims_of ps x) ≡ Some dims
          → BufferGiven (with_put p.binder.id kind a (puts ps args)) x dims
      go (ControlParam kind) (ControlArg c) k rest j = rest j
      go (ControlParam kind) (ConditionArg c) k rest j = rest j
      go (ControlParam kind) (Whole y) k rest j = rest j
      go (ControlParam kind) (Window y cs) k rest j = rest j
      go (TensorParam cell own memory) a k rest j =
          named true own a (x == p.binder.id) refl k rest j
      go (WindowParam cell own memory) a k rest j =
          named false own a (x == p.binder.id) refl k rest j

  control_given : (ps : List Param) (args : List Argument) (x : ℕ) (a : Argument)
      → Given ps args → are_of_kinds ps args ≡ true → numbers_are_numbers found ps ≡ true
      → is_buffer_of x ps ≡ true → found x ≡ Some a → GivenIs (puts ps args) x (Some a)
  control_given [] args x a h s n i e = no i
  control_given (p ∷ ps) [] x a h s n i e = absurd h
  control_given (p ∷ ps) (b ∷ args) x a h s n i e =
      let fit = and_parts (is_of_kind p.kind b) (are_of_kinds ps args) s in
      let own = and_parts (no_buffer p.kind (found p.binder.id)) (numbers_are_numbers found ps) n
      in
      go (x == p.binder.id) refl fit.0 own.0
      (λ j. control_given ps args x a h.1 fit.1 own.1 j e) i
    where
      this : (kind : ParamKind) → argument_for at theirs block q p.binder.id kind ≡ Ok b
          → found p.binder.id ≡ Some a → no_buffer kind (found p.binder.id) ≡ true → a ≡ b
      this (ControlParam kind) k f m = ok_same a b (found p.binder.id) [] f k
      this (TensorParam cell dims memory) k f m =
          no (ap (no_buffer (TensorParam cell dims memory)) (sym f) ∙ m)
      this (WindowParam cell dims memory) k f m =
          no (ap (no_buffer (WindowParam cell dims memory)) (sym f) ∙ m)

      go : (t : Bool) → (x == p.binder.id) ≡ t → is_of_kind p.kind b ≡ true
          → no_buffer p.kind (found p.binder.id) ≡ true
          → (is_buffer_of x ps ≡ true → GivenIs (puts ps args) x (Some a))
          → (t || is_buffer_of x ps) ≡ true
          → GivenIs (with_put p.binder.id p.kind b (puts ps args)) x (Some a)
      go true j k m rest i =
          let same = this p.kind h.0 (ap found (sym (eqb-true x p.binder.id j)) ∙ e) m in
          subst (λ c. GivenIs (with_put p.binder.id p.kind b (puts ps args)) x (Some c)) (sym same)
          (first_is p.binder.id p.kind b (puts ps args) x k j)
      go false j k m rest i =
          later_is p.binder.id p.kind b (puts ps args) x (Some a) j (rest i)

  -- ---- the walk's expressions are those of the inlined body

  module _ (args : List Argument) (h : Given q.params args)
      (s : are_of_kinds q.params args ≡ true) (n : numbers_are_numbers found q.params ≡ true)
      (own : HasBlockIds at theirs block q) where
    abbrev put : Put
    put = puts q.params args

    abbrev par : ℕ → Bool
    par x = is_buffer_of x q.params

    keeps : Keeps par put
    keeps = puts_keep par q.params args (λ x k. k)

    is_found : (x : ℕ) → IfSome (found x) (IsFound par x)
    is_found x = found_number par (walk at theirs block q) x

    given_found : (x : ℕ) (a : Argument) → found x ≡ Some a → par x ≡ true
        → GivenIs put x (Some a)
    given_found x a e i = control_given q.params args x a h s n i e

    walk_variable : (x : ℕ)
        → IfSome ((by_walk at theirs block q).variable x) (λ f. f ≡ put.variable x)
    walk_variable x = go (par x) refl
      where
        of_param : par x ≡ true → (o : Option Argument) → found x ≡ o
            → IfSome (number_in o) (λ f. f ≡ put.variable x)
        of_param i None e = tt
        of_param i (Some a) e = (given_found x a e i).0

        own_one : par x ≡ false → (o : Option ℕ) → to at theirs block q x ≡ o
            → IfSome (variable_for o) (λ f. f ≡ put.variable x)
        own_one e None i = tt
        own_one e (Some y) i = ap Var (sym (own x y i)) ∙ sym (keeps.variable x e)

        go : (t : Bool) → par x ≡ t
            → IfSome (if t then number_in (found x) else variable_for (to at theirs block q x))
            (λ f. f ≡ put.variable x)
        go true e = of_param e (found x) refl
        go false e = own_one e (to at theirs block q x) refl

    walk_stride : (x k : ℕ) → IfSome ((by_walk at theirs block q).stride x k)
        (λ f. f ≡ put_control put (StrideOf x k))
    walk_stride x k = go (par x) refl
      where
        of_param : (o : Option Argument) → IfSome o (IsFound par x)
            → IfSome (stride_in o k) (λ f. f ≡ put_control put (StrideOf x k))
        of_param None e = tt
        of_param (Some a) e =
            none_is (λ f. f ≡ put_control put (StrideOf x k)) (stride_in (Some a) k) (e.1 k)

        own_one : par x ≡ false → (o : Option ℕ) → to at theirs block q x ≡ o
            → IfSome (stride_for o k) (λ f. f ≡ put_control put (StrideOf x k))
        own_one e None i = tt
        own_one e (Some y) i =
            ap (λ z. StrideOf z k) (sym (own x y i))
            ∙ ap (stride_under x k) (sym (keeps.name x e))

        go : (t : Bool) → par x ≡ t
            → IfSome (if t then stride_in (found x) k else stride_for (to at theirs block q x) k)
            (λ f. f ≡ put_control put (StrideOf x k))
        go true e = of_param (found x) (is_found x)
        go false e = own_one e (to at theirs block q x) refl

    walk_flag : (x : ℕ)
        → IfSome ((by_walk at theirs block q).flag x) (λ c. c ≡ put.flag x)
    walk_flag x = go (found x) refl (is_found x)
      where
        go : (o : Option Argument) → found x ≡ o → IfSome o (IsFound par x)
            → IfSome (truth_in o) (λ c. c ≡ put.flag x)
        go None e i = tt
        go (Some a) e i = (given_found x a e i.0).1

    walk_is_put : (e : Control)
        → IfSome (moved (by_walk at theirs block q) e) (λ f. f ≡ put_control put e)
    walk_is_put e =
        control_is (by_walk at theirs block q) put walk_variable walk_stride walk_flag e

-- ---- each pair meets

known_has : {A : Type 0} (P : Type 0) (o : Option A) → is_known o ≡ true → IfSome o (λ a. P) → P
known_has P None h k = no h
known_has P (Some a) h k = k

module _ (at : Reading) (known : ℕ → Bool) (by m : Moving) (put : Put) (ps : List Param)
    (ours : Names)
    (named : (x : ℕ) (dims : List Control) → dims_of ps x ≡ Some dims → extents_of (ours x) ≡ dims) where
  abbrev StandUses : List Pair → Type 0
  StandUses pairs =
      (x : ℕ) (dims : List Control) → dims_of ps x ≡ Some dims
      → Each (λ u. use_stands known by dims u ≡ true) (uses_of x pairs)

  stand_uses : (pairs : List Pair) → all_stand known by m ps pairs ≡ true → StandUses pairs
  stand_uses [] h x dims e = tt
  stand_uses (a ∷ pairs) h x dims e =
      let p = and_parts (stands known by m ps a) (all_stand known by m ps pairs) h in
      first a p.0 (stand_uses pairs p.1 x dims e)
    where
      Those : List Use → Type 0
      Those = Each (λ u. use_stands known by dims u ≡ true)

      joined : (us : List Use) → Those us → Those (uses_of x pairs) → Those (us ++ uses_of x pairs)
      joined [] i rest = rest
      joined (u ∷ us) i rest = (i.0, joined us i.1 rest)

      by_name : (u : Use) (y : ℕ) (t : Bool) → (y == x) ≡ t
          → (has_length (length u.ours) (dims_of ps y)
          && (are_moved_of_known known (coords_moved by u.ours) && are_of_known known u.theirs)) ≡ true
          → Those (if t then u ∷ [] else [])
      by_name u y true i k = (
        subst (λ o. (has_length (length u.ours) o
            && (are_moved_of_known known (coords_moved by u.ours) && are_of_known known u.theirs)) ≡ true)
            (ap (dims_of ps) (eqb-true y x i) ∙ e) k,
        tt,
      )
      by_name u y false i k = tt

      first : (a : Pair) → stands known by m ps a ≡ true → Those (uses_of x pairs)
          → Those (use_in x a ++ uses_of x pairs)
      first (Numbers p whole b g) i rest = rest
      first (Truths p whole c d) i rest = rest
      first (Binders b c) i rest = rest
      first (Own p b c) i rest = rest
      first (Access p y cs z ds) i rest =
          let u : Use
          = record { path = p; ours = cs; name = z; theirs = ds } in
          joined (if y == x then u ∷ [] else []) (by_name u y (y == x) refl i) rest
      first (Unlike p) i rest = rest

  abbrev UsesMeet : List Pair → Type 0
  UsesMeet pairs =
      (x : ℕ) (dims : List Control) → dims_of ps x ≡ Some dims
      → Each (UseMeets at known put x dims) (uses_of x pairs)

  pair_meets : (a : Pair) → Agrees at m put a → stands known by m ps a ≡ true → has_one_id a ≡ true
      → ((x : ℕ) (dims : List Control) → dims_of ps x ≡ Some dims
      → Each (UseMeets at known put x dims) (use_in x a)) → Meets at known put ours a
  pair_meets (Numbers p whole e g) h i j u =
      known_has (agree at (put_control put e) g ≡ true) (moved m e) i h
  pair_meets (Truths p whole c d) h i j u =
      known_has (conditions_agree at (put_condition put c) d ≡ true) (moved_condition m c) i h
  pair_meets (Binders x y) h i j u = eqb-true x y j
  pair_meets (Own p x y) h i j u = h
  pair_meets (Access p x cs y ds) h i j u = go (dims_of ps x) refl
      (and_parts (has_length (length cs) (dims_of ps x))
      (are_moved_of_known known (coords_moved by cs) && are_of_known known ds) i).0
    where
      this : Use
      this = record { path = p; ours = cs; name = y; theirs = ds }

      it : (dims : List Control) (t : Bool) → t ≡ true
          → Each (UseMeets at known put x dims) (if t then this ∷ [] else [])
          → UseMeets at known put x dims this
      it dims true e k = k.0
      it dims false e k = no e

      go : (o : Option (List Control)) → dims_of ps x ≡ o → has_length (length cs) o ≡ true
          → Meets at known put ours (Access p x cs y ds)
      go None e k = no k
      go (Some dims) e k =
          let m = it dims (x == x) (eq-eqb x x refl) (u x dims e) in (
            m.0,
            m.1,
            λ scene sees reads whole. m.2 scene sees reads (whole ∙ ap whole_of (named x dims e)),
          )
  pair_meets (Unlike p) h i j u = h

  pairs_meet : (pairs : List Pair) → Each (Agrees at m put) pairs
      → all_stand known by m ps pairs ≡ true → have_one_id pairs ≡ true → UsesMeet pairs
      → Each (Meets at known put ours) pairs
  pairs_meet [] h i j u = tt
  pairs_meet (a ∷ pairs) h i j u =
      let p = and_parts (stands known by m ps a) (all_stand known by m ps pairs) i in
      let q = and_parts (has_one_id a) (have_one_id pairs) j in (
        pair_meets a h.0 p.0 q.0 (λ x dims e.
            (each_split (UseMeets at known put x dims) (use_in x a) (uses_of x pairs) (u x dims e)).0),
        pairs_meet pairs h.1 p.1 q.1 (λ x dims e.
            (each_split (UseMeets at known put x dims) (use_in x a) (uses_of x pairs) (u x dims e)).1),
      )

-- ---- the law

module _ (at : Reading) (theirs : Names) (block : Block) (q : Procedure) (args : List Argument)
    (known : ℕ → Bool) (found_it : matched at theirs block q ≡ Arguments args)
    (may : MayMatch at theirs block q args known) where
  abbrev argument_put : Put
  argument_put = puts q.params args

  abbrev those : List Pair
  those = all_pairs at theirs block q

  block_ids : HasBlockIds at theirs block q
  block_ids x y h = one_id those x y may.binders h

  it : IsMatch at theirs block q args
  it = matched_fits at theirs block q args found_it

  those_uses : UsesMeet at known (by_walk at theirs block q) (given_names at theirs block q args)
      argument_put q.params (names_of q) may.named those
  those_uses x dims e =
      let g = buffer_given at theirs block q q.params args x dims it.given e in
      let uses = uses_of x (walk at theirs block q) in
      let whole = g.0 && nat_lt 0 (length dims) in
      let some = ok_some g.1 (argument_of at (by_walk at theirs block q) (has_binder block) whole
      dims theirs uses) (first_path uses) g.2 in
      let fit = argument_fits at (by_walk at theirs block q) (has_binder block) whole dims theirs
      uses g.1 some in
      let here = stand_uses at known (by_walk at theirs block q) (given_names at theirs block q args)
      argument_put q.params (names_of q) may.named those may.stand x dims e in
      subst (λ pairs. Each (UseMeets at known argument_put x dims) (uses_of x pairs)) it.walked
      (fitting_meets at known (by_walk at theirs block q) (has_binder block) argument_put
      (walk_is_put at theirs block q args it.given may.kinds may.numbers block_ids)
      x whole dims theirs uses g.1 fit g.3
      (subst (λ pairs. Each (λ u. use_stands known (by_walk at theirs block q) dims u ≡ true)
      (uses_of x pairs)) (sym it.walked) here))

  those_meet : Each (Meets at known argument_put (names_of q)) those
  those_meet =
      pairs_meet at known (by_walk at theirs block q) (given_names at theirs block q args) argument_put
      q.params (names_of q) may.named those (matched_agrees at theirs block q args found_it block_ids may.kinds)
      may.stand may.binders those_uses

  puts_params : PutsParams (params at theirs block q) argument_put
  puts_params = record {
    views = λ x. views_put q.params args x may.kinds;
    own = λ x e. (puts_keep (λ y. is_buffer_of y q.params) q.params args (λ y k. k)).name x e;
  }

pub match_law : MatchLaw
match_law world at theirs block q args known s e may sees read =
    let same = at_once q.params args q.body (suit_kinds q.params args may.kinds) may.apart in
    subst (λ b. SameAlong world (nameless block) (nameless b) s) (sym same)
    (meets_along world at known (puts q.params args) (params at theirs block q) (has_binder block)
    (names_of q) theirs q.body block s (puts_params at theirs block q args known e may)
    (those_meet at theirs block q args known e may) may.calls may.strides sees read)

pub match_runs : MatchRuns
match_runs world at theirs block q args known s e may sees read =
    let body = inlined q.params args q.body in
    ap (λ f. f s) (sym (run_nameless world block))
    ∙ along_law world (nameless block) (nameless body) s
    (match_law world at theirs block q args known s e may sees read)
    ∙ ap (λ f. f s) (run_nameless world body)
