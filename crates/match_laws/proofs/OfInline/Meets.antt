-- A block does what a callee's body does, where each pair of their walk meets.
use Rattle.std.proofs.Common.{◌≡◌, ◌∙◌, ◌⊎◌, inl, inr, ℕ, suc, ◌+ℤ◌, ◌-ℤ◌, ◌*ℤ◌, ◌==◌, pos}
use Rattle.std.proofs.Common.{Bool, true, false, ◌&&◌, ◌||◌, if◌then◌else◌, List, [], ◌∷◌, ◌++◌, Option}
use Rattle.std.proofs.Common.{Some, None, option_map, refl, sym, ap, ap₂, subst, true≢false}
use Rattle.std.proofs.Common.{eqb-true}
use Rattle.std.specs.Ordering.{int_eq}
use Rattle.exo_tree.specs.Tree.{Binder, Control, Condition, Datum, Const, Read, Negated, Relu, Plus}
use Rattle.exo_tree.specs.Tree.{Minus, Times, Select, Coord, At, Span, Argument, ControlArg}
use Rattle.exo_tree.specs.Tree.{ConditionArg, Whole, Window, Statement, Assign, Reduce, Config}
use Rattle.exo_tree.specs.Tree.{Pass, If, For, Alloc, View, Call, Block, end, next}
use Rattle.exo_tree.specs.Places.{Branch, Main, Else, Path}
use Rattle.exo_meaning.specs.Orders.{Each}
use Rattle.exo_meaning.specs.Value.{Value, Number, on_two, on_one, on_four, relu, selected}
use Rattle.exo_meaning.specs.Scene.{Scene, then_do, number, numbers, holds, window, where_true}
use Rattle.exo_meaning.specs.State.{State, Place, place, held, put as put_at, value, on_scene}
use Rattle.exo_meaning.specs.State.{with_field, with_view, with_control}
use Rattle.exo_meaning.specs.Calls.{Given, GivenNumber, GivenView, given, all_given, truth, suits}
use Rattle.exo_meaning.specs.Run.{World, step, turns_of, argument_number, allocate, call_to}
use Rattle.affine_forms.specs.Forms.{Reading}
use Rattle.affine_forms.proofs.Values.{and_parts, int_eq_same}
use Rattle.inplace_laws.specs.Along.{SameAlong, both_end, both_next, SameThere, at_once}
use Rattle.inplace_laws.specs.Along.{in_branches, in_turns}
use Rattle.inplace_laws.specs.Inline.{is_view}
use Rattle.inplace_laws.specs.Windows.{shifted, joined_coords, root_in, coords_of}
use Rattle.match_laws.specs.Simplify.SameControls.{OfControls, OfCondition, OfDatum, OfCoords, OfArgument}
use Rattle.match_laws.specs.Simplify.SameControls.{OfArguments, OfStatement}
use Rattle.match_laws.specs.Simplify.SimplifiedBlocks.{IsRead}
use Rattle.match_laws.specs.Names.{Names, extents_of, whole_of}
use Rattle.match_laws.specs.Fitting.{SameCoords}
use Rattle.match_laws.specs.Moved.{agree, conditions_agree}
use Rattle.match_laws.specs.Pairs.{Pair, Binders, Own, Access, Unlike}
use Rattle.exo_tree.specs.Cells.{same_cell, same_cell_is}
use Rattle.match_laws.specs.Pairs.{same_cells, points, controls_paired, coords_paired}
use Rattle.match_laws.specs.Pairs.{param_paired, access_paired, wholes_paired, whole_paired}
use Rattle.match_laws.specs.Pairs.{window_paired, data_paired, argument_paired}
use Rattle.match_laws.specs.Pairs.{arguments_paired, step_to, blocks_paired, statements_paired}
use Rattle.match_laws.specs.Alike.{nameless, nameless_statement, nameless_binder}
use Rattle.match_laws.proofs.Alike.{numbers_agree, conditions_same, calls_same}
use Rattle.match_laws.proofs.Alike.{step_same}
use Rattle.match_laws.proofs.OfSimplify.Along.{Along, Inside, along_of}
use Rattle.match_laws.proofs.Fitting.{same_windows, same_places}
use Rattle.match_laws.specs.Inline.AtOnce.{Put, put_control, put_controls, put_condition, put_index}
use Rattle.match_laws.specs.Inline.AtOnce.{put_datum, put_coords, put_window, put_argument}
use Rattle.match_laws.specs.Inline.AtOnce.{put_arguments, put_statement, put_block, root_for, coords_for}
use Rattle.meaning_laws.specs.Sound.{binds}
use Rattle.meaning_laws.proofs.Facts.{or_right}
use Rattle.match_laws.specs.Inline.Known.{IsOfKnown, known_behind, AreOfKnown, AreOfKnownWithin}
use Rattle.match_laws.specs.Inline.Known.{Sees, ReadsHere, IsReadIn, HasExtents, ArgumentHas}
use Rattle.match_laws.specs.Inline.Known.{CallHas, IsReadWith}
use Rattle.match_laws.proofs.OfInline.Known.{statement_read, step_sees, turn_sees}
use Rattle.match_laws.proofs.OfInline.Voids.{AreVoid, SameOrVoid, with_given, first_void, rest_void}
use Rattle.match_laws.proofs.OfInline.Voids.{void_call, whole_or_void}
use Rattle.match_laws.specs.Inline.Meets.{is_window, Meets, wholes_alike, all_wholes_alike}
use Rattle.match_laws.specs.Inline.Meets.{calls_alike_in, calls_alike, PutsParams, MeetsAlong}

no : {P : Type 0} → false ≡ true → P
no h = absurd (true≢false (sym h))

pub each_split : {T : Type 0} (P : T → Type 0) (xs ys : List T) → Each P (xs ++ ys)
    → Each P xs × Each P ys
each_split P [] ys h = (tt, h)
each_split P (x ∷ xs) ys h =
    let rest = each_split P xs ys h.1 in ((h.0, rest.0), rest.1)

points_put : (put : Put) (is : List Control)
    → put_coords put (points is) ≡ points (put_controls put is)
points_put put [] = refl
points_put put (i ∷ is) = ap (λ r. At (put_control put i) ∷ r) (points_put put is)

points_of : (P : Control → Type 0) (js : List Control) → OfControls P js → OfCoords P (points js)
points_of P [] h = tt
points_of P (j ∷ js) h = (h.0, points_of P js h.1)

shifted_of : (P : Control → Type 0) (cs : List Coord) (is : List Control)
    → OfControls P (shifted cs is) → OfCoords P (joined_coords cs (points is))
shifted_of P [] is h = points_of P is h
shifted_of P (At a ∷ cs) is h = (h.0, shifted_of P cs is h.1)
shifted_of P (Span a b ∷ cs) [] h = tt
shifted_of P (Span a b ∷ cs) (i ∷ is) h = (h.0, shifted_of P cs is h.1)

view_no_number : (scene : Scene) (a : Argument) → is_view a ≡ true
    → None ≡ argument_number scene a
view_no_number scene (ControlArg e) h = no h
view_no_number scene (ConditionArg c) h = no h
view_no_number scene (Whole y) h = refl
view_no_number scene (Window y cs) h = refl

-- names of binders do not matter for what is bound
nameless_binds : (a : Statement) (x : ℕ) → binds (nameless_statement a) x ≡ binds a x
nameless_binds (Assign y is e) x = refl
nameless_binds (Reduce y is e) x = refl
nameless_binds (Config f a) x = refl
nameless_binds Pass x = refl
nameless_binds (If c a b) x = refl
nameless_binds (For i lo hi b) x = refl
nameless_binds (Alloc y cell dims memory) x = refl
nameless_binds (View w y cs) x = refl
nameless_binds (Call k args) x = refl

old_sees : (known : ℕ → Bool) (a : Statement) (t : State) → Sees (known_behind a known) t.scene
    → Sees known t.scene
old_sees known a t sees x h = sees x (or_right (binds a x) (known x) h)

one_binder : (i j : Binder) → i.id ≡ j.id → nameless_binder i ≡ nameless_binder j
one_binder i j e = ap (λ (n : ℕ). record { id = n; name = [] }) e

module _ (at : Reading) (known : ℕ → Bool) (put : Put) (params bound : ℕ → Bool)
    (ours theirs : Names) (puts : PutsParams params put) where
  abbrev All : List Pair → Type 0
  All = Each (Meets at known put ours)

  -- ---- in one scene

  module _ (scene : Scene) (sees : Sees known scene) (reads : ReadsHere at scene) where
    abbrev Reads : Control → Type 0
    Reads = IsRead at scene

    number_meets : (e g : Control) → agree at (put_control put e) g ≡ true → Reads g
        → Reads (put_control put e) → number scene g ≡ number scene (put_control put e)
    number_meets e g h i j = sym (numbers_agree at scene (put_control put e) g h j i)

    controls_meet : (p : Path) (es gs : List Control)
        → All (controls_paired params bound ours theirs p es gs) → OfControls Reads gs
        → OfControls Reads (put_controls put es)
        → numbers scene gs ≡ numbers scene (put_controls put es)
    controls_meet p [] [] h i j = refl
    controls_meet p [] (g ∷ gs) h i j = absurd h.0
    controls_meet p (e ∷ es) [] h i j = absurd h.0
    controls_meet p (e ∷ es) (g ∷ gs) h i j =
        ap₂ ◌∷◌ (number_meets e g h.0 i.0 j.0) (controls_meet p es gs h.1 i.1 j.1)

    coords_meet : (p : Path) (cs ds : List Coord)
        → All (coords_paired params bound ours theirs p cs ds) → OfCoords Reads ds
        → OfCoords Reads (put_coords put cs) → SameCoords scene (put_coords put cs) ds
    coords_meet p [] [] h i j = tt
    coords_meet p [] (d ∷ ds) h i j = absurd h.0
    coords_meet p (At e ∷ cs) [] h i j = absurd h.0
    coords_meet p (Span e f ∷ cs) [] h i j = absurd h.0
    coords_meet p (At e ∷ cs) (At g ∷ ds) h i j =
        (sym (number_meets e g h.0 i.0 j.0), coords_meet p cs ds h.1 i.1 j.1)
    coords_meet p (At e ∷ cs) (Span g k ∷ ds) h i j = absurd h.0
    coords_meet p (Span e f ∷ cs) (At g ∷ ds) h i j = absurd h.0
    coords_meet p (Span e f ∷ cs) (Span g k ∷ ds) h i j = (
      sym (number_meets e g h.0 i.0 j.0),
      sym (number_meets f k h.1.0 i.1 j.1),
      coords_meet p cs ds h.1.1 i.2 j.2,
    )

    -- the access on what stands for the name
    abbrev SameAccess : ℕ → List Coord → ℕ → List Coord → Type 0
    SameAccess x cs y ds =
        (root_for put x ≡ y)
        × (OfCoords Reads ds → OfCoords Reads (put_window put x cs)
        → SameCoords scene (put_window put x cs) ds)

    access_meets : (p : Path) (x : ℕ) (cs : List Coord) (y : ℕ) (ds : List Coord)
        → All (access_paired params bound ours theirs p x cs y ds) → SameAccess x cs y ds
    access_meets p x cs y ds h =
        by_cells (same_cells (ours x) (theirs y)) h
      where
        by_bound : (t : Bool) → All (if t then Unlike p ∷ [] else Access p x cs y ds ∷ [])
            → SameAccess x cs y ds
        by_bound true k = absurd k.0
        by_bound false k = (k.0.0, λ i j. k.0.1 scene sees reads)

        by_param : (t : Bool) → params x ≡ t
            → All (if t then param_paired params bound ours theirs p x cs y ds
            else Own p x y ∷ coords_paired params bound ours theirs p cs ds)
            → SameAccess x cs y ds
        by_param true e k = by_bound (bound y) k
        by_param false e k = (
          ap (λ a. root_in a x) (puts.own x e) ∙ k.0,
          λ i j. subst (λ a. SameCoords scene (joined_coords (coords_of a) (put_coords put cs)) ds)
              (sym (puts.own x e)) (coords_meet p cs ds k.1 i
              (subst (λ a. OfCoords Reads (joined_coords (coords_of a) (put_coords put cs)))
              (puts.own x e) j)),
        )

        by_cells : (t : Bool)
            → All (if t then (if params x then param_paired params bound ours theirs p x cs y ds
            else Own p x y ∷ coords_paired params bound ours theirs p cs ds) else Unlike p ∷ [])
            → SameAccess x cs y ds
        by_cells true k = by_param (params x) refl k
        by_cells false k = absurd k.0

    place_meets : (p : Path) (x : ℕ) (is : List Control) (y : ℕ) (js : List Control)
        → All (access_paired params bound ours theirs p x (points is) y (points js))
        → OfControls Reads js → OfControls Reads (put_index put x is)
        → place scene y js ≡ place scene (root_for put x) (put_index put x is)
    place_meets p x is y js h i j =
        let it = access_meets p x (points is) y (points js) h in
        let window = ap (λ r. joined_coords (coords_for put x) r) (points_put put is) in
        let same = it.1 (points_of Reads js i) (subst (λ r. OfCoords Reads r) (sym window)
        (shifted_of Reads (coords_for put x) (put_controls put is) j)) in
        sym (same_places scene (root_for put x) (coords_for put x) (put_controls put is) js
        (subst (λ r. SameCoords scene r (points js)) window same)
        ∙ ap (λ z. place scene z js) it.0)

    window_meets : (p : Path) (x : ℕ) (cs : List Coord) (y : ℕ) (ds : List Coord)
        → All (access_paired params bound ours theirs p x cs y ds) → OfCoords Reads ds
        → OfCoords Reads (put_window put x cs)
        → window scene y ds ≡ window scene (root_for put x) (put_window put x cs)
    window_meets p x cs y ds h i j =
        let it = access_meets p x cs y ds h in
        sym (same_windows scene (root_for put x) (put_window put x cs) ds (it.1 i j)
        ∙ ap (λ z. window scene z ds) it.0)

    condition_meets : (c d : Condition) → conditions_agree at (put_condition put c) d ≡ true
        → OfCondition Reads d → OfCondition Reads (put_condition put c)
        → holds scene d ≡ holds scene (put_condition put c)
    condition_meets c d h i j = sym (conditions_same at scene (put_condition put c) d h j i)

    -- ---- what is given whole

    accessed : (p : Path) (x : ℕ) (cs : List Coord) (y : ℕ) (ds : List Coord) → params x ≡ true
        → All (access_paired params bound ours theirs p x cs y ds)
        → Meets at known put ours (Access p x cs y ds)
    accessed p x cs y ds mine h = by_cells (same_cells (ours x) (theirs y)) h
      where
        by_bound : (t : Bool) → All (if t then Unlike p ∷ [] else Access p x cs y ds ∷ [])
            → Meets at known put ours (Access p x cs y ds)
        by_bound true k = absurd k.0
        by_bound false k = k.0

        by_param : (t : Bool) → t ≡ true
            → All (if t then param_paired params bound ours theirs p x cs y ds
            else Own p x y ∷ coords_paired params bound ours theirs p cs ds)
            → Meets at known put ours (Access p x cs y ds)
        by_param true e k = by_bound (bound y) k
        by_param false e k = no e

        by_cells : (t : Bool)
            → All (if t then (if params x then param_paired params bound ours theirs p x cs y ds
            else Own p x y ∷ coords_paired params bound ours theirs p cs ds) else Unlike p ∷ [])
            → Meets at known put ours (Access p x cs y ds)
        by_cells true k = by_param (params x) mine k
        by_cells false k = absurd k.0

    same_both : (as' bs cs : List Coord) → SameCoords scene as' bs → SameCoords scene as' cs
        → SameCoords scene bs cs
    same_both [] [] cs h k = k
    same_both [] (b ∷ bs) cs h k = absurd h
    same_both (At a ∷ as') [] cs h k = absurd h
    same_both (Span a e ∷ as') [] cs h k = absurd h
    same_both (At a ∷ as') (Span b f ∷ bs) cs h k = absurd h
    same_both (Span a e ∷ as') (At b ∷ bs) cs h k = absurd h
    same_both (At a ∷ as') (At b ∷ bs) [] h k = absurd k
    same_both (At a ∷ as') (At b ∷ bs) (Span c g ∷ cs) h k = absurd k
    same_both (Span a e ∷ as') (Span b f ∷ bs) [] h k = absurd k
    same_both (Span a e ∷ as') (Span b f ∷ bs) (At c ∷ cs) h k = absurd k
    same_both (At a ∷ as') (At b ∷ bs) (At c ∷ cs) h k =
        (sym h.0 ∙ k.0, same_both as' bs cs h.1 k.1)
    same_both (Span a e ∷ as') (Span b f ∷ bs) (Span c g ∷ cs) h k =
        (sym h.0 ∙ k.0, sym h.1 ∙ k.1, same_both as' bs cs h.2 k.2)

    coords_read : (a : Argument) → OfArgument Reads a → OfCoords Reads (coords_of a)
    coords_read (ControlArg e) h = tt
    coords_read (ConditionArg c) h = tt
    coords_read (Whole z) h = tt
    coords_read (Window z cs) h = h

    -- a: what stands for the name
    whole_given : (a : Argument) (w y : ℕ) → is_view a ≡ true → root_in a w ≡ y
        → (is_window a ≡ true → SameCoords scene (coords_of a) (whole_of (extents_of (theirs y))))
        → HasExtents theirs scene y → SameOrVoid (given scene (Whole y)) (given scene a)
    whole_given (ControlArg e) w y v r same has = no v
    whole_given (ConditionArg c) w y v r same has = no v
    whole_given (Whole z) w y v r same has = inl (ap (λ q. given scene (Whole q)) (sym r))
    whole_given (Window z cs) w y v r same has =
        subst (λ o. SameOrVoid (given scene (Whole y)) (option_map GivenView o))
        (sym (same_windows scene y cs (whole_of (extents_of (theirs y))) (same refl))
        ∙ ap (λ q. window scene q cs) (sym r))
        (whole_or_void scene y (extents_of (theirs y)) has)

    window_given : (a : Argument) (w y : ℕ) (ds : List Coord) → is_window a ≡ true → root_in a w ≡ y
        → SameCoords scene (coords_of a) ds → given scene (Window y ds) ≡ given scene a
    window_given (ControlArg e) w y ds v r same = no v
    window_given (ConditionArg c) w y ds v r same = no v
    window_given (Whole z) w y ds v r same = no v
    window_given (Window z cs) w y ds v r same =
        ap (option_map GivenView)
        (sym (same_windows scene y cs ds same) ∙ ap (λ q. window scene q cs) (sym r))

    -- the window that stands for a parameter, where its whole is accessed
    own_window : (p : Path) (x y : ℕ) (ds : List Coord)
        → Meets at known put ours (Access p x (whole_of (extents_of (ours x))) y ds)
        → is_window (put.name x) ≡ true → OfArgument Reads (put.name x)
        → SameCoords scene (coords_for put x) ds
    own_window p x y ds m w j =
        same_both (put_window put x (whole_of (extents_of (ours x)))) (coords_for put x) ds
        (m.2 scene sees reads refl w (coords_read (put.name x) j)) (m.1 scene sees reads)

    wholes_meet : (p : Path) (x y : ℕ) → All (wholes_paired params bound ours theirs p x y)
        → OfArgument Reads (put.name x) → HasExtents theirs scene y
        → SameOrVoid (given scene (Whole y)) (given scene (put.name x))
    wholes_meet p x y h j has = by_cells (same_cells (ours x) (theirs y)) h
      where
        es : List Coord
        es = whole_of (extents_of (ours x))

        gs : List Coord
        gs = whole_of (extents_of (theirs y))

        by_bound : (t : Bool) → All (if t then Unlike p ∷ [] else Access p x es y gs ∷ [])
            → SameOrVoid (given scene (Whole y)) (given scene (put.name x))
        by_bound true k = absurd k.0
        by_bound false k =
            whole_given (put.name x) x y (puts.views x) k.0.0 (λ w. own_window p x y gs k.0 w j) has

        by_param : (t : Bool) → params x ≡ t
            → All (if t then param_paired params bound ours theirs p x es y gs else Own p x y ∷ [])
            → SameOrVoid (given scene (Whole y)) (given scene (put.name x))
        by_param true e k = by_bound (bound y) k
        by_param false e k =
            inl (ap (λ z. given scene (Whole z)) (sym k.0) ∙ ap (given scene) (sym (puts.own x e)))

        by_cells : (t : Bool)
            → All (if t then (if params x then param_paired params bound ours theirs p x es y gs
            else Own p x y ∷ []) else Unlike p ∷ [])
            → SameOrVoid (given scene (Whole y)) (given scene (put.name x))
        by_cells true k = by_param (params x) refl k
        by_cells false k = absurd k.0

    whole_meets : (p : Path) (x y : ℕ) (ds : List Coord)
        → All (whole_paired params bound ours theirs p x y ds) → is_window (put.name x) ≡ true
        → OfArgument Reads (put.name x) → given scene (Window y ds) ≡ given scene (put.name x)
    whole_meets p x y ds h w j = go (params x) refl h
      where
        go : (t : Bool) → params x ≡ t
            → All (if t
            then access_paired params bound ours theirs p x (whole_of (extents_of (ours x))) y ds
            else Unlike p ∷ [])
            → given scene (Window y ds) ≡ given scene (put.name x)
        go true e k =
            let m = accessed p x (whole_of (extents_of (ours x))) y ds e k in
            window_given (put.name x) x y ds w m.0 (own_window p x y ds m w j)
        go false e k = absurd k.0

    window_of_whole : (p : Path) (x : ℕ) (cs : List Coord) (y : ℕ)
        → All (window_paired params bound ours theirs p x cs y) → HasExtents theirs scene y
        → SameOrVoid (given scene (Whole y)) (given scene (put_argument put (Window x cs)))
    window_of_whole p x cs y h has = go (params x) refl h
      where
        go : (t : Bool) → params x ≡ t
            → All (if t
            then access_paired params bound ours theirs p x cs y (whole_of (extents_of (theirs y)))
            else Unlike p ∷ [])
            → SameOrVoid (given scene (Whole y)) (given scene (put_argument put (Window x cs)))
        go true e k =
            let m = accessed p x cs y (whole_of (extents_of (theirs y))) e k in
            subst (λ o. SameOrVoid (given scene (Whole y)) (option_map GivenView o))
            (sym (same_windows scene y (put_window put x cs) (whole_of (extents_of (theirs y)))
            (m.1 scene sees reads))
            ∙ ap (λ q. window scene q (put_window put x cs)) (sym m.0))
            (whole_or_void scene y (extents_of (theirs y)) has)
        go false e k = absurd k.0

    given_meets : (p : Path) (whole : Bool) (a b : Argument)
        → All (argument_paired params bound ours theirs p whole a b) → wholes_alike put a b ≡ true
        → OfArgument Reads b → OfArgument Reads (put_argument put a) → ArgumentHas theirs scene b
        → SameOrVoid (given scene b) (given scene (put_argument put a))
    given_meets p whole (ControlArg e) (ControlArg g) h w i j has =
        inl (ap (λ n. Some (GivenNumber n)) (number_meets e g h.0 i j))
    given_meets p whole (ConditionArg c) (ConditionArg d) h w i j has =
        inl (ap (λ t. Some (GivenNumber (truth t))) (condition_meets c d h.0 i j))
    given_meets p whole (Whole x) (Whole y) h w i j has = wholes_meet p x y h j has
    given_meets p whole (Whole x) (Window y ds) h w i j has = inl (whole_meets p x y ds h w j)
    given_meets p whole (Window x cs) (Whole y) h w i j has = window_of_whole p x cs y h has
    given_meets p whole (Window x cs) (Window y ds) h w i j has =
        inl (ap (option_map GivenView) (window_meets p x cs y ds h i j))
    given_meets p whole a b h w i j has = absurd h.0

    abbrev SameOrVoids : Option (List Given) → Option (List Given) → Type 0
    SameOrVoids o r = (o ≡ r) ⊎ (AreVoid o × AreVoid r)

    both_given : (o r : Option Given) (os rs : Option (List Given)) → SameOrVoid o r
        → SameOrVoids os rs → SameOrVoids (with_given o os) (with_given r rs)
    both_given o r os rs (inl e) (inl f) = inl (ap₂ with_given e f)
    both_given o r os rs (inl e) (inr v) = inr (rest_void o os v.0, rest_void r rs v.1)
    both_given o r os rs (inr v) rest = inr (first_void o os v.0, first_void r rs v.1)

    all_meet : (p : Path) (as' bs : List Argument)
        → All (arguments_paired params bound ours theirs p as' bs)
        → all_wholes_alike put as' bs ≡ true → OfArguments Reads bs
        → OfArguments Reads (put_arguments put as') → Each (ArgumentHas theirs scene) bs
        → SameOrVoids (all_given scene bs) (all_given scene (put_arguments put as'))
    all_meet p [] [] h w i j has = inl refl
    all_meet p [] (b ∷ bs) h w i j has = absurd h.0
    all_meet p (a ∷ as') [] h w i j has = absurd h.0
    all_meet p (a ∷ as') (b ∷ bs) h w i j has =
        let k = each_split (Meets at known put ours) (argument_paired params bound ours theirs p false a b)
        (arguments_paired params bound ours theirs p as' bs) h in
        let v = and_parts (wholes_alike put a b) (all_wholes_alike put as' bs) w in
        both_given (given scene b) (given scene (put_argument put a)) (all_given scene bs)
        (all_given scene (put_arguments put as')) (given_meets p false a b k.0 v.0 i.0 j.0 has.0)
        (all_meet p as' bs k.1 v.1 i.1 j.1 has.1)

    number_told : (p : Path) (whole : Bool) (a b : Argument)
        → All (argument_paired params bound ours theirs p whole a b) → OfArgument Reads b
        → OfArgument Reads (put_argument put a)
        → argument_number scene b ≡ argument_number scene (put_argument put a)
    number_told p whole (ControlArg e) (ControlArg g) h i j = ap Some (number_meets e g h.0 i j)
    number_told p whole (ConditionArg c) (ConditionArg d) h i j =
        ap (λ t. Some (truth t)) (condition_meets c d h.0 i j)
    number_told p whole (Whole x) (Whole y) h i j =
        view_no_number scene (put.name x) (puts.views x)
    number_told p whole (Whole x) (Window y ds) h i j =
        view_no_number scene (put.name x) (puts.views x)
    number_told p whole (Window x cs) (Whole y) h i j = refl
    number_told p whole (Window x cs) (Window y ds) h i j = refl
    number_told p whole a b h i j = absurd h.0

  -- ---- in one state

  module _ (s : State) (sees : Sees known s.scene) (reads : ReadsHere at s.scene) where
    abbrev There : Control → Type 0
    There = IsRead at s.scene

    two_meet : (p : Path) (a b c d : Datum)
        → All (data_paired params bound ours theirs p a c ++ data_paired params bound ours theirs p b d)
        → All (data_paired params bound ours theirs p a c) × All (data_paired params bound ours theirs p b d)
    two_meet p a b c d h =
        each_split (Meets at known put ours) (data_paired params bound ours theirs p a c)
        (data_paired params bound ours theirs p b d) h

    value_meets : (p : Path) (e d : Datum) → All (data_paired params bound ours theirs p e d)
        → OfDatum There d → OfDatum There (put_datum put e)
        → value s d ≡ value s (put_datum put e)
    value_meets p (Const m) (Const n) h i j = go (int_eq m n) refl h
      where
        go : (t : Bool) → int_eq m n ≡ t → All (if t then [] else Unlike p ∷ [])
            → Some (Number n) ≡ Some (Number m)
        go true e k = ap (λ z. Some (Number z)) (sym (int_eq_same m n e))
        go false e k = absurd k.0
    value_meets p (Read x is) (Read y js) h i j =
        ap (option_map (held s.cells)) (place_meets s.scene sees reads p x is y js h i j)
    value_meets p (Negated a) (Negated b) h i j =
        ap (option_map (on_one (λ m. pos 0 -ℤ m))) (value_meets p a b h i j)
    value_meets p (Relu a) (Relu b) h i j =
        ap (option_map (on_one relu)) (value_meets p a b h i j)
    value_meets p (Plus a b) (Plus c d) h i j =
        let k = two_meet p a b c d h in
        ap₂ (λ m n. then_do m (λ u. option_map (on_two ◌+ℤ◌ u) n))
        (value_meets p a c k.0 i.0 j.0) (value_meets p b d k.1 i.1 j.1)
    value_meets p (Minus a b) (Minus c d) h i j =
        let k = two_meet p a b c d h in
        ap₂ (λ m n. then_do m (λ u. option_map (on_two ◌-ℤ◌ u) n))
        (value_meets p a c k.0 i.0 j.0) (value_meets p b d k.1 i.1 j.1)
    value_meets p (Times a b) (Times c d) h i j =
        let k = two_meet p a b c d h in
        ap₂ (λ m n. then_do m (λ u. option_map (on_two ◌*ℤ◌ u) n))
        (value_meets p a c k.0 i.0 j.0) (value_meets p b d k.1 i.1 j.1)
    value_meets p (Select a b c d) (Select e f g l) h i j =
        let k = each_split (Meets at known put ours) (data_paired params bound ours theirs p a e
        ++ data_paired params bound ours theirs p b f ++ data_paired params bound ours theirs p c g)
        (data_paired params bound ours theirs p d l) h in
        let m = each_split (Meets at known put ours)
        (data_paired params bound ours theirs p a e ++ data_paired params bound ours theirs p b f)
        (data_paired params bound ours theirs p c g) k.0 in
        let n = two_meet p a b e f m.0 in
        ap₂ (λ (u v : Option Value). then_do u (λ x. then_do v (λ y.
        then_do (value s g) (λ w. option_map (on_four selected x y w) (value s l)))))
        (value_meets p a e n.0 i.0 j.0) (value_meets p b f n.1 i.1 j.1)
        ∙ ap₂ (λ (u v : Option Value). then_do (value s (put_datum put a)) (λ x.
        then_do (value s (put_datum put b)) (λ y.
        then_do u (λ w. option_map (on_four selected x y w) v))))
        (value_meets p c g m.1 i.2 j.2) (value_meets p d l k.1 i.3 j.3)
    value_meets p e d h i j = absurd h.0

  where_like : (t : Bool) (p : Path) (pairs : List Pair)
      → All (if t then pairs else Unlike p ∷ []) → (t ≡ true) × All pairs
  where_like true p pairs h = (refl, h)
  where_like false p pairs h = absurd h.0

  -- ---- along a run

  module _ (world : World) where
    abbrev after : Statement → Statement
    after a = nameless_statement (put_statement put a)

    abbrev within_body : Block → Block
    within_body b = nameless (put_block put b)

    -- what is stored
    stored : (under : Path → Path) (x : ℕ) (is : List Control) (e : Datum) (y : ℕ)
        (js : List Control) (d : Datum) (s : State) (sees : Sees known s.scene)
        (reads : ReadsHere at s.scene) (f : Value → Value → Value)
        → All (access_paired params bound ours theirs (under []) x (points is) y (points js)
        ++ data_paired params bound ours theirs (under []) e d)
        → OfControls (IsRead at s.scene) js × OfDatum (IsRead at s.scene) d
        → OfControls (IsRead at s.scene) (put_index put x is)
        × OfDatum (IsRead at s.scene) (put_datum put e)
        → then_do (place s.scene y js) (λ z. then_do (value s d) (λ v.
        put_at s (λ old. f old v) z))
        ≡ then_do (place s.scene (root_for put x) (put_index put x is)) (λ z.
        then_do (value s (put_datum put e)) (λ v. put_at s (λ old. f old v) z))
    stored under x is e y js d s sees reads f h i j =
        let k = each_split (Meets at known put ours)
        (access_paired params bound ours theirs (under []) x (points is) y (points js))
        (data_paired params bound ours theirs (under []) e d) h in
        ap₂ (λ (o : Option Place) (r : Option Value). then_do o (λ z.
        then_do r (λ v. put_at s (λ old. f old v) z)))
        (place_meets s.scene sees reads (under []) x is y js k.0 i.0 j.0)
        (value_meets s sees reads (under []) e d k.1 i.1 j.1)

    -- what is read along the run
    abbrev Kept : Block → State → Type 0
    Kept = Along world (IsReadWith at theirs)

    -- what the expressions of a statement of the body read; grown: the names known here
    module _ (grown : ℕ → Bool) (s : State) (more : Sees grown s.scene) where
      abbrev Grown : Statement → Type 0
      Grown a = OfStatement (IsOfKnown grown) (put_statement put a)

      read_in : (a c : Statement) → Grown a → IsReadIn at s.scene c
          → OfStatement (IsRead at s.scene) (put_statement put a)
      read_in a c h k = statement_read at grown s.scene k.0 more (put_statement put a) h

    called : (as' bs : List Argument) (m : ℕ) (s : State)
        → (all_given s.scene bs ≡ all_given s.scene (put_arguments put as'))
        ⊎ (AreVoid (all_given s.scene bs) × AreVoid (all_given s.scene (put_arguments put as')))
        → call_to (world.callees m) bs s ≡ call_to (world.callees m) (put_arguments put as') s
    called as' bs m s (inl e) = calls_same at (world.callees m) bs (put_arguments put as') s e
    called as' bs m s (inr v) =
        void_call (world.callees m) bs s v.0
        ∙ sym (void_call (world.callees m) (put_arguments put as') s v.1)

    mutual
      along : (under : Path → Path) (branch : Branch) (n : ℕ) (b d : Block) (grown : ℕ → Bool)
          (s : State) → Sees known s.scene → Sees grown s.scene
          → All (blocks_paired params bound ours theirs under branch n b d)
          → calls_alike put b d ≡ true → AreOfKnown grown (put_block put b)
          → Kept (nameless d) s → SameAlong world (nameless d) (within_body b) s
      along under branch n end end grown s sees more h w ok kd = both_end
      along under branch n (next a b) (next c d) grown s sees more h w ok kd =
          let pairs = each_split (Meets at known put ours)
          (statements_paired params bound ours theirs (step_to params bound ours theirs under branch n) a c)
          (blocks_paired params bound ours theirs under branch (suc n) b d) h in
          let v = and_parts (calls_alike_in put a c) (calls_alike put b d) w in
          let same = there (step_to params bound ours theirs under branch n) a c grown s sees more
          pairs.0 v.0 ok.0 ok.1 kd.0.0 kd.0.1 kd.1 in
          both_next same (λ t e.
          let f : step world (after a) s ≡ Some t
          = sym (step_same at world (nameless_statement c) (after a) s same) ∙ e in
          along under branch (suc n) b d (known_behind (put_statement put a) grown) t
          (old_sees known (after a) t (step_sees world known (after a) s t f sees))
          (λ x k. step_sees world grown (after a) s t f more x
          (ap (λ z. z || grown x) (nameless_binds (put_statement put a) x) ∙ k))
          pairs.1 v.1 ok.2 (kd.2 t e))
      along under branch n end (next c d) grown s sees more h w ok kd = absurd h.0
      along under branch n (next a b) end grown s sees more h w ok kd = absurd h.0

      there : (under : Path → Path) (a c : Statement) (grown : ℕ → Bool) (s : State)
          → Sees known s.scene → (more : Sees grown s.scene)
          → All (statements_paired params bound ours theirs under a c)
          → calls_alike_in put a c ≡ true → Grown grown s more a
          → AreOfKnownWithin grown (put_statement put a)
          → IsReadIn at s.scene (nameless_statement c)
          → CallHas theirs s.scene (nameless_statement c)
          → Inside world (IsReadWith at theirs) (nameless_statement c) s
          → SameThere world (nameless_statement c) (after a) s
      there under (Assign x is e) (Assign y js d) grown s sees more h w ok within kd has inside =
          let j = read_in grown s more (Assign x is e) (Assign y js d) ok kd in
          at_once (stored under x is e y js d s sees kd.0 (λ old v. v) h kd.1 j)
      there under (Reduce x is e) (Reduce y js d) grown s sees more h w ok within kd has inside =
          let j = read_in grown s more (Reduce x is e) (Reduce y js d) ok kd in
          at_once (stored under x is e y js d s sees kd.0 (λ old v. on_two ◌+ℤ◌ old v) h kd.1 j)
      there under (Config f a) (Config g b) grown s sees more h w ok within kd has inside =
          let j = read_in grown s more (Config f a) (Config g b) ok kd in
          let k = where_like (f == g) (under [])
          (argument_paired params bound ours theirs (under []) true a b) h in
          at_once (ap₂ (λ k o. then_do o (λ n. where_true (suits (world.kinds k) n)
          (Some (on_scene (with_field k n) s)))) (sym (eqb-true f g k.0))
          (number_told s.scene sees kd.0 (under []) true a b k.1 kd.1 j))
      there under Pass Pass grown s sees more h w ok within kd has inside = at_once refl
      there under (If t a b) (If r c d) grown s sees more h w ok within kd has inside =
          let j = read_in grown s more (If t a b) (If r c d) ok kd in
          let same = condition_meets s.scene sees kd.0 t r h.0 kd.1 j in
          let k = each_split (Meets at known put ours) (blocks_paired params bound ours theirs under Main 0 a c)
          (blocks_paired params bound ours theirs under Else 0 b d) h.1 in
          let v = and_parts (calls_alike put a c) (calls_alike put b d) w in
          in_branches same
          (λ z. along under Main 0 a c grown s sees more k.0 v.0 within.0 (inside.0 z))
          (λ z. along under Else 0 b d grown s sees more k.1 v.1 within.1 (inside.1 z))
      there under (For i lo hi b) (For j l h d) grown s sees more pairs w ok within kd has inside =
          let y = read_in grown s more (For i lo hi b) (For j l h d) ok kd in
          let first = number_meets s.scene sees kd.0 lo l pairs.0 kd.1.0 y.0 in
          let last = number_meets s.scene sees kd.0 hi h pairs.1.0 kd.1.1 y.1 in
          let same = one_binder i j pairs.1.1.0 in
          let low = put_control put lo in
          let high = put_control put hi in
          subst (λ k. SameThere world (For (nameless_binder j) l h (nameless d))
          (For k low high (within_body b)) s) (sym same)
          (in_turns first last (λ n u come. along under Main 0 b d grown
          (on_scene (with_control j.id n) u)
          (turn_sees world known j.id (nameless d) (turns_of s.scene l h) s u n come sees)
          (turn_sees world grown j.id (nameless d) (turns_of s.scene l h) s u n come more)
          pairs.1.1.1 w within (inside n u come)))
      there under (Alloc x cell dims memory) (Alloc y type extents store) grown s sees more h w ok within kd has inside =
          let j = read_in grown s more (Alloc x cell dims memory) (Alloc y type extents store) ok kd in
          let k = where_like (same_cell cell type && (memory == store)) (under [])
          (controls_paired params bound ours theirs (under []) dims extents ++ Binders x.id y.id ∷ []) h in
          let p = and_parts (same_cell cell type) (memory == store) k.0 in
          let q = each_split (Meets at known put ours)
          (controls_paired params bound ours theirs (under []) dims extents) (Binders x.id y.id ∷ []) k.1 in
          at_once (ap₂ (λ z t. allocate z t (numbers s.scene extents) s) (sym q.1.0)
          (sym (same_cell_is cell type p.0))
          ∙ ap (λ ns. allocate x.id cell ns s)
          (controls_meet s.scene sees kd.0 (under []) dims extents q.0 kd.1 j))
      there under (View v x cs) (View z y ds) grown s sees more h w ok within kd has inside =
          let j = read_in grown s more (View v x cs) (View z y ds) ok kd in
          let q = each_split (Meets at known put ours)
          (access_paired params bound ours theirs (under []) x cs y ds) (Binders v.id z.id ∷ []) h in
          at_once (ap₂ (λ k o. then_do o (λ r. Some (on_scene (with_view k r) s)))
          (sym q.1.0) (window_meets s.scene sees kd.0 (under []) x cs y ds q.0 kd.1 j))
      there under (Call k as') (Call m bs) grown s sees more h w ok within kd has inside =
          let j = read_in grown s more (Call k as') (Call m bs) ok kd in
          let q = where_like (k == m) (under [])
          (arguments_paired params bound ours theirs (under []) as' bs) h in
          at_once (called as' bs m s (all_meet s.scene sees kd.0 (under []) as' bs q.1 w kd.1 j has)
          ∙ ap (λ z. call_to (world.callees z) (put_arguments put as') s)
          (sym (eqb-true k m q.0)))
      there under a c grown s sees more h w ok within kd has inside = absurd h.0

pub meets_along : MeetsAlong
meets_along world at known put params bound ours theirs b d s puts h w ok sees kd =
    along at known put params bound ours theirs puts world (λ path. path) Main 0 b d known s sees sees
    h w ok (along_of world (IsReadWith at theirs) (nameless d) s kd)
