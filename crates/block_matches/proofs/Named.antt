-- The argument of accesses that are of one name.
use Rattle.std.proofs.Common.{◌≡◌, ℕ, Bool, true, false, ◌&&◌, ◌||◌, not, if◌then◌else◌}
use Rattle.std.proofs.Common.{List, [], ◌∷◌, ◌++◌, length, Option, Some, None, option_map, refl, sym, ap, ap₂}
use Rattle.std.proofs.Common.{◌∙◌, eq-eqb, append_assoc}
use Rattle.exo_tree.specs.Tree.{Control, Add, Coord, Span, Argument, Whole}
use Rattle.affine_forms.specs.Forms.{Reading}
use Rattle.affine_forms.proofs.Values.{and_parts, none_some}
use Rattle.match_laws.specs.Names.{Buffer}
use Rattle.match_laws.specs.Moved.{Moving, simpler}
use Rattle.match_laws.specs.Windows.{Use, Spot, Offset, choices, coords_from, window_of, are_at_zero}
use Rattle.match_laws.specs.Windows.{argument_from, first_fitting, all_of_name, argument_among, all_moved}
use Rattle.match_laws.specs.Widths.{is_short, offsets_are_short, lists_are_short}
use Rattle.match_laws.specs.Widths.{lists_are_short_among}

pub free_and : (has is_bound t of_name : Bool) → has ≡ false → has ≡ is_bound → t ≡ of_name
    → t ≡ (not is_bound && of_name)
free_and has is_bound t of_name h e k =
    k ∙ sym (ap (λ s. not s && of_name) (sym e ∙ h))

module _ (at : Reading) (m : Moving) (bound : ℕ → Bool) where
  pub named_more : (y : ℕ) (u : Use) (us all : List Use) (t : Bool) → all ≡ u ∷ us
      → u.name ≡ y → t ≡ all_of_name at m bound y us → t ≡ all_of_name at m bound y all
  named_more y u us all t e n h =
      h
      ∙ sym (ap (all_of_name at m bound y) e
      ∙ ap (λ s. s && all_of_name at m bound y us) (eq-eqb u.name y n))

  pub window_given : (whole : Bool) (b : Buffer) (y : ℕ) (ds es : List Control) (ss : List Spot)
      (made cs : List Coord) (a : Argument)
      → whole ≡ false → made ≡ [] → es ≡ ds
      → cs ≡ made ++ coords_from at m bound ss es
      → a ≡ window_of at m bound y cs
      → Some a ≡ argument_from at m bound whole b y ds ss
  window_given whole b y ds es ss made cs a w n e h k =
      ap (λ (x : Argument). Some x)
      (k ∙ ap (window_of at m bound y)
      (h ∙ ap₂ (λ (l : List Coord) (r : List Control). l ++ coords_from at m bound ss r) n e))
      ∙ sym (ap (λ t. if t
      then (if b.tensor && are_at_zero at m bound ss then Some (Whole y) else None)
      else Some (window_of at m bound y (coords_from at m bound ss ds))) w)

  -- the first spot is an offset
  module _ (all ss : List Spot) (e : Control) (is : all ≡ Offset e ∷ ss) where
    pub later_short : offsets_are_short at m bound all ≡ true → offsets_are_short at m bound ss ≡ true
    later_short h =
        (and_parts (is_short at e) (offsets_are_short at m bound ss)
        (sym (ap (offsets_are_short at m bound) is) ∙ h)).1

    pub from_offset : (es ds : List Control) (d : Control) (made new : List Coord) (c : Coord) → es ≡ d ∷ ds
        → c ≡ Span (simpler at e) (simpler at (Add (simpler at e) d)) → new ≡ made ++ c ∷ []
        → new ++ coords_from at m bound ss ds ≡ made ++ coords_from at m bound all es
    from_offset es ds d made new c k s h =
        ap (λ l. l ++ coords_from at m bound ss ds) h
        ∙ append_assoc made (c ∷ []) (coords_from at m bound ss ds)
        ∙ ap (λ y. made ++ y ∷ coords_from at m bound ss ds) s
        ∙ sym (ap₂ (λ l r. made ++ coords_from at m bound l r) is k)

  -- the whole of a tensor is asked for
  module _ (whole : Bool) (b : Buffer) (y : ℕ) (ds : List Control) (ss : List Spot) (all : whole ≡ true) where
    abbrev whole_if : Bool → Option Argument
    whole_if s = if s then Some (Whole y) else None

    whole_is : argument_from at m bound whole b y ds ss ≡ whole_if (b.tensor && are_at_zero at m bound ss)
    whole_is =
        ap (λ t. if t then whole_if (b.tensor && are_at_zero at m bound ss)
        else Some (window_of at m bound y (coords_from at m bound ss ds))) all

    pub whole_given : (t : Bool) → b.tensor ≡ true → t ≡ are_at_zero at m bound ss → t ≡ true
        → Some (Whole y) ≡ argument_from at m bound whole b y ds ss
    whole_given t k e h =
        sym (whole_is ∙ ap₂ (λ p q. whole_if (p && q)) k (sym e ∙ h))

    pub none_at_zero : (t : Bool) → b.tensor ≡ true → t ≡ are_at_zero at m bound ss → t ≡ false
        → None ≡ argument_from at m bound whole b y ds ss
    none_at_zero t k e h =
        sym (whole_is ∙ ap₂ (λ p q. whole_if (p && q)) k (sym e ∙ h))

    pub no_tensor : b.tensor ≡ false → None ≡ argument_from at m bound whole b y ds ss
    no_tensor k = sym (whole_is ∙ ap (λ p. whole_if (p && are_at_zero at m bound ss)) k)

  -- a name of which nothing is known
  pub not_named : (whole : Bool) (rank : ℕ) (u : Use) (us : List Use) (ob : Option Buffer) (ods : Option (List Control))
      → None ≡ ob → None ≡ argument_among at m bound whole rank u us ob ods
  not_named whole rank u us ob ods h = ap (λ o. argument_among at m bound whole rank u us o ods) h

  -- dimensions in the block's names
  module _ (o : Option (List Control)) (made es dims : List Control)
      (is : o ≡ option_map (λ rs. made ++ rs) (all_moved at m bound es)) (same : es ≡ dims) where
    in_names : o ≡ option_map (λ rs. made ++ rs) (all_moved at m bound dims)
    in_names = is ∙ ap (λ l. option_map (λ rs. made ++ rs) (all_moved at m bound l)) same

    pub none_moved : o ≡ None → None ≡ all_moved at m bound dims
    none_moved h = from_map (all_moved at m bound dims) (sym h ∙ in_names)
      where
        from_map : (p : Option (List Control)) → None ≡ option_map (λ rs. made ++ rs) p → None ≡ p
        from_map None k = refl
        from_map (Some rs) k = absurd (none_some k)

    pub some_moved : (ds : List Control) → made ≡ [] → o ≡ Some ds → all_moved at m bound dims ≡ Some ds
    some_moved ds n h =
        onto (all_moved at m bound dims)
        ∙ sym (sym h ∙ in_names ∙ ap (λ l. option_map (λ rs. l ++ rs) (all_moved at m bound dims)) n)
      where
        onto : (p : Option (List Control)) → p ≡ option_map (λ rs. [] ++ rs) p
        onto None = refl
        onto (Some rs) = refl

  -- a dimension that is not known in the block's names
  pub not_moved : (whole : Bool) (rank : ℕ) (u : Use) (us : List Use) (ob : Option Buffer) (ods : Option (List Control))
      (b : Buffer) → Some b ≡ ob → None ≡ ods → None ≡ argument_among at m bound whole rank u us ob ods
  not_moved whole rank u us ob ods b h k = ap₂ (argument_among at m bound whole rank u us) h k

  module _ (whole : Bool) (rank : ℕ) (u : Use) (us : List Use) (ob : Option Buffer)
      (ods : Option (List Control)) (b : Buffer) (ds : List Control) (known : ob ≡ Some b)
      (moved_is : ods ≡ Some ds) where
    abbrev of_one : Bool
    of_one = not (bound u.name) && all_of_name at m bound u.name us

    among_is : argument_among at m bound whole rank u us ob ods
        ≡ argument_among at m bound whole rank u us (Some b) (Some ds)
    among_is = ap₂ (argument_among at m bound whole rank u us) known moved_is

    shorts_are : lists_are_short_among at m bound whole rank u us ob ods
        ≡ lists_are_short_among at m bound whole rank u us (Some b) (Some ds)
    shorts_are = ap₂ (lists_are_short_among at m bound whole rank u us) known moved_is

    abbrev firsts : Option Argument
    firsts = first_fitting at m bound whole b ds u us (choices (length b.extents) rank)

    abbrev shorts : Bool
    shorts = lists_are_short at m bound whole b ds u us (choices (length b.extents) rank)

    pub among_not : of_one ≡ false → argument_among at m bound whole rank u us ob ods ≡ None
    among_not h = among_is ∙ ap (λ t. if t then firsts else None) h

    pub none_among : of_one ≡ false → None ≡ argument_among at m bound whole rank u us ob ods
    none_among h = sym (among_not h)

    pub shorts_not : of_one ≡ false
        → lists_are_short_among at m bound whole rank u us ob ods ≡ true
    shorts_not h = shorts_are ∙ ap (λ t. not t || shorts) h

    pub among_by : of_one ≡ true → argument_among at m bound whole rank u us ob ods ≡ firsts
    among_by h = among_is ∙ ap (λ t. if t then firsts else None) h

    pub shorts_by : of_one ≡ true
        → lists_are_short_among at m bound whole rank u us ob ods ≡ shorts
    shorts_by h = shorts_are ∙ ap (λ t. not t || shorts) h
