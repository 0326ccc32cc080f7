-- Lists of positions that are tried one after the other are those of `choices`.
use Rattle.std.proofs.Common.{◌≡◌, ℕ, Bool, true, false, ◌&&◌, ◌||◌, List, [], ◌∷◌, ◌++◌, map}
use Rattle.std.proofs.Common.{length, Option, Some, None, refl, sym, ap, ap₂, ◌∙◌, append_assoc, arith}
use Rattle.std.proofs.lemmas.List.{append-nil}
use Rattle.exo_tree.specs.Tree.{Control, Argument}
use Rattle.affine_forms.specs.Forms.{Reading}
use Rattle.match_laws.specs.Names.{Buffer}
use Rattle.match_laws.specs.Moved.{Moving}
use Rattle.match_laws.specs.Windows.{Use, Spot, choices, fitting, argument_from, first_fitting}
use Rattle.match_laws.specs.Widths.{list_is_short, ends_are_short, lists_are_short}
use Rattle.block_matches.specs.Trying.{tried, trial_is_short, first_of, only_after, among}
use Rattle.block_matches.specs.Trying.{trials_are_short}

-- ---- any trial

module _ (try : List Bool → Option Argument) where
  abbrev pub found_in : List (List Bool) → Option Argument
  found_in [] = None
  found_in (l ∷ ls) = first_of (try l) (found_in ls)

  first_of_none : (o : Option Argument) → first_of o None ≡ o
  first_of_none None = refl
  first_of_none (Some a) = refl

  first_of_assoc : (o p q : Option Argument)
      → first_of o (first_of p q) ≡ first_of (first_of o p) q
  first_of_assoc None p q = refl
  first_of_assoc (Some a) p q = refl

  found_append : (xs ys : List (List Bool))
      → found_in (xs ++ ys) ≡ first_of (found_in xs) (found_in ys)
  found_append [] ys = refl
  found_append (l ∷ xs) ys =
      ap (λ (o : Option Argument). first_of (try l) o) (found_append xs ys)
      ∙ first_of_assoc (try l) (found_in xs) (found_in ys)

abbrev under : List Bool → List (List Bool) → List (List Bool)
under listed cs = map (λ c. listed ++ c) cs

under_one : (listed : List Bool) (t : Bool) (cs : List (List Bool))
    → under listed (map (λ c. t ∷ c) cs) ≡ under (listed ++ t ∷ []) cs
under_one listed t [] = refl
under_one listed t (c ∷ cs) =
    ap₂ (λ (l : List Bool) (ls : List (List Bool)). l ∷ ls) (sym (append_assoc listed (t ∷ []) c)) (under_one listed t cs)

under_both : (listed : List Bool) (xs ys : List (List Bool))
    → under listed (xs ++ ys) ≡ under listed xs ++ under listed ys
under_both listed [] ys = refl
under_both listed (c ∷ xs) ys =
    ap (λ (ls : List (List Bool)). (listed ++ c) ∷ ls) (under_both listed xs ys)

under_none : (cs : List (List Bool)) → under [] cs ≡ cs
under_none [] = refl
under_none (c ∷ cs) = ap (λ (ls : List (List Bool)). c ∷ ls) (under_none cs)

under_split : (listed : List Bool) (xs ys : List (List Bool))
    → under listed (map (λ c. true ∷ c) xs ++ map (λ c. false ∷ c) ys)
    ≡ under (listed ++ true ∷ []) xs ++ under (listed ++ false ∷ []) ys
under_split listed xs ys =
    under_both listed (map (λ c. true ∷ c) xs) (map (λ c. false ∷ c) ys)
    ∙ ap₂ (λ (a b : List (List Bool)). a ++ b) (under_one listed true xs) (under_one listed false ys)

module _ (try : List Bool → Option Argument) where
  among_is : (listed : List Bool) (left wanted : List Control)
      → among try listed left wanted
      ≡ found_in try (under listed (choices (length left) (length wanted)))
  among_is listed [] [] =
      sym (ap (λ (l : List Bool). first_of (try l) None) (append-nil listed)
      ∙ first_of_none try (try listed))
  among_is listed [] (k ∷ wanted) = refl
  among_is listed (d ∷ left) [] =
      among_is (listed ++ false ∷ []) left []
      ∙ sym (ap (found_in try) (under_one listed false (choices (length left) 0)))
  among_is listed (d ∷ left) (k ∷ wanted) =
      let xs = choices (length left) (length wanted) in
      let ys = choices (length left) (length (k ∷ wanted)) in
      ap₂ first_of (among_is (listed ++ true ∷ []) left wanted)
      (among_is (listed ++ false ∷ []) left (k ∷ wanted))
      ∙ sym (ap (found_in try) (under_split listed xs ys)
      ∙ found_append try (under (listed ++ true ∷ []) xs) (under (listed ++ false ∷ []) ys))

and_assoc : (a b c : Bool) → (a && (b && c)) ≡ ((a && b) && c)
and_assoc true b c = refl
and_assoc false b c = refl

and_true : (a : Bool) → (a && true) ≡ a
and_true true = refl
and_true false = refl

module _ (try : List Bool → Option Argument) (is_short : List Bool → Bool) where
  abbrev pub short_in : List (List Bool) → Bool
  short_in [] = true
  short_in (l ∷ ls) = is_short l && only_after (try l) (short_in ls)

  only_after_true : (o : Option Argument) → only_after o true ≡ true
  only_after_true None = refl
  only_after_true (Some a) = refl

  short_one : (l : List Bool) → short_in (l ∷ []) ≡ is_short l
  short_one l =
      ap (λ t. is_short l && t) (only_after_true (try l)) ∙ and_true (is_short l)

  after_both : (o p : Option Argument) (s t : Bool)
      → only_after o (s && only_after p t) ≡ (only_after o s && only_after (first_of o p) t)
  after_both None p s t = refl
  after_both (Some a) p s t = refl

  short_append : (xs ys : List (List Bool))
      → short_in (xs ++ ys) ≡ (short_in xs && only_after (found_in try xs) (short_in ys))
  short_append [] ys = refl
  short_append (l ∷ xs) ys =
      ap (λ t. is_short l && only_after (try l) t) (short_append xs ys)
      ∙ ap (λ t. is_short l && t)
      (after_both (try l) (found_in try xs) (short_in xs) (short_in ys))
      ∙ and_assoc (is_short l) (only_after (try l) (short_in xs))
      (only_after (found_in try (l ∷ xs)) (short_in ys))

  trials_are : (listed : List Bool) (left wanted : List Control)
      → trials_are_short try is_short listed left wanted
      ≡ short_in (under listed (choices (length left) (length wanted)))
  trials_are listed [] [] =
      sym (short_one (listed ++ []) ∙ ap is_short (append-nil listed))
  trials_are listed [] (k ∷ wanted) = refl
  trials_are listed (d ∷ left) [] =
      trials_are (listed ++ false ∷ []) left []
      ∙ sym (ap short_in (under_one listed false (choices (length left) 0)))
  trials_are listed (d ∷ left) (k ∷ wanted) =
      let xs = choices (length left) (length wanted) in
      let ys = choices (length left) (length (k ∷ wanted)) in
      ap₂ (λ s t. s && t) (trials_are (listed ++ true ∷ []) left wanted)
      (ap₂ only_after (among_is try (listed ++ true ∷ []) left wanted)
      (trials_are (listed ++ false ∷ []) left (k ∷ wanted)))
      ∙ sym (ap short_in (under_split listed xs ys)
      ∙ short_append (under (listed ++ true ∷ []) xs) (under (listed ++ false ∷ []) ys))

-- ---- that of an argument

module _ (at : Reading) (m : Moving) (bound : ℕ → Bool) (whole : Bool) (b : Buffer)
    (ds : List Control) (u : Use) (us : List Use) where
  abbrev try_one : List Bool → Option Argument
  try_one listed = tried at m bound whole b ds u us listed

  abbrev one_is_short : List Bool → Bool
  one_is_short listed = trial_is_short at m bound whole ds u us listed

  abbrev later_of : Option Argument → Option Argument → Option Argument
  later_of later o = elim o [ None ↦ later | Some a ↦ Some a ]

  chosen : (later o : Option Argument) → later_of later o ≡ first_of o later
  chosen later None = refl
  chosen later (Some a) = refl

  first_step : (later : Option Argument) (o : Option (List Spot))
      → elim o [
        | None ↦ later
        | Some ss ↦ later_of later (argument_from at m bound whole b u.name ds ss)
      ]
      ≡ first_of (elim o [
        | None ↦ None
        | Some ss ↦ argument_from at m bound whole b u.name ds ss
      ]) later
  first_step later None = refl
  first_step later (Some ss) = chosen later (argument_from at m bound whole b u.name ds ss)

  first_is : (lists : List (List Bool))
      → first_fitting at m bound whole b ds u us lists ≡ found_in try_one lists
  first_is [] = refl
  first_is (listed ∷ more) =
      first_step (first_fitting at m bound whole b ds u us more) (fitting at m bound listed u us)
      ∙ ap (λ (o : Option Argument). first_of (try_one listed) o) (first_is more)

  last_step : (t : Bool) (later : Bool) (o : Option Argument)
      → (t && elim o [ None ↦ later | Some a ↦ true ]) ≡ (t && only_after o later)
  last_step t later None = refl
  last_step t later (Some a) = refl

  short_step : (later : Bool) (s : Bool) (o : Option (List Spot))
      → (s && elim o [
        | None ↦ later
        | Some ss ↦ (whole || ends_are_short at m bound ss ds)
            && elim (argument_from at m bound whole b u.name ds ss) [
              | None ↦ later
              | Some a ↦ true
            ]
      ])
      ≡ ((s && elim o [
        | None ↦ true
        | Some ss ↦ whole || ends_are_short at m bound ss ds
      ]) && only_after (elim o [
        | None ↦ None
        | Some ss ↦ argument_from at m bound whole b u.name ds ss
      ]) later)
  short_step later false o = refl
  short_step later true None = refl
  short_step later true (Some ss) =
      last_step (whole || ends_are_short at m bound ss ds) later
      (argument_from at m bound whole b u.name ds ss)

  lists_are : (lists : List (List Bool))
      → lists_are_short at m bound whole b ds u us lists ≡ short_in try_one one_is_short lists
  lists_are [] = refl
  lists_are (listed ∷ more) =
      short_step (lists_are_short at m bound whole b ds u us more)
      (list_is_short at m bound listed u us) (fitting at m bound listed u us)
      ∙ ap (λ t. one_is_short listed && only_after (try_one listed) t) (lists_are more)

  among_is_first : (left wanted : List Control)
      → among try_one [] left wanted
      ≡ first_fitting at m bound whole b ds u us (choices (length left) (length wanted))
  among_is_first left wanted =
      among_is try_one [] left wanted
      ∙ ap (found_in try_one) (under_none (choices (length left) (length wanted)))
      ∙ sym (first_is (choices (length left) (length wanted)))

  trials_are_lists : (left wanted : List Control)
      → trials_are_short try_one one_is_short [] left wanted
      ≡ lists_are_short at m bound whole b ds u us (choices (length left) (length wanted))
  trials_are_lists left wanted =
      trials_are try_one one_is_short [] left wanted
      ∙ ap (short_in try_one one_is_short) (under_none (choices (length left) (length wanted)))
      ∙ sym (lists_are (choices (length left) (length wanted)))

  -- from no dimension on
  pub among_from : (listed : List Bool) (left extents wanted : List Control)
      → listed ≡ [] → left ≡ extents
      → among try_one listed left wanted
      ≡ first_fitting at m bound whole b ds u us (choices (length extents) (length wanted))
  among_from listed left extents wanted e f =
      ap₂ (λ (l : List Bool) (r : List Control). among try_one l r wanted) e f
      ∙ among_is_first extents wanted

  pub trials_from : (listed : List Bool) (left extents wanted : List Control)
      → listed ≡ [] → left ≡ extents
      → trials_are_short try_one one_is_short listed left wanted
      ≡ lists_are_short at m bound whole b ds u us (choices (length extents) (length wanted))
  trials_from listed left extents wanted e f =
      ap₂ (λ (l : List Bool) (r : List Control).
      trials_are_short try_one one_is_short l r wanted) e f
      ∙ trials_are_lists extents wanted

-- ---- where no dimension is left

module _ {X : Type 0} (try : List Bool → Option Argument) (is_short : List Bool → Bool)
    (f : X → Control) (listed slice : List Bool) (same : slice ≡ listed) where
  pub among_none : (left wanted : List X) → length left ≡ 0 → length wanted ≡ 0
      → try slice ≡ among try listed (map f left) (map f wanted)
  among_none [] [] h k = ap try same
  among_none [] (y ∷ ys) h k = absurd (omega arith)
  among_none (x ∷ xs) ys h k = absurd (omega arith)

  pub trials_none : (left wanted : List X) → length left ≡ 0 → length wanted ≡ 0
      → is_short slice ≡ trials_are_short try is_short listed (map f left) (map f wanted)
  trials_none [] [] h k = ap is_short same
  trials_none [] (y ∷ ys) h k = absurd (omega arith)
  trials_none (x ∷ xs) ys h k = absurd (omega arith)
