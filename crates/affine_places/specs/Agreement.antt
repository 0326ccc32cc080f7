-- Which expressions and conditions agree.
use Rattle.std.specs.Prelude.{◌≡◌, ◌==◌, ℕ, Bool, true, false, ◌&&◌, Option, Some, None, Result, Ok, Err}
use Rattle.exo_tree.specs.Tree.{Control, Condition, True, False, Flag, FieldFlag, Lt, Le, Gt, Ge, Eq, And, Or}
use Rattle.affine_forms.specs.declared.error.FormError.{FormError}
use Rattle.affine_forms.specs.Atoms.{same_form}
use Rattle.affine_forms.specs.Forms.{Reading, normal, is_writable}
use Rattle.affine_forms.specs.Outcomes.{IsWide}

-- expressions agree where their normal forms are equal
abbrev pub agree : Reading → Control → Control → Bool
agree at a b = same_form (normal at a) (normal at b)

abbrev pub agreement_fits : Reading → Control → Control → Bool
agreement_fits at a b = is_writable at a && is_writable at b

abbrev pub sides_agree : Reading → Control → Control → Control → Control → Bool
sides_agree at a b x y = agree at a x && agree at b y

abbrev pub sides_fit : Reading → Control → Control → Control → Control → Bool
sides_fit at a b x y = agreement_fits at a x && agreement_fits at b y

abbrev pub is_true : Condition → Bool
is_true d = elim d [ True ↦ true | _ ↦ false ]

abbrev pub is_false : Condition → Bool
is_false d = elim d [ False ↦ true | _ ↦ false ]

abbrev pub is_flag : ℕ → Condition → Bool
is_flag x d = elim d [ Flag y ↦ x == y | _ ↦ false ]

abbrev pub is_field_flag : ℕ → Condition → Bool
is_field_flag f d = elim d [ FieldFlag g ↦ f == g | _ ↦ false ]

abbrev pub and_halves : Condition → Option (Condition × Condition)
and_halves d = elim d [ And x y ↦ Some (x, y) | _ ↦ None ]

abbrev pub or_halves : Condition → Option (Condition × Condition)
or_halves d = elim d [ Or x y ↦ Some (x, y) | _ ↦ None ]

-- comparisons agree where they are of one kind and their sides agree
abbrev pub comparisons_agree : Reading → Condition → Condition → Bool
comparisons_agree at (Lt a b) d = elim d [ Lt x y ↦ sides_agree at a b x y | _ ↦ false ]
comparisons_agree at (Le a b) d = elim d [ Le x y ↦ sides_agree at a b x y | _ ↦ false ]
comparisons_agree at (Gt a b) d = elim d [ Gt x y ↦ sides_agree at a b x y | _ ↦ false ]
comparisons_agree at (Ge a b) d = elim d [ Ge x y ↦ sides_agree at a b x y | _ ↦ false ]
comparisons_agree at (Eq a b) d = elim d [ Eq x y ↦ sides_agree at a b x y | _ ↦ false ]
comparisons_agree at c d = false

-- conditions agree where they are the same tree of connectives, comparisons, names and fields, and their comparisons agree
abbrev pub conditions_agree : Reading → Condition → Condition → Bool
conditions_agree at True d = is_true d
conditions_agree at False d = is_false d
conditions_agree at (Flag x) d = is_flag x d
conditions_agree at (FieldFlag f) d = is_field_flag f d
conditions_agree at (And a b) d =
    elim (and_halves d) [ None ↦ false | Some p ↦ conditions_agree at a p.0 && conditions_agree at b p.1 ]
conditions_agree at (Or a b) d =
    elim (or_halves d) [ None ↦ false | Some p ↦ conditions_agree at a p.0 && conditions_agree at b p.1 ]
conditions_agree at c d = comparisons_agree at c d

-- the normal forms that are compared can be written down
abbrev pub comparisons_fit : Reading → Condition → Condition → Bool
comparisons_fit at (Lt a b) d = elim d [ Lt x y ↦ sides_fit at a b x y | _ ↦ true ]
comparisons_fit at (Le a b) d = elim d [ Le x y ↦ sides_fit at a b x y | _ ↦ true ]
comparisons_fit at (Gt a b) d = elim d [ Gt x y ↦ sides_fit at a b x y | _ ↦ true ]
comparisons_fit at (Ge a b) d = elim d [ Ge x y ↦ sides_fit at a b x y | _ ↦ true ]
comparisons_fit at (Eq a b) d = elim d [ Eq x y ↦ sides_fit at a b x y | _ ↦ true ]
comparisons_fit at c d = true

abbrev pub conditions_fit : Reading → Condition → Condition → Bool
conditions_fit at (And a b) d =
    elim (and_halves d) [ None ↦ true | Some p ↦ conditions_fit at a p.0 && conditions_fit at b p.1 ]
conditions_fit at (Or a b) d =
    elim (or_halves d) [ None ↦ true | Some p ↦ conditions_fit at a p.0 && conditions_fit at b p.1 ]
conditions_fit at c d = comparisons_fit at c d

-- a test is answered exactly where the forms that it needs can be written down
abbrev pub Tested : Result Bool FormError → Bool → Bool → Type 0
Tested (Ok t) fits test = (fits ≡ true) × (t ≡ test)
Tested (Err e) fits test = IsWide e fits
