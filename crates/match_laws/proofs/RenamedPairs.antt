-- What stands against what, under other ids.
use Rattle.std.proofs.Common.{◌≡◌, ◌∙◌, ℕ, suc, ◌==◌, Bool, true, false, ◌&&◌, List, [], ◌∷◌, ◌++◌}
use Rattle.std.proofs.Common.{map, Option, Some, None, option_map, if◌then◌else◌, refl, sym, ap, ap₂}
use Rattle.std.specs.Ordering.{int_eq}
use Rattle.exo_tree.specs.Tree.{Control, Datum, Const, Read, Negated, Relu, Plus}
use Rattle.exo_tree.specs.Tree.{Minus, Times, Select, Coord, At, Span, Argument, ControlArg}
use Rattle.exo_tree.specs.Tree.{ConditionArg, Whole, Window, Statement, Assign, Reduce, Config, Pass}
use Rattle.exo_tree.specs.Tree.{If, For, Alloc, View, Call, Block, end, next}
use Rattle.exo_tree.specs.Places.{Branch, Main, Else, Path}
use Rattle.exo_tree.specs.Renaming.{re_control, re_controls, re_condition, re_datum, re_coords}
use Rattle.exo_tree.specs.Renaming.{re_argument, re_arguments, re_statement, re_block}
use Rattle.match_laws.specs.Names.{Buffer, Names, extents_of, whole_of}
use Rattle.match_laws.specs.Pairs as pairs
use Rattle.exo_tree.specs.Cells.{same_cell}
use Rattle.match_laws.specs.Pairs.{Pair, Numbers, Truths, Binders, Own, Access, Unlike}
use Rattle.match_laws.specs.Pairs.{same_cells, points, paired, step_to}
use Rattle.match_laws.proofs.RenamedNames.{AreNames, re_buffer, whole_re}

-- f: the callee's ids; g: those of the block
module _ (f g : ℕ → ℕ) where
  abbrev pub re_pair : Pair → Pair
  re_pair (Numbers p whole e d) = Numbers p whole (re_control f e) (re_control g d)
  re_pair (Truths p whole c d) = Truths p whole (re_condition f c) (re_condition g d)
  re_pair (Binders x y) = Binders (f x) (g y)
  re_pair (Own p x y) = Own p (f x) (g y)
  re_pair (Access p x cs y ds) = Access p (f x) (re_coords f cs) (g y) (re_coords g ds)
  re_pair (Unlike p) = Unlike p

pub appended : {A B : Type 0} (h : A → B) (xs ys : List A)
    → map h (xs ++ ys) ≡ map h xs ++ map h ys
appended h [] ys = refl
appended h (x ∷ xs) ys = ap (λ zs. h x ∷ zs) (appended h xs ys)

points_re : (to : ℕ → ℕ) (es : List Control)
    → points (re_controls to es) ≡ re_coords to (points es)
points_re to [] = refl
points_re to (e ∷ es) = ap (λ cs. At (re_control to e) ∷ cs) (points_re to es)

cells_re : (f g : ℕ → ℕ) (a b : Option Buffer)
    → same_cells (option_map (re_buffer f) a) (option_map (re_buffer g) b) ≡ same_cells a b
cells_re f g None b = refl
cells_re f g (Some a) None = refl
cells_re f g (Some a) (Some b) = refl

-- the pairs of an access: of a parameter, of a name of the block's own, and of another name
abbrev chosen : Bool → Bool → Bool → List Pair → List Pair → List Pair → List Pair
chosen s t u access own none =
    if s then (if t then (if u then none else access) else own) else none

chosen_re : (h : Pair → Pair) (s t u : Bool) (access own none : List Pair)
    → chosen s t u (map h access) (map h own) (map h none) ≡ map h (chosen s t u access own none)
chosen_re h false t u access own none = refl
chosen_re h true false u access own none = refl
chosen_re h true true false access own none = refl
chosen_re h true true true access own none = refl

if_re : (h : Pair → Pair) (t : Bool) (a b : List Pair)
    → (if t then map h a else map h b) ≡ map h (if t then a else b)
if_re h true a b = refl
if_re h false a b = refl

module _ (f g : ℕ → ℕ) (those_params params those_bound bound : ℕ → Bool)
    (those_ours ours those_theirs theirs : Names)
    (param_re : (x : ℕ) → those_params (f x) ≡ params x)
    (bound_re : (y : ℕ) → those_bound (g y) ≡ bound y)
    (ours_re : AreNames f those_ours ours) (theirs_re : AreNames g those_theirs theirs) where
  abbrev re : List Pair → List Pair
  re = map (re_pair f g)

  controls_re : (p : Path) (es ds : List Control)
      → pairs.controls_paired those_params those_bound those_ours those_theirs p
      (re_controls f es) (re_controls g ds)
      ≡ re (pairs.controls_paired params bound ours theirs p es ds)
  controls_re p [] [] = refl
  controls_re p [] (d ∷ ds) = refl
  controls_re p (e ∷ es) [] = refl
  controls_re p (e ∷ es) (d ∷ ds) =
      ap (λ zs. Numbers p false (re_control f e) (re_control g d) ∷ zs) (controls_re p es ds)

  coords_re : (p : Path) (cs ds : List Coord)
      → pairs.coords_paired those_params those_bound those_ours those_theirs p
      (re_coords f cs) (re_coords g ds)
      ≡ re (pairs.coords_paired params bound ours theirs p cs ds)
  coords_re p [] [] = refl
  coords_re p [] (d ∷ ds) = refl
  coords_re p (c ∷ cs) [] = refl
  coords_re p (At e ∷ cs) (At d ∷ ds) =
      ap (λ zs. Numbers p false (re_control f e) (re_control g d) ∷ zs) (coords_re p cs ds)
  coords_re p (At e ∷ cs) (Span a b ∷ ds) = refl
  coords_re p (Span a b ∷ cs) (At d ∷ ds) = refl
  coords_re p (Span a b ∷ cs) (Span c d ∷ ds) =
      ap (λ zs. Numbers p false (re_control f a) (re_control g c)
      ∷ Numbers p false (re_control f b) (re_control g d) ∷ zs) (coords_re p cs ds)

  tests_re : (x y : ℕ) (access own none : List Pair)
      → chosen (same_cells (those_ours (f x)) (those_theirs (g y))) (those_params (f x))
      (those_bound (g y)) access own none
      ≡ chosen (same_cells (ours x) (theirs y)) (params x) (bound y) access own none
  tests_re x y access own none =
      ap₂ (λ o u. chosen (same_cells o u) (those_params (f x)) (those_bound (g y)) access own none)
      (ours_re x) (theirs_re y)
      ∙ ap (λ s. chosen s (those_params (f x)) (those_bound (g y)) access own none)
      (cells_re f g (ours x) (theirs y))
      ∙ ap₂ (λ t u. chosen (same_cells (ours x) (theirs y)) t u access own none) (param_re x)
      (bound_re y)

  access_re : (p : Path) (x : ℕ) (cs : List Coord) (y : ℕ) (ds : List Coord)
      → pairs.access_paired those_params those_bound those_ours those_theirs p (f x)
      (re_coords f cs) (g y) (re_coords g ds)
      ≡ re (pairs.access_paired params bound ours theirs p x cs y ds)
  access_re p x cs y ds =
      tests_re x y (re (Access p x cs y ds ∷ []))
      (Own p (f x) (g y) ∷ pairs.coords_paired those_params those_bound those_ours those_theirs p
      (re_coords f cs) (re_coords g ds)) (re (Unlike p ∷ []))
      ∙ ap (λ zs. chosen (same_cells (ours x) (theirs y)) (params x) (bound y)
      (re (Access p x cs y ds ∷ [])) (Own p (f x) (g y) ∷ zs) (re (Unlike p ∷ [])))
      (coords_re p cs ds)
      ∙ chosen_re (re_pair f g) (same_cells (ours x) (theirs y)) (params x) (bound y)
      (Access p x cs y ds ∷ [])
      (Own p x y ∷ pairs.coords_paired params bound ours theirs p cs ds) (Unlike p ∷ [])

  our_whole : (x : ℕ) → whole_of (extents_of (those_ours (f x)))
      ≡ re_coords f (whole_of (extents_of (ours x)))
  our_whole x = ap (λ o. whole_of (extents_of o)) (ours_re x) ∙ whole_re f (ours x)

  their_whole : (y : ℕ) → whole_of (extents_of (those_theirs (g y)))
      ≡ re_coords g (whole_of (extents_of (theirs y)))
  their_whole y = ap (λ o. whole_of (extents_of o)) (theirs_re y) ∙ whole_re g (theirs y)

  wholes_are : (p : Path) (x y : ℕ)
      → pairs.wholes_paired those_params those_bound those_ours those_theirs p (f x) (g y)
      ≡ re (pairs.wholes_paired params bound ours theirs p x y)
  wholes_are p x y =
      ap₂ (λ cs ds. chosen (same_cells (those_ours (f x)) (those_theirs (g y)))
      (those_params (f x)) (those_bound (g y)) (Access p (f x) cs (g y) ds ∷ [])
      (Own p (f x) (g y) ∷ []) (Unlike p ∷ [])) (our_whole x) (their_whole y)
      ∙ tests_re x y
      (re (Access p x (whole_of (extents_of (ours x))) y (whole_of (extents_of (theirs y))) ∷ []))
      (re (Own p x y ∷ [])) (re (Unlike p ∷ []))
      ∙ chosen_re (re_pair f g) (same_cells (ours x) (theirs y)) (params x) (bound y)
      (Access p x (whole_of (extents_of (ours x))) y (whole_of (extents_of (theirs y))) ∷ [])
      (Own p x y ∷ []) (Unlike p ∷ [])

  -- of parameters alone
  of_params : (p : Path) (x : ℕ) (those its : List Pair) → those ≡ re its
      → (if those_params (f x) then those else Unlike p ∷ [])
      ≡ re (if params x then its else Unlike p ∷ [])
  of_params p x those its e =
      ap₂ (λ t zs. if t then zs else Unlike p ∷ []) (param_re x) e
      ∙ if_re (re_pair f g) (params x) its (Unlike p ∷ [])

  whole_is : (p : Path) (x y : ℕ) (ds : List Coord)
      → pairs.whole_paired those_params those_bound those_ours those_theirs p (f x) (g y)
      (re_coords g ds)
      ≡ re (pairs.whole_paired params bound ours theirs p x y ds)
  whole_is p x y ds =
      of_params p x (pairs.access_paired those_params those_bound those_ours those_theirs p (f x)
      (whole_of (extents_of (those_ours (f x)))) (g y) (re_coords g ds))
      (pairs.access_paired params bound ours theirs p x (whole_of (extents_of (ours x))) y ds)
      (ap (λ cs. pairs.access_paired those_params those_bound those_ours those_theirs p (f x) cs
      (g y) (re_coords g ds)) (our_whole x)
      ∙ access_re p x (whole_of (extents_of (ours x))) y ds)

  window_is : (p : Path) (x : ℕ) (cs : List Coord) (y : ℕ)
      → pairs.window_paired those_params those_bound those_ours those_theirs p (f x)
      (re_coords f cs) (g y)
      ≡ re (pairs.window_paired params bound ours theirs p x cs y)
  window_is p x cs y =
      of_params p x (pairs.access_paired those_params those_bound those_ours those_theirs p (f x)
      (re_coords f cs) (g y) (whole_of (extents_of (those_theirs (g y)))))
      (pairs.access_paired params bound ours theirs p x cs y (whole_of (extents_of (theirs y))))
      (ap (λ ds. pairs.access_paired those_params those_bound those_ours those_theirs p (f x)
      (re_coords f cs) (g y) ds) (their_whole y)
      ∙ access_re p x cs y (whole_of (extents_of (theirs y))))

  both_re : (a b c d : List Pair) → a ≡ re c → b ≡ re d → a ++ b ≡ re (c ++ d)
  both_re a b c d e h = ap₂ ◌++◌ e h ∙ sym (appended (re_pair f g) c d)

  data_re : (p : Path) (a b : Datum)
      → pairs.data_paired those_params those_bound those_ours those_theirs p (re_datum f a)
      (re_datum g b)
      ≡ re (pairs.data_paired params bound ours theirs p a b)
  data_re p (Const m) (Const n) = if_re (re_pair f g) (int_eq m n) [] (Unlike p ∷ [])
  data_re p (Read x is) (Read y js) =
      ap₂ (λ cs ds. pairs.access_paired those_params those_bound those_ours those_theirs p (f x)
      cs (g y) ds) (points_re f is) (points_re g js)
      ∙ access_re p x (points is) y (points js)
  data_re p (Negated a) (Negated b) = data_re p a b
  data_re p (Relu a) (Relu b) = data_re p a b
  data_re p (Plus a b) (Plus c d) = both_re _ _ _ _ (data_re p a c) (data_re p b d)
  data_re p (Minus a b) (Minus c d) = both_re _ _ _ _ (data_re p a c) (data_re p b d)
  data_re p (Times a b) (Times c d) = both_re _ _ _ _ (data_re p a c) (data_re p b d)
  data_re p (Select a b c d) (Select k l m n) =
      both_re _ _ _ _ (both_re _ _ _ _ (both_re _ _ _ _ (data_re p a k) (data_re p b l))
      (data_re p c m)) (data_re p d n)
  data_re p a b = refl

  argument_re : (p : Path) (whole : Bool) (a b : Argument)
      → pairs.argument_paired those_params those_bound those_ours those_theirs p whole
      (re_argument f a) (re_argument g b)
      ≡ re (pairs.argument_paired params bound ours theirs p whole a b)
  argument_re p whole (ControlArg e) (ControlArg d) = refl
  argument_re p whole (ConditionArg c) (ConditionArg d) = refl
  argument_re p whole (Whole x) (Whole y) = wholes_are p x y
  argument_re p whole (Whole x) (Window y ds) = whole_is p x y ds
  argument_re p whole (Window x cs) (Whole y) = window_is p x cs y
  argument_re p whole (Window x cs) (Window y ds) = access_re p x cs y ds
  argument_re p whole a b = refl

  arguments_re : (p : Path) (as' bs : List Argument)
      → pairs.arguments_paired those_params those_bound those_ours those_theirs p
      (re_arguments f as') (re_arguments g bs)
      ≡ re (pairs.arguments_paired params bound ours theirs p as' bs)
  arguments_re p [] [] = refl
  arguments_re p [] (b ∷ bs) = refl
  arguments_re p (a ∷ as') [] = refl
  arguments_re p (a ∷ as') (b ∷ bs) =
      both_re _ _ _ _ (argument_re p false a b) (arguments_re p as' bs)

  store_re : (p : Path) (x y : ℕ) (is js : List Control) (a b : Datum)
      → pairs.access_paired those_params those_bound those_ours those_theirs p (f x)
      (points (re_controls f is)) (g y) (points (re_controls g js))
      ++ pairs.data_paired those_params those_bound those_ours those_theirs p (re_datum f a)
      (re_datum g b)
      ≡ re (pairs.access_paired params bound ours theirs p x (points is) y (points js)
      ++ pairs.data_paired params bound ours theirs p a b)
  store_re p x y is js a b = both_re _ _ _ _
      (ap₂ (λ cs ds. pairs.access_paired those_params those_bound those_ours those_theirs p (f x)
      cs (g y) ds) (points_re f is) (points_re g js)
      ∙ access_re p x (points is) y (points js)) (data_re p a b)

  if_both : (t : Bool) (p : Path) (these those : List Pair) → these ≡ re those
      → (if t then these else Unlike p ∷ []) ≡ re (if t then those else Unlike p ∷ [])
  if_both t p these those e =
      ap (λ zs. if t then zs else Unlike p ∷ []) e
      ∙ if_re (re_pair f g) t those (Unlike p ∷ [])

  mutual
    blocks_re : (under : Path → Path) (branch : Branch) (n : ℕ) (b d : Block)
        → pairs.blocks_paired those_params those_bound those_ours those_theirs under branch n
        (re_block f b) (re_block g d)
        ≡ re (pairs.blocks_paired params bound ours theirs under branch n b d)
    blocks_re under branch n end end = refl
    blocks_re under branch n end (next c d) = refl
    blocks_re under branch n (next a b) end = refl
    blocks_re under branch n (next a b) (next c d) = both_re _ _ _ _
        (statements_re (step_to params bound ours theirs under branch n) a c)
        (blocks_re under branch (suc n) b d)

    statements_re : (at : Path → Path) (a c : Statement)
        → pairs.statements_paired those_params those_bound those_ours those_theirs at
        (re_statement f a) (re_statement g c)
        ≡ re (pairs.statements_paired params bound ours theirs at a c)
    statements_re at (Assign x is a) (Assign y js b) = store_re (at []) x y is js a b
    statements_re at (Reduce x is a) (Reduce y js b) = store_re (at []) x y is js a b
    statements_re at (Config k a) (Config m b) =
        if_both (k == m) (at []) _ _ (argument_re (at []) true a b)
    statements_re at Pass Pass = refl
    statements_re at (If c a b) (If r d e) =
        ap (λ zs. Truths (at []) false (re_condition f c) (re_condition g r) ∷ zs)
        (both_re _ _ _ _ (blocks_re at Main 0 a d) (blocks_re at Else 0 b e))
    statements_re at (For i lo hi b) (For j l h d) =
        ap (λ zs. Numbers (at []) true (re_control f lo) (re_control g l)
        ∷ Numbers (at []) true (re_control f hi) (re_control g h) ∷ Binders (f i.id) (g j.id)
        ∷ zs) (blocks_re at Main 0 b d)
    statements_re at (Alloc x cell dims memory) (Alloc y type extents store) =
        if_both (same_cell cell type && (memory == store)) (at []) _ _
        (both_re _ _ _ (Binders x.id y.id ∷ []) (controls_re (at []) dims extents) refl)
    statements_re at (View w x cs) (View v y ds) =
        both_re _ _ _ (Binders w.id v.id ∷ []) (access_re (at []) x cs y ds) refl
    statements_re at (Call k as') (Call m bs) =
        if_both (k == m) (at []) _ _ (arguments_re (at []) as' bs)
    statements_re at a c = refl

  pub paired_re : (b d : Block)
      → paired those_params those_bound those_ours those_theirs (re_block f b) (re_block g d)
      ≡ map (re_pair f g) (paired params bound ours theirs b d)
  paired_re b d = blocks_re (λ path. path) Main 0 b d
