-- The match where the normal forms that it asks for have numbers of at most 2^62.
use Rattle.std.specs.Prelude.{◌≡◌, ◌↔◌, ℕ, Bool, true, false, ◌&&◌, ◌||◌, not, nat_lt, List, []}
use Rattle.std.specs.Prelude.{◌∷◌}
use Rattle.std.specs.Prelude.{length, if◌then◌else◌, Option, Some, None, Result, Ok, Err}
use Rattle.exo_tree.specs.Tree.{Control, Add, Sub, Condition, Lt, Le, Gt, Ge, Eq, And, Or, Coord}
use Rattle.exo_tree.specs.Tree.{At}
use Rattle.exo_tree.specs.Tree.{Span, Argument, ParamKind, ControlParam, TensorParam, WindowParam}
use Rattle.exo_tree.specs.Tree.{Param, Block, Procedure}
use Rattle.exo_tree.specs.Places.{Path}
use Rattle.exo_tree.specs.Passed.{passed_for}
use Rattle.affine_forms.specs.Forms.{Reading, keeps_rules, is_writable}
use Rattle.meaning_laws.specs.Scoped.{has_binder}
use Rattle.match_laws.specs.Names.{Buffer, Names}
use Rattle.match_laws.specs.Pairs.{Pair, Numbers, Truths, Binders, Own, Access, Unlike}
use Rattle.match_laws.specs.Moved.{Moving, moved, moved_condition, simpler}
use Rattle.match_laws.specs.Windows.{Use, uses_of, choices, Spot, Offset, Point, spots, same_spots}
use Rattle.match_laws.specs.Windows.{are_free, fitting, argument_from, all_moved, all_of_name}
use Rattle.match_laws.specs.Matched.{Matched, matched, differs, first_difference}
use Rattle.match_laws.specs.Matched.{first_undetermined, params, own_pairs, to, walk, moving}
use Rattle.match_laws.specs.Matched.{by_walk, argument_for, arguments_for}

-- what the match says, or that a number that it needs is too wide
pub data InWidth : Type 0 where
  Said : Matched → InWidth
  TooWide : InWidth

-- ---- the forms that a comparison asks for

module _ (at : Reading) where
  -- of what breaks the rules of expressions none is asked for
  abbrev pub is_short : Control → Bool
  is_short e = not (keeps_rules e) || is_writable at e

  abbrev pub are_short : Control → Control → Bool
  are_short a b =
      not (keeps_rules a && keeps_rules b) || (is_writable at a && is_writable at b)

  -- the sides of the comparisons that stand against each other
  abbrev pub conditions_are_short : Condition → Condition → Bool
  conditions_are_short (Lt a b) (Lt c d) = are_short a c && are_short b d
  conditions_are_short (Le a b) (Le c d) = are_short a c && are_short b d
  conditions_are_short (Gt a b) (Gt c d) = are_short a c && are_short b d
  conditions_are_short (Ge a b) (Ge c d) = are_short a c && are_short b d
  conditions_are_short (Eq a b) (Eq c d) = are_short a c && are_short b d
  conditions_are_short (And a b) (And c d) =
      conditions_are_short a c && conditions_are_short b d
  conditions_are_short (Or a b) (Or c d) = conditions_are_short a c && conditions_are_short b d
  conditions_are_short c d = true

  -- of an expression that is not known none is asked for
  abbrev pub short_if_known : Control → Option Control → Bool
  short_if_known g None = true
  short_if_known g (Some f) = are_short f g

  abbrev pub condition_short_if_known : Condition → Option Condition → Bool
  condition_short_if_known d None = true
  condition_short_if_known d (Some c) = conditions_are_short c d

  abbrev pub pair_is_short : Moving → Pair → Bool
  pair_is_short m (Numbers p whole e g) = short_if_known g (moved m e)
  pair_is_short m (Truths p whole c d) = condition_short_if_known d (moved_condition m c)
  pair_is_short m (Binders x y) = true
  pair_is_short m (Own p x y) = true
  pair_is_short m (Access p x cs y ds) = true
  pair_is_short m (Unlike p) = true

  -- up to the first pair that differs
  abbrev pub walk_is_short : Moving → List Pair → Bool
  walk_is_short m [] = true
  walk_is_short m (a ∷ pairs) =
      pair_is_short m a && (differs at m a || walk_is_short m pairs)

-- ---- the forms that a list of positions asks for

module _ (at : Reading) (m : Moving) (bound : ℕ → Bool) where
  -- the extents of spans
  abbrev pub extents_are_short : List Bool → List Coord → List Coord → Bool
  extents_are_short (true ∷ listed) (At e ∷ cs) (At g ∷ ds) = extents_are_short listed cs ds
  extents_are_short (true ∷ listed) (Span e f ∷ cs) (Span g h ∷ ds) =
      short_if_known at (Sub h g) (moved m (Sub f e)) && extents_are_short listed cs ds
  extents_are_short (false ∷ listed) cs (At g ∷ ds) = extents_are_short listed cs ds
  extents_are_short listed cs ds = true

  -- two spots of one kind
  abbrev pub spots_are_short : List Spot → List Spot → Bool
  spots_are_short (Offset a ∷ ss) (Offset b ∷ ts) = are_short at a b && spots_are_short ss ts
  spots_are_short (Point a ∷ ss) (Point b ∷ ts) = are_short at a b && spots_are_short ss ts
  spots_are_short ss ts = true

  -- an offset is written
  abbrev pub offsets_are_short : List Spot → Bool
  offsets_are_short [] = true
  offsets_are_short (Offset e ∷ ss) = is_short at e && offsets_are_short ss
  offsets_are_short (Point g ∷ ss) = offsets_are_short ss

  -- and so is the end of its span
  abbrev pub ends_are_short : List Spot → List Control → Bool
  ends_are_short [] ds = true
  ends_are_short (Point g ∷ ss) ds = ends_are_short ss ds
  ends_are_short (Offset e ∷ ss) [] = true
  ends_are_short (Offset e ∷ ss) (d ∷ ds) =
      is_short at (Add (simpler at e) d) && ends_are_short ss ds

  -- up to the first use that is not as the first one
  abbrev pub uses_are_short : List Bool → List Spot → List Use → Bool
  uses_are_short listed first [] = true
  uses_are_short listed first (u ∷ us) =
      extents_are_short listed u.ours u.theirs && elim (spots at m bound listed u.ours u.theirs) [
        | None ↦ true
        | Some ss ↦ spots_are_short first ss
            && (not (same_spots at m bound first ss) || uses_are_short listed first us)
      ]

  abbrev pub list_is_short : List Bool → Use → List Use → Bool
  list_is_short listed u us =
      extents_are_short listed u.ours u.theirs && elim (spots at m bound listed u.ours u.theirs) [
        | None ↦ true
        | Some ss ↦ offsets_are_short ss
            && (not (are_free at m bound ss) || uses_are_short listed ss us)
      ]

  -- up to the first list that gives an argument
  abbrev pub lists_are_short :
      Bool → Buffer → List Control → Use → List Use → List (List Bool) → Bool
  lists_are_short whole b ds u us [] = true
  lists_are_short whole b ds u us (listed ∷ more) =
      list_is_short listed u us && elim (fitting at m bound listed u us) [
        | None ↦ lists_are_short whole b ds u us more
        | Some ss ↦ (whole || ends_are_short ss ds)
            && elim (argument_from at m bound whole b u.name ds ss) [
              | None ↦ lists_are_short whole b ds u us more
              | Some a ↦ true
            ]
      ]

  abbrev pub lists_are_short_among :
      Bool → ℕ → Use → List Use → Option Buffer → Option (List Control) → Bool
  lists_are_short_among whole rank u us None ds = true
  lists_are_short_among whole rank u us (Some b) None = true
  lists_are_short_among whole rank u us (Some b) (Some ds) =
      not (not (bound u.name) && all_of_name at m bound u.name us)
      || lists_are_short whole b ds u us (choices (length b.extents) rank)

  abbrev pub buffer_is_short :
      Bool → List Control → (ℕ → Option Buffer) → List Use → Bool
  buffer_is_short whole dims theirs [] = true
  buffer_is_short whole dims theirs (u ∷ us) =
      lists_are_short_among whole (length dims) u us (theirs u.name) (all_moved at m bound dims)

-- ---- the match

module _ (at : Reading) (theirs : Names) (block : Block) (q : Procedure) where
  abbrev pub argument_is_short : ℕ → ParamKind → Bool
  argument_is_short x (ControlParam kind) = true
  argument_is_short x (TensorParam cell dims memory) =
      buffer_is_short at (by_walk at theirs block q) (has_binder block) (nat_lt 0 (length dims))
      dims theirs (uses_of x (walk at theirs block q))
  argument_is_short x (WindowParam cell dims memory) =
      buffer_is_short at (by_walk at theirs block q) (has_binder block) false dims theirs
      (uses_of x (walk at theirs block q))

  -- up to the first parameter without an argument
  abbrev pub arguments_are_short : List Param → Bool
  arguments_are_short [] = true
  arguments_are_short (p ∷ ps) =
      argument_is_short p.binder.id p.kind
      && elim (argument_for at theirs block q p.binder.id p.kind) [
        | Err path ↦ true
        | Ok a ↦ arguments_are_short ps
      ]

  abbrev pub strides_are_short : Result (List Argument) Path → Bool
  strides_are_short (Err p) = true
  strides_are_short (Ok args) =
      walk_is_short at (moving (params at theirs block q) (to at theirs block q)
      (passed_for q.params args)) (walk at theirs block q)

  -- in the order in which the match asks
  abbrev pub match_is_short : Bool
  match_is_short =
      elim (first_undetermined (params at theirs block q) (own_pairs at theirs block q) q.params) [
        | Some x ↦ true
        | None ↦ walk_is_short at (by_walk at theirs block q) (walk at theirs block q)
            && elim (first_difference at (by_walk at theirs block q) (walk at theirs block q)) [
              | Some p ↦ true
              | None ↦ arguments_are_short q.params
                  && strides_are_short (arguments_for at theirs block q q.params)
            ]
      ]

  abbrev pub matched_in_width : InWidth
  matched_in_width =
      if match_is_short then Said (matched at theirs block q) else TooWide

-- what is said is the match
abbrev pub WidthLaw : Type 0
WidthLaw =
    (at : Reading) (theirs : Names) (block : Block) (q : Procedure) (answer : Matched)
    → matched_in_width at theirs block q ≡ Said answer
    → matched at theirs block q ≡ answer

-- and nothing is said exactly where a form that the match asks for is too wide
abbrev pub TooWideLaw : Type 0
TooWideLaw =
    (at : Reading) (theirs : Names) (block : Block) (q : Procedure)
    → (matched_in_width at theirs block q ≡ TooWide)
    ↔ (match_is_short at theirs block q ≡ false)
