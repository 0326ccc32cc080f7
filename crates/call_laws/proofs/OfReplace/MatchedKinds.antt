-- A match gives buffers for buffers, and for nothing else.
use Rattle.std.proofs.Common.{◌≡◌, ℕ, ◌==◌, nat_lt, Bool, true, false, not, ◌&&◌, List, [], ◌∷◌}
use Rattle.std.proofs.Common.{length, Option, Some, None, IfSome, Result, Ok, Err, if◌then◌else◌}
use Rattle.std.proofs.Common.{refl, ap₂, subst}
use Rattle.exo_tree.specs.Tree.{Control, Coord, Argument, ControlArg, ConditionArg, Whole}
use Rattle.exo_tree.specs.Tree.{ParamKind, ControlParam, TensorParam, WindowParam, Param, Block}
use Rattle.exo_tree.specs.Tree.{Procedure}
use Rattle.exo_tree.specs.Places.{Path}
use Rattle.meaning_laws.specs.Scoped.{has_binder}
use Rattle.affine_forms.specs.Forms.{Reading}
use Rattle.inplace_laws.specs.Inline.{is_view}
use Rattle.match_laws.specs.Names.{Buffer, Names}
use Rattle.match_laws.specs.Pairs.{Pair, Numbers, Truths, Binders, Own, Access, Unlike}
use Rattle.match_laws.specs.Moved.{Moving}
use Rattle.match_laws.specs.Windows.{Use, Spot, window_of, coords_from, fitting, argument_from}
use Rattle.match_laws.specs.Windows.{are_at_zero, first_fitting, all_of_name, argument_among}
use Rattle.match_laws.specs.Windows.{argument_of, all_moved, choices, uses_of}
use Rattle.match_laws.specs.Matched.{known_if, known_by, argument_if}
use Rattle.match_laws.specs.Matched.{argument_in, variable_of, flag_of, or_differs, first_path}
use Rattle.match_laws.specs.Matched.{params, walk, by_walk, argument_for}
use Rattle.match_laws.specs.MatchedFits.{AreGiven}
use Rattle.match_laws.proofs.MatchedFits.{matched_fits}
use Rattle.match_laws.specs.Inline.MovedIsPut.{is_of_kind, are_of_kinds}
use Rattle.call_laws.specs.Replace.MatchedKinds.{KindsMatch}

abbrev IsNumber : Argument → Type 0
IsNumber a = not (is_view a) ≡ true

abbrev IsView : Argument → Type 0
IsView a = is_view a ≡ true

if_some : (P : Argument → Type 0) (t : Bool) (o : Option Argument) → IfSome o P
    → IfSome (if t then o else None) P
if_some P true o h = h
if_some P false o h = tt

or_else : (P : Argument → Type 0) (rest o : Option Argument) → IfSome rest P → IfSome o P
    → IfSome (elim o [ None ↦ rest | Some a ↦ Some a ]) P
or_else P rest None h k = h
or_else P rest (Some a) h k = k

-- ---- control parameters

module _ (params : ℕ → Bool) (x : ℕ) where
  known : (a : Argument) (o : Option ℕ) → IsNumber a
      → IfSome (argument_if x (known_if params a o)) IsNumber
  known a None h = tt
  known a (Some y) h = go (params y)
    where
      go : (t : Bool) → IfSome (argument_if x
          (if t then Some (record { param = y; argument = a }) else None)) IsNumber
      go true = if_some IsNumber (y == x) (Some a) h
      go false = tt

  one : (a : Pair) → IfSome (argument_if x (known_by params a)) IsNumber
  one (Numbers p true e g) = known (ControlArg g) (variable_of e) refl
  one (Numbers p false e g) = tt
  one (Truths p true c d) = known (ConditionArg d) (flag_of c) refl
  one (Truths p false c d) = tt
  one (Binders a b) = tt
  one (Own p a b) = tt
  one (Access p a cs y ds) = tt
  one (Unlike p) = tt

  numbers : (pairs : List Pair) → IfSome (argument_in params pairs x) IsNumber
  numbers [] = tt
  numbers (a ∷ pairs) =
      or_else IsNumber (argument_in params pairs x) (argument_if x (known_by params a))
      (numbers pairs) (one a)

-- ---- buffer parameters

module _ (at : Reading) (m : Moving) (bound : ℕ → Bool) where
  window_is : (y : ℕ) (cs : List Coord) → IsView (window_of at m bound y cs)
  window_is y [] = refl
  window_is y (c ∷ cs) = refl

  from_spots : (whole : Bool) (b : Buffer) (y : ℕ) (ds : List Control) (ss : List Spot)
      → IfSome (argument_from at m bound whole b y ds ss) IsView
  from_spots true b y ds ss =
      if_some IsView (b.tensor && are_at_zero at m bound ss) (Some (Whole y)) refl
  from_spots false b y ds ss = window_is y (coords_from at m bound ss ds)

  of_spots : (whole : Bool) (b : Buffer) (y : ℕ) (ds : List Control) (rest : Option Argument)
      (o : Option (List Spot))
      → IfSome rest IsView
      → IfSome (elim o [
        | None ↦ rest
        | Some ss ↦ elim (argument_from at m bound whole b y ds ss) [
          | None ↦ rest
          | Some a ↦ Some a
        ]
      ]) IsView
  of_spots whole b y ds rest None h = h
  of_spots whole b y ds rest (Some ss) h =
      or_else IsView rest (argument_from at m bound whole b y ds ss) h (from_spots whole b y ds ss)

  views : (whole : Bool) (b : Buffer) (ds : List Control) (u : Use) (us : List Use)
      (lists : List (List Bool))
      → IfSome (first_fitting at m bound whole b ds u us lists) IsView
  views whole b ds u us [] = tt
  views whole b ds u us (listed ∷ more) =
      of_spots whole b u.name ds (first_fitting at m bound whole b ds u us more)
      (fitting at m bound listed u us) (views whole b ds u us more)

  among : (whole : Bool) (rank : ℕ) (u : Use) (us : List Use) (b : Option Buffer)
      (ds : Option (List Control))
      → IfSome (argument_among at m bound whole rank u us b ds) IsView
  among whole rank u us None ds = tt
  among whole rank u us (Some b) None = tt
  among whole rank u us (Some b) (Some ds) =
      if_some IsView (not (bound u.name) && all_of_name at m bound u.name us)
      (first_fitting at m bound whole b ds u us (choices (length b.extents) rank))
      (views whole b ds u us (choices (length b.extents) rank))

  buffers : (whole : Bool) (dims : List Control) (theirs : Names) (us : List Use)
      → IfSome (argument_of at m bound whole dims theirs us) IsView
  buffers whole dims theirs [] = tt
  buffers whole dims theirs (u ∷ us) =
      among whole (length dims) u us (theirs u.name) (all_moved at m bound dims)

-- ---- all of them

abbrev failed : Path → Result Argument Path
failed p = Err p

abbrev answered : Argument → Result Argument Path
answered a = Ok a

no_answer : (p : Path) (a : Argument) → failed p ≡ answered a → ⊥
no_answer p a e = cc

one_answer : (a b : Argument) → answered a ≡ answered b → a ≡ b
one_answer a b e = cc

told : (P : Argument → Type 0) (p : Path) (o : Option Argument) (a : Argument) → IfSome o P
    → or_differs p o ≡ Ok a → P a
told P p None a h e = absurd (no_answer p a e)
told P p (Some b) a h e = subst P (one_answer b a e) h

module _ (at : Reading) (theirs : Names) (block : Block) (q : Procedure) where
  is_kind : (x : ℕ) (kind : ParamKind) (a : Argument)
      → argument_for at theirs block q x kind ≡ Ok a → is_of_kind kind a ≡ true
  is_kind x (ControlParam kind) a e =
      told IsNumber [] (argument_in (params at theirs block q) (walk at theirs block q) x) a
      (numbers (params at theirs block q) x (walk at theirs block q)) e
  is_kind x (TensorParam cell dims memory) a e =
      let uses = uses_of x (walk at theirs block q) in
      let whole = true && nat_lt 0 (length dims) in
      told IsView (first_path uses)
      (argument_of at (by_walk at theirs block q) (has_binder block) whole dims theirs uses) a
      (buffers at (by_walk at theirs block q) (has_binder block) whole dims theirs uses) e
  is_kind x (WindowParam cell dims memory) a e =
      let uses = uses_of x (walk at theirs block q) in
      told IsView (first_path uses)
      (argument_of at (by_walk at theirs block q) (has_binder block) false dims theirs uses) a
      (buffers at (by_walk at theirs block q) (has_binder block) false dims theirs uses) e

  all_kinds : (ps : List Param) (args : List Argument) → AreGiven at theirs block q ps args
      → are_of_kinds ps args ≡ true
  all_kinds [] args h = refl
  all_kinds (p ∷ ps) [] h = refl
  all_kinds (p ∷ ps) (a ∷ args) h =
      ap₂ (λ s t. s && t) (is_kind p.binder.id p.kind a h.0) (all_kinds ps args h.1)

pub kinds_match : KindsMatch
kinds_match at theirs block q args e =
    all_kinds at theirs block q q.params args (matched_fits at theirs block q args e).given
