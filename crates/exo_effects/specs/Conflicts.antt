-- When two accesses meet: the systems that must have no integer point.
use Rattle.std.specs.Prelude.{ℕ, suc, max, ◌+◌, ◌*◌, ◌==◌, Bool, true, false, not}
use Rattle.std.specs.Prelude.{◌&&◌, if◌then◌else◌, List, [], ◌∷◌, ◌++◌, map, flat_map}
use Rattle.std.specs.Prelude.{filter, Option, Some, None, slice_get, option_map, codes}
use Rattle.exo_tree.specs.Places.{Path}
use Rattle.exo_meaning.specs.Modes.{Mode, Reading, Writing, Reducing}
use Rattle.affine_forms.specs.Atoms.{Variable, Linear, only}
use Rattle.affine_forms.specs.Formulas.{Formula, less, at_most, equal}
use Rattle.affine_systems.specs.Systems.{Stated, CasesPassed, SizePassed, Listed}
use Rattle.affine_systems.specs.Systems.{systems_of, cases_stated}
use Rattle.affine_systems.specs.Outcomes.{Owed, owed}
use Rattle.exo_effects.specs.Limits.{are_within, unless_refused}
use Rattle.text_show.specs.Layout.{Text}
use Rattle.exo_effects.specs.Renamed.{re_linear, re_formula}
use Rattle.exo_effects.specs.Fresh.{past_formula, past_all, past_access, past_order}
use Rattle.exo_effects.specs.Orders.{Turn, OrderRow, Less, Greater, Order}
use Rattle.exo_effects.specs.Accesses.{AccessCoord, At, Range, Access}

-- ---- variables of each copy, past all that stand in the forms

-- which of these it is, counted from 0
abbrev pub place_in : List ℕ → ℕ → Option ℕ
place_in [] x = None
place_in (y ∷ ys) x = if x == y then Some 0 else option_map suc (place_in ys x)

-- side: 0 for the first copy, 1 for the second
module _ (base side : ℕ) where
  -- for a variable of its loops, of its access, and for a span of its access
  abbrev pub turn_number : ℕ → ℕ
  turn_number k = base + (6 * k + side)

  abbrev pub own_number : ℕ → ℕ
  own_number k = base + (6 * k + (2 + side))

  abbrev pub span_number : ℕ → ℕ
  span_number d = base + (6 * d + (4 + side))

  -- each variable of its loops has another one, all else stays
  abbrev pub turns_apart : List ℕ → ℕ → ℕ
  turns_apart turns x = elim (place_in turns x) [ None ↦ x | Some k ↦ turn_number k ]

  -- and so has each variable of its access
  abbrev pub apart : List ℕ → List ℕ → ℕ → ℕ
  apart turns own x = elim (place_in own x) [ None ↦ turns_apart turns x | Some k ↦ own_number k ]

-- ---- parts of a system

abbrev pub variable : ℕ → Linear
variable x = only (Variable x)

abbrev pub bounds : Turn → List Formula
bounds t = at_most t.lower (variable t.variable) ∷ less (variable t.variable) t.upper ∷ []

-- over other variables
module _ (r : ℕ → ℕ) where
  abbrev pub re_turn : Turn → Turn
  re_turn t = record {
    variable = r t.variable;
    lower = re_linear r t.lower;
    upper = re_linear r t.upper;
  }

  abbrev pub re_coord : AccessCoord → AccessCoord
  re_coord (At e) = At (re_linear r e)
  re_coord (Range a b) = Range (re_linear r a) (re_linear r b)

  abbrev pub re_access : Access → Access
  re_access x = record x {
    coords = map re_coord x.coords;
    guards = map (re_formula r) x.guards;
  }

-- nothing where one of the copies has no such variable
abbrev pub where_both : Option Turn → Option Turn → (ℕ → ℕ → Formula) → List Formula
where_both (Some s) (Some t) says = says s.variable t.variable ∷ []
where_both s t says = []

abbrev pub order_row : List Turn → List Turn → OrderRow → List Formula
order_row ss ts (Less k) =
    where_both (slice_get ss k) (slice_get ts k) (λ x y. less (variable x) (variable y))
order_row ss ts (Greater k) =
    where_both (slice_get ss k) (slice_get ts k) (λ x y. less (variable y) (variable x))

-- a variable of its own stands for each span, from the dimension of that number on
abbrev pub points : (ℕ → ℕ) → ℕ → List AccessCoord → List Linear
points span d [] = []
points span d (At e ∷ cs) = e ∷ points span (suc d) cs
points span d (Range a b ∷ cs) = variable (span d) ∷ points span (suc d) cs

abbrev pub span_rows : (ℕ → ℕ) → ℕ → List AccessCoord → List Formula
span_rows span d [] = []
span_rows span d (At e ∷ cs) = span_rows span (suc d) cs
span_rows span d (Range a b ∷ cs) =
    at_most a (variable (span d)) ∷ less (variable (span d)) b ∷ span_rows span (suc d) cs

-- dimension by dimension
abbrev pub equations : List Linear → List Linear → List Formula
equations [] ls = []
equations (k ∷ ks) [] = []
equations (k ∷ ks) (l ∷ ls) = equal k l ∷ equations ks ls

-- what is asked around an access, and of its spans
abbrev pub asked : (ℕ → ℕ) → Access → List Formula
asked span x = x.guards ++ span_rows span 0 x.coords

-- ---- two accesses

abbrev pub variables_of : List Turn → List ℕ
variables_of ts = map (λ t. t.variable) ts

module _ (base side : ℕ) (ts : List Turn) where
  abbrev pub copied_turns : List Turn
  copied_turns = map (re_turn (turns_apart base side (variables_of ts))) ts

  abbrev pub copied : Access → Access
  copied x = re_access (apart base side (variables_of ts) x.own) x

module _ (ctx : List Formula) (order : Order) (base : ℕ) where
  -- the first access meets the second where all this holds
  abbrev pub meeting : Access → Access → List Formula
  meeting x y =
      let ss = copied_turns base 0 order.first in
      let ts = copied_turns base 1 order.second in
      let a = copied base 0 order.first x in
      let b = copied base 1 order.second y in
      ctx
      ++ (flat_map bounds ss
      ++ (flat_map bounds ts
      ++ (flat_map (order_row ss ts) order.rows
      ++ (asked (span_number base 0) a
      ++ (asked (span_number base 1) b
      ++ equations (points (span_number base 0) 0 a.coords)
      (points (span_number base 1) 0 b.coords))))))

abbrev pub is_mode : Mode → Mode → Bool
is_mode Reading m = elim m [ Reading ↦ true | Writing ↦ false | Reducing ↦ false ]
is_mode Writing m = elim m [ Reading ↦ false | Writing ↦ true | Reducing ↦ false ]
is_mode Reducing m = elim m [ Reading ↦ false | Writing ↦ false | Reducing ↦ true ]

-- not both read, and not both reduce
abbrev pub modes_clash : Mode → Mode → Bool
modes_clash m n =
    not (is_mode Reading m && is_mode Reading n) && not (is_mode Reducing m && is_mode Reducing n)

abbrev pub may_clash : Access → Access → Bool
may_clash x y = (x.root == y.root) && modes_clash x.mode y.mode

-- the first in the order of the first list, each with the second in the order of the second
abbrev pub clashing : List Access → List Access → List (Access × Access)
clashing xs ys =
    flat_map (λ x. map (λ y. (x, y)) (filter (λ y. may_clash x y) ys)) xs

abbrev pub against : Access × Access → Text
against p = p.0.text ++ codes " against " ++ p.1.text

-- ---- what is owed, and when it is refused

pub data Fault : Type 0 where
  WideForm ManyCases LargeSystem ManySystems : Fault

pub data Listing : Type 0 where
  Lists : List Owed → Listing
  Refuses : Fault → Listing

-- past all variables that stand in these
abbrev pub past_these : List Formula → Order → List Access → List Access → ℕ
past_these ctx order xs ys =
    max (max (past_all past_formula ctx) (past_order order))
    (max (past_all past_access xs) (past_all past_access ys))

-- of systems: first their number, then their sizes
abbrev pub stated_fault : Stated → Option Fault
stated_fault CasesPassed = Some ManyCases
stated_fault SizePassed = Some LargeSystem
stated_fault (Listed ss) = None

module _ (ctx : List Formula) (order : Order) (place : Path) (base : ℕ) where
  abbrev pub owed_for : Access × Access → List Owed
  owed_for p = map (owed (against p) place) (systems_of (meeting ctx order base p.0 p.1))

-- fits: the normal forms of the context can be written down

-- all normal forms that a pair needs can be: those of context, loops and both accesses
abbrev pub pair_fits : Bool → Order → Access × Access → Bool
pair_fits fits order p = fits && (order.fits && (p.0.fits && p.1.fits))

module _ (fits : Bool) (ctx : List Formula) (order : Order) (place : Path) (base : ℕ) where
  -- first its forms, then its systems
  abbrev pub pair_fault : Access × Access → Option Fault
  pair_fault p =
      if pair_fits fits order p then stated_fault (cases_stated (meeting ctx order base p.0 p.1))
      else Some WideForm

  -- behind what is owed already; the first pair that is refused is told
  abbrev pub owed_behind : List Owed → List (Access × Access) → Listing
  owed_behind os [] = Lists os
  owed_behind os (p ∷ ps) =
      let more = os ++ owed_for ctx order place base p in
      unless_refused Refuses ManySystems (pair_fault p) (are_within more) (owed_behind more ps)

-- no normal form is made but with a pair that may clash
abbrev pub conflicts_of :
    Bool → List Formula → Order → Path → List Access → List Access → Listing
conflicts_of fits ctx order place xs ys =
    owed_behind fits ctx order place (past_these ctx order xs ys) [] (clashing xs ys)
