-- What the calls on conflicts answer.
use Rattle.std.specs.Prelude.{◌≡◌, ◌^◌, ℕ, nat_le, Bool, true, false, ◌&&◌, ⊤}
use Rattle.std.specs.Prelude.{List, ◌++◌, map, filter, flat_map, length, Vec, Result, Ok, Err}
use Rattle.std.specs.List.{list_all}
use Rattle.exo_tree.specs.Places.{Path}
use Rattle.affine_forms.specs.Atoms.{Linear}
use Rattle.affine_forms.specs.Formulas.{Formula}
use Rattle.affine_forms.specs.Outcomes.{IsWide}
use Rattle.affine_forms.specs.declared.error.FormError.{FormError}
use Rattle.affine_forms.specs.declared.error.FormError.TheVariants.{TooManyCases, SystemTooLarge}
use Rattle.affine_forms.specs.declared.error.FormError.TheVariants.{WideNumber, TooManySystems}
use Rattle.affine_forms.specs.declared.error.FormError.TheVariants.{Memory}
use Rattle.affine_systems.specs.Outcomes.{Owed, plain_obligation, AreOwed}
use Rattle.affine_systems.specs.Systems.{Stated, CasesPassed, SizePassed, cases_stated}
use Rattle.affine_systems.specs.declared.obligation.Obligation.{Obligation}
use Rattle.exo_effects.specs.Accesses.{Access}
use Rattle.exo_effects.specs.Conflicts.{Listing, Lists, Refuses}
use Rattle.exo_effects.specs.Conflicts.{WideForm, ManyCases, LargeSystem, ManySystems}
use Rattle.exo_effects.specs.Conflicts.{span_number, asked, points, bounds, order_row, copied_turns}
use Rattle.exo_effects.specs.Conflicts.{meeting, against, may_clash, pair_fits, owed_behind}
use Rattle.exo_effects.specs.Low.{use_is_low}
use Rattle.exo_effects.specs.Orders as orders
use Rattle.exo_effects.specs.PlainUses.{plain_use}
use Rattle.exo_effects.specs.declared.access.Access as declared
use Rattle.effect_conflicts.specs.PlainCopies.{turn_is_low}
use Rattle.effect_conflicts.specs.declared.order.Order.{Order}

-- ---- what is given

-- the formulas come exactly where all their normal forms can be written down
abbrev pub MadeAnew : Result (List Formula) FormError → Bool → List Formula → Type 0
MadeAnew (Ok c) fits fs = (fits ≡ true) × (c ≡ fs)
MadeAnew (Err e) fits fs = IsWide e fits

-- its variables are below 2^31, and it is not long
abbrev pub access_is_low : declared.Access → Bool
access_is_low a =
    use_is_low (plain_use a)
    && (nat_le (length a.guards.items) (2 ^ 20) && nat_le (length a.coords) (2 ^ 20))

abbrev pub order_is_low : Order → Bool
order_is_low o =
    (list_all turn_is_low o.first.now && nat_le (length o.first.now) (2 ^ 20))
    && (list_all turn_is_low o.second.now && nat_le (length o.second.now) (2 ^ 20))

-- ---- forms

-- it is so exactly where all numbers fit; only for want of memory it is not
abbrev pub Exactly : {A : Type 0} → Result A FormError → Bool → Type 0 → Type 0
Exactly (Ok t) fits said = (fits ≡ true) × said
Exactly (Err e) fits said = IsWide e fits

-- what is asked around an access of a copy comes last, and its points are these
abbrev pub Asked :
    {A : Type 0}
    → Result (Vec Linear A) FormError
    → Bool → ℕ → Access → List Formula → List Formula → Type 0
Asked (Ok v) fits side a old new =
    (fits ≡ true)
    × ((new ≡ old ++ asked (span_number (2 ^ 31) side) a)
    × (v.items ≡ points (span_number (2 ^ 31) side) 0 a.coords))
Asked (Err e) fits side a old new = IsWide e fits

-- the bounds of the loops of both copies, and how these stand to each other
abbrev pub ordered : orders.Order → List Formula
ordered o =
    let ss = copied_turns (2 ^ 31) 0 o.first in
    let ts = copied_turns (2 ^ 31) 1 o.second in
    flat_map bounds ss ++ (flat_map bounds ts ++ flat_map (order_row ss ts) o.rows)

-- ---- pairs

-- the pairs of an access with those of a list that it may clash with
abbrev pub clashing_with : Access → List Access → List (Access × Access)
clashing_with x ys = map (λ y. (x, y)) (filter (λ y. may_clash x y) ys)

-- what a pair owes comes exactly where its normal forms can be written down, and its systems are
-- neither too many nor too large
abbrev pub Answered :
    {A : Type 0}
    → Result (Vec Obligation A) FormError → Bool → Stated → List ℕ → Path → Type 0
Answered (Ok os) fits s what place = (fits ≡ true) × AreOwed os.items s what place
Answered (Err TooManyCases) fits s what place = (fits ≡ true) × (s ≡ CasesPassed)
Answered (Err SystemTooLarge) fits s what place = (fits ≡ true) × (s ≡ SizePassed)
Answered (Err WideNumber) fits s what place = fits ≡ false
Answered (Err TooManySystems) fits s what place = ⊥
Answered (Err Memory) fits s what place = ⊤

-- the refusal is that of the listing; want of memory is free
abbrev pub IsFault : FormError → Listing → Type 0
IsFault TooManyCases l = l ≡ Refuses ManyCases
IsFault SystemTooLarge l = l ≡ Refuses LargeSystem
IsFault WideNumber l = l ≡ Refuses WideForm
IsFault TooManySystems l = l ≡ Refuses ManySystems
IsFault Memory l = ⊤

module _ (fits : Bool) (ctx : List Formula) (order : orders.Order) (place : Path) where
  abbrev pub AnswersPair :
      {A : Type 0} → Result (Vec Obligation A) FormError → Access × Access → Type 0
  AnswersPair result p =
      Answered result (pair_fits fits order p)
      (cases_stated (meeting ctx order (2 ^ 31) p.0 p.1)) (against p) place

  -- the listing goes on behind what is owed for these pairs, or is refused there
  abbrev pub Owes :
      {A : Type 0}
      → Result A FormError → List (Access × Access) → List Owed → List Owed → Type 0
  Owes (Ok t) pairs old new =
      (rest : List (Access × Access))
      → owed_behind fits ctx order place (2 ^ 31) old (pairs ++ rest)
      ≡ owed_behind fits ctx order place (2 ^ 31) new rest
  Owes (Err e) pairs old new =
      (rest : List (Access × Access))
      → IsFault e (owed_behind fits ctx order place (2 ^ 31) old (pairs ++ rest))

-- the list comes exactly where no pair is refused; else the first pair that is refused is told
abbrev pub IsListed : {A : Type 0} → Result (Vec Obligation A) FormError → Listing → Type 0
IsListed (Ok os) l = l ≡ Lists (map plain_obligation os.items)
IsListed (Err e) l = IsFault e l
