-- The loops and the coordinates of a copy, one after the other.
use Rattle.std.proofs.Common.{◌≡◌, ◌∙◌, ◌+◌, ◌<◌, ◌≤◌, ◌++◌, ◌∷◌, ◌&&◌, [], zero, suc, ℕ, Bool, true, false}
use Rattle.std.proofs.Common.{List, map, length, get_or, drop, ap, sym, subst, append_assoc, Result, Ok, Err}
use Rattle.std.proofs.Common.{Vec, arith}
use Rattle.std.proofs.lemmas.List.{append-nil, at_drop_all, drop_more}
use Rattle.std.specs.List.{list_all}
use Rattle.std.specs.Result.{IsErrAnd}
use Rattle.affine_forms.specs.Outcomes.{IsWide}
use Rattle.affine_forms.specs.declared.error.FormError.{FormError}
use Rattle.affine_forms.specs.declared.error.FormError.TheVariants.{TooManyCases, SystemTooLarge, WideNumber}
use Rattle.affine_forms.specs.declared.error.FormError.TheVariants.{TooManySystems, Memory}
use Rattle.exo_effects.specs.Accesses as plain
use Rattle.exo_effects.specs.Orders as orders
use Rattle.exo_effects.specs.declared.access.AccessCoord.{AccessCoord}
use Rattle.effect_conflicts.specs.PlainCopies.{TurnsMade, CoordsMade}
use Rattle.effect_conflicts.specs.declared.copies.CopiedTurn.{CopiedTurn}
use Rattle.effect_conflicts.proofs.PastForms.{both_true}

-- what is left begins with the item of that index
left : {D : Type 0} (xs : List D) (k : ℕ) (x : D) → k < length xs → x ≡ get_or xs k x → drop k xs ≡ x ∷ drop (k + 1) xs
left xs k x h is = drop_more xs k x h ∙ ap (λ y. y ∷ drop (k + 1) xs) (sym is)

-- where an item passes, all pass if those behind it do
pub fits_left : {D : Type 0} (p : D → Bool) (xs : List D) (k : ℕ) (x : D) (all : Bool) → k < length xs → x ≡ get_or xs k x → p x ≡ true → all ≡ list_all p (drop k xs) → all ≡ list_all p (drop (k + 1) xs)
fits_left p xs k x all h is fits inv = inv ∙ ap (list_all p) (left xs k x h is) ∙ ap (λ b. b && list_all p (drop (k + 1) xs)) fits

-- an item goes from the front of what is left to the end of what is made
pub made_left : {A B C D : Type 0} (m : A → B) (r : C → B) (f : D → C) (xs : List D) (k : ℕ) (x : D) (old new : List A) (all : List B) → k < length xs → x ≡ get_or xs k x → map m new ≡ map m old ++ r (f x) ∷ [] → map m old ++ map r (map f (drop k xs)) ≡ all → map m new ++ map r (map f (drop (k + 1) xs)) ≡ all
made_left m r f xs k x old new all h is e inv =
    ap (λ bs. bs ++ map r (map f (drop (k + 1) xs))) e
    ∙ append_assoc (map m old) (r (f x) ∷ []) (map r (map f (drop (k + 1) xs)))
    ∙ ap (λ ys. map m old ++ map r (map f ys)) (sym (left xs k x h is))
    ∙ inv

-- what all have, the item of that index has
pub item_has : {D : Type 0} (p : D → Bool) (xs : List D) (k : ℕ) (x : D) → k < length xs → x ≡ get_or xs k x
    → list_all p xs ≡ true → p x ≡ true
item_has p [] k x l is h = absurd (omega (arith, l))
item_has p (y ∷ ys) zero x l is h = ap p is ∙ (both_true (p y) (list_all p ys) h).0
item_has p (y ∷ ys) (suc k) x l is h = item_has p ys k x (omega (arith, l)) is (both_true (p y) (list_all p ys) h).1

-- a test of all that asks each
module _ {D : Type 0} (F : List D → Bool) (p : D → Bool) (step : (x : D) (xs : List D) → F (x ∷ xs) ≡ (p x && F xs))
    (xs : List D) (k : ℕ) (all : Bool) (inv : all ≡ F (drop k xs)) where
  asked : (x : D) → k < length xs → x ≡ get_or xs k x → all ≡ (p x && F (drop (k + 1) xs))
  asked x h is = inv ∙ ap F (left xs k x h is) ∙ step x (drop (k + 1) xs)

  -- an item passes
  pub fits_on : (x : D) → k < length xs → x ≡ get_or xs k x → p x ≡ true → all ≡ F (drop (k + 1) xs)
  fits_on x h is fits = asked x h is ∙ ap (λ b. b && F (drop (k + 1) xs)) fits

  -- an item does not pass
  pub unfit_on : (x : D) → k < length xs → x ≡ get_or xs k x → p x ≡ false → all ≡ false
  unfit_on x h is unfit = asked x h is ∙ ap (λ b. b && F (drop (k + 1) xs)) unfit

  -- nothing is left
  pub fits_end : length xs ≤ k → F [] ≡ true → all ≡ true
  fits_end h e = inv ∙ at_drop_all F xs k h ∙ e

-- a list that is made item by item
module _ {B D : Type 0} (G : List D → List B) (xs : List D) (k : ℕ) (old all : List B)
    (inv : old ++ G (drop k xs) ≡ all) where
  -- an item goes from the front of what is left to the end of what is made
  pub made_on : (g : D → B) → ((x : D) (xs : List D) → G (x ∷ xs) ≡ g x ∷ G xs) → (x : D) → k < length xs
      → x ≡ get_or xs k x → (new : List B) → new ≡ old ++ g x ∷ [] → new ++ G (drop (k + 1) xs) ≡ all
  made_on g step x h is new e =
      ap (λ bs. bs ++ G (drop (k + 1) xs)) e
      ∙ append_assoc old (g x ∷ []) (G (drop (k + 1) xs))
      ∙ ap (λ ys. old ++ ys) (sym (ap G (left xs k x h is) ∙ step x (drop (k + 1) xs)))
      ∙ inv

  -- nothing is left
  pub made_end : length xs ≤ k → G [] ≡ [] → old ≡ all
  made_end h e = sym (append-nil old) ∙ ap (λ ys. old ++ ys) (sym (at_drop_all G xs k h ∙ e)) ∙ inv

-- what is too wide for a part is too wide for the whole
pub wide_whole : (e : FormError) (part whole : Bool) → IsWide e part → (part ≡ false → whole ≡ false) → IsWide e whole
wide_whole TooManyCases part whole h k = h
wide_whole SystemTooLarge part whole h k = h
wide_whole WideNumber part whole h k = k h
wide_whole TooManySystems part whole h k = h
wide_whole Memory part whole h k = h

-- it ends at an error
module _ {A : Type 0} (e : FormError) (fits : Bool) (h : IsWide e fits) where
  pub no_turns : (r : Result (Vec CopiedTurn A) FormError) (us : List orders.Turn) → IsErrAnd r (λ x. x ≡ e)
      → TurnsMade r fits us
  no_turns (Ok ts) us is = absurd is
  no_turns (Err f) us is = subst (λ y. IsWide y fits) (sym is) h

  pub no_coords : (r : Result (Vec AccessCoord A) FormError) (us : List plain.AccessCoord) → IsErrAnd r (λ x. x ≡ e)
      → CoordsMade r fits us
  no_coords (Ok cs) us is = absurd is
  no_coords (Err f) us is = subst (λ y. IsWide y fits) (sym is) h
