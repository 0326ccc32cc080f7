-- Tables made item by item.
use Rattle.std.proofs.Common.{◌≡◌, ◌<◌, ◌≤◌, ℕ, zero, suc, ◌+◌, List, [], ◌∷◌, ◌++◌, length, take, Some, None, refl, sym, ap, ◌∙◌, subst, arith}
use Rattle.std.specs.Prelude.{slice_get}
use Rattle.std.proofs.lemmas.List.{take-take, take_at, take_all}
use Rattle.exo_modes.specs.Calls.Tabled.{tabled}

one_longer : {B : Type 0} (above : List B) (b : B) → length (above ++ b ∷ []) ≡ suc (length above)
one_longer [] b = refl
one_longer (a ∷ above) b = ap suc (one_longer above b)

none_some : {X : Type 0} (x : X) → None ≡ Some x → ⊥
none_some x h = cc

some_same : {X : Type 0} (x y : X) → Some x ≡ Some y → x ≡ y
some_same x y h = cc

get_last : {B : Type 0} (above : List B) (b : B) → slice_get (above ++ b ∷ []) (length above) ≡ Some b
get_last [] b = refl
get_last (a ∷ above) b = get_last above b

get_taken : {B : Type 0} (t : List B) (n k : ℕ) → k < n → slice_get (take n t) k ≡ slice_get t k
get_taken [] zero k h = absurd (omega (arith, h))
get_taken [] (suc n) k h = refl
get_taken (b ∷ t) zero k h = absurd (omega (arith, h))
get_taken (b ∷ t) (suc n) zero h = refl
get_taken (b ∷ t) (suc n) (suc k) h = get_taken t n k (omega (arith, h))

module _ {A B : Type 0} (f : List B → A → B) where
  -- what was there stays
  stays : (above : List B) (items : List A) → take (length above) (tabled f above items) ≡ above
  stays above [] = take_all (length above) above (omega arith)
  stays above (a ∷ rest) =
      let more = above ++ f above a ∷ [] in
      let table = tabled f more rest in
      let shorter : length above ≤ length more = omega (arith, one_longer above (f above a)) in
      sym (take-take (length above) (length more) table shorter) ∙ ap (take (length above)) (stays more rest) ∙ take_at above (f above a ∷ []) (length above) refl

  entry : (above : List B) (items : List A) (k : ℕ) (a : A) → slice_get items k ≡ Some a → slice_get (tabled f above items) (length above + k) ≡ Some (f (take (length above + k) (tabled f above items)) a)
  entry above [] k a e = absurd (none_some a e)
  entry above (b ∷ rest) zero a e =
      let more = above ++ f above b ∷ [] in
      let table = tabled f more rest in
      let same : b ≡ a = some_same b a e in
      let here : length above + zero ≡ length above = omega arith in
      let below : length above < length more = omega (arith, one_longer above (f above b)) in
      ap (slice_get table) here
      ∙ sym (get_taken table (length more) (length above) below)
      ∙ ap (λ t. slice_get t (length above)) (stays more rest)
      ∙ get_last above (f above b)
      ∙ ap (λ t. Some (f t b)) (sym (stays above (b ∷ rest)))
      ∙ ap (λ n. Some (f (take n table) b)) (sym here)
      ∙ ap (λ x. Some (f (take (length above + zero) table) x)) same
  entry above (b ∷ rest) (suc k) a e =
      let more = above ++ f above b ∷ [] in
      let there : length more + k ≡ length above + suc k = omega (arith, one_longer above (f above b)) in
      subst (λ n. slice_get (tabled f more rest) n ≡ Some (f (take n (tabled f more rest)) a)) there (entry more rest k a e)

-- the entry of an item is made from the entries before it
pub table_entry : {A B : Type 0} (f : List B → A → B) (items : List A) (k : ℕ) (a : A) → slice_get items k ≡ Some a → slice_get (tabled f [] items) k ≡ Some (f (take k (tabled f [] items)) a)
table_entry f items k a e =
    let here : zero + k ≡ k = omega arith in
    subst (λ n. slice_get (tabled f [] items) n ≡ Some (f (take n (tabled f [] items)) a)) here (entry f [] items k a e)
