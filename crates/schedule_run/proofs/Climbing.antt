-- From a version to those of which it was made.
use Rattle.std.proofs.Common.{◌≡◌, ◌==◌, ℕ, zero, suc, Bool, true, false, List, [], ◌∷◌}
use Rattle.std.proofs.Common.{◌++◌, Option, Some, None, refl, sym, ap, ◌∙◌, append_assoc}
use Rattle.std.proofs.Common.{map, ◌<◌, take, get_or, length, arith, eqb-true}
use Rattle.std.specs.Prelude.{if◌then◌else◌, option_map, option_and_then}
use Rattle.std.proofs.lemmas.List.{map-append}
use Rattle.exo_tree.specs.declared.number.ProcId.{ProcId}
use Rattle.config_laws.specs.Differing.{from_parent}
use Rattle.cursor_forward.specs.Cursors.{Cursor}
use Rattle.schedule_laws.specs.Versions.Versions.{Versions}
use Rattle.schedule_laws.specs.Versions.Places.{parent_at, stepped, forwarded, Place, brought, or_lost, CursorGone}
use Rattle.schedule_run.specs.Roots.{root_in}
use Rattle.schedule_run.specs.Ways.{way_to, along}

module _ (v : Versions) where
  -- ---- roots

  pub root_up : (m n k j : ℕ) → m ≡ suc n → parent_at v k ≡ Some j → root_in v m k ≡ root_in v n j
  root_up m n k j e h =
      ap (λ m. root_in v m k) e ∙ ap (λ o. from_parent k o (root_in v n)) h

  pub root_here : (m n k : ℕ) → m ≡ suc n → parent_at v k ≡ None → root_in v m k ≡ k
  root_here m n k e h =
      ap (λ m. root_in v m k) e ∙ ap (λ o. from_parent k o (root_in v n)) h

  -- ---- the way from a version

  pub way_up : (from m n k j : ℕ) → m ≡ suc n → (k == from) ≡ false → parent_at v k ≡ Some j
      → way_to v m from k ≡ option_map (λ ks. k ∷ ks) (way_to v n from j)
  way_up from m n k j e t h =
      ap (λ m. way_to v m from k) e
      ∙ ap (λ b. if b then Some [] else from_parent None (parent_at v k)
      (λ j. option_map (λ ks. k ∷ ks) (way_to v n from j))) t
      ∙ ap (λ o. from_parent None o (λ j. option_map (λ ks. k ∷ ks) (way_to v n from j))) h

  pub way_lost : (from m n k : ℕ) → m ≡ suc n → (k == from) ≡ false → parent_at v k ≡ None
      → way_to v m from k ≡ None
  way_lost from m n k e t h =
      ap (λ m. way_to v m from k) e
      ∙ ap (λ b. if b then Some [] else from_parent None (parent_at v k)
      (λ j. option_map (λ ks. k ∷ ks) (way_to v n from j))) t
      ∙ ap (λ o. from_parent None o (λ j. option_map (λ ks. k ∷ ks) (way_to v n from j))) h

  pub way_here : (from m k : ℕ) → (k == from) ≡ true → way_to v m from k ≡ Some []
  way_here from zero k t = ap (λ b. if b then Some [] else None) t
  way_here from (suc n) k t =
      ap (λ b. if b then Some [] else from_parent None (parent_at v k)
      (λ j. option_map (λ ks. k ∷ ks) (way_to v n from j))) t

  pub way_none : (from k : ℕ) → (k == from) ≡ false → way_to v 0 from k ≡ None
  way_none from k t = ap (λ b. if b then Some [] else None) t

  -- what is found further up, behind what is known
  pub behind : (ks : List ℕ) (k : ℕ) (o : Option (List ℕ))
      → option_map (λ more. ks ++ more) (option_map (λ more. k ∷ more) o)
      ≡ option_map (λ more. (ks ++ k ∷ []) ++ more) o
  behind ks k None = refl
  behind ks k (Some more) = ap Some (sym (append_assoc ks (k ∷ []) more))

  pub none_before : (o : Option (List ℕ)) → option_map (λ more. [] ++ more) o ≡ o
  none_before None = refl
  none_before (Some more) = refl

  -- ---- along it

  pub along_push : (ks : List ℕ) (k : ℕ) (c : Cursor)
      → along v (ks ++ k ∷ []) c ≡ option_and_then (along v ks) (stepped v k c)
  along_push [] k c = none_left (stepped v k c)
    where
      none_left : (o : Option Cursor) → o ≡ option_and_then (λ c. Some c) o
      none_left None = refl
      none_left (Some c) = refl
  along_push (j ∷ ks) k c =
      ap (option_and_then (stepped v j)) (along_push ks k c) ∙ through (stepped v k c)
    where
      through : (o : Option Cursor)
          → option_and_then (stepped v j) (option_and_then (along v ks) o)
          ≡ option_and_then (along v (j ∷ ks)) o
      through None = refl
      through (Some c) = refl

  -- a cursor is forwarded along the way
  pub forwarded_along : (n from k : ℕ) (c : Cursor)
      → forwarded v n from k c ≡ option_and_then (λ ks. along v ks c) (way_to v n from k)
  forwarded_along zero from k c = by (k == from)
    where
      by : (b : Bool) → (if b then Some c else None)
          ≡ option_and_then (λ ks. along v ks c) (if b then Some [] else None)
      by true = refl
      by false = refl
  forwarded_along (suc n) from k c = by (k == from) (parent_at v k) (λ j. forwarded_along n from j c)
    where
      longer : (o : Option (List ℕ)) (p : Option Cursor)
          → p ≡ option_and_then (λ ks. along v ks c) o
          → option_and_then (stepped v k) p
          ≡ option_and_then (λ ks. along v ks c) (option_map (λ ks. k ∷ ks) o)
      longer None p h = ap (option_and_then (stepped v k)) h
      longer (Some ks) p h = ap (option_and_then (stepped v k)) h

      by : (b : Bool) (o : Option ℕ)
          → ((j : ℕ) → forwarded v n from j c
          ≡ option_and_then (λ ks. along v ks c) (way_to v n from j))
          → (if b then Some c else
          from_parent None o (λ j. option_and_then (stepped v k) (forwarded v n from j c)))
          ≡ option_and_then (λ ks. along v ks c)
          (if b then Some []
          else from_parent None o (λ j. option_map (λ ks. k ∷ ks) (way_to v n from j)))
      by true o up = refl
      by false None up = refl
      by false (Some j) up = longer (way_to v n from j) (forwarded v n from j c) (up j)

-- where a cursor is brought, by the way
pub brought_by : (v : Versions) (k : ℕ) (p : Place) (o : Option (List ℕ)) → o ≡ way_to v k p.version k
    → brought v k p ≡ or_lost CursorGone (option_and_then (λ ks. along v ks p.cursor) o)
brought_by v k p o e =
    ap (or_lost CursorGone) (forwarded_along v k p.version k p.cursor)
    ∙ ap (λ o. or_lost CursorGone (option_and_then (λ ks. along v ks p.cursor) o)) (sym e)

-- ---- numbers that differ

pub apart : (a b : ℕ) → (a ≡ b → ⊥) → (a == b) ≡ false
apart a b h = by (a == b) refl
  where
    by : (t : Bool) → (a == b) ≡ t → (a == b) ≡ false
    by true e = absurd (h (eqb-true a b e))
    by false e = e

-- ---- from the end of a way

taken_any : {A : Type 0} (xs : List A) (k : ℕ) (d : A) → k < length xs
    → take (suc k) xs ≡ take k xs ++ get_or xs k d ∷ []
taken_any [] k d h = absurd (none k h)
  where
    none : (k : ℕ) → k < 0 → ⊥
    none k h = omega arith
taken_any (y ∷ xs) zero d h = refl
taken_any (y ∷ xs) (suc k) d h = ap (λ l. y ∷ l) (taken_any xs k d (less (length xs) h))
  where
    less : (n : ℕ) → suc k < suc n → k < n
    less n h = omega arith

abbrev pub numbers : List ProcId → List ℕ
numbers ks = map (λ (j : ProcId). j.0) ks

pub along_step : (v : Versions) (ks : List ProcId) (m k : ℕ) (d : ProcId) (c : Cursor) → m ≡ suc k
    → k < length ks → along v (numbers (take m ks)) c
    ≡ option_and_then (along v (numbers (take k ks))) (stepped v (get_or ks k d).0 c)
along_step v ks m k d c e h =
    ap (λ n. along v (numbers (take n ks)) c) e
    ∙ ap (λ l. along v (numbers l) c) (taken_any ks k d h)
    ∙ ap (λ l. along v l c) (map-append (λ (j : ProcId). j.0) (take k ks) (get_or ks k d ∷ []))
    ∙ along_push v (numbers (take k ks)) (get_or ks k d).0 c
