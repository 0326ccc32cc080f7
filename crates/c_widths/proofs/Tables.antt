-- The table of what the last procedures give, and whether one of them is too wide.
use Rattle.std.proofs.Common.{◌≡◌, ◌<◌, ◌≤◌, ◌+◌, ℕ, zero, suc, ◌==◌, Bool, true, false, if◌then◌else◌, max, List, [], ◌∷◌, ◌++◌, length, get_or, map, drop, take, Option, Some, None, refl, sym, ap, ◌∙◌, subst, arith}
use Rattle.std.specs.Prelude.{slice_get, replicate}
use Rattle.std.proofs.lemmas.List.{length-replicate, drop_all, map_push, map_more}
use Rattle.exo_tree.specs.Tree.{Param, Procedure, Program}
use Rattle.c_widths.specs.Widths.{most_of_param}
use Rattle.c_widths.specs.Raises.{Raises, raised, most_from, given_from, most_at, is_wide_at, or_own, widest_from, widest}
use Rattle.c_widths.specs.Given.{given_in, places, IsChanged}
use Rattle.c_widths.proofs.Changes.{block_is_local}
use Rattle.c_widths.proofs.Growing.{drop_none}

-- only what is given to its parameters counts
pub most_of_given : (ps : List Param) (g h : ℕ → ℕ) → ((i : ℕ) → i < length ps → g i ≡ h i) → most_from ps g ≡ most_from ps h
most_of_given [] g h e = refl
most_of_given (p ∷ ps) g h e =
    let first = e 0 (omega arith) in
    let rest = most_of_given ps (λ i. g (suc i)) (λ i. h (suc i)) (λ i l. e (suc i) (omega arith)) in
    λ t x. if x == p.binder.id then max (most_of_param p.kind) (first t) else rest t x

module _ (ps : List Procedure) (counted : ℕ → Bool) where
  -- what the procedures from that number on give
  abbrev pub later : ℕ → Raises
  later at = given_from counted at (drop at ps)

  -- a place for each parameter, with what those procedures give
  pub record IsTable (at : ℕ) (rows : List (List ℕ)) : Type 0 where
    pub wide_enough : (k : ℕ) (p : Procedure) → slice_get ps k ≡ Some p → places rows k ≡ length p.params
    pub each : (k i : ℕ) → i < places rows k → given_in rows k i ≡ later at k i

  -- ---- one procedure more

  given_here : (at : ℕ) (p : Procedure) → drop at ps ≡ p ∷ drop (suc at) ps → later at ≡ (if counted at then raised (most_at ps counted at p) p.body (later (suc at)) else later (suc at))
  given_here at p e = ap (given_from counted at) e

  pub table_without : (at : ℕ) (p : Procedure) (rows : List (List ℕ)) → drop at ps ≡ p ∷ drop (suc at) ps → counted at ≡ false → IsTable (suc at) rows → IsTable at rows
  table_without at p rows e c table = record {
    wide_enough = table.wide_enough;
    each = λ k i h. table.each k i h ∙ ap (λ (g : Raises). g k i) (sym (given_here at p e ∙ ap (λ t. if t then raised (most_at ps counted at p) p.body (later (suc at)) else later (suc at)) c));
  }

  -- the table has its bounds
  pub bounds_here : (at : ℕ) (p : Procedure) (rows : List (List ℕ)) → slice_get ps at ≡ Some p → IsTable (suc at) rows → most_from p.params (given_in rows at) ≡ most_at ps counted at p
  bounds_here at p rows is table =
      most_of_given p.params (given_in rows at) (later (suc at) at) (λ i h. table.each at i (subst (λ n. i < n) (sym (table.wide_enough at p is)) h))

  pub table_with : (at : ℕ) (p : Procedure) (rows new : List (List ℕ)) → drop at ps ≡ p ∷ drop (suc at) ps → slice_get ps at ≡ Some p → counted at ≡ true → IsTable (suc at) rows → IsChanged (raised (most_from p.params (given_in rows at)) p.body) rows new → IsTable at new
  table_with at p rows new e is c table change = record {
    wide_enough = λ k q f. change.same_places k ∙ table.wide_enough k q f;
    each = λ k i h.
        let inside : i < places rows k = subst (λ n. i < n) (change.same_places k) h in
        change.each k i inside
        ∙ ap (λ most. raised most p.body (given_in rows) k i) (bounds_here at p rows is table)
        ∙ block_is_local (most_at ps counted at p) p.body (given_in rows) (later (suc at)) k i (table.each k i inside)
        ∙ ap (λ (g : Raises). g k i) (sym (given_here at p e ∙ ap (λ t. if t then raised (most_at ps counted at p) p.body (later (suc at)) else later (suc at)) c));
  }

-- ---- the widest

module _ (program : Program) (printed counted : ℕ → Bool) where
  abbrev pub widest_later : ℕ → Option ℕ
  widest_later at = widest_from program printed counted at (drop at program.procedures)

  pub widest_here : (at : ℕ) (p : Procedure) (wide : Bool) → drop at program.procedures ≡ p ∷ drop (suc at) program.procedures → widest_later (suc at) ≡ None → is_wide_at program printed counted at p ≡ wide → widest_later at ≡ or_own None wide at
  widest_here at p wide e later is =
      ap (widest_from program printed counted at) e
      ∙ ap (λ o. or_own o (is_wide_at program printed counted at p) at) later
      ∙ ap (λ t. or_own None t at) is

  stays_widest : (o at k : ℕ) (ps : List Procedure) → widest_from program printed counted (o + at) (drop at ps) ≡ Some k → widest_from program printed counted o ps ≡ Some k
  stays_widest o zero k ps h =
      let here : o + zero ≡ o = omega arith in
      ap (widest_from program printed counted o) (sym (drop_none ps)) ∙ ap (λ n. widest_from program printed counted n (drop zero ps)) (sym here) ∙ h
  stays_widest o (suc at) k [] h = h
  stays_widest o (suc at) k (p ∷ ps) h =
      let there : suc o + at ≡ o + suc at = omega arith in
      ap (λ w. or_own w (is_wide_at program printed counted o p) o) (stays_widest (suc o) at k ps (ap (λ n. widest_from program printed counted n (drop at ps)) there ∙ h))

  -- a greater number than those that are left
  pub widest_is : (at k : ℕ) → widest_later at ≡ Some k → widest program printed counted ≡ Some k
  widest_is at k h =
      let there : zero + at ≡ at = omega arith in
      stays_widest zero at k program.procedures (ap (λ n. widest_from program printed counted n (drop at program.procedures)) there ∙ h)

-- ---- the first table

get_map : {A B : Type 0} (f : A → B) (xs : List A) (k : ℕ) (a : A) (d : B) → slice_get xs k ≡ Some a → get_or (map f xs) k d ≡ f a
get_map f [] k a d e = cc
get_map f (x ∷ xs) zero a d e = let same : x ≡ a = cc in ap f same
get_map f (x ∷ xs) (suc k) a d e = get_map f xs k a d e

abbrev pub nothing_given : Procedure → List ℕ
nothing_given p = replicate (length p.params) 0

all_zeros : (n i : ℕ) → get_or (replicate {A = ℕ} n 0) i 0 ≡ zero
all_zeros zero i = refl
all_zeros (suc n) zero = refl
all_zeros (suc n) (suc i) = all_zeros n i

nothing_in : (ps : List Procedure) (k i : ℕ) → given_in (map nothing_given ps) k i ≡ zero
nothing_in [] k i = refl
nothing_in (p ∷ ps) zero i = all_zeros (length p.params) i
nothing_in (p ∷ ps) (suc k) i = nothing_in ps k i

pub first_table : (ps : List Procedure) (counted : ℕ → Bool) (at : ℕ) → length ps ≤ at → IsTable ps counted at (map nothing_given ps)
first_table ps counted at h = record {
  wide_enough = λ k p e. ap length (get_map nothing_given ps k p [] e) ∙ length-replicate (length p.params) 0;
  each = λ k i l. nothing_in ps k i ∙ ap (λ qs. given_from counted at qs k i) (sym (drop_all at ps h));
}

pub one_more_row : {X : Type 0} (plain : X → Procedure) (xs : List X) (i : ℕ) (x : X) (rows : List (List ℕ)) → i < length xs → x ≡ get_or xs i x → rows ≡ map nothing_given (map plain (take i xs)) → rows ++ nothing_given (plain x) ∷ [] ≡ map nothing_given (map plain (take (i + 1) xs))
one_more_row plain xs i x rows h is e =
    ap (λ l. l ++ nothing_given (plain x) ∷ []) e
    ∙ sym (map_push nothing_given (map plain (take i xs)) (plain x))
    ∙ ap (map nothing_given) (ap (λ y. map plain (take i xs) ++ plain y ∷ []) is ∙ sym (map_more plain xs i x h))
