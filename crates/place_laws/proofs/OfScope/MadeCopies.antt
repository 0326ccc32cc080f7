-- Copies that are numbered one behind the other are apart.
use Rattle.std.proofs.Common.{◌≡◌, ℕ, suc, ◌+◌, ◌<◌, ◌≤◌, ◌==◌, Bool, true, false, true≢false, cond}
use Rattle.std.proofs.Common.{◌||◌, List, [], ◌∷◌}
use Rattle.std.proofs.Common.{length}
use Rattle.std.proofs.Common.{nat_le, nat_lt, refl, sym, ap, ◌∙◌, arith, add-one, le-leb, leb-true}
use Rattle.std.proofs.Common.{ltb-true}
use Rattle.exo_tree.specs.Tree.{Block}
use Rattle.exo_tree.specs.Renaming.{fresh_id, fresh}
use Rattle.exo_tree.specs.Renaming as code
use Rattle.exo_meaning.specs.Orders.{Each}
use Rattle.exo_meaning.specs.Unseen.{in_block as mentions}
use Rattle.exo_meaning.proofs.Frame.{or_parts}
use Rattle.meaning_laws.specs.Scoped.{has_binder}
use Rattle.meaning_laws.proofs.Substitute.{and_parts}
use Rattle.place_laws.specs.Scope.Apart.{EachIsApart}
use Rattle.meaning_laws.specs.FreshCopies.{is_within, is_given, copies_from}
use Rattle.meaning_laws.specs.FreshCopies.{IsMadeOf}
use Rattle.place_laws.specs.Scope.MadeCopies.{MadeCopiesAreApart}
use Rattle.place_laws.specs.Scope.Scopes.{top_binders}
use Rattle.place_laws.proofs.OfScope.Apart.{map_mentions, apart_law}
use Rattle.meaning_laws.proofs.CopiesAtPlaces.{copies_bind_new_numbers}
use Rattle.meaning_laws.proofs.Fewer as fewer
use Rattle.place_laws.proofs.OfScope.MayLeave.{top_has}
use Rattle.meaning_laws.proofs.Numbers.{among, false_by, not_both, within_first, within_next}

pub true_by : (t : Bool) → (t ≡ false → ⊥) → t ≡ true
true_by true h = refl
true_by false h = absurd (h refl)

-- ---- numbers of copies

pub given_from : (n k x : ℕ) → is_within n k x ≡ true → n ≤ x
given_from n k x h = leb-true n x (and_parts (nat_le n x) (nat_lt x (n + k)) h).0

pub given_below : (n k x : ℕ) → is_within n k x ≡ true → x < n + k
given_below n k x h = ltb-true x (n + k) (and_parts (nat_le n x) (nat_lt x (n + k)) h).1

pub given_unused : (n m : ℕ) (b : Block) → n ≤ m → mentions (nat_le n) b ≡ false
    → mentions (is_given m b) b ≡ false
given_unused n m b behind low = fewer.block (nat_le n) (is_given m b) less b low
  where
    less : (x : ℕ) → nat_le n x ≡ false → is_given m b x ≡ false
    less x h =
        false_by (is_given m b x)
        (λ e. let from = given_from m (length (code.binders b)) x e in not_both (nat_le n x)
        (le-leb n x (omega arith)) h)

-- the new number of an id of the list
pub fresh_within : (is : List ℕ) (n x : ℕ) → among is x ≡ true
    → is_within n (length is) (fresh_id is n x) ≡ true
fresh_within [] n x h = absurd (true≢false (sym h))
fresh_within (i ∷ is) n x h = go (x == i) refl h (fresh_within is (suc n) x)
  where
    go : (t : Bool) → (x == i) ≡ t → (t || among is x) ≡ true
        → (among is x ≡ true → is_within (suc n) (length is) (fresh_id is (suc n) x) ≡ true)
        → is_within n (suc (length is)) (fresh_id (i ∷ is) n x) ≡ true
    go true e k below = ap (λ t. is_within n (suc (length is)) (cond t n (fresh_id is (n + 1) x))) e
        ∙ within_first n (length is)
    go false e k below =
        ap (λ t. is_within n (suc (length is)) (cond t n (fresh_id is (n + 1) x))) e
        ∙ ap (λ m. is_within n (suc (length is)) (fresh_id is m x)) (add-one n)
        ∙ within_next n (length is) (fresh_id is (suc n) x) (below k)

-- an id that is no binder keeps its number
fresh_other : (is : List ℕ) (n x : ℕ) → among is x ≡ false → fresh_id is n x ≡ x
fresh_other [] n x h = refl
fresh_other (i ∷ is) n x h =
    let p = or_parts (x == i) (among is x) h in
    ap (λ t. cond t n (fresh_id is (n + 1) x)) p.0 ∙ fresh_other is (n + 1) x p.1

-- a later copy has none of the numbers m .. m + k - 1 of an earlier one, and no name from n on
module _ (n m k : ℕ) (first : n ≤ m) where
  other_number :
      (is : List ℕ) (l x : ℕ)
      → m + k ≤ l
      → nat_le n x ≡ false
      → is_within m k (fresh_id is l x) ≡ false
  other_number is l x behind low = false_by (is_within m k (fresh_id is l x)) (go (among is x) refl)
    where
      go : (t : Bool) → among is x ≡ t → is_within m k (fresh_id is l x) ≡ true → ⊥
      go true e h =
          let from = given_from l (length is) (fresh_id is l x) (fresh_within is l x e) in
          let below = given_below m k (fresh_id is l x) h in
          absurd (none from below)
        where
          none : {y : ℕ} → l ≤ y → y < m + k → ⊥
          none from below = omega arith
      go false e h =
          let same = ap (is_within m k) (sym (fresh_other is l x e)) ∙ h in
          let from = given_from m k x same in
          not_both (nat_le n x) (le-leb n x (omega arith)) low

  later_avoids :
      (l : ℕ) (d : Block)
      → m + k ≤ l
      → mentions (nat_le n) d ≡ false
      → mentions (is_within m k) (fresh l d) ≡ false
  later_avoids l d behind low =
      let ids = fresh_id (code.binders d) l in
      map_mentions (is_within m k) ids d
      ∙ fewer.block (nat_le n) (λ x. is_within m k (ids x))
      (λ x h. other_number (code.binders d) l x behind h) d low

-- a copy leaves new numbers alone
pub copy_leaves : (m : ℕ) (d : Block) (x : ℕ) → is_given m d x ≡ false
    → top_binders (fresh m d) x ≡ false
copy_leaves m d x h =
    top_has (fresh m d) x
    (false_by (has_binder (fresh m d) x)
    (λ e. not_both (is_given m d x) (copies_bind_new_numbers m d x e) h))

module _ (old : Block) (n : ℕ) where
  -- none of the copies from l on mentions what the copy from m on leaves
  all_avoid :
      (m l : ℕ) (d : Block) (ds : List Block)
      → n ≤ m
      → m + length (code.binders d) ≤ l
      → Each (IsMadeOf n old) ds
      → Each (λ c. mentions (top_binders (fresh m d)) c ≡ false) (copies_from l ds)
  all_avoid m l d [] first behind made = tt
  all_avoid m l d (e ∷ ds) first behind made = (
    fewer.block (is_given m d) (top_binders (fresh m d)) (copy_leaves m d) (fresh l e)
        (later_avoids n m (length (code.binders d)) first l e behind made.0.low),
    all_avoid m (l + length (code.binders e)) d ds first (omega arith) made.1,
  )

  each_is_apart :
      (m : ℕ) (ds : List Block)
      → n ≤ m
      → Each (IsMadeOf n old) ds
      → EachIsApart (copies_from m ds)
  each_is_apart m [] first made = tt
  each_is_apart m (d ∷ ds) first made = (
    all_avoid m (m + length (code.binders d)) d ds first (omega arith) made.1,
    each_is_apart (m + length (code.binders d)) ds (omega arith) made.1,
  )

pub made_copies_are_apart : MadeCopiesAreApart
made_copies_are_apart old ds n made =
    apart_law (copies_from n ds) (each_is_apart old n n ds (omega arith) made)
