-- What is reached by calls.
use Rattle.std.proofs.Common.{◌≡◌, ◌<◌, ℕ, zero, suc, ◌+◌, Bool, true, false, true≢false, ◌&&◌, ◌||◌, List, [], ◌∷◌, Some, None, refl, sym, ap, ◌∙◌, arith}
use Rattle.std.specs.Prelude.{slice_get}
use Rattle.exo_tree.specs.Tree.{Procedure}
use Rattle.exo_tree.specs.Calls.{calls}
use Rattle.exo_modes.specs.Calls.Closed.{closed, ClosedIsClosed, SeedsAreClosed, ClosedIsLeast}

either_left : (a b : Bool) → a ≡ true → (a || b) ≡ true
either_left a b h = ap (λ t. t || b) h

either_right : (a b : Bool) → b ≡ true → (a || b) ≡ true
either_right true b h = refl
either_right false b h = h

-- the first, where the second is out of the question
only_left : (a b : Bool) → (b ≡ true → ⊥) → (a || b) ≡ true → a ≡ true
only_left true b out h = refl
only_left false b out h = absurd (out h)

by_either : {A : Type 0} (a b : Bool) → (a || b) ≡ true → (a ≡ true → A) → (b ≡ true → A) → A
by_either true b h f g = f refl
by_either false b h f g = g h

second : (a b : Bool) → (a && b) ≡ true → b ≡ true
second true b h = h
second false true h = refl
second false false h = h

first : (a b : Bool) → (a && b) ≡ true → a ≡ true
first true b h = refl
first false b h = h

three : (a b c : Bool) → a ≡ true → b ≡ true → c ≡ true → ((a && b) && c) ≡ true
three true true true h i j = refl
three true true false h i j = j
three true false c h i j = absurd (true≢false (sym i))
three false b c h i j = absurd (true≢false (sym h))

some_same : {X : Type 0} (x y : X) → Some x ≡ Some y → x ≡ y
some_same x y h = cc

none_some : {X : Type 0} (x : X) → None ≡ Some x → ⊥
none_some x h = cc

module _ (through : Procedure → Bool) (seeds : ℕ → Bool) where
  from_seeds : (k : ℕ) (ps : List Procedure) (j : ℕ) → seeds j ≡ true → closed through seeds k ps j ≡ true
  from_seeds k [] j h = h
  from_seeds k (p ∷ ps) j h = either_left (closed through seeds (suc k) ps j) ((closed through seeds (suc k) ps k && through p) && calls j p.body) (from_seeds (suc k) ps j h)

  from_callers : (o : ℕ) (ps : List Procedure) → ((i j : ℕ) (p : Procedure) → slice_get ps i ≡ Some p → calls j p.body ≡ true → j < o + i) → (k j : ℕ) (p : Procedure) → slice_get ps k ≡ Some p → closed through seeds o ps (o + k) ≡ true → through p ≡ true → calls j p.body ≡ true → closed through seeds o ps j ≡ true
  from_callers o [] before k j p e r t h = absurd (none_some p e)
  from_callers o (q ∷ ps) before zero j p e r t h =
      let rest = closed through seeds (suc o) ps in
      let same : q ≡ p = some_same q p e in
      let here : o + zero ≡ o = omega arith in
      let reached : rest o ≡ true = only_left (rest o) ((rest o && through q) && calls o q.body) (λ i. (let l = before zero o q refl (second (rest o && through q) (calls o q.body) i) in omega arith)) (ap (closed through seeds o (q ∷ ps)) (sym here) ∙ r) in
      either_right (rest j) ((rest o && through q) && calls j q.body) (three (rest o) (through q) (calls j q.body) reached (ap through same ∙ t) (ap (λ (x : Procedure). calls j x.body) same ∙ h))
  from_callers o (q ∷ ps) before (suc k) j p e r t h =
      let rest = closed through seeds (suc o) ps in
      let there : o + suc k ≡ suc o + k = omega arith in
      let reached : rest (o + suc k) ≡ true = only_left (rest (o + suc k)) ((rest o && through q) && calls (o + suc k) q.body) (λ i. (let l = before zero (o + suc k) q refl (second (rest o && through q) (calls (o + suc k) q.body) i) in omega arith)) r in
      let later : (i l : ℕ) (p : Procedure) → slice_get ps i ≡ Some p → calls l p.body ≡ true → l < suc o + i = λ i l p d c. (let b = before (suc i) l p d c in omega arith) in
      either_left (rest j) ((rest o && through q) && calls j q.body) (from_callers (suc o) ps later k j p e (ap rest (sym there) ∙ reached) t h)

  module _ (set : ℕ → Bool) (has : (j : ℕ) → seeds j ≡ true → set j ≡ true) where
    in_each : (o : ℕ) (ps : List Procedure) → ((k j : ℕ) (p : Procedure) → slice_get ps k ≡ Some p → set (o + k) ≡ true → through p ≡ true → calls j p.body ≡ true → set j ≡ true) → (j : ℕ) → closed through seeds o ps j ≡ true → set j ≡ true
    in_each o [] shut j h = has j h
    in_each o (q ∷ ps) shut j h =
        let rest = closed through seeds (suc o) ps in
        let here : o + zero ≡ o = omega arith in
        let later : (k l : ℕ) (p : Procedure) → slice_get ps k ≡ Some p → set (suc o + k) ≡ true → through p ≡ true → calls l p.body ≡ true → set l ≡ true = λ k l p e s t c. (let there : o + suc k ≡ suc o + k = omega arith in shut (suc k) l p e (ap set there ∙ s) t c) in
        by_either (rest j) ((rest o && through q) && calls j q.body) h (λ e. in_each (suc o) ps later j e) (λ called.
        let both : (rest o && through q) ≡ true = first (rest o && through q) (calls j q.body) called in
        shut zero j q refl (ap set here ∙ in_each (suc o) ps later o (first (rest o) (through q) both)) (second (rest o) (through q) both) (second (rest o && through q) (calls j q.body) called))

pub seeds_are_closed : SeedsAreClosed
seeds_are_closed through seeds ps j h = from_seeds through seeds zero ps j h

pub closed_is_closed : ClosedIsClosed
closed_is_closed through seeds ps k j p before e r t h =
    let here : k ≡ zero + k = omega arith in
    from_callers through seeds zero ps (λ i l q d c. (let b = before i l q d c in omega arith)) k j p e (ap (closed through seeds zero ps) (sym here) ∙ r) t h

pub closed_is_least : ClosedIsLeast
closed_is_least through seeds set ps has shut j h = in_each through seeds set has zero ps (λ k l p e s t c. (let here : k ≡ zero + k = omega arith in shut k l p e (ap set here ∙ s) t c)) j h
