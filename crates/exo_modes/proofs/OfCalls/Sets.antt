-- Sets of procedures, and what is added to them.
use Rattle.std.proofs.Common.{◌≡◌, ◌<◌, ◌≤◌, ℕ, zero, suc, ◌+◌, ◌-◌, Bool, true, false, ◌&&◌, ◌||◌, List, [], ◌∷◌, length, get_or, refl, sym, ap, ◌∙◌, subst, arith, drop-cons}
use Rattle.std.specs.Prelude.{drop, map}
use Rattle.std.proofs.lemmas.List.{drop_all}
use Rattle.exo_tree.specs.Tree.{Statement, block, Procedure}
use Rattle.exo_tree.specs.Calls.{calls, is_call_of}
use Rattle.exo_modes.specs.Calls.Closed.{closed}
use Rattle.exo_modes.specs.Calls.Marked.{contains, Marked, Reached}

pub marked_same : (test other : ℕ → Bool) (old new : List Bool) → ((k : ℕ) → k < length old → test k ≡ other k) → Marked test old new → Marked other old new
marked_same test other old new same h = record { same_length = h.same_length; each = λ k l. h.each k l ∙ ap (λ t. contains old k || t) (same k l) }

pub marked_none : (s : List Bool) → Marked (λ k. false) s s
marked_none s = record { same_length = refl; each = λ k l. none (contains s k) }
  where
    none : (t : Bool) → t ≡ (t || false)
    none true = refl
    none false = refl

pub marked_then : (test more : ℕ → Bool) (old mid new : List Bool) → Marked test old mid → Marked more mid new → Marked (λ k. test k || more k) old new
marked_then test more old mid new h j = record {
  same_length = j.same_length ∙ h.same_length;
  each = λ k l. j.each k (let e = h.same_length in omega arith) ∙ ap (λ t. t || more k) (h.each k l) ∙ associate (contains old k) (test k) (more k);
}
  where
    associate : (a b c : Bool) → ((a || b) || c) ≡ (a || (b || c))
    associate true b c = refl
    associate false b c = refl

-- one statement and then the rest
pub block_marked : (ss rest : List Statement) (k : ℕ) (a : Statement) (set mid new : List Bool) → drop k ss ≡ a ∷ rest → Marked (λ j. is_call_of j a) set mid → Marked (λ j. calls j (block rest)) mid new → Marked (λ j. calls j (block (drop k ss))) set new
block_marked ss rest k a set mid new d h j = marked_same (λ i. is_call_of i a || calls i (block rest)) (λ i. calls i (block (drop k ss))) set new (λ i l. ap (λ (z : List Statement). calls i (block z)) (sym d)) (marked_then (λ i. is_call_of i a) (λ i. calls i (block rest)) set mid new h j)

-- no statement is left
pub block_ended : (ss : List Statement) (k : ℕ) (set : List Bool) → length ss ≤ k
    → Marked (λ j. calls j (block (drop k ss))) set set
block_ended ss k set h =
    marked_same (λ i. false) (λ i. calls i (block (drop k ss))) set set
    (λ i l. ap (λ (z : List Statement). calls i (block z)) (sym (drop_all k ss h)))
    (marked_none set)

-- where a condition does not hold
pub marked_off : (a b : Bool) (test : ℕ → Bool) (s : List Bool) → (a && b) ≡ false → Marked (λ k. (a && b) && test k) s s
marked_off a b test s e = marked_same (λ k. false) (λ k. (a && b) && test k) s s (λ k l. ap (λ t. t && test k) (sym e)) (marked_none s)

pub marked_on : (a b : Bool) (test : ℕ → Bool) (old new : List Bool) → (a && b) ≡ true → Marked test old new → Marked (λ k. (a && b) && test k) old new
marked_on a b test old new e h = marked_same test (λ k. (a && b) && test k) old new (λ k l. ap (λ t. t && test k) (sym e)) h

-- ---- the procedures, from the last one on

-- what is reached through the procedures from that number on
pub record ReachedFrom (through : Procedure → Bool) (at : ℕ) (ps : List Procedure) (old new : List Bool) : Type 0 where
  pub same_length : length new ≡ length old
  pub each : (k : ℕ) → k < length old → contains new k ≡ closed through (contains old) at ps k

pub reached_start : (through : Procedure → Bool) (n : ℕ) (set : List Bool) → ReachedFrom through n [] set set
reached_start through n set = record { same_length = refl; each = λ k l. refl }

pub reached_all : (through : Procedure → Bool) (ps : List Procedure) (old new : List Bool) → ReachedFrom through zero ps old new → Reached through ps old new
reached_all through ps old new r = record { same_length = r.same_length; each = r.each }

-- one procedure more
pub reached_next : (through : Procedure → Bool) (at : ℕ) (p : Procedure) (ps : List Procedure) (old mid new : List Bool) → at < length old → ReachedFrom through (suc at) ps old mid → Marked (λ k. (contains mid at && through p) && calls k p.body) mid new → ReachedFrom through at (p ∷ ps) old new
reached_next through at p ps old mid new inside r m = record {
  same_length = m.same_length ∙ r.same_length;
  each = λ k l. m.each k (let e = r.same_length in omega arith) ∙ ap (λ t. t || ((contains mid at && through p) && calls k p.body)) (r.each k l) ∙ ap (λ t. closed through (contains old) (suc at) ps k || ((t && through p) && calls k p.body)) (r.each at inside);
}

-- the procedure before those that are done
pub before_those : {X : Type 0} (xs : List X) (k : ℕ) (x : X) → k < length xs → x ≡ get_or xs (length xs - 1 - k) x → drop (length xs - (k + 1)) xs ≡ x ∷ drop (length xs - k) xs
before_those xs k x h is =
    let at = length xs - 1 - k in
    let inside : at < length xs = omega arith in
    let here : length xs - (k + 1) ≡ at = omega arith in
    let after : suc at ≡ length xs - k = omega arith in
    ap (λ n. drop n xs) here ∙ drop-cons xs at x inside ∙ ap (λ y. y ∷ drop (suc at) xs) (sym is) ∙ ap (λ n. x ∷ drop n xs) after

module _ {X : Type 0} (plain : X → Procedure) (through : Procedure → Bool) where
  pub start_behind : (xs : List X) (set : List Bool) → ReachedFrom through (length xs - 0) (map plain (drop (length xs - 0) xs)) set set
  start_behind xs set = subst (λ z. ReachedFrom through (length xs - 0) (map plain z) set set) (sym (drop_all (length xs - 0) xs (omega arith))) (reached_start through (length xs - 0) set)

  pub reached_before : (xs : List X) (k : ℕ) (x : X) (old mid new : List Bool) → length old ≡ length xs → k < length xs → x ≡ get_or xs (length xs - 1 - k) x → ReachedFrom through (length xs - k) (map plain (drop (length xs - k) xs)) old mid → Marked (λ j. (contains mid (length xs - 1 - k) && through (plain x)) && calls j (plain x).body) mid new → ReachedFrom through (length xs - (k + 1)) (map plain (drop (length xs - (k + 1)) xs)) old new
  reached_before xs k x old mid new counted h is r m =
      let at = length xs - 1 - k in
      let after : length xs - k ≡ suc at = omega arith in
      let here : at ≡ length xs - (k + 1) = omega arith in
      let inside : at < length old = omega arith in
      let rest = map plain (drop (length xs - k) xs) in
      let step : ReachedFrom through at (plain x ∷ rest) old new = reached_next through at (plain x) rest old mid new inside (subst (λ n. ReachedFrom through n rest old mid) after r) m in
      subst (λ z. ReachedFrom through (length xs - (k + 1)) (map plain z) old new) (sym (before_those xs k x h is)) (subst (λ n. ReachedFrom through n (plain x ∷ rest) old new) here step)

  drop_none : (xs : List X) → drop zero xs ≡ xs
  drop_none [] = refl
  drop_none (x ∷ xs) = refl

  pub reached_end : (xs : List X) (k : ℕ) (old new : List Bool) → length xs ≤ k → ReachedFrom through (length xs - k) (map plain (drop (length xs - k) xs)) old new → Reached through (map plain xs) old new
  reached_end xs k old new h r =
      let none : length xs - k ≡ zero = omega arith in
      reached_all through (map plain xs) old new
      (subst (λ z. ReachedFrom through zero (map plain z) old new) (drop_none xs)
      (subst (λ n. ReachedFrom through n (map plain (drop n xs)) old new) none r))
