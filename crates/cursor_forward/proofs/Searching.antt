-- A search through the statements of a block passes its matches one by one.
use Rattle.std.proofs.Common.{◌≡◌, ℕ, zero, suc, ◌+◌, ◌-◌, ◌<◌, ◌≤◌, true, List, [], ◌∷◌, ◌++◌, length, drop}
use Rattle.std.proofs.Common.{Option, Some, None, true≢false, refl, ap, sym, ◌∙◌, subst, arith, length-append}
use Rattle.std.proofs.lemmas.List.{drop_all}
use Rattle.std.specs.Prelude.{IsNone, slice_get, max, ◌&&◌, ◌^◌, nat_lt}
use Rattle.exo_tree.specs.Tree.{Statement, block, statements, Program}
use Rattle.exo_tree.specs.Heights.{height, height_below}
use Rattle.exo_tree.specs.Places.{Branch, Path, path_below}
use Rattle.exo_meaning.specs.Units.{is_short}
use Rattle.cursor_forward.specs.Search.Patterns.{Pattern}
use Rattle.cursor_forward.specs.Patterns.{matching, matching_at, found_after, are_short, all_short, is_short_below}
use Rattle.cursor_forward.proofs.Lasts.{statements_block}
use Rattle.cursor_forward.proofs.Ranges.{both_true}

-- what is sought is among the first ones
pub among_first : (xs ys : List Path) (n : ℕ) (p : Path) → slice_get xs n ≡ Some p → slice_get (xs ++ ys) n ≡ Some p
among_first [] ys n p h = cc
among_first (x ∷ xs) ys zero p h = h
among_first (x ∷ xs) ys (suc n) p h = among_first xs ys n p h

-- or it is behind them
pub behind_first : (xs ys : List Path) (n : ℕ) → slice_get xs n ≡ None → slice_get (xs ++ ys) n ≡ slice_get ys (n - length xs)
behind_first [] ys n h =
    let e : n ≡ n - 0 = omega arith in
    ap (slice_get ys) e
behind_first (x ∷ xs) ys zero h = cc
behind_first (x ∷ xs) ys (suc n) h =
    let e : n - length xs ≡ suc n - length (x ∷ xs) = omega arith in
    behind_first xs ys n h ∙ ap (slice_get ys) e

pub passed_by : (xs : List Path) (n : ℕ) → slice_get xs n ≡ None → length xs ≤ n
passed_by [] n h = omega arith
passed_by (x ∷ xs) zero h = cc
passed_by (x ∷ xs) (suc n) h = omega (arith, passed_by xs n h)

pub passed_both : (xs ys : List Path) (n : ℕ) → n - length xs - length ys ≡ n - length (xs ++ ys)
passed_both xs ys n = omega (arith, length-append xs ys)

-- what was found is among all of them
pub found_there : (xs ys : List Path) (n : ℕ) (o : Option Path) → o ≡ slice_get xs n → (o ≡ None → ⊥)
    → o ≡ slice_get (xs ++ ys) n
found_there xs ys n None h k = absurd (k refl)
found_there xs ys n (Some p) h k = sym (among_first xs ys n p (sym h))

pub not_none : (o : Option Path) → (o ≡ None → ⊥) → IsNone o → ⊥
not_none None k h = k refl
not_none (Some p) k h = true≢false h

-- ---- a walk over a block

-- the first so many statements were searched: what is sought now is in the rest, which can be searched
pub record IsWalked (unit : Program) (w : Pattern) (outer : Path) (r : Branch) (first : Option ℕ) (b : List Statement) (nth k : ℕ) (found : Option ℕ) (left : ℕ) : Type 0 where
  pub same : slice_get (matching unit w outer r 0 first (block b)) nth ≡ slice_get (matching unit w outer r k found (block (drop k b))) left
  pub passed : nth - length (matching unit w outer r 0 first (block b)) ≡ left - length (matching unit w outer r k found (block (drop k b)))
  pub low : length outer + height (block (drop k b)) ≤ 32
  pub short : all_short (block (drop k b)) ≡ true

pub starts : (unit : Program) (w : Pattern) (outer : Path) (r : Branch) (first : Option ℕ) (b : List Statement) (nth : ℕ) → length outer + height (block b) ≤ 32 → are_short (block b) ≡ true → IsWalked unit w outer r first b nth 0 first nth
starts unit w outer r first b nth l s = record { same = refl; passed = refl; low = l; short = (both_true (is_short (block b)) (all_short (block b)) s).1 }

-- what can be done with a statement
pub record CanBeWalked (outer : Path) (r : Branch) (k : ℕ) (a : Statement) : Type 0 where
  pub room : length outer < 32
  pub low : length (path_below outer r k) + height_below a ≤ 32
  pub short : is_short_below a ≡ true

module _ (unit : Program) (w : Pattern) (outer : Path) (r : Branch) (first : Option ℕ) (b : List Statement) (nth k : ℕ) (found : Option ℕ) (left : ℕ) (walked : IsWalked unit w outer r first b nth k found left) where
  pub can_be_walked : (a : Statement) → drop k b ≡ a ∷ drop (k + 1) b → CanBeWalked outer r k a
  can_be_walked a e =
      let low : length outer + max (1 + height_below a) (height (block (drop (k + 1) b))) ≤ 32 = subst (λ (l : List Statement). length outer + height (block l) ≤ 32) e walked.low in
      let short : (is_short_below a && all_short (block (drop (k + 1) b))) ≡ true = ap (λ (l : List Statement). all_short (block l)) (sym e) ∙ walked.short in
      let one : length (path_below outer r k) ≡ length outer + 1 = length-append outer (record { branch = r; index = k } ∷ []) in
      record { room = omega (arith, low); low = omega (arith, low, one); short = (both_true (is_short_below a) (all_short (block (drop (k + 1) b))) short).0 }

  -- the matches of the next statement, and then of those behind it
  split : (a : Statement) → drop k b ≡ a ∷ drop (k + 1) b → matching unit w outer r k found (block (drop k b)) ≡ matching_at unit w (path_below outer r k) found a ++ matching unit w outer r (k + 1) (found_after w found a) (block (drop (k + 1) b))
  split a e =
      let one : suc k ≡ k + 1 = omega arith in
      ap (λ (l : List Statement). matching unit w outer r k found (block l)) e
      ∙ ap (λ (n : ℕ). matching_at unit w (path_below outer r k) found a ++ matching unit w outer r n (found_after w found a) (block (drop (k + 1) b))) one

  pub found_here : (a : Statement) (p : Path) → drop k b ≡ a ∷ drop (k + 1) b → slice_get (matching_at unit w (path_below outer r k) found a) left ≡ Some p → slice_get (matching unit w outer r 0 first (block b)) nth ≡ Some p
  found_here a p e h =
      walked.same
      ∙ ap (λ (l : List Path). slice_get l left) (split a e)
      ∙ among_first (matching_at unit w (path_below outer r k) found a) (matching unit w outer r (k + 1) (found_after w found a) (block (drop (k + 1) b))) left p h

  pub walks_on : (a : Statement) (further : ℕ) → drop k b ≡ a ∷ drop (k + 1) b → slice_get (matching_at unit w (path_below outer r k) found a) left ≡ None → further ≡ left - length (matching_at unit w (path_below outer r k) found a) → IsWalked unit w outer r first b nth (k + 1) (found_after w found a) further
  walks_on a further e h f =
      let own : List Path = matching_at unit w (path_below outer r k) found a in
      let rest : List Path = matching unit w outer r (k + 1) (found_after w found a) (block (drop (k + 1) b)) in
      let low : length outer + max (1 + height_below a) (height (block (drop (k + 1) b))) ≤ 32 = subst (λ (l : List Statement). length outer + height (block l) ≤ 32) e walked.low in
      let short : (is_short_below a && all_short (block (drop (k + 1) b))) ≡ true = ap (λ (l : List Statement). all_short (block l)) (sym e) ∙ walked.short in
      record {
        same = walked.same ∙ ap (λ (l : List Path). slice_get l left) (split a e) ∙ behind_first own rest left h ∙ ap (λ (n : ℕ). slice_get rest n) (sym f);
        passed = walked.passed ∙ ap (λ (l : List Path). left - length l) (split a e) ∙ sym (passed_both own rest left) ∙ ap (λ (n : ℕ). n - length rest) (sym f);
        low = omega (arith, low);
        short = (both_true (is_short_below a) (all_short (block (drop (k + 1) b))) short).1;
      }

nothing_left : (b : List Statement) (k : ℕ) → length b ≤ k → drop k b ≡ []
nothing_left b k h = drop_all k b h

pub ends_without : (unit : Program) (w : Pattern) (outer : Path) (r : Branch) (first : Option ℕ) (b : List Statement) (nth k : ℕ) (found : Option ℕ) (left : ℕ) → IsWalked unit w outer r first b nth k found left → length b ≤ k → (slice_get (matching unit w outer r 0 first (block b)) nth ≡ None) × (left ≡ nth - length (matching unit w outer r 0 first (block b)))
ends_without unit w outer r first b nth k found left walked h =
    let e = nothing_left b k h in
    let p = walked.passed ∙ ap (λ (l : List Statement). left - length (matching unit w outer r k found (block l))) e in
    (walked.same ∙ ap (λ (l : List Statement). slice_get (matching unit w outer r k found (block l)) left) e, omega (arith, p))

-- a block that can be searched has fewer statements than a number of 32 bits counts
pub short_block : (b : List Statement) → are_short (block b) ≡ true → length b < 2 ^ 32
short_block b h =
    let s : nat_lt (length (statements (block b))) (2 ^ 31) ≡ true = (both_true (is_short (block b)) (all_short (block b)) h).0 in
    let t : nat_lt (length b) (2 ^ 31) ≡ true = ap (λ (l : List Statement). nat_lt (length l) (2 ^ 31)) (sym (statements_block b)) ∙ s in
    grind (arith, t)
