-- What tables say of the first procedures stays where more come behind them.
use Rattle.std.proofs.Common.{◌≡◌, ◌+◌, ℕ, zero, suc, Bool, true, false, List, [], ◌∷◌, ◌++◌, length}
use Rattle.std.proofs.Common.{Option, None, Some, refl, ap, ◌∙◌, arith}
use Rattle.std.specs.Prelude.{slice_get, nat_lt}
use Rattle.exo_tree.specs.Tree.{Kind, Procedure}
use Rattle.exo_meaning.specs.Calls.{Callee}
use Rattle.exo_meaning.specs.Run.{callees, callee_in, world_of}
use Rattle.exo_meaning.specs.Modes.{Modes, no_modes, modes_at, modes_in, all_modes, unit_modes}
use Rattle.meaning_laws.specs.UnitFields.{written_at, written_by, all_written, unit_writes}

no_less : (k : ℕ) → nat_lt k 0 ≡ true → ⊥
no_less k h = grind arith

less : (k n : ℕ) → nat_lt (suc k) (suc n) ≡ true → nat_lt k n ≡ true
less k n h = grind arith

further : (k n m : ℕ) → nat_lt k n ≡ true → m ≡ suc n → nat_lt k m ≡ true
further k n m h e = grind arith

as_long : (k n m : ℕ) → nat_lt k n ≡ true → m ≡ 0 + n → nat_lt k m ≡ true
as_long k n m h e = grind arith

add_one : (a b c : ℕ) → a ≡ suc b → a + c ≡ b + suc c
add_one a b c e = omega (arith, e)

plus_none : (n : ℕ) → n ≡ n + 0
plus_none n = omega arith

module _ {A : Type 0} where
  one_longer : (xs : List A) (x : A) → length (xs ++ x ∷ []) ≡ suc (length xs)
  one_longer [] x = refl
  one_longer (y ∷ xs) x = ap suc (one_longer xs x)

  pub get_same : (xs more : List A) (k : ℕ) → nat_lt k (length xs) ≡ true
      → slice_get (xs ++ more) k ≡ slice_get xs k
  get_same [] more k h = absurd (no_less k h)
  get_same (x ∷ xs) more zero h = refl
  get_same (x ∷ xs) more (suc k) h = get_same xs more k (less k (length xs) h)

-- ---- written fields

writes_count : (ws : List (ℕ → Bool)) (ps : List Procedure)
    → length (all_written ws ps) ≡ length ws + length ps
writes_count ws [] = plus_none (length ws)
writes_count ws (p ∷ ps) =
    let w = written_by (written_at ws) p in
    writes_count (ws ++ w ∷ []) ps
    ∙ add_one (length (ws ++ w ∷ [])) (length ws) (length ps) (one_longer ws w)

writes_parts : (ws : List (ℕ → Bool)) (ps more : List Procedure)
    → all_written ws (ps ++ more) ≡ all_written (all_written ws ps) more
writes_parts ws [] more = refl
writes_parts ws (p ∷ ps) more = writes_parts (ws ++ written_by (written_at ws) p ∷ []) ps more

writes_begin : (ws : List (ℕ → Bool)) (ps : List Procedure) (k : ℕ) → nat_lt k (length ws) ≡ true
    → slice_get (all_written ws ps) k ≡ slice_get ws k
writes_begin ws [] k h = refl
writes_begin ws (p ∷ ps) k h =
    let w = written_by (written_at ws) p in
    writes_begin (ws ++ w ∷ []) ps k (further k (length ws) (length (ws ++ w ∷ [])) h (one_longer ws w))
    ∙ get_same ws (w ∷ []) k h

pub writes_same : (ps more : List Procedure) (k f : ℕ) → nat_lt k (length ps) ≡ true
    → unit_writes (ps ++ more) k f ≡ unit_writes ps k f
writes_same ps more k f h =
    ap (λ (o : Option (ℕ → Bool)). elim o as (λ o. Bool) [ None ↦ false | Some w ↦ w f ])
    (ap (λ l. slice_get l k) (writes_parts [] ps more)
    ∙ writes_begin (all_written [] ps) more k
    (as_long k (length ps) (length (all_written [] ps)) h (writes_count [] ps)))

-- ---- modes

module _ (kinds : ℕ → Kind) where
  modes_count : (above : List Callee) (ms : List Modes) (ps : List Procedure)
      → length (all_modes kinds above ms ps) ≡ length ms + length ps
  modes_count above ms [] = plus_none (length ms)
  modes_count above ms (p ∷ ps) =
      let world = world_of kinds above in
      let m = modes_in world (modes_at ms) p in
      modes_count (above ++ callee_in world p ∷ []) (ms ++ m ∷ []) ps
      ∙ add_one (length (ms ++ m ∷ [])) (length ms) (length ps) (one_longer ms m)

  modes_parts : (above : List Callee) (ms : List Modes) (ps more : List Procedure)
      → all_modes kinds above ms (ps ++ more)
      ≡ all_modes kinds (callees kinds above ps) (all_modes kinds above ms ps) more
  modes_parts above ms [] more = refl
  modes_parts above ms (p ∷ ps) more =
      let world = world_of kinds above in
      modes_parts (above ++ callee_in world p ∷ []) (ms ++ modes_in world (modes_at ms) p ∷ []) ps more

  modes_begin : (above : List Callee) (ms : List Modes) (ps : List Procedure) (k : ℕ)
      → nat_lt k (length ms) ≡ true
      → slice_get (all_modes kinds above ms ps) k ≡ slice_get ms k
  modes_begin above ms [] k h = refl
  modes_begin above ms (p ∷ ps) k h =
      let world = world_of kinds above in
      let m = modes_in world (modes_at ms) p in
      modes_begin (above ++ callee_in world p ∷ []) (ms ++ m ∷ []) ps k
      (further k (length ms) (length (ms ++ m ∷ [])) h (one_longer ms m))
      ∙ get_same ms (m ∷ []) k h

  pub modes_same : (ps more : List Procedure) (k : ℕ) → nat_lt k (length ps) ≡ true
      → unit_modes kinds (ps ++ more) k ≡ unit_modes kinds ps k
  modes_same ps more k h =
      ap (λ (o : Option Modes). elim o as (λ o. Modes) [ None ↦ no_modes | Some f ↦ f ])
      (ap (λ l. slice_get l k) (modes_parts [] [] ps more)
      ∙ modes_begin (callees kinds [] ps) (all_modes kinds [] [] ps) more k
      (as_long k (length ps) (length (all_modes kinds [] [] ps)) h (modes_count [] [] ps)))

-- ---- procedures that may be called

callees_count : (kinds : ℕ → Kind) (above : List Callee) (ps : List Procedure)
    → length (callees kinds above ps) ≡ length above + length ps
callees_count kinds above [] = plus_none (length above)
callees_count kinds above (p ∷ ps) =
    let c = callee_in (world_of kinds above) p in
    callees_count kinds (above ++ c ∷ []) ps
    ∙ add_one (length (above ++ c ∷ [])) (length above) (length ps) (one_longer above c)

pub callees_are : (kinds : ℕ → Kind) (ps : List Procedure) → length (callees kinds [] ps) ≡ length ps
callees_are kinds ps = callees_count kinds [] ps ∙ none_plus (length ps)
  where
    none_plus : (n : ℕ) → 0 + n ≡ n
    none_plus n = omega arith
