-- A unit of few procedures with low ids has room for the lines of a schedule.
use Rattle.std.proofs.Common.{◌≡◌, ◌≤◌, ◌<◌, ◌+◌, ◌*◌, ◌^◌, ℕ, zero, suc, max, true, List, [], ◌∷◌}
use Rattle.std.proofs.Common.{length, Some, None, subst, arith}
use Rattle.std.specs.Prelude.{slice_get, nat_lt}
use Rattle.std.specs.List.{list_all}
use Rattle.std.proofs.lemmas.Bool.{and_parts}
use Rattle.exo_tree.specs.Tree.{Procedure}
use Rattle.exo_meaning.specs.Units.{bound_ids}
use Rattle.tree_edits.specs.Made.Ids.{above_all, next_id}
use Rattle.schedule_run.specs.Laws.{SmallUnitsHaveRoom}

highest : (n : ℕ) (xs : List ℕ) → list_all (λ x. nat_lt x n) xs ≡ true → above_all xs ≤ n
highest n [] h = omega arith
highest n (x ∷ xs) h =
    let p = and_parts (nat_lt x n) (list_all (λ x. nat_lt x n) xs) h in
    both (above_all xs) p.0 (highest n xs p.1)
  where
    both : (m : ℕ) → nat_lt x n ≡ true → m ≤ n → max (suc x) m ≤ n
    both m h k = grind arith

none_some : {A : Type 0} {x : A} → None ≡ Some x → ⊥
none_some h = cc

some_same : {A : Type 0} {x y : A} → Some x ≡ Some y → x ≡ y
some_same h = cc

low_ids : (n : ℕ) (ps : List Procedure) (k : ℕ) (p : Procedure)
    → list_all (λ p. list_all (λ x. nat_lt x n) (bound_ids p)) ps ≡ true
    → slice_get ps k ≡ Some p
    → next_id p ≤ n
low_ids n [] zero p h e = absurd (none_some e)
low_ids n [] (suc k) p h e = absurd (none_some e)
low_ids n (q ∷ ps) zero p h e =
    let both = and_parts (list_all (λ x. nat_lt x n) (bound_ids q))
    (list_all (λ p. list_all (λ x. nat_lt x n) (bound_ids p)) ps) h in
    subst (λ (r : Procedure). next_id r ≤ n) (some_same e) (highest n (bound_ids q) both.0)
low_ids n (q ∷ ps) (suc k) p h e =
    let both = and_parts (list_all (λ x. nat_lt x n) (bound_ids q))
    (list_all (λ p. list_all (λ x. nat_lt x n) (bound_ids p)) ps) h in
    low_ids n ps k p both.1 e

few : (m lines : ℕ) → m ≤ 2 ^ 20 → lines ≤ 4096 → m + lines + 1 < 2 ^ 31
few m lines h k = omega (arith, h, k)

few_ids : (m lines : ℕ) → m ≤ 2 ^ 20 → lines ≤ 4096 → m + 65536 * lines ≤ 2 ^ 31
few_ids m lines h k = omega (arith, h, k)

pub small_units_have_room : SmallUnitsHaveRoom
small_units_have_room unit shown lines count ids few_lines = record {
  numbers = few (length unit.procedures) lines count few_lines;
  ids = λ k p e.
      few_ids (next_id p) lines (low_ids (2 ^ 20) unit.procedures k p ids e) few_lines;
}
