-- What is known of a procedure that is printed or called.
use Rattle.std.proofs.Common.{◌≡◌, ◌<◌, ◌≤◌, ◌+◌, ◌-◌, ◌^◌, ◌==◌, ℕ, zero, suc, nat_lt, Bool, true, false, not, ◌&&◌, ◌||◌, cond, List, [], ◌∷◌, length, take, map, Option, Some, None, refl, sym, ap, ◌∙◌, subst, arith, true≢false, eqb, eqb-true, eq-eqb, slice_get}
use Rattle.std.specs.List.{list_any, list_all, IsDistinct, AllByRecursion}
use Rattle.std.proofs.lemmas.Map.Steps.{length-le_from_distinct_below}
use Rattle.std.proofs.lemmas.Bool.{and_parts}
use Rattle.exo_tree.specs.Tree.{Binder, Control, Procedure, Program, ConfigField, MemoryKind}
use Rattle.exo_meaning.specs.Units.{bound_ids, are_distinct}
use Rattle.c_tree.specs.Names.Binders.{all_binders, names_of}
use Rattle.c_widths.specs.Widths.{fits_cells, own_dims, fits_stack}
use Rattle.c_widths.specs.Raises.{memories_for, most_at, is_narrow_by, is_wide_at, or_own, widest_from}
use Rattle.c_lowering.specs.Made.Lowered.{front, without_lanes}
use Rattle.c_lowering.specs.Made.LoweredUnit.{Printing, memory_of, in_procedure, is_listed}
use Rattle.c_lowering.specs.Made.LoweredUnit.{is_used_from, printed_names, field_name, fields_from}
use Rattle.c_lowering.specs.Made.LoweredUnit.{fields_of, is_used, global_names}
use Rattle.c_unit_laws.proofs.Free.{or_false, room, both_long}
use Rattle.c_unit_laws.proofs.Binders.{not_true}
use Rattle.c_unit_laws.proofs.Names.{all_ids}
use Rattle.c_unit_laws.proofs.Standing.{none_some, some_same}

-- an empty list has no entry
pub no_entry : {A : Type 0} {a : A} (xs : List A) (k : ℕ) → slice_get xs k ≡ Some a → xs ≡ [] → ⊥
no_entry {A = A} {a = a} xs k e h = go k (sym (ap (λ ys. slice_get ys k) h) ∙ e)
  where
    go : (j : ℕ) → slice_get {X = A} [] j ≡ Some a → ⊥
    go zero d = none_some d
    go (suc j) d = none_some d

either : (a b : Bool) → b ≡ true → (a || b) ≡ true
either true b i = refl
either false b i = i

pub listed_here : (what : List Printing) (i : ℕ) (w : Printing) → slice_get what i ≡ Some w → is_listed what w.proc ≡ true
listed_here [] zero w e = absurd (none_some e)
listed_here [] (suc i) w e = absurd (none_some e)
listed_here (v ∷ what) zero w e = ap (λ t. t || is_listed what w.proc) (eq-eqb w.proc v.proc (ap (λ z. z.proc) (sym (some_same e))))
listed_here (v ∷ what) (suc i) w e = either (w.proc == v.proc) (is_listed what w.proc) (listed_here what i w e)

-- ---- lists

pub record Place (what : List Printing) (k : ℕ) : Type 0 where
  pub at : ℕ
  pub printing : Printing
  pub there : slice_get what at ≡ Some printing
  pub is : printing.proc ≡ k

-- a listed procedure has a place
pub listed_at : (what : List Printing) (k : ℕ) → is_listed what k ≡ true → Place what k
listed_at [] k h = absurd (true≢false (sym h))
listed_at (w ∷ what) k h = go (listed_at what k) (k == w.proc) refl h
  where
    go : (is_listed what k ≡ true → Place what k) → (t : Bool) → (k == w.proc) ≡ t → (t || is_listed what k) ≡ true → Place (w ∷ what) k
    go rest true e i = record { at = 0; printing = w; there = refl; is = sym (eqb-true k w.proc e) }
    go rest false e i = let p = rest i in record { at = suc p.at; printing = p.printing; there = p.there; is = p.is }

-- ---- widths

own_none : (o : Option ℕ) (wide : Bool) (own : ℕ) → or_own o wide own ≡ None → (o ≡ None) × (wide ≡ false)
own_none (Some k) wide own h = absurd (none_some (sym h))
own_none None true own h = absurd (none_some (sym h))
own_none None false own h = (refl, refl)

module _ (program : Program) (printed counted : ℕ → Bool) where
  none_wide : (ps : List Procedure) (k i : ℕ) (p : Procedure) → widest_from program printed counted k ps ≡ None → slice_get ps i ≡ Some p → is_wide_at program printed counted (k + i) p ≡ false
  none_wide [] k i p h e = absurd (no_entry [] i e refl)
  none_wide (q ∷ ps) k zero p h e =
      let r = own_none (widest_from program printed counted (suc k) ps) (is_wide_at program printed counted k q) k h in
      let here : k + zero ≡ k = omega arith in
      ap (λ n. is_wide_at program printed counted n p) here ∙ (ap (is_wide_at program printed counted k) (sym (some_same e)) ∙ r.1)
  none_wide (q ∷ ps) k (suc i) p h e =
      let r = own_none (widest_from program printed counted (suc k) ps) (is_wide_at program printed counted k q) k h in
      let there : k + suc i ≡ suc k + i = omega arith in
      ap (λ n. is_wide_at program printed counted n p) there ∙ none_wide ps (suc k) i p r.0 e

  pub narrow_at : (k : ℕ) (p : Procedure) → widest_from program printed counted 0 program.procedures ≡ None → slice_get program.procedures k ≡ Some p → counted k ≡ true → is_narrow_by (memories_for (printed k) program.memories) (most_at program.procedures counted k p) p ≡ true
  narrow_at k p h e c =
      let here : 0 + k ≡ k = omega arith in
      go (is_narrow_by (memories_for (printed k) program.memories) (most_at program.procedures counted k p) p) (subst (λ t. (t && not (is_narrow_by (memories_for (printed k) program.memories) (most_at program.procedures counted k p) p)) ≡ false) c (subst (λ n. is_wide_at program printed counted n p ≡ false) here (none_wide program.procedures 0 k p h e)))
    where
      go : (b : Bool) → not b ≡ false → b ≡ true
      go true i = refl
      go false i = absurd (true≢false i)

-- ---- fields

pub used_at : (counted : ℕ → Bool) (f : ℕ) (ps : List Procedure) (k i : ℕ) (p : Procedure) → slice_get ps i ≡ Some p → counted (k + i) ≡ true → in_procedure f p ≡ true → is_used_from counted f k ps ≡ true
used_at counted f [] k i p e c u = absurd (no_entry [] i e refl)
used_at counted f (q ∷ ps) k zero p e c u =
    let here : k + zero ≡ k = omega arith in
    both (counted k) (in_procedure f q) (ap counted (sym here) ∙ c) (ap (in_procedure f) (some_same e) ∙ u)
  where
    both : (a b : Bool) → a ≡ true → b ≡ true → ((a && b) || is_used_from counted f (suc k) ps) ≡ true
    both true true s t = refl
    both false b s t = absurd (true≢false (sym s))
    both true false s t = absurd (true≢false (sym t))
used_at counted f (q ∷ ps) k (suc i) p e c u =
    let there : k + suc i ≡ suc k + i = omega arith in
    either (counted k && in_procedure f q) _ (used_at counted f ps (suc k) i p e (ap counted (sym there) ∙ c) u)

-- ---- allocations on the stack

front_is : {A : Type 0} (xs : List A) → take (length xs - 1) xs ≡ front xs
front_is [] = refl
front_is (x ∷ []) = refl
front_is (x ∷ (y ∷ xs)) =
    let n = length xs in
    let here : suc (suc n) - 1 ≡ suc n = omega arith in
    let there : suc n - 1 ≡ n = omega arith in
    ap (λ k. take k (x ∷ (y ∷ xs))) here ∙ ap (λ r. x ∷ r) (sym (ap (λ k. take k (y ∷ xs)) there) ∙ front_is (y ∷ xs))

own_is : (l : ℕ) (ds : List Control) → own_dims l ds ≡ without_lanes l ds
own_is zero ds = refl
own_is (suc l) ds = front_is ds

pub stack_fits : (o : Option MemoryKind) (most : ℕ → ℕ) (ds : List Control) → fits_stack o most ds ≡ true → (memory_of o).stack ≡ true → fits_cells most (without_lanes (memory_of o).lanes ds) ≡ true
stack_fits None most ds h s = absurd (true≢false (sym s))
stack_fits (Some m) most ds h s =
    ap (fits_cells most) (sym (own_is m.lanes ds))
    ∙ subst (λ t. cond t (fits_cells most (own_dims m.lanes ds)) true ≡ true) s h

-- ---- how many names there are

distinct_too : (xs : List ℕ) → are_distinct xs ≡ true → IsDistinct eqb xs
unfolding IsDistinct
distinct_too [] h = tt
distinct_too (x ∷ xs) h = let p = and_parts (not (list_any (λ y. x == y) xs)) (are_distinct xs) h in (others xs (not_true _ p.0), distinct_too xs p.1)
  where
    others : (ys : List ℕ) → list_any (λ y. x == y) ys ≡ false → AllByRecursion (λ y. eqb x y ≡ false) ys
    others [] e = tt
    others (y ∷ ys) e = let q = or_false (x == y) _ e in (q.0, others ys q.1)

below_all : (n : ℕ) (xs : List ℕ) → list_all (λ x. nat_lt x n) xs ≡ true → (q : ℕ) → list_any (eqb q) xs ≡ true → q < n
below_all n [] h q k = absurd (true≢false (sym k))
below_all n (x ∷ xs) h q k =
    let p = and_parts (nat_lt x n) (list_all (λ y. nat_lt y n) xs) h in
    go (eqb q x) refl k p.0 (below_all n xs p.1 q)
  where
    go : (t : Bool) → eqb q x ≡ t → (t || list_any (eqb q) xs) ≡ true → nat_lt x n ≡ true → (list_any (eqb q) xs ≡ true → q < n) → q < n
    go true e i b rest = subst (λ z. z < n) (sym (eqb-true q x e)) (grind arith)
    go false e i b rest = rest i

-- ids of binders are apart and below 2 ^ 31, so there are no more of them
few_ids : (xs : List ℕ) → are_distinct xs ≡ true → list_all (λ x. nat_lt x (2 ^ 31)) xs ≡ true → length xs ≤ 2 ^ 31
few_ids xs d h = length-le_from_distinct_below xs (2 ^ 31) (distinct_too xs d) (below_all (2 ^ 31) xs h)

few_fields : (used : ℕ → Bool) (k : ℕ) (fields : List ConfigField) → length (fields_from used k fields) ≤ length fields
few_fields used k [] = omega arith
few_fields used k (f ∷ fields) = go (used k) (few_fields used (suc k) fields)
  where
    go : (t : Bool) → length (fields_from used (suc k) fields) ≤ length fields → length (cond t (field_name f ∷ fields_from used (suc k) fields) (fields_from used (suc k) fields)) ≤ suc (length fields)
    go true h = omega arith
    go false h = omega arith

printed_long : (program : Program) (what : List Printing) → length (printed_names program what) ≡ length what
printed_long program [] = refl
printed_long program (w ∷ what) = ap suc (printed_long program what)

long_ids : (bs : List Binder) → length bs ≡ length (map (λ z. z.id) bs)
long_ids [] = refl
long_ids (b ∷ bs) = ap suc (long_ids bs)

names_long : (bs : List Binder) → length (names_of bs) ≡ length bs
names_long [] = refl
names_long (b ∷ bs) = ap suc (names_long bs)

-- the names of a file and of a procedure leave room for numbers
pub few_names : (program : Program) (what : List Printing) (p : Procedure) → are_distinct (bound_ids p) ≡ true → list_all (λ x. nat_lt x (2 ^ 31)) (bound_ids p) ≡ true → length program.fields < 2 ^ 31 → length what < 2 ^ 31 → room (global_names program what) (names_of (all_binders p)) < 2 ^ 63
few_names program what p d h fields few =
    let a = both_long (printed_names program what) (fields_of program what) in
    let b = printed_long program what in
    let c = few_fields (is_used program what) 0 program.fields in
    let e = names_long (all_binders p) in
    let f = long_ids (all_binders p) ∙ ap length (all_ids p) in
    let g = few_ids (bound_ids p) d h in
    omega (arith, fields, few)
