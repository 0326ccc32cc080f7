-- The procedures of a unit: where each stands, and that it may call all of the unit.
use Rattle.std.proofs.Common.{◌≡◌, ℕ, zero, suc, Bool, true, false, not, ◌&&◌, ◌||◌, List, [], ◌∷◌, ◌++◌, Option, Some, None, refl, sym, ap, ◌∙◌, subst, eqb-true, arith}
use Rattle.std.specs.Prelude.{length, slice_get, nat_lt}
use Rattle.exo_tree.specs.Tree.{Kind, Index, Argument, Statement, Assign, Reduce, Config, Pass, If, For, Alloc, View, Call, Block, end, next, Procedure, ConfigField}
use Rattle.exo_meaning.specs.Calls.{Callee}
use Rattle.exo_meaning.specs.Run.{run, world_of, callee_in, callees, unit_world, kinds_of, roots_after}
use Rattle.exo_meaning.specs.Units.{ControlName, Scope, with_name, scope_of, scope_after, plainly, with_fields, is_empty, is_short, is_new, is_control, is_condition, is_call, is_block, is_statement, field_kind, IsProcedure, AreProcedures}
use Rattle.meaning_laws.specs.Grown.{calls_below, step_calls_below, GrownLaw}
use Rattle.meaning_laws.specs.WellFormed.{CallsAreBelow}
use Rattle.meaning_laws.specs.Sorted.{MayRun}
use Rattle.check_laws.specs.Claims.Holding.{calls, step_calls}
use Rattle.check_laws.specs.Claims.Laws.{ProceduresMayRun}
use Rattle.check_laws.proofs.OfClaims.Basics.{and_parts, and_true, no_test, none_some, some_injective, suc_same, append_assoc}

-- ---- a longer table

append_none : {A : Type 0} (xs : List A) → xs ++ [] ≡ xs
append_none [] = refl
append_none (x ∷ xs) = ap (λ l. x ∷ l) (append_none xs)

get_first : {A : Type 0} (xs ys : List A) (k : ℕ) (a : A) → slice_get xs k ≡ Some a → slice_get (xs ++ ys) k ≡ Some a
get_first [] ys zero a h = absurd (none_some h)
get_first [] ys (suc k) a h = absurd (none_some h)
get_first (x ∷ xs) ys zero a h = h
get_first (x ∷ xs) ys (suc k) a h = get_first xs ys k a h

get_behind : {A : Type 0} (xs : List A) (a : A) (ys : List A) → slice_get (xs ++ a ∷ ys) (length xs) ≡ Some a
get_behind [] a ys = refl
get_behind (x ∷ xs) a ys = get_behind xs a ys

get_both : {A B : Type 0} (xs : List A) (ys : List B) (k : ℕ) (a : A) → length xs ≡ length ys → slice_get xs k ≡ Some a → (b : B) × (slice_get ys k ≡ Some b)
get_both [] ys zero a e h = absurd (none_some h)
get_both [] ys (suc k) a e h = absurd (none_some h)
get_both (x ∷ xs) [] k a e h = absurd (no e)
  where
    no : suc (length xs) ≡ 0 → ⊥
    no e = omega arith
get_both (x ∷ xs) (y ∷ ys) zero a e h = (y, refl)
get_both (x ∷ xs) (y ∷ ys) (suc k) a e h = get_both xs ys k a (suc_same (length xs) (length ys) e) h

module _ (kinds : ℕ → Kind) where
  more_callees : (above : List Callee) (ps : List Procedure) → (rest : List Callee) × (callees kinds above ps ≡ above ++ rest) × (length rest ≡ length ps)
  more_callees above [] = ([], sym (append_none above), refl)
  more_callees above (p ∷ ps) =
      let c = callee_in (world_of kinds above) p in
      let r = more_callees (above ++ c ∷ []) ps in
      (c ∷ r.0, r.1 ∙ append_assoc above (c ∷ []) r.0, ap suc r.2)

  two_lists : (above : List Callee) (ps more : List Procedure) → callees kinds above (ps ++ more) ≡ callees kinds (callees kinds above ps) more
  two_lists above [] more = refl
  two_lists above (p ∷ ps) more = two_lists (above ++ callee_in (world_of kinds above) p ∷ []) ps more

  table_length : (ps : List Procedure) → length (callees kinds [] ps) ≡ length ps
  table_length ps = let r = more_callees [] ps in ap length r.1 ∙ r.2

  -- what the table of a part has, that of the whole has too
  grown_table : (ps more : List Procedure) (k : ℕ) (c : Callee) → slice_get (callees kinds [] ps) k ≡ Some c → slice_get (callees kinds [] (ps ++ more)) k ≡ Some c
  grown_table ps more k c h =
      let r = more_callees (callees kinds [] ps) more in
      ap (λ l. slice_get l k) (two_lists [] ps more ∙ r.1) ∙ get_first (callees kinds [] ps) r.0 k c h

  -- the entry of a procedure
  entry_is : (before : List Procedure) (p : Procedure) (after : List Procedure) → slice_get (callees kinds [] (before ++ p ∷ after)) (length before) ≡ Some (callee_in (unit_world kinds before) p)
  entry_is before p after =
      let table = callees kinds [] before in
      let c = callee_in (world_of kinds table) p in
      let r = more_callees (table ++ c ∷ []) after in
      ap (λ l. slice_get l (length before)) (two_lists [] before (p ∷ after) ∙ (r.1 ∙ append_assoc table (c ∷ []) r.0))
      ∙ ap (slice_get (table ++ c ∷ r.0)) (sym (table_length before))
      ∙ get_behind table c r.0

-- ---- rules with a longer table

module _ (fields : ℕ → Option Kind) (memories : ℕ) (cs ds : ℕ → Option Callee) (wider : (k : ℕ) (c : Callee) → cs k ≡ Some c → ds k ≡ Some c) where
  call_wider : (scope : Scope) (root : ℕ → ℕ) (k : ℕ) (args : List Argument) → is_call fields scope root (cs k) args ≡ true → is_call fields scope root (ds k) args ≡ true
  call_wider scope root k args h = go (cs k) refl h
    where
      go : (o : Option Callee) → cs k ≡ o → is_call fields scope root o args ≡ true → is_call fields scope root (ds k) args ≡ true
      go None e h = no_test h
      go (Some c) e h = subst (λ o. is_call fields scope root o args ≡ true) (sym (wider k c e)) h

  mutual
    block_wider : (b : Block) (scope : Scope) (root : ℕ → ℕ) → is_block fields memories cs scope root b ≡ true → is_block fields memories ds scope root b ≡ true
    block_wider end scope root h = refl
    block_wider (next a b) scope root h =
        let q = and_parts (is_statement fields memories cs scope root a) (is_block fields memories cs (scope_after a scope) (roots_after a root) b) h in
        and_true (is_statement fields memories ds scope root a) (is_block fields memories ds (scope_after a scope) (roots_after a root) b) (step_wider a scope root q.0) (block_wider b (scope_after a scope) (roots_after a root) q.1)

    step_wider : (a : Statement) (scope : Scope) (root : ℕ → ℕ) → is_statement fields memories cs scope root a ≡ true → is_statement fields memories ds scope root a ≡ true
    step_wider (Assign x is e) scope root h = h
    step_wider (Reduce x is e) scope root h = h
    step_wider (Config f a) scope root h = h
    step_wider Pass scope root h = h
    step_wider (If c a b) scope root h =
        let shape = not (is_empty a) && (is_short a && is_short b) in
        let test = is_condition fields with_fields scope c in
        let q = and_parts test (shape && (is_block fields memories cs scope root a && is_block fields memories cs scope root b)) h in
        let r = and_parts shape (is_block fields memories cs scope root a && is_block fields memories cs scope root b) q.1 in
        let t = and_parts (is_block fields memories cs scope root a) (is_block fields memories cs scope root b) r.1 in
        and_true test (shape && (is_block fields memories ds scope root a && is_block fields memories ds scope root b)) q.0 (and_true shape (is_block fields memories ds scope root a && is_block fields memories ds scope root b) r.0 (and_true (is_block fields memories ds scope root a) (is_block fields memories ds scope root b) (block_wider a scope root t.0) (block_wider b scope root t.1)))
    step_wider (For i lo hi b) scope root h =
        let inner = with_name scope i (ControlName Index) in
        let bounds = is_control fields plainly scope lo && is_control fields plainly scope hi in
        let shape = not (is_empty b) && is_short b in
        let q = and_parts (is_new scope i) (bounds && (shape && is_block fields memories cs inner root b)) h in
        let r = and_parts bounds (shape && is_block fields memories cs inner root b) q.1 in
        let t = and_parts shape (is_block fields memories cs inner root b) r.1 in
        and_true (is_new scope i) (bounds && (shape && is_block fields memories ds inner root b)) q.0 (and_true bounds (shape && is_block fields memories ds inner root b) r.0 (and_true shape (is_block fields memories ds inner root b) t.0 (block_wider b inner root t.1)))
    step_wider (Alloc x cell dims memory) scope root h = h
    step_wider (View w x coords) scope root h = h
    step_wider (Call k args) scope root h = call_wider scope root k args h

  procedure_wider : (p : Procedure) → IsProcedure fields memories cs p → IsProcedure fields memories ds p
  procedure_wider p h = record { params = h.params; asserts = h.asserts; body = block_wider p.body (scope_of [] p.params) (λ x. x) h.body; filled = h.filled; ids = h.ids; distinct = h.distinct; paths = h.paths; template = h.template }

-- ---- where a procedure stands

-- the procedure of that number, between those before it and those behind it
pub record Standing (fields : List ConfigField) (memories : ℕ) (ps : List Procedure) (k : ℕ) (p : Procedure) : Type 0 where
  pub before : List Procedure
  pub behind : List Procedure
  pub parts : before ++ p ∷ behind ≡ ps
  pub count : length before ≡ k
  pub formed : IsProcedure (field_kind fields) memories (slice_get (callees (kinds_of fields) [] before)) p

module _ (fields : List ConfigField) (memories : ℕ) where
  abbrev kinds : ℕ → Kind
  kinds = kinds_of fields

  abbrev Formed : List Procedure → Procedure → Type 0
  Formed ps p = IsProcedure (field_kind fields) memories (slice_get (callees kinds [] ps)) p

  -- the same behind others
  abbrev Found : List Procedure → List Procedure → ℕ → Procedure → Type 0
  Found done ps k p = (before : List Procedure) × (behind : List Procedure) × (before ++ p ∷ behind ≡ ps) × (length before ≡ k) × Formed (done ++ before) p

  found : (ps done : List Procedure) → AreProcedures fields memories (callees kinds [] done) ps → (k : ℕ) (p : Procedure) → slice_get ps k ≡ Some p → Found done ps k p
  found [] done h zero p e = absurd (none_some e)
  found [] done h (suc k) p e = absurd (none_some e)
  found (q ∷ ps) done h zero p e =
      let same = some_injective q p e in
      ([], ps, ap (λ z. z ∷ ps) (sym same), refl, subst (λ l. Formed l p) (sym (append_none done)) (subst (Formed done) same h.0))
  found (q ∷ ps) done h (suc k) p e =
      let r = found ps (done ++ q ∷ []) (subst (λ t. AreProcedures fields memories t ps) (sym (two_lists kinds [] done (q ∷ []))) h.1) k p e in
      (q ∷ r.0, r.1, ap (λ l. q ∷ l) r.2, ap suc r.3, subst (λ l. Formed l p) (append_assoc done (q ∷ []) r.0) r.4)

  pub standing : (ps : List Procedure) → AreProcedures fields memories [] ps → (k : ℕ) (p : Procedure) → slice_get ps k ≡ Some p → Standing fields memories ps k p
  standing ps h k p e = let r = found ps [] h k p e in record { before = r.0; behind = r.1; parts = r.2; count = r.3; formed = r.4 }

  module _ (ps : List Procedure) (h : AreProcedures fields memories [] ps) where
    pub may_run : (k : ℕ) (p : Procedure) → Standing fields memories ps k p → MayRun fields memories ps p
    may_run k p s = record {
      unit = h;
      procedure = procedure_wider (field_kind fields) memories (slice_get (callees kinds [] s.before)) (slice_get (callees kinds [] ps)) (λ j c e. subst (λ l. slice_get (callees kinds [] l) j ≡ Some c) s.parts (grown_table kinds s.before (p ∷ s.behind) j c e)) p s.formed;
    }

    -- its entry in the table
    pub entry : (k : ℕ) (p : Procedure) (s : Standing fields memories ps k p) → slice_get (callees kinds [] ps) k ≡ Some (callee_in (unit_world kinds s.before) p)
    entry k p s = subst (λ n. slice_get (callees kinds [] ps) n ≡ Some (callee_in (unit_world kinds s.before) p)) s.count (subst (λ l. slice_get (callees kinds [] l) (length s.before) ≡ Some (callee_in (unit_world kinds s.before) p)) s.parts (entry_is kinds s.before p s.behind))

    pub table_entry : (k : ℕ) (c : Callee) → slice_get (callees kinds [] ps) k ≡ Some c → (p : Procedure) × (slice_get ps k ≡ Some p)
    table_entry k c e = get_both (callees kinds [] ps) ps k c (table_length kinds ps) e

    -- it calls procedures before it alone, so it runs the same in the whole unit
    module _ (calls_law : CallsAreBelow) (grown_law : GrownLaw) (k : ℕ) (p : Procedure) (s : Standing fields memories ps k p) where
      below_count : calls_below (length s.before) p.body ≡ true
      below_count = subst (λ n. calls_below n p.body ≡ true) (table_length kinds s.before) (calls_law (field_kind fields) memories (callees kinds [] s.before) p s.formed)

      pub calls_before : calls_below k p.body ≡ true
      calls_before = subst (λ n. calls_below n p.body ≡ true) s.count below_count

      pub runs_the_same : run (unit_world kinds ps) p.body ≡ run (unit_world kinds s.before) p.body
      runs_the_same = subst (λ l. run (unit_world kinds l) p.body ≡ run (unit_world kinds s.before) p.body) s.parts (grown_law kinds s.before (p ∷ s.behind) p.body below_count)

-- ---- what is called stands before

module _ (n k : ℕ) where
  either : (a b c d : Bool) → (a || b) ≡ true → (c && d) ≡ true → (a ≡ true → c ≡ true → nat_lt k n ≡ true) → (b ≡ true → d ≡ true → nat_lt k n ≡ true) → nat_lt k n ≡ true
  either true b c d h j f g = f refl (and_parts c d j).0
  either false b c d h j f g = g h (and_parts c d j).1

  mutual
    pub called_below : (b : Block) → calls b k ≡ true → calls_below n b ≡ true → nat_lt k n ≡ true
    called_below end h j = no_test h
    called_below (next a b) h j = either (step_calls a k) (calls b k) (step_calls_below n a) (calls_below n b) h j (step_called_below a) (called_below b)

    step_called_below : (a : Statement) → step_calls a k ≡ true → step_calls_below n a ≡ true → nat_lt k n ≡ true
    step_called_below (Assign x is e) h j = no_test h
    step_called_below (Reduce x is e) h j = no_test h
    step_called_below (Config f a) h j = no_test h
    step_called_below Pass h j = no_test h
    step_called_below (If c a b) h j = either (calls a k) (calls b k) (calls_below n a) (calls_below n b) h j (called_below a) (called_below b)
    step_called_below (For i lo hi b) h j = called_below b h j
    step_called_below (Alloc x cell dims memory) h j = no_test h
    step_called_below (View w x coords) h j = no_test h
    step_called_below (Call i args) h j = subst (λ m. nat_lt m n ≡ true) (sym (eqb-true k i h)) j

pub procedures_may_run : ProceduresMayRun
procedures_may_run u k p unit e = may_run u.fields (length u.memories) u.procedures unit.procedures k p (standing u.fields (length u.memories) u.procedures unit.procedures k p e)
