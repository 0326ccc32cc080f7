-- Units with one procedure more.
use Rattle.std.proofs.Common.{◌≡◌, ◌^◌, ℕ, zero, suc, nat_lt, List, [], ◌∷◌, ◌++◌, length, Option, Some, None, true, not, ◌&&◌, refl, sym, ap, ◌∙◌, subst, true≢false, arith}
use Rattle.std.specs.Prelude.{slice_get}
use Rattle.std.proofs.lemmas.Bool.{and_parts, and_from}
use Rattle.std.proofs.lemmas.List.{length-append}
use Rattle.exo_tree.specs.Tree.{Kind, Index, Statement, Assign, Reduce, Config, Pass, If, For, Alloc, View, Call, Block, end, next, Procedure, ConfigField}
use Rattle.exo_meaning.specs.Calls.{Callee}
use Rattle.exo_meaning.specs.Run.{callees, callee_in, world_of, kinds_of, roots_after}
use Rattle.exo_meaning.specs.Units.{Scope, ControlName, with_name, scope_of, scope_after, is_empty, is_short, plainly, with_fields, is_control, is_condition, is_call, is_new, is_block, is_statement, IsProcedure, field_kind, AreProcedures}
use Rattle.tree_laws.specs.Findings.Versions.{ProcedureLaw, VersionLaw}

nothing_there : {A : Type 0} {a : A} → None ≡ Some a → ⊥
nothing_there e = cc

some_is : {A : Type 0} {a b : A} → Some a ≡ Some b → a ≡ b
some_is e = cc

there_still : {A : Type 0} (xs ys : List A) (k : ℕ) (a : A) → slice_get xs k ≡ Some a → slice_get (xs ++ ys) k ≡ Some a
there_still [] ys zero a e = absurd (nothing_there e)
there_still [] ys (suc k) a e = absurd (nothing_there e)
there_still (x ∷ xs) ys zero a e = e
there_still (x ∷ xs) ys (suc k) a e = there_still xs ys k a e

-- ---- more procedures to call

module _ (fields : ℕ → Option Kind) (memories : ℕ) (cs ds : ℕ → Option Callee) (more : (k : ℕ) (c : Callee) → cs k ≡ Some c → ds k ≡ Some c) where
  mutual
    block_more : (scope : Scope) (root : ℕ → ℕ) (b : Block) → is_block fields memories cs scope root b ≡ true → is_block fields memories ds scope root b ≡ true
    block_more scope root end h = refl
    block_more scope root (next a b) h =
        let parts = and_parts (is_statement fields memories cs scope root a) (is_block fields memories cs (scope_after a scope) (roots_after a root) b) h in
        and_from (is_statement fields memories ds scope root a) (is_block fields memories ds (scope_after a scope) (roots_after a root) b)
        (statement_more scope root a parts.0) (block_more (scope_after a scope) (roots_after a root) b parts.1)

    statement_more : (scope : Scope) (root : ℕ → ℕ) (a : Statement) → is_statement fields memories cs scope root a ≡ true → is_statement fields memories ds scope root a ≡ true
    statement_more scope root (Assign x is e) h = h
    statement_more scope root (Reduce x is e) h = h
    statement_more scope root (Config f a) h = h
    statement_more scope root Pass h = h
    statement_more scope root (If c a b) h =
        let all = and_parts (is_condition fields with_fields scope c) ((not (is_empty a) && (is_short a && is_short b)) && (is_block fields memories cs scope root a && is_block fields memories cs scope root b)) h in
        let inner = and_parts (not (is_empty a) && (is_short a && is_short b)) (is_block fields memories cs scope root a && is_block fields memories cs scope root b) all.1 in
        let both = and_parts (is_block fields memories cs scope root a) (is_block fields memories cs scope root b) inner.1 in
        and_from (is_condition fields with_fields scope c) ((not (is_empty a) && (is_short a && is_short b)) && (is_block fields memories ds scope root a && is_block fields memories ds scope root b)) all.0
        (and_from (not (is_empty a) && (is_short a && is_short b)) (is_block fields memories ds scope root a && is_block fields memories ds scope root b) inner.0
        (and_from (is_block fields memories ds scope root a) (is_block fields memories ds scope root b) (block_more scope root a both.0) (block_more scope root b both.1)))
    statement_more scope root (For i lo hi b) h =
        let inside = with_name scope i (ControlName Index) in
        let bounds = is_control fields plainly scope lo && is_control fields plainly scope hi in
        let filled = not (is_empty b) && is_short b in
        let all = and_parts (is_new scope i) (bounds && (filled && is_block fields memories cs inside root b)) h in
        let inner = and_parts bounds (filled && is_block fields memories cs inside root b) all.1 in
        let body = and_parts filled (is_block fields memories cs inside root b) inner.1 in
        and_from (is_new scope i) (bounds && (filled && is_block fields memories ds inside root b)) all.0
        (and_from bounds (filled && is_block fields memories ds inside root b) inner.0
        (and_from filled (is_block fields memories ds inside root b) body.0 (block_more inside root b body.1)))
    statement_more scope root (Alloc x cell dims memory) h = h
    statement_more scope root (View w x coords) h = h
    statement_more scope root (Call k args) h = call_more (cs k) refl h
      where
        call_more : (o : Option Callee) → cs k ≡ o → is_call fields scope root o args ≡ true → is_call fields scope root (ds k) args ≡ true
        call_more None is h = absurd (true≢false (sym h))
        call_more (Some callee) is h = ap (λ o. is_call fields scope root o args) (more k callee is) ∙ h

  procedure_more : (p : Procedure) → IsProcedure fields memories cs p → IsProcedure fields memories ds p
  procedure_more p r = record {
    params = r.params;
    asserts = r.asserts;
    body = block_more (scope_of [] p.params) (λ x. x) p.body r.body;
    filled = r.filled;
    ids = r.ids;
    distinct = r.distinct;
    paths = r.paths;
    template = r.template;
  }

-- ---- one procedure more

module _ (fields : List ConfigField) (memories : ℕ) where
  abbrev kinds : ℕ → Kind
  kinds = kinds_of fields

  -- what stands above stays there
  above_stays : (above : List Callee) (ps : List Procedure) (k : ℕ) (c : Callee) → slice_get above k ≡ Some c → slice_get (callees kinds above ps) k ≡ Some c
  above_stays above [] k c e = e
  above_stays above (p ∷ ps) k c e = above_stays (above ++ callee_in (world_of kinds above) p ∷ []) ps k c (there_still above (callee_in (world_of kinds above) p ∷ []) k c e)

  -- each procedure keeps the rules below all of them
  procedure_at : (above : List Callee) (ps : List Procedure) (k : ℕ) (p : Procedure) → AreProcedures fields memories above ps → slice_get ps k ≡ Some p
      → IsProcedure (field_kind fields) memories (slice_get (callees kinds above ps)) p
  procedure_at above [] zero p are e = absurd (nothing_there e)
  procedure_at above [] (suc k) p are e = absurd (nothing_there e)
  procedure_at above (q ∷ ps) zero p are e =
      procedure_more (field_kind fields) memories (slice_get above) (slice_get (callees kinds above (q ∷ ps))) (above_stays above (q ∷ ps)) p
      (subst (IsProcedure (field_kind fields) memories (slice_get above)) (some_is e) are.0)
  procedure_at above (q ∷ ps) (suc k) p are e = procedure_at (above ++ callee_in (world_of kinds above) q ∷ []) ps k p are.1 e

  procedures_more : (above : List Callee) (ps : List Procedure) (q : Procedure) → AreProcedures fields memories above ps → IsProcedure (field_kind fields) memories (slice_get (callees kinds above ps)) q
      → AreProcedures fields memories above (ps ++ q ∷ [])
  procedures_more above [] q are own = (own, tt)
  procedures_more above (p ∷ ps) q are own = (are.0, procedures_more (above ++ callee_in (world_of kinds above) p ∷ []) ps q are.1 own)

pub procedure_law : ProcedureLaw
procedure_law unit k p is there =
    procedure_at unit.fields (length unit.memories) [] unit.procedures k p is.procedures there

pub version_law : VersionLaw
version_law unit q is room own =
    let many : length (unit.procedures ++ q ∷ []) ≡ suc (length unit.procedures) = omega (arith, length-append unit.procedures (q ∷ [])) in
    let others = and_parts (nat_lt (length unit.procedures) (2 ^ 31)) (nat_lt (length unit.fields) (2 ^ 31) && nat_lt (length unit.memories) (2 ^ 31)) is.counts in
    record {
      procedures = procedures_more unit.fields (length unit.memories) [] unit.procedures q is.procedures own;
      fields = is.fields;
      memories = is.memories;
      spaces = is.spaces;
      counts = and_from (nat_lt (length (unit.procedures ++ q ∷ [])) (2 ^ 31)) (nat_lt (length unit.fields) (2 ^ 31) && nat_lt (length unit.memories) (2 ^ 31)) (ap (λ n. nat_lt n (2 ^ 31)) many ∙ room) others.1;
    }
