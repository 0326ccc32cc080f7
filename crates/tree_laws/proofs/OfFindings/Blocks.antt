-- Blocks in which nothing, or nothing but names, is found.
use Rattle.std.proofs.Common.{◌≡◌, ℕ, nat_lt, Bool, true, not, ◌&&◌, length, Option, Some, None, refl, sym, ap, ◌∙◌, true≢false}
use Rattle.std.proofs.lemmas.Bool.{and_parts}
use Rattle.exo_tree.specs.Tree.{Kind, Index, Binder, Statement, Assign, Reduce, Config, Pass, If, For, Alloc}
use Rattle.exo_tree.specs.Tree.{View, Call, Block, end, next}
use Rattle.exo_meaning.specs.Calls.{Callee}
use Rattle.exo_meaning.specs.Run.{roots_after}
use Rattle.exo_meaning.specs.Units.{Sort, Scope, ControlName, sort_in, has_rank, with_name, view_sort, scope_after, is_new}
use Rattle.exo_meaning.specs.Units.{is_empty, is_short, is_rank, spans, plainly, with_fields, is_control}
use Rattle.exo_meaning.specs.Units.{is_condition, is_block, is_statement}
use Rattle.tree_findings.specs.declared.findings.Findings.{Findings}
use Rattle.tree_findings.specs.Classes.{both, all_of, rule, limit, use_of}
use Rattle.tree_findings.specs.Findings.{found_in_binder, with_view, scope_behind}
use Rattle.tree_findings.specs.Findings.{findings_of_control, findings_of_controls}
use Rattle.tree_findings.specs.Findings.{findings_of_condition, findings_of_access}
use Rattle.tree_findings.specs.Findings.{findings_of_datum, findings_of_coord, findings_of_window}
use Rattle.tree_findings.specs.Findings.{findings_of_block, findings_of_statement}
use Rattle.tree_findings.specs.Obeys.{obeys, statement_obeys}
use Rattle.tree_laws.specs.Findings.Exact.{ObeysLaw, ExactLaw}
use Rattle.tree_laws.proofs.OfFindings.Parts.{Obeys, obeys_of, kept_parts, split}
use Rattle.tree_laws.proofs.OfFindings.Expressions.{whole, wholes, whole_condition, access, datum, window, call, write}

-- where its buffer is in scope, so is a view
view_known : (suits : Option Sort → Bool) (w : Binder) (o : Option Sort) (rank : ℕ) (scope : Scope) → Obeys (use_of suits o) → with_view w o rank scope ≡ with_name scope w (view_sort o rank)
view_known suits w None rank scope h = absurd (true≢false (sym h.scope))
view_known suits w (Some sort) rank scope h = refl

module _ (fields : ℕ → Option Kind) (memories : ℕ) (callees : ℕ → Option Callee) where
  abbrev found : Scope → (ℕ → ℕ) → Block → Findings
  found = findings_of_block fields memories callees

  abbrev found_there : Scope → (ℕ → ℕ) → Statement → Findings
  found_there = findings_of_statement fields memories callees

  behind : (scope : Scope) (root : ℕ → ℕ) (a : Statement) → Obeys (found_there scope root a) → scope_behind a scope ≡ scope_after a scope
  behind scope root (Assign x is e) h = refl
  behind scope root (Reduce x is e) h = refl
  behind scope root (Config f a) h = refl
  behind scope root Pass h = refl
  behind scope root (If c a b) h = refl
  behind scope root (For i lo hi b) h = refl
  behind scope root (Alloc x cell dims memory) h = refl
  behind scope root (View w x coords) h =
      let p = split (found_in_binder scope w) (both (findings_of_window fields scope x coords) (rule (nat_lt 0 (spans coords)))) h in
      let q = split (findings_of_window fields scope x coords) (rule (nat_lt 0 (spans coords))) p.1 in
      let r = split (use_of (has_rank (length coords)) (sort_in scope x)) (all_of (findings_of_coord fields scope) coords) q.0 in
      view_known (has_rank (length coords)) w (sort_in scope x) (spans coords) scope r.0
  behind scope root (Call k args) h = refl

  mutual
    pub block_obeys : (scope : Scope) (root : ℕ → ℕ) (b : Block) → Obeys (found scope root b) → obeys fields memories callees scope root b ≡ true
    block_obeys scope root end h = refl
    block_obeys scope root (next a b) h =
        let p = split (found_there scope root a) (found (scope_behind a scope) (roots_after a root) b) h in
        let first = one_obeys scope root a p.0 in
        let rest = ap (λ s. obeys fields memories callees s (roots_after a root) b) (sym (behind scope root a p.0))
        ∙ block_obeys (scope_behind a scope) (roots_after a root) b p.1 in
        λ i. first i && rest i

    one_obeys : (scope : Scope) (root : ℕ → ℕ) (a : Statement) → Obeys (found_there scope root a) → statement_obeys fields memories callees scope root a ≡ true
    one_obeys scope root (Assign x is e) h =
        let p = split (findings_of_access fields scope x is) (findings_of_datum fields scope e) h in
        let y = access fields scope x is p.0 in
        let z = datum fields scope e p.1 in
        λ i. y i && z i
    one_obeys scope root (Reduce x is e) h =
        let p = split (findings_of_access fields scope x is) (findings_of_datum fields scope e) h in
        let y = access fields scope x is p.0 in
        let z = datum fields scope e p.1 in
        λ i. y i && z i
    one_obeys scope root (Config f a) h = write fields scope (fields f) a h
    one_obeys scope root Pass h = refl
    one_obeys scope root (If c a b) h =
        let p = split (both (findings_of_condition fields with_fields scope c) (rule (not (is_empty a))))
        (both (both (limit (is_short a)) (found scope root a)) (both (limit (is_short b)) (found scope root b))) h in
        let q = split (findings_of_condition fields with_fields scope c) (rule (not (is_empty a))) p.0 in
        let r = split (both (limit (is_short a)) (found scope root a)) (both (limit (is_short b)) (found scope root b)) p.1 in
        let s = split (limit (is_short a)) (found scope root a) r.0 in
        let t = split (limit (is_short b)) (found scope root b) r.1 in
        let test = whole_condition fields with_fields scope c q.0 in
        let filled : not (is_empty a) ≡ true = q.1.rules in
        let short : is_short a ≡ true = s.0.limits in
        let other : is_short b ≡ true = t.0.limits in
        let one = block_obeys scope root a s.1 in
        let two = block_obeys scope root b t.1 in
        λ i. test i && ((filled i && (short i && other i)) && (one i && two i))
    one_obeys scope root (For x lo hi b) h =
        let inside = with_name scope x (ControlName Index) in
        let p = split (both (found_in_binder scope x) (rule (not (is_empty b))))
        (both (both (findings_of_control fields plainly scope lo) (findings_of_control fields plainly scope hi)) (both (limit (is_short b)) (found inside root b))) h in
        let q = split (found_in_binder scope x) (rule (not (is_empty b))) p.0 in
        let r = split (both (findings_of_control fields plainly scope lo) (findings_of_control fields plainly scope hi)) (both (limit (is_short b)) (found inside root b)) p.1 in
        let s = split (findings_of_control fields plainly scope lo) (findings_of_control fields plainly scope hi) r.0 in
        let t = split (limit (is_short b)) (found inside root b) r.1 in
        let low = whole fields plainly scope lo s.0 in
        let high = whole fields plainly scope hi s.1 in
        let filled : not (is_empty b) ≡ true = q.1.rules in
        let short : is_short b ≡ true = t.0.limits in
        let body = block_obeys inside root b t.1 in
        λ i. (low i && high i) && ((filled i && short i) && body i)
    one_obeys scope root (Alloc x cell dims memory) h =
        let p = split (both (found_in_binder scope x) (findings_of_controls fields plainly scope dims)) (both (limit (is_rank (length dims))) (rule (nat_lt memory memories))) h in
        let q = split (found_in_binder scope x) (findings_of_controls fields plainly scope dims) p.0 in
        let r = split (limit (is_rank (length dims))) (rule (nat_lt memory memories)) p.1 in
        let own = wholes fields plainly scope dims q.1 in
        let rank : is_rank (length dims) ≡ true = r.0.limits in
        let there : nat_lt memory memories ≡ true = r.1.rules in
        λ i. own i && (rank i && there i)
    one_obeys scope root (View w x coords) h =
        let p = split (found_in_binder scope w) (both (findings_of_window fields scope x coords) (rule (nat_lt 0 (spans coords)))) h in
        let q = split (findings_of_window fields scope x coords) (rule (nat_lt 0 (spans coords))) p.1 in
        let own = window fields scope x coords q.0 in
        let span : nat_lt 0 (spans coords) ≡ true = q.1.rules in
        λ i. own i && span i
    one_obeys scope root (Call k args) h = call fields scope root (callees k) args h

  -- with new names for the binders
  mutual
    pub block_is : (scope : Scope) (root : ℕ → ℕ) (b : Block) → Obeys (found scope root b) → (found scope root b).names ≡ true → obeys fields memories callees scope root b ≡ true → is_block fields memories callees scope root b ≡ true
    block_is scope root end h n o = refl
    block_is scope root (next a b) h n o =
        let p = split (found_there scope root a) (found (scope_behind a scope) (roots_after a root) b) h in
        let m = and_parts (found_there scope root a).names (found (scope_behind a scope) (roots_after a root) b).names n in
        let q = and_parts (statement_obeys fields memories callees scope root a) (obeys fields memories callees (scope_after a scope) (roots_after a root) b) o in
        let same = behind scope root a p.0 in
        let first = one_is scope root a p.0 m.0 q.0 in
        let rest = ap (λ s. is_block fields memories callees s (roots_after a root) b) (sym same)
        ∙ block_is (scope_behind a scope) (roots_after a root) b p.1 m.1 (ap (λ s. obeys fields memories callees s (roots_after a root) b) same ∙ q.1) in
        λ i. first i && rest i

    one_is : (scope : Scope) (root : ℕ → ℕ) (a : Statement) → Obeys (found_there scope root a) → (found_there scope root a).names ≡ true → statement_obeys fields memories callees scope root a ≡ true → is_statement fields memories callees scope root a ≡ true
    one_is scope root (Assign x is e) h n o = o
    one_is scope root (Reduce x is e) h n o = o
    one_is scope root (Config f a) h n o = o
    one_is scope root Pass h n o = refl
    one_is scope root (If c a b) h n o =
        let p = split (both (findings_of_condition fields with_fields scope c) (rule (not (is_empty a))))
        (both (both (limit (is_short a)) (found scope root a)) (both (limit (is_short b)) (found scope root b))) h in
        let r = split (both (limit (is_short a)) (found scope root a)) (both (limit (is_short b)) (found scope root b)) p.1 in
        let s = split (limit (is_short a)) (found scope root a) r.0 in
        let t = split (limit (is_short b)) (found scope root b) r.1 in
        let m = and_parts (both (findings_of_condition fields with_fields scope c) (rule (not (is_empty a)))).names
        (both (both (limit (is_short a)) (found scope root a)) (both (limit (is_short b)) (found scope root b))).names n in
        let k = and_parts (found scope root a).names (found scope root b).names m.1 in
        let blocks = obeys fields memories callees scope root a && obeys fields memories callees scope root b in
        let u = and_parts (is_condition fields with_fields scope c) ((not (is_empty a) && (is_short a && is_short b)) && blocks) o in
        let v = and_parts (not (is_empty a) && (is_short a && is_short b)) blocks u.1 in
        let w = and_parts (obeys fields memories callees scope root a) (obeys fields memories callees scope root b) v.1 in
        let one = block_is scope root a s.1 k.0 w.0 in
        let two = block_is scope root b t.1 k.1 w.1 in
        let test = u.0 in
        let filled = v.0 in
        λ i. test i && (filled i && (one i && two i))
    one_is scope root (For x lo hi b) h n o =
        let inside = with_name scope x (ControlName Index) in
        let p = split (both (found_in_binder scope x) (rule (not (is_empty b))))
        (both (both (findings_of_control fields plainly scope lo) (findings_of_control fields plainly scope hi)) (both (limit (is_short b)) (found inside root b))) h in
        let r = split (both (findings_of_control fields plainly scope lo) (findings_of_control fields plainly scope hi)) (both (limit (is_short b)) (found inside root b)) p.1 in
        let t = split (limit (is_short b)) (found inside root b) r.1 in
        let m = and_parts (both (found_in_binder scope x) (rule (not (is_empty b)))).names
        (both (both (findings_of_control fields plainly scope lo) (findings_of_control fields plainly scope hi)) (both (limit (is_short b)) (found inside root b))).names n in
        let fresh : is_new scope x ≡ true = (and_parts (is_new scope x) true m.0).0 in
        let k = and_parts (both (findings_of_control fields plainly scope lo) (findings_of_control fields plainly scope hi)).names (found inside root b).names m.1 in
        let u = and_parts (is_control fields plainly scope lo && is_control fields plainly scope hi) ((not (is_empty b) && is_short b) && obeys fields memories callees inside root b) o in
        let v = and_parts (not (is_empty b) && is_short b) (obeys fields memories callees inside root b) u.1 in
        let body = block_is inside root b t.1 k.1 v.1 in
        let bounds = u.0 in
        let filled = v.0 in
        λ i. fresh i && (bounds i && (filled i && body i))
    one_is scope root (Alloc x cell dims memory) h n o =
        let m = and_parts (both (found_in_binder scope x) (findings_of_controls fields plainly scope dims)).names true n in
        let fresh = (and_parts (is_new scope x) (findings_of_controls fields plainly scope dims).names m.0).0 in
        λ i. fresh i && o i
    one_is scope root (View w x coords) h n o =
        let fresh = (and_parts (is_new scope w) (both (findings_of_window fields scope x coords) (rule (nat_lt 0 (spans coords)))).names n).0 in
        λ i. fresh i && o i
    one_is scope root (Call k args) h n o = o

pub obeys_law : ObeysLaw
obeys_law fields memories callees scope root b h =
    block_obeys fields memories callees scope root b (obeys_of (findings_of_block fields memories callees scope root b) h)

pub exact_law : ExactLaw
exact_law fields memories callees scope root b h =
    let k = kept_parts (findings_of_block fields memories callees scope root b) h in
    block_is fields memories callees scope root b k.0 k.1 (block_obeys fields memories callees scope root b k.0)
