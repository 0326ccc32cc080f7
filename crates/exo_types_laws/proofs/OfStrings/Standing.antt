-- What a string stands for at a statement is well formed there.
use Rattle.std.proofs.Common.{◌≡◌, ℕ, zero, suc, Bool, true, false, ◌&&◌, not, List, [], ◌∷◌, ◌++◌}
use Rattle.std.proofs.Common.{length, Option, Some, sym, ap, ◌∙◌, subst}
use Rattle.std.specs.Prelude.{slice_get, if◌then◌else◌}
use Rattle.exo_tree.specs.Tree.{Kind, Index, Statement, Assign, Reduce, Config, Pass, If, For, Alloc}
use Rattle.exo_tree.specs.Tree.{View, Call, Block, end, next, joined, Param, Procedure, ConfigField}
use Rattle.exo_tree.specs.Tree.{Program}
use Rattle.exo_tree.specs.Context.{Context, Here, After, InLoop, InThen, InElse, fill, rest_of}
use Rattle.exo_tree.specs.Places.{Path, Opened}
use Rattle.exo_meaning.specs.Calls.{Callee}
use Rattle.exo_meaning.specs.Run.{roots_after, kinds_of, world_of, callee_in}
use Rattle.exo_meaning.specs.Units.{Scope, ControlName, BufferName, with_name, param_sort, scope_of}
use Rattle.exo_meaning.specs.Units.{view_sort, sort_in, spans, scope_after, plainly, with_fields, is_new}
use Rattle.exo_meaning.specs.Units.{is_control, is_condition, is_param_kind, are_params, is_empty}
use Rattle.exo_meaning.specs.Units.{is_short, is_block, is_statement, field_kind, IsProcedure}
use Rattle.exo_meaning.specs.Units.{AreProcedures, IsUnit}
use Rattle.meaning_laws.specs.Sorted.{scope_at, scope_there}
use Rattle.meaning_laws.proofs.Parts.{none_some}
use Rattle.meaning_laws.proofs.Places.{opened_law}
use Rattle.meaning_laws.proofs.Substitute.{and_parts}
use Rattle.rules_names.specs.Laws.{KeepsIds}
use Rattle.rules_names.proofs.Kept.{none_of, control_kept, condition_kept, scope_kept}
use Rattle.exo_types_laws.specs.Strings.Laws.{scope_past, scope_beside, StandsAt}
use Rattle.exo_types_laws.specs.Strings.Laws.{ControlsStandAtPlace, ConditionsStandAtPlace}
use Rattle.exo_types_laws.proofs.OfStrings.SameNames.{same_controls_at_place, same_conditions_at_place}

-- ---- scopes in which names are found by their ids

module _ (fields : ℕ → Option Kind) (memories : ℕ) (callees : ℕ → Option Callee) where
  params_keep : (ps : List Param) (scope : Scope) → KeepsIds scope
      → are_params fields memories scope ps ≡ true → KeepsIds (scope_of scope ps)
  params_keep [] scope keeps h = keeps
  params_keep (p ∷ ps) scope keeps h =
      let q = and_parts (is_new scope p.binder) _ h in
      let r = and_parts (is_param_kind fields memories scope p.kind) _ q.1 in
      params_keep ps (with_name scope p.binder (param_sort p.kind))
      (scope_kept scope p.binder (param_sort p.kind) keeps q.0) r.1

  step_keeps : (a : Statement) (scope : Scope) (root : ℕ → ℕ) → KeepsIds scope
      → is_statement fields memories callees scope root a ≡ true → KeepsIds (scope_after a scope)
  step_keeps (Assign x is e) scope root keeps h = keeps
  step_keeps (Reduce x is e) scope root keeps h = keeps
  step_keeps (Config f e) scope root keeps h = keeps
  step_keeps Pass scope root keeps h = keeps
  step_keeps (If c a b) scope root keeps h = keeps
  step_keeps (For i lo hi b) scope root keeps h = keeps
  step_keeps (Alloc x cell dims memory) scope root keeps h =
      scope_kept scope x (BufferName cell (length dims) true) keeps (and_parts (is_new scope x) _ h).0
  step_keeps (View w x cs) scope root keeps h =
      scope_kept scope w (view_sort (sort_in scope x) (spans cs)) keeps
      (and_parts (is_new scope w) _ h).0
  step_keeps (Call k args) scope root keeps h = keeps

  past_keeps : (b rest : Block) (scope : Scope) (root : ℕ → ℕ) → KeepsIds scope
      → is_block fields memories callees scope root (joined b rest) ≡ true
      → KeepsIds (scope_past b scope)
  past_keeps end rest scope root keeps h = keeps
  past_keeps (next a b) rest scope root keeps h =
      let p = and_parts (is_statement fields memories callees scope root a) _ h in
      past_keeps b rest (scope_after a scope) (roots_after a root) (step_keeps a scope root keeps p.0)
      p.1

  -- in the hole, where the rules hold of what stands there
  record AtHole (c : Context) (old : Block) (scope : Scope) : Type 0 where
    keeps : KeepsIds (scope_at c scope)
    root : ℕ → ℕ
    block : is_block fields memories callees (scope_at c scope) root (joined old (rest_of c)) ≡ true

  at_hole : (c : Context) (old : Block) (scope : Scope) (root : ℕ → ℕ) → KeepsIds scope
      → is_block fields memories callees scope root (fill c old) ≡ true → AtHole c old scope
  at_hole (Here rest) old scope root keeps h = record { keeps = keeps; root = root; block = h }
  at_hole (After a c) old scope root keeps h =
      let p = and_parts (is_statement fields memories callees scope root a) _ h in
      let t = at_hole c old (scope_after a scope) (roots_after a root)
      (step_keeps a scope root keeps p.0) p.1 in
      record { keeps = t.keeps; root = t.root; block = t.block }
  at_hole (InLoop i lo hi c rest) old scope root keeps h =
      let p = and_parts (is_statement fields memories callees scope root (For i lo hi (fill c old))) _
      h in
      let q = and_parts (is_new scope i) _ p.0 in
      let r = and_parts (is_control fields plainly scope lo && is_control fields plainly scope hi) _
      q.1 in
      let s = and_parts (not (is_empty (fill c old)) && is_short (fill c old)) _ r.1 in
      let t = at_hole c old (with_name scope i (ControlName Index)) root
      (scope_kept scope i (ControlName Index) keeps q.0) s.1 in
      record { keeps = t.keeps; root = t.root; block = t.block }
  at_hole (InThen x c other rest) old scope root keeps h =
      let p = and_parts (is_statement fields memories callees scope root (If x (fill c old) other)) _
      h in
      let q = and_parts (is_condition fields with_fields scope x) _ p.0 in
      let r =
      and_parts (not (is_empty (fill c old)) && (is_short (fill c old) && is_short other)) _ q.1 in
      let s = and_parts (is_block fields memories callees scope root (fill c old)) _ r.1 in
      let t = at_hole c old scope root keeps s.0 in
      record { keeps = t.keeps; root = t.root; block = t.block }
  at_hole (InElse x other c rest) old scope root keeps h =
      let p = and_parts (is_statement fields memories callees scope root (If x other (fill c old))) _
      h in
      let q = and_parts (is_condition fields with_fields scope x) _ p.0 in
      let r = and_parts (not (is_empty other) && (is_short other && is_short (fill c old))) _ q.1 in
      let s = and_parts (is_block fields memories callees scope root other) _ r.1 in
      let t = at_hole c old scope root keeps s.1 in
      record { keeps = t.keeps; root = t.root; block = t.block }

no_names : KeepsIds []
no_names = record { found = λ x n e. absurd (none_some e) }

-- ---- procedures of a unit

procedure_at : (fields : List ConfigField) (memories : ℕ) (ps : List Procedure) (above : List Callee)
    (k : ℕ) (p : Procedure) → AreProcedures fields memories above ps → slice_get ps k ≡ Some p
    → (callees : ℕ → Option Callee) × IsProcedure (field_kind fields) memories callees p
procedure_at fields memories [] above zero p good e = absurd (none_some e)
procedure_at fields memories [] above (suc k) p good e = absurd (none_some e)
procedure_at fields memories (q ∷ ps) above zero p good e =
    (slice_get above, subst (IsProcedure (field_kind fields) memories (slice_get above)) (same e) good.0)
  where
    same : Some q ≡ Some p → q ≡ p
    same e = cc
procedure_at fields memories (q ∷ ps) above (suc k) p good e =
    procedure_at fields memories ps (above ++ callee_in (world_of (kinds_of fields) above) q ∷ []) k p
    good.1 e

beside_keeps : (u : Program) (k : ℕ) (path : Path) (p : Procedure) (o : Opened) (after : Bool)
    → IsUnit u → StandsAt u k path p o → KeepsIds (scope_beside p o after)
beside_keeps u k path p o after unit stands = by after
  where
    here : (callees : ℕ → Option Callee)
        × IsProcedure (field_kind u.fields) (length u.memories) callees p
    here =
        procedure_at u.fields (length u.memories) u.procedures [] k p unit.procedures
        stands.procedure

    hole : AtHole (field_kind u.fields) (length u.memories) here.0 o.around o.piece
        (scope_of [] p.params)
    hole =
        at_hole (field_kind u.fields) (length u.memories) here.0 o.around o.piece
        (scope_of [] p.params) (λ x. x)
        (params_keep (field_kind u.fields) (length u.memories) here.0 p.params [] no_names
        here.1.params)
        (subst (λ b. is_block (field_kind u.fields) (length u.memories) here.0 (scope_of [] p.params)
        (λ x. x) b ≡ true) (sym (opened_law 1 path p.body o stands.statement)) here.1.body)

    by : (t : Bool) → KeepsIds (if t then scope_past o.piece (scope_there p (Some o))
        else scope_there p (Some o))
    by false = hole.keeps
    by true =
        past_keeps (field_kind u.fields) (length u.memories) here.0 o.piece (rest_of o.around)
        (scope_at o.around (scope_of [] p.params)) hole.root hole.keeps hole.block

-- ---- strings

pub controls_stand_at_place : ControlsStandAtPlace
controls_stand_at_place u k path p o after may n e unit stands fits faults =
    ap (is_control (field_kind u.fields) may (scope_beside p o after))
    (same_controls_at_place u k path p o after u.fields e stands)
    ∙ control_kept u.fields may (scope_beside p o after)
    (beside_keeps u k path p o after unit stands) n e fits (none_of _ faults)

pub conditions_stand_at_place : ConditionsStandAtPlace
conditions_stand_at_place u k path p o after may n e unit stands fits faults =
    ap (is_condition (field_kind u.fields) may (scope_beside p o after))
    (same_conditions_at_place u k path p o after u.fields e stands)
    ∙ condition_kept u.fields may (scope_beside p o after)
    (beside_keeps u k path p o after unit stands) n e fits (none_of _ faults)
