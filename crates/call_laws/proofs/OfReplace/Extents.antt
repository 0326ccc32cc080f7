-- The extents of the names of a procedure that keeps the rules read no strides.
use Rattle.std.proofs.Common.{◌≡◌, ℕ, ◌==◌, Bool, true, false, ◌&&◌, List, [], ◌∷◌, Option, Some}
use Rattle.std.proofs.Common.{None, if◌then◌else◌, length, refl, ap₂, not}
use Rattle.std.specs.List.{list_all}
use Rattle.exo_tree.specs.Tree.{Kind, Index, Control, Coord, At, Span, ParamKind, ControlParam}
use Rattle.exo_tree.specs.Tree.{TensorParam, WindowParam, Param, Statement, Assign, Reduce, Config}
use Rattle.exo_tree.specs.Tree.{Pass, If, For, Alloc, View, Call, Block, end, next, Procedure}
use Rattle.exo_meaning.specs.Calls.{Callee}
use Rattle.exo_meaning.specs.Run.{roots_after}
use Rattle.exo_meaning.specs.Scene.{updated}
use Rattle.exo_meaning.specs.Units.{Scope, ControlName, plainly, with_fields, with_name, param_sort, scope_of}
use Rattle.exo_meaning.specs.Units.{is_control, are_controls, is_condition, is_coord, is_window, is_new}
use Rattle.exo_meaning.specs.Units.{has_rank, sort_in, is_empty, is_short, is_param_kind, are_params}
use Rattle.exo_meaning.specs.Units.{is_block, is_statement, scope_after, IsProcedure}
use Rattle.affine_forms.proofs.Values.{and_parts}
use Rattle.match_laws.specs.Names.{Buffer, Names, with_kind, with_params, span_extents, viewed}
use Rattle.match_laws.specs.Names.{with_block, with_statement, names_of, extents_of, whole_of}
use Rattle.match_laws.specs.Inline.MatchLaw.{are_of_known}
use Rattle.call_laws.proofs.OfReplace.Stands.{plain_is}

module _ (fields : ℕ → Option Kind) (memories : ℕ) (callees : ℕ → Option Callee) (known : ℕ → Bool) where
  abbrev IsPlain : Option Buffer → Type 0
  IsPlain o = are_of_known known (whole_of (extents_of o)) ≡ true

  abbrev ArePlain : Names → Type 0
  ArePlain names = (y : ℕ) → IsPlain (names y)

  set_plain : (names : Names) (x : ℕ) (o : Option Buffer) → ArePlain names → IsPlain o
      → ArePlain (updated names x o)
  set_plain names x o h k y = go (y == x)
    where
      go : (t : Bool) → IsPlain (if t then o else names y)
      go true = k
      go false = h y

  controls_plain : (scope : Scope) (dims : List Control) → are_controls fields plainly scope dims ≡ true
      → are_of_known known (whole_of dims) ≡ true
  controls_plain scope [] h = refl
  controls_plain scope (d ∷ ds) h =
      let p = and_parts (is_control fields plainly scope d) (are_controls fields plainly scope ds) h in
      ap₂ ◌&&◌ (plain_is fields known scope d p.0) (controls_plain scope ds p.1)

  spans_plain : (scope : Scope) (cs : List Coord) → list_all (is_coord fields scope) cs ≡ true
      → are_of_known known (whole_of (span_extents cs)) ≡ true
  spans_plain scope [] h = refl
  spans_plain scope (At a ∷ cs) h =
      spans_plain scope cs (and_parts (is_control fields plainly scope a) (list_all (is_coord fields scope) cs) h).1
  spans_plain scope (Span a b ∷ cs) h =
      let p = and_parts (is_control fields plainly scope a && is_control fields plainly scope b)
      (list_all (is_coord fields scope) cs) h in
      let q = and_parts (is_control fields plainly scope a) (is_control fields plainly scope b) p.0 in
      ap₂ ◌&&◌ (ap₂ ◌&&◌ (plain_is fields known scope b q.1) (plain_is fields known scope a q.0))
      (spans_plain scope cs p.1)

  viewed_plain : (scope : Scope) (cs : List Coord) (o : Option Buffer)
      → list_all (is_coord fields scope) cs ≡ true → IsPlain (viewed cs o)
  viewed_plain scope cs None h = refl
  viewed_plain scope cs (Some b) h = spans_plain scope cs h

  mutual
    block_plain : (b : Block) (scope : Scope) (root : ℕ → ℕ) (names : Names) → ArePlain names
        → is_block fields memories callees scope root b ≡ true → ArePlain (with_block b names)
    block_plain end scope root names h k = h
    block_plain (next a b) scope root names h k =
        let q = and_parts (is_statement fields memories callees scope root a)
        (is_block fields memories callees (scope_after a scope) (roots_after a root) b) k in
        block_plain b (scope_after a scope) (roots_after a root) (with_statement a names)
        (statement_plain a scope root names h q.0) q.1

    statement_plain : (a : Statement) (scope : Scope) (root : ℕ → ℕ) (names : Names) → ArePlain names
        → is_statement fields memories callees scope root a ≡ true → ArePlain (with_statement a names)
    statement_plain (Assign x is e) scope root names h k = h
    statement_plain (Reduce x is e) scope root names h k = h
    statement_plain (Config f a) scope root names h k = h
    statement_plain Pass scope root names h k = h
    statement_plain (If c a b) scope root names h k =
        let p = and_parts (is_condition fields with_fields scope c) _ k in
        let q = and_parts (not (is_empty a) && (is_short a && is_short b)) _ p.1 in
        let ab = and_parts (is_block fields memories callees scope root a)
        (is_block fields memories callees scope root b) q.1 in
        block_plain b scope root (with_block a names) (block_plain a scope root names h ab.0) ab.1
    statement_plain (For i lo hi b) scope root names h k =
        let p = and_parts (is_new scope i) _ k in
        let q = and_parts (is_control fields plainly scope lo && is_control fields plainly scope hi) _ p.1 in
        let body = and_parts (not (is_empty b) && is_short b) _ q.1 in
        block_plain b (with_name scope i (ControlName Index)) root names h body.1
    statement_plain (Alloc x cell dims memory) scope root names h k =
        let p = and_parts (is_new scope x) _ k in
        set_plain names x.id (Some (record { cell = cell; extents = dims; tensor = true })) h
        (controls_plain scope dims (and_parts (are_controls fields plainly scope dims) _ p.1).0)
    statement_plain (View w x cs) scope root names h k =
        let p = and_parts (is_new scope w) _ k in
        let q = and_parts (is_window fields scope x cs) _ p.1 in
        set_plain names w.id (viewed cs (names x)) h
        (viewed_plain scope cs (names x)
        (and_parts (has_rank (length cs) (sort_in scope x)) (list_all (is_coord fields scope) cs) q.0).1)
    statement_plain (Call n args) scope root names h k = h

  kind_plain : (x : ℕ) (kind : ParamKind) (scope : Scope) (names : Names) → ArePlain names
      → is_param_kind fields memories scope kind ≡ true → ArePlain (with_kind x kind names)
  kind_plain x (ControlParam kind) scope names h k = h
  kind_plain x (TensorParam cell dims memory) scope names h k =
      set_plain names x (Some (record { cell = cell; extents = dims; tensor = true })) h
      (controls_plain scope dims (and_parts (are_controls fields plainly scope dims) _ k).0)
  kind_plain x (WindowParam cell dims memory) scope names h k =
      set_plain names x (Some (record { cell = cell; extents = dims; tensor = false })) h
      (controls_plain scope dims (and_parts (are_controls fields plainly scope dims) _ k).0)

  params_plain : (ps : List Param) (scope : Scope) (names : Names) → ArePlain names
      → are_params fields memories scope ps ≡ true → ArePlain (with_params ps names)
  params_plain [] scope names h k = h
  params_plain (p ∷ ps) scope names h k =
      let q = and_parts (is_new scope p.binder) _ k in
      let r = and_parts (is_param_kind fields memories scope p.kind) _ q.1 in
      params_plain ps (with_name scope p.binder (param_sort p.kind)) (with_kind p.binder.id p.kind names)
      (kind_plain p.binder.id p.kind scope names h r.0) r.1

  pub names_plain : (p : Procedure) → IsProcedure fields memories callees p
      → (y : ℕ) → are_of_known known (whole_of (extents_of (names_of p y))) ≡ true
  names_plain p ok =
      block_plain p.body (scope_of [] p.params) (λ x. x) (with_params p.params (λ x. None))
      (params_plain p.params [] (λ x. None) (λ y. refl) ok.params) ok.body
