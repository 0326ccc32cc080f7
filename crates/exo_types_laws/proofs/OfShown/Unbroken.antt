-- A written block breaks no rule.
use Rattle.std.proofs.Common.{◌≡◌, ℕ, suc, ◌+◌, true, not, ◌&&◌, List, [], length, map, Option, None, refl, sym, ap, ap₂, ◌∙◌}
use Rattle.exo_tree.specs.Tree as tree
use Rattle.exo_tree.specs.Tree.{Kind, Index, Binder, ConfigField, Control, Coord, At, Span, Argument, ControlArg, ConditionArg, Whole, Window, Statement, Assign, Reduce, Config, Pass, If, For, Alloc, View, Call, Block, end, next, Program}
use Rattle.exo_meaning.specs.Calls.{Callee}
use Rattle.exo_meaning.specs.Run.{roots_after}
use Rattle.exo_meaning.specs.Binders.{binders, step_binders}
use Rattle.exo_meaning.specs.Units.{Scope, ControlName, sort_in, with_name, scope_after, plainly, with_fields, with_strides, has_rank, is_new, is_empty, is_short, is_rank, is_control, are_controls, is_condition, is_access, is_datum, is_window, is_statement, is_block, field_kind}
use Rattle.exo_meaning.specs.Renaming.{Renaming, re_statement}
use Rattle.rules_names.specs.Faults.{least, or_else}
use Rattle.rules_names.specs.ExpressionRules.{is_buffer, width}
use Rattle.rules_names.specs.WindowRules.{window_faults}
use Rattle.text_show.specs.Layout.{Text}
use Rattle.text_show.specs.Words.{Words, words_with}
use Rattle.exo_types.specs.TypeRules.{binder}
use Rattle.exo_types.specs.ArgumentRules.{Signature}
use Rattle.exo_types.specs.StatementRules.{statement_width, block_width, bound, write_faults, store_faults, own_faults, inner_fault, block_fault}
use Rattle.exo_types_laws.specs.Shown.Again.{calls, is_call_of}
use Rattle.exo_types_laws.specs.Shown.Written as written
use Rattle.exo_types_laws.specs.Shown.Written.{config_word, field_word, control_tree}
use Rattle.exo_types_laws.specs.Shown.Written.{condition_tree, datum_tree}
use Rattle.exo_types_laws.specs.Shown.Writable as writable
use Rattle.exo_types_laws.proofs.OfShown.Scoped.{Finds, re_scope, both, three, finds_more}
use Rattle.exo_types_laws.proofs.OfShown.Resolved.{FindsFields, field_is, joined_fine}
use Rattle.exo_types_laws.proofs.OfShown.Resolved.{ranked_buffer, control_fine, controls_fine}
use Rattle.exo_types_laws.proofs.OfShown.Judged.{condition_fine, datum_fine, window_fine}
use Rattle.exo_types_laws.proofs.OfShown.Judged.{points_are, access_window}
use Rattle.exo_types_laws.proofs.OfShown.Called.{AreCalled, IsCalled}
use Rattle.exo_types_laws.proofs.OfShown.Numbered.{Counts, split_left, split_right}
use Rattle.exo_types_laws.proofs.OfShown.Passed.{kind_fine}
use Rattle.exo_types_laws.proofs.OfShown.Inside.{RootsMeet, FindsMemories, MeetsCalls, MeetsCall}
use Rattle.exo_types_laws.proofs.OfShown.Inside.{scope_re, roots_re, scope_called, roots_called}
use Rattle.exo_types_laws.proofs.OfShown.Inside.{cell_fine, binder_fine, memory_fine, or_left}
use Rattle.exo_types_laws.proofs.OfShown.Inside.{or_right, bound_block, bound_statement, call_keeps}
use Rattle.exo_types_laws.proofs.OfShown.Inside.{write_kind, finds_after, statement_same}

module _ (program : Program) (names : ℕ → Text) (r : Renaming) (finds_fields : FindsFields program.fields) (count : ℕ) (callees : ℕ → Option Callee) (memories above : List Text) (signatures : List Signature) (finds_memories : FindsMemories (words_with program names).memory count memories) (to : ℕ → ℕ) where
  abbrev w : Words
  w = words_with program names

  abbrev fields : List ConfigField
  fields = program.fields

  abbrev kinds : ℕ → Option Kind
  kinds = field_kind fields

  abbrev Meets : Block → Type 0
  Meets b = MeetsCalls program names r finds_fields count callees memories above signatures finds_memories to b

  abbrev MeetsOne : Statement → Type 0
  MeetsOne a = MeetsCall program names r finds_fields count callees memories above signatures finds_memories to a

  store_fine : (scope : Scope) (finds : Finds w r scope) (x : ℕ) (is : List Control) (e : tree.Datum) → (is_access kinds scope x is && is_datum kinds scope e) ≡ true → (n : ℕ) → store_faults fields (re_scope r scope) n (w.name x) (map (control_tree w fields) is) (datum_tree w fields e) ≡ []
  store_fine scope finds x is e h n =
      let s = both (is_access kinds scope x is) _ h in
      let t = both (has_rank (length is) (sort_in scope x)) _ s.0 in
      joined_fine _ _
      (ap (window_faults fields is_buffer (re_scope r scope) n (w.name x)) (points_are w fields r scope finds finds_fields is)
      ∙ window_fine w fields r scope finds finds_fields is_buffer x (map At is) refl (ranked_buffer (sort_in scope x) (length is) t.0) (access_window w fields r scope finds finds_fields x is s.0) n)
      (datum_fine w fields r scope finds finds_fields e s.1 _)

  own_fine : (a : Statement) (scope : Scope) (finds : Finds w r scope) (root root' : ℕ → ℕ) → RootsMeet r root root' → writable.IsStatement program names a → MeetsOne a → is_statement kinds count callees scope root a ≡ true → (n : ℕ) → own_faults fields memories above signatures (re_scope r scope) root' n (written.statement_of w fields a) ≡ []
  own_fine (Assign x is e) scope finds root root' meet each meets h n = store_fine scope finds x is e h n
  own_fine (Reduce x is e) scope finds root root' meet each meets h n = store_fine scope finds x is e h n
  own_fine (Config f a) scope finds root root' meet each meets h n =
      let k = write_kind program names r finds_fields count callees memories above signatures finds_memories to scope f a h in
      ap (λ o. write_faults fields o (re_scope r scope) n (n + 4) (written.stored_tree w fields a)) (field_is fields finds_fields f k.0 k.1)
      ∙ kind_fine w fields r scope finds finds_fields with_strides k.0 a k.2 (n + 4)
  own_fine Pass scope finds root root' meet each meets h n = refl
  own_fine (If c a b) scope finds root root' meet each meets h n = condition_fine w fields r scope finds finds_fields with_fields c (both (is_condition kinds with_fields scope c) _ h).0 (n + 1)
  own_fine (For i lo hi b) scope finds root root' meet each meets h n =
      let s = both (is_new scope i) _ h in
      let t = both (is_control kinds plainly scope lo && is_control kinds plainly scope hi) _ s.1 in
      let u = both (is_control kinds plainly scope lo) _ t.0 in
      joined_fine _ _ (binder_fine r scope i (n + 1) s.0)
      (joined_fine _ _ (control_fine w fields r scope finds finds_fields plainly lo u.0 (n + 5)) (control_fine w fields r scope finds finds_fields plainly hi u.1 _))
  own_fine (Alloc x cell dims memory) scope finds root root' meet each meets h n =
      let s = both (is_new scope x) _ h in
      let t = both (are_controls kinds plainly scope dims) _ s.1 in
      let u = both (is_rank (length dims)) _ t.1 in
      joined_fine _ _ (binder_fine r scope x n s.0)
      (joined_fine _ _ (cell_fine cell (n + 2))
      (joined_fine _ _ (controls_fine w fields r scope finds finds_fields plainly dims t.0 (n + 4)) (memory_fine w fields count memories memory _ finds_memories u.1)))
  own_fine (View v x cs) scope finds root root' meet each meets h n =
      let s = both (is_new scope v) _ h in
      let t = both (is_window kinds scope x cs) _ s.1 in
      let u = both (has_rank (length cs) (sort_in scope x)) _ t.0 in
      joined_fine _ _ (binder_fine r scope v n s.0)
      (window_fine w fields r scope finds finds_fields is_buffer x cs refl (ranked_buffer (sort_in scope x) (length cs) u.0) t.0 (n + 2))
  own_fine (Call k args) scope finds root root' meet each meets h n = call_keeps program names r finds_fields count callees memories above signatures finds_memories to scope finds root root' meet k args each.1 h meets n

  mutual
    pub block_fine : (b : Block) (scope : Scope) (finds : Finds w r scope) (root root' : ℕ → ℕ) → RootsMeet r root root' → (id : ℕ) → Counts r id (binders b) → AreCalled names b → writable.IsBlock program names b → Meets b → is_block kinds count callees scope root b ≡ true → (n : ℕ) → block_fault fields memories above signatures id (re_scope r scope) root' n (written.block_of w fields b) ≡ None
    block_fine end scope finds root root' meet id numbers called each meets h n = refl
    block_fine (next a b) scope finds root root' meet id numbers called each meets h n =
        let s = both (is_statement kinds count callees scope root a) _ h in
        let left = split_left r id (step_binders a) (binders b) numbers in
        let right = split_right r id (step_binders a) (binders b) numbers in
        let mine : MeetsOne a = λ k callee p q. meets k callee (or_left (is_call_of k a) (calls k b) p) q in
        let same = statement_same program names r finds_fields count callees memories above signatures finds_memories to a scope finds root id left called.0 each.0 mine s.0 in
        let m : ℕ = n + statement_width (written.statement_of w fields a) in
        ap₂ or_else
        (ap₂ or_else (ap least (own_fine a scope finds root root' meet each.0 mine s.0 n)) (inner_fine a scope finds root root' meet id left called.0 each.0 mine s.0 n))
        (ap (λ t. block_fault fields memories above signatures (id + bound (written.statement_of w fields a)) (scope_after t (re_scope r scope)) (roots_after t root') m (written.block_of w fields b)) same
        ∙ three (λ k sc rt. block_fault fields memories above signatures k sc rt m (written.block_of w fields b)) (ap (λ k. id + k) (bound_statement w fields a)) (scope_called to (re_statement r a) (re_scope r scope) ∙ scope_re r a scope) (roots_called to (re_statement r a) root')
        ∙ block_fine b (scope_after a scope) (finds_after program names r finds_fields count callees memories above signatures finds_memories to a scope finds root called.0 s.0) (roots_after a root) (roots_after (re_statement r a) root') (roots_re r a root root' meet) (id + length (step_binders a)) right called.1 each.1 (λ k callee p q. meets k callee (or_right (is_call_of k a) (calls k b) p) q) s.1 m)

    inner_fine : (a : Statement) (scope : Scope) (finds : Finds w r scope) (root root' : ℕ → ℕ) → RootsMeet r root root' → (id : ℕ) → Counts r id (step_binders a) → IsCalled names a → writable.IsStatement program names a → MeetsOne a → is_statement kinds count callees scope root a ≡ true → (n : ℕ) → inner_fault fields memories above signatures id (re_scope r scope) root' n (written.statement_of w fields a) ≡ None
    inner_fine (Assign x is e) scope finds root root' meet id numbers called each meets h n = refl
    inner_fine (Reduce x is e) scope finds root root' meet id numbers called each meets h n = refl
    inner_fine (Config f a) scope finds root root' meet id numbers called each meets h n = refl
    inner_fine Pass scope finds root root' meet id numbers called each meets h n = refl
    inner_fine (If c a b) scope finds root root' meet id numbers called each meets h n =
        let s = both (is_condition kinds with_fields scope c) _ h in
        let t = both (not (is_empty a) && (is_short a && is_short b)) _ s.1 in
        let u = both (is_block kinds count callees scope root a) _ t.1 in
        let more : Counts r (id + length (binders a)) (binders b) = split_right r id (binders a) (binders b) numbers in
        ap₂ or_else
        (block_fine a scope finds root root' meet id (split_left r id (binders a) (binders b) numbers) called.0 each.2 (λ k callee p q. meets k callee (or_left (calls k a) (calls k b) p) q) u.0 _)
        (ap (λ k. block_fault fields memories above signatures (id + k) (re_scope r scope) root' (n + 1 + width (condition_tree w fields c) + 3 + block_width (written.block_of w fields a) + 5) (written.block_of w fields b)) (bound_block w fields a)
        ∙ block_fine b scope finds root root' meet (id + length (binders a)) more called.1 each.3 (λ k callee p q. meets k callee (or_right (calls k a) (calls k b) p) q) u.1 _)
    inner_fine (For i lo hi b) scope finds root root' meet id numbers called each meets h n =
        let s = both (is_new scope i) _ h in
        let t = both (is_control kinds plainly scope lo && is_control kinds plainly scope hi) _ s.1 in
        let v = both (not (is_empty b) && is_short b) _ t.1 in
        let inner = finds_more w r scope i (ControlName Index) finds s.0 called.0 in
        ap (λ m. block_fault fields memories above signatures (suc id) (with_name (re_scope r scope) (binder m i.name) (ControlName Index)) root' (n + 5 + width (control_tree w fields lo) + 1 + width (control_tree w fields hi) + 4) (written.block_of w fields b)) (sym numbers.0)
        ∙ block_fine b (with_name scope i (ControlName Index)) inner root root' meet (suc id) numbers.1 called.1 each.4 meets v.1 _
    inner_fine (Alloc x cell dims memory) scope finds root root' meet id numbers called each meets h n = refl
    inner_fine (View v x cs) scope finds root root' meet id numbers called each meets h n = refl
    inner_fine (Call k args) scope finds root root' meet id numbers called each meets h n = refl
