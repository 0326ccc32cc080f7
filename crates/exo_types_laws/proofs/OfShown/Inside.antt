-- Written blocks with their names resolved are themselves, under other ids, and break no rule.
use Rattle.std.proofs.Common.{◌≡◌, ℕ, suc, ◌+◌, ◌==◌, nat_lt, Bool, true, false, not, ◌&&◌, ◌||◌, if◌then◌else◌, List, [], ◌∷◌, length, map, Option, Some, None, refl, sym, ap, ap₂, ◌∙◌, true≢false, eqb-true, eq-eqb, length-append}
use Rattle.exo_tree.specs.Tree.{Kind, Index, Cell, I8, I16, I32, Ui8, Binder, ConfigField, Control, Coord, At, Span, Argument, ControlArg, ConditionArg, Whole, Window, Statement, Assign, Reduce, Config, Pass, If, For, Alloc, View, Call, Block, end, next, Program}
use Rattle.exo_tree.specs.Named.{cell_word}
use Rattle.exo_meaning.specs.Scene.{updated}
use Rattle.exo_meaning.specs.Calls.{Callee}
use Rattle.exo_meaning.specs.Run.{roots_after}
use Rattle.exo_meaning.specs.Binders.{binders, step_binders}
use Rattle.exo_meaning.specs.Units as units
use Rattle.exo_meaning.specs.Units.{Scope, Sort, ControlName, BufferName, Named, sort_in, with_name, view_sort, scope_after, plainly, with_fields, with_strides, has_rank, is_new, is_empty, is_short, is_rank, is_control, are_controls, is_condition, is_access, is_datum, is_window, is_write, is_call, are_for, share_nothing_written, is_statement, is_block, field_kind}
use Rattle.exo_meaning.specs.Renaming.{Renaming, re_controls, re_coords, re_arguments, re_binder, re_statement, re_block}
use Rattle.exo_reader.specs.Source as source
use Rattle.rules_names.specs.Names.{name_number}
use Rattle.rules_names.specs.Resolved.{control_of, field_number}
use Rattle.text_show.specs.Layout.{Text}
use Rattle.text_show.specs.Words.{Words, words_with}
use Rattle.exo_types.specs.TypeRules.{binder, binder_faults, kind_named, cell_faults, cell_of, memory_faults, named_memory_faults, memory_of, number_or}
use Rattle.exo_types.specs.ArgumentRules.{Signature, signature_of, params_of, arguments_of, call_faults}
use Rattle.exo_types.specs.StatementRules.{bound, bound_in, number_in, callee_named, written_of, statement_of, block_of}
use Rattle.exo_types_laws.specs.Shown.Again.{calls, is_call_of, re_calls, re_call, IsAlike}
use Rattle.exo_types_laws.proofs.OfShown.Alike.{arguments_alike, call_alike}
use Rattle.exo_types_laws.specs.Shown.Names.{Each}
use Rattle.exo_types_laws.specs.Shown.Written as written
use Rattle.exo_types_laws.specs.Shown.Written.{config_word, field_word, control_tree}
use Rattle.exo_types_laws.specs.Shown.Written.{condition_tree, datum_tree}
use Rattle.exo_types_laws.specs.Shown.Writable as writable
use Rattle.exo_types_laws.proofs.OfShown.Scoped.{three, four, Finds, re_scope, both, not_taken}
use Rattle.exo_types_laws.proofs.OfShown.Scoped.{finds_more, id_found}
use Rattle.exo_types_laws.proofs.OfShown.Resolved.{FindsFields, field_is, unless_fine, control_same}
use Rattle.exo_types_laws.proofs.OfShown.Resolved.{controls_same}
use Rattle.exo_types_laws.proofs.OfShown.Judged.{condition_same, datum_same, coordinates_same}
use Rattle.exo_types_laws.proofs.OfShown.Called.{AreCalled, IsCalled}
use Rattle.exo_types_laws.proofs.OfShown.Numbered.{Counts, split_left, split_right}
use Rattle.exo_types_laws.proofs.OfShown.Passed.{HasCoords, kind_same}
use Rattle.exo_types_laws.proofs.OfShown.Shared.{same_ids, arguments_same, call_fine}

-- ---- lists under other ids

pub controls_length : (r : Renaming) (is : List Control) → length (re_controls r is) ≡ length is
controls_length r [] = refl
controls_length r (i ∷ is) = ap suc (controls_length r is)

spans_re : (r : Renaming) (cs : List Coord) → units.spans (re_coords r cs) ≡ units.spans cs
spans_re r [] = refl
spans_re r (At a ∷ cs) = spans_re r cs
spans_re r (Span a b ∷ cs) = ap suc (spans_re r cs)

sort_re : (r : Renaming) (scope : Scope) (x : ℕ) → sort_in (re_scope r scope) (r.to x) ≡ sort_in scope x
sort_re r [] x = refl
sort_re r (n ∷ scope) x = ap₂ (λ t s. if t then Some n.sort else s) (same_ids r x n.binder.id) (sort_re r scope x)

pub scope_re : (r : Renaming) (a : Statement) (scope : Scope) → scope_after (re_statement r a) (re_scope r scope) ≡ re_scope r (scope_after a scope)
scope_re r (Assign x is e) scope = refl
scope_re r (Reduce x is e) scope = refl
scope_re r (Config f a) scope = refl
scope_re r Pass scope = refl
scope_re r (If c a b) scope = refl
scope_re r (For i lo hi b) scope = refl
scope_re r (Alloc x cell dims memory) scope = ap (λ n. with_name (re_scope r scope) (re_binder r x) (BufferName cell n true)) (controls_length r dims)
scope_re r (View v x cs) scope = ap₂ (λ s n. with_name (re_scope r scope) (re_binder r v) (view_sort s n)) (sort_re r scope x) (spans_re r cs)
scope_re r (Call k args) scope = refl

-- the buffer of each name, under other ids
abbrev pub RootsMeet : Renaming → (ℕ → ℕ) → (ℕ → ℕ) → Type 0
RootsMeet r root root' = (x : ℕ) → root' (r.to x) ≡ r.to (root x)

updated_meets : (r : Renaming) (root root' : ℕ → ℕ) (k v : ℕ) → RootsMeet r root root' → RootsMeet r (updated root k v) (updated root' (r.to k) (r.to v))
updated_meets r root root' k v meet x = ap₂ (λ t y. if t then r.to v else y) (same_ids r x k) (meet x) ∙ by (x == k)
  where
    by : (t : Bool) → (if t then r.to v else r.to (root x)) ≡ r.to (if t then v else root x)
    by true = refl
    by false = refl

pub roots_re : (r : Renaming) (a : Statement) (root root' : ℕ → ℕ) → RootsMeet r root root' → RootsMeet r (roots_after a root) (roots_after (re_statement r a) root')
roots_re r (Assign x is e) root root' meet = meet
roots_re r (Reduce x is e) root root' meet = meet
roots_re r (Config f a) root root' meet = meet
roots_re r Pass root root' meet = meet
roots_re r (If c a b) root root' meet = meet
roots_re r (For i lo hi b) root root' meet = meet
roots_re r (Alloc y cell dims memory) root root' meet = updated_meets r root root' y.id y.id meet
roots_re r (View v y cs) root root' meet = λ x. ap (λ z. updated root' (r.to v.id) z (r.to x)) (meet y) ∙ updated_meets r root root' v.id (root y) meet x
roots_re r (Call k args) root root' meet = meet

-- ---- other numbers of what is called

pub scope_called : (to : ℕ → ℕ) (a : Statement) (scope : Scope) → scope_after (re_call to a) scope ≡ scope_after a scope
scope_called to (Assign x is e) scope = refl
scope_called to (Reduce x is e) scope = refl
scope_called to (Config f a) scope = refl
scope_called to Pass scope = refl
scope_called to (If c a b) scope = refl
scope_called to (For i lo hi b) scope = refl
scope_called to (Alloc y cell dims memory) scope = refl
scope_called to (View v y cs) scope = refl
scope_called to (Call k args) scope = refl

pub roots_called : (to : ℕ → ℕ) (a : Statement) (root : ℕ → ℕ) → roots_after (re_call to a) root ≡ roots_after a root
roots_called to (Assign x is e) root = refl
roots_called to (Reduce x is e) root = refl
roots_called to (Config f a) root = refl
roots_called to Pass root = refl
roots_called to (If c a b) root = refl
roots_called to (For i lo hi b) root = refl
roots_called to (Alloc y cell dims memory) root = refl
roots_called to (View v y cs) root = refl
roots_called to (Call k args) root = refl

-- ---- types

pub cell_same : (cell : Cell) → cell_of (source.named (cell_word cell)) ≡ cell
cell_same I8 = refl
cell_same I16 = refl
cell_same I32 = refl
cell_same Ui8 = refl

-- no kind of control values has the word of a cell type
pub cell_alone : (cell : Cell) → kind_named (source.named (cell_word cell)) ≡ None
cell_alone I8 = refl
cell_alone I16 = refl
cell_alone I32 = refl
cell_alone Ui8 = refl

pub cell_fine : (cell : Cell) (n : ℕ) → cell_faults (source.named (cell_word cell)) n ≡ []
cell_fine I8 n = refl
cell_fine I16 n = refl
cell_fine I32 n = refl
cell_fine Ui8 n = refl

pub binder_fine : (r : Renaming) (scope : Scope) (b : Binder) (n : ℕ) → is_new scope b ≡ true → binder_faults (re_scope r scope) n b.name ≡ []
binder_fine r scope b n h = unless_fine _ _ n (ap not (not_taken r scope b h))

-- each memory that is not the first is found by its name
abbrev pub FindsMemories : (ℕ → Text) → ℕ → List Text → Type 0
FindsMemories word count memories = (m : ℕ) → nat_lt m count ≡ true → name_number memories (word m) ≡ Some m

pub memory_same : (w : Words) (fields : List ConfigField) (count : ℕ) (memories : List Text) (m : ℕ) → FindsMemories w.memory count memories → nat_lt m count ≡ true → memory_of memories (written.memory_of w fields m) ≡ m
memory_same w fields count memories m finds h = by (m == 0) refl
  where
    by : (t : Bool) → (m == 0) ≡ t → memory_of memories (if t then None else Some (w.memory m)) ≡ m
    by true p = sym (eqb-true m 0 p)
    by false p = ap (number_or 0) (finds m h)

pub memory_fine : (w : Words) (fields : List ConfigField) (count : ℕ) (memories : List Text) (m n : ℕ) → FindsMemories w.memory count memories → nat_lt m count ≡ true → memory_faults memories n (written.memory_of w fields m) ≡ []
memory_fine w fields count memories m n finds h = by (m == 0)
  where
    by : (t : Bool) → memory_faults memories n (if t then None else Some (w.memory m)) ≡ []
    by true = refl
    by false = ap (λ o. named_memory_faults o (n + 1)) (finds m h)

has_coords : (program : Program) (names : ℕ → Text) (a : Argument) → writable.IsArgument program names a → HasCoords a
has_coords program names (ControlArg e) h = tt
has_coords program names (ConditionArg c) h = tt
has_coords program names (Whole x) h = tt
has_coords program names (Window x cs) h = h.2

have_coords : (program : Program) (names : ℕ → Text) (args : List Argument) → Each (writable.IsArgument program names) args → Each HasCoords args
have_coords program names [] h = tt
have_coords program names (a ∷ args) h = (has_coords program names a h.0, have_coords program names args h.1)

pub or_left : (a b : Bool) → a ≡ true → (a || b) ≡ true
or_left a b h = ap (λ t. t || b) h

pub or_right : (a b : Bool) → b ≡ true → (a || b) ≡ true
or_right true b h = refl
or_right false b h = h

-- ---- how many binders there are

module _ (w : Words) (fields : List ConfigField) where
  mutual
    pub bound_block : (b : Block) → bound_in (written.block_of w fields b) ≡ length (binders b)
    bound_block end = refl
    bound_block (next a b) = ap₂ ◌+◌ (bound_statement a) (bound_block b) ∙ sym (length-append (step_binders a) (binders b))

    pub bound_statement : (a : Statement) → bound (written.statement_of w fields a) ≡ length (step_binders a)
    bound_statement (Assign x is e) = refl
    bound_statement (Reduce x is e) = refl
    bound_statement (Config f a) = refl
    bound_statement Pass = refl
    bound_statement (If c a b) = ap₂ ◌+◌ (bound_block a) (bound_block b) ∙ sym (length-append (binders a) (binders b))
    bound_statement (For i lo hi b) = ap suc (bound_block b)
    bound_statement (Alloc x cell dims memory) = refl
    bound_statement (View v x cs) = refl
    bound_statement (Call k args) = refl

-- ---- blocks

module _ (program : Program) (names : ℕ → Text) (r : Renaming) (finds_fields : FindsFields program.fields) (count : ℕ) (callees : ℕ → Option Callee) (memories above : List Text) (signatures : List Signature) (finds_memories : FindsMemories (words_with program names).memory count memories) (to : ℕ → ℕ) where
  abbrev w : Words
  w = words_with program names

  abbrev fields : List ConfigField
  fields = program.fields

  abbrev kinds : ℕ → Option Kind
  kinds = field_kind fields

  -- the callee of that number is found by its name
  pub record Met (k : ℕ) (callee : Callee) : Type 0 where
    pub number : number_in fields memories above signatures (w.callee k) ≡ to k
    pub signature : Signature
    pub found : callee_named fields memories above signatures (w.callee k) ≡ Some signature
    pub alike : IsAlike signature (signature_of callee)

  abbrev pub MeetsCalls : Block → Type 0
  MeetsCalls b = (k : ℕ) (callee : Callee) → calls k b ≡ true → callees k ≡ Some callee → Met k callee

  abbrev pub MeetsCall : Statement → Type 0
  MeetsCall a = (k : ℕ) (callee : Callee) → is_call_of k a ≡ true → callees k ≡ Some callee → Met k callee

  call_same : (scope : Scope) (finds : Finds w r scope) (root : ℕ → ℕ) (k : ℕ) (args : List Argument) → Each (writable.IsArgument program names) args → is_call kinds scope root (callees k) args ≡ true → MeetsCall (Call k args) → Call (number_in fields memories above signatures (w.callee k)) (arguments_of fields (re_scope r scope) (params_of (callee_named fields memories above signatures (w.callee k))) (map (written.argument_of w fields) args)) ≡ Call (to k) (re_arguments r args)
  call_same scope finds root k args each h meets = by (callees k) refl h
    where
      by : (o : Option Callee) → callees k ≡ o → is_call kinds scope root o args ≡ true → Call (number_in fields memories above signatures (w.callee k)) (arguments_of fields (re_scope r scope) (params_of (callee_named fields memories above signatures (w.callee k))) (map (written.argument_of w fields) args)) ≡ Call (to k) (re_arguments r args)
      by None p t = absurd (true≢false (sym t))
      by (Some callee) p t =
          let met = meets k callee (eq-eqb k k refl) p in
          ap₂ Call met.number
          (ap (λ o. arguments_of fields (re_scope r scope) (params_of o) (map (written.argument_of w fields) args)) met.found
          ∙ arguments_alike fields (re_scope r scope) met.signature.writes callee.writes met.signature.params callee.procedure.params (map (written.argument_of w fields) args) met.alike
          ∙ arguments_same w fields r scope finds finds_fields callee.procedure.params args (both _ _ t).0 (have_coords program names args each))

  pub call_keeps : (scope : Scope) (finds : Finds w r scope) (root root' : ℕ → ℕ) → RootsMeet r root root' → (k : ℕ) (args : List Argument) → Each (writable.IsArgument program names) args → is_call kinds scope root (callees k) args ≡ true → MeetsCall (Call k args) → (n : ℕ) → call_faults fields (callee_named fields memories above signatures (w.callee k)) (re_scope r scope) root' n (map (written.argument_of w fields) args) ≡ []
  call_keeps scope finds root root' meet k args each h meets n = by (callees k) refl h
    where
      by : (o : Option Callee) → callees k ≡ o → is_call kinds scope root o args ≡ true → call_faults fields (callee_named fields memories above signatures (w.callee k)) (re_scope r scope) root' n (map (written.argument_of w fields) args) ≡ []
      by None p t = absurd (true≢false (sym t))
      by (Some callee) p t =
          let met = meets k callee (eq-eqb k k refl) p in
          let s = both (are_for kinds scope callee.procedure.params args) _ t in
          ap (λ o. call_faults fields o (re_scope r scope) root' n (map (written.argument_of w fields) args)) met.found
          ∙ call_alike fields (re_scope r scope) root' met.signature (signature_of callee) n (map (written.argument_of w fields) args) met.alike
          ∙ call_fine w fields r scope finds finds_fields callee.writes root root' meet callee.procedure.params args s.0 s.1 (have_coords program names args each) n

  -- a configuration write
  pub write_kind : (scope : Scope) (f : ℕ) (a : Argument) → is_write kinds scope (kinds f) a ≡ true → (k : Kind) × (kinds f ≡ Some k) × (units.is_of_kind kinds with_strides scope k a ≡ true)
  write_kind scope f a h = by (kinds f) refl h
    where
      by : (o : Option Kind) → kinds f ≡ o → is_write kinds scope o a ≡ true → (k : Kind) × (kinds f ≡ Some k) × (units.is_of_kind kinds with_strides scope k a ≡ true)
      by None p t = absurd (true≢false (sym t))
      by (Some k) p t = (k, p, t)

  -- what is in scope behind a statement
  pub finds_after : (a : Statement) (scope : Scope) (finds : Finds w r scope) (root : ℕ → ℕ) → IsCalled names a → is_statement kinds count callees scope root a ≡ true → Finds w r (scope_after a scope)
  finds_after (Assign x is e) scope finds root called h = finds
  finds_after (Reduce x is e) scope finds root called h = finds
  finds_after (Config f a) scope finds root called h = finds
  finds_after Pass scope finds root called h = finds
  finds_after (If c a b) scope finds root called h = finds
  finds_after (For i lo hi b) scope finds root called h = finds
  finds_after (Alloc x cell dims memory) scope finds root called h = finds_more w r scope x (BufferName cell (length dims) true) finds (both (is_new scope x) _ h).0 called
  finds_after (View v x cs) scope finds root called h = finds_more w r scope v (view_sort (sort_in scope x) (units.spans cs)) finds (both (is_new scope v) _ h).0 called
  finds_after (Call k args) scope finds root called h = finds

  mutual
    pub block_same : (b : Block) (scope : Scope) (finds : Finds w r scope) (root : ℕ → ℕ) (id : ℕ) → Counts r id (binders b) → AreCalled names b → writable.IsBlock program names b → MeetsCalls b → is_block kinds count callees scope root b ≡ true → block_of fields memories above signatures id (re_scope r scope) (written.block_of w fields b) ≡ re_calls to (re_block r b)
    block_same end scope finds root id numbers called each meets h = refl
    block_same (next a b) scope finds root id numbers called each meets h =
        let s = both (is_statement kinds count callees scope root a) _ h in
        let same = statement_same a scope finds root id (split_left r id (step_binders a) (binders b) numbers) called.0 each.0 (λ k callee p q. meets k callee (or_left (is_call_of k a) (calls k b) p) q) s.0 in
        let more = split_right r id (step_binders a) (binders b) numbers in
        ap (λ t. next t (block_of fields memories above signatures (id + bound (written.statement_of w fields a)) (scope_after t (re_scope r scope)) (written.block_of w fields b))) same
        ∙ ap₂ (λ m sc. next (re_call to (re_statement r a)) (block_of fields memories above signatures m sc (written.block_of w fields b))) (ap (λ m. id + m) (bound_statement w fields a)) (scope_called to (re_statement r a) (re_scope r scope) ∙ scope_re r a scope)
        ∙ ap (λ t. next (re_call to (re_statement r a)) t) (block_same b (scope_after a scope) (finds_after a scope finds root called.0 s.0) (roots_after a root) (id + length (step_binders a)) more called.1 each.1 (λ k callee p q. meets k callee (or_right (is_call_of k a) (calls k b) p) q) s.1)

    pub statement_same : (a : Statement) (scope : Scope) (finds : Finds w r scope) (root : ℕ → ℕ) (id : ℕ) → Counts r id (step_binders a) → IsCalled names a → writable.IsStatement program names a → MeetsCall a → is_statement kinds count callees scope root a ≡ true → statement_of fields memories above signatures id (re_scope r scope) (written.statement_of w fields a) ≡ re_call to (re_statement r a)
    statement_same (Assign x is e) scope finds root id numbers called each meets h =
        let s = both (is_access kinds scope x is) _ h in
        let t = both (has_rank (length is) (sort_in scope x)) _ s.0 in
        three Assign (id_found w r scope finds x (has_rank (length is)) refl t.0) (controls_same w fields r scope finds finds_fields plainly is t.1) (datum_same w fields r scope finds finds_fields e s.1)
    statement_same (Reduce x is e) scope finds root id numbers called each meets h =
        let s = both (is_access kinds scope x is) _ h in
        let t = both (has_rank (length is) (sort_in scope x)) _ s.0 in
        three Reduce (id_found w r scope finds x (has_rank (length is)) refl t.0) (controls_same w fields r scope finds finds_fields plainly is t.1) (datum_same w fields r scope finds finds_fields e s.1)
    statement_same (Config f a) scope finds root id numbers called each meets h =
        let k = write_kind scope f a h in
        let field = field_is fields finds_fields f k.0 k.1 in
        ap (λ o. Config (field_number o) (written_of fields o (re_scope r scope) (written.stored_tree w fields a))) field
        ∙ ap (λ a. Config f a) (kind_same w fields r scope finds finds_fields with_strides k.0 a k.2)
    statement_same Pass scope finds root id numbers called each meets h = refl
    statement_same (If c a b) scope finds root id numbers called each meets h =
        let s = both (is_condition kinds with_fields scope c) _ h in
        let t = both (not (is_empty a) && (is_short a && is_short b)) _ s.1 in
        let u = both (is_block kinds count callees scope root a) _ t.1 in
        let more : Counts r (id + length (binders a)) (binders b) = split_right r id (binders a) (binders b) numbers in
        three If (condition_same w fields r scope finds finds_fields with_fields c s.0)
        (block_same a scope finds root id (split_left r id (binders a) (binders b) numbers) called.0 each.2 (λ k callee p q. meets k callee (or_left (calls k a) (calls k b) p) q) u.0)
        (ap (λ m. block_of fields memories above signatures (id + m) (re_scope r scope) (written.block_of w fields b)) (bound_block w fields a)
        ∙ block_same b scope finds root (id + length (binders a)) more called.1 each.3 (λ k callee p q. meets k callee (or_right (calls k a) (calls k b) p) q) u.1)
    statement_same (For i lo hi b) scope finds root id numbers called each meets h =
        let s = both (is_new scope i) _ h in
        let t = both (is_control kinds plainly scope lo && is_control kinds plainly scope hi) _ s.1 in
        let u = both (is_control kinds plainly scope lo) _ t.0 in
        let v = both (not (is_empty b) && is_short b) _ t.1 in
        let inner = finds_more w r scope i (ControlName Index) finds s.0 called.0 in
        ap (λ m. For (binder m i.name) (control_of fields (re_scope r scope) (control_tree w fields lo)) (control_of fields (re_scope r scope) (control_tree w fields hi)) (block_of fields memories above signatures (suc id) (with_name (re_scope r scope) (binder m i.name) (ControlName Index)) (written.block_of w fields b))) (sym numbers.0)
        ∙ three (λ y l e. For (re_binder r i) y l e) (control_same w fields r scope finds finds_fields plainly lo u.0) (control_same w fields r scope finds finds_fields plainly hi u.1)
        (block_same b (with_name scope i (ControlName Index)) inner root (suc id) numbers.1 called.1 each.4 meets v.1)
    statement_same (Alloc x cell dims memory) scope finds root id numbers called each meets h =
        let s = both (is_new scope x) _ h in
        let t = both (are_controls kinds plainly scope dims) _ s.1 in
        let u = both (is_rank (length dims)) _ t.1 in
        four (λ m c l k. Alloc (binder m x.name) c l k) (sym numbers.0) (cell_same cell) (controls_same w fields r scope finds finds_fields plainly dims t.0)
        (memory_same w fields count memories memory finds_memories u.1)
    statement_same (View v x cs) scope finds root id numbers called each meets h =
        let s = both (is_new scope v) _ h in
        let t = both (is_window kinds scope x cs) _ s.1 in
        let u = both (has_rank (length cs) (sort_in scope x)) _ t.0 in
        three (λ m y l. View (binder m v.name) y l) (sym numbers.0) (id_found w r scope finds x (has_rank (length cs)) refl u.0) (coordinates_same w fields r scope finds finds_fields cs u.1)
    statement_same (Call k args) scope finds root id numbers called each meets h = call_same scope finds root k args each.1 h meets
