-- Statements and blocks that break no rule keep those of a well-formed unit.
use Rattle.std.proofs.Common.{◌≡◌, ℕ, suc, ◌+◌, ◌≤◌, ◌<◌, true, ◌&&◌, List, [], ◌∷◌, ◌++◌, length, map, Option, Some, None, slice_get, refl, ap, ◌∙◌, arith, lt-ltb}
use Rattle.std.proofs.lemmas.List.{length-map}
use Rattle.text_phrases.specs.Limits.{in_size}
use Rattle.text_lexer.specs.declared.token.Token.{Token}
use Rattle.text_lexer.specs.declared.token.Token.TheVariants.{Name, Sign, Word, NewLine, Indent, Dedent}
use Rattle.text_lexer.specs.declared.token.Sign.TheVariants as s
use Rattle.text_lexer.specs.declared.token.Word.TheVariants as w
use Rattle.exo_tree.specs.Tree as tree
use Rattle.exo_tree.specs.Tree.{Kind, Index, ConfigField}
use Rattle.exo_meaning.specs.Calls.{Callee}
use Rattle.exo_meaning.specs.Run.{roots_after}
use Rattle.exo_meaning.specs.Units as units
use Rattle.exo_meaning.specs.Units.{Scope, ControlName, BufferName, sort_in, with_name, scope_after, view_sort, field_kind, plainly, with_fields, with_strides, is_rank, is_write, is_access, is_datum, is_block, is_statement}
use Rattle.text_expressions.specs.Expression.{Tree, spelling, control, datum}
use Rattle.exo_reader.specs.Source.{window, Statement, pass, branch, loop, allocate, call, configure, assign, reduce, view, Block, end, next}
use Rattle.exo_reader.specs.Parts.{MaybeDimsFit, maybe_dims, type_name, maybe_memory, spell_enclosed}
use Rattle.exo_reader.specs.Statements as st
use Rattle.exo_reader.specs.Statements.{HasSpan, argument, indented, spelling_all, spelling_else, StatementFits, BlockFits, IsSome}
use Rattle.rules_names.specs.declared.fault.Fault.{Fault}
use Rattle.rules_names.specs.Faults.{least, or_else}
use Rattle.rules_names.specs.Names.{field_in, id_in}
use Rattle.rules_names.specs.ExpressionRules.{width, is_buffer, control_faults, controls_faults, data_faults}
use Rattle.rules_names.specs.WindowRules.{window_faults, coordinates_of}
use Rattle.rules_names.specs.Resolved.{control_of, controls_of, datum_of, field_number}
use Rattle.rules_names.specs.Laws.{KeepsIds}
use Rattle.exo_types.specs.TypeRules.{binder, binder_faults, cell_faults, cell_of, memory_faults}
use Rattle.exo_types.specs.ArgumentRules.{Signature, signature_of, dims_width}
use Rattle.exo_types.specs.StatementRules.{block_width, bound, bound_in, write_faults, written_of, target_faults, store_faults, statement_of, block_of, own_faults, inner_fault, block_fault, statement_width}
use Rattle.exo_types_laws.proofs.Unbroken.{pair, none_of, left_none, right_none, fault_none, neither_broken}
use Rattle.exo_types_laws.proofs.Scopes.{Entered, below_up, fresh, later}
use Rattle.exo_types_laws.proofs.Texts.{Text, front, back, behind, fits_in, maybe_dims_fit, window_fits}
use Rattle.exo_types_laws.proofs.Tables.{memory_formed, field_kept}
use Rattle.exo_types_laws.proofs.Sizes.{filled, short}
use Rattle.exo_types_laws.proofs.Leaves.{Laws, control_formed, controls_formed, condition_formed, datum_formed, window_formed, target_formed}
use Rattle.exo_types_laws.proofs.Arguments.{kind_value_formed, span_counted}
use Rattle.exo_types_laws.proofs.Calls.{call_formed}

-- ---- texts of blocks

inside : (ts : List Token) → Text (indented ts) → Text ts
inside ts h = front ts (Dedent ∷ []) (behind Indent (ts ++ (Dedent ∷ [])) (behind NewLine (Indent ∷ (ts ++ (Dedent ∷ []))) (behind (Sign s.Colon) (NewLine ∷ Indent ∷ (ts ++ (Dedent ∷ []))) h)))

no_text : Text []
no_text = record { small = refl; short = omega arith }

else_text : (b : Block) → Text (spelling_else b) → Text (spelling_all b)
else_text end h = no_text
else_text (next t more) h = inside (spelling_all (next t more)) (behind (Word w.Else) (indented (spelling_all (next t more))) h)

-- ---- dimensions

few_dims : (ds : List Tree) → MaybeDimsFit in_size ds → length ds ≤ 8
few_dims [] h = omega arith
few_dims (d ∷ ds) h = h.2.1

pub rank_formed : (fields : List ConfigField) (scope : Scope) (ds : List Tree) → length ds ≤ 8 → is_rank (length (controls_of fields scope ds)) ≡ true
rank_formed fields scope ds few = lt-ltb (length (controls_of fields scope ds)) 9 (omega (arith, few, length-map ds (control_of fields scope)))

pub maybe_rank_formed : (fields : List ConfigField) (scope : Scope) (ds : List Tree) → MaybeDimsFit in_size ds → is_rank (length (controls_of fields scope ds)) ≡ true
maybe_rank_formed fields scope ds h = rank_formed fields scope ds (few_dims ds h)

module _ (laws : Laws) (fields : List ConfigField) (F : ℕ → Option Kind) (more : (f : ℕ) (k : Kind) → field_kind fields f ≡ Some k → F f ≡ Some k) (memories above : List (List ℕ)) (M : ℕ) (some : 0 < M) (within : length memories ≤ M)
    (signatures : List Signature) (cs : List Callee) (signed : map signature_of cs ≡ signatures) where
  abbrev tree_of : ℕ → Scope → Statement → tree.Statement
  tree_of id scope t = statement_of fields memories above signatures id scope t

  abbrev trees_of : ℕ → Scope → Block → tree.Block
  trees_of id scope b = block_of fields memories above signatures id scope b

  abbrev faults_of : Scope → (ℕ → ℕ) → ℕ → Statement → List Fault
  faults_of scope root n t = own_faults fields memories above signatures scope root n t

  abbrev inner_of : ℕ → Scope → (ℕ → ℕ) → ℕ → Statement → Option Fault
  inner_of id scope root n t = inner_fault fields memories above signatures id scope root n t

  abbrev fault_of : ℕ → Scope → (ℕ → ℕ) → ℕ → Block → Option Fault
  fault_of id scope root n b = block_fault fields memories above signatures id scope root n b

  -- ---- scopes behind statements

  unchanged : (id count : ℕ) (scope : Scope) → Entered id scope → Entered (id + count) scope
  unchanged id count scope e = later id (id + count) scope (omega arith) e

  entered : (id n : ℕ) (scope : Scope) (root : ℕ → ℕ) (t : Statement) → Entered id scope → faults_of scope root n t ≡ [] → Entered (id + bound t) (scope_after (tree_of id scope t) scope)
  entered id n scope root pass e h = unchanged id 0 scope e
  entered id n scope root (branch c a b) e h = unchanged id (bound_in a + bound_in b) scope e
  entered id n scope root (loop i low high a) e h = unchanged id (suc (bound_in a)) scope e
  entered id n scope root (allocate x type ds m) e h =
      let l = left_none (binder_faults scope n x) (cell_faults type (n + 2) ++ (controls_faults fields plainly scope (n + 4) ds ++ memory_faults memories (n + 3 + dims_width ds) m)) h in
      record {
        keeps = laws.scopes scope (binder id x) (BufferName (cell_of type) (length (controls_of fields scope ds)) true) e.keeps (fresh id n scope x e.below l);
        below = (omega arith, below_up id (id + 1) scope (omega arith) e.below);
      }
  entered id n scope root (call f args trailing) e h = unchanged id 0 scope e
  entered id n scope root (configure c x v) e h = unchanged id 0 scope e
  entered id n scope root (assign x ds v) e h = unchanged id 0 scope e
  entered id n scope root (reduce x ds v) e h = unchanged id 0 scope e
  entered id n scope root (view x y cs) e h =
      let l = left_none (binder_faults scope n x) (window_faults fields is_buffer scope (n + 2) y cs) h in
      record {
        keeps = laws.scopes scope (binder id x) (view_sort (sort_in scope (id_in scope y)) (units.spans (coordinates_of fields scope cs))) e.keeps (fresh id n scope x e.below l);
        below = (omega arith, below_up id (id + 1) scope (omega arith) e.below);
      }

  -- ---- single statements

  stored : (scope : Scope) (n : ℕ) (x : List ℕ) (ds : List Tree) (sign : Token) (e : Tree) → KeepsIds scope → MaybeDimsFit in_size ds → datum.Fits in_size e → Text (maybe_dims.spell ds ++ (sign ∷ (spelling e ++ (NewLine ∷ [])))) → store_faults fields scope n x ds e ≡ []
      → (is_access F scope (id_in scope x) (controls_of fields scope ds) && is_datum F scope (datum_of fields scope e)) ≡ true
  stored scope n x ds sign e keeps dims_fits fits text h =
      let tail : List Token = spelling e ++ (NewLine ∷ []) in
      let value : Text (spelling e) = front (spelling e) (NewLine ∷ []) (behind sign tail (back (maybe_dims.spell ds) (sign ∷ tail) text)) in
      let right : List Fault = data_faults fields scope (n + 1 + dims_width ds + 1) e in
      pair
      (target_formed laws fields F more scope n x ds keeps (maybe_dims_fit ds dims_fits (front (maybe_dims.spell ds) (sign ∷ tail) text)) (left_none (target_faults fields scope n x ds) right h))
      (datum_formed laws fields F more scope (n + 1 + dims_width ds + 1) e keeps (fits_in e fits.1.2 value) (right_none (target_faults fields scope n x ds) right h))

  written : (scope : Scope) (n : ℕ) (c x : List ℕ) (e : Tree) → KeepsIds scope → control.Fits in_size e → Text (spelling e) → write_faults fields (field_in fields c x) scope n (n + 4) e ≡ []
      → is_write F scope (F (field_number (field_in fields c x))) (written_of fields (field_in fields c x) scope e) ≡ true
  written scope n c x e keeps fits text h = by (field_in fields c x) refl h
    where
      by : (o : Option (ℕ × Kind)) → field_in fields c x ≡ o → write_faults fields o scope n (n + 4) e ≡ [] → is_write F scope (F (field_number o)) (written_of fields o scope e) ≡ true
      by None p h = absurd (fault_none _ n h)
      by (Some f) p h =
          ap (λ k. is_write F scope k (written_of fields (Some f) scope e)) (more f.0 f.1 (field_kept fields c x f p)) ∙ kind_value_formed laws fields F more scope keeps with_strides f.1 (n + 4) e (fits_in e fits.1.2 text) h

  -- ---- statements and blocks, of this nesting

  mutual
    pub statement_formed : (nesting id n : ℕ) (scope : Scope) (root : ℕ → ℕ) (t : Statement) → Entered id scope → StatementFits in_size nesting t → Text (st.spelling t) → faults_of scope root n t ≡ [] → inner_of id scope root n t ≡ None
        → is_statement F M (slice_get cs) scope root (tree_of id scope t) ≡ true
    statement_formed nesting id n scope root pass e fits text h k = refl
    statement_formed nesting id n scope root (branch c a b) e fits text h k =
        let tail : List Token = indented (spelling_all a) ++ spelling_else b in
        let line = behind (Word w.If) (spelling c ++ tail) text in
        let lines = back (spelling c) tail line in
        let one = inside (spelling_all a) (front (indented (spelling_all a)) (spelling_else b) lines) in
        let other = else_text b (back (indented (spelling_all a)) (spelling_else b) lines) in
        let first : ℕ = n + 1 + width c + 3 in
        let parts = neither_broken (fault_of id scope root first a) (fault_of (id + bound_in a) scope root (first + block_width a + 5) b) k in
        let behind_one : Entered (id + bound_in a) scope = unchanged id (bound_in a) scope e in
        pair (condition_formed laws fields F more with_fields scope (n + 1) c e.keeps (fits_in c fits.1.1.2 (front (spelling c) tail line)) h)
        (pair (pair (filled fields memories above signatures id scope a fits.2) (pair (short fields memories above signatures id scope a one) (short fields memories above signatures (id + bound_in a) scope b other)))
        (pair (block_formed (nesting + 1) id first scope root a e fits.3 one parts.0) (block_formed (nesting + 1) (id + bound_in a) (first + block_width a + 5) scope root b behind_one fits.4 other parts.1)))
    statement_formed nesting id n scope root (loop i low high a) e fits text h k =
        let lines : List Token = indented (spelling_all a) in
        let last : List Token = spelling high ++ (Sign s.Close ∷ lines) in
        let tail : List Token = spelling low ++ (Sign s.Comma ∷ last) in
        let bounds = behind (Sign s.Open) tail (behind (Word w.Seq) (Sign s.Open ∷ tail) (behind (Word w.In) (Word w.Seq ∷ Sign s.Open ∷ tail) (behind (Name i) (Word w.In ∷ Word w.Seq ∷ Sign s.Open ∷ tail) (behind (Word w.For) (Name i ∷ Word w.In ∷ Word w.Seq ∷ Sign s.Open ∷ tail) text)))) in
        let upper = behind (Sign s.Comma) last (back (spelling low) (Sign s.Comma ∷ last) bounds) in
        let block = inside (spelling_all a) (behind (Sign s.Close) lines (back (spelling high) (Sign s.Close ∷ lines) upper)) in
        let lows : List Fault = control_faults fields plainly scope (n + 5) low in
        let highs : List Fault = control_faults fields plainly scope (n + 5 + width low + 1) high in
        let new = fresh id (n + 1) scope i e.below (left_none (binder_faults scope (n + 1) i) (lows ++ highs) h) in
        let none = right_none (binder_faults scope (n + 1) i) (lows ++ highs) h in
        let inner : Entered (suc id) (with_name scope (binder id i) (ControlName Index)) = record { keeps = laws.scopes scope (binder id i) (ControlName Index) e.keeps new; below = (omega arith, below_up id (suc id) scope (omega arith) e.below) } in
        pair new
        (pair
        (pair (control_formed laws fields F more plainly scope (n + 5) low e.keeps (fits_in low fits.2.1.2 (front (spelling low) (Sign s.Comma ∷ last) bounds)) (left_none lows highs none))
        (control_formed laws fields F more plainly scope (n + 5 + width low + 1) high e.keeps (fits_in high fits.3.1.2 (front (spelling high) (Sign s.Close ∷ lines) upper)) (right_none lows highs none)))
        (pair (pair (filled fields memories above signatures (suc id) (with_name scope (binder id i) (ControlName Index)) a fits.4) (short fields memories above signatures (suc id) (with_name scope (binder id i) (ControlName Index)) a block))
        (block_formed (nesting + 1) (suc id) (n + 5 + width low + 1 + width high + 4) (with_name scope (binder id i) (ControlName Index)) root a inner fits.5 block k)))
    statement_formed nesting id n scope root (allocate x type ds m) e fits text h k =
        let last : List Token = maybe_memory.spell m ++ (NewLine ∷ []) in
        let tail : List Token = maybe_dims.spell ds ++ last in
        let sizes = back (type_name.spell type) tail (behind (Sign s.Colon) (type_name.spell type ++ tail) (behind (Name x) (Sign s.Colon ∷ (type_name.spell type ++ tail)) text)) in
        let cells : List Fault = cell_faults type (n + 2) in
        let dims : List Fault = controls_faults fields plainly scope (n + 4) ds in
        let place : List Fault = memory_faults memories (n + 3 + dims_width ds) m in
        let new = fresh id n scope x e.below (left_none (binder_faults scope n x) (cells ++ (dims ++ place)) h) in
        let none = right_none cells (dims ++ place) (right_none (binder_faults scope n x) (cells ++ (dims ++ place)) h) in
        pair new
        (pair (controls_formed laws fields F more plainly scope (n + 4) ds e.keeps (maybe_dims_fit ds fits.2 (front (maybe_dims.spell ds) last sizes)) (left_none dims place none))
        (pair (maybe_rank_formed fields scope ds fits.2) (memory_formed memories M some within (n + 3 + dims_width ds) m (right_none dims place none))))
    statement_formed nesting id n scope root (call f args trailing) e fits text h k =
        let list : List Token = spell_enclosed argument args trailing in
        let close : List Token = Sign s.Close ∷ NewLine ∷ [] in
        let inner = front list close (behind (Sign s.Open) (list ++ close) (behind (Name f) (Sign s.Open ∷ (list ++ close)) text)) in
        call_formed laws fields F more scope e.keeps memories above signatures cs signed root n f args trailing fits.1 inner h
    statement_formed nesting id n scope root (configure c x v) e fits text h k =
        let tail : List Token = spelling v ++ (NewLine ∷ []) in
        let right = front (spelling v) (NewLine ∷ []) (behind (Sign s.Assign) tail (behind (Name x) (Sign s.Assign ∷ tail) (behind (Sign s.Dot) (Name x ∷ Sign s.Assign ∷ tail) (behind (Name c) (Sign s.Dot ∷ Name x ∷ Sign s.Assign ∷ tail) text)))) in
        written scope n c x v e.keeps fits.2 right h
    statement_formed nesting id n scope root (assign x ds v) e fits text h k = stored scope n x ds (Sign s.Assign) v e.keeps fits.1 fits.2 (behind (Name x) (maybe_dims.spell ds ++ (Sign s.Assign ∷ (spelling v ++ (NewLine ∷ [])))) text) h
    statement_formed nesting id n scope root (reduce x ds v) e fits text h k = stored scope n x ds (Sign s.Reduce) v e.keeps fits.1 fits.2 (behind (Name x) (maybe_dims.spell ds ++ (Sign s.Reduce ∷ (spelling v ++ (NewLine ∷ [])))) text) h
    statement_formed nesting id n scope root (view x y cs) e fits text h k =
        let right : List Token = argument.spell (window y cs) in
        let tail : List Token = right ++ (NewLine ∷ []) in
        let part = front right (NewLine ∷ []) (behind (Sign s.Assign) tail (behind (Name x) (Sign s.Assign ∷ tail) text)) in
        let faults : List Fault = window_faults fields is_buffer scope (n + 2) y cs in
        pair (fresh id n scope x e.below (left_none (binder_faults scope n x) faults h))
        (pair (window_formed laws fields F more is_buffer scope (n + 2) y cs e.keeps (λ z t. t) (window_fits y cs fits.1.1 part) (right_none (binder_faults scope n x) faults h))
        (lt-ltb 0 (units.spans (coordinates_of fields scope cs)) (span_counted fields scope cs fits.1.2)))

    pub block_formed : (nesting id n : ℕ) (scope : Scope) (root : ℕ → ℕ) (b : Block) → Entered id scope → BlockFits in_size nesting b → Text (spelling_all b) → fault_of id scope root n b ≡ None → is_block F M (slice_get cs) scope root (trees_of id scope b) ≡ true
    block_formed nesting id n scope root end e fits text h = refl
    block_formed nesting id n scope root (next t rest) e fits text h =
        let a : tree.Statement = tree_of id scope t in
        let later : Option Fault = fault_of (id + bound t) (scope_after a scope) (roots_after a root) (n + statement_width t) rest in
        let parts = neither_broken (or_else (least (faults_of scope root n t)) (inner_of id scope root n t)) later h in
        let own = neither_broken (least (faults_of scope root n t)) (inner_of id scope root n t) parts.0 in
        let none = none_of (faults_of scope root n t) own.0 in
        pair (statement_formed nesting id n scope root t e fits.0 (front (st.spelling t) (spelling_all rest) text) none own.1)
        (block_formed nesting (id + bound t) (n + statement_width t) (scope_after a scope) (roots_after a root) rest (entered id n scope root t e none) fits.1 (back (st.spelling t) (spelling_all rest) text) parts.1)
