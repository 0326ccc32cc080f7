-- Procedures that break no rule keep those of a well-formed unit.
use Rattle.std.proofs.Common.{◌≡◌, ℕ, suc, ◌+◌, ◌≤◌, ◌<◌, ◌^◌, Bool, true, false, List, [], ◌∷◌, ◌++◌, length, map, Option, Some, None, slice_get, refl, subst, arith, lt-ltb}
use Rattle.std.specs.List.{list_all}
use Rattle.text_phrases.specs.Limits.{in_size}
use Rattle.text_phrases.specs.Sequence.{AllFit, spell_all}
use Rattle.text_phrases.specs.Commas.{spell_more}
use Rattle.text_lexer.specs.declared.token.Token.{Token}
use Rattle.text_lexer.specs.declared.token.Token.TheVariants.{Name, Sign, Word, NewLine, Indent, Dedent}
use Rattle.text_lexer.specs.declared.token.Sign.TheVariants as s
use Rattle.text_lexer.specs.declared.token.Word.TheVariants as w
use Rattle.exo_tree.specs.Tree.{Kind, ConfigField, Param, ParamKind}
use Rattle.exo_meaning.specs.Calls.{Callee}
use Rattle.exo_meaning.specs.Binders.{binders}
use Rattle.exo_meaning.specs.Units.{Scope, with_name, scope_of, param_sort, field_kind, plainly, with_both, is_condition, is_param_kind, are_params, is_template, levels, IsProcedure}
use Rattle.text_expressions.specs.Expression.{Tree, spelling}
use Rattle.exo_reader.specs.Source as source
use Rattle.exo_reader.specs.Source.{TypeName, Form, plain, strided, Parameter, Definition, Statement}
use Rattle.exo_reader.specs.Parts.{HasSome, dims, maybe_dims, type_name, maybe_memory, form, parameter, parameters}
use Rattle.exo_reader.specs.Statements.{spelling_all, BlockFits, IsSome, statement, body}
use Rattle.exo_reader.specs.Items.{assertions, definition}
use Rattle.rules_names.specs.declared.fault.Fault.{Fault}
use Rattle.rules_names.specs.Faults.{least, or_else}
use Rattle.rules_names.specs.ExpressionRules.{width, closed_width, controls_faults, condition_faults}
use Rattle.rules_names.specs.Resolved.{controls_of, condition_of}
use Rattle.rules_names.specs.Laws.{KeepsIds}
use Rattle.exo_types.specs.TypeRules.{kind_named, cell_faults, binder, binder_faults, memory_faults}
use Rattle.exo_types.specs.ArgumentRules.{Signature, signature_of, dims_width}
use Rattle.exo_types.specs.StatementRules.{bound_in, block_of, block_fault}
use Rattle.exo_types.specs.ItemRules.{scalar_faults, form_faults, scalar_of, form_of, param_of, params_from, params_fault, parameter_width, assertions_fault, asserts_start, body_start, definition_of, definition_fault}
use Rattle.exo_types_laws.proofs.Unbroken.{pair, none_of, left_none, right_none, neither_broken}
use Rattle.exo_types_laws.proofs.Scopes.{Entered, below_up, fresh, later, nothing}
use Rattle.exo_types_laws.proofs.Ids.{Ascends, ascending_differ, all_below}
use Rattle.exo_types_laws.proofs.Texts.{Text, front, back, behind, fits_in, dims_fit, maybe_dims_fit}
use Rattle.exo_types_laws.proofs.Tables.{memory_formed}
use Rattle.exo_types_laws.proofs.Sizes.{body_spelled, bound_most, params_length, definition_ascends, block_shallow, short, filled}
use Rattle.exo_types_laws.proofs.Leaves.{Laws, controls_formed, condition_formed}
use Rattle.exo_types_laws.proofs.Statements.{maybe_rank_formed, block_formed}

-- ---- texts of parameters and assertions

abbrev pub EachText : List Parameter → Type 0
EachText [] = Unit {0}
EachText (p ∷ ps) = Text (parameter.spell p) × EachText ps

more_texts : (ps : List Parameter) (trailing : Bool) → Text (spell_more parameter (Sign s.Comma) ps trailing) → EachText ps
more_texts [] trailing h = tt
more_texts (p ∷ ps) trailing h =
    let tail : List Token = spell_more parameter (Sign s.Comma) ps trailing in
    let rest = behind (Sign s.Comma) (parameter.spell p ++ tail) h in
    (front (parameter.spell p) tail rest, more_texts ps trailing (back (parameter.spell p) tail rest))

each_text : (ps : List Parameter) (trailing : Bool) → Text (parameters.spell (ps, trailing)) → EachText ps
each_text [] trailing h = tt
each_text (p ∷ ps) trailing h =
    let tail : List Token = spell_more parameter (Sign s.Comma) ps trailing in
    (front (parameter.spell p) tail h, more_texts ps trailing (back (parameter.spell p) tail h))

all_parameters : (ps : List Parameter) (trailing : Bool) → parameters.Fits in_size (ps, trailing) → AllFit parameter in_size ps
all_parameters [] true h = absurd h
all_parameters [] false h = tt
all_parameters (p ∷ ps) trailing h = (h.0, h.1.0)

-- ---- bodies: the first block of a procedure

body_fits : (ts : List Statement) → AllFit (statement 1) in_size ts → BlockFits in_size 1 (source.block_of ts)
body_fits [] h = tt
body_fits (t ∷ ts) h = (h.0, body_fits ts h.1)

body_some : (ts : List Statement) → HasSome ts → IsSome (source.block_of ts)
body_some [] h = h
body_some (t ∷ ts) h = tt

module _ (laws : Laws) (fields : List ConfigField) (F : ℕ → Option Kind) (more : (f : ℕ) (k : Kind) → field_kind fields f ≡ Some k → F f ≡ Some k) (memories : List (List ℕ)) (M : ℕ) (some : 0 < M) (within : length memories ≤ M) where
  -- ---- parameters

  scalar_formed : (scope : Scope) (o : Option Kind) (type : TypeName) (n : ℕ) (m : Option (List ℕ)) → scalar_faults fields memories o type n m ≡ [] → is_param_kind F M scope (scalar_of fields memories o type m) ≡ true
  scalar_formed scope (Some kind) type n m h = refl
  scalar_formed scope None type n m h = memory_formed memories M some within (n + 1) m (right_none (cell_faults type n) (memory_faults memories (n + 1) m) h)

  form_formed : (scope : Scope) → KeepsIds scope → (n : ℕ) (f : Form) (m : Option (List ℕ)) → form.Fits in_size f → Text (form.spell f) → form_faults fields memories scope n f m ≡ [] → is_param_kind F M scope (form_of fields memories scope f m) ≡ true
  form_formed scope keeps n (plain type []) m fits text h = scalar_formed scope (kind_named type) type n m h
  form_formed scope keeps n (plain type (d ∷ ds)) m fits text h =
      let sizes : List Fault = controls_faults fields plainly scope (n + 2) (d ∷ ds) in
      let place : List Fault = memory_faults memories (n + 1 + dims_width (d ∷ ds)) m in
      let none = right_none (cell_faults type n) (sizes ++ place) h in
      let inner = back (type_name.spell type) (maybe_dims.spell (d ∷ ds)) text in
      pair (controls_formed laws fields F more plainly scope (n + 2) (d ∷ ds) keeps (maybe_dims_fit (d ∷ ds) fits.1 inner) (left_none sizes place none))
      (pair (maybe_rank_formed fields scope (d ∷ ds) fits.1) (memory_formed memories M some within (n + 1 + dims_width (d ∷ ds)) m (right_none sizes place none)))
  form_formed scope keeps n (strided type []) m fits text h = absurd fits.1
  form_formed scope keeps n (strided type (d ∷ ds)) m fits text h =
      let sizes : List Fault = controls_faults fields plainly scope (n + 4) (d ∷ ds) in
      let place : List Fault = memory_faults memories (n + 4 + closed_width (d ∷ ds)) m in
      let none = right_none (cell_faults type (n + 1)) (sizes ++ place) h in
      let tail : List Token = Sign s.CloseBracket ∷ dims.spell (d ∷ ds) in
      let inner = behind (Sign s.CloseBracket) (dims.spell (d ∷ ds)) (back (type_name.spell type) tail (behind (Sign s.OpenBracket) (type_name.spell type ++ tail) text)) in
      pair (controls_formed laws fields F more plainly scope (n + 4) (d ∷ ds) keeps (dims_fit (d ∷ ds) fits.1 inner) (left_none sizes place none))
      (pair (pair (maybe_rank_formed fields scope (d ∷ ds) fits.1) (lt-ltb 0 (length (controls_of fields scope (d ∷ ds))) (omega arith)))
      (memory_formed memories M some within (n + 4 + closed_width (d ∷ ds)) m (right_none sizes place none)))

  abbrev param_at : ℕ → Scope → Parameter → Param
  param_at id scope p = param_of fields memories id scope p

  abbrev params_at : ℕ → Scope → List Parameter → List Param
  params_at id scope ps = params_from fields memories id scope ps

  -- what is known of parameters, and behind them
  record Params (id : ℕ) (scope : Scope) (ps : List Parameter) : Type 0 where
    are : are_params F M scope (params_at id scope ps) ≡ true
    entered : Entered (id + length ps) (scope_of scope (params_at id scope ps))

  params_formed : (id n : ℕ) (scope : Scope) (ps : List Parameter) → Entered id scope → AllFit parameter in_size ps → EachText ps → params_fault fields memories id scope n ps ≡ None → Params id scope ps
  params_formed id n scope [] e fits texts h = record { are = refl; entered = later id (id + 0) scope (omega arith) e }
  params_formed id n scope (p ∷ ps) e fits texts h =
      let kind : ParamKind = form_of fields memories scope p.form p.memory in
      let inner : Scope = with_name scope (binder id p.name) (param_sort kind) in
      let own : List Fault = form_faults fields memories scope (n + 2) p.form p.memory in
      let parts = neither_broken (least (binder_faults scope n p.name ++ own)) (params_fault fields memories (suc id) inner (n + parameter_width p + 1) ps) h in
      let none = none_of (binder_faults scope n p.name ++ own) parts.0 in
      let new = fresh id n scope p.name e.below (left_none (binder_faults scope n p.name) own none) in
      let spelled : List Token = form.spell p.form ++ maybe_memory.spell p.memory in
      let text = front (form.spell p.form) (maybe_memory.spell p.memory) (behind (Sign s.Colon) spelled (behind (Name p.name) (Sign s.Colon ∷ spelled) texts.0)) in
      let formed = form_formed scope e.keeps (n + 2) p.form p.memory fits.0.1 text (right_none (binder_faults scope n p.name) own none) in
      let after : Entered (suc id) inner = record { keeps = laws.scopes scope (binder id p.name) (param_sort kind) e.keeps new; below = (omega arith, below_up id (suc id) scope (omega arith) e.below) } in
      let rest = params_formed (suc id) (n + parameter_width p + 1) inner ps after fits.1 texts.1 parts.1 in
      record { are = pair new (pair formed rest.are); entered = later (suc id + length ps) (id + suc (length ps)) (scope_of inner (params_at (suc id) inner ps)) (omega arith) rest.entered }

  -- ---- assertions

  assertions_formed : (scope : Scope) → KeepsIds scope → (n : ℕ) (es : List Tree) → assertions.Fits in_size es → Text (assertions.spell es) → assertions_fault fields memories scope n es ≡ None → list_all (is_condition F with_both scope) (map (condition_of fields scope) es) ≡ true
  assertions_formed scope keeps n [] fits text h = refl
  assertions_formed scope keeps n (e ∷ es) fits text h =
      let parts = neither_broken (least (condition_faults fields with_both scope (n + 1) e)) (assertions_fault fields memories scope (n + width e + 2) es) h in
      let line : List Token = spelling e ++ (NewLine ∷ []) in
      let own = front (spelling e) (NewLine ∷ []) (behind (Word w.Assert) line (front (Word w.Assert ∷ line) (assertions.spell es) text)) in
      pair (condition_formed laws fields F more with_both scope (n + 1) e keeps (fits_in e fits.0.1.2 own) (none_of (condition_faults fields with_both scope (n + 1) e) parts.0))
      (assertions_formed scope keeps (n + width e + 2) es fits.1 (back (Word w.Assert ∷ line) (assertions.spell es) text) parts.1)

  -- ---- procedures

  module _ (above : List (List ℕ)) (signatures : List Signature) (cs : List Callee) (signed : map signature_of cs ≡ signatures) where
    -- n is the number of the token `def`
    pub definition_formed : (id n : ℕ) (template : Option (List ℕ)) (d : Definition) → definition.Fits in_size d → Text (definition.spell d) → id + length (definition.spell d) ≤ 0x100000 → definition_fault fields memories above signatures id n d ≡ None
        → is_template (params_at id [] d.params) template ≡ true → IsProcedure F M (slice_get cs) (definition_of fields memories above signatures id template d)
    definition_formed id n template d fits text few h templated =
        let params : List Param = params_at id [] d.params in
        let scope : Scope = scope_of [] params in
        let first : ℕ = id + length params in
        let block : source.Block = source.block_of d.body in
        let lines : List Token = (body 1).spell (d.body, tt) in
        let tail : List Token = assertions.spell d.asserts ++ lines in
        let close : List Token = Sign s.Close ∷ Sign s.Colon ∷ NewLine ∷ Indent ∷ tail in
        let list : List Token = parameters.spell (d.params, d.trailing) in
        let head = behind (Sign s.Open) (list ++ close) (behind (Name d.name) (Sign s.Open ∷ (list ++ close)) (behind (Word w.Def) (Name d.name ∷ Sign s.Open ∷ (list ++ close)) text)) in
        let below = behind Indent tail (behind NewLine (Indent ∷ tail) (behind (Sign s.Colon) (NewLine ∷ Indent ∷ tail) (behind (Sign s.Close) (Sign s.Colon ∷ NewLine ∷ Indent ∷ tail) (back list close head)))) in
        let asserts_text = front (assertions.spell d.asserts) lines below in
        let statements_text = front (spell_all (statement 1) d.body) (Dedent ∷ []) (back (assertions.spell d.asserts) lines below) in
        let block_text : Text (spelling_all block) = subst Text (body_spelled d.body) statements_text in
        let block_fits : BlockFits in_size 1 block = body_fits d.body fits.3.0.0 in
        let assertions_broken : Option Fault = assertions_fault fields memories scope (asserts_start n d) d.asserts in
        let body_broken : Option Fault = block_fault fields memories above signatures first scope (λ x. x) (body_start n d) block in
        let parts = neither_broken (params_fault fields memories id [] (n + 3) d.params) (or_else assertions_broken body_broken) h in
        let inner = neither_broken assertions_broken body_broken parts.1 in
        let known = params_formed id (n + 3) [] d.params (nothing id) (all_parameters d.params d.trailing fits.1) (each_text d.params d.trailing (front list close head)) parts.0 in
        let same = params_length fields memories id [] d.params in
        let entered = later (id + length d.params) first scope (omega (arith, same)) known.entered in
        let last : ℕ = id + length d.params + bound_in block in
        let all : List ℕ = map (λ q. q.binder.id) params ++ binders (block_of fields memories above signatures first scope block) in
        let ids : Ascends id all last = definition_ascends fields memories above signatures id template d in
        let most : last ≤ 2 ^ 31 = omega (arith, few, bound_most d) in
        record {
          params = known.are;
          asserts = assertions_formed scope entered.keeps (asserts_start n d) d.asserts fits.2 asserts_text inner.0;
          body = block_formed laws fields F more memories above M some within signatures cs signed 1 first (body_start n d) scope (λ x. x) block entered block_fits block_text inner.1;
          filled = pair (filled fields memories above signatures first scope block (body_some d.body fits.3.0.1)) (short fields memories above signatures first scope block block_text);
          ids = all_below id last (2 ^ 31) all most ids;
          distinct = ascending_differ id last all ids;
          paths = lt-ltb (levels (block_of fields memories above signatures first scope block)) 33 (omega (arith, block_shallow fields memories above signatures 1 first scope block (omega arith) block_fits));
          template = templated;
        }
