-- How large the trees of statements are: they bind no more names than they have tokens, hand out ids upwards, and are not deep.
use Rattle.std.proofs.Common.{◌≡◌, ℕ, suc, ◌+◌, ◌≤◌, ◌^◌, nat_lt, Bool, true, false, not, List, [], ◌∷◌, ◌++◌, length, map, Option, refl, ap, arith, lt-ltb, if◌then◌else◌}
use Rattle.std.proofs.lemmas.List.{length-append}
use Rattle.text_phrases.specs.Limits.{in_size}
use Rattle.text_phrases.specs.Sequence.{spell_all}
use Rattle.text_phrases.specs.Commas.{spell_more}
use Rattle.exo_tree.specs.Tree as tree
use Rattle.exo_tree.specs.Tree.{ConfigField, Index, Param, statements}
use Rattle.exo_meaning.specs.Binders.{binders, step_binders}
use Rattle.exo_meaning.specs.Units.{Scope, ControlName, with_name, scope_after, scope_of, bound_ids, levels, step_levels, larger, is_empty, is_short}
use Rattle.text_lexer.specs.declared.token.Token.{Token}
use Rattle.text_lexer.specs.declared.token.Token.TheVariants.{Sign, NewLine, Indent, Dedent}
use Rattle.text_lexer.specs.declared.token.Sign.TheVariants as s
use Rattle.text_expressions.specs.Expression.{spelling}
use Rattle.exo_reader.specs.Source as source
use Rattle.exo_reader.specs.Source.{Parameter, Definition, Statement, pass, branch, loop, allocate, call, configure, assign, reduce, view, Block, end, next}
use Rattle.exo_reader.specs.Parts.{parameter, parameters}
use Rattle.exo_reader.specs.Items.{assertions, definition}
use Rattle.exo_reader.specs.Statements as st
use Rattle.exo_reader.specs.Statements.{indented, spelling_all, spelling_else, StatementFits, BlockFits, IsSome, statement, body}
use Rattle.exo_types.specs.TypeRules.{binder}
use Rattle.exo_types.specs.ArgumentRules.{Signature}
use Rattle.exo_types.specs.ItemRules.{param_of, with_param, params_from, definition_of}
use Rattle.exo_types.specs.StatementRules.{bound, bound_in, statement_of, block_of}
use Rattle.exo_types_laws.proofs.Texts.{Text}
use Rattle.exo_types_laws.proofs.Ids.{Ascends, up_to, then_ascend}

-- ---- tokens

indented_most : (ts : List Token) (n : ℕ) → n ≤ length ts → n ≤ length (indented ts)
indented_most ts n h = omega (arith, length-append ts (Dedent ∷ []), h)

mutual
  pub bound_few : (t : Statement) → bound t ≤ length (st.spelling t)
  bound_few pass = omega arith
  bound_few (branch c a b) =
      omega
      (arith, length-append (spelling c) (indented (spelling_all a) ++ spelling_else b), length-append (indented (spelling_all a)) (spelling_else b), indented_most (spelling_all a) (bound_in a) (bound_in_few a), bound_else_few b)
  bound_few (loop i low high a) =
      omega
      (arith, length-append (spelling low) (Sign s.Comma ∷ (spelling high ++ (Sign s.Close ∷ indented (spelling_all a)))), length-append (spelling high) (Sign s.Close ∷ indented (spelling_all a)), indented_most (spelling_all a) (bound_in a) (bound_in_few a))
  bound_few (allocate x type ds m) = omega arith
  bound_few (call f args trailing) = omega arith
  bound_few (configure c x e) = omega arith
  bound_few (assign x ds e) = omega arith
  bound_few (reduce x ds e) = omega arith
  bound_few (view w x cs) = omega arith

  pub bound_in_few : (b : Block) → bound_in b ≤ length (spelling_all b)
  bound_in_few end = omega arith
  bound_in_few (next t more) = omega (arith, length-append (st.spelling t) (spelling_all more), bound_few t, bound_in_few more)

  bound_else_few : (b : Block) → bound_in b ≤ length (spelling_else b)
  bound_else_few end = omega arith
  bound_else_few (next t more) =
      omega
      (arith, length-append (st.spelling t ++ spelling_all more) (Dedent ∷ []), length-append (st.spelling t) (spelling_all more), bound_few t, bound_in_few more)

has_token : (t : Statement) → 1 ≤ length (st.spelling t)
has_token pass = omega arith
has_token (branch c a b) = omega arith
has_token (loop i low high a) = omega arith
has_token (allocate x type ds m) = omega arith
has_token (call f args trailing) = omega arith
has_token (configure c x e) = omega arith
has_token (assign x ds e) = omega arith
has_token (reduce x ds e) = omega arith
has_token (view w x cs) = omega arith

-- parameters and bodies

more_few : (ps : List Parameter) (trailing : Bool) → length ps ≤ length (spell_more parameter (Sign s.Comma) ps trailing)
more_few [] trailing = omega arith
more_few (p ∷ ps) trailing = omega (arith, length-append (parameter.spell p) (spell_more parameter (Sign s.Comma) ps trailing), more_few ps trailing)

parameters_few : (ps : List Parameter) (trailing : Bool) → length ps ≤ length (parameters.spell (ps, trailing))
parameters_few [] trailing = omega arith
parameters_few (p ∷ ps) trailing = omega (arith, length-append (parameter.spell p) (spell_more parameter (Sign s.Comma) ps trailing), more_few ps trailing)

pub body_spelled : (ts : List Statement) → spell_all (statement 1) ts ≡ spelling_all (source.block_of ts)
body_spelled [] = refl
body_spelled (t ∷ ts) = ap (λ l. st.spelling t ++ l) (body_spelled ts)

-- the names that a definition binds
pub bound_most : (d : Definition) → length d.params + bound_in (source.block_of d.body) ≤ length (definition.spell d)
bound_most d =
    let lines : List Token = (body 1).spell (d.body, tt) in
    let tail : List Token = assertions.spell d.asserts ++ lines in
    let close : List Token = Sign s.Close ∷ Sign s.Colon ∷ NewLine ∷ Indent ∷ tail in
    omega
    (arith, parameters_few d.params d.trailing, bound_in_few (source.block_of d.body), ap length (body_spelled d.body), length-append (parameters.spell (d.params, d.trailing)) close, length-append (assertions.spell d.asserts) lines, length-append (spell_all (statement 1) d.body) (Dedent ∷ []))

-- ---- the greater of two

larger_most : (m n k most : ℕ) → m + k ≤ most → n + k ≤ most → larger m n + k ≤ most
larger_most m n k most h j = by (nat_lt m n)
  where
    by : (t : Bool) → (if t then n else m) + k ≤ most
    by true = j
    by false = h

-- ---- ids of parameters

module _ (fields : List ConfigField) (memories : List (List ℕ)) where
  pub params_length : (id : ℕ) (scope : Scope) (ps : List Parameter) → length (params_from fields memories id scope ps) ≡ length ps
  params_length id scope [] = refl
  params_length id scope (p ∷ ps) = ap suc (params_length (suc id) (with_param fields memories scope (param_of fields memories id scope p)) ps)

  params_ascend : (id : ℕ) (scope : Scope) (ps : List Parameter) → Ascends id (map (λ q. q.binder.id) (params_from fields memories id scope ps)) (id + length ps)
  params_ascend id scope [] = omega arith
  params_ascend id scope (p ∷ ps) =
      let inner : Scope = with_param fields memories scope (param_of fields memories id scope p) in
      let most : suc id + length ps ≤ id + suc (length ps) = omega arith in
      (omega arith, up_to (suc id) (suc id + length ps) (id + suc (length ps)) (map (λ q. q.binder.id) (params_from fields memories (suc id) inner ps)) most (params_ascend (suc id) inner ps))

module _ (fields : List ConfigField) (memories above : List (List ℕ)) (signatures : List Signature) where
  abbrev tree_of : ℕ → Scope → Statement → tree.Statement
  tree_of id scope t = statement_of fields memories above signatures id scope t

  abbrev trees_of : ℕ → Scope → Block → tree.Block
  trees_of id scope b = block_of fields memories above signatures id scope b

  -- ---- how many statements a block has

  pub statements_few : (id : ℕ) (scope : Scope) (b : Block) → length (statements (trees_of id scope b)) ≤ length (spelling_all b)
  statements_few id scope end = omega arith
  statements_few id scope (next t more) =
      omega
      (arith, length-append (st.spelling t) (spelling_all more), has_token t, statements_few (id + bound t) (scope_after (tree_of id scope t) scope) more)

  pub short : (id : ℕ) (scope : Scope) (b : Block) → Text (spelling_all b) → is_short (trees_of id scope b) ≡ true
  short id scope b text = lt-ltb (length (statements (trees_of id scope b))) (2 ^ 31) (omega (arith, text.short, statements_few id scope b))

  pub filled : (id : ℕ) (scope : Scope) (b : Block) → IsSome b → not (is_empty (trees_of id scope b)) ≡ true
  filled id scope end h = absurd h
  filled id scope (next t more) h = refl

  -- ---- ids

  mutual
    pub steps_ascend : (id : ℕ) (scope : Scope) (t : Statement) → Ascends id (step_binders (tree_of id scope t)) (id + bound t)
    steps_ascend id scope pass = omega arith
    steps_ascend id scope (branch c a b) =
        let l = binders_ascend id scope a in
        let r = binders_ascend (id + bound_in a) scope b in
        let most : id + bound_in a + bound_in b ≤ id + (bound_in a + bound_in b) = omega arith in
        up_to id (id + bound_in a + bound_in b) (id + (bound_in a + bound_in b)) (binders (trees_of id scope a) ++ binders (trees_of (id + bound_in a) scope b)) most
        (then_ascend id (id + bound_in a) (id + bound_in a + bound_in b) (binders (trees_of id scope a)) (binders (trees_of (id + bound_in a) scope b)) l r)
    steps_ascend id scope (loop i low high a) =
        let inner = binders_ascend (suc id) (with_name scope (binder id i) (ControlName Index)) a in
        let most : suc id + bound_in a ≤ id + suc (bound_in a) = omega arith in
        (omega arith, up_to (suc id) (suc id + bound_in a) (id + suc (bound_in a)) (binders (trees_of (suc id) (with_name scope (binder id i) (ControlName Index)) a)) most inner)
    steps_ascend id scope (allocate x type ds m) = (omega arith, omega arith)
    steps_ascend id scope (call f args trailing) = omega arith
    steps_ascend id scope (configure c x e) = omega arith
    steps_ascend id scope (assign x ds e) = omega arith
    steps_ascend id scope (reduce x ds e) = omega arith
    steps_ascend id scope (view w x cs) = (omega arith, omega arith)

    pub binders_ascend : (id : ℕ) (scope : Scope) (b : Block) → Ascends id (binders (trees_of id scope b)) (id + bound_in b)
    binders_ascend id scope end = omega arith
    binders_ascend id scope (next t more) =
        let l = steps_ascend id scope t in
        let r = binders_ascend (id + bound t) (scope_after (tree_of id scope t) scope) more in
        let most : id + bound t + bound_in more ≤ id + (bound t + bound_in more) = omega arith in
        let first : List ℕ = step_binders (tree_of id scope t) in
        let later : List ℕ = binders (trees_of (id + bound t) (scope_after (tree_of id scope t) scope) more) in
        up_to id (id + bound t + bound_in more) (id + (bound t + bound_in more)) (first ++ later) most (then_ascend id (id + bound t) (id + bound t + bound_in more) first later l r)

  pub definition_ascends : (id : ℕ) (template : Option (List ℕ)) (d : Definition) → Ascends id (bound_ids (definition_of fields memories above signatures id template d)) (id + length d.params + bound_in (source.block_of d.body))
  definition_ascends id template d =
      let params : List Param = params_from fields memories id [] d.params in
      let first : ℕ = id + length params in
      let block : Block = source.block_of d.body in
      let same = params_length fields memories id [] d.params in
      let ids : List ℕ = map (λ q. q.binder.id) params in
      let inner : List ℕ = binders (trees_of first (scope_of [] params) block) in
      up_to id (first + bound_in block) (id + length d.params + bound_in block) (ids ++ inner) (omega (arith, same))
      (then_ascend id first (first + bound_in block) ids inner (up_to id (id + length d.params) first ids (omega (arith, same)) (params_ascend fields memories id [] d.params)) (binders_ascend first (scope_of [] params) block))

  -- ---- depth: n is the nesting of the block

  mutual
    pub step_shallow : (n id : ℕ) (scope : Scope) (t : Statement) → n ≤ 24 → StatementFits in_size n t → suc (step_levels (tree_of id scope t)) + n ≤ 25
    step_shallow n id scope pass h f = omega arith
    step_shallow n id scope (branch c a b) h f =
        let deep : n + 1 ≤ 24 = omega (arith, f.0.0) in
        let l = block_shallow (n + 1) id scope a deep f.3 in
        let r = block_shallow (n + 1) (id + bound_in a) scope b deep f.4 in
        let both = larger_most (levels (trees_of id scope a)) (levels (trees_of (id + bound_in a) scope b)) (n + 1) 25 l r in
        omega (arith, both)
    step_shallow n id scope (loop i low high a) h f =
        let deep : n + 1 ≤ 24 = omega (arith, f.0.0) in
        let l = block_shallow (n + 1) (suc id) (with_name scope (binder id i) (ControlName Index)) a deep f.5 in
        omega (arith, l)
    step_shallow n id scope (allocate x type ds m) h f = omega arith
    step_shallow n id scope (call g args trailing) h f = omega arith
    step_shallow n id scope (configure c x e) h f = omega arith
    step_shallow n id scope (assign x ds e) h f = omega arith
    step_shallow n id scope (reduce x ds e) h f = omega arith
    step_shallow n id scope (view w x cs) h f = omega arith

    pub block_shallow : (n id : ℕ) (scope : Scope) (b : Block) → n ≤ 24 → BlockFits in_size n b → levels (trees_of id scope b) + n ≤ 25
    block_shallow n id scope end h f = omega arith
    block_shallow n id scope (next t more) h f =
        larger_most (suc (step_levels (tree_of id scope t))) (levels (trees_of (id + bound t) (scope_after (tree_of id scope t) scope) more)) n 25 (step_shallow n id scope t h f.0)
        (block_shallow n (id + bound t) (scope_after (tree_of id scope t) scope) more h f.1)
