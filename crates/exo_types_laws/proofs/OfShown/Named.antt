-- What the tokens of a text have for names, its unit has.
use Rattle.std.proofs.Common.{◌≡◌, ℕ, suc, ◌+◌, Bool, List, [], ◌∷◌, ◌++◌, map, length, Option, Some, None, refl, subst, sym}
use Rattle.text_phrases.specs.Sequence.{spell_all, carried}
use Rattle.text_phrases.specs.Commas.{spell_more}
use Rattle.text_lexer.specs.declared.token.Token.{Token}
use Rattle.text_lexer.specs.declared.token.Token.TheVariants.{Str, Sign, NewLine, Indent, Dedent}
use Rattle.text_lexer.specs.declared.token.Sign.TheVariants as s
use Rattle.exo_tree.specs.Tree as tree
use Rattle.exo_tree.specs.Tree.{Index, MemoryKind}
use Rattle.exo_meaning.specs.Units.{Scope, ControlName, with_name, scope_after, scope_of}
use Rattle.text_expressions.specs.Expression.{spelling as spelled}
use Rattle.exo_reader.specs.Source as source
use Rattle.exo_reader.specs.Source.{Statement, pass, branch, loop, allocate, call, configure, assign, reduce, view, Block, end, next, Parameter, Definition, Attribute, Item, procedure, instruction, configuration, memory}
use Rattle.exo_reader.specs.Parts.{parameter, parameters}
use Rattle.exo_reader.specs.Statements.{statement, indented, spelling, spelling_all, spelling_else}
use Rattle.exo_reader.specs.Items as phrase
use Rattle.exo_reader.specs.Items.{joined, neighbours, assertions, definition, item, unit}
use Rattle.exo_types.specs.TypeRules.{binder}
use Rattle.exo_types.specs.ArgumentRules.{Signature}
use Rattle.exo_types.specs.StatementRules.{bound, bound_in, statement_of, block_of}
use Rattle.exo_types.specs.ItemRules.{with_param, param_of, params_from, definition_of, field_of}
use Rattle.exo_types.specs.MemoryRules.{plain_memory, with_trait, with_attributes, trait_named}
use Rattle.exo_types.specs.declared.attribute.Trait.{Trait}
use Rattle.exo_types.specs.declared.attribute.Trait.TheVariants.{Ctype, Lanes, CellType, Place, MayRead, MayWrite, MayReduce, Header}
use Rattle.exo_types.specs.UnitRules.{Above, nothing_above, memory_names, procedure_names, signatures, procedure_here, after_item, after_items}
use Rattle.exo_types_laws.specs.Shown.Names.{IsName, Each}
use Rattle.exo_types_laws.specs.Shown.Writable.{IsTemplate, IsTemplateByte}
use Rattle.exo_types_laws.specs.Shown.Named.{IsNamedStatement, IsNamedBlock, IsNamedParam}
use Rattle.exo_types_laws.specs.Shown.Named.{IsNamedProcedure, IsNamedField, IsNamedMemory}
use Rattle.exo_types_laws.specs.Shown.Named.{AreNamed}
use Rattle.exo_types_laws.specs.Shown.Naming.{ReadUnitsAreNamed}
use Rattle.exo_types_laws.proofs.OfShown.Each.{each_more, each_front, each_back}
use Rattle.exo_types_laws.proofs.OfShown.Lexed.{IsNamed, lexed_named}

abbrev Named : List Token → Type 0
Named ts = Each IsNamed ts

front : (xs ys : List Token) → Named (xs ++ ys) → Named xs
front xs ys h = each_front IsNamed xs ys h

back : (xs ys : List Token) → Named (xs ++ ys) → Named ys
back xs ys h = each_back IsNamed xs ys h

inside : (ts : List Token) → Named (indented ts) → Named ts
inside ts h = front ts (Dedent ∷ []) h.1.1.1

else_inside : (b : Block) → Named (spelling_else b) → Named (spelling_all b)
else_inside end h = tt
else_inside (next a more) h = inside (spelling_all (next a more)) h.1

-- ---- procedures

module _ (fields : List tree.ConfigField) (memories above : List (List ℕ)) (signatures : List Signature) where
  abbrev tree_of : ℕ → Scope → Statement → tree.Statement
  tree_of id scope t = statement_of fields memories above signatures id scope t

  abbrev trees_of : ℕ → Scope → Block → tree.Block
  trees_of id scope b = block_of fields memories above signatures id scope b

  mutual
    statement_named : (id : ℕ) (scope : Scope) (t : Statement) → Named (spelling t) → IsNamedStatement (tree_of id scope t)
    statement_named id scope pass h = tt
    statement_named id scope (branch c a b) h =
        let first : List Token = indented (spelling_all a) in
        let both = back (spelled c) (first ++ spelling_else b) h.1 in (
          block_named id scope a (inside (spelling_all a) (front first (spelling_else b) both)),
          block_named (id + bound_in a) scope b (else_inside b (back first (spelling_else b) both)),
        )
    statement_named id scope (loop i low high a) h =
        let body : List Token = Sign s.Close ∷ indented (spelling_all a) in
        let last = back (spelled low) (Sign s.Comma ∷ (spelled high ++ body)) h.1.1.1.1.1 in
        (h.1.0, block_named (suc id) (with_name scope (binder id i) (ControlName Index)) a (inside (spelling_all a) (back (spelled high) body last.1).1))
    statement_named id scope (allocate x type ds m) h = h.0
    statement_named id scope (call f args trailing) h = tt
    statement_named id scope (configure c x e) h = tt
    statement_named id scope (assign x ds e) h = tt
    statement_named id scope (reduce x ds e) h = tt
    statement_named id scope (view y x cs) h = h.0

    block_named : (id : ℕ) (scope : Scope) (b : Block) → Named (spelling_all b) → IsNamedBlock (trees_of id scope b)
    block_named id scope end h = tt
    block_named id scope (next a more) h = (
      statement_named id scope a (front (spelling a) (spelling_all more) h),
      block_named (id + bound a) (scope_after (tree_of id scope a) scope) more (back (spelling a) (spelling_all more) h),
    )

  listed_named : (id n : ℕ) (scope : Scope) (all : List Statement) → Named (spell_all (statement n) all) → IsNamedBlock (trees_of id scope (source.block_of all))
  listed_named id n scope [] h = tt
  listed_named id n scope (a ∷ more) h = (
    statement_named id scope a (front (spelling a) (spell_all (statement n) more) h),
    listed_named (id + bound a) n (scope_after (tree_of id scope a) scope) more (back (spelling a) (spell_all (statement n) more) h),
  )

  -- ---- parameters

  more_named : (id : ℕ) (scope : Scope) (ps : List Parameter) (trailing : Bool) → Named (spell_more parameter (Sign s.Comma) ps trailing) → Each IsNamedParam (params_from fields memories id scope ps)
  more_named id scope [] trailing h = tt
  more_named id scope (p ∷ ps) trailing h =
      (h.1.0, more_named (suc id) (with_param fields memories scope (param_of fields memories id scope p)) ps trailing (back (parameter.spell p) (spell_more parameter (Sign s.Comma) ps trailing) h.1))

  params_named : (id : ℕ) (scope : Scope) (ps : List Parameter) (trailing : Bool) → Named (parameters.spell (ps, trailing)) → Each IsNamedParam (params_from fields memories id scope ps)
  params_named id scope [] trailing h = tt
  params_named id scope (p ∷ ps) trailing h =
      (h.0, more_named (suc id) (with_param fields memories scope (param_of fields memories id scope p)) ps trailing (back (parameter.spell p) (spell_more parameter (Sign s.Comma) ps trailing) h))

  definition_named : (id : ℕ) (template : Option (List ℕ)) (d : Definition) → IsTemplate template → Named (definition.spell d) → IsNamedProcedure (definition_of fields memories above signatures id template d)
  definition_named id template d known h =
      let params = params_from fields memories id [] d.params in
      let lines : List Token = assertions.spell d.asserts ++ (spell_all (statement 1) d.body ++ (Dedent ∷ [])) in
      let head : List Token = parameters.spell (d.params, d.trailing) in
      let rest : Named (head ++ (Sign s.Close ∷ Sign s.Colon ∷ NewLine ∷ Indent ∷ lines)) = h.1.1.1 in
      let below : Named lines = (back head (Sign s.Close ∷ Sign s.Colon ∷ NewLine ∷ Indent ∷ lines) rest).1.1.1.1 in
      let body = back (assertions.spell d.asserts) (spell_all (statement 1) d.body ++ (Dedent ∷ [])) below in
      record {
        name = h.1.0;
        params = params_named id [] d.params d.trailing (front head (Sign s.Close ∷ Sign s.Colon ∷ NewLine ∷ Indent ∷ lines) rest);
        body = listed_named (id + length params) 1 (scope_of [] params) d.body (front (spell_all (statement 1) d.body) (Dedent ∷ []) body);
        template = known;
      }

-- ---- templates

joined_named : (pieces : List (List ℕ)) → Named (spell_all (carried Str) pieces) → Each IsTemplateByte (joined pieces)
joined_named [] h = tt
joined_named (x ∷ more) h = each_more IsTemplateByte x (joined more) h.0 (joined_named more h.1)

-- ---- configurations and memories

fields_named : (x : List ℕ) (fs : List source.ConfigField) → IsName x → Named (spell_all phrase.field fs) → Each IsNamedField (map (field_of x) fs)
fields_named x [] n h = tt
fields_named x (f ∷ fs) n h = ((n, h.0), fields_named x fs n (back (phrase.field.spell f) (spell_all phrase.field fs) h))

trait_name : (m : MemoryKind) (o : Option Trait) (v : source.Setting) → (with_trait m o v).name ≡ m.name
trait_name m None v = refl
trait_name m (Some Ctype) v = refl
trait_name m (Some Lanes) v = refl
trait_name m (Some CellType) v = refl
trait_name m (Some Place) v = refl
trait_name m (Some MayRead) v = refl
trait_name m (Some MayWrite) v = refl
trait_name m (Some MayReduce) v = refl
trait_name m (Some Header) v = refl

attributes_named : (m : MemoryKind) (list : List Attribute) → IsName m.name → IsName (with_attributes m list).name
attributes_named m [] h = h
attributes_named m (a ∷ more) h = attributes_named (with_trait m (trait_named a.name) a.value) more (subst IsName (sym (trait_name m (trait_named a.name) a.value)) h)

-- ---- units

item_named : (above : Above) (i : Item) → AreNamed above.program → Named (item.spell i) → AreNamed (after_item above i).program
item_named above (procedure d) h k = record {
  procedures = each_more IsNamedProcedure above.program.procedures (procedure_here above None d ∷ []) h.procedures
      (definition_named above.program.fields (memory_names above.program) (procedure_names above.program) (signatures above) above.next_id None d tt k.1.1, tt);
  fields = h.fields;
  memories = h.memories;
}
item_named above (instruction template d) h k =
    let rest : List Token = Sign s.Close ∷ NewLine ∷ definition.spell d in
    record {
      procedures = each_more IsNamedProcedure above.program.procedures (procedure_here above (Some (joined template)) d ∷ []) h.procedures (
        definition_named above.program.fields (memory_names above.program) (procedure_names above.program) (signatures above) above.next_id (Some (joined template)) d
            (joined_named template (front (neighbours.spell template) rest k.1.1)) (back (neighbours.spell template) rest k.1.1).1.1,
        tt,
      );
      fields = h.fields;
      memories = h.memories;
    }
item_named above (configuration x fs) h k = record {
  procedures = h.procedures;
  fields = each_more IsNamedField above.program.fields (map (field_of x) fs) h.fields
      (fields_named x fs k.1.1.1.0 (front (spell_all phrase.field fs) (Dedent ∷ []) k.1.1.1.1.1.1.1));
  memories = h.memories;
}
item_named above (memory x settings) h k = record {
  procedures = h.procedures;
  fields = h.fields;
  memories = each_more IsNamedMemory above.program.memories (with_attributes (plain_memory x) settings ∷ []) h.memories
      (attributes_named (plain_memory x) settings k.1.1.1.0, tt);
}

items_named : (above : Above) (items : List Item) → AreNamed above.program → Named (unit.spell items) → AreNamed (after_items above items).program
items_named above [] h k = h
items_named above (i ∷ more) h k = items_named (after_item above i) more (item_named above i h (front (item.spell i) (unit.spell more) k)) (back (item.spell i) (unit.spell more) k)

nothing_named : AreNamed nothing_above.program
nothing_named = record {
  procedures = tt;
  fields = tt;
  memories = (record { begins = refl; bytes = (refl, (refl, (refl, (refl, tt)))); some = refl; free = refl }, tt);
}

pub read_named : ReadUnitsAreNamed
read_named text items is = items_named nothing_above items nothing_named (subst Named is.spelled (lexed_named text))
