-- How many tokens the phrases of a unit have: each is spelled by as many as its width says.
use Rattle.std.proofs.Common.{◌≡◌, ℕ, suc, ◌+◌, ◌*◌, List, [], ◌∷◌, ◌++◌, length, Option, Some, None, Bool, true, false, refl, ap, arith}
use Rattle.std.proofs.lemmas.List.{length-append}
use Rattle.text_phrases.specs.Limits.{Limits, unlimited}
use Rattle.text_phrases.specs.Sequence.{AllFit, spell_all}
use Rattle.text_phrases.specs.Commas.{spell_more, spell_listing}
use Rattle.text_lexer.specs.declared.token.Token.{Token}
use Rattle.text_lexer.specs.declared.token.Token.TheVariants.{Sign, NewLine, Indent, Dedent}
use Rattle.text_lexer.specs.declared.token.Sign.TheVariants as s
use Rattle.text_expressions.specs.Expression.{Tree, spelling, control}
use Rattle.exo_reader.specs.Source as source
use Rattle.exo_reader.specs.Source.{Coordinate, point, span, Argument, value, window, TypeName, named, Form, plain, strided, Parameter, Definition, Statement, pass, branch, loop, allocate, call, configure, assign, reduce, view, Block, end, next, block_of, Setting, strings, int, yes, no, Attribute, Item, procedure, instruction, configuration, memory}
use Rattle.exo_reader.specs.Parts.{spell_enclosed, dims, maybe_dims, type_name, maybe_memory, form, parameter, parameters}
use Rattle.exo_reader.specs.Statements as st
use Rattle.exo_reader.specs.Statements.{HasSpan, coordinate, coordinates, argument, arguments, indented, spelling_all, spelling_else, StatementFits, BlockFits, statement, body}
use Rattle.exo_reader.specs.Items as phrase
use Rattle.exo_reader.specs.Items.{neighbours, setting, attribute, assertion, assertions, definition, item, unit}
use Rattle.rules_names.specs.ExpressionRules.{width, commas_width, closed_width}
use Rattle.rules_names.specs.WindowRules.{coordinate_width, coordinates_width}
use Rattle.exo_types.specs.TypeRules.{memory_width}
use Rattle.exo_types.specs.ArgumentRules.{dims_width, argument_width, spaced_width, arguments_width, comma_width}
use Rattle.exo_types.specs.StatementRules.{statement_width, block_width, else_width}
use Rattle.exo_types.specs.ItemRules.{form_width, parameter_width, spaced_params, params_width, asserts_width, definition_end}
use Rattle.exo_types.specs.MemoryRules.{setting_width, attributes_width}
use Rattle.exo_types.specs.UnitRules.{item_width, items_width}

-- ---- expressions

pub tree_spelled : (e : Tree) → length (spelling e) ≡ width e
unfolding width
tree_spelled e = refl

more_trees : (es : List Tree) → length (spell_more control (Sign s.Comma) es false) ≡ commas_width es
more_trees [] = refl
more_trees (e ∷ es) = omega (arith, length-append (spelling e) (spell_more control (Sign s.Comma) es false), tree_spelled e, more_trees es)

closed_trees : (es : List Tree) → length (spell_listing control (Sign s.Comma) es) + 1 ≡ closed_width es
closed_trees [] = refl
closed_trees (e ∷ es) = omega (arith, length-append (spelling e) (spell_more control (Sign s.Comma) es false), tree_spelled e, more_trees es)

dims_spelled : (ds : List Tree) → length (dims.spell ds) ≡ suc (closed_width ds)
dims_spelled ds = omega (arith, length-append (spell_listing control (Sign s.Comma) ds) (Sign s.CloseBracket ∷ []), closed_trees ds)

pub maybe_dims_spelled : (ds : List Tree) → length (maybe_dims.spell ds) ≡ dims_width ds
maybe_dims_spelled [] = refl
maybe_dims_spelled (d ∷ ds) = dims_spelled (d ∷ ds)

-- ---- parts of parameters

type_spelled : (t : TypeName) → length (type_name.spell t) ≡ 1
type_spelled source.stride = refl
type_spelled (named x) = refl

memory_spelled : (m : Option (List ℕ)) → length (maybe_memory.spell m) ≡ memory_width m
memory_spelled None = refl
memory_spelled (Some x) = refl

form_spelled : (f : Form) → length (form.spell f) ≡ form_width f
form_spelled (plain type ds) = omega (arith, length-append (type_name.spell type) (maybe_dims.spell ds), type_spelled type, maybe_dims_spelled ds)
form_spelled (strided type ds) = omega (arith, length-append (type_name.spell type) (Sign s.CloseBracket ∷ dims.spell ds), type_spelled type, dims_spelled ds)

pub parameter_spelled : (p : Parameter) → length (parameter.spell p) ≡ parameter_width p
parameter_spelled p = omega (arith, length-append (form.spell p.form) (maybe_memory.spell p.memory), form_spelled p.form, memory_spelled p.memory)

more_parameters : (ps : List Parameter) (trailing : Bool) → length (spell_more parameter (Sign s.Comma) ps trailing) ≡ spaced_params ps + comma_width trailing
more_parameters [] true = refl
more_parameters [] false = refl
more_parameters (p ∷ ps) trailing = omega (arith, length-append (parameter.spell p) (spell_more parameter (Sign s.Comma) ps trailing), parameter_spelled p, more_parameters ps trailing)

-- with the parenthesis that closes them
pub parameters_spelled : (limits : Limits) (ps : List Parameter) (trailing : Bool) → parameters.Fits limits (ps, trailing) → suc (length (parameters.spell (ps, trailing))) ≡ params_width ps + comma_width trailing
parameters_spelled limits [] true h = absurd h
parameters_spelled limits [] false h = refl
parameters_spelled limits (p ∷ ps) trailing h = omega (arith, length-append (parameter.spell p) (spell_more parameter (Sign s.Comma) ps trailing), parameter_spelled p, more_parameters ps trailing)

-- ---- windows and arguments

coordinate_spelled : (c : Coordinate) → length (coordinate.spell c) ≡ coordinate_width c
coordinate_spelled (point e) = tree_spelled e
coordinate_spelled (span a b) = omega (arith, length-append (spelling a) (Sign s.Colon ∷ spelling b), tree_spelled a, tree_spelled b)

more_coordinates : (cs : List Coordinate) → length (spell_more coordinate (Sign s.Comma) cs false) ≡ coordinates_width cs
more_coordinates [] = refl
more_coordinates (c ∷ cs) = omega (arith, length-append (coordinate.spell c) (spell_more coordinate (Sign s.Comma) cs false), coordinate_spelled c, more_coordinates cs)

-- with the bracket that closes them
coordinates_spelled : (cs : List Coordinate) → HasSpan cs → length (coordinates.spell cs ++ (Sign s.CloseBracket ∷ [])) ≡ coordinates_width cs
coordinates_spelled [] h = absurd h
coordinates_spelled (c ∷ cs) h =
    omega (arith, length-append (coordinates.spell (c ∷ cs)) (Sign s.CloseBracket ∷ []), length-append (coordinate.spell c) (spell_more coordinate (Sign s.Comma) cs false), coordinate_spelled c, more_coordinates cs)

pub argument_spelled : (limits : Limits) (a : Argument) → argument.Fits limits a → length (argument.spell a) ≡ argument_width a
argument_spelled limits (value e) h = tree_spelled e
argument_spelled limits (window x cs) h = omega (arith, coordinates_spelled cs h.2)

more_arguments : (limits : Limits) (as' : List Argument) (trailing : Bool) → AllFit argument limits as' → length (spell_more argument (Sign s.Comma) as' trailing) ≡ spaced_width as' + comma_width trailing
more_arguments limits [] true h = refl
more_arguments limits [] false h = refl
more_arguments limits (a ∷ as') trailing h =
    omega (arith, length-append (argument.spell a) (spell_more argument (Sign s.Comma) as' trailing), argument_spelled limits a h.0, more_arguments limits as' trailing h.1)

-- with the parenthesis that closes them
arguments_spelled : (limits : Limits) (as' : List Argument) (trailing : Bool) → arguments.Fits limits (as', trailing) → suc (length (spell_enclosed argument as' trailing)) ≡ arguments_width as' + comma_width trailing
arguments_spelled limits [] true h = absurd h
arguments_spelled limits [] false h = refl
arguments_spelled limits (a ∷ as') trailing h =
    omega (arith, length-append (argument.spell a) (spell_more argument (Sign s.Comma) as' trailing), argument_spelled limits a h.0, more_arguments limits as' trailing h.1.0)

-- ---- statements

-- an expression and the end of its line
line : (e : Tree) → length (spelling e ++ (NewLine ∷ [])) ≡ width e + 1
line e = omega (arith, length-append (spelling e) (NewLine ∷ []), tree_spelled e)

indented_spelled : (ts : List Token) (n : ℕ) → length ts ≡ n → length (indented ts) ≡ 3 + n + 1
indented_spelled ts n h = omega (arith, length-append ts (Dedent ∷ []), h)

-- dimensions, a sign, an expression and the end of the line
stored : (ds : List Tree) (sign : Token) (e : Tree) → length (maybe_dims.spell ds ++ (sign ∷ (spelling e ++ (NewLine ∷ [])))) ≡ dims_width ds + 1 + width e + 1
stored ds sign e = omega (arith, length-append (maybe_dims.spell ds) (sign ∷ (spelling e ++ (NewLine ∷ []))), maybe_dims_spelled ds, line e)

allocated : (type : TypeName) (ds : List Tree) (m : Option (List ℕ)) → length (type_name.spell type ++ (maybe_dims.spell ds ++ (maybe_memory.spell m ++ (NewLine ∷ [])))) ≡ 1 + dims_width ds + memory_width m + 1
allocated type ds m =
    omega
    (arith, length-append (type_name.spell type) (maybe_dims.spell ds ++ (maybe_memory.spell m ++ (NewLine ∷ []))), length-append (maybe_dims.spell ds) (maybe_memory.spell m ++ (NewLine ∷ [])), length-append (maybe_memory.spell m) (NewLine ∷ []), type_spelled type, maybe_dims_spelled ds, memory_spelled m)

branched : (c : Tree) (ts es : List Token) (n k : ℕ) → length ts ≡ n → length es ≡ k → length (spelling c ++ (indented ts ++ es)) ≡ width c + 3 + n + 1 + k
branched c ts es n k h j = omega (arith, length-append (spelling c) (indented ts ++ es), length-append (indented ts) es, tree_spelled c, indented_spelled ts n h, j)

looped : (low high : Tree) (ts : List Token) (n : ℕ) → length ts ≡ n → length (spelling low ++ (Sign s.Comma ∷ (spelling high ++ (Sign s.Close ∷ indented ts)))) ≡ width low + 1 + width high + 4 + n + 1
looped low high ts n h =
    omega
    (arith, length-append (spelling low) (Sign s.Comma ∷ (spelling high ++ (Sign s.Close ∷ indented ts))), length-append (spelling high) (Sign s.Close ∷ indented ts), tree_spelled low, tree_spelled high, indented_spelled ts n h)

mutual
  pub statement_spelled : (limits : Limits) (n : ℕ) (t : Statement) → StatementFits limits n t → length (st.spelling t) ≡ statement_width t
  statement_spelled limits n pass h = refl
  statement_spelled limits n (branch c a b) h =
      let l = branched c (spelling_all a) (spelling_else b) (block_width a) (else_width b) (block_spelled limits (n + 1) a h.3) (else_spelled limits (n + 1) b h.4) in omega arith
  statement_spelled limits n (loop i low high a) h = let l = looped low high (spelling_all a) (block_width a) (block_spelled limits (n + 1) a h.5) in omega arith
  statement_spelled limits n (allocate x type ds m) h = let l = allocated type ds m in omega arith
  statement_spelled limits n (call f list trailing) h =
      let l = arguments_spelled limits list trailing h.1 in
      omega (arith, length-append (spell_enclosed argument list trailing) (Sign s.Close ∷ NewLine ∷ []))
  statement_spelled limits n (configure c x e) h = let l = line e in omega arith
  statement_spelled limits n (assign x ds e) h = let l = stored ds (Sign s.Assign) e in omega arith
  statement_spelled limits n (reduce x ds e) h = let l = stored ds (Sign s.Reduce) e in omega arith
  statement_spelled limits n (view y x cs) h =
      let l = coordinates_spelled cs h.1.2 in
      omega (arith, length-append (coordinates.spell cs ++ (Sign s.CloseBracket ∷ [])) (NewLine ∷ []))

  pub block_spelled : (limits : Limits) (n : ℕ) (b : Block) → BlockFits limits n b → length (spelling_all b) ≡ block_width b
  block_spelled limits n end h = refl
  block_spelled limits n (next t more) h = omega (arith, length-append (st.spelling t) (spelling_all more), statement_spelled limits n t h.0, block_spelled limits n more h.1)

  else_spelled : (limits : Limits) (n : ℕ) (b : Block) → BlockFits limits n b → length (spelling_else b) ≡ else_width b
  else_spelled limits n end h = refl
  else_spelled limits n (next t more) h =
      omega
      (arith, length-append (st.spelling t ++ spelling_all more) (Dedent ∷ []), length-append (st.spelling t) (spelling_all more), statement_spelled limits n t h.0, block_spelled limits n more h.1)

-- ---- definitions

asserts_spelled : (es : List Tree) → length (assertions.spell es) ≡ asserts_width es
asserts_spelled [] = refl
asserts_spelled (e ∷ es) = omega (arith, length-append (assertion.spell e) (assertions.spell es), line e, asserts_spelled es)

statements_spelled : (limits : Limits) (ts : List Statement) → AllFit (statement 1) limits ts → length (spell_all (statement 1) ts) ≡ block_width (block_of ts)
statements_spelled limits [] h = refl
statements_spelled limits (t ∷ ts) h = omega (arith, length-append (st.spelling t) (spell_all (statement 1) ts), statement_spelled limits 1 t h.0, statements_spelled limits ts h.1)

body_spelled : (limits : Limits) (ts : List Statement) → (body 1).Fits limits (ts, tt) → length ((body 1).spell (ts, tt)) ≡ block_width (block_of ts) + 1
body_spelled limits ts h = omega (arith, length-append (spell_all (statement 1) ts) (Dedent ∷ []), statements_spelled limits ts h.0.0)

-- n is the number of the token `def`
pub definition_spelled : (limits : Limits) (n : ℕ) (d : Definition) → definition.Fits limits d → n + length (definition.spell d) ≡ definition_end n d
definition_spelled limits n d h =
    let tail : List Token = assertions.spell d.asserts ++ (body 1).spell (d.body, tt) in
    let p = length-append (parameters.spell (d.params, d.trailing)) (Sign s.Close ∷ Sign s.Colon ∷ NewLine ∷ Indent ∷ tail) in
    let q = length-append (assertions.spell d.asserts) ((body 1).spell (d.body, tt)) in
    omega (arith, p, q, parameters_spelled limits d.params d.trailing h.1, asserts_spelled d.asserts, body_spelled limits d.body h.3)

-- ---- items

strings_spelled : (pieces : List (List ℕ)) → length (neighbours.spell pieces) ≡ length pieces
strings_spelled [] = refl
strings_spelled (x ∷ pieces) = ap suc (strings_spelled pieces)

setting_spelled : (v : Setting) → length (setting.spell v) ≡ setting_width v
setting_spelled (strings pieces) = strings_spelled pieces
setting_spelled (int k) = refl
setting_spelled yes = refl
setting_spelled no = refl

attributes_spelled : (settings : List Attribute) → length (spell_all attribute settings) ≡ attributes_width settings
attributes_spelled [] = refl
attributes_spelled (a ∷ settings) =
    omega
    (arith, length-append (attribute.spell a) (spell_all attribute settings), length-append (setting.spell a.value) (NewLine ∷ []), setting_spelled a.value, attributes_spelled settings)

fields_spelled : (fs : List source.ConfigField) → length (spell_all phrase.field fs) ≡ 4 * length fs
fields_spelled [] = refl
fields_spelled (f ∷ fs) =
    omega
    (arith, length-append (phrase.field.spell f) (spell_all phrase.field fs), length-append (type_name.spell f.kind) (NewLine ∷ []), type_spelled f.kind, fields_spelled fs)

pub item_spelled : (limits : Limits) (i : Item) → item.Fits limits i → length (item.spell i) ≡ item_width i
item_spelled limits (procedure d) h = omega (arith, definition_spelled limits 2 d h)
item_spelled limits (instruction template d) h =
    omega
    (arith, length-append (neighbours.spell template) (Sign s.Close ∷ NewLine ∷ definition.spell d), strings_spelled template, definition_spelled limits (2 + length template + 2) d h.1)
item_spelled limits (configuration x fs) h = omega (arith, length-append (spell_all phrase.field fs) (Dedent ∷ []), fields_spelled fs)
item_spelled limits (memory x settings) h = omega (arith, length-append (spell_all attribute settings) (Dedent ∷ []), attributes_spelled settings)

-- ---- units

pub unit_spelled : (limits : Limits) (items : List Item) → unit.Fits limits items → length (unit.spell items) ≡ items_width items
unit_spelled limits [] h = refl
unit_spelled limits (i ∷ more) h = omega (arith, length-append (item.spell i) (unit.spell more), item_spelled limits i h.0, unit_spelled limits more h.1)

pub items_spelled : (items : List Item) → ((limits : Limits) → unit.Fits limits items) → length (unit.spell items) ≡ items_width items
items_spelled items fits = unit_spelled unlimited items (fits unlimited)

items_width_append : (before items : List Item) → items_width (before ++ items) ≡ items_width before + items_width items
items_width_append [] items = omega arith
items_width_append (i ∷ before) items = omega (arith, items_width_append before items)

-- an item begins behind those before it, and ends within the text
pub item_within : (limits : Limits) (items before : List Item) (i : Item) (more : List Item) → unit.Fits limits items → items ≡ before ++ (i ∷ more) → items_width before + item_width i + items_width more ≡ length (unit.spell items)
item_within limits items before i more fits is = omega (arith, unit_spelled limits items fits, ap items_width is, items_width_append before (i ∷ more))
