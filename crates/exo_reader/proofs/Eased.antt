-- What keeps limits keeps fewer of them; so a text has one tree, or is refused at one token for one cause.
use Rattle.std.proofs.Common.{ℕ, ◌+◌, List, [], ◌∷◌, Option, true, false}
use Rattle.text_phrases.specs.Limits.{Limits}
use Rattle.text_phrases.specs.Phrase.{Phrase}
use Rattle.text_phrases.specs.Sequence.{AllFit, carried}
use Rattle.text_phrases.proofs.Eased.{Eases, eased, keeps_eased, all_eased, maybe_eased, commas_ease, listing_eases}
use Rattle.text_expressions.specs.Values.{name, literal}
use Rattle.text_expressions.specs.Expression.{Tree, operand, control, datum, control_room, data_room, most_depth, FewDimensions, EndsList}
use Rattle.text_expressions.specs.declared.expression.Room.{Room}
use Rattle.text_lexer.specs.declared.token.Token.{Token}
use Rattle.text_lexer.specs.declared.token.Token.TheVariants.{Sign, Str, Dedent}
use Rattle.text_lexer.specs.declared.token.Sign.TheVariants.{Close, Comma}
use Rattle.exo_reader.specs.Source.{stride, named, plain, strided, point, span, value, window, Statement, pass, branch, loop, allocate, call, configure, assign, reduce, view, Block, end, next, strings, int, yes, no, procedure, instruction, configuration, memory}
use Rattle.exo_reader.specs.Parts as parts
use Rattle.exo_reader.specs.Parts.{Is, some_of, enclosed, dims, maybe_dims, type_name, maybe_memory, form, parameter, parameters, FewParameters}
use Rattle.exo_reader.specs.Statements.{coordinate, coordinates, argument_of, argument, arguments, AnyNumber, StatementFits, BlockFits, statement}
use Rattle.exo_reader.specs.Items.{neighbours, setting, attribute, field, assertion, definition, item, unit}
use Rattle.exo_reader.specs.Strings as line
use Rattle.exo_reader.specs.Texts.{TextsAreOne}
use Rattle.exo_reader.proofs.Errors.{texts_one}

-- ---- values and expressions

pub name_eases : Eases name
name_eases limits x fits = keeps_eased limits _ _ _ fits

pub literal_eases : Eases literal
literal_eases limits n fits = keeps_eased limits _ _ _ fits

pub operand_eases : (level : ℕ) (room : Room) → Eases (operand level room)
operand_eases level room limits e fits = (fits.0, keeps_eased limits _ _ _ fits.1)

pub control_eases : Eases control
control_eases = operand_eases 0 (control_room most_depth)

pub datum_eases : Eases datum
datum_eases = operand_eases 0 data_room

-- ---- parts

pub enclosed_eases : {T : Type 0} (P : Phrase Token T) (Short : List T → Type 0) → Eases P → Eases (enclosed P Short)
enclosed_eases P Short eases limits ([], true) fits = absurd fits
enclosed_eases P Short eases limits ([], false) fits = tt
enclosed_eases P Short eases limits (a ∷ more, trailing) fits = (eases limits a fits.0, commas_ease P (Sign Comma) Short (Is (Sign Close)) eases limits (more, trailing) fits.1)

pub dims_ease : Eases dims
dims_ease = listing_eases control (Sign Comma) FewDimensions EndsList control_eases

pub maybe_dims_ease : Eases maybe_dims
maybe_dims_ease limits [] fits = tt
maybe_dims_ease limits (d ∷ more) fits = dims_ease limits (d ∷ more) fits

pub type_name_eases : Eases type_name
type_name_eases limits stride fits = tt
type_name_eases limits (named x) fits = name_eases limits x fits

pub maybe_memory_eases : Eases maybe_memory
maybe_memory_eases limits o fits = maybe_eased parts.memory name_eases limits o fits

form_eases : Eases form
form_eases limits (plain kind ds) fits = (type_name_eases limits kind fits.0, maybe_dims_ease limits ds fits.1)
form_eases limits (strided kind ds) fits = (type_name_eases limits kind fits.0, dims_ease limits ds fits.1)

parameter_eases : Eases parameter
parameter_eases limits p fits = (name_eases limits p.name fits.0, form_eases limits p.form fits.1, maybe_memory_eases limits p.memory fits.2)

parameters_ease : Eases parameters
parameters_ease = enclosed_eases parameter FewParameters parameter_eases

-- ---- statements

pub coordinate_eases : Eases coordinate
coordinate_eases limits (point e) fits = control_eases limits e fits
coordinate_eases limits (span a b) fits = (control_eases limits a fits.0, control_eases limits b fits.1)

pub coordinates_ease : Eases coordinates
coordinates_ease = listing_eases coordinate (Sign Comma) FewDimensions EndsList coordinate_eases

pub argument_eases : (P : Phrase Token Tree) → Eases P → Eases (argument_of P)
argument_eases P eases limits (value e) fits = eases limits e fits
argument_eases P eases limits (window x cs) fits = (name_eases limits x fits.0, coordinates_ease limits cs fits.1, fits.2)

pub arguments_ease : Eases arguments
arguments_ease = enclosed_eases argument AnyNumber (argument_eases control control_eases)

mutual
  statement_eases : (limits : Limits) (nesting : ℕ) (s : Statement) → StatementFits limits nesting s → StatementFits (eased limits) nesting s
  statement_eases limits nesting pass fits = tt
  statement_eases limits nesting (branch c a b) fits =
      (keeps_eased limits _ _ _ fits.0, control_eases limits c fits.1, fits.2, block_eases limits (nesting + 1) a fits.3, block_eases limits (nesting + 1) b fits.4)
  statement_eases limits nesting (loop i low high a) fits =
      (keeps_eased limits _ _ _ fits.0, name_eases limits i fits.1, control_eases limits low fits.2, control_eases limits high fits.3, fits.4, block_eases limits (nesting + 1) a fits.5)
  statement_eases limits nesting (allocate x kind ds m) fits =
      (name_eases limits x fits.0, type_name_eases limits kind fits.1, maybe_dims_ease limits ds fits.2, maybe_memory_eases limits m fits.3)
  statement_eases limits nesting (call f list trailing) fits = (name_eases limits f fits.0, arguments_ease limits (list, trailing) fits.1)
  statement_eases limits nesting (configure c f e) fits = (name_eases limits c fits.0, name_eases limits f fits.1, control_eases limits e fits.2)
  statement_eases limits nesting (assign x ds e) fits = (name_eases limits x fits.0, maybe_dims_ease limits ds fits.1, datum_eases limits e fits.2)
  statement_eases limits nesting (reduce x ds e) fits = (name_eases limits x fits.0, maybe_dims_ease limits ds fits.1, datum_eases limits e fits.2)
  statement_eases limits nesting (view y x cs) fits = (name_eases limits y fits.0, argument_eases datum datum_eases limits (window x cs) fits.1)

  block_eases : (limits : Limits) (nesting : ℕ) (b : Block) → BlockFits limits nesting b → BlockFits (eased limits) nesting b
  block_eases limits nesting end fits = tt
  block_eases limits nesting (next s more) fits = (statement_eases limits nesting s fits.0, block_eases limits nesting more fits.1)

pub some_ease : {T : Type 0} (P : Phrase Token T) (ends : Option Token → Type 0) → Eases P → Eases (some_of P ends)
some_ease P ends eases limits ts fits = (all_eased P eases limits ts fits.0, fits.1)

-- ---- items

pub neighbours_ease : Eases neighbours
neighbours_ease limits pieces fits = ((strings_ease limits pieces fits.0.0, keeps_eased limits _ _ _ fits.0.1), fits.1)
  where
    strings_ease : (limits : Limits) (pieces : List (List ℕ)) → AllFit (carried Str) limits pieces → AllFit (carried Str) (eased limits) pieces
    strings_ease = all_eased (carried Str) (λ limits x fits. tt)

setting_eases : Eases setting
setting_eases limits (strings pieces) fits = neighbours_ease limits pieces fits
setting_eases limits (int n) fits = literal_eases limits n fits
setting_eases limits yes fits = tt
setting_eases limits no fits = tt

attribute_eases : Eases attribute
attribute_eases limits a fits = (name_eases limits a.name fits.0, setting_eases limits a.value fits.1)

field_eases : Eases field
field_eases limits f fits = (name_eases limits f.name fits.0, type_name_eases limits f.kind fits.1)

definition_eases : Eases definition
definition_eases limits p fits = (
  name_eases limits p.name fits.0,
  parameters_ease limits (p.params, p.trailing) fits.1,
  all_eased assertion control_eases limits p.asserts fits.2,
  (some_ease (statement 1) (Is Dedent) (λ l s f. statement_eases l 1 s f) limits p.body fits.3.0, tt),
)

item_eases : Eases item
item_eases limits (procedure p) fits = definition_eases limits p fits
item_eases limits (instruction template p) fits = (neighbours_ease limits template fits.0, definition_eases limits p fits.1)
item_eases limits (configuration x list) fits = (name_eases limits x fits.0, (some_ease field (Is Dedent) field_eases limits list fits.1.0, tt))
item_eases limits (memory x list) fits = (name_eases limits x fits.0, (some_ease attribute (Is Dedent) attribute_eases limits list fits.1.0, tt))

unit_eases : Eases unit
unit_eases limits items fits = all_eased item item_eases limits items fits

-- ---- strings

pub window_eases : Eases line.window
window_eases limits (x, cs) fits = (name_eases limits x fits.0, (coordinates_ease limits cs fits.1.0, fits.1.1))

-- ---- texts

pub texts_are_one : TextsAreOne unit
texts_are_one = texts_one unit unit_eases

pub expressions_are_one : TextsAreOne control
expressions_are_one = texts_one control control_eases

pub windows_are_one : TextsAreOne line.window
windows_are_one = texts_one line.window window_eases
