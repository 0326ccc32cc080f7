-- A schedule that keeps limits keeps fewer of them; so a text has one schedule, or is refused at one token for one cause.
use Rattle.text_phrases.proofs.Eased.{Eases, keeps_eased, all_eased, commas_ease}
use Rattle.text_lexer.specs.declared.token.Token.TheVariants.{Sign}
use Rattle.text_lexer.specs.declared.token.Sign.TheVariants.{Comma}
use Rattle.exo_reader.specs.Texts.{TextsAreOne}
use Rattle.exo_reader.proofs.Errors.{texts_one}
use Rattle.exo_reader.proofs.Eased.{name_eases, literal_eases, neighbours_ease}
use Rattle.schedule_text.specs.Tree as tree
use Rattle.schedule_text.specs.Tree.{go, expand, item, held, text, yes, no, cursor, string, int, pair, key, operation, search, moved, bind, emit}
use Rattle.schedule_text.specs.Grammar.{move, moves, found, key_value, argument, AnyNumber, arguments, act, line, schedule}
use Rattle.schedule_text.proofs.Arguments.{AtClose}

move_eases : Eases move
move_eases limits (go direction) fits = tt
move_eases limits (expand a b) fits = (literal_eases limits a fits.0, literal_eases limits b fits.1)
move_eases limits (item k) fits = literal_eases limits k fits

moves_ease : Eases moves
moves_ease limits ms fits = all_eased move move_eases limits ms fits

found_eases : Eases found
found_eases limits f fits = (name_eases limits f.version fits.0, neighbours_ease limits f.pattern fits.1, moves_ease limits f.moves fits.2)

key_value_eases : Eases key_value
key_value_eases limits (text pieces) fits = neighbours_ease limits pieces fits
key_value_eases limits yes fits = tt
key_value_eases limits no fits = tt

argument_eases : Eases argument
argument_eases limits (cursor (held x ms)) fits = (name_eases limits x fits.0, moves_ease limits ms fits.1)
argument_eases limits (cursor (tree.found f)) fits = found_eases limits f fits
argument_eases limits (string pieces) fits = neighbours_ease limits pieces fits
argument_eases limits (int n) fits = literal_eases limits n fits
argument_eases limits (pair a b) fits = (neighbours_ease limits a fits.0, neighbours_ease limits b fits.1)
argument_eases limits (key x v) fits = (name_eases limits x fits.0, key_value_eases limits v fits.1)

arguments_ease : Eases arguments
arguments_ease limits l fits = (argument_eases limits l.head fits.0, commas_ease argument (Sign Comma) AnyNumber AtClose argument_eases limits (l.more, l.trailing) fits.1)

act_eases : Eases act
act_eases limits (operation x l) fits = (name_eases limits x fits.0, fits.1, arguments_ease limits l fits.2)
act_eases limits (search f) fits = found_eases limits f fits
act_eases limits (moved x m ms) fits = (name_eases limits x fits.0, move_eases limits m fits.1, moves_ease limits ms fits.2)

line_eases : Eases line
line_eases limits (bind x a) fits = (name_eases limits x fits.0, act_eases limits a fits.1)
line_eases limits (emit x) fits = name_eases limits x fits

schedule_eases : Eases schedule
schedule_eases limits lines fits = (all_eased line line_eases limits lines fits.0, keeps_eased limits _ _ _ fits.1)

pub schedules_are_one : TextsAreOne schedule
schedules_are_one = texts_one schedule schedule_eases
