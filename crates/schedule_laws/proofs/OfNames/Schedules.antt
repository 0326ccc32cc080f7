-- The lines of a schedule ask for names of the grammar, and its operators give no others.
use Rattle.std.proofs.Common.{◌≡◌, ℕ, Bool, true, false, if◌then◌else◌, List, [], ◌∷◌, map, take_while}
use Rattle.std.proofs.Common.{Some, None, refl, sym, subst, ◌∙◌, true≢false}
use Rattle.std.proofs.lemmas.List.Sums.{take_while-cons}
use Rattle.exo_meaning.specs.Orders.{Each}
use Rattle.text_lexer.specs.Bytes.{goes_on_name}
use Rattle.exo_types_laws.specs.Shown.Names.{IsName, BeginsName, AreNameBytes}
use Rattle.exo_types_laws.specs.Shown.Naming.{NamedUnitsAreWritable}
use Rattle.schedule_text.specs.Tree as tree
use Rattle.schedule_text.specs.Patterns.Names as pattern
use Rattle.schedule_calls.specs.declared.operator.ChangeOperator.{ChangeOperator}
use Rattle.schedule_calls.specs.declared.operator.OperatorName.{OperatorName}
use Rattle.schedule_calls.specs.Requests.{Change, Operation, Request, Apply, Search, Moved, Emit}
use Rattle.schedule_calls.specs.Readings.{IsNameOf, AsksName, AsksNames, AsksChange, AsksOperation}
use Rattle.schedule_calls.specs.Readings.{alone, with_control, with_word, mult_loops, specialize}
use Rattle.schedule_calls.specs.Readings.{commute_expr, bind_expr, expand_dim, stage_mem}
use Rattle.schedule_calls.specs.Readings.{write_config, bind_config, divide_loop}
use Rattle.schedule_calls.specs.Readings.{eliminate_dead_code, at, whole, rename}
use Rattle.schedule_calls.specs.Readings.{apply, search, moved, emit}
use Rattle.schedule_laws.specs.Operators.Operators.{act_of}
use Rattle.schedule_laws.specs.Operators.Rules.{ChangeTakes, Takes}
use Rattle.schedule_laws.specs.Operators.Laws.{SchedulesDerive}
use Rattle.schedule_laws.specs.Names.Rules.{IsNaming}
use Rattle.schedule_laws.specs.Names.Runs.{IsNamingAct}
use Rattle.schedule_laws.specs.Names.Schedules.{GivesNames, LinesGiveNames}
use Rattle.schedule_laws.specs.Names.Schedules.{SchedulesKeepNames, VersionsAreWritable}
use Rattle.schedule_laws.proofs.OfOperators.Each.{of_operation}
use Rattle.schedule_laws.proofs.OfNames.Rules.{rules_give_names}
use Rattle.schedule_laws.proofs.OfNames.Runs.{runs_keep_names}

-- ---- names in lines

begins : (x : List ℕ) → pattern.begins x ≡ true → BeginsName x
begins [] h = absurd (true≢false (sym h))
begins (b ∷ x) h = h

bytes : (x : List ℕ) → take_while goes_on_name x ≡ x → AreNameBytes x
bytes [] h = tt
bytes (b ∷ x) h =
    let s = by (goes_on_name b) refl (sym (take_while-cons goes_on_name b x) ∙ h) in
    (s.0, bytes x s.1)
  where
    same_rest : {y z : List ℕ} → b ∷ y ≡ b ∷ z → y ≡ z
    same_rest e = cc

    by : (t : Bool) → goes_on_name b ≡ t
        → (if t then b ∷ take_while goes_on_name x else []) ≡ b ∷ x
        → (goes_on_name b ≡ true) × (take_while goes_on_name x ≡ x)
    by true e h = (e, same_rest h)
    by false e h = cc

is_name : (x : List ℕ) → pattern.IsName x → IsName x
is_name x is = record {
  begins = begins x is.begins;
  bytes = bytes x is.goes_on;
  some = is.no_any;
  free = is.no_word;
}

module _ (names : pattern.NamesAreOne) where
  name_of_pieces : (pieces : List (List ℕ)) (name : List ℕ) → IsNameOf pieces name → IsName name
  name_of_pieces pieces name h = subst IsName (sym h.0) (is_name _ (names.spelled _ h.1))

  name_asked : (a : tree.Argument) (name : List ℕ) → AsksName a name → IsName name
  name_asked (tree.string pieces) name h = name_of_pieces pieces name h
  name_asked (tree.cursor c) name h = absurd h
  name_asked (tree.int n) name h = absurd h
  name_asked (tree.pair a b) name h = absurd h
  name_asked (tree.key k v) name h = absurd h

  two_asked : (a : tree.Argument) (outer inner : List ℕ) → AsksNames a (outer, inner)
      → IsName outer × IsName inner
  two_asked (tree.pair a b) outer inner h =
      (name_of_pieces a outer h.0, name_of_pieces b inner h.1)
  two_asked (tree.string pieces) outer inner h = absurd h
  two_asked (tree.cursor c) outer inner h = absurd h
  two_asked (tree.int n) outer inner h = absurd h
  two_asked (tree.key k v) outer inner h = absurd h

  names_in_change : (o : ChangeOperator) (args : List tree.Argument) (change : Change)
      → AsksChange o args change → ChangeTakes IsName change
  names_in_change _ _ _ (alone o) = tt
  names_in_change _ _ _ (with_control o a e h) = tt
  names_in_change _ _ _ (with_word o a word h) = tt
  names_in_change _ _ _ (mult_loops a name h) = name_asked a name h
  names_in_change _ _ _ (specialize a c h) = tt
  names_in_change _ _ _ (commute_expr a x h) = tt
  names_in_change _ _ _ (bind_expr a b x name h k) = name_asked b name k
  names_in_change _ _ _ (expand_dim a b size point h k) = tt
  names_in_change _ _ _ (stage_mem a b keys w name accum h k i) = name_asked b name k
  names_in_change _ _ _ (write_config a b c config field e h i k) = tt
  names_in_change _ _ _ (bind_config a b c param config field h i k) = tt
  names_in_change _ _ _ (divide_loop a b keys d h) = two_asked b d.outer d.inner h.names
  names_in_change _ _ _ (eliminate_dead_code keys keep h) = tt

  names_asked : (o : OperatorName) (args : List tree.Argument) (operation : Operation)
      → AsksOperation o args operation → Takes IsName operation
  names_asked _ _ _ (at o a more asked change h k) = names_in_change o more change k
  names_asked _ _ _ (whole o) = tt
  names_asked _ _ _ (rename a name h) = name_asked a name h

  pub lines_give_names : LinesGiveNames
  lines_give_names _ _ (apply bind name of args o operation there h k) =
      names_asked o args.more operation k
  lines_give_names _ _ (search bind f p nth h) = tt
  lines_give_names _ _ (moved bind of m ms) = tt
  lines_give_names _ _ (emit name) = tt

-- ---- schedules

acts_give_names : (requests : List Request) → Each GivesNames requests
    → Each IsNamingAct (map act_of requests)
acts_give_names [] h = tt
acts_give_names (Apply bind of o ∷ more) h = (of_operation IsNaming IsName rules_give_names o h.0, acts_give_names more h.1)
acts_give_names (Search bind of p nth moves ∷ more) h = (tt, acts_give_names more h.1)
acts_give_names (Moved bind of moves ∷ more) h = (tt, acts_give_names more h.1)
acts_give_names (Emit name ∷ more) h = (tt, acts_give_names more h.1)

pub schedules_keep_names : SchedulesKeepNames
schedules_keep_names unit shown requests v are asked ran =
    runs_keep_names unit shown (map act_of requests) v are (acts_give_names requests asked) ran

pub versions_are_writable : SchedulesKeepNames → SchedulesDerive → NamedUnitsAreWritable
    → VersionsAreWritable
versions_are_writable keep derive writable unit shown requests v k p is quiet room are asked ran there =
    writable v.unit k p (derive unit shown requests v is quiet room ran).formed
    (keep unit shown requests v are asked ran) there
