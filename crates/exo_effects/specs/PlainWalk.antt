-- What the walk over a piece sees, in plain forms.
use Rattle.std.specs.Prelude.{◌≡◌, ℕ, Bool, true, false, List, if◌then◌else◌, [], ◌∷◌, ◌++◌}
use Rattle.exo_tree.specs.Tree.{Control, Datum, Argument, Param, Statement, Block}
use Rattle.exo_tree.specs.PlainUnit.{program}
use Rattle.exo_meaning.specs.Modes as meaning
use Rattle.exo_meaning.specs.Modes.{modes_at}
use Rattle.exo_modes.specs.Seen.{table_says}
use Rattle.text_show.specs.Layout.{Text}
use Rattle.text_show.specs.Words.{Words}
use Rattle.text_show.specs.Seen.{words_in}
use Rattle.exo_effects.specs.Parts.{Part}
use Rattle.exo_effects.specs.Uses as uses
use Rattle.exo_effects.specs.Uses.{Use, use_of, params_of}
use Rattle.exo_effects.specs.PlainParts.{parts_in}
use Rattle.exo_effects.specs.PlainGuards.{facts_of, all_facts}
use Rattle.exo_effects.specs.PlainUses.{variables_of, all_variables}
use Rattle.exo_effects.specs.declared.guards.Guard.{Guard}
use Rattle.exo_effects.specs.declared.inside.Inside.{Inside}
use Rattle.exo_effects.specs.declared.inside.EffectSite.{EffectSite}

abbrev pub inside_of : Inside → uses.Inside
inside_of at = record {
  parts = parts_in at.parts;
  own = all_variables at.guards.items;
  round = all_facts at.guards.items;
}

-- a part in a mode, where that is had
abbrev pub use_if : Bool → uses.Inside → Text → Part → meaning.Mode → List Use
use_if had at text p mode = if had then use_of at text p mode ∷ [] else []

module _ (s : EffectSite) where
  abbrev pub words_by : Words
  words_by = words_in s.words.now

  abbrev pub params_by : ℕ → List Param
  params_by = params_of (program s.unit.now)

  abbrev pub modes_by : ℕ → meaning.Modes
  modes_by = modes_at (table_says s.modes.now)

  abbrev pub cell_uses : uses.Inside → meaning.Mode → ℕ → List Control → List Use
  cell_uses = uses.cell_uses words_by params_by modes_by

  abbrev pub data_uses : uses.Inside → Datum → List Use
  data_uses = uses.data_uses words_by params_by modes_by

  abbrev pub arguments_uses : uses.Inside → meaning.Modes → List Param → List Argument → List Use
  arguments_uses = uses.arguments_uses words_by params_by modes_by

  abbrev pub argument_uses : uses.Inside → meaning.Modes → Param → Argument → List Use
  argument_uses = uses.argument_uses words_by params_by modes_by

  abbrev pub step_uses : uses.Inside → Statement → List Use
  step_uses = uses.step_uses words_by params_by modes_by

  abbrev pub block_uses : uses.Inside → Block → List Use
  block_uses = uses.block_uses words_by params_by modes_by

-- in a loop or branch, where that says something
abbrev pub guarded : Bool → Guard → uses.Inside → uses.Inside
guarded true guard at = record at {
  own = at.own ++ variables_of guard;
  round = at.round ++ facts_of guard;
}
guarded false guard at = at

-- a walk has left a statement with the names and the guards that it came with
abbrev pub IsLeft : Inside → Inside → Type 0
IsLeft old new =
    (new.parts.names.items ≡ old.parts.names.items) × (new.guards.items ≡ old.guards.items)
