-- Versions: the procedures of a text and those that steps made of them, by their numbers.
use Rattle.std.specs.Prelude.{ℕ, suc, ◌+◌, ◌++◌, List, [], ◌∷◌, length, map, if◌then◌else◌}
use Rattle.std.specs.Prelude.{Option, Some, None, slice_get}
use Rattle.std.specs.Str.{bytes_eq}
use Rattle.exo_tree.specs.Tree.{Procedure, Program}
use Rattle.config_laws.specs.FieldRule as config
use Rattle.config_laws.specs.Differing.{Origin}
use Rattle.cursor_forward.specs.Cursors.{Cursor}
use Rattle.cursor_forward.specs.Shifts.{Edits, edits_of}
use Rattle.cursor_forward.specs.Proposals.{Plan}
use Rattle.step_rules.specs.Lawful.{config_side}
use Rattle.tree_laws.specs.Findings.Versions.{with_version}

-- a procedure of the text was made of none
abbrev pub of_text : Origin
of_text = record { parent = None; place = []; side = config.Before; fields = [] }

-- and nothing went into it
abbrev pub unmoved : Edits
unmoved = edits_of [] 0 0 []

-- what a step made of version k: the fields may differ from its point on
abbrev pub made_of : ℕ → Plan → Origin
made_of k m = record {
  parent = Some k;
  place = m.place;
  side = config_side m.side;
  fields = m.fields;
}

-- what a name holds: a version, or a cursor in one
pub data Held : Type 0 where
  Version : ℕ → Held
  At : ℕ → Cursor → Held

-- The procedures of the unit are the versions. Each has its origin under its number, and where the
-- statements went by the step that made it. The latest binding of a name stands last. The
-- obligations are those of the unit, of what steps had to show, and of results.
pub record Versions : Type 0 where
  pub unit : Program
  pub origins : List Origin
  pub edits : List Edits
  pub names : List (List ℕ × Held)
  pub emitted : List ℕ
  pub steps : ℕ
  pub obligations : ℕ

abbrev pub version_at : Versions → ℕ → Option Procedure
version_at v k = slice_get v.unit.procedures k

-- ---- the beginning

abbrev pub names_from : ℕ → List Procedure → List (List ℕ × Held)
names_from k [] = []
names_from k (p ∷ ps) = (p.name, Version k) ∷ names_from (suc k) ps

-- before the first line, each procedure of the text is held under its name; so many obligations
-- were shown
abbrev pub started : Program → ℕ → Versions
started unit shown = record {
  unit = unit;
  origins = map (λ p. of_text) unit.procedures;
  edits = map (λ p. unmoved) unit.procedures;
  names = names_from 0 unit.procedures;
  emitted = [];
  steps = 0;
  obligations = shown;
}

-- ---- names

-- what the name holds behind these bindings
abbrev pub held_after : Option Held → List (List ℕ × Held) → List ℕ → Option Held
held_after found [] name = found
held_after found (binding ∷ more) name =
    held_after (if bytes_eq binding.0 name then Some binding.1 else found) more name

abbrev pub held : Versions → List ℕ → Option Held
held v name = held_after None v.names name

abbrev pub as_version : Option Held → Option ℕ
as_version None = None
as_version (Some (Version k)) = Some k
as_version (Some (At k c)) = None

-- the version that the name holds
abbrev pub version_of : Versions → List ℕ → Option ℕ
version_of v name = as_version (held v name)

abbrev pub bound : List ℕ → Held → Versions → Versions
bound name what v = record v { names = v.names ++ (name, what) ∷ [] }

-- ---- steps

-- with what a step from version k made, under this name; so many obligations were shown for it
abbrev pub with_step : List ℕ → ℕ → Plan → ℕ → Versions → Versions
with_step name k m shown v =
    bound name (Version (length v.unit.procedures))
    (record v {
      unit = with_version v.unit m.proc;
      origins = v.origins ++ made_of k m ∷ [];
      edits = v.edits ++ m.edits ∷ [];
      steps = suc v.steps;
      obligations = v.obligations + shown;
    })
