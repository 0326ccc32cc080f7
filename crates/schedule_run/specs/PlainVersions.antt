-- Versions in memory, as plain ones.
use Rattle.std.specs.Prelude.{ℕ, List, map}
use Rattle.exo_tree.specs.PlainUnit.{program}
use Rattle.config_live.specs.Origins.{origin}
use Rattle.cursor_forward.specs.PlainCursor.{plain_cursor}
use Rattle.schedule_laws.specs.Versions.Versions as plain
use Rattle.schedule_run.specs.declared.session.Held.{Held}
use Rattle.schedule_run.specs.declared.session.Held.TheVariants.{Version, At}
use Rattle.schedule_run.specs.declared.session.Binding.{Binding}
use Rattle.schedule_run.specs.declared.session.Session.{Session}

abbrev pub held : Held → plain.Held
held (Version k) = plain.Version k.0
held (At k c) = plain.At k.0 (plain_cursor c)

abbrev pub binding : Binding → List ℕ × plain.Held
binding b = (b.name, held b.held)

abbrev pub versions : Session → plain.Versions
versions s = record {
  unit = program s.unit;
  origins = map origin s.origins.items;
  edits = s.edits.items;
  names = map binding s.names.items;
  emitted = map (λ k. k.0) s.emitted.items;
  steps = s.steps;
  obligations = s.obligations;
}
