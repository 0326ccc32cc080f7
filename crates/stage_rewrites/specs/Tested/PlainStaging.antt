-- The plain form of a window, and of the buffer that is to stand for it.
use Rattle.buffer_laws.specs.StageMem as plain
use Rattle.stage_rewrites.specs.declared.tested.staging.Staging.{Staging}

abbrev pub plain_staging : Staging → plain.Staging
plain_staging w = record {
  root = w.root.0;
  coords = w.coords.now;
  name = w.name.now;
  accum = w.accum;
}
