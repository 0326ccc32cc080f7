use Rattle.std.proofs.Common.{◌≡◌, map, drop}
use Rattle.affine_places.specs.Facts.{fact_of}
use Rattle.affine_places.specs.PlainFacts.{plain_entry}
use Rattle.affine_places.proofs.facts.Facts.get.Given as goal

abbrev pub invariant-loop-e : goal.invariant-loop-e
invariant-loop-e l = fact_of l.self l.f.0 ≡ fact_of (map plain_entry (drop l.e-index l.e-items)) l.f.0
