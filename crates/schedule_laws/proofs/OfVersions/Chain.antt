-- Derived versions are those of their origins, so each refines all of which it was made.
use Rattle.exo_meaning.specs.Run.{program_world}
use Rattle.config_laws.specs.Differing.{AreVersions, DescendantsRefine}
use Rattle.schedule_laws.specs.Versions.Versions.{Versions}
use Rattle.schedule_laws.specs.Versions.Laws.{AreDerived, VersionsRefine, VersionsKeepHeads}

pub are_versions : (v : Versions) → AreDerived v
    → AreVersions (program_world v.unit) v.unit v.origins
are_versions v derived = record {
  safe = λ k q there s good. derived.quiet k q there s good;
  steps = λ j k q above there.
      let one = derived.made j k q above there in
      (one.0, one.1, record { head = one.2.head; refines = one.2.refines });
  fields = derived.fields;
}

module _ (descend : DescendantsRefine) where
  pub versions_refine : VersionsRefine
  versions_refine v from k p q derived h i j =
      (descend v.unit v.origins (are_versions v derived) from k p q h i j).1

  pub versions_keep_heads : VersionsKeepHeads
  versions_keep_heads v from k p q derived h i j =
      (descend v.unit v.origins (are_versions v derived) from k p q h i j).0
