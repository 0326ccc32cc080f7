-- The names that are left decide.
use Rattle.std.proofs.Common.{◌≡◌, drop, option_map}
use Rattle.std.specs.Option.{option_copied}
use Rattle.exo_effects.specs.PlainParts.{plain_part, part_among, parts_in}
use Rattle.exo_effects.proofs.parts.Parts.get.Given as goal

abbrev pub invariant-loop-named : goal.invariant-loop-named
invariant-loop-named l =
    part_among (drop l.named-index l.self.names.items) l.x.0 (option_map plain_part (option_copied l.found))
    ≡ parts_in l.self l.x.0
