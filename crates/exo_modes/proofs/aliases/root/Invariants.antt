-- The aliases that are left decide.
use Rattle.std.proofs.Common.{◌≡◌, drop}
use Rattle.exo_modes.specs.Aliases.{root_among, roots_in}
use Rattle.exo_modes.proofs.aliases.root.Given as goal

abbrev pub invariant-loop-alias : goal.invariant-loop-alias
invariant-loop-alias l = root_among (drop l.alias-index l.aliases) l.name l.root ≡ roots_in l.aliases l.name
