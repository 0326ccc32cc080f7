-- The plain form of what stands for the names of a callee.
use Rattle.exo_tree.specs.PlainProcedure.{procedure}
use Rattle.inplace_laws.specs.Inline.{is_param}
use Rattle.match_laws.specs.Inline.AtOnce.{Put}
use Rattle.match_laws.specs.Moved as plain
use Rattle.match_laws.specs.Matched.{moving}
use Rattle.block_matches.specs.declared.moving.Moving.{Moving}
use Rattle.block_matches.specs.Held.{partners_in, determined_in}
use Rattle.block_matches.specs.Known.{puts_by}

abbrev pub plain_moving : Moving → plain.Moving
plain_moving m =
    moving (is_param (procedure m.callee.now)) (partners_in m.to.now) (determined_in m.given.now)

abbrev pub puts_in : Moving → Put
puts_in m =
    puts_by (is_param (procedure m.callee.now)) (partners_in m.to.now) (determined_in m.given.now)
