-- The plain form of an access.
use Rattle.match_laws.specs.Windows as plain
use Rattle.block_matches.specs.declared.uses.Use.{Use}

abbrev pub plain_use : Use → plain.Use
plain_use u =
    record { path = u.path.now; ours = u.ours.now; name = u.name.0; theirs = u.theirs.now }
