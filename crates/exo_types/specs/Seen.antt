-- What the values of this crate say.
use Rattle.exo_modes.specs.Seen.{row_writes}
use Rattle.exo_types.specs.declared.call.Callee.{Callee}
use Rattle.exo_types.specs.ArgumentRules.{Signature}

-- a procedure as a call sees it
abbrev pub signature : Callee → Signature
signature c = record { params = c.params.now; writes = row_writes c.writes.now }
