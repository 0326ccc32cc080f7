-- The plain form of a part of a template.
use Rattle.std.specs.Prelude.{string_bytes}
use Rattle.c_lowering.specs.Made.Lowered as parts
use Rattle.c_lowering.specs.declared.templates.Hole.{Hole}
use Rattle.c_lowering.specs.declared.templates.Hole.TheVariants.{Bytes, InBraces}

abbrev pub plain_hole : Hole → parts.Hole
plain_hole (Bytes text) = parts.Bytes (string_bytes text)
plain_hole (InBraces name) = parts.InBraces (string_bytes name)
