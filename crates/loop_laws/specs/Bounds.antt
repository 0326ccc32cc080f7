-- Bounds that are to agree.
use Rattle.std.specs.Prelude.{if◌then◌else◌, Option, Some, None}
use Rattle.exo_tree.specs.Tree.{Control}
use Rattle.affine_places.specs.Agreement.{agree, agreement_fits}
use Rattle.affine_places.specs.Readings.{extent_reading}
use Rattle.cursor_forward.specs.Causes.{Cause, WrongShape, Form, WideNumber}

-- why they do not: their normal forms are made first
abbrev pub bounds_differ : Control → Control → Option Cause
bounds_differ a b =
    if agreement_fits extent_reading a b
    then (if agree extent_reading a b then None else Some WrongShape)
    else Some (Form WideNumber)
