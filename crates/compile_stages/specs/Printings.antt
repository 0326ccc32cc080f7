-- What is printed: the versions that are emitted and the functions that they call.
use Rattle.std.specs.Prelude.{ℕ, ◌==◌, ◌||◌, Bool, false, List, [], ◌∷◌}
use Rattle.std.specs.Prelude.{Option, Some, None}
use Rattle.exo_tree.specs.Tree.{Program}
use Rattle.exo_tree.specs.Named.{name_of}
use Rattle.config_laws.specs.Differing.{differing}
use Rattle.memory_kinds.specs.Faults.{fault_of}
use Rattle.memory_kinds.specs.declared.error.KindError.{KindError}
use Rattle.c_lowering.specs.Made.LoweredUnit.{Printing}
use Rattle.c_unit_laws.specs.Listings.{printings}
use Rattle.schedule_laws.specs.Versions.Versions.{Versions, version_at}
use Rattle.schedule_run.specs.Roots.{root_of}

-- the fields in which a version may differ from another one of which it was made
abbrev pub differing_from : Versions → ℕ → ℕ → List ℕ
differing_from v k from = differing v.unit v.origins k from

-- ---- what is printed

-- a version to print, with the name of the procedure of the text from which it comes, and the
-- fields in which it may differ from that
abbrev pub printing_of : Versions → ℕ → Printing
printing_of v k = record {
  proc = k;
  origin = name_of (version_at v (root_of v k));
  fields = differing_from v k (root_of v k);
}

abbrev pub is_emitted : List ℕ → ℕ → Bool
is_emitted [] k = false
is_emitted (n ∷ ns) k = (k == n) || is_emitted ns k

-- each version once, in the order of the unit, and no instruction
abbrev pub printings_of : Versions → List Printing
printings_of v = printings v.unit (is_emitted v.emitted) (printing_of v)

-- ---- rules on memories

abbrev pub or_later : ℕ → Option KindError → Option (ℕ × KindError) → Option (ℕ × KindError)
or_later k None later = later
or_later k (Some e) later = Some (k, e)

-- the first listed procedure that breaks one, and the first that it breaks
abbrev pub memory_fault : Program → List Printing → Option (ℕ × KindError)
memory_fault program [] = None
memory_fault program (w ∷ ws) =
    or_later w.proc (fault_of program w.proc) (memory_fault program ws)
