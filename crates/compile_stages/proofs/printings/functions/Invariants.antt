-- What is made, and then what is left, are all.
use Rattle.std.proofs.Common.{◌≡◌, ◌++◌, drop, map}
use Rattle.exo_modes.specs.Calls.Marked.{contains}
use Rattle.c_printer.specs.PlainPrinted.{printing}
use Rattle.c_unit_laws.specs.Listings.{printings_from}
use Rattle.schedule_run.specs.PlainVersions.{versions}
use Rattle.compile_stages.specs.Printings.{printing_of}
use Rattle.compile_stages.proofs.printings.functions.Given as goal

abbrev pub invariant-loop-k : goal.invariant-loop-k
invariant-loop-k l =
    map printing l.what.items
    ++ printings_from (contains l.marks) (printing_of (versions l.session)) l.k
    (drop l.k (versions l.session).unit.procedures)
    ≡ printings_from (contains l.marks) (printing_of (versions l.session)) 0
    (versions l.session).unit.procedures
