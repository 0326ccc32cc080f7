-- What holds where the stages pass.
use Rattle.std.specs.Prelude.{ℕ, List}
use Rattle.compile_stages.specs.Stages.{Passed, Compiles, Displays, Generates, Checks}
use Rattle.compile_stages.specs.Promise.{Promise}
use Rattle.compile_stages.specs.Shown.{Displayed}
use Rattle.compile_stages.specs.Generated.{Generated}
use Rattle.compile_stages.specs.Counted.{IsCounted}

-- the C that is made keeps the promise
abbrev pub CompiledIsPromised : Type 0
CompiledIsPromised =
    (source schedule printed : List ℕ)
    → Compiles source schedule (Passed printed)
    → Promise source schedule printed

-- the text of a version is that of one that comes from a procedure of the text
abbrev pub DisplayedIsPromised : Type 0
DisplayedIsPromised =
    (source schedule name text : List ℕ)
    → Displays source schedule name (Passed text)
    → Displayed source schedule name text

-- the summary of the texts of a number is one of C that keeps the promise
abbrev pub GeneratedIsPromised : Type 0
GeneratedIsPromised =
    (n : ℕ) (report : List ℕ) → Generates n (Passed report) → Generated n report

-- what is counted is shown, and nothing of the unit faults
abbrev pub CheckedIsCounted : Type 0
CheckedIsCounted =
    (source report : List ℕ) → Checks source (Passed report) → IsCounted source report
