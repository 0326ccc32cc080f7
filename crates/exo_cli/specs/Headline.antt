-- What the program promises where it ends well.
use Rattle.std.specs.Prelude.{◌≡◌, ◌⊎◌, ℕ, List, Option, Some}
use Rattle.exo_cli.specs.Outside.Outside.{Folder, content_of, with_more}
use Rattle.compile_stages.specs.Promise.{Promise}
use Rattle.compile_stages.specs.Shown.{Displayed}
use Rattle.compile_stages.specs.Generated.{Generated}
use Rattle.exo_cli.specs.Words.{Compile, Show, Gen, command_of}
use Rattle.exo_cli.specs.Counted.{Counted}

-- The words ask to compile two files, which are told; what was written to the output is C, and it
-- keeps the promise.
pub record Promised (words : List (List ℕ)) (files : Folder)
    (before after : Option (List ℕ)) : Type 0 where
  pub procs : List ℕ
  pub schedule : List ℕ
  pub unit : List ℕ
  pub lines : List ℕ
  pub printed : List ℕ
  pub asked : command_of words ≡ Some (Compile procs schedule)
  pub unit_file : content_of files procs ≡ Some unit
  pub schedule_file : content_of files schedule ≡ Some lines
  pub written : after ≡ with_more before printed
  pub kept : Promise unit lines printed

-- The words ask to show a version, by two files, which are told; what was written to the output is
-- the text of that version.
pub record Shown (words : List (List ℕ)) (files : Folder)
    (before after : Option (List ℕ)) : Type 0 where
  pub procs : List ℕ
  pub schedule : List ℕ
  pub name : List ℕ
  pub unit : List ℕ
  pub lines : List ℕ
  pub text : List ℕ
  pub asked : command_of words ≡ Some (Show procs schedule name)
  pub unit_file : content_of files procs ≡ Some unit
  pub schedule_file : content_of files schedule ≡ Some lines
  pub written : after ≡ with_more before text
  pub kept : Displayed unit lines name text

-- The words ask for the texts of a number; what was written to the output is the summary of C that
-- keeps the promise.
pub record Summed (words : List (List ℕ)) (before after : Option (List ℕ)) : Type 0 where
  pub number : ℕ
  pub report : List ℕ
  pub asked : command_of words ≡ Some (Gen number)
  pub written : after ≡ with_more before report
  pub kept : Generated number report

-- by the command that the words are
abbrev pub KeepsItsPromise :
    List (List ℕ) → Folder → Option (List ℕ) → Option (List ℕ) → Type 0
KeepsItsPromise words files before after =
    Promised words files before after
    ⊎ (Shown words files before after
    ⊎ (Counted words files before after
    ⊎ Summed words before after))
