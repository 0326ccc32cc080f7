-- What the program promises of a check that ends well.
use Rattle.std.specs.Prelude.{◌≡◌, ℕ, List, Option, Some}
use Rattle.exo_cli.specs.Outside.Outside.{Folder, content_of, with_more}
use Rattle.compile_stages.specs.Counted.{IsCounted}
use Rattle.exo_cli.specs.Words.{Check, command_of}

-- The words ask to check a file, which is told; what was written to the output is the count of what
-- its procedures owe, all of which is shown.
pub record Counted (words : List (List ℕ)) (files : Folder)
    (before after : Option (List ℕ)) : Type 0 where
  pub procs : List ℕ
  pub unit : List ℕ
  pub report : List ℕ
  pub asked : command_of words ≡ Some (Check procs)
  pub unit_file : content_of files procs ≡ Some unit
  pub written : after ≡ with_more before report
  pub kept : IsCounted unit report
