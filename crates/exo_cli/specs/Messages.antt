-- Messages on words and files, each a line.
use Rattle.std.specs.Prelude.{ℕ, List, [], ◌∷◌, codes}
use Rattle.compile_stages.specs.Messages.{line, refused}

-- how the program is called
abbrev pub usage : List ℕ
usage =
    line
    (codes "usage: exoc compile PROCS SCHEDULE | check PROCS | show PROCS SCHEDULE NAME | gen N"
    ∷ [])

-- the file of this name was not read
abbrev pub cannot_read : List ℕ → List ℕ
cannot_read name = line (codes "cannot read " ∷ name ∷ [])

-- the file of this name is refused as a whole
abbrev pub file_refused : List ℕ → List ℕ → List ℕ
file_refused = refused
