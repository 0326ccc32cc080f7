-- Messages on texts, each a line.
use Rattle.std.specs.Prelude.{ℕ, List, [], ◌∷◌, ◌++◌, codes}
use Rattle.std.specs.Fmt.{decimal}

-- the pieces, one after the other, and the end of the line
abbrev pub ended : List (List ℕ) → List ℕ
ended [] = 10 ∷ []
ended (piece ∷ pieces) = piece ++ ended pieces

-- a line that begins with the program's name
abbrev pub line : List (List ℕ) → List ℕ
line pieces = codes "exoc: " ++ ended pieces

-- a name is refused by itself: the file of that name, or the name of a version
abbrev pub refused : List ℕ → List ℕ → List ℕ
refused name why = line (name ∷ codes ": " ∷ why ∷ [])

-- a name of the unit is refused: that of a procedure or of a field
abbrev pub name_refused : List ℕ → List ℕ → List ℕ → List ℕ
name_refused file name why = line (file ∷ codes ": " ∷ name ∷ codes ": " ∷ why ∷ [])

-- a line of a schedule is refused: its number, its operator and why
abbrev pub line_refused : List ℕ → ℕ → List ℕ → List ℕ → List ℕ
line_refused file number operator why =
    line (file ∷ codes ":" ∷ decimal number ∷ codes ": " ∷ operator ∷ codes " " ∷ why ∷ [])

-- a text is refused at a place: its line, its column and why
abbrev pub place_refused : List ℕ → ℕ → ℕ → List ℕ → List ℕ
place_refused file row column why =
    line
    (file ∷ codes ":" ∷ decimal row ∷ codes ":" ∷ decimal column ∷ codes ": " ∷ why ∷ [])

-- a unit is refused at a line
abbrev pub unit_refused : List ℕ → ℕ → List ℕ → List ℕ
unit_refused file row why = line (file ∷ codes ":" ∷ decimal row ∷ codes ": " ∷ why ∷ [])

-- so many obligations, and all are shown
abbrev pub checked : ℕ → List ℕ
checked count = decimal count ++ codes " obligations\nok\n"

-- so many procedures and steps, so much that was shown, and so many lines of C
abbrev pub summary : ℕ → ℕ → ℕ → ℕ → List ℕ
summary procedures steps obligations lines =
    ended
    (codes "procedures " ∷ decimal procedures
    ∷ codes "\nsteps " ∷ decimal steps
    ∷ codes "\nobligations " ∷ decimal obligations
    ∷ codes "\nlines " ∷ decimal lines
    ∷ [])
