-- The unit and the schedule of a number: plain loops over matrices of many widths, each divided and
-- reordered.
use Rattle.std.specs.Prelude.{ℕ, zero, suc, ◌+◌, ◌*◌, ◌%◌, ◌++◌, List, [], ◌∷◌, codes}
use Rattle.std.specs.Fmt.{decimal}

abbrev pub procedures : ℕ → ℕ
procedures n = 64 + n % 193

-- the pieces, one after the other
abbrev pub pieced : List (List ℕ) → List ℕ
pieced [] = []
pieced (piece ∷ []) = piece
pieced (piece ∷ other ∷ pieces) = piece ++ pieced (other ∷ pieces)

-- the procedure m: its number, the width of its matrices and the factor
abbrev pub procedure_text : ℕ → ℕ → List ℕ
procedure_text n m =
    let width = 1 + (7 * n + 13 * m) % 97 in
    let factor = 1 + (n + 3 * m) % 1000 in
    pieced
    (codes "@proc\ndef g" ∷ decimal m
    ∷ codes "(n: size, x: i32[n, " ∷ decimal width
    ∷ codes "], y: i32[n, " ∷ decimal width
    ∷ codes "]):\n    for i in seq(0, n):\n        for j in seq(0, " ∷ decimal width
    ∷ codes "):\n            x[i, j] += y[i, j] * " ∷ decimal factor
    ∷ codes "\n"
    ∷ [])

-- the lines for it, by which its inner loop is divided and its outer loops change places
abbrev pub lines_text : ℕ → ℕ → List ℕ
lines_text n m =
    let by = 2 + (n + m) % 15 in
    pieced
    (codes "p = divide_loop(g" ∷ decimal m
    ∷ codes ", 'j', " ∷ decimal by
    ∷ codes ", ['jo', 'ji'], tail='guard')\np = reorder_loops(p, 'i jo')\nemit(p)\n"
    ∷ [])

-- the texts of the numbers below this one, one after the other
abbrev pub up_to : (ℕ → List ℕ) → ℕ → List ℕ
up_to text zero = []
up_to text (suc k) = up_to text k ++ text k

abbrev pub unit_text : ℕ → List ℕ
unit_text n = up_to (procedure_text n) (procedures n)

abbrev pub schedule_text : ℕ → List ℕ
schedule_text n = up_to (lines_text n) (procedures n)
