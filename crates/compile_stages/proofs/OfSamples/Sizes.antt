-- The texts of a number are short.
use Rattle.std.proofs.Common.{◌≡◌, ◌+◌, ◌*◌, ◌%◌, ◌<◌, ◌≤◌, ℕ, zero, suc, List, [], ◌∷◌, length, codes, refl, ap, ◌∙◌, arith}
use Rattle.std.specs.Fmt.{decimal}
use Rattle.std.proofs.lemmas.List.{length-append}
use Rattle.std.proofs.lemmas.Nat.{mod_below}
use Rattle.std.proofs.lemmas.Fmt.{length-decimal-le_succ}
use Rattle.compile_stages.specs.Samples.Texts.{pieced, procedure_text, lines_text, up_to}

abbrev total : List (List ℕ) → ℕ
total [] = 0
total (piece ∷ pieces) = length piece + total pieces

length_pieced : (pieces : List (List ℕ)) → length (pieced pieces) ≡ total pieces
length_pieced [] = refl
length_pieced (piece ∷ []) = omega arith
length_pieced (piece ∷ other ∷ pieces) =
    length-append piece (pieced (other ∷ pieces))
    ∙ ap (λ k. length piece + k) (length_pieced (other ∷ pieces))

short_procedure : (n m : ℕ) → m < 256 → length (procedure_text n m) ≤ 4096
short_procedure n m h =
    let w = (7 * n + 13 * m) % 97 in
    let f = (n + 3 * m) % 1000 in
    let narrow : w < 97 = mod_below (7 * n + 13 * m) 97 (omega arith) in
    let small : f < 1000 = mod_below (n + 3 * m) 1000 (omega arith) in
    let number = length-decimal-le_succ m (omega arith) in
    let width = length-decimal-le_succ (1 + w) (omega arith) in
    let factor = length-decimal-le_succ (1 + f) (omega arith) in
    let is = length_pieced (codes "@proc\ndef g" ∷ decimal m
    ∷ codes "(n: size, x: i32[n, " ∷ decimal (1 + w)
    ∷ codes "], y: i32[n, " ∷ decimal (1 + w)
    ∷ codes "]):\n    for i in seq(0, n):\n        for j in seq(0, " ∷ decimal (1 + w)
    ∷ codes "):\n            x[i, j] += y[i, j] * " ∷ decimal (1 + f)
    ∷ codes "\n"
    ∷ []) in
    omega (arith, is, number, width, factor)

short_lines : (n m : ℕ) → m < 256 → length (lines_text n m) ≤ 4096
short_lines n m h =
    let b = (n + m) % 15 in
    let small : b < 15 = mod_below (n + m) 15 (omega arith) in
    let number = length-decimal-le_succ m (omega arith) in
    let by = length-decimal-le_succ (2 + b) (omega arith) in
    let is = length_pieced (codes "p = divide_loop(g" ∷ decimal m
    ∷ codes ", 'j', " ∷ decimal (2 + b)
    ∷ codes ", ['jo', 'ji'], tail='guard')\np = reorder_loops(p, 'i jo')\nemit(p)\n"
    ∷ []) in
    omega (arith, is, number, by)

short_up_to : (text : ℕ → List ℕ) → ((m : ℕ) → m < 256 → length (text m) ≤ 4096) → (k : ℕ) → k ≤ 256
    → length (up_to text k) ≤ 4096 * k
short_up_to text each zero h = omega arith
short_up_to text each (suc k) h =
    let before = short_up_to text each k (omega arith) in
    let own = each k (omega arith) in
    omega (arith, length-append (up_to text k) (text k))

pub short_unit : (text : List ℕ) (n m : ℕ) → text ≡ up_to (procedure_text n) m → m ≤ 256 → length text ≤ 1048576
short_unit text n m is h = omega (arith, ap length is, short_up_to (procedure_text n) (short_procedure n) m h)

pub short_schedule : (text : List ℕ) (n m : ℕ) → text ≡ up_to (lines_text n) m → m ≤ 256 → length text ≤ 1048576
short_schedule text n m is h = omega (arith, ap length is, short_up_to (lines_text n) (short_lines n) m h)
