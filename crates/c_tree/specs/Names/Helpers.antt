-- The functions that each file of C begins with, whose names no other function of it has.
use Rattle.std.specs.Prelude.{ℕ, List, ◌++◌, codes}

abbrev pub Text : Type 0
Text = List ℕ

-- a line at the margin
abbrev pub margin : Text → Text
margin t = t ++ codes "\n"

-- the two divisions round towards minus infinity; the other two compare as signed numbers
abbrev pub helpers : Text
helpers =
    margin (codes "static inline int64_t exo_div(int64_t a, int64_t b) { int64_t q = a / b; return (a % b < 0) ? q - 1 : q; }")
    ++ margin (codes "static inline int64_t exo_mod(int64_t a, int64_t b) { int64_t r = a % b; return (r < 0) ? r + b : r; }")
    ++ margin (codes "static inline uint32_t exo_relu(uint32_t x) { return ((int32_t)x > 0) ? x : 0; }")
    ++ margin (codes "static inline uint32_t exo_select(uint32_t x, uint32_t v, uint32_t y, uint32_t z) { return ((int32_t)x < (int32_t)v) ? y : z; }")
