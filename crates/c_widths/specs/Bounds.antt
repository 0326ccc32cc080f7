-- The bounds of names, as the program keeps them.
use Rattle.std.specs.Prelude.{ℕ, ◌==◌, if◌then◌else◌, List, [], ◌∷◌}
use Rattle.c_widths.specs.declared.magnitudes.Bound.{Bound}

-- the first bound of that name; 0 where it has none
abbrev pub most_in : List Bound → ℕ → ℕ
most_in [] x = 0
most_in (b ∷ bs) x = if x == b.id.0 then b.most else most_in bs x
