-- The buffers of names.
use Rattle.std.specs.Prelude.{ℕ, ◌==◌, Bool, false, List, [], ◌∷◌, if◌then◌else◌}
use Rattle.std.specs.Prelude.{Option, Some, None}
use Rattle.exo_modes.specs.declared.aliases.Alias.{Alias}

-- the buffer of a name: that of the last alias of the name; so far it is y
abbrev pub root_among : List Alias → ℕ → ℕ → ℕ
root_among [] x y = y
root_among (a ∷ rest) x y = root_among rest x (if x == a.name then a.root else y)

-- a name without alias is its own buffer
abbrev pub roots_in : List Alias → ℕ → ℕ
roots_in aliases x = root_among aliases x x

-- both are parts of one buffer; what has no root is part of none
abbrev pub same_buffer : Option ℕ → Option ℕ → Bool
same_buffer None other = false
same_buffer (Some x) None = false
same_buffer (Some x) (Some y) = x == y
