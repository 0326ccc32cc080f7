-- Words that name a number.
use Rattle.std.specs.Prelude.{ℕ, ◌+◌, ◌-◌, ◌*◌, ◌&&◌, nat_lt, nat_le, List, [], ◌∷◌, length}
use Rattle.std.specs.Prelude.{Option, Some, None, if◌then◌else◌}
use Rattle.std.specs.Str.{all_ascii_digits}

-- the number that digits write, behind those that wrote n
abbrev pub written : ℕ → List ℕ → ℕ
written n [] = n
written n (d ∷ digits) = written (n * 10 + (d - 48)) digits

-- one to six digits
abbrev pub number_of : List ℕ → Option ℕ
number_of word =
    if nat_lt 0 (length word) && nat_le (length word) 6 && all_ascii_digits word
    then Some (written 0 word) else None
