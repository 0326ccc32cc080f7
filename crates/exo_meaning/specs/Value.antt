-- What a cell holds.
use Rattle.std.specs.Prelude.{ℤ, pos, ◌≡◌, int_lt, if◌then◌else◌, ⊤}
use Rattle.std.specs.Int.{w8, w16, w32, int_wrap, int_rem_euclid}
use Rattle.exo_tree.specs.Tree.{Cell, I8, I16, I32, Ui8}

pub data Value : Type 0 where
  Undefined : Value
  Number : ℤ → Value

-- what a cell of that type keeps of a number
abbrev pub wrap : Cell → ℤ → ℤ
wrap I8 n = int_wrap w8 n
wrap I16 n = int_wrap w16 n
wrap I32 n = int_wrap w32 n
wrap Ui8 n = int_rem_euclid n (pos 256)

abbrev pub stored_as : Cell → Value → Value
stored_as cell Undefined = Undefined
stored_as cell (Number n) = Number (wrap cell n)

-- u is undefined, or v is the same number
abbrev pub IsRefinedBy : Value → Value → Type 0
IsRefinedBy Undefined v = ⊤
IsRefinedBy (Number n) v = Number n ≡ v

-- an operation on numbers, wrapped to 32 bits; undefined at an undefined operand
abbrev pub on_one : (ℤ → ℤ) → Value → Value
on_one f Undefined = Undefined
on_one f (Number m) = Number (wrap I32 (f m))

abbrev pub on_two : (ℤ → ℤ → ℤ) → Value → Value → Value
on_two f Undefined v = Undefined
on_two f (Number m) Undefined = Undefined
on_two f (Number m) (Number n) = Number (wrap I32 (f m n))

abbrev pub on_four : (ℤ → ℤ → ℤ → ℤ → ℤ) → Value → Value → Value → Value → Value
on_four f Undefined v y z = Undefined
on_four f (Number k) Undefined y z = Undefined
on_four f (Number k) (Number l) Undefined z = Undefined
on_four f (Number k) (Number l) (Number m) Undefined = Undefined
on_four f (Number k) (Number l) (Number m) (Number n) = Number (wrap I32 (f k l m n))

abbrev pub relu : ℤ → ℤ
relu n = if int_lt (pos 0) n then n else pos 0

-- y where x < v, else z
abbrev pub selected : ℤ → ℤ → ℤ → ℤ → ℤ
selected x v y z = if int_lt x v then y else z
