-- What the bytes of a text may be.
use Rattle.std.specs.Prelude.{ℕ, Bool, true, false, if◌then◌else◌, nat_eq, nat_le, Option, Some, None}
use Rattle.std.specs.Char.{is_ascii_digit, is_ascii_alphabetic}

-- a blank to a tilde: what may stand in a text outside comments, beside the ends of lines
abbrev pub is_printable : ℕ → Bool
is_printable b = if nat_le 0x20 b then nat_le b 0x7E else false

-- `'` or `"`
abbrev pub is_quote : ℕ → Bool
is_quote b = if nat_eq b 0x22 then true else nat_eq b 0x27

-- a letter or `_`
abbrev pub begins_name : ℕ → Bool
begins_name b = if is_ascii_alphabetic b then true else nat_eq b 0x5F

-- a letter, a digit or `_`
abbrev pub goes_on_name : ℕ → Bool
goes_on_name b = if begins_name b then true else is_ascii_digit b

-- what a backslash and this byte stand for in a string: `\n`, `\\`, `\"` and `\'`
abbrev pub escaped : ℕ → Option ℕ
escaped b =
    if nat_eq b 0x6E then Some 0x0A
    else (if nat_eq b 0x5C then Some 0x5C
    else (if is_quote b then Some b
    else None))
