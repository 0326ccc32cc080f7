-- The words that no name of a C file's own may be.
use Rattle.std.specs.Prelude.{ℕ, ◌==◌, Bool, true, false, ◌&&◌, ◌||◌, List, [], ◌∷◌, codes}
use Rattle.std.specs.Cmp.Lexicographic.{pointwise}

-- the bytes of a name
abbrev pub Name : Type 0
Name = List ℕ

abbrev pub same_name : Name → Name → Bool
same_name = pointwise ◌==◌

abbrev pub is_in : List Name → Name → Bool
is_in [] x = false
is_in (y ∷ ys) x = same_name y x || is_in ys x

abbrev pub starts_with : Name → Name → Bool
starts_with [] x = true
starts_with (a ∷ p) [] = false
starts_with (a ∷ p) (b ∷ x) = (a == b) && starts_with p x

-- a name that begins with `_` or `exo_`
abbrev pub is_own : Name → Bool
is_own x = starts_with (codes "_") x || starts_with (codes "exo_") x

-- the keywords of C11 that do not begin with `_` (ISO/IEC 9899:2011, 6.4.1): those of types
abbrev pub type_keywords : List Name
type_keywords =
    codes "char" ∷ codes "double" ∷ codes "enum" ∷ codes "float" ∷ codes "int"
    ∷ codes "long" ∷ codes "short" ∷ codes "signed" ∷ codes "struct" ∷ codes "union"
    ∷ codes "unsigned" ∷ codes "void" ∷ []

-- those of statements
abbrev pub statement_keywords : List Name
statement_keywords =
    codes "break" ∷ codes "case" ∷ codes "continue" ∷ codes "default" ∷ codes "do"
    ∷ codes "else" ∷ codes "for" ∷ codes "goto" ∷ codes "if" ∷ codes "return"
    ∷ codes "switch" ∷ codes "while" ∷ []

-- and the rest
abbrev pub other_keywords : List Name
other_keywords =
    codes "auto" ∷ codes "const" ∷ codes "extern" ∷ codes "inline" ∷ codes "register"
    ∷ codes "restrict" ∷ codes "sizeof" ∷ codes "static" ∷ codes "typedef"
    ∷ codes "volatile" ∷ []

-- what the headers and the entry of a program are called
abbrev pub library_words : List Name
library_words = codes "NULL" ∷ codes "main" ∷ codes "malloc" ∷ codes "free" ∷ codes "size_t" ∷ []

-- the types of `<stdint.h>` (ISO/IEC 9899:2011, 7.20.1): of exact width
abbrev pub exact_types : List Name
exact_types =
    codes "int8_t" ∷ codes "int16_t" ∷ codes "int32_t" ∷ codes "int64_t" ∷ codes "uint8_t"
    ∷ codes "uint16_t" ∷ codes "uint32_t" ∷ codes "uint64_t" ∷ []

-- of at least that width
abbrev pub least_types : List Name
least_types =
    codes "int_least8_t" ∷ codes "int_least16_t" ∷ codes "int_least32_t"
    ∷ codes "int_least64_t" ∷ codes "uint_least8_t" ∷ codes "uint_least16_t"
    ∷ codes "uint_least32_t" ∷ codes "uint_least64_t" ∷ []

-- the fastest ones
abbrev pub fast_types : List Name
fast_types =
    codes "int_fast8_t" ∷ codes "int_fast16_t" ∷ codes "int_fast32_t" ∷ codes "int_fast64_t"
    ∷ codes "uint_fast8_t" ∷ codes "uint_fast16_t" ∷ codes "uint_fast32_t"
    ∷ codes "uint_fast64_t" ∷ []

-- for pointers, and the greatest ones
abbrev pub greatest_types : List Name
greatest_types = codes "intptr_t" ∷ codes "uintptr_t" ∷ codes "intmax_t" ∷ codes "uintmax_t" ∷ []

abbrev pub is_keyword : Name → Bool
is_keyword x = is_in type_keywords x || is_in statement_keywords x || is_in other_keywords x

abbrev pub is_integer_type : Name → Bool
is_integer_type x = is_in exact_types x || is_in least_types x || is_in fast_types x || is_in greatest_types x

-- in the lists
abbrev pub is_listed : Name → Bool
is_listed x = is_own x || is_keyword x || is_in library_words x || is_integer_type x

-- a name that C or this program's text has for something else; it is folded, so that no proof looks into the lists by chance
unfoldable pub is_word : Name → Bool
is_word x = is_listed x
