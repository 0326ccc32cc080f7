-- What the program may know of the world outside it: files by name, bytes that a sink took, and
-- counts of faults.
use Rattle.std.specs.Prelude.{◌≡◌, ℕ, ◌+◌, ◌-◌, ◌^◌, ◌<◌, ◌≤◌, ◌++◌, min, List, [], ◌∷◌, take}
use Rattle.std.specs.Prelude.{length, Option, Some, None, if◌then◌else◌, IfSome}
use Rattle.std.specs.Str.{bytes_eq}

-- files as pairs of a name and its bytes
abbrev pub Folder : Type 0
Folder = List (List ℕ × List ℕ)

-- the bytes of the first file of that name
abbrev pub content_of : Folder → List ℕ → Option (List ℕ)
content_of [] name = None
content_of (file ∷ files) name = if bytes_eq file.0 name then Some file.1 else content_of files name

-- the count of faults after one more: it stays at the greatest number of 64 bits
abbrev pub counted : ℕ → ℕ
counted n = min (n + 1) (2 ^ 64 - 1)

-- The count of faults rose between two moments. At the greatest number it counts as risen, since it
-- can't show more.
abbrev pub Rose : ℕ → ℕ → Type 0
Rose before after = counted before ≤ after

-- the bytes taken and then these, where the bytes taken are told
abbrev pub with_more : Option (List ℕ) → List ℕ → Option (List ℕ)
with_more None bytes = None
with_more (Some taken) bytes = Some (taken ++ bytes)

-- the sink took a proper prefix of the bytes and then no more
pub record StopsWithin (old new : Option (List ℕ)) (bytes : List ℕ) : Type 0 where
  pub count : ℕ
  pub proper : count < length bytes
  pub taken : new ≡ with_more old (take count bytes)

-- the file of that name is told and has these bytes
abbrev pub HasBytes : Option Folder → List ℕ → List ℕ → Type 0
HasBytes told name bytes = IfSome told (λ files. content_of files name ≡ Some bytes)

-- the file of that name is told and longer than the limit
abbrev pub IsLonger : Option Folder → List ℕ → ℕ → Type 0
IsLonger told name limit =
    IfSome told
    (λ files. (bytes : List ℕ) × (content_of files name ≡ Some bytes) × (limit < length bytes))
