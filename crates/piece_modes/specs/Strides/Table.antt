-- The table of the strides that are seen.
use Rattle.std.specs.Prelude.{◌≡◌, ℕ, Bool, false, List, [], ◌∷◌, length}
use Rattle.std.specs.Prelude.{Some, None, slice_get}
use Rattle.exo_tree.specs.Tree.{Procedure, Program}
use Rattle.exo_meaning.specs.Run.{kinds_of}
use Rattle.buffer_laws.specs.Stride.Strides.{all_see}
use Rattle.piece_modes.specs.Strides.Seen.{seen_of, first}

-- a row for each procedure, a word for each parameter
abbrev pub rows_of : List Procedure → List (ℕ → Bool) → List (List Bool)
rows_of [] ss = []
rows_of (p ∷ ps) [] = []
rows_of (p ∷ ps) (s ∷ ss) = seen_of s p.params ∷ rows_of ps ss

abbrev pub seen_rows : Program → List (List Bool)
seen_rows u = rows_of u.procedures (all_see (kinds_of u.fields) [] [] u.procedures)

-- those of the first procedures, as many as there are
abbrev pub AreFirst : List (List Bool) → Program → Type 0
AreFirst rows u =
    rows ≡ seen_rows (record u { procedures = first u (length rows) })

-- the word at these numbers; false where there is none
abbrev pub word_at : List (List Bool) → ℕ → ℕ → Bool
word_at rows k i =
    elim (slice_get rows k) [
      | None ↦ false
      | Some row ↦ elim (slice_get row i) [ None ↦ false | Some b ↦ b ]
    ]
