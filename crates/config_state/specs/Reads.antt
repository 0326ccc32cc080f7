-- Fields that statements and procedures may read, directly or by calls.
use Rattle.std.specs.Prelude.{◌||◌, ◌++◌, ℕ, Bool, false, List, [], ◌∷◌, Some, None, slice_get}
use Rattle.exo_tree.specs.Tree.{Statement, Assign, Reduce, Config, Pass, If, For, Alloc, View, Call}
use Rattle.exo_tree.specs.Tree.{Block, end, next, Procedure}
use Rattle.meaning_laws.specs.Live.{read_by_controls, read_by_control, read_by_condition}
use Rattle.meaning_laws.specs.Live.{read_by_datum, read_by_coords, read_by_argument}
use Rattle.meaning_laws.specs.Live.{read_by_arguments}
use Rattle.meaning_laws.specs.UnitFields.{read_by_params, read_by_conditions}

-- whether a field may be read, where `calls` says it of each callee
module _ (calls : ℕ → ℕ → Bool) (f : ℕ) where
  abbrev mutual
    pub reads_field : Block → Bool
    reads_field end = false
    reads_field (next a b) = step_reads_field a || reads_field b

    pub step_reads_field : Statement → Bool
    step_reads_field (Assign x is e) = read_by_controls f is || read_by_datum f e
    step_reads_field (Reduce x is e) = read_by_controls f is || read_by_datum f e
    step_reads_field (Config g a) = read_by_argument f a
    step_reads_field Pass = false
    step_reads_field (If c a b) = read_by_condition f c || (reads_field a || reads_field b)
    step_reads_field (For i lo hi b) =
        (read_by_control f lo || read_by_control f hi) || reads_field b
    step_reads_field (Alloc x cell dims memory) = read_by_controls f dims
    step_reads_field (View w x coords) = read_by_coords f coords
    step_reads_field (Call k args) = read_by_arguments f args || calls k f

-- a call reads what its procedure reads: in dimensions, assertions and the body
abbrev pub read_by : (ℕ → ℕ → Bool) → Procedure → ℕ → Bool
read_by calls p f =
    read_by_params f p.params || (read_by_conditions f p.asserts || reads_field calls f p.body)

abbrev pub read_at : List (ℕ → Bool) → ℕ → ℕ → Bool
read_at rs k f = elim (slice_get rs k) [ None ↦ false | Some r ↦ r f ]

abbrev pub all_read : List (ℕ → Bool) → List Procedure → List (ℕ → Bool)
all_read rs [] = rs
all_read rs (p ∷ ps) = all_read (rs ++ read_by (read_at rs) p ∷ []) ps

-- of each procedure of a unit, the fields that it may read
abbrev pub unit_reads : List Procedure → ℕ → ℕ → Bool
unit_reads ps = read_at (all_read [] ps)
