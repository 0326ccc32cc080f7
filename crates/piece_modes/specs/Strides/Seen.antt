-- Strides that are seen of the first procedures of a program, and by what calls these.
use Rattle.std.specs.Prelude.{ℕ, ◌&&◌, ◌||◌, Bool, false, List, [], ◌∷◌, map, take}
use Rattle.std.specs.Prelude.{Some, None, slice_get}
use Rattle.exo_tree.specs.Tree.{Param, Argument, Statement, Block, Procedure, Program}
use Rattle.exo_meaning.specs.Modes.{call_has}
use Rattle.exo_meaning.specs.Run.{World, is_root, kinds_of, unit_world, program_world}
use Rattle.buffer_laws.specs.Stride.Strides.{uses_strides, step_uses_strides, stride_seen}
use Rattle.buffer_laws.specs.Stride.Strides.{is_stride_used}

-- for each parameter, whether its strides are seen
abbrev pub seen_of : (ℕ → Bool) → List Param → List Bool
seen_of sees ps = map (λ x. sees x.binder.id) ps

-- some argument is part of buffer y where the strides of its parameter are seen
abbrev pub passes : List Bool → (ℕ → ℕ) → ℕ → List Argument → Bool
passes [] root y args = false
passes (b ∷ bs) root y [] = false
passes (b ∷ bs) root y (a ∷ args) = (b && is_root root y a) || passes bs root y args

-- of so many first procedures
module _ (u : Program) (count : ℕ) where
  abbrev pub first : List Procedure
  first = take count u.procedures

  abbrev pub first_world : World
  first_world = unit_world (kinds_of u.fields) first

  abbrev pub first_see : ℕ → ℕ → Bool
  first_see = stride_seen (kinds_of u.fields) first

  -- by what calls them
  abbrev pub block_sees : (ℕ → ℕ) → Block → ℕ → Bool
  block_sees = uses_strides first_world.callees first_see

  abbrev pub step_sees : (ℕ → ℕ) → Statement → ℕ → Bool
  step_sees = step_uses_strides first_world.callees first_see

  abbrev pub call_sees : ℕ → (ℕ → ℕ) → ℕ → List Argument → Bool
  call_sees k root y args = call_has (first_world.callees k) (first_see k) root y args

  abbrev pub row_at : ℕ → Procedure → List Bool
  row_at k p = seen_of (first_see k) p.params

-- the procedure of number k sees strides of its parameter of index i; not where there is none
abbrev pub param_seen : Program → ℕ → ℕ → Bool
param_seen u k i =
    elim (slice_get u.procedures k) [
      | None ↦ false
      | Some p ↦
          elim (slice_get p.params i) [
            | None ↦ false
            | Some x ↦ stride_seen (kinds_of u.fields) u.procedures k x.binder.id
          ]
    ]

-- a block of the program uses a stride of the buffer of name x
abbrev pub is_used_in : Program → (ℕ → ℕ) → ℕ → Block → Bool
is_used_in u =
    is_stride_used (program_world u).callees (stride_seen (kinds_of u.fields) u.procedures)
