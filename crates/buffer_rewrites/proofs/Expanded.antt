-- The allocation with which a piece begins that goes to the end of its block.
use Rattle.std.proofs.Common.{◌≡◌, ℕ, suc, ◌+◌, ◌-◌, ◌<◌, List, [], ◌∷◌, ◌++◌, length, drop, Option}
use Rattle.std.proofs.Common.{Some}
use Rattle.std.proofs.Common.{None, refl, sym, ap, ap₂, ◌∙◌}
use Rattle.std.proofs.Common.{arith, length-drop}
use Rattle.std.specs.Prelude.{slice_get, slice_range, option_map, option_and_then}
use Rattle.exo_tree.specs.Tree.{Control, Coord, At, Window, Statement, Block, next, joined, block}
use Rattle.exo_tree.specs.Tree.{statements}
use Rattle.exo_tree.specs.Context.{rest_of}
use Rattle.exo_tree.specs.Places.{Path, Opened, opened}
use Rattle.exo_tree.proofs.Edits.{range_to_end}
use Rattle.cursor_forward.specs.Causes.{WrongShape}
use Rattle.inplace_laws.specs.Windows.{in_block as with_window}
use Rattle.buffer_laws.specs.Buffers.{Buffer, allocation, only_buffer, buffer_of}
use Rattle.buffer_laws.specs.Expanded.{at_point}
use Rattle.alloc_laws.specs.Expanding.{Allocated, allocated, expandable, to_the_end, all_opened}
use Rattle.alloc_laws.specs.Expanding.{expanded_piece}
use Rattle.step_rules.specs.Rule.{Got, Not, Target, Spot}
use Rattle.step_rules.specs.Shapes.{tried}
use Rattle.step_rules.specs.Answer.{then_try, opened_or_wrong}
use Rattle.step_driver.specs.Spots.{or_nothing, spot_at}
use Rattle.step_targets.proofs.Made.{joined_blocks, statements_of}
use Rattle.tree_uses.specs.Uses.{used}
use Rattle.tree_uses.specs.Putting.{putting, one_window}
use Rattle.tree_uses.proofs.Window.{putting_window}

-- ---- how many there are

module _ (x : Option Opened) where
  abbrev rest : Option Block
  rest = option_map (λ (o : Opened). rest_of o.around) x

  by_rest : option_map (λ (b : Block). suc (length (statements b))) rest ≡ option_map to_the_end x
  by_rest = by x
    where
      by : (x : Option Opened)
          → option_map (λ (b : Block). suc (length (statements b)))
          (option_map (λ (o : Opened). rest_of o.around) x)
          ≡ option_map to_the_end x
      by None = refl
      by (Some o) = refl

  pub none_to_end : None ≡ rest → None ≡ option_map to_the_end x
  none_to_end h = ap (option_map (λ (b : Block). suc (length (statements b)))) h ∙ by_rest

  pub some_to_end : (ss : List Statement) (from n : ℕ) → Some (block (drop from ss)) ≡ rest
      → n ≡ length ss - from + 1
      → Some n ≡ option_map to_the_end x
  some_to_end ss from n h k =
      let counted = length-drop from ss in
      let all = ap length (statements_of (drop from ss)) in
      let e : n ≡ suc (length (statements (block (drop from ss)))) =
      omega (arith, k, counted, all) in
      ap Some e ∙ ap (option_map (λ (b : Block). suc (length (statements b)))) h ∙ by_rest

-- ---- the piece

found_there : (x : Option Opened)
    → option_and_then (λ (o : Opened). expandable o.piece) x ≡ expandable (or_nothing x).piece
found_there None = refl
found_there (Some o) = refl

module _ (t : Target) (at : Path) where
  abbrev first : Option Opened
  first = opened 1 at t.proc.body

  pub not_opened : None ≡ option_map to_the_end first → expanded_piece t at ≡ Not WrongShape
  not_opened h = by first h
    where
      by : (x : Option Opened) → None ≡ option_map to_the_end x
          → then_try (opened_or_wrong x) (λ o. all_opened t at (to_the_end o)) ≡ Not WrongShape
      by None h = refl
      by (Some o) h = cc

  module _ (n : ℕ) (count : Some n ≡ option_map to_the_end first) where
    abbrev spot : Spot
    spot = spot_at t (record { path = at; count = n })

    counted : expanded_piece t at ≡ all_opened t at n
    counted = by first count
      where
        by : (x : Option Opened) → Some n ≡ option_map to_the_end x
            → then_try (opened_or_wrong x) (λ o. all_opened t at (to_the_end o)) ≡ all_opened t at n
        by None h = cc
        by (Some o) h = let same : n ≡ to_the_end o = cc in ap (all_opened t at) (sym same)

    asked : expanded_piece t at
        ≡ tried (expandable spot.opened.piece) (λ x. record { path = at; count = n })
    asked =
        counted
        ∙ ap (λ y. tried y (λ x. record { path = at; count = n }))
        (found_there (opened n at t.proc.body))

    pub not_expandable : None ≡ expandable spot.opened.piece → expanded_piece t at ≡ Not WrongShape
    not_expandable h = asked ∙ ap (λ y. tried y (λ x. record { path = at; count = n })) (sym h)

    pub all_expandable : (x : Allocated) → Some x ≡ expandable spot.opened.piece
        → expanded_piece t at ≡ Got (record { path = at; count = n })
    all_expandable x h = asked ∙ ap (λ y. tried y (λ x. record { path = at; count = n })) (sym h)

-- ---- the allocation with which a block begins

pub no_first : (ss : List Statement) → slice_get ss 0 ≡ None → None ≡ allocated (block ss)
no_first [] h = refl
no_first (a ∷ ss) h = cc

module _ (ss : List Statement) (a : Statement) (first : slice_get ss 0 ≡ Some a) where
  by_first : (o : Option Buffer) → o ≡ buffer_of a
      → option_map (λ (x : Buffer). record { buffer = x; rest = block (drop 1 ss) }) o
      ≡ allocated (block ss)
  by_first o h = by ss first
    where
      by : (ss : List Statement) → slice_get ss 0 ≡ Some a
          → option_map (λ (x : Buffer). record { buffer = x; rest = block (drop 1 ss) }) o
          ≡ allocated (block ss)
      by [] k = cc
      by (b ∷ rest) k =
          let same : a ≡ b = cc in
          ap (option_map (λ (x : Buffer). record { buffer = x; rest = block rest }))
          (h ∙ ap buffer_of same)

  pub first_no_alloc : None ≡ buffer_of a → None ≡ allocated (block ss)
  first_no_alloc h = by_first None h

  pub first_alloc : (x : Buffer) → Some x ≡ buffer_of a
      → Some (record { buffer = x; rest = block (drop 1 ss) }) ≡ allocated (block ss)
  first_alloc x h = by_first (Some x) h

-- ---- the result

pub at_point_put : (x : ℕ) (e : Control) (b made : Block) (cs : List Coord) → cs ≡ At e ∷ []
    → made ≡ used (putting (λ y. y) (one_window x (Window x cs))) b
    → made ≡ at_point x e b
at_point_put x e b made cs h k =
    k ∙ putting_window x (Window x cs) b refl ∙ ap (λ ds. with_window x (Window x ds) b) h

pub to_the_last : (ss made : List Statement) (n : ℕ) → n ≡ length ss → 0 < n
    → made ≡ slice_range ss 1 (1 + (n - 1))
    → block made ≡ block (drop 1 ss)
to_the_last ss made n h l k =
    ap block (k ∙ range_to_end ss 1 (1 + (n - 1)) (omega (arith, h, l)))

pub expanded_out : (made more new : List Statement) (x : Buffer) (b : Block)
    → block made ≡ only_buffer x → block more ≡ b → new ≡ made ++ more
    → block new ≡ next (allocation x) b
expanded_out made more new x b h k e = ap block e ∙ joined_blocks made more ∙ ap₂ joined h k
