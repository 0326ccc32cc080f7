-- The view that stands at a piece, and what follows it.
use Rattle.std.proofs.Common.{◌≡◌, ◌≢◌, ℕ, suc, ◌+◌, ◌-◌, true, false, List, [], ◌∷◌, length, drop, length-drop, refl, sym, ap, ◌∙◌, arith}
use Rattle.std.proofs.lemmas.List.{take_all}
use Rattle.std.specs.Prelude.{Option, Some, None, option_map, option_and_then, is_some, slice_get, slice_range}
use Rattle.exo_tree.specs.Tree.{Statement, Block, end, next, block, statements}
use Rattle.exo_tree.specs.Context.{rest_of}
use Rattle.exo_tree.specs.Places.{Path, Opened, opened, first_of}
use Rattle.inplace_laws.specs.Windows.{in_block as with_window}
use Rattle.match_laws.specs.Inline.InlineWindowRule.{Viewed, viewed_by, viewed_in, behind_first}
use Rattle.match_laws.specs.Inline.InlineWindowRule.{window_piece, window_draft, as_window}
use Rattle.tree_uses.specs.Uses.{used}
use Rattle.tree_uses.specs.Putting.{putting, one_window}
use Rattle.tree_uses.proofs.Window.{putting_window}
use Rattle.cursor_forward.specs.Causes.{WrongShape}
use Rattle.cursor_forward.specs.Shifts.{at_index, range}
use Rattle.step_rules.specs.Rule.{Tried, Got, Not, Target, Piece}
use Rattle.step_rules.specs.Shapes.{tried, alone_in}
use Rattle.step_driver.specs.Spots.{spot_at}
use Rattle.step_driver.proofs.Statements.{one_alone}
use Rattle.call_laws.specs.Calls.InlineWindow.{window_moves}
use Rattle.call_rewrites.specs.Drafts.{opened_to_end}

-- ---- the piece

abbrev one_at : Path → Piece
one_at at = record { path = at; count = 1 }

abbrev alone_there : Target → Piece → Option Statement
alone_there t p = alone_in (spot_at t p).opened.piece

module _ (t : Target) (at : Path) where
  abbrev first : Option Opened
  first = opened 1 at t.proc.body

  abbrev found : Option Viewed → Opened → Option Piece
  found v o =
      elim v [
        | None ↦ None
        | Some v ↦ Some (record { path = at; count = 1 + length (statements (rest_of o.around)) })
      ]

  abbrev asked : Option Opened → Option Piece
  asked x = elim x [ None ↦ None | Some o ↦ found (viewed_in o.piece) o ]

  abbrev all_from : Opened → Piece
  all_from o = record { path = at; count = 1 + length (statements (rest_of o.around)) }

  abbrev to_end : Option Opened → Option Piece
  to_end x = option_map all_from x

  abbrev to_count : ℕ → Piece
  to_count n = record { path = at; count = n }

  abbrev first_statement : Option Opened → Option Statement
  first_statement x = option_and_then (λ (o : Opened). first_of o.piece) x

  none_there : (x : Option Opened) → None ≡ first_statement x
      → tried (asked x) (λ p. p) ≡ Not WrongShape
  none_there None h = refl
  none_there (Some o) h = by o.piece h
    where
      by : (b : Block) → None ≡ first_of b → tried (found (viewed_in b) o) (λ p. p) ≡ Not WrongShape
      by end h = refl
      by (next a b) h = cc

  other_there : (x : Option Opened) (a : Statement) → Some a ≡ first_statement x
      → is_some (viewed_by a) ≡ false
      → tried (asked x) (λ p. p) ≡ Not WrongShape
  other_there None a h k = cc
  other_there (Some o) a h k = by o.piece h
    where
      none : (v : Option Viewed) → is_some v ≡ false → tried (found v o) (λ p. p) ≡ Not WrongShape
      none None h = refl
      none (Some v) h = cc

      by : (b : Block) → Some a ≡ first_of b → tried (found (viewed_in b) o) (λ p. p) ≡ Not WrongShape
      by end h = cc
      by (next d b) h =
          let same : a ≡ d = cc in
          none (viewed_by d) (ap (λ e. is_some (viewed_by e)) (sym same) ∙ k)

  view_there : (x : Option Opened) (a : Statement) → Some a ≡ first_statement x
      → is_some (viewed_by a) ≡ true
      → tried (to_end x) (λ p. p) ≡ tried (asked x) (λ p. p)
  view_there None a h k = refl
  view_there (Some o) a h k = by o.piece h
    where
      some : (v : Option Viewed) → is_some v ≡ true → Got (all_from o) ≡ tried (found v o) (λ p. p)
      some None h = cc
      some (Some v) h = refl

      by : (b : Block) → Some a ≡ first_of b
          → Got (all_from o) ≡ tried (found (viewed_in b) o) (λ p. p)
      by end h = cc
      by (next d b) h =
          let same : a ≡ d = cc in
          some (viewed_by d) (ap (λ e. is_some (viewed_by e)) (sym same) ∙ k)

  alone_is : (p : Piece) → p ≡ one_at at → alone_there t p ≡ first_statement first
  alone_is p one = ap (alone_there t) one ∙ sym (one_alone 1 at t.proc.body refl)

  pub nothing_viewed : (p : Piece) → p ≡ one_at at → None ≡ alone_there t p
      → tried (window_piece t.proc at) (λ p. p) ≡ Not WrongShape
  nothing_viewed p one h = none_there first (h ∙ alone_is p one)

  pub other_viewed : (p : Piece) (a : Statement) → p ≡ one_at at → Some a ≡ alone_there t p
      → None ≡ viewed_by a
      → tried (window_piece t.proc at) (λ p. p) ≡ Not WrongShape
  other_viewed p a one h k = other_there first a (h ∙ alone_is p one) (sym (ap is_some k))

  pub is_viewed : (p : Piece) (a : Statement) (v : Viewed) → p ≡ one_at at
      → Some a ≡ alone_there t p
      → Some v ≡ viewed_by a
      → tried (opened_to_end t at) (λ p. p) ≡ tried (window_piece t.proc at) (λ p. p)
  is_viewed p a v one h k = view_there first a (h ∙ alone_is p one) (sym (ap is_some k))

  -- ---- how many there are

  abbrev rest_behind : Option Opened → Option Block
  rest_behind x = option_map (λ (o : Opened). rest_of o.around) x

  pub none_to_end : None ≡ rest_behind first → tried (opened_to_end t at) (λ p. p) ≡ Not WrongShape
  none_to_end h = by first h
    where
      by : (x : Option Opened) → None ≡ rest_behind x → tried (to_end x) (λ p. p) ≡ Not WrongShape
      by None h = refl
      by (Some o) h = cc

  pub some_to_end : (ss : List Statement) (from n : ℕ) → Some (block (drop from ss)) ≡ rest_behind first
      → n ≡ length ss - from + 1
      → tried (opened_to_end t at) (λ p. p) ≡ Got (to_count n)
  some_to_end ss from n h k = by first h
    where
      counted : (ss : List Statement) → length (statements (block ss)) ≡ length ss
      counted [] = refl
      counted (a ∷ ss) = ap suc (counted ss)

      by : (x : Option Opened) → Some (block (drop from ss)) ≡ rest_behind x
          → tried (to_end x) (λ p. p) ≡ Got (to_count n)
      by None h = cc
      by (Some o) h =
          let same : block (drop from ss) ≡ rest_of o.around = cc in
          let all : length (statements (rest_of o.around)) ≡ length ss - from =
          sym (ap (λ (b : Block). length (statements b)) same) ∙ counted (drop from ss) ∙ length-drop from ss in
          let count : 1 + length (statements (rest_of o.around)) ≡ n = omega (arith, all, k) in
          ap (λ (m : ℕ). Got (to_count m)) count

-- ---- what stands for it

pub viewed_first : (ss : List Statement)
    → option_and_then viewed_by (slice_get ss 0) ≡ viewed_in (block ss)
viewed_first [] = refl
viewed_first (a ∷ ss) = refl

abbrev drafted : Block → Option Viewed → Tried Block
drafted b o =
    tried (elim o [
      | None ↦ None
      | Some v ↦ Some (with_window v.binder.id (as_window v) (behind_first b))
    ]) (λ c. c)

pub no_view : (old b : Block) → old ≡ b → None ≡ viewed_in old
    → tried (window_draft b) (λ c. c) ≡ Not WrongShape
no_view old b same h =
    sym (ap (λ (d : Block). tried (window_draft d) (λ c. c)) same) ∙ sym (ap (drafted old) h)

pub none_behind : (ss : List Statement) → length ss ≡ 0 → end ≡ behind_first (block ss)
none_behind [] h = refl
none_behind (a ∷ ss) h = absurd (omega (arith, h))

pub some_behind : (ss rest : List Statement) (n : ℕ) → n ≡ length ss → n ≢ 0
    → rest ≡ slice_range ss 1 (1 + (n - 1))
    → block rest ≡ behind_first (block ss)
some_behind [] rest n h some e = absurd (some h)
some_behind (a ∷ ss) rest n h some e =
    ap block (e ∙ take_all (1 + (n - 1) - 1) ss (omega (arith, h)))

pub view_gone : (old rest b c : Block) (v : Viewed) → old ≡ b → Some v ≡ viewed_in old
    → rest ≡ behind_first old
    → c ≡ used (putting (λ x. x) (one_window v.binder.id (as_window v))) rest
    → tried (window_draft b) (λ c. c) ≡ Got c
view_gone old rest b c v same h behind put =
    sym (ap (λ (d : Block). tried (window_draft d) (λ c. c)) same)
    ∙ sym (ap (drafted old) h)
    ∙ ap Got (sym (putting_window v.binder.id (as_window v) (behind_first old) refl)
    ∙ ap (used (putting (λ x. x) (one_window v.binder.id (as_window v)))) (sym behind)
    ∙ sym put)

behind_count : (b : Block) → length (statements (behind_first b)) ≡ length (statements b) - 1
behind_count end = refl
behind_count (next a b) = omega arith

pub moves_up : (b : Block) (n k : ℕ) → n ≡ length (statements b) → k ≡ n - 1
    → range (at_index 1) k (Some (at_index 0)) ∷ [] ≡ window_moves b
moves_up b n k all less =
    ap (λ (m : ℕ). range (at_index 1) m (Some (at_index 0)) ∷ [])
    (less ∙ ap (λ (m : ℕ). m - 1) all ∙ sym (behind_count b))
