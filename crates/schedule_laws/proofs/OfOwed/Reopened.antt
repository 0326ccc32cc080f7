-- Another statement in the hole that a path opens is opened by the path.
use Rattle.std.proofs.Common.{◌≡◌, ℕ, zero, suc, [], ◌∷◌, Option, Some, None, option_map, IfSome, refl, ap, subst}
use Rattle.exo_tree.specs.Tree.{Statement, If, For, Block, end, next}
use Rattle.exo_tree.specs.Context.{fill}
use Rattle.exo_tree.specs.Places.{Branch, Main, Else, Step, Path, Opened, parted, past, into, opened_in, opened}
use Rattle.schedule_laws.proofs.OfOwed.Trails.{mapped, weaker, here, behind, in_loop, in_then}
use Rattle.schedule_laws.proofs.OfOwed.Trails.{in_else}

module _ (new : Statement) where
  abbrev with_new : Opened → Opened
  with_new o = record { around = o.around; piece = next new end }

  abbrev filled : Opened → Block
  filled o = fill o.around (next new end)

  abbrev Again : (Block → Option Opened) → Opened → Type 0
  Again f o = f (filled o) ≡ Some (with_new o)

  abbrev Reopens : (Block → Option Opened) → Type 0
  Reopens f = (b : Block) → IfSome (f b) (Again f)

  abbrev piece_of : Block → Option Opened
  piece_of b = option_map here (parted 1 b)

  pieces : Reopens piece_of
  pieces b = mapped here (Again piece_of) (parted 1 b) (always (parted 1 b))
    where
      always : (x : Option (Block × Block)) → IfSome x (λ p. Again piece_of (here p))
      always None = tt
      always (Some p) = refl

  passes : (k : ℕ) (f : Block → Option Opened) → Reopens f → Reopens (past k f)
  passes zero f h b = h b
  passes (suc k) f h end = tt
  passes (suc k) f h (next a b) =
      mapped (behind a) (Again (past (suc k) f)) (past k f b)
      (weaker (Again (past k f)) (λ o. Again (past (suc k) f) (behind a o)) (past k f b)
      (λ o e. ap (option_map (behind a)) e) (passes k f h b))

  enters : (branch : Branch) (f : Block → Option Opened) → Reopens f → Reopens (into branch f)
  enters Main f h (next (For i lo hi b) rest) =
      let g = in_loop i lo hi rest in
      mapped g (Again (into Main f)) (f b)
      (weaker (Again f) (λ o. Again (into Main f) (g o)) (f b) (λ o e. ap (option_map g) e) (h b))
  enters Main f h (next (If t a b) rest) =
      let g = in_then t b rest in
      mapped g (Again (into Main f)) (f a)
      (weaker (Again f) (λ o. Again (into Main f) (g o)) (f a) (λ o e. ap (option_map g) e) (h a))
  enters Else f h (next (If t a b) rest) =
      let g = in_else t a rest in
      mapped g (Again (into Else f)) (f b)
      (weaker (Again f) (λ o. Again (into Else f) (g o)) (f b) (λ o e. ap (option_map g) e) (h b))
  enters branch f h b = tt

  steps : (s : Step) (path : Path) → Reopens (opened_in 1 (s ∷ path))
  steps s [] = passes s.index piece_of pieces
  steps s (t ∷ path) =
      let f = opened_in 1 (t ∷ path) in
      passes s.index (into t.branch f) (enters t.branch f (steps t path))

  abbrev by : Branch → Option Opened → Option Opened
  by branch found = elim branch as (λ b. Option Opened) [ Main ↦ found | Else ↦ None ]

  starts : (branch : Branch) (f : Block → Option Opened) → Reopens f → Reopens (λ b. by branch (f b))
  starts Main f h b = h b
  starts Else f h b = tt

  reopens : (path : Path) → Reopens (opened 1 path)
  reopens [] b = tt
  reopens (s ∷ path) b = starts s.branch (opened_in 1 (s ∷ path)) (steps s path) b

  pub opened_again : (path : Path) (b : Block) (o : Opened) → opened 1 path b ≡ Some o
      → opened 1 path (fill o.around (next new end)) ≡ Some (record { around = o.around; piece = next new end })
  opened_again path b o e =
      subst (λ (x : Option Opened). IfSome x (Again (opened 1 path))) e (reopens path b)
