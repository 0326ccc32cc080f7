-- Turns that are written out one after the other.
use Rattle.std.proofs.Common.{◌≡◌, ◌<◌, ℕ, suc, ◌+◌, ◌-◌, ℤ, pos, ◌+ℤ◌, List, [], ◌++◌}
use Rattle.std.proofs.Common.{length, refl, ap, ap₂, sym, ◌∙◌, subst, arith}
use Rattle.std.proofs.lemmas.Int.{ints}
use Rattle.exo_tree.specs.Tree.{Statement, Control, Block, end, next, block, joined}
use Rattle.exo_tree.specs.Renaming.{binders, fresh}
use Rattle.exo_tree.specs.Substitution.{in_block}
use Rattle.exo_meaning.specs.Run.{range}
use Rattle.place_laws.specs.Order.TurnsOfTwo.{Loop}
use Rattle.loop_laws.specs.Copies.{written_out}
use Rattle.step_targets.proofs.Made.{joined_blocks}

joined_assoc : (a b c : Block) → joined (joined a b) c ≡ joined a (joined b c)
joined_assoc end b c = refl
joined_assoc (next s a) b c = ap (next s) (joined_assoc a b c)

joined_end : (a : Block) → joined a end ≡ a
joined_end end = refl
joined_end (next s a) = ap (next s) (joined_end a)

module _ (write : ℤ → Control) (l : Loop) (first : ℤ) (count : ℕ) where
  abbrev body_at : ℤ → Block
  body_at n = in_block l.binder.id (write n) l.body

  abbrev left : ℕ → ℕ → Block
  left k base = written_out write l (range (first +ℤ pos k) (count - k)) base

  abbrev all : ℕ → Block
  all start = written_out write l (range first count) start

  -- what is made, and behind it the copies of the turns from k on
  abbrev pub AreWritten : ℕ → ℕ → List Statement → ℕ → Type 0
  AreWritten start k made base = joined (block made) (left k base) ≡ all start

  pub begin : (start : ℕ) (made : List Statement) → made ≡ [] → AreWritten start 0 made start
  begin start made empty =
      let same : first +ℤ pos 0 ≡ first = omega (arith, ints) in
      let none : count - 0 ≡ count = omega arith in
      ap (λ ss. joined (block ss) (left 0 start)) empty
      ∙ ap₂ (λ z n. written_out write l (range z n) start) same none

  -- the copy of a turn behind those that are made, and then the copies of the others
  pub go_on : (start k base new : ℕ) (n : ℤ) (made more whole : List Statement) → k < count
      → AreWritten start k made base
      → n ≡ first +ℤ pos k
      → block more ≡ fresh base (body_at n)
      → new ≡ base + length (binders (body_at n))
      → whole ≡ made ++ more
      → AreWritten start (k + 1) whole new
  go_on start k base new n made more whole h written is copy moved put =
      let next_one : suc k ≡ k + 1 = omega arith in
      let on : n +ℤ pos 1 ≡ first +ℤ pos (suc k) = omega (arith, ints, is) in
      let one : count - k ≡ suc (count - suc k) = omega (arith, h) in
      let rest = written_out write l (range (n +ℤ pos 1) (count - suc k)) (base + length (binders (body_at n))) in
      subst (λ m. AreWritten start m whole new) next_one (
      ap₂ (λ ss z. joined (block ss) (written_out write l (range z (count - suc k)) new)) put (sym on)
      ∙ ap (λ m. joined (block (made ++ more)) (written_out write l (range (n +ℤ pos 1) (count - suc k)) m)) moved
      ∙ ap (λ b. joined b rest) (joined_blocks made more ∙ ap (joined (block made)) copy)
      ∙ joined_assoc (block made) (fresh base (body_at n)) rest
      ∙ ap₂ (λ z m. joined (block made) (written_out write l (range z m) base)) is (sym one)
      ∙ written)

  pub finish : (start base : ℕ) (made : List Statement) → AreWritten start count made base
      → block made ≡ all start
  finish start base made written =
      let none : count - count ≡ 0 = omega arith in
      sym (joined_end (block made))
      ∙ ap (λ m. joined (block made) (written_out write l (range (first +ℤ pos count) m) base)) (sym none)
      ∙ written
