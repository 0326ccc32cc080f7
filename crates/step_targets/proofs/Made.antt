-- Blocks and paths.
use Rattle.std.proofs.Common.{◌≡◌, ◌≢◌, ℕ, zero, suc, List, [], ◌∷◌, ◌++◌, length, None, refl, sym, ap, ◌∙◌}
use Rattle.std.proofs.Common.{append_assoc, map, ◌+◌, arith}
use Rattle.std.proofs.lemmas.List.{append-nil}
use Rattle.place_laws.specs.Scope.PlacesCompose.{onward}
use Rattle.std.specs.Prelude.{slice_get}
use Rattle.exo_tree.specs.Tree.{Statement, Block, next, block, joined, statements}
use Rattle.exo_tree.specs.Places.{Main, Step, Path}
use Rattle.step_rules.specs.Shapes.{alone_in}
use Rattle.loop_laws.specs.Shapes.{inside}

-- ---- one statement

pub one_alone : (ss : List Statement) → length ss ≡ 1 → slice_get ss 0 ≡ alone_in (block ss)
one_alone [] h = refl
one_alone (a ∷ []) h = refl
one_alone (a ∷ b ∷ ss) h = absurd (omega (arith, h))

pub others_alone : (ss : List Statement) → length ss ≢ 1 → None ≡ alone_in (block ss)
others_alone [] h = refl
others_alone (a ∷ []) h = absurd (h refl)
others_alone (a ∷ b ∷ ss) h = refl

-- ---- paths

pub inside_more : (k : ℕ) → inside k ++ record { branch = Main; index = 0 } ∷ [] ≡ inside (suc k)
inside_more zero = refl
inside_more (suc k) = ap (λ (p : Path). record { branch = Main; index = 0 } ∷ p) (inside_more k)

pub inside_long : (k : ℕ) → length (inside k) ≡ suc k
inside_long zero = refl
inside_long (suc k) = ap suc (inside_long k)

-- a step is put last, and then the others
pub put_more : (old new whole : Path) (s : Step) (rest : Path) → new ≡ old ++ s ∷ []
    → whole ≡ new ++ rest
    → whole ≡ old ++ s ∷ rest
put_more old new whole s rest h k =
    k ∙ ap (λ (p : Path). p ++ rest) h ∙ append_assoc old (s ∷ []) rest

-- ---- blocks

pub joined_blocks : (xs ys : List Statement) → block (xs ++ ys) ≡ joined (block xs) (block ys)
joined_blocks [] ys = refl
joined_blocks (x ∷ xs) ys = ap (next x) (joined_blocks xs ys)

pub appended : (made rest new : List Statement) (a b : Block) → new ≡ made ++ rest → block made ≡ a
    → block rest ≡ b → block new ≡ joined a b
appended made rest new a b h k l = ap block h ∙ joined_blocks made rest ∙ (λ i. joined (k i) (l i))

pub statements_of : (ss : List Statement) → statements (block ss) ≡ ss
statements_of [] = refl
statements_of (a ∷ ss) = ap (λ xs. a ∷ xs) (statements_of ss)

-- ---- onward

module _ {X : Type 0} (f : X → Step) (t : Step) (q : Path) where
  pub none_onward : (xs : List X) → xs ≡ [] → onward (map f xs) t q ≡ t ∷ q
  none_onward xs h = ap (λ (ys : List X). onward (map f ys) t q) h

  pub last_onward : (xs rest : List X) (s : X) → xs ≡ s ∷ rest → length rest ≡ 0
      → onward (map f xs) t q ≡ record (f s) { index = (f s).index + t.index } ∷ q
  last_onward xs [] s h e = ap (λ (ys : List X). onward (map f ys) t q) h
  last_onward xs (y ∷ ys) s h e = absurd (omega (arith, e))

  pub more_onward : (xs rest : List X) (s : X) → xs ≡ s ∷ rest → length rest ≢ 0
      → onward (map f xs) t q ≡ f s ∷ onward (map f rest) t q
  more_onward xs [] s h e = absurd (e refl)
  more_onward xs (y ∷ ys) s h e = ap (λ (zs : List X). onward (map f zs) t q) h

pub put_none : {X : Type 0} (f : X → Step) (old : Path) (xs : List X) → xs ≡ []
    → old ≡ old ++ map f xs
put_none f old xs h = sym (append-nil old) ∙ ap (λ ys. old ++ map f ys) (sym h)
