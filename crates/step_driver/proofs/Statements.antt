-- What stands at a piece.
use Rattle.std.proofs.Common.{◌≡◌, [], ◌∷◌, ℕ, zero, suc, Option, Some, None, refl, sym, ap, ◌∙◌, arith, length}
use Rattle.std.specs.Prelude.{option_map, option_and_then, IfSome}
use Rattle.exo_tree.specs.Tree.{Statement, If, For, Block, end, next, statements}
use Rattle.exo_tree.specs.Context.{Context, After, InLoop, InThen, InElse}
use Rattle.exo_tree.specs.Places.{Branch, Main, Else, Path, Opened, parted, past, into}
use Rattle.exo_tree.specs.Places.{opened_in, opened, statement_at, first_of}
use Rattle.exo_tree.proofs.Openings.{around_by, with_rest}
use Rattle.step_rules.specs.Shapes.{alone_in}
use Rattle.step_driver.specs.Spots.{or_nothing}

-- ---- a piece has as many statements as were asked for

abbrev HasMany : ℕ → Option Opened → Type 0
HasMany n x = IfSome x (λ (o : Opened). length (statements o.piece) ≡ n)

many_around : (n : ℕ) (g : Context → Context) (x : Option Opened) → HasMany n x
    → HasMany n (around_by g x)
many_around n g None h = tt
many_around n g (Some o) h = h

many_past : (n : ℕ) (f : Block → Option Opened) → ((c : Block) → HasMany n (f c))
    → (k : ℕ) (b : Block) → HasMany n (past k f b)
many_past n f h zero b = h b
many_past n f h (suc k) end = tt
many_past n f h (suc k) (next a b) = many_around n (After a) (past k f b) (many_past n f h k b)

many_into : (n : ℕ) (f : Block → Option Opened) → ((c : Block) → HasMany n (f c))
    → (which : Branch) (b : Block) → HasMany n (into which f b)
many_into n f h Main (next (For i lo hi b) rest) =
    many_around n (λ o. InLoop i lo hi o rest) (f b) (h b)
many_into n f h Main (next (If c a b) rest) = many_around n (λ o. InThen c o b rest) (f a) (h a)
many_into n f h Else (next (If c a b) rest) = many_around n (λ o. InElse c a o rest) (f b) (h b)
many_into n f h _ b = tt

abbrev TakesMany : ℕ → Option (Block × Block) → Type 0
TakesMany n x = IfSome x (λ (p : Block × Block). length (statements p.0) ≡ n)

takes_more : (n : ℕ) (a : Statement) (x : Option (Block × Block)) → TakesMany n x
    → TakesMany (suc n) (option_map (λ (p : Block × Block). (next a p.0, p.1)) x)
takes_more n a None h = tt
takes_more n a (Some p) h = omega (arith, h)

takes_many : (n : ℕ) (b : Block) → TakesMany n (parted n b)
takes_many zero b = refl
takes_many (suc n) end = tt
takes_many (suc n) (next a b) = takes_more n a (parted n b) (takes_many n b)

many_rest : (n : ℕ) (x : Option (Block × Block)) → TakesMany n x → HasMany n (with_rest x)
many_rest n None h = tt
many_rest n (Some p) h = h

many_in : (n : ℕ) (path : Path) (b : Block) → HasMany n (opened_in n path b)
many_in n [] b = tt
many_in n (s ∷ []) b =
    many_past n (λ c. with_rest (parted n c)) (λ c. many_rest n (parted n c) (takes_many n c)) s.index b
many_in n (s ∷ t ∷ path) b =
    many_past n (into t.branch (opened_in n (t ∷ path)))
    (many_into n (opened_in n (t ∷ path)) (many_in n (t ∷ path)) t.branch) s.index b

many_from : (n : ℕ) (which : Branch) (x : Option Opened) → HasMany n x
    → HasMany n (elim which [ Main ↦ x | Else ↦ None ])
many_from n Main x h = h
many_from n Else x h = tt

many_opened : (n : ℕ) (path : Path) (b : Block) → HasMany n (opened n path b)
many_opened n [] b = tt
many_opened n (s ∷ path) b = many_from n s.branch (opened_in n (s ∷ path) b) (many_in n (s ∷ path) b)

-- ---- one statement

alone_first : (n : ℕ) (x : Option Opened) → HasMany n x → n ≡ 1
    → option_and_then (λ (o : Opened). first_of o.piece) x ≡ alone_in (or_nothing x).piece
alone_first n None h e = refl
alone_first n (Some o) h e = by o.piece (h ∙ e)
  where
    by : (b : Block) → length (statements b) ≡ 1 → first_of b ≡ alone_in b
    by end k = absurd (omega (arith, k))
    by (next a end) k = refl
    by (next a (next c rest)) k = absurd (omega (arith, k))

pub one_alone : (n : ℕ) (path : Path) (b : Block) → n ≡ 1
    → statement_at path b ≡ alone_in (or_nothing (opened n path b)).piece
one_alone n path b h =
    ap (λ k. option_and_then (λ (o : Opened). first_of o.piece) (opened k path b)) (sym h)
    ∙ alone_first n (opened n path b) (many_opened n path b) h

no_one : (n : ℕ) (x : Option Opened) → HasMany n x → (n ≡ 1 → ⊥)
    → None ≡ alone_in (or_nothing x).piece
no_one n None h e = refl
no_one n (Some o) h e = by o.piece h
  where
    by : (b : Block) → length (statements b) ≡ n → None ≡ alone_in b
    by end k = refl
    by (next a end) k = absurd (e (omega (arith, k)))
    by (next a (next c rest)) k = refl

pub many_alone : (n : ℕ) (path : Path) (b : Block) → (n ≡ 1 → ⊥)
    → None ≡ alone_in (or_nothing (opened n path b)).piece
many_alone n path b h = no_one n (opened n path b) (many_opened n path b) h

-- ---- copies

pub piece_there : (x : Option Opened) (b : Block) → Some b ≡ option_map (λ (o : Opened). o.piece) x
    → b ≡ (or_nothing x).piece
piece_there None b h = cc
piece_there (Some o) b h = cc

pub piece_nowhere : (x : Option Opened) → None ≡ option_map (λ (o : Opened). o.piece) x
    → end ≡ (or_nothing x).piece
piece_nowhere None h = refl
piece_nowhere (Some o) h = cc
