-- What stands at a piece, a step of its path at a time.
use Rattle.std.proofs.Common.{◌≡◌, ℕ, zero, suc, ◌+◌, ◌-◌, ◌<◌, ◌≤◌, List, [], ◌∷◌, length, take, drop, Option, Some, None}
use Rattle.std.proofs.Common.{refl, ap, sym, ◌∙◌, arith}
use Rattle.std.specs.Prelude.{slice_get, slice_range, option_map, option_and_then, MatchOption}
use Rattle.exo_tree.specs.Tree.{Statement, If, For, Block, end, next, block}
use Rattle.exo_tree.specs.Context.{Context, After, InLoop, InThen, InElse}
use Rattle.exo_tree.specs.Places.{Branch, Main, Else, Step, Path, Opened, parted, past, into, opened_in}
use Rattle.exo_tree.specs.Branches.{branch_of}
use Rattle.exo_tree.proofs.Openings.{around_by, with_rest}
use Rattle.tree_edits.proofs.Inside.{inside}

abbrev pub piece_of : Option Opened → Option Block
piece_of x = option_map (λ (o : Opened). o.piece) x

abbrev pub piece_in : ℕ → Path → Block → Option Block
piece_in count path b = piece_of (opened_in count path b)

piece_around : (g : Context → Context) (x : Option Opened) → piece_of (around_by g x) ≡ piece_of x
piece_around g None = refl
piece_around g (Some o) = refl

into_end : (which : Branch) (f : Block → Option Opened) → piece_of (into which f end) ≡ None
into_end Main f = refl
into_end Else f = refl

into_next : (f : Block → Option Opened) (which : Branch) (a : Statement) (b : Block)
    → piece_of (into which f (next a b)) ≡ option_and_then (λ c. piece_of (f c)) (branch_of which a)
into_next f Main (For i lo hi c) b = piece_around (λ o. InLoop i lo hi o b) (f c)
into_next f Main (If t c d) b = piece_around (λ o. InThen t o d b) (f c)
into_next f Else (If t c d) b = piece_around (λ o. InElse t c o b) (f d)
into_next f _ _ b = refl

past_into : (f : Block → Option Opened) (which : Branch) (k : ℕ) (ss : List Statement)
    → piece_of (past k (into which f) (block ss))
    ≡ option_and_then (λ a. option_and_then (λ c. piece_of (f c)) (branch_of which a)) (slice_get ss k)
past_into f which zero [] = into_end which f
past_into f which zero (a ∷ ss) = into_next f which a (block ss)
past_into f which (suc k) [] = refl
past_into f which (suc k) (a ∷ ss) =
    piece_around (After a) (past k (into which f) (block ss)) ∙ past_into f which k ss

piece_more : (count : ℕ) (s t : Step) (path : Path) (ss : List Statement)
    → piece_in count (s ∷ t ∷ path) (block ss)
    ≡ option_and_then (λ a. option_and_then (piece_in count (t ∷ path)) (branch_of t.branch a)) (slice_get ss s.index)
piece_more count s t path ss = past_into (opened_in count (t ∷ path)) t.branch s.index ss

-- ---- statements of the block itself

abbrev first_part : Option (Block × Block) → Option Block
first_part x = option_map (λ (p : Block × Block). p.0) x

piece_rest : (x : Option (Block × Block)) → piece_of (with_rest x) ≡ first_part x
piece_rest None = refl
piece_rest (Some p) = refl

parted_more : (a : Statement) (x : Option (Block × Block))
    → first_part (option_map (λ (p : Block × Block). (next a p.0, p.1)) x) ≡ option_map (next a) (first_part x)
parted_more a None = refl
parted_more a (Some p) = refl

parted_none : (count : ℕ) (ss : List Statement) → length ss < count → first_part (parted count (block ss)) ≡ None
parted_none zero ss h = absurd (omega (arith, h))
parted_none (suc n) [] h = refl
parted_none (suc n) (a ∷ ss) h =
    parted_more a (parted n (block ss)) ∙ ap (option_map (next a)) (parted_none n ss (omega (arith, h)))

parted_some : (count : ℕ) (ss : List Statement) → count ≤ length ss
    → first_part (parted count (block ss)) ≡ Some (block (take count ss))
parted_some zero ss h = refl
parted_some (suc n) [] h = absurd (omega (arith, h))
parted_some (suc n) (a ∷ ss) h =
    parted_more a (parted n (block ss)) ∙ ap (option_map (next a)) (parted_some n ss (omega (arith, h)))

past_none : (count k : ℕ) (ss : List Statement) → length ss < k + count
    → piece_of (past k (λ c. with_rest (parted count c)) (block ss)) ≡ None
past_none count zero ss h = piece_rest (parted count (block ss)) ∙ parted_none count ss (omega (arith, h))
past_none count (suc k) [] h = refl
past_none count (suc k) (a ∷ ss) h =
    piece_around (After a) (past k (λ c. with_rest (parted count c)) (block ss))
    ∙ past_none count k ss (omega (arith, h))

past_some : (count k : ℕ) (ss : List Statement) → k + count ≤ length ss
    → piece_of (past k (λ c. with_rest (parted count c)) (block ss)) ≡ Some (block (take count (drop k ss)))
past_some count zero ss h = piece_rest (parted count (block ss)) ∙ parted_some count ss (omega (arith, h))
past_some count (suc k) [] h = absurd (omega (arith, h))
past_some count (suc k) (a ∷ ss) h =
    piece_around (After a) (past k (λ c. with_rest (parted count c)) (block ss))
    ∙ past_some count k ss (omega (arith, h))

-- ---- by what the code has found of the first step

abbrev pub IsTaken : List Statement → ℕ → ℕ → Option (List Statement) → Type 0
IsTaken ss k count x =
    MatchOption x (length ss < k + count) (λ ts. (k + count ≤ length ss) × (ts ≡ slice_range ss k (k + count)))

pub taken_here : (count : ℕ) (s : Step) (path rest : Path) (ss : List Statement) (x : Option (List Statement))
    → path ≡ s ∷ rest → slice_get rest 0 ≡ None
    → IsTaken ss s.index count x
    → option_map block x ≡ piece_in count path (block ss)
taken_here count s path [] ss None e f h =
    sym (ap (λ (p : Path). piece_in count p (block ss)) e ∙ past_none count s.index ss h)
taken_here count s path [] ss (Some ts) e f h =
    let many : s.index + count - s.index ≡ count = omega arith in
    ap (λ (us : List Statement). Some (block us)) (h.1 ∙ ap (λ n. take n (drop s.index ss)) many)
    ∙ sym (ap (λ (p : Path). piece_in count p (block ss)) e ∙ past_some count s.index ss h.0)
taken_here count s path (t ∷ rest) ss x e f h = cc

pub taken_inside : (count : ℕ) (s t : Step) (path rest : Path) (ss : List Statement) (x : Option Block)
    → path ≡ s ∷ rest → slice_get rest 0 ≡ Some t
    → option_and_then (branch_of t.branch) (slice_get ss s.index) ≡ x
    → piece_in count path (block ss) ≡ option_and_then (piece_in count rest) x
taken_inside count = inside (piece_in count) (piece_more count)
