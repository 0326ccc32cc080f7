-- What follows a piece, a step of its path at a time.
use Rattle.std.proofs.Common.{◌≡◌, ℕ, zero, suc, ◌+◌, ◌<◌, ◌≤◌, Bool, List, [], ◌∷◌, length}
use Rattle.std.proofs.Common.{drop, Option, Some, None, refl, ap, sym, ◌∙◌, arith}
use Rattle.std.proofs.lemmas.List.{drop-drop}
use Rattle.std.specs.Prelude.{slice_get, option_map, option_and_then, MatchOption}
use Rattle.exo_tree.specs.Tree.{Statement, If, For, Block, end, next, block}
use Rattle.exo_tree.specs.Context.{Context, After, InLoop, InThen, InElse, rest_of}
use Rattle.exo_tree.specs.Places.{Branch, Main, Else, Step, Path, Opened, parted, past, into}
use Rattle.exo_tree.specs.Places.{opened_in}
use Rattle.exo_tree.specs.Branches.{branch_of}
use Rattle.exo_tree.proofs.Openings.{around_by, with_rest}
use Rattle.exo_meaning.specs.Unseen.{in_block as mentions}

-- ---- further down

abbrev after_of : Option Opened → Option Block
after_of x = option_map (λ (o : Opened). rest_of o.around) x

abbrev pub after_in : ℕ → Path → Block → Option Block
after_in count path b = after_of (opened_in count path b)

after_around : (g : Context → Context) → ((c : Context) → rest_of (g c) ≡ rest_of c)
    → (x : Option Opened) → after_of (around_by g x) ≡ after_of x
after_around g same None = refl
after_around g same (Some o) = ap (Some) (same o.around)

into_end : (which : Branch) (f : Block → Option Opened) → after_of (into which f end) ≡ None
into_end Main f = refl
into_end Else f = refl

into_next : (f : Block → Option Opened) (which : Branch) (a : Statement) (b : Block)
    → after_of (into which f (next a b)) ≡ option_and_then (λ c. after_of (f c)) (branch_of which a)
into_next f Main (For i lo hi c) b = after_around (λ o. InLoop i lo hi o b) (λ o. refl) (f c)
into_next f Main (If t c d) b = after_around (λ o. InThen t o d b) (λ o. refl) (f c)
into_next f Else (If t c d) b = after_around (λ o. InElse t c o b) (λ o. refl) (f d)
into_next f _ _ b = refl

past_into : (f : Block → Option Opened) (which : Branch) (k : ℕ) (ss : List Statement)
    → after_of (past k (into which f) (block ss))
    ≡ option_and_then (λ a. option_and_then (λ c. after_of (f c)) (branch_of which a))
    (slice_get ss k)
past_into f which zero [] = into_end which f
past_into f which zero (a ∷ ss) = into_next f which a (block ss)
past_into f which (suc k) [] = refl
past_into f which (suc k) (a ∷ ss) =
    after_around (After a) (λ o. refl) (past k (into which f) (block ss))
    ∙ past_into f which k ss

after_more : (count : ℕ) (s t : Step) (path : Path) (ss : List Statement)
    → after_in count (s ∷ t ∷ path) (block ss)
    ≡ option_and_then (λ a. option_and_then (after_in count (t ∷ path)) (branch_of t.branch a))
    (slice_get ss s.index)
after_more count s t path ss = past_into (opened_in count (t ∷ path)) t.branch s.index ss

-- ---- statements of the block itself

abbrev rest_parted : Option (Block × Block) → Option Block
rest_parted x = option_map (λ (p : Block × Block). p.1) x

after_rest : (x : Option (Block × Block)) → after_of (with_rest x) ≡ rest_parted x
after_rest None = refl
after_rest (Some p) = refl

parted_more : (a : Statement) (x : Option (Block × Block))
    → rest_parted (option_map (λ (p : Block × Block). (next a p.0, p.1)) x) ≡ rest_parted x
parted_more a None = refl
parted_more a (Some p) = refl

parted_none : (count : ℕ) (ss : List Statement) → length ss < count
    → rest_parted (parted count (block ss)) ≡ None
parted_none zero ss h = absurd (omega (arith, h))
parted_none (suc n) [] h = refl
parted_none (suc n) (a ∷ ss) h =
    parted_more a (parted n (block ss)) ∙ parted_none n ss (omega (arith, h))

parted_some : (count : ℕ) (ss : List Statement) → count ≤ length ss
    → rest_parted (parted count (block ss)) ≡ Some (block (drop count ss))
parted_some zero ss h = refl
parted_some (suc n) [] h = absurd (omega (arith, h))
parted_some (suc n) (a ∷ ss) h =
    parted_more a (parted n (block ss)) ∙ parted_some n ss (omega (arith, h))

past_none : (count k : ℕ) (ss : List Statement) → length ss < k + count
    → after_of (past k (λ c. with_rest (parted count c)) (block ss)) ≡ None
past_none count zero ss h = after_rest (parted count (block ss)) ∙ parted_none count ss (omega (arith, h))
past_none count (suc k) [] h = refl
past_none count (suc k) (a ∷ ss) h =
    after_around (After a) (λ o. refl) (past k (λ c. with_rest (parted count c)) (block ss))
    ∙ past_none count k ss (omega (arith, h))

past_some : (count k : ℕ) (ss : List Statement) → k + count ≤ length ss
    → after_of (past k (λ c. with_rest (parted count c)) (block ss))
    ≡ Some (block (drop count (drop k ss)))
past_some count zero ss h = after_rest (parted count (block ss)) ∙ parted_some count ss (omega (arith, h))
past_some count (suc k) [] h = absurd (omega (arith, h))
past_some count (suc k) (a ∷ ss) h =
    after_around (After a) (λ o. refl) (past k (λ c. with_rest (parted count c)) (block ss))
    ∙ past_some count k ss (omega (arith, h))

-- ---- by what the code has found of the first step

abbrev pub IsAfter : List Statement → ℕ → ℕ → Option Block → Type 0
IsAfter ss k count x =
    MatchOption x (length ss < k + count) (λ rest.
    (k + count ≤ length ss) × (rest ≡ block (drop (k + count) ss)))

pub here_is : (count : ℕ) (s : Step) (path rest : Path) (ss : List Statement) (x : Option Block)
    → path ≡ s ∷ rest → slice_get rest 0 ≡ None
    → IsAfter ss s.index count x
    → x ≡ after_in count path (block ss)
here_is count s path [] ss None e f h =
    sym (ap (λ (p : Path). after_in count p (block ss)) e ∙ past_none count s.index ss h)
here_is count s path [] ss (Some b) e f h =
    ap Some (h.1 ∙ ap (λ us. block us) (sym (drop-drop count s.index ss)))
    ∙ sym (ap (λ (p : Path). after_in count p (block ss)) e ∙ past_some count s.index ss h.0)
here_is count s path (t ∷ rest) ss x e f h = cc

-- the same of what is seen of an answer
pub as_seen : {X Y : Type 0} (f : X → Y) (r : Option X) (A : Type 0) (P : Y → Type 0)
    → MatchOption r A (λ x. P (f x))
    → MatchOption (option_map f r) A P
as_seen f None A P h = h
as_seen f (Some x) A P h = h

by_inner : (f : Block → Option Block) (g : Statement → Option Block) (x : Option Statement)
    (y : Option Block) → option_and_then g x ≡ y
    → option_and_then (λ a. option_and_then f (g a)) x ≡ option_and_then f y
by_inner f g None y h = ap (option_and_then f) h
by_inner f g (Some a) y h = ap (option_and_then f) h

pub inner_is : (count : ℕ) (s t : Step) (path rest : Path) (ss : List Statement) (x : Option Block)
    → path ≡ s ∷ rest → slice_get rest 0 ≡ Some t
    → option_and_then (branch_of t.branch) (slice_get ss s.index) ≡ x
    → after_in count path (block ss) ≡ option_and_then (after_in count rest) x
inner_is count s t path [] ss x e f h = cc
inner_is count s t path (u ∷ rest) ss x e f h =
    let same : u ≡ t = cc in
    ap (λ (p : Path). after_in count p (block ss)) e
    ∙ after_more count s u rest ss
    ∙ by_inner (after_in count (u ∷ rest)) (branch_of u.branch) (slice_get ss s.index) x
    (ap (λ (v : Step). option_and_then (branch_of v.branch) (slice_get ss s.index)) same ∙ h)

-- ---- names

module _ (hidden : ℕ → Bool) (x : Option Opened) where
  abbrev mentioned : Option Bool
  mentioned = option_map (λ (o : Opened). mentions hidden (rest_of o.around)) x

  by_rest : option_map (mentions hidden) (after_of x) ≡ mentioned
  by_rest = by x
    where
      by : (x : Option Opened)
          → option_map (mentions hidden) (after_of x)
          ≡ option_map (λ (o : Opened). mentions hidden (rest_of o.around)) x
      by None = refl
      by (Some o) = refl

  pub mentioned_there : (rest : Block) (found : Bool) → Some rest ≡ after_of x
      → found ≡ mentions hidden rest → Some found ≡ mentioned
  mentioned_there rest found h k = ap Some k ∙ ap (option_map (mentions hidden)) h ∙ by_rest

  pub mentioned_nowhere : None ≡ after_of x → None ≡ mentioned
  mentioned_nowhere h = ap (option_map (mentions hidden)) h ∙ by_rest
