-- Places of a block without its stores are those of the block.
use Rattle.std.proofs.Common.{◌≡◌, ℕ, zero, suc, [], ◌∷◌, Option, Some, None, option_map, refl, sym, ap, ◌∙◌}
use Rattle.exo_tree.specs.Tree.{Statement, If, For, Block, end, next}
use Rattle.exo_tree.specs.Places.{Branch, Main, Else, Path, Opened, parted, past, into, opened_in, opened}
use Rattle.schedule_laws.proofs.OfOwed.Trails.{here, behind, in_loop, in_then, in_else}
use Rattle.schedule_laws.proofs.OfOwed.Plain.{plain, step_plain, plain_around}

abbrev pub plain_opened : Opened → Opened
plain_opened o = record { around = plain_around o.around; piece = plain o.piece }

swapped : {A B C D : Type 0} (f : B → D) (g : A → B) (h : C → D) (k : A → C) (x : Option A)
    → ((a : A) → f (g a) ≡ h (k a))
    → option_map f (option_map g x) ≡ option_map h (option_map k x)
swapped f g h k None e = refl
swapped f g h k (Some a) e = ap Some (e a)

-- ---- what is opened

abbrev led_by : Statement → Block × Block → Block × Block
led_by a p = (next a p.0, p.1)

abbrev both_plain : Block × Block → Block × Block
both_plain p = (plain p.0, plain p.1)

abbrev Plainly : (Block → Option Opened) → (Block → Option Opened) → Type 0
Plainly f g = (b : Block) → f (plain b) ≡ option_map plain_opened (g b)

parted_plain : (n : ℕ) (b : Block) → parted n (plain b) ≡ option_map both_plain (parted n b)
parted_plain zero b = refl
parted_plain (suc n) end = refl
parted_plain (suc n) (next a b) =
    ap (option_map (led_by (step_plain a))) (parted_plain n b)
    ∙ swapped (led_by (step_plain a)) both_plain both_plain (led_by a) (parted n b) (λ p. refl)

abbrev piece_of : ℕ → Block → Option Opened
piece_of count b = option_map here (parted count b)

here_plain : (count : ℕ) → Plainly (piece_of count) (piece_of count)
here_plain count b =
    ap (option_map here) (parted_plain count b)
    ∙ swapped here both_plain plain_opened here (parted count b) (λ p. refl)

past_plain : (k : ℕ) (f g : Block → Option Opened) → Plainly f g → Plainly (past k f) (past k g)
past_plain zero f g e b = e b
past_plain (suc k) f g e end = refl
past_plain (suc k) f g e (next a b) =
    ap (option_map (behind (step_plain a))) (past_plain k f g e b)
    ∙ swapped (behind (step_plain a)) plain_opened plain_opened (behind a) (past k g b) (λ o. refl)

into_plain : (branch : Branch) (f g : Block → Option Opened) → Plainly f g
    → Plainly (into branch f) (into branch g)
into_plain Main f g e (next (For i lo hi b) rest) =
    ap (option_map (in_loop i lo hi (plain rest))) (e b)
    ∙ swapped (in_loop i lo hi (plain rest)) plain_opened plain_opened (in_loop i lo hi rest) (g b)
    (λ o. refl)
into_plain Main f g e (next (If c a b) rest) =
    ap (option_map (in_then c (plain b) (plain rest))) (e a)
    ∙ swapped (in_then c (plain b) (plain rest)) plain_opened plain_opened (in_then c b rest) (g a)
    (λ o. refl)
into_plain Else f g e (next (If c a b) rest) =
    ap (option_map (in_else c (plain a) (plain rest))) (e b)
    ∙ swapped (in_else c (plain a) (plain rest)) plain_opened plain_opened (in_else c a rest) (g b)
    (λ o. refl)
into_plain branch f g e b = refl

opened_in_plain : (count : ℕ) (path : Path) → Plainly (opened_in count path) (opened_in count path)
opened_in_plain count [] b = refl
opened_in_plain count (s ∷ []) b =
    past_plain s.index (piece_of count) (piece_of count) (here_plain count) b
opened_in_plain count (s ∷ t ∷ path) b =
    let f = opened_in count (t ∷ path) in
    past_plain s.index (into t.branch f) (into t.branch f)
    (into_plain t.branch f f (opened_in_plain count (t ∷ path))) b

-- a procedure has its body alone
abbrev by : Branch → Option Opened → Option Opened
by branch found = elim branch as (λ b. Option Opened) [ Main ↦ found | Else ↦ None ]

by_plain : (branch : Branch) (x y : Option Opened) → x ≡ option_map plain_opened y
    → by branch x ≡ option_map plain_opened (by branch y)
by_plain Main x y e = e
by_plain Else x y e = refl

opened_plain : (count : ℕ) (path : Path) → Plainly (opened count path) (opened count path)
opened_plain count [] b = refl
opened_plain count (s ∷ path) b =
    by_plain s.branch (opened_in count (s ∷ path) (plain b)) (opened_in count (s ∷ path) b)
    (opened_in_plain count (s ∷ path) b)

pub opened_alike : (path : Path) (b c : Block) → plain b ≡ plain c
    → option_map plain_opened (opened 1 path b) ≡ option_map plain_opened (opened 1 path c)
opened_alike path b c e =
    sym (opened_plain 1 path b) ∙ (ap (opened 1 path) e ∙ opened_plain 1 path c)
