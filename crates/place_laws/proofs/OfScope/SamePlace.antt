-- The first statements of what is opened.
use Rattle.std.proofs.Common.{◌≡◌, ◌≤◌, ℕ, zero, suc, [], ◌∷◌, Option, Some, None, option_map, refl}
use Rattle.std.proofs.Common.{sym, ap, ◌∙◌, subst, arith}
use Rattle.exo_tree.specs.Tree.{Statement, If, For, Block, end, next, joined}
use Rattle.exo_tree.specs.Context.{Here, After, InLoop, InThen, InElse, rest_of}
use Rattle.exo_tree.specs.Places.{Branch, Main, Else, Path, Opened, parted, past, into, opened_in}
use Rattle.exo_tree.specs.Places.{from_body, first_of}
use Rattle.meaning_laws.proofs.Parts.{none_some, map_gives}
use Rattle.place_laws.specs.Scope.SamePlace.{SamePlace, FirstPlace, start_of}
use Rattle.place_laws.proofs.OfScope.SameHole.{same_hole}

pub joined_assoc : (a b c : Block) → joined (joined a b) c ≡ joined a (joined b c)
joined_assoc end b c = refl
joined_assoc (next x a) b c = ap (next x) (joined_assoc a b c)

pub parted_joined : (n : ℕ) (b : Block) (p : Block × Block) → parted n b ≡ Some p
    → joined p.0 p.1 ≡ b
parted_joined zero b p e = let same : (end, b) ≡ p =
    cc in ap (λ (q : Block × Block). joined q.0 q.1) (sym same)
parted_joined (suc n) end p e = absurd (none_some e)
parted_joined (suc n) (next a b) p e =
    let q = map_gives (parted n b) (λ p. (next a p.0, p.1)) p e in
    ap (λ (q : Block × Block). joined q.0 q.1) (sym q.2) ∙ ap (next a) (parted_joined n b q.0 q.1)

-- a statement before both parts
abbrev pub with_first : Statement → Block × Block → Block × Block
with_first a p = (next a p.0, p.1)

-- the first m of the first n
abbrev FirstOf : ℕ → Block → Block × Block → Type 0
FirstOf m c p = (q : Block × Block) × (parted m p.0 ≡ Some q)
    × (parted m c ≡ Some (q.0, joined q.1 p.1))

parted_first : (m n : ℕ) (c : Block) (p : Block × Block) → m ≤ n → parted n c ≡ Some p
    → FirstOf m c p
parted_first zero n c p h e = (
  (end, p.0),
  refl,
  ap (λ b. Some (end, b))
      (sym (parted_joined n c p e)),
)
parted_first (suc m) zero c p h e = absurd (omega arith)
parted_first (suc m) (suc n) end p h e = absurd (none_some e)
parted_first (suc m) (suc n) (next a b) p h e =
    let q = map_gives (parted n b) (with_first a) p e in
    let r = parted_first m n b q.0 (omega arith) q.1 in
    subst (FirstOf (suc m) (next a b)) q.2 (
      with_first a r.0,
      ap (option_map (with_first a)) r.1,
      ap
          (option_map (with_first a)) r.2,
    )

-- what is found is a start of o
abbrev Starts : ℕ → Option Opened → Opened → Type 0
Starts m found o = (p : Block × Block) × (parted m o.piece ≡ Some p) × (found ≡ Some (start_of o p))

-- where g finds starts of what f finds
abbrev StartsAll : ℕ → (Block → Option Opened) → (Block → Option Opened) → Type 0
StartsAll m f g = (b : Block) (o : Opened) → f b ≡ Some o → Starts m (g b) o

abbrev pub here : Block × Block → Opened
here p = record { around = Here p.1; piece = p.0 }

starts_here : (m n : ℕ) → m ≤ n → StartsAll m (λ c. option_map here (parted n c))
    (λ c. option_map here (parted m c))
starts_here m n h c o e =
    let p = map_gives (parted n c) here o e in
    let q = parted_first m n c p.0 h p.1 in
    subst (Starts m (option_map here (parted m c))) p.2 (q.0, q.1, ap (option_map here) q.2)

past_starts : (m k : ℕ) (f g : Block → Option Opened) → StartsAll m f g
    → StartsAll m (past k f) (past k g)
past_starts m zero f g h b o e = h b o e
past_starts m (suc k) f g h end o e = absurd (none_some e)
past_starts m (suc k) f g h (next a b) o e =
    let q = map_gives (past k f b) (λ o. record { around = After a o.around; piece = o.piece }) o
    e in
    let r = past_starts m k f g h b q.0 q.1 in
    subst (Starts m (past (suc k) g (next a b))) q.2 (
      r.0,
      r.1,
      ap (option_map (λ (o : Opened). record {
        around = After a o.around;
        piece =
            o.piece;
      })) r.2,
    )

into_starts : (m : ℕ) (branch : Branch) (f g : Block → Option Opened) → StartsAll m f g
    → StartsAll m (into branch f) (into branch g)
into_starts m Main f g h (next (For i lo hi b) rest) o e =
    let q = map_gives (f b) (λ o. record { around = InLoop i lo hi o.around rest; piece = o.piece })
    o e in
    let r = h b q.0 q.1 in
    subst (Starts m (into Main g (next (For i lo hi b) rest))) q.2 (
      r.0,
      r.1,
      ap (option_map (λ (o : Opened). record {
        around = InLoop i lo hi o.around rest;
        piece = o.piece;
      })) r.2,
    )
into_starts m Main f g h (next (If c a b) rest) o e =
    let q = map_gives (f a) (λ o. record { around = InThen c o.around b rest; piece = o.piece }) o
    e in
    let r = h a q.0 q.1 in
    subst (Starts m (into Main g (next (If c a b) rest))) q.2 (
      r.0,
      r.1,
      ap (option_map (λ (o : Opened). record {
        around = InThen c o.around b rest;
        piece = o.piece;
      })) r.2,
    )
into_starts m Else f g h (next (If c a b) rest) o e =
    let q = map_gives (f b) (λ o. record { around = InElse c a o.around rest; piece = o.piece }) o
    e in
    let r = h b q.0 q.1 in
    subst (Starts m (into Else g (next (If c a b) rest))) q.2 (
      r.0,
      r.1,
      ap (option_map (λ (o : Opened). record {
        around = InElse c a o.around rest;
        piece = o.piece;
      })) r.2,
    )
into_starts m branch f g h b o e = absurd (none_some e)

starts_in : (m n : ℕ) (path : Path) → m ≤ n → StartsAll m (opened_in n path) (opened_in m path)
starts_in m n [] h b o e = absurd (none_some e)
starts_in m n (s ∷ []) h b o e = past_starts m s.index (λ c. option_map here (parted n c))
    (λ c. option_map here (parted m c)) (starts_here m n h) b o e
starts_in m n (s ∷ t ∷ path) h b o e =
    past_starts m s.index (into t.branch (opened_in n (t ∷ path)))
    (into t.branch (opened_in m (t ∷ path))) (into_starts m t.branch (opened_in n (t ∷ path))
    (opened_in m (t ∷ path)) (starts_in m n (t ∷ path) h)) b o e

from_body_starts : (m : ℕ) (path : Path) (found there : Option Opened) (o : Opened)
    → (found ≡ Some o → Starts m there o) → from_body path found ≡ Some o
    → Starts m (from_body path there) o
from_body_starts m [] found there o h e = absurd (none_some e)
from_body_starts m (s ∷ path) found there o h e = go s.branch e
  where
    go : (branch : Branch) → elim branch [ Main ↦ found | Else ↦ None ] ≡ Some o
        → Starts m (elim branch [ Main ↦ there | Else ↦ None ]) o
    go Main e = h e
    go Else e = absurd (none_some e)

pub same_place : SamePlace
same_place m n path body o h e =
    let s = from_body_starts m path (opened_in n path body) (opened_in m path body) o
    (starts_in m n path h body o) e in (
      s.0,
      record {
        parts = s.1;
        there = s.2;
        same = same_hole o.around o.piece s.0.0 (joined s.0.1 (rest_of o.around))
            (sym (joined_assoc s.0.0 s.0.1 (rest_of o.around))
            ∙ ap (λ b. joined b (rest_of o.around)) (parted_joined m o.piece s.0 s.1));
      },
    )

first_parted : (b : Block) (p : Block × Block) → parted 1 b ≡ Some p → first_of p.0 ≡ first_of b
first_parted end p e = absurd (none_some e)
first_parted (next a b) p e = let same : (next a end, b) ≡ p =
    cc in ap (λ (q : Block × Block). first_of q.0) (sym same)

pub first_place : FirstPlace
first_place n path body o e =
    let s = same_place 1 (suc n) path body o (omega arith) e in (
      start_of o s.0,
      record {
        there = s.1.there;
        first = first_parted o.piece s.0 s.1.parts;
        same =
            s.1.same;
      },
    )
