-- The block at a path.
use Rattle.std.proofs.Common.{◌≡◌, ℕ, zero, suc, [], ◌∷◌, Option, Some, None, option_map, sym, ap, ◌∙◌}
use Rattle.exo_tree.specs.Tree.{If, For, Block, end, next, joined}
use Rattle.exo_tree.specs.Context.{Here, After, InLoop, InThen, InElse, fill}
use Rattle.exo_tree.specs.Places.{opened_in, from_body, Branch, Main, Else, Path, Opened, parted, past, into}
use Rattle.meaning_laws.specs.Places.{OpenedLaw}
use Rattle.meaning_laws.proofs.Parts.{none_some, map_gives}

-- o is opened from b
abbrev Opens : Block → Opened → Type 0
Opens b o = fill o.around o.piece ≡ b

parted_joined : (n : ℕ) (b : Block) (p : Block × Block) → parted n b ≡ Some p → joined p.0 p.1 ≡ b
parted_joined zero b p e = let same : (end, b) ≡ p = cc in ap (λ (q : Block × Block). joined q.0 q.1) (sym same)
parted_joined (suc n) end p e = absurd (none_some e)
parted_joined (suc n) (next a b) p e =
    let q = map_gives (parted n b) (λ p. (next a p.0, p.1)) p e in
    ap (λ (q : Block × Block). joined q.0 q.1) (sym q.2) ∙ ap (next a) (parted_joined n b q.0 q.1)

past_opens : (k : ℕ) (f : Block → Option Opened) → ((b : Block) (o : Opened) → f b ≡ Some o → Opens b o) → (b : Block) (o : Opened) → past k f b ≡ Some o → Opens b o
past_opens zero f h b o e = h b o e
past_opens (suc k) f h end o e = absurd (none_some e)
past_opens (suc k) f h (next a b) o e =
    let q = map_gives (past k f b) (λ o. record { around = After a o.around; piece = o.piece }) o e in
    ap (λ (o : Opened). fill o.around o.piece) (sym q.2) ∙ ap (next a) (past_opens k f h b q.0 q.1)

into_opens : (branch : Branch) (f : Block → Option Opened) → ((b : Block) (o : Opened) → f b ≡ Some o → Opens b o) → (b : Block) (o : Opened) → into branch f b ≡ Some o → Opens b o
into_opens Main f h (next (For i lo hi b) rest) o e =
    let q = map_gives (f b) (λ o. record { around = InLoop i lo hi o.around rest; piece = o.piece }) o e in
    ap (λ (o : Opened). fill o.around o.piece) (sym q.2) ∙ ap (λ c. next (For i lo hi c) rest) (h b q.0 q.1)
into_opens Main f h (next (If c a b) rest) o e =
    let q = map_gives (f a) (λ o. record { around = InThen c o.around b rest; piece = o.piece }) o e in
    ap (λ (o : Opened). fill o.around o.piece) (sym q.2) ∙ ap (λ z. next (If c z b) rest) (h a q.0 q.1)
into_opens Else f h (next (If c a b) rest) o e =
    let q = map_gives (f b) (λ o. record { around = InElse c a o.around rest; piece = o.piece }) o e in
    ap (λ (o : Opened). fill o.around o.piece) (sym q.2) ∙ ap (λ z. next (If c a z) rest) (h b q.0 q.1)
into_opens branch f h b o e = absurd (none_some e)

opens_in : (count : ℕ) (path : Path) (b : Block) (o : Opened) → opened_in count path b ≡ Some o → Opens b o
opens_in count [] b o e = absurd (none_some e)
opens_in count (s ∷ []) b o e = past_opens s.index (λ c. option_map (λ p. record { around = Here p.1; piece = p.0 }) (parted count c)) here b o e
  where
    here : (c : Block) (o : Opened) → option_map (λ p. record { around = Here p.1; piece = p.0 }) (parted count c) ≡ Some o → Opens c o
    here c o e =
        let q = map_gives (parted count c) (λ p. record { around = Here p.1; piece = p.0 }) o e in
        ap (λ (o : Opened). fill o.around o.piece) (sym q.2) ∙ parted_joined count c q.0 q.1
opens_in count (s ∷ t ∷ path) b o e = past_opens s.index (into t.branch (opened_in count (t ∷ path))) (into_opens t.branch (opened_in count (t ∷ path)) (opens_in count (t ∷ path))) b o e

from_body_opens : (path : Path) (b : Block) (found : Option Opened) → ((o : Opened) → found ≡ Some o → Opens b o) → (o : Opened) → from_body path found ≡ Some o → Opens b o
from_body_opens [] b found h o e = absurd (none_some e)
from_body_opens (s ∷ path) b found h o e = go s.branch e
  where
    go : (branch : Branch) → elim branch [ Main ↦ found | Else ↦ None ] ≡ Some o → Opens b o
    go Main e = h o e
    go Else e = absurd (none_some e)

pub opened_law : OpenedLaw
opened_law count path b o e = from_body_opens path b (opened_in count path b) (opens_in count path b) o e
