-- What is put into a hole is opened there, and so is the place behind its first statement.
use Rattle.std.proofs.Common.{◌≡◌, ℕ, zero, suc, Bool, true, false, ◌||◌, [], ◌∷◌, Option, Some}
use Rattle.std.proofs.Common.{None}
use Rattle.std.proofs.Common.{option_map, refl, sym, ap, ◌∙◌, subst}
use Rattle.exo_tree.specs.Tree.{Statement, If, For, Block, end, next, joined}
use Rattle.exo_tree.specs.Context.{Context, Here, After, InLoop, InThen, InElse, fill, rest_of}
use Rattle.exo_tree.specs.Places.{Branch, Main, Else, Path, Opened, parted, past, into, opened_in}
use Rattle.exo_tree.specs.Places.{from_body, opened}
use Rattle.meaning_laws.proofs.Parts.{none_some, map_gives}
use Rattle.place_laws.specs.Scope.Holes.{with_rest, within}
use Rattle.place_laws.proofs.OfScope.SamePlace.{here, with_first}
use Rattle.place_laws.proofs.OfScope.PlacesCompose.{places_compose}
use Rattle.config_laws.specs.Surely.{surely_writes, step_surely_writes, surely_behind}
use Rattle.config_laws.specs.FieldRule.{Behind, gap}

-- ---- the hole

abbrev pub size : Block → ℕ
size end = zero
size (next a b) = suc (size b)

abbrev holding : Block → Opened → Opened
holding w o = record { around = o.around; piece = w }

abbrev PutsBack : (f g : Block → Option Opened) → Block → Type 0
PutsBack f g w = (b : Block) (o : Opened) → f b ≡ Some o
    → g (fill o.around w) ≡ Some (holding w o)

parted_whole : (w rest : Block) → parted (size w) (joined w rest) ≡ Some (w, rest)
parted_whole end rest = refl
parted_whole (next a w) rest = ap (option_map (with_first a)) (parted_whole w rest)

module _ (w : Block) where
  abbrev There : (Block → Option Opened) → Opened → Type 0
  There g o = g (fill o.around w) ≡ Some (holding w o)

  abbrev at_head : ℕ → Block → Option Opened
  at_head n c = option_map here (parted n c)

  here_back : (n : ℕ) → PutsBack (at_head n) (at_head (size w)) w
  here_back n b o e =
      let q = map_gives (parted n b) here o e in
      subst (There (at_head (size w))) q.2 (ap (option_map here) (parted_whole w q.0.1))

  past_back : (k : ℕ) (f g : Block → Option Opened) → PutsBack f g w
      → PutsBack (past k f) (past k g) w
  past_back zero f g h b o e = h b o e
  past_back (suc k) f g h end o e = absurd (none_some e)
  past_back (suc k) f g h (next a b) o e =
      let after : Opened → Opened =
      λ o. record { around = After a o.around; piece = o.piece } in
      let q = map_gives (past k f b) after o e in
      subst (There (past (suc k) g)) q.2 (ap (option_map after) (past_back k f g h b q.0 q.1))

  into_back : (branch : Branch) (f g : Block → Option Opened) → PutsBack f g w
      → PutsBack (into branch f) (into branch g) w
  into_back Main f g h (next (For i lo hi b) rest) o e =
      let inside : Opened → Opened =
      λ o. record { around = InLoop i lo hi o.around rest; piece = o.piece } in
      let q = map_gives (f b) inside o e in
      subst (There (into Main g)) q.2 (ap (option_map inside) (h b q.0 q.1))
  into_back Main f g h (next (If c a b) rest) o e =
      let inside : Opened → Opened =
      λ o. record { around = InThen c o.around b rest; piece = o.piece } in
      let q = map_gives (f a) inside o e in
      subst (There (into Main g)) q.2 (ap (option_map inside) (h a q.0 q.1))
  into_back Else f g h (next (If c a b) rest) o e =
      let inside : Opened → Opened =
      λ o. record { around = InElse c a o.around rest; piece = o.piece } in
      let q = map_gives (f b) inside o e in
      subst (There (into Else g)) q.2 (ap (option_map inside) (h b q.0 q.1))
  into_back branch f g h b o e = absurd (none_some e)

  opened_back : (n : ℕ) (path : Path) → PutsBack (opened_in n path) (opened_in (size w) path) w
  opened_back n [] b o e = absurd (none_some e)
  opened_back n (s ∷ []) b o e =
      past_back s.index (at_head n) (at_head (size w)) (here_back n) b o e
  opened_back n (s ∷ t ∷ path) b o e =
      past_back s.index (into t.branch (opened_in n (t ∷ path)))
      (into t.branch (opened_in (size w) (t ∷ path)))
      (into_back t.branch (opened_in n (t ∷ path)) (opened_in (size w) (t ∷ path))
      (opened_back n (t ∷ path))) b o e

from_body_back : (path : Path) (found there : Option Opened) (o p : Opened)
    → (found ≡ Some o → there ≡ Some p) → from_body path found ≡ Some o
    → from_body path there ≡ Some p
from_body_back [] found there o p h e = absurd (none_some e)
from_body_back (s ∷ path) found there o p h e = go s.branch e
  where
    go : (branch : Branch) → elim branch [ Main ↦ found | Else ↦ None ] ≡ Some o
        → elim branch [ Main ↦ there | Else ↦ None ] ≡ Some p
    go Main e = h e
    go Else e = absurd (none_some e)

pub put_back : (n : ℕ) (path : Path) (body : Block) (o : Opened) (w : Block)
    → opened n path body ≡ Some o
    → opened (size w) path (fill o.around w) ≡ Some (record { around = o.around; piece = w })
put_back n path body o w e =
    from_body_back path (opened_in n path body) (opened_in (size w) path (fill o.around w)) o
    (holding w o) (opened_back w n path body o) e

-- the place behind the first statement of what is put in
pub put_behind : (n : ℕ) (path : Path) (body : Block) (o : Opened) (a : Statement) (w : Block)
    → opened n path body ≡ Some o
    → opened 0 (gap path Behind) (fill o.around (next a w))
    ≡ Some (record { around = within o.around (After a (Here w)); piece = end })
put_behind n [] body o a w e = absurd (none_some e)
put_behind n (s ∷ path) body o a w e =
    (places_compose 0 (size (next a w)) (s ∷ path) (record { branch = Main; index = 1 }) []
    (fill o.around (next a w)) (record { around = o.around; piece = next a w })
    (record { around = After a (Here w); piece = end }) (put_back n (s ∷ path) body o (next a w) e)
    refl).there

-- ---- what is surely written there

or_assoc : (a b c : Bool) → ((a || b) || c) ≡ (a || (b || c))
or_assoc true b c = refl
or_assoc false b c = refl

module _ (calls : ℕ → ℕ → Bool) (f : ℕ) where
  joined_surely : (w rest : Block) → surely_writes calls f (joined w rest)
      ≡ (surely_writes calls f w || surely_writes calls f rest)
  joined_surely end rest = refl
  joined_surely (next a w) rest =
      let first = step_surely_writes calls f a in
      ap (λ r. first || r) (joined_surely w rest)
      ∙ sym (or_assoc first (surely_writes calls f w) (surely_writes calls f rest))

  pub within_surely : (a : Statement) (w : Block) (c : Context)
      → surely_behind calls f (within c (After a (Here w)))
      ≡ (surely_writes calls f w || surely_behind calls f c)
  within_surely a w (Here rest) = joined_surely w rest
  within_surely a w (After x c) = within_surely a w c
  within_surely a w (InLoop i lo hi c rest) =
      ap (λ r. r || surely_writes calls f rest) (within_surely a w c)
      ∙ or_assoc (surely_writes calls f w) (surely_behind calls f c) (surely_writes calls f rest)
  within_surely a w (InThen t c other rest) =
      ap (λ r. r || surely_writes calls f rest) (within_surely a w c)
      ∙ or_assoc (surely_writes calls f w) (surely_behind calls f c) (surely_writes calls f rest)
  within_surely a w (InElse t other c rest) =
      ap (λ r. r || surely_writes calls f rest) (within_surely a w c)
      ∙ or_assoc (surely_writes calls f w) (surely_behind calls f c) (surely_writes calls f rest)

  -- with more ahead of what follows the hole
  pub ahead_surely : (w : Block) (c : Context)
      → surely_behind calls f (with_rest c (joined w (rest_of c)))
      ≡ (surely_writes calls f w || surely_behind calls f c)
  ahead_surely w (Here rest) = joined_surely w rest
  ahead_surely w (After x c) = ahead_surely w c
  ahead_surely w (InLoop i lo hi c rest) =
      ap (λ r. r || surely_writes calls f rest) (ahead_surely w c)
      ∙ or_assoc (surely_writes calls f w) (surely_behind calls f c) (surely_writes calls f rest)
  ahead_surely w (InThen t c other rest) =
      ap (λ r. r || surely_writes calls f rest) (ahead_surely w c)
      ∙ or_assoc (surely_writes calls f w) (surely_behind calls f c) (surely_writes calls f rest)
  ahead_surely w (InElse t other c rest) =
      ap (λ r. r || surely_writes calls f rest) (ahead_surely w c)
      ∙ or_assoc (surely_writes calls f w) (surely_behind calls f c) (surely_writes calls f rest)
