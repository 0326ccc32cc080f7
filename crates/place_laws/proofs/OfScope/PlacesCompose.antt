-- What is opened in a piece.
use Rattle.std.proofs.Common.{◌≡◌, ◌+◌, ℕ, zero, suc, [], ◌∷◌, Option, Some, None, option_map, refl}
use Rattle.std.proofs.Common.{sym, ap, ◌∙◌, subst, arith}
use Rattle.exo_tree.specs.Tree.{Statement, If, For, Block, end, next, joined}
use Rattle.exo_tree.specs.Context.{After, InLoop, InThen, InElse, fill}
use Rattle.exo_tree.specs.Places.{Branch, Main, Else, Step, Path, Opened, parted, past, into}
use Rattle.exo_tree.specs.Places.{opened_in, from_body, opened}
use Rattle.meaning_laws.specs.Context.{ComesTo}
use Rattle.meaning_laws.proofs.Parts.{none_some, map_gives}
use Rattle.meaning_laws.proofs.Places.{opened_law}
use Rattle.place_laws.specs.Scope.Holes.{followed}
use Rattle.place_laws.specs.Scope.PlacesCompose.{PlacesCompose, onward, inside}
use Rattle.place_laws.proofs.OfScope.SamePlace.{here, parted_joined}
use Rattle.place_laws.proofs.OfScope.Within.{holes_compose}

abbrev after : Statement → Opened → Opened
after a o = record { around = After a o.around; piece = o.piece }

-- with more behind its block
abbrev with_more : Block → Opened → Opened
with_more more o = record { around = followed o.around more; piece = o.piece }

-- ---- more behind a block

abbrev MoreBehind : (Block → Option Opened) → Block → Type 0
MoreBehind f more = (b : Block) (o : Opened) → f b ≡ Some o
    → f (joined b more) ≡ Some (with_more more o)

parted_more : (m : ℕ) (more b : Block) (p : Block × Block) → parted m b ≡ Some p
    → parted m (joined b more) ≡ Some (p.0, joined p.1 more)
parted_more zero more b p e = let same : (end, b) ≡ p =
    cc in ap (λ (p : Block × Block). Some (p.0, joined p.1 more)) same
parted_more (suc m) more end p e = absurd (none_some e)
parted_more (suc m) more (next a b) p e =
    let q = map_gives (parted m b) (λ p. (next a p.0, p.1)) p e in
    ap (option_map (λ (p : Block × Block). (next a p.0, p.1))) (parted_more m more b q.0 q.1)
    ∙ ap (λ (p : Block × Block). Some (p.0, joined p.1 more)) q.2

here_more : (m : ℕ) (more : Block) → MoreBehind (λ c. option_map here (parted m c)) more
here_more m more b o e =
    let q = map_gives (parted m b) here o e in
    ap (option_map here) (parted_more m more b q.0 q.1) ∙ ap (λ o. Some (with_more more o)) q.2

past_more : (k : ℕ) (f : Block → Option Opened) (more : Block) → MoreBehind f more
    → MoreBehind (past k f) more
past_more zero f more h b o e = h b o e
past_more (suc k) f more h end o e = absurd (none_some e)
past_more (suc k) f more h (next a b) o e =
    let q = map_gives (past k f b) (after a) o e in
    ap (option_map (after a)) (past_more k f more h b q.0 q.1)
    ∙ ap (λ o. Some (with_more more o)) q.2

into_more : (branch : Branch) (f : Block → Option Opened) (more : Block)
    → MoreBehind (into branch f) more
into_more Main f more (next (For i lo hi b) rest) o e =
    let q = map_gives (f b) (λ o. record { around = InLoop i lo hi o.around rest; piece = o.piece })
    o e in
    ap (option_map (λ (o : Opened). record {
      around = InLoop i lo hi o.around (joined rest more);
      piece = o.piece;
    })) q.1 ∙ ap (λ o. Some (with_more more o)) q.2
into_more Main f more (next (If c a b) rest) o e =
    let q = map_gives (f a) (λ o. record { around = InThen c o.around b rest; piece = o.piece }) o
    e in
    ap (option_map (λ (o : Opened). record {
      around = InThen c o.around b (joined rest more);
      piece = o.piece;
    })) q.1 ∙ ap (λ o. Some (with_more more o)) q.2
into_more Else f more (next (If c a b) rest) o e =
    let q = map_gives (f b) (λ o. record { around = InElse c a o.around rest; piece = o.piece }) o
    e in
    ap (option_map (λ (o : Opened). record {
      around = InElse c a o.around (joined rest more);
      piece = o.piece;
    })) q.1 ∙ ap (λ o. Some (with_more more o)) q.2
into_more branch f more b o e = absurd (none_some e)

opened_more : (m : ℕ) (t : Step) (q : Path) (more : Block) → MoreBehind (opened_in m (t ∷ q)) more
opened_more m t [] more = past_more t.index (λ c. option_map here (parted m c)) more
    (here_more m more)
opened_more m t (r ∷ q) more = past_more t.index (into r.branch (opened_in m (r ∷ q))) more
    (into_more r.branch (opened_in m (r ∷ q)) more)

-- ---- a path on from a path

past_sum : (i j k : ℕ) (f : Block → Option Opened) (b : Block) → k ≡ i + j
    → past i (past j f) b ≡ past k f b
past_sum zero j k f b h = let same : j ≡ k = omega arith in ap (λ n. past n f b) same
past_sum (suc i) j zero f b h = absurd (omega arith)
past_sum (suc i) j (suc k) f end h = refl
past_sum (suc i) j (suc k) f (next a b) h =
    ap (option_map (after a)) (past_sum i j k f b (omega arith))

opened_sum : (m : ℕ) (s t : Step) (q : Path) (b : Block)
    → past s.index (opened_in m (t ∷ q)) b ≡ opened_in m (record s { index = s.index + t.index }
    ∷ q) b
opened_sum m s t [] b = past_sum s.index t.index (s.index + t.index)
    (λ c. option_map here (parted m c)) b refl
opened_sum m s t (r ∷ q) b = past_sum s.index t.index (s.index + t.index)
    (into r.branch (opened_in m (r ∷ q))) b refl

module _ (m : ℕ) (t : Step) (q : Path) where
  -- g opens at once what is opened in the piece that f opens
  abbrev OpensInside : (Block → Option Opened) → (Block → Option Opened) → Type 0
  OpensInside f g = (b : Block) (o i : Opened) → f b ≡ Some o → opened_in m (t ∷ q) o.piece ≡ Some i
      → g b ≡ Some (inside o i)

  here_inside : (n : ℕ) → OpensInside (λ c. option_map here (parted n c)) (opened_in m (t ∷ q))
  here_inside n c o i e k =
      let p = map_gives (parted n c) here o e in
      let in_first : opened_in m (t ∷ q) p.0.0 ≡ Some i =
      subst (λ (o : Opened). opened_in m (t ∷ q) o.piece ≡ Some i) (sym p.2) k in
      ap (opened_in m (t ∷ q)) (sym (parted_joined n c p.0 p.1))
      ∙ opened_more m t q p.0.1 p.0.0 i in_first ∙ ap (λ (o : Opened). Some (inside o i)) p.2

  past_inside : (k : ℕ) (f g : Block → Option Opened) → OpensInside f g
      → OpensInside (past k f) (past k g)
  past_inside zero f g h b o i e z = h b o i e z
  past_inside (suc k) f g h end o i e z = absurd (none_some e)
  past_inside (suc k) f g h (next a b) o i e z =
      let p = map_gives (past k f b) (after a) o e in
      ap (option_map (after a)) (past_inside k f g h b p.0 i p.1
      (subst (λ (o : Opened). opened_in m (t ∷ q) o.piece ≡ Some i) (sym p.2) z))
      ∙ ap (λ (o : Opened). Some (inside o i)) p.2

  into_inside : (branch : Branch) (f g : Block → Option Opened) → OpensInside f g
      → OpensInside (into branch f) (into branch g)
  into_inside Main f g h (next (For j lo hi b) rest) o i e z =
      let p = map_gives (f b) (λ o. record {
        around = InLoop j lo hi o.around rest;
        piece = o.piece;
      }) o e in
      ap (option_map (λ (o : Opened). record {
        around = InLoop j lo hi o.around rest;
        piece =
            o.piece;
      })) (h b p.0 i p.1 (subst (λ (o : Opened). opened_in m (t ∷ q) o.piece ≡ Some i)
      (sym p.2) z)) ∙ ap (λ (o : Opened). Some (inside o i)) p.2
  into_inside Main f g h (next (If c a b) rest) o i e z =
      let p = map_gives (f a) (λ o. record { around = InThen c o.around b rest; piece = o.piece }) o
      e in
      ap (option_map (λ (o : Opened). record {
        around = InThen c o.around b rest;
        piece = o.piece;
      })) (h a p.0 i p.1 (subst (λ (o : Opened). opened_in m (t ∷ q) o.piece ≡ Some i) (sym p.2)
      z)) ∙ ap (λ (o : Opened). Some (inside o i)) p.2
  into_inside Else f g h (next (If c a b) rest) o i e z =
      let p = map_gives (f b) (λ o. record { around = InElse c a o.around rest; piece = o.piece }) o
      e in
      ap (option_map (λ (o : Opened). record {
        around = InElse c a o.around rest;
        piece = o.piece;
      })) (h b p.0 i p.1 (subst (λ (o : Opened). opened_in m (t ∷ q) o.piece ≡ Some i) (sym p.2)
      z)) ∙ ap (λ (o : Opened). Some (inside o i)) p.2
  into_inside branch f g h b o i e z = absurd (none_some e)

  -- the longer path goes the same way
  same_way : (s h : Step) (path : Path) (b : Block)
      → past s.index (into h.branch (opened_in m (onward (h ∷ path) t q))) b ≡ opened_in m
      (s ∷ onward (h ∷ path) t q) b
  same_way s h [] b = refl
  same_way s h (r ∷ path) b = refl

  opened_inside : (n : ℕ) (path : Path)
      → OpensInside (opened_in n path) (opened_in m (onward path t q))
  opened_inside n [] b o i e z = absurd (none_some e)
  opened_inside n (s ∷ []) b o i e z = sym (opened_sum m s t q b)
      ∙ past_inside s.index (λ c. option_map here (parted n c)) (opened_in m (t ∷ q))
      (here_inside n) b o i e z
  opened_inside n (s ∷ h ∷ path) b o i e z =
      sym (same_way s h path b)
      ∙ past_inside s.index (into h.branch (opened_in n (h ∷ path)))
      (into h.branch (opened_in m (onward (h ∷ path) t q)))
      (into_inside h.branch (opened_in n (h ∷ path)) (opened_in m (onward (h ∷ path) t q))
      (opened_inside n (h ∷ path))) b o i e z

  from_body_inside : (path : Path) (found there : Option Opened) (o r : Opened)
      → (found ≡ Some o → there ≡ Some r) → from_body path found ≡ Some o
      → from_body (onward path t q) there ≡ Some r
  from_body_inside [] found there o r h e = absurd (none_some e)
  from_body_inside (s ∷ []) found there o r h e = go s.branch e
    where
      go : (branch : Branch) → elim branch [ Main ↦ found | Else ↦ None ] ≡ Some o
          → elim branch [ Main ↦ there | Else ↦ None ] ≡ Some r
      go Main e = h e
      go Else e = absurd (none_some e)
  from_body_inside (s ∷ x ∷ path) found there o r h e = go s.branch e
    where
      go : (branch : Branch) → elim branch [ Main ↦ found | Else ↦ None ] ≡ Some o
          → elim branch [ Main ↦ there | Else ↦ None ] ≡ Some r
      go Main e = h e
      go Else e = absurd (none_some e)

-- the branch of the first step is not looked at
first_branch : (m : ℕ) (t : Step) (q : Path) (b : Block)
    → opened m (record { branch = Main; index = t.index } ∷ q) b ≡ opened_in m (t ∷ q) b
first_branch m t [] b = refl
first_branch m t (r ∷ q) b = refl

pub places_compose : PlacesCompose
places_compose m n path t q body o i e z = record {
  piece = whole;
  there = from_body_inside m t q path (opened_in n path body) (opened_in m (onward path t q) body) o
      (inside o i) (λ k. opened_inside m t q n path body o i k z) e;
  comes = λ world s u. let law = (holes_compose i.piece o.around i.around).comes world s u in (
    (λ w. law.0 (record {
      middle = w.middle;
      first = subst (λ b. ComesTo world b o.around s
          w.middle) (sym whole) w.first;
      second = w.second;
    })),
    (λ w. let v = law.1 w in record {
      middle = v.middle;
      first = subst
          (λ b. ComesTo world b o.around s v.middle) whole v.first;
      second = v.second;
    }),
  );
}
  where
    whole : fill i.around i.piece ≡ o.piece
    whole = opened_law m (record { branch = Main; index = t.index } ∷ q) o.piece i
        (first_branch m t q o.piece ∙ z)
