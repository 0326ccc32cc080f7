-- The ids of a piece are ids of its procedure.
use Rattle.std.proofs.Common.{◌≡◌, ℕ, ◌==◌, nat_lt, Bool, true, false, not, ◌&&◌, ◌||◌, List, []}
use Rattle.std.proofs.Common.{◌∷◌, ◌++◌, map, refl, sym, ap, ap₂, ◌∙◌, subst}
use Rattle.std.specs.List.{list_all, list_any}
use Rattle.exo_tree.specs.Context.{Context, Here, After, InLoop, InThen, InElse, fill}
use Rattle.exo_tree.specs.Tree.{Block, end, next, joined, Param}
use Rattle.exo_tree.specs.Renaming.{binders, binders_below}
use Rattle.exo_meaning.specs.Units.{are_distinct}
use Rattle.exo_meaning.proofs.Frame.{or_parts}
use Rattle.meaning_laws.proofs.Places.{opened_law}
use Rattle.meaning_laws.proofs.Scoped.{not_true}
use Rattle.meaning_laws.proofs.Substitute.{and_parts}
use Rattle.call_laws.specs.Replace.BlockIds.{PieceIds}

abbrev Among : List ℕ → ℕ → Bool
Among xs x = list_any (λ y. x == y) xs

among_left : (xs ys : List ℕ) (x : ℕ) → Among (xs ++ ys) x ≡ false → Among xs x ≡ false
among_left [] ys x h = refl
among_left (z ∷ xs) ys x h =
    let p = or_parts (x == z) (Among (xs ++ ys) x) h in
    ap₂ (λ s t. s || t) p.0 (among_left xs ys x p.1)

binders_joined : (b c : Block) → binders (joined b c) ≡ binders b ++ binders c
binders_joined end c = refl
binders_joined (next a b) c =
    ap (λ zs. binders_below a ++ zs) (binders_joined b c)
    ∙ sym (regroup (binders_below a) (binders b) (binders c))
  where
    regroup : (xs ys zs : List ℕ) → (xs ++ ys) ++ zs ≡ xs ++ (ys ++ zs)
    regroup [] ys zs = refl
    regroup (x ∷ xs) ys zs = ap (λ ws. x ∷ ws) (regroup xs ys zs)

module _ (base : ℕ) where
  abbrev are_below : List ℕ → Bool
  are_below xs = list_all (λ x. nat_lt x base) xs

  -- no id twice, and all of them below the number
  abbrev AreOld : List ℕ → Type 0
  AreOld xs = (are_distinct xs ≡ true) × (are_below xs ≡ true)

  behind : (x : ℕ) (xs : List ℕ) → AreOld (x ∷ xs) → AreOld xs
  behind x xs h = (
    (and_parts (not (Among xs x)) (are_distinct xs) h.0).1,
    (and_parts (nat_lt x base) (are_below xs) h.1).1,
  )

  left_part : (xs ys : List ℕ) → AreOld (xs ++ ys) → AreOld xs
  left_part [] ys h = (refl, refl)
  left_part (x ∷ xs) ys h =
      let p = and_parts (not (Among (xs ++ ys) x)) (are_distinct (xs ++ ys)) h.0 in
      let q = and_parts (nat_lt x base) (are_below (xs ++ ys)) h.1 in
      let rest = left_part xs ys (p.1, q.1) in (
        ap₂ (λ s t. not s && t) (among_left xs ys x (not_true (Among (xs ++ ys) x) p.0)) rest.0,
        ap₂ (λ s t. s && t) q.0 rest.1,
      )

  right_part : (xs ys : List ℕ) → AreOld (xs ++ ys) → AreOld ys
  right_part [] ys h = h
  right_part (x ∷ xs) ys h = right_part xs ys (behind x (xs ++ ys) h)

  inside : (c : Context) (b : Block) → AreOld (binders (fill c b)) → AreOld (binders b)
  inside (Here rest) b h =
      left_part (binders b) (binders rest) (subst AreOld (binders_joined b rest) h)
  inside (After a c) b h = inside c b (right_part (binders_below a) (binders (fill c b)) h)
  inside (InLoop i lo hi c rest) b h =
      inside c b (left_part (binders (fill c b)) (binders rest)
      (behind i.id (binders (fill c b) ++ binders rest) h))
  inside (InThen t c other rest) b h =
      inside c b (left_part (binders (fill c b)) (binders other)
      (left_part (binders (fill c b) ++ binders other) (binders rest) h))
  inside (InElse t other c rest) b h =
      inside c b (right_part (binders other) (binders (fill c b))
      (left_part (binders other ++ binders (fill c b)) (binders rest) h))

pub piece_ids : PieceIds
piece_ids p n path o base opens own low =
    inside base o.around o.piece
    (subst (λ b. AreOld base (binders b)) (sym (opened_law n path p.body o opens))
    (right_part base (map (λ (q : Param). q.binder.id) p.params) (binders p.body) (own, low)))
