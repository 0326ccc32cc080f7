-- The claims of a body with a store in a hole: those before the store, its own, and those behind it.
use Rattle.std.proofs.Common.{◌≡◌, ◌++◌, ℕ, zero, suc, false, List, [], ◌∷◌, refl, sym, ap, ◌∙◌, subst, append_assoc, append-nil}
use Rattle.exo_tree.specs.Tree.{Statement, Assign, Reduce, Config, Pass, If, For, Alloc, View, Call}
use Rattle.exo_tree.specs.Tree.{Block, end, next, Program}
use Rattle.exo_tree.specs.Context.{Context, Here, After, InLoop, InThen, InElse, fill}
use Rattle.exo_tree.specs.Places.{Branch, Main, Else, Step, Path, same_path, path_below}
use Rattle.exo_meaning.specs.Orders.{Each}
use Rattle.affine_places.specs.Roots.{Roots}
use Rattle.text_show.specs.Words.{Words}
use Rattle.check_claims.specs.Claim.{Claim, Placed}
use Rattle.check_claims.specs.Extents.{Extents}
use Rattle.check_claims.specs.Claims.{placed_at}
use Rattle.schedule_laws.specs.Owed.Stores.{IsStore}
use Rattle.schedule_laws.proofs.OfOwed.Each.{each_join}
use Rattle.schedule_laws.proofs.OfOwed.Trails.{step_to, trail, headed}
use Rattle.schedule_laws.proofs.OfOwed.Elsewhere.{IsElsewhere, itself, earlier, later, beside}
use Rattle.schedule_laws.proofs.OfOwed.Elsewhere.{placed_elsewhere, inner_elsewhere, own, inner}
use Rattle.schedule_laws.proofs.OfOwed.Elsewhere.{claims}

-- claims by the store at a path: others, its own, and others
pub record Parted (path : Path) (claim : Statement → List Claim) (f : Statement → List Placed) : Type 0 where
  pub front : List Placed
  pub back : List Placed
  pub before : Each (IsElsewhere path) front
  pub behind : Each (IsElsewhere path) back
  pub is : (s : Statement) → IsStore s → f s ≡ front ++ (placed_at path (claim s) ++ back)

led : (path : Path) (claim : Statement → List Claim) (f : Statement → List Placed) (xs : List Placed)
    → Each (IsElsewhere path) xs → Parted path claim f → Parted path claim (λ s. xs ++ f s)
led path claim f xs h p = record {
  front = xs ++ p.front;
  back = p.back;
  before = each_join (IsElsewhere path) xs p.front h p.before;
  behind = p.behind;
  is =
      λ s store. ap (λ (ys : List Placed). xs ++ ys) (p.is s store)
      ∙ sym (append_assoc xs p.front (placed_at path (claim s) ++ p.back));
}

followed : (path : Path) (claim : Statement → List Claim) (f : Statement → List Placed) (ys : List Placed)
    → Each (IsElsewhere path) ys → Parted path claim f → Parted path claim (λ s. f s ++ ys)
followed path claim f ys h p = record {
  front = p.front;
  back = p.back ++ ys;
  before = p.before;
  behind = each_join (IsElsewhere path) p.back ys p.behind h;
  is =
      λ s store. ap (λ (xs : List Placed). xs ++ ys) (p.is s store)
      ∙ (append_assoc p.front (placed_at path (claim s) ++ p.back) ys
      ∙ ap (λ (zs : List Placed). p.front ++ zs) (append_assoc (placed_at path (claim s)) p.back ys));
}

deeper : (outer : Path) (s : Step) (rest : Path) (claim : Statement → List Claim)
    (f : Statement → List Placed)
    → Parted ((outer ++ s ∷ []) ++ rest) claim f → Parted (outer ++ s ∷ rest) claim f
deeper outer s rest claim f p =
    subst (λ (x : Path). Parted x claim f) (append_assoc outer (s ∷ []) rest) p

module _ (u : Program) (w : Words) (extents : Extents) (roots : Roots) where
  abbrev mine : Statement → List Claim
  mine = own u w extents roots

  abbrev inside : Path → Statement → List Placed
  inside = inner u w extents roots

  abbrev all : Path → Branch → ℕ → Block → List Placed
  all = claims u w extents roots

  -- by the store in the hole
  abbrev filled : Path → Branch → ℕ → Context → Statement → List Placed
  filled outer branch n c s = all outer branch n (fill c (next s end))

  no_inner : (path : Path) (s : Statement) → IsStore s → inside path s ≡ []
  no_inner path (Assign x is e) h = refl
  no_inner path (Reduce x is e) h = refl
  no_inner path (Config f a) h = absurd h
  no_inner path Pass h = absurd h
  no_inner path (If c a b) h = absurd h
  no_inner path (For i lo hi b) h = absurd h
  no_inner path (Alloc x cell dims memory) h = absurd h
  no_inner path (View v x coords) h = absurd h
  no_inner path (Call k args) h = absurd h

  parted_block : (outer : Path) (branch : Branch) (n : ℕ) (c : Context)
      → Parted (outer ++ trail branch n c) mine (filled outer branch n c)
  parted_block outer branch n (Here rest) = record {
    front = [];
    back = all outer branch (suc n) rest;
    before = tt;
    behind = later u w extents roots outer branch n rest [];
    is =
        λ s store. ap (λ (xs : List Placed). xs ++ all outer branch (suc n) rest)
        (ap (λ (xs : List Placed). placed_at (path_below outer branch n) (mine s) ++ xs)
        (no_inner (path_below outer branch n) s store)
        ∙ append-nil (placed_at (path_below outer branch n) (mine s)));
  }
  parted_block outer branch n (After a c) =
      let at = path_below outer branch n in
      let path = outer ++ trail branch (suc n) c in
      let d = earlier outer branch n c in
      led path mine (filled outer branch (suc n) c) (placed_at at (mine a) ++ inside at a)
      (each_join (IsElsewhere path) (placed_at at (mine a)) (inside at a)
      (placed_elsewhere at path (mine a) (itself at path d))
      (inner_elsewhere u w extents roots path at a d))
      (parted_block outer branch (suc n) c)
  parted_block outer branch n (InLoop i lo hi c rest) =
      let at = path_below outer branch n in
      let s = step_to branch n in
      let t = trail Main zero c in
      followed (outer ++ s ∷ t) mine (filled at Main zero c) (all outer branch (suc n) rest)
      (later u w extents roots outer branch n rest t)
      (deeper outer s t mine (filled at Main zero c) (parted_block at Main zero c))
  parted_block outer branch n (InThen t c other rest) =
      let at = path_below outer branch n in
      let s = step_to branch n in
      let inward = trail Main zero c in
      let b = all at Else 0 other in
      let both = λ (x : Statement). filled at Main zero c x ++ b in
      followed (outer ++ s ∷ inward) mine both (all outer branch (suc n) rest)
      (later u w extents roots outer branch n rest inward)
      (deeper outer s inward mine both
      (followed (at ++ inward) mine (filled at Main zero c) b
      (beside u w extents roots at Main Else c other refl) (parted_block at Main zero c)))
  parted_block outer branch n (InElse t other c rest) =
      let at = path_below outer branch n in
      let s = step_to branch n in
      let inward = trail Else zero c in
      let a = all at Main 0 other in
      let both = λ (x : Statement). a ++ filled at Else zero c x in
      followed (outer ++ s ∷ inward) mine both (all outer branch (suc n) rest)
      (later u w extents roots outer branch n rest inward)
      (deeper outer s inward mine both
      (led (at ++ inward) mine (filled at Else zero c) a
      (beside u w extents roots at Else Main c other refl) (parted_block at Else zero c)))

  -- with the claims of parameters before them
  pub parted_claims : (ps : List Claim) (c : Context)
      → Parted (trail Main zero c) mine (λ s. placed_at [] ps ++ all [] Main 0 (fill c (next s end)))
  parted_claims ps c =
      let path = trail Main zero c in
      let h = headed Main zero c in
      let off : same_path [] path ≡ false =
      subst (λ (x : Path). same_path [] x ≡ false) (sym h.is) refl in
      led path mine (filled [] Main 0 c) (placed_at [] ps) (placed_elsewhere [] path ps off)
      (parted_block [] Main 0 c)
