-- Which claims of a block stand elsewhere than at a path.
use Rattle.std.proofs.Common.{◌≡◌, ◌≤◌, ◌==◌, ◌++◌, ℕ, zero, suc, false, List, [], ◌∷◌}
use Rattle.std.proofs.Common.{sym, subst, append_assoc, append-nil, arith}
use Rattle.std.proofs.lemmas.Bool.{and_left, and_right, ne_eqb}
use Rattle.exo_tree.specs.Tree.{Statement, If, For}
use Rattle.exo_tree.specs.Tree.{Block, end, next, Program}
use Rattle.exo_tree.specs.Context.{Context}
use Rattle.exo_tree.specs.Places.{Branch, Main, Else, Step, Path, same_branch, same_step, same_path, path_below}
use Rattle.exo_meaning.specs.Orders.{Each}
use Rattle.affine_places.specs.Roots.{Roots}
use Rattle.text_show.specs.Words.{Words}
use Rattle.check_claims.specs.Claim.{Claim, Placed}
use Rattle.check_claims.specs.Extents.{Extents}
use Rattle.check_claims.specs.Claims.{own_claims, placed_at, block_claims, inner_claims}
use Rattle.schedule_laws.proofs.OfOwed.Each.{each_join}
use Rattle.schedule_laws.proofs.OfOwed.Trails.{step_to, trail, headed, not_above, just_above}

-- ---- paths

-- nothing below the first path is the second
abbrev pub Diverges : Path → Path → Type 0
Diverges at path = (more : Path) → same_path (at ++ more) path ≡ false

further : (at path : Path) → Diverges at path → (s : Step) → Diverges (at ++ s ∷ []) path
further at path h s more =
    subst (λ (x : Path). same_path x path ≡ false) (sym (append_assoc at (s ∷ []) more)) (h (s ∷ more))

pub itself : (at path : Path) → Diverges at path → same_path at path ≡ false
itself at path h = subst (λ (x : Path). same_path x path ≡ false) (append-nil at) (h [])

apart : (outer : Path) (s t : Step) (rest : Path) → same_step s t ≡ false
    → Diverges (outer ++ s ∷ []) (outer ++ t ∷ rest)
apart [] s t rest h more = and_left (same_step s t) (same_path more rest) h
apart (r ∷ outer) s t rest h more =
    and_right (same_step r r) (same_path ((outer ++ s ∷ []) ++ more) (outer ++ t ∷ rest))
    (apart outer s t rest h more)

other_index : (branch : Branch) (i j : ℕ) → (i ≡ j → ⊥)
    → same_step (step_to branch i) (step_to branch j) ≡ false
other_index branch i j h = and_right (same_branch branch branch) (i == j) (ne_eqb i j h)

below : (i j : ℕ) → suc i ≤ j → i ≡ j → ⊥
below i j h e = omega (arith, h, e)

above : (i j : ℕ) → suc i ≤ j → j ≡ i → ⊥
above i j h e = omega (arith, h, e)

-- ---- claims

abbrev pub IsElsewhere : Path → Placed → Type 0
IsElsewhere path c = same_path c.place path ≡ false

pub placed_elsewhere : (at path : Path) (claims : List Claim) → same_path at path ≡ false
    → Each (IsElsewhere path) (placed_at at claims)
placed_elsewhere at path [] h = tt
placed_elsewhere at path (c ∷ cs) h = (h, placed_elsewhere at path cs h)

module _ (u : Program) (w : Words) (extents : Extents) (roots : Roots) where
  abbrev pub own : Statement → List Claim
  own = own_claims w u extents roots

  abbrev pub inner : Path → Statement → List Placed
  inner = inner_claims w u extents roots

  abbrev pub claims : Path → Branch → ℕ → Block → List Placed
  claims = block_claims w u extents roots

  mutual
    block_elsewhere : (path outer : Path) (branch : Branch) (n : ℕ) (b : Block)
        → ((j : ℕ) → n ≤ j → Diverges (path_below outer branch j) path)
        → Each (IsElsewhere path) (claims outer branch n b)
    block_elsewhere path outer branch n end h = tt
    block_elsewhere path outer branch n (next a b) h =
        let at = path_below outer branch n in
        let d = h n (not_above n) in
        each_join (IsElsewhere path) (placed_at at (own a) ++ inner at a)
        (claims outer branch (suc n) b)
        (each_join (IsElsewhere path) (placed_at at (own a)) (inner at a)
        (placed_elsewhere at path (own a) (itself at path d)) (inner_elsewhere path at a d))
        (block_elsewhere path outer branch (suc n) b (λ j l. h j (just_above n j l)))

    pub inner_elsewhere : (path at : Path) (a : Statement) → Diverges at path
        → Each (IsElsewhere path) (inner at a)
    inner_elsewhere path at (If c a b) d =
        each_join (IsElsewhere path) (claims at Main 0 a) (claims at Else 0 b)
        (block_elsewhere path at Main 0 a (λ j l. further at path d (step_to Main j)))
        (block_elsewhere path at Else 0 b (λ j l. further at path d (step_to Else j)))
    inner_elsewhere path at (For i lo hi b) d =
        block_elsewhere path at Main 0 b (λ j l. further at path d (step_to Main j))
    inner_elsewhere path at a d = tt

  -- what comes behind a statement, seen from that statement or from inside it
  pub later : (outer : Path) (branch : Branch) (n : ℕ) (b : Block) (rest : Path)
      → Each (IsElsewhere (outer ++ step_to branch n ∷ rest)) (claims outer branch (suc n) b)
  later outer branch n b rest =
      block_elsewhere (outer ++ step_to branch n ∷ rest) outer branch (suc n) b
      (λ j l. apart outer (step_to branch j) (step_to branch n) rest
      (other_index branch j n (above n j l)))

  -- the other branch, seen from a hole in a branch
  pub beside : (at : Path) (it other : Branch) (c : Context) (b : Block) → same_branch other it ≡ false
      → Each (IsElsewhere (at ++ trail it zero c)) (claims at other 0 b)
  beside at it other c b e =
      let h = headed it zero c in
      subst (λ (x : Path). Each (IsElsewhere (at ++ x)) (claims at other 0 b)) (sym h.is)
      (block_elsewhere (at ++ step_to it h.index ∷ h.rest) at other 0 b
      (λ j l. apart at (step_to other j) (step_to it h.index) h.rest
      (and_left (same_branch other it) (j == h.index) e)))

-- a statement, seen from a hole behind it
pub earlier : (outer : Path) (branch : Branch) (n : ℕ) (c : Context)
    → Diverges (path_below outer branch n) (outer ++ trail branch (suc n) c)
earlier outer branch n c =
    let h = headed branch (suc n) c in
    subst (λ (x : Path). Diverges (path_below outer branch n) (outer ++ x)) (sym h.is)
    (apart outer (step_to branch n) (step_to branch h.index) h.rest
    (other_index branch n h.index (below n h.index h.above)))
