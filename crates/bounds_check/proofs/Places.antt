-- The place of each claim is one of the procedure's.
use Rattle.std.proofs.Common.{◌≡◌, ℕ, suc, ◌+◌, Bool, true, ◌&&◌, List, [], ◌∷◌, ◌++◌, Option, Some, None, option_map, refl, ap, ◌∙◌, append_assoc, arith}
use Rattle.std.specs.List.{list_all}
use Rattle.std.specs.Option.{is_some}
use Rattle.std.proofs.lemmas.List.Folds.{list_all-map}
use Rattle.exo_tree.specs.Tree.{Statement, Assign, Reduce, Config, Pass, If, For, Alloc, View, Call, Block, end, next, Program}
use Rattle.exo_tree.specs.Places.{Branch, Main, Else, Step, Path, opened_in, path_below}
use Rattle.affine_places.specs.Roots.{Roots}
use Rattle.text_show.specs.Words.{Words}
use Rattle.check_claims.specs.Claim.{Claim, Placed}
use Rattle.check_claims.specs.Extents.{Extents}
use Rattle.check_claims.specs.Claims.{own_claims, placed_at, block_claims, inner_claims}
use Rattle.bounds_check.proofs.Affines.{appended}

abbrev pub step : Branch → ℕ → Step
step branch n = record { branch = branch; index = n }

still_some : {A B : Type 0} (f : A → B) (o : Option A) → is_some o ≡ true → is_some (option_map f o) ≡ true
still_some f None h = h
still_some f (Some a) h = refl

-- a statement of the rest of a block is one of the block
one_further : (branch : Branch) (j : ℕ) (path : Path) (a : Statement) (b : Block) → is_some (opened_in 1 (step branch j ∷ path) b) ≡ true → is_some (opened_in 1 (step branch (suc j) ∷ path) (next a b)) ≡ true
one_further branch j [] a b h = still_some _ _ h
one_further branch j (t ∷ path) a b h = still_some _ _ h

all_same : {X : Type 0} (f : X → Bool) → ((x : X) → f x ≡ true) → (xs : List X) → list_all f xs ≡ true
all_same f h [] = refl
all_same f h (x ∷ xs) = ap (λ t. t && list_all f xs) (h x) ∙ all_same f h xs

module _ (w : Words) (u : Program) (extents : Extents) (roots : Roots) (test : Path → Bool) where
  abbrev here : Placed → Bool
  here c = test c.place

  -- the test passes each place of the block, whose first statement has that number, behind the path
  abbrev Passes : Path → Branch → ℕ → Block → Type 0
  Passes outer branch n b = (j : ℕ) (path : Path) → is_some (opened_in 1 (step branch j ∷ path) b) ≡ true → test (outer ++ step branch (n + j) ∷ path) ≡ true

  pub own_places : (path : Path) (cs : List Claim) → test path ≡ true → list_all here (placed_at path cs) ≡ true
  own_places path cs h = list_all-map here (λ c. record { place = path; claim = c }) cs ∙ all_same (λ c. test path) (λ c. h) cs

  -- a block inside the first statement
  inside : (outer : Path) (branch which : Branch) (n : ℕ) (a : Statement) (b inner : Block) → Passes outer branch n (next a b)
      → ((j : ℕ) (path : Path) → is_some (opened_in 1 (step which j ∷ path) inner) ≡ true → is_some (opened_in 1 (step branch 0 ∷ step which j ∷ path) (next a b)) ≡ true)
      → Passes (path_below outer branch n) which 0 inner
  inside outer branch which n a b inner h k j path e =
      ap (λ m. test (path_below outer branch n ++ step which m ∷ path)) (before j)
      ∙ ap test (append_assoc outer (step branch n ∷ []) (step which j ∷ path) ∙ ap (λ m. outer ++ step branch m ∷ step which j ∷ path) (nothing n))
      ∙ h 0 (step which j ∷ path) (k j path e)
    where
      nothing : (n : ℕ) → n ≡ n + 0
      nothing n = omega arith

      before : (j : ℕ) → 0 + j ≡ j
      before j = omega arith

  mutual
    pub block_places : (outer : Path) (branch : Branch) (n : ℕ) (b : Block) → Passes outer branch n b → list_all here (block_claims w u extents roots outer branch n b) ≡ true
    block_places outer branch n end h = refl
    block_places outer branch n (next a b) h =
        let path = path_below outer branch n in
        let inner = inner_claims w u extents roots path a in
        let rest = block_claims w u extents roots outer branch (suc n) b in
        let own = placed_at path (own_claims w u extents roots a) in
        appended here (own ++ inner) rest
        (appended here own inner (own_places path (own_claims w u extents roots a) (ap (λ m. test (outer ++ step branch m ∷ [])) (nothing n) ∙ h 0 [] refl)) (inner_places outer branch n a b h))
        (block_places outer branch (suc n) b (λ j way e. ap (λ m. test (outer ++ step branch m ∷ way)) (further n j) ∙ h (suc j) way (one_further branch j way a b e)))
      where
        nothing : (n : ℕ) → n ≡ n + 0
        nothing n = omega arith

        further : (n j : ℕ) → suc n + j ≡ n + suc j
        further n j = omega arith

    inner_places : (outer : Path) (branch : Branch) (n : ℕ) (a : Statement) (b : Block) → Passes outer branch n (next a b) → list_all here (inner_claims w u extents roots (path_below outer branch n) a) ≡ true
    inner_places outer branch n (Assign x is e) b h = refl
    inner_places outer branch n (Reduce x is e) b h = refl
    inner_places outer branch n (Config f v) b h = refl
    inner_places outer branch n Pass b h = refl
    inner_places outer branch n (If c x y) b h =
        let path = path_below outer branch n in
        appended here (block_claims w u extents roots path Main 0 x) (block_claims w u extents roots path Else 0 y)
        (block_places path Main 0 x (inside outer branch Main n (If c x y) b x h (λ j path e. still_some _ _ e)))
        (block_places path Else 0 y (inside outer branch Else n (If c x y) b y h (λ j path e. still_some _ _ e)))
    inner_places outer branch n (For i lo hi x) b h = block_places (path_below outer branch n) Main 0 x (inside outer branch Main n (For i lo hi x) b x h (λ j path e. still_some _ _ e))
    inner_places outer branch n (Alloc x cell dims memory) b h = refl
    inner_places outer branch n (View v x coords) b h = refl
    inner_places outer branch n (Call k args) b h = refl
