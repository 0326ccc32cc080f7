-- The claims of a block, one statement after the other, and what its paths ask.
use Rattle.std.proofs.Common.{◌≡◌, ℕ, suc, ◌+◌, ◌<◌, ◌≤◌, ◌^◌, nat_lt, Bool, true, false, ◌&&◌, if◌then◌else◌, List, [], ◌∷◌, ◌++◌, length, refl, ap, sym, ◌∙◌, subst, add-one, append_assoc, arith, true≢false}
use Rattle.std.proofs.lemmas.Bool.Decides.{nat_tests}
use Rattle.std.proofs.lemmas.List.{length-append}
use Rattle.exo_tree.specs.Tree.{Statement, block, statements, Program}
use Rattle.exo_tree.specs.Places.{Branch, Path, path_below}
use Rattle.exo_meaning.specs.Units.{is_short, larger, levels, step_levels}
use Rattle.affine_places.specs.Roots.{Roots}
use Rattle.text_show.specs.Words.{Words}
use Rattle.check_claims.specs.Claim.{Claim, Placed}
use Rattle.check_claims.specs.Extents.{Extents}
use Rattle.check_claims.specs.Claims.{placed_at, own_claims, inner_claims, block_claims}
use Rattle.check_claims.specs.Short.{is_short_inside, step_is_short}

-- ---- tests

pub both : (a b : Bool) → (a && b) ≡ true → (a ≡ true) × (b ≡ true)
both true b h = (refl, h)
both false b h = absurd (true≢false (sym h))

pub left_least : (m n : ℕ) → m ≤ larger m n
left_least m n = by (nat_lt m n) refl
  where
    by : (t : Bool) → nat_lt m n ≡ t → m ≤ (if t then n else m)
    by true h = grind (arith, nat_tests)
    by false h = omega arith

pub right_least : (m n : ℕ) → n ≤ larger m n
right_least m n = by (nat_lt m n) refl
  where
    by : (t : Bool) → nat_lt m n ≡ t → n ≤ (if t then n else m)
    by true h = omega arith
    by false h = grind (arith, nat_tests)

statements_block : (ss : List Statement) → statements (block ss) ≡ ss
statements_block [] = refl
statements_block (s ∷ ss) = ap (λ l. s ∷ l) (statements_block ss)

below : (m n : ℕ) → nat_lt m n ≡ true → m < n
below m n h = grind (arith, nat_tests)

-- a short block has fewer than 2^31 statements
pub short_length : (ss : List Statement) → is_short (block ss) ≡ true → length ss < 2 ^ 31
short_length ss h = below (length ss) (2 ^ 31) (ap (λ (l : List Statement). nat_lt (length l) (2 ^ 31)) (sym (statements_block ss)) ∙ h)

-- ---- one statement more

-- the paths of a statement and of the rest of its block
pub deep_enough : (n : ℕ) (ss rest : List Statement) (s : Statement) → ss ≡ s ∷ rest → n + levels (block ss) < 33 → (n < 32) × (n + 1 + step_levels s < 33) × (n + levels (block rest) < 33)
deep_enough n ss rest s e h =
    let k : n + larger (suc (step_levels s)) (levels (block rest)) < 33 = subst (λ (l : List Statement). n + levels (block l) < 33) e h in
    let l = left_least (suc (step_levels s)) (levels (block rest)) in
    let r = right_least (suc (step_levels s)) (levels (block rest)) in
    (omega (arith, k, l), omega (arith, k, l), omega (arith, k, r))

pub short_on : (ss rest : List Statement) (s : Statement) → ss ≡ s ∷ rest → is_short_inside (block ss) ≡ true → (step_is_short s ≡ true) × (is_short_inside (block rest) ≡ true)
short_on ss rest s e h = both (step_is_short s) (is_short_inside (block rest)) (ap (λ (l : List Statement). is_short_inside (block l)) (sym e) ∙ h)

pub below_length : (outer path : Path) (branch : Branch) (k : ℕ) → path ≡ path_below outer branch k → length path ≡ length outer + 1
below_length outer path branch k h = ap length h ∙ length-append outer (record { branch = branch; index = k } ∷ [])

module _ (w : Words) (u : Program) (extents : Extents) (roots : Roots) (outer : Path) (branch : Branch) where
  pub walked_on : (k : ℕ) (out behind after whole : List Placed) (path : Path) (own : List Claim) (s : Statement) (ss rest : List Statement) → ss ≡ s ∷ rest → path ≡ path_below outer branch k → own ≡ own_claims w u extents roots s
      → behind ≡ out ++ placed_at path own → after ≡ behind ++ inner_claims w u extents roots path s
      → out ++ block_claims w u extents roots outer branch k (block ss) ≡ whole → after ++ block_claims w u extents roots outer branch (k + 1) (block rest) ≡ whole
  walked_on k out behind after whole path own s ss rest e p o h j g =
      let here = path_below outer branch k in
      let a = placed_at here (own_claims w u extents roots s) in
      let b = inner_claims w u extents roots here s in
      let more = block_claims w u extents roots outer branch (suc k) (block rest) in
      let first : behind ≡ out ++ a = h ∙ (λ i. out ++ placed_at (p i) (o i)) in
      let second : after ≡ (out ++ a) ++ b = j ∙ (λ i. first i ++ inner_claims w u extents roots (p i) s) in
      ap (λ n. after ++ block_claims w u extents roots outer branch n (block rest)) (add-one k)
      ∙ ap (λ l. l ++ more) (second ∙ append_assoc out a b)
      ∙ append_assoc out (a ++ b) more
      ∙ ap (λ (l : List Statement). out ++ block_claims w u extents roots outer branch k (block l)) (sym e)
      ∙ g
