-- What a procedure that may be walked says of its statements: rules, and lengths of paths.
use Rattle.std.proofs.Common.{◌≡◌, ℕ, zero, suc, ◌+◌, ◌<◌, ◌≤◌, nat_lt, Bool, true, false, cond, ◌&&◌, List, [], ◌∷◌, length, drop, arith, refl, sym, ap, ◌∙◌, subst, length-append}
use Rattle.std.specs.Prelude.{Some}
use Rattle.std.proofs.lemmas.Bool.Decides.{nat_tests}
use Rattle.exo_tree.specs.Tree.{Condition, Statement, If, For, Block, block, statements}
use Rattle.exo_tree.specs.Places.{Branch, Main, Else, Path}
use Rattle.exo_tree.specs.Branches.{branch_of}
use Rattle.exo_meaning.specs.Units.{larger, levels, step_levels, is_short}
use Rattle.meaning_laws.specs.KnownFields.{path_in}
use Rattle.affine_forms.specs.Forms.{keeps_rules}
use Rattle.affine_forms.specs.Formulas.{condition_keeps_rules}
use Rattle.affine_places.specs.Rules.{block_keeps_rules, statement_keeps_rules}

pub parts : (s t : Bool) → (s && t) ≡ true → (s ≡ true) × (t ≡ true)
parts true t h = (refl, h)
parts false t h = cc

pub both_hold : (s t : Bool) → s ≡ true → t ≡ true → (s && t) ≡ true
both_hold s t h k = ap (λ b. b && t) h ∙ k

pub statements_of : (xs : List Statement) → statements (block xs) ≡ xs
statements_of [] = refl
statements_of (x ∷ xs) = ap (λ ys. x ∷ ys) (statements_of xs)

pub larger_left : (m n : ℕ) → m ≤ larger m n
larger_left m n = go (nat_lt m n) refl
  where
    go : (t : Bool) → nat_lt m n ≡ t → m ≤ cond t n m
    go true e = grind (arith, nat_tests)
    go false e = omega arith

pub larger_right : (m n : ℕ) → n ≤ larger m n
larger_right m n = go (nat_lt m n) refl
  where
    go : (t : Bool) → nat_lt m n ≡ t → n ≤ cond t n m
    go true e = omega arith
    go false e = grind (arith, nat_tests)

pub room_for : (n : ℕ) (a : Statement) (xs rest : List Statement) → xs ≡ a ∷ rest → n + levels (block xs) ≤ 32 → (n + suc (step_levels a) ≤ 32) × (n + levels (block rest) ≤ 32)
room_for n a xs rest e h =
    let same : levels (block xs) ≡ larger (suc (step_levels a)) (levels (block rest)) = ap (λ ys. levels (block ys)) e in
    let one : suc (step_levels a) ≤ larger (suc (step_levels a)) (levels (block rest)) = larger_left (suc (step_levels a)) (levels (block rest)) in
    let two : levels (block rest) ≤ larger (suc (step_levels a)) (levels (block rest)) = larger_right (suc (step_levels a)) (levels (block rest)) in
    (omega arith, omega arith)

pub room_inside : (outer path : Path) (branch : Branch) (k n : ℕ) → path ≡ path_in outer branch k → length outer + suc n ≤ 32 → length path + n ≤ 32
room_inside outer path branch k n e h = let l : length path ≡ length outer + 1 = ap length e ∙ length-append outer (record { branch = branch; index = k } ∷ []) in omega arith

pub rules_for : (a : Statement) (xs rest : List Statement) → xs ≡ a ∷ rest → block_keeps_rules (block xs) ≡ true → (statement_keeps_rules a ≡ true) × (block_keeps_rules (block rest) ≡ true)
rules_for a xs rest e h = parts (statement_keeps_rules a) (block_keeps_rules (block rest)) (sym (ap (λ ys. block_keeps_rules (block ys)) e) ∙ h)

pub short_length : (xs : List Statement) → is_short (block xs) ≡ true → length xs < 2147483648
short_length xs h = let l : length (statements (block xs)) ≡ length xs = ap length (statements_of xs) in grind (arith, nat_tests)

-- the statement of a number, where the block is long enough
pub rules_at : (k : ℕ) (xs rest : List Statement) (a : Statement) → drop k xs ≡ a ∷ rest → block_keeps_rules (block xs) ≡ true → statement_keeps_rules a ≡ true
rules_at zero xs rest a e h = (rules_for a xs rest e h).0
rules_at (suc k) [] rest a e h = cc
rules_at (suc k) (x ∷ xs) rest a e h = rules_at k xs rest a e (rules_for x (x ∷ xs) xs refl h).1

pub room_at : (n k : ℕ) (xs rest : List Statement) (a : Statement) → drop k xs ≡ a ∷ rest → n + levels (block xs) ≤ 32 → n + suc (step_levels a) ≤ 32
room_at n zero xs rest a e h = (room_for n a xs rest e h).0
room_at n (suc k) [] rest a e h = cc
room_at n (suc k) (x ∷ xs) rest a e h = room_at n k xs rest a e (room_for n x (x ∷ xs) xs refl h).1

-- a path in a block that has a statement
pub room_before : (n k : ℕ) (xs : List Statement) → k < length xs → n + levels (block xs) ≤ 32 → n < 32
room_before n k [] l h = absurd (omega arith)
room_before n k (x ∷ xs) l h = let r = (room_for n x (x ∷ xs) xs refl h).0 in omega arith

-- a block of a statement
pub record Inside (n : ℕ) (b : Block) : Type 0 where
  pub rules : block_keeps_rules b ≡ true
  pub short : is_short b ≡ true
  pub room : n + levels b ≤ 32

both_inside : (t : Condition) (c d : Block) → statement_keeps_rules (If t c d) ≡ true
    → ((is_short c ≡ true) × (is_short d ≡ true))
    × ((block_keeps_rules c ≡ true) × (block_keeps_rules d ≡ true))
both_inside t c d h =
    let short = is_short c && is_short d in
    let keep = block_keeps_rules c && block_keeps_rules d in
    let q = parts short keep (parts (condition_keeps_rules t) (short && keep) h).1 in
    (parts (is_short c) (is_short d) q.0, parts (block_keeps_rules c) (block_keeps_rules d) q.1)

pub inside : (n : ℕ) (t : Branch) (a : Statement) (b : Block) → branch_of t a ≡ Some b → statement_keeps_rules a ≡ true → n + step_levels a ≤ 32 → Inside n b
inside n Main (For i lo hi c) b e h r =
    let p = parts (keeps_rules lo && keeps_rules hi) (is_short c && block_keeps_rules c) h in
    let q = parts (is_short c) (block_keeps_rules c) p.1 in
    let s : c ≡ b = cc in
    subst (Inside n) s (record { rules = q.1; short = q.0; room = omega arith })
inside n Main (If t c d) b e h r =
    let q = both_inside t c d h in
    let l = larger_left (levels c) (levels d) in
    let s : c ≡ b = cc in
    subst (Inside n) s (record { rules = q.1.0; short = q.0.0; room = omega arith })
inside n Else (If t c d) b e h r =
    let q = both_inside t c d h in
    let l = larger_right (levels c) (levels d) in
    let s : d ≡ b = cc in
    subst (Inside n) s (record { rules = q.1.1; short = q.0.1; room = omega arith })
inside n _ _ b e h r = cc
