-- The memory of a name, statement by statement.
use Rattle.std.proofs.Common.{◌≡◌, ◌≤◌, ◌<◌, ℕ, zero, suc, ◌+◌, ◌-◌, ◌==◌, Bool, true, false, true≢false, if◌then◌else◌, min, List, [], ◌∷◌, ◌++◌, length, drop, take, Option, Some, None, refl, sym, ap, ◌∙◌, arith}
use Rattle.exo_tree.specs.Tree.{Param, Statement, Assign, Reduce, Config, Pass, If, For, Alloc, View, Call, block, Procedure, MemoryKind}
use Rattle.memory_kinds.specs.declared.error.KindError.{KindError}
use Rattle.memory_kinds.specs.declared.scope.Found.{Found}
use Rattle.memory_kinds.specs.Homes.{Homes, memory_of_kind, with_memory, with_param, with_params, homes_after, homes_past, binds}
use Rattle.memory_kinds.specs.Faults.{block_fault, step_fault}
use Rattle.memory_kinds.specs.Scope.{found_in}
use Rattle.memory_kinds.proofs.Firsts.{went_on}

-- ---- parameters: what is said of a name depends on that name alone

with_one : (m : Option ℕ) (id : ℕ) (h g : Homes) (x : ℕ) → h x ≡ g x → with_memory h id m x ≡ with_memory g id m x
with_one None id h g x e = e
with_one (Some k) id h g x e = ap (λ v. if x == id then k else v) e

with_param_at : (p : Param) (h g : Homes) (x : ℕ) → h x ≡ g x → with_param h p x ≡ with_param g p x
with_param_at p h g x e = with_one (memory_of_kind p.kind) p.binder.id h g x e

with_params_at : (ps : List Param) (h g : Homes) (x : ℕ) → h x ≡ g x → with_params h ps x ≡ with_params g ps x
with_params_at [] h g x e = e
with_params_at (p ∷ ps) h g x e = with_params_at ps (with_param h p) (with_param g p) x (with_param_at p h g x e)

-- one parameter more
pub param_passed : (ps more : List Param) (p : Param) (known made x whole : ℕ) → ps ≡ p ∷ more → made ≡ with_param (λ y. known) p x → with_params (λ y. known) ps x ≡ whole → with_params (λ y. made) more x ≡ whole
param_passed ps more p known made x whole d h w = with_params_at more (λ y. made) (with_param (λ y. known) p) x h ∙ ap (λ qs. with_params (λ y. known) qs x) (sym d) ∙ w

-- ---- statements

past_one : (home : Homes) (ss : List Statement) (a : Statement) → homes_past home (ss ++ a ∷ []) ≡ homes_after (homes_past home ss) a
past_one home [] a = refl
past_one home (s ∷ ss) a = past_one (homes_after home s) ss a

head_same : (s a : Statement) (ss rest : List Statement) → s ∷ ss ≡ a ∷ rest → s ≡ a
head_same s a ss rest e = cc

nil_cons : (a : Statement) (rest : List Statement) → [] ≡ a ∷ rest → ⊥
nil_cons a rest e = cc

take_one : (ss rest : List Statement) (k : ℕ) (a : Statement) → drop k ss ≡ a ∷ rest → take (suc k) ss ≡ take k ss ++ a ∷ []
take_one [] rest zero a d = absurd (nil_cons a rest d)
take_one [] rest (suc k) a d = absurd (nil_cons a rest d)
take_one (s ∷ ss) rest zero a d = ap (λ x. x ∷ []) (head_same s a ss rest d)
take_one (s ∷ ss) rest (suc k) a d = ap (λ z. s ∷ z) (take_one ss rest k a d)

-- behind one statement more
pub past_more : (home : Homes) (ss rest : List Statement) (k : ℕ) (a : Statement) → drop k ss ≡ a ∷ rest → homes_past home (take (k + 1) ss) ≡ homes_after (homes_past home (take k ss)) a
past_more home ss rest k a d = let one : k + 1 ≡ suc k = omega arith in ap (λ n. homes_past home (take n ss)) one ∙ ap (homes_past home) (take_one ss rest k a d) ∙ past_one home (take k ss) a

take_min : (n : ℕ) (ss : List Statement) → take (min n (length ss)) ss ≡ take n ss
take_min zero ss = let e : min zero (length ss) ≡ zero = omega arith in ap (λ k. take k ss) e
take_min (suc n) [] = let e : min (suc n) 0 ≡ zero = omega arith in ap (λ k. take {A = Statement} k []) e
take_min (suc n) (s ∷ ss) = let e : min (suc n) (suc (length ss)) ≡ suc (min n (length ss)) = omega arith in ap (λ k. take k (s ∷ ss)) e ∙ ap (λ z. s ∷ z) (take_min n ss)

-- before the first of them is looked at
pub begun : (home : Homes) (ss : List Statement) (upto count x : ℕ) → count ≡ min upto (length ss) → homes_past home (take (count - 0) ss) x ≡ homes_past home (take upto ss) x
begun home ss upto count x e = let all : count - 0 ≡ min upto (length ss) = omega (arith, e) in ap (λ n. homes_past home (take n ss) x) all ∙ ap (λ z. homes_past home z x) (take_min upto ss)

take_none : (ss : List Statement) → take 0 ss ≡ []
take_none [] = refl
take_none (s ∷ ss) = refl

-- none is left
pub ended : (home : Homes) (ss : List Statement) (count k x whole : ℕ) → count ≤ k → homes_past home (take (count - k) ss) x ≡ whole → whole ≡ home x
ended home ss count k x whole h w =
    let none : 0 ≡ count - k = omega (arith, h) in
    sym w ∙ ap (λ n. homes_past home (take n ss) x) (sym none) ∙ ap (λ z. homes_past home z x) (take_none ss)

-- what the last statement of those that are left says
pub last_says : (home : Homes) (ss : List Statement) (count k : ℕ) (a : Statement) (x : ℕ) (found : Found) (whole : ℕ) → k < count → drop (count - 1 - k) ss ≡ a ∷ drop (count - 1 - k + 1) ss → homes_after (homes_past home (take (count - 1 - k) ss)) a x ≡ found_in (homes_past home (take (count - 1 - k) ss)) found → homes_past home (take (count - k) ss) x ≡ whole → found_in (homes_past home (take (count - (k + 1)) ss)) found ≡ whole
last_says home ss count k a x found whole h d s w =
    let at = count - 1 - k in
    let after : count - (k + 1) ≡ at = omega (arith, h) in
    let now : count - k ≡ at + 1 = omega (arith, h) in
    ap (λ n. found_in (homes_past home (take n ss)) found) after
    ∙ sym s
    ∙ ap (λ f. f x) (sym (past_more home ss (drop (at + 1) ss) at a d))
    ∙ ap (λ n. homes_past home (take n ss) x) (sym now)
    ∙ w

-- ---- blocks

module _ (procedures : List Procedure) (memories : List MemoryKind) where
  -- one statement more, where the names are those of the statements up to the last that binds one
  pub walked_on : (home : Homes) (ss rest : List Statement) (k bound after : ℕ) (a : Statement) (whole : Option KindError) → drop k ss ≡ a ∷ rest → None ≡ step_fault procedures memories (homes_past home (take bound ss)) a → homes_past home (take k ss) ≡ homes_past home (take bound ss) → homes_past home (take (k + 1) ss) ≡ homes_past home (take after ss) → block_fault procedures memories (homes_past home (take bound ss)) (block (drop k ss)) ≡ whole → block_fault procedures memories (homes_past home (take after ss)) (block rest) ≡ whole
  walked_on home ss rest k bound after a whole d h same ahead w =
      ap (λ f. block_fault procedures memories f (block rest)) (sym ahead ∙ past_more home ss rest k a d ∙ ap (λ f. homes_after f a) same)
      ∙ went_on _ (step_fault procedures memories (homes_past home (take bound ss)) a) (block_fault procedures memories (homes_after (homes_past home (take bound ss)) a) (block rest)) h refl
      ∙ ap (λ z. block_fault procedures memories (homes_past home (take bound ss)) (block z)) (sym d)
      ∙ w

-- a statement that binds no name changes no memory
kept_by : (home : Homes) (a : Statement) → binds a ≡ false → homes_after home a ≡ home
kept_by home (Assign x is e) h = refl
kept_by home (Reduce x is e) h = refl
kept_by home (Config f a) h = refl
kept_by home Pass h = refl
kept_by home (If c a b) h = refl
kept_by home (For i lo hi b) h = refl
kept_by home (Alloc x cell dims memory) h = absurd (true≢false h)
kept_by home (View w x coords) h = absurd (true≢false h)
kept_by home (Call k args) h = refl

pub next_bound : (home : Homes) (ss rest : List Statement) (k bound : ℕ) (a : Statement) → drop k ss ≡ a ∷ rest → homes_past home (take k ss) ≡ homes_past home (take bound ss) → homes_past home (take (k + 1) ss) ≡ homes_past home (take (if binds a then k + 1 else bound) ss)
next_bound home ss rest k bound a d same = go (binds a) refl
  where
    go : (t : Bool) → binds a ≡ t → homes_past home (take (k + 1) ss) ≡ homes_past home (take (if t then k + 1 else bound) ss)
    go true e = refl
    go false e = past_more home ss rest k a d ∙ kept_by (homes_past home (take k ss)) a e ∙ same
