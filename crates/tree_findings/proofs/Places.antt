-- The names in scope at a place, a step of its path at a time.
use Rattle.std.proofs.Common.{◌≡◌, ℕ, zero, suc, ◌≤◌, min, Bool, List, [], ◌∷◌, length, map, take, drop, Option, Some, None, refl, ap, sym, ◌∙◌}
use Rattle.std.proofs.Common.{subst, arith}
use Rattle.std.proofs.Common.{◌⊎◌, inl, inr}
use Rattle.std.proofs.lemmas.List.{take_min}
use Rattle.std.specs.Prelude.{slice_get, option_map}
use Rattle.exo_tree.specs.Tree.{Statement, If, For, Block, end, next, block, Binder, Control, Condition}
use Rattle.exo_tree.specs.Context.{Context, After, InLoop, InThen, InElse}
use Rattle.exo_tree.specs.Places.{Branch, Main, Else, Step, Path, Opened, parted, past, into, opened_in, opened}
use Rattle.exo_tree.specs.Places.{from_body}
use Rattle.exo_tree.proofs.Openings.{around_by, with_rest}
use Rattle.exo_meaning.specs.Units.{Scope, scope_after, with_name, ControlName}
use Rattle.exo_tree.specs.Tree.{Index}
use Rattle.meaning_laws.specs.Sorted.{scope_at, scope_there}
use Rattle.exo_tree.specs.Tree.{Procedure}
use Rattle.exo_meaning.specs.Units.{scope_of}
use Rattle.tree_edits.specs.Made.Passes.{is_alone}
use Rattle.tree_findings.specs.Placed.{scope_behind_all, IsScopeAt, IsScopeIn}

-- one statement more
pub one_behind : (ss rest : List Statement) (k : ℕ) (a : Statement) (scope : Scope) → drop k ss ≡ a ∷ rest
    → scope_behind_all (take (suc k) ss) scope ≡ scope_after a (scope_behind_all (take k ss) scope)
one_behind [] rest zero a scope e = cc
one_behind [] rest (suc k) a scope e = cc
one_behind (b ∷ ss) rest zero a scope e = let same : b ≡ a = cc in ap (λ (x : Statement). scope_after x scope) same
one_behind (b ∷ ss) rest (suc k) a scope e = one_behind ss rest k a (scope_after b scope) e

-- ---- what is opened

around : (g : Context → Context) (outer middle inner : Scope) (x : Option Opened)
    → ((c : Context) → scope_at (g c) outer ≡ scope_at c middle)
    → IsScopeAt x middle inner → IsScopeAt (around_by g x) outer inner
around g outer middle inner None e h = tt
around g outer middle inner (Some o) e h = h ∙ sym (e o.around)

past_scope : (f : Block → Option Opened) (k : ℕ) (ss : List Statement) (outer inner : Scope)
    → IsScopeAt (f (block (drop k ss))) (scope_behind_all (take k ss) outer) inner
    → IsScopeAt (past k f (block ss)) outer inner
past_scope f zero ss outer inner h = h
past_scope f (suc k) [] outer inner h = tt
past_scope f (suc k) (a ∷ ss) outer inner h =
    around (After a) outer (scope_after a outer) inner (past k f (block ss)) (λ c. refl)
    (past_scope f k ss (scope_after a outer) inner h)

past_none : (f : Block → Option Opened) (k : ℕ) (ss : List Statement) (outer inner : Scope)
    → IsScopeAt (f end) (scope_behind_all ss outer) inner → length ss ≤ k
    → IsScopeAt (past k f (block ss)) outer inner
past_none f zero [] outer inner h l = h
past_none f zero (a ∷ ss) outer inner h l = absurd (omega (arith, l))
past_none f (suc k) [] outer inner h l = tt
past_none f (suc k) (a ∷ ss) outer inner h l =
    around (After a) outer (scope_after a outer) inner (past k f (block ss)) (λ c. refl)
    (past_none f k ss (scope_after a outer) inner h (omega (arith, l)))

nothing_in : (which : Branch) (f : Block → Option Opened) (outer inner : Scope) → IsScopeAt (into which f end) outer inner
nothing_in Main f outer inner = tt
nothing_in Else f outer inner = tt

-- ---- by what the code has found of the first step

pub no_step : {X : Type 0} (f : X → Step) (count : ℕ) (xs : List X) (b : Block) (outer inner : Scope)
    → length xs ≡ 0 → IsScopeAt (opened_in count (map f xs) b) outer inner
no_step f count [] b outer inner h = tt
no_step f count (x ∷ xs) b outer inner h = absurd (omega (arith, h))

-- so many statements, or as many as there are
take_all : (k n : ℕ) (ss : List Statement) → n ≡ min k (length ss) → take n ss ≡ take k ss
take_all k n ss h = ap (λ (m : ℕ). take m ss) h ∙ take_min k ss

module _ (count : ℕ) (s : Step) (path rest : Path) (ss : List Statement) (outer : Scope) (e : path ≡ s ∷ rest) where
  -- it ends here
  pub at_statement : (n : ℕ) (inner : Scope) → slice_get rest 0 ≡ None → n ≡ min s.index (length ss)
      → inner ≡ scope_behind_all (take n ss) outer
      → IsScopeAt (opened_in count path (block ss)) outer inner
  at_statement n inner none m h = by rest e none
    where
      here : (x : Option (Block × Block)) (out inner : Scope) → inner ≡ out → IsScopeAt (with_rest x) out inner
      here None out inner h = tt
      here (Some p) out inner h = h

      by : (rest : Path) → path ≡ s ∷ rest → slice_get rest 0 ≡ None
          → IsScopeAt (opened_in count path (block ss)) outer inner
      by [] e none =
          subst (λ (p : Path). IsScopeAt (opened_in count p (block ss)) outer inner) (sym e)
          (past_scope (λ c. with_rest (parted count c)) s.index ss outer inner
          (here (parted count (block (drop s.index ss))) (scope_behind_all (take s.index ss) outer) inner
          (h ∙ ap (λ (xs : List Statement). scope_behind_all xs outer) (take_all s.index n ss m))))
      by (t ∷ rest) e none = cc

  module _ (t : Step) (first : slice_get rest 0 ≡ Some t) where
    -- the path leads behind the block
    pub beyond_all : (inner : Scope) → length ss ≤ s.index → IsScopeAt (opened_in count path (block ss)) outer inner
    beyond_all inner l = by rest e first
      where
        by : (rest : Path) → path ≡ s ∷ rest → slice_get rest 0 ≡ Some t
            → IsScopeAt (opened_in count path (block ss)) outer inner
        by [] e first = cc
        by (u ∷ rest) e first =
            subst (λ (p : Path). IsScopeAt (opened_in count p (block ss)) outer inner) (sym e)
            (past_none (into u.branch (opened_in count (u ∷ rest))) s.index ss outer inner
            (nothing_in u.branch (opened_in count (u ∷ rest)) (scope_behind_all ss outer) inner) l)

    -- it goes on in a statement
    pub below_statement : (n : ℕ) (more : List Statement) (a : Statement) (middle inner : Scope)
        → drop s.index ss ≡ a ∷ more → n ≡ min s.index (length ss)
        → middle ≡ scope_behind_all (take n ss) outer
        → IsScopeIn t.branch (opened_in count rest) a middle inner
        → IsScopeAt (opened_in count path (block ss)) outer inner
    below_statement n more a middle inner d w m h = by rest e first h
      where
        by : (rest : Path) → path ≡ s ∷ rest → slice_get rest 0 ≡ Some t
            → IsScopeIn t.branch (opened_in count rest) a middle inner
            → IsScopeAt (opened_in count path (block ss)) outer inner
        by [] e first h = cc
        by (u ∷ rest) e first h =
            let same : u ≡ t = cc in
            let at = m ∙ ap (λ (xs : List Statement). scope_behind_all xs outer) (take_all s.index n ss w) in
            subst (λ (p : Path). IsScopeAt (opened_in count p (block ss)) outer inner) (sym e)
            (past_scope (into u.branch (opened_in count (u ∷ rest))) s.index ss outer inner
            (subst (λ (xs : List Statement). IsScopeAt (into u.branch (opened_in count (u ∷ rest)) (block xs))
            (scope_behind_all (take s.index ss) outer) inner) (sym d)
            (subst (λ (sc : Scope). IsScopeAt (into u.branch (opened_in count (u ∷ rest)) (next a (block more))) sc inner) at
            (subst (λ (b : Branch). IsScopeAt (into b (opened_in count (u ∷ rest)) (next a (block more))) middle inner)
            (ap (λ (v : Step). v.branch) (sym same)) (h (block more))))))

-- ---- branches

pub in_loop : (f : Block → Option Opened) (i : Binder) (lo hi : Control) (b : Block) (outer middle inner : Scope)
    → middle ≡ with_name outer i (ControlName Index) → IsScopeAt (f b) middle inner
    → IsScopeIn Main f (For i lo hi b) outer inner
in_loop f i lo hi b outer middle inner m h rest =
    around (λ o. InLoop i lo hi o rest) outer middle inner (f b) (λ c. ap (scope_at c) (sym m)) h

pub in_then : (f : Block → Option Opened) (c : Condition) (a b : Block) (outer inner : Scope)
    → IsScopeAt (f a) outer inner → IsScopeIn Main f (If c a b) outer inner
in_then f c a b outer inner h rest =
    around (λ o. InThen c o b rest) outer outer inner (f a) (λ d. refl) h

pub in_else : (f : Block → Option Opened) (c : Condition) (a b : Block) (outer inner : Scope)
    → IsScopeAt (f b) outer inner → IsScopeIn Else f (If c a b) outer inner
in_else f c a b outer inner h rest =
    around (λ o. InElse c a o rest) outer outer inner (f b) (λ d. refl) h

-- ---- procedures

-- a place of a procedure is one of its body
abbrev IsOfBody : Option Opened → Option Opened → Type 0
IsOfBody x inside = (x ≡ None) ⊎ (x ≡ inside)

of_body : (path : Path) (inside : Option Opened) → IsOfBody (from_body path inside) inside
of_body [] inside = inl refl
of_body (s ∷ path) inside = by s.branch
  where
    by : (which : Branch) → IsOfBody (elim which [ Main ↦ inside | Else ↦ None ]) inside
    by Main = inr refl
    by Else = inl refl

module _ (p : Procedure) (path : Path) (count : ℕ) where
  abbrev outermost : Scope
  outermost = scope_of [] p.params

  abbrev there : Option Opened
  there = opened count path p.body

  abbrev tested : Option Opened → Option Bool
  tested x = option_map (λ (o : Opened). is_alone o.around) x

  pub scope_nowhere : None ≡ tested there → outermost ≡ scope_there p there
  scope_nowhere e = by there e
    where
      by : (x : Option Opened) → None ≡ tested x → outermost ≡ scope_there p x
      by None h = refl
      by (Some o) h = cc

  pub scope_somewhere : (inner : Scope) (alone : Bool) → Some alone ≡ tested there
      → IsScopeAt (opened_in count path p.body) outermost inner → inner ≡ scope_there p there
  scope_somewhere inner alone e at = by there (of_body path (opened_in count path p.body)) e
    where
      by : (x : Option Opened) → IsOfBody x (opened_in count path p.body) → Some alone ≡ tested x
          → inner ≡ scope_there p x
      by None k h = cc
      by (Some o) (inl k) h = cc
      by (Some o) (inr k) h = subst (λ (y : Option Opened). IsScopeAt y outermost inner) (sym k) at
