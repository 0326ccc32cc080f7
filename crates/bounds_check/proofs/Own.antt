-- The claims of a statement itself are among those of its procedure.
use Rattle.std.proofs.Common.{◌≡◌, ℕ, zero, suc, ◌+◌, Bool, true, List, [], ◌∷◌, ◌++◌, Option, Some}
use Rattle.std.proofs.Common.{None, option_map, option_and_then, slice_get, append_assoc, refl, sym}
use Rattle.std.proofs.Common.{ap, ◌∙◌, arith}
use Rattle.std.specs.List.{list_all}
use Rattle.std.proofs.lemmas.Bool.{and_parts}
use Rattle.std.proofs.lemmas.List.Folds.{list_all-append}
use Rattle.exo_tree.specs.Tree.{Statement, If, For}
use Rattle.exo_tree.specs.Tree.{Binder, Control, Condition, Block, end, next, Procedure, Program}
use Rattle.exo_tree.specs.Context.{After, InLoop, InThen, InElse}
use Rattle.exo_tree.specs.Places as place
use Rattle.exo_tree.specs.Places.{Branch, Main, Else, Path, Opened, opened_in, first_of, statement_at, path_below}
use Rattle.exo_meaning.specs.Units.{IsUnit}
use Rattle.affine_places.specs.Roots.{Roots, roots_of}
use Rattle.text_show.specs.Words.{Words, words_of}
use Rattle.check_claims.specs.Claim.{Placed}
use Rattle.check_claims.specs.Extents.{Extents, extents_of}
use Rattle.check_claims.specs.Claims.{own_claims, placed_at, block_claims, inner_claims}
use Rattle.check_claims.specs.Claims.{param_claims, claims_of, claims_there}
use Rattle.bounds_check.specs.Laws.{may_be_owed, ClaimsMayBeOwed}
use Rattle.bounds_check.proofs.Places.{step}

-- the statement that was found
abbrev found : Option Opened → Option Statement
found o = option_and_then (λ o. first_of o.piece) o

-- what stands round it is not asked
found_in : (f : Opened → Opened) → ((o : Opened) → (f o).piece ≡ o.piece) → (o : Option Opened)
    → found (option_map f o) ≡ found o
found_in f same None = refl
found_in f same (Some o) = ap first_of (same o)

abbrev after : Statement → Opened → Opened
after a o = record { around = After a o.around; piece = o.piece }

abbrev in_loop : Binder → Control → Control → Block → Opened → Opened
in_loop i lo hi rest o = record { around = InLoop i lo hi o.around rest; piece = o.piece }

abbrev in_then : Condition → Block → Block → Opened → Opened
in_then c other rest o = record { around = InThen c o.around other rest; piece = o.piece }

abbrev in_else : Condition → Block → Block → Opened → Opened
in_else c other rest o = record { around = InElse c other o.around rest; piece = o.piece }

none_some : {A : Type 0} {s : Statement} → None ≡ Some s → A
none_some e = absurd (no e)
  where
    no : {s : Statement} → None ≡ Some s → ⊥
    no e = cc

some_is : (a b : Statement) → Some a ≡ Some b → a ≡ b
some_is a b e = cc

none_at_end : (which : Branch) (f : Block → Option Opened) → found (place.into which f end) ≡ None
none_at_end Main f = refl
none_at_end Else f = refl

module _ (w : Words) (u : Program) (extents : Extents) (roots : Roots) (test : Placed → Bool) where
  abbrev own : Path → Statement → List Placed
  own path s = placed_at path (own_claims w u extents roots s)

  nothing : (n : ℕ) → n ≡ n + 0
  nothing n = omega arith

  further : (n j : ℕ) → suc n + j ≡ n + suc j
  further n j = omega arith

  before : (j : ℕ) → j ≡ 0 + j
  before j = omega arith

  apart : (xs ys : List Placed) → list_all test (xs ++ ys) ≡ true
      → (list_all test xs ≡ true) × (list_all test ys ≡ true)
  apart xs ys h =
      and_parts (list_all test xs) (list_all test ys) (sym (list_all-append test xs ys) ∙ h)

  deeper : (outer : Path) (branch which : Branch) (n j : ℕ) (path : Path) (s : Statement)
      → list_all test (own (outer ++ step branch n ∷ step which j ∷ path) s)
      ≡ list_all test (own (path_below outer branch n ++ step which (0 + j) ∷ path) s)
  deeper outer branch which n j path s =
      ap (λ q. list_all test (own q s)) (sym (append_assoc outer (step branch n ∷ []) (step which j ∷ path)))
      ∙ ap (λ m. list_all test (own (path_below outer branch n ++ step which m ∷ path) s)) (before j)

  parts : (outer : Path) (branch : Branch) (n : ℕ) (a : Statement) (b : Block)
      → list_all test (block_claims w u extents roots outer branch n (next a b)) ≡ true
      → (list_all test (own (path_below outer branch n) a) ≡ true)
      × ((list_all test (inner_claims w u extents roots (path_below outer branch n) a) ≡ true)
      × (list_all test (block_claims w u extents roots outer branch (suc n) b) ≡ true))
  parts outer branch n a b h =
      let path = path_below outer branch n in
      let inner = inner_claims w u extents roots path a in
      let rest = block_claims w u extents roots outer branch (suc n) b in
      let first = apart (own path a ++ inner) rest h in
      let both = apart (own path a) inner first.0 in
      (both.0, (both.1, first.1))

  two : (outer : Path) (branch : Branch) (n : ℕ) (x y : Block)
      → list_all test (block_claims w u extents roots (path_below outer branch n) Main 0 x
      ++ block_claims w u extents roots (path_below outer branch n) Else 0 y) ≡ true
      → (list_all test (block_claims w u extents roots (path_below outer branch n) Main 0 x) ≡ true)
      × (list_all test (block_claims w u extents roots (path_below outer branch n) Else 0 y) ≡ true)
  two outer branch n x y h =
      apart (block_claims w u extents roots (path_below outer branch n) Main 0 x)
      (block_claims w u extents roots (path_below outer branch n) Else 0 y) h

  mutual
    of_block : (outer : Path) (branch : Branch) (n : ℕ) (b : Block)
        → list_all test (block_claims w u extents roots outer branch n b) ≡ true
        → (j : ℕ) (path : Path) (s : Statement) → found (opened_in 1 (step branch j ∷ path) b) ≡ Some s
        → list_all test (own (outer ++ step branch (n + j) ∷ path) s) ≡ true
    of_block outer branch n end h zero [] s e = none_some e
    of_block outer branch n end h zero (t ∷ path) s e =
        none_some (sym (none_at_end t.branch (opened_in 1 (t ∷ path))) ∙ e)
    of_block outer branch n end h (suc j) [] s e = none_some e
    of_block outer branch n end h (suc j) (t ∷ path) s e = none_some e
    of_block outer branch n (next a b) h zero [] s e =
        ap (λ m. list_all test (own (outer ++ step branch m ∷ []) s)) (sym (nothing n))
        ∙ ap (λ x. list_all test (own (path_below outer branch n) x)) (sym (some_is a s e))
        ∙ (parts outer branch n a b h).0
    of_block outer branch n (next a b) h zero (t ∷ path) s e =
        ap (λ m. list_all test (own (outer ++ step branch m ∷ t ∷ path) s)) (sym (nothing n))
        ∙ of_inner outer branch n a b (parts outer branch n a b h).1.0 t.branch t.index path s e
    of_block outer branch n (next a b) h (suc j) [] s e =
        ap (λ m. list_all test (own (outer ++ step branch m ∷ []) s)) (sym (further n j))
        ∙ of_block outer branch (suc n) b (parts outer branch n a b h).1.1 j [] s
        (sym (found_in (after a) (λ o. refl) (opened_in 1 (step branch j ∷ []) b)) ∙ e)
    of_block outer branch n (next a b) h (suc j) (t ∷ path) s e =
        ap (λ m. list_all test (own (outer ++ step branch m ∷ t ∷ path) s)) (sym (further n j))
        ∙ of_block outer branch (suc n) b (parts outer branch n a b h).1.1 j (t ∷ path) s
        (sym (found_in (after a) (λ o. refl) (opened_in 1 (step branch j ∷ t ∷ path) b)) ∙ e)

    -- in a block of the first statement
    of_inner : (outer : Path) (branch : Branch) (n : ℕ) (a : Statement) (b : Block)
        → list_all test (inner_claims w u extents roots (path_below outer branch n) a) ≡ true
        → (which : Branch) (j : ℕ) (path : Path) (s : Statement)
        → found (place.into which (opened_in 1 (step which j ∷ path)) (next a b)) ≡ Some s
        → list_all test (own (outer ++ step branch n ∷ step which j ∷ path) s) ≡ true
    of_inner outer branch n (For i lo hi x) b h Main j path s e =
        deeper outer branch Main n j path s
        ∙ of_block (path_below outer branch n) Main 0 x h j path s
        (sym (found_in (in_loop i lo hi b) (λ o. refl) (opened_in 1 (step Main j ∷ path) x)) ∙ e)
    of_inner outer branch n (If c x y) b h Main j path s e =
        deeper outer branch Main n j path s
        ∙ of_block (path_below outer branch n) Main 0 x (two outer branch n x y h).0 j path s
        (sym (found_in (in_then c y b) (λ o. refl) (opened_in 1 (step Main j ∷ path) x)) ∙ e)
    of_inner outer branch n (If c x y) b h Else j path s e =
        deeper outer branch Else n j path s
        ∙ of_block (path_below outer branch n) Else 0 y (two outer branch n x y h).1 j path s
        (sym (found_in (in_else c x b) (λ o. refl) (opened_in 1 (step Else j ∷ path) y)) ∙ e)
    of_inner outer branch n _ b h Main j path s e = none_some e
    of_inner outer branch n _ b h Else j path s e = none_some e

module _ (u : Program) (p : Procedure) (test : Placed → Bool) (all : list_all test (claims_of u p) ≡ true) where
  in_body : list_all test (block_claims (words_of u p) u (extents_of p) (roots_of p) [] Main 0 p.body) ≡ true
  in_body =
      let params = placed_at [] (param_claims (words_of u p) p.params) in
      let body = block_claims (words_of u p) u (extents_of p) (roots_of p) [] Main 0 p.body in
      (and_parts (list_all test params) (list_all test body)
      (sym (list_all-append test params body) ∙ all)).1

  there : (path : Path) (o : Option Statement) → statement_at path p.body ≡ o
      → ((s : Statement) → statement_at path p.body ≡ Some s
      → list_all test (placed_at path (own_claims (words_of u p) u (extents_of p) (roots_of p) s)) ≡ true)
      → list_all test (claims_there u p path) ≡ true
  there path None e h = ap (λ (o : Option Statement). list_all test (elim o [ None ↦ [] | Some s ↦ placed_at path (own_claims (words_of u p) u (extents_of p) (roots_of p) s) ])) e
  there path (Some s) e h =
      ap (λ (o : Option Statement). list_all test (elim o [ None ↦ [] | Some s ↦ placed_at path (own_claims (words_of u p) u (extents_of p) (roots_of p) s) ])) e
      ∙ h s e

  at_step : (branch : Branch) (j : ℕ) (path : Path) → list_all test (claims_there u p (step branch j ∷ path)) ≡ true
  at_step Else j path = refl
  at_step Main j path =
      there (step Main j ∷ path) (statement_at (step Main j ∷ path) p.body) refl
      (λ s e. ap (λ m. list_all test (placed_at (step Main m ∷ path) (own_claims (words_of u p) u (extents_of p) (roots_of p) s))) (before j)
      ∙ of_block (words_of u p) u (extents_of p) (roots_of p) test [] Main 0 p.body in_body j path s e)
    where
      before : (j : ℕ) → j ≡ 0 + j
      before j = omega arith

  pub own_pass : (path : Path) → list_all test (claims_there u p path) ≡ true
  own_pass [] = refl
  own_pass (s ∷ path) = at_step s.branch s.index path

-- so they may be owed
pub own_may_be_owed : ClaimsMayBeOwed → (u : Program) (k : ℕ) (p : Procedure) (path : Path) → IsUnit u
    → slice_get u.procedures k ≡ Some p → list_all (may_be_owed p) (claims_there u p path) ≡ true
own_may_be_owed law u k p path is h = own_pass u p (may_be_owed p) (law u k p is h) path
