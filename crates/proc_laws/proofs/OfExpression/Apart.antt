-- Where passes are deleted, no two statements go to one place.
use Rattle.std.proofs.Common.{◌≡◌, ◌≤◌, ℕ, suc, ◌+◌, Bool, true, false, ◌&&◌, ◌||◌}
use Rattle.std.proofs.Common.{◌==◌, List, [], ◌∷◌, ◌++◌, Some, refl, ap, ap₂, ◌∙◌}
use Rattle.std.proofs.Common.{arith, if◌then◌else◌, le-leb, eqb-true, append_assoc}
use Rattle.std.specs.Prelude.{nat_le}
use Rattle.std.specs.List.{list_all}
use Rattle.exo_tree.specs.Tree.{Statement, Assign, Reduce, Config, Pass, If, For, Alloc, View, Call}
use Rattle.exo_tree.specs.Tree.{Block, end, next}
use Rattle.exo_tree.specs.Places.{Branch, Main, Else, Step, Path, same_step}
use Rattle.exo_meaning.specs.Orders.{Each}
use Rattle.cursor_forward.specs.Shifts.{Shift, alone}
use Rattle.cursor_forward.specs.Forwards.{apart, have_apart, are_apart, are_beside}
use Rattle.meaning_laws.proofs.Substitute.{and_parts}
use Rattle.proc_laws.specs.Expression.Passes.{down, behind, is_one_pass, shifted, shifted_statement}
use Rattle.proc_laws.specs.Expression.Passes.{shifted_block}
use Rattle.proc_laws.proofs.OfExpression.Standing.{of_either}

abbrev step : Branch → ℕ → Step
step branch k = record { branch = branch; index = k }

-- two single statements at different places
abbrev AreTwo : Path → Path → Type 0
AreTwo p q = apart p 1 false q 1 false ≡ true

-- ---- paths

-- behind one common step
under_one : (s : Step) (x : Bool) → x ≡ true → (if same_step s s then x else true) ≡ true
under_one s x h = by (same_step s s)
  where
    by : (t : Bool) → (if t then x else true) ≡ true
    by true = h
    by false = refl

later_in_block : (branch : Branch) (j k : ℕ) → suc j ≤ k
    → are_beside (step branch j) 1 (step branch k) 1 ≡ true
later_in_block Main j k h =
    let e : j + 1 ≤ k = omega (arith, h) in ap (λ t. t || nat_le (k + 1) j) (le-leb (j + 1) k e)
later_in_block Else j k h =
    let e : j + 1 ≤ k = omega (arith, h) in ap (λ t. t || nat_le (k + 1) j) (le-leb (j + 1) k e)

other_step : (branch : Branch) (j k : ℕ) (x : Bool) → suc j ≤ k
    → (if same_step (step branch j) (step branch k) then x else true) ≡ true
other_step branch j k x h = by branch
  where
    go : (t : Bool) → (j == k) ≡ t → (if t then x else true) ≡ true
    go false e = refl
    go true e = absurd (never (eqb-true j k e))
      where
        never : j ≡ k → ⊥
        never same = omega (arith, h, same)

    by : (branch : Branch) → (if same_step (step branch j) (step branch k) then x else true) ≡ true
    by Main = go (j == k) refl
    by Else = go (j == k) refl

-- below a statement, and below a later one of its block
later : (to : Path) (branch : Branch) (j k : ℕ) (r q : Path) → suc j ≤ k
    → AreTwo (to ++ step branch j ∷ r) (to ++ step branch k ∷ q)
later [] branch j k [] [] h = later_in_block branch j k h
later [] branch j k [] (u ∷ q) h = refl
later [] branch j k (t ∷ r) [] h = refl
later [] branch j k (t ∷ r) (u ∷ q) h = other_step branch j k (apart (t ∷ r) 1 false (u ∷ q) 1 false) h
later (s ∷ []) branch j k r q h =
    under_one s (apart (step branch j ∷ r) 1 false (step branch k ∷ q) 1 false)
    (later [] branch j k r q h)
later (s ∷ t ∷ to) branch j k r q h =
    under_one s (apart (t ∷ to ++ step branch j ∷ r) 1 false (t ∷ to ++ step branch k ∷ q) 1 false)
    (later (t ∷ to) branch j k r q h)

-- a statement, and what is below it
below : (to : Path) (s u : Step) (q : Path) → AreTwo (to ++ s ∷ []) (to ++ s ∷ u ∷ q)
below [] s u q = refl
below (x ∷ []) s u q = under_one x (apart (s ∷ []) 1 false (s ∷ u ∷ q) 1 false) (below [] s u q)
below (x ∷ y ∷ to) s u q =
    under_one x (apart (y ∷ to ++ s ∷ []) 1 false (y ∷ to ++ s ∷ u ∷ q) 1 false)
    (below (y ∷ to) s u q)

-- the two branches of a statement
two_branches : (to : Path) (j k : ℕ) (r q : Path)
    → AreTwo (to ++ step Main j ∷ r) (to ++ step Else k ∷ q)
two_branches [] j k [] [] = refl
two_branches [] j k [] (u ∷ q) = refl
two_branches [] j k (t ∷ r) [] = refl
two_branches [] j k (t ∷ r) (u ∷ q) = refl
two_branches (s ∷ []) j k r q =
    under_one s (apart (step Main j ∷ r) 1 false (step Else k ∷ q) 1 false)
    (two_branches [] j k r q)
two_branches (s ∷ t ∷ to) j k r q =
    under_one s (apart (t ∷ to ++ step Main j ∷ r) 1 false (t ∷ to ++ step Else k ∷ q) 1 false)
    (two_branches (t ∷ to) j k r q)

-- ---- lists of shifts

-- a statement by itself goes to such a place
pub record Goes (P : Path → Type 0) (s : Shift) : Type 0 where
  pub from : Path
  pub to : Path
  pub is : s ≡ alone from (Some to)
  pub there : P to

goes_on : (P Q : Path → Type 0) (xs : List Shift) → ((p : Path) → P p → Q p) → Each (Goes P) xs
    → Each (Goes Q) xs
goes_on P Q [] f h = tt
goes_on P Q (x ∷ xs) f h = (
  record { from = h.0.from; to = h.0.to; is = h.0.is; there = f h.0.to h.0.there },
  goes_on P Q xs f h.1,
)

each_both : (P : Shift → Type 0) (xs ys : List Shift) → Each P xs → Each P ys → Each P (xs ++ ys)
each_both P [] ys p q = q
each_both P (x ∷ xs) ys p q = (p.0, each_both P xs ys p.1 q)

one_apart : (P Q : Path → Type 0) (x y : Shift) → ((p q : Path) → P p → Q q → AreTwo p q)
    → Goes P x → Goes Q y → have_apart x y ≡ true
one_apart P Q x y two g h =
    ap₂ have_apart g.is h.is ∙ two g.to h.to g.there h.there

all_from : (P Q : Path → Type 0) (x : Shift) (ys : List Shift)
    → ((p q : Path) → P p → Q q → AreTwo p q) → Goes P x → Each (Goes Q) ys
    → list_all (have_apart x) ys ≡ true
all_from P Q x [] two g h = refl
all_from P Q x (y ∷ ys) two g h =
    ap₂ ◌&&◌ (one_apart P Q x y two g h.0) (all_from P Q x ys two g h.1)

all_both : (x : Shift) (ys zs : List Shift) → list_all (have_apart x) ys ≡ true
    → list_all (have_apart x) zs ≡ true → list_all (have_apart x) (ys ++ zs) ≡ true
all_both x [] zs h k = k
all_both x (y ∷ ys) zs h k =
    let p = and_parts (have_apart x y) (list_all (have_apart x) ys) h in
    ap₂ ◌&&◌ p.0 (all_both x ys zs p.1 k)

both_apart : (P Q : Path → Type 0) (xs ys : List Shift)
    → ((p q : Path) → P p → Q q → AreTwo p q) → Each (Goes P) xs → Each (Goes Q) ys
    → are_apart xs ≡ true → are_apart ys ≡ true → are_apart (xs ++ ys) ≡ true
both_apart P Q [] ys two g h p q = q
both_apart P Q (x ∷ xs) ys two g h p q =
    let a = and_parts (list_all (have_apart x) xs) (are_apart xs) p in
    ap₂ ◌&&◌ (all_both x xs ys a.0 (all_from P Q x ys two g.0 h))
    (both_apart P Q xs ys two g.1 h a.1 q)

-- ---- the shifts of a block

-- at or below the statement of a number, in a branch of the one at the path
pub record IsAt (to : Path) (branch : Branch) (j : ℕ) (p : Path) : Type 0 where
  pub rest : Path
  pub is : p ≡ to ++ step branch j ∷ rest

-- of that number or a later one
pub record IsFrom (to : Path) (branch : Branch) (j : ℕ) (p : Path) : Type 0 where
  pub number : ℕ
  pub rest : Path
  pub behind : j ≤ number
  pub is : p ≡ to ++ step branch number ∷ rest

at_then_later : (to : Path) (branch : Branch) (j : ℕ) (p q : Path) → IsAt to branch j p
    → IsFrom to branch (suc j) q → AreTwo p q
at_then_later to branch j p q a b =
    ap₂ (λ x y. apart x 1 false y 1 false) a.is b.is
    ∙ later to branch j b.number a.rest b.rest b.behind

at_is_from : (to : Path) (branch : Branch) (j : ℕ) (p : Path) → IsAt to branch j p
    → IsFrom to branch j p
at_is_from to branch j p a = record {
  number = j;
  rest = a.rest;
  behind = omega arith;
  is = a.is;
}

less_from : (to : Path) (branch : Branch) (i j : ℕ) (p : Path) → i ≤ j → IsFrom to branch j p
    → IsFrom to branch i p
less_from to branch i j p h a = record {
  number = a.number;
  rest = a.rest;
  behind = omega (arith, h, a.behind);
  is = a.is;
}

-- what is in a branch of a statement is below it
inner_at : (to : Path) (branch : Branch) (j : ℕ) (inner : Branch) (k : ℕ) (p : Path)
    → IsFrom (down to branch j) inner k p → IsAt to branch j p
inner_at to branch j inner k p a = record {
  rest = step inner a.number ∷ a.rest;
  is = a.is ∙ append_assoc to (step branch j ∷ []) (step inner a.number ∷ a.rest);
}

itself : (from to : Path) (branch : Branch) (j : ℕ)
    → Goes (IsAt to branch j) (alone from (Some (down to branch j)))
itself from to branch j = record {
  from = from;
  to = down to branch j;
  is = refl;
  there = record { rest = []; is = refl };
}

itself_from : (from to : Path) (branch : Branch)
    → Goes (IsFrom to branch 0) (alone from (Some (down to branch 0)))
itself_from from to branch = record {
  from = from;
  to = down to branch 0;
  is = refl;
  there = record { number = 0; rest = []; behind = omega arith; is = refl };
}

no_less : (j : ℕ) (a : Statement) → j ≤ behind a j
no_less j Pass = omega arith
no_less j (Assign x is e) = omega arith
no_less j (Reduce x is e) = omega arith
no_less j (Config f a) = omega arith
no_less j (If t a b) = omega arith
no_less j (For i lo hi b) = omega arith
no_less j (Alloc x cell dims memory) = omega arith
no_less j (View w x coords) = omega arith
no_less j (Call k args) = omega arith

-- a statement's shifts go to it and below it, those of a block to its statements
mutual
  block_goes : (from to : Path) (branch : Branch) (b : Block)
      → Each (Goes (IsFrom to branch 0)) (shifted_block from to branch b)
  block_goes from to branch end = tt
  block_goes from to branch (next a b) =
      let p = down from branch 0 in
      let q = down to branch 0 in
      let one = shifted_statement p q a in
      let others = shifted from to branch 1 (behind a 0) b in
      of_either (Each (Goes (IsFrom to branch 0))) (is_one_pass (next a b)) (alone p (Some q) ∷ [])
      (one ++ others)
      (λ e. (itself_from p to branch, tt))
      (each_both (Goes (IsFrom to branch 0)) one others
      (goes_on (IsAt to branch 0) (IsFrom to branch 0) one (at_is_from to branch 0)
      (statement_goes p to branch 0 a))
      (goes_on (IsFrom to branch (behind a 0)) (IsFrom to branch 0) others
      (λ x. less_from to branch 0 (behind a 0) x (no_less 0 a))
      (statements_go from to branch 1 (behind a 0) b)))

  statements_go : (from to : Path) (branch : Branch) (i j : ℕ) (b : Block)
      → Each (Goes (IsFrom to branch j)) (shifted from to branch i j b)
  statements_go from to branch i j end = tt
  statements_go from to branch i j (next a b) =
      each_both (Goes (IsFrom to branch j)) (shifted_statement (down from branch i) (down to branch j) a)
      (shifted from to branch (suc i) (behind a j) b)
      (goes_on (IsAt to branch j) (IsFrom to branch j)
      (shifted_statement (down from branch i) (down to branch j) a) (at_is_from to branch j)
      (statement_goes (down from branch i) to branch j a))
      (goes_on (IsFrom to branch (behind a j)) (IsFrom to branch j)
      (shifted from to branch (suc i) (behind a j) b)
      (λ p. less_from to branch j (behind a j) p (no_less j a))
      (statements_go from to branch (suc i) (behind a j) b))

  statement_goes : (from to : Path) (branch : Branch) (j : ℕ) (a : Statement)
      → Each (Goes (IsAt to branch j)) (shifted_statement from (down to branch j) a)
  statement_goes from to branch j Pass = tt
  statement_goes from to branch j (Assign x is e) = (itself from to branch j, tt)
  statement_goes from to branch j (Reduce x is e) = (itself from to branch j, tt)
  statement_goes from to branch j (Config f a) = (itself from to branch j, tt)
  statement_goes from to branch j (Alloc x cell dims memory) = (itself from to branch j, tt)
  statement_goes from to branch j (View w x coords) = (itself from to branch j, tt)
  statement_goes from to branch j (Call k args) = (itself from to branch j, tt)
  statement_goes from to branch j (For v lo hi d) = (
    itself from to branch j,
    goes_on (IsFrom (down to branch j) Main 0) (IsAt to branch j)
        (shifted_block from (down to branch j) Main d) (inner_at to branch j Main 0)
        (block_goes from (down to branch j) Main d),
  )
  statement_goes from to branch j (If t a d) = (
    itself from to branch j,
    each_both (Goes (IsAt to branch j)) (shifted_block from (down to branch j) Main a)
        (shifted_block from (down to branch j) Else d)
        (goes_on (IsFrom (down to branch j) Main 0) (IsAt to branch j)
        (shifted_block from (down to branch j) Main a) (inner_at to branch j Main 0)
        (block_goes from (down to branch j) Main a))
        (goes_on (IsFrom (down to branch j) Else 0) (IsAt to branch j)
        (shifted_block from (down to branch j) Else d) (inner_at to branch j Else 0)
        (block_goes from (down to branch j) Else d)),
  )

-- ---- apart

-- the shifts of a statement and of those behind it; a `pass` has none
first_apart : (from to : Path) (branch : Branch) (i j : ℕ) (a : Statement) (b : Block)
    → are_apart (shifted_statement (down from branch i) (down to branch j) a) ≡ true
    → are_apart (shifted from to branch (suc i) (behind a j) b) ≡ true
    → are_apart (shifted_statement (down from branch i) (down to branch j) a
    ++ shifted from to branch (suc i) (behind a j) b) ≡ true
first_apart from to branch i j a b p q = by a (statement_goes (down from branch i) to branch j a) p q
    (statements_go from to branch (suc i) (behind a j) b)
  where
    next_one : (a : Statement) (ys : List Shift)
        → Each (Goes (IsAt to branch j)) (shifted_statement (down from branch i) (down to branch j) a)
        → are_apart (shifted_statement (down from branch i) (down to branch j) a) ≡ true
        → are_apart ys ≡ true → Each (Goes (IsFrom to branch (suc j))) ys
        → are_apart (shifted_statement (down from branch i) (down to branch j) a ++ ys) ≡ true
    next_one a ys g p q h =
        both_apart (IsAt to branch j) (IsFrom to branch (suc j))
        (shifted_statement (down from branch i) (down to branch j) a) ys
        (at_then_later to branch j) g h p q

    by : (a : Statement)
        → Each (Goes (IsAt to branch j)) (shifted_statement (down from branch i) (down to branch j) a)
        → are_apart (shifted_statement (down from branch i) (down to branch j) a) ≡ true
        → are_apart (shifted from to branch (suc i) (behind a j) b) ≡ true
        → Each (Goes (IsFrom to branch (behind a j))) (shifted from to branch (suc i) (behind a j) b)
        → are_apart (shifted_statement (down from branch i) (down to branch j) a
        ++ shifted from to branch (suc i) (behind a j) b) ≡ true
    by Pass g p q h = q
    by (Assign x is e) g p q h = next_one (Assign x is e) _ g p q h
    by (Reduce x is e) g p q h = next_one (Reduce x is e) _ g p q h
    by (Config f v) g p q h = next_one (Config f v) _ g p q h
    by (If t c d) g p q h = next_one (If t c d) _ g p q h
    by (For v lo hi d) g p q h = next_one (For v lo hi d) _ g p q h
    by (Alloc x cell dims memory) g p q h = next_one (Alloc x cell dims memory) _ g p q h
    by (View w x coords) g p q h = next_one (View w x coords) _ g p q h
    by (Call k args) g p q h = next_one (Call k args) _ g p q h

-- the statement at a path, and what is in its branches
itself_first : (from to : Path) (branch : Branch) (j : ℕ) (inner : Branch) (xs : List Shift)
    → Each (Goes (IsFrom (down to branch j) inner 0)) xs
    → list_all (have_apart (alone from (Some (down to branch j)))) xs ≡ true
itself_first from to branch j inner xs h =
    all_from (λ p. p ≡ down to branch j) (IsFrom (down to branch j) inner 0)
    (alone from (Some (down to branch j))) xs two
    (record { from = from; to = down to branch j; is = refl; there = refl }) h
  where
    two : (p q : Path) → p ≡ down to branch j → IsFrom (down to branch j) inner 0 q → AreTwo p q
    two p q e a =
        ap₂ (λ x y. apart x 1 false y 1 false) e
        (a.is ∙ append_assoc to (step branch j ∷ []) (step inner a.number ∷ a.rest))
        ∙ below to (step branch j) (step inner a.number) a.rest

branches_two : (to : Path) (p q : Path) → IsFrom to Main 0 p → IsFrom to Else 0 q → AreTwo p q
branches_two to p q a b =
    ap₂ (λ x y. apart x 1 false y 1 false) a.is b.is
    ∙ two_branches to a.number b.number a.rest b.rest

mutual
  block_apart : (from to : Path) (branch : Branch) (b : Block)
      → are_apart (shifted_block from to branch b) ≡ true
  block_apart from to branch end = refl
  block_apart from to branch (next a b) =
      let p = down from branch 0 in
      let q = down to branch 0 in
      of_either (λ xs. are_apart xs ≡ true) (is_one_pass (next a b)) (alone p (Some q) ∷ [])
      (shifted_statement p q a ++ shifted from to branch 1 (behind a 0) b) (λ e. refl)
      (first_apart from to branch 0 0 a b (statement_apart p to branch 0 a)
      (statements_apart from to branch 1 (behind a 0) b))

  statements_apart : (from to : Path) (branch : Branch) (i j : ℕ) (b : Block)
      → are_apart (shifted from to branch i j b) ≡ true
  statements_apart from to branch i j end = refl
  statements_apart from to branch i j (next a b) =
      first_apart from to branch i j a b (statement_apart (down from branch i) to branch j a)
      (statements_apart from to branch (suc i) (behind a j) b)

  statement_apart : (from to : Path) (branch : Branch) (j : ℕ) (a : Statement)
      → are_apart (shifted_statement from (down to branch j) a) ≡ true
  statement_apart from to branch j Pass = refl
  statement_apart from to branch j (Assign x is e) = refl
  statement_apart from to branch j (Reduce x is e) = refl
  statement_apart from to branch j (Config f a) = refl
  statement_apart from to branch j (Alloc x cell dims memory) = refl
  statement_apart from to branch j (View w x coords) = refl
  statement_apart from to branch j (Call k args) = refl
  statement_apart from to branch j (For v lo hi d) =
      let q = down to branch j in
      ap₂ ◌&&◌ (itself_first from to branch j Main (shifted_block from q Main d)
      (block_goes from q Main d)) (block_apart from q Main d)
  statement_apart from to branch j (If t a d) =
      let q = down to branch j in
      let one = shifted_block from q Main a in
      let two = shifted_block from q Else d in
      ap₂ ◌&&◌
      (all_both (alone from (Some q)) one two
      (itself_first from to branch j Main one (block_goes from q Main a))
      (itself_first from to branch j Else two (block_goes from q Else d)))
      (both_apart (IsFrom q Main 0) (IsFrom q Else 0) one two (branches_two q)
      (block_goes from q Main a) (block_goes from q Else d) (block_apart from q Main a)
      (block_apart from q Else d))

-- no two go to one place
pub deleted_apart : (b : Block) → are_apart (shifted_block [] [] Main b) ≡ true
deleted_apart b = block_apart [] [] Main b
