-- Where passes are deleted, each statement goes to one of its kind.
use Rattle.std.proofs.Common.{◌≡◌, ℕ, zero, suc, ◌+◌, List, [], ◌∷◌, ◌++◌, Some, refl}
use Rattle.std.proofs.Common.{sym, ap, ◌∙◌, subst, arith}
use Rattle.std.specs.Prelude.{true, slice_get}
use Rattle.exo_tree.specs.Tree.{Statement, Assign, Reduce, Config, Pass, If, For, Alloc, View, Call}
use Rattle.exo_tree.specs.Tree.{Block, end, next, statements}
use Rattle.exo_tree.specs.Places.{Branch, Main, Else, Path}
use Rattle.cursor_forward.specs.Forwards.{kind_of, kinds_of, AreCarried, Carries}
use Rattle.cursor_forward.specs.Shifts.{Shift, alone}
use Rattle.proc_laws.specs.Expression.Passes.{without, before, cleared, down, behind}
use Rattle.proc_laws.specs.Expression.Passes.{is_one_pass}
use Rattle.proc_laws.specs.Expression.Passes.{shifted, shifted_statement, shifted_block}
use Rattle.proc_laws.proofs.OfExpression.Standing.{of_either, Stands, BlockAt, whole_at, branch_at}
use Rattle.tree_edits.specs.Made.Passes.{or_one_pass}

carries_both : (xs ys : List Shift) (old new : Block) → Carries xs old new → Carries ys old new
    → Carries (xs ++ ys) old new
carries_both [] ys old new p q = q
carries_both (x ∷ xs) ys old new p q = (p.0, carries_both xs ys old new p.1 q)

-- the statements of a block that begins with number i of another stand where that says
abbrev From : Path → Branch → ℕ → Block → Block → Type 0
From p branch i root b =
    (k : ℕ) (a : Statement)
    → slice_get (statements b) k ≡ Some a
    → Stands (down p branch (i + k)) root a

first_of : (p : Path) (branch : Branch) (i : ℕ) (root : Block) (a : Statement) (b : Block)
    → From p branch i root (next a b) → Stands (down p branch i) root a
first_of p branch i root a b from =
    let e : i + 0 ≡ i = omega arith in
    subst (λ k. Stands (down p branch k) root a) e (from 0 a refl)

rest_of : (p : Path) (branch : Branch) (i : ℕ) (root : Block) (a : Statement) (b : Block)
    → From p branch i root (next a b) → From p branch (suc i) root b
rest_of p branch i root a b from k x h =
    let e : i + suc k ≡ suc i + k = omega arith in
    subst (λ n. Stands (down p branch n) root x) e (from (suc k) x h)

start_of : (p : Path) (branch : Branch) (root b : Block) → BlockAt p branch root b
    → From p branch 0 root b
start_of p branch root b at k a h =
    let e : k ≡ 0 + k = omega arith in
    subst (λ n. Stands (down p branch n) root a) e (at k a h)

-- where the only `pass` is a made one, no statement went there
without_made : (p : Path) (branch : Branch) (root b : Block)
    → From p branch 0 root (or_one_pass b) → From p branch 0 root b
without_made p branch root end from k a h = absurd (nothing k h)
  where
    nothing : (k : ℕ) → slice_get [] k ≡ Some a → ⊥
    nothing zero e = cc
    nothing (suc k) e = cc
without_made p branch root (next x b) from k a h = from k a h

-- behind a statement the next one follows
rest_is : (p : Path) (branch : Branch) (j : ℕ) (root : Block) (a : Statement) (c : Block)
    → From p branch j root (before a c) → From p branch (behind a j) root c
rest_is p branch j root Pass c is = is
rest_is p branch j root (Assign x is e) c h = rest_of p branch j root (Assign x is e) c h
rest_is p branch j root (Reduce x is e) c h = rest_of p branch j root (Reduce x is e) c h
rest_is p branch j root (Config f a) c h = rest_of p branch j root (Config f a) c h
rest_is p branch j root (If t a b) c h =
    rest_of p branch j root (If t (cleared a) (cleared b)) c h
rest_is p branch j root (For i lo hi b) c h = rest_of p branch j root (For i lo hi (cleared b)) c h
rest_is p branch j root (Alloc x cell dims memory) c h =
    rest_of p branch j root (Alloc x cell dims memory) c h
rest_is p branch j root (View w x coords) c h = rest_of p branch j root (View w x coords) c h
rest_is p branch j root (Call k args) c h = rest_of p branch j root (Call k args) c h

pub one_pass_is : (b : Block) → is_one_pass b ≡ true → b ≡ next Pass end
one_pass_is (next Pass end) h = refl
one_pass_is end h = cc
one_pass_is (next Pass (next a b)) h = cc
one_pass_is (next (Assign x is e) b) h = cc
one_pass_is (next (Reduce x is e) b) h = cc
one_pass_is (next (Config f a) b) h = cc
one_pass_is (next (If t c d) b) h = cc
one_pass_is (next (For i lo hi d) b) h = cc
one_pass_is (next (Alloc x cell dims memory) b) h = cc
one_pass_is (next (View w x coords) b) h = cc
one_pass_is (next (Call k args) b) h = cc

module _ (old new : Block) where
  one_carried : (from to : Path) (a b : Statement) → Stands from old a → Stands to new b
      → kind_of a ≡ kind_of b → AreCarried (alone from (Some to)) to old new
  one_carried from to a b s t h = record {
    was = s.o;
    is = t.o;
    before = s.opens;
    after = t.opens;
    alike = ap kinds_of s.piece ∙ ap (λ k. k ∷ []) h ∙ sym (ap kinds_of t.piece);
  }

  pass_carried : (from to : Path) (branch : Branch) (b : Block) → b ≡ next Pass end
      → BlockAt from branch old b → BlockAt to branch new (cleared b)
      → AreCarried (alone (down from branch 0) (Some (down to branch 0))) (down to branch 0) old new
  pass_carried from to branch b e was is =
      let one : BlockAt from branch old (next Pass end) = subst (BlockAt from branch old) e was in
      let two : BlockAt to branch new (next Pass end) =
      subst (λ x. BlockAt to branch new (cleared x)) e is in
      one_carried (down from branch 0) (down to branch 0) Pass Pass (one 0 Pass refl)
      (two 0 Pass refl) refl

  plain_carried : (from to : Path) (branch : Branch) (i j : ℕ) (a : Statement) (b c : Block)
      → From from branch i old (next a b) → From to branch j new (next a c)
      → Carries (alone (down from branch i) (Some (down to branch j)) ∷ []) old new
  plain_carried from to branch i j a b c was is = (
    one_carried (down from branch i) (down to branch j) a a (first_of from branch i old a b was)
        (first_of to branch j new a c is) refl,
    tt,
  )

  mutual
    block_carried : (from to : Path) (branch : Branch) (b : Block) → BlockAt from branch old b
        → BlockAt to branch new (cleared b) → Carries (shifted_block from to branch b) old new
    block_carried from to branch end was is = tt
    block_carried from to branch (next a b) was is =
        let start = start_of from branch old (next a b) was in
        let made = without_made to branch new (before a (without b))
        (start_of to branch new (cleared (next a b)) is) in
        let p = down from branch 0 in
        let q = down to branch 0 in
        let one = shifted_statement p q a in
        let others = shifted from to branch 1 (behind a 0) b in
        of_either (λ xs. Carries xs old new) (is_one_pass (next a b)) (alone p (Some q) ∷ [])
        (one ++ others)
        (λ e. (pass_carried from to branch (next a b) (one_pass_is (next a b) e) was is, tt))
        (carries_both one others old new
        (statement_carried from to branch 0 0 a b (without b) start made)
        (statements_carried from to branch 1 (behind a 0) b (rest_of from branch 0 old a b start)
        (rest_is to branch 0 new a (without b) made)))

    statements_carried : (from to : Path) (branch : Branch) (i j : ℕ) (b : Block)
        → From from branch i old b → From to branch j new (without b)
        → Carries (shifted from to branch i j b) old new
    statements_carried from to branch i j end was is = tt
    statements_carried from to branch i j (next a b) was is =
        carries_both (shifted_statement (down from branch i) (down to branch j) a)
        (shifted from to branch (suc i) (behind a j) b) old new
        (statement_carried from to branch i j a b (without b) was is)
        (statements_carried from to branch (suc i) (behind a j) b (rest_of from branch i old a b was)
        (rest_is to branch j new a (without b) is))

    statement_carried : (from to : Path) (branch : Branch) (i j : ℕ) (a : Statement) (b c : Block)
        → From from branch i old (next a b) → From to branch j new (before a c)
        → Carries (shifted_statement (down from branch i) (down to branch j) a) old new
    statement_carried from to branch i j Pass b c was there = tt
    statement_carried from to branch i j (Assign x is e) b c was there =
        plain_carried from to branch i j (Assign x is e) b c was there
    statement_carried from to branch i j (Reduce x is e) b c was there =
        plain_carried from to branch i j (Reduce x is e) b c was there
    statement_carried from to branch i j (Config f a) b c was there =
        plain_carried from to branch i j (Config f a) b c was there
    statement_carried from to branch i j (Alloc x cell dims memory) b c was there =
        plain_carried from to branch i j (Alloc x cell dims memory) b c was there
    statement_carried from to branch i j (View w x coords) b c was there =
        plain_carried from to branch i j (View w x coords) b c was there
    statement_carried from to branch i j (Call k args) b c was there =
        plain_carried from to branch i j (Call k args) b c was there
    statement_carried from to branch i j (If t a d) b c was there =
        let x = If t a d in
        let y = If t (cleared a) (cleared d) in
        let s = first_of from branch i old x b was in
        let n = first_of to branch j new y c there in
        let p = down from branch i in
        let q = down to branch j in (
          one_carried p q x y s n refl,
          carries_both (shifted_block p q Main a) (shifted_block p q Else d) old new
              (block_carried p q Main a (branch_at from branch i old x Main a s refl)
              (branch_at to branch j new y Main (cleared a) n refl))
              (block_carried p q Else d (branch_at from branch i old x Else d s refl)
              (branch_at to branch j new y Else (cleared d) n refl)),
        )
    statement_carried from to branch i j (For v lo hi d) b c was there =
        let x = For v lo hi d in
        let y = For v lo hi (cleared d) in
        let s = first_of from branch i old x b was in
        let n = first_of to branch j new y c there in
        let p = down from branch i in
        let q = down to branch j in (
          one_carried p q x y s n refl,
          block_carried p q Main d (branch_at from branch i old x Main d s refl)
              (branch_at to branch j new y Main (cleared d) n refl),
        )

-- each statement that stays goes to one of its kind
pub deleted_carries : (b : Block) → Carries (shifted_block [] [] Main b) b (cleared b)
deleted_carries b = block_carried b (cleared b) [] [] Main b (whole_at b) (whole_at (cleared b))
