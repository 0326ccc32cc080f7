-- What a walk has marked, and what is left.
use Rattle.std.proofs.Common.{◌≡◌, ℕ, zero, suc, arith, ◌||◌, ◌&&◌, ◌==◌, ◌≤◌, Bool, true, false, List, [], ◌∷◌, length, drop, take, refl, ap, sym, ◌∙◌}
use Rattle.std.proofs.Common.{Result, Ok, Err, OnOk}
use Rattle.std.proofs.Math.Bool.{or_assoc}
use Rattle.std.proofs.lemmas.List.{drop_all, take_all}
use Rattle.exo_tree.specs.Tree.{Binder, Cell, Control, Condition, Datum, Statement, Assign, Reduce, If, Alloc, Block, block, Procedure}
use Rattle.exo_meaning.specs.Run.{roots_after}
use Rattle.exo_meaning.specs.Modes.{Mode, Reading, Writing, Reducing, Modes, picked, reads_from}
use Rattle.exo_modes.specs.Marks.{together, used, reads, block_marks, step_marks}
use Rattle.exo_modes.proofs.Unions.{same_modes, or_false, nothing_more, more}

module _ (ps : List Procedure) (ms : List Modes) (root : ℕ → ℕ) where
  abbrev step : Statement → Modes
  step = step_marks ps ms root

  write_at : (m : Mode) (r t : Bool) → ((picked m false true false && t) || picked m r false false) ≡ picked m r t false
  write_at Reading r t = refl
  write_at Writing r t = or_false t
  write_at Reducing r t = refl

  reduce_at : (m : Mode) (r t : Bool) → ((picked m false false true && t) || picked m r false false) ≡ picked m r false t
  reduce_at Reading r t = refl
  reduce_at Writing r t = refl
  reduce_at Reducing r t = or_false t

  pub assigned : (x : ℕ) (is : List Control) (e : Datum) (o p : Modes)
      → p ≡ together o (used (λ m. picked m false true false) (root x))
      → together p (reads root e) ≡ together o (step (Assign x is e))
  assigned x is e o p h =
      more o _ _ p _ h refl
      ∙ ap (together o) (same_modes _ _ (λ m y. write_at m (reads_from root e y) (y == root x)))

  pub reduced : (x : ℕ) (is : List Control) (e : Datum) (o p : Modes)
      → p ≡ together o (used (λ m. picked m false false true) (root x))
      → together p (reads root e) ≡ together o (step (Reduce x is e))
  reduced x is e o p h =
      more o _ _ p _ h refl
      ∙ ap (together o) (same_modes _ _ (λ m y. reduce_at m (reads_from root e y) (y == root x)))

  made_at : (m : Mode) (t : Bool) → (picked m false true false && t) ≡ picked m false t false
  made_at Reading t = refl
  made_at Writing t = refl
  made_at Reducing t = refl

  pub made : (x : Binder) (cell : Cell) (dims : List Control) (memory : ℕ) (o t : Modes) → t ≡ together o (used (λ m. picked m false true false) x.id) → t ≡ together o (step (Alloc x cell dims memory))
  made x cell dims memory o t h = h ∙ ap (together o) (same_modes _ _ (λ m y. made_at m (y == x.id)))

  pub branched : (c : Condition) (a b : Block) (o p t : Modes) → p ≡ together o (block_marks ps ms root a) → t ≡ together p (block_marks ps ms root b) → t ≡ together o (step (If c a b))
  branched c a b o p t h i = more o _ _ p t h i

  -- one more statement
  pub walked_on : (after : ℕ → ℕ) (row new whole : Modes) (s : Statement) (ss rest : List Statement) → ss ≡ s ∷ rest → new ≡ together row (step s) → after ≡ roots_after s root → together row (block_marks ps ms root (block ss)) ≡ whole → together new (block_marks ps ms after (block rest)) ≡ whole
  walked_on after row new whole s ss rest d h r w =
      ap (λ f. together f (block_marks ps ms after (block rest))) h
      ∙ ap (λ f. together (together row (step s)) (block_marks ps ms f (block rest))) r
      ∙ same_modes _ _ (λ m y. or_assoc (row m y) (step s m y) (block_marks ps ms (roots_after s root) (block rest) m y))
      ∙ ap (λ ts. together row (block_marks ps ms root (block ts))) (sym d)
      ∙ w

  -- no statement is left
  pub walked_off : (row whole : Modes) (ss : List Statement) (k : ℕ) → length ss ≤ k → together row (block_marks ps ms root (block (drop k ss))) ≡ whole → row ≡ whole
  walked_off row whole ss k l w =
      sym (nothing_more row) ∙ ap (λ ts. together row (block_marks ps ms root (block ts))) (sym (drop_all k ss l)) ∙ w

take_shorter : {X : Type 0} (k n : ℕ) (ys : List X) → k ≤ n → take k (take n ys) ≡ take k ys
take_shorter zero n ys h = refl
take_shorter (suc k) zero ys h = absurd (omega arith)
take_shorter (suc k) (suc n) [] h = refl
take_shorter (suc k) (suc n) (y ∷ ys) h = ap (λ zs. y ∷ zs) (take_shorter k n ys (omega arith))

length_taken : {X : Type 0} (n : ℕ) (ys : List X) → length (take n ys) ≤ length ys
length_taken zero ys = omega arith
length_taken (suc n) [] = omega arith
length_taken (suc n) (y ∷ ys) = omega (arith, length_taken n ys)

-- the names from before the block are kept
pub kept_on : {X : Type 0} (known : ℕ) (xs ys zs : List X) → take known xs ≡ zs → known ≤ length xs → take (length xs) ys ≡ xs → (take known ys ≡ zs) × (known ≤ length ys)
kept_on known xs ys zs e h k = (
  sym (take_shorter known (length xs) ys h) ∙ ap (take known) k ∙ e,
  omega (arith, h, ap length k, length_taken (length xs) ys),
)

-- names that are as they were are kept
pub kept_same : {X : Type 0} (xs : List X) → take (length xs) xs ≡ xs
kept_same xs = take_all (length xs) xs (omega arith)

-- what holds anyhow holds after a call
pub anyhow : {T E P : Type 0} (r : Result T E) → P → OnOk r P
anyhow (Ok x) p = p
anyhow (Err e) p = tt

-- what is made of what a call left
pub made_of : {T E V W : Type 0} (r : Result T E) (f : V → W) (x y : V) (z : W)
    → OnOk r (x ≡ y) → f y ≡ z → OnOk r (f x ≡ z)
made_of (Ok t) f x y z h e = ap f h ∙ e
made_of (Err d) f x y z h e = tt
