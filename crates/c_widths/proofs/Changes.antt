-- What calls give to a parameter, along a block: it hangs on what was given to that parameter alone.
use Rattle.std.proofs.Common.{◌≡◌, ◌<◌, ℕ, suc, ◌==◌, Bool, true, false, ◌&&◌, if◌then◌else◌, max, List, [], ◌∷◌, refl, sym, ap, ◌∙◌, subst}
use Rattle.exo_tree.specs.Tree.{Argument, Statement, Assign, Reduce, Config, Pass, If, For, Alloc, View, Call, Block, end, next, MemoryKind}
use Rattle.c_widths.specs.Widths.{with_bounds, is_narrow_argument, are_narrow_arguments, is_narrow_block, is_narrow_statement}
use Rattle.c_widths.specs.Raises.{Raises, argument_magnitude, raised_by, raised, step_raised}
use Rattle.c_widths.specs.Given.{given_in, IsChanged}

abbrev pub IsLocal : (Raises → Raises) → Type 0
IsLocal change = (g h : Raises) (j i : ℕ) → g j i ≡ h j i → change g j i ≡ change h j i

-- one argument more
abbrev pub given_more : ℕ → ℕ → ℕ → Raises → Raises
given_more k i m given j n = if (j == k) && (n == i) then max m (given j n) else given j n

more_is_local : (k i m : ℕ) → IsLocal (given_more k i m)
more_is_local k i m g h j n e = here ((j == k) && (n == i))
  where
    here : (t : Bool) → (if t then max m (g j n) else g j n) ≡ (if t then max m (h j n) else h j n)
    here true = ap (max m) e
    here false = e

pub by_is_local : (most : ℕ → ℕ) (k i : ℕ) (args : List Argument) → IsLocal (raised_by most k i args)
by_is_local most k i [] g h j n e = e
by_is_local most k i (a ∷ rest) g h j n e =
    let m = argument_magnitude most a in
    by_is_local most k (suc i) rest (given_more k i m g) (given_more k i m h) j n (more_is_local k i m g h j n e)

mutual
  pub block_is_local : (most : ℕ → ℕ) (b : Block) → IsLocal (raised most b)
  block_is_local most end g h j n e = e
  block_is_local most (next a b) g h j n e = block_is_local most b (step_raised most a g) (step_raised most a h) j n (step_is_local most a g h j n e)

  pub step_is_local : (most : ℕ → ℕ) (a : Statement) → IsLocal (step_raised most a)
  step_is_local most (Assign x is d) g h j n e = e
  step_is_local most (Reduce x is d) g h j n e = e
  step_is_local most (Config f a) g h j n e = e
  step_is_local most Pass g h j n e = e
  step_is_local most (If c a b) g h j n e = block_is_local most b (raised most a g) (raised most a h) j n (block_is_local most a g h j n e)
  step_is_local most (For i lo hi b) g h j n e = block_is_local (with_bounds most i.id lo hi) b g h j n e
  step_is_local most (Alloc x cell dims memory) g h j n e = e
  step_is_local most (View w x coords) g h j n e = e
  step_is_local most (Call k args) g h j n e = by_is_local most k 0 args g h j n e

-- ---- tables

pub not_changed : (rows : List (List ℕ)) → IsChanged (λ given. given) rows rows
not_changed rows = record { same_places = λ k. refl; each = λ k i h. refl }

pub changed_then : (f g : Raises → Raises) (old mid new : List (List ℕ)) → IsLocal g → IsChanged f old mid → IsChanged g mid new → IsChanged (λ given. g (f given)) old new
changed_then f g old mid new local first second = record {
  same_places = λ k. second.same_places k ∙ first.same_places k;
  each = λ k i h.
      second.each k i (subst (λ n. i < n) (sym (first.same_places k)) h)
      ∙ local (given_in mid) (f (given_in old)) k i (first.each k i h);
}

-- the next argument, and then the others
pub arguments_changed : (most : ℕ → ℕ) (k i : ℕ) (args rest : List Argument) (a : Argument) (old mid new : List (List ℕ)) → args ≡ a ∷ rest → IsChanged (given_more k i (argument_magnitude most a)) old mid → IsChanged (raised_by most k (suc i) rest) mid new → IsChanged (raised_by most k i args) old new
arguments_changed most k i args rest a old mid new e first second =
    subst (λ l. IsChanged (raised_by most k i l) old new) (sym e)
    (changed_then (given_more k i (argument_magnitude most a)) (raised_by most k (suc i) rest) old mid new (by_is_local most k (suc i) rest) first second)

-- the next statement, and then the others
pub block_changed : (most : ℕ → ℕ) (b rest : Block) (a : Statement) (old mid new : List (List ℕ)) → b ≡ next a rest → IsChanged (step_raised most a) old mid → IsChanged (raised most rest) mid new → IsChanged (raised most b) old new
block_changed most b rest a old mid new e first second =
    subst (λ l. IsChanged (raised most l) old new) (sym e) (changed_then (step_raised most a) (raised most rest) old mid new (block_is_local most rest) first second)

-- ---- what is left decides

pub arguments_left : (most : ℕ → ℕ) (args rest : List Argument) (a : Argument) (t : Bool) → args ≡ a ∷ rest → is_narrow_argument most a ≡ t → are_narrow_arguments most args ≡ (t && are_narrow_arguments most rest)
arguments_left most args rest a t e h = ap (are_narrow_arguments most) e ∙ ap (λ b. b && are_narrow_arguments most rest) h

pub block_left : (memories : List MemoryKind) (most : ℕ → ℕ) (b rest : Block) (a : Statement) (t : Bool) → b ≡ next a rest → is_narrow_statement memories most a ≡ t → is_narrow_block memories most b ≡ (t && is_narrow_block memories most rest)
block_left memories most b rest a t e h = ap (is_narrow_block memories most) e ∙ ap (λ t. t && is_narrow_block memories most rest) h
