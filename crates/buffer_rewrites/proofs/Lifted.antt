-- An allocation of a block, what stands round it, and where statements go.
use Rattle.std.proofs.Common.{◌≡◌, ℕ, zero, suc, ◌+◌, ◌-◌, ◌<◌, true, List, [], ◌∷◌, ◌++◌, length}
use Rattle.std.proofs.Common.{take, drop, Option, Some, None, refl, sym, ap, ap₂, ◌∙◌, arith}
use Rattle.std.proofs.Common.{add-one, length-drop}
use Rattle.std.proofs.lemmas.List.{length-take-le}
use Rattle.std.specs.Prelude.{slice_get, slice_range, option_map, option_and_then}
use Rattle.exo_tree.specs.Tree.{Statement, Block, end, next, joined, block, statements}
use Rattle.exo_tree.specs.Places.{Branch, parted}
use Rattle.exo_tree.proofs.Edits.{range_to_end}
use Rattle.cursor_forward.specs.Shifts.{Shift, alone, range, at_index}
use Rattle.tree_edits.specs.Made.Passes.{pass_for, or_one_pass}
use Rattle.step_targets.proofs.Made.{joined_blocks, statements_of}
use Rattle.buffer_laws.specs.Buffers.{Buffer, buffer_of, allocation, only_buffer}
use Rattle.alloc_laws.specs.Lifting.{Inner, Lifting, lifting_at}
use Rattle.alloc_laws.specs.Lifting.{within, other_shifts, lifted_shifts}

-- ---- the statement of a number, with what stands before and behind it

parted_there : (ss : List Statement) (k : ℕ) (a : Statement) → slice_get ss k ≡ Some a
    → parted k (block ss) ≡ Some (block (take k ss), next a (block (drop (suc k) ss)))
parted_there [] k a h = cc
parted_there (b ∷ ss) zero a h =
    let same : b ≡ a = cc in ap (λ (c : Statement). Some (end, next c (block ss))) same
parted_there (b ∷ ss) (suc k) a h =
    ap (option_map (λ (p : Block × Block). (next b p.0, p.1))) (parted_there ss k a h)

module _ (i : Inner) where
  -- whatever is put before what stands before
  abbrev EndsThere : Option (Block × Block) → Type 0
  EndsThere x =
      (put : Block → Block)
      → option_and_then (λ (p : Block × Block). lifting_at i (put p.0) p.1) x ≡ None

  one_more : (a : Statement) (x : Option (Block × Block)) → EndsThere x
      → EndsThere (option_map (λ (p : Block × Block). (next a p.0, p.1)) x)
  one_more a None h = λ put. refl
  one_more a (Some p) h = λ put. h (λ b. put (next a b))

  ends_there : (ss : List Statement) (k : ℕ) → slice_get ss k ≡ None
      → EndsThere (parted k (block ss))
  ends_there [] zero h = λ put. refl
  ends_there [] (suc k) h = λ put. refl
  ends_there (b ∷ ss) zero h = cc
  ends_there (b ∷ ss) (suc k) h = one_more b (parted k (block ss)) (ends_there ss k h)

  module _ (ss : List Statement) (k : ℕ) (same : block ss ≡ i.block) where
    abbrev Finds : Option Lifting → Type 0
    Finds x =
        x ≡ option_and_then (λ (p : Block × Block). lifting_at i p.0 p.1) (parted k i.block)

    in_block : (x : Option Lifting)
        → x ≡ option_and_then (λ (p : Block × Block). lifting_at i p.0 p.1) (parted k (block ss))
        → Finds x
    in_block x h =
        h
        ∙ ap
        (λ (b : Block). option_and_then (λ (p : Block × Block). lifting_at i p.0 p.1) (parted k b))
        same

    pub no_statement : slice_get ss k ≡ None → Finds None
    no_statement h = in_block None (sym (ends_there ss k h (λ b. b)))

    module _ (a : Statement) (there : slice_get ss k ≡ Some a) where
      by_buffer : (x : Option Buffer) → x ≡ buffer_of a
          → option_map
          (λ (y : Buffer). record {
            inner = i;
            before = block (take k ss);
            buffer = y;
            behind = block (drop (suc k) ss);
          }) x
          ≡ option_and_then (λ (p : Block × Block). lifting_at i p.0 p.1) (parted k (block ss))
      by_buffer x h =
          ap (option_map
          (λ (y : Buffer). record {
            inner = i;
            before = block (take k ss);
            buffer = y;
            behind = block (drop (suc k) ss);
          })) h
          ∙ sym (ap (option_and_then (λ (p : Block × Block). lifting_at i p.0 p.1))
          (parted_there ss k a there))

      pub no_alloc : None ≡ buffer_of a → Finds None
      no_alloc h = in_block None (by_buffer None h)

      pub alloc_there : (x : Buffer) → Some x ≡ buffer_of a
          → Finds (Some (record {
            inner = i;
            before = block (take k ss);
            buffer = x;
            behind = block (drop (suc k) ss);
          }))
      alloc_there x h =
          in_block (Some (record {
            inner = i;
            before = block (take k ss);
            buffer = x;
            behind = block (drop (suc k) ss);
          })) (by_buffer (Some x) h)

-- ---- what is made of them

pass_alone : (b : Block) → pass_for true b ≡ or_one_pass b
pass_alone end = refl
pass_alone (next a b) = refl

pub without : (ss made more new : List Statement) (k n : ℕ) → n ≡ length ss
    → made ≡ slice_range ss 0 (0 + k)
    → more ≡ made ++ slice_range ss (k + 1) n
    → block new ≡ pass_for true (block more)
    → block new ≡ or_one_pass (joined (block (take k ss)) (block (drop (suc k) ss)))
without ss made more new k n l m h p =
    let zero_and : 0 + k - 0 ≡ k = omega arith in
    let front : made ≡ take k ss = m ∙ ap (λ (j : ℕ). take j ss) zero_and in
    let back : slice_range ss (k + 1) n ≡ drop (suc k) ss =
    range_to_end ss (k + 1) n l ∙ ap (λ (j : ℕ). drop j ss) (add-one k) in
    p ∙ pass_alone (block more)
    ∙ ap (λ (xs : List Statement). or_one_pass (block xs)) (h ∙ ap₂ ◌++◌ front back)
    ∙ ap or_one_pass (joined_blocks (take k ss) (drop (suc k) ss))

pub lifted_out : (made more new : List Statement) (x : Buffer) (a : Statement)
    → block made ≡ only_buffer x → block more ≡ next a end → new ≡ made ++ more
    → block new ≡ next (allocation x) (next a end)
lifted_out made more new x a h k e =
    ap block e ∙ joined_blocks made more ∙ ap₂ joined h k

-- ---- where statements go

pub so_many_behind : (ss : List Statement) (k n : ℕ) → n ≡ length ss → k < n
    → n - k - 1 ≡ length (statements (block (drop (suc k) ss)))
so_many_behind ss k n h l =
    let count = length-drop (suc k) ss in
    let e : n - k - 1 ≡ length (drop (suc k) ss) = omega (arith, count, h, l) in
    e ∙ ap length (sym (statements_of (drop (suc k) ss)))

pub so_many_before : (ss : List Statement) (k : ℕ) → k < length ss
    → length (statements (block (take k ss))) ≡ k
so_many_before ss k l =
    ap length (statements_of (take k ss)) ∙ length-take-le k ss (omega (arith, l))

pub moves_are : (b : Branch) (l : Lifting) (k : ℕ) (all : List Shift)
    → length (statements l.before) ≡ k
    → all
    ≡ alone (at_index 0) (Some (at_index 1))
    ∷ range (within 0 b k) 1 (Some (at_index 0))
    ∷ range (within 0 b 0) k (Some (within 1 b 0))
    ∷ range (within 0 b (suc k)) (length (statements l.behind)) (Some (within 1 b k))
    ∷ other_shifts b l.inner.other
    → all ≡ lifted_shifts b l
moves_are b l k all h e =
    e
    ∙ ap
    (λ (n : ℕ). alone (at_index 0) (Some (at_index 1))
    ∷ range (within 0 b n) 1 (Some (at_index 0))
    ∷ range (within 0 b 0) n (Some (within 1 b 0))
    ∷ range (within 0 b (suc n)) (length (statements l.behind)) (Some (within 1 b n))
    ∷ other_shifts b l.inner.other) (sym h)

pub all_moves : (a b c d : Shift) (first more other all : List Shift) → first ≡ a ∷ b ∷ c ∷ []
    → more ≡ first ++ d ∷ []
    → all ≡ more ++ other
    → all ≡ a ∷ b ∷ c ∷ d ∷ other
all_moves a b c d first more other all h k l =
    l ∙ ap (λ (x : List Shift). x ++ other) (k ∙ ap (λ (x : List Shift). x ++ d ∷ []) h)
