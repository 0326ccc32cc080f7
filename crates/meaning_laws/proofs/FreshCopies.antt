-- A block and its copy under fresh ids.
use Rattle.std.proofs.Common.{◌≡◌, ℕ, true, false, true≢false, Option, Some, None, IfSome, option_map, refl, sym, ap, ◌∙◌}
use Rattle.exo_tree.specs.Tree.{Statement, Assign, Reduce, Config, Pass, If, For, Alloc, View, Call, Block, end, next}
use Rattle.exo_tree.specs.Renaming.{fresh_id}
use Rattle.exo_meaning.specs.Binders.{binders}
use Rattle.exo_meaning.specs.State.{State, scoped}
use Rattle.exo_meaning.specs.Run.{World, run, step}
use Rattle.exo_meaning.specs.Renaming.{Renaming, re_state}
use Rattle.exo_meaning.specs.Unseen.{in_block as mentions}
use Rattle.exo_meaning.proofs.Frame.{if_then, if_weaken}
use Rattle.meaning_laws.specs.Sound.{binds, IsSound, IsUnbound, IsSameName}
use Rattle.meaning_laws.specs.Copies.{Moves}
use Rattle.meaning_laws.specs.Fresh.{AreFree, IsFresh}
use Rattle.meaning_laws.proofs.Copies.{re_same, moves_on, unbound_on, Stays, if_both, copied_block_law}
use Rattle.meaning_laws.proofs.Names.{name_same, name_on, step_names}
use Rattle.meaning_laws.proofs.Sound.{run_sound}
use Rattle.meaning_laws.proofs.Substitute.{and_parts}
use Rattle.meaning_laws.specs.FreshCopies.{is_given, CopyIsRenaming, MayCopy, CopiesRunAlike}
use Rattle.meaning_laws.specs.FreshCopies.{is_closed_statement, is_closed, ClosedCopiesAreSame}
use Rattle.meaning_laws.proofs.SameIds as same_ids
use Rattle.meaning_laws.proofs.Fresh.{exchanging, exchanging_moves}
use Rattle.meaning_laws.proofs.Numbers.{block_among, AreOutside, fresh_is_exchanged, are_free, binder_seen}

-- ---- the copy is a renaming

module _ (b : Block) (n : ℕ) where
  binders_outside : mentions (is_given n b) b ≡ false → AreOutside (binders b) n
  binders_outside h x e = binder_seen (is_given n b) x b h (sym (block_among b x) ∙ e)

pub copy_is_renaming : CopyIsRenaming
copy_is_renaming b n r is_fresh unused = same_ids.block (is_given n b) (fresh_id (binders b) n) r.to same b unused
  where
    same : (x : ℕ) → is_given n b x ≡ false → fresh_id (binders b) n x ≡ r.to x
    same x h =
        fresh_is_exchanged (binders b) n x (binders_outside b n unused) h
        ∙ sym (is_fresh.to x)

-- ---- runs

module _ (n : ℕ) (b : Block) (s : State) (may : MayCopy n b s) where
  free : AreFree (IsUnbound s) (binders b) n
  free =
      are_free (IsUnbound s) (binders b) n
      (λ x e. may.own x (sym (block_among b x) ∙ e))
      (λ x e. may.given x e)

  abbrev ids : Renaming
  ids = exchanging (binders b) n

  numbered : IsFresh b n ids
  numbered = record { to = λ x. refl; from = λ x. refl }

  moved : Moves ids (IsUnbound s)
  moved = exchanging_moves (IsUnbound s) (binders b) n free

pub copies_run_alike : CopiesRunAlike
copies_run_alike world n b s may =
    let renaming = ids n b s may in
    let copy = copy_is_renaming b n renaming (numbered n b s may) may.unused in
    let same = copied_block_law renaming world b s may.sound (moved n b s may) in
    record {
      ids = renaming;
      is_fresh = numbered n b s may;
      moves = moved n b s may;
      is_copy = copy;
      runs = ap (λ c. run world c s) copy ∙ same.0;
      in_scope = ap (λ c. scoped (run world c) s) copy ∙ same.1;
    }

-- ---- closed blocks

nothing_bound : (a : Statement) (x : ℕ) → is_closed_statement a ≡ true → binds a x ≡ false
nothing_bound (Assign y is d) x h = refl
nothing_bound (Reduce y is d) x h = refl
nothing_bound (Config f a) x h = refl
nothing_bound Pass x h = refl
nothing_bound (If c a b) x h = refl
nothing_bound (For i lo hi b) x h = refl
nothing_bound (Alloc y cell dims memory) x h = absurd (true≢false (sym h))
nothing_bound (View w y cs) x h = absurd (true≢false (sym h))
nothing_bound (Call k args) x h = refl

closed_names : (world : World) (b : Block) (s : State) → is_closed b ≡ true
    → IfSome (run world b s) (λ t. (x : ℕ) → IsSameName x s t)
closed_names world end s h = λ x. name_same x s
closed_names world (next a b) s h =
    let p = and_parts (is_closed_statement a) (is_closed b) h in
    if_then (λ t. (x : ℕ) → binds a x ≡ false → IsSameName x s t) (λ u. (x : ℕ) → IsSameName x s u) (step world a s)
    (run world b) (step_names world a s)
    (λ t k. if_weaken (λ u. (x : ℕ) → IsSameName x t u) (λ u. (x : ℕ) → IsSameName x s u) (run world b t)
    (closed_names world b t p.1) (λ u l x. name_on x s t u (k x (nothing_bound a x p.0)) (l x)))

pub closed_copies_are_same : ClosedCopiesAreSame
closed_copies_are_same world n b s may closed =
    let alike = copies_run_alike world n b s may in
    alike.runs ∙ go alike.ids alike.moves (run world b s) stays
  where
    stays : IfSome (run world b s) (Stays s)
    stays =
        if_both IsSound (λ t. (x : ℕ) → IsSameName x s t) (Stays s) (run world b s) (run_sound world b s may.sound)
        (closed_names world b s closed) (λ t k l. record { sound = k; names = l })

    go : (r : Renaming) → Moves r (IsUnbound s) → (o : Option State) → IfSome o (Stays s) → option_map (re_state r) o ≡ o
    go r m None k = refl
    go r m (Some t) k =
        ap Some (re_same r t k.sound (moves_on r (IsUnbound s) (IsUnbound t) (λ x u. unbound_on s t x (k.names x) u) m))
