-- Fields that a block does not read are not live before it, if they are not live behind it.
use Rattle.std.proofs.Common.{◌≡◌, ℕ, zero, suc, Bool, true, false, cond, ◌||◌, List, [], ◌∷◌, ◌++◌}
use Rattle.std.proofs.Common.{refl, ap, ap₂, ◌∙◌}
use Rattle.exo_tree.specs.Tree.{Statement, Assign, Reduce, Config, Pass, If, For, Alloc, View, Call}
use Rattle.exo_tree.specs.Tree.{Block, end, next, Procedure}
use Rattle.exo_meaning.proofs.Frame.{or_parts}
use Rattle.meaning_laws.specs.Live.{live, live_step, read_by_control, read_by_condition}
use Rattle.meaning_laws.specs.Live.{read_by_arguments}
use Rattle.meaning_laws.specs.UnitFields.{read_by_params, read_by_conditions, live_before, live_at}
use Rattle.meaning_laws.specs.UnitFields.{all_live}
use Rattle.config_state.specs.Reads.{reads_field, step_reads_field, read_by, read_at, all_read}
use Rattle.place_laws.specs.Order.Unread.{UnreadLaw}

module _ (reads : ℕ → ℕ → Bool) (calls : ℕ → ℕ → Bool → Bool) (f : ℕ)
    (below : (k : ℕ) → reads k f ≡ false → calls k f false ≡ false) where
  no_write : (t : Bool) → cond t false false ≡ false
  no_write true = refl
  no_write false = refl

  mutual
    block_unread : (b : Block) → reads_field reads f b ≡ false → live calls f b false ≡ false
    block_unread end h = refl
    block_unread (next a b) h =
        let p = or_parts (step_reads_field reads f a) (reads_field reads f b) h in
        ap (live_step calls f a) (block_unread b p.1) ∙ step_unread a p.0

    step_unread : (a : Statement) → step_reads_field reads f a ≡ false
        → live_step calls f a false ≡ false
    step_unread (Assign x is e) h = ap (λ t. t || false) h
    step_unread (Reduce x is e) h = ap (λ t. t || false) h
    step_unread (Config g a) h = ap₂ (λ t u. t || u) h (no_write _)
    step_unread Pass h = refl
    step_unread (If c a b) h =
        let p = or_parts (read_by_condition f c) (reads_field reads f a || reads_field reads f b) h
        in
        let q = or_parts (reads_field reads f a) (reads_field reads f b) p.1 in
        ap₂ (λ t u. t || u) p.0 (ap₂ (λ t u. t || u) (block_unread a q.0) (block_unread b q.1))
    step_unread (For i lo hi b) h =
        let p = or_parts (read_by_control f lo || read_by_control f hi) (reads_field reads f b) h in
        ap₂ (λ t u. t || (false || u)) p.0 (block_unread b p.1)
    step_unread (Alloc x cell dims memory) h = ap (λ t. t || false) h
    step_unread (View w x coords) h = ap (λ t. t || false) h
    step_unread (Call k args) h =
        let p = or_parts (read_by_arguments f args) (reads k f) h in
        ap₂ (λ t u. t || u) p.0 (below k p.1)

-- ---- units

-- of each procedure the fields that it reads, and those that are live before it
abbrev AllUnread : List (ℕ → Bool) → List (ℕ → Bool → Bool) → Type 0
AllUnread [] [] = Unit {0}
AllUnread [] (l ∷ ls) = ⊥
AllUnread (r ∷ rs) [] = ⊥
AllUnread (r ∷ rs) (l ∷ ls) = ((f : ℕ) → r f ≡ false → l f false ≡ false) × AllUnread rs ls

unread_at : (rs : List (ℕ → Bool)) (ls : List (ℕ → Bool → Bool)) → AllUnread rs ls → (f k : ℕ)
    → read_at rs k f ≡ false → live_at ls k f false ≡ false
unread_at [] [] h f zero e = refl
unread_at [] [] h f (suc k) e = refl
unread_at [] (l ∷ ls) h f k e = absurd h
unread_at (r ∷ rs) [] h f k e = absurd h
unread_at (r ∷ rs) (l ∷ ls) h f zero e = h.0 f e
unread_at (r ∷ rs) (l ∷ ls) h f (suc k) e = unread_at rs ls h.1 f k e

unread_more : (rs : List (ℕ → Bool)) (ls : List (ℕ → Bool → Bool)) (r : ℕ → Bool)
    (l : ℕ → Bool → Bool) → AllUnread rs ls → ((f : ℕ) → r f ≡ false → l f false ≡ false)
    → AllUnread (rs ++ r ∷ []) (ls ++ l ∷ [])
unread_more [] [] r l h w = (w, tt)
unread_more [] (k ∷ ls) r l h w = absurd h
unread_more (q ∷ rs) [] r l h w = absurd h
unread_more (q ∷ rs) (k ∷ ls) r l h w = (h.0, unread_more rs ls r l h.1 w)

procedure_unread : (rs : List (ℕ → Bool)) (ls : List (ℕ → Bool → Bool)) → AllUnread rs ls
    → (p : Procedure) (f : ℕ) → read_by (read_at rs) p f ≡ false
    → live_before (live_at ls) p f false ≡ false
procedure_unread rs ls h p f e =
    let s = or_parts (read_by_params f p.params)
    (read_by_conditions f p.asserts || reads_field (read_at rs) f p.body) e in
    let t = or_parts (read_by_conditions f p.asserts) (reads_field (read_at rs) f p.body) s.1 in
    ap₂ (λ x y. x || y) s.0 (ap₂ (λ x y. x || y) t.0
    (block_unread (read_at rs) (live_at ls) f (unread_at rs ls h f) p.body t.1))

all_unread : (rs : List (ℕ → Bool)) (ls : List (ℕ → Bool → Bool)) (ps : List Procedure)
    → AllUnread rs ls → AllUnread (all_read rs ps) (all_live ls ps)
all_unread rs ls [] h = h
all_unread rs ls (p ∷ ps) h = all_unread (rs ++ read_by (read_at rs) p ∷ [])
    (ls ++ live_before (live_at ls) p ∷ []) ps
    (unread_more rs ls (read_by (read_at rs) p) (live_before (live_at ls) p) h
    (procedure_unread rs ls h p))

pub unread_fields_are_dead : UnreadLaw
unread_fields_are_dead ps f b h = block_unread (read_at (all_read [] ps)) (live_at (all_live [] ps))
    f (unread_at (all_read [] ps) (all_live [] ps) (all_unread [] [] ps tt) f) b h
