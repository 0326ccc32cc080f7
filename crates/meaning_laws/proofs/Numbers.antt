-- Numbers of binders: a renaming that exchanges them with new ones gives each the number that code gives it.
use Rattle.std.proofs.Common.{◌≡◌, ℕ, suc, ◌+◌, ◌==◌, Bool, true, false, cond, ◌&&◌, ◌||◌, List, [], ◌∷◌, ◌++◌}
use Rattle.std.proofs.Common.{length, nat_le, nat_lt, refl, sym, ap, ap₂, ◌∙◌, true≢false, eqb-true, eq-eqb, arith, add-one}
use Rattle.std.proofs.Common.{le-leb, lt-ltb, leb-true, ltb-true}
use Rattle.exo_tree.specs.Tree.{Statement, Assign, Reduce, Config, Pass, If, For, Alloc, View, Call, Block, end, next}
use Rattle.exo_tree.specs.Renaming.{fresh_id}
use Rattle.exo_meaning.specs.Binders.{binders, step_binders}
use Rattle.exo_meaning.specs.Unseen.{in_control, in_controls, in_condition, in_coords, in_statement, in_block}
use Rattle.exo_meaning.proofs.Frame.{or_parts}
use Rattle.meaning_laws.specs.Fresh.{swapped, exchanged, AreFree}
use Rattle.meaning_laws.specs.Scoped.{has_binder, step_has_binder}
use Rattle.meaning_laws.proofs.Substitute.{and_parts}
use Rattle.meaning_laws.proofs.Facts.{or_left, or_right}
use Rattle.meaning_laws.proofs.Scoped.{or_elim}
use Rattle.meaning_laws.specs.FreshCopies.{is_within}

-- ---- numbers of a list

abbrev pub among : List ℕ → ℕ → Bool
among [] x = false
among (i ∷ is) x = (x == i) || among is x

pub among_both : (is js : List ℕ) (x : ℕ) → among (is ++ js) x ≡ (among is x || among js x)
among_both [] js x = refl
among_both (i ∷ is) js x = go (x == i) (among_both is js x)
  where
    go : (t : Bool) → among (is ++ js) x ≡ (among is x || among js x) → (t || among (is ++ js) x) ≡ ((t || among is x) || among js x)
    go true e = refl
    go false e = e

or_false : (t : Bool) → (t || false) ≡ t
or_false true = refl
or_false false = refl

mutual
  step_among : (a : Statement) (x : ℕ) → among (step_binders a) x ≡ step_has_binder a x
  step_among (Assign y is d) x = refl
  step_among (Reduce y is d) x = refl
  step_among (Config f a) x = refl
  step_among Pass x = refl
  step_among (If c a b) x = among_both (binders a) (binders b) x ∙ ap₂ ◌||◌ (block_among a x) (block_among b x)
  step_among (For i lo hi b) x = ap (λ t. (x == i.id) || t) (block_among b x)
  step_among (Alloc y cell dims memory) x = or_false (x == y.id)
  step_among (View w y cs) x = or_false (x == w.id)
  step_among (Call k args) x = refl

  pub block_among : (b : Block) (x : ℕ) → among (binders b) x ≡ has_binder b x
  block_among end x = refl
  block_among (next a b) x = among_both (step_binders a) (binders b) x ∙ ap₂ ◌||◌ (step_among a x) (block_among b x)

-- ---- numbers from n on

pub false_by : (t : Bool) → (t ≡ true → ⊥) → t ≡ false
false_by true h = absurd (h refl)
false_by false h = refl

pub not_both : (t : Bool) → t ≡ true → t ≡ false → ⊥
not_both t h k = true≢false (sym h ∙ k)

pub within_first : (n k : ℕ) → is_within n (suc k) n ≡ true
within_first n k = ap₂ ◌&&◌ (le-leb n n (omega arith)) (lt-ltb n (n + suc k) (omega arith))

pub within_next : (n k x : ℕ) → is_within (suc n) k x ≡ true → is_within n (suc k) x ≡ true
within_next n k x h =
    let p = and_parts (nat_le (suc n) x) (nat_lt x (suc n + k)) h in
    let low = leb-true (suc n) x p.0 in
    let high = ltb-true x (suc n + k) p.1 in
    ap₂ ◌&&◌ (le-leb n x (omega arith)) (lt-ltb x (n + suc k) (omega arith))

-- none of the numbers from the next one on
outside_next : (n k x : ℕ) → is_within n (suc k) x ≡ false → is_within (suc n) k x ≡ false
outside_next n k x h = false_by (is_within (suc n) k x) (λ e. not_both (is_within n (suc k) x) (within_next n k x e) h)

outside_first : (n k x : ℕ) → is_within n (suc k) x ≡ false → (x == n) ≡ false
outside_first n k x h =
    false_by (x == n)
    (λ e. not_both (is_within n (suc k) x) (ap (is_within n (suc k)) (eqb-true x n e) ∙ within_first n k) h)

below_outside : (n k : ℕ) → is_within (suc n) k n ≡ false
below_outside n k =
    false_by (is_within (suc n) k n)
    (λ e. let low = leb-true (suc n) n (and_parts (nat_le (suc n) n) (nat_lt n (suc n + k)) e).0 in omega arith)

-- ---- exchanging

not_moved : (i n x : ℕ) → (x == i) ≡ false → (x == n) ≡ false → swapped i n x ≡ x
not_moved i n x h k = ap (λ t. cond t n (cond (x == n) i x)) h ∙ ap (λ t. cond t i x) k

stays : (is : List ℕ) (n x : ℕ) → among is x ≡ false → is_within n (length is) x ≡ false → exchanged is n x ≡ x
stays [] n x h k = refl
stays (i ∷ is) n x h k =
    let p = or_parts (x == i) (among is x) h in
    ap (exchanged is (suc n)) (not_moved i n x p.0 (outside_first n (length is) x k))
    ∙ stays is (suc n) x p.1 (outside_next n (length is) x k)

-- none of the ids is one of the new numbers
abbrev pub AreOutside : List ℕ → ℕ → Type 0
AreOutside is n = (x : ℕ) → among is x ≡ true → is_within n (length is) x ≡ false

pub fresh_is_exchanged : (is : List ℕ) (n x : ℕ) → AreOutside is n → is_within n (length is) x ≡ false
    → fresh_id is n x ≡ exchanged is n x
fresh_is_exchanged [] n x h k = refl
fresh_is_exchanged (i ∷ is) n x h k = go (x == i) refl (fresh_is_exchanged is (suc n) x below (outside_next n (length is) x k))
  where
    below : AreOutside is (suc n)
    below y e = outside_next n (length is) y (h y (or_right (y == i) (among is y) e))

    new : among is n ≡ false
    new =
        false_by (among is n)
        (λ e. not_both (is_within n (suc (length is)) n) (within_first n (length is)) (h n (or_right (n == i) (among is n) e)))

    go : (t : Bool) → (x == i) ≡ t → fresh_id is (suc n) x ≡ exchanged is (suc n) x
        → fresh_id (i ∷ is) n x ≡ exchanged (i ∷ is) n x
    go true e same =
        ap (λ t. cond t n (fresh_id is (n + 1) x)) e
        ∙ sym (stays is (suc n) n new (below_outside n (length is)))
        ∙ sym (ap (λ t. exchanged is (suc n) (cond t n (cond (x == n) i x))) e)
    go false e same =
        ap (λ t. cond t n (fresh_id is (n + 1) x)) e
        ∙ ap (λ m. fresh_id is m x) (add-one n)
        ∙ same
        ∙ sym (ap (exchanged is (suc n)) (not_moved i n x e (outside_first n (length is) x k)))

-- ---- what is free

pub are_free : (Free : ℕ → Type 0) (is : List ℕ) (n : ℕ) → ((x : ℕ) → among is x ≡ true → Free x)
    → ((x : ℕ) → is_within n (length is) x ≡ true → Free x) → AreFree Free is n
are_free Free [] n own given = tt
are_free Free (i ∷ is) n own given = (
  own i (or_left (i == i) (among is i) (eq-eqb i i refl)),
  given n (within_first n (length is)),
  are_free Free is (suc n) (λ x e. own x (or_right (x == i) (among is x) e)) (λ x e. given x (within_next n (length is) x e)),
)

-- ---- a block mentions its binders

module _ (hidden : ℕ → Bool) (x : ℕ) where
  same_hidden : (y : ℕ) → (x == y) ≡ true → hidden y ≡ false → hidden x ≡ false
  same_hidden y e h = ap hidden (eqb-true x y e) ∙ h

  mutual
    step_binder_seen : (a : Statement) → in_statement hidden a ≡ false → step_has_binder a x ≡ true → hidden x ≡ false
    step_binder_seen (Assign y is d) h k = absurd (true≢false (sym k))
    step_binder_seen (Reduce y is d) h k = absurd (true≢false (sym k))
    step_binder_seen (Config f a) h k = absurd (true≢false (sym k))
    step_binder_seen Pass h k = absurd (true≢false (sym k))
    step_binder_seen (If c a b) h k =
        let p = or_parts (in_condition hidden c) (in_block hidden a || in_block hidden b) h in
        let q = or_parts (in_block hidden a) (in_block hidden b) p.1 in
        or_elim (has_binder a x) (has_binder b x) k (binder_seen a q.0) (binder_seen b q.1)
    step_binder_seen (For i lo hi b) h k =
        let p = or_parts (hidden i.id) (in_control hidden lo || (in_control hidden hi || in_block hidden b)) h in
        let q = or_parts (in_control hidden lo) (in_control hidden hi || in_block hidden b) p.1 in
        let t = or_parts (in_control hidden hi) (in_block hidden b) q.1 in
        or_elim (x == i.id) (has_binder b x) k (λ e. same_hidden i.id e p.0) (binder_seen b t.1)
    step_binder_seen (Alloc y cell dims memory) h k =
        same_hidden y.id k (or_parts (hidden y.id) (in_controls hidden dims) h).0
    step_binder_seen (View w y cs) h k =
        same_hidden w.id k (or_parts (hidden w.id) (hidden y || in_coords hidden cs) h).0
    step_binder_seen (Call n args) h k = absurd (true≢false (sym k))

    pub binder_seen : (b : Block) → in_block hidden b ≡ false → has_binder b x ≡ true → hidden x ≡ false
    binder_seen end h k = absurd (true≢false (sym k))
    binder_seen (next a b) h k =
        let p = or_parts (in_statement hidden a) (in_block hidden b) h in
        or_elim (step_has_binder a x) (has_binder b x) k (step_binder_seen a p.0) (binder_seen b p.1)
