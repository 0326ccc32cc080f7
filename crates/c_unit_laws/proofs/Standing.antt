-- Where each procedure of a unit stands.
use Rattle.std.proofs.Common.{◌≡◌, ◌<◌, ◌≤◌, ◌+◌, ℕ, zero, suc, nat_lt, Bool, true, false, ◌&&◌, ◌||◌, List, [], ◌∷◌, ◌++◌, length, take, Some, None, refl, sym, ap, ◌∙◌, subst, arith, true≢false, eqb-true}
use Rattle.std.specs.Prelude.{slice_get}
use Rattle.std.proofs.lemmas.Bool.{and_parts}
use Rattle.exo_tree.specs.Tree.{Kind, Statement, Assign, Reduce, Config, Pass, If, For, Alloc, View, Call, Block, end, next, Procedure, ConfigField}
use Rattle.exo_tree.specs.Calls.{calls, is_call_of}
use Rattle.exo_meaning.specs.Calls.{Callee}
use Rattle.exo_meaning.specs.Run.{world_of, callee_in, callees, unit_world, kinds_of}
use Rattle.exo_meaning.specs.Units.{field_kind, IsProcedure, AreProcedures}
use Rattle.meaning_laws.specs.Grown.{calls_below, step_calls_below}
use Rattle.meaning_laws.proofs.WellFormed.{calls_are_below}

pub none_some : {A : Type 0} {a : A} → None ≡ Some a → ⊥
none_some e = cc

pub some_same : {A : Type 0} {a b : A} → Some a ≡ Some b → a ≡ b
some_same e = cc

-- ---- tables

pub one_longer : {B : Type 0} (above : List B) (b : B) → length (above ++ b ∷ []) ≡ suc (length above)
one_longer [] b = refl
one_longer (a ∷ above) b = ap suc (one_longer above b)

get_last : {B : Type 0} (above : List B) (b : B) → slice_get (above ++ b ∷ []) (length above) ≡ Some b
get_last [] b = refl
get_last (a ∷ above) b = get_last above b

get_early : {B : Type 0} (above : List B) (b c : B) (k : ℕ) → slice_get above k ≡ Some b → slice_get (above ++ c ∷ []) k ≡ Some b
get_early [] b c zero e = absurd (none_some e)
get_early [] b c (suc k) e = absurd (none_some e)
get_early (a ∷ above) b c zero e = e
get_early (a ∷ above) b c (suc k) e = get_early above b c k e

pub get_taken : {B : Type 0} (t : List B) (n k : ℕ) → k < n → slice_get (take n t) k ≡ slice_get t k
get_taken [] zero k h = absurd (omega (arith, h))
get_taken [] (suc n) k h = refl
get_taken (b ∷ t) zero k h = absurd (omega (arith, h))
get_taken (b ∷ t) (suc n) zero h = refl
get_taken (b ∷ t) (suc n) (suc k) h = get_taken t n k (omega (arith, h))

pub take_shorter : {B : Type 0} (t : List B) (n k : ℕ) → k < n → take k (take n t) ≡ take k t
take_shorter t zero k h = absurd (omega (arith, h))
take_shorter t (suc n) zero h = refl
take_shorter [] (suc n) (suc k) h = refl
take_shorter (b ∷ t) (suc n) (suc k) h = ap (λ r. b ∷ r) (take_shorter t n k (omega (arith, h)))

-- ---- callees

module _ (kinds : ℕ → Kind) where
  stays : (ps : List Procedure) (above : List Callee) (k : ℕ) (c : Callee) → slice_get above k ≡ Some c → slice_get (callees kinds above ps) k ≡ Some c
  stays [] above k c e = e
  stays (p ∷ ps) above k c e =
      let own = callee_in (world_of kinds above) p in
      stays ps (above ++ own ∷ []) k c (get_early above c own k e)

  entry : (ps : List Procedure) (above : List Callee) (j : ℕ) (q : Procedure) → slice_get ps j ≡ Some q → slice_get (callees kinds above ps) (length above + j) ≡ Some (callee_in (world_of kinds (callees kinds above (take j ps))) q)
  entry [] above zero q e = absurd (none_some e)
  entry [] above (suc j) q e = absurd (none_some e)
  entry (p ∷ ps) above zero q e =
      let own = callee_in (world_of kinds above) p in
      let here : length above + zero ≡ length above = omega arith in
      ap (slice_get (callees kinds (above ++ own ∷ []) ps)) here
      ∙ (stays ps (above ++ own ∷ []) (length above) own (get_last above own)
      ∙ ap (λ z. Some (callee_in (world_of kinds above) z)) (some_same e))
  entry (p ∷ ps) above (suc j) q e =
      let own = callee_in (world_of kinds above) p in
      let there : length above + suc j ≡ length (above ++ own ∷ []) + j = omega (arith, one_longer above own) in
      ap (slice_get (callees kinds (above ++ own ∷ []) ps)) there ∙ entry ps (above ++ own ∷ []) j q e

  -- the callee of that number is its procedure, by those above it
  pub callee_at : (ps : List Procedure) (j : ℕ) (q : Procedure) → slice_get ps j ≡ Some q → (unit_world kinds ps).callees j ≡ Some (callee_in (unit_world kinds (take j ps)) q)
  callee_at ps j q e =
      let here : zero + j ≡ j = omega arith in
      subst (λ n. slice_get (callees kinds [] ps) n ≡ Some (callee_in (unit_world kinds (take j ps)) q)) here (entry ps [] j q e)

  -- so it is among those above a later one
  pub callee_above : (ps : List Procedure) (k j : ℕ) (q : Procedure) → j < k → slice_get ps j ≡ Some q → (unit_world kinds (take k ps)).callees j ≡ Some (callee_in (unit_world kinds (take j ps)) q)
  callee_above ps k j q h e = callee_at (take k ps) j q (get_taken ps k j h ∙ e) ∙ ap (λ l. Some (callee_in (unit_world kinds l) q)) (take_shorter ps k j h)

  pub table_count : (ps : List Procedure) (above : List Callee) → length (callees kinds above ps) ≡ length above + length ps
  table_count [] above = omega arith
  table_count (p ∷ ps) above =
      let own = callee_in (world_of kinds above) p in
      let r = table_count ps (above ++ own ∷ []) in
      let s = one_longer above own in
      r ∙ omega (arith, s)

  -- there is no other
  there : {A B : Type 0} (xs : List A) (ys : List B) (k : ℕ) (b : B) → length ys ≡ length xs → slice_get ys k ≡ Some b → (a : A) × (slice_get xs k ≡ Some a)
  there xs [] zero b e h = absurd (none_some h)
  there xs [] (suc k) b e h = absurd (none_some h)
  there [] (y ∷ ys) k b e h = absurd (omega (arith, e))
  there (x ∷ xs) (y ∷ ys) zero b e h = (x, refl)
  there (x ∷ xs) (y ∷ ys) (suc k) b e h = there xs ys k b (omega (arith, e)) h

  get_below : {A : Type 0} (xs : List A) (n k : ℕ) (a : A) → slice_get (take n xs) k ≡ Some a → (k < n) × (slice_get xs k ≡ Some a)
  get_below xs zero zero a h = absurd (none_some h)
  get_below xs zero (suc k) a h = absurd (none_some h)
  get_below [] (suc n) zero a h = absurd (none_some h)
  get_below [] (suc n) (suc k) a h = absurd (none_some h)
  get_below (x ∷ xs) (suc n) zero a h = (omega arith, h)
  get_below (x ∷ xs) (suc n) (suc k) a h = let r = get_below xs n k a h in (omega (arith, r.0), r.1)

  -- each callee above a procedure is one of the unit
  pub record Stood (ps : List Procedure) (k j : ℕ) (c : Callee) : Type 0 where
    pub procedure : Procedure
    pub before : j < k
    pub at : slice_get ps j ≡ Some procedure
    pub same : callee_in (unit_world kinds (take j ps)) procedure ≡ c

  pub stood : (ps : List Procedure) (k j : ℕ) (c : Callee) → (unit_world kinds (take k ps)).callees j ≡ Some c → Stood ps k j c
  stood ps k j c h =
      let q = there (take k ps) (callees kinds [] (take k ps)) j c (table_count (take k ps) [] ∙ omega arith) h in
      let r = get_below ps k j q.0 q.1 in
      record { procedure = q.0; before = r.0; at = r.1; same = some_same (sym (callee_above ps k j q.0 r.0 r.1) ∙ h) }

-- ---- rules

module _ (fields : List ConfigField) (memories : ℕ) where
  formed : (ps : List Procedure) (above : List Callee) (k : ℕ) (p : Procedure) → AreProcedures fields memories above ps → slice_get ps k ≡ Some p → IsProcedure (field_kind fields) memories (slice_get (callees (kinds_of fields) above (take k ps))) p
  formed [] above zero p h e = absurd (none_some e)
  formed [] above (suc k) p h e = absurd (none_some e)
  formed (q ∷ ps) above zero p h e = subst (λ z. IsProcedure (field_kind fields) memories (slice_get above) z) (some_same e) h.0
  formed (q ∷ ps) above (suc k) p h e = formed ps (above ++ callee_in (world_of (kinds_of fields) above) q ∷ []) k p h.1 e

  -- each procedure keeps the rules among those above it
  pub formed_at : (ps : List Procedure) (k : ℕ) (p : Procedure) → AreProcedures fields memories [] ps → slice_get ps k ≡ Some p → IsProcedure (field_kind fields) memories (unit_world (kinds_of fields) (take k ps)).callees p
  formed_at ps k p h e = formed ps [] k p h e

-- ---- what is called stands before

below_either : (n k : ℕ) (a b c d : Bool) → (a || b) ≡ true → (c && d) ≡ true → (a ≡ true → c ≡ true → nat_lt k n ≡ true) → (b ≡ true → d ≡ true → nat_lt k n ≡ true) → nat_lt k n ≡ true
below_either n k true b c d h j f g = f refl (and_parts c d j).0
below_either n k false b c d h j f g = g h (and_parts c d j).1

module _ (n k : ℕ) where
  mutual
    called_below : (b : Block) → calls k b ≡ true → calls_below n b ≡ true → nat_lt k n ≡ true
    called_below end h j = absurd (true≢false (sym h))
    called_below (next a b) h j = below_either n k (is_call_of k a) (calls k b) (step_calls_below n a) (calls_below n b) h j (step_called_below a) (called_below b)

    step_called_below : (a : Statement) → is_call_of k a ≡ true → step_calls_below n a ≡ true → nat_lt k n ≡ true
    step_called_below (Assign x is e) h j = absurd (true≢false (sym h))
    step_called_below (Reduce x is e) h j = absurd (true≢false (sym h))
    step_called_below (Config f a) h j = absurd (true≢false (sym h))
    step_called_below Pass h j = absurd (true≢false (sym h))
    step_called_below (If c a b) h j = below_either n k (calls k a) (calls k b) (calls_below n a) (calls_below n b) h j (called_below a) (called_below b)
    step_called_below (For i lo hi b) h j = called_below b h j
    step_called_below (Alloc x cell dims memory) h j = absurd (true≢false (sym h))
    step_called_below (View w x coords) h j = absurd (true≢false (sym h))
    step_called_below (Call i args) h j = subst (λ m. nat_lt m n ≡ true) (sym (eqb-true k i h)) j

take_count : {A : Type 0} (n : ℕ) (xs : List A) → length (take n xs) ≤ n
take_count zero xs = omega arith
take_count (suc n) [] = omega arith
take_count (suc n) (x ∷ xs) = let r = take_count n xs in omega (arith, r)

-- a procedure calls those before it alone
pub calls_before : (fields : List ConfigField) (memories : ℕ) (ps : List Procedure) (k j : ℕ) (p : Procedure) → AreProcedures fields memories [] ps → slice_get ps k ≡ Some p → calls j p.body ≡ true → j < k
calls_before fields memories ps k j p h e u =
    let kinds = kinds_of fields in
    let table = callees kinds [] (take k ps) in
    let b = called_below (length table) j p.body u (calls_are_below (field_kind fields) memories table p (formed_at fields memories ps k p h e)) in
    let n = table_count kinds (take k ps) [] in
    let m = take_count k ps in
    below (length table) k j b (omega (arith, n, m))
  where
    below : (a b c : ℕ) → nat_lt c a ≡ true → a ≤ b → c < b
    below a b c i l = grind arith
