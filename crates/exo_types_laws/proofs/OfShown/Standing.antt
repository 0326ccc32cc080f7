-- Procedures as they stand below each other, and which parameters they write.
use Rattle.std.proofs.Common.{◌≡◌, ℕ, zero, suc, ◌<◌, ◌==◌, Bool, true, false, not, ◌&&◌, ◌||◌, List, [], ◌∷◌, ◌++◌, length, Option, Some, None, slice_get, refl, sym, ap, ap₂, ◌∙◌, true≢false, eqb-true, eq-eqb, arith, subst, inl, inr, ⊎_elim, ◌⊎◌}
use Rattle.exo_tree.specs.Tree.{Kind, Index, Argument, Statement, Assign, Reduce, Config, Pass, If, For, Alloc, View, Call, Block, end, next, Procedure}
use Rattle.exo_meaning.specs.Calls.{Callee}
use Rattle.exo_meaning.specs.Run.{World, world_of, callee_in, roots_after, writes, step_writes, call_writes, call_to_writes}
use Rattle.exo_meaning.specs.Units.{Scope, ControlName, with_name, scope_after, is_call, is_statement, is_block, is_condition, is_control, is_new, is_empty, is_short, with_fields, plainly}
use Rattle.exo_types_laws.specs.Shown.Again.{calls, is_call_of}
use Rattle.exo_types_laws.proofs.OfShown.Scoped.{both}

-- ---- lists

pub get_left : {A : Type 0} (xs ys : List A) (j : ℕ) (x : A) → slice_get xs j ≡ Some x → slice_get (xs ++ ys) j ≡ Some x
get_left [] ys j x h = absurd (none_some h)
  where
    none_some : {A : Type 0} {x : A} → None ≡ Some x → ⊥
    none_some h = cc
get_left (y ∷ xs) ys zero x h = h
get_left (y ∷ xs) ys (suc j) x h = get_left xs ys j x h

-- the element is one of the first list, or the last one
pub get_either : {A : Type 0} (xs : List A) (y : A) (j : ℕ) (x : A) → slice_get (xs ++ y ∷ []) j ≡ Some x → ((slice_get xs j ≡ Some x) ⊎ ((j ≡ length xs) × (y ≡ x)))
get_either [] y zero x h = let same : y ≡ x = cc in inr (refl, same)
get_either [] y (suc j) x h = absurd (none_some h)
  where
    none_some : {A : Type 0} {x : A} → None ≡ Some x → ⊥
    none_some h = cc
get_either (z ∷ xs) y zero x h = inl h
get_either (z ∷ xs) y (suc j) x h = ⊎_elim (λ p. inl p) (λ q. inr (ap suc q.0, q.1)) (get_either xs y j x h)

pub get_last : {A : Type 0} (xs : List A) (y : A) → slice_get (xs ++ y ∷ []) (length xs) ≡ Some y
get_last [] y = refl
get_last (x ∷ xs) y = get_last xs y

pub got_below : {A : Type 0} (xs : List A) (j : ℕ) (x : A) → slice_get xs j ≡ Some x → j < length xs
got_below [] j x h = absurd (none_some h)
  where
    none_some : {A : Type 0} {x : A} → None ≡ Some x → ⊥
    none_some h = cc
got_below (y ∷ xs) zero x h = omega arith
got_below (y ∷ xs) (suc j) x h = let l = got_below xs j x h in omega (arith, l)

pub there : {A : Type 0} (xs : List A) (j : ℕ) → j < length xs → (x : A) × (slice_get xs j ≡ Some x)
there [] j l = absurd (omega arith)
there (x ∷ xs) zero l = (x, refl)
there (x ∷ xs) (suc j) l = there xs j (omega arith)

-- ---- callees

-- the procedure of a number, as a callee that stands on those of lower numbers
pub record Stands (P : List Callee → Procedure → Type 0) (callees : List Callee) (j : ℕ) (q : Procedure) : Type 0 where
  pub kinds : ℕ → Kind
  pub before : List Callee
  pub here : slice_get callees j ≡ Some (callee_in (world_of kinds before) q)
  pub below : (i : ℕ) → i < j → slice_get before i ≡ slice_get callees i
  pub short : length before ≡ j
  pub holds : P before q

pub record AllStand (P : List Callee → Procedure → Type 0) (callees : List Callee) (ps : List Procedure) : Type 0 where
  pub many : length callees ≡ length ps
  pub each : (j : ℕ) (q : Procedure) → slice_get ps j ≡ Some q → Stands P callees j q

pub no_procedures : (P : List Callee → Procedure → Type 0) → AllStand P [] []
no_procedures P = record { many = refl; each = λ j q h. absurd (none_some h) }
  where
    none_some : {A : Type 0} {x : A} → None ≡ Some x → ⊥
    none_some h = cc

length-more : {A : Type 0} (xs : List A) (x : A) → length (xs ++ x ∷ []) ≡ suc (length xs)
length-more [] x = refl
length-more (y ∷ xs) x = ap suc (length-more xs x)

-- below the length, a longer list has the same
same_below : {A : Type 0} (xs : List A) (x : A) (i : ℕ) → i < length xs → slice_get xs i ≡ slice_get (xs ++ x ∷ []) i
same_below xs x i l = let t = there xs i l in t.1 ∙ sym (get_left xs (x ∷ []) i t.0 t.1)

stands_more : (P : List Callee → Procedure → Type 0) (callees : List Callee) (c : Callee) (j : ℕ) (q : Procedure) → j < length callees → Stands P callees j q → Stands P (callees ++ c ∷ []) j q
stands_more P callees c j q l s = record {
  kinds = s.kinds;
  before = s.before;
  here = get_left callees (c ∷ []) j _ s.here;
  below = λ i m. s.below i m ∙ same_below callees c i (omega (arith, l, m));
  short = s.short;
  holds = s.holds;
}

pub one_more : (P : List Callee → Procedure → Type 0) (callees : List Callee) (ps : List Procedure) (kinds : ℕ → Kind) (p : Procedure) → AllStand P callees ps → P callees p → AllStand P (callees ++ callee_in (world_of kinds callees) p ∷ []) (ps ++ p ∷ [])
one_more P callees ps kinds p all own = record {
  many = length-more callees c ∙ ap suc all.many ∙ sym (length-more ps p);
  each = λ j q h. ⊎_elim (old j q) (new j q) (get_either ps p j q h);
}
  where
    c : Callee
    c = callee_in (world_of kinds callees) p

    old : (j : ℕ) (q : Procedure) → slice_get ps j ≡ Some q → Stands P (callees ++ c ∷ []) j q
    old j q h = stands_more P callees c j q (let l = got_below ps j q h in omega (arith, l, all.many)) (all.each j q h)

    new : (j : ℕ) (q : Procedure) → (j ≡ length ps) × (p ≡ q) → Stands P (callees ++ c ∷ []) j q
    new j q h =
        let place : j ≡ length callees = h.0 ∙ sym all.many in
        record {
          kinds = kinds;
          before = callees;
          here = ap (slice_get (callees ++ c ∷ [])) place ∙ get_last callees c ∙ ap (λ z. Some (callee_in (world_of kinds callees) z)) h.1;
          below = λ i l. same_below callees c i (omega (arith, l, place));
          short = sym place;
          holds = subst (P callees) h.1 own;
        }

-- ---- the same parameters and writes

abbrev pub Same : Option Callee → Option Callee → Type 0
Same None None = Unit {0}
Same None (Some b) = ⊥
Same (Some a) None = ⊥
Same (Some a) (Some b) = (a.procedure ≡ b.procedure) × (a.writes ≡ b.writes)

same_call : (a b : Option Callee) → Same a b → (root : ℕ → ℕ) (y : ℕ) (args : List Argument) → call_to_writes a root y args ≡ call_to_writes b root y args
same_call None None h root y args = refl
same_call None (Some b) h root y args = absurd h
same_call (Some a) None h root y args = absurd h
same_call (Some a) (Some b) h root y args = ap₂ (λ ws q. call_writes ws root y q.params args) h.1 h.0

or_left : (a b : Bool) → a ≡ true → (a || b) ≡ true
or_left a b h = ap (λ t. t || b) h

or_right : (a b : Bool) → b ≡ true → (a || b) ≡ true
or_right true b h = refl
or_right false b h = h

abbrev MeetOn : World → World → Block → Type 0
MeetOn one other b = (i : ℕ) → calls i b ≡ true → Same (one.callees i) (other.callees i)

abbrev MeetAt : World → World → Statement → Type 0
MeetAt one other a = (i : ℕ) → is_call_of i a ≡ true → Same (one.callees i) (other.callees i)

mutual
  pub same_writes : (one other : World) (b : Block) → MeetOn one other b → (root : ℕ → ℕ) (y : ℕ) → writes one root b y ≡ writes other root b y
  same_writes one other end meet root y = refl
  same_writes one other (next a b) meet root y = ap₂ ◌||◌ (same_step one other a (λ i h. meet i (or_left (is_call_of i a) (calls i b) h)) root y) (same_writes one other b (λ i h. meet i (or_right (is_call_of i a) (calls i b) h)) (roots_after a root) y)

  same_step : (one other : World) (a : Statement) → MeetAt one other a → (root : ℕ → ℕ) (y : ℕ) → step_writes one root a y ≡ step_writes other root a y
  same_step one other (Assign x is e) meet root y = refl
  same_step one other (Reduce x is e) meet root y = refl
  same_step one other (Config f a) meet root y = refl
  same_step one other Pass meet root y = refl
  same_step one other (If c a b) meet root y = ap₂ ◌||◌ (same_writes one other a (λ i h. meet i (or_left (calls i a) (calls i b) h)) root y) (same_writes one other b (λ i h. meet i (or_right (calls i a) (calls i b) h)) root y)
  same_step one other (For i lo hi b) meet root y = same_writes one other b meet root y
  same_step one other (Alloc x cell dims memory) meet root y = refl
  same_step one other (View v x cs) meet root y = refl
  same_step one other (Call k args) meet root y = same_call (one.callees k) (other.callees k) (meet k (eq-eqb k k refl)) root y args

-- ---- what a well formed block calls is there

module _ (kinds : ℕ → Option Kind) (count : ℕ) (callees : ℕ → Option Callee) where
  abbrev IsThere : ℕ → Type 0
  IsThere i = (c : Callee) × (callees i ≡ Some c)

  split : (a b : Bool) (A : Type 0) → (a || b) ≡ true → (a ≡ true → A) → (b ≡ true → A) → A
  split true b A h f g = f refl
  split false b A h f g = g h

  call_there : (scope : Scope) (root : ℕ → ℕ) (k : ℕ) (args : List Argument) (i : ℕ) → is_call kinds scope root (callees k) args ≡ true → (i == k) ≡ true → IsThere i
  call_there scope root k args i h e = by (callees k) refl h
    where
      same : i ≡ k
      same = eqb-true i k e

      by : (o : Option Callee) → callees k ≡ o → is_call kinds scope root o args ≡ true → IsThere i
      by None p t = absurd (true≢false (sym t))
      by (Some c) p t = (c, ap callees same ∙ p)

  mutual
    pub calls_there : (b : Block) (scope : Scope) (root : ℕ → ℕ) (i : ℕ) → is_block kinds count callees scope root b ≡ true → calls i b ≡ true → IsThere i
    calls_there end scope root i h called = absurd (true≢false (sym called))
    calls_there (next a b) scope root i h called =
        let s = both (is_statement kinds count callees scope root a) _ h in
        split (is_call_of i a) (calls i b) (IsThere i) called (λ t. step_there a scope root i s.0 t) (λ t. calls_there b (scope_after a scope) (roots_after a root) i s.1 t)

    step_there : (a : Statement) (scope : Scope) (root : ℕ → ℕ) (i : ℕ) → is_statement kinds count callees scope root a ≡ true → is_call_of i a ≡ true → IsThere i
    step_there (Assign x is e) scope root i h called = absurd (true≢false (sym called))
    step_there (Reduce x is e) scope root i h called = absurd (true≢false (sym called))
    step_there (Config f a) scope root i h called = absurd (true≢false (sym called))
    step_there Pass scope root i h called = absurd (true≢false (sym called))
    step_there (If c a b) scope root i h called =
        let s = both (is_condition kinds with_fields scope c) _ h in
        let t = both (not (is_empty a) && (is_short a && is_short b)) _ s.1 in
        let u = both (is_block kinds count callees scope root a) _ t.1 in
        split (calls i a) (calls i b) (IsThere i) called (λ q. calls_there a scope root i u.0 q) (λ q. calls_there b scope root i u.1 q)
    step_there (For v lo hi b) scope root i h called =
        let s = both (is_new scope v) _ h in
        let t = both (is_control kinds plainly scope lo && is_control kinds plainly scope hi) _ s.1 in
        let u = both (not (is_empty b) && is_short b) _ t.1 in
        calls_there b (with_name scope v (ControlName Index)) root i u.1 called
    step_there (Alloc x cell dims memory) scope root i h called = absurd (true≢false (sym called))
    step_there (View v x cs) scope root i h called = absurd (true≢false (sym called))
    step_there (Call k args) scope root i h called = call_there scope root k args i h called
