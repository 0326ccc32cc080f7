-- Answers of the calls on pairs, step by step.
use Rattle.std.proofs.Common.{◌≡◌, ◌≤◌, ◌+◌, ◌-◌, ◌^◌, ℕ, max, nat_le, Bool, true, false, ◌&&◌, if◌then◌else◌, List, [], ◌∷◌, ◌++◌, map, length, Option, Some, None, Result, Ok, Err, Vec, refl, sym, ap, ap₂, subst, ◌∙◌, arith}
use Rattle.std.proofs.lemmas.List.{append_assoc}
use Rattle.std.specs.List.{list_all}
use Rattle.std.specs.Result.{IsErrAnd}
use Rattle.exo_tree.specs.Places.{Path}
use Rattle.affine_forms.specs.Affine.{Constraints}
use Rattle.affine_forms.specs.Formulas.{Constraint, Formula, cases_of_all}
use Rattle.affine_forms.specs.Outcomes.{IsWide}
use Rattle.affine_forms.specs.declared.error.FormError.{FormError}
use Rattle.affine_forms.specs.declared.error.FormError.TheVariants.{TooManyCases, SystemTooLarge, WideNumber, TooManySystems, Memory}
use Rattle.affine_systems.specs.Limits.{Appended}
use Rattle.affine_systems.specs.Outcomes.{Owed, owed, plain_obligation, AreOwed, IsAnswer}
use Rattle.affine_systems.specs.Systems.{Stated, CasesPassed, SizePassed, Listed, is_small, systems_of, cases_stated}
use Rattle.affine_systems.specs.declared.obligation.Obligation.{Obligation}
use Rattle.exo_effects.specs.Accesses.{Access}
use Rattle.exo_effects.specs.Conflicts.{may_clash, meeting, against, Fault, WideForm, ManyCases, LargeSystem, ManySystems, Listing, Refuses}
use Rattle.exo_effects.specs.Conflicts.{owed_for, stated_fault, pair_fits, pair_fault, owed_behind, conflicts_of, clashing, past_these}
use Rattle.exo_effects.specs.Fresh.{past_formula, past_all, past_access, past_order, past_turn}
use Rattle.exo_effects.specs.Low.{fact_is_low, use_is_low}
use Rattle.exo_effects.specs.PlainUses.{plain_use, plain_uses}
use Rattle.exo_effects.specs.Limits.{are_within, unless_refused}
use Rattle.exo_effects.specs.declared.access.Access as declared
use Rattle.effect_conflicts.specs.declared.order.Order as own
use Rattle.exo_effects.specs.Orders.{Order}
use Rattle.exo_effects.specs.PlainGuards.{facts_of, all_facts}
use Rattle.exo_effects.specs.declared.guards.Guard.{Guard}
use Rattle.effect_conflicts.specs.Outcomes.{access_is_low, order_is_low, clashing_with, MadeAnew}
use Rattle.effect_conflicts.specs.Outcomes.{Answered, AnswersPair, IsFault, Owes, IsListed}
use Rattle.effect_conflicts.specs.PlainCopies.{guard_is_low, turn_is_low, plain_turn, plain_order}
use Rattle.effect_conflicts.proofs.Listings.{behind_up, all_clashing, turns_past}
use Rattle.effect_conflicts.proofs.PastForms.{both_true, max_within}

-- ---- what is low

all_parts : {X : Type 0} (p : X → Bool) (xs ys : List X) → list_all p (xs ++ ys) ≡ true → (list_all p xs ≡ true) × (list_all p ys ≡ true)
all_parts p [] ys h = (refl, h)
all_parts p (x ∷ xs) ys h =
    let a = both_true (p x) (list_all p (xs ++ ys)) h in
    let b = all_parts p xs ys a.1 in
    (ap₂ (λ s t. s && t) a.0 b.0, b.1)

pub guards_low : (gs : List Guard) → list_all fact_is_low (all_facts gs) ≡ true → list_all guard_is_low gs ≡ true
guards_low [] h = refl
guards_low (g ∷ gs) h =
    let a = all_parts fact_is_low (facts_of g) (all_facts gs) h in
    ap₂ (λ s t. s && t) a.0 (guards_low gs a.1)

pub low_uses : (xs : List declared.Access) → list_all access_is_low xs ≡ true → list_all use_is_low (plain_uses xs) ≡ true
low_uses [] h = refl
low_uses (x ∷ xs) h =
    let p = both_true (access_is_low x) (list_all access_is_low xs) h in
    let q = both_true (use_is_low (plain_use x)) (nat_le (length x.guards.items) (2 ^ 20) && nat_le (length x.coords) (2 ^ 20)) p.0 in
    ap₂ (λ s t. s && t) q.0 (low_uses xs p.1)

pub low_order : (o : own.Order) → order_is_low o ≡ true → past_order (plain_order o) ≤ 2 ^ 31
low_order o h =
    let p = both_true (list_all turn_is_low o.first.now && nat_le (length o.first.now) (2 ^ 20)) (list_all turn_is_low o.second.now && nat_le (length o.second.now) (2 ^ 20)) h in
    let q = both_true (list_all turn_is_low o.first.now) (nat_le (length o.first.now) (2 ^ 20)) p.0 in
    let r = both_true (list_all turn_is_low o.second.now) (nat_le (length o.second.now) (2 ^ 20)) p.1 in
    max_within (past_all past_turn (map plain_turn o.first.now)) (past_all past_turn (map plain_turn o.second.now)) (2 ^ 31) (turns_past o.first.now q.0) (turns_past o.second.now r.0)

-- ---- one pair

-- a form of a part is too wide
pub not_made : (r : Result (List Formula) FormError) (e : FormError) (part all : Bool) (fs : List Formula) → IsErrAnd r (λ x. x ≡ e) → IsWide e part → (part ≡ false → all ≡ false) → MadeAnew r all fs
not_made (Ok t) e part all fs is h k = absurd is
not_made (Err f) e part all fs is h k = subst (λ y. IsWide y all) (sym is) (by e h)
  where
    by : (y : FormError) → IsWide y part → IsWide y all
    by TooManyCases w = absurd w
    by SystemTooLarge w = absurd w
    by WideNumber w = k w
    by TooManySystems w = absurd w
    by Memory w = tt

-- what a pair answers that comes to no end
module _ {A : Type 0} (all : Bool) (s : Stated) (what : List ℕ) (place : Path) where
  abbrev Answers : Result (Vec Obligation A) FormError → Type 0
  Answers r = Answered r all s what place

  left_by : (r : Result (Vec Obligation A) FormError) (e : FormError) → IsErrAnd r (λ x. x ≡ e) → Answers (Err e) → Answers r
  left_by (Ok t) e is h = absurd is
  left_by (Err f) e is h = subst (λ y. Answers (Err y)) (sym is) h

  -- some form is too wide
  pub left_wide : (r : Result (Vec Obligation A) FormError) (e : FormError) → IsErrAnd r (λ x. x ≡ e) → IsWide e all → Answers r
  left_wide r e is h = left_by r e is (by e h)
    where
      by : (y : FormError) → IsWide y all → Answers (Err y)
      by TooManyCases w = absurd w
      by SystemTooLarge w = absurd w
      by WideNumber w = w
      by TooManySystems w = absurd w
      by Memory w = tt

  -- all forms can be written down
  pub all_made : (r : Result (Vec Obligation A) FormError) → all ≡ true → IsAnswer r s what place → Answers r
  all_made (Ok os) fits h = (fits, h)
  all_made (Err TooManyCases) fits h = (fits, h)
  all_made (Err SystemTooLarge) fits h = (fits, h)
  all_made (Err WideNumber) fits h = absurd h
  all_made (Err TooManySystems) fits h = absurd h
  all_made (Err Memory) fits h = tt

pub wide_context : (a b : Bool) → a ≡ false → (a && b) ≡ false
wide_context a b h = ap (λ t. t && b) h

pub wide_meeting : (a b : Bool) → a ≡ true → b ≡ false → (a && b) ≡ false
wide_meeting a b h k = ap₂ (λ s t. s && t) h k

pub both_fit : (a b : Bool) → a ≡ true → b ≡ true → (a && b) ≡ true
both_fit a b h k = ap₂ (λ s t. s && t) h k

module _ (fits : Bool) (ctx : List Formula) (order : Order) (place : Path) where
  abbrev behind : List Owed → List (Access × Access) → Listing
  behind os ps = owed_behind fits ctx order place (2 ^ 31) os ps

  module _ (p : Access × Access) where
    abbrev told : Stated
    told = cases_stated (meeting ctx order (2 ^ 31) p.0 p.1)

    abbrev owes : List Owed
    owes = owed_for ctx order place (2 ^ 31) p

    abbrev fault_where : Bool → Stated → Option Fault
    fault_where b s = if b then stated_fault s else Some WideForm

    abbrev AreAll : Stated → List Obligation → Type 0
    AreAll s os = AreOwed os s (against p) place

    -- these are all its systems
    systems_owed : (os : List Obligation) → AreAll told os → (stated_fault told ≡ None) × (map plain_obligation os ≡ owes)
    systems_owed os = by (nat_le (length css) 64) (list_all is_small ss)
      where
        css : List (List Constraint)
        css = cases_of_all (meeting ctx order (2 ^ 31) p.0 p.1)

        ss : List Constraints
        ss = systems_of (meeting ctx order (2 ^ 31) p.0 p.1)

        by : (few small : Bool) → AreAll (if few then (if small then Listed ss else SizePassed) else CasesPassed) os
            → (stated_fault (if few then (if small then Listed ss else SizePassed) else CasesPassed) ≡ None) × (map plain_obligation os ≡ map (owed (against p) place) ss)
        by true true h = (refl, h)
        by true false h = absurd h
        by false small h = absurd h

    pub pair_owed : (os : List Obligation) → (pair_fits fits order p ≡ true) × AreAll told os → (pair_fault fits ctx order place (2 ^ 31) p ≡ None) × (map plain_obligation os ≡ owes)
    pair_owed os h =
        let all = systems_owed os h.1 in
        (ap (λ b. fault_where b told) h.0 ∙ all.0, all.1)

    refused_for : (old : List Owed) (rest : List (Access × Access)) (f : Fault) → pair_fault fits ctx order place (2 ^ 31) p ≡ Some f → behind old (p ∷ rest) ≡ Refuses f
    refused_for old rest f h = ap (λ o. unless_refused Refuses ManySystems o (are_within (old ++ owes)) (behind (old ++ owes) rest)) h

    -- it is refused
    pub pair_refused : (e : FormError) → AnswersPair fits ctx order place {A = Unit {0}} (Err e) p → (old : List Owed) (rest : List (Access × Access)) → IsFault e (behind old (p ∷ rest))
    pair_refused TooManyCases h old rest = refused_for old rest ManyCases (ap₂ fault_where h.0 h.1)
    pair_refused SystemTooLarge h old rest = refused_for old rest LargeSystem (ap₂ fault_where h.0 h.1)
    pair_refused WideNumber h old rest = refused_for old rest WideForm (ap (λ b. fault_where b told) h)
    pair_refused TooManySystems h old rest = absurd h
    pair_refused Memory h old rest = tt

    -- what it owes comes last, or is too much
    pub pair_put : {A : Type 0} (r : Result A FormError) (old os new : List Owed) → (pair_fault fits ctx order place (2 ^ 31) p ≡ None) × (os ≡ owes) → Appended r old os new → Owes fits ctx order place r (p ∷ []) old new
    pair_put {A} r old os new h = by r
      where
        goes_on : (b : Bool) → are_within (old ++ os) ≡ b → (rest : List (Access × Access)) → behind old (p ∷ rest) ≡ unless_refused Refuses ManySystems None b (behind (old ++ os) rest)
        goes_on b w rest =
            ap (λ o. unless_refused Refuses ManySystems o (are_within (old ++ owes)) (behind (old ++ owes) rest)) h.0
            ∙ ap (λ ws. unless_refused Refuses ManySystems None (are_within (old ++ ws)) (behind (old ++ ws) rest)) (sym h.1)
            ∙ ap (λ t. unless_refused Refuses ManySystems None t (behind (old ++ os) rest)) w

        by : (r : Result A FormError) → Appended r old os new → Owes fits ctx order place r (p ∷ []) old new
        by (Ok t) w = λ rest. goes_on true w.0 rest ∙ ap (λ z. behind z rest) (sym w.1)
        by (Err TooManyCases) w = absurd w
        by (Err SystemTooLarge) w = absurd w
        by (Err WideNumber) w = absurd w
        by (Err TooManySystems) w = λ rest. goes_on false w rest
        by (Err Memory) w = λ rest. tt

  -- ---- one pair after the other

  abbrev GoesOn : List Owed → List (Access × Access) → List Owed → List (Access × Access) → Type 0
  GoesOn old all new left = (rest : List (Access × Access)) → behind old (all ++ rest) ≡ behind new (left ++ rest)

  split : (old out : List Owed) (all left pairs more : List (Access × Access)) → GoesOn old all out left → left ≡ pairs ++ more → (rest : List (Access × Access)) → behind old (all ++ rest) ≡ behind out (pairs ++ (more ++ rest))
  split old out all left pairs more h e rest = h rest ∙ ap (λ ps. behind out (ps ++ rest)) e ∙ ap (behind out) (append_assoc pairs more rest)

  pub gone_wrong : (f : FormError) (old out : List Owed) (all left pairs more : List (Access × Access)) → GoesOn old all out left → left ≡ pairs ++ more → ((rest : List (Access × Access)) → IsFault f (behind out (pairs ++ rest))) → (rest : List (Access × Access)) → IsFault f (behind old (all ++ rest))
  gone_wrong f old out all left pairs more h e k rest = subst (IsFault f) (sym (split old out all left pairs more h e rest)) (k (more ++ rest))

  -- what is left begins with pairs that are owed
  pub goes_further : (old out new : List Owed) (all left pairs more : List (Access × Access)) → GoesOn old all out left
      → left ≡ pairs ++ more → ((rest : List (Access × Access)) → behind out (pairs ++ rest) ≡ behind new rest)
      → GoesOn old all new more
  goes_further old out new all left pairs more h e k rest = split old out all left pairs more h e rest
      ∙ k (more ++ rest)

  -- nothing is left
  pub goes_to_end : (old out : List Owed) (all left : List (Access × Access)) → GoesOn old all out left → left ≡ []
      → (rest : List (Access × Access)) → behind old (all ++ rest) ≡ behind out rest
  goes_to_end old out all left h e rest = h rest ∙ ap (λ ps. behind out (ps ++ rest)) e

  pub left_owes : {A : Type 0} (r : Result A FormError) (e : FormError) (pairs : List (Access × Access)) (old new : List Owed) → IsErrAnd r (λ x. x ≡ e) → ((rest : List (Access × Access)) → IsFault e (behind old (pairs ++ rest))) → Owes fits ctx order place r pairs old new
  left_owes (Ok t) e pairs old new is h = absurd is
  left_owes (Err f) e pairs old new is h = subst (λ y. (rest : List (Access × Access)) → IsFault y (behind old (pairs ++ rest))) (sym is) h

pub left_listed : {A : Type 0} (r : Result (Vec Obligation A) FormError) (e : FormError) (k : Listing) → IsErrAnd r (λ x. x ≡ e) → IsFault e k → IsListed r k
left_listed (Ok t) e k is h = absurd is
left_listed (Err f) e k is h = subst (λ y. IsFault y k) (sym is) h

pub one_more : (x y : Access) (ys : List Access) → clashing_with x (y ∷ ys) ≡ clashing_with x (y ∷ []) ++ clashing_with x ys
one_more x y ys = go (may_clash x y) refl
  where
    go : (t : Bool) → may_clash x y ≡ t → clashing_with x (y ∷ ys) ≡ clashing_with x (y ∷ []) ++ clashing_with x ys
    go true e = rw e refl
    go false e = rw e refl

-- ---- all of it

pub at_base : (fits : Bool) (ctx : List Formula) (order : Order) (place : Path) (xs ys : List Access) → past_all past_formula ctx ≤ 2 ^ 31 → past_order order ≤ 2 ^ 31 → past_all past_access xs ≤ 2 ^ 31 → past_all past_access ys ≤ 2 ^ 31 → owed_behind fits ctx order place (2 ^ 31) [] (clashing xs ys) ≡ conflicts_of fits ctx order place xs ys
at_base fits ctx order place xs ys h i j k =
    let a = past_all past_formula ctx in
    let c = past_order order in
    let m = past_all past_access xs in
    let n = past_all past_access ys in
    let b = past_these ctx order xs ys in
    let d = 2 ^ 31 - b in
    let within : b ≤ 2 ^ 31 = max_within (max a c) (max m n) (2 ^ 31) (max_within a c (2 ^ 31) h i) (max_within m n (2 ^ 31) j k) in
    let whole : b + d ≡ 2 ^ 31 = omega (arith, within) in
    sym
    (behind_up fits ctx order place b d (low₁ a c m n) (low₂ a c m n) [] (clashing xs ys) (all_clashing b xs ys (low₃ a c m n) (low₄ a c m n))
    ∙ ap (λ t. owed_behind fits ctx order place t [] (clashing xs ys)) whole)
  where
    low₁ : (a c m n : ℕ) → a ≤ max (max a c) (max m n)
    low₁ a c m n = grind arith

    low₂ : (a c m n : ℕ) → c ≤ max (max a c) (max m n)
    low₂ a c m n = grind arith

    low₃ : (a c m n : ℕ) → m ≤ max (max a c) (max m n)
    low₃ a c m n = grind arith

    low₄ : (a c m n : ℕ) → n ≤ max (max a c) (max m n)
    low₄ a c m n = grind arith
