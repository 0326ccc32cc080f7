-- What is surely written in a unit that grows.
use Rattle.std.proofs.Common.{◌≡◌, ◌+◌, ℕ, zero, suc, Bool, true, false, ◌&&◌, ◌||◌, List, []}
use Rattle.std.proofs.Common.{◌∷◌, ◌++◌, length, Option, Some, None, refl, sym, ap, ap₂, ◌∙◌, subst}
use Rattle.std.proofs.Common.{arith}
use Rattle.std.specs.Prelude.{slice_get, nat_lt}
use Rattle.exo_tree.specs.Tree.{Statement, Assign, Reduce, Config, Pass, If, For, Alloc, View, Call}
use Rattle.exo_tree.specs.Tree.{Block, end, next, joined, Procedure}
use Rattle.exo_tree.specs.Context.{Context, Here, After, InLoop, InThen, InElse, fill}
use Rattle.exo_tree.specs.Places.{Path, Opened, opened}
use Rattle.meaning_laws.specs.Grown.{calls_below, step_calls_below}
use Rattle.meaning_laws.specs.UnitFields.{written_at}
use Rattle.meaning_laws.proofs.Parts.{none_some}
use Rattle.meaning_laws.proofs.Places.{opened_law}
use Rattle.meaning_laws.proofs.Substitute.{and_parts}
use Rattle.config_laws.specs.Surely.{surely_writes, step_surely_writes, surely_behind, surely_by}
use Rattle.config_laws.specs.Surely.{all_surely, unit_surely}
use Rattle.config_laws.specs.FieldRule.{Side, gap, surely_from, fields_at_end}
use Rattle.config_laws.specs.Differing.{Origin}
use Rattle.config_laws.specs.Grown.{SurelyGrown, SurelyBehindGrown, StepFieldsGrown}
use Rattle.config_laws.proofs.Proposed.{fields_same}

-- ---- tables

no_less : (k : ℕ) → nat_lt k 0 ≡ true → ⊥
no_less k h = grind arith

less : (k n : ℕ) → nat_lt (suc k) (suc n) ≡ true → nat_lt k n ≡ true
less k n h = grind arith

further : (k n m : ℕ) → nat_lt k n ≡ true → m ≡ suc n → nat_lt k m ≡ true
further k n m h e = grind arith

as_long : (k n m : ℕ) → nat_lt k n ≡ true → m ≡ 0 + n → nat_lt k m ≡ true
as_long k n m h e = grind arith

one_longer : (ws : List (ℕ → Bool)) (w : ℕ → Bool) → length (ws ++ w ∷ []) ≡ suc (length ws)
one_longer [] w = refl
one_longer (v ∷ ws) w = ap suc (one_longer ws w)

add_one : (a b c : ℕ) → a ≡ suc b → a + c ≡ b + suc c
add_one a b c e = omega arith

entries : (ws : List (ℕ → Bool)) (ps : List Procedure)
    → length (all_surely ws ps) ≡ length ws + length ps
entries ws [] = none (length ws)
  where
    none : (n : ℕ) → n ≡ n + 0
    none n = omega arith
entries ws (p ∷ ps) =
    let w = surely_by (written_at ws) p in
    entries (ws ++ w ∷ []) ps
    ∙ add_one (length (ws ++ w ∷ [])) (length ws) (length ps) (one_longer ws w)

in_parts : (ws : List (ℕ → Bool)) (ps more : List Procedure)
    → all_surely ws (ps ++ more) ≡ all_surely (all_surely ws ps) more
in_parts ws [] more = refl
in_parts ws (p ∷ ps) more = in_parts (ws ++ surely_by (written_at ws) p ∷ []) ps more

kept_first : (ws : List (ℕ → Bool)) (w : ℕ → Bool) (k : ℕ) → nat_lt k (length ws) ≡ true
    → slice_get (ws ++ w ∷ []) k ≡ slice_get ws k
kept_first [] w k h = absurd (no_less k h)
kept_first (v ∷ ws) w zero h = refl
kept_first (v ∷ ws) w (suc k) h = kept_first ws w k (less k (length ws) h)

begins : (ws : List (ℕ → Bool)) (ps : List Procedure) (k : ℕ) → nat_lt k (length ws) ≡ true
    → slice_get (all_surely ws ps) k ≡ slice_get ws k
begins ws [] k h = refl
begins ws (p ∷ ps) k h =
    let w = surely_by (written_at ws) p in
    begins (ws ++ w ∷ []) ps k (further k (length ws) (length (ws ++ w ∷ [])) h (one_longer ws w))
    ∙ kept_first ws w k h

same_entry : (ps more : List Procedure) (k f : ℕ) → nat_lt k (length ps) ≡ true
    → unit_surely (ps ++ more) k f ≡ unit_surely ps k f
same_entry ps more k f h =
    ap (λ (o : Option (ℕ → Bool)). elim o as (λ o. Bool) [ None ↦ false | Some w ↦ w f ])
    (ap (λ l. slice_get l k) (in_parts [] ps more)
    ∙ begins (all_surely [] ps) more k
    (as_long k (length ps) (length (all_surely [] ps)) h (entries [] ps)))

-- ---- blocks and holes

module _ (ps more : List Procedure) (f : ℕ) where
  abbrev longer : ℕ → ℕ → Bool
  longer = unit_surely (ps ++ more)

  abbrev shorter : ℕ → ℕ → Bool
  shorter = unit_surely ps

  abbrev Below : Block → Type 0
  Below b = calls_below (length ps) b ≡ true

  mutual
    grown : (b : Block) → Below b → surely_writes longer f b ≡ surely_writes shorter f b
    grown end h = refl
    grown (next a b) h =
        let p = and_parts (step_calls_below (length ps) a) (calls_below (length ps) b) h in
        ap₂ ◌||◌ (step_grown a p.0) (grown b p.1)

    step_grown : (a : Statement) → step_calls_below (length ps) a ≡ true
        → step_surely_writes longer f a ≡ step_surely_writes shorter f a
    step_grown (Assign x is e) h = refl
    step_grown (Reduce x is e) h = refl
    step_grown (Config g a) h = refl
    step_grown Pass h = refl
    step_grown (If c a b) h =
        let p = and_parts (calls_below (length ps) a) (calls_below (length ps) b) h in
        ap₂ ◌&&◌ (grown a p.0) (grown b p.1)
    step_grown (For i lo hi b) h = refl
    step_grown (Alloc x cell dims memory) h = refl
    step_grown (View w x coords) h = refl
    step_grown (Call k args) h = same_entry ps more k f h

  last_below : (a b : Block) → Below (joined a b) → Below b
  last_below end b h = h
  last_below (next x a) b h =
      last_below a b (and_parts (step_calls_below (length ps) x)
      (calls_below (length ps) (joined a b)) h).1

  grown_behind : (c : Context) (old : Block) → Below (fill c old)
      → surely_behind longer f c ≡ surely_behind shorter f c
  grown_behind (Here rest) old h = grown rest (last_below old rest h)
  grown_behind (After a c) old h =
      grown_behind c old (and_parts (step_calls_below (length ps) a)
      (calls_below (length ps) (fill c old)) h).1
  grown_behind (InLoop i lo hi c rest) old h =
      let p = and_parts (calls_below (length ps) (fill c old)) (calls_below (length ps) rest) h in
      ap₂ ◌||◌ (grown_behind c old p.0) (grown rest p.1)
  grown_behind (InThen t c other rest) old h =
      let p = and_parts (calls_below (length ps) (fill c old) && calls_below (length ps) other)
      (calls_below (length ps) rest) h in
      let q = and_parts (calls_below (length ps) (fill c old)) (calls_below (length ps) other)
      p.0 in
      ap₂ ◌||◌ (grown_behind c old q.0) (grown rest p.1)
  grown_behind (InElse t other c rest) old h =
      let p = and_parts (calls_below (length ps) other && calls_below (length ps) (fill c old))
      (calls_below (length ps) rest) h in
      let q = and_parts (calls_below (length ps) other) (calls_below (length ps) (fill c old))
      p.0 in
      ap₂ ◌||◌ (grown_behind c old q.1) (grown rest p.1)

  from_grown : (body : Block) (at : Path) (side : Side) → Below body
      → surely_from (ps ++ more) body at side f ≡ surely_from ps body at side f
  from_grown body at side h = go (opened 0 (gap at side) body) refl
    where
      go : (o : Option Opened) → opened 0 (gap at side) body ≡ o
          → elim o as (λ o. Bool) [ None ↦ false | Some o ↦ surely_behind longer f o.around ]
          ≡ elim o as (λ o. Bool) [ None ↦ false | Some o ↦ surely_behind shorter f o.around ]
      go None e = refl
      go (Some o) e =
          grown_behind o.around o.piece
          (subst Below (sym (opened_law 0 (gap at side) body o e)) h)

pub surely_grown : SurelyGrown
surely_grown ps more f b h = grown ps more f b h

pub surely_behind_grown : SurelyBehindGrown
surely_behind_grown ps more f c old h = grown_behind ps more f c old h

-- ---- versions

first_ones : (ps more : List Procedure) (k : ℕ) (q : Procedure) → slice_get ps k ≡ Some q
    → slice_get (ps ++ more) k ≡ Some q
first_ones [] more zero q e = absurd (none_some e)
first_ones [] more (suc k) q e = absurd (none_some e)
first_ones (p ∷ ps) more zero q e = e
first_ones (p ∷ ps) more (suc k) q e = first_ones ps more k q e

pub step_fields_grown : StepFieldsGrown
step_fields_grown ps more os k q there below = go (slice_get os k)
  where
    go : (s : Option Origin)
        → elim s as (λ s. List ℕ) [
          | None ↦ []
          | Some o ↦ elim (slice_get (ps ++ more) k) as (λ r. List ℕ) [
            | None ↦ []
            | Some q ↦ fields_at_end (ps ++ more) q.body o.place o.side o.fields
          ]
        ]
        ≡ elim s as (λ s. List ℕ) [
          | None ↦ []
          | Some o ↦ elim (slice_get ps k) as (λ r. List ℕ) [
            | None ↦ []
            | Some q ↦ fields_at_end ps q.body o.place o.side o.fields
          ]
        ]
    go None = refl
    go (Some o) =
        ap (λ (r : Option Procedure). elim r as (λ r. List ℕ) [
          | None ↦ []
          | Some q ↦ fields_at_end (ps ++ more) q.body o.place o.side o.fields
        ]) (first_ones ps more k q there)
        ∙ fields_same (surely_from (ps ++ more) q.body o.place o.side)
        (surely_from ps q.body o.place o.side) o.fields
        (λ f. from_grown ps more f q.body o.place o.side below)
        ∙ sym (ap (λ (r : Option Procedure). elim r as (λ r. List ℕ) [
          | None ↦ []
          | Some q ↦ fields_at_end ps q.body o.place o.side o.fields
        ]) there)
