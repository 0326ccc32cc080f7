-- Calls of the first procedures of a unit, by the rows of the table.
use Rattle.std.proofs.Common.{◌≡◌, ℕ, zero, suc, ◌+◌, ◌||◌, ◌&&◌, Bool, false, List, [], ◌∷◌, ◌++◌, Option, Some, None, option_map, slice_get, length, map, refl, sym, ap, ◌∙◌, append_assoc, arith}
use Rattle.std.proofs.lemmas.List.{append-nil, map-append, length_push}
use Rattle.std.proofs.lemmas.Option.{slice_get-map}
use Rattle.exo_tree.specs.Tree.{Kind, Param, Argument, Procedure}
use Rattle.exo_meaning.specs.Calls.{Callee}
use Rattle.exo_meaning.specs.Run.{is_root, call_writes, callees, callee_in, world_of}
use Rattle.exo_meaning.specs.Modes.{call_has}
use Rattle.buffer_laws.specs.Stride.Strides.{all_see, sees_at, sees_strides}
use Rattle.piece_modes.specs.Strides.Seen.{seen_of, passes}
use Rattle.piece_modes.specs.Strides.Table.{rows_of}

-- what a row passes on is what a call does
pub passes_seen : (sees : ℕ → Bool) (ps : List Param) (root : ℕ → ℕ) (y : ℕ) (args : List Argument) → passes (seen_of sees ps) root y args ≡ call_writes sees root y ps args
passes_seen sees [] root y args = refl
passes_seen sees (p ∷ ps) root y [] = refl
passes_seen sees (p ∷ ps) root y (a ∷ args) = ap (λ t. (sees p.binder.id && is_root root y a) || t) (passes_seen sees ps root y args)

-- the procedures that can be called are those of the list
procedures_are : (kinds : ℕ → Kind) (above : List Callee) (qs : List Procedure) → map (λ c. c.procedure) (callees kinds above qs) ≡ map (λ c. c.procedure) above ++ qs
procedures_are kinds above [] = sym (append-nil (map (λ c. c.procedure) above))
procedures_are kinds above (q ∷ qs) =
    let last = callee_in (world_of kinds above) q in
    procedures_are kinds (above ++ last ∷ []) qs ∙ ap (λ ps. ps ++ qs) (map-append (λ c. c.procedure) above (last ∷ [])) ∙ append_assoc (map (λ c. c.procedure) above) (q ∷ []) qs

can_call : (kinds : ℕ → Kind) (ps : List Procedure) (k : ℕ) → option_map (λ c. c.procedure) (slice_get (callees kinds [] ps) k) ≡ slice_get ps k
can_call kinds ps k = sym (slice_get-map (λ c. c.procedure) (callees kinds [] ps) k) ∙ ap (λ l. slice_get l k) (procedures_are kinds [] ps)

-- there is a row for each of them
pub as_many : (kinds : ℕ → Kind) (above : List Callee) (ss : List (ℕ → Bool)) (ps : List Procedure) → length (all_see kinds above ss ps) ≡ length ss + length ps
as_many kinds above ss [] = plus_none (length ss)
  where
    plus_none : (n : ℕ) → n ≡ n + 0
    plus_none n = omega arith
as_many kinds above ss (p ∷ ps) =
    let world = world_of kinds above in
    as_many kinds (above ++ callee_in world p ∷ []) (ss ++ sees_strides world (sees_at ss) p ∷ []) ps
    ∙ ap (λ n. n + length ps) (length_push ss (sees_strides world (sees_at ss) p))
    ∙ one_less (length ss) (length ps)
  where
    one_less : (m n : ℕ) → m + 1 + n ≡ m + suc n
    one_less m n = omega arith

-- one for each procedure of a unit
pub as_many_all : (kinds : ℕ → Kind) (ps : List Procedure) → length (all_see kinds [] [] ps) ≡ length ps
as_many_all kinds ps = omega (arith, as_many kinds [] [] ps)

pub row_read : (ps : List Procedure) (ss : List (ℕ → Bool)) (k : ℕ) → length ss ≡ length ps → slice_get (rows_of ps ss) k ≡ option_map (λ p. seen_of (sees_at ss k) p.params) (slice_get ps k)
row_read [] [] k h = refl
row_read [] (s ∷ ss) k h = absurd (omega (arith, h))
row_read (p ∷ ps) [] k h = absurd (omega (arith, h))
row_read (p ∷ ps) (s ∷ ss) zero h = refl
row_read (p ∷ ps) (s ∷ ss) (suc k) h = row_read ps ss k (omega (arith, h))

pub passed_by : Option (List Bool) → (ℕ → ℕ) → ℕ → List Argument → Bool
passed_by None root y args = false
passed_by (Some row) root y args = passes row root y args

pub passed_none : (root : ℕ → ℕ) (y : ℕ) (args : List Argument) → false ≡ passed_by None root y args
unfolding passed_by
passed_none root y args = refl

pub passed_some : (row : List Bool) (root : ℕ → ℕ) (y : ℕ) (args : List Argument) → passes row root y args ≡ passed_by (Some row) root y args
unfolding passed_by
passed_some row root y args = refl

-- what a call does depends on the callee's parameters alone
call_by : Option Procedure → (ℕ → Bool) → (ℕ → ℕ) → ℕ → List Argument → Bool
call_by None sees root y args = false
call_by (Some p) sees root y args = call_writes sees root y p.params args

call_of : (c : Option Callee) (sees : ℕ → Bool) (root : ℕ → ℕ) (y : ℕ) (args : List Argument) → call_has c sees root y args ≡ call_by (option_map (λ x. x.procedure) c) sees root y args
unfolding call_by
call_of None sees root y args = refl
call_of (Some c) sees root y args = refl

row_of_call : (o : Option Procedure) (sees : ℕ → Bool) (root : ℕ → ℕ) (y : ℕ) (args : List Argument) → passed_by (option_map (λ p. seen_of sees p.params) o) root y args ≡ call_by o sees root y args
unfolding passed_by call_by
row_of_call None sees root y args = refl
row_of_call (Some p) sees root y args = passes_seen sees p.params root y args

-- so a call passes on what its row says
pub call_is : (kinds : ℕ → Kind) (ps : List Procedure) (k : ℕ) (root : ℕ → ℕ) (y : ℕ) (args : List Argument) → passed_by (slice_get (rows_of ps (all_see kinds [] [] ps)) k) root y args ≡ call_has (slice_get (callees kinds [] ps) k) (sees_at (all_see kinds [] [] ps) k) root y args
call_is kinds ps k root y args =
    let ss = all_see kinds [] [] ps in
    ap (λ o. passed_by o root y args) (row_read ps ss k (as_many_all kinds ps))
    ∙ row_of_call (slice_get ps k) (sees_at ss k) root y args
    ∙ ap (λ o. call_by o (sees_at ss k) root y args) (sym (can_call kinds ps k))
    ∙ sym (call_of (slice_get (callees kinds [] ps) k) (sees_at ss k) root y args)

-- ---- one procedure more

split : (kinds : ℕ → Kind) (above : List Callee) (ss : List (ℕ → Bool)) (qs rs : List Procedure) → all_see kinds above ss (qs ++ rs) ≡ all_see kinds (callees kinds above qs) (all_see kinds above ss qs) rs
split kinds above ss [] rs = refl
split kinds above ss (q ∷ qs) rs = split kinds (above ++ callee_in (world_of kinds above) q ∷ []) (ss ++ sees_strides (world_of kinds above) (sees_at ss) q ∷ []) qs rs

rows_push : (ps : List Procedure) (ss : List (ℕ → Bool)) (p : Procedure) (s : ℕ → Bool) → length ss ≡ length ps → rows_of (ps ++ p ∷ []) (ss ++ s ∷ []) ≡ rows_of ps ss ++ seen_of s p.params ∷ []
rows_push [] [] p s h = refl
rows_push [] (t ∷ ss) p s h = absurd (omega (arith, h))
rows_push (q ∷ ps) [] p s h = absurd (omega (arith, h))
rows_push (q ∷ ps) (t ∷ ss) p s h = ap (λ rs. seen_of t q.params ∷ rs) (rows_push ps ss p s (omega (arith, h)))

pub one_more : (kinds : ℕ → Kind) (qs : List Procedure) (p : Procedure) → rows_of (qs ++ p ∷ []) (all_see kinds [] [] (qs ++ p ∷ [])) ≡ rows_of qs (all_see kinds [] [] qs) ++ seen_of (sees_strides (world_of kinds (callees kinds [] qs)) (sees_at (all_see kinds [] [] qs)) p) p.params ∷ []
one_more kinds qs p =
    ap (rows_of (qs ++ p ∷ [])) (split kinds [] [] qs (p ∷ []))
    ∙ rows_push qs (all_see kinds [] [] qs) p _ (as_many_all kinds qs)
