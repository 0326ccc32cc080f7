-- The procedures of a unit do not see strides that they do not use.
use Rattle.std.proofs.Common.{◌≡◌, ℕ, zero, suc, Bool, false, List, [], ◌∷◌, ◌++◌, Some}
use Rattle.std.proofs.Common.{slice_get, subst}
use Rattle.exo_tree.specs.Tree.{Kind, Procedure}
use Rattle.exo_meaning.specs.Calls.{Callee}
use Rattle.exo_meaning.specs.Run.{callees, callee_in, world_of, unit_world}
use Rattle.exo_meaning.proofs.Frame.{or_parts}
use Rattle.exo_meaning.proofs.Windows.{none_is_some, one_value}
use Rattle.buffer_laws.specs.Stride.Strides.{uses_strides, params_use, sees_strides, sees_at, all_see}
use Rattle.buffer_laws.specs.Stride.Strides.{stride_seen, CalleeIsBlind, CallsAreBlind, BlindCallsLaw}
use Rattle.buffer_laws.specs.Stride.Strides.{BlindLaw}
use Rattle.buffer_laws.proofs.OfStride.Strides.{second_none}
use Rattle.buffer_laws.proofs.OfStride.Blocks.{run_both}

abbrev IsTold : (ℕ → Bool) → Callee → Type 0
IsTold sees c =
    ((y : ℕ) → sees y ≡ false → params_use y c.procedure.params ≡ false) × CalleeIsBlind sees c

abbrev AllTold : List Callee → List (ℕ → Bool) → Type 0
AllTold [] [] = Unit {0}
AllTold [] (f ∷ fs) = ⊥
AllTold (c ∷ cs) [] = ⊥
AllTold (c ∷ cs) (f ∷ fs) = IsTold f c × AllTold cs fs

told_at : (cs : List Callee) (fs : List (ℕ → Bool)) → AllTold cs fs → (k : ℕ) (c : Callee)
    → slice_get cs k ≡ Some c → IsTold (sees_at fs k) c
told_at [] fs h k c e = absurd (none_is_some e)
told_at (x ∷ cs) [] h k c e = absurd h
told_at (x ∷ cs) (f ∷ fs) h zero c e = subst (IsTold f) (one_value x c e) h.0
told_at (x ∷ cs) (f ∷ fs) h (suc k) c e = told_at cs fs h.1 k c e

one_more : (cs : List Callee) (fs : List (ℕ → Bool)) (c : Callee) (f : ℕ → Bool) → AllTold cs fs
    → IsTold f c → AllTold (cs ++ c ∷ []) (fs ++ f ∷ [])
one_more [] [] c f h k = (k, tt)
one_more [] (g ∷ fs) c f h k = absurd h
one_more (x ∷ cs) [] c f h k = absurd h
one_more (x ∷ cs) (g ∷ fs) c f h k = (h.0, one_more cs fs c f h.1 k)

module _ (kinds : ℕ → Kind) where
  calls_of : (above : List Callee) (fs : List (ℕ → Bool)) → AllTold above fs
      → CallsAreBlind (world_of kinds above) (sees_at fs)
  calls_of above fs h = record {
    params = λ k c y e m. (told_at above fs h k c e).0 y m;
    runs = λ k c e. (told_at above fs h k c e).1;
  }

  told : (above : List Callee) (fs : List (ℕ → Bool)) (p : Procedure) → AllTold above fs
      → IsTold (sees_strides (world_of kinds above) (sees_at fs) p)
      (callee_in (world_of kinds above) p)
  told above fs p h =
      let world = world_of kinds above in
      let body = uses_strides world.callees (sees_at fs) (λ y. y) p.body in (
        λ y k. (or_parts (params_use y p.params) (body y) k).0,
        λ blind s t u roots same. run_both blind world (sees_at fs) (calls_of above fs h) p.body
            (λ y. y) (second_none blind (λ y. params_use y p.params) body u) s t roots same,
      )

  all_told : (above : List Callee) (fs : List (ℕ → Bool)) (ps : List Procedure) → AllTold above fs
      → AllTold (callees kinds above ps) (all_see kinds above fs ps)
  all_told above fs [] h = h
  all_told above fs (p ∷ ps) h =
      let world = world_of kinds above in
      all_told (above ++ callee_in world p ∷ []) (fs ++ sees_strides world (sees_at fs) p ∷ []) ps
      (one_more above fs (callee_in world p) (sees_strides world (sees_at fs) p) h
      (told above fs p h))

pub blind_calls_law : BlindCallsLaw
blind_calls_law kinds ps =
    calls_of kinds (callees kinds [] ps) (all_see kinds [] [] ps) (all_told kinds [] [] ps tt)

pub blind_law : BlindLaw
blind_law kinds ps root blind b s t u roots h = run_both blind (unit_world kinds ps)
    (stride_seen kinds ps) (blind_calls_law kinds ps) b root u s t roots h
