-- What a call of a procedure of a unit touches.
use Rattle.std.proofs.Common.{◌≡◌, ◌++◌, ◌∷◌, [], ℕ, Bool, List, Option, Some, None, option_map, slice_get, map, refl, sym, ap, ◌∙◌, false, append_assoc}
use Rattle.std.proofs.lemmas.List.{append-nil, map-append}
use Rattle.std.proofs.lemmas.Option.{slice_get-map}
use Rattle.exo_tree.specs.Tree.{Kind, Argument, Procedure, Program}
use Rattle.exo_meaning.specs.Calls.{Callee}
use Rattle.exo_meaning.specs.Modes.{Mode, call_has}
use Rattle.exo_meaning.specs.Run.{call_writes, callees, callee_in, world_of, kinds_of}
use Rattle.piece_modes.specs.Touching.{call_touches, callee_modes}

procedures_are : (kinds : ℕ → Kind) (above : List Callee) (qs : List Procedure) → map (λ c. c.procedure) (callees kinds above qs) ≡ map (λ c. c.procedure) above ++ qs
procedures_are kinds above [] = sym (append-nil (map (λ c. c.procedure) above))
procedures_are kinds above (q ∷ qs) =
    let last = callee_in (world_of kinds above) q in
    procedures_are kinds (above ++ last ∷ []) qs
    ∙ ap (λ ps. ps ++ qs) (map-append (λ c. c.procedure) above (last ∷ []))
    ∙ append_assoc (map (λ c. c.procedure) above) (q ∷ []) qs

called : (kinds : ℕ → Kind) (ps : List Procedure) (k : ℕ) → option_map (λ c. c.procedure) (slice_get (callees kinds [] ps) k) ≡ slice_get ps k
called kinds ps k =
    sym (slice_get-map (λ c. c.procedure) (callees kinds [] ps) k) ∙ ap (λ l. slice_get l k) (procedures_are kinds [] ps)

-- it depends on the callee's procedure alone
pub by_procedure : Option Procedure → (ℕ → Bool) → (ℕ → ℕ) → ℕ → List Argument → Bool
by_procedure None given root y args = false
by_procedure (Some p) given root y args = call_writes given root y p.params args

by_callee : (c : Option Callee) (given : ℕ → Bool) (root : ℕ → ℕ) (y : ℕ) (args : List Argument) → call_has c given root y args ≡ by_procedure (option_map (λ x. x.procedure) c) given root y args
unfolding by_procedure
by_callee None given root y args = refl
by_callee (Some c) given root y args = refl

module _ (u : Program) (m : Mode) (root : ℕ → ℕ) (k : ℕ) (args : List Argument) (y : ℕ) where
  call_is : (o : Option Procedure) → slice_get u.procedures k ≡ o → call_touches u m root k args y ≡ by_procedure o (callee_modes u k m) root y args
  call_is o e =
      by_callee (slice_get (callees (kinds_of u.fields) [] u.procedures) k) (callee_modes u k m) root y args
      ∙ ap (λ o. by_procedure o (callee_modes u k m) root y args) (called (kinds_of u.fields) u.procedures k ∙ e)

  pub call_there : (p : Procedure) → slice_get u.procedures k ≡ Some p → call_touches u m root k args y ≡ call_writes (callee_modes u k m) root y p.params args
  unfolding by_procedure
  call_there p e = call_is (Some p) e

  pub call_nowhere : slice_get u.procedures k ≡ None → call_touches u m root k args y ≡ false
  unfolding by_procedure
  call_nowhere e = call_is None e
