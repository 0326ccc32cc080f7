-- The bodies of instructions, and of what they call, are followed.
use Rattle.std.proofs.Common.{◌≡◌, ◌<◌, ℕ, zero, suc, true, List, length, take, Some, None, refl, ◌∙◌, subst, arith, slice_get}
use Rattle.exo_tree.specs.Tree.{Procedure, Program}
use Rattle.exo_tree.specs.Calls.{calls}
use Rattle.exo_meaning.specs.State.{State}
use Rattle.exo_meaning.specs.Calls.{Callee}
use Rattle.exo_meaning.specs.Run.{kinds_of}
use Rattle.exo_meaning.specs.Units.{IsUnit}
use Rattle.exo_modes.proofs.OfCalls.Entries.{table_entry}
use Rattle.exo_modes.proofs.OfCalls.Reach.{seeds_are_closed, closed_is_closed}
use Rattle.memory_kinds.specs.Faults.{fault_of}
use Rattle.c_widths.specs.Few.{fewness_of}
use Rattle.c_unit_laws.specs.Follows.Machine.CRun.{Behaviour, CWorld, globals_of}
use Rattle.c_lowering.specs.Made.Lowered.{Naming, param_forms}
use Rattle.c_lowering.specs.Made.LoweredUnit.{Printing, is_listed, counts, global_names, lowered}
use Rattle.c_unit_laws.specs.Follows.Simulation.{Ends}
use Rattle.c_unit_laws.specs.Follows.Calls.{IsFollowed}
use Rattle.c_unit_laws.specs.Follows.Bodies.{body_of, bodies_of}
use Rattle.c_unit_laws.specs.Follows.Templates.{TemplatesDoTheirBodies}
use Rattle.c_unit_laws.specs.Follows.Functions.{behaviour_of}
use Rattle.c_unit_laws.specs.Follows.Units.{AreLowered}
use Rattle.c_unit_laws.specs.Follows.Grounds.{world_above, bounds_in, ground_of, plain_naming}
use Rattle.c_unit_laws.specs.Follows.Grounds.{plain_ground}
use Rattle.c_unit_laws.proofs.Listed.{listed_here}
use Rattle.c_unit_laws.proofs.Standing.{Stood, stood, get_taken, calls_before}
use Rattle.c_unit_laws.proofs.OfFollows.WithCalls.{blocks_follow}
use Rattle.c_unit_laws.proofs.Fewer.{few_at, few_before, few_above}
use Rattle.c_unit_laws.proofs.Functions.{field_global, function_global}
use Rattle.c_unit_laws.proofs.Followed.{IsOfFile, FewAt, callee_of, HasCalls, follows_less, followed}
use Rattle.c_unit_laws.proofs.Units.{bodies_are_good}

module _ (program : Program) (what : List Printing) (unit : IsUnit program) (lowers : AreLowered fault_of program what) where
  abbrev bodies : List Behaviour
  bodies = bodies_of program what

  -- a body sees those above it
  abbrev pub body_world : ℕ → CWorld
  body_world k = record { globals = globals_of (lowered program what); functions = λ f. None; instructions = slice_get (take k bodies) }

  abbrev pub body_at : ℕ → Procedure → Behaviour
  body_at k p = behaviour_of (plain_ground program what k p) (body_world k) p

  -- the table has it
  pub body_there : (k : ℕ) (p : Procedure) → slice_get program.procedures k ≡ Some p → slice_get bodies k ≡ Some (body_at k p)
  body_there k p at = table_entry (body_of program (global_names program what) (globals_of (lowered program what))) program.procedures k p at

  pub plain_is_of_file : (p : Procedure) → IsOfFile program (plain_naming program what p)
  plain_is_of_file p = record { field = refl; params = λ k. refl }

  -- what is called by one that counts does
  pub called_counts : (k j : ℕ) (p : Procedure) → slice_get program.procedures k ≡ Some p → counts program what k ≡ true → calls j p.body ≡ true → counts program what j ≡ true
  called_counts k j p at c u = closed_is_closed (λ q. true) (is_listed what) program.procedures k j p (λ i l q e d. calls_before program.fields (length program.memories) program.procedures i l q unit.procedures e d) at c refl u

  -- from a caller's ground
  body_followed : (caller : Naming) → IsOfFile program caller → (i : ℕ) (r : Procedure) (k : ℕ) (p : Procedure) → slice_get program.procedures k ≡ Some p → counts program what k ≡ true → HasCalls program what (plain_naming program what p) k p (body_world k) → (few : State → Type 0) → ((s : State) → few s → FewAt program what k p s) → IsFollowed (ground_of program what caller i r) few (callee_of program what k p) (body_at k p) k
  body_followed caller is i r k p at c calls few fewer = followed program what caller is i r (plain_naming program what p) (plain_is_of_file p) k p at (body_world k) (bodies_are_good program what k p unit lowers at c) calls few fewer

  -- what the bodies call, by those with lower numbers
  body_calls : (n k : ℕ) (p : Procedure) → k < n → slice_get program.procedures k ≡ Some p → counts program what k ≡ true → HasCalls program what (plain_naming program what p) k p (body_world k)
  body_calls zero k p b at c = absurd (omega (arith, b))
  body_calls (suc n) k p b at c = record {
    fields = field_global program what lowers.named;
    functions = function_global program what lowers.named;
    named = λ j u e. absurd (some_none e);
    each = λ j d e u. each j d u (stood (kinds_of program.fields) program.procedures k j d e) (λ q. body_calls n j q);
  }
    where
      some_none : {A : Type 0} {a : A} → Some a ≡ None → ⊥
      some_none e = cc

      each : (j : ℕ) (d : Callee) → calls j p.body ≡ true → Stood (kinds_of program.fields) program.procedures k j d → ((q : Procedure) → j < n → slice_get program.procedures j ≡ Some q → counts program what j ≡ true → HasCalls program what (plain_naming program what q) j q (body_world j)) → (f : Behaviour) × (slice_get (take k bodies) j ≡ Some f) × IsFollowed (plain_ground program what k p) (few_before (kinds_of program.fields) program.procedures k j) d f j
      each j d u s later =
          let q = s.procedure in
          let counted = called_counts k j p at c u in
          let own = body_followed (plain_naming program what p) (plain_is_of_file p) k p j q s.at counted (later q (omega (arith, b, s.before)) s.at counted) (few_before (kinds_of program.fields) program.procedures k j) (λ t h. few_above (kinds_of program.fields) program.procedures k j q t s.before s.at h) in
          (body_at j q, get_taken bodies k j s.before ∙ body_there j q s.at, subst (λ e. IsFollowed (plain_ground program what k p) (few_before (kinds_of program.fields) program.procedures k j) e (body_at j q) j) s.same own)

  -- so each that a printed procedure calls is a template that does what its body says
  pub bodies_are_templates : TemplatesDoTheirBodies program what (slice_get bodies)
  bodies_are_templates i k w caller p text there at_caller u at t =
      let counted = called_counts w.proc k caller at_caller (seeds_are_closed (λ q. true) (is_listed what) program.procedures w.proc (listed_here what i w there)) u in
      let good = bodies_are_good program what k p unit lowers at counted in
      let g = plain_ground program what k p in (
        body_at k p,
        body_there k p at,
        record {
          formals = refl;
          follows = λ layout s m match holds. follows_less (FewAt program what k p s) (fewness_of program k s) (Ends g (param_forms p.params) layout s m) ((callee_of program what k p).run s) ((body_at k p).run m)
              (few_at (kinds_of program.fields) program.procedures k p s at)
              (blocks_follow g (param_forms p.params) (bounds_in program what k) (λ x. x) layout (world_above program k) (kinds_of program.fields) (take k program.procedures) (body_world k) p.body (body_calls (suc k) k p (omega arith) at counted) good.body good.may s m match);
        },
      )
