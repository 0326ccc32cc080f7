-- Where the claims of a procedure hold and what it calls runs, it runs on each admissible input.
use Rattle.std.proofs.Common.{◌≡◌, ℕ, Bool, true, false, ◌&&◌, List, [], ◌∷◌, map, length, Option, Some, refl, sym, ap, ◌∙◌, subst}
use Rattle.std.specs.Prelude.{IsSome, nat_lt}
use Rattle.exo_tree.specs.Tree.{Binder, Cell, Kind, Control, Param, ParamKind, ControlParam, TensorParam, WindowParam, Procedure, Program}
use Rattle.exo_tree.specs.Places.{Main}
use Rattle.exo_meaning.specs.Scene.{Scene, numbers, whole, where_true}
use Rattle.exo_meaning.specs.State.{State}
use Rattle.exo_meaning.specs.Calls.{all_positive}
use Rattle.exo_meaning.specs.Run.{run, program_world}
use Rattle.exo_meaning.specs.Inputs.{has_extents, all_have_extents, run_procedure, IsAdmissible, IsArgument, AreArguments}
use Rattle.exo_meaning.specs.Orders.{Each}
use Rattle.exo_meaning.specs.Units.{Sort, BufferName, Scope, is_new, with_name, scope_of, param_sort, is_rank, plainly, are_controls, is_param_kind, are_params, field_kind}
use Rattle.meaning_laws.specs.Places.{OpenedLaw}
use Rattle.meaning_laws.specs.Copies.{SoundLaw}
use Rattle.meaning_laws.specs.Sorted.{FitsAtLaw, MayRun}
use Rattle.affine_places.specs.Roots.{roots_of}
use Rattle.text_show.specs.Words.{Words, words_of}
use Rattle.check_claims.specs.Claim.{Claim, Is, Apart}
use Rattle.check_claims.specs.Extents.{Extents, dims_of, extents_of}
use Rattle.check_claims.specs.Claims.{at_least_one, param_claims, placed_at, block_claims, claims_of}
use Rattle.check_laws.specs.Claims.Holding.{ClaimHolds, calls}
use Rattle.check_laws.proofs.OfClaims.Basics.{and_parts, and_true, none_some, each_left, each_right, each_of}
use Rattle.check_laws.proofs.OfClaims.Seen.{DependOn, IsSeen, IsDescribed, IsHeld, Hold, controls_depend, dims_positive}
use Rattle.check_laws.proofs.OfClaims.Tables.{Agrees, ParamsAgree, table_agrees}
use Rattle.check_laws.proofs.OfClaims.Kept.{wider_depend, more_described, control_buffer, same_rank, whole_extents}
use Rattle.check_laws.proofs.OfClaims.Ways.{leads_body}
use Rattle.check_laws.proofs.OfClaims.Blocks.{CallsRun, Stands, block_runs}

-- ---- parameters

module _ (fields : ℕ → Option Kind) (memories : ℕ) (table : Extents) (scene : Scene) where
  buffer_seen : (scope : Scope) (x : Binder) (sort : Sort) (dims : List Control) (rank : ℕ) → scene.views x.id ≡ Some (record { buffer = x.id; sides = whole (numbers scene dims) }) → are_controls fields plainly scope dims ≡ true → is_rank (length dims) ≡ true → table x.id ≡ dims → all_positive (numbers scene dims) ≡ true → length dims ≡ rank → IsSeen (with_name scope x sort) scene (table x.id) rank (scene.views x.id)
  buffer_seen scope x sort dims rank view plain small agree positive e = record {
    seen = record { buffer = x.id; sides = whole (numbers scene dims) };
    view_is = view;
    extents_are = whole_extents (numbers scene dims) ∙ ap (numbers scene) (sym agree);
    positive = ap all_positive (whole_extents (numbers scene dims)) ∙ positive;
    rank_is = ap length agree ∙ e;
    small = subst (λ r. is_rank r ≡ true) e small;
    steady = subst (DependOn (with_name scope x sort)) (sym agree) (wider_depend scope x sort dims (controls_depend fields scope dims plain));
  }

  param_seen : (scope : Scope) (x : Binder) (kind : ParamKind) (cell : Cell) (rank : ℕ) (dense : Bool) → is_param_kind fields memories scope kind ≡ true → table x.id ≡ dims_of kind → IsArgument scene x.id kind → has_extents scene kind ≡ true → param_sort kind ≡ BufferName cell rank dense → IsSeen (with_name scope x (param_sort kind)) scene (table x.id) rank (scene.views x.id)
  param_seen scope x (ControlParam kind) cell rank dense h agree arg ext e = absurd (control_buffer e)
  param_seen scope x (TensorParam c dims memory) cell rank dense h agree arg ext e =
      let q = and_parts (are_controls fields plainly scope dims) (is_rank (length dims) && nat_lt memory memories) h in
      buffer_seen scope x (BufferName c (length dims) true) dims rank arg.1 q.0 (and_parts (is_rank (length dims)) (nat_lt memory memories) q.1).0 agree ext (same_rank e)
  param_seen scope x (WindowParam c dims memory) cell rank dense h agree arg ext e =
      let q = and_parts (are_controls fields plainly scope dims) ((is_rank (length dims) && nat_lt 0 (length dims)) && nat_lt memory memories) h in
      let r = and_parts (is_rank (length dims) && nat_lt 0 (length dims)) (nat_lt memory memories) q.1 in
      buffer_seen scope x (BufferName c (length dims) false) dims rank arg.1.1 q.0 (and_parts (is_rank (length dims)) (nat_lt 0 (length dims)) r.0).0 agree ext (same_rank e)

  params_described : (ps : List Param) (scope : Scope) → are_params fields memories scope ps ≡ true → ParamsAgree table ps → AreArguments scene ps → all_have_extents scene ps ≡ true → IsDescribed table scope scene → IsDescribed table (scope_of scope ps) scene
  params_described [] scope h agree args ext d = d
  params_described (p ∷ ps) scope h agree args ext d =
      let q = and_parts (is_new scope p.binder) (is_param_kind fields memories scope p.kind && are_params fields memories (with_name scope p.binder (param_sort p.kind)) ps) h in
      let r = and_parts (is_param_kind fields memories scope p.kind) (are_params fields memories (with_name scope p.binder (param_sort p.kind)) ps) q.1 in
      let e = and_parts (has_extents scene p.kind) (all_have_extents scene ps) ext in
      params_described ps (with_name scope p.binder (param_sort p.kind)) r.1 agree.1 args.1 e.1 (more_described table scope p.binder (param_sort p.kind) scene scene d (λ y k. (refl, refl)) (λ cell rank dense same. param_seen scope p.binder p.kind cell rank dense r.0 agree.0 args.0 e.0 same))

module _ (w : Words) (scene : Scene) where
  kind_has_extents : (kind : ParamKind) → Hold scene (map (at_least_one w) (dims_of kind)) → has_extents scene kind ≡ true
  kind_has_extents (ControlParam kind) h = refl
  kind_has_extents (TensorParam cell dims memory) h = dims_positive w scene dims h
  kind_has_extents (WindowParam cell dims memory) h = dims_positive w scene dims h

  params_have_extents : (ps : List Param) → Hold scene (param_claims w ps) → all_have_extents scene ps ≡ true
  params_have_extents [] h = refl
  params_have_extents (p ∷ ps) h =
      and_true (has_extents scene p.kind) (all_have_extents scene ps)
      (kind_has_extents p.kind (each_left (IsHeld scene) (map (at_least_one w) (dims_of p.kind)) (param_claims w ps) h))
      (params_have_extents ps (each_right (IsHeld scene) (map (at_least_one w) (dims_of p.kind)) (param_claims w ps) h))

-- ---- the procedure

module _ (u : Program) (p : Procedure) (may : MayRun u.fields (length u.memories) u.procedures p) (opened_law : OpenedLaw) (sound_law : SoundLaw) (fits_law : FitsAtLaw) (Runs : ℕ → Type 0) (calls_run : CallsRun u p may opened_law sound_law fits_law Runs) (claimed : Each (ClaimHolds (program_world u) p) (claims_of u p)) (callees_run : (k : ℕ) → calls p.body k ≡ true → Runs k) where
  abbrev w : Words
  w = words_of u p

  input_has_extents : (s : State) → IsAdmissible (program_world u) p s → all_have_extents s.scene p.params ≡ true
  input_has_extents s good =
      params_have_extents w s.scene p.params (each_of (ClaimHolds (program_world u) p) (IsHeld s.scene) (λ c. record { place = []; claim = c }) (param_claims w p.params) here
      (each_left (ClaimHolds (program_world u) p) (placed_at [] (param_claims w p.params)) (block_claims w u (extents_of p) (roots_of p) [] Main 0 p.body) claimed))
    where
      here : (c : Claim) → ClaimHolds (program_world u) p (record { place = []; claim = c }) → IsHeld s.scene c
      here (Is c text) h = h s good
      here (Apart j k) h = tt

  abbrev tables : ParamsAgree (extents_of p) p.params × Agrees (extents_of p) p.body
  tables = table_agrees p may.procedure.distinct

  nothing_described : (scene : Scene) → IsDescribed (extents_of p) [] scene
  nothing_described scene x cell rank dense h = absurd (none_some h)

  body_stands : Stands u p may opened_law sound_law fits_law Runs [] Main 0 p.body (scope_of [] p.params) (λ x. x) (λ s. IsAdmissible (program_world u) p s)
  body_stands = record {
    leads = leads_body (program_world u) p;
    formed = may.procedure.body;
    agrees = tables.1;
    claimed = each_right (ClaimHolds (program_world u) p) (placed_at [] (param_claims w p.params)) (block_claims w u (extents_of p) (roots_of p) [] Main 0 p.body) claimed;
    callees_run = callees_run;
    described = λ s good. params_described (field_kind u.fields) (length u.memories) (extents_of p) s.scene p.params [] may.procedure.params tables.0 good.arguments (input_has_extents s good) (nothing_described s.scene);
  }

  pub procedure_runs : (s : State) → IsAdmissible (program_world u) p s → IsSome (run_procedure (program_world u) p s)
  procedure_runs s good =
      subst (λ t. IsSome (where_true t (run (program_world u) p.body s))) (sym (input_has_extents s good))
      (block_runs u p may opened_law sound_law fits_law Runs calls_run p.body [] Main 0 (scope_of [] p.params) (λ x. x) (λ s. IsAdmissible (program_world u) p s) body_stands s good)
