-- Where the claims of a block hold and the procedures that it calls run, the block runs.
use Rattle.std.proofs.Common.{◌≡◌, ℕ, zero, suc, ℤ, ◌+ℤ◌, ◌==◌, true, false, not, ◌&&◌, ◌||◌, List, [], ◌∷◌, ◌++◌, Option, Some, None, option_map, refl, sym, ap, ◌∙◌, subst}
use Rattle.std.specs.Prelude.{IsSome, length, slice_get, nat_lt}
use Rattle.exo_tree.specs.Tree.{Kind, Size, Index, Truth, Stride, Binder, Control, Condition, Argument, ControlArg, ConditionArg, Whole, Window, Statement, Assign, Reduce, Config, Pass, If, For, Alloc, View, Call, Block, end, next, Procedure, ConfigField, Program}
use Rattle.exo_tree.specs.Calls.{passed_by}
use Rattle.exo_tree.specs.Context.{fill}
use Rattle.exo_tree.specs.Places.{Branch, Main, Else, Path, opened, path_below}
use Rattle.exo_meaning.specs.Value.{on_two}
use Rattle.exo_meaning.specs.Scene.{Scene, then_do, numbers, holds, window}
use Rattle.exo_meaning.specs.State.{State, on_scene, with_control, with_field, left}
use Rattle.exo_meaning.specs.Calls.{suits, all_positive}
use Rattle.exo_meaning.specs.Run.{World, run, step, call_to, turn, turns, turns_of, choose, argument_number, roots_after, kinds_of, program_world}
use Rattle.exo_meaning.specs.Orders.{Each}
use Rattle.exo_meaning.specs.Units.{ControlName, Scope, scope_after, with_name, plainly, with_fields, with_strides, Reads, is_control, is_condition, is_new, is_empty, is_short, is_of_kind, is_write, is_window, spans, is_call, is_block, is_statement, field_kind}
use Rattle.meaning_laws.specs.Context.{ComesToTurn, now, later}
use Rattle.meaning_laws.specs.Places.{OpenedLaw}
use Rattle.meaning_laws.specs.Sound.{IsSound}
use Rattle.meaning_laws.specs.Copies.{SoundLaw}
use Rattle.meaning_laws.specs.Sorted.{IsSorted, FitsAtLaw, MayRun}
use Rattle.affine_places.specs.Roots.{Roots, roots_of}
use Rattle.text_show.specs.Words.{Words, words_of}
use Rattle.check_claims.specs.Claim.{Claim}
use Rattle.check_claims.specs.Extents.{extents_of, Extents}
use Rattle.check_claims.specs.Claims.{placed_at, given_claims, write_claims, own_claims, inner_claims, block_claims, written_by, call_claims}
use Rattle.check_laws.specs.Claims.Holding.{ClaimHolds, calls, step_calls}
use Rattle.check_laws.proofs.OfClaims.Basics.{and_parts, no_test, by_test, none_some, there_some, if_gives, Succeeds, succeeds_then, succeeds_where, succeeds_some, some_injective, each_left, each_right, or_left, or_right, same_number}
use Rattle.check_laws.proofs.OfClaims.Seen.{Hold, IsKeptApart, IsDescribed, dims_positive, store_there, IsPart, window_there}
use Rattle.check_laws.proofs.OfClaims.Kept.{SameNames, same_on, turn_names, same_described, control_described, step_described}
use Rattle.check_laws.proofs.OfClaims.Tables.{Agrees}
use Rattle.check_laws.proofs.OfClaims.Rooted.{SeesRoots, roots_seen}
use Rattle.check_laws.proofs.OfClaims.Ways.{Reaches, claims_here, apart_here, Leads, leads_here, Later, leads_next, leads_then, leads_else, InTurn, leads_loop}

-- ---- values of a kind

module _ (w : Words) (fields : ℕ → Option Kind) (may : Reads) (scope : Scope) (scene : Scene) where
  -- what is given for a value of that kind suits it
  pub given_suits : (kind : Kind) (a : Argument) → is_of_kind fields may scope kind a ≡ true → Hold scene (given_claims w kind a) → Succeeds (argument_number scene a) (λ n. suits kind n ≡ true)
  given_suits Size (ControlArg e) h m = m.0
  given_suits Index (ControlArg e) h m = refl
  given_suits Truth (ControlArg e) h m = refl
  given_suits Stride (ControlArg e) h m = refl
  given_suits Size (ConditionArg c) h m = no_test h
  given_suits Index (ConditionArg c) h m = refl
  given_suits Truth (ConditionArg c) h m = refl
  given_suits Stride (ConditionArg c) h m = refl
  given_suits kind (Whole x) h m = no_test h
  given_suits kind (Window x coords) h m = no_test h

kind_is : (fields : List ConfigField) (f : ℕ) (kind : Kind) → field_kind fields f ≡ Some kind → kinds_of fields f ≡ kind
kind_is [] zero kind h = absurd (none_some h)
kind_is [] (suc f) kind h = absurd (none_some h)
kind_is (field ∷ fields) zero kind h = some_injective field.kind kind h
kind_is (field ∷ fields) (suc f) kind h = kind_is fields f kind h

-- ---- turns

module _ (i : ℕ) (body : State → Option State) (first : State) where
  turns_run : (ns : List ℤ) (r : State) → SameNames first.scene r.scene → ((n : ℤ) (q : State) → ComesToTurn (turn i body) ns r n q → SameNames first.scene q.scene → IsSome (turn i body n q)) → IsSome (turns (turn i body) ns r)
  turns_run [] r same each = refl
  turns_run (n ∷ ns) r same each =
      let x = there_some (turn i body n r) (each n r now same) in
      subst (λ o. IsSome (then_do o (turns (turn i body) ns))) (sym x.1)
      (turns_run ns x.0 (same_on first.scene r.scene (x.0).scene same (if_gives (λ t. SameNames r.scene t.scene) (turn i body n r) x.0 (turn_names i body n r) x.1)) (λ m q z k. each m q (later x.1 z) k))

map_some : {A B : Type 0} (f : A → B) (o : Option A) → IsSome o → IsSome (option_map f o)
map_some f None h = no_test h
map_some f (Some a) h = refl

-- ---- the walk

module _ (u : Program) (p : Procedure) (may : MayRun u.fields (length u.memories) u.procedures p) (opened_law : OpenedLaw) (sound_law : SoundLaw) (fits_law : FitsAtLaw) (Runs : ℕ → Type 0) where
  abbrev world : World
  world = program_world u

  abbrev fields : ℕ → Option Kind
  fields = field_kind u.fields

  abbrev table : Extents
  table = extents_of p

  abbrev roots : Roots
  roots = roots_of p

  abbrev w : Words
  w = words_of u p

  abbrev claims_of_call : ℕ → List Argument → List Claim
  claims_of_call k args = call_claims w u table roots (written_by u k) (slice_get u.procedures k) args

  -- a call of a procedure that runs does not fault where its claims hold
  abbrev pub CallsRun : Type 0
  CallsRun = (k : ℕ) (args : List Argument) (scope : Scope) (root : ℕ → ℕ) (t : State) → Runs k → is_call fields scope root (world.callees k) args ≡ true → IsSound t → IsSorted world.kinds scope t → IsDescribed table scope t.scene → SeesRoots roots scope t.scene → Hold t.scene (claims_of_call k args) → Each (IsKeptApart t.scene args) (claims_of_call k args) → IsSome (call_to (world.callees k) args t)

  -- a block of p, with the states in which a run is at its begin
  pub record Stands (outer : Path) (branch : Branch) (n : ℕ) (b : Block) (scope : Scope) (root : ℕ → ℕ) (At : State → Type 0) : Type 0 where
    pub leads : Leads world p outer branch n b scope At
    pub formed : is_block fields (length u.memories) world.callees scope root b ≡ true
    pub agrees : Agrees table b
    pub claimed : Each (ClaimHolds world p) (block_claims w u table roots outer branch n b)
    pub callees_run : (k : ℕ) → calls b k ≡ true → Runs k
    pub described : (t : State) → At t → IsDescribed table scope t.scene

  reached_sound : (path : Path) (piece : Block) (scope : Scope) (t : State) → Reaches world p path piece scope t → IsSound t
  reached_sound path piece scope t r = sound_law world p r.place.piece r.place.around r.start t r.good r.comes

  from_body_same : (count : ℕ) (path : Path) (o : _) → opened count path p.body ≡ Some o → fill o.around o.piece ≡ p.body
  from_body_same count path o e = opened_law count path p.body o e

  reached_sorted : (path : Path) (piece : Block) (scope : Scope) (t : State) → Reaches world p path piece scope t → IsSorted world.kinds scope t
  reached_sorted path piece scope t r = subst (λ c. IsSorted world.kinds c t) r.scope_is (fits_law u.fields (length u.memories) u.procedures p r.place.around r.place.piece may (sym (from_body_same 1 path r.place r.is_there)) r.start t r.good r.comes)

  reached_roots : (path : Path) (piece : Block) (scope : Scope) (t : State) → Reaches world p path piece scope t → SeesRoots roots scope t.scene
  reached_roots path piece scope t r = subst (λ c. SeesRoots roots c t.scene) r.scope_is (roots_seen u p may r.place r.start t (sym (from_body_same 1 path r.place r.is_there)) r.good r.comes)

  module _ (outer : Path) (branch : Branch) (n : ℕ) (a : Statement) (b : Block) (scope : Scope) (root : ℕ → ℕ) (At : State → Type 0) (s : Stands outer branch n (next a b) scope root At) where
    abbrev path : Path
    path = path_below outer branch n

    formed_parts : (is_statement fields (length u.memories) world.callees scope root a ≡ true) × (is_block fields (length u.memories) world.callees (scope_after a scope) (roots_after a root) b ≡ true)
    formed_parts = and_parts (is_statement fields (length u.memories) world.callees scope root a) _ s.formed

    first_claimed : Each (ClaimHolds world p) (placed_at path (own_claims w u table roots a) ++ inner_claims w u table roots path a)
    first_claimed = each_left (ClaimHolds world p) (placed_at path (own_claims w u table roots a) ++ inner_claims w u table roots path a) (block_claims w u table roots outer branch (suc n) b) s.claimed

    own_claimed : Each (ClaimHolds world p) (placed_at path (own_claims w u table roots a))
    own_claimed = each_left (ClaimHolds world p) (placed_at path (own_claims w u table roots a)) (inner_claims w u table roots path a) first_claimed

    pub inner_claimed : Each (ClaimHolds world p) (inner_claims w u table roots path a)
    inner_claimed = each_right (ClaimHolds world p) (placed_at path (own_claims w u table roots a)) (inner_claims w u table roots path a) first_claimed

    pub reaches : (t : State) → At t → Reaches world p path (next a end) scope t
    reaches t h = leads_here world p outer branch n a b scope At s.leads t h

    pub held : (t : State) → At t → Hold t.scene (own_claims w u table roots a)
    held t h = claims_here world p path (next a end) scope t (reaches t h) (own_claims w u table roots a) own_claimed

    pub kept_apart : (t : State) → At t → Each (IsKeptApart t.scene (passed_by a)) (own_claims w u table roots a)
    kept_apart t h = apart_here world p path (next a end) scope t (reaches t h) (own_claims w u table roots a) own_claimed

    pub rest_stands : Stands outer branch (suc n) b (scope_after a scope) (roots_after a root) (Later world p a At)
    rest_stands = record {
      leads = leads_next world p outer branch n a b scope At s.leads;
      formed = formed_parts.1;
      agrees = s.agrees.1;
      claimed = each_right (ClaimHolds world p) (placed_at path (own_claims w u table roots a) ++ inner_claims w u table roots path a) (block_claims w u table roots outer branch (suc n) b) s.claimed;
      callees_run = λ k e. s.callees_run k (or_right (step_calls a k) (calls b k) e);
      described = λ t h. if_gives (λ (t : State). IsDescribed table (scope_after a scope) t.scene) (step world a h.0) t (step_described world fields (length u.memories) world.callees table scope root h.0 (s.described h.0 h.1) a formed_parts.0 s.agrees.0) h.2;
    }

  -- ---- branches and loops

  module _ (outer : Path) (branch : Branch) (n : ℕ) (rest : Block) (scope : Scope) (root : ℕ → ℕ) (At : State → Type 0) where
    module _ (c : Condition) (a b : Block) (s : Stands outer branch n (next (If c a b) rest) scope root At) where
      both_formed : (is_block fields (length u.memories) world.callees scope root a && is_block fields (length u.memories) world.callees scope root b) ≡ true
      both_formed = (and_parts (not (is_empty a) && (is_short a && is_short b)) _ (and_parts (is_condition fields with_fields scope c) _ (formed_parts outer branch n (If c a b) rest scope root At s).0).1).1

      pub then_stands : Stands (path_below outer branch n) Main 0 a scope root (λ t. At t × (holds t.scene c ≡ true))
      then_stands = record {
        leads = leads_then world p outer branch n rest scope At c a b s.leads;
        formed = (and_parts (is_block fields (length u.memories) world.callees scope root a) _ both_formed).0;
        agrees = s.agrees.0.0;
        claimed = each_left (ClaimHolds world p) (block_claims w u table roots (path_below outer branch n) Main 0 a) (block_claims w u table roots (path_below outer branch n) Else 0 b) (inner_claimed outer branch n (If c a b) rest scope root At s);
        callees_run = λ k e. s.callees_run k (or_left (calls a k || calls b k) (calls rest k) (or_left (calls a k) (calls b k) e));
        described = λ t h. s.described t h.0;
      }

      pub else_stands : Stands (path_below outer branch n) Else 0 b scope root (λ t. At t × (holds t.scene c ≡ false))
      else_stands = record {
        leads = leads_else world p outer branch n rest scope At c a b s.leads;
        formed = (and_parts (is_block fields (length u.memories) world.callees scope root a) _ both_formed).1;
        agrees = s.agrees.0.1;
        claimed = each_right (ClaimHolds world p) (block_claims w u table roots (path_below outer branch n) Main 0 a) (block_claims w u table roots (path_below outer branch n) Else 0 b) (inner_claimed outer branch n (If c a b) rest scope root At s);
        callees_run = λ k e. s.callees_run k (or_left (calls a k || calls b k) (calls rest k) (or_right (calls a k) (calls b k) e));
        described = λ t h. s.described t h.0;
      }

    module _ (i : Binder) (lo hi : Control) (b : Block) (s : Stands outer branch n (next (For i lo hi b) rest) scope root At) where
      loop_formed : (is_new scope i ≡ true) × (is_block fields (length u.memories) world.callees (with_name scope i (ControlName Index)) root b ≡ true)
      loop_formed =
          let q = and_parts (is_new scope i) _ (formed_parts outer branch n (For i lo hi b) rest scope root At s).0 in
          let r = and_parts (is_control fields plainly scope lo && is_control fields plainly scope hi) _ q.1 in
          (q.0, (and_parts (not (is_empty b) && is_short b) _ r.1).1)

      pub loop_stands : Stands (path_below outer branch n) Main 0 b (with_name scope i (ControlName Index)) root (InTurn world p outer branch n rest scope At i lo hi b)
      loop_stands = record {
        leads = leads_loop world p outer branch n rest scope At i lo hi b opened_law s.leads;
        formed = loop_formed.1;
        agrees = s.agrees.0;
        claimed = inner_claimed outer branch n (For i lo hi b) rest scope root At s;
        callees_run = λ k e. s.callees_run k (or_left (calls b k) (calls rest k) e);
        described = λ t h. subst (λ (z : State). IsDescribed table (with_name scope i (ControlName Index)) z.scene) (sym h.state_is) (control_described table scope i h.turn_is Index h.before.scene loop_formed.0 (same_described table scope h.outside.scene h.before.scene h.same (s.described h.outside h.at_outside)));
      }

  -- ---- the induction

  configured : (f : ℕ) (a : Argument) (scope : Scope) (t : State) (o : Option Kind) → fields f ≡ o → is_write fields scope o a ≡ true → Hold t.scene (write_claims w o a) → IsSome (step world (Config f a) t)
  configured f a scope t None e h m = no_test h
  configured f a scope t (Some kind) e h m =
      succeeds_some (λ z. Unit {0}) (step world (Config f a) t)
      (succeeds_then (λ n. suits kind n ≡ true) (λ z. Unit {0}) (argument_number t.scene a) _ (given_suits w fields with_strides scope t.scene kind a h m) (λ n k.
      succeeds_where (λ z. Unit {0}) (suits (world.kinds f) n) (Some (on_scene (with_field f n) t)) (ap (λ z. suits z n) (kind_is u.fields f kind e) ∙ k) tt))

  module _ (calls_run : CallsRun) where
    mutual
      pub block_runs : (b : Block) (outer : Path) (branch : Branch) (n : ℕ) (scope : Scope) (root : ℕ → ℕ) (At : State → Type 0) → Stands outer branch n b scope root At → (t : State) → At t → IsSome (run world b t)
      block_runs end outer branch n scope root At s t h = refl
      block_runs (next a b) outer branch n scope root At s t h =
          let x = there_some (step world a t) (step_runs a b outer branch n scope root At s t h) in
          subst (λ o. IsSome (then_do o (run world b))) (sym x.1)
          (block_runs b outer branch (suc n) (scope_after a scope) (roots_after a root) (Later world p a At) (rest_stands outer branch n a b scope root At s) x.0 (t, h, x.1))

      step_runs : (a : Statement) (b : Block) (outer : Path) (branch : Branch) (n : ℕ) (scope : Scope) (root : ℕ → ℕ) (At : State → Type 0) → Stands outer branch n (next a b) scope root At → (t : State) → At t → IsSome (step world a t)
      step_runs (Assign x is e) b outer branch n scope root At s t h =
          succeeds_some (λ z. Unit {0}) (step world (Assign x is e) t) (store_there w fields table scope t (s.described t h) (reached_sound (path_below outer branch n) (next (Assign x is e) end) scope t (reaches outer branch n (Assign x is e) b scope root At s t h)) x is e (λ v old. v) (formed_parts outer branch n (Assign x is e) b scope root At s).0 (held outer branch n (Assign x is e) b scope root At s t h))
      step_runs (Reduce x is e) b outer branch n scope root At s t h =
          succeeds_some (λ z. Unit {0}) (step world (Reduce x is e) t) (store_there w fields table scope t (s.described t h) (reached_sound (path_below outer branch n) (next (Reduce x is e) end) scope t (reaches outer branch n (Reduce x is e) b scope root At s t h)) x is e (λ v old. on_two ◌+ℤ◌ old v) (formed_parts outer branch n (Reduce x is e) b scope root At s).0 (held outer branch n (Reduce x is e) b scope root At s t h))
      step_runs (Config f a) b outer branch n scope root At s t h =
          configured f a scope t (fields f) refl (formed_parts outer branch n (Config f a) b scope root At s).0 (held outer branch n (Config f a) b scope root At s t h)
      step_runs Pass b outer branch n scope root At s t h = refl
      step_runs (If c x y) b outer branch n scope root At s t h =
          map_some (left t) (choose (holds t.scene c) (run world x) (run world y) t) (by_test (holds t.scene c)
          (λ e. subst (λ z. IsSome (choose z (run world x) (run world y) t)) (sym e) (block_runs x (path_below outer branch n) Main 0 scope root (λ t. At t × (holds t.scene c ≡ true)) (then_stands outer branch n b scope root At c x y s) t (h, e)))
          (λ e. subst (λ z. IsSome (choose z (run world x) (run world y) t)) (sym e) (block_runs y (path_below outer branch n) Else 0 scope root (λ t. At t × (holds t.scene c ≡ false)) (else_stands outer branch n b scope root At c x y s) t (h, e))))
      step_runs (For i lo hi x) b outer branch n scope root At s t h =
          turns_run i.id (run world x) t (turns_of t.scene lo hi) t (record { control = refl; views = refl }) (λ m q z same.
          map_some (left q) (run world x (on_scene (with_control i.id m) q))
          (block_runs x (path_below outer branch n) Main 0 (with_name scope i (ControlName Index)) root (InTurn world p outer branch n b scope At i lo hi x) (loop_stands outer branch n b scope root At i lo hi x s) (on_scene (with_control i.id m) q)
          (record { outside = t; at_outside = h; turn_is = m; before = q; comes = z; same = same; state_is = refl })))
      step_runs (Alloc x cell dims memory) b outer branch n scope root At s t h =
          succeeds_some (λ z. Unit {0}) (step world (Alloc x cell dims memory) t) (succeeds_where (λ z. Unit {0}) (all_positive (numbers t.scene dims)) _ (dims_positive w t.scene dims (held outer branch n (Alloc x cell dims memory) b scope root At s t h)) tt)
      step_runs (View v x cs) b outer branch n scope root At s t h =
          let q = and_parts (is_new scope v) (is_window fields scope x cs && nat_lt 0 (spans cs)) (formed_parts outer branch n (View v x cs) b scope root At s).0 in
          let r = and_parts (is_window fields scope x cs) (nat_lt 0 (spans cs)) q.1 in
          let d = s.described t h in
          let sound = reached_sound (path_below outer branch n) (next (View v x cs) end) scope t (reaches outer branch n (View v x cs) b scope root At s t h) in
          succeeds_some (λ z. Unit {0}) (step world (View v x cs) t) (succeeds_then (IsPart w fields table scope t d sound x cs) (λ z. Unit {0}) (window t.scene x cs) _ (window_there w fields table scope t d sound x cs r.0 (held outer branch n (View v x cs) b scope root At s t h)) (λ seen k. tt))
      step_runs (Call k args) b outer branch n scope root At s t h =
          let r = reaches outer branch n (Call k args) b scope root At s t h in
          let path = path_below outer branch n in
          let piece = next (Call k args) end in
          calls_run k args scope root t (s.callees_run k (or_left (k == k) (calls b k) (same_number k))) (formed_parts outer branch n (Call k args) b scope root At s).0
          (reached_sound path piece scope t r) (reached_sorted path piece scope t r) (s.described t h) (reached_roots path piece scope t r)
          (held outer branch n (Call k args) b scope root At s t h) (kept_apart outer branch n (Call k args) b scope root At s t h)
