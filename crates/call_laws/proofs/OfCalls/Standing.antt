-- What holds where a run comes to a call.
use Rattle.std.proofs.Common.{◌≡◌, ℕ, true≢false, List, [], ◌∷◌, Option, Some, None, IsSome, map, refl, sym}
use Rattle.exo_tree.specs.Tree.{Kind, ParamKind, ControlParam, TensorParam, WindowParam, Param}
use Rattle.exo_tree.specs.Renaming.{fresh_id, re_kind, re_param}
use Rattle.exo_meaning.specs.Calls.{Given, GivenNumber, GivenView, all_given}
use Rattle.exo_meaning.specs.State.{State}
use Rattle.exo_meaning.specs.Units.{Scope, field_kind}
use Rattle.meaning_laws.specs.Sorted.{IsSorted}
use Rattle.meaning_laws.proofs.FirstState.{Matches, AllMatch, all_match}
use Rattle.meaning_laws.proofs.Names.{if_gives}
use Rattle.meaning_laws.proofs.Sound.{IsThere, AreThere, all_there}
use Rattle.inplace_laws.specs.CallInPlace.{HasType, HaveTypes}
use Rattle.match_laws.specs.Inline.FreshCallee.{ids_of}
use Rattle.step_rules.specs.Lawful.{scope_here, world_of}
use Rattle.step_rules.proofs.Replaced.{stands}
use Rattle.call_laws.specs.Calls.Here.{CallsStandThere}
use Rattle.call_laws.proofs.OfCalls.Here.{args_for}

there_is : {A : Type 0} (o : Option A) → IsSome o → (a : A) × (o ≡ Some a)
there_is None h = absurd (true≢false (sym h))
there_is (Some a) h = (a, refl)

module _ (fields : ℕ → Option Kind) (kinds : ℕ → Kind) (scope : Scope) (s : State)
    (sorted : IsSorted kinds scope s) (to : ℕ → ℕ) where
  one : (kind : ParamKind) (g : Given) → Matches fields kinds scope s sorted kind g → IsThere s g
      → HasType s (re_kind to kind) g
  one (ControlParam kind) g h k = tt
  one (TensorParam cell dims memory) (GivenNumber n) h k = tt
  one (TensorParam cell dims memory) (GivenView z) h k =
      let b = there_is (s.scene.buffers z.buffer) k in (b.0, b.1, h.0 b.0 b.1)
  one (WindowParam cell dims memory) (GivenNumber n) h k = tt
  one (WindowParam cell dims memory) (GivenView z) h k =
      let b = there_is (s.scene.buffers z.buffer) k in (b.0, b.1, h b.0 b.1)

  pub all : (ps : List Param) (gs : List Given) → AllMatch fields kinds scope s sorted ps gs
      → AreThere s gs → HaveTypes s (map (re_param to) ps) gs
  all [] gs h k = tt
  all (p ∷ ps) [] h k = tt
  all (p ∷ ps) (g ∷ gs) h k = (one p.kind g h.0 k.0, all ps gs h.1 k.1)

pub calls_stand_there : CallsStandThere
calls_stand_there s base c q is called there first u good come =
    let st = stands s is first u good come in
    let fields = field_kind s.target.unit.fields in
    let kinds = (world_of s).kinds in
    let scope = scope_here s in
    λ gs e.
    all fields kinds scope u st.sorted (fresh_id (ids_of q) base) q.params gs
    (if_gives (AllMatch fields kinds scope u st.sorted q.params) (all_given u.scene c.args) gs
    (all_match fields kinds scope u st.sorted q.params c.args (args_for s c q is called there)) e)
    (if_gives (AreThere u) (all_given u.scene c.args) gs (all_there u c.args st.sound) e)
