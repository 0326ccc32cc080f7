-- What may stand for the piece may be put in its place, under other names too.
use Rattle.std.proofs.Common.{◌≡◌, ℕ, Bool, true, false, List, [], refl, sym, ap, ◌∙◌}
use Rattle.std.proofs.Common.{if◌then◌else◌, ◌&&◌}
use Rattle.std.proofs.Math.Path.{fun_ext}
use Rattle.std.proofs.Math.Nat.{not-suc-le-zero}
use Rattle.std.specs.Prelude.{length}
use Rattle.exo_tree.specs.Tree.{Pass, Block, end, next, joined, Procedure}
use Rattle.exo_tree.specs.Context.{Context, Here, After, InLoop, InThen, InElse, fill}
use Rattle.exo_meaning.specs.Scene.{then_do, holds, where_true}
use Rattle.exo_meaning.specs.State.{State, scoped}
use Rattle.exo_meaning.specs.Run.{World, run, step, choose, turn, turns, turns_of, kinds_of}
use Rattle.exo_meaning.specs.Inputs.{IsAdmissible, Refines, run_procedure, all_have_extents}
use Rattle.meaning_laws.specs.Context.{ComesTo}
use Rattle.exo_meaning.proofs.Compose.{compose}
use Rattle.meaning_laws.proofs.SameRuns.{same_runs_refine}
use Rattle.meaning_laws.proofs.Replace.{context_law}
use Rattle.meaning_laws.proofs.Copies.{place_sound, place_unbound}
use Rattle.meaning_laws.proofs.Sorted.{fits_at_law}
use Rattle.meaning_laws.proofs.Made.{made_law}
use Rattle.place_laws.specs.Scope.Bare.{bare}
use Rattle.place_laws.proofs.OfScope.Bare.{same_but_for_names}
use Rattle.place_laws.proofs.OfScope.Roots.{names_have_roots}
use Rattle.config_laws.proofs.OfLive.LiveFits.{live_fits}
use Rattle.tree_edits.specs.Made.Passes.{or_pass, is_alone}
use Rattle.exo_meaning.specs.Units.{field_kind}
use Rattle.step_rules.specs.Rule.{Spot}
use Rattle.step_rules.specs.Lawful.{IsSpot, Stands, callees_for, around, old, world_of}
use Rattle.step_rules.specs.Lawful.{with_block, Replaces, same, hiding, dead, whole}
use Rattle.step_rules.specs.Replacement.{ReplacedRefines}

-- ---- runs

-- blocks that do the same do the same in a hole
pub same_in : (world : World) (b d : Block) → run world b ≡ run world d → (c : Context)
    → run world (fill c b) ≡ run world (fill c d)
same_in world b d h (Here rest) = before b d h
  where
    before : (b d : Block) → run world b ≡ run world d
        → run world (joined b rest) ≡ run world (joined d rest)
    before b d h = fun_ext (λ s. parts b s ∙ ap (λ f. then_do (f s) (run world rest)) h
        ∙ sym (parts d s))
      where
        parts : (b : Block) (s : State)
            → run world (joined b rest) s ≡ then_do (run world b s) (run world rest)
        parts b s = compose world b rest s
same_in world b d h (After a c) = fun_ext (λ s. ap (then_do (step world a s))
    (same_in world b d h c))
same_in world b d h (InLoop i lo hi c rest) = fun_ext (λ s. ap (λ f.
    then_do (turns (turn i.id f) (turns_of s.scene lo hi) s) (run world rest))
    (same_in world b d h c))
same_in world b d h (InThen t c other rest) = fun_ext (λ s. ap (λ f.
    then_do (scoped (choose (holds s.scene t) f (run world other)) s) (run world rest))
    (same_in world b d h c))
same_in world b d h (InElse t other c rest) = fun_ext (λ s. ap (λ f.
    then_do (scoped (choose (holds s.scene t) (run world other) f) s) (run world rest))
    (same_in world b d h c))

-- a `pass` does nothing
pub passed : (world : World) (c : Context) (b : Block) → run world (or_pass c b) ≡ run world b
passed world c (next a b) = by (is_alone c)
  where
    by : (t : Bool)
        → run world (if t && false then next Pass end else next a b) ≡ run world (next a b)
    by true = refl
    by false = refl
passed world c end = by (is_alone c)
  where
    by : (t : Bool) → run world (if t && true then next Pass end else end) ≡ run world end
    by true = fun_ext (λ s. refl)
    by false = refl

-- under other names, with a `pass` where a block would be empty, a body does the same
pub stands_at_last : (world : World) (c : Context) (draft body : Block)
    → bare body ≡ bare (fill c (or_pass c draft)) → run world body ≡ run world (fill c draft)
stands_at_last world c draft body named =
    same_but_for_names world body (fill c (or_pass c draft)) named
    ∙ same_in world (or_pass c draft) draft (passed world c draft) c

-- ---- refinement

-- what is true but for no field is true but for some
pub but_for_some : (world : World) (p q : Procedure) (but : List ℕ) → Refines world p q []
    → Refines world p q but
but_for_some world p q but refined = record {
  cells = refined.cells;
  fields = λ s t u good i j f out. refined.fields s t u good i j f (λ none. not-suc-le-zero none.1);
}

-- the name of a procedure is of no account, nor how its body is written
pub written_otherwise : (world : World) (p q : Procedure) (name : List ℕ) (b : Block)
    (but : List ℕ) → run world b ≡ run world q.body → Refines world p q but
    → Refines world p (record q { name = name; body = b }) but
written_otherwise world p q name b but alike refined = record {
  cells = λ s t u good i j. refined.cells s t u good i (is s ∙ j);
  fields = λ s t u good i j. refined.fields s t u good i (is s ∙ j);
}
  where
    is : (s : State) → run_procedure world q s
        ≡ run_procedure world (record q { name = name; body = b }) s
    is s = ap (λ f. where_true (all_have_extents s.scene q.params) (f s)) (sym alike)

-- ---- at the piece

module _ (s : Spot) (is : IsSpot s) where
  -- all that is known where a run comes to the piece
  pub stands : (first u : State) → IsAdmissible (world_of s) s.target.proc first
      → ComesTo (world_of s) (old s) (around s) first u → Stands s u
  stands first u good come =
      let unit = s.target.unit in
      let memories = length unit.memories in
      let p = s.target.proc in
      record {
        sound = place_sound (world_of s) p (old s) (around s) first u good come;
        sorted = fits_at_law unit.fields memories unit.procedures p (around s) (old s) is.runs
            is.body first u good come;
        roots = names_have_roots unit.fields memories unit.procedures p (around s) (old s) first u
            is.runs good come;
        free = place_unbound (world_of s) p (old s) (around s) first u good come;
        made = (made_law (field_kind unit.fields) memories (callees_for s.target) (world_of s) p
            (around s) (old s) first u is.runs.procedure is.body good come).made;
      }

  -- what may stand for the piece refines the procedure when it stands there
  pub put_in : (new : Block) (but : List ℕ) → Replaces s new but
      → Refines (world_of s) s.target.proc (with_block s new) but
  put_in new but (same may) =
      but_for_some (world_of s) s.target.proc (with_block s new) but
      (same_runs_refine (world_of s) (around s) (old s) new s.target.proc is.body
      (λ first u good come. may first u good come (stands first u good come)))
  put_in new but (hiding hidden unused may) =
      but_for_some (world_of s) s.target.proc (with_block s new) but
      (context_law (kinds_of s.target.unit.fields) s.target.unit.procedures hidden (around s)
      (old s) new s.target.proc (with_block s new) is.body refl unused
      (λ first u good come. may first u good come (stands first u good come)))
  put_in new but (dead calls out fine forget exit may) =
      live_fits s.target.unit.fields (length s.target.unit.memories) s.target.unit.procedures calls
      (around s) (old s) new s.target.proc (with_block s new) out but forget is.body refl fine exit
      (λ first u good come. may first u good come (stands first u good come))
  put_in new but (whole refined) = refined

pub replaced_refines : ReplacedRefines
replaced_refines s draft body but is named may =
    written_otherwise (world_of s) s.target.proc (with_block s draft) s.target.proc.name body but
    (stands_at_last (world_of s) (around s) draft body named) (put_in s is draft but may)
