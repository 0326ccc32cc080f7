-- The load nest, and the way into the staged buffer.
use Rattle.std.proofs.Common.{◌≡◌, ℕ, ℤ, ◌==◌, Bool, true, false, cond, List, [], ◌∷◌, Option, Some}
use Rattle.std.proofs.Common.{refl, sym, ap, ◌∙◌, subst, eqb-true, eq-eqb}
use Rattle.std.proofs.Math.Path.{fun_ext}
use Rattle.exo_tree.specs.Tree.{Coord, Cell, Assign, Read}
use Rattle.exo_meaning.specs.Value.{Value, Undefined, stored_as}
use Rattle.exo_meaning.specs.Scene.{Shape, Seen, Scene, then_do, cell_at, narrowed, window, extents}
use Rattle.exo_meaning.specs.Scene.{updated, where_true}
use Rattle.exo_meaning.specs.State.{State, Cells, with_control, with_contents, with_buffer}
use Rattle.exo_meaning.specs.Calls.{contents, held_at}
use Rattle.exo_meaning.specs.Run.{World, run, allocate, tensor}
use Rattle.exo_meaning.proofs.Frame.{updated_other}
use Rattle.exo_meaning.proofs.Windows.{one_value}
use Rattle.inplace_laws.specs.Windows.{shifted}
use Rattle.inplace_laws.specs.Filled.{Loop, nest}
use Rattle.inplace_laws.specs.Staged.{staged}
use Rattle.inplace_laws.proofs.Load.{loads}
use Rattle.inplace_laws.proofs.Hits.{set_all, vars}
use Rattle.buffer_laws.specs.Staging.Stores.{AtAny, load_nest, IsStaging, FitInto, LoadsLaw, emptied}
use Rattle.buffer_laws.specs.Staging.Stores.{StageInLaw}
use Rattle.buffer_laws.proofs.OfStaging.Stores.{vars_same, are_new, in_whole, in_sides, box_covers}
use Rattle.buffer_laws.proofs.OfStaging.Stores.{same_views, Under, under}
use Rattle.buffer_laws.proofs.OfStaging.Box.{box_law}

pub set_none : (ls : List Loop) (scene : Scene) → set_all ls [] scene ≡ scene
set_none [] scene = refl
set_none (l ∷ ls) scene = refl

pub same_control : (i : ℕ) (scene : Scene) → with_control i (scene.control i) scene ≡ scene
same_control i scene = ap (λ f. record scene { control = f }) (fun_ext (λ j. go j (j == i) refl))
  where
    go : (j : ℕ) (t : Bool) → (j == i) ≡ t → cond t (scene.control i) (scene.control j)
        ≡ scene.control j
    go j false e = refl
    go j true e = ap scene.control (sym (eqb-true j i e))

-- also where not all of the variables are set
pub at_all : (ls : List Loop) (P : Scene → Type 0) (scene : Scene) → AtAny ls P scene
    → (at : List ℤ) → P (set_all ls at scene)
at_all [] P scene h at = h
at_all (l ∷ ls) P scene h [] =
    let i = l.binder.id in
    let z = with_control i (scene.control i) scene in
    subst P (set_none ls z ∙ same_control i scene) (at_all ls P z (h (scene.control i)) [])
at_all (l ∷ ls) P scene h (i ∷ at) = at_all ls P (with_control l.binder.id i scene) (h i) at

module _ (world : World) (a x : ℕ) (cell : Cell) (seen : Seen) (coords : List Coord)
    (ls : List Loop) (s : State) (h : IsStaging a x seen coords ls s) (fit : FitInto s seen.buffer
    a)
    (there : s.scene.buffers a ≡ Some (tensor cell (extents seen.sides)))
    (empty : (at : List ℤ) → s.cells a at ≡ Undefined) where
  pub here : window s.scene x coords ≡ Some seen
  here = subst (λ z. window z x coords ≡ Some seen) (set_none ls s.scene)
      (at_all ls (λ z. window z x coords ≡ Some seen) s.scene h.window [])

  at_root : Under s.scene x coords seen
  at_root = under s.scene x coords seen here

  steady : (at : List ℤ) → narrowed (set_all ls at s.scene) at_root.root.sides coords ≡ Some
      seen.sides
  steady at =
      let z = set_all ls at s.scene in
      let u = under z x coords seen (at_all ls (λ z. window z x coords ≡ Some seen) s.scene h.window
      at) in
      ap (λ (r : Seen). narrowed z r.sides coords) (one_value at_root.root u.root (sym at_root.name
      ∙ ap (λ f. f x) (sym (same_views ls at s.scene)) ∙ u.name)) ∙ u.sides

  load : run world (nest ls (Assign a (vars ls) (Read x (shifted coords (vars ls))))) s
      ≡ Some (with_contents a (contents s.cells seen) s)
  load =
      loads world s.scene s.cells a x (tensor cell (extents seen.sides)) seen at_root.root coords ls
      h.name there at_root.name at_root.same h.other (are_new ls h.distinct) steady
      (λ at b. (
        in_whole ls (extents seen.sides) s.scene at h.over b,
        in_sides ls seen.sides s.scene
            at h.over b,
      ))
      (λ at q e. box_covers ls seen.sides s.scene at q h.over e)
      (λ q. fit (tensor cell (extents seen.sides)) q there) h.tidy empty

pub loads_law : LoadsLaw
loads_law world a x cell seen coords ls s h fit there empty =
    ap (λ v. run world (nest ls (Assign a v (Read x (shifted coords v)))) s) (vars_same ls)
    ∙ load world a x cell seen coords ls s h fit there empty

-- ---- with the allocation

module _ (a : ℕ) (seen : Seen) (to : Shape) (s : State) (other : (seen.buffer == a) ≡ false) where
  abbrev dims : List ℤ
  dims = extents seen.sides

  abbrev nothing : Cells
  nothing = updated s.cells a (λ at. Undefined)

  root_same : nothing seen.buffer ≡ s.cells seen.buffer
  root_same = updated_other s.cells a (λ at. Undefined) seen.buffer other

  pub nothing_there : (at : List ℤ) → nothing a at ≡ Undefined
  nothing_there at = ap (λ q. cond {A = List ℤ → Value} q (λ at. Undefined) (s.cells a) at)
      (eq-eqb a a refl)

  pub own_there : (emptied a to.cell dims s).scene.buffers a ≡ Some (tensor to.cell dims)
  own_there = ap (λ q. cond {A = Option Shape} q (Some (tensor to.cell dims)) (s.scene.buffers a))
      (eq-eqb a a refl)

  pub fits_own : s.scene.buffers seen.buffer ≡ Some to → FitInto s seen.buffer seen.buffer
      → FitInto (emptied a to.cell dims s) seen.buffer a
  fits_own there fit z at e =
      let same : tensor to.cell dims ≡ z = one_value (tensor to.cell dims) z (sym own_there ∙ e) in
      subst (λ (c : List ℤ → Value). stored_as z.cell (c at) ≡ c at) (sym root_same)
      (subst (λ (y : Shape). stored_as y.cell (s.cells seen.buffer at) ≡ s.cells seen.buffer at)
      same (fit to at there))

  pub staged_is : with_contents a (contents nothing seen) (emptied a to.cell dims s) ≡ staged a seen
      to s
  staged_is = ap (λ c. record { scene = with_buffer a (tensor to.cell dims) s.scene; cells = c })
      (fun_ext (λ b. go b (b == a)))
    where
      go : (b : ℕ) (t : Bool) → cond {A = List ℤ → Value} t (contents nothing seen)
          (cond {A = List ℤ → Value} t (λ at. Undefined) (s.cells b)) ≡ cond {A = List ℤ → Value} t
          (contents s.cells seen) (s.cells b)
      go b true = ap (λ (d : List ℤ → Value). λ is. held_at d (cell_at seen.sides is)) root_same
      go b false = refl

pub stage_in_law : StageInLaw
stage_in_law world a ds memory x seen to coords ls s numbers_are there h fit =
    let inner : State = emptied a.id to.cell (extents seen.sides) s in
    let own = own_there a.id seen to s h.other in
    let fits = fits_own a.id seen to s h.other there fit in
    let none = nothing_there a.id seen to s h.other in
    let positive = (box_law inner.scene x coords seen (here world a.id x to.cell seen coords ls
    inner h fits own none)).1 in
    ap (λ ds. then_do (allocate a.id to.cell ds s) (run world (load_nest a.id x coords ls)))
    numbers_are
    ∙ ap (λ t. then_do (where_true t (Some inner)) (run world (load_nest a.id x coords ls)))
    positive
    ∙ loads_law world a.id x to.cell seen coords ls inner h fits own none
    ∙ ap Some (staged_is a.id seen to s h.other)
