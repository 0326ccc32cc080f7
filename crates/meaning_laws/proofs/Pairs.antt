-- Two turns of both loops commute where their footprints do not clash.
use Rattle.std.proofs.Common.{◌≡◌, ℕ, ℤ, Option, Some, None, IfSome, option_map, refl, sym, ap, ap₂, ◌∙◌}
use Rattle.std.proofs.Math.Path.{fun_ext}
use Rattle.exo_tree.specs.Tree.{Kind, Block}
use Rattle.exo_meaning.specs.Scene.{then_do}
use Rattle.exo_meaning.specs.State.{State, Cells, left, on_scene, with_control}
use Rattle.exo_meaning.specs.Run.{World, run}
use Rattle.exo_meaning.specs.Laws.{without_calls, no_entries}
use Rattle.exo_meaning.specs.Nests.{both_turns}
use Rattle.exo_meaning.specs.Orders.{HasScene}
use Rattle.exo_meaning.proofs.Nested.{kept_twice}
use Rattle.exo_meaning.proofs.Frame.{if_map, here}
use Rattle.exo_meaning.proofs.Deltas.{run_exchanges, scoped_exchanges}
use Rattle.exo_meaning.proofs.Changes.{run_changes, scoped_changes}
use Rattle.exo_meaning.proofs.Together.{either_order}
use Rattle.meaning_laws.specs.Pairs.{LeavesFields, pair_touches, PairsCommute}

module _ (kinds : ℕ → Kind) (i j : ℕ) (b : Block) (leaves : LeavesFields (without_calls kinds) b) where
  abbrev world : World
  world = without_calls kinds

  abbrev deep : ℤ × ℤ → State → State
  deep x s = on_scene (with_control j x.1) (on_scene (with_control i x.0) s)

  -- both turns in one scope
  abbrev in_one : ℤ × ℤ → State → Option State
  in_one x s = option_map (left s) (run world b (deep x s))

  one_scope : (x : ℤ × ℤ) → both_turns i j (run world b) x ≡ in_one x
  one_scope x = fun_ext (λ s. scopes s (run world b (deep x s)))
    where
      scopes : (s : State) (o : Option State) → option_map (left s) (option_map (left (on_scene (with_control i x.0) s)) o) ≡ option_map (left s) o
      scopes s None = refl
      scopes s (Some t) = ap {A = Cells} (λ c. Some (record { scene = record s.scene { fields = t.scene.fields }; cells = c })) (fun_ext (λ z. fun_ext (λ at. kept_twice (s.scene.buffers z) (t.cells z) at)))

  same_scene : (x : ℤ × ℤ) (s : State) → IfSome (in_one x s) (HasScene s.scene)
  same_scene x s = if_map (λ t. run world b (deep x s) ≡ Some t) (HasScene s.scene) (run world b (deep x s)) (left s) (here (run world b (deep x s))) (λ t e. ap (λ f. record s.scene { fields = f }) (leaves (deep x s) t e))

pub pairs_commute : PairsCommute
pairs_commute kinds i j b u x y leaves clear s at =
    let world = without_calls kinds in
    let deep_x = on_scene (with_control j x.1) (on_scene (with_control i x.0) s) in
    let deep_y = on_scene (with_control j y.1) (on_scene (with_control i y.0) s) in
    let h = clear s at in
    ap₂ (λ (f g : State → Option State). then_do (f s) g) (one_scope kinds i j b leaves x) (one_scope kinds i j b leaves y)
    ∙ either_order (in_one kinds i j b leaves x) (in_one kinds i j b leaves y) (pair_touches world i j b x s) (pair_touches world i j b y s) s h.0 h.1
    (λ d l p. scoped_exchanges d (run world b) s deep_x l (run_exchanges d world no_entries (λ q args t l p. refl) b deep_x l p))
    (λ d l p. scoped_exchanges d (run world b) s deep_y l (run_exchanges d world no_entries (λ q args t l p. refl) b deep_y l p))
    (in_one kinds i j b leaves x s) (in_one kinds i j b leaves y s) refl refl
    (scoped_changes (pair_touches world i j b x s) (run world b) s deep_x at.1 refl refl (run_changes world no_entries (λ q args t h. tt) b deep_x at.1))
    (scoped_changes (pair_touches world i j b y s) (run world b) s deep_y at.1 refl refl (run_changes world no_entries (λ q args t h. tt) b deep_y at.1))
    (same_scene kinds i j b leaves x s) (same_scene kinds i j b leaves y s)
    ∙ sym (ap₂ (λ (f g : State → Option State). then_do (g s) f) (one_scope kinds i j b leaves x) (one_scope kinds i j b leaves y))
