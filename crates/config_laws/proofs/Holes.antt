-- Configuration writes in a hole.
use Rattle.std.proofs.Common.{◌≡◌, ◌==◌, ℕ, ℤ, Bool, true, false, ◌||◌, List, [], ◌∷◌}
use Rattle.std.proofs.Common.{Some, refl, sym, ap, ◌∙◌, subst, true≢false, eqb-true}
use Rattle.std.proofs.Common.{eq-eqb}
use Rattle.std.specs.Prelude.{if◌then◌else◌}
use Rattle.exo_tree.specs.Tree.{Argument, Pass, Block, end, next, Procedure}
use Rattle.exo_tree.specs.Context.{Context, rest_of}
use Rattle.exo_meaning.specs.State.{State, on_scene, with_field}
use Rattle.exo_meaning.specs.Scene.{updated}
use Rattle.exo_meaning.specs.Calls.{suits}
use Rattle.exo_meaning.specs.Run.{World, run, argument_number, configure, unit_world, kinds_of}
use Rattle.exo_meaning.proofs.Frame.{updated_other}
use Rattle.exo_meaning.proofs.Nested.{then_some}
use Rattle.meaning_laws.specs.Live.{live_behind, refield, Agree, RefinedLive}
use Rattle.meaning_laws.specs.UnitFields.{unit_live}
use Rattle.meaning_laws.proofs.Parts.{then_gives, some_injective}
use Rattle.meaning_laws.proofs.Refined.{state_same}
use Rattle.meaning_laws.proofs.Replace.{where_gives}
use Rattle.meaning_laws.proofs.UnitFields.{unit_forgets}
use Rattle.config_laws.proofs.OfLive.LiveFits.{live_fits}
use Rattle.config_laws.specs.Surely.{surely_behind, unit_surely}
use Rattle.config_laws.specs.FieldRule.{or_pass, is_first, is_listed, not_again}
use Rattle.config_laws.specs.WriteConfig.{written}
use Rattle.config_laws.specs.Holes.{with_block, WrittenRefines, LeftOutRefines}
use Rattle.config_laws.proofs.Exits.{units_go_by_exit}
use Rattle.config_laws.specs.AtEnd.{lives_at_end}
use Rattle.config_laws.proofs.AtEnd.{at_end, listed_stay_dead}
use Rattle.exo_meaning.specs.Units.{is_empty}

-- ---- what a write gives

-- the number that is written, and the state behind the write
pub write_gives : (world : World) (f : ℕ) (e : Argument) (s t : State)
    → configure world f e s ≡ Some t
    → (n : ℤ) × (argument_number s.scene e ≡ Some n) × (on_scene (with_field f n) s ≡ t)
write_gives world f e s t h =
    let p = then_gives (argument_number s.scene e) _ t h in (
      p.0,
      p.1,
      some_injective (on_scene (with_field f p.0) s) t
          (where_gives (suits (world.kinds f) p.0) (Some (on_scene (with_field f p.0) s)) t p.2),
    )

pub one_write : (world : World) (f : ℕ) (e : Argument) (s t : State)
    → run world (written f e) s ≡ Some t → configure world f e s ≡ Some t
one_write world f e s t h = sym (then_some _) ∙ h

pub left_out : (world : World) (s : State) (x y : Bool)
    → run world (if x then (if y then next Pass end else end) else end) s ≡ Some s
left_out world s true true = refl
left_out world s true false = refl
left_out world s false y = refl

-- ---- a field that is not live

module _ (f : ℕ) (behind : ℕ → Bool) (dead : behind f ≡ false) where
  pub other : (g : ℕ) (t : Bool) → (g == f) ≡ t → behind g ≡ true → (g == f) ≡ false
  other g true e k = absurd (true≢false (sym k ∙ ap behind (eqb-true g f e) ∙ dead))
  other g false e k = e

  pub not_seen : (s : State) (n : ℤ) → Agree behind (updated s.scene.fields f n) s.scene.fields
  not_seen s n g k = updated_other s.scene.fields f n g (other g (g == f) refl k)

  without : (s : State) (n : ℤ) → RefinedLive behind (on_scene (with_field f n) s) s
  without s n = record {
    middle = s;
    live = record { fields = s.scene.fields; agree = not_seen s n; same = refl };
    refined = state_same s;
  }

  within : (s : State) (n : ℤ) → RefinedLive behind s (on_scene (with_field f n) s)
  within s n = record {
    middle = on_scene (with_field f n) s;
    live = record {
      fields = updated s.scene.fields f n;
      agree = λ g k. sym (not_seen s n g k);
      same = refl;
    };
    refined = state_same (on_scene (with_field f n) s);
  }

  module _ (world : World) (e : Argument) where
    pub writes_more : (s a b : State) → Some s ≡ Some a → run world (written f e) s ≡ Some b
        → RefinedLive behind a b
    writes_more s a b i j =
        let w = write_gives world f e s b (one_write world f e s b j) in
        subst (λ z. RefinedLive behind z b) (some_injective s a i)
        (subst (RefinedLive behind s) w.2 (within s w.0))

    pub writes_less : (s a b : State) → run world (written f e) s ≡ Some a → Some s ≡ Some b
        → RefinedLive behind a b
    writes_less s a b i j =
        let w = write_gives world f e s a (one_write world f e s a i) in
        subst (RefinedLive behind a) (some_injective s b j)
        (subst (λ z. RefinedLive behind z s) w.2 (without s w.0))

-- ---- the hole

module _ (ps : List Procedure) (f : ℕ) (old : Block) (c : Context) where
  abbrev again : ℕ → Bool
  again g = surely_behind (unit_surely ps) g c

  abbrev out : ℕ → Bool
  out = lives_at_end again (f ∷ [])

  abbrev lives : ℕ → Bool
  lives g = live_behind (unit_live ps) g old c (out g)

  listed : is_listed f (f ∷ []) ≡ true
  listed = ap (λ t. t || false) (eq-eqb f f refl)

  dead_behind : live_behind (unit_live ps) f old c false ≡ false → lives f ≡ false
  dead_behind h =
      listed_stay_dead (unit_live ps) (unit_surely ps) f old c (f ∷ []) (units_go_by_exit ps) listed
      h

pub written_refines : WrittenRefines
written_refines fields memories ps p c f e was fine dead =
    let world = unit_world (kinds_of fields) ps in
    live_fits fields memories ps (unit_live ps) c end (written f e) p
    (with_block p c (written f e)) (out ps f end c) (not_again (again ps f end c) (f ∷ []))
    (unit_forgets (kinds_of fields) ps) was refl fine (at_end (again ps f end c) (f ∷ []))
    (λ s u good come g fit agree a b i j. writes_more f (lives ps f end c)
    (dead_behind ps f end c dead) world e (refield g u) a b i j)

pub left_out_refines : LeftOutRefines
left_out_refines fields memories ps p c f e was fine dead =
    let world = unit_world (kinds_of fields) ps in
    let old = written f e in
    live_fits fields memories ps (unit_live ps) c old (or_pass c end) p
    (with_block p c (or_pass c end)) (out ps f old c) (not_again (again ps f old c) (f ∷ []))
    (unit_forgets (kinds_of fields) ps) was refl fine (at_end (again ps f old c) (f ∷ []))
    (λ s u good come g fit agree a b i j. writes_less f (lives ps f old c)
    (dead_behind ps f old c dead) world e (refield g u) a b i
    (sym (left_out world (refield g u) (is_first c) (is_empty (rest_of c))) ∙ j))
