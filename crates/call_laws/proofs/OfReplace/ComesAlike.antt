-- Runs come to blocks that run alike alike.
use Rattle.std.proofs.Common.{◌≡◌, ℕ, ℤ, List, [], ◌∷◌, Option, option_map, sym, ap, ◌∙◌}
use Rattle.exo_tree.specs.Places.{Opened}
use Rattle.exo_tree.specs.Tree.{Block, Procedure}
use Rattle.exo_tree.specs.Context.{Context, Here, After, InLoop, InThen, InElse, fill}
use Rattle.exo_meaning.specs.State.{State, left, on_scene, with_control}
use Rattle.exo_meaning.specs.Run.{World, run, turn, turns_of}
use Rattle.exo_meaning.specs.Inputs.{IsAdmissible}
use Rattle.meaning_laws.specs.Context.{ComesToTurn, now, later, ComesTo}
use Rattle.meaning_laws.proofs.SameRuns.{runs_same}
use Rattle.match_laws.specs.Inline.ReplaceRule.{with_block}
use Rattle.call_laws.specs.Replace.ComesAlike.{ComesAlike, ComesAsBefore}

module _ (world : World) (old new : Block) where
  abbrev Same : State → Type 0
  Same u = run world old u ≡ run world new u

  -- both run alike wherever a run with the old block comes
  abbrev Alike : Context → State → Type 0
  Alike c s = (u : State) → ComesTo world old c s u → Same u

  module _ (i : ℕ) (c : Context) where
    abbrev old_turn : ℤ → State → Option State
    old_turn = turn i (run world (fill c old))

    abbrev new_turn : ℤ → State → Option State
    new_turn = turn i (run world (fill c new))

    abbrev AlikeTurns : List ℤ → State → Type 0
    AlikeTurns ns s =
        (n : ℤ) (v : State) → ComesToTurn old_turn ns s n v → Alike c (on_scene (with_control i n) v)

    first_same : (n : ℤ) (ns : List ℤ) (s : State) → AlikeTurns (n ∷ ns) s
        → old_turn n s ≡ new_turn n s
    first_same n ns s h =
        ap (option_map (left s)) (runs_same world old new c (on_scene (with_control i n) s)
        (h n s now))

    to_old : (ns : List ℤ) (s : State) (n : ℤ) (u : State) → AlikeTurns ns s
        → ComesToTurn new_turn ns s n u → ComesToTurn old_turn ns s n u
    to_old [] s n u h k = elim k [ ]
    to_old (m ∷ ns) s n u h now = now
    to_old (m ∷ ns) s n u h (later {t = t} e k) =
        let f = first_same m ns s h ∙ e in
        later f (to_old ns t n u (λ a b z. h a b (later f z)) k)

    to_new : (ns : List ℤ) (s : State) (n : ℤ) (u : State) → AlikeTurns ns s
        → ComesToTurn old_turn ns s n u → ComesToTurn new_turn ns s n u
    to_new [] s n u h k = elim k [ ]
    to_new (m ∷ ns) s n u h now = now
    to_new (m ∷ ns) s n u h (later {t = t} e k) =
        later (sym (first_same m ns s h) ∙ e) (to_new ns t n u (λ a b z. h a b (later e z)) k)

  back : (c : Context) (s u : State) → Alike c s → ComesTo world new c s u → ComesTo world old c s u
  back (Here rest) s u h z = z
  back (After a c) s u h (t, e, z) = (t, e, back c t u (λ v w. h v (t, e, w)) z)
  back (InLoop i lo hi c rest) s u h (n, v, k, z) =
      let l = to_old i.id c (turns_of s.scene lo hi) s n v (λ m a x w y. h w (m, a, x, y)) k in
      (n, v, l, back c (on_scene (with_control i.id n) v) u (λ w y. h w (n, v, l, y)) z)
  back (InThen test c other rest) s u h (e, z) = (e, back c s u (λ v w. h v (e, w)) z)
  back (InElse test other c rest) s u h (e, z) = (e, back c s u (λ v w. h v (e, w)) z)

  forth : (c : Context) (s u : State) → Alike c s → ComesTo world old c s u → ComesTo world new c s u
  forth (Here rest) s u h z = z
  forth (After a c) s u h (t, e, z) = (t, e, forth c t u (λ v w. h v (t, e, w)) z)
  forth (InLoop i lo hi c rest) s u h (n, v, k, z) = (
    n,
    v,
    to_new i.id c (turns_of s.scene lo hi) s n v (λ m a x w y. h w (m, a, x, y)) k,
    forth c (on_scene (with_control i.id n) v) u (λ w y. h w (n, v, k, y)) z,
  )
  forth (InThen test c other rest) s u h (e, z) = (e, forth c s u (λ v w. h v (e, w)) z)
  forth (InElse test other c rest) s u h (e, z) = (e, forth c s u (λ v w. h v (e, w)) z)

pub comes_alike : ComesAlike
comes_alike world c old new s h u =
    (back world old new c s u h, forth world old new c s u h)

-- inputs say nothing of the body
was_admissible : (world : World) (p : Procedure) (o : Opened) (b : Block) (s : State)
    → IsAdmissible world (with_block p o b) s → IsAdmissible world p s
was_admissible world p o b s good = record {
  arguments = good.arguments;
  no_others = good.no_others;
  cells = good.cells;
  tidy = good.tidy;
  fields = good.fields;
  asserts = good.asserts;
}

pub comes_as_before : ComesAsBefore
comes_as_before world p o new h s u good come =
    let was = was_admissible world p o new s good in
    (was, back world o.piece new o.around s u (λ v z. h s v was z) come)
