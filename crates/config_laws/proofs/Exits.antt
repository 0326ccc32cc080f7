-- Liveness before a block, by what is live at its end.
use Rattle.std.proofs.Common.{◌≡◌, ◌==◌, ℕ, zero, suc, Bool, true, false, cond, ◌&&◌, ◌||◌}
use Rattle.std.proofs.Common.{List, [], ◌∷◌, ◌++◌, refl, sym, ap, ap₂, ◌∙◌}
use Rattle.exo_tree.specs.Tree.{Statement, Assign, Reduce, Config, Pass, If, For, Alloc, View, Call}
use Rattle.exo_tree.specs.Tree.{Block, end, next, Procedure}
use Rattle.exo_tree.specs.Context.{Context, Here, After, InLoop, InThen, InElse, fill}
use Rattle.meaning_laws.specs.Live.{read_by_control, read_by_controls, read_by_condition}
use Rattle.meaning_laws.specs.Live.{read_by_datum, read_by_coords, read_by_argument}
use Rattle.meaning_laws.specs.Live.{read_by_arguments, live, live_step, live_behind}
use Rattle.meaning_laws.specs.UnitFields.{live_at, live_before, all_live, written_at}
use Rattle.meaning_laws.specs.UnitFields.{read_by_params, read_by_conditions}
use Rattle.config_laws.specs.Surely.{surely_writes, step_surely_writes, surely_behind}
use Rattle.config_laws.specs.Surely.{surely_by, all_surely}
use Rattle.config_laws.specs.Exits.{by_exit, GoesByExit, BlocksGoByExit, HolesGoByExit}
use Rattle.config_laws.specs.Exits.{UnitsGoByExit}

-- ---- truth values

-- nothing is written
none_written : (read out : Bool) → (read || out) ≡ by_exit (read || false) false out
none_written true out = refl
none_written false true = refl
none_written false false = refl

written_here : (read same out : Bool)
    → (read || cond same false out) ≡ by_exit (read || cond same false false) same out
written_here true same out = refl
written_here false true true = refl
written_here false true false = refl
written_here false false true = refl
written_here false false false = refl

pub in_order : (p q s t out : Bool)
    → by_exit p s (by_exit q t out) ≡ by_exit (by_exit p s q) (s || t) out
in_order true q s t out = refl
in_order false true true t true = refl
in_order false true true t false = refl
in_order false true false t out = refl
in_order false false true t true = if_none t
  where
    if_none : (t : Bool) → by_exit false true (by_exit false t true) ≡ false
    if_none true = refl
    if_none false = refl
in_order false false true t false = refl
in_order false false false true true = refl
in_order false false false true false = refl
in_order false false false false true = refl
in_order false false false false false = refl

in_branches : (read p q s t out : Bool)
    → (read || (by_exit p s out || by_exit q t out)) ≡ by_exit (read || (p || q)) (s && t) out
in_branches true p q s t out = refl
in_branches false true q s t out = refl
in_branches false false true true t true = refl
in_branches false false true true t false = refl
in_branches false false true false t true = refl
in_branches false false true false t false = refl
in_branches false false false true true true = refl
in_branches false false false true true false = refl
in_branches false false false true false true = refl
in_branches false false false true false false = refl
in_branches false false false false t true = refl
in_branches false false false false true false = refl
in_branches false false false false false false = refl

in_turns : (read inner out : Bool)
    → (read || (out || inner)) ≡ by_exit (read || (false || inner)) false out
in_turns true inner out = refl
in_turns false true true = refl
in_turns false true false = refl
in_turns false false true = refl
in_turns false false false = refl

in_call : (read p s out : Bool) → (read || by_exit p s out) ≡ by_exit (read || p) s out
in_call true p s out = refl
in_call false p s out = refl

after_turns : (r s inner out : Bool)
    → (by_exit r s out || inner) ≡ by_exit (r || inner) s out
after_turns true s inner out = refl
after_turns false true true true = refl
after_turns false true true false = refl
after_turns false true false true = refl
after_turns false true false false = refl
after_turns false false true true = refl
after_turns false false true false = refl
after_turns false false false true = refl
after_turns false false false false = refl

-- ---- blocks

module _ (calls : ℕ → ℕ → Bool → Bool) (sure : ℕ → ℕ → Bool) (goes : GoesByExit calls sure)
    (f : ℕ) where
  mutual
    blocks : (b : Block) (out : Bool)
        → live calls f b out ≡ by_exit (live calls f b false) (surely_writes sure f b) out
    blocks end true = refl
    blocks end false = refl
    blocks (next a b) out =
        ap (live_step calls f a) (blocks b out)
        ∙ steps a (by_exit (live calls f b false) (surely_writes sure f b) out)
        ∙ in_order (live_step calls f a false) (live calls f b false)
        (step_surely_writes sure f a) (surely_writes sure f b) out
        ∙ ap (λ r. by_exit r (step_surely_writes sure f a || surely_writes sure f b) out)
        (sym (steps a (live calls f b false)))

    steps : (a : Statement) (out : Bool) → live_step calls f a out
        ≡ by_exit (live_step calls f a false) (step_surely_writes sure f a) out
    steps (Assign x is e) out = none_written (read_by_controls f is || read_by_datum f e) out
    steps (Reduce x is e) out = none_written (read_by_controls f is || read_by_datum f e) out
    steps (Config g a) out = written_here (read_by_argument f a) (f == g) out
    steps Pass true = refl
    steps Pass false = refl
    steps (If c a b) out =
        ap₂ (λ x y. read_by_condition f c || (x || y)) (blocks a out) (blocks b out)
        ∙ in_branches (read_by_condition f c) (live calls f a false) (live calls f b false)
        (surely_writes sure f a) (surely_writes sure f b) out
    steps (For i lo hi b) out =
        in_turns (read_by_control f lo || read_by_control f hi) (live calls f b false) out
    steps (Alloc x cell dims memory) out = none_written (read_by_controls f dims) out
    steps (View w x coords) out = none_written (read_by_coords f coords) out
    steps (Call k args) out =
        ap (λ r. read_by_arguments f args || r) (goes k f out)
        ∙ in_call (read_by_arguments f args) (calls k f false) (sure k f) out

  -- what follows a branch, or the rest of a turn
  further : (old : Block) (c : Context) (rest : Block) (out : Bool)
      → ((o : Bool) → live_behind calls f old c o
      ≡ by_exit (live_behind calls f old c false) (surely_behind sure f c) o)
      → live_behind calls f old c (live calls f rest out)
      ≡ by_exit (live_behind calls f old c (live calls f rest false))
      (surely_behind sure f c || surely_writes sure f rest) out
  further old c rest out h =
      h (live calls f rest out)
      ∙ ap (λ r. by_exit (live_behind calls f old c false) (surely_behind sure f c) r)
      (blocks rest out)
      ∙ in_order (live_behind calls f old c false) (live calls f rest false)
      (surely_behind sure f c) (surely_writes sure f rest) out
      ∙ ap (λ r. by_exit r (surely_behind sure f c || surely_writes sure f rest) out)
      (sym (h (live calls f rest false)))

  holes : (old : Block) (c : Context) (out : Bool) → live_behind calls f old c out
      ≡ by_exit (live_behind calls f old c false) (surely_behind sure f c) out
  holes old (Here rest) out = blocks rest out
  holes old (After a c) out = holes old c out
  holes old (InLoop i lo hi c rest) out =
      let inner = live calls f (fill c old) false in
      let sure_rest = surely_writes sure f rest in
      let there = live calls f rest false in
      holes old c (live calls f rest out || inner)
      ∙ ap (λ r. by_exit (live_behind calls f old c false) (surely_behind sure f c) r)
      (ap (λ r. r || inner) (blocks rest out) ∙ after_turns there sure_rest inner out)
      ∙ in_order (live_behind calls f old c false) (there || inner) (surely_behind sure f c)
      sure_rest out
      ∙ ap (λ r. by_exit r (surely_behind sure f c || sure_rest) out)
      (sym (holes old c (there || inner)))
  holes old (InThen t c other rest) out = further old c rest out (holes old c)
  holes old (InElse t other c rest) out = further old c rest out (holes old c)

pub blocks_go_by_exit : BlocksGoByExit
blocks_go_by_exit calls sure goes f b out = blocks calls sure goes f b out

pub holes_go_by_exit : HolesGoByExit
holes_go_by_exit calls sure goes f old c out = holes calls sure goes f old c out

-- ---- units

before_body : (params asserts body sure out : Bool)
    → (params || (asserts || by_exit body sure out))
    ≡ by_exit (params || (asserts || body)) sure out
before_body true asserts body sure out = refl
before_body false true body sure out = refl
before_body false false body sure out = refl

-- the entries of two tables go together
abbrev Goes : (ℕ → Bool → Bool) → (ℕ → Bool) → Type 0
Goes l w = (f : ℕ) (out : Bool) → l f out ≡ by_exit (l f false) (w f) out

abbrev AllGo : List (ℕ → Bool → Bool) → List (ℕ → Bool) → Type 0
AllGo [] [] = Unit {0}
AllGo [] (w ∷ ws) = ⊥
AllGo (l ∷ ls) [] = ⊥
AllGo (l ∷ ls) (w ∷ ws) = Goes l w × AllGo ls ws

more : (ls : List (ℕ → Bool → Bool)) (ws : List (ℕ → Bool)) (l : ℕ → Bool → Bool) (w : ℕ → Bool)
    → AllGo ls ws → Goes l w → AllGo (ls ++ l ∷ []) (ws ++ w ∷ [])
more [] [] l w h g = (g, tt)
more [] (v ∷ ws) l w h g = absurd h
more (m ∷ ls) [] l w h g = absurd h
more (m ∷ ls) (v ∷ ws) l w h g = (h.0, more ls ws l w h.1 g)

unknown : (out : Bool) → out ≡ by_exit false false out
unknown true = refl
unknown false = refl

tables : (ls : List (ℕ → Bool → Bool)) (ws : List (ℕ → Bool)) → AllGo ls ws
    → GoesByExit (live_at ls) (written_at ws)
tables [] [] h zero f out = unknown out
tables [] [] h (suc k) f out = unknown out
tables [] (w ∷ ws) h k f out = absurd h
tables (l ∷ ls) [] h k f out = absurd h
tables (l ∷ ls) (w ∷ ws) h zero f out = h.0 f out
tables (l ∷ ls) (w ∷ ws) h (suc k) f out = tables ls ws h.1 k f out

one : (ls : List (ℕ → Bool → Bool)) (ws : List (ℕ → Bool)) (p : Procedure) → AllGo ls ws
    → Goes (live_before (live_at ls) p) (surely_by (written_at ws) p)
one ls ws p h f out =
    ap (λ r. read_by_params f p.params || (read_by_conditions f p.asserts || r))
    (blocks (live_at ls) (written_at ws) (tables ls ws h) f p.body out)
    ∙ before_body (read_by_params f p.params) (read_by_conditions f p.asserts)
    (live (live_at ls) f p.body false) (surely_writes (written_at ws) f p.body) out

all : (ls : List (ℕ → Bool → Bool)) (ws : List (ℕ → Bool)) (ps : List Procedure) → AllGo ls ws
    → AllGo (all_live ls ps) (all_surely ws ps)
all ls ws [] h = h
all ls ws (p ∷ ps) h =
    all (ls ++ live_before (live_at ls) p ∷ []) (ws ++ surely_by (written_at ws) p ∷ []) ps
    (more ls ws (live_before (live_at ls) p) (surely_by (written_at ws) p) h (one ls ws p h))

pub units_go_by_exit : UnitsGoByExit
units_go_by_exit ps = tables (all_live [] ps) (all_surely [] ps) (all [] [] ps tt)
