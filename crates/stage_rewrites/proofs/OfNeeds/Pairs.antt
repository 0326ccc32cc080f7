-- What is asked of two lists side by side, of arguments, and of one name alone.
use Rattle.std.proofs.Common.{◌≡◌, ◌≢◌, ◌==◌, ℕ, Bool, cond, true, false, List, [], ◌∷◌, ◌++◌}
use Rattle.std.proofs.Common.{refl, ap, sym, ◌∙◌, append_assoc, arith}
use Rattle.std.proofs.lemmas.Bool.Decides.{nat_tests}
use Rattle.std.proofs.lemmas.List.{append-nil}
use Rattle.exo_tree.specs.Tree.{Control, Condition, Coord, At, Span}
use Rattle.exo_tree.specs.Tree.{Argument, ControlArg, ConditionArg, Whole, Window}
use Rattle.buffer_laws.specs.StageMem.{asked_of_indices, asked_of_coords, asked_of_arguments}
use Rattle.alloc_laws.specs.Stage.Staging.{asked_of_window}
use Rattle.stage_rewrites.specs.Needs.Single.{asked_of_index, asked_of_coord, asked_of_extent}
use Rattle.stage_rewrites.specs.Needs.Single.{asked_of_argument}

-- ---- one more, and then the rest

more : (old new whole first rest all : List Condition) → all ≡ first ++ rest → new ≡ old ++ first
    → whole ≡ new ++ rest → whole ≡ old ++ all
more old new whole first rest all s h k =
    k ∙ ap (λ l. l ++ rest) h ∙ append_assoc old first rest ∙ ap (λ l. old ++ l) (sym s)

first_index : (c : Coord) (cs : List Coord) (e : Control) (es : List Control)
    → asked_of_indices (c ∷ cs) (e ∷ es) ≡ asked_of_index c e ++ asked_of_indices cs es
first_index (At u) cs e es = refl
first_index (Span u v) cs e es = refl

pub index_more : (old new whole : List Condition) (c : Coord) (cs : List Coord)
    (e : Control) (es : List Control) → new ≡ old ++ asked_of_index c e
    → whole ≡ new ++ asked_of_indices cs es
    → whole ≡ old ++ asked_of_indices (c ∷ cs) (e ∷ es)
index_more old new whole c cs e es h k =
    more old new whole _ _ _ (first_index c cs e es) h k

first_coord : (c : Coord) (cs : List Coord) (d : Coord) (ds : List Coord)
    → asked_of_coords (c ∷ cs) (d ∷ ds) ≡ asked_of_coord c d ++ asked_of_coords cs ds
first_coord (At u) cs (At e) ds = refl
first_coord (At u) cs (Span s t) ds = refl
first_coord (Span u v) cs (At e) ds = refl
first_coord (Span u v) cs (Span s t) ds = refl

pub coord_more : (old new whole : List Condition) (c : Coord) (cs : List Coord)
    (d : Coord) (ds : List Coord) → new ≡ old ++ asked_of_coord c d
    → whole ≡ new ++ asked_of_coords cs ds
    → whole ≡ old ++ asked_of_coords (c ∷ cs) (d ∷ ds)
coord_more old new whole c cs d ds h k =
    more old new whole _ _ _ (first_coord c cs d ds) h k

first_extent : (c : Coord) (cs : List Coord) (d : Control) (ds : List Control)
    → asked_of_window (c ∷ cs) (d ∷ ds) ≡ asked_of_extent c d ++ asked_of_window cs ds
first_extent (At u) cs d ds = refl
first_extent (Span u v) cs d ds = refl

pub extent_more : (old new whole : List Condition) (c : Coord) (cs : List Coord)
    (d : Control) (ds : List Control) → new ≡ old ++ asked_of_extent c d
    → whole ≡ new ++ asked_of_window cs ds
    → whole ≡ old ++ asked_of_window (c ∷ cs) (d ∷ ds)
extent_more old new whole c cs d ds h k =
    more old new whole _ _ _ (first_extent c cs d ds) h k

-- ---- one side has no more

nothing : (old asked : List Condition) → asked ≡ [] → old ≡ old ++ asked
nothing old asked h = sym (append-nil old) ∙ ap (λ l. old ++ l) (sym h)

no_indices : (cs : List Coord) → asked_of_indices cs [] ≡ []
no_indices [] = refl
no_indices (c ∷ cs) = refl

pub no_window_index : (old : List Condition) (cs : List Coord) (es : List Control) → cs ≡ []
    → old ≡ old ++ asked_of_indices cs es
no_window_index old cs es h = nothing old _ (ap (λ l. asked_of_indices l es) h)

pub no_index : (old : List Condition) (cs : List Coord) (es : List Control) → es ≡ []
    → old ≡ old ++ asked_of_indices cs es
no_index old cs es h = nothing old _ (ap (asked_of_indices cs) h ∙ no_indices cs)

no_coords : (cs : List Coord) → asked_of_coords cs [] ≡ []
no_coords [] = refl
no_coords (c ∷ cs) = refl

pub no_window_coord : (old : List Condition) (cs ds : List Coord) → cs ≡ []
    → old ≡ old ++ asked_of_coords cs ds
no_window_coord old cs ds h = nothing old _ (ap (λ l. asked_of_coords l ds) h)

pub no_coord : (old : List Condition) (cs ds : List Coord) → ds ≡ []
    → old ≡ old ++ asked_of_coords cs ds
no_coord old cs ds h = nothing old _ (ap (asked_of_coords cs) h ∙ no_coords cs)

no_extents : (cs : List Coord) → asked_of_window cs [] ≡ []
no_extents [] = refl
no_extents (c ∷ cs) = refl

pub no_window_extent : (old : List Condition) (cs : List Coord) (ds : List Control) → cs ≡ []
    → old ≡ old ++ asked_of_window cs ds
no_window_extent old cs ds h = nothing old _ (ap (λ l. asked_of_window l ds) h)

pub no_extent : (old : List Condition) (cs : List Coord) (ds : List Control) → ds ≡ []
    → old ≡ old ++ asked_of_window cs ds
no_extent old cs ds h = nothing old _ (ap (asked_of_window cs) h ∙ no_extents cs)

-- ---- arguments

module _ (x : ℕ) (dims : List Control) (coords : List Coord) where
  first_argument : (g : Argument) (gs : List Argument)
      → asked_of_arguments x dims coords (g ∷ gs)
      ≡ asked_of_argument x dims coords g ++ asked_of_arguments x dims coords gs
  first_argument (ControlArg e) gs = refl
  first_argument (ConditionArg c) gs = refl
  first_argument (Whole y) gs = refl
  first_argument (Window y ds) gs = refl

  pub argument_more : (old new whole : List Condition) (g : Argument) (gs : List Argument)
      → new ≡ old ++ asked_of_argument x dims coords g
      → whole ≡ new ++ asked_of_arguments x dims coords gs
      → whole ≡ old ++ asked_of_arguments x dims coords (g ∷ gs)
  argument_more old new whole g gs h k = more old new whole _ _ _ (first_argument g gs) h k

-- ---- one name alone

same : (y x : ℕ) → y ≡ x → (y == x) ≡ true
same y x h = grind (arith, nat_tests)

other : (y x : ℕ) → y ≢ x → (y == x) ≡ false
other y x h = grind (arith, nat_tests)

pub of_it : (y x : ℕ) (asked : List Condition) → y ≡ x → cond (y == x) asked [] ≡ asked
of_it y x asked h = ap (λ (t : Bool). cond t asked []) (same y x h)

pub of_another : (y x : ℕ) (asked : List Condition) → y ≢ x → cond (y == x) asked [] ≡ []
of_another y x asked h = ap (λ (t : Bool). cond t asked []) (other y x h)
