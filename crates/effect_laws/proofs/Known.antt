-- What is known of a scene on the way through a piece.
use Rattle.std.proofs.Common.{◌≡◌, ◌≤ℤ◌, ℕ, ℤ, pos, ◌-ℤ◌, ◌==◌, Bool, true, false, true≢false, cond, ◌&&◌, List, [], ◌∷◌, ◌++◌, Option, Some, None, refl, sym, ap, ap₂, ◌∙◌, subst, eqb-true, inl, inr}
use Rattle.std.specs.Prelude.{◌⊎◌, is_some, IsSome}
use Rattle.std.specs.List.{list_all}
use Rattle.exo_tree.specs.Tree.{Binder, Cell, Coord, At, Span, Index}
use Rattle.exo_meaning.specs.Scene.{Shape, Seen, Scene, Point, Range, updated, whole}
use Rattle.exo_meaning.specs.State.{State, with_control, with_view, with_buffer}
use Rattle.exo_meaning.specs.Orders.{Each}
use Rattle.exo_meaning.specs.Units.{Sort, ControlName, BufferName, Scope, sort_in, with_name, is_new, is_flag}
use Rattle.meaning_laws.specs.Facts.{Fact}
use Rattle.meaning_laws.specs.Sound.{IsSameName}
use Rattle.meaning_laws.proofs.FirstState.{new_is_none}
use Rattle.meaning_laws.proofs.Sorted.{is_other}
use Rattle.affine_forms.specs.Atoms.{Valuation}
use Rattle.affine_forms.specs.Forms.{is_affine}
use Rattle.affine_forms.specs.Formulas.{is_met}
use Rattle.check_laws.proofs.OfFacts.Truths.{parts, joined, self, some_injective}
use Rattle.check_laws.proofs.OfFacts.Affine.{Agrees, Grows, same_number, more_affine}
use Rattle.exo_effects.specs.Accesses.{guard_of}
use Rattle.exo_effects.specs.Parts.{Part}
use Rattle.exo_effects.specs.Uses.{Inside}
use Rattle.effect_laws.specs.Covers.{names_in, is_affine_coord, sides_of, SeesPart, is_among}
use Rattle.effect_laws.proofs.Cells.{each_weaken, each_join}

-- all values that agree on the names in scope meet the fact
abbrev pub IsFirm : Scope → Scene → Fact → Type 0
IsFirm scope scene fact = (v : Valuation) → ((y : ℕ) → IsSome (sort_in scope y) → v.variable y ≡ scene.control y) → is_met v (guard_of fact) ≡ true

abbrev pub IsLeftOut : Scene → Option Part → Seen → Type 0
IsLeftOut first o seen = (o ≡ None) × (first.buffers seen.buffer ≡ None)

abbrev pub IsPart : Scope → Scene → Option Part → Seen → Type 0
IsPart scope scene o seen = (part : Part) × (o ≡ Some part) × SeesPart scope scene part seen

-- what a name sees is told, or it is a buffer of the piece
abbrev pub IsTold : Scene → Scope → Scene → Option Part → Seen → Type 0
IsTold first scope scene o seen = IsPart scope scene o seen ⊎ IsLeftOut first o seen

-- first is the scene where the piece begins
pub record Now (first : Scene) (at : Inside) (scope : Scope) (scene : Scene) : Type 0 where
  pub kept : (b : ℕ) (shape : Shape) → first.buffers b ≡ Some shape → scene.buffers b ≡ Some shape
  pub buffers : (x : ℕ) → IsSome (scene.buffers x) → IsSome (sort_in scope x)
  pub sound : (x : ℕ) (seen : Seen) → scene.views x ≡ Some seen → IsSome (scene.buffers seen.buffer)
  pub cells : (x : ℕ) (cell : Cell) (rank : ℕ) (dense : Bool) (seen : Seen) (shape : Shape) → sort_in scope x ≡ Some (BufferName cell rank dense) → scene.views x ≡ Some seen → scene.buffers seen.buffer ≡ Some shape → shape.cell ≡ cell
  pub flags : (x : ℕ) → is_flag (sort_in scope x) ≡ true → pos 0 ≤ℤ scene.control x
  pub seen : (x : ℕ) (seen : Seen) → scene.views x ≡ Some seen → IsTold first scope scene (at.parts x) seen
  pub round : Each (IsFirm scope scene) at.round
  pub own : (y : ℕ) → is_among at.own y ≡ false → scene.control y ≡ first.control y

pub is_there : {A : Type 0} (o : Option A) (a : A) → o ≡ Some a → IsSome o
is_there o a e = ap is_some e

pub not_none : {A : Type 0} (o : Option A) → IsSome o → o ≡ None → ⊥
not_none o h e = true≢false (sym h ∙ ap is_some e)

pub some_of : {A : Type 0} (o : Option A) → IsSome o → (a : A) × (o ≡ Some a)
some_of None h = absurd (true≢false (sym h))
some_of (Some a) h = (a, refl)

pub either : (t : Bool) → (t ≡ true) ⊎ (t ≡ false)
either true = inl refl
either false = inr refl

-- ---- the same names in a larger scope

-- names in scope have their numbers and are in scope still
pub record Further (scope more : Scope) (s t : Scene) : Type 0 where
  pub control : (y : ℕ) → IsSome (sort_in scope y) → t.control y ≡ s.control y
  pub grows : (y : ℕ) → IsSome (sort_in scope y) → IsSome (sort_in more y)

module _ (scope more : Scope) (s t : Scene) (f : Further scope more s t) where
  same : Agrees (names_in scope) s t
  same = record { control = λ y h. sym (f.control y h); fields = λ g h. absurd (true≢false (sym h)); strides = λ x k h. absurd (true≢false (sym h)) }

  larger : Grows (names_in scope) (names_in more)
  larger = record { variables = λ y h. f.grows y h; fields = λ g h. h; strides = λ x k h. h }

  pub same_sides : (cs : List Coord) → list_all (is_affine_coord (names_in scope)) cs ≡ true → sides_of s cs ≡ sides_of t cs
  same_sides [] h = refl
  same_sides (At a ∷ cs) h =
      let p = parts (is_affine (names_in scope) a) (list_all (is_affine_coord (names_in scope)) cs) h in
      ap₂ (λ n rest. Point n ∷ rest) (same_number (names_in scope) s t same a p.0) (same_sides cs p.1)
  same_sides (Span a b ∷ cs) h =
      let p = parts (is_affine (names_in scope) a && is_affine (names_in scope) b) (list_all (is_affine_coord (names_in scope)) cs) h in
      let q = parts (is_affine (names_in scope) a) (is_affine (names_in scope) b) p.0 in
      ap₂ (λ side rest. side ∷ rest) (ap₂ (λ m n. Range m (n -ℤ m)) (same_number (names_in scope) s t same a q.0) (same_number (names_in scope) s t same b q.1)) (same_sides cs p.1)

  pub more_coords : (cs : List Coord) → list_all (is_affine_coord (names_in scope)) cs ≡ true → list_all (is_affine_coord (names_in more)) cs ≡ true
  more_coords [] h = refl
  more_coords (At a ∷ cs) h =
      let p = parts (is_affine (names_in scope) a) (list_all (is_affine_coord (names_in scope)) cs) h in
      joined (is_affine (names_in more) a) (list_all (is_affine_coord (names_in more)) cs) (more_affine (names_in scope) (names_in more) larger a p.0) (more_coords cs p.1)
  more_coords (Span a b ∷ cs) h =
      let p = parts (is_affine (names_in scope) a && is_affine (names_in scope) b) (list_all (is_affine_coord (names_in scope)) cs) h in
      let q = parts (is_affine (names_in scope) a) (is_affine (names_in scope) b) p.0 in
      joined (is_affine (names_in more) a && is_affine (names_in more) b) (list_all (is_affine_coord (names_in more)) cs)
      (joined (is_affine (names_in more) a) (is_affine (names_in more) b) (more_affine (names_in scope) (names_in more) larger a q.0) (more_affine (names_in scope) (names_in more) larger b q.1)) (more_coords cs p.1)

  pub sees_further : (part : Part) (seen : Seen) → SeesPart scope s part seen → SeesPart more t part seen
  sees_further part seen h = record { root = h.root; affine = more_coords part.coords h.affine; sides = h.sides ∙ same_sides part.coords h.affine }

  pub told_further : (first : Scene) (o : Option Part) (seen : Seen) → IsTold first scope s o seen → IsTold first more t o seen
  told_further first o seen (inl (part, e, h)) = inl (part, e, sees_further part seen h)
  told_further first o seen (inr h) = inr h

  pub firm_further : (fact : Fact) → IsFirm scope s fact → IsFirm more t fact
  firm_further fact h v k = h v (λ y i. k y (f.grows y i) ∙ f.control y i)

-- with one name more
pub name_further : (scope : Scope) (x : Binder) (sort : Sort) (s t : Scene) → is_new scope x ≡ true → ((y : ℕ) → (y == x.id) ≡ false → t.control y ≡ s.control y) → Further scope (with_name scope x sort) s t
name_further scope x sort s t new k = record {
  control = λ y h. k y (other y h);
  grows = λ y h. ap (λ b. is_some (cond b (Some sort) (sort_in scope y))) (other y h) ∙ h;
}
  where
    other : (y : ℕ) → IsSome (sort_in scope y) → (y == x.id) ≡ false
    other y h = let z = some_of (sort_in scope y) h in is_other scope x new y z.0 z.1

-- ---- behind a statement

module _ (first : Scene) (at : Inside) where
  -- where a name is new, the scene where the piece begins has no such buffer
  pub new_is_not_there : (scope : Scope) (scene : Scene) (x : Binder) → Now first at scope scene → is_new scope x ≡ true → first.buffers x.id ≡ None
  new_is_not_there scope scene x now new = go (first.buffers x.id) refl
    where
      go : (o : Option Shape) → first.buffers x.id ≡ o → o ≡ None
      go None e = refl
      go (Some shape) e = absurd (not_none (sort_in scope x.id) (now.buffers x.id (is_there (scene.buffers x.id) shape (now.kept x.id shape e))) (new_is_none scope x new))

  -- where all names stand for the same
  pub now_same : (scope : Scope) (s t : State) → ((x : ℕ) → IsSameName x s t) → Now first at scope s.scene → Now first at scope t.scene
  now_same scope s t k now = record {
    kept = λ b shape e. sym (k b).buffers ∙ now.kept b shape e;
    buffers = λ x h. now.buffers x (ap is_some (k x).buffers ∙ h);
    sound = λ x seen e. ap is_some (sym (k seen.buffer).buffers) ∙ now.sound x seen ((k x).views ∙ e);
    cells = λ x cell rank dense seen shape e v b. now.cells x cell rank dense seen shape e ((k x).views ∙ v) ((k seen.buffer).buffers ∙ b);
    flags = λ x h. subst (λ n. pos 0 ≤ℤ n) (k x).control (now.flags x h);
    seen = λ x seen e. told_further scope scope s.scene t.scene further first (at.parts x) seen (now.seen x seen ((k x).views ∙ e));
    round = each_weaken (IsFirm scope s.scene) (IsFirm scope t.scene) at.round (firm_further scope scope s.scene t.scene further) now.round;
    own = λ y h. sym (k y).control ∙ now.own y h;
  }
    where
      further : Further scope scope s.scene t.scene
      further = record { control = λ y h. sym (k y).control; grows = λ y h. h }

-- in a branch or a loop
module _ (first : Scene) (at : Inside) (scope : Scope) (scene : Scene) (now : Now first at scope scene) where
  pub now_round : (facts : List Fact) → Each (IsFirm scope scene) facts → Now first (record at { round = at.round ++ facts }) scope scene
  now_round facts firm = record {
    kept = now.kept;
    buffers = now.buffers;
    sound = now.sound;
    cells = now.cells;
    flags = now.flags;
    seen = now.seen;
    round = each_join (IsFirm scope scene) at.round facts now.round firm;
    own = now.own;
  }

  module _ (i : Binder) (new : is_new scope i ≡ true) (n : ℤ) where
    abbrev inner : Scene
    inner = with_control i.id n scene

    abbrev more : Scope
    more = with_name scope i (ControlName Index)

    further_inside : Further scope more scene inner
    further_inside = name_further scope i (ControlName Index) scene inner new (λ y h. ap (λ b. cond b n (scene.control y)) h)

    no_buffer : (cell : Cell) (rank : ℕ) (dense : Bool) → Some (ControlName Index) ≡ Some (BufferName cell rank dense) → ⊥
    no_buffer cell rank dense e = cc

    cells_inside : (x : ℕ) (cell : Cell) (rank : ℕ) (dense : Bool) (seen : Seen) (shape : Shape) → sort_in more x ≡ Some (BufferName cell rank dense) → scene.views x ≡ Some seen → scene.buffers seen.buffer ≡ Some shape → shape.cell ≡ cell
    cells_inside x cell rank dense seen shape e v b = go (x == i.id) e
      where
        go : (t : Bool) → cond t (Some (ControlName Index)) (sort_in scope x) ≡ Some (BufferName cell rank dense) → shape.cell ≡ cell
        go true e = absurd (no_buffer cell rank dense e)
        go false e = now.cells x cell rank dense seen shape e v b

    flags_inside : (x : ℕ) → is_flag (sort_in more x) ≡ true → pos 0 ≤ℤ inner.control x
    flags_inside x h = go (x == i.id) h
      where
        go : (t : Bool) → is_flag (cond t (Some (ControlName Index)) (sort_in scope x)) ≡ true → pos 0 ≤ℤ cond t n (scene.control x)
        go true h = absurd (true≢false (sym h))
        go false h = now.flags x h

    -- at a turn: the loop's variable is one of the piece's own, with this number
    pub now_inside : (own : List ℕ) (facts : List Fact) → ((y : ℕ) → is_among own y ≡ false → ((y == i.id) ≡ false) × (is_among at.own y ≡ false)) → Each (IsFirm more inner) facts → Now first (record { parts = at.parts; own = own; round = at.round ++ facts }) more inner
    now_inside own facts owns firm = record {
      kept = now.kept;
      buffers = λ x h. further_inside.grows x (now.buffers x h);
      sound = now.sound;
      cells = cells_inside;
      flags = flags_inside;
      seen = λ x seen e. told_further scope more scene inner further_inside first (at.parts x) seen (now.seen x seen e);
      round = each_join (IsFirm more inner) at.round facts (each_weaken (IsFirm scope scene) (IsFirm more inner) at.round (firm_further scope more scene inner further_inside) now.round) firm;
      own = λ y h. let p = owns y h in ap (λ b. cond b n (scene.control y)) p.0 ∙ now.own y p.1;
    }

  -- ---- behind what binds a name

  module _ (x : Binder) (new : is_new scope x ≡ true) (cell : Cell) (rank : ℕ) (dense : Bool) where
    abbrev named : Scope
    named = with_name scope x (BufferName cell rank dense)

    no_flag : (t : Bool) (y : ℕ) → is_flag (cond t (Some (BufferName cell rank dense)) (sort_in scope y)) ≡ true → is_flag (sort_in scope y) ≡ true
    no_flag true y h = absurd (true≢false (sym h))
    no_flag false y h = h

    sorted_as : (c d : Cell) (r q : ℕ) (e f : Bool) → Some (BufferName c r e) ≡ Some (BufferName d q f) → c ≡ d
    sorted_as c d r q e f h = cc

    -- a view of a name, of that cell type
    module _ (z : Seen) (there : IsSome (scene.buffers z.buffer)) (typed : (shape : Shape) → scene.buffers z.buffer ≡ Some shape → shape.cell ≡ cell) (part : Option Part) (told : IsTold first scope scene part z) where
      abbrev viewed : Scene
      viewed = with_view x.id z scene

      further_view : Further scope named scene viewed
      further_view = name_further scope x (BufferName cell rank dense) scene viewed new (λ y h. refl)

      pub now_viewed : Now first (record at { parts = updated at.parts x.id part }) named viewed
      now_viewed = record {
        kept = now.kept;
        buffers = λ y h. further_view.grows y (now.buffers y h);
        sound = λ y seen e. sound_at y seen (y == x.id) e;
        cells = λ y c r d seen shape e v b. cells_at y c r d seen shape (y == x.id) e v b;
        flags = λ y h. now.flags y (no_flag (y == x.id) y h);
        seen = λ y seen e. seen_at y seen (y == x.id) e;
        round = each_weaken (IsFirm scope scene) (IsFirm named viewed) at.round (firm_further scope named scene viewed further_view) now.round;
        own = now.own;
      }
        where
          sound_at : (y : ℕ) (seen : Seen) (t : Bool) → cond t (Some z) (scene.views y) ≡ Some seen → IsSome (scene.buffers seen.buffer)
          sound_at y seen true e = subst (λ (q : Seen). IsSome (scene.buffers q.buffer)) (some_injective z seen e) there
          sound_at y seen false e = now.sound y seen e

          cells_at : (y : ℕ) (c : Cell) (r : ℕ) (d : Bool) (seen : Seen) (shape : Shape) (t : Bool) → cond t (Some (BufferName cell rank dense)) (sort_in scope y) ≡ Some (BufferName c r d) → cond t (Some z) (scene.views y) ≡ Some seen → scene.buffers seen.buffer ≡ Some shape → shape.cell ≡ c
          cells_at y c r d seen shape true e v b = typed shape (ap (λ (q : Seen). scene.buffers q.buffer) (some_injective z seen v) ∙ b) ∙ sorted_as cell c rank r dense d e
          cells_at y c r d seen shape false e v b = now.cells y c r d seen shape e v b

          seen_at : (y : ℕ) (seen : Seen) (t : Bool) → cond t (Some z) (scene.views y) ≡ Some seen → IsTold first named viewed (cond t part (at.parts y)) seen
          seen_at y seen true e = subst (IsTold first named viewed part) (some_injective z seen e) (told_further scope named scene viewed further_view first part z told)
          seen_at y seen false e = told_further scope named scene viewed further_view first (at.parts y) seen (now.seen y seen e)

    -- a buffer of that cell type, which the piece makes
    module _ (shape : Shape) (typed : shape.cell ≡ cell) where
      abbrev made : Scene
      made = with_buffer x.id shape scene

      abbrev all : Seen
      all = record { buffer = x.id; sides = whole shape.dims }

      further_made : Further scope named scene made
      further_made = name_further scope x (BufferName cell rank dense) scene made new (λ y h. refl)

      not_there : IsSome (scene.buffers x.id) → ⊥
      not_there h = not_none (sort_in scope x.id) (now.buffers x.id h) (new_is_none scope x new)

      pub now_made : Now first (record at { parts = updated at.parts x.id None }) named made
      now_made = record {
        kept = λ b own e. kept_at b own (y_is b) e;
        buffers = λ y h. buffers_at y (y == x.id) h;
        sound = λ y seen e. sound_at y seen (y == x.id) e;
        cells = λ y c r d seen own e v b. cells_at y c r d seen own (y == x.id) e v b;
        flags = λ y h. now.flags y (no_flag (y == x.id) y h);
        seen = λ y seen e. seen_at y seen (y == x.id) e;
        round = each_weaken (IsFirm scope scene) (IsFirm named made) at.round (firm_further scope named scene made further_made) now.round;
        own = now.own;
      }
        where
          y_is : (b : ℕ) → ((b == x.id) ≡ true) ⊎ ((b == x.id) ≡ false)
          y_is b = either (b == x.id)

          kept_at : (b : ℕ) (own : Shape) → ((b == x.id) ≡ true) ⊎ ((b == x.id) ≡ false) → first.buffers b ≡ Some own → made.buffers b ≡ Some own
          kept_at b own (inl t) e = absurd (not_there (subst (λ y. IsSome (scene.buffers y)) (eqb-true b x.id t) (is_there (scene.buffers b) own (now.kept b own e))))
          kept_at b own (inr t) e = ap (λ u. cond u (Some shape) (scene.buffers b)) t ∙ now.kept b own e

          buffers_at : (y : ℕ) (t : Bool) → IsSome (cond t (Some shape) (scene.buffers y)) → IsSome (cond t (Some (BufferName cell rank dense)) (sort_in scope y))
          buffers_at y true h = refl
          buffers_at y false h = now.buffers y h

          -- what a name saw before is another buffer
          other : (y : ℕ) (seen : Seen) → scene.views y ≡ Some seen → (seen.buffer == x.id) ≡ false
          other y seen e = go (y_is seen.buffer)
            where
              go : ((seen.buffer == x.id) ≡ true) ⊎ ((seen.buffer == x.id) ≡ false) → (seen.buffer == x.id) ≡ false
              go (inl t) = absurd (not_there (subst (λ b. IsSome (scene.buffers b)) (eqb-true seen.buffer x.id t) (now.sound y seen e)))
              go (inr t) = t

          own_buffer : made.buffers x.id ≡ Some shape
          own_buffer = ap (λ u. cond u (Some shape) (scene.buffers x.id)) (self x.id)

          sound_at : (y : ℕ) (seen : Seen) (t : Bool) → cond t (Some all) (scene.views y) ≡ Some seen → IsSome (made.buffers seen.buffer)
          sound_at y seen true e = subst (λ (q : Seen). IsSome (made.buffers q.buffer)) (some_injective all seen e) (ap is_some own_buffer)
          sound_at y seen false e = ap (λ u. is_some (cond u (Some shape) (scene.buffers seen.buffer))) (other y seen e) ∙ now.sound y seen e

          cells_at : (y : ℕ) (c : Cell) (r : ℕ) (d : Bool) (seen : Seen) (own : Shape) (t : Bool) → cond t (Some (BufferName cell rank dense)) (sort_in scope y) ≡ Some (BufferName c r d) → cond t (Some all) (scene.views y) ≡ Some seen → made.buffers seen.buffer ≡ Some own → own.cell ≡ c
          cells_at y c r d seen own true e v b =
              let same = some_injective shape own (sym own_buffer ∙ ap (λ (q : Seen). made.buffers q.buffer) (some_injective all seen v) ∙ b) in
              ap (λ (q : Shape). q.cell) (sym same) ∙ typed ∙ sorted_as cell c rank r dense d e
          cells_at y c r d seen own false e v b = now.cells y c r d seen own e v (sym (ap (λ u. cond u (Some shape) (scene.buffers seen.buffer)) (other y seen v)) ∙ b)

          seen_at : (y : ℕ) (seen : Seen) (t : Bool) → cond t (Some all) (scene.views y) ≡ Some seen → IsTold first named made (cond t None (at.parts y)) seen
          seen_at y seen true e = inr (refl, ap (λ (q : Seen). first.buffers q.buffer) (sym (some_injective all seen e)) ∙ new_is_not_there first at scope scene x now new)
          seen_at y seen false e = told_further scope named scene made further_made first (at.parts y) seen (now.seen y seen e)
