-- The modes of a block cover what its runs touch.
use Rattle.std.proofs.Common.{◌≡◌, ℕ, ℤ, ◌==◌, Bool, true, false, true≢false, cond, not, ◌&&◌, ◌||◌, List, [], ◌∷◌, ◌++◌, map, length, Option, Some, None, IfSome, refl, sym, ap, ap₂, ◌∙◌, eq-eqb}
use Rattle.exo_tree.specs.Tree.{Binder, Cell, Kind, Index, Control, Argument, ControlArg, ConditionArg, Whole, Window, Datum, Const, Read, Negated, Relu, Plus, Minus, Times, Select, Statement, Assign, Reduce, Config, Pass, If, For, Alloc, View, Call, Block, end, next, Param, ParamKind, ControlParam, TensorParam, WindowParam}
use Rattle.exo_meaning.specs.Value.{Undefined}
use Rattle.exo_meaning.specs.Scene.{Shape, Seen, Scene, numbers, holds, window, whole, updated}
use Rattle.exo_meaning.specs.State.{State, Place, place, left, on_scene, with_control, with_contents, with_buffer}
use Rattle.exo_meaning.specs.Calls.{Callee, Given, GivenView, given, all_given, all_positive}
use Rattle.exo_meaning.specs.Run.{World, run, step, turn, turns_of, tensor, roots_after, is_root, call_writes}
use Rattle.exo_meaning.specs.Laws.{HasRoots}
use Rattle.exo_meaning.specs.Footprint.{Entry, Reads, Writes, Reduces, listed, all_read, written, reduced_as, reduced, reads, further, chosen, turns_touch, footprint, step_footprint}
use Rattle.exo_meaning.specs.Orders.{Each}
use Rattle.exo_meaning.specs.Units.{Sort, ControlName, BufferName, Scope, sort_in, is_new, with_name, has_rank, has_cell, with_fields, plainly, is_control, is_condition, is_window, is_for, are_for, is_call, view_sort, scope_after, is_empty, is_short, is_block, is_statement, spans}
use Rattle.exo_meaning.proofs.Frame.{if_then, if_map, if_where, any, if_weaken, place_root, window_root, root_of, more_roots}
use Rattle.meaning_laws.specs.Sound.{IsSound, IsSameName}
use Rattle.meaning_laws.specs.Sorted.{IsSorted, Ends}
use Rattle.meaning_laws.specs.Touched.{IsCovered, Mode, Reading, Writing, Reducing, Modes, reads_from, call_has, has_mode, step_has_mode, cells_of, window_entries, buffer_entries, param_entries, all_entries, given_entries, entries_to, call_entries, touched}
use Rattle.meaning_laws.proofs.Parts.{none_some}
use Rattle.meaning_laws.proofs.Names.{if_gives, step_names}
use Rattle.meaning_laws.proofs.Substitute.{and_parts}
use Rattle.meaning_laws.proofs.Sound.{step_sound, turn_sound}
use Rattle.exo_tree.specs.Cells.{same_cell_is}
use Rattle.meaning_laws.proofs.FirstState.{new_is_none}
use Rattle.meaning_laws.proofs.Sorted.{is_other, Next, IsGood, step_next, run_ends, inside, turn_next}

pub each_join : {T : Type 0} (P : T → Type 0) (xs ys : List T) → Each P xs → Each P ys → Each P (xs ++ ys)
each_join P [] ys h k = k
each_join P (x ∷ xs) ys h k = (h.0, each_join P xs ys h.1 k)

pub or_left : (a b : Bool) → a ≡ true → (a || b) ≡ true
or_left a b h = ap (λ t. t || b) h

pub or_right : (a b : Bool) → b ≡ true → (a || b) ≡ true
or_right true b h = refl
or_right false b h = h

pub each_map : {T U : Type 0} (P : U → Type 0) (f : T → U) (xs : List T) → ((x : T) → P (f x)) → Each P (map f xs)
each_map P f [] h = tt
each_map P f (x ∷ xs) h = (h x, each_map P f xs h)

pub each_chosen : (P : Entry → Type 0) (t : Bool) (es : List Entry) → (t ≡ true → Each P es) → Each P (chosen t es [])
each_chosen P true es h = h refl
each_chosen P false es h = tt

each_further : (P : Entry → Type 0) (o : Option State) (f : State → List Entry) → ((t : State) → o ≡ Some t → Each P (f t)) → Each P (further o f)
each_further P None f h = tt
each_further P (Some t) f h = h t refl

-- ---- roots

-- a name has the cell type of its buffer
abbrev pub RootsTyped : Scope → (ℕ → ℕ) → Type 0
RootsTyped scope root = (x : ℕ) (c : Cell) (r : ℕ) (d : Bool) → sort_in scope x ≡ Some (BufferName c r d) → (q : ℕ) × (e : Bool) × (sort_in scope (root x) ≡ Some (BufferName c q e))

-- the first scope's names keep their sorts
abbrev pub Within : Scope → Scope → Type 0
Within outer scope = (x : ℕ) (sort : Sort) → sort_in outer x ≡ Some sort → sort_in scope x ≡ Some sort

within_name : (outer scope : Scope) (x : Binder) (sort : Sort) → is_new scope x ≡ true → Within outer scope → Within outer (with_name scope x sort)
within_name outer scope x sort new w y s e = ap (λ t. cond t (Some sort) (sort_in scope y)) (is_other scope x new y s (w y s e)) ∙ w y s e

typed_index : (scope : Scope) (root : ℕ → ℕ) (i : Binder) → is_new scope i ≡ true → RootsTyped scope root → RootsTyped (with_name scope i (ControlName Index)) root
typed_index scope root i new h x c r d e = go (x == i.id) e
  where
    no_buffer : Some (ControlName Index) ≡ Some (BufferName c r d) → ⊥
    no_buffer e = cc

    go : (t : Bool) → cond t (Some (ControlName Index)) (sort_in scope x) ≡ Some (BufferName c r d) → (q : ℕ) × (f : Bool) × (sort_in (with_name scope i (ControlName Index)) (root x) ≡ Some (BufferName c q f))
    go true e = absurd (no_buffer e)
    go false e = let z = h x c r d e in (z.0, z.1, ap (λ t. cond t (Some (ControlName Index)) (sort_in scope (root x))) (is_other scope i new (root x) _ z.2) ∙ z.2)

typed_alloc : (scope : Scope) (root : ℕ → ℕ) (x : Binder) (cell : Cell) (n : ℕ) → is_new scope x ≡ true → RootsTyped scope root → RootsTyped (with_name scope x (BufferName cell n true)) (updated root x.id x.id)
typed_alloc scope root x cell n new h y c r d e = go (y == x.id) refl e
  where
    go : (t : Bool) → (y == x.id) ≡ t → cond t (Some (BufferName cell n true)) (sort_in scope y) ≡ Some (BufferName c r d) → (q : ℕ) × (f : Bool) × (sort_in (with_name scope x (BufferName cell n true)) (cond (y == x.id) x.id (root y)) ≡ Some (BufferName c q f))
    go true k e = (r, d, ap (λ t. sort_in (with_name scope x (BufferName cell n true)) (cond t x.id (root y))) k ∙ ap (λ t. cond t (Some (BufferName cell n true)) (sort_in scope x.id)) (eq-eqb x.id x.id refl) ∙ e)
    go false k e =
        let z = h y c r d e in
        (z.0, z.1, ap (λ t. sort_in (with_name scope x (BufferName cell n true)) (cond t x.id (root y))) k ∙ ap (λ t. cond t (Some (BufferName cell n true)) (sort_in scope (root y))) (is_other scope x new (root y) _ z.2) ∙ z.2)

typed_view : (scope : Scope) (root : ℕ → ℕ) (w : Binder) (x k n : ℕ) → is_new scope w ≡ true → has_rank k (sort_in scope x) ≡ true → RootsTyped scope root → RootsTyped (with_name scope w (view_sort (sort_in scope x) n)) (updated root w.id (root x))
typed_view scope root w x k n new has h y c r d e = go (y == w.id) refl e
  where
    cell_is : (b : Cell) → Some (BufferName b n false) ≡ Some (BufferName c r d) → b ≡ c
    cell_is b e = cc

    by_sort : (o : Option Sort) → sort_in scope x ≡ o → has_rank k o ≡ true → Some (view_sort o n) ≡ Some (BufferName c r d) → (q : ℕ) × (f : Bool) × (sort_in scope (root x) ≡ Some (BufferName c q f))
    by_sort None j i e = absurd (true≢false (sym i))
    by_sort (Some (ControlName kind)) j i e = absurd (true≢false (sym i))
    by_sort (Some (BufferName b q f)) j i e = let z = h x b q f j in (z.0, z.1, z.2 ∙ ap (λ u. Some (BufferName u z.0 z.1)) (cell_is b e))

    go : (t : Bool) → (y == w.id) ≡ t → cond t (Some (view_sort (sort_in scope x) n)) (sort_in scope y) ≡ Some (BufferName c r d) → (q : ℕ) × (f : Bool) × (sort_in (with_name scope w (view_sort (sort_in scope x) n)) (cond (y == w.id) (root x) (root y)) ≡ Some (BufferName c q f))
    go true j e =
        let z = by_sort (sort_in scope x) refl has e in
        (z.0, z.1, ap (λ t. sort_in (with_name scope w (view_sort (sort_in scope x) n)) (cond t (root x) (root y))) j ∙ ap (λ t. cond t (Some (view_sort (sort_in scope x) n)) (sort_in scope (root x))) (is_other scope w new (root x) _ z.2) ∙ z.2)
    go false j e =
        let z = h y c r d e in
        (z.0, z.1, ap (λ t. sort_in (with_name scope w (view_sort (sort_in scope x) n)) (cond t (root x) (root y))) j ∙ ap (λ t. cond t (Some (view_sort (sort_in scope x) n)) (sort_in scope (root y))) (is_other scope w new (root y) _ z.2) ∙ z.2)

-- ---- roots after a statement

same_roots : (root : ℕ → ℕ) (s t : State) → HasRoots root s.scene → ((x : ℕ) → false ≡ false → IsSameName x s t) → HasRoots root t.scene
same_roots root s t h k x seen e = h x seen ((k x refl).views ∙ e)

roots_next : (world : World) (a : Statement) (root : ℕ → ℕ) (s : State) → HasRoots root s.scene → IfSome (step world a s) (λ t. HasRoots (roots_after a root) t.scene)
roots_next world (Assign x is e) root s h = if_weaken _ _ (step world (Assign x is e) s) (step_names world (Assign x is e) s) (λ t k. same_roots root s t h k)
roots_next world (Reduce x is e) root s h = if_weaken _ _ (step world (Reduce x is e) s) (step_names world (Reduce x is e) s) (λ t k. same_roots root s t h k)
roots_next world (Config f a) root s h = if_weaken _ _ (step world (Config f a) s) (step_names world (Config f a) s) (λ t k. same_roots root s t h k)
roots_next world Pass root s h = h
roots_next world (If c a b) root s h = if_weaken _ _ (step world (If c a b) s) (step_names world (If c a b) s) (λ t k. same_roots root s t h k)
roots_next world (For i lo hi b) root s h = if_weaken _ _ (step world (For i lo hi b) s) (step_names world (For i lo hi b) s) (λ t k. same_roots root s t h k)
roots_next world (Alloc x cell dims memory) root s h = if_where (λ t. HasRoots (updated root x.id x.id) t.scene) (all_positive (numbers s.scene dims)) (Some (with_contents x.id (λ at. Undefined) (on_scene (with_buffer x.id (tensor cell (numbers s.scene dims))) s))) (more_roots root s.scene h x.id (record { buffer = x.id; sides = whole (numbers s.scene dims) }) x.id refl)
roots_next world (View w x coords) root s h = if_then (λ seen. seen.buffer ≡ root x) (λ t. HasRoots (updated root w.id (root x)) t.scene) (window s.scene x coords) _ (window_root root s.scene h x coords) (λ seen e. more_roots root s.scene h w.id seen (root x) e)
roots_next world (Call k args) root s h = if_weaken _ _ (step world (Call k args) s) (step_names world (Call k args) s) (λ t k. same_roots root s t h k)

-- ---- what is covered

module _ (outer : Scope) (all : Modes) where
  joined_read : (ps qs : List Place) → Each (IsCovered outer all) (all_read ps) → Each (IsCovered outer all) (all_read qs) → Each (IsCovered outer all) (all_read (ps ++ qs))
  joined_read [] qs u v = v
  joined_read (p ∷ ps) qs u v = (u.0, joined_read ps qs u.1 v)

  module _ (root : ℕ → ℕ) (scene : Scene) (roots : HasRoots root scene) where
    reads_covered : (e : Datum) → ((y : ℕ) → reads_from root e y ≡ true → all Reading y ≡ true) → Each (IsCovered outer all) (all_read (reads scene e))
    reads_covered (Const n) h = tt
    reads_covered (Read x is) h = go (place scene x is) (place_root root scene roots x is)
      where
        go : (o : Option Place) → IfSome o (λ p. p.buffer ≡ root x) → Each (IsCovered outer all) (all_read (listed o))
        go None k = tt
        go (Some p) k = (h p.buffer (eq-eqb p.buffer (root x) k), tt)
    reads_covered (Negated a) h = reads_covered a h
    reads_covered (Relu a) h = reads_covered a h
    reads_covered (Plus a b) h = joined_read (reads scene a) (reads scene b) (reads_covered a (λ y k. h y (or_left (reads_from root a y) (reads_from root b y) k))) (reads_covered b (λ y k. h y (or_right (reads_from root a y) (reads_from root b y) k)))
    reads_covered (Minus a b) h = joined_read (reads scene a) (reads scene b) (reads_covered a (λ y k. h y (or_left (reads_from root a y) (reads_from root b y) k))) (reads_covered b (λ y k. h y (or_right (reads_from root a y) (reads_from root b y) k)))
    reads_covered (Times a b) h = joined_read (reads scene a) (reads scene b) (reads_covered a (λ y k. h y (or_left (reads_from root a y) (reads_from root b y) k))) (reads_covered b (λ y k. h y (or_right (reads_from root a y) (reads_from root b y) k)))
    reads_covered (Select a b c d) h =
        let in_a = λ (y : ℕ). reads_from root a y in
        let in_b = λ (y : ℕ). reads_from root b y in
        let in_c = λ (y : ℕ). reads_from root c y in
        let in_d = λ (y : ℕ). reads_from root d y in
        joined_read (reads scene a) (reads scene b ++ (reads scene c ++ reads scene d)) (reads_covered a (λ y k. h y (or_left (in_a y) (in_b y || (in_c y || in_d y)) k)))
        (joined_read (reads scene b) (reads scene c ++ reads scene d) (reads_covered b (λ y k. h y (or_right (in_a y) (in_b y || (in_c y || in_d y)) (or_left (in_b y) (in_c y || in_d y) k))))
        (joined_read (reads scene c) (reads scene d) (reads_covered c (λ y k. h y (or_right (in_a y) (in_b y || (in_c y || in_d y)) (or_right (in_b y) (in_c y || in_d y) (or_left (in_c y) (in_d y) k)))))
        (reads_covered d (λ y k. h y (or_right (in_a y) (in_b y || (in_c y || in_d y)) (or_right (in_b y) (in_c y || in_d y) (or_right (in_c y) (in_d y) k)))))))

    written_covered : (x : ℕ) (is : List Control) → (all Writing (root x) ≡ true) → Each (IsCovered outer all) (written (place scene x is))
    written_covered x is h = go (place scene x is) (place_root root scene roots x is)
      where
        go : (o : Option Place) → IfSome o (λ p. p.buffer ≡ root x) → Each (IsCovered outer all) (written o)
        go None k = tt
        go (Some p) k = (ap (all Writing) k ∙ h, tt)

  -- ---- calls

  module _ (kinds : ℕ → Kind) (fields : ℕ → Option Kind) (scope : Scope) (root : ℕ → ℕ) (s : State) (within : Within outer scope) (typed : RootsTyped scope root) (sorted : IsSorted kinds scope s) (roots : HasRoots root s.scene) where
    -- a reduced buffer of the first scope is of that cell type
    of_type : (x : ℕ) (cell : Cell) → has_cell cell (sort_in scope x) ≡ true → (b : ℕ) → b ≡ root x → (sort : Sort) → sort_in outer b ≡ Some sort → (r : ℕ) × (d : Bool) × (sort ≡ BufferName cell r d)
    of_type x cell h b e sort k = go (sort_in scope x) refl h
      where
        sort_is : (a b : Sort) → Some a ≡ Some b → a ≡ b
        sort_is a b e = cc

        go : (o : Option Sort) → sort_in scope x ≡ o → has_cell cell o ≡ true → (r : ℕ) × (d : Bool) × (sort ≡ BufferName cell r d)
        go None j h = absurd (true≢false (sym h))
        go (Some (ControlName kind)) j h = absurd (true≢false (sym h))
        go (Some (BufferName c r d)) j h =
            let z = typed x c r d j in
            (z.0, z.1, sort_is sort (BufferName cell z.0 z.1) (sym (within b sort k) ∙ ap (sort_in scope) e ∙ z.2 ∙ ap (λ y. Some (BufferName y z.0 z.1)) (sym (same_cell_is cell c h))))

    -- a window of a name whose buffer's modes are among all
    window_covered : (f : Place → Entry) (z : Seen) → ((at : List ℤ) → (IsCovered outer all) (f (record { buffer = z.buffer; at = at }))) → Each (IsCovered outer all) (window_entries f z)
    window_covered f z h = each_map (IsCovered outer all) (λ at. f (record { buffer = z.buffer; at = at })) (cells_of z.sides) h

    abbrev Among : Modes → ℕ → ℕ → Type 0
    Among modes p b = (m : Mode) → modes m p ≡ true → all m b ≡ true

    buffer_covered : (modes : Modes) (p : ℕ) (cell : Cell) (x : ℕ) (z : Seen) → has_cell cell (sort_in scope x) ≡ true → z.buffer ≡ root x → Among modes p (root x) → Each (IsCovered outer all) (buffer_entries modes p cell (GivenView z))
    buffer_covered modes p cell x z has e among =
        each_join (IsCovered outer all) (chosen (modes Reading p) (window_entries Reads z) []) (chosen (modes Writing p) (window_entries Writes z) [] ++ chosen (modes Reducing p) (window_entries (Reduces cell) z) [])
        (each_chosen (IsCovered outer all) (modes Reading p) (window_entries Reads z) (λ h. window_covered Reads z (λ at. ap (all Reading) e ∙ among Reading h)))
        (each_join (IsCovered outer all) (chosen (modes Writing p) (window_entries Writes z) []) (chosen (modes Reducing p) (window_entries (Reduces cell) z) [])
        (each_chosen (IsCovered outer all) (modes Writing p) (window_entries Writes z) (λ h. window_covered Writes z (λ at. ap (all Writing) e ∙ among Writing h)))
        (each_chosen (IsCovered outer all) (modes Reducing p) (window_entries (Reduces cell) z) (λ h. window_covered (Reduces cell) z (λ at. (ap (all Reducing) e ∙ among Reducing h, of_type x cell has z.buffer e)))))

    -- the buffer of a buffer argument
    abbrev AmongRoot : Modes → ℕ → Argument → Type 0
    AmongRoot modes p a = (y : ℕ) → is_root root y a ≡ true → Among modes p y

    for_cell : (modes : Modes) (p : ℕ) (cell : Cell) (x : ℕ) (z : Seen) → has_cell cell (sort_in scope x) ≡ true → z.buffer ≡ root x → ((y : ℕ) → (y == root x) ≡ true → Among modes p y) → Each (IsCovered outer all) (buffer_entries modes p cell (GivenView z))
    for_cell modes p cell x z has e among = buffer_covered modes p cell x z has e (among (root x) (eq-eqb (root x) (root x) refl))

    given_covered : (modes : Modes) (p : ℕ) (kind : ParamKind) (a : Argument) → is_for fields scope kind a ≡ true → AmongRoot modes p a → IfSome (given s.scene a) (λ g. Each (IsCovered outer all) (param_entries modes p kind g))
    given_covered modes p (ControlParam kind) a h among = if_weaken (λ g. Unit {0}) (λ g. Unit {0}) (given s.scene a) (any (given s.scene a)) (λ g u. tt)
    given_covered modes p (TensorParam cell dims memory) (ControlArg e) h among = tt
    given_covered modes p (TensorParam cell dims memory) (ConditionArg c) h among = tt
    given_covered modes p (TensorParam cell dims memory) (Whole x) h among =
        let has = (and_parts (has_cell cell (sort_in scope x)) _ h).0 in
        if_map (λ z. z.buffer ≡ root x) (λ g. Each (IsCovered outer all) (buffer_entries modes p cell g)) (s.scene.views x) GivenView (root_of root s.scene roots x) (λ z e. for_cell modes p cell x z has e among)
    given_covered modes p (TensorParam cell dims memory) (Window x coords) h among =
        let has = (and_parts (has_cell cell (sort_in scope x)) _ h).0 in
        if_map (λ z. z.buffer ≡ root x) (λ g. Each (IsCovered outer all) (buffer_entries modes p cell g)) (window s.scene x coords) GivenView (window_root root s.scene roots x coords) (λ z e. for_cell modes p cell x z has e among)
    given_covered modes p (WindowParam cell dims memory) (ControlArg e) h among = tt
    given_covered modes p (WindowParam cell dims memory) (ConditionArg c) h among = tt
    given_covered modes p (WindowParam cell dims memory) (Whole x) h among =
        let has = (and_parts (has_cell cell (sort_in scope x)) _ h).0 in
        if_map (λ z. z.buffer ≡ root x) (λ g. Each (IsCovered outer all) (buffer_entries modes p cell g)) (s.scene.views x) GivenView (root_of root s.scene roots x) (λ z e. for_cell modes p cell x z has e among)
    given_covered modes p (WindowParam cell dims memory) (Window x coords) h among =
        let has = (and_parts (has_cell cell (sort_in scope x)) _ h).0 in
        if_map (λ z. z.buffer ≡ root x) (λ g. Each (IsCovered outer all) (buffer_entries modes p cell g)) (window s.scene x coords) GivenView (window_root root s.scene roots x coords) (λ z e. for_cell modes p cell x z has e among)

    all_covered : (modes : Modes) (ps : List Param) (args : List Argument) → are_for fields scope ps args ≡ true → ((m : Mode) (y : ℕ) → call_writes (modes m) root y ps args ≡ true → all m y ≡ true) → IfSome (all_given s.scene args) (λ gs. Each (IsCovered outer all) (all_entries modes ps gs))
    all_covered modes [] args h among = if_weaken (λ gs. Unit {0}) (λ gs. Unit {0}) (all_given s.scene args) (any (all_given s.scene args)) (λ gs u. tt)
    all_covered modes (p ∷ ps) [] h among = tt
    all_covered modes (p ∷ ps) (a ∷ args) h among =
        let q = and_parts (is_for fields scope p.kind a) (are_for fields scope ps args) h in
        if_then (λ g. Each (IsCovered outer all) (param_entries modes p.binder.id p.kind g)) (λ gs. Each (IsCovered outer all) (all_entries modes (p ∷ ps) gs)) (given s.scene a) _
        (given_covered modes p.binder.id p.kind a q.0 (λ y k m e. among m y (or_left (modes m p.binder.id && is_root root y a) (call_writes (modes m) root y ps args) (ap₂ (λ u v. u && v) e k)))) (λ g k.
        if_map (λ gs. Each (IsCovered outer all) (all_entries modes ps gs)) (λ gs. Each (IsCovered outer all) (all_entries modes (p ∷ ps) gs)) (all_given s.scene args) (λ gs. g ∷ gs)
        (all_covered modes ps args q.1 (λ m y e. among m y (or_right (modes m p.binder.id && is_root root y a) (call_writes (modes m) root y ps args) e))) (λ gs l.
        each_join (IsCovered outer all) (param_entries modes p.binder.id p.kind g) (all_entries modes ps gs) k l))

    call_covered : (o : Option Callee) (modes : Modes) (args : List Argument) → is_call fields scope root o args ≡ true → ((m : Mode) (y : ℕ) → call_has o (modes m) root y args ≡ true → all m y ≡ true) → Each (IsCovered outer all) (entries_to o modes args s)
    call_covered None modes args h among = tt
    call_covered (Some c) modes args h among = go (all_given s.scene args) (all_covered modes c.procedure.params args (and_parts (are_for fields scope c.procedure.params args) _ h).0 among)
      where
        go : (o : Option (List Given)) → IfSome o (λ gs. Each (IsCovered outer all) (all_entries modes c.procedure.params gs)) → Each (IsCovered outer all) (given_entries modes c.procedure.params o)
        go None k = tt
        go (Some gs) k = k

  -- ---- trees

  module _ (kinds : ℕ → Kind) (fields : ℕ → Option Kind) (agree : (f : ℕ) (k : Kind) → fields f ≡ Some k → kinds f ≡ k) (memories : ℕ) (world : World) (same : world.kinds ≡ kinds) (good : (k : ℕ) (c : Callee) → world.callees k ≡ Some c → IsGood kinds fields memories c) (modes : ℕ → Modes) where
    abbrev Sub : (ℕ → ℕ) → Block → Type 0
    Sub root b = (m : Mode) (y : ℕ) → has_mode world.callees modes m root b y ≡ true → all m y ≡ true

    abbrev SubStep : (ℕ → ℕ) → Statement → Type 0
    SubStep root a = (m : Mode) (y : ℕ) → step_has_mode world.callees modes m root a y ≡ true → all m y ≡ true

    -- what holds at each state of the block
    pub record At (scope : Scope) (root : ℕ → ℕ) (s : State) : Type 0 where
      pub sound : IsSound s
      pub sorted : IsSorted kinds scope s
      pub roots : HasRoots root s.scene

    reduced_covered : (scope : Scope) (root : ℕ → ℕ) (s : State) → Within outer scope → At scope root s → (x : ℕ) (is : List Control) → all Reducing (root x) ≡ true → Each (IsCovered outer all) (reduced s.scene (place s.scene x is))
    reduced_covered scope root s within h x is has = go (place s.scene x is) (place_root root s.scene h.roots x is)
      where
        sort_is : (a b : Sort) → Some a ≡ Some b → a ≡ b
        sort_is a b e = cc

        by_shape : (p : Place) → p.buffer ≡ root x → (o : Option Shape) → s.scene.buffers p.buffer ≡ o → Each (IsCovered outer all) (reduced_as p o)
        by_shape p k None e = tt
        by_shape p k (Some shape) e =
            let z = h.sorted.buffers p.buffer shape e in
            ((ap (all Reducing) k ∙ has, λ sort j. (z.0, z.1, sort_is sort (BufferName shape.cell z.0 z.1) (sym (within p.buffer sort j) ∙ z.2))), tt)

        go : (o : Option Place) → IfSome o (λ p. p.buffer ≡ root x) → Each (IsCovered outer all) (reduced s.scene o)
        go None k = tt
        go (Some p) k = by_shape p k (s.scene.buffers p.buffer) refl

    turns_covered : (i : Binder) (body : State → Option State) (touch : State → List Entry) (scope : Scope) (root : ℕ → ℕ) → is_new scope i ≡ true → ((t : State) → At (with_name scope i (ControlName Index)) root t → Each (IsCovered outer all) (touch t)) → ((t : State) → IsSound t → IsSorted kinds (with_name scope i (ControlName Index)) t → IfSome (body t) (Ends kinds t)) → (ns : List ℤ) (s : State) → At scope root s → Each (IsCovered outer all) (turns_touch (turn i.id body) (λ n t. touch (on_scene (with_control i.id n) t)) ns s)
    turns_covered i body touch scope root new k run_ok [] s h = tt
    turns_covered i body touch scope root new k run_ok (n ∷ ns) s h =
        let inner = on_scene (with_control i.id n) s in
        each_join (IsCovered outer all) (touch inner) (further (turn i.id body n s) (turns_touch (turn i.id body) (λ n t. touch (on_scene (with_control i.id n) t)) ns))
        (k inner (record { sound = record { tidy = h.sound.tidy; seen = h.sound.seen }; sorted = inside kinds scope i n s new h.sorted; roots = h.roots }))
        (each_further (IsCovered outer all) (turn i.id body n s) (turns_touch (turn i.id body) (λ n t. touch (on_scene (with_control i.id n) t)) ns) (λ t e. turns_covered i body touch scope root new k run_ok ns t (record {
          sound = if_gives IsSound (turn i.id body n s) t (turn_sound i.id body n s h.sound) e;
          sorted = (if_gives (Next kinds scope s) (turn i.id body n s) t (turn_next kinds fields agree memories world same good i body scope new run_ok n s h.sound h.sorted) e).sorted;
          roots = if_gives (λ (z : State). HasRoots root z.scene) (turn i.id body n s) t (if_map (λ z. Unit {0}) (λ (z : State). HasRoots root z.scene) (body inner) (left s) (any (body inner)) (λ z u. h.roots)) e;
        })))

    not_in_outer : (x : Binder) (scope : Scope) → is_new scope x ≡ true → Within outer scope → sort_in outer x.id ≡ None
    not_in_outer x scope new within = go (sort_in outer x.id) refl
      where
        go : (o : Option Sort) → sort_in outer x.id ≡ o → o ≡ None
        go None e = refl
        go (Some sort) e = absurd (none_some (sym (new_is_none scope x new) ∙ within x.id sort e))

    pick : (t : Bool) (es fs : List Entry) → Each (IsCovered outer all) es → Each (IsCovered outer all) fs → Each (IsCovered outer all) (chosen t es fs)
    pick true es fs h k = h
    pick false es fs h k = k

    within_after : (a : Statement) (scope : Scope) (root : ℕ → ℕ) → is_statement fields memories world.callees scope root a ≡ true → Within outer scope → Within outer (scope_after a scope)
    within_after (Assign x is e) scope root ok w = w
    within_after (Reduce x is e) scope root ok w = w
    within_after (Config f a) scope root ok w = w
    within_after Pass scope root ok w = w
    within_after (If c a b) scope root ok w = w
    within_after (For i lo hi b) scope root ok w = w
    within_after (Alloc x cell dims memory) scope root ok w = within_name outer scope x (BufferName cell (length dims) true) (and_parts (is_new scope x) _ ok).0 w
    within_after (View v x coords) scope root ok w = within_name outer scope v (view_sort (sort_in scope x) (spans coords)) (and_parts (is_new scope v) _ ok).0 w
    within_after (Call k args) scope root ok w = w

    typed_after : (a : Statement) (scope : Scope) (root : ℕ → ℕ) → is_statement fields memories world.callees scope root a ≡ true → RootsTyped scope root → RootsTyped (scope_after a scope) (roots_after a root)
    typed_after (Assign x is e) scope root ok h = h
    typed_after (Reduce x is e) scope root ok h = h
    typed_after (Config f a) scope root ok h = h
    typed_after Pass scope root ok h = h
    typed_after (If c a b) scope root ok h = h
    typed_after (For i lo hi b) scope root ok h = h
    typed_after (Alloc x cell dims memory) scope root ok h = typed_alloc scope root x cell (length dims) (and_parts (is_new scope x) _ ok).0 h
    typed_after (View w x coords) scope root ok h =
        let p = and_parts (is_new scope w) _ ok in
        let q = and_parts (is_window fields scope x coords) _ p.1 in
        typed_view scope root w x (length coords) (spans coords) p.0 (and_parts (has_rank (length coords) (sort_in scope x)) _ q.0).0 h
    typed_after (Call k args) scope root ok h = h

    mutual
      pub run_covered : (b : Block) (scope : Scope) (root : ℕ → ℕ) → is_block fields memories world.callees scope root b ≡ true → Within outer scope → RootsTyped scope root → Sub root b → (s : State) → At scope root s → Each (IsCovered outer all) (touched world modes b s)
      run_covered end scope root ok within typed sub = λ s h. tt
      run_covered (next a b) scope root ok within typed sub = λ s h.
          let p = and_parts (is_statement fields memories world.callees scope root a) (is_block fields memories world.callees (scope_after a scope) (roots_after a root) b) ok in
          let now : Each (IsCovered outer all) (step_footprint world (call_entries world.callees modes) a s) = step_covered a scope root p.0 within typed (λ m y e. sub m y (or_left (step_has_mode world.callees modes m root a y) (has_mode world.callees modes m (roots_after a root) b y) e)) s h in
          each_join (IsCovered outer all) (step_footprint world (call_entries world.callees modes) a s) (further (step world a s) (footprint world (call_entries world.callees modes) b)) now
          (each_further (IsCovered outer all) (step world a s) (footprint world (call_entries world.callees modes) b) (λ t e.
          run_covered b (scope_after a scope) (roots_after a root) p.1 (within_after a scope root p.0 within) (typed_after a scope root p.0 typed) (λ m y e. sub m y (or_right (step_has_mode world.callees modes m root a y) (has_mode world.callees modes m (roots_after a root) b y) e)) t (record {
            sound = if_gives IsSound (step world a s) t (step_sound world a s h.sound) e;
            sorted = (if_gives (Next kinds (scope_after a scope) s) (step world a s) t (step_next kinds fields agree memories world same good a scope root p.0 s h.sound h.sorted) e).sorted;
            roots = if_gives (λ (z : State). HasRoots (roots_after a root) z.scene) (step world a s) t (roots_next world a root s h.roots) e;
          })))

      step_covered : (a : Statement) (scope : Scope) (root : ℕ → ℕ) → is_statement fields memories world.callees scope root a ≡ true → Within outer scope → RootsTyped scope root → SubStep root a → (s : State) → At scope root s → Each (IsCovered outer all) (step_footprint world (call_entries world.callees modes) a s)
      step_covered (Assign x is e) scope root ok within typed sub = λ s h.
          each_join (IsCovered outer all) (all_read (reads s.scene e)) (written (place s.scene x is)) (reads_covered root s.scene h.roots e (λ y k. sub Reading y k)) (written_covered root s.scene h.roots x is (sub Writing (root x) (eq-eqb (root x) (root x) refl)))
      step_covered (Reduce x is e) scope root ok within typed sub = λ s h.
          each_join (IsCovered outer all) (all_read (reads s.scene e)) (reduced s.scene (place s.scene x is)) (reads_covered root s.scene h.roots e (λ y k. sub Reading y k)) (reduced_covered scope root s within h x is (sub Reducing (root x) (eq-eqb (root x) (root x) refl)))
      step_covered (Config f a) scope root ok within typed sub = λ s h. tt
      step_covered Pass scope root ok within typed sub = λ s h. tt
      step_covered (If c a b) scope root ok within typed sub = λ s h.
          let p = and_parts (is_condition fields with_fields scope c) _ ok in
          let q = and_parts (not (is_empty a) && (is_short a && is_short b)) _ p.1 in
          let r = and_parts (is_block fields memories world.callees scope root a) (is_block fields memories world.callees scope root b) q.1 in
          let first = run_covered a scope root r.0 within typed (λ m y e. sub m y (or_left (has_mode world.callees modes m root a y) (has_mode world.callees modes m root b y) e)) s h in
          let second = run_covered b scope root r.1 within typed (λ m y e. sub m y (or_right (has_mode world.callees modes m root a y) (has_mode world.callees modes m root b y) e)) s h in
          pick (holds s.scene c) (touched world modes a s) (touched world modes b s) first second
      step_covered (For i lo hi b) scope root ok within typed sub = λ s h.
          let p = and_parts (is_new scope i) _ ok in
          let q = and_parts (is_control fields plainly scope lo && is_control fields plainly scope hi) _ p.1 in
          let r = and_parts (not (is_empty b) && is_short b) _ q.1 in
          turns_covered i (run world b) (touched world modes b) scope root p.0 (run_covered b (with_name scope i (ControlName Index)) root r.1 (within_name outer scope i (ControlName Index) p.0 within) (typed_index scope root i p.0 typed) sub) (run_ends kinds fields agree memories world same good b (with_name scope i (ControlName Index)) root r.1) (turns_of s.scene lo hi) s h
      step_covered (Alloc x cell dims memory) scope root ok within typed sub = λ s h. (not_in_outer x scope (and_parts (is_new scope x) _ ok).0 within, tt)
      step_covered (View w x coords) scope root ok within typed sub = λ s h. tt
      step_covered (Call k args) scope root ok within typed sub = λ s h. call_covered kinds fields scope root s within typed h.sorted h.roots (world.callees k) (modes k) args ok (λ m y e. sub m y e)
