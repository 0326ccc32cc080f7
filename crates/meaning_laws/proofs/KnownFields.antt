-- What is known of fields goes along with a run.
use Rattle.std.proofs.Common.{◌≡◌, ℕ, zero, suc, ℤ, pos, ◌==◌, int_lt, int_le, Bool, true, false, true≢false, cond, not, ◌&&◌, ◌||◌, List, [], ◌∷◌, Option, Some, None, refl, sym, ap, ap₂, ◌∙◌, subst, eqb-true, eq-eqb}
use Rattle.std.specs.Prelude.{get_or}
use Rattle.exo_tree.specs.Tree.{Binder, I8, Control, Condition, Argument, Statement, Assign, Reduce, Config, Pass, If, For, Alloc, View, Call, Block, end, next}
use Rattle.exo_tree.specs.Context.{Context, Here, After, InLoop, InThen, InElse, fill}
use Rattle.exo_tree.specs.Places.{Branch, Main, Else, Path}
use Rattle.exo_meaning.specs.Scene.{Side, Range, updated, where_true, number, holds, strides_of}
use Rattle.exo_meaning.specs.State.{State, left, scoped, on_scene, with_control, with_field}
use Rattle.exo_meaning.specs.Calls.{suits}
use Rattle.exo_meaning.specs.Run.{World, run, step, turn, turns_of, choose, argument_number}
use Rattle.exo_meaning.specs.Inputs.{IsOfKind}
use Rattle.exo_meaning.specs.Orders.{Each}
use Rattle.exo_meaning.specs.Unseen.{in_control, in_condition, in_argument}
use Rattle.exo_meaning.proofs.Frame.{or_parts, updated_other}
use Rattle.meaning_laws.specs.Context.{ComesTo, ComesToTurn, now, later}
use Rattle.meaning_laws.specs.Sound.{IsSound, IsUnbound, IsSameName, binds}
use Rattle.meaning_laws.specs.Fields.{writes_field, step_writes_field, HasField, CallsLeave}
use Rattle.meaning_laws.specs.Live.{read_by_argument}
use Rattle.meaning_laws.specs.Scoped.{is_not, is_scoped, step_is_scoped, has_binder, step_has_binder}
use Rattle.meaning_laws.specs.KnownFields.{FieldValue, AtEntry, Known, UnknownAt, KnownFields, Telling, same_path, path_in, forgotten, same_value, agreed, after, at_end, known_at}
use Rattle.meaning_laws.specs.PlaceFacts.{PlaceFact, facts_round, Numbers, argument_value, field_number, with_known, IsTrueIn, Strides, HasStrides, StridesAre, AreWritten, is_written, all_written, step_all_written, AgreeWell}
use Rattle.meaning_laws.proofs.Parts.{none_some, some_injective, then_gives, map_gives}
use Rattle.meaning_laws.proofs.Names.{if_gives, SameControl, step_control, step_names, Others, come_to_turn_names}
use Rattle.meaning_laws.proofs.Sound.{left_sound, step_sound, come_to_turn_sound}
use Rattle.meaning_laws.proofs.Copies.{unbound_on}
use Rattle.meaning_laws.proofs.Substitute.{and_parts}
use Rattle.meaning_laws.proofs.Scoped.{not_true, or_elim}
use Rattle.meaning_laws.proofs.Binders.{binder_new}
use Rattle.meaning_laws.proofs.Fields.{run_leaves, step_leaves}
use Rattle.meaning_laws.proofs.Facts.{Between, come_to_turn_each, turns_between, le_holds, lt_holds}
use Rattle.meaning_laws.proofs.PathOrder.{is_before, path_self, path_is, other_path, before_inside, self_before_inside, self_before_next, before_step, before_after, either_left, either_right}
use Rattle.meaning_laws.proofs.SameNumbers.{IsSameIn, number_same, holds_same, value_same}
use Rattle.meaning_laws.proofs.Apart.{IsApart, StepIsApart, binds_apart}

pub where_gives : {A : Type 0} (t : Bool) (o : Option A) (a : A) → where_true t o ≡ Some a → o ≡ Some a
where_gives false o a e = absurd (none_some e)
where_gives true o a e = e

contrary : (t : Bool) → (t ≡ true → ⊥) → t ≡ false
contrary true h = absurd (h refl)
contrary false h = refl

-- ---- numbers that go along with a run

-- the number of each field that a statement made unknown
pub record Ghost : Type 0 where
  pub unknown : ℕ → Path → ℤ

-- numbers with these strides, that agree with these on the names that are not bound behind, and on the paths before this one
pub record Fits (steps : Strides) (ahead : ℕ → Bool) (path : Path) (entry : ℕ → ℤ) (g : Ghost) (s : State) (v : Numbers) : Type 0 where
  pub control : (x : ℕ) → ahead x ≡ false → v.scene.control x ≡ s.scene.control x
  pub strides : HasStrides steps v.scene
  pub entries : (f : ℕ) → v.scene.fields f ≡ entry f
  pub unknown : (f : ℕ) (q : Path) → is_before q path ≡ true → v.unknown f q ≡ g.unknown f q

-- what a statement or block leaves of them
pub record Onward (path : Path) (g h : Ghost) (s t : State) : Type 0 where
  pub control : SameControl s t
  pub unknown : (f : ℕ) (q : Path) → is_before q path ≡ true → h.unknown f q ≡ g.unknown f q

fits_back : (steps : Strides) (ahead behind : ℕ → Bool) (path further : Path) (entry : ℕ → ℤ) (g h : Ghost) (s t : State) (v : Numbers) → ((x : ℕ) → ahead x ≡ false → (behind x ≡ false) × (t.scene.control x ≡ s.scene.control x)) → ((f : ℕ) (q : Path) → is_before q path ≡ true → (is_before q further ≡ true) × (h.unknown f q ≡ g.unknown f q)) → Fits steps behind further entry h t v → Fits steps ahead path entry g s v
fits_back steps ahead behind path further entry g h s t v names paths fits = record {
  control = λ x k. let n = names x k in fits.control x n.0 ∙ n.1;
  strides = fits.strides;
  entries = fits.entries;
  unknown = λ f q b. let n = paths f q b in fits.unknown f q n.0 ∙ n.1;
}

-- ---- numbers of a state

abbrev full : List ℤ → List Side
full [] = []
full (t ∷ ts) = Range (pos 0) (pos 1) ∷ full ts

full_strides : (ts : List ℤ) → strides_of (full ts) ts ≡ ts
full_strides [] = refl
full_strides (t ∷ ts) = ap (λ l. t ∷ l) (full_strides ts)

abbrev numbers_of : Strides → (ℕ → ℤ) → Ghost → State → Numbers
numbers_of steps entry g s = record {
  scene = record {
    control = s.scene.control;
    buffers = λ x. Some (record { cell = I8; dims = []; strides = steps s.scene.control x });
    views = λ x. Some (record { buffer = x; sides = full (steps s.scene.control x) });
    fields = entry;
  };
  unknown = g.unknown;
}

numbers_fit : (steps : Strides) (ahead : ℕ → Bool) (path : Path) (entry : ℕ → ℤ) (g : Ghost) (s : State) → Fits steps ahead path entry g s (numbers_of steps entry g s)
numbers_fit steps ahead path entry g s = record {
  control = λ x k. refl;
  strides = λ x k. ap (λ l. get_or l k (pos 0)) (full_strides (steps s.scene.control x));
  entries = λ f. refl;
  unknown = λ f q b. refl;
}

-- ---- marks

abbrev marked : Path → (ℕ → ℤ) → (ℕ → Path → ℤ) → ℕ → Path → ℤ
marked path fields u f q = cond (same_path q path) (fields f) (u f q)

marked_here : (path : Path) (fields : ℕ → ℤ) (u : ℕ → Path → ℤ) (f : ℕ) → marked path fields u f path ≡ fields f
marked_here path fields u f = ap (λ t. cond t (fields f) (u f path)) (path_self path)

marked_before : (path : Path) (fields : ℕ → ℤ) (u : ℕ → Path → ℤ) (f : ℕ) (q : Path) → is_before q path ≡ true → marked path fields u f q ≡ u f q
marked_before path fields u f q b = ap (λ t. cond t (fields f) (u f q)) (other_path q path b)

marked_fits : (P : ℕ → ℤ → Type 0) (path : Path) (fields : ℕ → ℤ) (u : ℕ → Path → ℤ) → ((f : ℕ) → P f (fields f)) → ((f : ℕ) (q : Path) → P f (u f q)) → (f : ℕ) (q : Path) → P f (marked path fields u f q)
marked_fits P path fields u h k f q = go (same_path q path)
  where
    go : (t : Bool) → P f (cond t (fields f) (u f q))
    go true = h f
    go false = k f q

-- ---- what holds before a statement

-- the right side of a write, as it is written down, has the same number there; it uses names in scope alone, and no field
pub record IsTold (bound : ℕ → Bool) (told a : Argument) (s : State) : Type 0 where
  pub named : in_argument (is_not bound) told ≡ false
  pub plain : (g : ℕ) → read_by_argument g told ≡ false
  pub same : argument_value s.scene told ≡ argument_value s.scene a

-- what is true of the states in which a run comes to a block
pub record Walks (world : World) (tell : Telling) (steps : Strides) (may : ℕ → Argument → Bool) (V : (ℕ → Bool) → Block → State → Type 0) : Type 0 where
  pub on : (bound : ℕ → Bool) (a : Statement) (b : Block) (s t : State) → V bound (next a b) s → step world a s ≡ Some t → V (λ y. binds a y || bound y) b t
  pub turn_in : (bound : ℕ → Bool) (i : _) (lo hi : Control) (b rest : Block) (s : State) (n : ℤ) (u : State) → V bound (next (For i lo hi b) rest) s → ComesToTurn (turn i.id (run world b)) (turns_of s.scene lo hi) s n u → V (λ y. (y == i.id) || bound y) b (on_scene (with_control i.id n) u)
  pub then_in : (bound : ℕ → Bool) (c : Condition) (a b rest : Block) (s : State) → V bound (next (If c a b) rest) s → holds s.scene c ≡ true → V bound a s
  pub else_in : (bound : ℕ → Bool) (c : Condition) (a b rest : Block) (s : State) → V bound (next (If c a b) rest) s → holds s.scene c ≡ false → V bound b s
  pub fit : (bound : ℕ → Bool) (b : Block) (s : State) → V bound b s → (f : ℕ) → IsOfKind (world.kinds f) (s.scene.fields f)
  pub written : (bound : ℕ → Bool) (f : ℕ) (a : Argument) (b : Block) (s : State) → V bound (next (Config f a) b) s → IsTold bound (tell.told a) a s
  pub steps_are : (bound : ℕ → Bool) (b : Block) (s : State) → V bound b s → StridesAre steps bound s.scene
  pub all_are_written : (bound : ℕ → Bool) (b : Block) (s : State) → V bound b s → all_written (λ f a. may f (tell.told a)) b ≡ true

-- at all numbers that fit, each field has the number of what is known of it
pub record Stands (world : World) (steps : Strides) (may : ℕ → Argument → Bool) (entry : ℕ → ℤ) (bound ahead : ℕ → Bool) (path : Path) (g : Ghost) (known : KnownFields) (s : State) : Type 0 where
  pub sound : IsSound s
  pub free : (x : ℕ) → bound x ≡ false → IsUnbound s x
  pub kinds : (f : ℕ) (q : Path) → IsOfKind (world.kinds f) (g.unknown f q)
  pub told : AreWritten may known
  pub fields : (v : Numbers) → Fits steps ahead path entry g s v → (f : ℕ) → s.scene.fields f ≡ field_number v f (known f)

-- after a statement
pub record StepEnds (world : World) (steps : Strides) (may : ℕ → Argument → Bool) (entry : ℕ → ℤ) (bound behind : ℕ → Bool) (path further : Path) (g : Ghost) (known : KnownFields) (s t : State) : Type 0 where
  pub ghost : Ghost
  pub stands : Stands world steps may entry bound behind further ghost known t
  pub onward : Onward path g ghost s t

-- after a block
pub record BlockEnds (world : World) (steps : Strides) (may : ℕ → Argument → Bool) (entry : ℕ → ℤ) (outside : ℕ → Bool) (outer : Path) (branch : Branch) (path : Path) (g : Ghost) (known : KnownFields) (s t : State) : Type 0 where
  pub ghost : Ghost
  pub number : ℕ
  pub kinds : (f : ℕ) (q : Path) → IsOfKind (world.kinds f) (ghost.unknown f q)
  pub fields : (v : Numbers) → Fits steps outside (path_in outer branch number) entry ghost t v → (f : ℕ) → t.scene.fields f ≡ field_number v f (known f)
  pub onward : Onward path g ghost s t

module _ (steps : Strides) (entry : ℕ → ℤ) where
  -- numbers that fit a state agree with it on the names that are bound
  agree_there : (bound ahead : ℕ → Bool) (path : Path) (g : Ghost) (s : State) (v : Numbers) (fields : ℕ → ℤ) → StridesAre steps bound s.scene → ((x : ℕ) → bound x ≡ true → ahead x ≡ false) → Fits steps ahead path entry g s v → (x : ℕ) → bound x ≡ true → IsSameIn (record v.scene { fields = fields }) s.scene x
  agree_there bound ahead path g s v fields are new fits x k = record {
    control = fits.control x (new x k);
    strides = λ j. fits.strides x j ∙ sym (are v.scene.control (λ y z. fits.control y (new y z)) x j k);
  }

stands_weaken : (world : World) (steps : Strides) (may : ℕ → Argument → Bool) (entry : ℕ → ℤ) (bound ahead fewer : ℕ → Bool) (path : Path) (g : Ghost) (known : KnownFields) (s : State) → ((x : ℕ) → ahead x ≡ false → fewer x ≡ false) → Stands world steps may entry bound ahead path g known s → Stands world steps may entry bound fewer path g known s
stands_weaken world steps may entry bound ahead fewer path g known s less h = record {
  sound = h.sound;
  free = h.free;
  kinds = h.kinds;
  told = h.told;
  fields = λ v fits. h.fields v (fits_back steps ahead fewer path path entry g g s s v (λ x k. (less x k, refl)) (λ f q b. (b, refl)) fits);
}

-- numbers that fit after a statement or block fit before it
step_back : (steps : Strides) (entry : ℕ → ℤ) (made behind : ℕ → Bool) (outer : Path) (branch : Branch) (n : ℕ) (g h : Ghost) (s t : State) (v : Numbers) → Onward (path_in outer branch n) g h s t → Fits steps behind (path_in outer branch (suc n)) entry h t v → Fits steps (λ x. made x || behind x) (path_in outer branch n) entry g s v
step_back steps entry made behind outer branch n g h s t v on = fits_back steps (λ x. made x || behind x) behind (path_in outer branch n) (path_in outer branch (suc n)) entry g h s t v (λ x k. let p = or_parts (made x) (behind x) k in (p.1, on.control x)) (λ f q b. (before_step q outer branch n b, on.unknown f q b))

same_value_right : (steps : Strides) (may : ℕ → Argument → Bool) (agree : Argument → Argument → Bool) → AgreeWell steps may agree → (v : Numbers) → HasStrides steps v.scene → (f : ℕ) (x y : FieldValue) → is_written may f x ≡ true → is_written may f y ≡ true → same_value agree x y ≡ true → field_number v f x ≡ field_number v f y
same_value_right steps may agree well v have f AtEntry AtEntry one two h = refl
same_value_right steps may agree well v have f AtEntry (Known b) one two h = absurd (true≢false (sym h))
same_value_right steps may agree well v have f AtEntry (UnknownAt q) one two h = absurd (true≢false (sym h))
same_value_right steps may agree well v have f (Known a) AtEntry one two h = absurd (true≢false (sym h))
same_value_right steps may agree well v have f (Known a) (Known b) one two h = well f a b one two h v.scene have
same_value_right steps may agree well v have f (Known a) (UnknownAt q) one two h = absurd (true≢false (sym h))
same_value_right steps may agree well v have f (UnknownAt p) AtEntry one two h = absurd (true≢false (sym h))
same_value_right steps may agree well v have f (UnknownAt p) (Known b) one two h = absurd (true≢false (sym h))
same_value_right steps may agree well v have f (UnknownAt p) (UnknownAt q) one two h = ap (v.unknown f) (path_is p q h)

pub or_false : (a b : Bool) → a ≡ false → b ≡ false → (a || b) ≡ false
or_false true b h k = h
or_false false b h k = k

assoc_false : (a b c : Bool) → ((a || b) || c) ≡ false → (a || (b || c)) ≡ false
assoc_false true b c h = h
assoc_false false b c h = h

-- ---- what is known is of the sets

module _ (tell : Telling) (may : ℕ → Argument → Bool) where
  abbrev ToldIn : ℕ → Argument → Bool
  ToldIn f a = may f (tell.told a)

  forgotten_written : (w : ℕ → Bool) (path : Path) (known : KnownFields) → AreWritten may known → AreWritten may (forgotten w path known)
  forgotten_written w path known h f = go (w f)
    where
      go : (z : Bool) → is_written may f (cond z (UnknownAt path) (known f)) ≡ true
      go true = refl
      go false = h f

  agreed_written : (path : Path) (one two : KnownFields) → AreWritten may one → AreWritten may (agreed tell.agree path one two)
  agreed_written path one two h f = go (same_value tell.agree (one f) (two f))
    where
      go : (z : Bool) → is_written may f (cond z (one f) (UnknownAt path)) ≡ true
      go true = h f
      go false = refl

  set_written : (f g : ℕ) (a : Argument) (known : KnownFields) → may g a ≡ true → AreWritten may known → (z : Bool) → (z ≡ true → f ≡ g) → is_written may f (cond z (Known a) (known f)) ≡ true
  set_written f g a known k h true e = ap (λ n. may n a) (e refl) ∙ k
  set_written f g a known k h false e = h f

  mutual
    after_written : (path : Path) (a : Statement) (known : KnownFields) → step_all_written ToldIn a ≡ true → AreWritten may known → AreWritten may (after tell path a known)
    after_written path (Assign x is e) known k h = h
    after_written path (Reduce x is e) known k h = h
    after_written path (Config g a) known k h = λ f. set_written f g (tell.told a) known k h (f == g) (eqb-true f g)
    after_written path Pass known k h = h
    after_written path (If c a b) known k h = agreed_written path (at_end tell path Main zero a known) (at_end tell path Else zero b known) (at_end_written path Main zero a known (and_parts (all_written ToldIn a) (all_written ToldIn b) k).0 h)
    after_written path (For i lo hi b) known k h = forgotten_written (λ f. writes_field tell.writes f b) path known h
    after_written path (Alloc x cell dims memory) known k h = h
    after_written path (View w x coords) known k h = h
    after_written path (Call n args) known k h = forgotten_written (tell.writes n) path known h

    at_end_written : (outer : Path) (branch : Branch) (n : ℕ) (b : Block) (known : KnownFields) → all_written ToldIn b ≡ true → AreWritten may known → AreWritten may (at_end tell outer branch n b known)
    at_end_written outer branch n end known k h = h
    at_end_written outer branch n (next a b) known k h =
        let p = and_parts (step_all_written ToldIn a) (all_written ToldIn b) k in
        at_end_written outer branch (suc n) b (after tell (path_in outer branch n) a known) p.1 (after_written (path_in outer branch n) a known p.0 h)

-- ---- after a statement

module _ (world : World) (tell : Telling) (steps : Strides) (may : ℕ → Argument → Bool) (leave : CallsLeave world tell.writes) (agree_well : AgreeWell steps may tell.agree) (entry : ℕ → ℤ) (V : (ℕ → Bool) → Block → State → Type 0) (walks : Walks world tell steps may V) where
  settled : (bound behind : ℕ → Bool) (outer : Path) (branch : Branch) (n : ℕ) (a : Statement) (g : Ghost) (known becomes : KnownFields) (s t : State) (u : ℕ → Path → ℤ) → step_is_scoped bound a ≡ true → Stands world steps may entry bound (λ x. step_has_binder a x || behind x) (path_in outer branch n) g known s → step world a s ≡ Some t → ((f : ℕ) (q : Path) → is_before q (path_in outer branch n) ≡ true → u f q ≡ g.unknown f q) → ((f : ℕ) (q : Path) → IsOfKind (world.kinds f) (u f q)) → AreWritten may becomes → ((v : Numbers) → Fits steps behind (path_in outer branch (suc n)) entry (record { unknown = u }) t v → Fits steps (λ x. step_has_binder a x || behind x) (path_in outer branch n) entry g s v → (f : ℕ) → t.scene.fields f ≡ field_number v f (becomes f)) → StepEnds world steps may entry (λ y. binds a y || bound y) behind (path_in outer branch n) (path_in outer branch (suc n)) g becomes s t
  settled bound behind outer branch n a g known becomes s t u scoped h e same kinds told fields = record {
    ghost = record { unknown = u };
    stands = record {
      sound = if_gives IsSound (step world a s) t (step_sound world a s h.sound) e;
      free = λ x k. let p = or_parts (binds a x) (bound x) k in unbound_on s t x (names x p.0) (h.free x p.1);
      kinds = kinds;
      told = told;
      fields = λ v fits. fields v fits (step_back steps entry (step_has_binder a) behind outer branch n g (record { unknown = u }) s t v on fits);
    };
    onward = on;
  }
    where
      names : Others (binds a) s t
      names = if_gives (Others (binds a) s) (step world a s) t (step_names world a s) e

      on : Onward (path_in outer branch n) g (record { unknown = u }) s t
      on = record { control = if_gives (SameControl s) (step world a s) t (step_control world a s) e; unknown = same }

  -- a statement that writes no field
  plain : (bound behind : ℕ → Bool) (outer : Path) (branch : Branch) (n : ℕ) (a : Statement) (g : Ghost) (known : KnownFields) (s t : State) → ((f : ℕ) → step_writes_field tell.writes f a ≡ false) → step_is_scoped bound a ≡ true → Stands world steps may entry bound (λ x. step_has_binder a x || behind x) (path_in outer branch n) g known s → step world a s ≡ Some t → StepEnds world steps may entry (λ y. binds a y || bound y) behind (path_in outer branch n) (path_in outer branch (suc n)) g known s t
  plain bound behind outer branch n a g known s t none scoped h e = settled bound behind outer branch n a g known known s t g.unknown scoped h e (λ f q b. refl) h.kinds h.told (λ v late early f. if_gives (HasField f s) (step world a s) t (step_leaves f world tell.writes leave a (none f) s) e ∙ h.fields v early f)

  -- fields of a set are unknown, and the others are kept
  forget : (w : ℕ → Bool) (path : Path) (known : KnownFields) (s t : State) (v : Numbers) → ((f : ℕ) → w f ≡ false → t.scene.fields f ≡ s.scene.fields f) → ((f : ℕ) → t.scene.fields f ≡ v.unknown f path) → ((f : ℕ) → s.scene.fields f ≡ field_number v f (known f)) → (f : ℕ) → t.scene.fields f ≡ field_number v f (forgotten w path known f)
  forget w path known s t v kept here before f = go (w f) refl
    where
      go : (z : Bool) → w f ≡ z → t.scene.fields f ≡ field_number v f (cond z (UnknownAt path) (known f))
      go true k = here f
      go false k = kept f k ∙ before f

  -- a loop or a call
  clears : (bound behind : ℕ → Bool) (outer : Path) (branch : Branch) (n : ℕ) (a : Statement) (g : Ghost) (known : KnownFields) (s t : State) → step_is_scoped bound a ≡ true → ((f : ℕ) → IsOfKind (world.kinds f) (t.scene.fields f)) → Stands world steps may entry bound (λ x. step_has_binder a x || behind x) (path_in outer branch n) g known s → step world a s ≡ Some t → StepEnds world steps may entry (λ y. binds a y || bound y) behind (path_in outer branch n) (path_in outer branch (suc n)) g (forgotten (λ f. step_writes_field tell.writes f a) (path_in outer branch n) known) s t
  clears bound behind outer branch n a g known s t scoped fit h e =
      let path = path_in outer branch n in
      settled bound behind outer branch n a g known (forgotten (λ f. step_writes_field tell.writes f a) path known) s t (marked path t.scene.fields g.unknown) scoped h e (λ f q b. marked_before path t.scene.fields g.unknown f q b) (marked_fits (λ f z. IsOfKind (world.kinds f) z) path t.scene.fields g.unknown fit h.kinds) (forgotten_written tell may (λ f. step_writes_field tell.writes f a) path known h.told) (λ v late early. forget (λ f. step_writes_field tell.writes f a) path known s t v (λ f k. if_gives (HasField f s) (step world a s) t (step_leaves f world tell.writes leave a k s) e) (λ f. sym (late.unknown f path (self_before_next outer branch n) ∙ marked_here path t.scene.fields g.unknown f)) (h.fields v early))

  writes_one : (bound behind : ℕ → Bool) (outer : Path) (branch : Branch) (n : ℕ) (f : ℕ) (a : Argument) (b : Block) (g : Ghost) (known : KnownFields) (s t : State) → ((x : ℕ) → behind x ≡ true → bound x ≡ false) → V bound (next (Config f a) b) s → step_is_scoped bound (Config f a) ≡ true → Stands world steps may entry bound behind (path_in outer branch n) g known s → step world (Config f a) s ≡ Some t → StepEnds world steps may entry bound behind (path_in outer branch n) (path_in outer branch (suc n)) g (updated known f (Known (tell.told a))) s t
  writes_one bound behind outer branch n f a b g known s t new visit scoped h e = settled bound behind outer branch n (Config f a) g known (updated known f (Known (tell.told a))) s t g.unknown scoped h e (λ k q j. refl) h.kinds (after_written tell may (path_in outer branch n) (Config f a) known (and_parts (may f (tell.told a)) (all_written (ToldIn tell may) b) (walks.all_are_written bound (next (Config f a) b) s visit)).0 h.told) (λ v late early k. go v early k (k == f) refl)
    where
      told : IsTold bound (tell.told a) a s
      told = walks.written bound f a b s visit

      number : (m : ℤ) × (argument_number s.scene a ≡ Some m) × (where_true (suits (world.kinds f) m) (Some (on_scene (with_field f m) s)) ≡ Some t)
      number = then_gives (argument_number s.scene a) (λ m. where_true (suits (world.kinds f) m) (Some (on_scene (with_field f m) s))) t e

      fields_are : (k : ℕ) → cond (k == f) number.0 (s.scene.fields k) ≡ t.scene.fields k
      fields_are k = ap (λ (z : State). z.scene.fields k) (some_injective (on_scene (with_field f number.0) s) t (where_gives (suits (world.kinds f) number.0) (Some (on_scene (with_field f number.0) s)) t number.2))

      go : (v : Numbers) → Fits steps behind (path_in outer branch n) entry g s v → (k : ℕ) (z : Bool) → (k == f) ≡ z → t.scene.fields k ≡ field_number v k (cond z (Known (tell.told a)) (known k))
      go v fits k true j =
          let names = agree_there steps entry bound behind (path_in outer branch n) g s v v.scene.fields (walks.steps_are bound (next (Config f a) b) s visit) (λ x y. contrary (behind x) (λ d. true≢false (sym y ∙ new x d))) fits in
          sym (fields_are k) ∙ ap (λ z. cond z number.0 (s.scene.fields k)) j ∙ sym (ap (λ o. elim o as (λ o. ℤ) [ None ↦ pos 0 | Some m ↦ m ]) number.1) ∙ sym told.same ∙ sym (value_same bound v.scene s.scene names (tell.told a) told.named (λ d r. absurd (true≢false (sym r ∙ told.plain d))))
      go v fits k false j = sym (fields_are k) ∙ ap (λ z. cond z number.0 (s.scene.fields k)) j ∙ h.fields v fits k

  abbrev AheadIsNew : (ℕ → Bool) → (ℕ → Bool) → Type 0
  AheadIsNew behind bound = (x : ℕ) → behind x ≡ true → bound x ≡ false

  abbrev Before : (ℕ → Bool) → (ℕ → Bool) → Path → Branch → ℕ → Ghost → KnownFields → State → Type 0
  Before bound ahead outer branch n g known s = Stands world steps may entry bound ahead (path_in outer branch n) g known s

  -- what is bound behind a statement is new there, and after it
  behind_new : (bound outside : ℕ → Bool) (a : Statement) (b : Block) → AheadIsNew outside bound → is_scoped (λ y. binds a y || bound y) b ≡ true → AheadIsNew (λ x. has_binder b x || outside x) bound
  behind_new bound outside a b new scoped x k = or_elim (has_binder b x) (outside x) k (λ j. (or_parts (binds a x) (bound x) (binder_new (λ y. binds a y || bound y) b x scoped j)).1) (new x)

  still_new : (bound outside : ℕ → Bool) (a : Statement) (b : Block) → StepIsApart (λ x. has_binder b x || outside x) a → AheadIsNew outside bound → AheadIsNew outside (λ y. binds a y || bound y)
  still_new bound outside a b apart new x k = or_false (binds a x) (bound x) (binds_apart (λ x. has_binder b x || outside x) a x apart (either_right (has_binder b x) (outside x) k)) (new x k)

  -- one branch of a condition, of which the other gives no number
  branch_on : (bound behind : ℕ → Bool) (outer : Path) (branch : Branch) (n : ℕ) (inner : Branch) (made : ℕ → Bool) (x : Block) (g : Ghost) (known becomes : KnownFields) (s w : State) → ((y : ℕ) → has_binder x y ≡ true → made y ≡ true) → is_scoped bound x ≡ true → ((f : ℕ) → IsOfKind (world.kinds f) (w.scene.fields f)) → Before bound (λ y. made y || behind y) outer branch n g known s → ((m : Ghost) → Before bound (λ y. has_binder x y || behind y) (path_in outer branch n) inner zero m known s → BlockEnds world steps may entry behind (path_in outer branch n) inner (path_in (path_in outer branch n) inner zero) m (at_end tell (path_in outer branch n) inner zero x known) s w) → ((v : Numbers) → HasStrides steps v.scene → (f : ℕ) → w.scene.fields f ≡ field_number v f (at_end tell (path_in outer branch n) inner zero x known f) → w.scene.fields f ≡ v.unknown f (path_in outer branch n) → w.scene.fields f ≡ field_number v f (becomes f)) → AreWritten may becomes → StepEnds world steps may entry bound behind (path_in outer branch n) (path_in outer branch (suc n)) g becomes s (left s w)
  branch_on bound behind outer branch n inner made x g known becomes s w less scoped fit h runs pick told =
      let path = path_in outer branch n in
      let mark : Ghost = record { unknown = marked path w.scene.fields g.unknown } in
      let out : (y : ℕ) → made y ≡ false → has_binder x y ≡ false = λ y k. contrary (has_binder x y) (λ j. true≢false (sym (less y j) ∙ k)) in
      let start : Before bound (λ y. has_binder x y || behind y) path inner zero mark known s = record {
        sound = h.sound;
        free = h.free;
        told = h.told;
        kinds = marked_fits (λ f z. IsOfKind (world.kinds f) z) path w.scene.fields g.unknown fit h.kinds;
        fields = λ v fits. h.fields v (fits_back steps (λ y. made y || behind y) (λ y. has_binder x y || behind y) path (path_in path inner zero) entry g mark s s v (λ y k. let p = or_parts (made y) (behind y) k in (or_false (has_binder x y) (behind y) (out y p.0) p.1, refl)) (λ f q b. (before_inside q path _ b, marked_before path w.scene.fields g.unknown f q b)) fits);
      } in
      let ends = runs mark start in
      record {
        ghost = ends.ghost;
        stands = record {
          sound = left_sound s w h.sound;
          free = λ y k. let u = h.free y k in record { control = u.control; buffers = u.buffers; views = u.views };
          kinds = ends.kinds;
          told = told;
          fields = λ v fits f. pick v fits.strides f
              (ends.fields v (fits_back steps behind behind (path_in path inner ends.number) (path_in outer branch (suc n)) entry ends.ghost ends.ghost w (left s w) v (λ y k. (k, sym (ends.onward.control y))) (λ f q b. (before_after q outer branch inner n ends.number b, refl)) fits) f)
              (sym (fits.unknown f path (self_before_next outer branch n) ∙ ends.onward.unknown f path (self_before_inside path _ []) ∙ marked_here path w.scene.fields g.unknown f));
        };
        onward = record {
          control = λ y. refl;
          unknown = λ f q b. ends.onward.unknown f q (before_inside q path _ b) ∙ marked_before path w.scene.fields g.unknown f q b;
        };
      }

  keeps : (path : Path) (one two : KnownFields) (v : Numbers) (f : ℕ) (m : ℤ) → m ≡ field_number v f (one f) → m ≡ v.unknown f path → m ≡ field_number v f (agreed tell.agree path one two f)
  keeps path one two v f m own mark = go (same_value tell.agree (one f) (two f))
    where
      go : (z : Bool) → m ≡ field_number v f (cond z (one f) (UnknownAt path))
      go true = own
      go false = mark

  keeps_other : (path : Path) (one two : KnownFields) (v : Numbers) → HasStrides steps v.scene → AreWritten may one → AreWritten may two → (f : ℕ) (m : ℤ) → m ≡ field_number v f (two f) → m ≡ v.unknown f path → m ≡ field_number v f (agreed tell.agree path one two f)
  keeps_other path one two v have first second f m own mark = go (same_value tell.agree (one f) (two f)) refl
    where
      go : (z : Bool) → same_value tell.agree (one f) (two f) ≡ z → m ≡ field_number v f (cond z (one f) (UnknownAt path))
      go true j = own ∙ sym (same_value_right steps may tell.agree agree_well v have f (one f) (two f) (first f) (second f) j)
      go false j = mark

  chosen : (z : Bool) {t : Bool} → t ≡ z → (x y : State → Option State) (s : State) (o : Option State) → choose z x y s ≡ o → {P : Type 0} → (t ≡ true → x s ≡ o → P) → (t ≡ false → y s ≡ o → P) → P
  chosen true k x y s o e one other = one k e
  chosen false k x y s o e one other = other k e

  mutual
    step_on : (bound behind : ℕ → Bool) (outer : Path) (branch : Branch) (n : ℕ) (a : Statement) (b : Block) (g : Ghost) (known : KnownFields) (s t : State) → step_is_scoped bound a ≡ true → StepIsApart behind a → AheadIsNew behind bound → V bound (next a b) s → Before bound (λ x. step_has_binder a x || behind x) outer branch n g known s → step world a s ≡ Some t → StepEnds world steps may entry (λ y. binds a y || bound y) behind (path_in outer branch n) (path_in outer branch (suc n)) g (after tell (path_in outer branch n) a known) s t
    step_on bound behind outer branch n (Assign x is d) b g known s t scoped apart new visit h e = plain bound behind outer branch n (Assign x is d) g known s t (λ f. refl) scoped h e
    step_on bound behind outer branch n (Reduce x is d) b g known s t scoped apart new visit h e = plain bound behind outer branch n (Reduce x is d) g known s t (λ f. refl) scoped h e
    step_on bound behind outer branch n (Config f a) b g known s t scoped apart new visit h e = writes_one bound behind outer branch n f a b g known s t new visit scoped h e
    step_on bound behind outer branch n Pass b g known s t scoped apart new visit h e = plain bound behind outer branch n Pass g known s t (λ f. refl) scoped h e
    step_on bound behind outer branch n (Alloc x cell dims memory) b g known s t scoped apart new visit h e = plain bound behind outer branch n (Alloc x cell dims memory) g known s t (λ f. refl) scoped h e
    step_on bound behind outer branch n (View w x coords) b g known s t scoped apart new visit h e = plain bound behind outer branch n (View w x coords) g known s t (λ f. refl) scoped h e
    step_on bound behind outer branch n (For i lo hi body) b g known s t scoped apart new visit h e = clears bound behind outer branch n (For i lo hi body) g known s t scoped (walks.fit bound b t (walks.on bound (For i lo hi body) b s t visit e)) h e
    step_on bound behind outer branch n (Call k args) b g known s t scoped apart new visit h e = clears bound behind outer branch n (Call k args) g known s t scoped (walks.fit bound b t (walks.on bound (Call k args) b s t visit e)) h e
    step_on bound behind outer branch n (If c x y) b g known s t scoped apart new visit h e =
        let path = path_in outer branch n in
        let ends = map_gives (choose (holds s.scene c) (run world x) (run world y) s) (left s) t e in
        let names = and_parts (is_scoped bound x) (is_scoped bound y) (and_parts (not (in_condition (is_not bound) c)) (is_scoped bound x && is_scoped bound y) scoped).1 in
        let fit : (f : ℕ) → IsOfKind (world.kinds f) (ends.0.scene.fields f) = λ f. subst (λ (z : State). IsOfKind (world.kinds f) (z.scene.fields f)) (sym ends.2) (walks.fit bound b t (walks.on bound (If c x y) b s t visit e) f) in
        let made : ℕ → Bool = λ z. has_binder x z || has_binder y z in
        let one = at_end tell path Main zero x known in
        let two = at_end tell path Else zero y known in
        let all = and_parts (all_written (ToldIn tell may) x) (all_written (ToldIn tell may) y) (and_parts (all_written (ToldIn tell may) x && all_written (ToldIn tell may) y) (all_written (ToldIn tell may) b) (walks.all_are_written bound (next (If c x y) b) s visit)).0 in
        let first = at_end_written tell may path Main zero x known all.0 h.told in
        let second = at_end_written tell may path Else zero y known all.1 h.told in
        let told = agreed_written tell may path one two first in
        let Result = StepEnds world steps may entry bound behind path (path_in outer branch (suc n)) g (agreed tell.agree path one two) s (left s ends.0) in
        let yes : holds s.scene c ≡ true → run world x s ≡ Some ends.0 → Result = λ k r. branch_on bound behind outer branch n Main made x g known (agreed tell.agree path one two) s ends.0 (λ z j. either_left (has_binder x z) (has_binder y z) j) names.0 fit h (λ m start. run_on bound behind path Main zero x m known s ends.0 names.0 apart.0 new (walks.then_in bound c x y b s visit k) start r) (λ v have f own mark. keeps path one two v f (ends.0.scene.fields f) own mark) told in
        let no : holds s.scene c ≡ false → run world y s ≡ Some ends.0 → Result = λ k r. branch_on bound behind outer branch n Else made y g known (agreed tell.agree path one two) s ends.0 (λ z j. either_right (has_binder x z) (has_binder y z) j) names.1 fit h (λ m start. run_on bound behind path Else zero y m known s ends.0 names.1 apart.1 new (walks.else_in bound c x y b s visit k) start r) (λ v have f own mark. keeps_other path one two v have first second f (ends.0.scene.fields f) own mark) told in
        subst (λ z. StepEnds world steps may entry bound behind path (path_in outer branch (suc n)) g (agreed tell.agree path one two) s z) ends.2 (chosen (holds s.scene c) refl (run world x) (run world y) s (Some ends.0) ends.1 yes no)

    run_on : (bound outside : ℕ → Bool) (outer : Path) (branch : Branch) (n : ℕ) (b : Block) (g : Ghost) (known : KnownFields) (s t : State) → is_scoped bound b ≡ true → IsApart outside b → AheadIsNew outside bound → V bound b s → Before bound (λ x. has_binder b x || outside x) outer branch n g known s → run world b s ≡ Some t → BlockEnds world steps may entry outside outer branch (path_in outer branch n) g (at_end tell outer branch n b known) s t
    run_on bound outside outer branch n end g known s t scoped apart new visit h e = subst (λ z. BlockEnds world steps may entry outside outer branch (path_in outer branch n) g known s z) (some_injective s t e) (record { ghost = g; number = n; kinds = h.kinds; fields = h.fields; onward = record { control = λ x. refl; unknown = λ f q b. refl } })
    run_on bound outside outer branch n (next a b) g known s t scoped apart new visit h e =
        let parts = then_gives (step world a s) (run world b) t e in
        let names = and_parts (step_is_scoped bound a) (is_scoped (λ y. binds a y || bound y) b) scoped in
        let one = step_on bound (λ x. has_binder b x || outside x) outer branch n a b g known s parts.0 names.0 apart.0 (behind_new bound outside a b new names.1) visit (stands_weaken world steps may entry bound (λ x. (step_has_binder a x || has_binder b x) || outside x) (λ x. step_has_binder a x || (has_binder b x || outside x)) (path_in outer branch n) g known s (λ x k. assoc_false (step_has_binder a x) (has_binder b x) (outside x) k) h) parts.1 in
        let rest = run_on (λ y. binds a y || bound y) outside outer branch (suc n) b one.ghost (after tell (path_in outer branch n) a known) parts.0 t names.1 apart.1 (still_new bound outside a b apart.0 new) (walks.on bound a b s parts.0 visit parts.1) one.stands parts.2 in
        record {
          ghost = rest.ghost;
          number = rest.number;
          kinds = rest.kinds;
          fields = rest.fields;
          onward = record {
            control = λ x. rest.onward.control x ∙ one.onward.control x;
            unknown = λ f q j. rest.onward.unknown f q (before_step q outer branch n j) ∙ one.onward.unknown f q j;
          };
        }

  -- ---- at a place

  -- numbers that fit where the way begins, with which the fields are known and the facts true where it ends
  pub record Found (ahead : ℕ → Bool) (path : Path) (g : Ghost) (s u : State) (known : KnownFields) (round : List PlaceFact) : Type 0 where
    pub numbers : Numbers
    pub fits : Fits steps ahead path entry g s numbers
    pub control : (x : ℕ) → numbers.scene.control x ≡ u.scene.control x
    pub kinds : (f : ℕ) (q : Path) → IsOfKind (world.kinds f) (numbers.unknown f q)
    pub fields : (f : ℕ) → u.scene.fields f ≡ field_number numbers f (known f)
    pub facts : Each (IsTrueIn numbers) round
    pub written : AreWritten may known
    pub facts_written : Each (λ e. AreWritten may e.known) round

  found_here : (bound ahead : ℕ → Bool) (path : Path) (g : Ghost) (known : KnownFields) (s : State) → Stands world steps may entry bound ahead path g known s → Found ahead path g s s known []
  found_here bound ahead path g known s h = record {
    numbers = numbers_of steps entry g s;
    fits = numbers_fit steps ahead path entry g s;
    control = λ x. refl;
    kinds = h.kinds;
    fields = h.fields (numbers_of steps entry g s) (numbers_fit steps ahead path entry g s);
    facts = tt;
    written = h.told;
    facts_written = tt;
  }

  -- the same numbers, fitting where a longer way begins, and with more facts
  found_from : (ahead behind : ℕ → Bool) (path further : Path) (g h : Ghost) (s t u : State) (known : KnownFields) (round more : List PlaceFact) → ((v : Numbers) → Fits steps behind further entry h t v → Fits steps ahead path entry g s v) → ((v : Numbers) → Fits steps behind further entry h t v → Each (IsTrueIn v) round → Each (IsTrueIn v) more) → (Each (λ e. AreWritten may e.known) round → Each (λ e. AreWritten may e.known) more) → Found behind further h t u known round → Found ahead path g s u known more
  found_from ahead behind path further g h s t u known round more back facts told f = record {
    numbers = f.numbers;
    fits = back f.numbers f.fits;
    control = f.control;
    kinds = f.kinds;
    fields = f.fields;
    facts = facts f.numbers f.fits f.facts;
    written = f.written;
    facts_written = told f.facts_written;
  }

  -- with numbers that fit, a condition over the names in scope is as it is in the state
  known_same : (bound ahead : ℕ → Bool) (path : Path) (g : Ghost) (known : KnownFields) (s : State) (v : Numbers) → StridesAre steps bound s.scene → ((x : ℕ) → bound x ≡ true → ahead x ≡ false) → Fits steps ahead path entry g s v → (x : ℕ) → bound x ≡ true → IsSameIn (with_known v known) s.scene x
  known_same bound ahead path g known s v are new fits = agree_there steps entry bound ahead path g s v (λ f. field_number v f (known f)) are new fits

  -- the head of a turn
  turns_keep : (f i : ℕ) (b : Block) → writes_field tell.writes f b ≡ false → (ns : List ℤ) (s : State) (n : ℤ) (u : State) → ComesToTurn (turn i (run world b)) ns s n u → u.scene.fields f ≡ s.scene.fields f
  turns_keep f i b k [] s n u z = elim z [ ]
  turns_keep f i b k (m ∷ ns) s n u now = refl
  turns_keep f i b k (m ∷ ns) s n u (later {t} e z) =
      let inside = on_scene (with_control i m) s in
      let parts = map_gives (run world b inside) (left s) t e in
      turns_keep f i b k ns t n u z ∙ ap (λ (w : State). w.scene.fields f) (sym parts.2) ∙ if_gives (HasField f inside) (run world b inside) parts.0 (run_leaves f world tell.writes leave b k inside) parts.1

  four : (p q r o : Bool) → (((p || q) || r) || o) ≡ false → (p ≡ false) × (q ≡ false) × (r ≡ false) × (o ≡ false)
  four p q r o k =
      let a = or_parts ((p || q) || r) o k in
      let b = or_parts (p || q) r a.0 in
      let c = or_parts p q b.0 in
      (c.0, c.1, b.1, a.1)

  pub ahead_new : (bound outside : ℕ → Bool) (b : Block) → is_scoped bound b ≡ true → AheadIsNew outside bound → (x : ℕ) → bound x ≡ true → (has_binder b x || outside x) ≡ false
  ahead_new bound outside b scoped new x k = contrary (has_binder b x || outside x) (λ j. true≢false (sym k ∙ or_elim (has_binder b x) (outside x) j (binder_new bound b x scoped) (new x)))

  -- into a branch
  branch_back : (ahead fewer : ℕ → Bool) (path : Path) (inner : Branch) (g : Ghost) (s : State) → ((x : ℕ) → ahead x ≡ false → fewer x ≡ false) → (v : Numbers) → Fits steps fewer (path_in path inner zero) entry g s v → Fits steps ahead path entry g s v
  branch_back ahead fewer path inner g s less v = fits_back steps ahead fewer path (path_in path inner zero) entry g g s s v (λ x k. (less x k, refl)) (λ f q b. (before_inside q path _ b, refl))

  branch_start : (bound ahead fewer : ℕ → Bool) (path : Path) (inner : Branch) (g : Ghost) (known : KnownFields) (s : State) → ((x : ℕ) → ahead x ≡ false → fewer x ≡ false) → Stands world steps may entry bound ahead path g known s → Stands world steps may entry bound fewer (path_in path inner zero) g known s
  branch_start bound ahead fewer path inner g known s less h = record {
    sound = h.sound;
    free = h.free;
    kinds = h.kinds;
    told = h.told;
    fields = λ v fits. h.fields v (branch_back ahead fewer path inner g s less v fits);
  }

  pub condition_there : (bound ahead : ℕ → Bool) (path : Path) (g : Ghost) (known : KnownFields) (s : State) (v : Numbers) → Stands world steps may entry bound ahead path g known s → StridesAre steps bound s.scene → ((x : ℕ) → bound x ≡ true → ahead x ≡ false) → Fits steps ahead path entry g s v → (c : Condition) → in_condition (is_not bound) c ≡ false → holds (with_known v known) c ≡ holds s.scene c
  condition_there bound ahead path g known s v h are new fits c k = holds_same bound (with_known v known) s.scene (known_same bound ahead path g known s v are new fits) c k (λ f r. sym (h.fields v fits f))

  -- into a turn
  abbrev head_ghost : Path → Ghost → State → Ghost
  head_ghost path g t = record { unknown = marked path t.scene.fields g.unknown }

  record Head (bound behind ahead : ℕ → Bool) (path : Path) (i : Binder) (b : Block) (g : Ghost) (known : KnownFields) (s : State) (n : ℤ) (t : State) : Type 0 where
    back : (v : Numbers) → Fits steps (λ x. has_binder b x || behind x) (path_in path Main zero) entry (head_ghost path g t) (on_scene (with_control i.id n) t) v → Fits steps ahead path entry g s v
    stands : Stands world steps may entry (λ y. (y == i.id) || bound y) (λ x. has_binder b x || behind x) (path_in path Main zero) (head_ghost path g t) (forgotten (λ f. writes_field tell.writes f b) path known) (on_scene (with_control i.id n) t)

  turn_head : (bound behind : ℕ → Bool) (path : Path) (i : Binder) (lo hi : Control) (b rest : Block) (g : Ghost) (known : KnownFields) (s : State) (n : ℤ) (t : State) (ahead : ℕ → Bool) → ((x : ℕ) → ahead x ≡ false → ((x == i.id) ≡ false) × (has_binder b x ≡ false) × (has_binder rest x ≡ false) × (behind x ≡ false)) → bound i.id ≡ false → ((f : ℕ) → IsOfKind (world.kinds f) (t.scene.fields f)) → Stands world steps may entry bound ahead path g known s → ComesToTurn (turn i.id (run world b)) (turns_of s.scene lo hi) s n t → Head bound behind ahead path i b g known s n t
  turn_head bound behind path i lo hi b rest g known s n t ahead parts new fit h come = record {
    back = back;
    stands = record {
      sound = let k = come_to_turn_sound i.id (run world b) (turns_of s.scene lo hi) s n t come h.sound in record { tidy = k.tidy; seen = k.seen };
      free = λ x k. let d = or_parts (x == i.id) (bound x) k in let u = unbound_on s t x (names x) (h.free x d.1) in record { control = updated_other t.scene.control i.id n x d.0 ∙ u.control; buffers = u.buffers; views = u.views };
      kinds = marked_fits (λ f z. IsOfKind (world.kinds f) z) path t.scene.fields g.unknown fit h.kinds;
      told = forgotten_written tell may (λ f. writes_field tell.writes f b) path known h.told;
      fields = λ v fits. forget (λ f. writes_field tell.writes f b) path known s (on_scene (with_control i.id n) t) v (λ f k. turns_keep f i.id b k (turns_of s.scene lo hi) s n t come) (λ f. sym (fits.unknown f path (self_before_inside path _ []) ∙ marked_here path t.scene.fields g.unknown f)) (h.fields v (back v fits));
    };
  }
    where
      names : (x : ℕ) → IsSameName x s t
      names = come_to_turn_names i.id (run world b) (turns_of s.scene lo hi) s n t come

      back : (v : Numbers) → Fits steps (λ x. has_binder b x || behind x) (path_in path Main zero) entry (head_ghost path g t) (on_scene (with_control i.id n) t) v → Fits steps ahead path entry g s v
      back v = fits_back steps ahead (λ x. has_binder b x || behind x) path (path_in path Main zero) entry g (head_ghost path g t) s (on_scene (with_control i.id n) t) v (λ x k. let d = parts x k in (or_false (has_binder b x) (behind x) d.1 d.3, updated_other t.scene.control i.id n x d.0 ∙ sym (names x).control)) (λ f q j. (before_inside q path _ j, marked_before path t.scene.fields g.unknown f q j))

  module _ (old : Block) where
    pub come_on : (c : Context) (bound outside : ℕ → Bool) (outer : Path) (branch : Branch) (n : ℕ) (g : Ghost) (known : KnownFields) (s u : State) → is_scoped bound (fill c old) ≡ true → IsApart outside (fill c old) → AheadIsNew outside bound → V bound (fill c old) s → Before bound (λ x. has_binder (fill c old) x || outside x) outer branch n g known s → ComesTo world old c s u → Found (λ x. has_binder (fill c old) x || outside x) (path_in outer branch n) g s u (known_at tell outer branch n c old known) (facts_round tell outer branch n c old known)
    come_on (Here rest) bound outside outer branch n g known s u scoped apart new visit h z = subst (λ w. Found (λ x. has_binder (fill (Here rest) old) x || outside x) (path_in outer branch n) g s w known []) (sym z) (found_here bound (λ x. has_binder (fill (Here rest) old) x || outside x) (path_in outer branch n) g known s h)
    come_on (After a c) bound outside outer branch n g known s u scoped apart new visit h z =
        let b = fill c old in
        let names = and_parts (step_is_scoped bound a) (is_scoped (λ y. binds a y || bound y) b) scoped in
        let behind : ℕ → Bool = λ x. has_binder b x || outside x in
        let one = step_on bound behind outer branch n a b g known s z.0 names.0 apart.0 (behind_new bound outside a b new names.1) visit (stands_weaken world steps may entry bound (λ x. (step_has_binder a x || has_binder b x) || outside x) (λ x. step_has_binder a x || behind x) (path_in outer branch n) g known s (λ x k. assoc_false (step_has_binder a x) (has_binder b x) (outside x) k) h) z.1 in
        let rest = come_on c (λ y. binds a y || bound y) outside outer branch (suc n) one.ghost (after tell (path_in outer branch n) a known) z.0 u names.1 apart.1 (still_new bound outside a b apart.0 new) (walks.on bound a b s z.0 visit z.1) one.stands z.2 in
        found_from (λ x. (step_has_binder a x || has_binder b x) || outside x) behind (path_in outer branch n) (path_in outer branch (suc n)) g one.ghost s z.0 u (known_at tell outer branch (suc n) c old (after tell (path_in outer branch n) a known)) (facts_round tell outer branch (suc n) c old (after tell (path_in outer branch n) a known)) (facts_round tell outer branch (suc n) c old (after tell (path_in outer branch n) a known))
        (λ v fits. fits_back steps (λ x. (step_has_binder a x || has_binder b x) || outside x) (λ x. step_has_binder a x || behind x) (path_in outer branch n) (path_in outer branch n) entry g g s s v (λ x k. (assoc_false (step_has_binder a x) (has_binder b x) (outside x) k, refl)) (λ f q j. (j, refl)) (step_back steps entry (step_has_binder a) behind outer branch n g one.ghost s z.0 v one.onward fits))
        (λ v fits facts. facts) (λ told. told) rest
    come_on (InLoop i lo hi c rest) bound outside outer branch n g known s u scoped apart new visit h z =
        let b = fill c old in
        let path = path_in outer branch n in
        let names = and_parts (step_is_scoped bound (For i lo hi b)) (is_scoped bound rest) scoped in
        let p = and_parts (not (bound i.id)) (not (in_control (is_not bound) lo || in_control (is_not bound) hi) && is_scoped (λ y. (y == i.id) || bound y) b) names.0 in
        let q = and_parts (not (in_control (is_not bound) lo || in_control (is_not bound) hi)) (is_scoped (λ y. (y == i.id) || bound y) b) p.1 in
        let bounds = or_parts (in_control (is_not bound) lo) (in_control (is_not bound) hi) (not_true (in_control (is_not bound) lo || in_control (is_not bound) hi) q.0) in
        let behind : ℕ → Bool = λ x. has_binder rest x || outside x in
        let head = turn_head bound behind path i lo hi b rest g known s z.0 z.1 (λ x. (((x == i.id) || has_binder b x) || has_binder rest x) || outside x) (λ x k. (let d = four (x == i.id) (has_binder b x) (has_binder rest x) (outside x) k in (d.0, d.1, d.2, or_false (has_binder rest x) (outside x) d.2 d.3))) (not_true (bound i.id) p.0) (walks.fit (λ y. (y == i.id) || bound y) b (on_scene (with_control i.id z.0) z.1) (walks.turn_in bound i lo hi b rest s z.0 z.1 visit z.2)) h z.2 in
        let inner_new : AheadIsNew behind (λ y. (y == i.id) || bound y) = λ x k. or_false (x == i.id) (bound x) (contrary (x == i.id) (λ e. true≢false (sym k ∙ ap behind (eqb-true x i.id e) ∙ apart.0.0))) (behind_new bound outside (For i lo hi b) rest new names.1 x k) in
        let rest_found = come_on c (λ y. (y == i.id) || bound y) behind path Main zero (head_ghost path g z.1) (forgotten (λ f. writes_field tell.writes f b) path known) (on_scene (with_control i.id z.0) z.1) u q.1 apart.0.1 inner_new (walks.turn_in bound i lo hi b rest s z.0 z.1 visit z.2) head.stands z.3 in
        let between = come_to_turn_each (Between (number s.scene lo) (number s.scene hi)) (turn i.id (run world b)) (turns_of s.scene lo hi) s z.0 z.1 z.2 (turns_between (number s.scene lo) (number s.scene hi)) in
        let own : (v : Numbers) → Fits steps (λ x. has_binder b x || behind x) (path_in path Main zero) entry (head_ghost path g z.1) (on_scene (with_control i.id z.0) z.1) v → v.scene.control i.id ≡ z.0 = λ v fits. fits.control i.id (or_false (has_binder b i.id) (behind i.id) (contrary (has_binder b i.id) (λ j. true≢false (sym (either_left (i.id == i.id) (bound i.id) (eq-eqb i.id i.id refl)) ∙ binder_new (λ y. (y == i.id) || bound y) b i.id q.1 j))) apart.0.0) ∙ ap (λ t. cond t z.0 (z.1.scene.control i.id)) (eq-eqb i.id i.id refl) in
        let same : (v : Numbers) (e : Control) → in_control (is_not bound) e ≡ false → Fits steps (λ x. has_binder b x || behind x) (path_in path Main zero) entry (head_ghost path g z.1) (on_scene (with_control i.id z.0) z.1) v → number (with_known v known) e ≡ number s.scene e = λ v e k fits. number_same bound (with_known v known) s.scene (known_same bound (λ x. (((x == i.id) || has_binder b x) || has_binder rest x) || outside x) path g known s v (walks.steps_are bound (next (For i lo hi b) rest) s visit) (ahead_new bound outside (next (For i lo hi b) rest) scoped new) (head.back v fits)) e k (λ f r. sym (h.fields v (head.back v fits) f)) in
        found_from (λ x. (((x == i.id) || has_binder b x) || has_binder rest x) || outside x) (λ x. has_binder b x || behind x) path (path_in path Main zero) g (head_ghost path g z.1) s (on_scene (with_control i.id z.0) z.1) u (known_at tell path Main zero c old (forgotten (λ f. writes_field tell.writes f b) path known)) (facts_round tell path Main zero c old (forgotten (λ f. writes_field tell.writes f b) path known)) (facts_round tell outer branch n (InLoop i lo hi c rest) old known) head.back
        (λ v fits facts. (ap₂ int_le (same v lo bounds.0 fits) (own v fits) ∙ le_holds (number s.scene lo) z.0 between.0, (ap₂ int_lt (own v fits) (same v hi bounds.1 fits) ∙ lt_holds z.0 (number s.scene hi) between.1, facts)))
        (λ told. (h.told, (h.told, told)))
        rest_found
    come_on (InThen test c other rest) bound outside outer branch n g known s u scoped apart new visit h z =
        let b = fill c old in
        let path = path_in outer branch n in
        let names = and_parts (step_is_scoped bound (If test b other)) (is_scoped bound rest) scoped in
        let p = and_parts (not (in_condition (is_not bound) test)) (is_scoped bound b && is_scoped bound other) names.0 in
        let q = and_parts (is_scoped bound b) (is_scoped bound other) p.1 in
        let behind : ℕ → Bool = λ x. has_binder rest x || outside x in
        let ahead : ℕ → Bool = λ x. ((has_binder b x || has_binder other x) || has_binder rest x) || outside x in
        let less : (x : ℕ) → ahead x ≡ false → (has_binder b x || behind x) ≡ false = λ x k. (let d = four (has_binder b x) (has_binder other x) (has_binder rest x) (outside x) k in or_false (has_binder b x) (behind x) d.0 (or_false (has_binder rest x) (outside x) d.2 d.3)) in
        let found = come_on c bound behind path Main zero g known s u q.0 apart.0.0 (behind_new bound outside (If test b other) rest new names.1) (walks.then_in bound test b other rest s visit z.0) (branch_start bound ahead (λ x. has_binder b x || behind x) path Main g known s less h) z.1 in
        found_from ahead (λ x. has_binder b x || behind x) path (path_in path Main zero) g g s s u (known_at tell path Main zero c old known) (facts_round tell path Main zero c old known) (facts_round tell outer branch n (InThen test c other rest) old known) (branch_back ahead (λ x. has_binder b x || behind x) path Main g s less)
        (λ v fits facts. (condition_there bound ahead path g known s v h (walks.steps_are bound (next (If test b other) rest) s visit) (ahead_new bound outside (next (If test b other) rest) scoped new) (branch_back ahead (λ x. has_binder b x || behind x) path Main g s less v fits) test (not_true (in_condition (is_not bound) test) p.0) ∙ z.0, facts))
        (λ told. (h.told, told))
        found
    come_on (InElse test other c rest) bound outside outer branch n g known s u scoped apart new visit h z =
        let b = fill c old in
        let path = path_in outer branch n in
        let names = and_parts (step_is_scoped bound (If test other b)) (is_scoped bound rest) scoped in
        let p = and_parts (not (in_condition (is_not bound) test)) (is_scoped bound other && is_scoped bound b) names.0 in
        let q = and_parts (is_scoped bound other) (is_scoped bound b) p.1 in
        let behind : ℕ → Bool = λ x. has_binder rest x || outside x in
        let ahead : ℕ → Bool = λ x. ((has_binder other x || has_binder b x) || has_binder rest x) || outside x in
        let less : (x : ℕ) → ahead x ≡ false → (has_binder b x || behind x) ≡ false = λ x k. (let d = four (has_binder other x) (has_binder b x) (has_binder rest x) (outside x) k in or_false (has_binder b x) (behind x) d.1 (or_false (has_binder rest x) (outside x) d.2 d.3)) in
        let found = come_on c bound behind path Else zero g known s u q.1 apart.0.1 (behind_new bound outside (If test other b) rest new names.1) (walks.else_in bound test other b rest s visit z.0) (branch_start bound ahead (λ x. has_binder b x || behind x) path Else g known s less h) z.1 in
        found_from ahead (λ x. has_binder b x || behind x) path (path_in path Else zero) g g s s u (known_at tell path Else zero c old known) (facts_round tell path Else zero c old known) (facts_round tell outer branch n (InElse test other c rest) old known) (branch_back ahead (λ x. has_binder b x || behind x) path Else g s less)
        (λ v fits facts. (condition_there bound ahead path g known s v h (walks.steps_are bound (next (If test other b) rest) s visit) (ahead_new bound outside (next (If test other b) rest) scoped new) (branch_back ahead (λ x. has_binder b x || behind x) path Else g s less v fits) test (not_true (in_condition (is_not bound) test) p.0) ∙ z.0, facts))
        (λ told. (h.told, told))
        found
