-- All facts at a place hold there, those that read fields and strides too.
use Rattle.std.proofs.Common.{◌≡◌, ℕ, zero, ℤ, ◌==◌, Bool, true, false, true≢false, not, ◌&&◌, ◌||◌, List, [], ◌∷◌, ◌++◌, map, Option, Some, None, refl, sym, ap, ◌∙◌, subst, ap₂}
use Rattle.std.proofs.Math.Path.{fun_ext}
use Rattle.exo_tree.specs.Tree.{Binder, Kind, Control, Lit, Var, Field, StrideOf, Neg, Add, Sub, Mul, Div, Mod, Condition, True, False, Flag, FieldFlag, Lt, Le, Gt, Ge, Eq, And, Or, Argument, ControlArg, ConditionArg, Whole, Window, Statement, Config, If, For, Block, end, next, joined, Procedure}
use Rattle.exo_tree.specs.Context.{Context, Here, After, InLoop, InThen, InElse, fill, rest_of}
use Rattle.exo_tree.specs.Places.{Main}
use Rattle.exo_meaning.specs.Scene.{Scene, holds}
use Rattle.exo_meaning.specs.State.{State, on_scene, with_control}
use Rattle.exo_meaning.specs.Calls.{Callee, all_hold}
use Rattle.exo_meaning.specs.Run.{World, run, step, turn, turns_of, roots_after, kinds_of, unit_world}
use Rattle.exo_meaning.specs.Orders.{Each}
use Rattle.exo_meaning.specs.Unseen.{in_control, in_condition, in_argument}
use Rattle.exo_meaning.specs.Units.{ControlName, Scope, with_name, plainly, with_fields, with_strides, is_truth, is_new, is_control, is_condition, is_write, scope_after, is_empty, is_short, is_block, is_statement, scope_of, field_kind}
use Rattle.meaning_laws.specs.Context.{ComesTo, ComesToTurn}
use Rattle.meaning_laws.specs.Sound.{binds, on_way}
use Rattle.meaning_laws.specs.Facts.{Fact, Holds, IsTrueAt}
use Rattle.meaning_laws.specs.Known.{params_facts}
use Rattle.meaning_laws.specs.Live.{read_by_control, read_by_condition, read_by_argument}
use Rattle.meaning_laws.specs.Scoped.{is_not, is_param, is_scoped, step_is_scoped, has_binder}
use Rattle.meaning_laws.specs.KnownFields.{KnownFields, at_entry}
use Rattle.meaning_laws.specs.PlaceFacts.{PlaceFact, facts_round, Numbers, with_known, IsTrueIn, all_written, step_all_written, AreWritten, StridesAre, unit_telling, PlaceFactsLaw, PlainTelling}
use Rattle.meaning_laws.proofs.Substitute.{and_parts}
use Rattle.meaning_laws.proofs.Scoped.{not_true}
use Rattle.meaning_laws.proofs.Copies.{admissible_sound}
use Rattle.meaning_laws.proofs.Known.{each_join, params_true}
use Rattle.meaning_laws.proofs.Sorted.{fits_at_law}
use Rattle.meaning_laws.proofs.UnitFields.{unit_leaves}
use Rattle.meaning_laws.proofs.WellFormed.{well_scoped}
use Rattle.meaning_laws.proofs.Apart.{IsApart, body_apart}
use Rattle.meaning_laws.proofs.KnownFields.{Ghost, Walks, Stands, condition_there, ahead_new, come_on, or_false}

-- ---- one context in the hole of another

joined_end : (b : Block) → joined b end ≡ b
joined_end end = refl
joined_end (next a b) = ap (next a) (joined_end b)

-- the second context in the hole of the first, behind which nothing stands
abbrev inner : Context → Context → Context
inner (Here rest) d = d
inner (After a c) d = After a (inner c d)
inner (InLoop i lo hi c rest) d = InLoop i lo hi (inner c d) rest
inner (InThen t c other rest) d = InThen t (inner c d) other rest
inner (InElse t other c rest) d = InElse t other (inner c d) rest

fill_inner : (c d : Context) (x : Block) → rest_of c ≡ end → fill (inner c d) x ≡ fill c (fill d x)
fill_inner (Here rest) d x e = sym (ap (joined (fill d x)) e ∙ joined_end (fill d x))
fill_inner (After a c) d x e = ap (next a) (fill_inner c d x e)
fill_inner (InLoop i lo hi c rest) d x e = ap (λ z. next (For i lo hi z) rest) (fill_inner c d x e)
fill_inner (InThen t c other rest) d x e = ap (λ z. next (If t z other) rest) (fill_inner c d x e)
fill_inner (InElse t other c rest) d x e = ap (λ z. next (If t other z) rest) (fill_inner c d x e)

rest_inner : (c d : Context) → rest_of (inner c d) ≡ rest_of d
rest_inner (Here rest) d = refl
rest_inner (After a c) d = rest_inner c d
rest_inner (InLoop i lo hi c rest) d = rest_inner c d
rest_inner (InThen t c other rest) d = rest_inner c d
rest_inner (InElse t other c rest) d = rest_inner c d

way_inner : (c d : Context) (x : ℕ) → on_way (inner c d) x ≡ (on_way c x || on_way d x)
way_inner (Here rest) d x = refl
way_inner (After a c) d x = ap (λ t. binds a x || t) (way_inner c d x) ∙ associate (binds a x) (on_way c x) (on_way d x)
  where
    associate : (p q r : Bool) → (p || (q || r)) ≡ ((p || q) || r)
    associate true q r = refl
    associate false q r = refl
way_inner (InLoop i lo hi c rest) d x = ap (λ t. (x == i.id) || t) (way_inner c d x) ∙ associate (x == i.id) (on_way c x) (on_way d x)
  where
    associate : (p q r : Bool) → (p || (q || r)) ≡ ((p || q) || r)
    associate true q r = refl
    associate false q r = refl
way_inner (InThen t c other rest) d x = way_inner c d x
way_inner (InElse t other c rest) d x = way_inner c d x

come_inner : (world : World) (c d : Context) (x : Block) (s t u : State) → rest_of c ≡ end → ComesTo world (fill d x) c s t → ComesTo world x d t u → ComesTo world x (inner c d) s u
come_inner world (Here rest) d x s t u e z w = subst (λ y. ComesTo world x d y u) z w
come_inner world (After a c) d x s t u e z w = (z.0, z.1, come_inner world c d x z.0 t u e z.2 w)
come_inner world (InLoop i lo hi c rest) d x s t u e z w = (z.0, z.1, subst (λ b. ComesToTurn (turn i.id (run world b)) (turns_of s.scene lo hi) s z.0 z.1) (sym (fill_inner c d x e)) z.2, come_inner world c d x (on_scene (with_control i.id z.0) z.1) t u e z.3 w)
come_inner world (InThen test c other rest) d x s t u e z w = (z.0, come_inner world c d x s t u e z.1 w)
come_inner world (InElse test other c rest) d x s t u e z w = (z.0, come_inner world c d x s t u e z.1 w)

-- ---- the blocks of a body that a run comes to

record Visits (world : World) (p : Procedure) (first : State) (bound : ℕ → Bool) (b : Block) (s : State) : Type 0 where
  around : Context
  last : rest_of around ≡ end
  place : p.body ≡ fill around b
  come : ComesTo world b around first s
  names : (x : ℕ) → bound x ≡ (is_param p x || on_way around x)

module _ (world : World) (p : Procedure) (first : State) where
  -- into a context of one level, with a block in its hole
  deeper : (bound more : ℕ → Bool) (whole b : Block) (d : Context) (s u : State) → rest_of d ≡ end → whole ≡ fill d b → ((x : ℕ) → (bound x || on_way d x) ≡ more x) → Visits world p first bound whole s → ComesTo world b d s u → Visits world p first more b u
  deeper bound more whole b d s u last is names v come = record {
    around = inner v.around d;
    last = rest_inner v.around d ∙ last;
    place = v.place ∙ ap (fill v.around) is ∙ sym (fill_inner v.around d b v.last);
    come = come_inner world v.around d b first s u v.last (subst (λ z. ComesTo world z v.around first s) is v.come) come;
    names = λ x. sym (names x) ∙ ap (λ t. t || on_way d x) (v.names x) ∙ associate (is_param p x) (on_way v.around x) (on_way d x) ∙ ap (λ t. is_param p x || t) (sym (way_inner v.around d x));
  }
    where
      associate : (a b c : Bool) → ((a || b) || c) ≡ (a || (b || c))
      associate true b c = refl
      associate false b c = refl

  behind : (bound : ℕ → Bool) (a : Statement) (b : Block) (s t : State) → Visits world p first bound (next a b) s → step world a s ≡ Some t → Visits world p first (λ y. binds a y || bound y) b t
  behind bound a b s t v e = deeper bound (λ y. binds a y || bound y) (next a b) b (After a (Here end)) s t refl (ap (next a) (sym (joined_end b))) (λ x. turned (bound x) (binds a x)) v (t, e, refl)
    where
      turned : (p q : Bool) → (p || (q || false)) ≡ (q || p)
      turned true true = refl
      turned true false = refl
      turned false true = refl
      turned false false = refl

  in_turn : (bound : ℕ → Bool) (i : Binder) (lo hi : Control) (b rest : Block) (s : State) (n : ℤ) (u : State) → Visits world p first bound (next (For i lo hi b) rest) s → ComesToTurn (turn i.id (run world b)) (turns_of s.scene lo hi) s n u → Visits world p first (λ y. (y == i.id) || bound y) b (on_scene (with_control i.id n) u)
  in_turn bound i lo hi b rest s n u v z = deeper bound (λ y. (y == i.id) || bound y) (next (For i lo hi b) rest) b (InLoop i lo hi (Here end) rest) s (on_scene (with_control i.id n) u) refl (ap (λ z. next (For i lo hi z) rest) (sym (joined_end b))) (λ x. turned (bound x) (x == i.id)) v (n, u, subst (λ z. ComesToTurn (turn i.id (run world z)) (turns_of s.scene lo hi) s n u) (sym (joined_end b)) z, refl)
    where
      turned : (p q : Bool) → (p || (q || false)) ≡ (q || p)
      turned true true = refl
      turned true false = refl
      turned false true = refl
      turned false false = refl

  same_names : (t : Bool) → (t || false) ≡ t
  same_names true = refl
  same_names false = refl

  in_then : (bound : ℕ → Bool) (c : Condition) (a b rest : Block) (s : State) → Visits world p first bound (next (If c a b) rest) s → holds s.scene c ≡ true → Visits world p first bound a s
  in_then bound c a b rest s v e = deeper bound bound (next (If c a b) rest) a (InThen c (Here end) b rest) s s refl (ap (λ z. next (If c z b) rest) (sym (joined_end a))) (λ x. same_names (bound x)) v (e, refl)

  in_else : (bound : ℕ → Bool) (c : Condition) (a b rest : Block) (s : State) → Visits world p first bound (next (If c a b) rest) s → holds s.scene c ≡ false → Visits world p first bound b s
  in_else bound c a b rest s v e = deeper bound bound (next (If c a b) rest) b (InElse c a (Here end) rest) s s refl (ap (λ z. next (If c a z) rest) (sym (joined_end b))) (λ x. same_names (bound x)) v (e, refl)

-- ---- what is written in a body is written in its blocks

module _ (may : ℕ → Argument → Bool) where
  joined_written : (b rest : Block) → all_written may (joined b rest) ≡ true → all_written may b ≡ true
  joined_written end rest k = refl
  joined_written (next a b) rest k =
      let p = and_parts (step_all_written may a) (all_written may (joined b rest)) k in
      ap₂ ◌&&◌ p.0 (joined_written b rest p.1)

  written_in : (c : Context) (b : Block) → all_written may (fill c b) ≡ true → all_written may b ≡ true
  written_in (Here rest) b k = joined_written b rest k
  written_in (After a c) b k = written_in c b (and_parts (step_all_written may a) (all_written may (fill c b)) k).1
  written_in (InLoop i lo hi c rest) b k = written_in c b (and_parts (all_written may (fill c b)) (all_written may rest) k).0
  written_in (InThen t c other rest) b k = written_in c b (and_parts (all_written may (fill c b)) (all_written may other) (and_parts (all_written may (fill c b) && all_written may other) (all_written may rest) k).0).0
  written_in (InElse t other c rest) b k = written_in c b (and_parts (all_written may other) (all_written may (fill c b)) (and_parts (all_written may other && all_written may (fill c b)) (all_written may rest) k).0).1

-- ---- the law

module _ (scene : Scene) where
  each_of_map : (v : Numbers) (known : KnownFields) (xs : List Fact) → Each (IsTrueAt (with_known v known)) xs → Each (IsTrueIn v) (map (λ fact. record { known = known; fact = fact }) xs)
  each_of_map v known [] h = tt
  each_of_map v known (x ∷ xs) h = (h.0, each_of_map v known xs h.1)

  asserts_hold : (t : Scene) (bound : ℕ → Bool) → ((c : Condition) → in_condition (is_not bound) c ≡ false → holds t c ≡ holds scene c) → (cs : List Condition) → Each (λ c. in_condition (is_not bound) c ≡ false) cs → all_hold scene cs ≡ true → Each (IsTrueAt t) (map Holds cs)
  asserts_hold t bound same [] names h = tt
  asserts_hold t bound same (c ∷ cs) names h = let q = and_parts (holds scene c) (all_hold scene cs) h in (same c names.0 ∙ q.0, asserts_hold t bound same cs names.1 q.1)

at_entry_written : (may : ℕ → Argument → Bool) (xs : List Fact) → Each (λ (e : PlaceFact). AreWritten may e.known) (map (λ fact. record { known = at_entry; fact = fact }) xs)
at_entry_written may [] = tt
at_entry_written may (x ∷ xs) = (λ f. refl, at_entry_written may xs)

pub place_facts_law : PlaceFactsLaw
place_facts_law fields memories ps p may told agree set tells all s strides good are well c old u was come =
    let kinds = kinds_of fields in
    let world = unit_world kinds ps in
    let tell = unit_telling ps told agree in
    let V = Visits world p s in
    let walks : Walks world tell strides set V = record {
      on = behind world p s;
      turn_in = in_turn world p s;
      then_in = in_then world p s;
      else_in = in_else world p s;
      fit = λ bound b t v. (fits_at_law fields memories ps p v.around b may v.place s t good v.come).fields;
      written = λ bound f a b t v. (let w = tells v.around f a b v.place in record { named = subst (λ n. in_argument (is_not n) (told a) ≡ false) (sym (fun_ext v.names)) w.named; plain = w.plain; same = w.same s t good v.come });
      steps_are = λ bound b t v. subst (λ n. StridesAre strides n t.scene) (sym (fun_ext v.names)) (are v.around b t v.place v.come);
      all_are_written = λ bound b t v. written_in (λ f a. set f (told a)) v.around b (subst (λ z. all_written (λ f a. set f (told a)) z ≡ true) v.place all);
    } in
    let scoped = well_scoped (field_kind fields) memories world.callees p may.procedure in
    let entry = s.scene.fields in
    let nothing : ℕ → Bool = λ x. false in
    let ghost : Ghost = record { unknown = λ f q. entry f } in
    let b = fill c old in
    let body_scoped : is_scoped (is_param p) b ≡ true = subst (λ z. is_scoped (is_param p) z ≡ true) was scoped.0 in
    let start : Stands world strides set entry (is_param p) (λ x. has_binder b x || nothing x) (record { branch = Main; index = zero } ∷ []) ghost at_entry s = record {
      sound = admissible_sound world p s good;
      free = λ x k. (let n = good.no_others x k in record { control = n.0; buffers = n.1; views = n.2 });
      kinds = λ f q. good.fields f;
      told = λ f. refl;
      fields = λ v fits f. sym (fits.entries f);
    } in
    let visit : V (is_param p) b s = record { around = Here end; last = refl; place = was ∙ sym (joined_end b); come = refl; names = λ x. sym (same_names world p s (is_param p x)) } in
    let found = come_on world tell strides set (unit_leaves kinds ps) well entry V walks old c (is_param p) nothing [] Main zero ghost at_entry s u body_scoped (subst (IsApart nothing) was (body_apart (map (λ q. q.binder.id) p.params) p.body may.procedure.distinct)) (λ x k. absurd (true≢false (sym k))) visit start come in
    let new = ahead_new world tell strides set (unit_leaves kinds ps) well entry V walks (is_param p) nothing b body_scoped (λ x k. absurd (true≢false (sym k))) in
    let v = found.numbers in
    let first = with_known v at_entry in (
      v,
      record {
        control = found.control;
        strides = found.fits.strides;
        entry = found.fits.entries;
        kinds = found.kinds;
        fields = found.fields;
        facts = each_join (IsTrueIn v) (map (λ fact. record { known = at_entry; fact = fact }) (params_facts p.params ++ map Holds p.asserts)) (facts_round tell [] Main zero c old at_entry)
            (each_of_map s.scene v at_entry (params_facts p.params ++ map Holds p.asserts) (each_join (IsTrueAt first) (params_facts p.params) (map Holds p.asserts)
            (params_true s.scene first p.params (λ x k. sym {a = v.scene.control x} (found.fits.control x (new x k))) good.arguments)
            (asserts_hold s.scene first (is_param p) (λ a k. condition_there world tell strides set (unit_leaves kinds ps) well entry V walks (is_param p) (λ x. has_binder b x || nothing x) (record { branch = Main; index = zero } ∷ []) ghost at_entry s v start (walks.steps_are (is_param p) b s visit) new found.fits a k) p.asserts scoped.1 good.asserts)))
            found.facts;
        written = found.written;
        facts_written = each_join (λ (e : PlaceFact). AreWritten set e.known) (map (λ fact. record { known = at_entry; fact = fact }) (params_facts p.params ++ map Holds p.asserts)) (facts_round tell [] Main zero c old at_entry) (at_entry_written set (params_facts p.params ++ map Holds p.asserts)) found.facts_written;
      },
    )

-- ---- right sides as they are written

-- what stands in the hole keeps the rules there
module _ (fields : ℕ → Option Kind) (memories : ℕ) (callees : ℕ → Option Callee) (old : Block) where
  hole_keeps : (c : Context) (scope : Scope) (root : ℕ → ℕ) → is_block fields memories callees scope root (fill c old) ≡ true → (inside : Scope) × (r : ℕ → ℕ) × (is_block fields memories callees inside r (joined old (rest_of c)) ≡ true)
  hole_keeps (Here rest) scope root k = (scope, root, k)
  hole_keeps (After a c) scope root k = hole_keeps c (scope_after a scope) (roots_after a root) (and_parts (is_statement fields memories callees scope root a) _ k).1
  hole_keeps (InLoop i lo hi c rest) scope root k =
      let o = and_parts (is_statement fields memories callees scope root (For i lo hi (fill c old))) _ k in
      let p = and_parts (is_new scope i) _ o.0 in
      let q = and_parts (is_control fields plainly scope lo && is_control fields plainly scope hi) _ p.1 in
      hole_keeps c (with_name scope i (ControlName _)) root (and_parts (not (is_empty (fill c old)) && is_short (fill c old)) _ q.1).1
  hole_keeps (InThen t c other rest) scope root k =
      let o = and_parts (is_statement fields memories callees scope root (If t (fill c old) other)) _ k in
      let p = and_parts (is_condition fields with_fields scope t) _ o.0 in
      let q = and_parts (not (is_empty (fill c old)) && (is_short (fill c old) && is_short other)) _ p.1 in
      hole_keeps c scope root (and_parts (is_block fields memories callees scope root (fill c old)) _ q.1).0
  hole_keeps (InElse t other c rest) scope root k =
      let o = and_parts (is_statement fields memories callees scope root (If t other (fill c old))) _ k in
      let p = and_parts (is_condition fields with_fields scope t) _ o.0 in
      let q = and_parts (not (is_empty other) && (is_short other && is_short (fill c old))) _ p.1 in
      hole_keeps c scope root (and_parts (is_block fields memories callees scope root other) _ q.1).1

  hole_scoped : (c : Context) (bound : ℕ → Bool) → is_scoped bound (fill c old) ≡ true → (inside : ℕ → Bool) × ((x : ℕ) → inside x ≡ (bound x || on_way c x)) × (is_scoped inside (joined old (rest_of c)) ≡ true)
  hole_scoped (Here rest) bound h = (bound, λ x. none (bound x), h)
    where
      none : (t : Bool) → t ≡ (t || false)
      none true = refl
      none false = refl
  hole_scoped (After a c) bound h =
      let z = hole_scoped c (λ y. binds a y || bound y) (and_parts (step_is_scoped bound a) (is_scoped (λ y. binds a y || bound y) (fill c old)) h).1 in
      (z.0, λ x. z.1 x ∙ turned (binds a x) (bound x) (on_way c x), z.2)
    where
      turned : (p q r : Bool) → ((p || q) || r) ≡ (q || (p || r))
      turned true true r = refl
      turned true false r = refl
      turned false q r = refl
  hole_scoped (InLoop i lo hi c rest) bound h =
      let p = and_parts (step_is_scoped bound (For i lo hi (fill c old))) (is_scoped bound rest) h in
      let q = and_parts (not (bound i.id)) (not (in_control (is_not bound) lo || in_control (is_not bound) hi) && is_scoped (λ y. (y == i.id) || bound y) (fill c old)) p.0 in
      let r = and_parts (not (in_control (is_not bound) lo || in_control (is_not bound) hi)) (is_scoped (λ y. (y == i.id) || bound y) (fill c old)) q.1 in
      let z = hole_scoped c (λ y. (y == i.id) || bound y) r.1 in
      (z.0, λ x. z.1 x ∙ turned (x == i.id) (bound x) (on_way c x), z.2)
    where
      turned : (p q r : Bool) → ((p || q) || r) ≡ (q || (p || r))
      turned true true r = refl
      turned true false r = refl
      turned false q r = refl
  hole_scoped (InThen t c other rest) bound h =
      let p = and_parts (step_is_scoped bound (If t (fill c old) other)) (is_scoped bound rest) h in
      let q = and_parts (not (in_condition (is_not bound) t)) (is_scoped bound (fill c old) && is_scoped bound other) p.0 in
      hole_scoped c bound (and_parts (is_scoped bound (fill c old)) (is_scoped bound other) q.1).0
  hole_scoped (InElse t other c rest) bound h =
      let p = and_parts (step_is_scoped bound (If t other (fill c old))) (is_scoped bound rest) h in
      let q = and_parts (not (in_condition (is_not bound) t)) (is_scoped bound other && is_scoped bound (fill c old)) p.0 in
      hole_scoped c bound (and_parts (is_scoped bound other) (is_scoped bound (fill c old)) q.1).1

-- where no field may be read, none is
module _ (fields : ℕ → Option Kind) (scope : Scope) (g : ℕ) where
  no_field : (a : Control) → is_control fields with_strides scope a ≡ true → read_by_control g a ≡ false
  no_field (Lit n) k = refl
  no_field (Var x) k = refl
  no_field (Field f) k = absurd (true≢false (sym k))
  no_field (StrideOf x n) k = refl
  no_field (Neg a) k = no_field a k
  no_field (Add a b) k = let p = and_parts (is_control fields with_strides scope a) (is_control fields with_strides scope b) k in or_false (read_by_control g a) (read_by_control g b) (no_field a p.0) (no_field b p.1)
  no_field (Sub a b) k = let p = and_parts (is_control fields with_strides scope a) (is_control fields with_strides scope b) k in or_false (read_by_control g a) (read_by_control g b) (no_field a p.0) (no_field b p.1)
  no_field (Mul a b) k =
      let q = and_parts (is_control fields with_strides scope a && is_control fields with_strides scope b) _ k in
      let p = and_parts (is_control fields with_strides scope a) (is_control fields with_strides scope b) q.0 in
      or_false (read_by_control g a) (read_by_control g b) (no_field a p.0) (no_field b p.1)
  no_field (Div a c) k = no_field a (and_parts (is_control fields with_strides scope a) _ k).0
  no_field (Mod a c) k = no_field a (and_parts (is_control fields with_strides scope a) _ k).0

  two_without : (a b : Control) → (is_control fields with_strides scope a && is_control fields with_strides scope b) ≡ true → (read_by_control g a || read_by_control g b) ≡ false
  two_without a b k = let p = and_parts (is_control fields with_strides scope a) (is_control fields with_strides scope b) k in or_false (read_by_control g a) (read_by_control g b) (no_field a p.0) (no_field b p.1)

  no_field_in : (c : Condition) → is_condition fields with_strides scope c ≡ true → read_by_condition g c ≡ false
  no_field_in True k = refl
  no_field_in False k = refl
  no_field_in (Flag x) k = refl
  no_field_in (FieldFlag f) k = absurd (true≢false (sym k))
  no_field_in (Lt a b) k = two_without a b k
  no_field_in (Le a b) k = two_without a b k
  no_field_in (Gt a b) k = two_without a b k
  no_field_in (Ge a b) k = two_without a b k
  no_field_in (Eq a b) k = two_without a b k
  no_field_in (And c d) k = let p = and_parts (is_condition fields with_strides scope c) (is_condition fields with_strides scope d) k in or_false (read_by_condition g c) (read_by_condition g d) (no_field_in c p.0) (no_field_in d p.1)
  no_field_in (Or c d) k = let p = and_parts (is_condition fields with_strides scope c) (is_condition fields with_strides scope d) k in or_false (read_by_condition g c) (read_by_condition g d) (no_field_in c p.0) (no_field_in d p.1)

  no_field_of : (o : Option Kind) (a : Argument) → is_write fields scope o a ≡ true → read_by_argument g a ≡ false
  no_field_of None a k = absurd (true≢false (sym k))
  no_field_of (Some kind) (ControlArg a) k = no_field a (and_parts (not (is_truth kind)) _ k).1
  no_field_of (Some kind) (ConditionArg c) k = no_field_in c (and_parts (is_truth kind) _ k).1
  no_field_of (Some kind) (Whole x) k = absurd (true≢false (sym k))
  no_field_of (Some kind) (Window x coords) k = absurd (true≢false (sym k))

pub plain_telling : PlainTelling
plain_telling fields memories ps p may c f a rest was =
    let world = unit_world (kinds_of fields) ps in
    let hole = next (Config f a) rest in
    let scoped = hole_scoped (field_kind fields) memories world.callees hole c (is_param p) (subst (λ z. is_scoped (is_param p) z ≡ true) was (well_scoped (field_kind fields) memories world.callees p may.procedure).0) in
    let keeps = hole_keeps (field_kind fields) memories world.callees hole c (scope_of [] p.params) (λ x. x) (subst (λ z. is_block (field_kind fields) memories world.callees (scope_of [] p.params) (λ x. x) z ≡ true) was may.procedure.body) in
    record {
      named = subst (λ n. in_argument (is_not n) a ≡ false) (fun_ext scoped.1) (not_true (in_argument (is_not scoped.0) a) (and_parts (step_is_scoped scoped.0 (Config f a)) _ scoped.2).0);
      plain = λ g. no_field_of (field_kind fields) keeps.0 g (field_kind fields f) a (and_parts (is_statement (field_kind fields) memories world.callees keeps.0 keeps.1 (Config f a)) _ keeps.2).0;
      same = λ s u good come. refl;
    }
