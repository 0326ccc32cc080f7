-- What the binders and fields of a procedure are called in the C of its file.
use Rattle.std.proofs.Common.{◌≡◌, ◌<◌, ◌+◌, ◌^◌, ◌==◌, ◌++◌, ℕ, zero, suc, nat_lt, Bool, true, false, not, ◌||◌, cond, List, [], ◌∷◌, length, map, Some, None, refl, sym, ap, ◌∙◌, subst, arith, true≢false, eqb-true, eq-eqb, ◌⊎◌, ⊎_elim, inl, inr}
use Rattle.std.specs.List.{list_any}
use Rattle.std.proofs.lemmas.Bool.{and_parts}
use Rattle.exo_tree.specs.Tree.{Binder, Param, Statement, Assign, Reduce, Config, Pass, If, For, Alloc, View, Call, Block, end, next, Procedure, ConfigField, Program}
use Rattle.exo_meaning.specs.Binders.{binders, step_binders}
use Rattle.exo_meaning.specs.Units.{is_text, bound_ids, are_distinct}
use Rattle.c_tree.specs.Names.Words.{Name, same_name, is_in, is_word}
use Rattle.c_tree.specs.Names.Names.{c_name}
use Rattle.c_tree.specs.Names.Binders.{binders_in, binders_of, param_binders, all_binders, names_of}
use Rattle.c_tree.specs.Names.Binders.{called, c_names, name_in}
use Rattle.c_tree.specs.Names.Clash.{clashing, first_clash}
use Rattle.c_lowering.specs.Made.LoweredUnit.{Printing, field_name, named_field, is_used}
use Rattle.c_lowering.specs.Made.LoweredUnit.{fields_from, fields_of, printed_names, global_names}
use Rattle.c_unit_laws.specs.Follows.Simulation.{Ground}
use Rattle.c_unit_laws.specs.Follows.Grounds.{declared_in, function_in}
use Rattle.c_unit_laws.proofs.Spelling.{same_self, differ}
use Rattle.c_unit_laws.proofs.Free.{or_false, room}
use Rattle.c_unit_laws.proofs.Apart.{no_word, names_apart, no_global}
use Rattle.c_unit_laws.proofs.Binders.{IsIn, AreNamed}

-- ---- binders and their names

name_there : (b : Binder) (bs : List Binder) → IsIn b bs → is_in (names_of bs) b.name ≡ true
name_there b [] h = absurd h
name_there b (c ∷ bs) h = ⊎_elim (λ e. ap (λ t. t || is_in (names_of bs) b.name) (ap (λ z. same_name c.name z.name) e ∙ same_self c.name)) (λ i. late (same_name c.name b.name) (name_there b bs i)) h
  where
    late : (t : Bool) → is_in (names_of bs) b.name ≡ true → (t || is_in (names_of bs) b.name) ≡ true
    late true e = refl
    late false e = e

id_there : (b : Binder) (bs : List Binder) → IsIn b bs → list_any (λ y. b.id == y) (map (λ z. z.id) bs) ≡ true
id_there b [] h = absurd h
id_there b (c ∷ bs) h = ⊎_elim (λ e. ap (λ t. t || list_any (λ y. b.id == y) (map (λ z. z.id) bs)) (eq-eqb b.id c.id (ap (λ z. z.id) e))) (λ i. late (b.id == c.id) (id_there b bs i)) h
  where
    late : (t : Bool) → list_any (λ y. b.id == y) (map (λ z. z.id) bs) ≡ true → (t || list_any (λ y. b.id == y) (map (λ z. z.id) bs)) ≡ true
    late true e = refl
    late false e = e

-- where ids are apart, the table has the C name of each binder
table_name : (globals names : List Name) (bs : List Binder) (b : Binder) → are_distinct (map (λ z. z.id) bs) ≡ true → IsIn b bs → name_in (called globals names bs) b.id ≡ c_name globals names b.name
table_name globals names [] b d h = absurd h
table_name globals names (c ∷ bs) b d h =
    let p = and_parts (not (list_any (λ y. c.id == y) (map (λ z. z.id) bs))) (are_distinct (map (λ z. z.id) bs)) d in
    ⊎_elim
    (λ e. ap (λ t. cond t (c_name globals names c.name) (name_in (called globals names bs) b.id)) (eq-eqb b.id c.id (ap (λ z. z.id) e)) ∙ ap (λ z. c_name globals names z.name) (sym e))
    (λ i. ap (λ t. cond t (c_name globals names c.name) (name_in (called globals names bs) b.id)) (other p.0 i (b.id == c.id) refl) ∙ table_name globals names bs b p.1 i)
    h
  where
    other : not (list_any (λ y. c.id == y) (map (λ z. z.id) bs)) ≡ true → IsIn b bs → (t : Bool) → (b.id == c.id) ≡ t → t ≡ false
    other n i false e = refl
    other n i true e = absurd (true≢false (sym (ap (λ y. not (list_any (λ z. y == z) (map (λ z. z.id) bs))) (eqb-true b.id c.id e) ∙ n) ∙ ap not (id_there b bs i)))

-- ---- the ids of all binders

map_append : (xs ys : List Binder) → map (λ z. z.id) (xs ++ ys) ≡ map (λ z. z.id) xs ++ map (λ z. z.id) ys
map_append [] ys = refl
map_append (x ∷ xs) ys = ap (λ r. x.id ∷ r) (map_append xs ys)

param_ids : (ps : List Param) → map (λ z. z.id) (param_binders ps) ≡ map (λ q. q.binder.id) ps
param_ids [] = refl
param_ids (p ∷ ps) = ap (λ r. p.binder.id ∷ r) (param_ids ps)

mutual
  block_ids : (b : Block) → map (λ z. z.id) (binders_in b) ≡ binders b
  block_ids end = refl
  block_ids (next a b) = map_append (binders_of a) (binders_in b) ∙ ap (λ r. r ++ map (λ z. z.id) (binders_in b)) (step_ids a) ∙ ap (λ r. step_binders a ++ r) (block_ids b)

  step_ids : (a : Statement) → map (λ z. z.id) (binders_of a) ≡ step_binders a
  step_ids (Assign x is e) = refl
  step_ids (Reduce x is e) = refl
  step_ids (Config f a) = refl
  step_ids Pass = refl
  step_ids (If c a b) = map_append (binders_in a) (binders_in b) ∙ ap (λ r. r ++ map (λ z. z.id) (binders_in b)) (block_ids a) ∙ ap (λ r. binders a ++ r) (block_ids b)
  step_ids (For i lo hi b) = ap (λ r. i.id ∷ r) (block_ids b)
  step_ids (Alloc x cell dims memory) = refl
  step_ids (View w x coords) = refl
  step_ids (Call k args) = refl

pub all_ids : (p : Procedure) → map (λ z. z.id) (all_binders p) ≡ bound_ids p
all_ids p = map_append (param_binders p.params) (binders_in p.body) ∙ ap (λ r. r ++ map (λ z. z.id) (binders_in p.body)) (param_ids p.params) ∙ ap (λ r. map (λ q. q.binder.id) p.params ++ r) (block_ids p.body)

-- ---- names that don't clash

pub clash_parts : (x : Name) (xs : List Name) → first_clash (x ∷ xs) ≡ None → (is_word x ≡ false) × (is_in xs x ≡ false) × (first_clash xs ≡ None)
clash_parts x xs h = go (is_word x || is_in xs x) refl h
  where
    some_none : Some x ≡ None → ⊥
    some_none e = cc

    go : (t : Bool) → (is_word x || is_in xs x) ≡ t → clashing t x (first_clash xs) ≡ None → (is_word x ≡ false) × (is_in xs x ≡ false) × (first_clash xs ≡ None)
    go true e k = absurd (some_none k)
    go false e k = let p = or_false (is_word x) (is_in xs x) e in (p.0, p.1, k)

pub rear_clash : (xs ys : List Name) → first_clash (xs ++ ys) ≡ None → first_clash ys ≡ None
rear_clash [] ys h = h
rear_clash (x ∷ xs) ys h = rear_clash xs ys (clash_parts x (xs ++ ys) h).2

pub in_front : (xs ys : List Name) (g : Name) → is_in xs g ≡ true → is_in (xs ++ ys) g ≡ true
in_front [] ys g h = absurd (true≢false (sym h))
in_front (x ∷ xs) ys g h = go (same_name x g) (in_front xs ys g) h
  where
    go : (t : Bool) → (is_in xs g ≡ true → is_in (xs ++ ys) g ≡ true) → (t || is_in xs g) ≡ true → (t || is_in (xs ++ ys) g) ≡ true
    go true rest e = refl
    go false rest e = rest e

pub in_rear : (xs ys : List Name) (g : Name) → is_in ys g ≡ true → is_in (xs ++ ys) g ≡ true
in_rear [] ys g h = h
in_rear (x ∷ xs) ys g h = late (same_name x g) (in_rear xs ys g h)
  where
    late : (t : Bool) → is_in (xs ++ ys) g ≡ true → (t || is_in (xs ++ ys) g) ≡ true
    late true e = refl
    late false e = e

-- ---- names of fields

abbrev name_at : List ConfigField → ℕ → Name
name_at fields f = named_field field_name fields f

module _ (used : ℕ → Bool) where
  -- a field in use stands in the list
  used_there : (fields : List ConfigField) (k f : ℕ) → f < length fields → used (k + f) ≡ true → is_in (fields_from used k fields) (name_at fields f) ≡ true
  used_there [] k f h u = absurd (omega arith)
  used_there (a ∷ fields) k zero h u = ap (λ t. is_in (cond t (field_name a ∷ fields_from used (suc k) fields) (fields_from used (suc k) fields)) (field_name a)) (ap used (omega arith) ∙ u) ∙ ap (λ t. t || is_in (fields_from used (suc k) fields) (field_name a)) (same_self (field_name a))
  used_there (a ∷ fields) k (suc f) h u = go (used k) (used_there fields (suc k) f (omega arith) (ap used (omega arith) ∙ u))
    where
      go : (t : Bool) → is_in (fields_from used (suc k) fields) (name_at fields f) ≡ true → is_in (cond t (field_name a ∷ fields_from used (suc k) fields) (fields_from used (suc k) fields)) (name_at fields f) ≡ true
      go true e = late (same_name (field_name a) (name_at fields f)) e
        where
          late : (t : Bool) → is_in (fields_from used (suc k) fields) (name_at fields f) ≡ true → (t || is_in (fields_from used (suc k) fields) (name_at fields f)) ≡ true
          late true i = refl
          late false i = i
      go false e = e

  -- where no name stands twice, those of an earlier and a later field in use differ
  earlier_apart : (fields : List ConfigField) (k f g : ℕ) → f < g → g < length fields → used (k + f) ≡ true → used (k + g) ≡ true → first_clash (fields_from used k fields) ≡ None → name_at fields f ≡ name_at fields g → ⊥
  earlier_apart [] k f g h i u v c e = absurd (omega arith)
  earlier_apart (a ∷ fields) k f zero h i u v c e = absurd (omega arith)
  earlier_apart (a ∷ fields) k zero (suc g) h i u v c e =
      let own : used k ≡ true = ap used (omega arith) ∙ u in
      let here : first_clash (field_name a ∷ fields_from used (suc k) fields) ≡ None = subst (λ t. first_clash (cond t (field_name a ∷ fields_from used (suc k) fields) (fields_from used (suc k) fields)) ≡ None) own c in
      true≢false (sym (ap (is_in (fields_from used (suc k) fields)) e ∙ used_there fields (suc k) g (omega arith) (ap used (omega arith) ∙ v)) ∙ (clash_parts (field_name a) (fields_from used (suc k) fields) here).1)
  earlier_apart (a ∷ fields) k (suc f) (suc g) h i u v c e =
      earlier_apart fields (suc k) f g (omega arith) (omega arith) (ap used (omega arith) ∙ u) (ap used (omega arith) ∙ v) (later (used k) c) e
    where
      later : (t : Bool) → first_clash (cond t (field_name a ∷ fields_from used (suc k) fields) (fields_from used (suc k) fields)) ≡ None → first_clash (fields_from used (suc k) fields) ≡ None
      later true d = (clash_parts (field_name a) (fields_from used (suc k) fields) d).2
      later false d = d

  used_apart : (fields : List ConfigField) (f g : ℕ) → f < length fields → g < length fields → used f ≡ true → used g ≡ true → first_clash (fields_from used 0 fields) ≡ None → (g ≡ f) ⊎ (same_name (name_at fields g) (name_at fields f) ≡ false)
  used_apart fields f g h i u v c = go (nat_lt f g) (nat_lt g f) refl refl
    where
      at_zero : (j : ℕ) → used j ≡ true → used (0 + j) ≡ true
      at_zero j e = ap used (omega arith) ∙ e

      go : (s t : Bool) → nat_lt f g ≡ s → nat_lt g f ≡ t → (g ≡ f) ⊎ (same_name (name_at fields g) (name_at fields f) ≡ false)
      go true t p q = inr (differ _ _ (λ e. earlier_apart fields 0 f g (grind arith) i (at_zero f u) (at_zero g v) c (sym e)))
      go false true p q = inr (differ _ _ (λ e. earlier_apart fields 0 g f (grind arith) h (at_zero g v) (at_zero f u) c e))
      go false false p q = inl (grind arith)

-- ---- fields that the C declares

declared_parts : (program : Program) (what : List Printing) (f : ℕ) → declared_in program what f ≡ true → (is_used program what f ≡ true) × (f < length program.fields)
declared_parts program what f h = let q = and_parts (is_used program what f) (nat_lt f (length program.fields)) h in (q.0, grind (arith, q.1))

pub field_listed : (program : Program) (what : List Printing) (f : ℕ) → declared_in program what f ≡ true → is_in (fields_of program what) (name_at program.fields f) ≡ true
field_listed program what f h = let q = declared_parts program what f h in used_there (is_used program what) program.fields 0 f q.1 (ap (is_used program what) (omega arith) ∙ q.0)

-- ---- a procedure of a file

module _ (program : Program) (what : List Printing) (p : Procedure) (distinct : are_distinct (bound_ids p) ≡ true) (clear : first_clash (global_names program what) ≡ None) (few : room (global_names program what) (names_of (all_binders p)) < 2 ^ 63) where
  abbrev globals : List Name
  globals = global_names program what

  abbrev all : List Binder
  all = all_binders p

  apart_ids : are_distinct (map (λ z. z.id) all) ≡ true
  apart_ids = ap are_distinct (all_ids p) ∙ distinct

  field_there : (f : ℕ) → declared_in program what f ≡ true → is_in globals (name_at program.fields f) ≡ true
  field_there f h = in_rear (printed_names program what) (fields_of program what) (name_at program.fields f) (field_listed program what f h)

  no_text : (a b : Binder) → is_text b.name a.name ≡ false → a.name ≡ b.name → ⊥
  no_text a b h e = true≢false (sym (ap (is_text b.name) e ∙ same_self b.name) ∙ h)

  module _ (g : Ground) (by_binder : g.naming.binder ≡ name_in (c_names globals p)) (by_field : g.naming.field ≡ name_at program.fields) (by_declared : g.declared ≡ declared_in program what) (by_function : g.function ≡ function_in program what) where
    own_name : (b : Binder) → IsIn b all → g.naming.binder b.id ≡ c_name globals (names_of all) b.name
    own_name b h = ap (λ f. f b.id) by_binder ∙ table_name globals (names_of all) all b apart_ids h

    here : (f : ℕ) → g.declared f ≡ true → declared_in program what f ≡ true
    here f h = sym (ap (λ d. d f) by_declared) ∙ h

    field_is : (f : ℕ) → g.naming.field f ≡ name_at program.fields f
    field_is f = ap (λ d. d f) by_field

    function_there : (f : Name) → g.function f ≡ true → is_in globals f ≡ true
    function_there f h = in_front (printed_names program what) (fields_of program what) f (sym (ap (λ d. d f) by_function) ∙ h)

    others : (f h : ℕ) → declared_in program what f ≡ true → declared_in program what h ≡ true → (h ≡ f) ⊎ (same_name (name_at program.fields h) (name_at program.fields f) ≡ false)
    others f h d e = let q = declared_parts program what f d in let r = declared_parts program what h e in used_apart (is_used program what) program.fields f h q.1 r.1 q.0 r.0 (rear_clash (printed_names program what) (fields_of program what) clear)

    -- they are no words of C, and no names of functions and fields
    pub are_ordinary : (b : Binder) → IsIn b all → (is_word (g.naming.binder b.id) ≡ false) × (is_in globals (g.naming.binder b.id) ≡ false)
    are_ordinary b h = (ap is_word (own_name b h) ∙ no_word globals (names_of all) few b.name, go (is_in globals (g.naming.binder b.id)) refl)
      where
        go : (t : Bool) → is_in globals (g.naming.binder b.id) ≡ t → t ≡ false
        go false e = refl
        go true e = absurd (no_global globals (names_of all) few (g.naming.binder b.id) b.name e (own_name b h))

    pub are_named : AreNamed g all
    are_named = record {
      apart = λ a b h k e. differ _ _ (λ same. names_apart globals (names_of all) few a.name b.name (name_there a all h) (name_there b all k) (no_text a b e) (sym (own_name a h) ∙ (same ∙ own_name b k)));
      no_field = λ b h f d. differ _ _ (λ same. no_global globals (names_of all) few (name_at program.fields f) b.name (field_there f (here f d)) (sym (field_is f) ∙ (same ∙ own_name b h)));
      no_function = λ b h f d. differ _ _ (λ same. no_global globals (names_of all) few f b.name (function_there f d) (same ∙ own_name b h));
      alone = λ f d h e. ⊎_elim (λ s. inl s) (λ n. inr (ap (λ z. same_name z (g.naming.field f)) (field_is h) ∙ (ap (same_name (name_at program.fields h)) (field_is f) ∙ n))) (others f h (here f d) (here h e));
    }
