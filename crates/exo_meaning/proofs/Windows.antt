-- A window's indices and the cells that it sees.
use Rattle.std.proofs.Common.{◌≡◌, ◌≤ℤ◌, ℕ, ℤ, pos, ◌+ℤ◌, ◌-ℤ◌, ◌==◌, Bool, true, false, cond, List, [], ◌∷◌, Option, Some, None, option_map, refl, sym, ap, ap₂, ◌∙◌, subst, arith, eqb-true, eq-eqb, ◌&&◌}
use Rattle.std.proofs.Math.Path.{fun_ext}
use Rattle.std.specs.Ordering.{int_eq}
use Rattle.std.specs.Cmp.{signed_Decides}
use Rattle.std.specs.Cmp.Rules.{signed_items}
use Rattle.std.proofs.lemmas.Int.{ints}
use Rattle.exo_meaning.specs.Value.{Value}
use Rattle.exo_meaning.specs.Scene.{then_do, Side, Point, Range, Seen, cell_at, index_of, is_below, where_true, composed, LieWithin}
use Rattle.exo_meaning.specs.State.{Cells, Place, changed, is_there, same_index}
use Rattle.exo_meaning.specs.Calls.{contents, held_at, value_or, copy_back, GivenView}

pub where_parts : {A : Type 0} (t : Bool) (o : Option A) (a : A) → where_true t o ≡ Some a → (t ≡ true) × (o ≡ Some a)
where_parts false o a h = absurd (none_some h)
  where
    none_some : {A : Type 0} {a : A} → None ≡ Some a → ⊥
    none_some e = cc
where_parts true o a h = (refl, h)

pub map_parts : {A B : Type 0} (f : A → B) (o : Option A) (b : B) → option_map f o ≡ Some b → (a : A) × (o ≡ Some a) × (f a ≡ b)
map_parts f None b h = absurd (none_some h)
  where
    none_some : {A : Type 0} {a : A} → None ≡ Some a → ⊥
    none_some e = cc
map_parts f (Some a) b h = (a, refl, some_injective _ _ h)
  where
    some_injective : {A : Type 0} (x y : A) → Some x ≡ Some y → x ≡ y
    some_injective x y e = cc

pub there : (lo i : ℤ) → (lo +ℤ i) -ℤ lo ≡ i
there lo i = omega (arith, ints)

pub back : (lo a : ℤ) → lo +ℤ (a -ℤ lo) ≡ a
back lo a = omega (arith, ints)

-- the cell at the index that a window has for a cell is that cell
pub cell_at_index : (sides : List Side) (at is : List ℤ) → index_of sides at ≡ Some is → cell_at sides is ≡ Some at
cell_at_index [] [] [] h = refl
cell_at_index [] [] (i ∷ is) h = absurd (no h)
  where
    no : Some [] ≡ Some (i ∷ is) → ⊥
    no e = cc
cell_at_index [] (a ∷ at) is h = absurd (no h)
  where
    no : None ≡ Some is → ⊥
    no e = cc
cell_at_index (Point p ∷ sides) [] is h = absurd (no h)
  where
    no : None ≡ Some is → ⊥
    no e = cc
cell_at_index (Range lo n ∷ sides) [] is h = absurd (no h)
  where
    no : None ≡ Some is → ⊥
    no e = cc
cell_at_index (Point p ∷ sides) (a ∷ at) is h =
    let parts = where_parts (int_eq p a) (index_of sides at) is h in
    ap (option_map (λ rest. p ∷ rest)) (cell_at_index sides at is parts.1) ∙ ap (λ x. Some (x ∷ at)) ((signed_Decides p a).0 parts.0)
cell_at_index (Range lo n ∷ sides) (a ∷ at) is h =
    let parts = where_parts (is_below (a -ℤ lo) n) _ is h in
    let inner = map_parts (λ rest. (a -ℤ lo) ∷ rest) (index_of sides at) is parts.1 in
    subst (λ js. cell_at (Range lo n ∷ sides) js ≡ Some (a ∷ at)) inner.2
    (ap (λ t. where_true t (option_map (λ rest. (lo +ℤ (a -ℤ lo)) ∷ rest) (cell_at sides inner.0))) parts.0
    ∙ ap (option_map (λ rest. (lo +ℤ (a -ℤ lo)) ∷ rest)) (cell_at_index sides at inner.0 inner.1) ∙ ap (λ x. Some (x ∷ at)) (back lo a))

-- a copy that is copied back at once changes nothing
pub copy_is_same : (seen : Seen) (c : Cells) → copy_back true (GivenView seen) (contents c seen) c ≡ c
copy_is_same seen c = fun_ext (λ b. fun_ext (λ at. go b at (b == seen.buffer) (eqb-true b seen.buffer)))
  where
    one : (at : List ℤ) (o : Option (List ℤ)) → index_of seen.sides at ≡ o → value_or o (contents c seen) (c seen.buffer at) ≡ c seen.buffer at
    one at None e = refl
    one at (Some is) e = ap (held_at (c seen.buffer)) (cell_at_index seen.sides at is e)

    go : (b : ℕ) (at : List ℤ) (t : Bool) → (t ≡ true → b ≡ seen.buffer) → cond t (value_or (index_of seen.sides at) (contents c seen) (c b at)) (c b at) ≡ c b at
    go b at false h = refl
    go b at true h = subst (λ x. value_or (index_of seen.sides at) (contents c seen) (c x at) ≡ c x at) (sym (h refl)) (one at (index_of seen.sides at) refl)

-- ---- a part of a part

pub below_further : (i mo m n : ℤ) → is_below i m ≡ true → pos 0 ≤ℤ mo → (mo +ℤ m) ≤ℤ n → is_below (mo +ℤ i) n ≡ true
below_further i mo m n h a b = grind (arith, ints)

pub sum_is : (lo mo i : ℤ) → (lo +ℤ mo) +ℤ i ≡ lo +ℤ (mo +ℤ i)
sum_is lo mo i = omega (arith, ints)

pub map_cong : {A B : Type 0} (f g : A → B) (o : Option A) → ((a : A) → f a ≡ g a) → option_map f o ≡ option_map g o
map_cong f g None h = refl
map_cong f g (Some a) h = ap Some (h a)

-- the cell of the part of a part is the part's cell of its cell
pub cell_at_composed : (ss ts : List Side) (is : List ℤ) → LieWithin ss ts → cell_at (composed ss ts) is ≡ then_do (cell_at ts is) (cell_at ss)
cell_at_composed [] [] [] h = refl
cell_at_composed [] [] (i ∷ is) h = refl
cell_at_composed [] (t ∷ ts) is h = absurd h
cell_at_composed (Point p ∷ ss) ts is h = ap (option_map (λ at. p ∷ at)) (cell_at_composed ss ts is h) ∙ go (cell_at ts is)
  where
    go : (o : Option (List ℤ)) → option_map (λ at. p ∷ at) (then_do o (cell_at ss)) ≡ then_do o (λ at. option_map (λ rest. p ∷ rest) (cell_at ss at))
    go None = refl
    go (Some at) = refl
cell_at_composed (Range lo n ∷ ss) [] is h = absurd h
cell_at_composed (Range lo n ∷ ss) (Point q ∷ ts) is h = ap (option_map (λ at. (lo +ℤ q) ∷ at)) (cell_at_composed ss ts is h.1) ∙ go (cell_at ts is)
  where
    go : (o : Option (List ℤ)) → option_map (λ at. (lo +ℤ q) ∷ at) (then_do o (cell_at ss)) ≡ then_do (option_map (λ at. q ∷ at) o) (cell_at (Range lo n ∷ ss))
    go None = refl
    go (Some at) = sym (ap (λ t. where_true t (option_map (λ rest. (lo +ℤ q) ∷ rest) (cell_at ss at))) h.0)
cell_at_composed (Range lo n ∷ ss) (Range mo m ∷ ts) [] h = refl
cell_at_composed (Range lo n ∷ ss) (Range mo m ∷ ts) (i ∷ is) h = go (cell_at_composed ss ts is h.2) (is_below i m) refl
  where
    inner : (o : Option (List ℤ)) → is_below (mo +ℤ i) n ≡ true → option_map (λ at. ((lo +ℤ mo) +ℤ i) ∷ at) (then_do o (cell_at ss)) ≡ then_do (option_map (λ at. (mo +ℤ i) ∷ at) o) (cell_at (Range lo n ∷ ss))
    inner None b = refl
    inner (Some at) b =
        ap (λ x. option_map (λ rest. x ∷ rest) (cell_at ss at)) (sum_is lo mo i)
        ∙ sym (ap (λ t. where_true t (option_map (λ rest. (lo +ℤ (mo +ℤ i)) ∷ rest) (cell_at ss at))) b)

    go : cell_at (composed ss ts) is ≡ then_do (cell_at ts is) (cell_at ss) → (t : Bool) → is_below i m ≡ t → where_true t (option_map (λ at. ((lo +ℤ mo) +ℤ i) ∷ at) (cell_at (composed ss ts) is)) ≡ then_do (where_true t (option_map (λ at. (mo +ℤ i) ∷ at) (cell_at ts is))) (cell_at (Range lo n ∷ ss))
    go ih false e = refl
    go ih true e = ap (option_map (λ at. ((lo +ℤ mo) +ℤ i) ∷ at)) ih ∙ inner (cell_at ts is) (below_further i mo m n e h.0 h.1)

-- ---- a store, seen through a window

pub none_is_some : {A : Type 0} {a : A} → None ≡ Some a → ⊥
none_is_some e = cc

pub one_value : {A : Type 0} (a b : A) → Some a ≡ Some b → a ≡ b
one_value a b e = cc

-- a window has one index for each cell that it sees
pub index_at_cell : (sides : List Side) (is at : List ℤ) → cell_at sides is ≡ Some at → index_of sides at ≡ Some is
index_at_cell [] [] at h = subst (λ z. index_of [] z ≡ Some []) (one_value [] at h) refl
index_at_cell [] (i ∷ is) at h = absurd (none_is_some h)
index_at_cell (Point p ∷ sides) is at h =
    let t = map_parts (λ rest. p ∷ rest) (cell_at sides is) at h in
    subst (λ z. index_of (Point p ∷ sides) z ≡ Some is) t.2 (ap (λ b. where_true b (index_of sides t.0)) ((signed_Decides p p).1 refl) ∙ index_at_cell sides is t.0 t.1)
index_at_cell (Range lo n ∷ sides) [] at h = absurd (none_is_some h)
index_at_cell (Range lo n ∷ sides) (i ∷ is) at h =
    let w = where_parts (is_below i n) (option_map (λ rest. (lo +ℤ i) ∷ rest) (cell_at sides is)) at h in
    let t = map_parts (λ rest. (lo +ℤ i) ∷ rest) (cell_at sides is) at w.1 in
    subst (λ z. index_of (Range lo n ∷ sides) z ≡ Some (i ∷ is)) t.2
    (ap (λ j. where_true (is_below j n) (option_map (λ js. j ∷ js) (index_of sides t.0))) (there lo i)
    ∙ ap (λ b. where_true b (option_map (λ js. i ∷ js) (index_of sides t.0))) w.0 ∙ ap (option_map (λ js. i ∷ js)) (index_at_cell sides is t.0 t.1))

-- a store in a cell that the window sees is a store at the window's index
pub store_seen : (seen : Seen) (c : Cells) (f : Value → Value) (at q : List ℤ) → cell_at seen.sides at ≡ Some q → (is : List ℤ) → contents (changed c (record { buffer = seen.buffer; at = q }) f) seen is ≡ cond (same_index is at) (f (contents c seen is)) (contents c seen is)
store_seen seen c f at q e is = go (cell_at seen.sides is) refl (same_index is at) refl
  where
    here_is : (b : Bool) → same_index is at ≡ b → (r : List ℤ) → cell_at seen.sides is ≡ Some r → same_index r q ≡ b
    here_is true s r k = (signed_items r q).1 (one_value r q (sym k ∙ ap (cell_at seen.sides) ((signed_items is at).0 s) ∙ e))
    here_is false s r k = not_same (same_index r q) refl
      where
        not_same : (b : Bool) → same_index r q ≡ b → b ≡ false
        not_same false i = refl
        not_same true i =
            let cells : r ≡ q = (signed_items r q).0 i in
            let indices : is ≡ at = one_value is at (sym (index_at_cell seen.sides is r k) ∙ ap (index_of seen.sides) cells ∙ index_at_cell seen.sides at q e) in
            sym ((signed_items is at).1 indices) ∙ s

    go : (o : Option (List ℤ)) → cell_at seen.sides is ≡ o → (b : Bool) → same_index is at ≡ b → held_at (changed c (record { buffer = seen.buffer; at = q }) f seen.buffer) o ≡ cond b (f (held_at (c seen.buffer) o)) (held_at (c seen.buffer) o)
    go None k false s = refl
    go None k true s = absurd (none_is_some (sym k ∙ ap (cell_at seen.sides) ((signed_items is at).0 s) ∙ e))
    go (Some r) k b s = ap (λ t. cond t (f (c seen.buffer r)) (c seen.buffer r)) (ap₂ (λ x y. x && y) (eq-eqb seen.buffer seen.buffer refl) (here_is b s r k))

-- a store in a cell that the window does not see
pub store_unseen : (seen : Seen) (c : Cells) (f : Value → Value) (p : Place) → ((is : List ℤ) (r : List ℤ) → cell_at seen.sides is ≡ Some r → is_there p seen.buffer r ≡ false) → contents (changed c p f) seen ≡ contents c seen
store_unseen seen c f p h = fun_ext (λ is. go is (cell_at seen.sides is) refl)
  where
    go : (is : List ℤ) (o : Option (List ℤ)) → cell_at seen.sides is ≡ o → held_at (changed c p f seen.buffer) o ≡ held_at (c seen.buffer) o
    go is None k = refl
    go is (Some r) k = ap (λ t. cond t (f (c seen.buffer r)) (c seen.buffer r)) (h is r k)
