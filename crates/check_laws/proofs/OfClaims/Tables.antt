-- The table of extents tells of each name what its binder says.
use Rattle.std.proofs.Common.{◌≡◌, ℕ, ◌==◌, Bool, true, false, cond, not, ◌&&◌, ◌||◌, List, [], ◌∷◌, ◌++◌, map, refl, sym, ap, ◌∙◌, subst, eqb-true}
use Rattle.std.specs.List.{list_any}
use Rattle.exo_tree.specs.Tree.{Statement, Assign, Reduce, Config, Pass, If, For, Alloc, View, Call, Block, end, next, Param, Procedure}
use Rattle.exo_meaning.specs.Binders.{binders, step_binders}
use Rattle.exo_meaning.specs.Units.{are_distinct, bound_ids}
use Rattle.check_claims.specs.Extents.{Extents, no_extents, with_extents, span_extents, dims_of, with_params, with_block, with_statement, extents_of}
use Rattle.check_laws.proofs.OfClaims.Basics.{and_parts, or_parts, or_left, or_right, not_true, no_test, same_number}

-- ---- membership

abbrev pub has : List ℕ → ℕ → Bool
has xs y = list_any (λ x. y == x) xs

has_append : (xs ys : List ℕ) (y : ℕ) → has (xs ++ ys) y ≡ (has xs y || has ys y)
has_append [] ys y = refl
has_append (x ∷ xs) ys y = ap (λ t. (y == x) || t) (has_append xs ys y) ∙ assoc (y == x) (has xs y) (has ys y)
  where
    assoc : (a b c : Bool) → (a || (b || c)) ≡ ((a || b) || c)
    assoc true b c = refl
    assoc false b c = refl

-- of two parts of a list of different numbers, what the one has the other has not
pub apart : (xs ys : List ℕ) → are_distinct (xs ++ ys) ≡ true → (y : ℕ) → has xs y ≡ true → has ys y ≡ false
apart [] ys h y k = no_test k
apart (x ∷ xs) ys h y k =
    let p = and_parts (not (has (xs ++ ys) x)) (are_distinct (xs ++ ys)) h in
    let q = or_parts (has xs x) (has ys x) (sym (has_append xs ys x) ∙ not_true (has (xs ++ ys) x) p.0) in
    go (y == x) refl k q.1 (λ j. apart xs ys p.1 y j)
  where
    go : (t : Bool) → (y == x) ≡ t → (t || has xs y) ≡ true → has ys x ≡ false → (has xs y ≡ true → has ys y ≡ false) → has ys y ≡ false
    go true e k n f = subst (λ z. has ys z ≡ false) (sym (eqb-true y x e)) n
    go false e k n f = f k

pub left_distinct : (xs ys : List ℕ) → are_distinct (xs ++ ys) ≡ true → are_distinct xs ≡ true
left_distinct [] ys h = refl
left_distinct (x ∷ xs) ys h =
    let p = and_parts (not (has (xs ++ ys) x)) (are_distinct (xs ++ ys)) h in
    let q = or_parts (has xs x) (has ys x) (sym (has_append xs ys x) ∙ not_true (has (xs ++ ys) x) p.0) in
    go (has xs x) (are_distinct xs) q.0 (left_distinct xs ys p.1)
  where
    go : (a b : Bool) → a ≡ false → b ≡ true → (not a && b) ≡ true
    go false b e k = k
    go true b e k = no_test (sym e)

pub right_distinct : (xs ys : List ℕ) → are_distinct (xs ++ ys) ≡ true → are_distinct ys ≡ true
right_distinct [] ys h = h
right_distinct (x ∷ xs) ys h = right_distinct xs ys (and_parts (not (has (xs ++ ys) x)) (are_distinct (xs ++ ys)) h).1

-- ---- what is bound elsewhere is left alone

other_name : (x y : ℕ) (dims : List _) (table : Extents) → (y == x) ≡ false → with_extents x dims table y ≡ table y
other_name x y dims table h = ap (λ t. cond t dims (table y)) h

this_name : (x : ℕ) (dims : List _) (table : Extents) → with_extents x dims table x ≡ dims
this_name x dims table = ap (λ t. cond t dims (table x)) (same_number x)

mutual
  block_leaves : (b : Block) (table : Extents) (y : ℕ) → has (binders b) y ≡ false → with_block b table y ≡ table y
  block_leaves end table y h = refl
  block_leaves (next a b) table y h =
      let p = or_parts (has (step_binders a) y) (has (binders b) y) (sym (has_append (step_binders a) (binders b) y) ∙ h) in
      block_leaves b (with_statement a table) y p.1 ∙ step_leaves a table y p.0

  step_leaves : (a : Statement) (table : Extents) (y : ℕ) → has (step_binders a) y ≡ false → with_statement a table y ≡ table y
  step_leaves (Assign x is e) table y h = refl
  step_leaves (Reduce x is e) table y h = refl
  step_leaves (Config f a) table y h = refl
  step_leaves Pass table y h = refl
  step_leaves (If c a b) table y h =
      let p = or_parts (has (binders a) y) (has (binders b) y) (sym (has_append (binders a) (binders b) y) ∙ h) in
      block_leaves b (with_block a table) y p.1 ∙ block_leaves a table y p.0
  step_leaves (For i lo hi b) table y h = block_leaves b table y (or_parts (y == i.id) (has (binders b) y) h).1
  step_leaves (Alloc x cell dims memory) table y h = other_name x.id y dims table (or_parts (y == x.id) false h).0
  step_leaves (View w x coords) table y h = other_name w.id y (span_extents coords) table (or_parts (y == w.id) false h).0
  step_leaves (Call k args) table y h = refl

-- ---- the table agrees with the binders

abbrev mutual
  pub Agrees : Extents → Block → Type 0
  Agrees table end = Unit {0}
  Agrees table (next a b) = StepAgrees table a × Agrees table b

  pub StepAgrees : Extents → Statement → Type 0
  StepAgrees table (Assign x is e) = Unit {0}
  StepAgrees table (Reduce x is e) = Unit {0}
  StepAgrees table (Config f a) = Unit {0}
  StepAgrees table Pass = Unit {0}
  StepAgrees table (If c a b) = Agrees table a × Agrees table b
  StepAgrees table (For i lo hi b) = Agrees table b
  StepAgrees table (Alloc x cell dims memory) = table x.id ≡ dims
  StepAgrees table (View w x coords) = table w.id ≡ span_extents coords
  StepAgrees table (Call k args) = Unit {0}

-- one table says the same as another of these names
abbrev Same : List ℕ → Extents → Extents → Type 0
Same xs one other = (y : ℕ) → has xs y ≡ true → one y ≡ other y

module _ (table : Extents) where
  first_same : (xs ys : List ℕ) (made later : Extents) → are_distinct (xs ++ ys) ≡ true → Same (xs ++ ys) table later → ((y : ℕ) → has ys y ≡ false → later y ≡ made y) → Same xs table made
  first_same xs ys made later d same leaves y h = same y (has_append xs ys y ∙ or_left (has xs y) (has ys y) h) ∙ leaves y (apart xs ys d y h)

  second_same : (xs ys : List ℕ) (later : Extents) → Same (xs ++ ys) table later → Same ys table later
  second_same xs ys later same y h = same y (has_append xs ys y ∙ or_right (has xs y) (has ys y) h)

  mutual
    block_agrees : (b : Block) (before : Extents) → are_distinct (binders b) ≡ true → Same (binders b) table (with_block b before) → Agrees table b
    block_agrees end before d same = tt
    block_agrees (next a b) before d same =
        let made = with_statement a before in (
          step_agrees a before (left_distinct (step_binders a) (binders b) d) (first_same (step_binders a) (binders b) made (with_block b made) d same (λ y h. block_leaves b made y h)),
          block_agrees b made (right_distinct (step_binders a) (binders b) d) (second_same (step_binders a) (binders b) (with_block b made) same),
        )

    step_agrees : (a : Statement) (before : Extents) → are_distinct (step_binders a) ≡ true → Same (step_binders a) table (with_statement a before) → StepAgrees table a
    step_agrees (Assign x is e) before d same = tt
    step_agrees (Reduce x is e) before d same = tt
    step_agrees (Config f a) before d same = tt
    step_agrees Pass before d same = tt
    step_agrees (If c a b) before d same =
        let made = with_block a before in (
          block_agrees a before (left_distinct (binders a) (binders b) d) (first_same (binders a) (binders b) made (with_block b made) d same (λ y h. block_leaves b made y h)),
          block_agrees b made (right_distinct (binders a) (binders b) d) (second_same (binders a) (binders b) (with_block b made) same),
        )
    step_agrees (For i lo hi b) before d same =
        block_agrees b before (right_distinct (i.id ∷ []) (binders b) d) (λ y h. same y (or_right (y == i.id) (has (binders b) y) h))
    step_agrees (Alloc x cell dims memory) before d same = same x.id (or_left (x.id == x.id) false (same_number x.id)) ∙ this_name x.id dims before
    step_agrees (View w x coords) before d same = same w.id (or_left (w.id == w.id) false (same_number w.id)) ∙ this_name w.id (span_extents coords) before
    step_agrees (Call k args) before d same = tt

-- ---- of a procedure

abbrev pub ids : List Param → List ℕ
ids ps = map (λ q. q.binder.id) ps

-- of each parameter the table has the dimensions
abbrev pub ParamsAgree : Extents → List Param → Type 0
ParamsAgree table [] = Unit {0}
ParamsAgree table (p ∷ ps) = (table p.binder.id ≡ dims_of p.kind) × ParamsAgree table ps

params_leave : (ps : List Param) (table : Extents) (y : ℕ) → has (ids ps) y ≡ false → with_params ps table y ≡ table y
params_leave [] table y h = refl
params_leave (p ∷ ps) table y h =
    let q = or_parts (y == p.binder.id) (has (ids ps) y) h in
    params_leave ps (with_extents p.binder.id (dims_of p.kind) table) y q.1 ∙ other_name p.binder.id y (dims_of p.kind) table q.0

params_agree : (ps : List Param) (table before : Extents) → are_distinct (ids ps) ≡ true → Same (ids ps) table (with_params ps before) → ParamsAgree table ps
params_agree [] table before d same = tt
params_agree (p ∷ ps) table before d same =
    let q = and_parts (not (has (ids ps) p.binder.id)) (are_distinct (ids ps)) d in
    let made = with_extents p.binder.id (dims_of p.kind) before in (
      same p.binder.id (or_left (p.binder.id == p.binder.id) (has (ids ps) p.binder.id) (same_number p.binder.id))
          ∙ params_leave ps made p.binder.id (not_true (has (ids ps) p.binder.id) q.0)
          ∙ this_name p.binder.id (dims_of p.kind) before,
      params_agree ps table made q.1 (λ y h. same y (or_right (y == p.binder.id) (has (ids ps) y) h)),
    )

pub table_agrees : (p : Procedure) → are_distinct (bound_ids p) ≡ true → ParamsAgree (extents_of p) p.params × Agrees (extents_of p) p.body
table_agrees p d =
    let first = with_params p.params no_extents in (
      params_agree p.params (extents_of p) no_extents (left_distinct (ids p.params) (binders p.body) d) (λ y h. block_leaves p.body first y (apart (ids p.params) (binders p.body) d y h)),
      block_agrees (extents_of p) p.body first (right_distinct (ids p.params) (binders p.body) d) (λ y h. refl),
    )
