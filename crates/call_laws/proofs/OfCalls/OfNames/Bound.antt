-- Names that are bound before a place.
use Rattle.std.proofs.Common.{◌≡◌, ℕ, ◌==◌, Bool, true, false, not, ◌&&◌, ◌||◌, true≢false, cond}
use Rattle.std.proofs.Common.{List, [], ◌∷◌, ◌++◌, length, map, Option, Some, None, refl, sym, ap, ap₂, ◌∙◌, subst}
use Rattle.std.proofs.Common.{append_assoc, eqb-true}
use Rattle.std.specs.List.{list_any}
use Rattle.exo_tree.specs.Tree.{Index, Binder, Param, Statement, Assign, Reduce, Config, Pass, If, For, Alloc, View, Call}
use Rattle.exo_tree.specs.Tree.{Block, end, next, joined, Procedure}
use Rattle.exo_tree.specs.Context.{Context, Here, After, InLoop, InThen, InElse, fill, rest_of}
use Rattle.exo_tree.specs.Renaming.{binders, binders_below}
use Rattle.exo_meaning.specs.Inputs.{is_buffer_of}
use Rattle.exo_meaning.specs.Unseen.{in_control, in_condition}
use Rattle.exo_meaning.specs.Units.{Sort, ControlName, BufferName, Scope, sort_in, with_name, param_sort, scope_of}
use Rattle.exo_meaning.specs.Units.{view_sort, scope_after, spans, are_distinct, field_kind}
use Rattle.exo_meaning.proofs.Frame.{or_parts}
use Rattle.meaning_laws.specs.Copies.{IsFree}
use Rattle.meaning_laws.specs.Sound.{binds, on_way}
use Rattle.meaning_laws.specs.Sorted.{scope_at}
use Rattle.meaning_laws.specs.Scoped.{is_not, is_scoped, step_is_scoped, is_param, has_binder, step_has_binder}
use Rattle.meaning_laws.proofs.Substitute.{and_parts}
use Rattle.meaning_laws.proofs.Scoped.{or_elim, both_false, not_true}
use Rattle.meaning_laws.proofs.Binders.{binder_new}
use Rattle.meaning_laws.proofs.Numbers.{among, among_both, block_among}
use Rattle.meaning_laws.proofs.WellFormed.{well_scoped}
use Rattle.step_rules.specs.Rule.{Spot}
use Rattle.step_rules.specs.Lawful.{IsSpot, around, old, callees_for}
use Rattle.call_laws.specs.Calls.Names.Scopes.{bound_at, ScopedThere, BoundOrFree, NotBoundAgain}
use Rattle.call_laws.specs.Calls.Names.Scopes.{BoundOnce}

-- ---- the rules of names at a place

pub scoped_there : ScopedThere
scoped_there (Here rest) b bound h = h
scoped_there (After a c) b bound h =
    let p = and_parts (step_is_scoped bound a) (is_scoped (λ y. binds a y || bound y) (fill c b)) h in
    scoped_there c b (λ y. binds a y || bound y) p.1
scoped_there (InLoop i lo hi c rest) b bound h =
    let p = and_parts (step_is_scoped bound (For i lo hi (fill c b)))
    (is_scoped (λ y. binds (For i lo hi (fill c b)) y || bound y) rest) h in
    let q = and_parts (not (bound i.id))
    (not (in_control (is_not bound) lo || in_control (is_not bound) hi)
    && is_scoped (λ y. (y == i.id) || bound y) (fill c b)) p.0 in
    let r = and_parts (not (in_control (is_not bound) lo || in_control (is_not bound) hi))
    (is_scoped (λ y. (y == i.id) || bound y) (fill c b)) q.1 in
    scoped_there c b (λ y. (y == i.id) || bound y) r.1
scoped_there (InThen t c other rest) b bound h =
    let p = and_parts (step_is_scoped bound (If t (fill c b) other))
    (is_scoped (λ y. binds (If t (fill c b) other) y || bound y) rest) h in
    let q = and_parts (not (in_condition (is_not bound) t))
    (is_scoped bound (fill c b) && is_scoped bound other) p.0 in
    scoped_there c b bound (and_parts (is_scoped bound (fill c b)) (is_scoped bound other) q.1).0
scoped_there (InElse t other c rest) b bound h =
    let p = and_parts (step_is_scoped bound (If t other (fill c b)))
    (is_scoped (λ y. binds (If t other (fill c b)) y || bound y) rest) h in
    let q = and_parts (not (in_condition (is_not bound) t))
    (is_scoped bound other && is_scoped bound (fill c b)) p.0 in
    scoped_there c b bound (and_parts (is_scoped bound other) (is_scoped bound (fill c b)) q.1).1

-- ---- bound or free

parts_free : (c : Context) (bound : ℕ → Bool) (x : ℕ) → bound_at c bound x ≡ false
    → (bound x ≡ false) × (on_way c x ≡ false)
parts_free (Here rest) bound x h = (h, refl)
parts_free (After a c) bound x h =
    let p = parts_free c (λ y. binds a y || bound y) x h in
    let q = or_parts (binds a x) (bound x) p.0 in
    (q.1, both_false (binds a x) (on_way c x) q.0 p.1)
parts_free (InLoop i lo hi c rest) bound x h =
    let p = parts_free c (λ y. (y == i.id) || bound y) x h in
    let q = or_parts (x == i.id) (bound x) p.0 in
    (q.1, both_false (x == i.id) (on_way c x) q.0 p.1)
parts_free (InThen t c other rest) bound x h = parts_free c bound x h
parts_free (InElse t other c rest) bound x h = parts_free c bound x h

not_bound : (c : Context) (bound : ℕ → Bool) (x : ℕ) → bound x ≡ false → on_way c x ≡ false
    → bound_at c bound x ≡ false
not_bound (Here rest) bound x h k = h
not_bound (After a c) bound x h k =
    let p = or_parts (binds a x) (on_way c x) k in
    not_bound c (λ y. binds a y || bound y) x (both_false (binds a x) (bound x) p.0 h) p.1
not_bound (InLoop i lo hi c rest) bound x h k =
    let p = or_parts (x == i.id) (on_way c x) k in
    not_bound c (λ y. (y == i.id) || bound y) x (both_false (x == i.id) (bound x) p.0 h) p.1
not_bound (InThen t c other rest) bound x h k = not_bound c bound x h k
not_bound (InElse t other c rest) bound x h k = not_bound c bound x h k

pub bound_or_free : BoundOrFree
bound_or_free p c x =
    (λ h. parts_free c (is_param p) x h, λ free. not_bound c (is_param p) x free.0 free.1)

-- ---- in scope

other_name : (scope : Scope) (b : Binder) (sort : Sort) (x : ℕ) → (x == b.id) ≡ false
    → sort_in (with_name scope b sort) x ≡ sort_in scope x
other_name scope b sort x h = ap (λ t. cond t (Some sort) (sort_in scope x)) h

after_step : (a : Statement) (scope : Scope) (x : ℕ) → binds a x ≡ false
    → sort_in (scope_after a scope) x ≡ sort_in scope x
after_step (Assign y is e) scope x h = refl
after_step (Reduce y is e) scope x h = refl
after_step (Config f a) scope x h = refl
after_step Pass scope x h = refl
after_step (If c a b) scope x h = refl
after_step (For i lo hi b) scope x h = refl
after_step (Alloc y cell dims memory) scope x h =
    other_name scope y (BufferName cell (length dims) true) x h
after_step (View w y cs) scope x h =
    other_name scope w (view_sort (sort_in scope y) (spans cs)) x h
after_step (Call k args) scope x h = refl

no_param_in_scope : (ps : List Param) (scope : Scope) (x : ℕ) → is_buffer_of x ps ≡ false
    → sort_in (scope_of scope ps) x ≡ sort_in scope x
no_param_in_scope [] scope x h = refl
no_param_in_scope (p ∷ ps) scope x h =
    let q = or_parts (x == p.binder.id) (is_buffer_of x ps) h in
    no_param_in_scope ps (with_name scope p.binder (param_sort p.kind)) x q.1
    ∙ other_name scope p.binder (param_sort p.kind) x q.0

at_hole : (c : Context) (scope : Scope) (x : ℕ) → on_way c x ≡ false
    → sort_in (scope_at c scope) x ≡ sort_in scope x
at_hole (Here rest) scope x h = refl
at_hole (After a c) scope x h =
    let p = or_parts (binds a x) (on_way c x) h in
    at_hole c (scope_after a scope) x p.1 ∙ after_step a scope x p.0
at_hole (InLoop i lo hi c rest) scope x h =
    let p = or_parts (x == i.id) (on_way c x) h in
    at_hole c (with_name scope i (ControlName Index)) x p.1
    ∙ other_name scope i (ControlName Index) x p.0
at_hole (InThen t c other rest) scope x h = at_hole c scope x h
at_hole (InElse t other c rest) scope x h = at_hole c scope x h

pub free_has_no_sort : (p : Procedure) (c : Context) (x : ℕ) → IsFree p c x
    → sort_in (scope_at c (scope_of [] p.params)) x ≡ None
free_has_no_sort p c x free =
    at_hole c (scope_of [] p.params) x free.1 ∙ no_param_in_scope p.params [] x free.0

pub in_scope_is_bound : (p : Procedure) (c : Context) (x : ℕ) (sort : Sort)
    → sort_in (scope_at c (scope_of [] p.params)) x ≡ Some sort → bound_at c (is_param p) x ≡ true
in_scope_is_bound p c x sort h = go (bound_at c (is_param p) x) refl
  where
    none_some : (o : Option Sort) → o ≡ None → o ≡ Some sort → ⊥
    none_some None e k = cc
    none_some (Some s) e k = cc

    go : (t : Bool) → bound_at c (is_param p) x ≡ t → t ≡ true
    go true e = refl
    go false e =
        absurd (none_some (sort_in (scope_at c (scope_of [] p.params)) x)
        (free_has_no_sort p c x (parts_free c (is_param p) x e)) h)

-- the names of what stands at a spot are in scope
pub spot_scoped : (s : Spot) → IsSpot s
    → is_scoped (bound_at (around s) (is_param s.target.proc)) (joined (old s) (rest_of (around s)))
    ≡ true
spot_scoped s is =
    let unit = s.target.unit in
    scoped_there (around s) (old s) (is_param s.target.proc)
    (subst (λ b. is_scoped (is_param s.target.proc) b ≡ true) is.body
    (well_scoped (field_kind unit.fields) (length unit.memories) (callees_for s.target) s.target.proc
    is.runs.procedure).0)

or_assoc : (a b c : Bool) → (a || (b || c)) ≡ ((a || b) || c)
or_assoc true b c = refl
or_assoc false b c = refl

pub joined_has : (a b : Block) (x : ℕ)
    → has_binder (joined a b) x ≡ (has_binder a x || has_binder b x)
joined_has end b x = refl
joined_has (next a c) b x =
    ap (λ t. step_has_binder a x || t) (joined_has c b x)
    ∙ or_assoc (step_has_binder a x) (has_binder c x) (has_binder b x)

pub not_bound_again : NotBoundAgain
not_bound_again s x sort is there =
    let bound = in_scope_is_bound s.target.proc (around s) x sort there in
    let p = or_parts (has_binder (old s) x) (has_binder (rest_of (around s)) x)
    (sym (joined_has (old s) (rest_of (around s)) x)
    ∙ none (has_binder (joined (old s) (rest_of (around s))) x) bound
    (binder_new (bound_at (around s) (is_param s.target.proc)) (joined (old s) (rest_of (around s))) x
    (spot_scoped s is))) in
    record { bound = bound; piece = p.0; behind = p.1 }
  where
    none : (t : Bool) → bound_at (around s) (is_param s.target.proc) x ≡ true
        → (t ≡ true → bound_at (around s) (is_param s.target.proc) x ≡ false) → t ≡ false
    none true bound h = absurd (true≢false (sym bound ∙ h refl))
    none false bound h = refl

-- ---- bound once

distinct_behind : (xs ys : List ℕ) → are_distinct (xs ++ ys) ≡ true → are_distinct ys ≡ true
distinct_behind [] ys h = h
distinct_behind (x ∷ xs) ys h =
    distinct_behind xs ys
    (and_parts (not (list_any (λ y. x == y) (xs ++ ys))) (are_distinct (xs ++ ys)) h).1

any_among : (xs : List ℕ) (x : ℕ) → list_any (λ y. x == y) xs ≡ among xs x
any_among [] x = refl
any_among (y ∷ xs) x = ap (λ t. (x == y) || t) (any_among xs x)

distinct_before : (xs ys : List ℕ) → are_distinct (xs ++ ys) ≡ true → are_distinct xs ≡ true
distinct_before [] ys h = refl
distinct_before (x ∷ xs) ys h =
    let p = and_parts (not (list_any (λ y. x == y) (xs ++ ys))) (are_distinct (xs ++ ys)) h in
    let q = or_parts (among xs x) (among ys x)
    (sym (among_both xs ys x) ∙ sym (any_among (xs ++ ys) x)
    ∙ not_true (list_any (λ y. x == y) (xs ++ ys)) p.0) in
    ap₂ (λ s t. not s && t) (any_among xs x ∙ q.0) (distinct_before xs ys p.1)

-- what is in the first part is not in the second
apart : (xs ys : List ℕ) (x : ℕ) → are_distinct (xs ++ ys) ≡ true → among xs x ≡ true
    → among ys x ≡ false
apart [] ys x h k = absurd (true≢false (sym k))
apart (i ∷ xs) ys x h k =
    let p = and_parts (not (list_any (λ y. i == y) (xs ++ ys))) (are_distinct (xs ++ ys)) h in
    let q = or_parts (among xs i) (among ys i)
    (sym (among_both xs ys i) ∙ sym (any_among (xs ++ ys) i)
    ∙ not_true (list_any (λ y. i == y) (xs ++ ys)) p.0) in
    or_elim (x == i) (among xs x) k (λ e. ap (among ys) (eqb-true x i e) ∙ q.1) (apart xs ys x p.1)

joined_ids : (a b : Block) → binders (joined a b) ≡ (binders a ++ binders b)
joined_ids end b = refl
joined_ids (next s a) b =
    ap (λ xs. binders_below s ++ xs) (joined_ids a b)
    ∙ sym (append_assoc (binders_below s) (binders a) (binders b))

distinct_there : (c : Context) (b : Block) → are_distinct (binders (fill c b)) ≡ true
    → are_distinct (binders (joined b (rest_of c))) ≡ true
distinct_there (Here rest) b h = h
distinct_there (After a c) b h =
    distinct_there c b (distinct_behind (binders_below a) (binders (fill c b)) h)
distinct_there (InLoop i lo hi c rest) b h =
    distinct_there c b
    (distinct_behind (i.id ∷ []) (binders (fill c b))
    (distinct_before (i.id ∷ binders (fill c b)) (binders rest) h))
distinct_there (InThen t c other rest) b h =
    distinct_there c b
    (distinct_before (binders (fill c b)) (binders other)
    (distinct_before (binders (fill c b) ++ binders other) (binders rest) h))
distinct_there (InElse t other c rest) b h =
    distinct_there c b
    (distinct_behind (binders other) (binders (fill c b))
    (distinct_before (binders other ++ binders (fill c b)) (binders rest) h))

pub bound_once : BoundOnce
bound_once s x is has =
    let p = s.target.proc in
    let rest = rest_of (around s) in
    let distinct : are_distinct (binders p.body) ≡ true =
    distinct_behind (map (λ q. q.binder.id) p.params) (binders p.body) is.runs.procedure.distinct in
    let there : are_distinct (binders (joined (old s) rest)) ≡ true =
    distinct_there (around s) (old s) (subst (λ b. are_distinct (binders b) ≡ true) is.body distinct) in
    sym (block_among rest x)
    ∙ apart (binders (old s)) (binders rest) x
    (subst (λ xs. are_distinct xs ≡ true) (joined_ids (old s) rest) there)
    (block_among (old s) x ∙ has)
