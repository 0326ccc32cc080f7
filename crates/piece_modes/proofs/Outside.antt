-- Names from outside are among all that a procedure binds.
use Rattle.std.proofs.Common.{◌≡◌, ℕ, ◌++◌, ◌||◌, ◌&&◌, ◌==◌, Bool, true, false, List, [], ◌∷◌, Option, Some, None, map, refl, sym, ap, ap₂, ◌∙◌, eqb-true, rules}
use Rattle.std.proofs.Math.Bool.{or_assoc}
use Rattle.std.proofs.lemmas.Bool.{false≢true}
use Rattle.std.proofs.lemmas.List.Folds.{list_any-append}
use Rattle.std.specs.List.{list_any}
use Rattle.exo_tree.specs.Tree.{Statement, Assign, Reduce, Config, Pass, If, For, Alloc, View, Call, Block, Param, Procedure, Program}
use Rattle.exo_tree.specs.Context.{Context, Here, After, InLoop, InThen, InElse, fill}
use Rattle.exo_tree.specs.Places.{Path, Opened, opened}
use Rattle.exo_tree.proofs.Heights.{opened_whole}
use Rattle.exo_meaning.specs.Binders.{binders, step_binders}
use Rattle.exo_meaning.specs.Inputs.{is_buffer_of}
use Rattle.exo_meaning.specs.Run.{roots_after}
use Rattle.exo_meaning.specs.Units.{bound_ids}
use Rattle.meaning_laws.specs.Sound.{binds, on_way}
use Rattle.exo_modes.specs.Aliases.{roots_in}
use Rattle.exo_modes.specs.declared.aliases.Alias.{Alias}
use Rattle.place_laws.specs.Scope.Holes.{roots_at}
use Rattle.place_laws.specs.Order.RemoveLoop.{is_outside}
use Rattle.piece_modes.specs.Own.{looks_back, sees_own_root}
use Rattle.piece_modes.specs.Way.{Way, passed, led, at_start, around_of, way_to}

or_false : (t : Bool) → t ≡ (t || false)
or_false true = refl
or_false false = refl

or_left : (s t : Bool) → s ≡ true → (s || t) ≡ true
or_left s t h = ap (λ b. b || t) h

or_right : (s t : Bool) → t ≡ true → (s || t) ≡ true
or_right true t h = refl
or_right false t h = h

-- one of two holds
by_either : {P : Type 0} (s t : Bool) → (s || t) ≡ true → (s ≡ true → P) → (t ≡ true → P) → P
by_either true t h f g = f refl
by_either false t h f g = g h

both_hold : (s t : Bool) → (s && t) ≡ true → (s ≡ true) × (t ≡ true)
both_hold true t h = (refl, h)
both_hold false t h = absurd (false≢true h)

same_truth : (s t : Bool) → (s ≡ true → t ≡ true) → (t ≡ true → s ≡ true) → s ≡ t
same_truth true t f g = sym (f refl)
same_truth false true f g = g refl
same_truth false false f g = refl

-- ---- what is known at a hole

after_statement : (a : Statement) (w : Way) → (passed a w).roots ≡ roots_after a w.roots
after_statement (Assign x is e) w = refl
after_statement (Reduce x is e) w = refl
after_statement (Config f a) w = refl
after_statement Pass w = refl
after_statement (If c a b) w = refl
after_statement (For i lo hi b) w = refl
after_statement (Alloc x cell dims memory) w = refl
after_statement (View v x coords) w = refl
after_statement (Call k args) w = refl

more_bound : (a : Statement) (w : Way) (y : ℕ) → (passed a w).bound y ≡ (w.bound y || binds a y)
more_bound (Assign x is e) w y = or_false (w.bound y)
more_bound (Reduce x is e) w y = or_false (w.bound y)
more_bound (Config f a) w y = or_false (w.bound y)
more_bound Pass w y = or_false (w.bound y)
more_bound (If c a b) w y = or_false (w.bound y)
more_bound (For i lo hi b) w y = or_false (w.bound y)
more_bound (Alloc x cell dims memory) w y = refl
more_bound (View v x coords) w y = refl
more_bound (Call k args) w y = or_false (w.bound y)

pub led_roots : (c : Context) (w : Way) → (led c w).roots ≡ roots_at c w.roots
led_roots (Here rest) w = refl
led_roots (After a c) w = led_roots c (passed a w) ∙ ap (roots_at c) (after_statement a w)
led_roots (InLoop i lo hi c rest) w = led_roots c _
led_roots (InThen t c other rest) w = led_roots c w
led_roots (InElse t other c rest) w = led_roots c w

pub led_bound : (c : Context) (w : Way) (y : ℕ) → (led c w).bound y ≡ (w.bound y || on_way c y)
led_bound (Here rest) w y = or_false (w.bound y)
led_bound (After a c) w y =
    led_bound c (passed a w) y ∙ ap (λ t. t || on_way c y) (more_bound a w y)
    ∙ or_assoc (w.bound y) (binds a y) (on_way c y)
led_bound (InLoop i lo hi c rest) w y =
    led_bound c _ y ∙ or_assoc (w.bound y) (y == i.id) (on_way c y)
led_bound (InThen t c other rest) w y = led_bound c w y
led_bound (InElse t other c rest) w y = led_bound c w y

-- ---- a name from outside is bound

abbrev is_in : ℕ → List ℕ → Bool
is_in y xs = list_any (λ x. y == x) xs

in_left : (y : ℕ) (xs ys : List ℕ) → is_in y xs ≡ true → is_in y (xs ++ ys) ≡ true
in_left y xs ys h = list_any-append (λ x. y == x) xs ys ∙ or_left (is_in y xs) (is_in y ys) h

in_right : (y : ℕ) (xs ys : List ℕ) → is_in y ys ≡ true → is_in y (xs ++ ys) ≡ true
in_right y xs ys h = list_any-append (λ x. y == x) xs ys ∙ or_right (is_in y xs) (is_in y ys) h

in_statement : (a : Statement) (y : ℕ) → binds a y ≡ true → is_in y (step_binders a) ≡ true
in_statement (Assign x is e) y h = absurd (false≢true h)
in_statement (Reduce x is e) y h = absurd (false≢true h)
in_statement (Config f a) y h = absurd (false≢true h)
in_statement Pass y h = absurd (false≢true h)
in_statement (If c a b) y h = absurd (false≢true h)
in_statement (For i lo hi b) y h = absurd (false≢true h)
in_statement (Alloc x cell dims memory) y h = or_left (y == x.id) false h
in_statement (View v x coords) y h = or_left (y == v.id) false h
in_statement (Call k args) y h = absurd (false≢true h)

module _ (b : Block) (y : ℕ) where
  way_in_body : (c : Context) → on_way c y ≡ true → is_in y (binders (fill c b)) ≡ true
  way_in_body (Here rest) h = absurd (false≢true h)
  way_in_body (After a c) h =
      by_either (binds a y) (on_way c y) h
      (λ k. in_left y (step_binders a) (binders (fill c b)) (in_statement a y k))
      (λ k. in_right y (step_binders a) (binders (fill c b)) (way_in_body c k))
  way_in_body (InLoop i lo hi c rest) h =
      in_left y (i.id ∷ binders (fill c b)) (binders rest)
      (by_either (y == i.id) (on_way c y) h
      (λ k. or_left (y == i.id) (is_in y (binders (fill c b))) k)
      (λ k. or_right (y == i.id) (is_in y (binders (fill c b))) (way_in_body c k)))
  way_in_body (InThen t c other rest) h =
      in_left y (binders (fill c b) ++ binders other) (binders rest)
      (in_left y (binders (fill c b)) (binders other) (way_in_body c h))
  way_in_body (InElse t other c rest) h =
      in_left y (binders other ++ binders (fill c b)) (binders rest)
      (in_right y (binders other) (binders (fill c b)) (way_in_body c h))

params_in : (ps : List Param) (y : ℕ) → is_buffer_of y ps ≡ is_in y (map (λ (q : Param). q.binder.id) ps)
params_in [] y = refl
params_in (p ∷ ps) y = ap (λ t. (y == p.binder.id) || t) (params_in ps y)

way_among : (p : Procedure) (y : ℕ) (o : Option Opened) → ((q : Opened) → o ≡ Some q → fill q.around q.piece ≡ p.body)
    → on_way (around_of o) y ≡ true → is_in y (binders p.body) ≡ true
way_among p y None whole h = absurd (false≢true h)
way_among p y (Some q) whole h = ap (λ b. is_in y (binders b)) (sym (whole q refl)) ∙ way_in_body q.piece y q.around h

module _ (count : ℕ) (path : Path) (p : Procedure) (y : ℕ) where
  abbrev around : Context
  around = around_of (opened count path p.body)

  outside_is : (way_to count path p).bound y ≡ is_outside p around y
  outside_is = led_bound around (at_start p.params) y

  outside_among : is_outside p around y ≡ true → is_in y (bound_ids p) ≡ true
  outside_among h =
      let ids = map (λ (q : Param). q.binder.id) p.params in
      by_either (is_buffer_of y p.params) (on_way around y) h
      (λ k. in_left y ids (binders p.body) (sym (params_in p.params y) ∙ k))
      (λ k. in_right y ids (binders p.body) (way_among p y (opened count path p.body) (opened_whole count path p.body) k))

-- the start of a body
pub start_is : (ps : List Param) (aliases : List Alias) (names : List ℕ) → aliases ≡ []
    → names ≡ map (λ (q : Param). q.binder.id) ps
    → record { roots = roots_in aliases; bound = λ y. list_any (λ x. y == x) names } ≡ at_start ps
start_is ps aliases names e h = λ i. record {
  roots = roots_in (e i);
  bound = λ y. (ap (is_in y) h ∙ sym (params_in ps y)) i;
}

-- ---- names of two lists that pass a test

found_in : (f : ℕ → Bool) (xs : List ℕ) (x : ℕ) → is_in x xs ≡ true → f x ≡ true → list_any f xs ≡ true
found_in f [] x h k = absurd (false≢true h)
found_in f (z ∷ xs) x h k =
    by_either (x == z) (is_in x xs) h
    (λ e. or_left (f z) (list_any f xs) (ap f (sym (eqb-true x z e)) ∙ k))
    (λ e. or_right (f z) (list_any f xs) (found_in f xs x e k))

same_number : (x : ℕ) → (x == x) ≡ true
same_number x = search rules

witness : (f : ℕ → Bool) (xs : List ℕ) → list_any f xs ≡ true → (x : ℕ) × (is_in x xs ≡ true) × (f x ≡ true)
witness f [] h = absurd (false≢true h)
witness f (z ∷ xs) h =
    by_either (f z) (list_any f xs) h
    (λ e. (z, or_left (z == z) (is_in z xs) (same_number z), e))
    (λ e. let w = witness f xs e in (w.0, or_right (w.0 == z) (is_in w.0 xs) w.1, w.2))

-- one of the names passes the test just where one of all does that is among them
any_among : (f : ℕ → Bool) (names ids : List ℕ) (outside : ℕ → Bool)
    → ((y : ℕ) → is_in y names ≡ outside y)
    → ((y : ℕ) → outside y ≡ true → is_in y ids ≡ true)
    → list_any f names ≡ list_any (λ y. outside y && f y) ids
any_among f names ids outside same among =
    same_truth (list_any f names) (list_any (λ y. outside y && f y) ids)
    (λ h.
    let w = witness f names h in
    let out = sym (same w.0) ∙ w.1 in
    found_in (λ y. outside y && f y) ids w.0 (among w.0 out) (ap₂ ◌&&◌ out w.2))
    (λ h.
    let w = witness (λ y. outside y && f y) ids h in
    let both = both_hold (outside w.0) (f w.0) w.2 in
    found_in f names w.0 (same w.0 ∙ both.0) both.1)

-- what is asked of the names on the way is asked of all from outside
pub asked_outside : (count : ℕ) (path : Path) (p : Procedure) (names : List ℕ) (f : ℕ → Bool)
    → ((y : ℕ) → is_in y names ≡ (way_to count path p).bound y)
    → list_any f names ≡ list_any (λ y. is_outside p (around_of (opened count path p.body)) y && f y) (bound_ids p)
asked_outside count path p names f same =
    any_among f names (bound_ids p) (is_outside p (around count path p 0))
    (λ y. same y ∙ outside_is count path p y)
    (outside_among count path p)

-- so a block sees its own roots just where it looks back at one of these names
pub seen_outside : (u : Program) (p : Procedure) (count : ℕ) (path : Path) (b : Block) (names : List ℕ) (roots : ℕ → ℕ)
    → record { roots = roots; bound = λ y. list_any (λ x. y == x) names } ≡ way_to count path p
    → list_any (looks_back u roots b) names ≡ sees_own_root u p (around_of (opened count path p.body)) b
seen_outside u p count path b names roots e =
    let c = around_of (opened count path p.body) in
    asked_outside count path p names (looks_back u roots b) (λ y. ap (λ (w : Way). w.bound y) e)
    ∙ ap (λ (r : ℕ → ℕ). list_any (λ y. is_outside p c y && looks_back u r b y) (bound_ids p))
    (ap (λ (w : Way). w.roots) e ∙ led_roots c (at_start p.params))
