-- What is bound in a well-formed procedure is new to the names in scope, whatever sorts they are told as.
use Rattle.std.proofs.Common.{◌≡◌, ℕ, ◌==◌, Bool, true, false, not, ◌&&◌, ◌||◌, List, [], ◌∷◌, map, Option, Some, None, if◌then◌else◌, refl, sym, ap, ◌∙◌, true≢false}
use Rattle.std.specs.Str.{bytes_eq}
use Rattle.std.specs.List.{list_any}
use Rattle.std.proofs.lemmas.Slice.Eq.{bytes_eq-Decides}
use Rattle.exo_tree.specs.Tree.{Kind, Binder, Statement, Assign, Reduce, Config, Pass, If, For, Alloc, View, Call, Block, end, next, Param}
use Rattle.exo_meaning.specs.Calls.{Callee}
use Rattle.exo_meaning.specs.Run.{roots_after}
use Rattle.exo_meaning.specs.Units.{Named, Scope, is_text, is_new, scope_after, is_param_kind, are_params, scope_of, is_condition, is_short, is_empty, is_control, is_block, is_statement, plainly, with_fields}
use Rattle.rules_names.specs.Names.{named_in}
use Rattle.rules_names.specs.Scopes.PlaceScope.{naming, naming_params, naming_after}
use Rattle.rules_names.specs.Scopes.NewNames.{params_are_new, binds_new, step_binds_new}

pub both : (a b : Bool) → (a && b) ≡ true → (a ≡ true) × (b ≡ true)
both true b h = (refl, h)
both false b h = absurd (true≢false (sym h))

pub joined : (a b : Bool) → a ≡ true → b ≡ true → (a && b) ≡ true
joined a b p q = ap (λ t. t && b) p ∙ q

not_or : (a b : Bool) → not (a || b) ≡ true → (a ≡ false) × (b ≡ false)
not_or false false h = (refl, refl)
not_or false true h = absurd (true≢false (sym h))
not_or true b h = absurd (true≢false (sym h))

neither : (a b : Bool) → (a || b) ≡ false → b ≡ false
neither true b h = absurd (true≢false h)
neither false b h = h

-- two texts are the same each way round, or not
turned : (x y : List ℕ) → is_text x y ≡ false → is_text y x ≡ false
turned x y h = by (bytes_eq y x) refl
  where
    by : (t : Bool) → bytes_eq y x ≡ t → bytes_eq y x ≡ false
    by true p = absurd (true≢false (sym ((bytes_eq-Decides x y).1 (sym ((bytes_eq-Decides y x).0 p))) ∙ h))
    by false p = p

-- what is new has no name in scope
pub nothing_named : (scope : Scope) (x : Binder) → is_new scope x ≡ true → named_in scope x.name ≡ None
nothing_named [] x h = refl
nothing_named (n ∷ scope) x h =
    let test = λ (m : Named). (x.id == m.binder.id) || is_text x.name m.binder.name in
    let s = not_or (test n) (list_any test scope) h in
    let here = turned x.name n.binder.name (neither (x.id == n.binder.id) (is_text x.name n.binder.name) s.0) in
    ap (λ t. if t then Some n else named_in scope x.name) here ∙ nothing_named scope x (ap not s.1)

-- the same binders
abbrev pub binders_in : Scope → List Binder
binders_in scope = map (λ n. n.binder) scope

any_binder : (f : Binder → Bool) (scope : Scope) → list_any (λ n. f n.binder) scope ≡ list_any f (binders_in scope)
any_binder f [] = refl
any_binder f (n ∷ scope) = ap (λ t. f n.binder || t) (any_binder f scope)

same_new : (a b : Scope) (x : Binder) → binders_in a ≡ binders_in b → is_new a x ≡ is_new b x
same_new a b x h =
    let f = λ (y : Binder). (x.id == y.id) || is_text x.name y.name in
    ap not (any_binder f a ∙ ap (list_any f) h ∙ sym (any_binder f b))

new_too : (a b : Scope) (x : Binder) → binders_in a ≡ binders_in b → is_new a x ≡ true → is_new b x ≡ true
new_too a b x h n = sym (same_new a b x h) ∙ n

-- behind a statement the binders are the same too
pub same_after : (s : Statement) (a b : Scope) → binders_in a ≡ binders_in b → binders_in (scope_after s a) ≡ binders_in (naming_after s b)
same_after (Assign x is e) a b h = h
same_after (Reduce x is e) a b h = h
same_after (Config f e) a b h = h
same_after Pass a b h = h
same_after (If c d e) a b h = h
same_after (For i lo hi d) a b h = h
same_after (Alloc x cell dims memory) a b h = ap (λ r. x ∷ r) h
same_after (View w x coords) a b h = ap (λ r. w ∷ r) h
same_after (Call k args) a b h = h

module _ (fields : ℕ → Option Kind) (memories : ℕ) (callees : ℕ → Option Callee) where
  mutual
    block_is_new : (b : Block) (root : ℕ → ℕ) (real told : Scope) → binders_in real ≡ binders_in told → is_block fields memories callees real root b ≡ true → binds_new told b ≡ true
    block_is_new end root real told h k = refl
    block_is_new (next a b) root real told h k =
        let s = both (is_statement fields memories callees real root a) (is_block fields memories callees (scope_after a real) (roots_after a root) b) k in
        joined _ _ (step_is_new a root real told h s.0) (block_is_new b (roots_after a root) (scope_after a real) (naming_after a told) (same_after a real told h) s.1)

    step_is_new : (s : Statement) (root : ℕ → ℕ) (real told : Scope) → binders_in real ≡ binders_in told → is_statement fields memories callees real root s ≡ true → step_binds_new told s ≡ true
    step_is_new (Assign x is e) root real told h k = refl
    step_is_new (Reduce x is e) root real told h k = refl
    step_is_new (Config f e) root real told h k = refl
    step_is_new Pass root real told h k = refl
    step_is_new (If c a b) root real told h k =
        let p = both (is_condition fields with_fields real c) _ k in
        let q = both (not (is_empty a) && (is_short a && is_short b)) (is_block fields memories callees real root a && is_block fields memories callees real root b) p.1 in
        let r = both (is_block fields memories callees real root a) (is_block fields memories callees real root b) q.1 in
        joined _ _ (block_is_new a root real told h r.0) (block_is_new b root real told h r.1)
    step_is_new (For i lo hi b) root real told h k =
        let p = both (is_new real i) _ k in
        let q = both (is_control fields plainly real lo && is_control fields plainly real hi) _ p.1 in
        let r = both (not (is_empty b) && is_short b) _ q.1 in
        joined _ _ (new_too real told i h p.0) (block_is_new b root _ (naming i told) (ap (λ r. i ∷ r) h) r.1)
    step_is_new (Alloc x cell dims memory) root real told h k = new_too real told x h (both (is_new real x) _ k).0
    step_is_new (View w x coords) root real told h k = new_too real told w h (both (is_new real w) _ k).0
    step_is_new (Call f args) root real told h k = refl

  pub body_is_new : (b : Block) (root : ℕ → ℕ) (real told : Scope) → binders_in real ≡ binders_in told → is_block fields memories callees real root b ≡ true → binds_new told b ≡ true
  body_is_new b root real told h k = block_is_new b root real told h k

  pub params_new : (ps : List Param) (real told : Scope) → binders_in real ≡ binders_in told → are_params fields memories real ps ≡ true → params_are_new told ps ≡ true
  params_new [] real told h k = refl
  params_new (p ∷ ps) real told h k =
      let q = both (is_new real p.binder) _ k in
      let r = both (is_param_kind fields memories real p.kind) _ q.1 in
      joined _ _ (new_too real told p.binder h q.0) (params_new ps _ (naming p.binder told) (ap (λ r. p.binder ∷ r) h) r.1)

pub same_params : (ps : List Param) (real told : Scope) → binders_in real ≡ binders_in told → binders_in (scope_of real ps) ≡ binders_in (naming_params ps told)
same_params [] real told h = h
same_params (p ∷ ps) real told h = same_params ps _ (naming p.binder told) (ap (λ r. p.binder ∷ r) h)
