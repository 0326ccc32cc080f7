-- What names stand for in a scope whose ids are others.
use Rattle.std.proofs.Common.{◌≡◌, ℕ, ◌==◌, Bool, true, false, not, ◌&&◌, ◌||◌, if◌then◌else◌, List, [], ◌∷◌, map, Option, Some, None, refl, sym, ap, ap₂, ◌∙◌, true≢false, eqb-true}
use Rattle.std.specs.List.{list_any}
use Rattle.std.specs.Option.{is_some}
use Rattle.std.proofs.lemmas.Slice.Eq.{bytes_eq-Decides}
use Rattle.exo_tree.specs.Tree.{Binder}
use Rattle.exo_meaning.specs.Units.{Named, Scope, Sort, sort_in, is_text, is_new, with_name}
use Rattle.exo_meaning.specs.Renaming.{Renaming, re_binder}
use Rattle.text_show.specs.Words.{Words}
use Rattle.rules_names.specs.Names.{named_in, sort_of, id_in, id_of}
use Rattle.exo_types.specs.TypeRules.{is_taken}

pub three : {A B C D : Type 0} {a p : A} {b q : B} {c s : C} (f : A → B → C → D) → a ≡ p → b ≡ q → c ≡ s → f a b c ≡ f p q s
three {p = p} {b = b} {c = c} f x y z = ap (λ t. f t b c) x ∙ ap₂ (λ t u. f p t u) y z

pub four : {A B C D E : Type 0} {a p : A} {b q : B} {c s : C} {d t : D} (f : A → B → C → D → E) → a ≡ p → b ≡ q → c ≡ s → d ≡ t → f a b c d ≡ f p q s t
four {p = p} {q = q} {c = c} {d = d} f w x y z = ap₂ (λ t u. f t u c d) w x ∙ ap₂ (λ t u. f p q t u) y z

pub both : (a b : Bool) → (a && b) ≡ true → (a ≡ true) × (b ≡ true)
both true b h = (refl, h)
both false b h = cc

pub neither : (a b : Bool) → (a || b) ≡ false → (a ≡ false) × (b ≡ false)
neither false b h = (refl, h)
neither true b h = cc

pub denied : (a : Bool) → not a ≡ true → a ≡ false
denied true h = cc
denied false h = refl

pub same_text : (x y : List ℕ) → is_text x y ≡ true → x ≡ y
same_text x y h = (bytes_eq-Decides x y).0 h

pub text_same : (x : List ℕ) → is_text x x ≡ true
text_same x = (bytes_eq-Decides x x).1 refl

-- two texts differ each way round
pub other_turned : (x y : List ℕ) → is_text x y ≡ false → is_text y x ≡ false
other_turned x y h = by (is_text y x) refl
  where
    by : (t : Bool) → is_text y x ≡ t → is_text y x ≡ false
    by true p = absurd (true≢false (sym (text_same x) ∙ ap (is_text x) (sym (same_text y x p)) ∙ h))
    by false p = p

-- ---- scopes

-- the same names under other ids
abbrev pub re_named : Renaming → Named → Named
re_named r n = record { binder = re_binder r n.binder; sort = n.sort }

abbrev pub re_scope : Renaming → Scope → Scope
re_scope r scope = map (re_named r) scope

-- what is in scope is found by the name that its id has
pub record Finds (w : Words) (r : Renaming) (scope : Scope) : Type 0 where
  pub found : (x : ℕ) (sort : Sort) → sort_in scope x ≡ Some sort → named_in (re_scope r scope) (w.name x) ≡ Some (record { binder = record { id = r.to x; name = w.name x }; sort = sort })

nothing_found : (r : Renaming) (scope : Scope) (b : Binder) → list_any (λ n. (b.id == n.binder.id) || is_text b.name n.binder.name) scope ≡ false → named_in (re_scope r scope) b.name ≡ None
nothing_found r [] b h = refl
nothing_found r (n ∷ scope) b h =
    let s = neither ((b.id == n.binder.id) || is_text b.name n.binder.name) _ h in
    let d = other_turned b.name n.binder.name (neither (b.id == n.binder.id) _ s.0).1 in
    ap (λ t. if t then Some (re_named r n) else named_in (re_scope r scope) b.name) d ∙ nothing_found r scope b s.1

pub new_name : (r : Renaming) (scope : Scope) (b : Binder) → is_new scope b ≡ true → named_in (re_scope r scope) b.name ≡ None
new_name r scope b h = nothing_found r scope b (denied _ h)

pub not_taken : (r : Renaming) (scope : Scope) (b : Binder) → is_new scope b ≡ true → is_taken (re_scope r scope) b.name ≡ false
not_taken r scope b h = ap is_some (new_name r scope b h)

abbrev entry : Words → Renaming → ℕ → Sort → Named
entry w r x s = record { binder = record { id = r.to x; name = w.name x }; sort = s }

pub finds_more : (w : Words) (r : Renaming) (scope : Scope) (b : Binder) (sort : Sort) → Finds w r scope → is_new scope b ≡ true → w.name b.id ≡ b.name → Finds w r (with_name scope b sort)
finds_more w r scope b sort finds new same = record { found = λ x s p. by x s (x == b.id) refl p }
  where
    other : (x : ℕ) (s : Sort) (t : Bool) → is_text b.name (w.name x) ≡ t → named_in (re_scope r scope) (w.name x) ≡ Some (entry w r x s) → (if t then Some (re_named r (record { binder = b; sort = sort })) else named_in (re_scope r scope) (w.name x)) ≡ Some (entry w r x s)
    other x s false q p = p
    other x s true q p =
        let none : named_in (re_scope r scope) (w.name x) ≡ None = ap (named_in (re_scope r scope)) (sym (same_text b.name (w.name x) q)) ∙ new_name r scope b new in
        cc

    by : (x : ℕ) (s : Sort) (t : Bool) → (x == b.id) ≡ t → (if t then Some sort else sort_in scope x) ≡ Some s → named_in (re_scope r (with_name scope b sort)) (w.name x) ≡ Some (entry w r x s)
    by x s true q p =
        let e : x ≡ b.id = eqb-true x b.id q in
        let n : w.name x ≡ b.name = ap w.name e ∙ same in
        let hit : is_text b.name (w.name x) ≡ true = ap (is_text b.name) n ∙ text_same b.name in
        let sorts : sort ≡ s = cc in
        ap (λ t. if t then Some (re_named r (record { binder = b; sort = sort })) else named_in (re_scope r scope) (w.name x)) hit
        ∙ cc
    by x s false q p = other x s (is_text b.name (w.name x)) refl (finds.found x s p)

pub finds_nothing : (w : Words) (r : Renaming) → Finds w r []
finds_nothing w r = record { found = λ x s p. cc }

-- ---- what is read off

module _ (w : Words) (r : Renaming) (scope : Scope) (finds : Finds w r scope) where
  pub id_found : (x : ℕ) (test : Option Sort → Bool) → test None ≡ false → test (sort_in scope x) ≡ true → id_in (re_scope r scope) (w.name x) ≡ r.to x
  id_found x test absent h = by (sort_in scope x) refl h
    where
      by : (o : Option Sort) → sort_in scope x ≡ o → test o ≡ true → id_in (re_scope r scope) (w.name x) ≡ r.to x
      by None p t = absurd (true≢false (sym t ∙ absent))
      by (Some s) p t = ap id_of (finds.found x s p)

  pub sort_found : (x : ℕ) (test : Option Sort → Bool) → test None ≡ false → test (sort_in scope x) ≡ true → sort_of (named_in (re_scope r scope) (w.name x)) ≡ sort_in scope x
  sort_found x test absent h = by (sort_in scope x) refl h
    where
      by : (o : Option Sort) → sort_in scope x ≡ o → test o ≡ true → sort_of (named_in (re_scope r scope) (w.name x)) ≡ o
      by None p t = absurd (true≢false (sym t ∙ absent))
      by (Some s) p t = ap sort_of (finds.found x s p)
