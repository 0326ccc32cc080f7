-- Lists of cases of the program as plain ones.
use Rattle.std.proofs.Common.{◌≡◌, ℕ, zero, suc, ◌+◌, ◌<◌, List, [], ◌∷◌, ◌++◌, map, length, set, get_or, take, arith, refl, sym, ap, ap₂, ◌∙◌, add-one, append_assoc}
use Rattle.std.proofs.lemmas.List.{append-nil, map-append, take_more}
use Rattle.std.specs.Prelude.{Vec}
use Rattle.affine_forms.specs.Formulas.{Constraint, product}
use Rattle.affine_systems.specs.declared.case.Constraint.{Constraint as RsConstraint}
use Rattle.affine_systems.specs.Systems.{system}
use Rattle.affine_systems.specs.PlainCases.{plain_constraint, plain_cases}
use Rattle.affine_systems.proofs.Products.{product_append, behind, behind_more}

module _ {A : Type 0} where
  pub plain_length : (xs : List (Vec RsConstraint A)) → length (plain_cases xs) ≡ length xs
  plain_length [] = refl
  plain_length (x ∷ xs) = ap suc (plain_length xs)

  pub set_length : (xs : List (Vec RsConstraint A)) (k : ℕ) (v : Vec RsConstraint A) → length (set xs k v) ≡ length xs
  set_length [] k v = refl
  set_length (x ∷ xs) zero v = refl
  set_length (x ∷ xs) (suc k) v = ap suc (set_length xs k v)

  pub plain_append : (xs ys : List (Vec RsConstraint A)) → plain_cases (xs ++ ys) ≡ plain_cases xs ++ plain_cases ys
  plain_append [] ys = refl
  plain_append (x ∷ xs) ys = ap (λ r. map plain_constraint x.items ∷ r) (plain_append xs ys)

  plain_next : (xs : List (Vec RsConstraint A)) (i : ℕ) (v : Vec RsConstraint A) → i < length xs → v ≡ get_or xs i v
      → plain_cases (take (i + 1) xs) ≡ plain_cases (take i xs) ++ map plain_constraint v.items ∷ []
  plain_next xs i v l is =
      ap (λ ks. plain_cases ks) (take_more xs i v l)
      ∙ ap (λ x. plain_cases (take i xs ++ x ∷ [])) (sym is)
      ∙ plain_append (take i xs) (v ∷ [])

  -- the products with one more case
  pub product_next : (xs : List (Vec RsConstraint A)) (i : ℕ) (v : Vec RsConstraint A) (ys : List (List Constraint)) → i < length xs → v ≡ get_or xs i v → product (plain_cases (take i xs)) ys ++ map (λ k. map plain_constraint v.items ++ k) ys ≡ product (plain_cases (take (i + 1) xs)) ys
  product_next xs i v ys l is =
      ap (λ r. product (plain_cases (take i xs)) ys ++ r) (sym (append-nil (map (λ k. map plain_constraint v.items ++ k) ys)))
      ∙ sym (product_append (plain_cases (take i xs)) (map plain_constraint v.items ∷ []) ys)
      ∙ ap (λ ks. product ks ys) (sym (plain_append (take i xs) (v ∷ [])))
      ∙ ap (λ x. product (plain_cases (take i xs ++ x ∷ [])) ys) is
      ∙ ap (λ ks. product (plain_cases ks) ys) (sym (take_more xs i v l))

  plain_set : (xs : List (Vec RsConstraint A)) (k : ℕ) (v : Vec RsConstraint A) → plain_cases (set xs k v) ≡ set (plain_cases xs) k (map plain_constraint v.items)
  plain_set [] k v = refl
  plain_set (x ∷ xs) zero v = refl
  plain_set (x ∷ xs) (suc k) v = ap (λ r. map plain_constraint x.items ∷ r) (plain_set xs k v)

  plain_get : (xs : List (Vec RsConstraint A)) (k : ℕ) (v : Vec RsConstraint A) → k < length xs → v ≡ get_or xs k v → map plain_constraint v.items ≡ get_or (plain_cases xs) k []
  plain_get [] k v l is = absurd (omega arith)
  plain_get (x ∷ xs) zero v l is = ap (λ y. map plain_constraint y.items) is
  plain_get (x ∷ xs) (suc k) v l is = plain_get xs k v (omega arith) is

  pub pushed_behind : (xs : List (Vec RsConstraint A)) (k : ℕ) (old v : Vec RsConstraint A) (d : RsConstraint) (ks : List (List Constraint)) → k < length xs → old ≡ get_or xs k old → v.items ≡ old.items ++ d ∷ [] → plain_cases xs ≡ behind k (plain_constraint d) ks → k < length ks → plain_cases (set xs k v) ≡ behind (k + 1) (plain_constraint d) ks
  pushed_behind xs k old v d ks l is p done m =
      plain_set xs k v
      ∙ ap (λ y. set (plain_cases xs) k y) (ap (map plain_constraint) p ∙ map-append plain_constraint old.items (d ∷ []) ∙ ap (λ y. y ++ plain_constraint d ∷ []) (plain_get xs k old l is))
      ∙ ap (λ zs. set zs k (get_or zs k [] ++ plain_constraint d ∷ [])) done
      ∙ behind_more k (plain_constraint d) ks [] m
      ∙ ap (λ n. behind n (plain_constraint d) ks) (sym (add-one k))

  -- the system of a case stands at its place
  pub system_at : (xs : List (Vec RsConstraint A)) (k : ℕ) (v : Vec RsConstraint A) (css : List (List Constraint)) → k < length xs → v ≡ get_or xs k v → plain_cases xs ≡ css → (k < length (map system css)) × (system (map plain_constraint v.items) ≡ get_or (map system css) k (system (map plain_constraint v.items)))
  system_at [] k v css l is e = absurd (omega arith)
  system_at (x ∷ xs) k v [] l is e = absurd (let n : suc (length (plain_cases xs)) ≡ 0 = ap length e in omega (arith, n))
  system_at (x ∷ xs) zero v (cs ∷ css) l is e = (omega arith, ap (λ y. system (map plain_constraint y.items)) is ∙ ap (λ ks. system (get_or ks 0 [])) e)
  system_at (x ∷ xs) (suc k) v (cs ∷ css) l is e = let r = system_at xs k v css (omega arith) is (ap tail_of e) in (omega (arith, r.0), r.1)
    where
      tail_of : List (List Constraint) → List (List Constraint)
      tail_of [] = []
      tail_of (y ∷ ys) = ys

  -- one more case joined to the case before it
  pub each_next : (case : List RsConstraint) (xs : List (Vec RsConstraint A)) (i : ℕ) (v both : Vec RsConstraint A)
      (made : List (Vec RsConstraint A)) (done : List (List Constraint)) → i < length xs → v ≡ get_or xs i v
      → both.items ≡ case ++ v.items → plain_cases made ≡ done ++ map (λ k. map plain_constraint case ++ k)
      (plain_cases (take i xs)) → plain_cases (made ++ both ∷ []) ≡ done ++ map (λ k. map plain_constraint case ++ k)
      (plain_cases (take (i + 1) xs))
  each_next case xs i v both made done l is b inv =
      plain_append made (both ∷ [])
      ∙ ap₂ (λ a k. a ++ k ∷ []) inv (ap (map plain_constraint) b ∙ map-append plain_constraint case v.items)
      ∙ append_assoc done (map f (plain_cases (take i xs))) (f (map plain_constraint v.items) ∷ [])
      ∙ ap (λ r. done ++ r) (sym (map-append f (plain_cases (take i xs)) (map plain_constraint v.items ∷ []))
      ∙ sym (ap (map f) next))
    where
      f : List Constraint → List Constraint
      f k = map plain_constraint case ++ k

      next : plain_cases (take (i + 1) xs) ≡ plain_cases (take i xs) ++ map plain_constraint v.items ∷ []
      next = plain_next xs i v l is

  -- the systems with that of one more case
  pub systems_next : (xs : List (Vec RsConstraint A)) (i : ℕ) (v : Vec RsConstraint A) → i < length xs
      → v ≡ get_or xs i v → map system (plain_cases (take (i + 1) xs)) ≡ map system
      (plain_cases (take i xs)) ++ system (map plain_constraint v.items) ∷ []
  systems_next xs i v l is =
      ap (map system) (plain_next xs i v l is)
      ∙ map-append system (plain_cases (take i xs)) (map plain_constraint v.items ∷ [])
