-- Turns in another order.
use Rattle.std.proofs.Common.{◌≡◌, ◌<ℤ◌, List, [], ◌∷◌, ◌++◌, Option, Some, None, IfSome, refl, sym, ap, ◌∙◌}
use Rattle.exo_meaning.specs.Scene.{then_do}
use Rattle.exo_meaning.specs.State.{State}
use Rattle.exo_meaning.specs.Run.{turns}
use Rattle.exo_meaning.specs.Orders.{Reorders, same, exchange, below, on, Exchange, Stays, row, column, by_rows, by_columns, Each, Ascends, Crosses, HasScene, NestsReorder}
use Rattle.exo_meaning.proofs.Compose.{then_assoc}

then_cong_if : {A B : Type 0} (P : A → Type 0) (o : Option A) (f g : A → Option B) → IfSome o P → ((a : A) → P a → f a ≡ g a) → then_do o f ≡ then_do o g
then_cong_if P None f g h k = refl
then_cong_if P (Some a) f g h k = k a h

module _ {T : Type 0} (May : T → T → Type 0) (Good : State → Type 0) (go : T → State → Option State) (stays : Stays Good go) (commute : (a b : T) → May a b → Exchange Good go a b) where
  pub turns_reorder : (xs ys : List T) → Reorders May xs ys → (s : State) → Good s → turns go xs s ≡ turns go ys s
  turns_reorder xs _ same s h = refl
  turns_reorder _ _ (exchange {a = a} {b = b} {xs = xs} m) s h =
      sym (then_assoc (go a s) (go b) (turns go xs)) ∙ ap (λ o. then_do o (turns go xs)) (commute a b m s h) ∙ then_assoc (go b s) (go a) (turns go xs)
  turns_reorder _ _ (below {a = a} {xs = xs} {ys = ys} r) s h = then_cong_if Good (go a s) (turns go xs) (turns go ys) (stays a s h) (turns_reorder xs ys r)
  turns_reorder xs zs (on {ys = ys} r q) s h = turns_reorder xs ys r s h ∙ turns_reorder ys zs q s h

-- ---- rows and columns

module _ {T : Type 0} (May : T → T → Type 0) where
  prefixed : (xs : List T) (ys zs : List T) → Reorders May ys zs → Reorders May (xs ++ ys) (xs ++ zs)
  prefixed [] ys zs r = r
  prefixed (x ∷ xs) ys zs r = below (prefixed xs ys zs r)

  -- one element goes behind a list
  behind : (a : T) (ys zs : List T) → Each (May a) ys → Reorders May (a ∷ (ys ++ zs)) (ys ++ (a ∷ zs))
  behind a [] zs h = same
  behind a (y ∷ ys) zs h = on (exchange h.0) (below (behind a ys zs h.1))

  -- one list goes behind another
  lists_exchange : (xs ys zs : List T) → Each (λ x. Each (May x) ys) xs → Reorders May (xs ++ (ys ++ zs)) (ys ++ (xs ++ zs))
  lists_exchange [] ys zs h = same
  lists_exchange (x ∷ xs) ys zs h = on (below (lists_exchange xs ys zs h.1)) (behind x ys (xs ++ zs) h.0)

module _ {A B : Type 0} (R : A → A → Type 0) (S : B → B → Type 0) where
  crosses_column : (i : A) (j k : B) (is : List A) → Each (R i) is → S j k → Each (λ q. Crosses R S (i, k) q) (column is j)
  crosses_column i j k [] h s = tt
  crosses_column i j k (x ∷ is) h s = ((h.0, s), crosses_column i j k is h.1 s)

  row_crosses : (i : A) (j : B) (is : List A) (js : List B) → Each (R i) is → Each (S j) js → Each (λ p. Each (Crosses R S p) (column is j)) (row i js)
  row_crosses i j is [] h s = tt
  row_crosses i j is (k ∷ js) h s = (crosses_column i j k is h s.0, row_crosses i j is js h s.1)

  first_row : (i : A) (is : List A) (js : List B) → Each (R i) is → Ascends S js → Reorders (Crosses R S) (row i js ++ by_columns is js) (by_columns (i ∷ is) js)
  first_row i is [] h s = same
  first_row i is (j ∷ js) h s =
      below (on (lists_exchange (Crosses R S) (row i js) (column is j) (by_columns is js) (row_crosses i j is js h s.0)) (prefixed (Crosses R S) (column is j) (row i js ++ by_columns is js) (by_columns (i ∷ is) js) (first_row i is js h s.1)))

  no_columns : (js : List B) → Reorders (Crosses R S) [] (by_columns [] js)
  no_columns [] = same
  no_columns (j ∷ js) = no_columns js

  pub transposed : (is : List A) (js : List B) → Ascends R is → Ascends S js → Reorders (Crosses R S) (by_rows is js) (by_columns is js)
  transposed [] js h s = no_columns js
  transposed (i ∷ is) js h s = on (prefixed (Crosses R S) (row i js) (by_rows is js) (by_columns is js) (transposed is js h.1 s)) (first_row i is js h.0 s)

pub nests_reorder : NestsReorder
nests_reorder scene go rows columns stays commute h k = turns_reorder (Crosses ◌<ℤ◌ ◌<ℤ◌) (HasScene scene) go stays commute (by_rows rows columns) (by_columns rows columns) (transposed ◌<ℤ◌ ◌<ℤ◌ rows columns h k)
