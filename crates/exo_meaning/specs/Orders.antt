-- Turns in another order.
use Rattle.std.specs.Prelude.{◌≡◌, ℤ, ◌<ℤ◌, List, [], ◌∷◌, ◌++◌, Option, IfSome}
use Rattle.exo_meaning.specs.Scene.{Scene, then_do}
use Rattle.exo_meaning.specs.State.{State}
use Rattle.exo_meaning.specs.Run.{turns}

-- the second list is the first with neighbours exchanged that may be
pub data Reorders {T : Type 0} (May : T → T → Type 0) : List T → List T → Type 0 where
  same : {xs : List T} → Reorders May xs xs
  exchange : {a b : T} {xs : List T} → May a b → Reorders May (a ∷ b ∷ xs) (b ∷ a ∷ xs)
  below : {a : T} {xs ys : List T} → Reorders May xs ys → Reorders May (a ∷ xs) (a ∷ ys)
  on : {xs ys zs : List T} → Reorders May xs ys → Reorders May ys zs → Reorders May xs zs

-- at each state of a set that the turns keep, a and b may be run in either order
abbrev pub Exchange : {T : Type 0} → (State → Type 0) → (T → State → Option State) → T → T → Type 0
Exchange Good go a b = (s : State) → Good s → then_do (go a s) (go b) ≡ then_do (go b s) (go a)

abbrev pub Stays : {T : Type 0} → (State → Type 0) → (T → State → Option State) → Type 0
Stays {T} Good go = (n : T) (s : State) → Good s → IfSome (go n s) Good

-- pairs, row by row and column by column
abbrev pub row : {A B : Type 0} → A → List B → List (A × B)
row a [] = []
row a (b ∷ bs) = (a, b) ∷ row a bs

abbrev pub column : {A B : Type 0} → List A → B → List (A × B)
column [] b = []
column (a ∷ as') b = (a, b) ∷ column as' b

abbrev pub by_rows : {A B : Type 0} → List A → List B → List (A × B)
by_rows [] bs = []
by_rows (a ∷ as') bs = row a bs ++ by_rows as' bs

abbrev pub by_columns : {A B : Type 0} → List A → List B → List (A × B)
by_columns as' [] = []
by_columns as' (b ∷ bs) = column as' b ++ by_columns as' bs

abbrev pub Each : {T : Type 0} → (T → Type 0) → List T → Type 0
Each P [] = Unit {0}
Each P (x ∷ xs) = P x × Each P xs

-- each element stands in the relation to all that follow it
abbrev pub Ascends : {T : Type 0} → (T → T → Type 0) → List T → Type 0
Ascends R [] = Unit {0}
Ascends R (x ∷ xs) = Each (R x) xs × Ascends R xs

-- the first of the pairs has the lower row and the higher column
abbrev pub Crosses : {A B : Type 0} → (A → A → Type 0) → (B → B → Type 0) → A × B → A × B → Type 0
Crosses R S p q = R p.0 q.0 × S q.1 p.1

-- the names and fields are these
abbrev pub HasScene : Scene → State → Type 0
HasScene scene s = s.scene ≡ scene

-- loops by rows may be run by columns, where the turns leave the names and fields alone and each
-- pair that is exchanged commutes
abbrev pub NestsReorder : Type 0
NestsReorder =
    (scene : Scene) (go : ℤ × ℤ → State → Option State) (rows columns : List ℤ)
    → Stays (HasScene scene) go
    → ((p q : ℤ × ℤ) → Crosses ◌<ℤ◌ ◌<ℤ◌ p q → Exchange (HasScene scene) go p q)
    → Ascends ◌<ℤ◌ rows
    → Ascends ◌<ℤ◌ columns
    → (s : State)
    → s.scene ≡ scene
    → turns go (by_rows rows columns) s ≡ turns go (by_columns rows columns) s
