-- The path of a hole: what is opened at a path has it, and what stands in the hole is opened by it.
use Rattle.std.proofs.Common.{◌≡◌, ◌≤◌, ◌+◌, ℕ, zero, suc, [], ◌∷◌, Option, Some, None, option_map, IfSome}
use Rattle.std.proofs.Common.{refl, ap, ◌∙◌, subst, arith}
use Rattle.exo_tree.specs.Tree.{Binder, Control, Condition, Statement, If, For, Block, end, next}
use Rattle.exo_tree.specs.Context.{Context, Here, After, InLoop, InThen, InElse}
use Rattle.exo_tree.specs.Places.{Branch, Main, Else, Step, Path, Opened, parted, past, into, opened_in, opened}

abbrev pub step_to : Branch → ℕ → Step
step_to branch n = record { branch = branch; index = n }

-- in a block whose first statement has that number
abbrev pub trail : Branch → ℕ → Context → Path
trail branch n (Here rest) = step_to branch n ∷ []
trail branch n (After a c) = trail branch (suc n) c
trail branch n (InLoop i lo hi c rest) = step_to branch n ∷ trail Main zero c
trail branch n (InThen t c other rest) = step_to branch n ∷ trail Main zero c
trail branch n (InElse t other c rest) = step_to branch n ∷ trail Else zero c

-- its first step is into that branch, no earlier
pub record Headed (branch : Branch) (n : ℕ) (path : Path) : Type 0 where
  pub index : ℕ
  pub rest : Path
  pub above : n ≤ index
  pub is : path ≡ step_to branch index ∷ rest

pub not_above : (n : ℕ) → n ≤ n
not_above n = omega arith

pub just_above : (n m : ℕ) → suc n ≤ m → n ≤ m
just_above n m h = omega (arith, h)

pub headed : (branch : Branch) (n : ℕ) (c : Context) → Headed branch n (trail branch n c)
headed branch n (Here rest) = record { index = n; rest = []; above = not_above n; is = refl }
headed branch n (After a c) =
    let h = headed branch (suc n) c in
    record { index = h.index; rest = h.rest; above = just_above n h.index h.above; is = h.is }
headed branch n (InLoop i lo hi c rest) =
    record { index = n; rest = trail Main zero c; above = not_above n; is = refl }
headed branch n (InThen t c other rest) =
    record { index = n; rest = trail Main zero c; above = not_above n; is = refl }
headed branch n (InElse t other c rest) =
    record { index = n; rest = trail Else zero c; above = not_above n; is = refl }

-- ---- of what is found

pub mapped : {A B : Type 0} (f : A → B) (P : B → Type 0) (x : Option A) → IfSome x (λ a. P (f a))
    → IfSome (option_map f x) P
mapped f P None h = tt
mapped f P (Some a) h = h

pub weaker : {A : Type 0} (P Q : A → Type 0) (x : Option A) → ((a : A) → P a → Q a) → IfSome x P → IfSome x Q
weaker P Q None f h = tt
weaker P Q (Some a) f h = f a h

abbrev pub here : Block × Block → Opened
here p = record { around = Here p.1; piece = p.0 }

abbrev pub behind : Statement → Opened → Opened
behind a o = record { around = After a o.around; piece = o.piece }

abbrev pub in_loop : Binder → Control → Control → Block → Opened → Opened
in_loop i lo hi rest o = record { around = InLoop i lo hi o.around rest; piece = o.piece }

abbrev pub in_then : Condition → Block → Block → Opened → Opened
in_then t b rest o = record { around = InThen t o.around b rest; piece = o.piece }

abbrev pub in_else : Condition → Block → Block → Opened → Opened
in_else t a rest o = record { around = InElse t a o.around rest; piece = o.piece }

-- ---- what is opened at a path has that path

-- the path has so many steps of its branch more than the hole, counted from any number
abbrev HasTrail : Branch → ℕ → Path → Opened → Type 0
HasTrail branch k path o =
    (n m : ℕ) → m ≡ k + n → step_to branch m ∷ path ≡ trail branch n o.around

no_more : (n m : ℕ) → m ≡ 0 + n → m ≡ n
no_more n m e = omega (arith, e)

one_more : (k n m : ℕ) → m ≡ suc k + n → m ≡ k + suc n
one_more k n m e = omega (arith, e)

past_has : (branch : Branch) (path : Path) (k : ℕ) (f : Block → Option Opened)
    → ((b : Block) → IfSome (f b) (λ o. (n : ℕ) → step_to branch n ∷ path ≡ trail branch n o.around))
    → (b : Block) → IfSome (past k f b) (HasTrail branch k path)
past_has branch path zero f h b =
    weaker (λ o. (n : ℕ) → step_to branch n ∷ path ≡ trail branch n o.around)
    (HasTrail branch zero path) (f b)
    (λ o e n m is. ap (λ (j : ℕ). step_to branch j ∷ path) (no_more n m is) ∙ e n) (h b)
past_has branch path (suc k) f h end = tt
past_has branch path (suc k) f h (next a b) =
    mapped (behind a) (HasTrail branch (suc k) path) (past k f b)
    (weaker (HasTrail branch k path) (λ o. HasTrail branch (suc k) path (behind a o)) (past k f b)
    (λ o e n m is. e (suc n) m (one_more k n m is)) (past_has branch path k f h b))

abbrev Enters : Path → Opened → Type 0
Enters path o = (branch : Branch) (n : ℕ) → step_to branch n ∷ path ≡ trail branch n o.around

into_has : (inner : Branch) (path : Path) (f : Block → Option Opened)
    → ((b : Block) → IfSome (f b) (λ o. path ≡ trail inner zero o.around))
    → (b : Block) → IfSome (into inner f b) (Enters path)
into_has Main path f h (next (For i lo hi b) rest) =
    mapped (in_loop i lo hi rest) (Enters path) (f b)
    (weaker (λ o. path ≡ trail Main zero o.around)
    (λ o. (branch : Branch) (n : ℕ) → step_to branch n ∷ path ≡ step_to branch n ∷ trail Main zero o.around)
    (f b) (λ o e branch n. ap (λ (x : Path). step_to branch n ∷ x) e) (h b))
into_has Main path f h (next (If t a b) rest) =
    mapped (in_then t b rest) (Enters path) (f a)
    (weaker (λ o. path ≡ trail Main zero o.around)
    (λ o. (branch : Branch) (n : ℕ) → step_to branch n ∷ path ≡ step_to branch n ∷ trail Main zero o.around)
    (f a) (λ o e branch n. ap (λ (x : Path). step_to branch n ∷ x) e) (h a))
into_has Else path f h (next (If t a b) rest) =
    mapped (in_else t a rest) (Enters path) (f b)
    (weaker (λ o. path ≡ trail Else zero o.around)
    (λ o. (branch : Branch) (n : ℕ) → step_to branch n ∷ path ≡ step_to branch n ∷ trail Else zero o.around)
    (f b) (λ o e branch n. ap (λ (x : Path). step_to branch n ∷ x) e) (h b))
into_has inner path f h b = tt

plus_none : (n : ℕ) → n ≡ n + 0
plus_none n = omega arith

abbrev HasPath : Path → Opened → Type 0
HasPath [] o = ⊥
HasPath (s ∷ path) o = s ∷ path ≡ trail s.branch zero o.around

steps_have : (s : Step) (path : Path) (b : Block) → IfSome (opened_in 1 (s ∷ path) b) (HasPath (s ∷ path))
steps_have s [] b =
    let f = λ (c : Block). option_map here (parted 1 c) in
    weaker (HasTrail s.branch s.index []) (HasPath (s ∷ [])) (past s.index f b)
    (λ o e. e zero s.index (plus_none s.index))
    (past_has s.branch [] s.index f
    (λ c. mapped here (λ o. (n : ℕ) → step_to s.branch n ∷ [] ≡ trail s.branch n o.around) (parted 1 c)
    (always (parted 1 c))) b)
  where
    always : (x : Option (Block × Block))
        → IfSome x (λ p. (n : ℕ) → step_to s.branch n ∷ [] ≡ step_to s.branch n ∷ [])
    always None = tt
    always (Some p) = λ n. refl
steps_have s (t ∷ path) b =
    let f = opened_in 1 (t ∷ path) in
    weaker (HasTrail s.branch s.index (t ∷ path)) (HasPath (s ∷ t ∷ path)) (past s.index (into t.branch f) b)
    (λ o e. e zero s.index (plus_none s.index))
    (past_has s.branch (t ∷ path) s.index (into t.branch f)
    (λ c. weaker (Enters (t ∷ path))
    (λ o. (n : ℕ) → step_to s.branch n ∷ t ∷ path ≡ trail s.branch n o.around) (into t.branch f c)
    (λ o e n. e s.branch n) (into_has t.branch (t ∷ path) f (steps_have t path) c)) b)

by_has : (branch : Branch) (path : Path) (x : Option Opened)
    → IfSome x (λ o. path ≡ trail branch zero o.around)
    → IfSome (elim branch as (λ b. Option Opened) [ Main ↦ x | Else ↦ None ])
    (λ o. path ≡ trail Main zero o.around)
by_has Main path x h = h
by_has Else path x h = tt

opened_has : (path : Path) (b : Block) → IfSome (opened 1 path b) (λ o. path ≡ trail Main zero o.around)
opened_has [] b = tt
opened_has (s ∷ path) b = by_has s.branch (s ∷ path) (opened_in 1 (s ∷ path) b) (steps_have s path b)

pub path_is_trail : (path : Path) (b : Block) (o : Opened) → opened 1 path b ≡ Some o
    → path ≡ trail Main zero o.around
path_is_trail path b o e =
    subst (λ (x : Option Opened). IfSome x (λ o. path ≡ trail Main zero o.around)) e (opened_has path b)
