-- What each procedure of a unit writes, by the table of its modes.
use Rattle.std.proofs.Common.{◌≡◌, ℕ, zero, suc, ◌||◌, ◌&&◌, ◌==◌, Bool, true, false, List, [], ◌∷◌, ◌++◌, map, Option, None, Some, option_map, refl, ap, sym, subst, ◌∙◌}
use Rattle.std.specs.Prelude.{slice_get}
use Rattle.exo_tree.specs.Tree.{Kind, Argument, Param, Statement, Assign, Reduce, Config, Pass, If, For, Alloc, View, Call, Block, end, next, Procedure}
use Rattle.exo_meaning.specs.Calls.{Callee}
use Rattle.exo_meaning.specs.Run.{is_root, roots_after, call_writes, call_to_writes, writes, step_writes, world_of, callee_in, callees}
use Rattle.exo_meaning.specs.Modes.{Mode, Writing, Reducing, Modes, has_mode, step_has_mode, call_has, modes_at, modes_in, all_modes}
use Rattle.exo_modes.specs.Marks.{writing}

crossed : (a b c d : Bool) → ((a || b) || (c || d)) ≡ ((a || c) || (b || d))
crossed true b c d = refl
crossed false true true d = refl
crossed false true false d = refl
crossed false false c d = refl

shared : (a b r : Bool) → ((a || b) && r) ≡ ((a && r) || (b && r))
shared true b true = refl
shared true true false = refl
shared true false false = refl
shared false b r = refl

or_false : (a : Bool) → (a || false) ≡ a
or_false true = refl
or_false false = refl

either_same : {a b c d : Bool} → a ≡ c → b ≡ d → (a || b) ≡ (c || d)
either_same p q = λ i. p i || q i

-- each procedure writes what its modes say
pub record Says (c : Callee) (f : Modes) : Type 0 where
  pub is : (y : ℕ) → c.writes y ≡ writing f y

abbrev pub Agree : List Callee → List Modes → Type 0
Agree [] [] = Unit {0}
Agree [] (f ∷ fs) = ⊥
Agree (c ∷ cs) [] = ⊥
Agree (c ∷ cs) (f ∷ fs) = Says c f × Agree cs fs

one_more : (cs : List Callee) (fs : List Modes) (c : Callee) (f : Modes) → Agree cs fs → Says c f → Agree (cs ++ c ∷ []) (fs ++ f ∷ [])
one_more [] [] c f all own = (own, tt)
one_more [] (g ∷ gs) c f all own = absurd all
one_more (d ∷ ds) [] c f all own = absurd all
one_more (d ∷ ds) (g ∷ gs) c f all own = (all.0, one_more ds gs c f all.1 own)

none_is : {A : Type 0} {a : A} → None ≡ Some a → ⊥
none_is e = cc

some_is : {A : Type 0} {a b : A} → Some a ≡ Some b → a ≡ b
some_is e = cc

pub said_at : (cs : List Callee) (fs : List Modes) (k : ℕ) (c : Callee) → Agree cs fs → slice_get cs k ≡ Some c → Says c (modes_at fs k)
said_at [] [] zero c all e = absurd (none_is e)
said_at [] [] (suc k) c all e = absurd (none_is e)
said_at [] (f ∷ fs) k c all e = absurd all
said_at (d ∷ ds) [] k c all e = absurd all
said_at (d ∷ ds) (f ∷ fs) zero c all e = subst (λ x. Says x f) (some_is e) all.0
said_at (d ∷ ds) (f ∷ fs) (suc k) c all e = said_at ds fs k c all.1 e

arguments_written : (w : ℕ → Bool) (f : Modes) → ((y : ℕ) → w y ≡ writing f y) → (root : ℕ → ℕ) (y : ℕ) (ps : List Param) (args : List Argument)
    → call_writes w root y ps args ≡ (call_writes (f Writing) root y ps args || call_writes (f Reducing) root y ps args)
arguments_written w f is root y [] args = refl
arguments_written w f is root y (p ∷ ps) [] = refl
arguments_written w f is root y (p ∷ ps) (a ∷ args) =
    let r = is_root root y a in
    let a1 = f Writing p.binder.id in
    let b1 = f Reducing p.binder.id in
    either_same (ap (λ t. t && r) (is p.binder.id) ∙ shared a1 b1 r) (arguments_written w f is root y ps args)
    ∙ crossed (a1 && r) (b1 && r) (call_writes (f Writing) root y ps args) (call_writes (f Reducing) root y ps args)

module _ (kinds : ℕ → Kind) (cs : List Callee) (fs : List Modes) (all : Agree cs fs) where
  abbrev has : Mode → (ℕ → ℕ) → Block → ℕ → Bool
  has m root b y = has_mode (slice_get cs) (modes_at fs) m root b y

  abbrev has_step : Mode → (ℕ → ℕ) → Statement → ℕ → Bool
  has_step m root a y = step_has_mode (slice_get cs) (modes_at fs) m root a y

  call_written : (k : ℕ) (o : Option Callee) → slice_get cs k ≡ o → (root : ℕ → ℕ) (y : ℕ) (args : List Argument)
      → call_to_writes o root y args ≡ (call_has o (modes_at fs k Writing) root y args || call_has o (modes_at fs k Reducing) root y args)
  call_written k None e root y args = refl
  call_written k (Some c) e root y args = arguments_written c.writes (modes_at fs k) (said_at cs fs k c all e).is root y c.procedure.params args

  mutual
    block_written : (root : ℕ → ℕ) (b : Block) (y : ℕ) → writes (world_of kinds cs) root b y ≡ (has Writing root b y || has Reducing root b y)
    block_written root end y = refl
    block_written root (next a b) y =
        either_same (step_written root a y) (block_written (roots_after a root) b y)
        ∙ crossed (has_step Writing root a y) (has_step Reducing root a y) (has Writing (roots_after a root) b y) (has Reducing (roots_after a root) b y)

    step_written : (root : ℕ → ℕ) (a : Statement) (y : ℕ) → step_writes (world_of kinds cs) root a y ≡ (has_step Writing root a y || has_step Reducing root a y)
    step_written root (Assign x is e) y = sym (or_false (y == root x))
    step_written root (Reduce x is e) y = refl
    step_written root (Config f a) y = refl
    step_written root Pass y = refl
    step_written root (If c a b) y =
        either_same (block_written root a y) (block_written root b y)
        ∙ crossed (has Writing root a y) (has Reducing root a y) (has Writing root b y) (has Reducing root b y)
    step_written root (For i lo hi b) y = block_written root b y
    step_written root (Alloc x cell dims memory) y = sym (or_false (y == x.id))
    step_written root (View w x coords) y = refl
    step_written root (Call k args) y = call_written k (slice_get cs k) refl root y args

  pub own_said : (p : Procedure) → Says (callee_in (world_of kinds cs) p) (modes_in (world_of kinds cs) (modes_at fs) p)
  own_said p = record { is = λ y. block_written (λ x. x) p.body y }

pub all_agree : (kinds : ℕ → Kind) (cs : List Callee) (fs : List Modes) (ps : List Procedure) → Agree cs fs → Agree (callees kinds cs ps) (all_modes kinds cs fs ps)
all_agree kinds cs fs [] all = all
all_agree kinds cs fs (p ∷ ps) all =
    let world = world_of kinds cs in
    all_agree kinds (cs ++ callee_in world p ∷ []) (fs ++ modes_in world (modes_at fs) p ∷ []) ps
    (one_more cs fs (callee_in world p) (modes_in world (modes_at fs) p) all (own_said kinds cs fs all p))

-- ---- which procedure a callee is

abbrev procedures_of : List Callee → List Procedure
procedures_of cs = map (λ (c : Callee). c.procedure) cs

joined_procedures : (cs : List Callee) (c : Callee) → procedures_of (cs ++ c ∷ []) ≡ procedures_of cs ++ c.procedure ∷ []
joined_procedures [] c = refl
joined_procedures (d ∷ ds) c = ap (λ ps. d.procedure ∷ ps) (joined_procedures ds c)

turned : {A : Type 0} (xs : List A) (y : A) (ys : List A) → (xs ++ y ∷ []) ++ ys ≡ xs ++ y ∷ ys
turned [] y ys = refl
turned (x ∷ xs) y ys = ap (λ l. x ∷ l) (turned xs y ys)

listed : (kinds : ℕ → Kind) (cs : List Callee) (ps : List Procedure) → procedures_of (callees kinds cs ps) ≡ procedures_of cs ++ ps
listed kinds cs [] = sym (empty (procedures_of cs))
  where
    empty : {A : Type 0} (xs : List A) → xs ++ [] ≡ xs
    empty [] = refl
    empty (x ∷ xs) = ap (λ l. x ∷ l) (empty xs)
listed kinds cs (p ∷ ps) =
    let c = callee_in (world_of kinds cs) p in
    listed kinds (cs ++ c ∷ []) ps ∙ ap (λ l. l ++ ps) (joined_procedures cs c) ∙ turned (procedures_of cs) p ps

get_mapped : (cs : List Callee) (k : ℕ) → option_map (λ (c : Callee). c.procedure) (slice_get cs k) ≡ slice_get (procedures_of cs) k
get_mapped [] zero = refl
get_mapped [] (suc k) = refl
get_mapped (c ∷ cs) zero = refl
get_mapped (c ∷ cs) (suc k) = get_mapped cs k

-- the callee of a number is the procedure of that number
pub callee_at : (kinds : ℕ → Kind) (ps : List Procedure) (k : ℕ) → option_map (λ (c : Callee). c.procedure) (slice_get (callees kinds [] ps) k) ≡ slice_get ps k
callee_at kinds ps k = get_mapped (callees kinds [] ps) k ∙ ap (λ l. slice_get l k) (listed kinds [] ps)

pub callee_says : (kinds : ℕ → Kind) (ps : List Procedure) (k : ℕ) (c : Callee) → slice_get (callees kinds [] ps) k ≡ Some c → Says c (modes_at (all_modes kinds [] [] ps) k)
callee_says kinds ps k c e = said_at (callees kinds [] ps) (all_modes kinds [] [] ps) k c (all_agree kinds [] [] ps tt) e
