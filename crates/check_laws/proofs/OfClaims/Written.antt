-- What a procedure of a unit writes is written or reduced by its modes.
use Rattle.std.proofs.Common.{◌≡◌, ℕ, zero, suc, ◌||◌, ◌&&◌, ◌==◌, Bool, true, false, List, [], ◌∷◌, ◌++◌, Option, None, Some, refl, sym, ap, ◌∙◌, subst}
use Rattle.std.specs.Prelude.{slice_get}
use Rattle.exo_tree.specs.Tree.{Kind, Argument, Param, Statement, Assign, Reduce, Config, Pass, If, For, Alloc, View, Call, Block, end, next, Procedure, Program}
use Rattle.exo_meaning.specs.Calls.{Callee}
use Rattle.exo_meaning.specs.Run.{is_root, roots_after, call_writes, call_to_writes, writes, step_writes, world_of, callee_in, callees, kinds_of, program_world}
use Rattle.exo_meaning.specs.Modes.{Writing, Reducing, Modes, has_mode, step_has_mode, call_has, modes_at, modes_in, all_modes}
use Rattle.exo_modes.specs.Marks.{writing}
use Rattle.check_claims.specs.Claims.{written_by}
use Rattle.check_laws.proofs.OfClaims.Basics.{none_some, some_injective}

crossed : (a b c d : Bool) → ((a || b) || (c || d)) ≡ ((a || c) || (b || d))
crossed true b c d = refl
crossed false true true d = refl
crossed false true false d = refl
crossed false false c d = refl

shared : (a b r : Bool) → ((a || b) && r) ≡ ((a && r) || (b && r))
shared true b true = refl
shared true true false = refl
shared true false false = refl
shared false b r = refl

or_false : (a : Bool) → (a || false) ≡ a
or_false true = refl
or_false false = refl

-- two sides, each of which is so
joined : (a b c d e f : Bool) → a ≡ (c || d) → b ≡ (e || f) → (a || b) ≡ ((c || e) || (d || f))
joined a b c d e f p q = (λ i. p i || q i) ∙ crossed c d e f

abbrev Says : Callee → Modes → Type 0
Says c f = (y : ℕ) → c.writes y ≡ writing f y

abbrev Agree : List Callee → List Modes → Type 0
Agree [] [] = Unit {0}
Agree [] (f ∷ fs) = ⊥
Agree (c ∷ cs) [] = ⊥
Agree (c ∷ cs) (f ∷ fs) = Says c f × Agree cs fs

one_more : (cs : List Callee) (fs : List Modes) (c : Callee) (f : Modes) → Agree cs fs → Says c f → Agree (cs ++ c ∷ []) (fs ++ f ∷ [])
one_more [] [] c f all own = (own, tt)
one_more [] (g ∷ gs) c f all own = absurd all
one_more (d ∷ ds) [] c f all own = absurd all
one_more (d ∷ ds) (g ∷ gs) c f all own = (all.0, one_more ds gs c f all.1 own)

said_at : (cs : List Callee) (fs : List Modes) (k : ℕ) (c : Callee) → Agree cs fs → slice_get cs k ≡ Some c → Says c (modes_at fs k)
said_at [] [] zero c all e = absurd (none_some e)
said_at [] [] (suc k) c all e = absurd (none_some e)
said_at [] (f ∷ fs) k c all e = absurd all
said_at (d ∷ ds) [] k c all e = absurd all
said_at (d ∷ ds) (f ∷ fs) zero c all e = subst (λ x. Says x f) (some_injective d c e) all.0
said_at (d ∷ ds) (f ∷ fs) (suc k) c all e = said_at ds fs k c all.1 e

arguments_written : (w : ℕ → Bool) (f : Modes) → ((y : ℕ) → w y ≡ writing f y) → (root : ℕ → ℕ) (y : ℕ) (ps : List Param) (args : List Argument)
    → call_writes w root y ps args ≡ (call_writes (f Writing) root y ps args || call_writes (f Reducing) root y ps args)
arguments_written w f is root y [] args = refl
arguments_written w f is root y (p ∷ ps) [] = refl
arguments_written w f is root y (p ∷ ps) (a ∷ args) =
    let r = is_root root y a in
    let x = p.binder.id in
    joined (w x && r) (call_writes w root y ps args) (f Writing x && r) (f Reducing x && r) (call_writes (f Writing) root y ps args) (call_writes (f Reducing) root y ps args)
    (ap (λ t. t && r) (is x) ∙ shared (f Writing x) (f Reducing x) r) (arguments_written w f is root y ps args)

module _ (kinds : ℕ → Kind) (cs : List Callee) (fs : List Modes) (all : Agree cs fs) where
  abbrev stored : (ℕ → ℕ) → Block → ℕ → Bool
  stored root b y = has_mode (slice_get cs) (modes_at fs) Writing root b y

  abbrev reduced : (ℕ → ℕ) → Block → ℕ → Bool
  reduced root b y = has_mode (slice_get cs) (modes_at fs) Reducing root b y

  call_written : (k : ℕ) (o : Option Callee) → slice_get cs k ≡ o → (root : ℕ → ℕ) (y : ℕ) (args : List Argument)
      → call_to_writes o root y args ≡ (call_has o (modes_at fs k Writing) root y args || call_has o (modes_at fs k Reducing) root y args)
  call_written k None e root y args = refl
  call_written k (Some c) e root y args = arguments_written c.writes (modes_at fs k) (said_at cs fs k c all e) root y c.procedure.params args

  mutual
    block_written : (root : ℕ → ℕ) (b : Block) (y : ℕ) → writes (world_of kinds cs) root b y ≡ (stored root b y || reduced root b y)
    block_written root end y = refl
    block_written root (next a b) y =
        let w = step_has_mode (slice_get cs) (modes_at fs) Writing root a y in
        let r = step_has_mode (slice_get cs) (modes_at fs) Reducing root a y in
        let after = roots_after a root in
        joined (step_writes (world_of kinds cs) root a y) (writes (world_of kinds cs) after b y) w r (stored after b y) (reduced after b y) (step_written root a y) (block_written after b y)

    step_written : (root : ℕ → ℕ) (a : Statement) (y : ℕ)
        → step_writes (world_of kinds cs) root a y
        ≡ (step_has_mode (slice_get cs) (modes_at fs) Writing root a y || step_has_mode (slice_get cs) (modes_at fs) Reducing root a y)
    step_written root (Assign x is e) y = sym (or_false (y == root x))
    step_written root (Reduce x is e) y = refl
    step_written root (Config f a) y = refl
    step_written root Pass y = refl
    step_written root (If c a b) y =
        joined (writes (world_of kinds cs) root a y) (writes (world_of kinds cs) root b y) (stored root a y) (reduced root a y) (stored root b y) (reduced root b y) (block_written root a y) (block_written root b y)
    step_written root (For i lo hi b) y = block_written root b y
    step_written root (Alloc x cell dims memory) y = sym (or_false (y == x.id))
    step_written root (View w x coords) y = refl
    step_written root (Call k args) y = call_written k (slice_get cs k) refl root y args

all_agree : (kinds : ℕ → Kind) (cs : List Callee) (fs : List Modes) (ps : List Procedure) → Agree cs fs → Agree (callees kinds cs ps) (all_modes kinds cs fs ps)
all_agree kinds cs fs [] all = all
all_agree kinds cs fs (p ∷ ps) all =
    let world = world_of kinds cs in
    all_agree kinds (cs ++ callee_in world p ∷ []) (fs ++ modes_in world (modes_at fs) p ∷ []) ps
    (one_more cs fs (callee_in world p) (modes_in world (modes_at fs) p) all (λ y. block_written kinds cs fs all (λ x. x) p.body y))

pub callee_writes : (u : Program) (k : ℕ) (c : Callee) → (program_world u).callees k ≡ Some c → (x : ℕ) → c.writes x ≡ written_by u k x
callee_writes u k c e =
    let kinds = kinds_of u.fields in
    said_at (callees kinds [] u.procedures) (all_modes kinds [] [] u.procedures) k c (all_agree kinds [] [] u.procedures tt) e
