-- The modes of the procedures of a unit, one after another.
use Rattle.std.proofs.Common.{◌≡◌, ℕ, suc, ◌+◌, ◌≤◌, arith, length-append, ◌||◌, Bool, List, [], ◌∷◌, ◌++◌, Option, option_map, slice_get, length, take, map, refl, ap, sym, ◌∙◌, append_assoc}
use Rattle.std.proofs.lemmas.List.{append-nil, map-append, length_push}
use Rattle.std.proofs.lemmas.Option.{slice_get-map}
use Rattle.exo_tree.specs.Tree.{Kind, Argument, Statement, Assign, Reduce, Config, Pass, If, For, Alloc, View, Call, Block, end, next, Procedure, Program}
use Rattle.exo_meaning.specs.Calls.{Callee}
use Rattle.exo_meaning.specs.Run.{roots_after, callees, callee_in, world_of, kinds_of}
use Rattle.exo_meaning.specs.Modes.{Mode, Modes, call_has, has_mode, step_has_mode, modes_at, modes_in, all_modes}
use Rattle.exo_modes.specs.Marks.{block_marks, callable, AreFirst}
use Rattle.exo_modes.proofs.Callees.{can_call, listed_taken, call_by, call_of}

procedures_are : (kinds : ℕ → Kind) (above : List Callee) (qs : List Procedure) → map (λ c. c.procedure) (callees kinds above qs) ≡ map (λ c. c.procedure) above ++ qs
procedures_are kinds above [] = sym (append-nil (map (λ c. c.procedure) above))
procedures_are kinds above (q ∷ qs) =
    let last = callee_in (world_of kinds above) q in
    procedures_are kinds (above ++ last ∷ []) qs ∙ ap (λ ps. ps ++ qs) (map-append (λ c. c.procedure) above (last ∷ [])) ∙ append_assoc (map (λ c. c.procedure) above) (q ∷ []) qs

either_same : {a b c d : Bool} → a ≡ c → b ≡ d → (a || b) ≡ (c || d)
either_same p q = λ i. p i || q i

-- what a block touches depends on the procedures alone that may be called
module _ (cs ds : ℕ → Option Callee) (same : (k : ℕ) → option_map (λ c. c.procedure) (cs k) ≡ option_map (λ c. c.procedure) (ds k)) (modes : ℕ → Modes) (m : Mode) where
  call_same : (k : ℕ) (root : ℕ → ℕ) (y : ℕ) (args : List Argument) → call_has (cs k) (modes k m) root y args ≡ call_has (ds k) (modes k m) root y args
  call_same k root y args =
      (λ i. call_of (cs k) (modes k) root args i m y)
      ∙ (λ i. call_by (same k i) (modes k) root args m y)
      ∙ (λ i. sym (call_of (ds k) (modes k) root args) i m y)

  mutual
    pub marks_same : (root : ℕ → ℕ) (b : Block) (y : ℕ) → has_mode cs modes m root b y ≡ has_mode ds modes m root b y
    marks_same root end y = refl
    marks_same root (next a b) y = either_same (step_same root a y) (marks_same (roots_after a root) b y)

    step_same : (root : ℕ → ℕ) (a : Statement) (y : ℕ) → step_has_mode cs modes m root a y ≡ step_has_mode ds modes m root a y
    step_same root (Assign x is e) y = refl
    step_same root (Reduce x is e) y = refl
    step_same root (Config f a) y = refl
    step_same root Pass y = refl
    step_same root (If c a b) y = either_same (marks_same root a y) (marks_same root b y)
    step_same root (For i lo hi b) y = marks_same root b y
    step_same root (Alloc x cell dims memory) y = refl
    step_same root (View w x coords) y = refl
    step_same root (Call k args) y = call_same k root y args

-- those of the unit that are listed
called : (kinds : ℕ → Kind) (ps : List Procedure) (ms : List Modes) (k : ℕ) → option_map (λ c. c.procedure) (callable ps ms k) ≡ option_map (λ c. c.procedure) (slice_get (callees kinds [] (take (length ms) ps)) k)
called kinds ps ms k =
    let above = callees kinds [] (take (length ms) ps) in
    can_call ps ms k ∙ listed_taken ps ms k
    ∙ sym (ap (λ l. slice_get l k) (procedures_are kinds [] (take (length ms) ps)))
    ∙ slice_get-map (λ c. c.procedure) above k

-- so the marks of a body are its modes in the unit
pub marks_are : (kinds : ℕ → Kind) (ps : List Procedure) (ms : List Modes) (p : Procedure) → block_marks ps ms (λ y. y) p.body ≡ modes_in (world_of kinds (callees kinds [] (take (length ms) ps))) (modes_at ms) p
marks_are kinds ps ms p =
    let above = callees kinds [] (take (length ms) ps) in
    λ i m y. marks_same (callable ps ms) (slice_get above) (called kinds ps ms) (modes_at ms) m (λ y. y) p.body y i

-- the modes of one procedure more
modes_split : (kinds : ℕ → Kind) (above : List Callee) (ms : List Modes) (qs rs : List Procedure) → all_modes kinds above ms (qs ++ rs) ≡ all_modes kinds (callees kinds above qs) (all_modes kinds above ms qs) rs
modes_split kinds above ms [] rs = refl
modes_split kinds above ms (q ∷ qs) rs = modes_split kinds (above ++ callee_in (world_of kinds above) q ∷ []) (ms ++ modes_in (world_of kinds above) (modes_at ms) q ∷ []) qs rs

pub one_more : (kinds : ℕ → Kind) (ps qs : List Procedure) (p : Procedure) → ps ≡ qs ++ p ∷ [] → all_modes kinds [] [] ps ≡ all_modes kinds [] [] qs ++ modes_in (world_of kinds (callees kinds [] qs)) (modes_at (all_modes kinds [] [] qs)) p ∷ []
one_more kinds ps qs p e = ap (all_modes kinds [] []) e ∙ modes_split kinds [] [] qs (p ∷ [])

-- ---- the first procedures

as_many : (kinds : ℕ → Kind) (above : List Callee) (ms : List Modes) (ps : List Procedure) → length (all_modes kinds above ms ps) ≡ length ms + length ps
as_many kinds above ms [] = plus_none (length ms)
  where
    plus_none : (n : ℕ) → n ≡ n + 0
    plus_none n = omega arith
as_many kinds above ms (p ∷ ps) =
    let world = world_of kinds above in
    as_many kinds (above ++ callee_in world p ∷ []) (ms ++ modes_in world (modes_at ms) p ∷ []) ps
    ∙ ap (λ n. n + length ps) (length_push ms (modes_in world (modes_at ms) p))
    ∙ one_less (length ms) (length ps)
  where
    one_less : (m n : ℕ) → m + 1 + n ≡ m + suc n
    one_less m n = omega arith

take_first : (ps qs : List Procedure) → take (length ps) (ps ++ qs) ≡ ps
take_first [] qs = refl
take_first (p ∷ ps) qs = ap (λ l. p ∷ l) (take_first ps qs)

-- a table begins with the modes of the first procedures, as many as it has
pub begun : (ms : List Modes) (program : Program) → AreFirst ms program → (ms ≡ all_modes (kinds_of program.fields) [] [] (take (length ms) program.procedures)) × (length ms ≤ length program.procedures)
begun ms program (first, rest, is, says) =
    let kinds = kinds_of program.fields in
    let many : length ms ≡ length first = omega (arith, ap length says, as_many kinds [] [] first) in
    let all : first ≡ take (length ms) program.procedures = sym (ap (λ n. take n program.procedures) many ∙ ap (take (length first)) is ∙ take_first first rest) in (
      says ∙ ap (all_modes kinds [] []) all,
      (let whole : length program.procedures ≡ length first + length rest = ap length is ∙ length-append first rest in omega (arith, many, whole)),
    )

-- the modes of no procedure, to begin with
pub none_first : (program : Program) → AreFirst [] program
none_first program = ([], program.procedures, refl, refl)
