-- A unit that grows at its end keeps the meaning of what it had.
use Rattle.std.proofs.Common.{◌≡◌, ℕ, zero, suc, true, List, [], ◌∷◌, ◌++◌, Option, arith, refl, sym, ap, ap₂, ◌∙◌, subst}
use Rattle.std.specs.Prelude.{slice_get, length, nat_lt}
use Rattle.exo_tree.specs.Tree.{Kind, Statement, Assign, Reduce, Config, Pass, If, For, Alloc, View, Call, Block, end, next, Procedure}
use Rattle.exo_meaning.specs.Scene.{then_do, holds, where_true}
use Rattle.exo_meaning.specs.State.{State, scoped}
use Rattle.exo_meaning.specs.Calls.{Callee}
use Rattle.exo_meaning.specs.Run.{World, run, step, turn, turns, turns_of, choose, call_to, callees, callee_in, world_of, unit_world}
use Rattle.exo_meaning.specs.Inputs.{IsAdmissible, run_procedure, all_have_extents}
use Rattle.meaning_laws.specs.Grown.{calls_below, step_calls_below, GrownLaw, GrownRefinesLaw}
use Rattle.meaning_laws.proofs.Substitute.{and_parts}

-- ---- worlds that agree on what is called

module _ (kinds : ℕ → Kind) (n : ℕ) (cs ds : ℕ → Option Callee) (same : (k : ℕ) → nat_lt k n ≡ true → cs k ≡ ds k) where
  abbrev one : World
  one = record { kinds = kinds; callees = cs }

  abbrev other : World
  other = record { kinds = kinds; callees = ds }

  mutual
    pub run_agrees : (b : Block) → calls_below n b ≡ true → run one b ≡ run other b
    run_agrees end k = refl
    run_agrees (next a b) k =
        let p = and_parts (step_calls_below n a) (calls_below n b) k in
        ap₂ {C = State → Option State} (λ (f g : State → Option State) (s : State). then_do (f s) g) (step_agrees a p.0) (run_agrees b p.1)

    step_agrees : (a : Statement) → step_calls_below n a ≡ true → step one a ≡ step other a
    step_agrees (Assign x is e) k = refl
    step_agrees (Reduce x is e) k = refl
    step_agrees (Config f a) k = refl
    step_agrees Pass k = refl
    step_agrees (If c a b) k =
        let p = and_parts (calls_below n a) (calls_below n b) k in
        ap₂ {C = State → Option State} (λ (f g : State → Option State) (s : State). scoped (choose (holds s.scene c) f g) s) (run_agrees a p.0) (run_agrees b p.1)
    step_agrees (For i lo hi b) k = ap {B = State → Option State} (λ (f : State → Option State) (s : State). turns (turn i.id f) (turns_of s.scene lo hi) s) (run_agrees b k)
    step_agrees (Alloc x cell dims memory) k = refl
    step_agrees (View w x coords) k = refl
    step_agrees (Call j args) k = ap {B = State → Option State} (λ (o : Option Callee) (s : State). call_to o args s) (same j k)

-- ---- the table of a longer unit begins with that of the shorter one

more_callees : (kinds : ℕ → Kind) (above : List Callee) (ps : List Procedure) → (rest : List Callee) × (callees kinds above ps ≡ above ++ rest) × (length rest ≡ length ps)
more_callees kinds above [] = ([], sym (append_none above), refl)
  where
    append_none : (xs : List Callee) → xs ++ [] ≡ xs
    append_none [] = refl
    append_none (x ∷ xs) = ap (λ l. x ∷ l) (append_none xs)
more_callees kinds above (p ∷ ps) =
    let c = callee_in (world_of kinds above) p in
    let r = more_callees kinds (above ++ c ∷ []) ps in
    (c ∷ r.0, r.1 ∙ append_one above c r.0, ap suc r.2)
  where
    append_one : (xs : List Callee) (y : Callee) (zs : List Callee) → (xs ++ y ∷ []) ++ zs ≡ xs ++ y ∷ zs
    append_one [] y zs = refl
    append_one (x ∷ xs) y zs = ap (λ l. x ∷ l) (append_one xs y zs)

two_lists : (kinds : ℕ → Kind) (above : List Callee) (ps more : List Procedure) → callees kinds above (ps ++ more) ≡ callees kinds (callees kinds above ps) more
two_lists kinds above [] more = refl
two_lists kinds above (p ∷ ps) more = two_lists kinds (above ++ callee_in (world_of kinds above) p ∷ []) ps more

get_first : (xs ys : List Callee) (k : ℕ) → nat_lt k (length xs) ≡ true → slice_get (xs ++ ys) k ≡ slice_get xs k
get_first [] ys k h = absurd (no_less k h)
  where
    no_less : (k : ℕ) → nat_lt k 0 ≡ true → ⊥
    no_less k h = grind arith
get_first (x ∷ xs) ys zero h = refl
get_first (x ∷ xs) ys (suc k) h = get_first xs ys k (less k (length xs) h)
  where
    less : (k n : ℕ) → nat_lt (suc k) (suc n) ≡ true → nat_lt k n ≡ true
    less k n h = grind arith

pub grown_same : (kinds : ℕ → Kind) (ps more : List Procedure) (k : ℕ) → nat_lt k (length ps) ≡ true → slice_get (callees kinds [] (ps ++ more)) k ≡ slice_get (callees kinds [] ps) k
grown_same kinds ps more k h =
    let table = callees kinds [] ps in
    let r = more_callees kinds table more in
    let s = more_callees kinds [] ps in
    let size : length table ≡ length ps = ap length s.1 ∙ s.2 in
    ap (λ l. slice_get l k) (two_lists kinds [] ps more ∙ r.1) ∙ get_first table r.0 k (subst (λ n. nat_lt k n ≡ true) (sym size) h)

pub grown_law : GrownLaw
grown_law kinds ps more b h = run_agrees kinds (length ps) (slice_get (callees kinds [] (ps ++ more))) (slice_get (callees kinds [] ps)) (grown_same kinds ps more) b h

pub grown_refines : GrownRefinesLaw
grown_refines kinds ps more p q but h k r = record {
  cells = λ s t u good i j. r.cells s t u (same_input p s good) (sym (same_run p h s) ∙ i) (sym (same_run q k s) ∙ j);
  fields = λ s t u good i j. r.fields s t u (same_input p s good) (sym (same_run p h s) ∙ i) (sym (same_run q k s) ∙ j);
}
  where
    same_run : (p : Procedure) → calls_below (length ps) p.body ≡ true → (s : State) → run_procedure (unit_world kinds (ps ++ more)) p s ≡ run_procedure (unit_world kinds ps) p s
    same_run p h s = ap (λ (f : State → Option State). where_true (all_have_extents s.scene p.params) (f s)) (grown_law kinds ps more p.body h)

    same_input : (p : Procedure) (s : State) → IsAdmissible (unit_world kinds (ps ++ more)) p s → IsAdmissible (unit_world kinds ps) p s
    same_input p s g = record { arguments = g.arguments; no_others = g.no_others; cells = g.cells; tidy = g.tidy; fields = g.fields; asserts = g.asserts }
