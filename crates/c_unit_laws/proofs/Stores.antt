-- What allocates nothing allocates few.
use Rattle.std.proofs.Common.{◌≡◌, ◌<◌, ◌+◌, ◌==◌, ℕ, zero, suc, ℤ, Bool, true, false, not, ◌&&◌, ◌||◌, List, [], ◌∷◌, ◌++◌, length, take, Option, Some, None, refl, sym, ap, ◌∙◌, subst, arith, true≢false, eqb-true, eq-eqb, slice_get}
use Rattle.std.proofs.lemmas.Bool.{and_parts}
use Rattle.exo_tree.specs.Tree.{Kind, Argument, Statement, Assign, Reduce, Config, Pass, If, For, Alloc, View, Call, Block, end, next, Procedure, Program}
use Rattle.exo_tree.specs.Calls.{calls, is_call_of}
use Rattle.exo_meaning.specs.State.{State, on_scene, with_control}
use Rattle.exo_meaning.specs.Calls.{Callee}
use Rattle.exo_meaning.specs.Run.{World, turn, turns_of, run, world_of, callee_in, callees, unit_world, kinds_of}
use Rattle.exo_meaning.specs.Units.{IsUnit}
use Rattle.exo_modes.specs.Calls.Closed.{closed}
use Rattle.exo_modes.proofs.OfCalls.Reach.{seeds_are_closed, closed_is_closed}
use Rattle.c_widths.specs.Laws.{EachTurn}
use Rattle.c_widths.specs.Few.{Fewness, CallAllocatesFew, AllocatesFew, StatementAllocatesFew, one_of, no_fewness, fewness_from, fewness_of}
use Rattle.c_unit_laws.specs.Stores.{allocates, step_allocates, none_allocates, allocates_nothing, FilesWithoutAllocationsAreDone}
use Rattle.c_unit_laws.proofs.Free.{or_false}
use Rattle.c_unit_laws.proofs.Standing.{none_some, some_same, one_longer, get_taken, take_shorter, Stood, stood, calls_before}
use Rattle.c_unit_laws.proofs.Fewer.{few_before, made_few, made_above}
use Rattle.c_unit_laws.proofs.UnitsFollow.{files_follow}

-- ---- blocks

each_turn : (go : ℤ → State → Option State) (P : ℤ → State → Type 0) → ((n : ℤ) (s : State) → P n s) → (ns : List ℤ) (s : State) → EachTurn go P ns s
each_turn go P all [] s = tt
each_turn go P all (n ∷ ns) s = (all n s, λ t e. each_turn go P all ns t)

either : (a b : Bool) → b ≡ true → (a || b) ≡ true
either true b i = refl
either false b i = i

own_number : (n : ℕ) → (n == n) ≡ true
own_number n = eq-eqb n n refl

module _ (world : World) (few : Fewness) where
  call_few : (o : Option Callee) (k : ℕ) (args : List Argument) (s : State) → ((c : Callee) → o ≡ Some c → (t : State) → few k t) → CallAllocatesFew o (few k) args s
  call_few None k args s h = tt
  call_few (Some c) k args s h = λ gs inner e f. h c refl inner

  -- each call of the block allocates few, wherever it begins
  abbrev CallsFew : (ℕ → Bool) → Type 0
  CallsFew called = (k : ℕ) (c : Callee) → world.callees k ≡ Some c → called k ≡ true → (t : State) → few k t

  mutual
    block_few : (b : Block) → CallsFew (λ k. calls k b) → allocates b ≡ false → (s : State) → AllocatesFew world few b s
    block_few end u h s = tt
    block_few (next a b) u h s =
        let p = or_false (step_allocates a) (allocates b) h in
        (statement_few a (λ k c e i. u k c e (ap (λ t. t || calls k b) i)) p.0 s, λ t e. block_few b (λ k c f i. u k c f (either (is_call_of k a) (calls k b) i)) p.1 t)

    statement_few : (a : Statement) → CallsFew (λ k. is_call_of k a) → step_allocates a ≡ false → (s : State) → StatementAllocatesFew world few a s
    statement_few (Assign x is e) u h s = tt
    statement_few (Reduce x is e) u h s = tt
    statement_few (Config f a) u h s = tt
    statement_few Pass u h s = tt
    statement_few (If d a b) u h s =
        let p = or_false (allocates a) (allocates b) h in
        (λ e. block_few a (λ k c f i. u k c f (ap (λ t. t || calls k b) i)) p.0 s, λ e. block_few b (λ k c f i. u k c f (either (calls k a) (calls k b) i)) p.1 s)
    statement_few (For i lo hi b) u h s = each_turn (turn i.id (run world b)) (λ n t. AllocatesFew world few b (on_scene (with_control i.id n) t)) (λ n t. block_few b u h (on_scene (with_control i.id n) t)) (turns_of s.scene lo hi) s
    statement_few (Alloc x cell dims memory) u h s = absurd (true≢false h)
    statement_few (View w x coords) u h s = tt
    statement_few (Call k args) u h s = call_few (world.callees k) k args s (λ c e t. u k c e (own_number k) t)

-- ---- units

none_of : (reached : ℕ → Bool) (ps : List Procedure) (k i : ℕ) (p : Procedure) → none_allocates reached k ps ≡ true → slice_get ps i ≡ Some p → reached (k + i) ≡ true → allocates p.body ≡ false
none_of reached [] k zero p h e r = absurd (none_some e)
none_of reached [] k (suc i) p h e r = absurd (none_some e)
none_of reached (q ∷ ps) k zero p h e r =
    let own : k ≡ k + zero = omega arith in
    go (reached k) (allocates q.body) (ap reached own ∙ r) (ap (λ z. allocates z.body) (some_same e)) (and_parts (not (reached k && allocates q.body)) (none_allocates reached (suc k) ps) h).0
  where
    go : (a b : Bool) → a ≡ true → b ≡ allocates p.body → not (a && b) ≡ true → allocates p.body ≡ false
    go true true d f g = absurd (true≢false (sym g))
    go true false d f g = sym f
    go false b d f g = absurd (true≢false (sym d))
none_of reached (q ∷ ps) k (suc i) p h e r =
    let more : suc k + i ≡ k + suc i = omega arith in
    none_of reached ps (suc k) i p (and_parts (not (reached k && allocates q.body)) (none_allocates reached (suc k) ps) h).1 e (ap reached more ∙ r)

module _ (program : Program) (k : ℕ) (unit : IsUnit program) (none : allocates_nothing program k ≡ true) where
  abbrev reached : ℕ → Bool
  reached = closed (λ p. true) (λ j. j == k) 0 program.procedures

  -- each procedure that is reached, by those with lower numbers
  body_few : (n j : ℕ) (q : Procedure) → j < n → slice_get program.procedures j ≡ Some q → reached j ≡ true → (s : State) → AllocatesFew (unit_world (kinds_of program.fields) (take j program.procedures)) (few_before (kinds_of program.fields) program.procedures j) q.body s
  body_few zero j q b e r s = absurd (omega (arith, b))
  body_few (suc n) j q b e r s =
      let own : 0 + j ≡ j = omega arith in
      block_few (unit_world (kinds_of program.fields) (take j program.procedures)) (few_before (kinds_of program.fields) program.procedures j) q.body
      (λ i c f u t. called i u (stood (kinds_of program.fields) program.procedures j i c f) t (λ p d g h. body_few n i p d g h t))
      (none_of reached program.procedures 0 j q none e (ap reached own ∙ r)) s
    where
      called : (i : ℕ) {c : Callee} → calls i q.body ≡ true → Stood (kinds_of program.fields) program.procedures j i c → (t : State) → ((p : Procedure) → i < n → slice_get program.procedures i ≡ Some p → reached i ≡ true → AllocatesFew (unit_world (kinds_of program.fields) (take i program.procedures)) (few_before (kinds_of program.fields) program.procedures i) p.body t) → few_before (kinds_of program.fields) program.procedures j i t
      called i u s t rest =
          made_above (kinds_of program.fields) program.procedures j i s.procedure t s.before s.at
          (rest s.procedure (omega (arith, b, s.before)) s.at (closed_is_closed (λ p. true) (λ l. l == k) program.procedures j i q (λ l m p f c. calls_before program.fields (length program.memories) program.procedures l m p unit.procedures f c) e r refl u))

  -- so it allocates few, wherever it begins
  nothing_is_few : (p : Procedure) → slice_get program.procedures k ≡ Some p → (s : State) → fewness_of program k s
  nothing_is_few p e s = made_few (kinds_of program.fields) program.procedures k p s e (body_few (suc k) k p (omega arith) e (seeds_are_closed (λ q. true) (λ j. j == k) program.procedures k (own_number k)) s)

pub files_without_allocations_are_done : FilesWithoutAllocationsAreDone
files_without_allocations_are_done program what at w p layout templates s t ts m unit lowers there at_p none does valid start ends =
    let well = files_follow program what at w p layout templates s t ts m unit lowers there at_p does valid start ends in
    let done = well.done (nothing_is_few program w.proc unit none p at_p s) in
    (done.0, done.1, well.leaves done.0 done.1)
