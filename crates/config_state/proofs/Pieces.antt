-- The block of a path, a step at a time, and the statements that are opened there.
use Rattle.std.proofs.Common.{◌≡◌, ℕ, zero, suc, ◌+◌, ◌-◌, ◌<◌, ◌≤◌, List, [], ◌∷◌, length, take, drop, get_or}
use Rattle.std.proofs.Common.{Option, Some, None, map, refl, ap, ap₂, sym, ◌∙◌, subst, arith, add-one, drop-cons}
use Rattle.exo_tree.specs.declared.place.Step as declared
use Rattle.exo_tree.specs.declared.place.Branch.TheVariants as which
use Rattle.exo_tree.specs.PlainPlace.{step_taken}
use Rattle.std.specs.Prelude.{slice_get, slice_range, option_map, option_and_then, MatchOption}
use Rattle.exo_tree.specs.Tree.{Statement, If, For, Block, end, next, block, statements, Procedure, Program}
use Rattle.exo_tree.specs.Context.{Context, Here, After, InLoop, InThen, InElse}
use Rattle.exo_tree.specs.Places.{Branch, Main, Else, Step, Path, Opened, parted, past, into, opened_in, opened}
use Rattle.exo_tree.specs.Branches.{branch_of}
use Rattle.config_state.specs.Pieces.{piece_at}

pub statements_are : (ss : List Statement) → statements (block ss) ≡ ss
statements_are [] = refl
statements_are (a ∷ ss) = ap (λ z. a ∷ z) (statements_are ss)

pub block_is : (b : Block) → block (statements b) ≡ b
block_is end = refl
block_is (next a b) = ap (next a) (block_is b)

-- ---- what is opened

-- the piece of an opening
abbrev pub piece_of : Option Opened → Option Block
piece_of x = option_map (λ (o : Opened). o.piece) x

-- so many statements from an index on, where they are there
abbrev pub first_so_many : ℕ → List Statement → Option Block
first_so_many zero ss = Some end
first_so_many (suc n) [] = None
first_so_many (suc n) (a ∷ ss) = option_map (next a) (first_so_many n ss)

abbrev pub cut : ℕ → ℕ → List Statement → Option Block
cut zero count ss = first_so_many count ss
cut (suc k) count [] = None
cut (suc k) count (a ∷ ss) = cut k count ss

first_there : (n : ℕ) (ss : List Statement) → n ≤ length ss → first_so_many n ss ≡ Some (block (take n ss))
first_there zero ss h = refl
first_there (suc n) [] h = absurd (omega arith)
first_there (suc n) (a ∷ ss) h = ap (option_map (next a)) (first_there n ss (omega arith))

first_short : (n : ℕ) (ss : List Statement) → length ss < n → first_so_many n ss ≡ None
first_short zero ss h = absurd (omega arith)
first_short (suc n) [] h = refl
first_short (suc n) (a ∷ ss) h = ap (option_map (next a)) (first_short n ss (omega arith))

pub cut_there : (k count : ℕ) (ss : List Statement) → k + count ≤ length ss → cut k count ss ≡ Some (block (take count (drop k ss)))
cut_there zero count ss h = first_there count ss (omega arith)
cut_there (suc k) count [] h = absurd (omega arith)
cut_there (suc k) count (a ∷ ss) h = cut_there k count ss (omega arith)

pub cut_short : (k count : ℕ) (ss : List Statement) → length ss < k + count → cut k count ss ≡ None
cut_short zero count ss h = first_short count ss (omega arith)
cut_short (suc k) count [] h = refl
cut_short (suc k) count (a ∷ ss) h = cut_short k count ss (omega arith)

piece_round : (g : Context → Context) (x : Option Opened) → piece_of (option_map (λ (o : Opened). record { around = g o.around; piece = o.piece }) x) ≡ piece_of x
piece_round g None = refl
piece_round g (Some o) = refl

parted_cut : (count : ℕ) (ss : List Statement) → piece_of (option_map (λ (p : Block × Block). record { around = Here p.1; piece = p.0 }) (parted count (block ss))) ≡ first_so_many count ss
parted_cut zero ss = refl
parted_cut (suc n) [] = refl
parted_cut (suc n) (a ∷ ss) = step (parted n (block ss)) ∙ ap (option_map (next a)) (parted_cut n ss)
  where
    step : (x : Option (Block × Block)) → piece_of (option_map (λ (p : Block × Block). record { around = Here p.1; piece = p.0 }) (option_map (λ (p : Block × Block). (next a p.0, p.1)) x)) ≡ option_map (next a) (piece_of (option_map (λ (p : Block × Block). record { around = Here p.1; piece = p.0 }) x))
    step None = refl
    step (Some p) = refl

last_cut : (k count : ℕ) (ss : List Statement) → piece_of (past k (λ c. option_map (λ (p : Block × Block). record { around = Here p.1; piece = p.0 }) (parted count c)) (block ss)) ≡ cut k count ss
last_cut zero count ss = parted_cut count ss
last_cut (suc k) count [] = refl
last_cut (suc k) count (a ∷ ss) = piece_round (After a) (past k (λ c. option_map (λ (p : Block × Block). record { around = Here p.1; piece = p.0 }) (parted count c)) (block ss)) ∙ last_cut k count ss

into_piece : (f : Block → Option Opened) (which : Branch) (a : Statement) (b : Block) → piece_of (into which f (next a b)) ≡ option_and_then (λ c. piece_of (f c)) (branch_of which a)
into_piece f Main (For i lo hi c) b = piece_round (λ o. InLoop i lo hi o b) (f c)
into_piece f Main (If t c d) b = piece_round (λ o. InThen t o d b) (f c)
into_piece f Else (If t c d) b = piece_round (λ o. InElse t c o b) (f d)
into_piece f _ _ b = refl

into_end : (f : Block → Option Opened) (which : Branch) → piece_of (into which f end) ≡ None
into_end f Main = refl
into_end f Else = refl

past_into : (f : Block → Option Opened) (which : Branch) (k : ℕ) (ss : List Statement) → piece_of (past k (into which f) (block ss)) ≡ option_and_then (λ c. piece_of (f c)) (option_and_then (branch_of which) (slice_get ss k))
past_into f which zero [] = into_end f which
past_into f which zero (a ∷ ss) = into_piece f which a (block ss)
past_into f which (suc k) [] = refl
past_into f which (suc k) (a ∷ ss) = piece_round (After a) (past k (into which f) (block ss)) ∙ past_into f which k ss

-- the piece that the rest of a path leads to, from the statement of a number in a block
abbrev pub piece_from : ℕ → Path → ℕ → List Statement → Option Block
piece_from count [] k ss = cut k count ss
piece_from count (t ∷ path) k ss =
    option_and_then (λ b. piece_from count path t.index (statements b))
    (option_and_then (branch_of t.branch) (slice_get ss k))

opened_from : (count : ℕ) (s : Step) (path : Path) (ss : List Statement)
    → piece_of (opened_in count (s ∷ path) (block ss)) ≡ piece_from count path s.index ss
opened_from count s [] ss = last_cut s.index count ss
opened_from count s (t ∷ path) ss =
    past_into (opened_in count (t ∷ path)) t.branch s.index ss
    ∙ go (λ b. opened_from count t path (statements b))
    (option_and_then (branch_of t.branch) (slice_get ss s.index))
  where
    go : ((b : Block) → piece_of (opened_in count (t ∷ path) (block (statements b))) ≡ piece_from count path t.index (statements b))
        → (x : Option Block) → option_and_then (λ b. piece_of (opened_in count (t ∷ path) b)) x
        ≡ option_and_then (λ b. piece_from count path t.index (statements b)) x
    go inner None = refl
    go inner (Some b) =
        ap (λ z. piece_of (opened_in count (t ∷ path) z)) (sym (block_is b)) ∙ inner b

-- ---- the way along a path

module _ (unit : Program) (p : ℕ) (path : Path) (count : ℕ) (q : Procedure)
    (steps rest : List declared.Step) (s : declared.Step) (same : map step_taken steps ≡ path)
    (split : steps ≡ s ∷ rest) (found : slice_get unit.procedures p ≡ Some q) where
  is_opened : piece_at unit p path count
      ≡ piece_of (opened count (step_taken s ∷ map step_taken rest) q.body)
  is_opened =
      ap (λ z. piece_at unit p z count) (sym same ∙ ap (map step_taken) split)
      ∙ ap (option_and_then (λ (r : Procedure). piece_of (opened count (step_taken s ∷ map step_taken rest) r.body))) found

  into_branch : (w : Branch) → (step_taken s).branch ≡ w → piece_at unit p path count
      ≡ piece_of (elim w as (λ w. Option Opened) [
        | Main ↦ opened_in count (step_taken s ∷ map step_taken rest) q.body
        | Else ↦ None
      ])
  into_branch w e =
      is_opened
      ∙ ap (λ (v : Branch). piece_of (elim v as (λ v. Option Opened) [
        | Main ↦ opened_in count (step_taken s ∷ map step_taken rest) q.body
        | Else ↦ None
      ])) e

  -- the first step is into the body
  pub way_begins : (ss : List Statement) → q.body ≡ block ss → (step_taken s).branch ≡ Main
      → piece_from count (map step_taken rest) s.index ss ≡ piece_at unit p path count
  way_begins ss body main =
      sym (into_branch Main main
      ∙ ap (λ b. piece_of (opened_in count (step_taken s ∷ map step_taken rest) b)) body
      ∙ opened_from count (step_taken s) (map step_taken rest) ss)

  pub no_way : (step_taken s).branch ≡ Else → piece_at unit p path count ≡ None
  no_way other = into_branch Else other

-- what stands where there is no step
abbrev pub no_step : declared.Step
no_step = record { branch = which.Main; index = 0 }

module _ (count : ℕ) (steps : List declared.Step) (i k : ℕ) (ss : List Statement)
    (whole : Option Block) (inside : i < length steps)
    (so_far : piece_from count (map step_taken (drop i steps)) k ss ≡ whole) where
  abbrev step : Step
  step = step_taken (get_or steps i no_step)

  abbrev rest : Path
  rest = map step_taken (drop (i + 1) steps)

  steps_split : drop i steps ≡ get_or steps i no_step ∷ drop (i + 1) steps
  steps_split =
      drop-cons steps i no_step inside
      ∙ ap (λ n. get_or steps i no_step ∷ drop n steps) (sym (add-one i))

  by_branch : (x : Option Block) → option_and_then (branch_of step.branch) (slice_get ss k) ≡ x
      → option_and_then (λ b. piece_from count rest step.index (statements b)) x ≡ whole
  by_branch x e =
      ap (option_and_then (λ b. piece_from count rest step.index (statements b))) (sym e)
      ∙ ap (λ z. piece_from count (map step_taken z) k ss) (sym steps_split)
      ∙ so_far

  -- one step more
  pub way_goes : (inner : List Statement) (a : Statement) → slice_get ss k ≡ Some a
      → branch_of step.branch a ≡ Some (block inner) → piece_from count rest step.index inner ≡ whole
  way_goes inner a e f =
      ap (piece_from count rest step.index) (sym (statements_are inner))
      ∙ by_branch (Some (block inner)) (ap (option_and_then (branch_of step.branch)) e ∙ f)

  -- there is no such statement, or it has no such branch
  pub way_ends : slice_get ss k ≡ None → whole ≡ None
  way_ends e = sym (by_branch None (ap (option_and_then (branch_of step.branch)) e))

  pub way_breaks : (a : Statement) → slice_get ss k ≡ Some a → branch_of step.branch a ≡ None
      → whole ≡ None
  way_breaks a e f = sym (by_branch None (ap (option_and_then (branch_of step.branch)) e ∙ f))

-- ---- what an answer says

pub match_none : {X : Type 0} (r : Option X) (A : Type 0) (P : X → Type 0) → r ≡ None → A → MatchOption r A P
match_none r A P e a = subst (λ z. MatchOption z A P) (sym e) a

pub match_map : {X : Type 0} (r : Option X) (A B : Type 0) (P Q : X → Type 0) → (A → B) → ((x : X) → P x → Q x) → MatchOption r A P → MatchOption r B Q
match_map None A B P Q f g h = f h
match_map (Some x) A B P Q f g h = g x h

pub range_is : (xs ys : List Statement) (from to k n : ℕ) → ys ≡ xs → from ≡ k → to ≡ k + n → take n (drop k xs) ≡ slice_range ys from to
range_is xs ys from to k n e f g =
    let count : n ≡ to - from = omega arith in
    ap₂ (λ m zs. take m zs) count (ap₂ drop (sym f) (sym e))
