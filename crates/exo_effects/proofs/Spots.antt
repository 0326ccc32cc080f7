-- What is opened at a path, a step at a time, and what the names on the way stand for.
use Rattle.std.proofs.Common.{◌≡◌, ◌<◌, ◌≤◌, ◌+◌, ◌-◌, ℕ, zero, suc, List, [], ◌∷◌, length, take, drop}
use Rattle.std.proofs.Common.{Option, Some, None, option_map, length-drop, add-one, refl, sym, ap, ◌∙◌, subst, arith}
use Rattle.std.specs.Prelude.{slice_get, slice_range}
use Rattle.exo_tree.specs.Tree.{Statement, If, For, Block, end, next, block}
use Rattle.exo_tree.specs.Context.{Here, After, InLoop, InThen, InElse}
use Rattle.exo_tree.specs.Places.{Branch, Main, Else, Step, Path, Opened, parted, past, into, opened_in}
use Rattle.exo_tree.specs.Branches.{branch_of}
use Rattle.meaning_laws.proofs.Parts.{none_some}
use Rattle.exo_effects.specs.Parts.{Parts, passed, parts_at}
use Rattle.exo_effects.specs.declared.piece.PieceStart.{PieceStart}
use Rattle.exo_effects.specs.PlainSpots.{passed_all, LeadsTo}

-- ---- one more statement passed

one_more : (ss : List Statement) (k : ℕ) (a : Statement) (rest : List Statement) (parts : Parts)
    → drop k ss ≡ a ∷ rest
    → passed_all (take (suc k) ss) parts ≡ passed a (passed_all (take k ss) parts)
one_more [] zero a rest parts e = absurd (cc)
one_more [] (suc k) a rest parts e = absurd (cc)
one_more (b ∷ ss) zero a rest parts e = ap (λ c. passed c parts) (head_same b a ss rest e)
  where
    head_same : (b a : Statement) (ss rest : List Statement) → b ∷ ss ≡ a ∷ rest → b ≡ a
    head_same b a ss rest e = cc
one_more (b ∷ ss) (suc k) a rest parts e = one_more ss k a rest (passed b parts) e

pub one_passed : (ss : List Statement) (k : ℕ) (a : Statement) (rest : List Statement) (parts : Parts)
    → drop k ss ≡ a ∷ rest
    → passed_all (take (k + 1) ss) parts ≡ passed a (passed_all (take k ss) parts)
one_passed ss k a rest parts e =
    ap (λ n. passed_all (take n ss) parts) (add-one k) ∙ one_more ss k a rest parts e

-- ---- behind the first statements of a block

abbrev after : Statement → Option Opened → Option Opened
after a x = option_map (λ (o : Opened). record { around = After a o.around; piece = o.piece }) x

pub past_missing : (find : Block → Option Opened) (k : ℕ) (ss : List Statement)
    → length ss < k → past k find (block ss) ≡ None
past_missing find zero ss l = absurd (omega arith)
past_missing find (suc k) [] l = refl
past_missing find (suc k) (a ∷ ss) l = ap (after a) (past_missing find k ss (omega arith))

pub past_none : (find : Block → Option Opened) (k : ℕ) (ss : List Statement)
    → k ≤ length ss → find (block (drop k ss)) ≡ None → past k find (block ss) ≡ None
past_none find zero ss l e = e
past_none find (suc k) [] l e = absurd (omega arith)
past_none find (suc k) (a ∷ ss) l e = ap (after a) (past_none find k ss (omega arith) e)

-- the names of what is passed are told where it is opened
abbrev Passes : Option Opened → Opened → Parts → Parts → Type 0
Passes x o old before = (q : Opened) × (x ≡ Some q) × (q.piece ≡ o.piece) × (parts_at q.around old ≡ parts_at o.around before)

past_some : (find : Block → Option Opened) (k : ℕ) (ss : List Statement) (o : Opened) (old : Parts)
    → k ≤ length ss → find (block (drop k ss)) ≡ Some o
    → Passes (past k find (block ss)) o old (passed_all (take k ss) old)
past_some find zero ss o old l e = (o, e, refl, refl)
past_some find (suc k) [] o old l e = absurd (omega arith)
past_some find (suc k) (a ∷ ss) o old l e =
    let p = past_some find k ss o (passed a old) (omega arith) e in
    (record { around = After a p.0.around; piece = p.0.piece }, ap (after a) p.1, p.2, p.3)

-- ---- the first so many statements

parted_list : (n : ℕ) (ss : List Statement) → n ≤ length ss
    → parted n (block ss) ≡ Some (block (take n ss), block (drop n ss))
parted_list zero ss h = refl
parted_list (suc n) [] h = absurd (omega arith)
parted_list (suc n) (a ∷ ss) h =
    ap (option_map (λ (p : Block × Block). (next a p.0, p.1))) (parted_list n ss (omega arith))

parted_none : (n : ℕ) (ss : List Statement) → length ss < n → parted n (block ss) ≡ None
parted_none zero ss h = absurd (omega arith)
parted_none (suc n) [] h = refl
parted_none (suc n) (a ∷ ss) h =
    ap (option_map (λ (p : Block × Block). (next a p.0, p.1))) (parted_none n ss (omega arith))

abbrev here : Option (Block × Block) → Option Opened
here x = option_map (λ (p : Block × Block). record { around = Here p.1; piece = p.0 }) x

-- ---- the last step

module _ (count : ℕ) (s : Step) (ss : List Statement) where
  abbrev find_last : Block → Option Opened
  find_last c = here (parted count c)

  pub last_missing : length ss < s.index + count → opened_in count (s ∷ []) (block ss) ≡ None
  last_missing h = short s.index ss h
    where
      short : (k : ℕ) (ss : List Statement) → length ss < k + count → past k find_last (block ss) ≡ None
      short zero ss h = ap here (parted_none count ss (omega (arith, h)))
      short (suc k) [] h = refl
      short (suc k) (a ∷ ss) h = ap (after a) (short k ss (omega arith))

  pub last_there : (spot : PieceStart) (old new : Parts) → spot.block.now ≡ ss → spot.from ≡ s.index
      → s.index + count ≤ length ss → new ≡ passed_all (take s.index ss) old
      → LeadsTo count (opened_in count (s ∷ []) (block ss)) (Some spot) old new
  last_there spot old new b f l e =
      let piece : Opened = record { around = Here (block (drop count (drop s.index ss))); piece = block (take count (drop s.index ss)) } in
      let found : find_last (block (drop s.index ss)) ≡ Some piece =
      ap here (parted_list count (drop s.index ss) (simp length-drop (omega arith))) in
      let p = past_some find_last s.index ss piece old (omega arith) found in
      let same : slice_range ss s.index (s.index + count) ≡ take count (drop s.index ss) = ap (λ n. take n (drop s.index ss)) (less s.index count) in (
        p.0,
        p.1,
        (
          subst (λ n. n + count ≤ length spot.block.now) (sym f) (subst (λ l. s.index + count ≤ length l) (sym b) l),
          p.2 ∙ ap block (sym same) ∙ (λ i. block (slice_range (sym b i) (sym f i) (sym f i + count))),
        ),
        e ∙ sym p.3,
      )
    where
      less : (k n : ℕ) → (k + n) - k ≡ n
      less k n = omega arith

-- ---- a step and those that follow it

some_same : {A : Type 0} (a b : A) → Some a ≡ Some b → a ≡ b
some_same a b e = cc

into_end : (find : Block → Option Opened) (which : Branch) → into which find end ≡ None
into_end find Main = refl
into_end find Else = refl

into_none : (find : Block → Option Opened) (which : Branch) (a : Statement) (rest : Block)
    → branch_of which a ≡ None → into which find (next a rest) ≡ None
into_none find Main (For i lo hi b) rest e = absurd (none_some (sym e))
into_none find Main (If c a b) rest e = absurd (none_some (sym e))
into_none find Else (If c a b) rest e = absurd (none_some (sym e))
into_none find which a rest e = refl

into_lost : (find : Block → Option Opened) (which : Branch) (a : Statement) (rest inner : Block)
    → branch_of which a ≡ Some inner → find inner ≡ None → into which find (next a rest) ≡ None
into_lost find Main (For i lo hi b) rest inner e h =
    ap (option_map (λ (o : Opened). record { around = InLoop i lo hi o.around rest; piece = o.piece })) (ap find (some_same b inner e) ∙ h)
into_lost find Main (If t a b) rest inner e h =
    ap (option_map (λ (o : Opened). record { around = InThen t o.around b rest; piece = o.piece })) (ap find (some_same a inner e) ∙ h)
into_lost find Else (If t a b) rest inner e h =
    ap (option_map (λ (o : Opened). record { around = InElse t a o.around rest; piece = o.piece })) (ap find (some_same b inner e) ∙ h)
into_lost find which a rest inner e h = absurd (none_some e)

-- no name is passed on the way into a branch
into_some : (find : Block → Option Opened) (which : Branch) (a : Statement) (rest inner : Block) (o : Opened) (old : Parts)
    → branch_of which a ≡ Some inner → find inner ≡ Some o
    → Passes (into which find (next a rest)) o old old
into_some find Main (For i lo hi b) rest inner o old e h = (
  record { around = InLoop i lo hi o.around rest; piece = o.piece },
  ap (option_map (λ (o : Opened). record { around = InLoop i lo hi o.around rest; piece = o.piece })) (ap find (some_same b inner e) ∙ h),
  refl,
  refl,
)
into_some find Main (If t a b) rest inner o old e h = (
  record { around = InThen t o.around b rest; piece = o.piece },
  ap (option_map (λ (o : Opened). record { around = InThen t o.around b rest; piece = o.piece })) (ap find (some_same a inner e) ∙ h),
  refl,
  refl,
)
into_some find Else (If t a b) rest inner o old e h = (
  record { around = InElse t a o.around rest; piece = o.piece },
  ap (option_map (λ (o : Opened). record { around = InElse t a o.around rest; piece = o.piece })) (ap find (some_same b inner e) ∙ h),
  refl,
  refl,
)
into_some find which a rest inner o old e h = absurd (none_some e)

module _ (count : ℕ) (s t : Step) (path : Path) (ss : List Statement) where
  abbrev find_next : Block → Option Opened
  find_next = opened_in count (t ∷ path)

  pub step_missing : slice_get ss s.index ≡ None → opened_in count (s ∷ t ∷ path) (block ss) ≡ None
  step_missing e = missing s.index ss e
    where
      missing : (k : ℕ) (ss : List Statement) → slice_get ss k ≡ None
          → past k (into t.branch find_next) (block ss) ≡ None
      missing zero [] e = into_end find_next t.branch
      missing zero (a ∷ ss) e = absurd (none_some (sym e))
      missing (suc k) [] e = refl
      missing (suc k) (a ∷ ss) e = ap (after a) (missing k ss e)

  pub branch_missing : (a : Statement) → s.index < length ss → drop s.index ss ≡ a ∷ drop (s.index + 1) ss
      → branch_of t.branch a ≡ None → opened_in count (s ∷ t ∷ path) (block ss) ≡ None
  branch_missing a l d e =
      past_none (into t.branch find_next) s.index ss (omega arith)
      (ap (λ l. into t.branch find_next (block l)) d ∙ into_none find_next t.branch a (block (drop (s.index + 1) ss)) e)

  pub step_leads : (a : Statement) (inner : Block) (found : Option PieceStart) (old middle new : Parts)
      → s.index < length ss → drop s.index ss ≡ a ∷ drop (s.index + 1) ss
      → branch_of t.branch a ≡ Some inner
      → middle ≡ passed_all (take s.index ss) old
      → LeadsTo count (find_next inner) found middle new
      → LeadsTo count (opened_in count (s ∷ t ∷ path) (block ss)) found old new
  step_leads a inner None old middle new l d e m h =
      past_none (into t.branch find_next) s.index ss (omega arith)
      (ap (λ l. into t.branch find_next (block l)) d ∙ into_lost find_next t.branch a (block (drop (s.index + 1) ss)) inner e h)
  step_leads a inner (Some spot) old middle new l d e m h =
      let p = into_some find_next t.branch a (block (drop (s.index + 1) ss)) inner h.0 middle e h.1 in
      let q = past_some (into t.branch find_next) s.index ss p.0 old (omega arith) (ap (λ l. into t.branch find_next (block l)) d ∙ p.1) in (
        q.0,
        q.1,
        (h.2.0, q.2 ∙ p.2 ∙ h.2.1),
        h.3 ∙ sym p.3 ∙ ap (parts_at p.0.around) m ∙ sym q.3,
      )

pub there_dropped : (ss : List Statement) (k : ℕ) (a : Statement) → slice_get ss k ≡ Some a
    → (k < length ss) × (drop k ss ≡ a ∷ drop (k + 1) ss)
there_dropped [] k a e = absurd (none_some e)
there_dropped (b ∷ ss) zero a e = (omega arith, ap (λ c. c ∷ ss) (some_same b a e))
there_dropped (b ∷ ss) (suc k) a e =
    let p = there_dropped ss k a e in
    (omega (arith, p.0), p.1 ∙ ap (λ n. a ∷ drop n (b ∷ ss)) (one_behind k))
  where
    one_behind : (k : ℕ) → suc (k + 1) ≡ suc k + 1
    one_behind k = omega arith
