-- The fields that are live at a place, a step of its path at a time.
use Rattle.std.proofs.Common.{◌≡◌, ◌<◌, ◌≤◌, ◌+◌, ℕ, zero, suc, Bool, true, false, List, [], ◌∷◌, length}
use Rattle.std.proofs.Common.{drop, Option, Some, None, option_map, refl, sym, ap, ◌∙◌, subst, arith}
use Rattle.std.specs.Prelude.{slice_get}
use Rattle.exo_tree.specs.Tree.{Statement, If, For, Block, end, next, block}
use Rattle.exo_tree.specs.Context.{Here, After, InLoop, InThen, InElse, fill}
use Rattle.exo_tree.specs.Places.{Branch, Main, Else, Step, Path, Opened, past, into, opened_in}
use Rattle.exo_tree.specs.Branches.{branch_of}
use Rattle.meaning_laws.proofs.Parts.{none_some}
use Rattle.meaning_laws.proofs.Places.{opened_law}
use Rattle.config_laws.specs.FieldRule.{Side, Before, Behind, gap}
use Rattle.config_live.specs.declared.table.LiveTable.{LiveTable}
use Rattle.config_live.specs.declared.way.Way.{Way}
use Rattle.config_live.specs.Walks.{GoesOver}
use Rattle.config_live.specs.Places.{index_beside, Leaves, Reaches}
use Rattle.config_live.proofs.Branches.{into_reaches}

module _ (table : LiveTable) (old new : Way) (had has : List ℕ) where
  -- ---- behind the first statements of a block

  pub after_one : (a : Statement) (x : Option Opened) (found : Bool)
      → Reaches table x found old new had has
      → Reaches table (option_map (λ (o : Opened). record { around = After a o.around; piece = o.piece }) x) found old new had has
  after_one a None found h = h
  after_one a (Some o) found h = h

  pub past_reaches : (find : Block → Option Opened) (k : ℕ) (ss : List Statement) (found : Bool)
      → k ≤ length ss → Reaches table (find (block (drop k ss))) found old new had has
      → Reaches table (past k find (block ss)) found old new had has
  past_reaches find zero ss found l h = h
  past_reaches find (suc k) [] found l h = absurd (omega arith)
  past_reaches find (suc k) (a ∷ ss) found l h =
      after_one a (past k find (block ss)) found (past_reaches find k ss found (omega arith) h)

  pub past_short : (find : Block → Option Opened) (k : ℕ) (ss : List Statement)
      → length ss < k → Reaches table (past k find (block ss)) false old new had has
  past_short find zero ss l = absurd (omega arith)
  past_short find (suc k) [] l = refl
  past_short find (suc k) (a ∷ ss) l =
      after_one a (past k find (block ss)) false (past_short find k ss (omega arith))

  -- ---- into a statement

  into_end : (find : Block → Option Opened) (which : Branch)
      → Reaches table (into which find end) false old new had has
  into_end find Main = refl
  into_end find Else = refl

  pub into_none : (find : Block → Option Opened) (which : Branch) (a : Statement) (rest : Block)
      → branch_of which a ≡ None → Reaches table (into which find (next a rest)) false old new had has
  into_none find Main (For i lo hi b) rest e = absurd (none_some (sym e))
  into_none find Main (If c a b) rest e = absurd (none_some (sym e))
  into_none find Else (If c a b) rest e = absurd (none_some (sym e))
  into_none find which a rest e = refl

  pub not_there : (find : Block → Option Opened) (which : Branch) (k : ℕ) (ss : List Statement)
      → slice_get ss k ≡ None → Reaches table (past k (into which find) (block ss)) false old new had has
  not_there find which zero [] e = into_end find which
  not_there find which zero (a ∷ ss) e = absurd (none_some (sym e))
  not_there find which (suc k) [] e = refl
  not_there find which (suc k) (a ∷ ss) e =
      after_one a (past k (into which find) (block ss)) false (not_there find which k ss e)

  lost : (x : Option Opened) (make : Opened → Opened)
      → Reaches table x false old new had has
      → Reaches table (option_map make x) false old new had has
  lost None make h = h
  lost (Some o) make h = absurd (cc (h.0))

  some_same : {A : Type 0} (a b : A) → Some a ≡ Some b → a ≡ b
  some_same a b e = cc

  pub into_lost : (find : Block → Option Opened) (which : Branch) (a : Statement) (rest inner : Block)
      → branch_of which a ≡ Some inner
      → Reaches table (find inner) false old new had has
      → Reaches table (into which find (next a rest)) false old new had has
  into_lost find Main (For i lo hi b) rest inner e h =
      lost (find b) (λ o. record { around = InLoop i lo hi o.around rest; piece = o.piece })
      (subst (λ z. Reaches table (find z) false old new had has) (sym (some_same b inner e)) h)
  into_lost find Main (If t a b) rest inner e h =
      lost (find a) (λ o. record { around = InThen t o.around b rest; piece = o.piece })
      (subst (λ z. Reaches table (find z) false old new had has) (sym (some_same a inner e)) h)
  into_lost find Else (If t a b) rest inner e h =
      lost (find b) (λ o. record { around = InElse t a o.around rest; piece = o.piece })
      (subst (λ z. Reaches table (find z) false old new had has) (sym (some_same b inner e)) h)
  into_lost find which a rest inner e h = absurd (none_some e)

-- ---- the last step

module _ (table : LiveTable) (old new : Way) (had has : List ℕ) where
  pub last_there : (s : Step) (side : Side) (from : ℕ) (ss : List Statement)
      → from ≡ index_beside side s.index
      → from ≤ length ss
      → GoesOver table (block (drop from ss)) old new had has
      → Reaches table (opened_in 0 (gap (s ∷ []) side) (block ss)) true old new had has
  last_there s Before from ss e l h =
      subst (λ k. Reaches table (past k (λ c. Some (record { around = Here c; piece = end })) (block ss)) true old new had has) e
      (past_reaches table old new had has (λ c. Some (record { around = Here c; piece = end })) from ss true l (refl, h))
  last_there s Behind from ss e l h =
      subst (λ k. Reaches table (past k (λ c. Some (record { around = Here c; piece = end })) (block ss)) true old new had has) e
      (past_reaches table old new had has (λ c. Some (record { around = Here c; piece = end })) from ss true l (refl, h))

  pub last_missing : (s : Step) (side : Side) (from : ℕ) (ss : List Statement)
      → from ≡ index_beside side s.index
      → length ss < from
      → Reaches table (opened_in 0 (gap (s ∷ []) side) (block ss)) false old new had has
  last_missing s Before from ss e l =
      subst (λ k. Reaches table (past k (λ c. Some (record { around = Here c; piece = end })) (block ss)) false old new had has) e
      (past_short table old new had has (λ c. Some (record { around = Here c; piece = end })) from ss l)
  last_missing s Behind from ss e l =
      subst (λ k. Reaches table (past k (λ c. Some (record { around = Here c; piece = end })) (block ss)) false old new had has) e
      (past_short table old new had has (λ c. Some (record { around = Here c; piece = end })) from ss l)

-- ---- a step and those that follow it

pub gap_further : (s t : Step) (path : Path) (side : Side) (b : Block)
    → opened_in 0 (gap (s ∷ t ∷ path) side) b
    ≡ past s.index (into t.branch (opened_in 0 (gap (t ∷ path) side))) b
gap_further s t path Before b = refl
gap_further s t [] Behind b = refl
gap_further s t (u ∷ path) Behind b = refl

opens_any : (path : Path) (b : Block) (o : Opened) → opened_in 0 path b ≡ Some o
    → fill o.around o.piece ≡ b
opens_any [] b o e = absurd (none_some e)
opens_any (t ∷ []) b o e = opened_law 0 (record { branch = Main; index = t.index } ∷ []) b o e
opens_any (t ∷ u ∷ path) b o e = opened_law 0 (record { branch = Main; index = t.index } ∷ u ∷ path) b o e

module _ (table : LiveTable) (s t : Step) (path : Path) (side : Side) (ss : List Statement) where
  abbrev Whole : Bool → Way → Way → List ℕ → List ℕ → Type 0
  Whole = Reaches table (opened_in 0 (gap (s ∷ t ∷ path) side) (block ss))

  abbrev find : Block → Option Opened
  find = opened_in 0 (gap (t ∷ path) side)

  pub step_missing : (old new : Way) (had has : List ℕ)
      → slice_get ss s.index ≡ None → Whole false old new had has
  step_missing old new had has e =
      subst (λ x. Reaches table x false old new had has) (sym (gap_further s t path side (block ss)))
      (not_there table old new had has find t.branch s.index ss e)

  -- what is found in a statement that is there
  in_statement : (found : Bool) (a : Statement) (old new : Way) (had has : List ℕ)
      → s.index < length ss
      → drop s.index ss ≡ a ∷ drop (s.index + 1) ss
      → Reaches table (into t.branch find (next a (block (drop (s.index + 1) ss)))) found old new had has
      → Whole found old new had has
  in_statement found a old new had has l d h =
      subst (λ x. Reaches table x found old new had has) (sym (gap_further s t path side (block ss)))
      (past_reaches table old new had has (into t.branch find) s.index ss found (omega arith)
      (subst (λ zs. Reaches table (into t.branch find (block zs)) found old new had has) (sym d) h))

  pub branch_missing : (a : Statement) (old new : Way) (had has : List ℕ)
      → s.index < length ss
      → drop s.index ss ≡ a ∷ drop (s.index + 1) ss
      → branch_of t.branch a ≡ None
      → Whole false old new had has
  branch_missing a old new had has l d e =
      in_statement false a old new had has l d
      (into_none table old new had has find t.branch a (block (drop (s.index + 1) ss)) e)

  pub step_lost : (a : Statement) (inner : Block) (old new : Way) (had has : List ℕ)
      → s.index < length ss
      → drop s.index ss ≡ a ∷ drop (s.index + 1) ss
      → branch_of t.branch a ≡ Some inner
      → Reaches table (find inner) false old new had has
      → Whole false old new had has
  step_lost a inner old new had has l d e h =
      in_statement false a old new had has l d
      (into_lost table old new had has find t.branch a (block (drop (s.index + 1) ss)) inner e h)

  pub step_there : (a : Statement) (inner : Block) (old mid new : Way) (had more has : List ℕ)
      → s.index < length ss
      → drop s.index ss ≡ a ∷ drop (s.index + 1) ss
      → branch_of t.branch a ≡ Some inner
      → Reaches table (find inner) true old mid had more
      → Leaves table ss s.index mid new more has
      → Whole true old new had has
  step_there a inner old mid new had more has l d e h k =
      in_statement true a old new had has l d
      (into_reaches table old mid new had more has find (opens_any (gap (t ∷ path) side)) t.branch a
      (block (drop (s.index + 1) ss)) inner e h (k a d))

-- an item that is there
pub there_dropped : (ss : List Statement) (k : ℕ) (a : Statement) → slice_get ss k ≡ Some a
    → (k < length ss) × (drop k ss ≡ a ∷ drop (k + 1) ss)
there_dropped [] zero a e = absurd (none_some e)
there_dropped [] (suc k) a e = absurd (none_some e)
there_dropped (b ∷ ss) zero a e = (omega arith, ap (λ z. z ∷ ss) (some_item b a e))
  where
    some_item : (a b : Statement) → Some a ≡ Some b → a ≡ b
    some_item a b e = cc
there_dropped (b ∷ ss) (suc k) a e =
    let r = there_dropped ss k a e in
    let further : suc (k + 1) ≡ suc k + 1 = omega arith in
    (let l = r.0 in omega arith, r.1 ∙ ap (λ n. a ∷ drop n (b ∷ ss)) further)
