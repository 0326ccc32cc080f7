-- Whether a piece is all of its block, a step of its path at a time.
use Rattle.std.proofs.Common.{◌≡◌, ◌==◌, ◌&&◌, ℕ, zero, suc, ◌+◌, ◌<◌, ◌≤◌, Bool, true, false, List, [], ◌∷◌, length, Option, Some, None, refl, ap, sym, ◌∙◌, arith}
use Rattle.std.proofs.lemmas.Bool.Decides.{nat_tests}
use Rattle.std.specs.Prelude.{slice_get, option_map, option_and_then, MatchOption}
use Rattle.exo_tree.specs.Tree.{Statement, If, For, Block, end, next, block}
use Rattle.exo_tree.specs.Context.{Context, After, InLoop, InThen, InElse}
use Rattle.exo_tree.specs.Places.{Branch, Main, Else, Step, Path, Opened, parted, past, into, opened_in}
use Rattle.exo_tree.specs.Branches.{branch_of}
use Rattle.exo_tree.proofs.Openings.{around_by, with_rest}
use Rattle.exo_meaning.specs.Units.{is_empty}
use Rattle.tree_edits.specs.Made.Passes.{has_nothing, is_alone}
use Rattle.tree_edits.proofs.Inside.{inside}

abbrev tested : Bool → Option Opened → Option Bool
tested first x = option_map (λ (o : Opened). has_nothing first o.around) x

tested_after : (first : Bool) (a : Statement) (x : Option Opened)
    → tested first (around_by (After a) x) ≡ tested false x
tested_after first a None = refl
tested_after first a (Some o) = refl

tested_in : (first : Bool) (g : Context → Context) → ((c : Context) → has_nothing first (g c) ≡ has_nothing true c)
    → (x : Option Opened) → tested first (around_by g x) ≡ tested true x
tested_in first g h None = refl
tested_in first g h (Some o) = ap Some (h o.around)

into_end : (first : Bool) (which : Branch) (f : Block → Option Opened) → tested first (into which f end) ≡ None
into_end first Main f = refl
into_end first Else f = refl

into_next : (first : Bool) (f : Block → Option Opened) (which : Branch) (a : Statement) (b : Block)
    → tested first (into which f (next a b)) ≡ option_and_then (λ c. tested true (f c)) (branch_of which a)
into_next first f Main (For i lo hi c) b = tested_in first (λ o. InLoop i lo hi o b) (λ o. refl) (f c)
into_next first f Main (If t c d) b = tested_in first (λ o. InThen t o d b) (λ o. refl) (f c)
into_next first f Else (If t c d) b = tested_in first (λ o. InElse t c o b) (λ o. refl) (f d)
into_next first f _ _ b = refl

past_into : (first : Bool) (f : Block → Option Opened) (which : Branch) (k : ℕ) (ss : List Statement)
    → tested first (past k (into which f) (block ss))
    ≡ option_and_then (λ a. option_and_then (λ c. tested true (f c)) (branch_of which a)) (slice_get ss k)
past_into first f which zero [] = into_end first which f
past_into first f which zero (a ∷ ss) = into_next first f which a (block ss)
past_into first f which (suc k) [] = refl
past_into first f which (suc k) (a ∷ ss) =
    tested_after first a (past k (into which f) (block ss)) ∙ past_into false f which k ss

abbrev pub alone_in : ℕ → Path → Block → Option Bool
alone_in count path b = option_map (λ (o : Opened). is_alone o.around) (opened_in count path b)

pub alone_more : (count : ℕ) (s t : Step) (path : Path) (ss : List Statement)
    → alone_in count (s ∷ t ∷ path) (block ss)
    ≡ option_and_then (λ a. option_and_then (alone_in count (t ∷ path)) (branch_of t.branch a)) (slice_get ss s.index)
alone_more count s t path ss = past_into true (opened_in count (t ∷ path)) t.branch s.index ss

-- ---- statements of the block itself

abbrev rest_empty : Option (Block × Block) → Option Bool
rest_empty x = option_map (λ (p : Block × Block). is_empty p.1) x

tested_rest : (first : Bool) (x : Option (Block × Block))
    → tested first (with_rest x) ≡ option_map (λ (e : Bool). first && e) (rest_empty x)
tested_rest first None = refl
tested_rest first (Some p) = refl

parted_more : (a : Statement) (x : Option (Block × Block))
    → rest_empty (option_map (λ (p : Block × Block). (next a p.0, p.1)) x) ≡ rest_empty x
parted_more a None = refl
parted_more a (Some p) = refl

parted_none : (count : ℕ) (ss : List Statement) → length ss < count → rest_empty (parted count (block ss)) ≡ None
parted_none zero ss h = absurd (omega (arith, h))
parted_none (suc n) [] h = refl
parted_none (suc n) (a ∷ ss) h =
    parted_more a (parted n (block ss)) ∙ parted_none n ss (omega (arith, h))

not_first : (k : ℕ) → (suc k == 0) ≡ false
not_first k = grind (arith, nat_tests)

none_of_some : (k : ℕ) → (0 == suc k) ≡ false
none_of_some k = grind (arith, nat_tests)

one_more : (n m : ℕ) → (n == m) ≡ (suc n == suc m)
one_more n m = by (n == m) refl
  where
    same : (a b : ℕ) → (a == b) ≡ true → true ≡ (suc a == suc b)
    same a b h = grind (arith, nat_tests)

    other : (a b : ℕ) → (a == b) ≡ false → false ≡ (suc a == suc b)
    other a b h = grind (arith, nat_tests)

    by : (t : Bool) → (n == m) ≡ t → (n == m) ≡ (suc n == suc m)
    by true h = h ∙ same n m h
    by false h = h ∙ other n m h

parted_some : (count : ℕ) (ss : List Statement) → count ≤ length ss
    → rest_empty (parted count (block ss)) ≡ Some (count == length ss)
parted_some zero [] h = refl
parted_some zero (a ∷ ss) h = ap Some (sym (none_of_some (length ss)))
parted_some (suc n) [] h = absurd (omega (arith, h))
parted_some (suc n) (a ∷ ss) h =
    parted_more a (parted n (block ss)) ∙ parted_some n ss (omega (arith, h))
    ∙ ap Some (one_more n (length ss))

pub past_none : (first : Bool) (count k : ℕ) (ss : List Statement) → length ss < k + count
    → tested first (past k (λ c. with_rest (parted count c)) (block ss)) ≡ None
past_none first count zero ss h =
    tested_rest first (parted count (block ss))
    ∙ ap (option_map (λ (e : Bool). first && e)) (parted_none count ss (omega (arith, h)))
past_none first count (suc k) [] h = refl
past_none first count (suc k) (a ∷ ss) h =
    tested_after first a (past k (λ c. with_rest (parted count c)) (block ss))
    ∙ past_none false count k ss (omega (arith, h))

past_some : (first : Bool) (count k : ℕ) (ss : List Statement) → k + count ≤ length ss
    → tested first (past k (λ c. with_rest (parted count c)) (block ss))
    ≡ Some (first && ((k == 0) && (count == length ss)))
past_some first count zero ss h =
    tested_rest first (parted count (block ss))
    ∙ ap (option_map (λ (e : Bool). first && e)) (parted_some count ss (omega (arith, h)))
past_some first count (suc k) [] h = absurd (omega (arith, h))
past_some true count (suc k) (a ∷ ss) h =
    tested_after true a (past k (λ c. with_rest (parted count c)) (block ss))
    ∙ past_some false count k ss (omega (arith, h))
    ∙ sym (ap (λ (t : Bool). Some (t && (count == length (a ∷ ss)))) (not_first k))
past_some false count (suc k) (a ∷ ss) h =
    tested_after false a (past k (λ c. with_rest (parted count c)) (block ss))
    ∙ past_some false count k ss (omega (arith, h))

pub alone_last : (count : ℕ) (s : Step) (ss : List Statement) → s.index + count ≤ length ss
    → alone_in count (s ∷ []) (block ss) ≡ Some ((s.index == 0) && (count == length ss))
alone_last count s ss h = past_some true count s.index ss h

pub alone_last_none : (count : ℕ) (s : Step) (ss : List Statement) → length ss < s.index + count
    → alone_in count (s ∷ []) (block ss) ≡ None
alone_last_none count s ss h = past_none true count s.index ss h

-- ---- by what the code has found of the first step

pub here_is : (count : ℕ) (s : Step) (path rest : Path) (ss : List Statement) (x : Option Bool)
    → path ≡ s ∷ rest → slice_get rest 0 ≡ None
    → MatchOption x (length ss < s.index + count) (λ alone. (s.index + count ≤ length ss) × (alone ≡ (s.index == 0) && (count == length ss)))
    → x ≡ alone_in count path (block ss)
here_is count s path [] ss None e f h =
    sym (ap (λ (p : Path). alone_in count p (block ss)) e ∙ alone_last_none count s ss h)
here_is count s path [] ss (Some b) e f h =
    ap Some h.1 ∙ sym (ap (λ (p : Path). alone_in count p (block ss)) e ∙ alone_last count s ss h.0)
here_is count s path (t ∷ rest) ss x e f h = cc

pub inner_is : (count : ℕ) (s t : Step) (path rest : Path) (ss : List Statement) (x : Option Block)
    → path ≡ s ∷ rest → slice_get rest 0 ≡ Some t
    → option_and_then (branch_of t.branch) (slice_get ss s.index) ≡ x
    → alone_in count path (block ss) ≡ option_and_then (alone_in count rest) x
inner_is count = inside (alone_in count) (alone_more count)
