-- Blocks with some statements replaced, by what the code has found of a path's first step.
use Rattle.std.proofs.Common.{◌≡◌, ℕ, zero, suc, ◌+◌, ◌-◌, ◌<◌, ◌≤◌, List, [], ◌∷◌, ◌++◌, length, take, drop, Option, Some, None, Result, Ok, Err, refl, ap, sym, ◌∙◌, arith, append_assoc, length-drop, add-one}
use Rattle.std.proofs.lemmas.List.{take_all}
use Rattle.std.proofs.lemmas.Option.{slice_get_within}
use Rattle.std.specs.Prelude.{slice_get, slice_range, option_map, option_and_then, MatchOption, IfOk, ok_or}
use Rattle.exo_tree.specs.Tree.{Statement, Block, next, joined, block}
use Rattle.exo_tree.specs.Places.{Step, Path}
use Rattle.exo_tree.specs.Branches.{branch_of, with_branch}
use Rattle.exo_tree.proofs.Openings.{replaced_in, replaced_last, replaced_last_none, replaced_more, replaced_more_none, joined_block}

-- what holds of each answer holds of this one
pub if_ok : {A E : Type 0} (P Q : A → Type 0) → ((x : A) → P x → Q x) → (r : Result A E) → IfOk r P → IfOk r Q
if_ok P Q f (Ok x) h = f x h
if_ok P Q f (Err e) h = h

pub range_to_end : (ss : List Statement) (k n : ℕ) → n ≡ length ss → slice_range ss k n ≡ drop k ss
range_to_end ss k n h = take_all (n - k) (drop k ss) (simp length-drop (omega arith))

pub get_at_drop : (ss rest : List Statement) (k : ℕ) (s : Statement) → drop k ss ≡ s ∷ rest → slice_get ss k ≡ Some s
get_at_drop [] rest zero s h = cc
get_at_drop [] rest (suc k) s h = cc
get_at_drop (t ∷ ss) rest zero s h = cc
get_at_drop (t ∷ ss) rest (suc k) s h = get_at_drop ss rest k s h

pub drop_at_get : (ss : List Statement) (k : ℕ) (s : Statement) → slice_get ss k ≡ Some s → drop k ss ≡ s ∷ drop (k + 1) ss
drop_at_get [] k s h = cc
drop_at_get (t ∷ ss) zero s h = cc
drop_at_get (t ∷ ss) (suc k) s h = drop_at_get ss k s h ∙ ap (λ n. s ∷ drop n ss) (add-one k) ∙ ap (λ n. s ∷ drop n (t ∷ ss)) (sym (add-one (suc k)))

-- a block with another statement at an index, as it is put together
pub inner_made : (ss rest made changed some all : List Statement) (k n : ℕ) (s a t : Statement) (f : Statement → Statement) → drop k ss ≡ s ∷ rest → slice_get ss k ≡ Some a → n ≡ length ss → made ≡ slice_range ss 0 (0 + k) → changed ≡ t ∷ [] → t ≡ f s → some ≡ made ++ changed → all ≡ some ++ slice_range ss (k + 1) n → all ≡ take k ss ++ f a ∷ drop (k + 1) ss
inner_made ss rest made changed some all k n s a t f d g l m c e x y =
    let same : s ≡ a = cc (get_at_drop ss rest k s d) in
    let front : made ≡ take k ss = m ∙ ap (λ j. take j ss) (omega arith) in
    let part : changed ≡ f a ∷ [] = cc in
    let whole : some ≡ take k ss ++ f a ∷ [] = cc in
    let end : slice_range ss (k + 1) n ≡ drop (k + 1) ss = range_to_end ss (k + 1) n l in
    y ∙ ap (λ z. z ++ slice_range ss (k + 1) n) whole ∙ ap (λ z. (take k ss ++ f a ∷ []) ++ z) end ∙ append_assoc (take k ss) (f a ∷ []) (drop (k + 1) ss)

abbrev pub IsSpliced : List Statement → ℕ → ℕ → List Statement → Option (List Statement) → Type 0
IsSpliced ss k count with x = MatchOption x (length ss < k + count) (λ b. (k + count ≤ length ss) × (b ≡ take k ss ++ with ++ drop (k + count) ss))

pub spliced_is : (count : ℕ) (s : Step) (path rest : Path) (ss with : List Statement) (x : Option (List Statement)) → path ≡ s ∷ rest → slice_get rest 0 ≡ None → IsSpliced ss s.index count with x → option_map block x ≡ replaced_in count path (block ss) (block with)
spliced_is count s path [] ss with None e f h = sym (ap (λ (p : Path). replaced_in count p (block ss) (block with)) e ∙ replaced_last_none count s ss with h)
spliced_is count s path [] ss with (Some b) e f h = ap (λ (c : List Statement). Some (block c)) h.1 ∙ sym (ap (λ (p : Path). replaced_in count p (block ss) (block with)) e ∙ replaced_last count s ss with h.0)
spliced_is count s path (t ∷ rest) ss with x e f h = cc

past_all : (ss : List Statement) (k : ℕ) → slice_get ss k ≡ None → length ss ≤ k
past_all [] k h = omega arith
past_all (s ∷ ss) zero h = cc
past_all (s ∷ ss) (suc k) h = omega (arith, past_all ss k h)

-- the block of a branch of the statement at an index
abbrev pub inner_of : Step → Step → List Statement → Option Block
inner_of s t ss = option_and_then (branch_of t.branch) (slice_get ss s.index)

stops_at : (count : ℕ) (s t : Step) (rest : Path) (ss : List Statement) (w : Block) (x : Option Statement) → slice_get ss s.index ≡ x → option_and_then (λ c. replaced_in count (t ∷ rest) c w) (option_and_then (branch_of t.branch) x) ≡ None → replaced_in count (s ∷ t ∷ rest) (block ss) w ≡ None
stops_at count s t rest ss w None e h = replaced_more_none count s t rest ss w (past_all ss s.index e)
stops_at count s t rest ss w (Some a) e h =
    replaced_more count s t rest ss a w (slice_get_within ss s.index a e) (drop_at_get ss s.index a e)
    ∙ ap (option_map (λ (c : Block). joined (block (take s.index ss)) (next (with_branch t.branch c a) (block (drop (s.index + 1) ss))))) h

goes_at : (count : ℕ) (s t : Step) (rest : Path) (ss : List Statement) (w inner c : Block) (x : Option Statement) → slice_get ss s.index ≡ x → option_and_then (branch_of t.branch) x ≡ Some inner → replaced_in count (t ∷ rest) inner w ≡ Some c → (all : List Statement) → ((a : Statement) → slice_get ss s.index ≡ Some a → all ≡ take s.index ss ++ with_branch t.branch c a ∷ drop (s.index + 1) ss) → replaced_in count (s ∷ t ∷ rest) (block ss) w ≡ Some (block all)
goes_at count s t rest ss w inner c None e i h all m = cc
goes_at count s t rest ss w inner c (Some a) e i h all m =
    replaced_more count s t rest ss a w (slice_get_within ss s.index a e) (drop_at_get ss s.index a e)
    ∙ ap (λ (x : Option Block). option_map (λ (c : Block). joined (block (take s.index ss)) (next (with_branch t.branch c a) (block (drop (s.index + 1) ss)))) (option_and_then (λ c. replaced_in count (t ∷ rest) c w) x)) i
    ∙ ap (option_map (λ (c : Block). joined (block (take s.index ss)) (next (with_branch t.branch c a) (block (drop (s.index + 1) ss))))) h
    ∙ ap Some (joined_block (take s.index ss) (with_branch t.branch c a ∷ drop (s.index + 1) ss) ∙ ap block (sym (m a e)))

within_at : (s t : Step) (ss : List Statement) (inner : Block) (x : Option Statement) → slice_get ss s.index ≡ x → option_and_then (branch_of t.branch) x ≡ Some inner → s.index < length ss
within_at s t ss inner None e h = cc
within_at s t ss inner (Some a) e h = slice_get_within ss s.index a e

pub stops : (count : ℕ) (s t : Step) (path rest : Path) (ss : List Statement) (w : Block) → path ≡ s ∷ rest → slice_get rest 0 ≡ Some t → option_and_then (λ c. replaced_in count rest c w) (inner_of s t ss) ≡ None → replaced_in count path (block ss) w ≡ None
stops count s t path [] ss w e g h = cc
stops count s t path (u ∷ rest) ss w e g h =
    let same : u ≡ t = cc in
    ap (λ (p : Path). replaced_in count p (block ss) w) e ∙ stops_at count s u rest ss w (slice_get ss s.index) refl (ap (λ (v : Step). option_and_then (λ c. replaced_in count (u ∷ rest) c w) (inner_of s v ss)) same ∙ h)

pub goes_on : (count : ℕ) (s t : Step) (path rest : Path) (ss all : List Statement) (w inner c : Block) → path ≡ s ∷ rest → slice_get rest 0 ≡ Some t → inner_of s t ss ≡ Some inner → replaced_in count rest inner w ≡ Some c → ((a : Statement) → slice_get ss s.index ≡ Some a → all ≡ take s.index ss ++ with_branch t.branch c a ∷ drop (s.index + 1) ss) → Some (block all) ≡ replaced_in count path (block ss) w
goes_on count s t path [] ss all w inner c e g i h m = cc
goes_on count s t path (u ∷ rest) ss all w inner c e g i h m =
    let same : u ≡ t = cc in
    sym (ap (λ (p : Path). replaced_in count p (block ss) w) e ∙ goes_at count s u rest ss w inner c (slice_get ss s.index) refl (ap (λ (v : Step). inner_of s v ss) same ∙ i) h all (λ a f. m a f ∙ ap (λ (v : Step). take s.index ss ++ with_branch v.branch c a ∷ drop (s.index + 1) ss) (sym same)))

pub inner_within : (s t : Step) (ss : List Statement) (inner : Block) → inner_of s t ss ≡ Some inner → s.index < length ss
inner_within s t ss inner h = within_at s t ss inner (slice_get ss s.index) refl h

pub ok_or_some : {X E : Type 0} (x : Option X) (e : E) (b : X) → Ok b ≡ ok_or x e → x ≡ Some b
ok_or_some None e b h = cc
ok_or_some (Some c) e b h = cc
