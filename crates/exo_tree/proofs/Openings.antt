-- What is opened at a path, a step at a time over the list of a block's statements.
use Rattle.std.proofs.Common.{◌≡◌, ℕ, zero, suc, ◌+◌, ◌<◌, ◌≤◌, List, [], ◌∷◌, ◌++◌, length, take, drop, append_assoc, length-drop, Option, Some, None, refl, ap, sym, ◌∙◌, arith}
use Rattle.std.proofs.lemmas.List.{drop-drop}
use Rattle.std.specs.Prelude.{slice_get, option_map, option_and_then}
use Rattle.exo_tree.specs.Tree.{Statement, If, For, Block, end, next, block, joined}
use Rattle.exo_tree.specs.Context.{Context, Here, After, InLoop, InThen, InElse, fill}
use Rattle.exo_tree.specs.Places.{Branch, Main, Else, Step, Path, Opened, parted, past, into, opened_in, first_of}
use Rattle.exo_tree.specs.Branches.{branch_of, with_branch}

-- the statement at a path within a block
abbrev pub statement_in : Path → Block → Option Statement
statement_in path b = option_and_then (λ (o : Opened). first_of o.piece) (opened_in 1 path b)

-- the block with some statements from that path on replaced
abbrev pub replaced_in : ℕ → Path → Block → Block → Option Block
replaced_in count path b w = option_map (λ (o : Opened). fill o.around w) (opened_in count path b)

-- of the piece, where something is opened
abbrev pub of_piece : {X : Type 0} → (Block → Option X) → Option Opened → Option X
of_piece h x = option_and_then (λ (o : Opened). h o.piece) x

-- what is round an opening, changed
abbrev pub around_by : (Context → Context) → Option Opened → Option Opened
around_by g x = option_map (λ (o : Opened). record { around = g o.around; piece = o.piece }) x

-- the piece does not depend on what is round it
piece_around : {X : Type 0} (h : Block → Option X) (g : Context → Context) (x : Option Opened) → of_piece h (around_by g x) ≡ of_piece h x
piece_around h g None = refl
piece_around h g (Some o) = refl

-- what is opened behind some statements is opened from the next one on
past_next : {X : Type 0} (h : Block → Option X) (H : Statement → Option X) (f : Block → Option Opened) → of_piece h (f end) ≡ None → ((a : Statement) (b : Block) → of_piece h (f (next a b)) ≡ H a) → (k : ℕ) (ss : List Statement) → of_piece h (past k f (block ss)) ≡ option_and_then H (slice_get ss k)
past_next h H f e g zero [] = e
past_next h H f e g zero (a ∷ ss) = g a (block ss)
past_next h H f e g (suc k) [] = refl
past_next h H f e g (suc k) (a ∷ ss) = piece_around h (After a) (past k f (block ss)) ∙ past_next h H f e g k ss

and_then_some : {X : Type 0} (o : Option X) → option_and_then Some o ≡ o
and_then_some None = refl
and_then_some (Some x) = refl

pub at_last : (s : Step) (ss : List Statement) → statement_in (s ∷ []) (block ss) ≡ slice_get ss s.index
at_last s ss = past_next first_of Some (λ c. option_map (λ p. record { around = Here p.1; piece = p.0 }) (parted 1 c)) refl (λ a b. refl) s.index ss ∙ and_then_some (slice_get ss s.index)

into_end : (which : Branch) (f : Block → Option Opened) → into which f end ≡ None
into_end Main f = refl
into_end Else f = refl

into_next : {X : Type 0} (h : Block → Option X) (f : Block → Option Opened) (which : Branch) (a : Statement) (b : Block) → of_piece h (into which f (next a b)) ≡ option_and_then (λ c. of_piece h (f c)) (branch_of which a)
into_next h f Main (For i lo hi c) b = piece_around h (λ o. InLoop i lo hi o b) (f c)
into_next h f Main (If t c d) b = piece_around h (λ o. InThen t o d b) (f c)
into_next h f Else (If t c d) b = piece_around h (λ o. InElse t c o b) (f d)
into_next h f _ _ b = refl

pub at_more : (s t : Step) (path : Path) (ss : List Statement) → statement_in (s ∷ t ∷ path) (block ss) ≡ option_and_then (λ a. option_and_then (statement_in (t ∷ path)) (branch_of t.branch a)) (slice_get ss s.index)
at_more s t path ss =
    past_next first_of (λ a. option_and_then (statement_in (t ∷ path)) (branch_of t.branch a)) (into t.branch (opened_in 1 (t ∷ path)))
    (ap (of_piece first_of) (into_end t.branch (opened_in 1 (t ∷ path))))
    (into_next first_of (opened_in 1 (t ∷ path)) t.branch)
    s.index ss

-- replacing, as the list of statements goes

joined_end : (x : Option Block) → x ≡ option_map (joined end) x
joined_end None = refl
joined_end (Some b) = refl

joined_next : (a : Statement) (b : Block) (x : Option Block) → option_map (next a) (option_map (joined b) x) ≡ option_map (joined (next a b)) x
joined_next a b None = refl
joined_next a b (Some c) = refl

-- the block that a context makes of w, where something is opened
abbrev pub filled : Block → Option Opened → Option Block
filled w x = option_map (λ (o : Opened). fill o.around w) x

filled_after : (w : Block) (a : Statement) (x : Option Opened) → filled w (around_by (After a) x) ≡ option_map (next a) (filled w x)
filled_after w a None = refl
filled_after w a (Some o) = refl

past_none : (k : ℕ) (f : Block → Option Opened) (ss : List Statement) → length ss < k → past k f (block ss) ≡ None
past_none zero f ss h = absurd (omega arith)
past_none (suc k) f [] h = refl
past_none (suc k) f (a ∷ ss) h = ap (around_by (After a)) (past_none k f ss (omega arith))

-- what stands before the opening stays
past_filled : (w : Block) (k : ℕ) (f : Block → Option Opened) (ss : List Statement) → k ≤ length ss → filled w (past k f (block ss)) ≡ option_map (joined (block (take k ss))) (filled w (f (block (drop k ss))))
past_filled w zero f ss h = joined_end (filled w (f (block ss)))
past_filled w (suc k) f [] h = absurd (omega arith)
past_filled w (suc k) f (a ∷ ss) h = filled_after w a (past k f (block ss)) ∙ ap (option_map (next a)) (past_filled w k f ss (omega arith)) ∙ joined_next a (block (take k ss)) (filled w (f (block (drop k ss))))

pub joined_block : (ss ts : List Statement) → joined (block ss) (block ts) ≡ block (ss ++ ts)
joined_block [] ts = refl
joined_block (s ∷ ss) ts = ap (next s) (joined_block ss ts)

-- some statements of a list as the first so many of a block
parted_list : (n : ℕ) (ss : List Statement) → n ≤ length ss → parted n (block ss) ≡ Some (block (take n ss), block (drop n ss))
parted_list zero ss h = refl
parted_list (suc n) [] h = absurd (omega arith)
parted_list (suc n) (a ∷ ss) h = ap (option_map (λ (p : Block × Block). (next a p.0, p.1))) (parted_list n ss (omega arith))

parted_none : (n : ℕ) (ss : List Statement) → length ss < n → parted n (block ss) ≡ None
parted_none zero ss h = absurd (omega arith)
parted_none (suc n) [] h = refl
parted_none (suc n) (a ∷ ss) h = ap (option_map (λ (p : Block × Block). (next a p.0, p.1))) (parted_none n ss (omega arith))

-- a piece, with what follows it
abbrev pub with_rest : Option (Block × Block) → Option Opened
with_rest x = option_map (λ (p : Block × Block). record { around = Here p.1; piece = p.0 }) x

-- the end of a path: the statements from its index on are replaced
pub replaced_last : (count : ℕ) (s : Step) (ss with : List Statement) → s.index + count ≤ length ss → replaced_in count (s ∷ []) (block ss) (block with) ≡ Some (block (take s.index ss ++ with ++ drop (s.index + count) ss))
replaced_last count s ss with h =
    past_filled (block with) s.index (λ c. with_rest (parted count c)) ss (omega arith)
    ∙ ap (λ x. option_map (joined (block (take s.index ss))) (filled (block with) (with_rest x))) (parted_list count (drop s.index ss) (simp length-drop (omega arith)))
    ∙ ap Some (ap (joined (block (take s.index ss))) (joined_block with (drop count (drop s.index ss))) ∙ joined_block (take s.index ss) (with ++ drop count (drop s.index ss)) ∙ ap block (ap (λ xs. take s.index ss ++ (with ++ xs)) (drop-drop count s.index ss) ∙ sym (append_assoc (take s.index ss) with (drop (s.index + count) ss))))

past_short : (k count : ℕ) (ss : List Statement) → length ss < k + count → past k (λ c. with_rest (parted count c)) (block ss) ≡ None
past_short zero count ss h = ap with_rest (parted_none count ss (omega arith))
past_short (suc k) count [] h = refl
past_short (suc k) count (a ∷ ss) h = ap (around_by (After a)) (past_short k count ss (omega arith))

pub replaced_last_none : (count : ℕ) (s : Step) (ss with : List Statement) → length ss < s.index + count → replaced_in count (s ∷ []) (block ss) (block with) ≡ None
replaced_last_none count s ss with h = ap (filled (block with)) (past_short s.index count ss h)

filled_around : (w : Block) (g : Context → Context) (m : Block → Block) → ((o : Context) → fill (g o) w ≡ m (fill o w)) → (x : Option Opened) → filled w (around_by g x) ≡ option_map m (filled w x)
filled_around w g m e None = refl
filled_around w g m e (Some o) = ap Some (e o.around)

map_map : (g f : Block → Block) (x : Option Block) → option_map g (option_map f x) ≡ option_map (λ (c : Block). g (f c)) x
map_map g f None = refl
map_map g f (Some b) = refl

-- further down: the statement at the index is changed in the branch
into_filled : (w : Block) (f : Block → Option Opened) (which : Branch) (a : Statement) (b : Block) → filled w (into which f (next a b)) ≡ option_map (λ (c : Block). next (with_branch which c a) b) (option_and_then (λ c. filled w (f c)) (branch_of which a))
into_filled w f Main (For i lo hi c) b = filled_around w (λ o. InLoop i lo hi o b) (λ c. next (For i lo hi c) b) (λ o. refl) (f c)
into_filled w f Main (If t c d) b = filled_around w (λ o. InThen t o d b) (λ c. next (If t c d) b) (λ o. refl) (f c)
into_filled w f Else (If t c d) b = filled_around w (λ o. InElse t c o b) (λ d. next (If t c d) b) (λ o. refl) (f d)
into_filled w f _ _ b = refl

pub replaced_more : (count : ℕ) (s t : Step) (path : Path) (ss : List Statement) (a : Statement) (w : Block) → s.index < length ss → drop s.index ss ≡ a ∷ drop (s.index + 1) ss → replaced_in count (s ∷ t ∷ path) (block ss) w ≡ option_map (λ (c : Block). joined (block (take s.index ss)) (next (with_branch t.branch c a) (block (drop (s.index + 1) ss)))) (option_and_then (λ c. replaced_in count (t ∷ path) c w) (branch_of t.branch a))
replaced_more count s t path ss a w h e =
    past_filled w s.index (into t.branch (opened_in count (t ∷ path))) ss (omega arith)
    ∙ ap (λ xs. option_map (joined (block (take s.index ss))) (filled w (into t.branch (opened_in count (t ∷ path)) (block xs)))) e
    ∙ ap (option_map (joined (block (take s.index ss)))) (into_filled w (opened_in count (t ∷ path)) t.branch a (block (drop (s.index + 1) ss)))
    ∙ map_map (joined (block (take s.index ss))) (λ (c : Block). next (with_branch t.branch c a) (block (drop (s.index + 1) ss))) (option_and_then (λ c. replaced_in count (t ∷ path) c w) (branch_of t.branch a))

past_over : (k : ℕ) (f : Block → Option Opened) (ss : List Statement) → f end ≡ None → length ss ≤ k → past k f (block ss) ≡ None
past_over zero f [] e h = e
past_over zero f (a ∷ ss) e h = absurd (omega arith)
past_over (suc k) f [] e h = refl
past_over (suc k) f (a ∷ ss) e h = ap (around_by (After a)) (past_over k f ss e (omega arith))

pub replaced_more_none : (count : ℕ) (s t : Step) (path : Path) (ss : List Statement) (w : Block) → length ss ≤ s.index → replaced_in count (s ∷ t ∷ path) (block ss) w ≡ None
replaced_more_none count s t path ss w h = ap (filled w) (past_over s.index (into t.branch (opened_in count (t ∷ path))) ss (into_end t.branch (opened_in count (t ∷ path))) h)
