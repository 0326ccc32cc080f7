-- Blocks that differ in names alone have statements of the same kinds at the same places.
use Rattle.std.proofs.Common.{◌≡◌, ℕ, zero, suc, [], ◌∷◌, Option, Some, None, option_map}
use Rattle.std.proofs.Common.{refl, sym, ap, ◌∙◌}
use Rattle.std.specs.Prelude.{slice_get, option_and_then}
use Rattle.exo_tree.specs.Tree.{Statement, Assign, Reduce, Config, Pass, If, For, Alloc, View, Call}
use Rattle.exo_tree.specs.Tree.{Block, end, next, block, statements}
use Rattle.exo_tree.specs.Places.{Branch, Main, Else, Step, Path}
use Rattle.exo_tree.specs.Branches.{branch_of}
use Rattle.exo_tree.proofs.Openings.{statement_in, at_last, at_more}
use Rattle.place_laws.specs.Scope.Bare.{bare, bare_statement}
use Rattle.cursor_forward.specs.Forwards.{StatementKind, kind_of, kind_at}

listed : (b : Block) → block (statements b) ≡ b
listed end = refl
listed (next a b) = ap (next a) (listed b)

same_kind : (a : Statement) → kind_of (bare_statement a) ≡ kind_of a
same_kind (Assign x is e) = refl
same_kind (Reduce x is e) = refl
same_kind (Config f a) = refl
same_kind Pass = refl
same_kind (If c a b) = refl
same_kind (For i lo hi b) = refl
same_kind (Alloc x cell dims memory) = refl
same_kind (View w x coords) = refl
same_kind (Call k args) = refl

-- of what is read of each statement, where that is so for each
along : (f : Statement → Option StatementKind)
    → ((a : Statement) → f (bare_statement a) ≡ f a) → (b : Block) (k : ℕ)
    → option_and_then f (slice_get (statements (bare b)) k)
    ≡ option_and_then f (slice_get (statements b) k)
along f h end zero = refl
along f h end (suc k) = refl
along f h (next a b) zero = h a
along f h (next a b) (suc k) = along f h b k

-- the kind of a statement at a path, and of one at a path in a branch
abbrev kind_in : Path → Block → Option StatementKind
kind_in path b = option_map kind_of (statement_in path b)

abbrev kind_below : Step → Path → Statement → Option StatementKind
kind_below t path a = option_and_then (kind_in (t ∷ path)) (branch_of t.branch a)

map_then : {A B : Type 0} (g : B → StatementKind) (f : A → Option B) (o : Option A)
    → option_map g (option_and_then f o) ≡ option_and_then (λ x. option_map g (f x)) o
map_then g f None = refl
map_then g f (Some x) = refl

map_as_then : (o : Option Statement)
    → option_map kind_of o ≡ option_and_then (λ a. Some (kind_of a)) o
map_as_then None = refl
map_as_then (Some a) = refl

then_same : {A B : Type 0} (f g : A → Option B) → ((x : A) → f x ≡ g x) → (o : Option A)
    → option_and_then f o ≡ option_and_then g o
then_same f g h None = refl
then_same f g h (Some x) = h x

at_end : (s : Step) (b : Block)
    → kind_in (s ∷ []) b ≡ option_and_then (λ a. Some (kind_of a)) (slice_get (statements b) s.index)
at_end s b =
    ap (kind_in (s ∷ [])) (sym (listed b)) ∙ ap (option_map kind_of) (at_last s (statements b))
    ∙ map_as_then (slice_get (statements b) s.index)

further : (s t : Step) (path : Path) (b : Block)
    → kind_in (s ∷ t ∷ path) b
    ≡ option_and_then (kind_below t path) (slice_get (statements b) s.index)
further s t path b =
    ap (kind_in (s ∷ t ∷ path)) (sym (listed b))
    ∙ ap (option_map kind_of) (at_more s t path (statements b))
    ∙ map_then kind_of (λ a. option_and_then (statement_in (t ∷ path)) (branch_of t.branch a))
    (slice_get (statements b) s.index)
    ∙ then_same
    (λ a. option_map kind_of (option_and_then (statement_in (t ∷ path)) (branch_of t.branch a)))
    (kind_below t path) (λ a. map_then kind_of (statement_in (t ∷ path)) (branch_of t.branch a))
    (slice_get (statements b) s.index)

-- in a branch
in_branch : (f : Block → Option StatementKind) → ((d : Block) → f (bare d) ≡ f d)
    → (r : Branch) (a : Statement)
    → option_and_then f (branch_of r (bare_statement a)) ≡ option_and_then f (branch_of r a)
in_branch f h Main (Assign x is e) = refl
in_branch f h Main (Reduce x is e) = refl
in_branch f h Main (Config g a) = refl
in_branch f h Main Pass = refl
in_branch f h Main (If c a b) = h a
in_branch f h Main (For i lo hi b) = h b
in_branch f h Main (Alloc x cell dims memory) = refl
in_branch f h Main (View w x coords) = refl
in_branch f h Main (Call k args) = refl
in_branch f h Else (Assign x is e) = refl
in_branch f h Else (Reduce x is e) = refl
in_branch f h Else (Config g a) = refl
in_branch f h Else Pass = refl
in_branch f h Else (If c a b) = h b
in_branch f h Else (For i lo hi b) = refl
in_branch f h Else (Alloc x cell dims memory) = refl
in_branch f h Else (View w x coords) = refl
in_branch f h Else (Call k args) = refl

kinds_bare : (path : Path) (s : Step) (b : Block) → kind_in (s ∷ path) (bare b) ≡ kind_in (s ∷ path) b
kinds_bare [] s b =
    at_end s (bare b) ∙ along (λ a. Some (kind_of a)) (λ a. ap Some (same_kind a)) b s.index
    ∙ sym (at_end s b)
kinds_bare (t ∷ path) s b =
    further s t path (bare b)
    ∙ along (kind_below t path)
    (in_branch (kind_in (t ∷ path)) (λ d. kinds_bare path t d) t.branch) b s.index
    ∙ sym (further s t path b)

kinds_at : (path : Path) (b : Block) → kind_at path (bare b) ≡ kind_at path b
kinds_at [] b = refl
kinds_at (s ∷ path) b = by s.branch s.index
  where
    by : (r : Branch) (k : ℕ)
        → kind_at (record { branch = r; index = k } ∷ path) (bare b)
        ≡ kind_at (record { branch = r; index = k } ∷ path) b
    by Main k = kinds_bare path (record { branch = Main; index = k }) b
    by Else k = refl

pub kinds_by_names : (path : Path) (b c : Block) → bare b ≡ bare c → kind_at path b ≡ kind_at path c
kinds_by_names path b c h =
    sym (kinds_at path b) ∙ ap (kind_at path) h ∙ kinds_at path c
