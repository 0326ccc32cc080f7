-- The kinds of statements of a block are told by its bones.
use Rattle.std.proofs.Common.{◌≡◌, ℕ, zero, suc, ◌+◌, ◌<◌, List, [], ◌∷◌, length, Option, Some, None, refl, ap, sym, ◌∙◌, arith}
use Rattle.std.proofs.lemmas.Option.{slice_get-map}
use Rattle.std.specs.Prelude.{slice_get, option_map, option_and_then}
use Rattle.exo_tree.specs.Tree.{Statement, Assign, Reduce, Config, Pass, If, For, Alloc, View, Call, Block, end, next, joined, statements}
use Rattle.exo_tree.specs.Places.{Branch, Main, Else, Path}
use Rattle.exo_tree.specs.Branches.{branch_of}
use Rattle.cursor_forward.specs.Forwards.{StatementKind, kind_of, kinds_of, Bone, Leaf, Joint, Bones, none, more, bone, bones}
use Rattle.cursor_forward.proofs.Lands.{found, found_in, kind_found}

abbrev heads : Bones → ℕ → Option Bone
heads none k = None
heads (more x r) zero = Some x
heads (more x r) (suc k) = heads r k

abbrev kind_in : Bone → StatementKind
kind_in (Leaf k) = k
kind_in (Joint k a b) = k

abbrev bone_branch : Branch → Bone → Bones
bone_branch r (Leaf k) = none
bone_branch Main (Joint k a b) = a
bone_branch Else (Joint k a b) = b

abbrev bone_found : Path → Bone → Option StatementKind
bone_found [] x = Some (kind_in x)
bone_found (t ∷ path) x = option_and_then (bone_found path) (heads (bone_branch t.branch x) t.index)

heads_are : (b : Block) (k : ℕ) → heads (bones b) k ≡ option_map bone (slice_get (statements b) k)
heads_are end k = refl
heads_are (next a b) zero = refl
heads_are (next a b) (suc k) = heads_are b k

-- a kind of what is found, by bones, where it is so for each statement
through : (f : Statement → Option Statement) (g : Bone → Option StatementKind) → ((a : Statement) → option_map kind_of (f a) ≡ g (bone a)) → (o : Option Statement) → option_map kind_of (option_and_then f o) ≡ option_and_then g (option_map bone o)
through f g h None = refl
through f g h (Some a) = h a

abbrev HasBone : Path → Statement → Type 0
HasBone path a = option_map kind_of (found_in path a) ≡ bone_found path (bone a)

-- along the statements of a block
along : (path : Path) → ((a : Statement) → HasBone path a) → (k : ℕ) (b : Block) → kind_found b k path ≡ option_and_then (bone_found path) (heads (bones b) k)
along path h k b = through (found_in path) (bone_found path) h (slice_get (statements b) k) ∙ ap (option_and_then (bone_found path)) (sym (heads_are b k))

in_branch : (path : Path) → ((a : Statement) → HasBone path a) → (r : Branch) (k : ℕ) (a : Statement) → option_map kind_of (option_and_then (λ b. found b k path) (branch_of r a)) ≡ option_and_then (bone_found path) (heads (bone_branch r (bone a)) k)
in_branch path h Main k (For i lo hi b) = along path h k b
in_branch path h Main k (If c a b) = along path h k a
in_branch path h Else k (If c a b) = along path h k b
in_branch path h Else k (For i lo hi b) = refl
in_branch path h Main k (Assign x is e) = refl
in_branch path h Main k (Reduce x is e) = refl
in_branch path h Main k (Config f a) = refl
in_branch path h Main k Pass = refl
in_branch path h Main k (Alloc x cell dims memory) = refl
in_branch path h Main k (View w x coords) = refl
in_branch path h Main k (Call n args) = refl
in_branch path h Else k (Assign x is e) = refl
in_branch path h Else k (Reduce x is e) = refl
in_branch path h Else k (Config f a) = refl
in_branch path h Else k Pass = refl
in_branch path h Else k (Alloc x cell dims memory) = refl
in_branch path h Else k (View w x coords) = refl
in_branch path h Else k (Call n args) = refl

found_bone : (path : Path) (a : Statement) → HasBone path a
found_bone [] (Assign x is e) = refl
found_bone [] (Reduce x is e) = refl
found_bone [] (Config f a) = refl
found_bone [] Pass = refl
found_bone [] (If c a b) = refl
found_bone [] (For i lo hi b) = refl
found_bone [] (Alloc x cell dims memory) = refl
found_bone [] (View w x coords) = refl
found_bone [] (Call k args) = refl
found_bone (t ∷ path) a = in_branch path (λ b. found_bone path b) t.branch t.index a

found_bones : (path : Path) (k : ℕ) (b : Block) → kind_found b k path ≡ option_and_then (bone_found path) (heads (bones b) k)
found_bones path k b = along path (λ a. found_bone path a) k b

pub same_bones : (path : Path) (k : ℕ) (b c : Block) → bones b ≡ bones c → kind_found b k path ≡ kind_found c k path
same_bones path k b c h = found_bones path k b ∙ ap (λ (x : Bones). option_and_then (bone_found path) (heads x k)) h ∙ sym (found_bones path k c)

some_kind : (o : Option Statement) → option_map kind_of (option_and_then (found_in []) o) ≡ option_map kind_of o
some_kind None = refl
some_kind (Some a) = refl

pub same_kinds : (k : ℕ) (b c : Block) → kinds_of b ≡ kinds_of c → kind_found b k [] ≡ kind_found c k []
same_kinds k b c h =
    some_kind (slice_get (statements b) k) ∙ sym (slice_get-map kind_of (statements b) k)
    ∙ ap (λ (ks : List StatementKind). slice_get ks k) h
    ∙ slice_get-map kind_of (statements c) k ∙ sym (some_kind (slice_get (statements c) k))

-- ---- blocks one after the other

pub found_front : (c d : Block) (k : ℕ) (path : Path) → k < length (statements c) → found (joined c d) k path ≡ found c k path
found_front end d k path h = absurd (omega (arith, h))
found_front (next a c) d zero path h = refl
found_front (next a c) d (suc k) path h = found_front c d k path (omega (arith, h))

pub found_behind : (c d : Block) (j : ℕ) (path : Path) → found (joined c d) (length (statements c) + j) path ≡ found d j path
found_behind end d j path =
    let e : length (statements end) + j ≡ j = omega arith in
    ap (λ (n : ℕ). found d n path) e
found_behind (next a c) d j path =
    let e : length (statements (next a c)) + j ≡ suc (length (statements c) + j) = omega arith in
    ap (λ (n : ℕ). found (joined (next a c) d) n path) e ∙ found_behind c d j path
