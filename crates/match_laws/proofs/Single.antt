-- A block of one statement has no other place.
use Rattle.std.proofs.Common.{◌≡◌, Bool, true, false, refl, sym, ap, ◌∙◌, subst, true≢false}
use Rattle.exo_tree.specs.Tree.{Control, Statement, Assign, Reduce, Config, Pass, If, For, Alloc}
use Rattle.exo_tree.specs.Tree.{View, Call, Block, end, next}
use Rattle.exo_tree.specs.Context.{Context, Here, After, InLoop, InThen, InElse, fill}
use Rattle.exo_meaning.specs.Scene.{Scene}
use Rattle.exo_meaning.specs.State.{State}
use Rattle.exo_meaning.specs.Run.{World}
use Rattle.match_laws.specs.Simplify.SameControls.{OfStatement, OfEach}

abbrev is_end : Block → Bool
is_end end = true
is_end (next a b) = false

abbrev first_of : Block → Statement
first_of end = Pass
first_of (next a b) = a

abbrev rest_after : Block → Block
rest_after end = end
rest_after (next a b) = b

abbrev pub is_compound : Statement → Bool
is_compound (Assign x is e) = false
is_compound (Reduce x is e) = false
is_compound (Config f a) = false
is_compound Pass = false
is_compound (If c a b) = true
is_compound (For x lo hi b) = true
is_compound (Alloc x cell dims memory) = false
is_compound (View w x cs) = false
is_compound (Call p args) = false

never_end : (c : Context) (d : Statement) → is_end (fill c (next d end)) ≡ false
never_end (Here rest) d = refl
never_end (After a c) d = refl
never_end (InLoop x lo hi c rest) d = refl
never_end (InThen t c other rest) d = refl
never_end (InElse t other c rest) d = refl

only_one : (a : Statement) → is_compound a ≡ false → (c : Context) (d : Statement)
    → next a end ≡ fill c (next d end) → a ≡ d
only_one a h (Here rest) d same = ap first_of same
only_one a h (After b c) d same =
    absurd (true≢false (subst (λ b. true ≡ b) (never_end c d)
    (ap (λ b. is_end (rest_after b)) same)))
only_one a h (InLoop x lo hi c rest) d same =
    absurd (true≢false (sym (ap (λ b. is_compound (first_of b)) same) ∙ h))
only_one a h (InThen t c other rest) d same =
    absurd (true≢false (sym (ap (λ b. is_compound (first_of b)) same) ∙ h))
only_one a h (InElse t other c rest) d same =
    absurd (true≢false (sym (ap (λ b. is_compound (first_of b)) same) ∙ h))

-- what is so of its expressions in every scene is so wherever a run comes
pub each_of_one : (world : World) (P : Scene → Control → Type 0) (a : Statement) (s : State)
    → is_compound a ≡ false → ((u : State) → OfStatement (P u.scene) a)
    → OfEach world P (next a end) s
each_of_one world P a s h all c d u same come =
    subst (λ e. OfStatement (P u.scene) e) (only_one a h c d same) (all u)
