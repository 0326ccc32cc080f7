-- What copies of blocks leave and mention.
use Rattle.std.specs.Prelude.{◌≡◌, ℕ, Bool, false, List, [], ◌∷◌, ⊤}
use Rattle.exo_tree.specs.Tree.{Control, Block}
use Rattle.exo_meaning.specs.Orders.{Each}
use Rattle.exo_meaning.specs.Renaming.{Renaming, re_block}
use Rattle.exo_meaning.specs.Unseen.{in_block}
use Rattle.meaning_laws.specs.Substitute.{in_block as substituted}
use Rattle.place_laws.specs.Scope.Scopes.{top_binders, AreApart}

-- under other ids a block mentions what it mentioned, under these ids
abbrev pub RenamedMentions : Type 0
RenamedMentions =
    (hidden : ℕ → Bool) (r : Renaming) (b : Block)
    → in_block hidden (re_block r b) ≡ in_block (λ x. hidden (r.to x)) b

-- and leaves what it left
abbrev pub RenamedLeaves : Type 0
RenamedLeaves =
    (r : Renaming) (b : Block) (x : ℕ)
    → top_binders (re_block r b) x ≡ top_binders b (r.from x)

-- with an expression for a variable it leaves the same
abbrev pub SubstitutedLeaves : Type 0
SubstitutedLeaves =
    (i : ℕ) (e : Control) (b : Block) (x : ℕ)
    → top_binders (substituted i e b) x ≡ top_binders b x

-- so a copy mentions no name that another copy leaves, where the ids of the two are apart
abbrev pub CopyAvoids : Type 0
CopyAvoids =
    (r t : Renaming) (a b : Block)
    → in_block (λ x. top_binders a (r.from (t.to x))) b ≡ false
    → in_block (top_binders (re_block r a)) (re_block t b) ≡ false

-- no block mentions a name that one before it leaves, block by block
abbrev pub EachIsApart : List Block → Type 0
EachIsApart [] = ⊤
EachIsApart (b ∷ bs) = Each (λ c. in_block (top_binders b) c ≡ false) bs × EachIsApart bs

abbrev pub ApartLaw : Type 0
ApartLaw = (bs : List Block) → EachIsApart bs → AreApart bs
