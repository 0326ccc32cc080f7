-- What a substitution keeps of a block.
use Rattle.std.specs.Prelude.{◌≡◌, ℕ, Bool, false}
use Rattle.exo_tree.specs.Tree.{Control, Block}
use Rattle.meaning_laws.specs.Substitute.{in_block as put_in_block}
use Rattle.exo_tree.specs.Renaming.{binders}
use Rattle.exo_meaning.specs.Unseen.{in_control as uses, in_block as mentions}

-- the binders stay
abbrev pub SubstitutionKeepsBinders : Type 0
SubstitutionKeepsBinders =
    (i : ℕ) (e : Control) (b : Block)
    → binders (put_in_block i e b) ≡ binders b

-- no name is mentioned but those of b and of e
abbrev pub SubstitutionMentionsNoMore : Type 0
SubstitutionMentionsNoMore =
    (hidden : ℕ → Bool) (i : ℕ) (e : Control) (b : Block)
    → uses hidden e ≡ false
    → mentions hidden b ≡ false
    → mentions hidden (put_in_block i e b) ≡ false
