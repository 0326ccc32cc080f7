-- Words of directions.
use Rattle.std.proofs.Common.{◌≡◌, Some, None, refl, sym, ap, ◌∙◌}
use Rattle.schedule_text.specs.Words.{word, direction_of, expand_word}
use Rattle.schedule_text.specs.declared.source.Direction.{Direction}
use Rattle.schedule_text.specs.declared.source.Direction.TheVariants.{Parent, Next, Prev, Body, Before, After}

pub direction_word : (d : Direction) → direction_of (word d) ≡ Some d
direction_word Parent = refl
direction_word Next = refl
direction_word Prev = refl
direction_word Body = refl
direction_word Before = refl
direction_word After = refl

pub same_direction : (a b : Direction) → word a ≡ word b → a ≡ b
same_direction a b same =
    let e : Some a ≡ Some b = sym (direction_word a) ∙ ap direction_of same ∙ direction_word b in
    cc (e)

pub no_expand : (d : Direction) → expand_word ≡ word d → ⊥
no_expand d same =
    let none : direction_of expand_word ≡ None = refl in
    let e : None ≡ Some d = sym none ∙ ap direction_of same ∙ direction_word d in
    cc (e)
