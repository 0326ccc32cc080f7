-- Lists with commas, which may end in one.
use Rattle.std.specs.Prelude.{List, [], ◌∷◌, ◌++◌, Option, Bool, true, false}
use Rattle.text_phrases.specs.Limits.{Limits, Keeps}
use Rattle.text_phrases.specs.Phrase.{Phrase}
use Rattle.text_phrases.specs.Sequence.{AllFit}

-- what stands behind the first item: more items, and maybe a last comma
abbrev pub spell_more : {A T : Type 0} → Phrase A T → A → List T → Bool → List A
spell_more P comma [] true = comma ∷ []
spell_more P comma [] false = []
spell_more P comma (t ∷ ts) trailing = comma ∷ (P.spell t ++ spell_more P comma ts trailing)

-- the items behind the first one, short together where lengths count
abbrev pub commas : {A T : Type 0} → Phrase A T → A → (List T → Type 0) → (Option A → Type 0) → Phrase A (List T × Bool)
commas P comma Short ends =
    record {
      Fits = λ limits l. AllFit P limits l.0 × Keeps limits (Unit {0}) (Short l.0) (Unit {0});
      spell = λ l. spell_more P comma l.0 l.1;
      Follows = ends;
    }

-- one item or more with commas between them, short together where lengths count
abbrev pub ListingFits : {A T : Type 0} → Phrase A T → (List T → Type 0) → Limits → List T → Type 0
ListingFits P Short limits [] = ⊥
ListingFits P Short limits (t ∷ ts) = P.Fits limits t × AllFit P limits ts × Keeps limits (Unit {0}) (Short (t ∷ ts)) (Unit {0})

abbrev pub spell_listing : {A T : Type 0} → Phrase A T → A → List T → List A
spell_listing P comma [] = []
spell_listing P comma (t ∷ ts) = P.spell t ++ spell_more P comma ts false

abbrev pub listing : {A T : Type 0} → Phrase A T → A → (List T → Type 0) → (Option A → Type 0) → Phrase A (List T)
listing P comma Short ends = record { Fits = ListingFits P Short; spell = spell_listing P comma; Follows = ends }
