-- Laws of widths, of what procedures write, and of texts that are read.
use Rattle.std.specs.Prelude.{◌≡◌, ℕ, ◌≤◌, List, length, map}
use Rattle.text_phrases.specs.Limits.{Limits}
use Rattle.text_phrases.specs.Text.{IsText}
use Rattle.exo_tree.specs.Tree.{Kind, Procedure}
use Rattle.exo_meaning.specs.Calls.{Callee}
use Rattle.exo_meaning.specs.Run.{world_of, callee_in}
use Rattle.exo_reader.specs.Source.{Item}
use Rattle.exo_reader.specs.Items.{unit}
use Rattle.exo_reader.specs.Texts.{tokens_of, places_of}
use Rattle.exo_reader.specs.declared.unit.Source.{Source}
use Rattle.exo_types.specs.ArgumentRules.{signature_of}
use Rattle.exo_types.specs.UnitBuilder.{IsPlaced, items_of}
use Rattle.exo_types.specs.UnitRules.{items_width}

-- items of the grammar have as many tokens as their widths say
abbrev pub UnitsAreWide : Type 0
UnitsAreWide =
    (items : List Item)
    → ((limits : Limits) → unit.Fits limits items)
    → length (unit.spell items) ≡ items_width items

-- what a procedure writes depends on those above it by their parameters and what each of these
-- writes alone
abbrev pub SignaturesAgree : Type 0
SignaturesAgree =
    (kinds others : ℕ → Kind) (cs ds : List Callee)
    → map signature_of cs ≡ map signature_of ds
    → (p : Procedure)
    → signature_of (callee_in (world_of kinds cs) p)
    ≡ signature_of (callee_in (world_of others ds) p)

-- what a text is read as has a place for each of its tokens and one for its end
abbrev pub ReadTextsArePlaced : Type 0
ReadTextsArePlaced =
    (text : List ℕ) (s : Source)
    → IsText unit (tokens_of text) (items_of s)
    → s.places.items ≡ places_of text
    → length s.places.items ≤ 0x100001
    → IsPlaced s
