use Rattle.std.proofs.Common.{◌≡◌, ◌≤◌, ◌+◌, ℕ, List, length, map, ◌++◌, ◌∷◌, [], ap, sym, ◌∙◌, arith}
use Rattle.std.proofs.lemmas.List.{length-append, length-map}
use Rattle.text_lexer.specs.Layout.{lexed, place_of, token_of, end_place}
use Rattle.exo_reader.specs.Items.{unit}
use Rattle.exo_reader.specs.Texts.{tokens_of, places_of}
use Rattle.exo_types.specs.UnitBuilder.{items_of}
use Rattle.compile_stages.proofs.stages.read.Goals as goal

-- there is a place more than tokens
fewer : (text : List ℕ) → length (places_of text) ≤ 0x100001 → length (tokens_of text) ≤ 0x100000
fewer text few = omega (arith, few, length-append (map place_of (lexed text)) (end_place text ∷ []), length-map (lexed text) place_of, length-map (lexed text) token_of)

pub returns-in-Ok-clause-placed : goal.returns-in-Ok-clause-placed
returns-in-Ok-clause-placed c = c.read_texts_are_placed.ensures c.args.text.now c.in-Ok.source c.in-Ok.ensures.0 c.in-Ok.ensures.1 c.in-Ok.source.few

pub returns-in-Ok-clause-formed : goal.returns-in-Ok-clause-formed
returns-in-Ok-clause-formed c = λ keeps.
    c.read_units_are_formed.ensures c.args.text.now (items_of c.in-Ok.source) c.in-Ok.ensures.0 (omega (arith, c.in-Ok.source.few, ap length c.in-Ok.ensures.1)) keeps

pub returns-in-Ok-clause-low : goal.returns-in-Ok-clause-low
returns-in-Ok-clause-low c =
    let items = items_of c.in-Ok.source in
    let places = ap length c.in-Ok.ensures.1 in
    let tokens = fewer c.args.text.now (omega (arith, c.in-Ok.source.few, places)) in
    let spelled = ap length c.in-Ok.ensures.0.spelled in
    c.typed_units_are_low.ensures items (omega (arith, tokens, spelled))
