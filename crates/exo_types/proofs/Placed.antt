-- What is read has a place for each token.
use Rattle.std.proofs.Common.{◌≡◌, ◌+◌, [], ◌∷◌, length, map, ap, arith}
use Rattle.std.proofs.lemmas.List.{length-map, length-append}
use Rattle.text_lexer.specs.Layout.{lexed, token_of, place_of, end_place}
use Rattle.exo_reader.specs.Items.{unit}
use Rattle.exo_types.specs.UnitBuilder.{items_of}
use Rattle.exo_types.specs.Laws.{ReadTextsArePlaced}

pub placed : ReadTextsArePlaced
placed text s read places few =
    let spelled = ap length read.spelled in
    let tokens = length-map (lexed text) token_of in
    let own = length-map (lexed text) place_of in
    let joined = length-append (map place_of (lexed text)) (end_place text ∷ []) in
    let whole = ap length places in
    let each : length s.places.items ≡ length (unit.spell (items_of s)) + 1 = omega (arith, spelled, tokens, own, joined, whole) in
    record { fits = read.fits; places = each; short = omega (arith, each, few) }
