use Rattle.std.proofs.Common.{◌≡◌, ◌∙◌, ◌++◌, ◌∷◌, [], map, ap, refl, string_bytes}
use Rattle.std.proofs.lemmas.List.{map_push}
use Rattle.c_lowering.specs.Made.Lowered as parts
use Rattle.c_lowering.specs.PlainHole.{plain_hole}
use Rattle.c_lowering.specs.Reader.{behind}
use Rattle.c_lowering.specs.declared.templates.Hole.TheVariants.{InBraces}
use Rattle.c_lowering.specs.declared.templates.Place.TheVariants as places
use Rattle.c_lowering.proofs.Reading.{name_ends}
use Rattle.c_lowering.proofs.templates.end_name.Goals as goal

pub returns : goal.returns
returns c =
    let old = c.args.reader.now in
    let first : map plain_hole c.put_text.new.parts.items ≡ map plain_hole old.parts.items ++ behind (string_bytes old.text) [] = c.in_ok-put_text.ensures ∙ ap (λ t. map plain_hole old.parts.items ++ behind t []) c.as_str.ensures.value in
    let second : map plain_hole c.push.new.self.items ≡ map plain_hole c.put_text.new.parts.items ++ parts.InBraces (string_bytes old.name) ∷ [] =
    ap (map plain_hole) c.in_ok-push.ensures.items
    ∙ map_push plain_hole c.put_text.new.parts.items (InBraces c.in_ok-name.name)
    ∙ ap (λ n. map plain_hole c.put_text.new.parts.items ++ parts.InBraces n ∷ []) (c.in_ok-name.ensures.ok ∙ c.as_str-2.ensures.value) in
    name_ends old (record { parts = c.push.new.self; text = c.clear.new.self; name = old.name; place = places.Plain }) (map plain_hole c.put_text.new.parts.items) c.requires refl first second c.clear.ensures.bytes
