-- Holes of templates, byte by byte.
use Rattle.std.proofs.Common.{◌≡◌, ℕ, suc, ◌+◌, ◌-◌, ◌<◌, ◌≤◌, ◌&&◌, ◌||◌, if◌then◌else◌, Option, Some, None, is_some, List, [], ◌∷◌, ◌++◌, length, drop, get_or, slice_range, refl, ap, sym, ◌∙◌, arith, add-one, drop-cons}
use Rattle.std.proofs.lemmas.Bool.{ne_eqb}
use Rattle.std.proofs.lemmas.List.{take_more, get_or-drop, length-drop}
use Rattle.std.specs.List.{list_any}
use Rattle.exo_tree.specs.Tree.{Kind, ConfigField, Param}
use Rattle.exo_meaning.specs.Units.{Scope, is_text, data_ending, is_hole_of, Plain, InHole, holes_fit}
use Rattle.exo_reader.specs.Source.{Form, plain, strided, Parameter}
use Rattle.exo_types.specs.TypeRules.{kind_named}
use Rattle.exo_types.specs.ItemRules.{scalar_of, form_of, param_of, with_param, params_from}
use Rattle.exo_types.specs.HoleRules.{is_control, is_written_hole, HaveHoles}

-- a hole with one byte more
hole_grows : (text : List ℕ) (from k : ℕ) → from ≤ k → k < length text → slice_range text from (k + 1) ≡ slice_range text from k ++ get_or text k 0 ∷ []
hole_grows text from k low h =
    let step : k + 1 - from ≡ k - from + 1 = omega arith in
    let place : from + (k - from) ≡ k = omega arith in
    rw (step, take_more (drop from text) (k - from) 0 (omega (arith, length-drop from text)), get_or-drop, place)

-- in a hole each byte but a closing brace goes on
pub in_hole : (ps : List Param) (text : List ℕ) (from k : ℕ) → from ≤ k → k < length text → (get_or text k 0 ≡ 125 → ⊥) → holes_fit ps (InHole (slice_range text from k)) (drop k text) ≡ holes_fit ps (InHole (slice_range text from (k + 1))) (drop (k + 1) text)
in_hole ps text from k low h other =
    let name = slice_range text from k in
    let c = get_or text k 0 in
    let rest = drop (k + 1) text in
    ap (holes_fit ps (InHole name)) (drop-cons text k 0 h ∙ ap (λ n. c ∷ drop n text) (sym (add-one k)))
    ∙ ap (λ b. if b then (list_any (is_hole_of name) ps && holes_fit ps Plain rest) else holes_fit ps (InHole (name ++ c ∷ [])) rest) (ne_eqb c 125 other)
    ∙ ap (λ n. holes_fit ps (InHole n) rest) (sym (hole_grows text from k low h))

-- ---- the parameters of a procedure

-- a parameter has the hole that is written
hole_by : (name x : List ℕ) (scope : Scope) (fields : List ConfigField) (memories : List (List ℕ)) (id : ℕ) (form : Form) (m : Option (List ℕ)) → is_hole_of name (record { binder = record { id = id; name = x }; kind = form_of fields memories scope form m }) ≡ (if is_control form then is_text name x else is_text name (x ++ data_ending))
hole_by name x scope fields memories id (plain type []) m = by (kind_named type)
  where
    by : (o : Option Kind) → is_hole_of name (record { binder = record { id = id; name = x }; kind = scalar_of fields memories o type m }) ≡ (if is_some o then is_text name x else is_text name (x ++ data_ending))
    by None = refl
    by (Some kind) = refl
hole_by name x scope fields memories id (plain type (d ∷ ds)) m = refl
hole_by name x scope fields memories id (strided type ds) m = refl

same_holes : (fields : List ConfigField) (memories : List (List ℕ)) (id : ℕ) (scope : Scope) (ps : List Parameter) (name : List ℕ) → list_any (is_hole_of name) (params_from fields memories id scope ps) ≡ list_any (is_written_hole name) ps
same_holes fields memories id scope [] name = refl
same_holes fields memories id scope (p ∷ ps) name =
    λ i. hole_by name p.name scope fields memories id p.form p.memory i || same_holes fields memories (suc id) (with_param fields memories scope (param_of fields memories id scope p)) ps name i

pub have_holes : (fields : List ConfigField) (memories : List (List ℕ)) (id : ℕ) (scope : Scope) (ps : List Parameter) → HaveHoles (params_from fields memories id scope ps) ps
have_holes fields memories id scope ps = record { same = same_holes fields memories id scope ps }
