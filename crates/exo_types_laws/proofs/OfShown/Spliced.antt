-- Reading the shown text of a procedure behind other items.
use Rattle.std.proofs.Common.{◌≡◌, ℕ, zero, ◌+◌, List, [], ◌∷◌, ◌++◌, map, Option, Some, None, Ok, Err, slice_get, flat_map, refl, sym, ap, ap₂, ◌∙◌, append-nil, append_assoc, subst}
use Rattle.text_phrases.specs.Limits.{Limits, unlimited, passed}
use Rattle.text_phrases.specs.Text.{IsText}
use Rattle.text_phrases.specs.Sequence.{AllFit, spell_all}
use Rattle.exo_tree.specs.Tree.{Procedure, Program}
use Rattle.text_lexer.specs.Layout.{end_place}
use Rattle.text_lexer.specs.declared.place.Place.{Place}
use Rattle.text_lexer.specs.declared.token.Token.{Token}
use Rattle.exo_reader.specs.Source.{Item}
use Rattle.exo_reader.specs.Items.{item, unit}
use Rattle.exo_reader.specs.Views.{plain_item}
use Rattle.exo_reader.specs.Texts.{tokens_of, places_of, IsFault, IsRefusal}
use Rattle.exo_reader.specs.declared.unit.ReadError.{ReadError}
use Rattle.exo_reader.specs.declared.unit.ReadKind.{ReadKind}
use Rattle.exo_reader.specs.declared.unit.ReadKind.TheVariants.{Memory, BadByte, BadIndent, Syntax, TooDeep, TooLong, LiteralTooLarge}
use Rattle.rules_names.specs.declared.fault.Fault.{Fault}
use Rattle.rules_names.specs.Faults.{or_else}
use Rattle.text_show.specs.Names.{names_of}
use Rattle.text_show.specs.Words.{words_of}
use Rattle.text_show.specs.StatementText.{block_text}
use Rattle.text_show.specs.ProcedureText.{marker_text, assert_text, header_text, procedure_text, shown}
use Rattle.exo_types.specs.UnitRules.{Above, nothing_above, after_item, after_items, item_fault, items_fault, item_width, unit_fault}
use Rattle.exo_types_laws.specs.Shown.Again.{StandsFor}
use Rattle.exo_types_laws.specs.Shown.Below.{EndsLine, ShownIsReadBelow, StandsAgain}
use Rattle.exo_types_laws.specs.Shown.Below.{ShownStandsAgain}
use Rattle.exo_types_laws.specs.Shown.Writable.{IsWritable}
use Rattle.exo_types_laws.specs.Shown.Written.{written}
use Rattle.exo_types_laws.proofs.OfShown.Rows.{indent_of, text_out, row}
use Rattle.exo_types_laws.proofs.OfShown.Sound.{sound_append}
use Rattle.exo_types_laws.proofs.OfShown.Closed.{unit_whole}
use Rattle.exo_types_laws.proofs.OfShown.Behind.{behind}
use Rattle.exo_types_laws.proofs.OfShown.Procedures.{IsSpelled, marker_tokens, marker_row}
use Rattle.exo_types_laws.proofs.OfShown.Procedures.{marker_import, text_parts, procedure_out}
use Rattle.exo_types_laws.proofs.OfShown.Procedures.{written_sound, lexed_is}
use Rattle.exo_types_laws.proofs.OfShown.Readings.{shown_by, procedures_are_spelled}
use Rattle.exo_types_laws.proofs.OfShown.Fits.{written_fits}
use Rattle.exo_types_laws.proofs.OfShown.Returned.{shown_is_the_same}

-- ---- tokens

spelled_by : (program : Program) (p : Procedure) → IsWritable program p → (b : ℕ) (above : List ℕ) (items : List Item) → EndsLine (b ∷ above) → tokens_of (b ∷ above) ≡ unit.spell items → tokens_of ((b ∷ above) ++ procedure_text (words_of program p) p) ≡ unit.spell items ++ item.spell (written program p)
spelled_by program p h b above items ends own =
    let is : IsSpelled program (names_of p) p = record { name = h.name; params = h.params; asserts = h.asserts; some = h.some; body = h.body; template = h.template } in
    let words = words_of program p in
    let rest : List ℕ = row zero (header_text words p) ++ (flat_map (assert_text words) p.asserts ++ (block_text words (indent_of 1) p.body ++ [])) in
    let parts : procedure_text words p ≡ row zero (marker_text p.template) ++ rest = text_parts program (names_of p) (row zero (marker_text p.template)) (row zero (header_text words p)) (flat_map (assert_text words) p.asserts) (block_text words (indent_of 1) p.body) in
    lexed_is ((b ∷ above) ++ procedure_text words p) (unit.spell items ++ item.spell (written program p))
    (ap (λ (x : List ℕ). text_out (end_place ((b ∷ above) ++ procedure_text words p)) 1 zero ((b ∷ above) ++ x)) parts
    ∙ behind b above (marker_text p.template) rest (unit.spell items) (marker_tokens p.template) (item.spell (written program p)) ends own (unit_whole items) (marker_row p.template h.template) (marker_import p.template)
    (λ place line. ap (text_out place line zero) (sym parts) ∙ procedure_out program (names_of p) p is place line) (end_place ((b ∷ above) ++ procedure_text words p)))
    (sound_append (unit.spell items) (item.spell (written program p)) (unit_whole items).sound (written_sound program p))

spelled_behind : (program : Program) (k : ℕ) (p : Procedure) (text : List ℕ) (items : List Item) → slice_get program.procedures k ≡ Some p → IsWritable program p → EndsLine text → tokens_of text ≡ unit.spell items → tokens_of (text ++ shown program k) ≡ unit.spell items ++ item.spell (written program p)
spelled_behind program k p [] items there h ends own = procedures_are_spelled program k p there h ∙ ap (λ (ts : List Token). ts ++ item.spell (written program p)) own
spelled_behind program k p (b ∷ text) items there h ends own =
    ap (λ (x : List ℕ). tokens_of ((b ∷ text) ++ x)) (shown_by program p (slice_get program.procedures k) there) ∙ spelled_by program p h b text items ends own

-- ---- items

spell_one_more : (items : List Item) (x : Item) → spell_all item (items ++ x ∷ []) ≡ spell_all item items ++ item.spell x
spell_one_more [] x = append-nil (item.spell x)
spell_one_more (i ∷ items) x = ap (λ (ts : List Token). item.spell i ++ ts) (spell_one_more items x) ∙ sym (append_assoc (item.spell i) (spell_all item items) (item.spell x))

fit_one_more : (limits : Limits) (items : List Item) (x : Item) → AllFit item limits items → item.Fits limits x → AllFit item limits (items ++ x ∷ [])
fit_one_more limits [] x h k = (k, tt)
fit_one_more limits (i ∷ items) x h k = (h.0, fit_one_more limits items x h.1 k)

module _ (tokens : List Token) (all : List Item) (spelled : tokens ≡ unit.spell all) (fits : (limits : Limits) → unit.Fits limits all) where
  no_fault : (places : List Place) (e : ReadError) → IsFault unit tokens places e → ⊥
  no_fault places e f = f.fault.none all f.fault.rest (fits (passed f.cause)) refl (sym f.fault.whole ∙ spelled)

  want : (places : List Place) (kind : ReadKind) (e : ReadError) → IsRefusal unit tokens places kind e → kind ≡ Memory
  want places Memory e r = refl
  want places BadByte e r = absurd (no_fault places e r)
  want places BadIndent e r = absurd (no_fault places e r)
  want places Syntax e r = absurd (no_fault places e r)
  want places TooDeep e r = absurd (no_fault places e r)
  want places TooLong e r = absurd (no_fault places e r)
  want places LiteralTooLarge e r = absurd (no_fault places e r)

  own : (read : List Item) → IsText unit tokens read → read ≡ all
  own read text = sym (text.only unlimited all (fits unlimited) spelled)

module _ (program : Program) (k : ℕ) (p : Procedure) (text : List ℕ) (items : List Item) (place : slice_get program.procedures k ≡ Some p) (can : IsWritable program p) (fits : (limits : Limits) → item.Fits limits (written program p)) (above : IsText unit (tokens_of text) items) (ends : EndsLine text) where
  abbrev all : List Item
  all = items ++ written program p ∷ []

  spelled : tokens_of (text ++ shown program k) ≡ unit.spell all
  spelled = spelled_behind program k p text items place can ends above.spelled ∙ sym (spell_one_more items (written program p))

  all_fit : (limits : Limits) → unit.Fits limits all
  all_fit limits = fit_one_more limits items (written program p) (above.fits limits) (fits limits)

pub shown_is_read_below : ShownIsReadBelow
shown_is_read_below program k p text items place can small above ends (Ok s) reads =
    own (tokens_of (text ++ shown program k)) (items ++ written program p ∷ []) (spelled program k p text items place can (written_fits program p can small) above ends) (all_fit program k p text items place can (written_fits program p can small) above ends) (map plain_item s.items.items) reads.0
shown_is_read_below program k p text items place can small above ends (Err e) reads =
    want (tokens_of (text ++ shown program k)) (items ++ written program p ∷ []) (spelled program k p text items place can (written_fits program p can small) above ends) (all_fit program k p text items place can (written_fits program p can small) above ends) (places_of (text ++ shown program k)) e.kind e reads

-- ---- rules

neither : (a b : Option Fault) → or_else a b ≡ None → (a ≡ None) × (b ≡ None)
neither None b h = (refl, h)
neither (Some f) b h = absurd (some_none h)
  where
    some_none : Some f ≡ None → ⊥
    some_none h = cc

after_one_more : (items : List Item) (above : Above) (x : Item) → after_items above (items ++ x ∷ []) ≡ after_item (after_items above items) x
after_one_more [] above x = refl
after_one_more (i ∷ items) above x = after_one_more items (after_item above i) x

fine_one_more : (items : List Item) (above : Above) (n : ℕ) (x : Item) → items_fault above n items ≡ None → ((m : ℕ) → item_fault (after_items above items) m x ≡ None) → items_fault above n (items ++ x ∷ []) ≡ None
fine_one_more [] above n x h fine = ap (λ (o : Option Fault). or_else o None) (fine n)
fine_one_more (i ∷ items) above n x h fine =
    let s = neither (item_fault above n i) (items_fault (after_item above i) (n + item_width i) items) h in
    ap₂ or_else s.0 (fine_one_more items (after_item above i) (n + item_width i) x s.1 fine)

stands_again : (items : List Item) (x : Item) (to : ℕ → ℕ) (p : Procedure) → unit_fault items ≡ None → StandsFor (after_items nothing_above items) x to p → StandsAgain items (items ++ x ∷ []) to p
stands_again items x to p keeps stands = record {
  keeps = fine_one_more items nothing_above 0 x keeps stands.keeps;
  ids = stands.ids;
  same = ap (λ (a : Above). a.program.procedures) (after_one_more items nothing_above x) ∙ stands.same;
}

pub shown_stands_again : ShownStandsAgain
shown_stands_again program k p text items unit_is place can small above ends keeps holds (Ok s) reads =
    subst (λ (read : List Item). StandsAgain items read holds.to p) (sym (shown_is_read_below program k p text items place can small above ends (Ok s) reads))
    (stands_again items (written program p) holds.to p keeps (shown_is_the_same program k p items unit_is place can keeps holds))
shown_stands_again program k p text items unit_is place can small above ends keeps holds (Err e) reads =
    shown_is_read_below program k p text items place can small above ends (Err e) reads
