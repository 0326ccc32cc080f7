-- Reading the shown text of a procedure.
use Rattle.std.proofs.Common.{◌≡◌, ℕ, List, [], ◌∷◌, map, Option, Some, None, Ok, Err, slice_get, refl, sym, ap, ◌∙◌, append-nil}
use Rattle.text_phrases.specs.Limits.{Limits, unlimited, passed}
use Rattle.text_phrases.specs.Text.{IsText}
use Rattle.exo_tree.specs.Tree.{Procedure, Program}
use Rattle.text_lexer.specs.declared.place.Place.{Place}
use Rattle.text_lexer.specs.declared.token.Token.{Token}
use Rattle.exo_reader.specs.Source.{Item}
use Rattle.exo_reader.specs.Items.{item, unit}
use Rattle.exo_reader.specs.Views.{plain_item}
use Rattle.exo_reader.specs.Texts.{tokens_of, places_of, IsFault, IsRefusal}
use Rattle.exo_reader.specs.declared.unit.ReadError.{ReadError}
use Rattle.exo_reader.specs.declared.unit.ReadKind.{ReadKind}
use Rattle.exo_reader.specs.declared.unit.ReadKind.TheVariants.{Memory, BadByte, BadIndent, Syntax, TooDeep, TooLong, LiteralTooLarge}
use Rattle.text_show.specs.Words.{words_of}
use Rattle.text_show.specs.ProcedureText.{procedure_text, shown}
use Rattle.exo_types_laws.specs.Shown.Written.{written}
use Rattle.exo_types_laws.specs.Shown.Laws.{ProceduresAreSpelled, ShownIsRead}
use Rattle.exo_types_laws.proofs.OfShown.Procedures.{procedure_spelled}
use Rattle.exo_types_laws.proofs.OfShown.Fits.{written_fits}

pub shown_by : (program : Program) (p : Procedure) (o : Option Procedure) → o ≡ Some p → elim o as (λ x. List ℕ) [ None ↦ [] | Some q ↦ procedure_text (words_of program q) q ] ≡ procedure_text (words_of program p) p
shown_by program p o e = ap (λ (x : Option Procedure). elim x as (λ y. List ℕ) [ None ↦ [] | Some q ↦ procedure_text (words_of program q) q ]) e

pub procedures_are_spelled : ProceduresAreSpelled
procedures_are_spelled program k p there h = ap tokens_of (shown_by program p (slice_get program.procedures k) there) ∙ procedure_spelled program p h

-- tokens that an item spells are no fault of a unit
no_fault : (x : Item) (tokens : List Token) (places : List Place) (e : ReadError) → tokens ≡ item.spell x → ((limits : Limits) → item.Fits limits x) → IsFault unit tokens places e → ⊥
no_fault x tokens places e spelled fits f =
    f.fault.none (x ∷ []) f.fault.rest (fits (passed f.cause), tt) refl (sym f.fault.whole ∙ spelled ∙ sym (append-nil (item.spell x)))

want : (x : Item) (tokens : List Token) (places : List Place) (kind : ReadKind) (e : ReadError) → tokens ≡ item.spell x → ((limits : Limits) → item.Fits limits x) → IsRefusal unit tokens places kind e → kind ≡ Memory
want x tokens places Memory e spelled fits r = refl
want x tokens places BadByte e spelled fits r = absurd (no_fault x tokens places e spelled fits r)
want x tokens places BadIndent e spelled fits r = absurd (no_fault x tokens places e spelled fits r)
want x tokens places Syntax e spelled fits r = absurd (no_fault x tokens places e spelled fits r)
want x tokens places TooDeep e spelled fits r = absurd (no_fault x tokens places e spelled fits r)
want x tokens places TooLong e spelled fits r = absurd (no_fault x tokens places e spelled fits r)
want x tokens places LiteralTooLarge e spelled fits r = absurd (no_fault x tokens places e spelled fits r)

-- and no other unit
own : (x : Item) (tokens : List Token) (items : List Item) → tokens ≡ item.spell x → item.Fits unlimited x → IsText unit tokens items → items ≡ x ∷ []
own x tokens items spelled fits text = sym (text.only unlimited (x ∷ []) (fits, tt) (spelled ∙ sym (append-nil (item.spell x))))

pub shown_is_read : ShownIsRead
shown_is_read program k p there h small (Ok s) reads = own (written program p) (tokens_of (shown program k)) (map plain_item s.items.items) (procedures_are_spelled program k p there h) (written_fits program p h small unlimited) reads.0
shown_is_read program k p there h small (Err e) reads = want (written program p) (tokens_of (shown program k)) (places_of (shown program k)) e.kind e (procedures_are_spelled program k p there h) (written_fits program p h small) reads
