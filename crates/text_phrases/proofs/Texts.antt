-- Whole texts, from phrases at their front.
use Rattle.std.proofs.Common.{◌≡◌, ℕ, List, [], ◌∷◌, ◌++◌, None, length, Result, Ok, Err, MatchResult, refl, sym, ap, ◌∙◌, subst}
use Rattle.std.proofs.lemmas.List.{append_cancel_left, append-nil}
use Rattle.text_phrases.specs.Limits.{unlimited, Cause, syntax}
use Rattle.text_phrases.specs.Phrase.{first, Phrase, Taken, Refused}
use Rattle.std.specs.Result.{IsErrAnd}
use Rattle.text_phrases.specs.Text.{IsText, FaultAt, Faults}
use Rattle.text_phrases.specs.Answers.{Refuses}
use Rattle.text_phrases.specs.declared.Refusal.{Refusal}
use Rattle.text_phrases.specs.declared.Refusal.TheVariants.{Memory, Syntax, TooDeep, TooLong, TooLarge}

pub text_ok : {A T : Type 0} (kind : Phrase A T) (tokens rest : List A) (tree : T) → kind.Follows None → Taken kind tokens tree rest → rest ≡ [] → IsText kind tokens tree
text_ok kind tokens rest tree ends taken empty =
    let whole : tokens ≡ kind.spell tree = taken.whole ∙ ap (λ r. kind.spell tree ++ r) empty ∙ append-nil (kind.spell tree) in
    record {
      fits = taken.fits;
      spelled = whole;
      only = λ limits other fits equal. taken.only limits other [] [] (ap first empty) fits ends (append-nil (kind.spell tree) ∙ sym whole ∙ equal ∙ sym (append-nil (kind.spell other)));
    }

pub text_refused : {A T : Type 0} (kind : Phrase A T) {cause : Cause} (tokens : List A) (last : ℕ) → kind.Follows None → Refused kind cause tokens last → FaultAt kind cause tokens last
text_refused kind tokens last ends refused = record {
  before = refused.before;
  rest = refused.rest;
  whole = refused.whole;
  count = refused.count;
  begins = refused.begins;
  goes = refused.goes;
  none = λ other more fits same equal. refused.stuck other more [] same fits ends (equal ∙ sym (append-nil (kind.spell other)));
}

pub text_err : {A T : Type 0} (kind : Phrase A T) (tokens : List A) (e : Refusal) → kind.Follows None → Refuses kind tokens e → Faults kind tokens e
text_err kind tokens Memory ends refuses = tt
text_err kind tokens (Syntax last) ends refuses = text_refused kind tokens last ends refuses
text_err kind tokens (TooDeep last) ends refuses = text_refused kind tokens last ends refuses
text_err kind tokens (TooLong last) ends refuses = text_refused kind tokens last ends refuses
text_err kind tokens (TooLarge last) ends refuses = text_refused kind tokens last ends refuses

-- something stands behind a phrase that could be the whole
pub text_longer : {A T : Type 0} (kind : Phrase A T) (tokens rest : List A) (tree : T) (a : A) (tail : List A) → kind.Follows None → Taken kind tokens tree rest → rest ≡ a ∷ tail → FaultAt kind syntax tokens (length rest)
text_longer kind tokens rest tree a tail ends taken longer = record {
  before = kind.spell tree;
  rest = rest;
  whole = taken.whole;
  count = refl;
  begins = record { tree = tree; more = []; fits = taken.fits; spelled = append-nil (kind.spell tree) };
  goes = tt;
  none = λ other more fits same equal.
      let e : kind.spell tree ++ more ≡ kind.spell other ++ [] = equal ∙ sym (append-nil (kind.spell other)) in
      let alike : other ≡ tree = taken.only unlimited other more [] same fits ends e in
      let empty : more ≡ [] = append_cancel_left (kind.spell tree) more [] (e ∙ ap (λ t. kind.spell t ++ []) alike) in
      let clash : first (a ∷ tail) ≡ first [] = sym (ap first longer) ∙ same ∙ ap first empty in
      cc (clash);
}

pub text_exit : {A T X : Type 0} (kind : Phrase A T) (tokens : List A) (tree : X → T) (result : Result X Refusal) (e : Refusal) → IsErrAnd result (λ r. r ≡ e) → Faults kind tokens e → MatchResult result (λ x. IsText kind tokens (tree x)) (λ r. Faults kind tokens r)
text_exit kind tokens tree (Ok x) e is faults = absurd is
text_exit kind tokens tree (Err r) e is faults = subst (Faults kind tokens) (sym is) faults
