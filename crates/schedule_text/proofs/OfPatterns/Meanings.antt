-- What is read means what is written.
use Rattle.std.proofs.Common.{◌≡◌, List, [], ◌∷◌, length, Option, None, Result, Ok, Err, MatchResult, refl, sym, ap, ◌∙◌, subst}
use Rattle.std.specs.Result.{IsErrAnd}
use Rattle.text_phrases.specs.Phrase.{Phrase, Taken}
use Rattle.text_phrases.specs.Sequence.{then, then_by}
use Rattle.text_phrases.specs.Limits.{syntax}
use Rattle.text_phrases.specs.Text.{FaultAt, Faults}
use Rattle.text_phrases.specs.Answers.{Refuses}
use Rattle.text_phrases.specs.declared.Refusal.{Refusal}
use Rattle.text_phrases.specs.declared.Refusal.TheVariants.{Syntax}
use Rattle.text_phrases.proofs.Sequences.{Step, step_taken, JointBy}
use Rattle.text_phrases.proofs.Joints.{Joint, later, both, later_by, both_by, whole_err}
use Rattle.text_phrases.proofs.Texts.{text_ok, text_longer}
use Rattle.text_lexer.specs.declared.token.Token.{Token}
use Rattle.schedule_text.specs.Patterns.Texts.{Means, ReadsAs, MeansWhole, ReadsWhole}

-- what a `?` returns
pub exit_as : {A T X : Type 0} (kind : Phrase A T) (tokens : List A) (good : X → Type 0) (result : Result X Refusal) (e : Refusal) → IsErrAnd result (λ r. r ≡ e) → Refuses kind tokens e → MatchResult result good (λ r. Refuses kind tokens r)
exit_as kind tokens good (Ok x) e is refuses = absurd is
exit_as kind tokens good (Err r) e is refuses = subst (Refuses kind tokens) (sym is) refuses

pub means : {T P : Type 0} (kind : Phrase Token T) (meaning : T → P) (tokens rest : List Token) (t : T) (value : P) → Taken kind tokens t rest → value ≡ meaning t → Means kind meaning tokens value rest
means kind meaning tokens rest t value taken is = record { written = t; taken = taken; is = is }

-- a part of a whole

pub means_step : {T S P : Type 0} (whole : Phrase Token T) (part : Phrase Token S) (build : S → T) (meaning : T → P) (tokens after rest : List Token) (value : P) → Step whole part build tokens after → Means part (λ s. meaning (build s)) after value rest → Means whole meaning tokens value rest
means_step whole part build meaning tokens after rest value step m = record { written = build m.written; taken = step_taken whole part build tokens after rest m.written step m.taken; is = m.is }

pub reads_step : {T S P X : Type 0} (whole : Phrase Token T) (part : Phrase Token S) (build : S → T) (meaning : T → P) (tokens after : List Token) (value : X → P) (rest : X → List Token) (result : Result X Refusal) → Step whole part build tokens after → ReadsAs part (λ s. meaning (build s)) after value rest result → ReadsAs whole meaning tokens value rest result
reads_step whole part build meaning tokens after value rest (Ok x) step m = means_step whole part build meaning tokens after (rest x) (value x) step m
reads_step whole part build meaning tokens after value rest (Err e) step refuses = whole_err whole part build tokens after e step refuses

-- the second of two phrases

pub means_both : {T S P : Type 0} {first : Phrase Token T} {second : Phrase Token S} (meaning : T × S → P) (tokens after rest : List Token) (t : T) (value : P) → Joint first second → Taken first tokens t after → Means second (λ s. meaning (t, s)) after value rest → Means (then first second) meaning tokens value rest
means_both meaning tokens after rest t value joint taken m = record { written = (t, m.written); taken = both joint taken m.taken; is = m.is }

pub reads_later : {T S P X : Type 0} {first : Phrase Token T} {second : Phrase Token S} (meaning : T × S → P) (tokens after : List Token) (t : T) (value : X → P) (rest : X → List Token) (result : Result X Refusal) → Joint first second → Taken first tokens t after → ReadsAs second (λ s. meaning (t, s)) after value rest result → ReadsAs (then first second) meaning tokens value rest result
reads_later meaning tokens after t value rest (Ok x) joint taken m = means_both meaning tokens after (rest x) t (value x) joint taken m
reads_later meaning tokens after t value rest (Err e) joint taken refuses = later joint taken e refuses

pub reads_later_by : {T S P X : Type 0} {first : Phrase Token T} {second : T → Phrase Token S} {ends : Option Token → Type 0} (meaning : T × S → P) (tokens after : List Token) (t : T) (value : X → P) (rest : X → List Token) (result : Result X Refusal) → JointBy first second ends → Taken first tokens t after → ReadsAs (second t) (λ s. meaning (t, s)) after value rest result → ReadsAs (then_by first second ends) meaning tokens value rest result
reads_later_by meaning tokens after t value rest (Ok x) joint taken m = record { written = (t, m.written); taken = both_by joint taken m.taken; is = m.is }
reads_later_by meaning tokens after t value rest (Err e) joint taken refuses = later_by joint taken e refuses

-- a whole text

pub means_whole : {T P : Type 0} (kind : Phrase Token T) (meaning : T → P) (tokens rest : List Token) (value : P) → kind.Follows None → Means kind meaning tokens value rest → rest ≡ [] → MeansWhole kind meaning tokens value
means_whole kind meaning tokens rest value ends m empty = record { written = m.written; text = text_ok kind tokens rest m.written ends m.taken empty; is = m.is }

pub whole_exit : {A T X : Type 0} (kind : Phrase A T) (tokens : List A) (good : X → Type 0) (result : Result X Refusal) (e : Refusal) → IsErrAnd result (λ r. r ≡ e) → Faults kind tokens e → MatchResult result good (λ r. Faults kind tokens r)
whole_exit kind tokens good (Ok x) e is faults = absurd is
whole_exit kind tokens good (Err r) e is faults = subst (Faults kind tokens) (sym is) faults

-- what is told of itself, where a part that tells nothing more stands behind it

pub reads_followed : {T S P V X : Type 0} (whole : Phrase Token T) (part : Phrase Token S) (build : S → T) (meaning : T → P) (tokens after : List Token) (plain : V → P) (v : V) (value : X → V) (rest : X → List Token) (result : Result X Refusal) → Step whole part build tokens after → ReadsAs part (λ _. v) after value rest result → ((s : S) → plain v ≡ meaning (build s)) → ReadsAs whole meaning tokens (λ x. plain (value x)) rest result
reads_followed whole part build meaning tokens after plain v value rest (Ok x) step m same = record { written = build m.written; taken = step_taken whole part build tokens after (rest x) m.written step m.taken; is = ap plain m.is ∙ same m.written }
reads_followed whole part build meaning tokens after plain v value rest (Err e) step refuses same = whole_err whole part build tokens after e step refuses

-- what was read is all, or something stands behind it

behind_whole : {T : Type 0} (kind : Phrase Token T) (tokens rest : List Token) (tree : T) → kind.Follows None → Taken kind tokens tree rest → (rest ≡ [] → ⊥) → FaultAt kind syntax tokens (length rest)
behind_whole kind tokens [] tree ends taken more = absurd (more refl)
behind_whole kind tokens (a ∷ tail) tree ends taken more = text_longer kind tokens (a ∷ tail) tree a tail ends taken refl

pub reads_whole : {T P V : Type 0} (kind : Phrase Token T) (meaning : T → P) (tokens rest : List Token) (plain : V → P) (v : V) (result : Result V Refusal) → kind.Follows None → Means kind meaning tokens (plain v) rest → MatchResult result (λ x. (x ≡ v) × (rest ≡ [])) (λ e. (e ≡ Syntax (length rest)) × (rest ≡ [] → ⊥)) → ReadsWhole kind meaning tokens plain result
reads_whole kind meaning tokens rest plain v (Ok x) ends m h = means_whole kind meaning tokens rest (plain x) ends (subst (λ y. Means kind meaning tokens (plain y) rest) (sym h.0) m) h.1
reads_whole kind meaning tokens rest plain v (Err e) ends m h = subst (Faults kind tokens) (sym h.0) (behind_whole kind tokens rest m.written ends m.taken h.1)
