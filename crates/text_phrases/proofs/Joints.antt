-- A phrase and the next one, at the returns of the functions that read both.
use Rattle.std.proofs.Common.{List, Option}
use Rattle.text_phrases.specs.Limits.{Limits}
use Rattle.text_phrases.specs.Phrase.{Phrase, Taken}
use Rattle.text_phrases.specs.Sequence.{then, then_by}
use Rattle.text_phrases.specs.Answers.{Refuses}
use Rattle.text_phrases.specs.declared.Refusal.{Refusal}
use Rattle.text_phrases.proofs.Exits.{refuses_along}
use Rattle.text_phrases.proofs.Sequences.{Step, Before, step_taken, step_refused, step_then, refused_then, JointBy, step_then_by, refused_then_by}

-- the second phrase may stand behind the first, and there is one
pub record Joint {A T S : Type 0} (P : Phrase A T) (Q : Phrase A S) : Type 0 where
  pub may : Before P Q
  pub some : S
  pub fits : (limits : Limits) → Q.Fits limits some

-- the first phrase is refused
pub now : {A T S : Type 0} {P : Phrase A T} {Q : Phrase A S} → Joint P Q → (tokens : List A) (e : Refusal) → Refuses P tokens e → Refuses (then P Q) tokens e
now {P = P} {Q = Q} joint tokens e refuses = refuses_along P tokens (then P Q) tokens e (λ cause last refused. refused_then P Q tokens last joint.some joint.fits joint.may refused) refuses

-- the first phrase is taken, and the second one refused
pub later : {A T S : Type 0} {P : Phrase A T} {Q : Phrase A S} {tokens after : List A} {t : T} → Joint P Q → Taken P tokens t after → (e : Refusal) → Refuses Q after e → Refuses (then P Q) tokens e
later {P = P} {Q = Q} {tokens = tokens} {after = after} {t = t} joint taken e refuses =
    refuses_along Q after (then P Q) tokens e (λ cause last refused. step_refused (then P Q) Q (λ q. (t, q)) tokens after last (step_then P Q tokens after t joint.may taken) refused) refuses

-- both are taken
pub both : {A T S : Type 0} {P : Phrase A T} {Q : Phrase A S} {tokens after rest : List A} {t : T} {s : S} → Joint P Q → Taken P tokens t after → Taken Q after s rest → Taken (then P Q) tokens (t, s) rest
both {P = P} {Q = Q} {tokens = tokens} {after = after} {rest = rest} {t = t} {s = s} joint taken second = step_taken (then P Q) Q (λ q. (t, q)) tokens after rest s (step_then P Q tokens after t joint.may taken) second

-- a whole phrase whose first token is read
pub whole_err : {A T S : Type 0} (whole : Phrase A T) (part : Phrase A S) (build : S → T) (tokens after : List A) (e : Refusal) → Step whole part build tokens after → Refuses part after e → Refuses whole tokens e
whole_err whole part build tokens after e step refuses = refuses_along part after whole tokens e (λ cause last refused. step_refused whole part build tokens after last step refused) refuses

-- the same where the second phrase depends on the first

pub now_by : {A T S : Type 0} {P : Phrase A T} {Q : T → Phrase A S} {ends : Option A → Type 0} → JointBy P Q ends → (tokens : List A) (e : Refusal) → Refuses P tokens e → Refuses (then_by P Q ends) tokens e
now_by {P = P} {Q = Q} {ends = ends} joint tokens e refuses = refuses_along P tokens (then_by P Q ends) tokens e (λ cause last refused. refused_then_by P Q ends tokens last joint refused) refuses

pub later_by : {A T S : Type 0} {P : Phrase A T} {Q : T → Phrase A S} {ends : Option A → Type 0} {tokens after : List A} {t : T} → JointBy P Q ends → Taken P tokens t after → (e : Refusal) → Refuses (Q t) after e → Refuses (then_by P Q ends) tokens e
later_by {P = P} {Q = Q} {ends = ends} {tokens = tokens} {after = after} {t = t} joint taken e refuses =
    refuses_along (Q t) after (then_by P Q ends) tokens e (λ cause last refused. step_refused (then_by P Q ends) (Q t) (λ q. (t, q)) tokens after last (step_then_by P Q ends tokens after t joint taken) refused) refuses

pub both_by : {A T S : Type 0} {P : Phrase A T} {Q : T → Phrase A S} {ends : Option A → Type 0} {tokens after rest : List A} {t : T} {s : S} → JointBy P Q ends → Taken P tokens t after → Taken (Q t) after s rest → Taken (then_by P Q ends) tokens (t, s) rest
both_by {P = P} {Q = Q} {ends = ends} {tokens = tokens} {after = after} {rest = rest} {t = t} {s = s} joint taken second = step_taken (then_by P Q ends) (Q t) (λ q. (t, q)) tokens after rest s (step_then_by P Q ends tokens after t joint taken) second
