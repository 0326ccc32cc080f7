-- Phrases in general.
use Rattle.std.proofs.Common.{arith, ◌≤◌, ◌≡◌, List, [], ◌∷◌, ◌++◌, length, refl, ap, ◌∙◌}
use Rattle.std.proofs.lemmas.List.{append_cancel_left, length-append}
use Rattle.text_phrases.specs.Limits.{Limits, unlimited, in_depth, in_length, in_size, Keeps, Cause, syntax, too_deep, too_long, too_large}
use Rattle.text_phrases.specs.Phrase.{first, Phrase, Taken, GoesOn, Goes}

-- what stands before keeps the first tokens the same
pub first_append : {A : Type 0} (word r x : List A) → first r ≡ first x → first (word ++ r) ≡ first (word ++ x)
first_append [] r x same = same
first_append (a ∷ word) r x same = refl

-- the word after a taken tree is the word after any other reading
pub taken_rest : {A T : Type 0} {kind : Phrase A T} {tokens rest : List A} {tree : T} → Taken kind tokens tree rest → (limits : Limits) (other : T) (x y : List A) → first rest ≡ first x → kind.Fits limits other → kind.Follows (first y) → kind.spell tree ++ x ≡ kind.spell other ++ y → x ≡ y
taken_rest {kind = kind} {tree = tree} taken limits other x y same fits follow equal =
    append_cancel_left (kind.spell tree) x y (equal ∙ ap (λ t. kind.spell t ++ y) (taken.only limits other x y same fits follow equal))

pub taken_shorter : {A T : Type 0} {kind : Phrase A T} {tokens rest : List A} {tree : T} → Taken kind tokens tree rest → length rest ≤ length tokens
taken_shorter {kind = kind} {tokens = tokens} {rest = rest} {tree = tree} taken = omega (arith, ap length taken.whole, length-append (kind.spell tree) rest)

-- what is asked under limits follows from what is asked under the same ones
pub keeps_map : (limits : Limits) {D L S E M R : Type 0} → (D → E) → (L → M) → (S → R) → Keeps limits D L S → Keeps limits E M R
keeps_map unlimited d l s keeps = tt
keeps_map in_depth d l s keeps = d keeps
keeps_map in_length d l s keeps = (d keeps.0, l keeps.1)
keeps_map in_size d l s keeps = (d keeps.0, l keeps.1, s keeps.2)

pub keeps_both : (limits : Limits) {D L S E M R F N Q : Type 0} → (D → E → F) → (L → M → N) → (S → R → Q) → Keeps limits D L S → Keeps limits E M R → Keeps limits F N Q
keeps_both unlimited d l s one two = tt
keeps_both in_depth d l s one two = d one two
keeps_both in_length d l s one two = (d one.0 two.0, l one.1 two.1)
keeps_both in_size d l s one two = (d one.0 two.0, l one.1 two.1, s one.2 two.2)

-- what holds is kept whatever limits count
pub keeps_all : (limits : Limits) {D L S : Type 0} → D → L → S → Keeps limits D L S
keeps_all unlimited d l s = tt
keeps_all in_depth d l s = d
keeps_all in_length d l s = (d, l)
keeps_all in_size d l s = (d, l, s)

-- where a part goes on, the whole does
pub goes_along : {A T B U : Type 0} (part : Phrase A T) (whole : Phrase B U) (cause : Cause) (before rest : List A) (b r : List B) → ((limits : Limits) → GoesOn part limits before rest → GoesOn whole limits b r) → Goes cause part before rest → Goes cause whole b r
goes_along part whole syntax before rest b r along goes = tt
goes_along part whole too_deep before rest b r along goes = along unlimited goes
goes_along part whole too_long before rest b r along goes = along in_depth goes
goes_along part whole too_large before rest b r along goes = along in_length goes

-- a phrase that goes on whatever limits count
pub goes_all : {A T : Type 0} (kind : Phrase A T) (cause : Cause) (before rest : List A) → ((limits : Limits) → GoesOn kind limits before rest) → Goes cause kind before rest
goes_all kind syntax before rest goes = tt
goes_all kind too_deep before rest goes = goes unlimited
goes_all kind too_long before rest goes = goes in_depth
goes_all kind too_large before rest goes = goes in_length
