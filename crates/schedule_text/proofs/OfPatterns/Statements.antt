-- Patterns of statements.
use Rattle.std.proofs.Common.{◌≡◌, List, [], ◌∷◌, ◌++◌, Option, Some, None, true, false, refl, sym, ap, ◌∙◌, ◌⊎◌, inl, inr}
use Rattle.text_phrases.specs.Limits.{Limits}
use Rattle.text_phrases.specs.Phrase.{first, Taken}
use Rattle.text_phrases.specs.Sequence.{exactly, then}
use Rattle.text_phrases.proofs.Eased.{tails}
use Rattle.text_phrases.proofs.Sequences.{Back, Step, step_taken, step_maybe, taken_nothing}
use Rattle.text_phrases.proofs.Joints.{Joint, both}
use Rattle.text_lexer.specs.declared.token.Token.{Token}
use Rattle.text_lexer.specs.declared.token.Token.TheVariants.{Name, Word, Sign}
use Rattle.text_lexer.specs.declared.token.Word.TheVariants as w
use Rattle.text_lexer.specs.declared.token.Sign.TheVariants.{Any, Open, Close, OpenBracket, CloseBracket, Colon, Dot, Assign, Reduce}
use Rattle.cursor_forward.specs.Search.Patterns as p
use Rattle.schedule_text.specs.Patterns.Grammar.{IsEnd, NameOrAny, name_or_any, change, Behind}
use Rattle.schedule_text.specs.Patterns.Grammar.{inner, allocated, called, field, changed, cell}
use Rattle.schedule_text.specs.Patterns.Grammar.{spell_behind, behind_name, maybe_behind, Written}
use Rattle.schedule_text.specs.Patterns.Grammar.{skip, branch, loop, named, spell_written}
use Rattle.schedule_text.specs.Patterns.Grammar.{statement, meant}
use Rattle.schedule_text.specs.Patterns.Told.{told, maybe_told, meant_by}
use Rattle.schedule_text.specs.declared.patterns.statement.Told.{Told}
use Rattle.schedule_text.specs.Patterns.Texts.{Means}

-- what stands behind a name

abbrev first_of : Behind → Token
first_of (inner None) = Sign Any
first_of (inner (Some n)) = Name n
first_of allocated = Sign Colon
first_of called = Sign Open
first_of (field f) = Sign Dot
first_of (changed false) = Sign Assign
first_of (changed true) = Sign Reduce
first_of (cell reduces) = Sign OpenBracket

begins : (b : Behind) (y : List Token) → first (spell_behind b ++ y) ≡ Some (first_of b)
begins (inner None) y = refl
begins (inner (Some n)) y = refl
begins allocated y = refl
begins called y = refl
begins (field f) y = refl
begins (changed false) y = refl
begins (changed true) y = refl
begins (cell reduces) y = refl

back_colon : (limits : Limits) (other : Behind) (x y : List Token) → behind_name.Fits limits other → Sign Colon ∷ x ≡ spell_behind other ++ y → Back (exactly (Sign Any ∷ [])) (λ _. allocated) limits other x y
back_colon limits (inner None) x y fits equal = absurd (cc (equal))
back_colon limits (inner (Some n)) x y fits equal = absurd (cc (equal))
back_colon limits allocated x y fits equal = record { tree = tt; fits = tt; is = refl; equal = tails equal; follows = tt }
back_colon limits called x y fits equal = absurd (cc (equal))
back_colon limits (field f) x y fits equal = absurd (cc (equal))
back_colon limits (changed false) x y fits equal = absurd (cc (equal))
back_colon limits (changed true) x y fits equal = absurd (cc (equal))
back_colon limits (cell reduces) x y fits equal = absurd (cc (equal))

pub step_colon : (tokens after : List Token) → tokens ≡ Sign Colon ∷ after → Step behind_name (exactly (Sign Any ∷ [])) (λ _. allocated) tokens after
step_colon tokens after whole = record {
  front = Sign Colon ∷ [];
  split = whole;
  fits = λ limits s fits. tt;
  spelled = λ s. refl;
  back = λ limits other x y same fits follows equal. back_colon limits other x y fits equal;
}

back_open : (limits : Limits) (other : Behind) (x y : List Token) → behind_name.Fits limits other → Sign Open ∷ x ≡ spell_behind other ++ y → Back (exactly (Sign Any ∷ Sign Close ∷ [])) (λ _. called) limits other x y
back_open limits (inner None) x y fits equal = absurd (cc (equal))
back_open limits (inner (Some n)) x y fits equal = absurd (cc (equal))
back_open limits allocated x y fits equal = absurd (cc (equal))
back_open limits called x y fits equal = record { tree = tt; fits = tt; is = refl; equal = tails equal; follows = tt }
back_open limits (field f) x y fits equal = absurd (cc (equal))
back_open limits (changed false) x y fits equal = absurd (cc (equal))
back_open limits (changed true) x y fits equal = absurd (cc (equal))
back_open limits (cell reduces) x y fits equal = absurd (cc (equal))

pub step_open : (tokens after : List Token) → tokens ≡ Sign Open ∷ after → Step behind_name (exactly (Sign Any ∷ Sign Close ∷ [])) (λ _. called) tokens after
step_open tokens after whole = record {
  front = Sign Open ∷ [];
  split = whole;
  fits = λ limits s fits. tt;
  spelled = λ s. refl;
  back = λ limits other x y same fits follows equal. back_open limits other x y fits equal;
}

back_dot : (limits : Limits) (other : Behind) (x y : List Token) → behind_name.Fits limits other → Sign Dot ∷ x ≡ spell_behind other ++ y → Back (then name_or_any (exactly (Sign Assign ∷ Sign Any ∷ []))) (λ s. field s.0) limits other x y
back_dot limits (inner None) x y fits equal = absurd (cc (equal))
back_dot limits (inner (Some n)) x y fits equal = absurd (cc (equal))
back_dot limits allocated x y fits equal = absurd (cc (equal))
back_dot limits called x y fits equal = absurd (cc (equal))
back_dot limits (field f) x y fits equal = record { tree = (f, tt); fits = (fits, tt); is = refl; equal = tails equal; follows = tt }
back_dot limits (changed false) x y fits equal = absurd (cc (equal))
back_dot limits (changed true) x y fits equal = absurd (cc (equal))
back_dot limits (cell reduces) x y fits equal = absurd (cc (equal))

pub step_dot : (tokens after : List Token) → tokens ≡ Sign Dot ∷ after → Step behind_name (then name_or_any (exactly (Sign Assign ∷ Sign Any ∷ []))) (λ s. field s.0) tokens after
step_dot tokens after whole = record {
  front = Sign Dot ∷ [];
  split = whole;
  fits = λ limits s fits. fits.0;
  spelled = λ s. refl;
  back = λ limits other x y same fits follows equal. back_dot limits other x y fits equal;
}

back_bracket : (limits : Limits) (other : Behind) (x y : List Token) → behind_name.Fits limits other → Sign OpenBracket ∷ x ≡ spell_behind other ++ y → Back (then (exactly (Sign Any ∷ Sign CloseBracket ∷ [])) change) (λ s. cell s.1) limits other x y
back_bracket limits (inner None) x y fits equal = absurd (cc (equal))
back_bracket limits (inner (Some n)) x y fits equal = absurd (cc (equal))
back_bracket limits allocated x y fits equal = absurd (cc (equal))
back_bracket limits called x y fits equal = absurd (cc (equal))
back_bracket limits (field f) x y fits equal = absurd (cc (equal))
back_bracket limits (changed false) x y fits equal = absurd (cc (equal))
back_bracket limits (changed true) x y fits equal = absurd (cc (equal))
back_bracket limits (cell reduces) x y fits equal = record { tree = (tt, reduces); fits = (tt, tt); is = refl; equal = tails equal; follows = tt }

pub step_bracket : (tokens after : List Token) → tokens ≡ Sign OpenBracket ∷ after → Step behind_name (then (exactly (Sign Any ∷ Sign CloseBracket ∷ [])) change) (λ s. cell s.1) tokens after
step_bracket tokens after whole = record {
  front = Sign OpenBracket ∷ [];
  split = whole;
  fits = λ limits s fits. tt;
  spelled = λ s. refl;
  back = λ limits other x y same fits follows equal. back_bracket limits other x y fits equal;
}

pub bracket_change : Joint (exactly (Sign Any ∷ Sign CloseBracket ∷ [])) change
bracket_change = record { may = record { may = λ limits q y fits follows. tt }; some = false; fits = λ limits. tt }

abbrev IsChange : List Token → Type 0
IsChange tokens = (first tokens ≡ Some (Sign Assign)) ⊎ (first tokens ≡ Some (Sign Reduce))

no_change : (tokens x y : List Token) (b : Behind) → IsChange tokens → first tokens ≡ first x → x ≡ spell_behind b ++ y → (first_of b ≡ Sign Assign → ⊥) → (first_of b ≡ Sign Reduce → ⊥) → ⊥
no_change tokens x y b (inl is) same equal one two = one (let e : Some (first_of b) ≡ Some (Sign Assign) = sym (begins b y) ∙ sym (ap first equal) ∙ sym same ∙ is in cc (e))
no_change tokens x y b (inr is) same equal one two = two (let e : Some (first_of b) ≡ Some (Sign Reduce) = sym (begins b y) ∙ sym (ap first equal) ∙ sym same ∙ is in cc (e))

back_change : (limits : Limits) (tokens : List Token) (other : Behind) (x y : List Token) → IsChange tokens → first tokens ≡ first x → x ≡ spell_behind other ++ y → Back change changed limits other x y
back_change limits tokens (inner None) x y is same equal = absurd (no_change tokens x y (inner None) is same equal (λ e. cc (e)) (λ e. cc (e)))
back_change limits tokens (inner (Some n)) x y is same equal = absurd (no_change tokens x y (inner (Some n)) is same equal (λ e. cc (e)) (λ e. cc (e)))
back_change limits tokens allocated x y is same equal = absurd (no_change tokens x y allocated is same equal (λ e. cc (e)) (λ e. cc (e)))
back_change limits tokens called x y is same equal = absurd (no_change tokens x y called is same equal (λ e. cc (e)) (λ e. cc (e)))
back_change limits tokens (field f) x y is same equal = absurd (no_change tokens x y (field f) is same equal (λ e. cc (e)) (λ e. cc (e)))
back_change limits tokens (cell reduces) x y is same equal = absurd (no_change tokens x y (cell reduces) is same equal (λ e. cc (e)) (λ e. cc (e)))
back_change limits tokens (changed reduces) x y is same equal = record { tree = reduces; fits = tt; is = refl; equal = equal; follows = tt }

pub step_change : (tokens : List Token) → IsChange tokens → Step behind_name change changed tokens tokens
step_change tokens is = record {
  front = [];
  split = refl;
  fits = λ limits s fits. tt;
  spelled = λ s. refl;
  back = λ limits other x y same fits follows equal. back_change limits tokens other x y is same equal;
}

-- none of the signs stands first
pub record NoSign (tokens : List Token) : Type 0 where
  pub colon : first tokens ≡ Some (Sign Colon) → ⊥
  pub paren : first tokens ≡ Some (Sign Open) → ⊥
  pub dot : first tokens ≡ Some (Sign Dot) → ⊥
  pub bracket : first tokens ≡ Some (Sign OpenBracket) → ⊥
  pub assign : first tokens ≡ Some (Sign Assign) → ⊥
  pub reduce : first tokens ≡ Some (Sign Reduce) → ⊥

back_inner : (limits : Limits) (tokens : List Token) (other : Behind) (x y : List Token) → NoSign tokens → first tokens ≡ first x → behind_name.Fits limits other → x ≡ spell_behind other ++ y → Back name_or_any inner limits other x y
back_inner limits tokens (inner j) x y none same fits equal = record { tree = j; fits = fits; is = refl; equal = equal; follows = tt }
back_inner limits tokens allocated x y none same fits equal = absurd (none.colon (same ∙ ap first equal))
back_inner limits tokens called x y none same fits equal = absurd (none.paren (same ∙ ap first equal))
back_inner limits tokens (field f) x y none same fits equal = absurd (none.dot (same ∙ ap first equal))
back_inner limits tokens (changed false) x y none same fits equal = absurd (none.assign (same ∙ ap first equal))
back_inner limits tokens (changed true) x y none same fits equal = absurd (none.reduce (same ∙ ap first equal))
back_inner limits tokens (cell reduces) x y none same fits equal = absurd (none.bracket (same ∙ ap first equal))

pub step_inner : (tokens : List Token) → NoSign tokens → Step behind_name name_or_any inner tokens tokens
step_inner tokens none = record {
  front = [];
  split = refl;
  fits = λ limits s fits. fits;
  spelled = λ s. refl;
  back = λ limits other x y same fits follows equal. back_inner limits tokens other x y none same fits equal;
}

-- nothing stands behind a name, or something does

no_behind : (b : Behind) (y : List Token) → None ≡ first (spell_behind b ++ y) → ⊥
no_behind b y same = let e : None ≡ Some (first_of b) = same ∙ begins b y in cc (e)

pub taken_alone : (tokens : List Token) → tokens ≡ [] → Taken maybe_behind tokens None tokens
taken_alone tokens empty = taken_nothing behind_name IsEnd tokens (λ limits b y fits same. no_behind b y (sym (ap first empty) ∙ same))

pub step_some : (tokens more : List Token) (a : Token) → tokens ≡ a ∷ more → Step maybe_behind behind_name Some tokens tokens
step_some tokens more a is = step_maybe behind_name IsEnd tokens (λ o ends. tt) (λ ends. let e : Some a ≡ None = sym (ap first is) ∙ ends in cc (e))

-- a name with what stands behind it

pub name_behind : Joint name_or_any maybe_behind
name_behind = record { may = record { may = λ limits q y fits follows. tt }; some = None; fits = λ limits. tt }

pub meant_told : (x : NameOrAny) (b : Option Behind) → meant_by x (maybe_told b) ≡ meant (named x b)
meant_told x None = refl
meant_told x (Some (inner j)) = refl
meant_told x (Some allocated) = refl
meant_told x (Some called) = refl
meant_told x (Some (field f)) = refl
meant_told x (Some (changed false)) = refl
meant_told x (Some (changed true)) = refl
meant_told x (Some (cell false)) = refl
meant_told x (Some (cell true)) = refl

-- statements

skip_only : (other : Written) (x y : List Token) → Word w.Pass ∷ x ≡ spell_written other ++ y → other ≡ skip
skip_only skip x y equal = refl
skip_only branch x y equal = absurd (cc (equal))
skip_only (loop i) x y equal = absurd (cc (equal))
skip_only (named None b) x y equal = absurd (cc (equal))
skip_only (named (Some n) b) x y equal = absurd (cc (equal))

pub taken_skip : (tokens rest : List Token) → tokens ≡ Word w.Pass ∷ rest → Taken statement tokens skip rest
taken_skip tokens rest whole = record { fits = λ limits. tt; whole = whole; only = λ limits other x y same fits follows equal. skip_only other x y equal }

abbrev pub IfWords : List Token
IfWords = Sign Any ∷ Sign Colon ∷ Sign Any ∷ []

back_if : (limits : Limits) (other : Written) (x y : List Token) → Word w.If ∷ x ≡ spell_written other ++ y → Back (exactly IfWords) (λ _. branch) limits other x y
back_if limits skip x y equal = absurd (cc (equal))
back_if limits branch x y equal = record { tree = tt; fits = tt; is = refl; equal = tails equal; follows = tt }
back_if limits (loop i) x y equal = absurd (cc (equal))
back_if limits (named None b) x y equal = absurd (cc (equal))
back_if limits (named (Some n) b) x y equal = absurd (cc (equal))

pub step_if : (tokens after : List Token) → tokens ≡ Word w.If ∷ after → Step statement (exactly IfWords) (λ _. branch) tokens after
step_if tokens after whole = record {
  front = Word w.If ∷ [];
  split = whole;
  fits = λ limits s fits. tt;
  spelled = λ s. refl;
  back = λ limits other x y same fits follows equal. back_if limits other x y equal;
}

abbrev pub ForWords : List Token
ForWords = Word w.In ∷ Sign Any ∷ Sign Colon ∷ Sign Any ∷ []

back_for : (limits : Limits) (other : Written) (x y : List Token) → statement.Fits limits other → Word w.For ∷ x ≡ spell_written other ++ y → Back (then name_or_any (exactly ForWords)) (λ s. loop s.0) limits other x y
back_for limits skip x y fits equal = absurd (cc (equal))
back_for limits branch x y fits equal = absurd (cc (equal))
back_for limits (loop i) x y fits equal = record { tree = (i, tt); fits = (fits, tt); is = refl; equal = tails equal; follows = tt }
back_for limits (named None b) x y fits equal = absurd (cc (equal))
back_for limits (named (Some n) b) x y fits equal = absurd (cc (equal))

pub step_for : (tokens after : List Token) → tokens ≡ Word w.For ∷ after → Step statement (then name_or_any (exactly ForWords)) (λ s. loop s.0) tokens after
step_for tokens after whole = record {
  front = Word w.For ∷ [];
  split = whole;
  fits = λ limits s fits. fits.0;
  spelled = λ s. refl;
  back = λ limits other x y same fits follows equal. back_for limits other x y fits equal;
}

back_named : (limits : Limits) (tokens : List Token) (other : Written) (x y : List Token) → (first tokens ≡ Some (Word w.Pass) → ⊥) → (first tokens ≡ Some (Word w.If) → ⊥) → (first tokens ≡ Some (Word w.For) → ⊥) → first tokens ≡ first x → statement.Fits limits other → IsEnd (first y) → x ≡ spell_written other ++ y → Back (then name_or_any maybe_behind) (λ s. named s.0 s.1) limits other x y
back_named limits tokens skip x y no_pass no_if no_for same fits follows equal = absurd (no_pass (same ∙ ap first equal))
back_named limits tokens branch x y no_pass no_if no_for same fits follows equal = absurd (no_if (same ∙ ap first equal))
back_named limits tokens (loop i) x y no_pass no_if no_for same fits follows equal = absurd (no_for (same ∙ ap first equal))
back_named limits tokens (named n b) x y no_pass no_if no_for same fits follows equal = record { tree = (n, b); fits = fits; is = refl; equal = equal; follows = follows }

pub step_named : (tokens : List Token) → (first tokens ≡ Some (Word w.Pass) → ⊥) → (first tokens ≡ Some (Word w.If) → ⊥) → (first tokens ≡ Some (Word w.For) → ⊥) → Step statement (then name_or_any maybe_behind) (λ s. named s.0 s.1) tokens tokens
step_named tokens no_pass no_if no_for = record {
  front = [];
  split = refl;
  fits = λ limits s fits. fits;
  spelled = λ s. refl;
  back = λ limits other x y same fits follows equal. back_named limits tokens other x y no_pass no_if no_for same fits follows equal;
}

-- what is told means what is written

pub means_some : (tokens more rest : List Token) (a : Token) (value : Told) → tokens ≡ a ∷ more → Means behind_name told tokens value rest → Means maybe_behind maybe_told tokens (Some value) rest
means_some tokens more rest a value is m = record {
  written = Some m.written;
  taken = step_taken maybe_behind behind_name Some tokens tokens rest m.written (step_some tokens more a is) m.taken;
  is = ap Some m.is;
}

pub means_named : (tokens after rest : List Token) (x : NameOrAny) (value : Option Told) (pattern : p.Pattern) → Taken name_or_any tokens x after → Means maybe_behind maybe_told after value rest → pattern ≡ meant_by x value → Means (then name_or_any maybe_behind) (λ s. meant (named s.0 s.1)) tokens pattern rest
means_named tokens after rest x value pattern taken m is = record {
  written = (x, m.written);
  taken = both name_behind taken m.taken;
  is = is ∙ ap (meant_by x) m.is ∙ meant_told x m.written;
}
