-- The grammar of patterns: how each is written, and what it means.
use Rattle.std.specs.Prelude.{◌≡◌, ℕ, List, [], ◌∷◌, ◌++◌, Option, Some, None, Bool, true, false}
use Rattle.text_phrases.specs.Limits.{Limits}
use Rattle.text_phrases.specs.Phrase.{Phrase}
use Rattle.text_phrases.specs.Sequence.{exactly, MaybeFits, maybe, then_by}
use Rattle.text_lexer.specs.declared.token.Token.{Token}
use Rattle.text_lexer.specs.declared.token.Token.TheVariants.{Name, Word, Sign}
use Rattle.text_lexer.specs.declared.token.Word.TheVariants as w
use Rattle.text_lexer.specs.declared.token.Sign.TheVariants.{Any, Open, Close, OpenBracket}
use Rattle.text_lexer.specs.declared.token.Sign.TheVariants.{CloseBracket, Colon, Dot, Assign}
use Rattle.text_lexer.specs.declared.token.Sign.TheVariants.{Reduce, Plus, Minus, Times}
use Rattle.text_expressions.specs.Values.{name}
use Rattle.cursor_forward.specs.Search.Patterns as p

abbrev pub IsEnd : Option Token → Type 0
IsEnd o = o ≡ None

-- a name, or `_` for any
abbrev pub NameOrAny : Type 0
NameOrAny = Option (List ℕ)

abbrev pub spell_name : NameOrAny → List Token
spell_name None = Sign Any ∷ []
spell_name (Some x) = Name x ∷ []

abbrev pub name_or_any : Phrase Token NameOrAny
name_or_any = record { Fits = MaybeFits name; spell = spell_name; Follows = λ o. Unit {0} }

-- `= _` or `+= _`
abbrev pub spell_change : Bool → List Token
spell_change false = Sign Assign ∷ Sign Any ∷ []
spell_change true = Sign Reduce ∷ Sign Any ∷ []

abbrev pub change : Phrase Token Bool
change = record { Fits = λ limits reduces. Unit {0}; spell = spell_change; Follows = λ o. Unit {0} }

-- what may stand behind the first name of a statement's pattern
pub data Behind : Type 0 where
  -- `j`
  inner : NameOrAny → Behind
  -- `: _`
  allocated : Behind
  -- `(_)`
  called : Behind
  -- `.f = _`
  field : NameOrAny → Behind
  -- `= _`, or `+= _`
  changed : Bool → Behind
  -- `[_] = _`, or `[_] += _`
  cell : Bool → Behind

abbrev pub BehindFits : Limits → Behind → Type 0
BehindFits limits (inner j) = name_or_any.Fits limits j
BehindFits limits (field f) = name_or_any.Fits limits f
BehindFits limits other = Unit {0}

abbrev pub spell_behind : Behind → List Token
spell_behind (inner j) = spell_name j
spell_behind allocated = Sign Colon ∷ Sign Any ∷ []
spell_behind called = Sign Open ∷ Sign Any ∷ Sign Close ∷ []
spell_behind (field f) = Sign Dot ∷ (spell_name f ++ (Sign Assign ∷ Sign Any ∷ []))
spell_behind (changed reduces) = spell_change reduces
spell_behind (cell reduces) = Sign OpenBracket ∷ Sign Any ∷ Sign CloseBracket ∷ spell_change reduces

abbrev pub behind_name : Phrase Token Behind
behind_name = record { Fits = BehindFits; spell = spell_behind; Follows = λ o. Unit {0} }

abbrev pub maybe_behind : Phrase Token (Option Behind)
maybe_behind = maybe behind_name IsEnd

-- a pattern of statements, as it is written
pub data Written : Type 0 where
  -- `pass`
  skip : Written
  -- `if _: _`
  branch : Written
  -- `for i in _: _`
  loop : NameOrAny → Written
  -- what begins with a name
  named : NameOrAny → Option Behind → Written

abbrev pub WrittenFits : Limits → Written → Type 0
WrittenFits limits (loop i) = name_or_any.Fits limits i
WrittenFits limits (named x told) = name_or_any.Fits limits x × maybe_behind.Fits limits told
WrittenFits limits other = Unit {0}

abbrev pub spell_written : Written → List Token
spell_written skip = Word w.Pass ∷ []
spell_written branch = Word w.If ∷ Sign Any ∷ Sign Colon ∷ Sign Any ∷ []
spell_written (loop i) =
    Word w.For ∷ (spell_name i ++ (Word w.In ∷ Sign Any ∷ Sign Colon ∷ Sign Any ∷ []))
spell_written (named x told) = spell_name x ++ maybe_behind.spell told

abbrev pub statement : Phrase Token Written
statement = record { Fits = WrittenFits; spell = spell_written; Follows = IsEnd }

-- what a pattern of statements means
abbrev pub meant : Written → p.Pattern
meant skip = p.Pass
meant branch = p.If
meant (loop i) = p.Loop i
meant (named i None) = p.Loop i
meant (named i (Some (inner j))) = p.Nest i j
meant (named x (Some allocated)) = p.Alloc x
meant (named f (Some called)) = p.Call f
meant (named c (Some (field f))) = p.Config c f
meant (named x (Some (changed false))) = p.Assign x
meant (named x (Some (changed true))) = p.Reduce x
meant (named x (Some (cell false))) = p.Assign x
meant (named x (Some (cell true))) = p.Reduce x

-- `[_]`
abbrev pub index : Phrase Token (Unit {0})
index = exactly (Sign OpenBracket ∷ Sign Any ∷ Sign CloseBracket ∷ [])

-- what may stand behind the first name of an expression's pattern: `[_]`; and behind `_`, an
-- operator and `_`
pub data After : Type 0 where
  indexed : After
  added : After
  subtracted : After
  multiplied : After

abbrev pub AfterFits : NameOrAny → Limits → After → Type 0
AfterFits x limits indexed = Unit {0}
AfterFits None limits operator = Unit {0}
AfterFits (Some x) limits operator = ⊥

abbrev pub spell_after : After → List Token
spell_after indexed = index.spell tt
spell_after added = Sign Plus ∷ Sign Any ∷ []
spell_after subtracted = Sign Minus ∷ Sign Any ∷ []
spell_after multiplied = Sign Times ∷ Sign Any ∷ []

abbrev pub after_name : NameOrAny → Phrase Token After
after_name x = record { Fits = AfterFits x; spell = spell_after; Follows = λ o. Unit {0} }

-- a pattern of expressions
abbrev pub expression : Phrase Token (NameOrAny × Option After)
expression = then_by name_or_any (λ x. maybe (after_name x) IsEnd) IsEnd

-- what it means
abbrev pub form_meant : NameOrAny × Option After → p.ExprForm
form_meant (x, None) = p.Read x
form_meant (x, Some indexed) = p.Read x
form_meant (x, Some added) = p.Add
form_meant (x, Some subtracted) = p.Sub
form_meant (x, Some multiplied) = p.Mul
