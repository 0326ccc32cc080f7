-- The productions of parameters.
use Rattle.std.proofs.Common.{◌≡◌, ℕ, ◌<◌, ◌≤◌, List, [], ◌∷◌, ◌++◌, Option, Some, None, Bool}
use Rattle.std.proofs.Common.{length, refl, sym, ap, ◌∙◌, subst, arith, map, inl, inr}
use Rattle.std.proofs.lemmas.List.{length-append, length-map}
use Rattle.text_phrases.specs.Limits.{Limits, syntax}
use Rattle.text_phrases.specs.Phrase.{first, Phrase, Refused}
use Rattle.text_phrases.specs.Sequence.{exactly, then}
use Rattle.text_phrases.specs.Answers.{Refuses}
use Rattle.text_phrases.specs.declared.Refusal.{Refusal}
use Rattle.text_phrases.specs.declared.Refusal.TheVariants.{Memory, Syntax, TooDeep, TooLong, TooLarge}
use Rattle.text_phrases.proofs.Sequences.{Back, Step}
use Rattle.text_phrases.proofs.Joints.{Joint}
use Rattle.text_expressions.specs.Values.{name}
use Rattle.text_expressions.specs.Starts.{StartsWithName, RefusesItem}
use Rattle.text_expressions.specs.Expression.{Tree}
use Rattle.text_lexer.specs.declared.token.Token.{Token}
use Rattle.text_lexer.specs.declared.token.Token.TheVariants.{Name, Sign, Word}
use Rattle.text_lexer.specs.declared.token.Sign.TheVariants.{OpenBracket, CloseBracket, Comma, Close, Colon}
use Rattle.text_lexer.specs.declared.token.Word.TheVariants as w
use Rattle.exo_reader.specs.Source.{TypeName, stride, named, Form, plain, strided, Parameter}
use Rattle.exo_reader.specs.Parts.{dims, maybe_dims, type_name, FollowsMemory, maybe_memory, form, parameter, FewParameters, parameters}
use Rattle.exo_reader.specs.Views.{plain_parameter}
use Rattle.exo_reader.specs.declared.source.SourceParam.{SourceParam}
use Rattle.exo_reader.proofs.Parts.{no_name, zero, dims_zero}
use Rattle.exo_reader.proofs.Lists.{Enclosable, Enclosed_read, Items_read, Room, enclosed_full, enclosed_wrong}

-- types

back_plain : (limits : Limits) (tokens : List Token) (other : Form) (x y : List Token) → (first tokens ≡ Some (Sign OpenBracket) → ⊥) → first tokens ≡ first x → form.Fits limits other → form.Follows (first y) → x ≡ form.spell other ++ y → Back (then type_name maybe_dims) (λ p. plain p.0 p.1) limits other x y
back_plain limits tokens (plain kind ds) x y none same fits follows equal = record { tree = (kind, ds); fits = fits; is = refl; equal = equal; follows = follows }
back_plain limits tokens (strided kind ds) x y none same fits follows equal = absurd (none (same ∙ ap first equal))

pub step_plain : (tokens : List Token) → (first tokens ≡ Some (Sign OpenBracket) → ⊥) → Step form (then type_name maybe_dims) (λ p. plain p.0 p.1) tokens tokens
step_plain tokens none = record {
  front = [];
  split = refl;
  fits = λ limits p fits. fits;
  spelled = λ p. refl;
  back = λ limits other x y same fits follows equal. back_plain limits tokens other x y none same fits follows equal;
}

pub plain1 : Joint type_name maybe_dims
plain1 = record { may = record { may = λ limits q y fits follows. tt }; some = []; fits = λ limits. tt }

abbrev pub Window2 : Phrase Token ((Unit {0}) × List Tree)
Window2 = then (exactly (Sign CloseBracket ∷ [])) dims

abbrev pub Window1 : Phrase Token (TypeName × ((Unit {0}) × List Tree))
Window1 = then type_name Window2

pub window1 : Joint type_name Window2
window1 = record { may = record { may = λ limits q y fits follows. tt }; some = (tt, zero ∷ []); fits = λ limits. (tt, dims_zero limits) }

pub window2 : Joint (exactly (Sign CloseBracket ∷ [])) dims
window2 = record { may = record { may = λ limits q y fits follows. tt }; some = zero ∷ []; fits = λ limits. dims_zero limits }

back_window : (limits : Limits) (other : Form) (x y : List Token) → form.Fits limits other → Sign OpenBracket ∷ x ≡ form.spell other ++ y → Back Window1 (λ p. strided p.0 p.1.1) limits other x y
back_window limits (plain stride ds) x y fits equal = absurd (let e : Sign OpenBracket ≡ Word w.Stride = cc in cc)
back_window limits (plain (named n) ds) x y fits equal = absurd (let e : Sign OpenBracket ≡ Name n = cc in cc)
back_window limits (strided kind ds) x y fits equal =
    record { tree = (kind, (tt, ds)); fits = (fits.0, (tt, fits.1)); is = refl; equal = (let e : x ≡ (type_name.spell kind ++ (Sign CloseBracket ∷ dims.spell ds)) ++ y = cc in e); follows = tt }

pub step_window : (after : List Token) → Step form Window1 (λ p. strided p.0 p.1.1) (Sign OpenBracket ∷ after) after
step_window after = record {
  front = Sign OpenBracket ∷ [];
  split = refl;
  fits = λ limits p fits. (fits.0, fits.1.1);
  spelled = λ p. refl;
  back = λ limits other x y same fits follows equal. back_window limits other x y fits equal;
}

-- parameters

abbrev pub Param2 : Phrase Token (Form × Option (List ℕ))
Param2 = then form maybe_memory

abbrev pub Param1 : Phrase Token ((List ℕ × (Unit {0})) × (Form × Option (List ℕ)))
Param1 = then (then name (exactly (Sign Colon ∷ []))) Param2

abbrev pub param_of : (List ℕ × (Unit {0})) × (Form × Option (List ℕ)) → Parameter
param_of p = record { name = p.0.0; form = p.1.0; memory = p.1.1 }

pub step_param : (tokens : List Token) → Step parameter Param1 param_of tokens tokens
step_param tokens = record {
  front = [];
  split = refl;
  fits = λ limits p fits. (fits.0.0, fits.1.0, fits.1.1);
  spelled = λ p. refl;
  back = λ limits other x y same fits follows equal.
      record {
        tree = ((other.name, tt), (other.form, other.memory));
        fits = ((fits.0, tt), (fits.1, fits.2));
        is = refl;
        equal = equal;
        follows = follows;
      };
}

no_bracket : (o : Option Token) → FollowsMemory o → o ≡ Some (Sign OpenBracket) → ⊥
no_bracket o follows opens = subst FollowsMemory opens follows

memory_may : (m : Option (List ℕ)) (y : List Token) → FollowsMemory (first y) → form.Follows (first (maybe_memory.spell m ++ y))
memory_may None y follows = no_bracket (first y) follows
memory_may (Some x) y follows = λ opens. cc (opens)

pub param1 : Joint (then name (exactly (Sign Colon ∷ []))) Param2
param1 = record { may = record { may = λ limits q y fits follows. tt }; some = (plain stride [], None); fits = λ limits. ((tt, tt), tt) }

pub param2 : Joint form maybe_memory
param2 = record { may = record { may = λ limits q y fits follows. memory_may q y follows }; some = None; fits = λ limits. tt }

-- lists of parameters

not_close : (n : List ℕ) → Some (Name n) ≡ Some (Sign Close) → ⊥
not_close n equal = let e : Name n ≡ Sign Close = cc (equal) in cc (e)

pub can_enclose : Enclosable parameter FewParameters
can_enclose = record { begins = λ limits p y fits ends. not_close p.name ends; comma = tt; close = tt; short = omega arith }

pub room_for : (list : List SourceParam) → length list < 32 → Room FewParameters plain_parameter list
room_for list less head tail t is = omega (arith, less, ap length is, length-append (map plain_parameter tail) (t ∷ []), length-map tail plain_parameter)

starts_with : (tokens : List Token) (n : List ℕ) (y : List Token) → first tokens ≡ Some (Name n) → StartsWithName tokens
starts_with [] n y same = cc (same)
starts_with (t ∷ more) n y same = let e : t ≡ Name n = cc (same) in subst (λ (u : Token). StartsWithName (u ∷ more)) (sym e) tt

no_parameter : (tokens : List Token) → (StartsWithName tokens → ⊥) → Refused parameter syntax tokens (length tokens)
no_parameter tokens none = record {
  before = [];
  rest = tokens;
  whole = refl;
  count = refl;
  begins = record { tree = record { name = []; form = plain stride []; memory = None }; more = Name [] ∷ Sign Colon ∷ Word w.Stride ∷ []; fits = λ limits. (no_name limits, (tt, tt), tt); spelled = refl };
  goes = tt;
  stuck = λ other x y same fits follows equal. none (starts_with tokens other.name y (same ∙ ap first equal));
}

-- a further parameter would be the 33rd
pub many_parameters : (tokens rest after : List Token) (list : List SourceParam) (e : Refusal) → Enclosed_read parameter FewParameters plain_parameter tokens list rest → rest ≡ Sign Comma ∷ after → (first after ≡ Some (Sign Close) → ⊥) → 32 ≤ length list → RefusesItem after e → Refuses parameters tokens e
many_parameters tokens rest [] list (TooLong last) begun comma unclosed full refuses = absurd refuses.0
many_parameters tokens rest (Name n ∷ after) list (TooLong last) begun comma unclosed full refuses =
    subst (λ (k : ℕ). Refuses parameters tokens (TooLong k)) (sym refuses.1)
    (enclosed_full parameter FewParameters plain_parameter tokens rest (Name n ∷ after) (Sign Colon ∷ Word w.Stride ∷ []) list (record { name = n; form = plain stride []; memory = None }) (Name n) can_enclose begun comma
    unclosed refl (tt, (tt, tt), tt) refl
    (λ t ts y fits same short. omega (arith, full, ap length begun.is, short, length-append (map plain_parameter begun.tail) (t ∷ ts), length-map begun.tail plain_parameter)))
many_parameters tokens rest (other ∷ after) list (TooLong last) begun comma unclosed full refuses = absurd refuses.0
many_parameters tokens rest after list (Syntax last) begun comma unclosed full refuses =
    subst (λ (k : ℕ). Refuses parameters tokens (Syntax k)) (sym refuses.1)
    (enclosed_wrong parameter FewParameters plain_parameter tokens rest after list can_enclose begun comma unclosed (no_parameter after refuses.0))
many_parameters tokens rest after list Memory begun comma unclosed full refuses = absurd refuses
many_parameters tokens rest after list (TooDeep last) begun comma unclosed full refuses = absurd refuses
many_parameters tokens rest after list (TooLarge last) begun comma unclosed full refuses = absurd refuses

pub full_parameters :
    (tokens rest : List Token) (list : List SourceParam) (comma : Bool) (e : Refusal) → Items_read parameter
    FewParameters plain_parameter tokens list comma rest → (first rest ≡ Some (Sign Close) → ⊥) → 32 ≤ length
    list → RefusesItem rest e → Refuses parameters tokens e
full_parameters tokens rest list comma e (inl none) unclosed full refuses =
    absurd (let few : length list ≡ 0 = ap length none.0 in omega (arith, full, few))
full_parameters tokens rest list comma e (inr some) unclosed full refuses =
    many_parameters tokens (Sign Comma ∷ rest) rest list e some.0 refl unclosed full refuses
