-- Operands that no operator splits: with which token each begins, and what is left of it.
use Rattle.std.proofs.Common.{◌≡◌, ℕ, ◌<◌, ◌≤◌, max, true, false, List, [], ◌∷◌, ◌++◌, Option, Some, length, refl, sym, ap, ◌∙◌, append_assoc, subst, arith}
use Rattle.text_phrases.specs.Limits.{in_length, in_size, syntax, too_deep, too_long, too_large}
use Rattle.text_phrases.specs.Phrase.{first, Taken, Begins, Refused}
use Rattle.text_phrases.specs.Answers.{Refuses}
use Rattle.text_phrases.specs.declared.Refusal.{Refusal}
use Rattle.text_phrases.specs.declared.Refusal.TheVariants.{Memory, Syntax, TooDeep, TooLong, TooLarge}
use Rattle.text_phrases.proofs.Phrases.{keeps_all}
use Rattle.text_expressions.specs.Front.Values.{IsShortName}
use Rattle.text_expressions.specs.Expression.{Tree, number, truth, variable, access, field, stride, relu, select, negative, parens, binary, Trees, end, next, Stands, HasIndex, AllStand, spelling, spelling_list, FollowsOperand, operand, Within, HasPlace, depth, deepest, nodes, sign}
use Rattle.text_expressions.specs.Rooms.{IsFull}
use Rattle.text_lexer.specs.declared.token.Token.{Token}
use Rattle.text_lexer.specs.declared.token.Token.TheVariants.{Int, Name, Word, Sign}
use Rattle.text_lexer.specs.declared.token.Literal.{Literal}
use Rattle.text_lexer.specs.declared.token.Literal.TheVariants.{Value, TooLarge}
use Rattle.text_lexer.specs.declared.token.Word.TheVariants.{True, False, Stride, Relu, Select}
use Rattle.text_lexer.specs.declared.token.Sign.TheVariants.{Open, Close, OpenBracket, CloseBracket, Comma, Dot, Minus}
use Rattle.text_expressions.specs.declared.expression.Room.{Room}
use Rattle.std.proofs.Math.Nat.{le-max_left}
use Rattle.text_expressions.proofs.Levels.{level_at_most_four}
use Rattle.text_expressions.proofs.Signs.{headed}
use Rattle.text_expressions.proofs.Sizes.{depth_some, nodes_some, zero_within}

-- what begins with a name: the name alone, a cell, or a field
pub data Named (n : List ℕ) (other : Tree) (x y : List Token) : Type 0 where
  plain : other ≡ variable n → x ≡ y → Named n other x y
  cell : (indices : Trees) → other ≡ access n indices → HasIndex indices × AllStand indices → x ≡ Sign OpenBracket ∷ (spelling_list indices ++ (Sign CloseBracket ∷ y)) → Named n other x y
  dotted : (f : List ℕ) → other ≡ field n f → x ≡ Sign Dot ∷ Name f ∷ y → Named n other x y

-- which operand begins with a token, and what is left of it
abbrev pub Goes : Token → Tree → List Token → List Token → Type 0
Goes (Int n) other x y = (other ≡ number n) × (x ≡ y)
Goes (Word True) other x y = (other ≡ truth true) × (x ≡ y)
Goes (Word False) other x y = (other ≡ truth false) × (x ≡ y)
Goes (Word Stride) other x y = (n : List ℕ) × (d : Literal) × (other ≡ stride n d) × (x ≡ Sign Open ∷ Name n ∷ Sign Comma ∷ Int d ∷ Sign Close ∷ y)
Goes (Word Relu) other x y = (inner : Tree) × (other ≡ relu inner) × Stands 0 inner × (x ≡ Sign Open ∷ (spelling inner ++ (Sign Close ∷ y)))
Goes (Word Select) other x y =
    (a : Tree) × (b : Tree) × (c : Tree) × (d : Tree) × (other ≡ select a b c d) × (Stands 0 a × Stands 0 b × Stands 0 c × Stands 0 d)
    × (x ≡ Sign Open ∷ (spelling a ++ (Sign Comma ∷ (spelling b ++ (Sign Comma ∷ (spelling c ++ (Sign Comma ∷ (spelling d ++ (Sign Close ∷ y)))))))))
Goes (Name n) other x y = Named n other x y
Goes (Sign Minus) other x y = (inner : Tree) × (other ≡ negative inner) × Stands 5 inner × (x ≡ spelling inner ++ y)
Goes (Sign Open) other x y = (inner : Tree) × (other ≡ parens inner) × Stands 0 inner × (x ≡ spelling inner ++ (Sign Close ∷ y))
Goes t other x y = ⊥

-- the four arguments of a choice, and what stands behind them
pub four : (a b c d : Tree) (y : List Token) → (spelling a ++ (Sign Comma ∷ (spelling b ++ (Sign Comma ∷ (spelling c ++ (Sign Comma ∷ (spelling d ++ (Sign Close ∷ [])))))))) ++ y ≡ spelling a ++ (Sign Comma ∷ (spelling b ++ (Sign Comma ∷ (spelling c ++ (Sign Comma ∷ (spelling d ++ (Sign Close ∷ y)))))))
four a b c d y =
    append_assoc (spelling a) (Sign Comma ∷ (spelling b ++ (Sign Comma ∷ (spelling c ++ (Sign Comma ∷ (spelling d ++ (Sign Close ∷ []))))))) y
    ∙ ap (λ w. spelling a ++ (Sign Comma ∷ w)) (append_assoc (spelling b) (Sign Comma ∷ (spelling c ++ (Sign Comma ∷ (spelling d ++ (Sign Close ∷ []))))) y)
    ∙ ap (λ w. spelling a ++ (Sign Comma ∷ (spelling b ++ (Sign Comma ∷ w)))) (append_assoc (spelling c) (Sign Comma ∷ (spelling d ++ (Sign Close ∷ []))) y)
    ∙ ap (λ w. spelling a ++ (Sign Comma ∷ (spelling b ++ (Sign Comma ∷ (spelling c ++ (Sign Comma ∷ w)))))) (append_assoc (spelling d) (Sign Close ∷ []) y)

pub goes : (t : Token) (other : Tree) (x y : List Token) → Stands 5 other → t ∷ x ≡ spelling other ++ y → Goes t other x y
goes t (number n) x y stands equal =
    let h : t ≡ Int n = cc in
    let e : x ≡ y = cc in
    subst (λ (u : Token). Goes u (number n) x y) (sym h) (refl, e)
goes t (truth true) x y stands equal =
    let h : t ≡ Word True = cc in
    let e : x ≡ y = cc in
    subst (λ (u : Token). Goes u (truth true) x y) (sym h) (refl, e)
goes t (truth false) x y stands equal =
    let h : t ≡ Word False = cc in
    let e : x ≡ y = cc in
    subst (λ (u : Token). Goes u (truth false) x y) (sym h) (refl, e)
goes t (variable n) x y stands equal =
    let h : t ≡ Name n = cc in
    let e : x ≡ y = cc in
    subst (λ (u : Token). Goes u (variable n) x y) (sym h) (plain refl e)
goes t (access n indices) x y stands equal =
    let h : t ≡ Name n = cc in
    let e : x ≡ Sign OpenBracket ∷ ((spelling_list indices ++ (Sign CloseBracket ∷ [])) ++ y) = cc in
    subst (λ (u : Token). Goes u (access n indices) x y) (sym h) (cell indices refl stands (e ∙ ap (λ s. Sign OpenBracket ∷ s) (append_assoc (spelling_list indices) (Sign CloseBracket ∷ []) y)))
goes t (field n f) x y stands equal =
    let h : t ≡ Name n = cc in
    let e : x ≡ Sign Dot ∷ Name f ∷ y = cc in
    subst (λ (u : Token). Goes u (field n f) x y) (sym h) (dotted f refl e)
goes t (stride n d) x y stands equal =
    let h : t ≡ Word Stride = cc in
    let e : x ≡ Sign Open ∷ Name n ∷ Sign Comma ∷ Int d ∷ Sign Close ∷ y = cc in
    subst (λ (u : Token). Goes u (stride n d) x y) (sym h) (n, d, refl, e)
goes t (relu inner) x y stands equal =
    let h : t ≡ Word Relu = cc in
    let e : x ≡ Sign Open ∷ ((spelling inner ++ (Sign Close ∷ [])) ++ y) = cc in
    subst (λ (u : Token). Goes u (relu inner) x y) (sym h) (inner, refl, stands, e ∙ ap (λ s. Sign Open ∷ s) (append_assoc (spelling inner) (Sign Close ∷ []) y))
goes t (select a b c d) x y stands equal =
    let h : t ≡ Word Select = cc in
    let e : x ≡ Sign Open ∷ ((spelling a ++ (Sign Comma ∷ (spelling b ++ (Sign Comma ∷ (spelling c ++ (Sign Comma ∷ (spelling d ++ (Sign Close ∷ [])))))))) ++ y) = cc in
    subst (λ (u : Token). Goes u (select a b c d) x y) (sym h) (a, b, c, d, refl, stands, e ∙ ap (λ s. Sign Open ∷ s) (four a b c d y))
goes t (negative inner) x y stands equal =
    let h : t ≡ Sign Minus = cc in
    let e : x ≡ spelling inner ++ y = cc in
    subst (λ (u : Token). Goes u (negative inner) x y) (sym h) (inner, refl, stands, e)
goes t (parens inner) x y stands equal =
    let h : t ≡ Sign Open = cc in
    let e : x ≡ (spelling inner ++ (Sign Close ∷ [])) ++ y = cc in
    subst (λ (u : Token). Goes u (parens inner) x y) (sym h) (inner, refl, stands, e ∙ append_assoc (spelling inner) (Sign Close ∷ []) y)
goes t (binary o l r) x y stands equal = absurd (omega (arith, level_at_most_four o, stands.0))

-- what can begin an operand
abbrev pub Starts : Option Token → Type 0
Starts (Some (Int n)) = Unit {0}
Starts (Some (Name n)) = Unit {0}
Starts (Some (Word True)) = Unit {0}
Starts (Some (Word False)) = Unit {0}
Starts (Some (Word Stride)) = Unit {0}
Starts (Some (Word Relu)) = Unit {0}
Starts (Some (Word Select)) = Unit {0}
Starts (Some (Sign Minus)) = Unit {0}
Starts (Some (Sign Open)) = Unit {0}
Starts other = ⊥

pub starts : (other : Tree) (y : List Token) → Starts (first (spelling other ++ y))
starts (number n) y = tt
starts (truth true) y = tt
starts (truth false) y = tt
starts (variable n) y = tt
starts (access n i) y = tt
starts (field n f) y = tt
starts (stride n d) y = tt
starts (relu i) y = tt
starts (select a b c d) y = tt
starts (negative i) y = tt
starts (parens i) y = tt
starts (binary o l r) y = subst (λ (w : List Token). Starts (first w)) (sym (append_assoc (spelling l) (sign o ∷ spelling r) y)) (starts l (sign o ∷ (spelling r ++ y)))

pub begins_any : (room : Room) → HasPlace room → Begins (operand 5 room) []
begins_any room place = record { tree = number (Value 0); more = Int (Value 0) ∷ []; fits = λ limits. (tt, zero_within limits room place); spelled = refl }

pub refused_start : (room : Room) (tokens : List Token) → HasPlace room → (Starts (first tokens) → ⊥) → Refused (operand 5 room) syntax tokens (length tokens)
refused_start room tokens place none = record {
  before = [];
  rest = tokens;
  whole = refl;
  count = refl;
  begins = begins_any room place;
  goes = tt;
  stuck = λ other x y same fits follows equal. none (subst Starts (sym (same ∙ ap first equal)) (starts other y));
}

-- leaves

pub taken_number : (room : Room) (n : ℕ) (rest : List Token) → HasPlace room → Taken (operand 5 room) (Int (Value n) ∷ rest) (number (Value n)) rest
taken_number room n rest place = record {
  fits = λ limits. (tt, keeps_all limits place.depth (place.nodes, tt) tt);
  whole = refl;
  only = λ limits other x y same fits follows equal. (goes (Int (Value n)) other x y fits.0 equal).0;
}

pub refused_number : (room : Room) (rest : List Token) → HasPlace room → Refused (operand 5 room) too_large (Int TooLarge ∷ rest) (length (Int TooLarge ∷ rest))
refused_number room rest place = record {
  before = [];
  rest = Int TooLarge ∷ rest;
  whole = refl;
  count = refl;
  begins = begins_any room place;
  goes = record { tree = number TooLarge; token = Int TooLarge; more = []; next = refl; fits = (tt, (place.depth, (place.nodes, tt))); spelled = refl };
  stuck = λ other x y same fits follows equal.
      let head : (tail : List Token) × (x ≡ Int TooLarge ∷ tail) = headed (Int TooLarge) x same in
      let found : Goes (Int TooLarge) other head.0 y = goes (Int TooLarge) other head.0 y fits.0 (sym head.1 ∙ equal) in
      (subst (λ (t : Tree). Within in_size room t) found.0 fits.1).2;
}

pub taken_true : (room : Room) (rest : List Token) → HasPlace room → Taken (operand 5 room) (Word True ∷ rest) (truth true) rest
taken_true room rest place = record {
  fits = λ limits. (tt, keeps_all limits place.depth (place.nodes, tt) tt);
  whole = refl;
  only = λ limits other x y same fits follows equal. (goes (Word True) other x y fits.0 equal).0;
}

pub taken_false : (room : Room) (rest : List Token) → HasPlace room → Taken (operand 5 room) (Word False ∷ rest) (truth false) rest
taken_false room rest place = record {
  fits = λ limits. (tt, keeps_all limits place.depth (place.nodes, tt) tt);
  whole = refl;
  only = λ limits other x y same fits follows equal. (goes (Word False) other x y fits.0 equal).0;
}

variable_only : (n : List ℕ) (other : Tree) (rest x y : List Token) → (first rest ≡ Some (Sign OpenBracket) → ⊥) → (first rest ≡ Some (Sign Dot) → ⊥) → first rest ≡ first x → Named n other x y → other ≡ variable n
variable_only n other rest x y bracket dot same (plain is equal) = is
variable_only n other rest x y bracket dot same (cell indices is stands equal) = absurd (bracket (same ∙ ap first equal))
variable_only n other rest x y bracket dot same (dotted f is equal) = absurd (dot (same ∙ ap first equal))

pub taken_variable : (room : Room) (n : List ℕ) (rest : List Token) → HasPlace room → IsShortName n → (first rest ≡ Some (Sign Dot) → ⊥) → (first rest ≡ Some (Sign OpenBracket) → ⊥) → Taken (operand 5 room) (Name n ∷ rest) (variable n) rest
taken_variable room n rest place short dot bracket = record {
  fits = λ limits. (tt, keeps_all limits place.depth (place.nodes, short) tt);
  whole = refl;
  only = λ limits other x y same fits follows equal. variable_only n other rest x y bracket dot same (goes (Name n) other x y fits.0 equal);
}

-- no operand with a name that is too long is within the limits of length
too_long_name : (room : Room) (n : List ℕ) (other : Tree) (x y : List Token) → (IsShortName n → ⊥) → Within in_length room other → Named n other x y → ⊥
too_long_name room n other x y long within (plain is equal) = long (subst (λ (t : Tree). Within in_length room t) is within).1.1
too_long_name room n other x y long within (cell indices is stands equal) = long (subst (λ (t : Tree). Within in_length room t) is within).1.1.0
too_long_name room n other x y long within (dotted f is equal) = long (subst (λ (t : Tree). Within in_length room t) is within).1.1.0

pub refused_name : (room : Room) (n : List ℕ) (rest : List Token) → HasPlace room → (IsShortName n → ⊥) → Refused (operand 5 room) too_long (Name n ∷ rest) (length (Name n ∷ rest))
refused_name room n rest place long = record {
  before = [];
  rest = Name n ∷ rest;
  whole = refl;
  count = refl;
  begins = begins_any room place;
  goes = record { tree = variable n; token = Name n; more = []; next = refl; fits = (tt, place.depth); spelled = refl };
  stuck = λ other x y same fits follows equal.
      let head : (tail : List Token) × (x ≡ Name n ∷ tail) = headed (Name n) x same in
      too_long_name room n other head.0 y long fits.1 (goes (Name n) other head.0 y fits.0 (sym head.1 ∙ equal));
}

-- no room is left behind the first token

-- all operands that begin with a token have two levels and more nodes than these, and one has a leaf inside
pub record Wide (t : Token) (taken : ℕ) : Type 0 where
  pub some : Tree
  pub more : List Token
  pub stands : Stands 5 some
  pub spelled : spelling some ≡ t ∷ more
  pub shallow : depth some ≡ 2
  pub wide : (other : Tree) (x y : List Token) → Goes t other x y → (2 ≤ depth other) × (taken < nodes other)

full_deep : (room : Room) (t : Token) (after : List Token) (taken : ℕ) → HasPlace room → Wide t taken → room.depth ≤ 1 → Refused (operand 5 room) too_deep (t ∷ after) (length (t ∷ after))
full_deep room t after taken place wide deep = record {
  before = [];
  rest = t ∷ after;
  whole = refl;
  count = refl;
  begins = begins_any room place;
  goes = record { tree = wide.some; token = t; more = wide.more; next = refl; fits = (wide.stands, tt); spelled = sym wide.spelled };
  stuck = λ other x y same fits follows equal.
      let head : (tail : List Token) × (x ≡ t ∷ tail) = headed t x same in
      omega (arith, (wide.wide other head.0 y (goes t other head.0 y fits.0 (sym head.1 ∙ equal))).0, fits.1, deep);
}

full_long : (room : Room) (t : Token) (after : List Token) (taken : ℕ) → HasPlace room → Wide t taken → 1 < room.depth → room.nodes ≤ taken → Refused (operand 5 room) too_long (t ∷ after) (length (t ∷ after))
full_long room t after taken place wide shallow long = record {
  before = [];
  rest = t ∷ after;
  whole = refl;
  count = refl;
  begins = begins_any room place;
  goes = record { tree = wide.some; token = t; more = wide.more; next = refl; fits = (wide.stands, omega (arith, wide.shallow, shallow)); spelled = sym wide.spelled };
  stuck = λ other x y same fits follows equal.
      let head : (tail : List Token) × (x ≡ t ∷ tail) = headed t x same in
      omega (arith, (wide.wide other head.0 y (goes t other head.0 y fits.0 (sym head.1 ∙ equal))).1, fits.1.1.0, long);
}

pub full_start : (room : Room) (t : Token) (after : List Token) (taken : ℕ) (e : Refusal) → HasPlace room → Wide t taken → IsFull room 1 taken (length (t ∷ after)) e → Refuses (operand 5 room) (t ∷ after) e
full_start room t after taken Memory place wide full = tt
full_start room t after taken (Syntax last) place wide full = absurd full
full_start room t after taken (TooDeep last) place wide full = subst (Refused (operand 5 room) too_deep (t ∷ after)) (sym full.0) (full_deep room t after taken place wide full.1)
full_start room t after taken (TooLong last) place wide full = subst (Refused (operand 5 room) too_long (t ∷ after)) (sym full.0) (full_long room t after taken place wide full.1 full.2)
full_start room t after taken (TooLarge last) place wide full = absurd full

abbrev zero : Tree
zero = number (Value 0)

pub wide_minus : Wide (Sign Minus) 1
wide_minus = record {
  some = negative zero;
  more = spelling zero;
  stands = tt;
  spelled = refl;
  shallow = refl;
  wide = λ other x y found. (omega (arith, ap depth found.1, depth_some found.0), omega (arith, ap nodes found.1, nodes_some found.0));
}

pub wide_open : Wide (Sign Open) 0
wide_open = record {
  some = parens zero;
  more = spelling zero ++ (Sign Close ∷ []);
  stands = tt;
  spelled = refl;
  shallow = refl;
  wide = λ other x y found. (omega (arith, ap depth found.1, depth_some found.0), nodes_some other);
}

pub wide_relu : Wide (Word Relu) 1
wide_relu = record {
  some = relu zero;
  more = Sign Open ∷ (spelling zero ++ (Sign Close ∷ []));
  stands = tt;
  spelled = refl;
  shallow = refl;
  wide = λ other x y found. (omega (arith, ap depth found.1, depth_some found.0), omega (arith, ap nodes found.1, nodes_some found.0));
}

pub wide_select : Wide (Word Select) 4
wide_select = record {
  some = select zero zero zero zero;
  more = Sign Open ∷ (spelling zero ++ (Sign Comma ∷ (spelling zero ++ (Sign Comma ∷ (spelling zero ++ (Sign Comma ∷ (spelling zero ++ (Sign Close ∷ []))))))));
  stands = (tt, tt, tt, tt);
  spelled = refl;
  shallow = refl;
  wide = λ other x y found. (
    omega (arith, ap depth found.4, depth_some found.0, le-max_left (depth found.0) (depth found.1), le-max_left (max (depth found.0) (depth found.1)) (max (depth found.2) (depth found.3))),
    omega (arith, ap nodes found.4, nodes_some found.0, nodes_some found.1, nodes_some found.2, nodes_some found.3),
  );
}

-- no room is left for an index

no_index : (room : Room) (n : List ℕ) (other : Tree) (x y : List Token) → room.depth ≤ 1 → Some (Sign OpenBracket) ≡ first x → FollowsOperand 5 (first y) → depth other ≤ room.depth → Named n other x y → ⊥
no_index room n other x y deep same follows within (plain is equal) = subst (λ (o : Option Token). FollowsOperand 5 o) (sym (same ∙ ap first equal)) follows
no_index room n other x y deep same follows within (cell end is stands equal) = stands.0
no_index room n other x y deep same follows within (cell (next t ts) is stands equal) = omega (arith, ap depth is, depth_some t, le-max_left (depth t) (deepest ts), within, deep)
no_index room n other x y deep same follows within (dotted f is equal) =
    let e : Some (Sign OpenBracket) ≡ Some (Sign Dot) = same ∙ ap first equal in cc (e)

pub refused_deep : (room : Room) (n : List ℕ) (after : List Token) → HasPlace room → IsShortName n → room.depth ≤ 1 → Refused (operand 5 room) too_deep (Name n ∷ Sign OpenBracket ∷ after) (length (Sign OpenBracket ∷ after))
refused_deep room n after place short deep = record {
  before = Name n ∷ [];
  rest = Sign OpenBracket ∷ after;
  whole = refl;
  count = refl;
  begins = record { tree = variable n; more = []; fits = λ limits. (tt, keeps_all limits place.depth (place.nodes, short) tt); spelled = refl };
  goes = record {
    tree = access n (next zero end);
    token = Sign OpenBracket;
    more = spelling zero ++ (Sign CloseBracket ∷ []);
    next = refl;
    fits = ((tt, (tt, tt)), tt);
    spelled = refl;
  };
  stuck = λ other x y same fits follows equal. no_index room n other x y deep same follows fits.1 (goes (Name n) other x y fits.0 equal);
}

pub full_index : (room : Room) (n : List ℕ) (after : List Token) (e : Refusal) → HasPlace room → IsShortName n → IsFull room 1 0 (length (Sign OpenBracket ∷ after)) e → Refuses (operand 5 room) (Name n ∷ Sign OpenBracket ∷ after) e
full_index room n after Memory place short full = tt
full_index room n after (Syntax last) place short full = absurd full
full_index room n after (TooDeep last) place short full = subst (Refused (operand 5 room) too_deep (Name n ∷ Sign OpenBracket ∷ after)) (sym full.0) (refused_deep room n after place short full.1)
full_index room n after (TooLong last) place short full = absurd (omega (arith, full.2, place.nodes))
full_index room n after (TooLarge last) place short full = absurd full
