-- What begins with a name and a bracket: windows, and expressions that begin with a cell.
use Rattle.std.proofs.Common.{◌≡◌, ℕ, ◌+◌, ◌<◌, ◌≤◌, max, List, [], ◌∷◌, ◌++◌, Some, true, false, length, refl, sym, ap, ◌∙◌, append_assoc, subst, arith, ◌⊎◌, inl, inr, map}
use Rattle.std.proofs.lemmas.List.{length-append, append-nil}
use Rattle.text_phrases.specs.Limits.{Limits, unlimited, in_depth, in_length, Keeps, Cause, passed, syntax, too_deep}
use Rattle.text_phrases.specs.Phrase.{first, Taken, Refused, Begins}
use Rattle.text_phrases.specs.Sequence.{AllFit}
use Rattle.text_phrases.specs.Commas.{spell_more}
use Rattle.text_phrases.specs.Answers.{Refuses}
use Rattle.text_phrases.specs.declared.Refusal.{Refusal}
use Rattle.text_phrases.proofs.Phrases.{keeps_all, keeps_map, keeps_both, goes_along, taken_rest}
use Rattle.text_phrases.proofs.Exits.{refuses_along}
use Rattle.text_expressions.specs.Values.{name, IsShortName}
use Rattle.text_expressions.specs.Expression.{Tree, Trees, end, next, trees, number, truth, variable, access, field, stride, relu, select, negative, parens, binary, sign, left_level, depth, deepest, count, IsShort, AreShort, IsSmall, AreSmall, HasIndex, Stands, AllStand, spelling, spelling_list, spelling_more, FollowsOperand, HasPlace, operand, FewDimensions}
use Rattle.text_expressions.specs.declared.source.Infix.{Infix}
use Rattle.text_expressions.specs.declared.source.Infix.TheVariants as o
use Rattle.text_expressions.specs.declared.expression.Room.{Room}
use Rattle.text_expressions.proofs.Levels.{level_at_most_four}
use Rattle.text_lexer.specs.declared.token.Literal.TheVariants.{Value}
use Rattle.text_lexer.specs.declared.token.Token.{Token}
use Rattle.text_lexer.specs.declared.token.Token.TheVariants.{Name, Int, Sign, Word}
use Rattle.text_lexer.specs.declared.token.Sign.TheVariants.{Open, OpenBracket, CloseBracket, Comma, Colon, Dot, Minus}
use Rattle.text_lexer.specs.declared.token.Word.TheVariants as w
use Rattle.exo_reader.specs.Source.{Coordinate, point, span, Argument, value, window}
use Rattle.exo_reader.specs.Statements.{coordinate, coordinates, HasSpan, argument_of}
use Rattle.exo_reader.specs.Windows.{low_of, lowest, has_span, NoBracket}
use Rattle.exo_reader.proofs.Parts.{name_fits, zero, control_zero}

abbrev pub close : List Token
close = Sign CloseBracket ∷ []

-- indices as points, and back

abbrev pub points : Trees → List Coordinate
points end = []
points (next t more) = point t ∷ points more

abbrev pub indices_of : List Coordinate → Trees
indices_of cs = trees (map low_of cs)

pub points_again : (cs : List Coordinate) → has_span cs ≡ false → points (indices_of cs) ≡ cs
points_again [] none = refl
points_again (point e ∷ more) none = ap (λ l. point e ∷ l) (points_again more none)
points_again (span a b ∷ more) none = absurd (cc (none))

indices_again : (list : Trees) → indices_of (points list) ≡ list
indices_again end = refl
indices_again (next t more) = ap (next t) (indices_again more)

points_span : (list : Trees) → HasSpan (points list) → ⊥
points_span end spans = spans
points_span (next t more) spans = points_span more spans

pub no_span : (cs : List Coordinate) → has_span cs ≡ false → HasSpan cs → ⊥
no_span [] none spans = spans
no_span (point e ∷ more) none spans = no_span more none spans
no_span (span a b ∷ more) none spans = absurd (cc (none))

pub some_span : (cs : List Coordinate) → has_span cs ≡ true → HasSpan cs
some_span [] some = absurd (cc (some))
some_span (point e ∷ more) some = some_span more some
some_span (span a b ∷ more) some = tt

points_more : (list : Trees) → spell_more coordinate (Sign Comma) (points list) false ≡ spelling_more list
points_more end = refl
points_more (next t more) = ap (λ w. Sign Comma ∷ (spelling t ++ w)) (points_more more)

points_spelled : (list : Trees) → coordinates.spell (points list) ≡ spelling_list list
points_spelled end = refl
points_spelled (next t more) = ap (λ w. spelling t ++ w) (points_more more)

lows_spelled : (cs : List Coordinate) → has_span cs ≡ false → coordinates.spell cs ≡ spelling_list (indices_of cs)
lows_spelled cs none = ap coordinates.spell (sym (points_again cs none)) ∙ points_spelled (indices_of cs)

points_count : (list : Trees) → length (points list) ≡ count list
points_count end = refl
points_count (next t more) = omega (arith, points_count more)

lowest_points : (list : Trees) → lowest (points list) ≡ deepest list
lowest_points end = refl
lowest_points (next t more) = ap (λ d. max (depth t) d) (lowest_points more)

points_all : (limits : Limits) (list : Trees) → AllStand list → Keeps limits (deepest list ≤ 64) (AreShort list) (AreSmall list) → AllFit coordinate limits (points list)
points_all limits end stand keeps = tt
points_all limits (next t more) stand keeps = (
  (stand.0, keeps_map limits (λ d. let e : depth t ≤ 64 = omega (arith, d) in e) (λ s. (s.0, s.1)) (λ s. s.0) keeps),
  points_all limits more stand.1 (keeps_map limits (λ d. let e : deepest more ≤ 64 = omega (arith, d) in e) (λ s. s.2) (λ s. s.1) keeps),
)

few_points : (t : Tree) (more : Trees) → count (next t more) ≤ 8 → FewDimensions (points (next t more))
few_points t more few = omega (arith, few, points_count more)

points_fit : (limits : Limits) (list : Trees) → HasIndex list → AllStand list → Keeps limits (deepest list ≤ 64) ((count list ≤ 8) × AreShort list) (AreSmall list) → coordinates.Fits limits (points list)
points_fit limits end some stand keeps = absurd some
points_fit limits (next t more) some stand keeps =
    let all : AllFit coordinate limits (points (next t more)) = points_all limits (next t more) stand (keeps_map limits (λ d. d) (λ s. s.1) (λ s. s) keeps) in
    (all.0, all.1, keeps_map limits (λ d. tt) (λ s. few_points t more s.0) (λ s. tt) keeps)

-- the leftmost part of an expression that begins with a name and a bracket is a cell
pub record Leftmost (e : Tree) (n : List ℕ) (y z : List Token) : Type 0 where
  pub list : Trees
  pub suffix : List Token
  pub some : HasIndex list
  pub stand : AllStand list
  pub deeper : deepest list < depth e
  pub short : IsShort e → (count list ≤ 8) × AreShort list
  pub small : IsSmall e → AreSmall list
  pub rest : z ≡ spelling_list list ++ (Sign CloseBracket ∷ (suffix ++ y))

no_bracket_sign : (op : Infix) → Some (sign op) ≡ Some (Sign OpenBracket) → ⊥
no_bracket_sign o.Or same = let e : sign o.Or ≡ Sign OpenBracket = cc (same) in cc (e)
no_bracket_sign o.And same = let e : sign o.And ≡ Sign OpenBracket = cc (same) in cc (e)
no_bracket_sign o.Lt same = cc (same)
no_bracket_sign o.Le same = cc (same)
no_bracket_sign o.Gt same = cc (same)
no_bracket_sign o.Ge same = cc (same)
no_bracket_sign o.Eq same = cc (same)
no_bracket_sign o.Add same = cc (same)
no_bracket_sign o.Sub same = cc (same)
no_bracket_sign o.Mul same = cc (same)
no_bracket_sign o.Div same = cc (same)
no_bracket_sign o.Mod same = cc (same)

leftmost : (level : ℕ) (e : Tree) (n : List ℕ) (y z : List Token) → Stands level e → (first y ≡ Some (Sign OpenBracket) → ⊥) → spelling e ++ y ≡ Name n ∷ Sign OpenBracket ∷ z → Leftmost e n y z
leftmost level (number l) n y z stands none equal = absurd (let e : Int l ≡ Name n = cc (equal) in cc (e))
leftmost level (truth true) n y z stands none equal = absurd (let e : Word w.True ≡ Name n = cc (equal) in cc (e))
leftmost level (truth false) n y z stands none equal = absurd (let e : Word w.False ≡ Name n = cc (equal) in cc (e))
leftmost level (variable x) n y z stands none equal = let e : y ≡ Sign OpenBracket ∷ z = cc (equal) in absurd (none (ap first e))
leftmost level (access x list) n y z stands none equal =
    let e : (spelling_list list ++ (Sign CloseBracket ∷ [])) ++ y ≡ z = cc (equal) in
    record {
      list = list;
      suffix = [];
      some = stands.0;
      stand = stands.1;
      deeper = omega arith;
      short = λ s. (s.1, s.2);
      small = λ s. s;
      rest = sym e ∙ append_assoc (spelling_list list) (Sign CloseBracket ∷ []) y;
    }
leftmost level (field x f) n y z stands none equal = absurd (let e : Sign Dot ≡ Sign OpenBracket = cc (equal) in cc (e))
leftmost level (stride x l) n y z stands none equal = absurd (let e : Word w.Stride ≡ Name n = cc (equal) in cc (e))
leftmost level (relu a) n y z stands none equal = absurd (let e : Word w.Relu ≡ Name n = cc (equal) in cc (e))
leftmost level (select a b c d) n y z stands none equal = absurd (let e : Word w.Select ≡ Name n = cc (equal) in cc (e))
leftmost level (negative a) n y z stands none equal = absurd (let e : Sign Minus ≡ Name n = cc (equal) in cc (e))
leftmost level (parens a) n y z stands none equal = absurd (let e : Sign Open ≡ Name n = cc (equal) in cc (e))
leftmost level (binary op l r) n y z stands none equal =
    let inner : Leftmost l n (sign op ∷ (spelling r ++ y)) z =
    leftmost (left_level op) l n (sign op ∷ (spelling r ++ y)) z stands.1 (no_bracket_sign op) (sym (append_assoc (spelling l) (sign op ∷ spelling r) y) ∙ equal) in
    record {
      list = inner.list;
      suffix = inner.suffix ++ (sign op ∷ spelling r);
      some = inner.some;
      stand = inner.stand;
      deeper = omega (arith, inner.deeper);
      short = λ s. inner.short s.0;
      small = λ s. inner.small s.0;
      rest = inner.rest ∙ ap (λ v. spelling_list inner.list ++ (Sign CloseBracket ∷ v)) (sym (append_assoc inner.suffix (sign op ∷ spelling r) y));
    }

left_fits : (limits : Limits) (room : Room) (e : Tree) (n : List ℕ) (y z : List Token) → room.depth ≡ 64 → (operand 0 room).Fits limits e → (l : Leftmost e n y z) → coordinates.Fits limits (points l.list)
left_fits limits room e n y z full fits l =
    points_fit limits l.list l.some l.stand (keeps_map limits (λ d. let f : deepest l.list ≤ 64 = omega (arith, d, l.deeper, full) in f) (λ s. l.short s.1) l.small fits.1)

left_spelled : (e : Tree) (n : List ℕ) (y z : List Token) → (l : Leftmost e n y z) → z ≡ coordinates.spell (points l.list) ++ (Sign CloseBracket ∷ (l.suffix ++ y))
left_spelled e n y z l = l.rest ∙ ap (λ s. s ++ (Sign CloseBracket ∷ (l.suffix ++ y))) (sym (points_spelled l.list))

-- the name with which a short expression begins is short
short_name : (e : Tree) (n : List ℕ) (y z : List Token) → IsShort e → spelling e ++ y ≡ Name n ∷ z → IsShortName n
short_name (number l) n y z short equal = absurd (let e : Int l ≡ Name n = cc (equal) in cc (e))
short_name (truth true) n y z short equal = absurd (let e : Word w.True ≡ Name n = cc (equal) in cc (e))
short_name (truth false) n y z short equal = absurd (let e : Word w.False ≡ Name n = cc (equal) in cc (e))
short_name (variable x) n y z short equal = let e : x ≡ n = cc (equal) in subst IsShortName e short
short_name (access x list) n y z short equal = let e : x ≡ n = cc (equal) in subst IsShortName e short.0
short_name (field x f) n y z short equal = let e : x ≡ n = cc (equal) in subst IsShortName e short.0
short_name (stride x l) n y z short equal = absurd (let e : Word w.Stride ≡ Name n = cc (equal) in cc (e))
short_name (relu a) n y z short equal = absurd (let e : Word w.Relu ≡ Name n = cc (equal) in cc (e))
short_name (select a b c d) n y z short equal = absurd (let e : Word w.Select ≡ Name n = cc (equal) in cc (e))
short_name (negative a) n y z short equal = absurd (let e : Sign Minus ≡ Name n = cc (equal) in cc (e))
short_name (parens a) n y z short equal = absurd (let e : Sign Open ≡ Name n = cc (equal) in cc (e))
short_name (binary op l r) n y z short equal = short_name l n (sign op ∷ (spelling r ++ y)) z short.0 (sym (append_assoc (spelling l) (sign op ∷ spelling r) y) ∙ equal)

some_spelling : (e : Tree) → 1 ≤ length (spelling e)
some_spelling (number l) = omega arith
some_spelling (truth b) = omega arith
some_spelling (variable x) = omega arith
some_spelling (access x list) = omega arith
some_spelling (field x f) = omega arith
some_spelling (stride x l) = omega arith
some_spelling (relu a) = omega arith
some_spelling (select a b c d) = omega arith
some_spelling (negative a) = omega arith
some_spelling (parens a) = omega arith
some_spelling (binary op l r) = omega (arith, length-append (spelling l) (sign op ∷ spelling r))

-- where no short name with a bracket stands first, an argument is an expression

no_bracket_there : (tokens more : List Token) (n : List ℕ) → tokens ≡ Name n ∷ Sign OpenBracket ∷ more → NoBracket tokens → IsShortName n → ⊥
no_bracket_there tokens more n is none = subst NoBracket is none

-- the first two tokens of both readings
two_tokens : (word x rest z : List Token) (a b : Token) → 1 ≤ length word → first rest ≡ first x → word ++ x ≡ a ∷ b ∷ z → (more : List Token) × (word ++ rest ≡ a ∷ b ∷ more)
two_tokens [] x rest z a b some same equal = absurd (omega (arith, some))
two_tokens (c ∷ []) x [] z a b some same equal = let e : x ≡ b ∷ z = cc (equal) in absurd (let f : first {A = Token} [] ≡ Some b = same ∙ ap first e in cc (f))
two_tokens (c ∷ []) x (d ∷ rest) z a b some same equal =
    let e : x ≡ b ∷ z = cc (equal) in
    let f : Some d ≡ Some b = same ∙ ap first e in
    let g : d ≡ b = cc (f) in
    let h : c ≡ a = cc (equal) in
    (rest, ap (λ u. u ∷ d ∷ rest) h ∙ ap (λ u. a ∷ u ∷ rest) g)
two_tokens (c ∷ d ∷ word) x rest z a b some same equal =
    let g : d ≡ b = cc (equal) in
    let h : c ≡ a = cc (equal) in
    (word ++ rest, ap (λ u. u ∷ d ∷ (word ++ rest)) h ∙ ap (λ u. a ∷ u ∷ (word ++ rest)) g)

value_only : (room : Room) (tokens rest : List Token) (e : Tree) (limits : Limits) (other : Argument) (x y : List Token) → NoBracket tokens → Taken (operand 0 room) tokens e rest → first rest ≡ first x → (argument_of (operand 0 room)).Fits limits other → FollowsOperand 0 (first y) → spelling e ++ x ≡ (argument_of (operand 0 room)).spell other ++ y → other ≡ value e
value_only room tokens rest e limits (value f) x y none taken same fits follows equal = ap value (taken.only limits f x y same fits follows equal)
value_only room tokens rest e limits (window n cs) x y none taken same fits follows equal =
    let two : (more : List Token) × (spelling e ++ rest ≡ Name n ∷ Sign OpenBracket ∷ more) = two_tokens (spelling e) x rest ((coordinates.spell cs ++ close) ++ y) (Name n) (Sign OpenBracket) (some_spelling e) same equal in
    absurd (no_bracket_there tokens two.0 n (taken.whole ∙ two.1) none (short_name e n x (Sign OpenBracket ∷ ((coordinates.spell cs ++ close) ++ y)) (taken.fits in_length).1.1.1 equal))

pub value_taken : (room : Room) (tokens rest : List Token) (e : Tree) → NoBracket tokens → Taken (operand 0 room) tokens e rest → Taken (argument_of (operand 0 room)) tokens (value e) rest
value_taken room tokens rest e none taken = record {
  fits = taken.fits;
  whole = taken.whole;
  only = λ limits other x y same fits follows equal. value_only room tokens rest e limits other x y none taken same fits follows equal;
}

variable_fits : (limits : Limits) (room : Room) (n : List ℕ) → HasPlace room → name.Fits limits n → (operand 0 room).Fits limits (variable n)
variable_fits limits room n place fits = (tt, keeps_map limits (λ d. place.depth) (λ s. (place.nodes, s)) (λ s. tt) fits)

begun_short : (room : Room) (n : List ℕ) (before z : List Token) (a : Token) → Begins (operand 0 room) (a ∷ before) → a ≡ Name n → IsShortName n
begun_short room n before z a begins is =
    short_name begins.tree n [] (before ++ begins.more) (begins.fits in_length).1.1.1 (append-nil (spelling begins.tree) ∙ sym begins.spelled ∙ ap (λ u. u ∷ (before ++ begins.more)) is)

stuck_window : (cause : Cause) (room : Room) (tokens before rest : List Token) (n : List ℕ) (x z : List Token) → HasPlace room → NoBracket tokens → tokens ≡ before ++ rest → Begins (operand 0 room) before → ((other : Tree) (x y : List Token) → first rest ≡ first x → (operand 0 room).Fits (passed cause) other → FollowsOperand 0 (first y) → before ++ x ≡ spelling other ++ y → ⊥) → name.Fits (passed cause) n → first rest ≡ first x → before ++ x ≡ Name n ∷ Sign OpenBracket ∷ z → ⊥
stuck_window cause room tokens [] rest n x z place none whole begins stuck fits same equal =
    stuck (variable n) (Name n ∷ []) [] (same ∙ ap first equal) (variable_fits (passed cause) room n place fits) tt refl
stuck_window cause room tokens (a ∷ before) rest n x z place none whole begins stuck fits same equal =
    let h : a ≡ Name n = cc (equal) in
    let two : (more : List Token) × ((a ∷ before) ++ rest ≡ Name n ∷ Sign OpenBracket ∷ more) = two_tokens (a ∷ before) x rest z (Name n) (Sign OpenBracket) (omega arith) same equal in
    no_bracket_there tokens two.0 n (whole ∙ two.1) none (begun_short room n before z a begins h)

value_stuck : {cause : Cause} (room : Room) (tokens : List Token) (last : ℕ) (other : Argument) (x y : List Token) → HasPlace room → NoBracket tokens → (refused : Refused (operand 0 room) cause tokens last) → first refused.rest ≡ first x → (argument_of (operand 0 room)).Fits (passed cause) other → FollowsOperand 0 (first y) → refused.before ++ x ≡ (argument_of (operand 0 room)).spell other ++ y → ⊥
value_stuck room tokens last (value e) x y place none refused same fits follows equal = refused.stuck e x y same fits follows equal
value_stuck {cause = cause} room tokens last (window n cs) x y place none refused same fits follows equal =
    stuck_window cause room tokens refused.before refused.rest n x ((coordinates.spell cs ++ close) ++ y) place none refused.whole refused.begins refused.stuck fits.0 same equal

value_refused : {cause : Cause} (room : Room) (tokens : List Token) (last : ℕ) → HasPlace room → NoBracket tokens → Refused (operand 0 room) cause tokens last → Refused (argument_of (operand 0 room)) cause tokens last
value_refused {cause = cause} room tokens last place none refused = record {
  before = refused.before;
  rest = refused.rest;
  whole = refused.whole;
  count = refused.count;
  begins = record { tree = value refused.begins.tree; more = refused.begins.more; fits = refused.begins.fits; spelled = refused.begins.spelled };
  goes = goes_along (operand 0 room) (argument_of (operand 0 room)) cause refused.before refused.rest refused.before refused.rest
      (λ limits on. record { tree = value on.tree; token = on.token; more = on.more; next = on.next; fits = on.fits; spelled = on.spelled }) refused.goes;
  stuck = λ other x y same fits follows equal. value_stuck room tokens last other x y place none refused same fits follows equal;
}

pub value_err : (room : Room) (tokens : List Token) (e : Refusal) → HasPlace room → NoBracket tokens → Refuses (operand 0 room) tokens e → Refuses (argument_of (operand 0 room)) tokens e
value_err room tokens e place none refuses =
    refuses_along (operand 0 room) tokens (argument_of (operand 0 room)) tokens e (λ cause last refused. value_refused room tokens last place none refused) refuses

-- coordinates that are read are those of a window too: the last one is made a span where it is a point

abbrev to_span : Coordinate → Coordinate
to_span (point e) = span e zero
to_span (span a b) = span a b

abbrev extra_of : Coordinate → List Token
extra_of (point e) = Sign Colon ∷ Int (Value 0) ∷ []
extra_of (span a b) = []

abbrev spanned_last : Coordinate → List Coordinate → List Coordinate
spanned_last c [] = to_span c ∷ []
spanned_last c (d ∷ more) = c ∷ spanned_last d more

abbrev extra_last : Coordinate → List Coordinate → List Token
extra_last c [] = extra_of c
extra_last c (d ∷ more) = extra_last d more

abbrev pub spanned : List Coordinate → List Coordinate
spanned [] = []
spanned (c ∷ more) = spanned_last c more

abbrev pub extra : List Coordinate → List Token
extra [] = []
extra (c ∷ more) = extra_last c more

to_span_spelled : (c : Coordinate) → coordinate.spell (to_span c) ≡ coordinate.spell c ++ extra_of c
to_span_spelled (point e) = refl
to_span_spelled (span a b) = sym (append-nil (coordinate.spell (span a b)))

comma_listing : (c : Coordinate) (more : List Coordinate) → spell_more coordinate (Sign Comma) (spanned_last c more) false ≡ Sign Comma ∷ coordinates.spell (spanned_last c more)
comma_listing c [] = refl
comma_listing c (d ∷ more) = refl

last_spelled : (c : Coordinate) (more : List Coordinate) → coordinates.spell (spanned_last c more) ≡ coordinates.spell (c ∷ more) ++ extra_last c more
last_spelled c [] = append-nil (coordinate.spell (to_span c)) ∙ to_span_spelled c ∙ ap (λ s. s ++ extra_of c) (sym (append-nil (coordinate.spell c)))
last_spelled c (d ∷ more) =
    ap (λ s. coordinate.spell c ++ s) (comma_listing d more ∙ ap (λ s. Sign Comma ∷ s) (last_spelled d more))
    ∙ sym (append_assoc (coordinate.spell c) (Sign Comma ∷ coordinates.spell (d ∷ more)) (extra_last d more))

spanned_spelled : (cs : List Coordinate) → coordinates.spell (spanned cs) ≡ coordinates.spell cs ++ extra cs
spanned_spelled [] = refl
spanned_spelled (c ∷ more) = last_spelled c more

to_span_fits : (limits : Limits) (c : Coordinate) → coordinate.Fits limits c → coordinate.Fits limits (to_span c)
to_span_fits limits (point e) fits = (fits, control_zero limits)
to_span_fits limits (span a b) fits = fits

last_all : (limits : Limits) (c : Coordinate) (more : List Coordinate) → coordinate.Fits limits c → AllFit coordinate limits more → AllFit coordinate limits (spanned_last c more)
last_all limits c [] fits all = (to_span_fits limits c fits, tt)
last_all limits c (d ∷ more) fits all = (fits, last_all limits d more all.0 all.1)

last_length : (c : Coordinate) (more : List Coordinate) → length (spanned_last c more) ≡ length more + 1
last_length c [] = refl
last_length c (d ∷ more) = omega (arith, last_length d more)

last_span : (c : Coordinate) (more : List Coordinate) → HasSpan (spanned_last c more)
last_span (point e) [] = tt
last_span (span a b) [] = tt
last_span (point e) (d ∷ more) = last_span d more
last_span (span a b) (d ∷ more) = tt

few_last : (c d : Coordinate) (more : List Coordinate) → FewDimensions (c ∷ d ∷ more) → FewDimensions (c ∷ spanned_last d more)
few_last c d more few = omega (arith, few, last_length d more)

spanned_fits : (limits : Limits) (cs : List Coordinate) → coordinates.Fits limits cs → coordinates.Fits limits (spanned cs) × HasSpan (spanned cs)
spanned_fits limits [] fits = absurd fits
spanned_fits limits (c ∷ []) fits = ((to_span_fits limits c fits.0, tt, keeps_map limits (λ d. tt) (λ s. s) (λ s. tt) fits.2), last_span c [])
spanned_fits limits (c ∷ d ∷ more) fits =
    ((fits.0, last_all limits d more fits.1.0 fits.1.1, keeps_map limits (λ u. tt) (λ s. few_last c d more s) (λ s. tt) fits.2), last_span c (d ∷ more))

window_fits : (room : Room) (limits : Limits) (n : List ℕ) (cs : List Coordinate) → IsShortName n → coordinates.Fits limits cs → (argument_of (operand 0 room)).Fits limits (window n (spanned cs))
window_fits room limits n cs short fits = let f : coordinates.Fits limits (spanned cs) × HasSpan (spanned cs) = spanned_fits limits cs fits in (name_fits limits n short, f.0, f.1)

-- what begins coordinates begins a window
window_spelled : (n : List ℕ) (cs : List Coordinate) (before more : List Token) → before ++ more ≡ coordinates.spell cs → (Name n ∷ Sign OpenBracket ∷ before) ++ (more ++ (extra cs ++ close)) ≡ Name n ∷ Sign OpenBracket ∷ (coordinates.spell (spanned cs) ++ close)
window_spelled n cs before more spelled =
    ap (λ v. Name n ∷ Sign OpenBracket ∷ v)
    (sym (append_assoc before more (extra cs ++ close)) ∙ ap (λ v. v ++ (extra cs ++ close)) spelled ∙ sym (append_assoc (coordinates.spell cs) (extra cs) close) ∙ ap (λ v. v ++ close) (sym (spanned_spelled cs)))

no_open : (y : List Token) → FollowsOperand 0 (first y) → first y ≡ Some (Sign OpenBracket) → ⊥
no_open y follows opens = subst (FollowsOperand 0) opens follows

coords_stuck : {cause : Cause} (room : Room) (n : List ℕ) (inside : List Token) (last : ℕ) (other : Argument) (x y : List Token) → room.depth ≡ 64 → (refused : Refused coordinates cause inside last) → first refused.rest ≡ first x → (argument_of (operand 0 room)).Fits (passed cause) other → FollowsOperand 0 (first y) → Name n ∷ Sign OpenBracket ∷ (refused.before ++ x) ≡ (argument_of (operand 0 room)).spell other ++ y → ⊥
coords_stuck {cause = cause} room n inside last (value e) x y full refused same fits follows equal =
    let l : Leftmost e n y (refused.before ++ x) = leftmost 0 e n y (refused.before ++ x) fits.0 (no_open y follows) (sym equal) in
    refused.stuck (points l.list) x (Sign CloseBracket ∷ (l.suffix ++ y)) same (left_fits (passed cause) room e n y (refused.before ++ x) full fits l) refl (left_spelled e n y (refused.before ++ x) l)
coords_stuck room n inside last (window m ds) x y full refused same fits follows equal =
    let e : refused.before ++ x ≡ (coordinates.spell ds ++ close) ++ y = cc (equal) in
    refused.stuck ds x (Sign CloseBracket ∷ y) same fits.1 refl (e ∙ append_assoc (coordinates.spell ds) close y)

coords_refused : {cause : Cause} (room : Room) (n : List ℕ) (inside : List Token) (last : ℕ) → room.depth ≡ 64 → IsShortName n → Refused coordinates cause inside last → Refused (argument_of (operand 0 room)) cause (Name n ∷ Sign OpenBracket ∷ inside) last
coords_refused {cause = cause} room n inside last full short refused = record {
  before = Name n ∷ Sign OpenBracket ∷ refused.before;
  rest = refused.rest;
  whole = ap (λ v. Name n ∷ Sign OpenBracket ∷ v) refused.whole;
  count = refused.count;
  begins = record {
    tree = window n (spanned refused.begins.tree);
    more = refused.begins.more ++ (extra refused.begins.tree ++ close);
    fits = λ limits. window_fits room limits n refused.begins.tree short (refused.begins.fits limits);
    spelled = window_spelled n refused.begins.tree refused.before refused.begins.more refused.begins.spelled;
  };
  goes = goes_along coordinates (argument_of (operand 0 room)) cause refused.before refused.rest (Name n ∷ Sign OpenBracket ∷ refused.before) refused.rest
      (λ limits on. record {
        tree = window n (spanned on.tree);
        token = on.token;
        more = on.more ++ (extra on.tree ++ close);
        next = on.next;
        fits = window_fits room limits n on.tree short on.fits;
        spelled = window_spelled n on.tree refused.before (on.token ∷ on.more) on.spelled;
      }) refused.goes;
  stuck = λ other x y same fits follows equal. coords_stuck room n inside last other x y full refused same fits follows equal;
}

pub coords_err : (room : Room) (n : List ℕ) (inside : List Token) (e : Refusal) → room.depth ≡ 64 → IsShortName n → Refuses coordinates inside e → Refuses (argument_of (operand 0 room)) (Name n ∷ Sign OpenBracket ∷ inside) e
coords_err room n inside e full short refuses =
    refuses_along coordinates inside (argument_of (operand 0 room)) (Name n ∷ Sign OpenBracket ∷ inside) e (λ cause last refused. coords_refused room n inside last full short refused) refuses

-- behind coordinates that were read, another reading has the same ones

record SameWindow (n m : List ℕ) (cs ds : List Coordinate) (x y : List Token) : Type 0 where
  named : m ≡ n
  coords : ds ≡ cs
  rest : x ≡ Sign CloseBracket ∷ y

same_window : (n m : List ℕ) (inside rest : List Token) (cs ds : List Coordinate) (limits : Limits) (x y : List Token) → Taken coordinates inside cs rest → first rest ≡ first x → coordinates.Fits limits ds → Name n ∷ Sign OpenBracket ∷ (coordinates.spell cs ++ x) ≡ Name m ∷ Sign OpenBracket ∷ ((coordinates.spell ds ++ close) ++ y) → SameWindow n m cs ds x y
same_window n m inside rest cs ds limits x y taken same fits equal =
    let h : m ≡ n = cc (equal) in
    let e : coordinates.spell cs ++ x ≡ (coordinates.spell ds ++ close) ++ y = cc (equal) in
    let f : coordinates.spell cs ++ x ≡ coordinates.spell ds ++ (Sign CloseBracket ∷ y) = e ∙ append_assoc (coordinates.spell ds) close y in
    record { named = h; coords = taken.only limits ds x (Sign CloseBracket ∷ y) same fits refl f; rest = taken_rest taken limits ds x (Sign CloseBracket ∷ y) same fits refl f }

record SameValue (e : Tree) (n : List ℕ) (cs : List Coordinate) (x y : List Token) : Type 0 where
  left : Leftmost e n y (coordinates.spell cs ++ x)
  coords : points left.list ≡ cs
  rest : x ≡ Sign CloseBracket ∷ (left.suffix ++ y)

same_value : (room : Room) (n : List ℕ) (inside rest : List Token) (cs : List Coordinate) (e : Tree) (limits : Limits) (x y : List Token) → room.depth ≡ 64 → Taken coordinates inside cs rest → first rest ≡ first x → (operand 0 room).Fits limits e → FollowsOperand 0 (first y) → Name n ∷ Sign OpenBracket ∷ (coordinates.spell cs ++ x) ≡ spelling e ++ y → SameValue e n cs x y
same_value room n inside rest cs e limits x y full taken same fits follows equal =
    let l : Leftmost e n y (coordinates.spell cs ++ x) = leftmost 0 e n y (coordinates.spell cs ++ x) fits.0 (no_open y follows) (sym equal) in
    let there : coordinates.Fits limits (points l.list) = left_fits limits room e n y (coordinates.spell cs ++ x) full fits l in
    let spelled : coordinates.spell cs ++ x ≡ coordinates.spell (points l.list) ++ (Sign CloseBracket ∷ (l.suffix ++ y)) = left_spelled e n y (coordinates.spell cs ++ x) l in
    record {
      left = l;
      coords = taken.only limits (points l.list) x (Sign CloseBracket ∷ (l.suffix ++ y)) same there refl spelled;
      rest = taken_rest taken limits (points l.list) x (Sign CloseBracket ∷ (l.suffix ++ y)) same there refl spelled;
    }

-- no bracket ends the coordinates

open_stuck : (room : Room) (n : List ℕ) (inside rest : List Token) (cs : List Coordinate) (other : Argument) (x y : List Token) → room.depth ≡ 64 → Taken coordinates inside cs rest → (first rest ≡ Some (Sign CloseBracket) → ⊥) → first rest ≡ first x → (argument_of (operand 0 room)).Fits unlimited other → FollowsOperand 0 (first y) → Name n ∷ Sign OpenBracket ∷ (coordinates.spell cs ++ x) ≡ (argument_of (operand 0 room)).spell other ++ y → ⊥
open_stuck room n inside rest cs (value e) x y full taken none same fits follows equal =
    none (same ∙ ap first (same_value room n inside rest cs e unlimited x y full taken same fits follows equal).rest)
open_stuck room n inside rest cs (window m ds) x y full taken none same fits follows equal =
    none (same ∙ ap first (same_window n m inside rest cs ds unlimited x y taken same fits.1 equal).rest)

begun_window : (room : Room) (n : List ℕ) (inside rest : List Token) (cs : List Coordinate) → IsShortName n → Taken coordinates inside cs rest → Begins (argument_of (operand 0 room)) (Name n ∷ Sign OpenBracket ∷ coordinates.spell cs)
begun_window room n inside rest cs short taken = record {
  tree = window n (spanned cs);
  more = extra cs ++ close;
  fits = λ limits. window_fits room limits n cs short (taken.fits limits);
  spelled = window_spelled n cs (coordinates.spell cs) [] (append-nil (coordinates.spell cs));
}

pub coords_open : (room : Room) (n : List ℕ) (inside rest : List Token) (cs : List Coordinate) → room.depth ≡ 64 → IsShortName n → Taken coordinates inside cs rest → (first rest ≡ Some (Sign CloseBracket) → ⊥) → Refused (argument_of (operand 0 room)) syntax (Name n ∷ Sign OpenBracket ∷ inside) (length rest)
coords_open room n inside rest cs full short taken none = record {
  before = Name n ∷ Sign OpenBracket ∷ coordinates.spell cs;
  rest = rest;
  whole = ap (λ v. Name n ∷ Sign OpenBracket ∷ v) taken.whole;
  count = refl;
  begins = begun_window room n inside rest cs short taken;
  goes = tt;
  stuck = λ other x y same fits follows equal. open_stuck room n inside rest cs other x y full taken none same fits follows equal;
}

-- a window

window_only : (room : Room) (n : List ℕ) (inside after : List Token) (cs : List Coordinate) (limits : Limits) (other : Argument) (x y : List Token) → room.depth ≡ 64 → Taken coordinates inside cs (Sign CloseBracket ∷ after) → HasSpan cs → (argument_of (operand 0 room)).Fits limits other → FollowsOperand 0 (first y) → Name n ∷ Sign OpenBracket ∷ (coordinates.spell cs ++ (Sign CloseBracket ∷ x)) ≡ (argument_of (operand 0 room)).spell other ++ y → other ≡ window n cs
window_only room n inside after cs limits (value e) x y full taken spans fits follows equal =
    let s : SameValue e n cs (Sign CloseBracket ∷ x) y = same_value room n inside (Sign CloseBracket ∷ after) cs e limits (Sign CloseBracket ∷ x) y full taken refl fits follows equal in
    absurd (points_span s.left.list (subst HasSpan (sym s.coords) spans))
window_only room n inside after cs limits (window m ds) x y full taken spans fits follows equal =
    let s : SameWindow n m cs ds (Sign CloseBracket ∷ x) y = same_window n m inside (Sign CloseBracket ∷ after) cs ds limits (Sign CloseBracket ∷ x) y taken refl fits.1 equal in
    ap (λ k. window k ds) s.named ∙ ap (window n) s.coords

shift : (n : List ℕ) (word x : List Token) → (Name n ∷ Sign OpenBracket ∷ (word ++ close)) ++ x ≡ Name n ∷ Sign OpenBracket ∷ (word ++ (Sign CloseBracket ∷ x))
shift n word x = ap (λ v. Name n ∷ Sign OpenBracket ∷ v) (append_assoc word close x)

pub window_taken : (room : Room) (n : List ℕ) (inside rest after : List Token) (cs : List Coordinate) → room.depth ≡ 64 → IsShortName n → Taken coordinates inside cs rest → rest ≡ Sign CloseBracket ∷ after → has_span cs ≡ true → Taken (argument_of (operand 0 room)) (Name n ∷ Sign OpenBracket ∷ inside) (window n cs) after
window_taken room n inside rest after cs full short read ends some =
    let taken : Taken coordinates inside cs (Sign CloseBracket ∷ after) = subst (λ (r : List Token). Taken coordinates inside cs r) ends read in
    let spans : HasSpan cs = some_span cs some in
    record {
      fits = λ limits. (name_fits limits n short, taken.fits limits, spans);
      whole = ap (λ v. Name n ∷ Sign OpenBracket ∷ v) taken.whole ∙ sym (shift n (coordinates.spell cs) after);
      only = λ limits other x y same fits follows equal. window_only room n inside after cs limits other x y full taken spans fits follows (sym (shift n (coordinates.spell cs) x) ∙ equal);
    }

-- a cell

lows_stand : (limits : Limits) (cs : List Coordinate) → has_span cs ≡ false → AllFit coordinate limits cs → AllStand (indices_of cs)
lows_stand limits [] none all = tt
lows_stand limits (point e ∷ more) none all = (all.0.0, lows_stand limits more none all.1)
lows_stand limits (span a b ∷ more) none all = absurd (cc (none))

lows_keep : (limits : Limits) (cs : List Coordinate) → has_span cs ≡ false → AllFit coordinate limits cs → Keeps limits (Unit {0}) (AreShort (indices_of cs)) (AreSmall (indices_of cs))
lows_keep limits [] none all = keeps_all limits tt tt tt
lows_keep limits (point e ∷ more) none all =
    keeps_both limits (λ d u. tt) (λ s t. (s.0, s.1, t)) (λ s t. (s, t)) all.0.1 (lows_keep limits more none all.1)
lows_keep limits (span a b ∷ more) none all = absurd (cc (none))

record Cell (limits : Limits) (cs : List Coordinate) : Type 0 where
  some : HasIndex (indices_of cs)
  stand : AllStand (indices_of cs)
  keep : Keeps limits (Unit {0}) ((count (indices_of cs) ≤ 8) × AreShort (indices_of cs)) (AreSmall (indices_of cs))

lows_count : (cs : List Coordinate) → count (indices_of cs) ≡ length cs
lows_count [] = refl
lows_count (c ∷ more) = omega (arith, lows_count more)

few_lows : (c : Coordinate) (more : List Coordinate) → FewDimensions (c ∷ more) → count (indices_of (c ∷ more)) ≤ 8
few_lows c more few = omega (arith, few, lows_count more)

cell_of : (limits : Limits) (cs : List Coordinate) → has_span cs ≡ false → coordinates.Fits limits cs → Cell limits cs
cell_of limits [] none fits = absurd fits
cell_of limits (c ∷ more) none fits = record {
  some = tt;
  stand = lows_stand limits (c ∷ more) none (fits.0, fits.1);
  keep = keeps_both limits (λ d u. tt) (λ s t. (few_lows c more s, t)) (λ s t. t) fits.2 (lows_keep limits (c ∷ more) none (fits.0, fits.1));
}

cell_spelled : (n : List ℕ) (cs : List Coordinate) → has_span cs ≡ false → Name n ∷ Sign OpenBracket ∷ (coordinates.spell cs ++ close) ≡ spelling (access n (indices_of cs))
cell_spelled n cs none = ap (λ v. Name n ∷ Sign OpenBracket ∷ (v ++ close)) (lows_spelled cs none)

lows_depth : (cs : List Coordinate) → has_span cs ≡ false → deepest (indices_of cs) ≡ lowest cs
lows_depth cs none = sym (lowest_points (indices_of cs)) ∙ ap lowest (points_again cs none)

deep_stuck : (room : Room) (n : List ℕ) (inside after : List Token) (cs : List Coordinate) (other : Argument) (x y : List Token) → room.depth ≡ 64 → Taken coordinates inside cs (Sign CloseBracket ∷ after) → has_span cs ≡ false → room.depth ≤ lowest cs → first (Sign CloseBracket ∷ after) ≡ first x → (argument_of (operand 0 room)).Fits in_depth other → FollowsOperand 0 (first y) → Name n ∷ Sign OpenBracket ∷ (coordinates.spell cs ++ x) ≡ (argument_of (operand 0 room)).spell other ++ y → ⊥
deep_stuck room n inside after cs (value e) x y full taken none deep same fits follows equal =
    let s : SameValue e n cs x y = same_value room n inside (Sign CloseBracket ∷ after) cs e in_depth x y full taken same fits follows equal in
    omega (arith, deep, s.left.deeper, fits.1, lowest_points s.left.list, ap lowest s.coords)
deep_stuck room n inside after cs (window m ds) x y full taken none deep same fits follows equal =
    let s : SameWindow n m cs ds x y = same_window n m inside (Sign CloseBracket ∷ after) cs ds in_depth x y taken same fits.1 equal in
    no_span cs none (subst HasSpan s.coords fits.2)

pub cell_deep : (room : Room) (n : List ℕ) (inside rest after : List Token) (cs : List Coordinate) → room.depth ≡ 64 → IsShortName n → Taken coordinates inside cs rest → rest ≡ Sign CloseBracket ∷ after → has_span cs ≡ false → room.depth ≤ lowest cs → Refused (argument_of (operand 0 room)) too_deep (Name n ∷ Sign OpenBracket ∷ inside) (length rest)
cell_deep room n inside rest after cs full short read ends none deep =
    let taken : Taken coordinates inside cs (Sign CloseBracket ∷ after) = subst (λ (r : List Token). Taken coordinates inside cs r) ends read in
    let cell : Cell unlimited cs = cell_of unlimited cs none (taken.fits unlimited) in
    record {
      before = Name n ∷ Sign OpenBracket ∷ coordinates.spell cs;
      rest = Sign CloseBracket ∷ after;
      whole = ap (λ v. Name n ∷ Sign OpenBracket ∷ v) taken.whole;
      count = sym (ap length ends);
      begins = begun_window room n inside rest cs short read;
      goes = record {
        tree = value (access n (indices_of cs));
        token = Sign CloseBracket;
        more = [];
        next = refl;
        fits = ((cell.some, cell.stand), tt);
        spelled = cell_spelled n cs none;
      };
      stuck = λ other x y same fits follows equal. deep_stuck room n inside after cs other x y full taken none deep same fits follows equal;
    }

cell_fits : (room : Room) (limits : Limits) (n : List ℕ) (cs : List Coordinate) → HasPlace room → IsShortName n → has_span cs ≡ false → lowest cs < room.depth → coordinates.Fits limits cs → (operand 5 room).Fits limits (access n (indices_of cs))
cell_fits room limits n cs place short none shallow fits =
    let cell : Cell limits cs = cell_of limits cs none fits in (
      (cell.some, cell.stand),
      keeps_map limits (λ u. let d : depth (access n (indices_of cs)) ≤ room.depth = omega (arith, shallow, lows_depth cs none) in d) (λ s. (place.nodes, (short, s.0, s.1))) (λ s. s) cell.keep,
    )

access_only : (room : Room) (n : List ℕ) (inside after : List Token) (cs : List Coordinate) (limits : Limits) (other : Tree) (x y : List Token) → room.depth ≡ 64 → Taken coordinates inside cs (Sign CloseBracket ∷ after) → has_span cs ≡ false → (operand 5 room).Fits limits other → FollowsOperand 5 (first y) → Name n ∷ Sign OpenBracket ∷ (coordinates.spell cs ++ (Sign CloseBracket ∷ x)) ≡ spelling other ++ y → other ≡ access n (indices_of cs)
access_only room n inside after cs limits (number l) x y full taken none fits follows equal = absurd (let e : Name n ≡ Int l = cc (equal) in cc (e))
access_only room n inside after cs limits (truth true) x y full taken none fits follows equal = absurd (let e : Name n ≡ Word w.True = cc (equal) in cc (e))
access_only room n inside after cs limits (truth false) x y full taken none fits follows equal = absurd (let e : Name n ≡ Word w.False = cc (equal) in cc (e))
access_only room n inside after cs limits (variable m) x y full taken none fits follows equal =
    let e : Sign OpenBracket ∷ (coordinates.spell cs ++ (Sign CloseBracket ∷ x)) ≡ y = cc (equal) in absurd (subst (FollowsOperand 5) (sym (ap first e)) follows)
access_only room n inside after cs limits (access m list) x y full taken none fits follows equal =
    let h : m ≡ n = cc (equal) in
    let e : coordinates.spell cs ++ (Sign CloseBracket ∷ x) ≡ (spelling_list list ++ close) ++ y = cc (equal) in
    let f : coordinates.spell cs ++ (Sign CloseBracket ∷ x) ≡ coordinates.spell (points list) ++ (Sign CloseBracket ∷ y) =
    e ∙ append_assoc (spelling_list list) close y ∙ ap (λ s. s ++ (Sign CloseBracket ∷ y)) (sym (points_spelled list)) in
    let there : coordinates.Fits limits (points list) =
    points_fit limits list fits.0.0 fits.0.1 (keeps_map limits (λ d. let g : deepest list ≤ 64 = omega (arith, d, full) in g) (λ s. (s.1.1, s.1.2)) (λ s. s) fits.1) in
    let same : points list ≡ cs = taken.only limits (points list) (Sign CloseBracket ∷ x) (Sign CloseBracket ∷ y) refl there refl f in
    ap (λ k. access k list) h ∙ ap (access n) (sym (indices_again list) ∙ ap indices_of same)
access_only room n inside after cs limits (field m f) x y full taken none fits follows equal = absurd (let e : Sign OpenBracket ≡ Sign Dot = cc (equal) in cc (e))
access_only room n inside after cs limits (stride m l) x y full taken none fits follows equal = absurd (let e : Name n ≡ Word w.Stride = cc (equal) in cc (e))
access_only room n inside after cs limits (relu a) x y full taken none fits follows equal = absurd (let e : Name n ≡ Word w.Relu = cc (equal) in cc (e))
access_only room n inside after cs limits (select a b c d) x y full taken none fits follows equal = absurd (let e : Name n ≡ Word w.Select = cc (equal) in cc (e))
access_only room n inside after cs limits (negative a) x y full taken none fits follows equal = absurd (let e : Name n ≡ Sign Minus = cc (equal) in cc (e))
access_only room n inside after cs limits (parens a) x y full taken none fits follows equal = absurd (let e : Name n ≡ Sign Open = cc (equal) in cc (e))
access_only room n inside after cs limits (binary op l r) x y full taken none fits follows equal = absurd (omega (arith, level_at_most_four op, fits.0.0))

cell_shift : (n : List ℕ) (cs : List Coordinate) (x : List Token) → has_span cs ≡ false → spelling (access n (indices_of cs)) ++ x ≡ Name n ∷ Sign OpenBracket ∷ (coordinates.spell cs ++ (Sign CloseBracket ∷ x))
cell_shift n cs x none = ap (λ v. v ++ x) (sym (cell_spelled n cs none)) ∙ shift n (coordinates.spell cs) x

pub cell_taken : (room : Room) (n : List ℕ) (inside rest after : List Token) (cs : List Coordinate) → HasPlace room → room.depth ≡ 64 → IsShortName n → Taken coordinates inside cs rest → rest ≡ Sign CloseBracket ∷ after → has_span cs ≡ false → lowest cs < room.depth → Taken (operand 5 room) (Name n ∷ Sign OpenBracket ∷ inside) (access n (indices_of cs)) after
cell_taken room n inside rest after cs place full short read ends none shallow =
    let taken : Taken coordinates inside cs (Sign CloseBracket ∷ after) = subst (λ (r : List Token). Taken coordinates inside cs r) ends read in
    record {
      fits = λ limits. cell_fits room limits n cs place short none shallow (taken.fits limits);
      whole = ap (λ v. Name n ∷ Sign OpenBracket ∷ v) taken.whole ∙ sym (cell_shift n cs after none);
      only = λ limits other x y same fits follows equal. access_only room n inside after cs limits other x y full taken none fits follows (sym (cell_shift n cs x none) ∙ equal);
    }

-- an expression that begins with the cell is no window

record Longer (word cell : List Token) : Type 0 where
  more : List Token
  is : word ≡ cell ++ more

record Shorter (word cell rest : List Token) : Type 0 where
  token : Token
  more : List Token
  is : cell ≡ word ++ (token ∷ more)
  next : first rest ≡ Some token

compared : (word cell rest after : List Token) → word ++ rest ≡ cell ++ after → Longer word cell ⊎ Shorter word cell rest
compared word [] rest after equal = inl (record { more = word; is = refl })
compared [] (t ∷ cell) rest after equal = inr (record { token = t; more = cell; is = refl; next = ap first equal })
compared (s ∷ word) (t ∷ cell) rest after equal =
    let h : s ≡ t = cc (equal) in
    let e : word ++ rest ≡ cell ++ after = cc (equal) in
    elim (compared word cell rest after e) as (λ _. Longer (s ∷ word) (t ∷ cell) ⊎ Shorter (s ∷ word) (t ∷ cell) rest) [
      | inl l ↦ inl (record { more = l.more; is = ap (λ u. u ∷ word) h ∙ ap (λ v. t ∷ v) l.is })
      | inr s' ↦ inr (record { token = s'.token; more = s'.more; is = ap (λ v. t ∷ v) s'.is ∙ ap (λ u. u ∷ (word ++ (s'.token ∷ s'.more))) (sym h); next = s'.next })
    ]

-- behind the whole cell, another reading is no window
no_window : (n m : List ℕ) (inside after : List Token) (cs ds : List Coordinate) (limits : Limits) (word x y : List Token) → Taken coordinates inside cs (Sign CloseBracket ∷ after) → has_span cs ≡ false → Longer word (spelling (access n (indices_of cs))) → coordinates.Fits limits ds → HasSpan ds → word ++ x ≡ Name m ∷ Sign OpenBracket ∷ ((coordinates.spell ds ++ close) ++ y) → ⊥
no_window n m inside after cs ds limits word x y taken none longer fits spans equal =
    let e : Name n ∷ Sign OpenBracket ∷ (coordinates.spell cs ++ (Sign CloseBracket ∷ (longer.more ++ x))) ≡ Name m ∷ Sign OpenBracket ∷ ((coordinates.spell ds ++ close) ++ y) =
    sym (cell_shift n cs (longer.more ++ x) none) ∙ sym (append_assoc (spelling (access n (indices_of cs))) longer.more x) ∙ ap (λ v. v ++ x) (sym longer.is) ∙ equal in
    let s : SameWindow n m cs ds (Sign CloseBracket ∷ (longer.more ++ x)) y = same_window n m inside (Sign CloseBracket ∷ after) cs ds limits (Sign CloseBracket ∷ (longer.more ++ x)) y taken refl fits e in
    no_span cs none (subst HasSpan s.coords spans)

-- the expression is not shorter than its cell
not_shorter : (room : Room) (tokens rest after : List Token) (e cell : Tree) → Taken (operand 0 room) tokens e rest → ((limits : Limits) → (operand 0 room).Fits limits cell) → Shorter (spelling e) (spelling cell) rest → ⊥
not_shorter room tokens rest after e cell taken fits shorter =
    let alike : cell ≡ e = taken.only unlimited cell (shorter.token ∷ shorter.more) [] shorter.next (fits unlimited) tt (sym shorter.is ∙ sym (append-nil (spelling cell))) in
    omega (arith, ap length shorter.is, length-append (spelling e) (shorter.token ∷ shorter.more), ap (λ t. length (spelling t)) alike)

-- an operand that no operator splits is one of every level
whole_fits : (room : Room) (limits : Limits) (n : List ℕ) (list : Trees) → (operand 5 room).Fits limits (access n list) → (operand 0 room).Fits limits (access n list)
whole_fits room limits n list fits = fits

cell_only : (room : Room) (n : List ℕ) (inside rest after : List Token) (cs : List Coordinate) (e : Tree) (limits : Limits) (other : Argument) (x y : List Token) → Taken coordinates inside cs (Sign CloseBracket ∷ after) → has_span cs ≡ false → Longer (spelling e) (spelling (access n (indices_of cs))) → Taken (operand 0 room) (Name n ∷ Sign OpenBracket ∷ inside) e rest → first rest ≡ first x → (argument_of (operand 0 room)).Fits limits other → FollowsOperand 0 (first y) → spelling e ++ x ≡ (argument_of (operand 0 room)).spell other ++ y → other ≡ value e
cell_only room n inside rest after cs e limits (value f) x y coords none longer taken same fits follows equal = ap value (taken.only limits f x y same fits follows equal)
cell_only room n inside rest after cs e limits (window m ds) x y coords none longer taken same fits follows equal =
    absurd (no_window n m inside after cs ds limits (spelling e) x y coords none longer fits.1 fits.2 equal)

pub cell_value : (room : Room) (n : List ℕ) (inside before_close after rest : List Token) (cs : List Coordinate) (e : Tree) → Taken coordinates inside cs before_close → before_close ≡ Sign CloseBracket ∷ after → has_span cs ≡ false → Taken (operand 5 room) (Name n ∷ Sign OpenBracket ∷ inside) (access n (indices_of cs)) after → Taken (operand 0 room) (Name n ∷ Sign OpenBracket ∷ inside) e rest → Taken (argument_of (operand 0 room)) (Name n ∷ Sign OpenBracket ∷ inside) (value e) rest
cell_value room n inside before_close after rest cs e read ends none cell taken =
    let coords : Taken coordinates inside cs (Sign CloseBracket ∷ after) = subst (λ (r : List Token). Taken coordinates inside cs r) ends read in
    let longer : Longer (spelling e) (spelling (access n (indices_of cs))) =
    elim (compared (spelling e) (spelling (access n (indices_of cs))) rest after (sym taken.whole ∙ cell.whole)) as (λ _. Longer (spelling e) (spelling (access n (indices_of cs)))) [
      | inl l ↦ l
      | inr s ↦ absurd (not_shorter room (Name n ∷ Sign OpenBracket ∷ inside) rest after e (access n (indices_of cs)) taken (λ limits. whole_fits room limits n (indices_of cs) (cell.fits limits)) s)
    ] in
    record {
      fits = taken.fits;
      whole = taken.whole;
      only = λ limits other x y same fits follows equal. cell_only room n inside rest after cs e limits other x y coords none longer taken same fits follows equal;
    }

stuck_cell : {cause : Cause} (room : Room) (n : List ℕ) (inside after : List Token) (last : ℕ) (cs : List Coordinate) (other : Argument) (x y : List Token) → Taken coordinates inside cs (Sign CloseBracket ∷ after) → has_span cs ≡ false → (refused : Refused (operand 0 room) cause (Name n ∷ Sign OpenBracket ∷ inside) last) → Longer refused.before (spelling (access n (indices_of cs))) → first refused.rest ≡ first x → (argument_of (operand 0 room)).Fits (passed cause) other → FollowsOperand 0 (first y) → refused.before ++ x ≡ (argument_of (operand 0 room)).spell other ++ y → ⊥
stuck_cell room n inside after last cs (value e) x y coords none refused longer same fits follows equal = refused.stuck e x y same fits follows equal
stuck_cell {cause = cause} room n inside after last cs (window m ds) x y coords none refused longer same fits follows equal =
    no_window n m inside after cs ds (passed cause) refused.before x y coords none longer fits.1 fits.2 equal

cell_refused : {cause : Cause} (room : Room) (n : List ℕ) (inside after : List Token) (last : ℕ) (cs : List Coordinate) → Taken coordinates inside cs (Sign CloseBracket ∷ after) → has_span cs ≡ false → Taken (operand 5 room) (Name n ∷ Sign OpenBracket ∷ inside) (access n (indices_of cs)) after → Refused (operand 0 room) cause (Name n ∷ Sign OpenBracket ∷ inside) last → Refused (argument_of (operand 0 room)) cause (Name n ∷ Sign OpenBracket ∷ inside) last
cell_refused {cause = cause} room n inside after last cs coords none cell refused =
    let longer : Longer refused.before (spelling (access n (indices_of cs))) =
    elim (compared refused.before (spelling (access n (indices_of cs))) refused.rest after (sym refused.whole ∙ cell.whole)) as (λ _. Longer refused.before (spelling (access n (indices_of cs)))) [
      | inl l ↦ l
      | inr s ↦ absurd (refused.stuck (access n (indices_of cs)) (s.token ∷ s.more) [] s.next (whole_fits room (passed cause) n (indices_of cs) (cell.fits (passed cause))) tt (sym s.is ∙ sym (append-nil (spelling (access n (indices_of cs))))))
    ] in
    record {
      before = refused.before;
      rest = refused.rest;
      whole = refused.whole;
      count = refused.count;
      begins = record { tree = value refused.begins.tree; more = refused.begins.more; fits = refused.begins.fits; spelled = refused.begins.spelled };
      goes = goes_along (operand 0 room) (argument_of (operand 0 room)) cause refused.before refused.rest refused.before refused.rest
          (λ limits on. record { tree = value on.tree; token = on.token; more = on.more; next = on.next; fits = on.fits; spelled = on.spelled }) refused.goes;
      stuck = λ other x y same fits follows equal. stuck_cell room n inside after last cs other x y coords none refused longer same fits follows equal;
    }

pub cell_err : (room : Room) (n : List ℕ) (inside before_close after : List Token) (cs : List Coordinate) (e : Refusal) → Taken coordinates inside cs before_close → before_close ≡ Sign CloseBracket ∷ after → has_span cs ≡ false → Taken (operand 5 room) (Name n ∷ Sign OpenBracket ∷ inside) (access n (indices_of cs)) after → Refuses (operand 0 room) (Name n ∷ Sign OpenBracket ∷ inside) e → Refuses (argument_of (operand 0 room)) (Name n ∷ Sign OpenBracket ∷ inside) e
cell_err room n inside before_close after cs e read ends none cell refuses =
    let coords : Taken coordinates inside cs (Sign CloseBracket ∷ after) = subst (λ (r : List Token). Taken coordinates inside cs r) ends read in
    refuses_along (operand 0 room) (Name n ∷ Sign OpenBracket ∷ inside) (argument_of (operand 0 room)) (Name n ∷ Sign OpenBracket ∷ inside) e
    (λ cause last refused. cell_refused room n inside after last cs coords none cell refused) refuses

-- the cell as it was made
pub cell_made : (room : Room) (n : List ℕ) (inside rest after : List Token) (cs : List Coordinate) (made : Tree) → made ≡ access n (indices_of cs) → HasPlace room → room.depth ≡ 64 → IsShortName n → Taken coordinates inside cs rest → rest ≡ Sign CloseBracket ∷ after → has_span cs ≡ false → lowest cs < room.depth → Taken (operand 5 room) (Name n ∷ Sign OpenBracket ∷ inside) made after
cell_made room n inside rest after cs made is place full short read ends none shallow =
    subst (λ (t : Tree). Taken (operand 5 room) (Name n ∷ Sign OpenBracket ∷ inside) t after) (sym is) (cell_taken room n inside rest after cs place full short read ends none shallow)
