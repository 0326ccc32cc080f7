-- The coordinates of windows.
use Rattle.std.proofs.Common.{◌≡◌, ℕ, ◌<◌, ◌≤◌, max, List, [], ◌∷◌, ◌++◌, Option, Some, Bool, true, false}
use Rattle.std.proofs.Common.{◌||◌, length, refl, sym, ap, ◌∙◌, append_assoc, subst, arith, map, ◌⊎◌, inl, inr}
use Rattle.std.proofs.lemmas.List.{length-append, length-map}
use Rattle.text_phrases.specs.Limits.{Limits, in_depth, Cause, passed, too_long}
use Rattle.text_phrases.specs.Phrase.{first, Taken, Refused}
use Rattle.text_phrases.specs.Answers.{Refuses}
use Rattle.text_phrases.specs.declared.Refusal.{Refusal}
use Rattle.text_phrases.proofs.Phrases.{goes_along, taken_rest}
use Rattle.text_phrases.proofs.Exits.{refuses_along}
use Rattle.text_phrases.proofs.Sequences.{Back, Step}
use Rattle.text_phrases.proofs.Commas.{CommaApart, Listed, listed_first, listed_next, listing_refused_first}
use Rattle.text_phrases.proofs.Commas.{listing_refused, listing_full, listing_done}
use Rattle.text_expressions.specs.Expression.{Tree, trees, number, truth, variable, access, field, stride, relu, select, negative, parens, binary, sign, deepest, spelling, FollowsOperand, control, FewDimensions, EndsList}
use Rattle.text_lexer.specs.declared.token.Token.{Token}
use Rattle.text_lexer.specs.declared.token.Token.TheVariants.{Sign}
use Rattle.text_lexer.specs.declared.token.Sign.TheVariants.{Close, CloseBracket, Comma, Colon}
use Rattle.exo_reader.specs.Source.{Coordinate, point, span}
use Rattle.exo_reader.specs.Statements.{FollowsCoordinate, coordinate, coordinates}
use Rattle.exo_reader.specs.Windows.{low_of, low_depth, lowest, is_span, has_span, AreNoted}
use Rattle.exo_reader.specs.Views.{plain_coordinate}
use Rattle.exo_reader.specs.declared.source.SourceCoord.{SourceCoord}
use Rattle.text_expressions.specs.declared.source.SourceExpr.{SourceExpr}
use Rattle.text_expressions.specs.Views.{tree_of}
use Rattle.exo_reader.specs.declared.argument.NotedCoords.{NotedCoords}
use Rattle.exo_reader.proofs.Parts.{zero, control_zero}
use Rattle.exo_reader.proofs.Lists.{map_snoc}

follows_coordinate : (o : Option Token) → FollowsCoordinate o → FollowsOperand 0 o
follows_coordinate (Some (Sign Comma)) follows = tt
follows_coordinate (Some (Sign CloseBracket)) follows = tt
follows_coordinate other follows = absurd follows

-- a point

point_only : (tokens rest : List Token) (low : Tree) (limits : Limits) (other : Coordinate) (x y : List Token) → Taken control tokens low rest → (first rest ≡ Some (Sign Colon) → ⊥) → first rest ≡ first x → coordinate.Fits limits other → FollowsCoordinate (first y) → spelling low ++ x ≡ coordinate.spell other ++ y → other ≡ point low
point_only tokens rest low limits (point e) x y taken none same fits follows equal = ap point (taken.only limits e x y same fits (follows_coordinate (first y) follows) equal)
point_only tokens rest low limits (span a b) x y taken none same fits follows equal =
    let e : spelling low ++ x ≡ spelling a ++ (Sign Colon ∷ (spelling b ++ y)) = equal ∙ append_assoc (spelling a) (Sign Colon ∷ spelling b) y in
    absurd (none (same ∙ ap first (taken_rest taken limits a x (Sign Colon ∷ (spelling b ++ y)) same fits.0 tt e)))

pub point_taken : (tokens rest : List Token) (low : Tree) → Taken control tokens low rest → (first rest ≡ Some (Sign Colon) → ⊥) → Taken coordinate tokens (point low) rest
point_taken tokens rest low taken none = record {
  fits = taken.fits;
  whole = taken.whole;
  only = λ limits other x y same fits follows equal. point_only tokens rest low limits other x y taken none same fits follows equal;
}

coordinate_stuck : {cause : Cause} (tokens : List Token) (last : ℕ) (other : Coordinate) (x y : List Token) → (refused : Refused control cause tokens last) → first refused.rest ≡ first x → coordinate.Fits (passed cause) other → FollowsCoordinate (first y) → refused.before ++ x ≡ coordinate.spell other ++ y → ⊥
coordinate_stuck tokens last (point e) x y refused same fits follows equal = refused.stuck e x y same fits (follows_coordinate (first y) follows) equal
coordinate_stuck tokens last (span a b) x y refused same fits follows equal =
    refused.stuck a x (Sign Colon ∷ (spelling b ++ y)) same fits.0 tt (equal ∙ append_assoc (spelling a) (Sign Colon ∷ spelling b) y)

coordinate_refused : {cause : Cause} (tokens : List Token) (last : ℕ) → Refused control cause tokens last → Refused coordinate cause tokens last
coordinate_refused {cause = cause} tokens last refused = record {
  before = refused.before;
  rest = refused.rest;
  whole = refused.whole;
  count = refused.count;
  begins = record { tree = point refused.begins.tree; more = refused.begins.more; fits = refused.begins.fits; spelled = refused.begins.spelled };
  goes = goes_along control coordinate cause refused.before refused.rest refused.before refused.rest
      (λ limits on. record { tree = point on.tree; token = on.token; more = on.more; next = on.next; fits = on.fits; spelled = on.spelled }) refused.goes;
  stuck = λ other x y same fits follows equal. coordinate_stuck tokens last other x y refused same fits follows equal;
}

pub coordinate_err : (tokens : List Token) (e : Refusal) → Refuses control tokens e → Refuses coordinate tokens e
coordinate_err tokens e refuses = refuses_along control tokens coordinate tokens e (λ cause last refused. coordinate_refused tokens last refused) refuses

-- a span

span_back : (tokens after : List Token) (low : Tree) (limits : Limits) (other : Coordinate) (x y : List Token) → Taken control tokens low (Sign Colon ∷ after) → coordinate.Fits limits other → FollowsCoordinate (first y) → spelling low ++ (Sign Colon ∷ x) ≡ coordinate.spell other ++ y → Back control (span low) limits other x y
span_back tokens after low limits (point e) x y taken fits follows equal =
    let f : Sign Colon ∷ x ≡ y = taken_rest taken limits e (Sign Colon ∷ x) y refl fits (follows_coordinate (first y) follows) equal in
    absurd (subst FollowsCoordinate (sym (ap first f)) follows)
span_back tokens after low limits (span a b) x y taken fits follows equal =
    let e : spelling low ++ (Sign Colon ∷ x) ≡ spelling a ++ (Sign Colon ∷ (spelling b ++ y)) = equal ∙ append_assoc (spelling a) (Sign Colon ∷ spelling b) y in
    let f : Sign Colon ∷ x ≡ Sign Colon ∷ (spelling b ++ y) = taken_rest taken limits a (Sign Colon ∷ x) (Sign Colon ∷ (spelling b ++ y)) refl fits.0 tt e in
    record {
      tree = b;
      fits = fits.1;
      is = ap (λ l. span l b) (taken.only limits a (Sign Colon ∷ x) (Sign Colon ∷ (spelling b ++ y)) refl fits.0 tt e);
      equal = (let g : x ≡ spelling b ++ y = cc (f) in g);
      follows = follows_coordinate (first y) follows;
    }

pub step_span : (tokens rest after : List Token) (low : Tree) → Taken control tokens low rest → rest ≡ Sign Colon ∷ after → Step coordinate control (span low) tokens after
step_span tokens rest after low read colon =
    let taken : Taken control tokens low (Sign Colon ∷ after) = subst (λ (r : List Token). Taken control tokens low r) colon read in
    record {
      front = spelling low ++ (Sign Colon ∷ []);
      split = taken.whole ∙ sym (append_assoc (spelling low) (Sign Colon ∷ []) after);
      fits = λ limits b fits. (taken.fits limits, fits);
      spelled = λ b. sym (append_assoc (spelling low) (Sign Colon ∷ []) (spelling b));
      back = λ limits other x y same fits follows equal. span_back tokens after low limits other x y taken fits follows (sym (append_assoc (spelling low) (Sign Colon ∷ []) x) ∙ equal);
    }

-- no expression begins with what closes a list

abbrev pub Opens : Option Token → Type 0
Opens (Some (Sign Close)) = ⊥
Opens (Some (Sign CloseBracket)) = ⊥
Opens other = Unit {0}

pub opens : (e : Tree) (y : List Token) → Opens (first (spelling e ++ y))
opens (number n) y = tt
opens (truth true) y = tt
opens (truth false) y = tt
opens (variable x) y = tt
opens (access x list) y = tt
opens (field x f) y = tt
opens (stride x n) y = tt
opens (relu a) y = tt
opens (select a b c d) y = tt
opens (negative a) y = tt
opens (parens a) y = tt
opens (binary o a b) y =
    subst (λ w. Opens (first w)) (sym (append_assoc (spelling a) (sign o ∷ spelling b) y))
    (opens a (sign o ∷ (spelling b ++ y)))

coordinate_apart : (c : Coordinate) (y : List Token) → first (coordinate.spell c ++ y) ≡ Some (Sign CloseBracket) → ⊥
coordinate_apart (point e) y same = subst Opens same (opens e y)
coordinate_apart (span a b) y same =
    subst Opens (sym (ap first (append_assoc (spelling a) (Sign Colon ∷ spelling b) y)) ∙ same)
    (opens a (Sign Colon ∷ (spelling b ++ y)))

pub coords_apart : CommaApart coordinate (Sign Comma) EndsList
coords_apart = record {
  comma_goes_on = λ ends. cc (ends);
  comma_follows = tt;
  begins = λ limits c y fits ends. coordinate_apart c y ends;
  last = λ o ends. subst FollowsCoordinate (sym ends) tt;
}

-- lists of coordinates

one_coordinate : (c : Coordinate) → FewDimensions (c ∷ [])
one_coordinate c = omega arith

pub coords_err_first : (tokens : List Token) (e : Refusal) → Refuses coordinate tokens e → Refuses coordinates tokens e
coords_err_first tokens e refuses =
    refuses_along coordinate tokens coordinates tokens e (λ cause last refused. listing_refused_first coordinate (Sign Comma) FewDimensions EndsList tokens last coords_apart one_coordinate refused) refuses

one_more : (list : List SourceCoord) (c : Coordinate) → length list < 8 → FewDimensions (map plain_coordinate list ++ (c ∷ []))
one_more list c less = omega (arith, less, length-append (map plain_coordinate list) (c ∷ []), length-map list plain_coordinate)

pub coords_err_next : (tokens rest after : List Token) (list : List SourceCoord) (e : Refusal) → Listed coordinate (Sign Comma) EndsList tokens (map plain_coordinate list) rest → rest ≡ Sign Comma ∷ after → length list < 8 → Refuses coordinate after e → Refuses coordinates tokens e
coords_err_next tokens rest after list e listed comma less refuses =
    refuses_along coordinate after coordinates tokens e
    (λ cause last refused. listing_refused coordinate (Sign Comma) FewDimensions EndsList tokens rest after (map plain_coordinate list) last coords_apart listed comma (λ c. one_more list c less) refused) refuses

few_plain : (list : List SourceCoord) → length list ≤ 8 → FewDimensions (map plain_coordinate list)
few_plain list few = omega (arith, few, length-map list plain_coordinate)

too_many : (list : List SourceCoord) (c : Coordinate) (more : List Coordinate) → 8 ≤ length list → FewDimensions (map plain_coordinate list ++ (c ∷ more)) → ⊥
too_many list c more full few = omega (arith, full, few, length-append (map plain_coordinate list) (c ∷ more), length-map list plain_coordinate)

pub coords_full : (tokens rest after : List Token) (list : List SourceCoord) → Listed coordinate (Sign Comma) EndsList tokens (map plain_coordinate list) rest → rest ≡ Sign Comma ∷ after → length list ≤ 8 → 8 ≤ length list → Refused coordinates too_long tokens (length rest)
coords_full tokens rest after list listed comma few full =
    listing_full coordinate (Sign Comma) FewDimensions EndsList tokens rest after (map plain_coordinate list) (point zero) coords_apart listed comma (few_plain list few) (control_zero in_depth) (λ c more. too_many list c more full)

pub coords_done : (tokens rest : List Token) (list : List SourceCoord) → Listed coordinate (Sign Comma) EndsList tokens (map plain_coordinate list) rest → length list ≤ 8 → (first rest ≡ Some (Sign Comma) → ⊥) → Taken coordinates tokens (map plain_coordinate list) rest
coords_done tokens rest list listed few none = listing_done coordinate (Sign Comma) FewDimensions EndsList tokens rest (map plain_coordinate list) coords_apart listed (few_plain list few) none

-- depths and spans

pub low_deepest : (list : List Coordinate) → deepest (trees (map low_of list)) ≡ lowest list
low_deepest [] = refl
low_deepest (c ∷ list) = ap (λ d. max (low_depth c) d) (low_deepest list)

pub lowest_snoc : (list : List Coordinate) (c : Coordinate) → lowest (list ++ (c ∷ [])) ≡ max (lowest list) (low_depth c)
lowest_snoc [] c = omega arith
lowest_snoc (d ∷ list) c = omega (arith, lowest_snoc list c)

pub span_one : (c : Coordinate) → has_span (c ∷ []) ≡ is_span c
span_one (point e) = refl
span_one (span a b) = refl

pub span_snoc : (list : List Coordinate) (c : Coordinate) → has_span (list ++ (c ∷ [])) ≡ has_span list || is_span c
span_snoc [] c = span_one c
span_snoc (point e ∷ list) c = span_snoc list c
span_snoc (span a b ∷ list) c = refl

pub plain_snoc : (list : List SourceCoord) (c : SourceCoord) → map plain_coordinate (list ++ (c ∷ [])) ≡ map plain_coordinate list ++ (plain_coordinate c ∷ [])
plain_snoc list c = map_snoc plain_coordinate list c

-- the depth and the spans with one more coordinate

pub deeper :
    (list : List SourceCoord) (c : SourceCoord) (deep depth : ℕ) → deep ≡ lowest (map plain_coordinate list) →
    depth ≡ low_depth (plain_coordinate c) → max deep depth ≡ lowest (map plain_coordinate (list ++ (c ∷ [])))
deeper list c deep depth noted own =
    rw (noted, own, plain_snoc list c) (sym (lowest_snoc (map plain_coordinate list) (plain_coordinate c)))

pub spans_more :
    (list : List SourceCoord) (c : SourceCoord) (spans one : Bool) → spans ≡ has_span
    (map plain_coordinate list) → one ≡ is_span (plain_coordinate c) → (spans || one) ≡ has_span
    (map plain_coordinate (list ++ (c ∷ [])))
spans_more list c spans one noted own =
    rw (noted, own, plain_snoc list c) (sym (span_snoc (map plain_coordinate list) (plain_coordinate c)))

-- what stands before a coordinate: none was read, or some and a comma, with room for one more
abbrev pub Coords_read : List Token → List SourceCoord → List Token → Type 0
Coords_read tokens list rest =
    ((list ≡ []) × (tokens ≡ rest)) ⊎ (Listed coordinate (Sign Comma) EndsList tokens
    (map plain_coordinate list) (Sign Comma ∷ rest) × (length list < 8))

coords_few : (tokens rest : List Token) (list : List SourceCoord) → Coords_read tokens list rest → length list < 8
coords_few tokens rest list (inl none) = omega (arith, ap length none.0)
coords_few tokens rest list (inr some) = some.1

coords_some :
    (tokens rest found : List Token) (list : List SourceCoord) (c : SourceCoord) → Coords_read tokens list rest
    → Taken coordinate rest (plain_coordinate c) found → Listed coordinate (Sign Comma) EndsList tokens
    (map plain_coordinate (list ++ (c ∷ []))) found
coords_some tokens rest found list c (inl none) taken =
    rw (none.0, none.1) (listed_first coordinate (Sign Comma) EndsList rest found (plain_coordinate c) taken)
coords_some tokens rest found list c (inr some) taken =
    rw (plain_snoc list c) (listed_next coordinate (Sign Comma) EndsList tokens (Sign Comma ∷ rest) rest found
    (map plain_coordinate list) (plain_coordinate c) coords_apart some.0 refl taken)

one_longer :
    (tokens rest : List Token) (list : List SourceCoord) (c : SourceCoord) → Coords_read tokens list rest →
    length (list ++ (c ∷ [])) ≤ 8
one_longer tokens rest list c begun = omega (arith, coords_few tokens rest list begun, length-append list (c ∷ []))

-- one more coordinate and a comma are read
pub coords_more :
    (tokens rest found after : List Token) (list : List SourceCoord) (c : SourceCoord) → Coords_read tokens list
    rest → Taken coordinate rest (plain_coordinate c) found → found ≡ Sign Comma ∷ after → length
    (list ++ (c ∷ [])) < 8 → Coords_read tokens (list ++ (c ∷ [])) after
coords_more tokens rest found after list c begun taken comma less =
    inr (rw (sym comma) (coords_some tokens rest found list c begun taken), less)

-- the last coordinate is read
pub coords_last :
    (tokens rest found : List Token) (list : List SourceCoord) (c : SourceCoord) → Coords_read tokens list rest
    → Taken coordinate rest (plain_coordinate c) found → (first found ≡ Some (Sign Comma) → ⊥) → Taken
    coordinates tokens (map plain_coordinate (list ++ (c ∷ []))) found
coords_last tokens rest found list c begun taken none =
    coords_done tokens found (list ++ (c ∷ [])) (coords_some tokens rest found list c begun taken)
    (one_longer tokens rest list c begun) none

-- there is no room for one more
pub coords_over :
    (tokens rest found after : List Token) (list : List SourceCoord) (c : SourceCoord) → Coords_read tokens list
    rest → Taken coordinate rest (plain_coordinate c) found → found ≡ Sign Comma ∷ after → 8 ≤ length
    (list ++ (c ∷ [])) → Refused coordinates too_long tokens (length found)
coords_over tokens rest found after list c begun taken comma full =
    coords_full tokens found after (list ++ (c ∷ [])) (coords_some tokens rest found list c begun taken) comma
    (one_longer tokens rest list c begun) full

-- a coordinate is refused
pub coords_err :
    (tokens rest : List Token) (list : List SourceCoord) (e : Refusal) → Coords_read tokens list rest → Refuses
    coordinate rest e → Refuses coordinates tokens e
coords_err tokens rest list e (inl none) refuses = rw none.1 (coords_err_first rest e refuses)
coords_err tokens rest list e (inr some) refuses =
    coords_err_next tokens (Sign Comma ∷ rest) rest list e some.0 refl some.1 refuses

pub none_noted : (l : NotedCoords) → l.items.items ≡ [] → l.depth ≡ 0 → l.spans ≡ false → AreNoted l
none_noted l none depth spans = record { depth = rw (none, depth) refl; spans = rw (none, spans) refl }

pub lows_snoc :
    (list : List SourceExpr) (coords : List SourceCoord) (e : SourceExpr) (c : SourceCoord) → map tree_of list ≡
    map low_of (map plain_coordinate coords) → tree_of e ≡ low_of (plain_coordinate c) → map tree_of
    (list ++ (e ∷ [])) ≡ map low_of (map plain_coordinate (coords ++ (c ∷ [])))
lows_snoc list coords e c same own =
    rw (
      map_snoc tree_of list e,
      plain_snoc coords c,
      map_snoc low_of (map plain_coordinate coords) (plain_coordinate c),
      same,
      own,
    ) refl
