-- Parts of a text: their literals are small, and they have few tokens.
use Rattle.std.proofs.Common.{◌≡◌, ℕ, ◌≤◌, ◌^◌, nat_lt, true, false, List, [], ◌∷◌, ◌++◌, length, refl, arith}
use Rattle.std.specs.List.{list_all}
use Rattle.std.proofs.lemmas.List.{length-append}
use Rattle.text_lexer.specs.declared.token.Token.{Token}
use Rattle.text_lexer.specs.declared.token.Token.TheVariants as t
use Rattle.text_lexer.specs.declared.token.Sign.TheVariants as s
use Rattle.text_expressions.specs.Expression.{Tree, Trees, number, truth, variable, access, field, stride, relu, select, negative, parens, binary, end, next, sign, spelling, spelling_list, spelling_more}
use Rattle.text_expressions.specs.declared.source.Infix.{Infix}
use Rattle.text_expressions.specs.Expression.{IsSmall, AreSmall, control}
use Rattle.text_phrases.specs.Limits.{in_size}
use Rattle.text_phrases.specs.Sequence.{AllFit}
use Rattle.text_lexer.specs.declared.token.Literal.TheVariants.{Value, TooLarge}
use Rattle.text_phrases.specs.Commas.{spell_more, spell_listing}
use Rattle.exo_reader.specs.Source.{Coordinate, point, span, window}
use Rattle.exo_reader.specs.Parts.{MaybeDimsFit, dims, maybe_dims}
use Rattle.exo_reader.specs.Statements.{coordinate, coordinates, argument}
use Rattle.rules_names.specs.ExpressionRules.{list_of}
use Rattle.rules_names.specs.Laws.{fit, all_fit, coordinate_fits}
use Rattle.exo_types.specs.ArgumentRules.{points}
use Rattle.exo_types_laws.specs.Small.{is_small_token, are_small_tokens}
use Rattle.exo_types_laws.proofs.Unbroken.{both, pair, all_of_both}

pub record Text (ts : List Token) : Type 0 where
  pub small : are_small_tokens ts ≡ true
  pub short : length ts ≤ 0x100000

pub front : (xs ys : List Token) → Text (xs ++ ys) → Text xs
front xs ys h = record { small = (all_of_both is_small_token xs ys h.small).0; short = omega (arith, h.short, length-append xs ys) }

pub back : (xs ys : List Token) → Text (xs ++ ys) → Text ys
back xs ys h = record { small = (all_of_both is_small_token xs ys h.small).1; short = omega (arith, h.short, length-append xs ys) }

pub behind : (t : Token) (ts : List Token) → Text (t ∷ ts) → Text ts
behind t ts h = record { small = (both (is_small_token t) (are_small_tokens ts) h.small).1; short = omega (arith, h.short) }

-- ---- the literals of an expression are small

left : (xs ys : List Token) → are_small_tokens (xs ++ ys) ≡ true → are_small_tokens xs ≡ true
left xs ys h = (all_of_both is_small_token xs ys h).0

right : (xs ys : List Token) → are_small_tokens (xs ++ ys) ≡ true → are_small_tokens ys ≡ true
right xs ys h = (all_of_both is_small_token xs ys h).1

operator_small : (operator : Infix) (ts : List Token) → are_small_tokens (sign operator ∷ ts) ≡ true → are_small_tokens ts ≡ true
operator_small operator ts h = (both (is_small_token (sign operator)) (are_small_tokens ts) h).1

mutual
  tree_fits : (e : Tree) → IsSmall e → are_small_tokens (spelling e) ≡ true → fit e ≡ true
  tree_fits (number (Value n)) k h = (both (nat_lt n (2 ^ 31)) true h).0
  tree_fits (number TooLarge) k h = absurd k
  tree_fits (truth b) k h = refl
  tree_fits (variable x) k h = refl
  tree_fits (access x is) k h = list_fits is k (left (spelling_list is) (t.Sign s.CloseBracket ∷ []) h)
  tree_fits (field c x) k h = refl
  tree_fits (stride x n) k h = refl
  tree_fits (relu e) k h = tree_fits e k (left (spelling e) (t.Sign s.Close ∷ []) h)
  tree_fits (select a b c d) k h =
      let last : List Token = spelling d ++ (t.Sign s.Close ∷ []) in
      let third : List Token = t.Sign s.Comma ∷ last in
      let p = right (spelling a) (t.Sign s.Comma ∷ (spelling b ++ (t.Sign s.Comma ∷ (spelling c ++ third)))) h in
      let q = right (spelling b) (t.Sign s.Comma ∷ (spelling c ++ third)) p in
      let r = right (spelling c) third q in
      pair
      (pair (tree_fits a k.0 (left (spelling a) (t.Sign s.Comma ∷ (spelling b ++ (t.Sign s.Comma ∷ (spelling c ++ third)))) h)) (tree_fits b k.1 (left (spelling b) (t.Sign s.Comma ∷ (spelling c ++ third)) p)))
      (pair (tree_fits c k.2 (left (spelling c) third q)) (tree_fits d k.3 (left (spelling d) (t.Sign s.Close ∷ []) r)))
  tree_fits (negative e) k h = tree_fits e k h
  tree_fits (parens e) k h = tree_fits e k (left (spelling e) (t.Sign s.Close ∷ []) h)
  tree_fits (binary operator l r) k h =
      pair (tree_fits l k.0 (left (spelling l) (sign operator ∷ spelling r) h)) (tree_fits r k.1 (operator_small operator (spelling r) (right (spelling l) (sign operator ∷ spelling r) h)))

  list_fits : (es : Trees) → AreSmall es → are_small_tokens (spelling_list es) ≡ true → all_fit es ≡ true
  list_fits end k h = refl
  list_fits (next e more) k h = pair (tree_fits e k.0 (left (spelling e) (spelling_more more) h)) (more_fit more k.1 (right (spelling e) (spelling_more more) h))

  more_fit : (es : Trees) → AreSmall es → are_small_tokens (spelling_more es) ≡ true → all_fit es ≡ true
  more_fit end k h = refl
  more_fit (next e more) k h = pair (tree_fits e k.0 (left (spelling e) (spelling_more more) h)) (more_fit more k.1 (right (spelling e) (spelling_more more) h))

pub fits_in : (e : Tree) → IsSmall e → Text (spelling e) → fit e ≡ true
fits_in e k h = tree_fits e k h.small

-- ---- lists of expressions, and coordinates

more_trees_fit : (es : List Tree) → AllFit control in_size es → are_small_tokens (spell_more control (t.Sign s.Comma) es false) ≡ true → list_all fit es ≡ true
more_trees_fit [] k h = refl
more_trees_fit (e ∷ es) k h =
    let tail : List Token = spell_more control (t.Sign s.Comma) es false in
    pair (tree_fits e k.0.1.2 (left (spelling e) tail h)) (more_trees_fit es k.1 (right (spelling e) tail h))

listed_fit : (es : List Tree) → dims.Fits in_size es → are_small_tokens (spell_listing control (t.Sign s.Comma) es) ≡ true → list_all fit es ≡ true
listed_fit [] k h = refl
listed_fit (e ∷ es) k h =
    let tail : List Token = spell_more control (t.Sign s.Comma) es false in
    pair (tree_fits e k.0.1.2 (left (spelling e) tail h)) (more_trees_fit es k.1 (right (spelling e) tail h))

pub dims_fit : (ds : List Tree) → dims.Fits in_size ds → Text (dims.spell ds) → list_all fit ds ≡ true
dims_fit ds k h = listed_fit ds k (left (spell_listing control (t.Sign s.Comma) ds) (t.Sign s.CloseBracket ∷ []) h.small)

pub maybe_dims_fit : (ds : List Tree) → MaybeDimsFit in_size ds → Text (maybe_dims.spell ds) → list_all fit ds ≡ true
maybe_dims_fit [] k h = refl
maybe_dims_fit (d ∷ ds) k h = dims_fit (d ∷ ds) k h

coordinate_in : (c : Coordinate) → coordinate.Fits in_size c → are_small_tokens (coordinate.spell c) ≡ true → coordinate_fits c ≡ true
coordinate_in (point e) k h = tree_fits e k.1.2 h
coordinate_in (span a b) k h = pair (tree_fits a k.0.1.2 (left (spelling a) (t.Sign s.Colon ∷ spelling b) h)) (tree_fits b k.1.1.2 (right (spelling a) (t.Sign s.Colon ∷ spelling b) h))

more_coordinates_fit : (cs : List Coordinate) → AllFit coordinate in_size cs → are_small_tokens (spell_more coordinate (t.Sign s.Comma) cs false) ≡ true → list_all coordinate_fits cs ≡ true
more_coordinates_fit [] k h = refl
more_coordinates_fit (c ∷ cs) k h =
    let tail : List Token = spell_more coordinate (t.Sign s.Comma) cs false in
    pair (coordinate_in c k.0 (left (coordinate.spell c) tail h)) (more_coordinates_fit cs k.1 (right (coordinate.spell c) tail h))

listed_coordinates_fit : (cs : List Coordinate) → coordinates.Fits in_size cs → are_small_tokens (coordinates.spell cs) ≡ true → list_all coordinate_fits cs ≡ true
listed_coordinates_fit [] k h = refl
listed_coordinates_fit (c ∷ cs) k h =
    let tail : List Token = spell_more coordinate (t.Sign s.Comma) cs false in
    pair (coordinate_in c k.0 (left (coordinate.spell c) tail h)) (more_coordinates_fit cs k.1 (right (coordinate.spell c) tail h))

-- a window with its name
pub window_fits : (x : List ℕ) (cs : List Coordinate) → coordinates.Fits in_size cs → Text (argument.spell (window x cs)) → list_all coordinate_fits cs ≡ true
window_fits x cs k h = listed_coordinates_fit cs k (left (coordinates.spell cs) (t.Sign s.CloseBracket ∷ []) h.small)

pub points_fit : (es : List Tree) → list_all fit es ≡ true → list_all coordinate_fits (points es) ≡ true
points_fit [] h = refl
points_fit (e ∷ es) h = let p = both (fit e) (list_all fit es) h in pair p.0 (points_fit es p.1)

pub indices_fit : (is : Trees) → all_fit is ≡ true → list_all fit (list_of is) ≡ true
indices_fit end h = refl
indices_fit (next e more) h = let p = both (fit e) (all_fit more) h in pair p.0 (indices_fit more p.1)
