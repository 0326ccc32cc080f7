-- Operands that no operator splits, by what stands behind their first tokens.
use Rattle.std.proofs.Math.Nat.{le-max_left, le-max_right, max-le}
use Rattle.std.proofs.Common.{◌≡◌, ℕ, suc, max, ◌+◌, ◌-◌, ◌<◌, ◌≤◌, List, [], ◌∷◌, ◌++◌, Option, Some, refl, sym, ap, ◌∙◌, append_assoc, subst, arith}
use Rattle.text_phrases.specs.Limits.{Limits}
use Rattle.text_phrases.specs.Phrase.{first, Phrase}
use Rattle.text_phrases.specs.Sequence.{exactly, then, then_by}
use Rattle.text_phrases.proofs.Phrases.{keeps_map, keeps_both, keeps_all}
use Rattle.text_phrases.proofs.Sequences.{Back, Step, JointBy}
use Rattle.text_phrases.proofs.Commas.{CommaApart}
use Rattle.text_phrases.proofs.Joints.{Joint}
use Rattle.text_expressions.specs.Front.Values.{IsShortName, name, literal}
use Rattle.text_expressions.specs.Expression.{Tree, number, access, field, stride, relu, select, negative, parens, trees, spelling, spelling_list, FollowsOperand, operand, ended_by, Within, under, HasPlace, depth, nodes, IsShort, IsSmall, indices, control_room, EndsList}
use Rattle.text_lexer.specs.declared.token.Token.{Token}
use Rattle.text_lexer.specs.declared.token.Token.TheVariants.{Name, Word, Sign}
use Rattle.text_lexer.specs.declared.token.Literal.{Literal}
use Rattle.text_lexer.specs.declared.token.Literal.TheVariants.{Value}
use Rattle.text_lexer.specs.declared.token.Sign.{Sign as AnySign}
use Rattle.text_lexer.specs.declared.token.Word.TheVariants.{Stride, Relu, Select}
use Rattle.text_lexer.specs.declared.token.Sign.TheVariants.{Open, Close, OpenBracket, CloseBracket, Comma, Dot, Minus}
use Rattle.text_expressions.specs.declared.expression.Room.{Room}
use Rattle.text_expressions.proofs.Sizes.{nodes_some, zero_within, zero_beside, inside_negative, around_negative, inside_relu, around_relu, inside_parens, around_parens}
use Rattle.text_expressions.proofs.Atoms.{Goes, goes, Named, plain, cell, dotted, starts, Starts, four}
use Rattle.text_expressions.proofs.Indices.{listed, trees-listed, spelled_list, around_access, inside_access}

abbrev zero : Tree
zero = number (Value 0)

-- a literal fits
pub zero_fits : (limits : Limits) (level : ℕ) (room : Room) → HasPlace room → (operand level room).Fits limits zero
zero_fits limits level room place = (tt, zero_within limits room place)

-- a sign that ends an expression stands behind it
pub ended_joint : (x : AnySign) (room : Room) → FollowsOperand 0 (Some (Sign x)) → Joint (operand 0 room) (exactly (Sign x ∷ []))
ended_joint x room ends = record { may = record { may = λ limits q y fits follows. ends }; some = tt; fits = λ limits. tt }

pub open_joint : (room : Room) → HasPlace room → Joint (exactly (Sign Open ∷ [])) (ended_by Close room)
open_joint room place = record { may = record { may = λ limits q y fits follows. tt }; some = (zero, tt); fits = λ limits. (zero_fits limits 0 room place, tt) }

-- an unary minus

pub step_negative : (room : Room) (after : List Token) → 1 < room.depth → 1 < room.nodes → Step (operand 5 room) (operand 5 (under 1 room)) negative (Sign Minus ∷ after) after
step_negative room after deep long = record {
  front = Sign Minus ∷ [];
  split = refl;
  fits = λ limits t fits. (fits.0, around_negative limits room t deep long fits.1);
  spelled = λ t. refl;
  back = λ limits other x y same fits follows equal.
      let found : Goes (Sign Minus) other x y = goes (Sign Minus) other x y fits.0 equal in
      record {
        tree = found.0;
        fits = (found.2, inside_negative limits room found.0 (subst (Within limits room) found.1 fits.1));
        is = found.1;
        equal = found.3;
        follows = follows;
      };
}

-- parentheses

pub step_parens : (room : Room) (after : List Token) → 1 < room.depth → Step (operand 5 room) (ended_by Close (under 0 room)) (λ p. parens p.0) (Sign Open ∷ after) after
step_parens room after deep = record {
  front = Sign Open ∷ [];
  split = refl;
  fits = λ limits p fits. (fits.0.0, around_parens limits room p.0 deep fits.0.1);
  spelled = λ p. refl;
  back = λ limits other x y same fits follows equal.
      let found : Goes (Sign Open) other x y = goes (Sign Open) other x y fits.0 equal in
      record {
        tree = (found.0, tt);
        fits = ((found.2, inside_parens limits room found.0 (subst (Within limits room) found.1 fits.1)), tt);
        is = found.1;
        equal = found.3 ∙ sym (append_assoc (spelling found.0) (Sign Close ∷ []) y);
        follows = tt;
      };
}

-- the function of one argument

abbrev pub Argument : Room → Phrase Token ((Unit {0}) × (Tree × (Unit {0})))
Argument room = then (exactly (Sign Open ∷ [])) (ended_by Close (under 1 room))

pub step_relu : (room : Room) (after : List Token) → 1 < room.depth → 1 < room.nodes → Step (operand 5 room) (Argument room) (λ p. relu p.1.0) (Word Relu ∷ after) after
step_relu room after deep long = record {
  front = Word Relu ∷ [];
  split = refl;
  fits = λ limits p fits. (fits.1.0.0, around_relu limits room p.1.0 deep long fits.1.0.1);
  spelled = λ p. refl;
  back = λ limits other x y same fits follows equal.
      let found : Goes (Word Relu) other x y = goes (Word Relu) other x y fits.0 equal in
      record {
        tree = (tt, (found.0, tt));
        fits = (tt, ((found.2, inside_relu limits room found.0 (subst (Within limits room) found.1 fits.1)), tt));
        is = found.1;
        equal = found.3 ∙ ap (λ w. Sign Open ∷ w) (sym (append_assoc (spelling found.0) (Sign Close ∷ []) y));
        follows = tt;
      };
}

-- a stride

abbrev pub Stride3 : Phrase Token (Literal × (Unit {0}))
Stride3 = then literal (exactly (Sign Close ∷ []))

abbrev pub Stride2 : Phrase Token ((Unit {0}) × (Literal × (Unit {0})))
Stride2 = then (exactly (Sign Comma ∷ [])) Stride3

abbrev pub Stride1 : Phrase Token (List ℕ × ((Unit {0}) × (Literal × (Unit {0}))))
Stride1 = then name Stride2

abbrev pub Stride0 : Phrase Token ((Unit {0}) × (List ℕ × ((Unit {0}) × (Literal × (Unit {0})))))
Stride0 = then (exactly (Sign Open ∷ [])) Stride1

pub stride3 : Joint literal (exactly (Sign Close ∷ []))
stride3 = record { may = record { may = λ limits q y fits follows. tt }; some = tt; fits = λ limits. tt }

pub stride2 : Joint (exactly (Sign Comma ∷ [])) Stride3
stride2 = record { may = record { may = λ limits q y fits follows. tt }; some = (Value 0, tt); fits = λ limits. (keeps_all limits tt tt tt, tt) }

pub stride1 : Joint name Stride2
stride1 = record { may = record { may = λ limits q y fits follows. tt }; some = (tt, (Value 0, tt)); fits = λ limits. (tt, (keeps_all limits tt tt tt, tt)) }

no_bytes : IsShortName []
no_bytes = omega arith

pub stride0 : Joint (exactly (Sign Open ∷ [])) Stride1
stride0 = record { may = record { may = λ limits q y fits follows. tt }; some = ([], (tt, (Value 0, tt))); fits = λ limits. (keeps_all limits tt no_bytes tt, (tt, (keeps_all limits tt tt tt, tt))) }

pub step_stride : (room : Room) (after : List Token) → HasPlace room → Step (operand 5 room) Stride0 (λ p. stride p.1.0 p.1.1.1.0) (Word Stride ∷ after) after
step_stride room after place = record {
  front = Word Stride ∷ [];
  split = refl;
  fits = λ limits p fits. (tt, keeps_both limits (λ a b. place.depth) (λ a b. (place.nodes, a)) (λ a b. b) fits.1.0 fits.1.1.1.0);
  spelled = λ p. refl;
  back = λ limits other x y same fits follows equal.
      let found : Goes (Word Stride) other x y = goes (Word Stride) other x y fits.0 equal in
      let within : Within limits room (stride found.0 found.1) = subst (Within limits room) found.2 fits.1 in
      record {
        tree = (tt, (found.0, (tt, (found.1, tt))));
        fits = (tt, (keeps_map limits (λ a. tt) (λ a. a.1) (λ a. tt) within, (tt, (keeps_map limits (λ a. tt) (λ a. tt) (λ a. a) within, tt))));
        is = found.2;
        equal = found.3;
        follows = tt;
      };
}

-- a field

back_field : (limits : Limits) (room : Room) (n : List ℕ) (other : Tree) (x y : List Token) → Within limits room other → Named n other (Sign Dot ∷ x) y → FollowsOperand 5 (first y) → Back name (field n) limits other x y
back_field limits room n other x y within (plain is equal) follows = absurd (subst (λ (w : List Token). FollowsOperand 5 (first w)) (sym equal) follows)
back_field limits room n other x y within (cell ts is stands equal) follows =
    absurd (let e : Some (Sign Dot) ≡ Some (Sign OpenBracket) = ap first equal in cc (e))
back_field limits room n other x y within (dotted f is equal) follows =
    record {
      tree = f;
      fits = keeps_map limits (λ a. tt) (λ a. a.1.1) (λ a. tt) (subst (Within limits room) is within);
      is = is;
      equal = (let e : x ≡ Name f ∷ y = cc (equal) in e);
      follows = tt;
    }

pub step_field : (room : Room) (n : List ℕ) (after : List Token) → HasPlace room → IsShortName n → Step (operand 5 room) name (field n) (Name n ∷ Sign Dot ∷ after) after
step_field room n after place short = record {
  front = Name n ∷ Sign Dot ∷ [];
  split = refl;
  fits = λ limits f fits. (tt, keeps_map limits (λ a. place.depth) (λ a. (place.nodes, (short, a))) (λ a. tt) fits);
  spelled = λ f. refl;
  back = λ limits other x y same fits follows equal. back_field limits room n other x y fits.1 (goes (Name n) other (Sign Dot ∷ x) y fits.0 equal) follows;
}

-- a cell

abbrev pub Cell : ℕ → Phrase Token (List Tree × (Unit {0}))
Cell depth = then (indices depth) (exactly (Sign CloseBracket ∷ []))

pub indices_joint : (depth : ℕ) → Joint (indices depth) (exactly (Sign CloseBracket ∷ []))
indices_joint depth = record { may = record { may = λ limits q y fits follows. refl }; some = tt; fits = λ limits. tt }

back_cell : (limits : Limits) (room : Room) (n : List ℕ) (other : Tree) (x y : List Token) → Within limits room other → Named n other (Sign OpenBracket ∷ x) y → FollowsOperand 5 (first y) → Back (Cell (room.depth - 1)) (λ p. access n (trees p.0)) limits other x y
back_cell limits room n other x y within (plain is equal) follows = absurd (subst (λ (w : List Token). FollowsOperand 5 (first w)) (sym equal) follows)
back_cell limits room n other x y within (dotted f is equal) follows =
    absurd (let e : Some (Sign OpenBracket) ≡ Some (Sign Dot) = ap first equal in cc (e))
back_cell limits room n other x y within (cell ts is stands equal) follows =
    let e : x ≡ spelling_list ts ++ (Sign CloseBracket ∷ y) = cc (equal) in
    record {
      tree = (listed ts, tt);
      fits = (inside_access limits room n ts stands (subst (Within limits room) is within), tt);
      is = is ∙ ap (access n) (sym (trees-listed ts));
      equal = e ∙ ap (λ w. w ++ (Sign CloseBracket ∷ y)) (ap spelling_list (sym (trees-listed ts)) ∙ spelled_list (control_room (room.depth - 1)) (listed ts))
          ∙ sym (append_assoc ((indices (room.depth - 1)).spell (listed ts)) (Sign CloseBracket ∷ []) y);
      follows = tt;
    }

pub step_cell : (room : Room) (n : List ℕ) (after : List Token) → HasPlace room → IsShortName n → 1 < room.depth → Step (operand 5 room) (Cell (room.depth - 1)) (λ p. access n (trees p.0)) (Name n ∷ Sign OpenBracket ∷ after) after
step_cell room n after place short deep = record {
  front = Name n ∷ Sign OpenBracket ∷ [];
  split = refl;
  fits = λ limits p fits. around_access limits room n p.0 short deep place.nodes fits.0;
  spelled = λ p. ap (λ w. Name n ∷ Sign OpenBracket ∷ (w ++ (Sign CloseBracket ∷ []))) (spelled_list (control_room (room.depth - 1)) p.0);
  back = λ limits other x y same fits follows equal. back_cell limits room n other x y fits.1 (goes (Name n) other (Sign OpenBracket ∷ x) y fits.0 equal) follows;
}

not_bracket : (o : Option Token) → Starts o → o ≡ Some (Sign CloseBracket) → ⊥
not_bracket o starts ends = subst Starts ends starts

pub comma_apart : (room : Room) → CommaApart (operand 0 room) (Sign Comma) EndsList
comma_apart room = record {
  comma_goes_on = λ ends. cc (ends);
  comma_follows = tt;
  begins = λ limits t y fits ends. not_bracket (first (spelling t ++ y)) (starts t y) ends;
  last = λ o ends. subst (FollowsOperand 0) (sym ends) tt;
}

-- a choice

abbrev Any : Option Token → Type 0
Any o = Unit {0}

abbrev pub Choice4 : Room → Tree → Tree → Tree → Phrase Token (Tree × (Unit {0}))
Choice4 room a b c = ended_by Close (under (nodes a + nodes b + nodes c + 1) room)

abbrev pub Choice3 : Room → Tree → Tree → Phrase Token ((Tree × (Unit {0})) × (Tree × (Unit {0})))
Choice3 room a b = then_by (ended_by Comma (under (nodes a + nodes b + 2) room)) (λ c. Choice4 room a b c.0) Any

abbrev pub Choice2 : Room → Tree → Phrase Token ((Tree × (Unit {0})) × ((Tree × (Unit {0})) × (Tree × (Unit {0}))))
Choice2 room a = then_by (ended_by Comma (under (nodes a + 3) room)) (λ b. Choice3 room a b.0) Any

abbrev pub Choice1 : Room → Phrase Token ((Tree × (Unit {0})) × ((Tree × (Unit {0})) × ((Tree × (Unit {0})) × (Tree × (Unit {0})))))
Choice1 room = then_by (ended_by Comma (under 4 room)) (λ a. Choice2 room a.0) Any

abbrev pub Choice0 : Room → Phrase Token ((Unit {0}) × ((Tree × (Unit {0})) × ((Tree × (Unit {0})) × ((Tree × (Unit {0})) × (Tree × (Unit {0}))))))
Choice0 room = then (exactly (Sign Open ∷ [])) (Choice1 room)

pub choice0 : (room : Room) → HasPlace (under 4 room) → Joint (exactly (Sign Open ∷ [])) (Choice1 room)
choice0 room place = record {
  may = record { may = λ limits q y fits follows. tt };
  some = ((zero, tt), ((zero, tt), ((zero, tt), (zero, tt))));
  fits = λ limits. (
    (zero_fits limits 0 (under 4 room) place, tt),
    ((zero_fits limits 0 (under 4 room) place, tt), ((zero_fits limits 0 (under 4 room) place, tt), (zero_fits limits 0 (under 4 room) place, tt))),
  );
}

-- literals fit behind what is read

after_one : (limits : Limits) (room : Room) (a : Tree) → (operand 0 (under 4 room)).Fits limits a → (Choice2 room a).Fits limits ((zero, tt), ((zero, tt), (zero, tt)))
after_one limits room a fits = (
  ((tt, zero_beside limits room a 4 (nodes a + 3) (λ few. omega (arith, few, nodes_some a)) fits.1), tt),
  (
    ((tt, zero_beside limits room a 4 (nodes a + 1 + 2) (λ few. omega (arith, few, nodes_some a)) fits.1), tt),
    ((tt, zero_beside limits room a 4 (nodes a + 1 + 1 + 1) (λ few. omega (arith, few, nodes_some a)) fits.1), tt),
  ),
)

after_two : (limits : Limits) (room : Room) (a b : Tree) → (operand 0 (under (nodes a + 3) room)).Fits limits b → (Choice3 room a b).Fits limits ((zero, tt), (zero, tt))
after_two limits room a b fits = (
  ((tt, zero_beside limits room b (nodes a + 3) (nodes a + nodes b + 2) (λ few. omega (arith, few, nodes_some b)) fits.1), tt),
  ((tt, zero_beside limits room b (nodes a + 3) (nodes a + nodes b + 1 + 1) (λ few. omega (arith, few, nodes_some b)) fits.1), tt),
)

after_three : (limits : Limits) (room : Room) (a b c : Tree) → (operand 0 (under (nodes a + nodes b + 2) room)).Fits limits c → (Choice4 room a b c).Fits limits (zero, tt)
after_three limits room a b c fits =
    ((tt, zero_beside limits room c (nodes a + nodes b + 2) (nodes a + nodes b + nodes c + 1) (λ few. omega (arith, few, nodes_some c)) fits.1), tt)

pub choice1 : (room : Room) → JointBy (ended_by Comma (under 4 room)) (λ a. Choice2 room a.0) Any
choice1 room = record {
  may = λ limits t q y fits ends. tt;
  follows = λ t o ends. tt;
  some = ((zero, tt), ((zero, tt), (zero, tt)));
  fits = λ limits a fits. after_one limits room a.0 fits.0;
}

pub choice2 : (room : Room) (a : Tree) → JointBy (ended_by Comma (under (nodes a + 3) room)) (λ b. Choice3 room a b.0) Any
choice2 room a = record {
  may = λ limits t q y fits ends. tt;
  follows = λ t o ends. tt;
  some = ((zero, tt), (zero, tt));
  fits = λ limits b fits. after_two limits room a b.0 fits.0;
}

pub choice3 : (room : Room) (a b : Tree) → JointBy (ended_by Comma (under (nodes a + nodes b + 2) room)) (λ c. Choice4 room a b c.0) Any
choice3 room a b = record {
  may = λ limits t q y fits ends. tt;
  follows = λ t o ends. tt;
  some = (zero, tt);
  fits = λ limits c fits. after_three limits room a b c.0 fits.0;
}

-- the spelling of the arguments, one by one
arguments_of : (a b c d : Tree) → spelling a ++ (Sign Comma ∷ (spelling b ++ (Sign Comma ∷ (spelling c ++ (Sign Comma ∷ (spelling d ++ (Sign Close ∷ []))))))) ≡ (spelling a ++ (Sign Comma ∷ [])) ++ ((spelling b ++ (Sign Comma ∷ [])) ++ ((spelling c ++ (Sign Comma ∷ [])) ++ (spelling d ++ (Sign Close ∷ []))))
arguments_of a b c d =
    sym (append_assoc (spelling a) (Sign Comma ∷ []) (spelling b ++ (Sign Comma ∷ (spelling c ++ (Sign Comma ∷ (spelling d ++ (Sign Close ∷ [])))))))
    ∙ ap (λ w. (spelling a ++ (Sign Comma ∷ [])) ++ w)
    (sym (append_assoc (spelling b) (Sign Comma ∷ []) (spelling c ++ (Sign Comma ∷ (spelling d ++ (Sign Close ∷ [])))))
    ∙ ap (λ w. (spelling b ++ (Sign Comma ∷ [])) ++ w) (sym (append_assoc (spelling c) (Sign Comma ∷ []) (spelling d ++ (Sign Close ∷ [])))))

around_select : (limits : Limits) (room : Room) (a b c d : Tree) → 1 < room.depth → Within limits (under 4 room) a → Within limits (under (nodes a + 3) room) b → Within limits (under (nodes a + nodes b + 2) room) c → Within limits (under (nodes a + nodes b + nodes c + 1) room) d → Within limits room (select a b c d)
around_select limits room a b c d deep wa wb wc wd =
    keeps_both limits
    {E = (depth c ≤ room.depth - 1) × (depth d ≤ room.depth - 1)}
    {M = (nodes d ≤ room.nodes - (nodes a + nodes b + nodes c + 1)) × IsShort c × IsShort d}
    {R = IsSmall c × IsSmall d}
    (λ l r. (let most : max (max (depth a) (depth b)) (max (depth c) (depth d)) ≤ room.depth - 1 = max-le (max-le l.0 l.1) (max-le r.0 r.1) in omega (arith, most, deep)))
    (λ l r. (omega (arith, r.0, nodes_some d), (l.0, l.1, r.1, r.2)))
    (λ l r. (l.0, l.1, r.0, r.1))
    (keeps_both limits {F = (depth a ≤ room.depth - 1) × (depth b ≤ room.depth - 1)} {N = IsShort a × IsShort b} {Q = IsSmall a × IsSmall b} (λ l r. (l, r)) (λ l r. (l.1, r.1)) (λ l r. (l, r)) wa wb)
    (keeps_both limits {F = (depth c ≤ room.depth - 1) × (depth d ≤ room.depth - 1)} {N = (nodes d ≤ room.nodes - (nodes a + nodes b + nodes c + 1)) × IsShort c × IsShort d} {Q = IsSmall c × IsSmall d} (λ l r. (l, r)) (λ l r. (r.0, l.1, r.1)) (λ l r. (l, r)) wc wd)

inside_select : (limits : Limits) (room : Room) (a b c d t : Tree) (taken : ℕ) → depth t ≤ max (max (depth a) (depth b)) (max (depth c) (depth d)) → (suc (nodes a + nodes b + nodes c + nodes d) ≤ room.nodes → nodes t ≤ room.nodes - taken) → (IsShort (select a b c d) → IsShort t) → (IsSmall (select a b c d) → IsSmall t) → Within limits room (select a b c d) → Within limits (under taken room) t
inside_select limits room a b c d t taken deep few short small within =
    keeps_map limits {E = depth t ≤ room.depth - 1} (λ w. omega (arith, w, deep)) (λ w. (few w.0, short w.1)) (λ w. small w) within

pub step_select : (room : Room) (after : List Token) → 1 < room.depth → Step (operand 5 room) (Choice0 room) (λ p. select p.1.0.0 p.1.1.0.0 p.1.1.1.0.0 p.1.1.1.1.0) (Word Select ∷ after) after
step_select room after deep = record {
  front = Word Select ∷ [];
  split = refl;
  fits = λ limits p f. (
    (f.1.0.0.0, f.1.1.0.0.0, f.1.1.1.0.0.0, f.1.1.1.1.0.0),
    around_select limits room p.1.0.0 p.1.1.0.0 p.1.1.1.0.0 p.1.1.1.1.0 deep f.1.0.0.1 f.1.1.0.0.1 f.1.1.1.0.0.1 f.1.1.1.1.0.1,
  );
  spelled = λ p. ap (λ w. Word Select ∷ Sign Open ∷ w) (arguments_of p.1.0.0 p.1.1.0.0 p.1.1.1.0.0 p.1.1.1.1.0);
  back = λ limits other x y same fits follows equal.
      let found : Goes (Word Select) other x y = goes (Word Select) other x y fits.0 equal in
      let a : Tree = found.0 in
      let b : Tree = found.1 in
      let c : Tree = found.2 in
      let d : Tree = found.3 in
      let within : Within limits room (select a b c d) = subst (Within limits room) found.4 fits.1 in
      let left : max (depth a) (depth b) ≤ max (max (depth a) (depth b)) (max (depth c) (depth d)) = le-max_left (max (depth a) (depth b)) (max (depth c) (depth d)) in
      let right : max (depth c) (depth d) ≤ max (max (depth a) (depth b)) (max (depth c) (depth d)) = le-max_right (max (depth a) (depth b)) (max (depth c) (depth d)) in
      record {
        tree = (tt, ((a, tt), ((b, tt), ((c, tt), (d, tt)))));
        fits = (
          tt,
          (
            ((found.5.0, inside_select limits room a b c d a 4 (omega (arith, left, le-max_left (depth a) (depth b))) (λ w. omega (arith, w, nodes_some b, nodes_some c, nodes_some d)) (λ w. w.0) (λ w. w.0) within), tt),
            (
              ((found.5.1, inside_select limits room a b c d b (nodes a + 3) (omega (arith, left, le-max_right (depth a) (depth b))) (λ w. omega (arith, w, nodes_some c, nodes_some d)) (λ w. w.1) (λ w. w.1) within), tt),
              (
                ((found.5.2, inside_select limits room a b c d c (nodes a + nodes b + 2) (omega (arith, right, le-max_left (depth c) (depth d))) (λ w. omega (arith, w, nodes_some d)) (λ w. w.2) (λ w. w.2) within), tt),
                ((found.5.3, inside_select limits room a b c d d (nodes a + nodes b + nodes c + 1) (omega (arith, right, le-max_right (depth c) (depth d))) (λ w. omega (arith, w)) (λ w. w.3) (λ w. w.3) within), tt),
              ),
            ),
          ),
        );
        is = found.4;
        equal = found.6 ∙ ap (λ w. Sign Open ∷ w) (sym (four a b c d y) ∙ ap (λ w. w ++ y) (arguments_of a b c d));
        follows = tt;
      };
}
