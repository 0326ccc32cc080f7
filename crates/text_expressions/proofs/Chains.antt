-- Operands with operators of one level between them, read from the left.
use Rattle.std.proofs.Common.{◌≡◌, ℕ, suc, ◌+◌, ◌-◌, ◌<◌, ◌≤◌, max, List, [], ◌∷◌, ◌++◌, Option, Some, length, refl, sym, ap, ◌∙◌, append_assoc, subst, arith, inl, inr}
use Rattle.std.proofs.lemmas.List.{append_cancel_left, append-nil}
use Rattle.std.proofs.Math.Nat.{eq-or-lt_of_le}
use Rattle.text_phrases.specs.Limits.{Limits, unlimited, in_depth, in_length, Cause, too_deep, too_long, passed}
use Rattle.text_phrases.specs.Phrase.{first, Taken, GoesOn, Refused}
use Rattle.text_phrases.proofs.Phrases.{goes_along}
use Rattle.text_expressions.specs.Expression.{Tree, number, truth, variable, access, field, stride, relu, select, negative, parens, binary, level_of, left_level, sign, Stands, spelling, FollowsOperand, operand, Within, depth, nodes, NoSign}
use Rattle.text_expressions.specs.Rooms.{Right}
use Rattle.text_lexer.specs.declared.token.Literal.TheVariants.{Value}
use Rattle.text_expressions.specs.Chain.{Link, with_links, LinksAt, Extends, Begun}
use Rattle.text_expressions.specs.declared.source.Infix.{Infix}
use Rattle.text_lexer.specs.declared.token.Token.{Token}
use Rattle.text_expressions.specs.declared.expression.Room.{Room}
use Rattle.text_expressions.proofs.Signs.{left_low, compared_left, sign_same, follows_sign, sign_follows, follows_weaker}
use Rattle.text_expressions.proofs.Sizes.{within_front, right_within, within_binary, depth_some, nodes_some}
use Rattle.std.proofs.Math.Nat.{le-max_left, max-le}

abbrev pub spelling_links : List Link → List Token
spelling_links [] = []
spelling_links (l ∷ links) = sign l.operator ∷ (spelling l.right ++ spelling_links links)

pub spelling-with_links : (left : Tree) (links : List Link) → spelling (with_links left links) ≡ spelling left ++ spelling_links links
spelling-with_links left [] = sym (append-nil (spelling left))
spelling-with_links left (l ∷ links) =
    spelling-with_links (binary l.operator left l.right) links ∙ append_assoc (spelling left) (sign l.operator ∷ spelling l.right) (spelling_links links)

pub with_links-snoc : (left : Tree) (links : List Link) (l : Link) → with_links left (links ++ (l ∷ [])) ≡ binary l.operator (with_links left links) l.right
with_links-snoc left [] l = refl
with_links-snoc left (m ∷ links) l = with_links-snoc (binary m.operator left m.right) links l

pub links_snoc : (level : ℕ) (links : List Link) (l : Link) → LinksAt level links → level_of l.operator ≡ level → Stands (suc level) l.right → LinksAt level (links ++ (l ∷ []))
links_snoc level [] l all here stands = (here, stands, tt)
links_snoc level (m ∷ links) l all here stands = (all.0, all.1, links_snoc level links l all.2 here stands)

-- a tighter operand stands in a looser place
pub stands_weaker : (low high : ℕ) (t : Tree) → low ≤ high → Stands high t → Stands low t
stands_weaker low high (number n) le stands = tt
stands_weaker low high (truth b) le stands = tt
stands_weaker low high (variable n) le stands = tt
stands_weaker low high (access x i) le stands = stands
stands_weaker low high (field x f) le stands = tt
stands_weaker low high (stride x n) le stands = tt
stands_weaker low high (relu i) le stands = stands
stands_weaker low high (select a b c d) le stands = stands
stands_weaker low high (negative i) le stands = stands
stands_weaker low high (parens i) le stands = stands
stands_weaker low high (binary o l r) le stands = (omega arith, stands.1, stands.2)

-- an operand is one of the next level, and then links
pub record Chain (level : ℕ) (t : Tree) : Type 0 where
  pub head : Tree
  pub links : List Link
  pub stands : Stands (suc level) head
  pub at : LinksAt level links
  pub is : t ≡ with_links head links

pub chain_of : (level : ℕ) (t : Tree) → Stands level t → Chain level t
chain_of level (number n) stands = record { head = number n; links = []; stands = tt; at = tt; is = refl }
chain_of level (truth b) stands = record { head = truth b; links = []; stands = tt; at = tt; is = refl }
chain_of level (variable n) stands = record { head = variable n; links = []; stands = tt; at = tt; is = refl }
chain_of level (access x i) stands = record { head = access x i; links = []; stands = stands; at = tt; is = refl }
chain_of level (field x f) stands = record { head = field x f; links = []; stands = tt; at = tt; is = refl }
chain_of level (stride x n) stands = record { head = stride x n; links = []; stands = tt; at = tt; is = refl }
chain_of level (relu i) stands = record { head = relu i; links = []; stands = stands; at = tt; is = refl }
chain_of level (select a b c d) stands = record { head = select a b c d; links = []; stands = stands; at = tt; is = refl }
chain_of level (negative i) stands = record { head = negative i; links = []; stands = stands; at = tt; is = refl }
chain_of level (parens i) stands = record { head = parens i; links = []; stands = stands; at = tt; is = refl }
chain_of level (binary o l r) stands =
    elim (eq-or-lt_of_le stands.0) as (λ _. Chain level (binary o l r)) [
      | inl same ↦
          (let here : level_of o ≡ level = sym same in
          let inner : Chain level l = chain_of level l (stands_weaker level (left_level o) l (omega (arith, left_low o)) stands.1) in
          let last : Link = record { operator = o; right = r } in
          record {
            head = inner.head;
            links = inner.links ++ (last ∷ []);
            stands = inner.stands;
            at = links_snoc level inner.links last inner.at here (subst (λ (k : ℕ). Stands (suc k) r) here stands.2);
            is = ap (λ x. binary o x r) inner.is ∙ sym (with_links-snoc inner.head inner.links last);
          })
      | inr above ↦ record { head = binary o l r; links = []; stands = (above, stands.1, stands.2); at = tt; is = refl }
    ]

-- behind an operand of the next level stand links and what follows
pub follows_links : (level : ℕ) (links : List Link) (y : List Token) → LinksAt level links → FollowsOperand level (first y) → FollowsOperand (suc level) (first (spelling_links links ++ y))
follows_links level [] y all follows = follows_weaker level (first y) follows
follows_links level (l ∷ links) y all follows = follows_sign (suc level) l.operator (omega (arith, all.0))

pub links_equal : (left : Tree) (links : List Link) (other : Tree) (x y : List Token) → other ≡ with_links left links → spelling left ++ x ≡ spelling other ++ y → x ≡ spelling_links links ++ y
links_equal left links other x y is equal =
    append_cancel_left (spelling left) x (spelling_links links ++ y)
    (equal ∙ ap (λ t. spelling t ++ y) is ∙ ap (λ s. s ++ y) (spelling-with_links left links) ∙ append_assoc (spelling left) (spelling_links links) y)

pub begun_of_taken : (level : ℕ) (room : Room) (tokens : List Token) (t : Tree) (rest : List Token) → Taken (operand (suc level) room) tokens t rest → Begun level room tokens t rest
begun_of_taken level room tokens t rest taken = record {
  fits = λ limits. (stands_weaker level (suc level) t (omega arith) (taken.fits limits).0, (taken.fits limits).1);
  whole = taken.whole;
  only = λ limits other x y same fits follows equal.
      let chain : Chain level other = chain_of level other fits.0 in
      let e : spelling t ++ x ≡ spelling chain.head ++ (spelling_links chain.links ++ y) =
      equal ∙ ap (λ s. spelling s ++ y) chain.is ∙ ap (λ s. s ++ y) (spelling-with_links chain.head chain.links) ∙ append_assoc (spelling chain.head) (spelling_links chain.links) y in
      let head : chain.head ≡ t = taken.only limits chain.head x (spelling_links chain.links ++ y) same (chain.stands, within_front limits room chain.head other chain.links chain.is fits.1) (follows_links level chain.links y chain.at follows) e in
      record { links = chain.links; at = chain.at; is = chain.is ∙ ap (λ h. with_links h chain.links) head };
}

no_links : (level : ℕ) (left : Tree) (rest : List Token) (other : Tree) (x y : List Token) → NoSign level rest → first rest ≡ first x → (links : List Link) → LinksAt level links → other ≡ with_links left links → x ≡ spelling_links links ++ y → other ≡ left
no_links level left rest other x y none same [] at is equal = is
no_links level left rest other x y none same (l ∷ links) at is equal = absurd (none l.operator (same ∙ ap first equal) at.0)

pub taken_of_begun : (level : ℕ) (room : Room) (tokens : List Token) (left : Tree) (rest : List Token) → Begun level room tokens left rest → NoSign level rest → Taken (operand level room) tokens left rest
taken_of_begun level room tokens left rest begun none = record {
  fits = begun.fits;
  whole = begun.whole;
  only = λ limits other x y same fits follows equal.
      let extends : Extends level left other = begun.only limits other x y same fits follows equal in
      no_links level left rest other x y none same extends.links extends.at extends.is (links_equal left extends.links other x y extends.is equal);
}

-- after an operator of the level, what was read goes on by a link with that operator
pub record Linked (level : ℕ) (left other : Tree) (operator : Infix) (x y : List Token) : Type 0 where
  pub right : Tree
  pub links : List Link
  pub stands : Stands (suc level) right
  pub at : LinksAt level links
  pub is : other ≡ with_links (binary operator left right) links
  pub equal : x ≡ spelling right ++ (spelling_links links ++ y)

linked_by : (level : ℕ) (left other : Tree) (operator : Infix) (x y : List Token) → level_of operator ≡ level → FollowsOperand level (first y) → (links : List Link) → LinksAt level links → other ≡ with_links left links → sign operator ∷ x ≡ spelling_links links ++ y → Linked level left other operator x y
linked_by level left other operator x y here follows [] at is equal =
    absurd (let h : level_of operator < level = sign_follows level operator (subst (λ (o : Option Token). FollowsOperand level o) (sym (ap first equal)) follows) in omega (arith, h))
linked_by level left other operator x y here follows (l ∷ links) at is equal =
    let token : sign l.operator ≡ sign operator = cc in
    let same : l.operator ≡ operator = sign_same l.operator operator token in
    record {
      right = l.right;
      links = links;
      stands = at.1;
      at = at.2;
      is = is ∙ ap (λ o. with_links (binary o left l.right) links) same;
      equal = (let tails : x ≡ (spelling l.right ++ spelling_links links) ++ y = cc in tails ∙ append_assoc (spelling l.right) (spelling_links links) y);
    }

pub linked : (limits : Limits) (level : ℕ) (room : Room) (tokens : List Token) (left other : Tree) (rest x y : List Token) (operator : Infix) → Begun level room tokens left rest → first rest ≡ Some (sign operator) → level_of operator ≡ level → (operand level room).Fits limits other → FollowsOperand level (first y) → spelling left ++ (sign operator ∷ x) ≡ spelling other ++ y → Linked level left other operator x y
linked limits level room tokens left other rest x y operator begun here_sign here fits follows equal =
    let extends : Extends level left other = begun.only limits other (sign operator ∷ x) y here_sign fits follows equal in
    linked_by level left other operator x y here follows extends.links extends.at extends.is (links_equal left extends.links other (sign operator ∷ x) y extends.is equal)

pub begun_next : (level : ℕ) (room inner : Room) (tokens : List Token) (left : Tree) (after : List Token) (operator : Infix) (right : Tree) (rest : List Token) → Begun level room tokens left (sign operator ∷ after) → level_of operator ≡ level → Stands (left_level operator) left → Right room inner left → Taken (operand (suc level) inner) after right rest → Begun level room tokens (binary operator left right) rest
begun_next level room inner tokens left after operator right rest begun here ready rights taken = record {
  fits = λ limits. ((omega arith, ready, subst (λ (k : ℕ). Stands (suc k) right) (sym here) (taken.fits limits).0), within_binary limits room inner operator left right rights (begun.fits limits).1 (taken.fits limits).1);
  whole = begun.whole ∙ ap (λ s. spelling left ++ (sign operator ∷ s)) taken.whole ∙ sym (append_assoc (spelling left) (sign operator ∷ spelling right) rest);
  only = λ limits other x y same fits follows equal.
      let shifted : spelling left ++ (sign operator ∷ (spelling right ++ x)) ≡ spelling other ++ y = sym (append_assoc (spelling left) (sign operator ∷ spelling right) x) ∙ equal in
      let link : Linked level left other operator (spelling right ++ x) y = linked limits level room tokens left other (sign operator ∷ after) (spelling right ++ x) y operator begun refl here fits follows shifted in
      let within : Within limits inner link.right = subst (λ (r : Room). Within limits r link.right) (sym rights.is) (right_within limits room operator left link.right other link.links link.is fits.1) in
      let alike : link.right ≡ right = taken.only limits link.right x (spelling_links link.links ++ y) same (link.stands, within) (follows_links level link.links y link.at follows) link.equal in
      record { links = link.links; at = link.at; is = link.is ∙ ap (λ r. with_links (binary operator left r) link.links) alike };
}

fits_binary : (limits : Limits) (level : ℕ) (room inner : Room) (left right : Tree) (operator : Infix) → level_of operator ≡ level → Stands (left_level operator) left → Right room inner left → Within limits room left → (operand (suc level) inner).Fits limits right → (operand level room).Fits limits (binary operator left right)
fits_binary limits level room inner left right operator here ready rights within fits =
    ((omega arith, ready, subst (λ (k : ℕ). Stands (suc k) right) (sym here) fits.0), within_binary limits room inner operator left right rights within fits.1)

pub refused_right : (level : ℕ) (room inner : Room) (tokens : List Token) (left : Tree) (after : List Token) (operator : Infix) {cause : Cause} (last : ℕ) → Begun level room tokens left (sign operator ∷ after) → level_of operator ≡ level → Stands (left_level operator) left → Right room inner left → Refused (operand (suc level) inner) cause after last → Refused (operand level room) cause tokens last
refused_right level room inner tokens left after operator {cause = cause} last begun here ready rights refused = record {
  before = spelling left ++ (sign operator ∷ refused.before);
  rest = refused.rest;
  whole = begun.whole ∙ ap (λ s. spelling left ++ (sign operator ∷ s)) refused.whole ∙ sym (append_assoc (spelling left) (sign operator ∷ refused.before) refused.rest);
  count = refused.count;
  begins = record {
    tree = binary operator left refused.begins.tree;
    more = refused.begins.more;
    fits = λ limits. fits_binary limits level room inner left refused.begins.tree operator here ready rights (begun.fits limits).1 (refused.begins.fits limits);
    spelled = append_assoc (spelling left) (sign operator ∷ refused.before) refused.begins.more ∙ ap (λ s. spelling left ++ (sign operator ∷ s)) refused.begins.spelled;
  };
  goes = goes_along (operand (suc level) inner) (operand level room) cause refused.before refused.rest (spelling left ++ (sign operator ∷ refused.before)) refused.rest
      (λ limits on. record {
        tree = binary operator left on.tree;
        token = on.token;
        more = on.more;
        next = on.next;
        fits = fits_binary limits level room inner left on.tree operator here ready rights (begun.fits limits).1 on.fits;
        spelled = append_assoc (spelling left) (sign operator ∷ refused.before) (on.token ∷ on.more) ∙ ap (λ s. spelling left ++ (sign operator ∷ s)) on.spelled;
      }) refused.goes;
  stuck = λ other x y same fits follows equal.
      let shifted : spelling left ++ (sign operator ∷ (refused.before ++ x)) ≡ spelling other ++ y = sym (append_assoc (spelling left) (sign operator ∷ refused.before) x) ∙ equal in
      let link : Linked level left other operator (refused.before ++ x) y = linked (passed cause) level room tokens left other (sign operator ∷ after) (refused.before ++ x) y operator begun refl here fits follows shifted in
      let within : Within (passed cause) inner link.right = subst (λ (r : Room). Within (passed cause) r link.right) (sym rights.is) (right_within (passed cause) room operator left link.right other link.links link.is fits.1) in
      refused.stuck link.right x (spelling_links link.links ++ y) same (link.stands, within) (follows_links level link.links y link.at follows) link.equal;
}

-- no tree within the limits goes on with the operator
no_link : (limits : Limits) (level : ℕ) (room : Room) (left other : Tree) (operator : Infix) (x y : List Token) → level_of operator ≡ level → ((l : Link) → Within limits room (binary l.operator left l.right) → ⊥) → Within limits room other → FollowsOperand level (first y) → Some (sign operator) ≡ first x → (links : List Link) → other ≡ with_links left links → x ≡ spelling_links links ++ y → ⊥
no_link limits level room left other operator x y here full within follows head [] is equal =
    let h : level_of operator < level = sign_follows level operator (subst (λ (o : Option Token). FollowsOperand level o) (ap first (sym equal) ∙ sym head) follows) in omega (arith, h)
no_link limits level room left other operator x y here full within follows head (l ∷ links) is equal =
    full l (within_front limits room (binary l.operator left l.right) other links is within)

stuck_operator : (limits : Limits) (level : ℕ) (room : Room) (tokens : List Token) (left : Tree) (after : List Token) (operator : Infix) → Begun level room tokens left (sign operator ∷ after) → level_of operator ≡ level → ((l : Link) → Within limits room (binary l.operator left l.right) → ⊥) → (other : Tree) (x y : List Token) → Some (sign operator) ≡ first x → (operand level room).Fits limits other → FollowsOperand level (first y) → spelling left ++ x ≡ spelling other ++ y → ⊥
stuck_operator limits level room tokens left after operator begun here full other x y same fits follows equal =
    let extends : Extends level left other = begun.only limits other x y same fits follows equal in
    no_link limits level room left other operator x y here full fits.1 follows same extends.links extends.is (links_equal left extends.links other x y extends.is equal)

-- the operator with a literal at its right
goes_operator : (limits : Limits) (level : ℕ) (room : Room) (left : Tree) (after : List Token) (operator : Infix) → level_of operator ≡ level → Stands (left_level operator) left → Within limits room (binary operator left (number (Value 0))) → GoesOn (operand level room) limits (spelling left) (sign operator ∷ after)
goes_operator limits level room left after operator here ready within = record {
  tree = binary operator left (number (Value 0));
  token = sign operator;
  more = spelling (number (Value 0));
  next = refl;
  fits = ((omega arith, ready, tt), within);
  spelled = refl;
}

-- the left side is as deep as the room
pub deep_operator : (level : ℕ) (room : Room) (tokens : List Token) (left : Tree) (after : List Token) (operator : Infix) → Begun level room tokens left (sign operator ∷ after) → level_of operator ≡ level → Stands (left_level operator) left → room.depth ≤ depth left → Refused (operand level room) too_deep tokens (length (sign operator ∷ after))
deep_operator level room tokens left after operator begun here ready deep = record {
  before = spelling left;
  rest = sign operator ∷ after;
  whole = begun.whole;
  count = refl;
  begins = record { tree = left; more = []; fits = begun.fits; spelled = append-nil (spelling left) };
  goes = goes_operator unlimited level room left after operator here ready tt;
  stuck = λ other x y same fits follows equal.
      stuck_operator in_depth level room tokens left after operator begun here (λ l within. omega (arith, within, le-max_left (depth left) (depth l.right))) other x y same fits follows equal;
}

-- the left side leaves no node for a right one
pub long_operator : (level : ℕ) (room : Room) (tokens : List Token) (left : Tree) (after : List Token) (operator : Infix) → Begun level room tokens left (sign operator ∷ after) → level_of operator ≡ level → Stands (left_level operator) left → depth left < room.depth → room.nodes ≤ nodes left + 1 → Refused (operand level room) too_long tokens (length (sign operator ∷ after))
long_operator level room tokens left after operator begun here ready shallow long = record {
  before = spelling left;
  rest = sign operator ∷ after;
  whole = begun.whole;
  count = refl;
  begins = record { tree = left; more = []; fits = begun.fits; spelled = append-nil (spelling left) };
  goes = goes_operator in_depth level room left after operator here ready
      (let deeper : max (depth left) 1 ≤ room.depth - 1 = max-le (omega (arith, shallow)) (omega (arith, shallow, depth_some left)) in omega (arith, deeper, shallow));
  stuck = λ other x y same fits follows equal.
      stuck_operator in_length level room tokens left after operator begun here (λ l within. omega (arith, within.1.0, nodes_some l.right)) other x y same fits follows equal;
}

pub refused_first : (level : ℕ) (room : Room) (tokens : List Token) {cause : Cause} (last : ℕ) → Refused (operand (suc level) room) cause tokens last → Refused (operand level room) cause tokens last
refused_first level room tokens {cause = cause} last refused = record {
  before = refused.before;
  rest = refused.rest;
  whole = refused.whole;
  count = refused.count;
  begins = record {
    tree = refused.begins.tree;
    more = refused.begins.more;
    fits = λ limits. (stands_weaker level (suc level) refused.begins.tree (omega arith) (refused.begins.fits limits).0, (refused.begins.fits limits).1);
    spelled = refused.begins.spelled;
  };
  goes = goes_along (operand (suc level) room) (operand level room) cause refused.before refused.rest refused.before refused.rest
      (λ limits on. record { tree = on.tree; token = on.token; more = on.more; next = on.next; fits = (stands_weaker level (suc level) on.tree (omega arith) on.fits.0, on.fits.1); spelled = on.spelled }) refused.goes;
  stuck = λ other x y same fits follows equal.
      let chain : Chain level other = chain_of level other fits.0 in
      let e : refused.before ++ x ≡ spelling chain.head ++ (spelling_links chain.links ++ y) =
      equal ∙ ap (λ s. spelling s ++ y) chain.is ∙ ap (λ s. s ++ y) (spelling-with_links chain.head chain.links) ∙ append_assoc (spelling chain.head) (spelling_links chain.links) y in
      refused.stuck chain.head x (spelling_links chain.links ++ y) same (chain.stands, within_front (passed cause) room chain.head other chain.links chain.is fits.1) (follows_links level chain.links y chain.at follows) e;
}

-- the front of a chain stands where the chain does
stands_front : (level : ℕ) (left : Tree) (links : List Link) → LinksAt level links → Stands level (with_links left links) → Stands level left
stands_front level left [] at stands = stands
stands_front level left (l ∷ links) at stands =
    let inner : Stands level (binary l.operator left l.right) = stands_front level (binary l.operator left l.right) links at.2 stands in
    stands_weaker level (left_level l.operator) left (omega (arith, left_low l.operator)) inner.1

-- a comparison takes no further link
one_comparison : (operator : Infix) (left right other : Tree) (links : List Link) → level_of operator ≡ 2 → Stands 2 other → LinksAt 2 links → other ≡ with_links (binary operator left right) links → other ≡ binary operator left right
one_comparison operator left right other [] here stands at is = is
one_comparison operator left right other (l ∷ links) here stands at is =
    let inner : Stands 2 (binary l.operator (binary operator left right) l.right) =
    stands_front 2 (binary l.operator (binary operator left right) l.right) links at.2 (subst (Stands 2) is stands) in
    let tight : Stands 3 (binary operator left right) = subst (λ (k : ℕ). Stands k (binary operator left right)) (compared_left l.operator at.0) inner.1 in
    absurd (omega (arith, tight.0))

pub taken_compared : (room : Room) (tokens : List Token) (operator : Infix) (left right : Tree) (rest : List Token) → level_of operator ≡ 2 → Begun 2 room tokens (binary operator left right) rest → Taken (operand 2 room) tokens (binary operator left right) rest
taken_compared room tokens operator left right rest here begun = record {
  fits = begun.fits;
  whole = begun.whole;
  only = λ limits other x y same fits follows equal.
      let extends : Extends 2 (binary operator left right) other = begun.only limits other x y same fits follows equal in
      one_comparison operator left right other extends.links here fits.0 extends.at extends.is;
}
