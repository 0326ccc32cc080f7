-- The returns of the functions that read expressions.
use Rattle.std.proofs.Common.{◌≡◌, ℕ, zero, suc, max, true, false, ◌+◌, ◌-◌, ◌<◌, ◌≤◌, List, [], ◌∷◌, ◌++◌, Some, length, map, refl, sym, ap, ◌∙◌, subst, arith, add-one}
use Rattle.text_phrases.specs.Limits.{in_size, Cause, syntax, too_deep, too_long, too_large}
use Rattle.text_phrases.specs.Phrase.{first, Phrase, Taken, Refused}
use Rattle.text_phrases.specs.Answers.{Refuses}
use Rattle.text_phrases.specs.declared.Refusal.{Refusal}
use Rattle.text_phrases.specs.declared.Refusal.TheVariants.{Memory, Syntax, TooDeep, TooLong, TooLarge}
use Rattle.text_phrases.proofs.Exits.{refuses_along}
use Rattle.text_expressions.specs.Front.Values.{IsShortName}
use Rattle.text_expressions.specs.Expression.{Tree, number, truth, variable, access, binary, operand, ended_by, level_of, left_level, sign, Stands, NoSign, HasPlace, under, depth, deepest, nodes, trees, indices, control_room, FewDimensions, EndsList}
use Rattle.text_expressions.specs.Rooms.{IsFull, Right}
use Rattle.text_expressions.specs.Views.{tree_of, IsMeasured}
use Rattle.text_expressions.specs.Chain.{Begun}
use Rattle.text_expressions.specs.declared.source.Infix.{Infix}
use Rattle.text_expressions.specs.declared.expression.Room.{Room}
use Rattle.text_expressions.specs.declared.expression.Measured.{Measured}
use Rattle.text_lexer.specs.declared.token.Token.{Token}
use Rattle.text_lexer.specs.declared.token.Token.TheVariants.{Int, Name, Word, Sign}
use Rattle.text_lexer.specs.declared.token.Literal.{Literal}
use Rattle.text_lexer.specs.declared.token.Literal.TheVariants.{Value, TooLarge as literal_too_large}
use Rattle.text_lexer.specs.declared.token.Word.{Word as AnyWord}
use Rattle.text_lexer.specs.declared.token.Word.TheVariants as w
use Rattle.text_lexer.specs.declared.token.Sign.{Sign as AnySign}
use Rattle.text_lexer.specs.declared.token.Sign.TheVariants as s
use Rattle.text_expressions.proofs.Signs.{left_same, compared_left}
use Rattle.text_expressions.proofs.Sizes.{nodes_some, depth_some}
use Rattle.text_expressions.proofs.Indices.{deepest-snoc, deepest_of}
use Rattle.text_phrases.specs.Sequence.{exactly}
use Rattle.text_phrases.proofs.Sequences.{step_taken}
use Rattle.text_phrases.proofs.Joints.{whole_err, now, later, both}
use Rattle.text_expressions.proofs.Productions.{comma_apart, Cell, step_cell, indices_joint}
use Rattle.text_phrases.proofs.Commas.{Listed, listed_first, listed_next, listing_done, listing_refused_first, listing_refused, listing_full}
use Rattle.std.proofs.lemmas.List.{length-append, length-map, map-append}
use Rattle.text_expressions.specs.declared.source.SourceExpr.{SourceExpr}
use Rattle.text_expressions.proofs.Chains.{begun_of_taken, begun_next, taken_of_begun, taken_compared, refused_right, refused_first, deep_operator, long_operator}
use Rattle.text_expressions.proofs.Atoms.{Starts, Wide, full_start, full_index, refused_start, refused_number, refused_name, taken_number, taken_true, taken_false, taken_variable}

-- the same tree, the same room, the same tokens

pub renamed : {A T : Type 0} {kind : Phrase A T} {tokens rest : List A} {t u : T} → t ≡ u → Taken kind tokens u rest → Taken kind tokens t rest
renamed {kind = kind} {tokens = tokens} {rest = rest} same taken = subst (λ v. Taken kind tokens v rest) (sym same) taken

pub roomed : {level : ℕ} {room inner : Room} {tokens rest : List Token} {t : Tree} → inner ≡ room → Taken (operand level inner) tokens t rest → Taken (operand level room) tokens t rest
roomed {level = level} {tokens = tokens} {rest = rest} {t = t} same taken = subst (λ (r : Room). Taken (operand level r) tokens t rest) same taken

pub roomed_err : (level : ℕ) (room inner : Room) (tokens : List Token) (e : Refusal) → inner ≡ room → Refuses (operand level inner) tokens e → Refuses (operand level room) tokens e
roomed_err level room inner tokens e same refuses = subst (λ (r : Room). Refuses (operand level r) tokens e) same refuses

pub fronted : {A T : Type 0} {kind : Phrase A T} {tokens front rest : List A} {t : T} → tokens ≡ front → Taken kind front t rest → Taken kind tokens t rest
fronted {kind = kind} {rest = rest} {t = t} same taken = subst (λ w. Taken kind w t rest) (sym same) taken

pub fronted_err : {A T : Type 0} (kind : Phrase A T) (tokens front : List A) (e : Refusal) → tokens ≡ front → Refuses kind front e → Refuses kind tokens e
fronted_err kind tokens front e same refuses = subst (λ w. Refuses kind w e) (sym same) refuses

pub ended : {x : AnySign} {room inner : Room} {tokens rest : List Token} {t : Tree × (Unit {0})} → inner ≡ room → Taken (ended_by x inner) tokens t rest → Taken (ended_by x room) tokens t rest
ended {x = x} {tokens = tokens} {rest = rest} {t = t} same taken = subst (λ (r : Room). Taken (ended_by x r) tokens t rest) same taken

pub ended_err : (x : AnySign) (room inner : Room) (tokens : List Token) (e : Refusal) → inner ≡ room → Refuses (ended_by x inner) tokens e → Refuses (ended_by x room) tokens e
ended_err x room inner tokens e same refuses = subst (λ (r : Room). Refuses (ended_by x r) tokens e) same refuses

-- leaves

pub number_ok : (room : Room) (n : ℕ) (l : Literal) (tokens rest : List Token) (tree : Tree) → HasPlace room → tokens ≡ Int l ∷ rest → l ≡ Value n → tree ≡ number (Value n) → Taken (operand 5 room) tokens tree rest
number_ok room n l tokens rest tree place front is same = rw (front, is, same) (taken_number room n rest place)

pub number_err : (room : Room) (l : Literal) (tokens rest : List Token) → HasPlace room → tokens ≡ Int l ∷ rest → l ≡ literal_too_large → Refused (operand 5 room) too_large tokens (length tokens)
number_err room l tokens rest place front is = rw (front, is) (refused_number room rest place)

pub true_ok : (room : Room) (word : AnyWord) (tokens rest : List Token) (tree : Tree) → HasPlace room → tokens ≡ Word word ∷ rest → word ≡ w.True → tree ≡ truth true → Taken (operand 5 room) tokens tree rest
true_ok room word tokens rest tree place front is same = rw (front, is, same) (taken_true room rest place)

pub false_ok : (room : Room) (word : AnyWord) (tokens rest : List Token) (tree : Tree) → HasPlace room → tokens ≡ Word word ∷ rest → word ≡ w.False → tree ≡ truth false → Taken (operand 5 room) tokens tree rest
false_ok room word tokens rest tree place front is same = rw (front, is, same) (taken_false room rest place)

pub variable_ok : (room : Room) (name copy : List ℕ) (tokens rest : List Token) (tree : Tree) → HasPlace room → tokens ≡ Name name ∷ rest → copy ≡ name → IsShortName name → (first rest ≡ Some (Sign s.Dot) → ⊥) → (first rest ≡ Some (Sign s.OpenBracket) → ⊥) → tree ≡ variable copy → Taken (operand 5 room) tokens tree rest
variable_ok room name copy tokens rest tree place front same short dot bracket is = rw (front, is, same) (taken_variable room name rest place short dot bracket)

pub long_err : (room : Room) (name : List ℕ) (tokens rest : List Token) → HasPlace room → tokens ≡ Name name ∷ rest → (IsShortName name → ⊥) → Refused (operand 5 room) too_long tokens (length tokens)
long_err room name tokens rest place front long = rw front (refused_name room name rest place long)

-- no room is left behind the first token

pub full_front : (room : Room) (t : Token) (tokens after : List Token) (taken : ℕ) (e : Refusal) → HasPlace room → Wide t taken → tokens ≡ t ∷ after → IsFull room 1 taken (length tokens) e → Refuses (operand 5 room) tokens e
full_front room t tokens after taken e place wide front full =
    subst (λ (ts : List Token). Refuses (operand 5 room) ts e) (sym front)
    (full_start room t after taken e place wide (subst (λ (ts : List Token). IsFull room 1 taken (length ts) e) front full))

pub full_cell : (room : Room) (n : List ℕ) (tokens after : List Token) (e : Refusal) → HasPlace room → IsShortName n → tokens ≡ Sign s.OpenBracket ∷ after → IsFull room 1 0 (length tokens) e → Refuses (operand 5 room) (Name n ∷ tokens) e
full_cell room n tokens after e place short front full =
    subst (λ (ts : List Token). Refuses (operand 5 room) (Name n ∷ ts) e) (sym front)
    (full_index room n after e place short (subst (λ (ts : List Token). IsFull room 1 0 (length ts) e) front full))

-- an operand begins with no such token

not_word : (word : AnyWord) → (word ≡ w.True → ⊥) → (word ≡ w.False → ⊥) → (word ≡ w.Stride → ⊥) → (word ≡ w.Relu → ⊥) → (word ≡ w.Select → ⊥) → Starts (Some (Word word)) → ⊥
not_word w.True no_true no_false no_stride no_relu no_select starts = no_true refl
not_word w.False no_true no_false no_stride no_relu no_select starts = no_false refl
not_word w.Stride no_true no_false no_stride no_relu no_select starts = no_stride refl
not_word w.Relu no_true no_false no_stride no_relu no_select starts = no_relu refl
not_word w.Select no_true no_false no_stride no_relu no_select starts = no_select refl
not_word other no_true no_false no_stride no_relu no_select starts = absurd starts

pub word_err : (room : Room) (word : AnyWord) (tokens rest : List Token) → HasPlace room → tokens ≡ Word word ∷ rest → (word ≡ w.True → ⊥) → (word ≡ w.False → ⊥) → (word ≡ w.Stride → ⊥) → (word ≡ w.Relu → ⊥) → (word ≡ w.Select → ⊥) → Refused (operand 5 room) syntax tokens (length tokens)
word_err room word tokens rest place front no_true no_false no_stride no_relu no_select =
    refused_start room tokens place (λ starts. not_word word no_true no_false no_stride no_relu no_select (subst Starts (ap first front) starts))

not_sign : (x : AnySign) → (x ≡ s.Minus → ⊥) → (x ≡ s.Open → ⊥) → Starts (Some (Sign x)) → ⊥
not_sign s.Minus no_minus no_open starts = no_minus refl
not_sign s.Open no_minus no_open starts = no_open refl
not_sign other no_minus no_open starts = absurd starts

pub sign_err : (room : Room) (x : AnySign) (tokens rest : List Token) → HasPlace room → tokens ≡ Sign x ∷ rest → (x ≡ s.Minus → ⊥) → (x ≡ s.Open → ⊥) → Refused (operand 5 room) syntax tokens (length tokens)
sign_err room x tokens rest place front no_minus no_open =
    refused_start room tokens place (λ starts. not_sign x no_minus no_open (subst Starts (ap first front) starts))

not_start : (t : Token) → ((n : Literal) → t ≡ Int n → ⊥) → ((n : List ℕ) → t ≡ Name n → ⊥) → ((x : AnyWord) → t ≡ Word x → ⊥) → ((x : AnySign) → t ≡ Sign x → ⊥) → Starts (Some t) → ⊥
not_start (Int n) int name word sign starts = int n refl
not_start (Name n) int name word sign starts = name n refl
not_start (Word x) int name word sign starts = word x refl
not_start (Sign x) int name word sign starts = sign x refl
not_start other int name word sign starts = absurd starts

pub start_err : (room : Room) (tokens rest : List Token) (t : Token) → HasPlace room → tokens ≡ t ∷ rest → ((n : Literal) → t ≡ Int n → ⊥) → ((n : List ℕ) → t ≡ Name n → ⊥) → ((x : AnyWord) → t ≡ Word x → ⊥) → ((x : AnySign) → t ≡ Sign x → ⊥) → Refused (operand 5 room) syntax tokens (length tokens)
start_err room tokens rest t place front int name word sign =
    refused_start room tokens place (λ starts. not_start t int name word sign (subst Starts (ap first front) starts))

pub end_err : (room : Room) (tokens : List Token) → HasPlace room → tokens ≡ [] → Refused (operand 5 room) syntax tokens 0
end_err room tokens place none = subst (λ (ts : List Token). Refused (operand 5 room) syntax ts 0) (sym none) (refused_start room [] place (λ starts. starts))

-- operators

ready : (o : Infix) (level : ℕ) (left : Tree) → level_of o ≡ level → (level ≡ 2 → ⊥) → Stands level left → Stands (left_level o) left
ready o level left here ne stands = subst (λ (k : ℕ). Stands k left) (sym (left_same o (λ two. ne (sym here ∙ two)) ∙ here)) stands

compared : (o : Infix) (left : Tree) → level_of o ≡ 2 → Stands 3 left → Stands (left_level o) left
compared o left here stands = subst (λ (k : ℕ). Stands k left) (sym (compared_left o here)) stands

full_right : (level : ℕ) (room : Room) (tokens after : List Token) (m : Measured) (operator : Infix) (e : Refusal) → IsMeasured m → Begun level room tokens (tree_of m.tree.value) (sign operator ∷ after) → level_of operator ≡ level → Stands (left_level operator) (tree_of m.tree.value) → IsFull room m.depth (m.nodes + 1) (length (sign operator ∷ after)) e → Refuses (operand level room) tokens e
full_right level room tokens after m operator Memory measured begun here stands full = tt
full_right level room tokens after m operator (Syntax last) measured begun here stands full = absurd full
full_right level room tokens after m operator (TooDeep last) measured begun here stands full =
    subst (Refused (operand level room) too_deep tokens) (sym full.0) (deep_operator level room tokens (tree_of m.tree.value) after operator begun here stands (omega (arith, full.1, measured.depth)))
full_right level room tokens after m operator (TooLong last) measured begun here stands full =
    subst (Refused (operand level room) too_long tokens) (sym full.0) (long_operator level room tokens (tree_of m.tree.value) after operator begun here stands (omega (arith, full.1, measured.depth)) (omega (arith, full.2, measured.nodes)))
full_right level room tokens after m operator (TooLarge last) measured begun here stands full = absurd full

pub full_err : (level : ℕ) (room : Room) (tokens rest after : List Token) (m : Measured) (operator : Infix) (e : Refusal) → IsMeasured m → Begun level room tokens (tree_of m.tree.value) rest → (rest ≡ sign operator ∷ after) × (level_of operator ≡ level) → (level ≡ 2 → ⊥) → IsFull room m.depth (m.nodes + 1) (length rest) e → Refuses (operand level room) tokens e
full_err level room tokens rest after m operator e measured begun here ne full =
    full_right level room tokens after m operator e measured (subst (Begun level room tokens (tree_of m.tree.value)) here.0 begun) here.1 (ready operator level (tree_of m.tree.value) here.1 ne (begun.fits in_size).0)
    (subst (λ (r : List Token). IsFull room m.depth (m.nodes + 1) (length r) e) here.0 full)

pub first_err : (level : ℕ) (room : Room) (tokens : List Token) (e : Refusal) → Refuses (operand (level + 1) room) tokens e → Refuses (operand level room) tokens e
first_err level room tokens e refuses = refuses_along (operand (suc level) room) tokens (operand level room) tokens e (λ cause last refused. refused_first level room tokens last refused) (rw add-one at refuses)

pub begun_first : (level : ℕ) (room : Room) (tokens rest : List Token) (left : Tree) → Taken (operand (level + 1) room) tokens left rest → Begun level room tokens left rest
begun_first level room tokens rest left taken = begun_of_taken level room tokens left rest (rw add-one at taken)

pub chain_err : (level : ℕ) (room inner : Room) (tokens rest after : List Token) (left : Tree) (operator : Infix) (e : Refusal) → Begun level room tokens left rest → (rest ≡ sign operator ∷ after) × (level_of operator ≡ level) → (level ≡ 2 → ⊥) → Right room inner left → Refuses (operand (level + 1) inner) after e → Refuses (operand level room) tokens e
chain_err level room inner tokens rest after left operator e begun here ne right refuses =
    refuses_along (operand (suc level) inner) after (operand level room) tokens e
    (λ cause last refused. refused_right level room inner tokens left after operator last (subst (Begun level room tokens left) here.0 begun) here.1 (ready operator level left here.1 ne (begun.fits in_size).0) right refused)
    (rw add-one at refuses)

pub chain_next : (level : ℕ) (room inner : Room) (tokens rest after behind : List Token) (left right tree : Tree) (operator : Infix) → Begun level room tokens left rest → (rest ≡ sign operator ∷ after) × (level_of operator ≡ level) → (level ≡ 2 → ⊥) → Right room inner left → Taken (operand (level + 1) inner) after right behind → tree ≡ binary operator left right → Begun level room tokens tree behind
chain_next level room inner tokens rest after behind left right tree operator begun here ne room_left taken is =
    rw is (begun_next level room inner tokens left after operator right behind (subst (Begun level room tokens left) here.0 begun) here.1 (ready operator level left here.1 ne (begun.fits in_size).0) room_left (rw add-one at taken))

pub compare_none : (room : Room) (tokens rest : List Token) (left : Tree) → Taken (operand 3 room) tokens left rest → NoSign 2 rest → Taken (operand 2 room) tokens left rest
compare_none room tokens rest left taken none = taken_of_begun 2 room tokens left rest (begun_of_taken 2 room tokens left rest taken) none

pub compare_full : (room : Room) (tokens rest after : List Token) (m : Measured) (operator : Infix) (e : Refusal) → IsMeasured m → Taken (operand 3 room) tokens (tree_of m.tree.value) rest → (rest ≡ sign operator ∷ after) × (level_of operator ≡ 2) → IsFull room m.depth (m.nodes + 1) (length rest) e → Refuses (operand 2 room) tokens e
compare_full room tokens rest after m operator e measured taken here full =
    full_right 2 room tokens after m operator e measured (subst (Begun 2 room tokens (tree_of m.tree.value)) here.0 (begun_of_taken 2 room tokens (tree_of m.tree.value) rest taken)) here.1 (compared operator (tree_of m.tree.value) here.1 (taken.fits in_size).0)
    (subst (λ (r : List Token). IsFull room m.depth (m.nodes + 1) (length r) e) here.0 full)

pub compare_err : (room inner : Room) (tokens rest after : List Token) (left : Tree) (operator : Infix) (e : Refusal) → Taken (operand 3 room) tokens left rest → (rest ≡ sign operator ∷ after) × (level_of operator ≡ 2) → Right room inner left → Refuses (operand 3 inner) after e → Refuses (operand 2 room) tokens e
compare_err room inner tokens rest after left operator e taken here right refuses =
    refuses_along (operand 3 inner) after (operand 2 room) tokens e
    (λ cause last refused. refused_right 2 room inner tokens left after operator last (subst (Begun 2 room tokens left) here.0 (begun_of_taken 2 room tokens left rest taken)) here.1 (compared operator left here.1 (taken.fits in_size).0) right refused)
    refuses

pub compare_ok : (room inner : Room) (tokens rest after behind : List Token) (left right tree : Tree) (operator : Infix) → Taken (operand 3 room) tokens left rest → (rest ≡ sign operator ∷ after) × (level_of operator ≡ 2) → Right room inner left → Taken (operand 3 inner) after right behind → tree ≡ binary operator left right → Taken (operand 2 room) tokens tree behind
compare_ok room inner tokens rest after behind left right tree operator taken here room_left right_taken is =
    rw is (taken_compared room tokens operator left right behind here.1
    (begun_next 2 room inner tokens left after operator right behind (subst (Begun 2 room tokens left) here.0 (begun_of_taken 2 room tokens left rest taken)) here.1 (compared operator left here.1 (taken.fits in_size).0) room_left right_taken))

refused_all : (steps level : ℕ) (room : Room) (tokens : List Token) (cause : Cause) (last : ℕ) → level + steps ≡ 5 → Refused (operand 5 room) cause tokens last → Refused (operand level room) cause tokens last
refused_all zero level room tokens cause last sum refused = subst (λ (k : ℕ). Refused (operand k room) cause tokens last) (let e : 5 ≡ level = omega arith in e) refused
refused_all (suc steps) level room tokens cause last sum refused = refused_first level room tokens last (refused_all steps (suc level) room tokens cause last (omega arith) refused)

pub all_err : (level : ℕ) (room : Room) (tokens : List Token) (e : Refusal) → level ≤ 5 → Refuses (operand 5 room) tokens e → Refuses (operand level room) tokens e
all_err level room tokens e le refuses = refuses_along (operand 5 room) tokens (operand level room) tokens e (λ cause last refused. refused_all (5 - level) level room tokens cause last (omega arith) refused) refuses

-- a tree that was read is as deep as the room at most, and has as many nodes at most

pub deep_of : {level : ℕ} {room : Room} {tokens rest : List Token} {t : Tree} → Taken (operand level room) tokens t rest → depth t ≤ room.depth
deep_of taken = (taken.fits in_size).1.0

pub long_of : {level : ℕ} {room : Room} {tokens rest : List Token} {t : Tree} → Taken (operand level room) tokens t rest → nodes t ≤ room.nodes
long_of taken = (taken.fits in_size).1.1.0

-- what is left of a room where something was read below

pub left_of : {level : ℕ} {inner : Room} {tokens rest : List Token} {t : Tree} (room : Room) (n : ℕ) → inner ≡ under n room → Taken (operand level inner) tokens t rest → nodes t + n ≤ room.nodes
left_of {t = t} room n same taken = omega (arith, long_of (roomed same taken), nodes_some t)

pub deep_left : {level : ℕ} {inner : Room} {tokens rest : List Token} {t : Tree} (room : Room) (n : ℕ) → inner ≡ under n room → Taken (operand level inner) tokens t rest → depth t + 1 ≤ room.depth
deep_left {t = t} room n same taken = omega (arith, deep_of (roomed same taken), depth_some t)

pub ended_left : {x : AnySign} {inner : Room} {tokens rest : List Token} {t : Tree × (Unit {0})} (room : Room) (n : ℕ) → inner ≡ under n room → Taken (ended_by x inner) tokens t rest → nodes t.0 + n ≤ room.nodes
ended_left {t = t} room n same taken = omega (arith, ((ended same taken).fits in_size).0.1.1.0, nodes_some t.0)

pub ended_deep : {x : AnySign} {inner : Room} {tokens rest : List Token} {t : Tree × (Unit {0})} (room : Room) (n : ℕ) → inner ≡ under n room → Taken (ended_by x inner) tokens t rest → depth t.0 + 1 ≤ room.depth
ended_deep {t = t} room n same taken = omega (arith, ((ended same taken).fits in_size).0.1.0, depth_some t.0)

pub place_under : (room inner : Room) (n : ℕ) → inner ≡ under n room → 1 < room.depth → n < room.nodes → HasPlace inner
place_under room inner n same deep long = subst HasPlace (sym same) (record { depth = omega arith; nodes = omega arith })

-- the rooms of the arguments of a choice

pub same_two : (room : Room) (a : ℕ) (t : Tree) → a ≡ nodes t → under (a + 3) room ≡ under (nodes t + 3) room
same_two room a t is = ap (λ k. under (k + 3) room) is

pub same_three : (room : Room) (a b : ℕ) (t u : Tree) → a ≡ nodes t → b ≡ nodes u → under (a + b + 2) room ≡ under (nodes t + nodes u + 2) room
same_three room a b t u is and = ap (λ k. under (k + b + 2) room) is ∙ ap (λ k. under (nodes t + k + 2) room) and

pub same_four : (room : Room) (a b c : ℕ) (t u v : Tree) → a ≡ nodes t → b ≡ nodes u → c ≡ nodes v → under (a + b + c + 1) room ≡ under (nodes t + nodes u + nodes v + 1) room
same_four room a b c t u v is and more = ap (λ k. under (k + b + c + 1) room) is ∙ ap (λ k. under (nodes t + k + c + 1) room) and ∙ ap (λ k. under (nodes t + nodes u + k + 1) room) more

-- lists of indices

control_place : (level : ℕ) → 1 ≤ level → HasPlace (control_room level)
control_place level some = record { depth = some; nodes = omega arith }

pub indices_err_first : (level : ℕ) (tokens : List Token) (e : Refusal) → Refuses (operand 0 (control_room level)) tokens e → Refuses (indices level) tokens e
indices_err_first level tokens e refuses =
    refuses_along (operand 0 (control_room level)) tokens (indices level) tokens e
    (λ cause last refused. listing_refused_first (operand 0 (control_room level)) (Sign s.Comma) FewDimensions EndsList tokens last (comma_apart (control_room level)) (λ t. omega arith) refused) refuses

pub indices_full : (level : ℕ) (tokens rest after : List Token) (items : List SourceExpr) → 1 ≤ level → Listed (operand 0 (control_room level)) (Sign s.Comma) EndsList tokens (map tree_of items) rest → rest ≡ Sign s.Comma ∷ after → length items ≤ 8 → 8 ≤ length items → Refused (indices level) too_long tokens (length rest)
indices_full level tokens rest after items some listed comma few many =
    listing_full (operand 0 (control_room level)) (Sign s.Comma) FewDimensions EndsList tokens rest after (map tree_of items) (number (Value 0)) (comma_apart (control_room level)) listed comma
    (omega (arith, length-map items tree_of, few)) (tt, some)
    (λ t ts short. omega (arith, length-append (map tree_of items) (t ∷ ts), length-map items tree_of, many, short))

pub indices_err : (level : ℕ) (tokens rest after : List Token) (items : List SourceExpr) (e : Refusal) → Listed (operand 0 (control_room level)) (Sign s.Comma) EndsList tokens (map tree_of items) rest → rest ≡ Sign s.Comma ∷ after → length items < 8 → Refuses (operand 0 (control_room level)) after e → Refuses (indices level) tokens e
indices_err level tokens rest after items e listed comma few refuses =
    refuses_along (operand 0 (control_room level)) after (indices level) tokens e
    (λ cause last refused. listing_refused (operand 0 (control_room level)) (Sign s.Comma) FewDimensions EndsList tokens rest after (map tree_of items) last (comma_apart (control_room level)) listed comma
    (λ t. omega (arith, length-append (map tree_of items) (t ∷ []), length-map items tree_of, few)) refused) refuses

pub indices_first : (level : ℕ) (tokens rest : List Token) (item : SourceExpr) → Taken (operand 0 (control_room level)) tokens (tree_of item) rest → Listed (operand 0 (control_room level)) (Sign s.Comma) EndsList tokens (map tree_of (item ∷ [])) rest
indices_first level tokens rest item taken = listed_first (operand 0 (control_room level)) (Sign s.Comma) EndsList tokens rest (tree_of item) taken

pub indices_next : (level : ℕ) (tokens rest after found : List Token) (items : List SourceExpr) (item : SourceExpr) → Listed (operand 0 (control_room level)) (Sign s.Comma) EndsList tokens (map tree_of items) rest → rest ≡ Sign s.Comma ∷ after → Taken (operand 0 (control_room level)) after (tree_of item) found → Listed (operand 0 (control_room level)) (Sign s.Comma) EndsList tokens (map tree_of (items ++ (item ∷ []))) found
indices_next level tokens rest after found items item listed comma taken =
    subst (λ (l : List Tree). Listed (operand 0 (control_room level)) (Sign s.Comma) EndsList tokens l found) (sym (map-append tree_of items (item ∷ [])))
    (listed_next (operand 0 (control_room level)) (Sign s.Comma) EndsList tokens rest after found (map tree_of items) (tree_of item) (comma_apart (control_room level)) listed comma taken)

pub deepest_next : (items : List SourceExpr) (item : SourceExpr) (so_far one : ℕ) → so_far ≡ deepest (trees (map tree_of items)) → one ≡ depth (tree_of item) → max so_far one ≡ deepest (trees (map tree_of (items ++ (item ∷ []))))
deepest_next items item so_far one is and =
    ap (λ k. max k one) is ∙ ap (λ k. max (deepest (trees (map tree_of items))) k) and ∙ sym (deepest-snoc (map tree_of items) (tree_of item))
    ∙ ap (λ l. deepest (trees l)) (sym (map-append tree_of items (item ∷ [])))

pub indices_ok : (level : ℕ) (tokens rest : List Token) (items : List SourceExpr) → Listed (operand 0 (control_room level)) (Sign s.Comma) EndsList tokens (map tree_of items) rest → length items ≤ 8 → (first rest ≡ Some (Sign s.Comma) → ⊥) → Taken (indices level) tokens (map tree_of items) rest
indices_ok level tokens rest items listed few none =
    listing_done (operand 0 (control_room level)) (Sign s.Comma) FewDimensions EndsList tokens rest (map tree_of items) (comma_apart (control_room level)) listed (omega (arith, length-map items tree_of, few)) none

-- the depth of indices that were read
pub deep_indices : {level : ℕ} {tokens rest : List Token} {list : List Tree} → Taken (indices level) tokens list rest → deepest (trees list) ≤ level
deep_indices {level = level} {list = list} taken = deepest_of level list (taken.fits in_size)

-- the room at the right of an operator
pub rights : (room inner : Room) (m : Measured) → IsMeasured m → inner ≡ under (m.nodes + 1) room → m.depth < room.depth → m.nodes + 1 < room.nodes → Right room inner (tree_of m.tree.value) × HasPlace inner
rights room inner m measured same shallow few = (
  record {
    is = same ∙ ap (λ k. under (k + 1) room) measured.nodes;
    shallow = omega (arith, shallow, measured.depth);
    few = omega (arith, few, measured.nodes);
  },
  place_under room inner (m.nodes + 1) same (omega (arith, shallow, measured.depth, depth_some (tree_of m.tree.value))) few,
)

-- cells

pub deep_inside : (room inner : Room) → inner ≡ under 0 room → inner.depth ≡ room.depth - 1
deep_inside room inner same = ap (λ (r : Room). r.depth) same

pub cell_err : (room inner : Room) (n : List ℕ) (tokens after : List Token) (e : Refusal) → HasPlace room → IsShortName n → 1 < room.depth → inner ≡ under 0 room → tokens ≡ Sign s.OpenBracket ∷ after → Refuses (indices inner.depth) after e → Refuses (operand 5 room) (Name n ∷ tokens) e
cell_err room inner n tokens after e place short deep same front refuses =
    subst (λ (ts : List Token). Refuses (operand 5 room) (Name n ∷ ts) e) (sym front)
    (whole_err (operand 5 room) (Cell (room.depth - 1)) (λ p. access n (trees p.0)) (Name n ∷ Sign s.OpenBracket ∷ after) after e (step_cell room n after place short deep)
    (now (indices_joint (room.depth - 1)) after e (subst (λ (r : Room). Refuses (indices r.depth) after e) same refuses)))

pub bracket_err : (room inner : Room) (n : List ℕ) (tokens after found : List Token) (list : List Tree) (e : Refusal) → HasPlace room → IsShortName n → 1 < room.depth → inner ≡ under 0 room → tokens ≡ Sign s.OpenBracket ∷ after → Taken (indices inner.depth) after list found → Refuses (exactly (Sign s.CloseBracket ∷ [])) found e → Refuses (operand 5 room) (Name n ∷ tokens) e
bracket_err room inner n tokens after found list e place short deep same front taken refuses =
    subst (λ (ts : List Token). Refuses (operand 5 room) (Name n ∷ ts) e) (sym front)
    (whole_err (operand 5 room) (Cell (room.depth - 1)) (λ p. access n (trees p.0)) (Name n ∷ Sign s.OpenBracket ∷ after) after e (step_cell room n after place short deep)
    (later (indices_joint (room.depth - 1)) (subst (λ (r : Room). Taken (indices r.depth) after list found) same taken) e refuses))

pub cell_ok : (room inner : Room) (n : List ℕ) (tokens after found rest : List Token) (list : List Tree) → HasPlace room → IsShortName n → 1 < room.depth → inner ≡ under 0 room → tokens ≡ Sign s.OpenBracket ∷ after → Taken (indices inner.depth) after list found → Taken (exactly (Sign s.CloseBracket ∷ [])) found tt rest → Taken (operand 5 room) (Name n ∷ tokens) (access n (trees list)) rest
cell_ok room inner n tokens after found rest list place short deep same front taken close =
    subst (λ (ts : List Token). Taken (operand 5 room) (Name n ∷ ts) (access n (trees list)) rest) (sym front)
    (step_taken (operand 5 room) (Cell (room.depth - 1)) (λ p. access n (trees p.0)) (Name n ∷ Sign s.OpenBracket ∷ after) after rest (list, tt) (step_cell room n after place short deep)
    (both (indices_joint (room.depth - 1)) (subst (λ (r : Room). Taken (indices r.depth) after list found) same taken) close))
