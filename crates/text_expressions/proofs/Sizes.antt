-- Depths, numbers of nodes, and what else is within limits.
use Rattle.std.proofs.Common.{◌≡◌, ℕ, ◌+◌, ◌-◌, ◌<◌, ◌≤◌, max, List, [], ◌∷◌, ap, subst, arith}
use Rattle.std.proofs.Math.Nat.{le-max_left, le-max_right, max-le}
use Rattle.text_phrases.specs.Limits.{Limits}
use Rattle.text_phrases.proofs.Phrases.{keeps_map, keeps_both, keeps_all}
use Rattle.text_expressions.specs.Expression.{Tree, number, truth, variable, access, field, stride, relu, select, negative, parens, binary, depth, nodes, IsShort, IsSmall, Within, under, HasPlace}
use Rattle.text_expressions.specs.Chain.{Link, with_links}
use Rattle.text_expressions.specs.Rooms.{Right}
use Rattle.text_expressions.specs.declared.source.Infix.{Infix}
use Rattle.text_expressions.specs.declared.expression.Room.{Room}
use Rattle.text_lexer.specs.declared.token.Literal.TheVariants.{Value}

pub depth_some : (t : Tree) → 1 ≤ depth t
depth_some (number n) = omega arith
depth_some (truth b) = omega arith
depth_some (variable x) = omega arith
depth_some (access x e) = omega arith
depth_some (field x f) = omega arith
depth_some (stride x n) = omega arith
depth_some (relu e) = omega arith
depth_some (select a b c d) = omega arith
depth_some (negative e) = omega arith
depth_some (parens e) = omega arith
depth_some (binary o l r) = omega arith

pub nodes_some : (t : Tree) → 1 ≤ nodes t
nodes_some (number n) = omega arith
nodes_some (truth b) = omega arith
nodes_some (variable x) = omega arith
nodes_some (access x e) = omega arith
nodes_some (field x f) = omega arith
nodes_some (stride x n) = omega arith
nodes_some (relu e) = omega arith
nodes_some (select a b c d) = omega arith
nodes_some (negative e) = omega arith
nodes_some (parens e) = nodes_some e
nodes_some (binary o l r) = omega arith

pub depth_links : (left : Tree) (links : List Link) → depth left ≤ depth (with_links left links)
depth_links left [] = omega arith
depth_links left (l ∷ links) = omega (arith, depth_links (binary l.operator left l.right) links, le-max_left (depth left) (depth l.right))

pub nodes_links : (left : Tree) (links : List Link) → nodes left ≤ nodes (with_links left links)
nodes_links left [] = omega arith
nodes_links left (l ∷ links) = omega (arith, nodes_links (binary l.operator left l.right) links)

short_front : (left : Tree) (links : List Link) → IsShort (with_links left links) → IsShort left
short_front left [] short = short
short_front left (l ∷ links) short = (short_front (binary l.operator left l.right) links short).0

small_front : (left : Tree) (links : List Link) → IsSmall (with_links left links) → IsSmall left
small_front left [] small = small
small_front left (l ∷ links) small = (small_front (binary l.operator left l.right) links small).0

-- the front of a chain is within where the chain is
pub within_front : (limits : Limits) (room : Room) (left other : Tree) (links : List Link) → other ≡ with_links left links → Within limits room other → Within limits room left
within_front limits room left other links is within =
    keeps_map limits (λ deep. omega (arith, ap depth is, depth_links left links, deep))
    (λ long. (omega (arith, ap nodes is, nodes_links left links, long.0), short_front left links (subst IsShort is long.1)))
    (λ small. small_front left links (subst IsSmall is small)) within

-- the right side of a chain's first operator is within what the left side leaves
pub right_within : (limits : Limits) (room : Room) (operator : Infix) (left right other : Tree) (links : List Link) → other ≡ with_links (binary operator left right) links → Within limits room other → Within limits (under (nodes left + 1) room) right
right_within limits room operator left right other links is within =
    keeps_map limits {E = depth right ≤ room.depth - 1} (λ deep. omega (arith, deep, le-max_right (depth left) (depth right)))
    (λ long. (omega (arith, long.0), long.1.1)) (λ small. small.1)
    (within_front limits room (binary operator left right) other links is within)

-- an operator with a right side in the room that is left
pub within_binary : (limits : Limits) (room inner : Room) (operator : Infix) (left right : Tree) → Right room inner left → Within limits room left → Within limits inner right → Within limits room (binary operator left right)
within_binary limits room inner operator left right rights one two =
    let two_in : Within limits (under (nodes left + 1) room) right = subst (λ (r : Room). Within limits r right) rights.is two in
    keeps_both limits
    (λ a b. (let deeper : max (depth left) (depth right) ≤ room.depth - 1 = max-le (omega (arith, rights.shallow)) b in omega (arith, deeper, rights.shallow)))
    (λ a b. (omega (arith, b.0, rights.few), (a.1, b.1)))
    (λ a b. (a, b)) one two_in

-- a literal is within any room
pub zero_within : (limits : Limits) (room : Room) → HasPlace room → Within limits room (number (Value 0))
zero_within limits room place = keeps_all limits place.depth (place.nodes, tt) tt

-- and where a part of an expression was within
pub zero_beside : (limits : Limits) (room : Room) (t : Tree) (before taken : ℕ) → (nodes t ≤ room.nodes - before → 1 ≤ room.nodes - taken) → Within limits (under before room) t → Within limits (under taken room) (number (Value 0))
zero_beside limits room t before taken leaves within =
    keeps_map limits {E = 1 ≤ room.depth - 1} (λ deep. omega (arith, deep, depth_some t)) (λ long. (leaves long.0, tt)) (λ small. tt) within

-- an expression inside of a unary operator, of a function of one argument and of parentheses

pub inside_negative : (limits : Limits) (room : Room) (t : Tree) → Within limits room (negative t) → Within limits (under 1 room) t
inside_negative limits room t within = keeps_map limits {E = depth t ≤ room.depth - 1} (λ deep. omega arith) (λ long. (omega (arith, long.0), long.1)) (λ small. small) within

pub around_negative : (limits : Limits) (room : Room) (t : Tree) → 1 < room.depth → 1 < room.nodes → Within limits (under 1 room) t → Within limits room (negative t)
around_negative limits room t deep_room long_room within = keeps_map limits {D = depth t ≤ room.depth - 1} (λ deep. omega arith) (λ long. (omega (arith, long.0), long.1)) (λ small. small) within

pub inside_relu : (limits : Limits) (room : Room) (t : Tree) → Within limits room (relu t) → Within limits (under 1 room) t
inside_relu limits room t within = inside_negative limits room t within

pub around_relu : (limits : Limits) (room : Room) (t : Tree) → 1 < room.depth → 1 < room.nodes → Within limits (under 1 room) t → Within limits room (relu t)
around_relu limits room t deep_room long_room within = around_negative limits room t deep_room long_room within

pub inside_parens : (limits : Limits) (room : Room) (t : Tree) → Within limits room (parens t) → Within limits (under 0 room) t
inside_parens limits room t within = keeps_map limits {E = depth t ≤ room.depth - 1} (λ deep. omega arith) (λ long. (omega (arith, long.0), long.1)) (λ small. small) within

pub around_parens : (limits : Limits) (room : Room) (t : Tree) → 1 < room.depth → Within limits (under 0 room) t → Within limits room (parens t)
around_parens limits room t deep_room within = keeps_map limits {D = depth t ≤ room.depth - 1} (λ deep. omega arith) (λ long. (omega (arith, long.0), long.1)) (λ small. small) within
