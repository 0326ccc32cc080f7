-- Lists of indices in a tree and outside of one.
use Rattle.std.proofs.Common.{◌≡◌, ℕ, ◌-◌, ◌<◌, ◌≤◌, max, false, List, [], ◌∷◌, ◌++◌, length, refl, ap, arith}
use Rattle.std.proofs.Math.Nat.{le-max_left, le-max_right, max-le}
use Rattle.text_phrases.specs.Limits.{Limits, in_size, Keeps}
use Rattle.text_phrases.specs.Sequence.{AllFit}
use Rattle.text_phrases.specs.Commas.{spell_more, ListingFits, spell_listing}
use Rattle.text_phrases.proofs.Phrases.{keeps_map, keeps_both, keeps_all}
use Rattle.text_expressions.specs.Front.Values.{IsShortName}
use Rattle.text_expressions.specs.Expression.{Tree, access, Trees, end, next, trees, Stands, AllStand, spelling, spelling_list, spelling_more, operand, Within, depth, deepest, count, AreShort, AreSmall, control_room, FewDimensions}
use Rattle.text_expressions.specs.declared.expression.Room.{Room}
use Rattle.text_lexer.specs.declared.token.Token.TheVariants.{Sign}
use Rattle.text_lexer.specs.declared.token.Sign.TheVariants.{Comma}

abbrev pub listed : Trees → List Tree
listed end = []
listed (next t ts) = t ∷ listed ts

pub trees-listed : (ts : Trees) → trees (listed ts) ≡ ts
trees-listed end = refl
trees-listed (next t ts) = ap (next t) (trees-listed ts)

count-trees : (list : List Tree) → count (trees list) ≡ length list
count-trees [] = refl
count-trees (t ∷ ts) = omega (arith, count-trees ts)

length-listed : (ts : Trees) → length (listed ts) ≡ count ts
length-listed end = refl
length-listed (next t ts) = omega (arith, length-listed ts)

spelled_more : (room : Room) (list : List Tree) → spelling_more (trees list) ≡ spell_more (operand 0 room) (Sign Comma) list false
spelled_more room [] = refl
spelled_more room (t ∷ ts) = ap (λ w. Sign Comma ∷ (spelling t ++ w)) (spelled_more room ts)

pub spelled_list : (room : Room) (list : List Tree) → spelling_list (trees list) ≡ spell_listing (operand 0 room) (Sign Comma) list
spelled_list room [] = refl
spelled_list room (t ∷ ts) = ap (λ w. spelling t ++ w) (spelled_more room ts)

all_in : (limits : Limits) (level : ℕ) (ts : Trees) → AllStand ts → Keeps limits (deepest ts ≤ level) (AreShort ts) (AreSmall ts) → AllFit (operand 0 (control_room level)) limits (listed ts)
all_in limits level end stands keeps = tt
all_in limits level (next t ts) stands keeps = (
  (stands.0, keeps_map limits {E = depth t ≤ level} (λ deep. omega (arith, deep, le-max_left (depth t) (deepest ts))) (λ long. (long.0, long.1)) (λ small. small.0) keeps),
  all_in limits level ts stands.1 (keeps_map limits {E = deepest ts ≤ level} (λ deep. omega (arith, deep, le-max_right (depth t) (deepest ts))) (λ long. long.2) (λ small. small.1) keeps),
)

all_out : (limits : Limits) (level : ℕ) (list : List Tree) → AllFit (operand 0 (control_room level)) limits list → AllStand (trees list) × Keeps limits (deepest (trees list) ≤ level) (AreShort (trees list)) (AreSmall (trees list))
all_out limits level [] fits = (tt, keeps_all limits (omega arith) tt tt)
all_out limits level (t ∷ ts) fits =
    let others : AllStand (trees ts) × Keeps limits (deepest (trees ts) ≤ level) (AreShort (trees ts)) (AreSmall (trees ts)) = all_out limits level ts fits.1 in
    ((fits.0.0, others.0), keeps_both limits (λ a b. max-le a b) (λ a b. (a.0, a.1, b)) (λ a b. (a, b)) fits.0.1 others.1)

-- a cell with indices in the room that an access leaves
pub around_access : (limits : Limits) (room : Room) (n : List ℕ) (list : List Tree) → IsShortName n → 1 < room.depth → 1 ≤ room.nodes → ListingFits (operand 0 (control_room (room.depth - 1))) FewDimensions limits list → Stands 5 (access n (trees list)) × Within limits room (access n (trees list))
around_access limits room n [] short deep some fits = absurd fits
around_access limits room n (t ∷ ts) short deep some fits =
    let all : AllStand (trees (t ∷ ts)) × Keeps limits (deepest (trees (t ∷ ts)) ≤ room.depth - 1) (AreShort (trees (t ∷ ts))) (AreSmall (trees (t ∷ ts))) = all_out limits (room.depth - 1) (t ∷ ts) (fits.0, fits.1) in (
      (tt, all.0),
      keeps_both limits (λ a b. omega (arith, a, deep)) (λ a b. (some, (short, omega (arith, b, count-trees (t ∷ ts)), a))) (λ a b. a) all.1 fits.2,
    )

-- the indices of a cell are in that room
pub inside_access : (limits : Limits) (room : Room) (n : List ℕ) (ts : Trees) → Stands 5 (access n ts) → Within limits room (access n ts) → ListingFits (operand 0 (control_room (room.depth - 1))) FewDimensions limits (listed ts)
inside_access limits room n end stands within = absurd stands.0
inside_access limits room n (next t ts) stands within =
    let all : AllFit (operand 0 (control_room (room.depth - 1))) limits (t ∷ listed ts) =
    all_in limits (room.depth - 1) (next t ts) stands.1 (keeps_map limits {E = deepest (next t ts) ≤ room.depth - 1} (λ deep. omega (arith, deep)) (λ long. long.1.2) (λ small. small) within) in
    (all.0, all.1, keeps_map limits (λ deep. tt) (λ long. omega (arith, long.1.1, length-listed (next t ts))) (λ small. tt) within)

-- one more index, at the end
pub deepest-snoc : (list : List Tree) (t : Tree) → deepest (trees (list ++ (t ∷ []))) ≡ max (deepest (trees list)) (depth t)
deepest-snoc [] t = omega arith
deepest-snoc (a ∷ list) t =
    let e : deepest (trees (list ++ (t ∷ []))) ≡ max (deepest (trees list)) (depth t) = deepest-snoc list t in omega (arith, e)

deepest_by : (level : ℕ) (list : List Tree) → AllFit (operand 0 (control_room level)) in_size list → deepest (trees list) ≤ level
deepest_by level list fits = (all_out in_size level list fits).1.0

pub deepest_of : (level : ℕ) (list : List Tree) → ListingFits (operand 0 (control_room level)) FewDimensions in_size list → deepest (trees list) ≤ level
deepest_of level [] fits = absurd fits
deepest_of level (t ∷ ts) fits = deepest_by level (t ∷ ts) (fits.0, fits.1)
