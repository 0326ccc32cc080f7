-- The turns of a loop, written out.
use Rattle.std.proofs.Common.{◌≡◌, ℕ, ℤ, false, List, [], ◌∷◌, Option, Some, None, option_map, refl}
use Rattle.std.proofs.Common.{sym, ap, ◌∙◌}
use Rattle.exo_tree.specs.Tree.{Lit, For, Block, end, next}
use Rattle.exo_meaning.specs.Scene.{then_do}
use Rattle.exo_meaning.specs.State.{State, left, scoped}
use Rattle.exo_meaning.specs.Run.{World, run, turn, turns, turns_of}
use Rattle.exo_meaning.proofs.Nested.{then_some}
use Rattle.meaning_laws.specs.Sound.{IsUnbound}
use Rattle.meaning_laws.specs.Substitute.{in_block as substituted, catches, bound}
use Rattle.meaning_laws.proofs.Copies.{unbound_on, moves_on, copied_block_law}
use Rattle.meaning_laws.proofs.Names.{name_same}
use Rattle.meaning_laws.proofs.Sound.{left_sound}
use Rattle.meaning_laws.proofs.Substitute.{substitution_law}
use Rattle.place_laws.specs.Scope.Scopes.{scopes}
use Rattle.place_laws.specs.Scope.Unrolled.{HasNamesOf, AreTurns, TurnsAreScopes, IsCopyFor}
use Rattle.place_laws.specs.Scope.Unrolled.{CopiesAreTurns, CopiesMayStand}
use Rattle.place_laws.proofs.OfScope.Scopes.{left_then}
use Rattle.place_laws.proofs.OfScope.Opened.{same_refines, blocks_may_open}

names_left : (s u t : State) → HasNamesOf s u → HasNamesOf s (left u t)
names_left s u t h = record {
  sound = left_sound u t h.sound;
  names = λ x. (let n = h.names x in record {
    control = n.control;
    buffers = n.buffers;
    views =
        n.views;
  });
}

turns_from : (world : World) (i : ℕ) (b : Block) (s : State) (ns : List ℤ) (bs : List Block)
    (u : State) → HasNamesOf s u → AreTurns world i b s ns bs
    → turns (turn i (run world b)) ns u ≡ scopes world bs u
turns_from world i b s [] [] u h k = refl
turns_from world i b s [] (c ∷ cs) u h k = absurd k
turns_from world i b s (n ∷ ns) [] u h k = absurd k
turns_from world i b s (n ∷ ns) (c ∷ cs) u h k =
    ap (λ o. then_do o (turns (turn i (run world b)) ns)) (k.0 u h)
    ∙ left_then u (run world c u) (turns (turn i (run world b)) ns) (scopes world cs)
    (λ t. turns_from world i b s ns cs (left u t) (names_left s u t h) k.1)

pub turns_are_scopes_law : TurnsAreScopes
turns_are_scopes_law world i b ns bs s sound k =
    turns_from world i b s ns bs s (record { sound = sound; names = λ x. name_same x s }) k

-- ---- copies of the body

copy_is_turn : (world : World) (i : ℕ) (b : Block) (n : ℤ) (c : Block) (s u : State)
    → catches i (Lit n) b ≡ false → IsCopyFor (IsUnbound s) i b n c → HasNamesOf s u
    → turn i (run world b) n u ≡ scoped (run world c) u
copy_is_turn world i b n c s u free copy h =
    ap (option_map (left u)) (substitution_law world i (Lit n) b u refl free)
    ∙ go (run world (substituted i (Lit n) b) u)
    ∙ sym (copied_block_law copy.to world (substituted i (Lit n) b) u h.sound
    (moves_on copy.to (IsUnbound s) (IsUnbound u) (λ x k. unbound_on s u x (h.names x) k)
    copy.moves)).1
    ∙ ap (λ d. scoped (run world d) u) (sym copy.is)
  where
    go : (o : Option State) → option_map (left u) (option_map (bound i (Lit n)) o) ≡ option_map
        (left u) o
    go None = refl
    go (Some t) = refl

pub copies_are_turns_law : CopiesAreTurns
copies_are_turns_law world i b [] [] s free k = tt
copies_are_turns_law world i b [] (c ∷ cs) s free k = absurd k
copies_are_turns_law world i b (n ∷ ns) [] s free k = absurd k
copies_are_turns_law world i b (n ∷ ns) (c ∷ cs) s free k = (
  λ u h. copy_is_turn world i b n c s u (free n) k.0 h,
  copies_are_turns_law world i b ns cs s
      free k.1,
)

pub copies_may_stand : CopiesMayStand
copies_may_stand world i lo hi b bs u apart none free copies =
    let old = next (For i lo hi b) end in
    let ns = turns_of u.scene lo hi in
    blocks_may_open world old bs u apart none (same_refines (run world old) (scopes world bs) u (
    then_some (turns (turn i.id (run world b)) ns u)
    ∙ turns_are_scopes_law world i.id b ns bs u none.sound (copies_are_turns_law world i.id b ns bs
    u free copies)))
