-- Paths by their last step, as the code makes them.
use Rattle.std.proofs.Common.{◌≡◌, ℕ, ◌+◌, ◌-◌, Bool, true, false, List, [], ◌∷◌, ◌++◌, length, map, Option, Some, None, refl, ap, ◌∙◌}
use Rattle.std.specs.Prelude.{◌==◌, ◌&&◌, slice_get, nat_le, if◌then◌else◌, option_map}
use Rattle.std.proofs.lemmas.List.{map-append}
use Rattle.exo_tree.specs.Tree.{Statement, block, statements}
use Rattle.exo_tree.specs.Places.{Step, Path}
use Rattle.exo_tree.specs.declared.place.Step as declared
use Rattle.exo_tree.specs.PlainPlace.{step_taken}
use Rattle.cursor_forward.specs.Shifts.{word, beyond}
use Rattle.cursor_forward.specs.Cursors.{above, owner, earlier}
use Rattle.cursor_forward.specs.Patterns.{is_one_loop, is_loop_called}

-- the path with another step in front, where there is one
abbrev pub behind_step : Step → Option Path → Option Path
behind_step s o = option_map (λ q. s ∷ q) o

mapped_twice : {A B C : Type 0} (f : A → B) (g : B → C) (o : Option A) → option_map g (option_map f o) ≡ option_map (λ x. g (f x)) o
mapped_twice f g None = refl
mapped_twice f g (Some x) = refl

pub above_last : (up : Path) (s : Step) → above (up ++ s ∷ []) ≡ up
above_last [] s = refl
above_last (t ∷ []) s = refl
above_last (t ∷ u ∷ up) s = ap (λ (q : Path). t ∷ q) (above_last (u ∷ up) s)

pub owner_last : (t : Step) (up : Path) (s : Step) → owner (t ∷ up ++ s ∷ []) ≡ Some (t ∷ up)
owner_last t [] s = refl
owner_last t (u ∷ up) s = ap Some (above_last (t ∷ u ∷ up) s)

pub beyond_last : (up : Path) (t : Step) (k : ℕ) (rest : Path) → beyond (up ++ t ∷ []) k rest ≡ option_map (λ n. up ++ record t { index = n } ∷ rest) (word (t.index + k))
beyond_last [] t k rest = refl
beyond_last (u ∷ []) t k rest = mapped_twice (λ n. record t { index = n } ∷ rest) (λ q. u ∷ q) (word (t.index + k))
beyond_last (u ∷ v ∷ up) t k rest =
    ap (behind_step u) (beyond_last (v ∷ up) t k rest)
    ∙ mapped_twice (λ n. v ∷ up ++ record t { index = n } ∷ rest) (λ q. u ∷ q) (word (t.index + k))

in_front : (u : Step) (up : Path) (s : Step) (b : Bool) → behind_step u (if b then Some (up ++ s ∷ []) else None) ≡ (if b then Some (u ∷ up ++ s ∷ []) else None)
in_front u up s true = refl
in_front u up s false = refl

pub earlier_last : (up : Path) (s : Step) (k : ℕ) → earlier k (up ++ s ∷ []) ≡ (if nat_le k s.index then Some (up ++ record s { index = s.index - k } ∷ []) else None)
earlier_last [] s k = refl
earlier_last (u ∷ []) s k = in_front u [] (record s { index = s.index - k }) (nat_le k s.index)
earlier_last (u ∷ v ∷ up) s k = ap (behind_step u) (earlier_last (v ∷ up) s k) ∙ in_front u (v ∷ up) (record s { index = s.index - k }) (nat_le k s.index)

-- ---- the same of steps as the code has them

pub statements_block : (ss : List Statement) → statements (block ss) ≡ ss
statements_block [] = refl
statements_block (a ∷ ss) = ap (λ (r : List Statement). a ∷ r) (statements_block ss)

pub beyond_at_end : (up : List declared.Step) (last : declared.Step) (k : ℕ) (rest : Path) → beyond (map step_taken (up ++ last ∷ [])) k rest ≡ option_map (λ n. map step_taken up ++ record (step_taken last) { index = n } ∷ rest) (word (last.index + k))
beyond_at_end up last k rest = ap (λ (p : Path). beyond p k rest) (map-append step_taken up (last ∷ [])) ∙ beyond_last (map step_taken up) (step_taken last) k rest

pub earlier_at_end : (up : List declared.Step) (last : declared.Step) (k : ℕ) → earlier k (map step_taken (up ++ last ∷ [])) ≡ (if nat_le k last.index then Some (map step_taken up ++ record (step_taken last) { index = last.index - k } ∷ []) else None)
earlier_at_end up last k = ap (earlier k) (map-append step_taken up (last ∷ [])) ∙ earlier_last (map step_taken up) (step_taken last) k

pub owner_at_end : (t : declared.Step) (up : List declared.Step) (last : declared.Step) → owner (map step_taken (t ∷ up ++ last ∷ [])) ≡ Some (map step_taken (t ∷ up))
owner_at_end t up last = ap owner (map-append step_taken (t ∷ up) (last ∷ [])) ∙ owner_last (step_taken t) (map step_taken up) (step_taken last)

pub one_loop : (j : Option (List ℕ)) (ss : List Statement) → is_one_loop j (block ss) ≡ ((length ss == 1) && is_loop_called j (slice_get ss 0))
one_loop j ss = ap (λ (l : List Statement). (length l == 1) && is_loop_called j (slice_get l 0)) (statements_block ss)
