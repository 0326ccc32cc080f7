-- A statement in its block and the gap beside it, by the steps of its path.
use Rattle.std.proofs.Common.{◌≡◌, ℕ, ◌<◌, ◌≤◌, Bool, true, false, List, [], ◌∷◌, ◌++◌, length, map, refl, ap, sym, ◌∙◌}
use Rattle.std.proofs.Common.{Some, None, arith}
use Rattle.std.specs.Prelude.{◌^◌, nat_lt, if◌then◌else◌, option_map, option_and_then}
use Rattle.cursor_forward.specs.Shifts.{word}
use Rattle.std.proofs.lemmas.List.{nil_from_length}
use Rattle.exo_tree.specs.Places.{Branch, Path}
use Rattle.exo_tree.specs.PlainPlace.{step_taken, branch_taken}
use Rattle.exo_tree.specs.declared.place.Step.{Step}
use Rattle.cursor_forward.specs.Cursors.{Side, owner}
use Rattle.schedule_laws.specs.Operators.Places.{before_gap, gap_under, gap_beside}
use Rattle.schedule_laws.specs.Operators.Places.{number_in_block, branch_around, Within, within_of}

number_at_end : (up : List Step) (last : Step)
    → number_in_block (map step_taken (up ++ last ∷ [])) ≡ last.index
number_at_end [] last = refl
number_at_end (s ∷ []) last = refl
number_at_end (s ∷ t ∷ up) last = number_at_end (t ∷ up) last

branch_at_end : (up : List Step) (last : Step)
    → branch_around (map step_taken (up ++ last ∷ [])) ≡ branch_taken last.branch
branch_at_end [] last = refl
branch_at_end (s ∷ []) last = refl
branch_at_end (s ∷ t ∷ up) last = branch_at_end (t ∷ up) last

owner_more : (s : Step) (rest : List Step) (o : Path)
    → owner (map step_taken rest) ≡ Some o → owner (map step_taken (s ∷ rest)) ≡ Some (step_taken s ∷ o)
owner_more s [] o h = cc (h)
owner_more s (t ∷ []) o h = cc (h)
owner_more s (t ∷ u ∷ rest) o h =
    ap (option_map (λ (p : Path). step_taken s ∷ p)) h

owner_at_end : (s : Step) (up : List Step) (last : Step)
    → owner (map step_taken ((s ∷ up) ++ last ∷ [])) ≡ Some (map step_taken (s ∷ up))
owner_at_end s [] last = refl
owner_at_end s (t ∷ up) last =
    owner_more s ((t ∷ up) ++ last ∷ []) (map step_taken (t ∷ up)) (owner_at_end t up last)

-- ---- by the last step and those before it

module _ (path : Path) (to : List Step) (side : Side) (is : map step_taken to ≡ path) where
  pub gap_nowhere : length to ≡ 0 → gap_beside path side ≡ None
  gap_nowhere none =
      ap (λ p. gap_beside p side) (sym is)
      ∙ ap (λ l. gap_beside (map step_taken l) side) (nil_from_length to none)

  module _ (up : List Step) (last : Step) (parts : to ≡ up ++ last ∷ []) where
    at_parts : gap_beside path side ≡ gap_beside (map step_taken (up ++ last ∷ [])) side
    at_parts =
        ap (λ p. gap_beside p side) (sym is) ∙ ap (λ l. gap_beside (map step_taken l) side) parts

    pub gap_at_top : length up ≡ 0 → gap_beside path side ≡ None
    gap_at_top none =
        at_parts
        ∙ ap (λ u. gap_beside (map step_taken (u ++ last ∷ [])) side) (nil_from_length up none)

    pub gap_inside : 0 < length up
        → gap_beside path side ≡ gap_under (before_gap last.index side) (map step_taken up)
    gap_inside some =
        at_parts
        ∙ (ap (λ n. option_and_then (gap_under (before_gap n side)) (owner (map step_taken (up ++ last ∷ []))))
        (number_at_end up last)
        ∙ ap (option_and_then (gap_under (before_gap last.index side))) (owned up some))
      where
        owned : (u : List Step) → 0 < length u
            → owner (map step_taken (u ++ last ∷ [])) ≡ Some (map step_taken u)
        owned [] few = absurd (omega (arith, few))
        owned (s ∷ u) few = owner_at_end s u last

    pub gap_found : 0 < length up → (around : Path) → around ≡ map step_taken up → (n : ℕ)
        → before_gap last.index side ≡ Some n
        → Some (record { around = around; before = n }) ≡ gap_beside path side
    gap_found some around same n is =
        ap (λ p. gap_under (Some n) p) same
        ∙ (ap (λ o. gap_under o (map step_taken up)) (sym is) ∙ sym (gap_inside some))

    pub gap_passed : 0 < length up → before_gap last.index side ≡ None → gap_beside path side ≡ None
    gap_passed some is = gap_inside some ∙ ap (λ o. gap_under o (map step_taken up)) is

-- ---- in its block

abbrev inside : Path → Branch → ℕ → Within
inside around branch index = record { around = around; branch = branch; index = index }

module _ (path : Path) (to : List Step) (is : map step_taken to ≡ path) where
  pub within_nowhere : length to ≡ 0 → within_of path ≡ None
  within_nowhere none =
      ap within_of (sym is) ∙ ap (λ l. within_of (map step_taken l)) (nil_from_length to none)

  module _ (up : List Step) (last : Step) (parts : to ≡ up ++ last ∷ []) where
    abbrev all : Path
    all = map step_taken (up ++ last ∷ [])

    abbrev around_all : Path
    around_all = map step_taken up

    within_parts : within_of path ≡ within_of all
    within_parts = ap within_of (sym is) ∙ ap (λ l. within_of (map step_taken l)) parts

    pub within_top : length up ≡ 0 → within_of path ≡ None
    within_top none =
        within_parts
        ∙ ap (λ u. within_of (map step_taken (u ++ last ∷ []))) (nil_from_length up none)

    pub within_found : 0 < length up → (around : Path) → around ≡ around_all
        → Some (inside around (branch_taken last.branch) last.index) ≡ within_of path
    within_found some around same =
        ap (λ p. Some (inside p (branch_taken last.branch) last.index)) same
        ∙ (sym (ap (λ b. Some (inside around_all b last.index)) (branch_at_end up last))
        ∙ (sym (ap (λ n. Some (inside around_all (branch_around all) n)) (number_at_end up last))
        ∙ (sym (ap (option_map (λ p. inside p (branch_around all) (number_in_block all))) (owned up some))
        ∙ sym within_parts)))
      where
        owned : (u : List Step) → 0 < length u
            → owner (map step_taken (u ++ last ∷ [])) ≡ Some (map step_taken u)
        owned [] few = absurd (omega (arith, few))
        owned (s ∷ u) few = owner_at_end s u last

-- ---- how many statements are before it

pub held_word : (n : ℕ) → n < 2 ^ 32 → word n ≡ Some n
held_word n few =
    let is : nat_lt n (2 ^ 32) ≡ true = grind (arith, few) in
    ap (λ (b : Bool). if b then Some n else None) is

pub passed_word : (n : ℕ) → 2 ^ 32 ≤ n → word n ≡ None
passed_word n many =
    let is : nat_lt n (2 ^ 32) ≡ false = grind (arith, many) in
    ap (λ (b : Bool). if b then Some n else None) is
