-- What stands round the first statement of a block.
use Rattle.std.proofs.Common.{◌≡◌, ◌≢◌, ◌==◌, Bool, true, false, ◌&&◌, List, [], ◌∷◌, ◌++◌}
use Rattle.std.proofs.Common.{length, map, Some, None, refl, sym, ap, ◌∙◌, arith}
use Rattle.std.proofs.lemmas.List.{map-append}
use Rattle.std.specs.Prelude.{if◌then◌else◌}
use Rattle.exo_tree.specs.Places.{Main, Step, Path, same_branch}
use Rattle.exo_tree.specs.PlainPlace.{step_taken}
use Rattle.exo_tree.specs.declared.place.Step as declared
use Rattle.cursor_forward.specs.Cursors.{above, owner}
use Rattle.proc_laws.specs.Statement.LiftScope.{is_first, round_first}

abbrev begins : Step → Bool
begins s = same_branch s.branch Main && (s.index == 0)

first_last : (up : Path) (s : Step) → is_first (up ++ s ∷ []) ≡ begins s
first_last [] s = refl
first_last (t ∷ []) s = refl
first_last (t ∷ u ∷ up) s = first_last (u ∷ up) s

above_last : (up : Path) (s : Step) → above (up ++ s ∷ []) ≡ up
above_last [] s = refl
above_last (t ∷ []) s = refl
above_last (t ∷ u ∷ up) s = ap (λ (q : Path). t ∷ q) (above_last (u ∷ up) s)

owner_last : (t : Step) (up : Path) (s : Step) → owner (t ∷ up ++ s ∷ []) ≡ Some (t ∷ up)
owner_last t [] s = refl
owner_last t (u ∷ up) s = ap Some (above_last (t ∷ u ∷ up) s)

round_last : (up : Path) (s : Step)
    → round_first (up ++ s ∷ []) ≡ (if begins s then owner (up ++ s ∷ []) else None)
round_last up s = ap (λ (t : Bool). if t then owner (up ++ s ∷ []) else None) (first_last up s)

-- ---- by what the code has found of the path

none_there : (ups : List declared.Step) → length ups ≡ 0 → ups ≡ []
none_there [] h = refl
none_there (t ∷ ups) h = absurd (omega (arith, h))

module _ (path : Path) (to : List declared.Step) (e : map step_taken to ≡ path) where
  pub no_steps : to ≡ [] → round_first path ≡ None
  no_steps h =
      ap round_first (sym e) ∙ ap (λ (p : List declared.Step). round_first (map step_taken p)) h

  module _ (up : List declared.Step) (last : declared.Step) (f : to ≡ up ++ last ∷ []) where
    abbrev whole : Path
    whole = map step_taken up ++ step_taken last ∷ []

    ends : path ≡ whole
    ends = sym e ∙ ap (map step_taken) f ∙ map-append step_taken up (last ∷ [])

    found : round_first path ≡ (if begins (step_taken last) then owner whole else None)
    found = ap round_first ends ∙ round_last (map step_taken up) (step_taken last)

    pub not_first : begins (step_taken last) ≡ false → round_first path ≡ None
    not_first h = found ∙ ap (λ (t : Bool). if t then owner whole else None) h

    by_end : (ups : List declared.Step) → up ≡ ups → begins (step_taken last) ≡ true
        → round_first path ≡ owner (map step_taken ups ++ step_taken last ∷ [])
    by_end ups k h =
        found
        ∙ ap (λ (t : Bool). if t then owner whole else None) h
        ∙ ap (λ (p : List declared.Step). owner (map step_taken p ++ step_taken last ∷ [])) k

    pub at_top : begins (step_taken last) ≡ true → length up ≡ 0 → round_first path ≡ None
    at_top h k = by_end [] (none_there up k) h

    pub further_down : begins (step_taken last) ≡ true → length up ≢ 0
        → round_first path ≡ Some (map step_taken up)
    further_down h k = by_end up refl h ∙ some_there up k
      where
        some_there : (ups : List declared.Step) → length ups ≢ 0
            → owner (map step_taken ups ++ step_taken last ∷ []) ≡ Some (map step_taken ups)
        some_there [] l = absurd (l refl)
        some_there (t ∷ ups) l = owner_last (step_taken t) (map step_taken ups) (step_taken last)
