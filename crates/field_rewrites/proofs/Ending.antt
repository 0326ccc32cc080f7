-- The statement before that of a path.
use Rattle.std.proofs.Common.{◌≡◌, ◌≢◌, ◌-◌, ℕ, zero, suc, List, [], ◌∷◌, ◌++◌, map, Option, Some, None}
use Rattle.std.proofs.Common.{option_map, refl, sym, ap, ◌∙◌, arith}
use Rattle.std.proofs.lemmas.List.{map-append}
use Rattle.exo_tree.specs.Places.{Step, Path}
use Rattle.exo_tree.specs.PlainPlace.{step_taken}
use Rattle.exo_tree.specs.declared.place.Step as declared
use Rattle.config_laws.specs.DeleteConfig.{step_back, previous}

abbrev behind_all : Path → Option Step → Option Path
behind_all up x = option_map (λ t. up ++ t ∷ []) x

one_ahead : (s : Step) (up : Path) (x : Option Step)
    → option_map (λ (q : Path). s ∷ q) (behind_all up x) ≡ behind_all (s ∷ up) x
one_ahead s up None = refl
one_ahead s up (Some t) = refl

previous_last : (up : Path) (s : Step) → previous (up ++ s ∷ []) ≡ behind_all up (step_back s.index s)
previous_last [] s = refl
previous_last (t ∷ []) s =
    ap (option_map (λ (q : Path). t ∷ q)) (previous_last [] s) ∙ one_ahead t [] (step_back s.index s)
previous_last (t ∷ u ∷ up) s =
    ap (option_map (λ (q : Path). t ∷ q)) (previous_last (u ∷ up) s)
    ∙ one_ahead t (u ∷ up) (step_back s.index s)

-- ---- by what the code has found of the path

none_before : (n : ℕ) (s : Step) → n ≡ 0 → step_back n s ≡ None
none_before zero s h = refl
none_before (suc n) s h = absurd (omega (arith, h))

one_before : (n : ℕ) (s : Step) → n ≢ 0 → step_back n s ≡ Some (record s { index = n - 1 })
one_before zero s h = absurd (h refl)
one_before (suc n) s h =
    let less : n ≡ suc n - 1 = omega arith in
    ap (λ (k : ℕ). Some (record s { index = k })) less

module _ (path : Path) (to : List declared.Step) (e : map step_taken to ≡ path) where
  pub no_steps : to ≡ [] → previous path ≡ None
  no_steps h =
      ap previous (sym e) ∙ ap (λ (p : List declared.Step). previous (map step_taken p)) h

  module _ (up : List declared.Step) (last : declared.Step) (f : to ≡ up ++ last ∷ []) where
    found : previous path ≡ behind_all (map step_taken up) (step_back last.index (step_taken last))
    found =
        ap previous (sym e ∙ ap (map step_taken) f ∙ map-append step_taken up (last ∷ []))
        ∙ previous_last (map step_taken up) (step_taken last)

    pub no_previous : last.index ≡ 0 → previous path ≡ None
    no_previous h =
        found ∙ ap (behind_all (map step_taken up)) (none_before last.index (step_taken last) h)

    pub one_previous : last.index ≢ 0 → previous path
        ≡ Some (map step_taken up ++ record (step_taken last) { index = last.index - 1 } ∷ [])
    one_previous h =
        found ∙ ap (behind_all (map step_taken up)) (one_before last.index (step_taken last) h)
