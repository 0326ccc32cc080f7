-- What was found so far, with one system more.
use Rattle.std.proofs.Common.{◌≡◌, Bool, cond, List, [], ◌∷◌, ◌++◌, map, append_assoc, refl, ap, ◌∙◌}
use Rattle.std.specs.Prelude.{filter}
use Rattle.affine_forms.specs.Affine.{Constraints}
use Rattle.ob_check.specs.declared.found.Found.{Found}
use Rattle.ob_check.specs.declared.found.Found.TheVariants.{Kept, Missing}
use Rattle.ob_check.specs.Systems.{system_found, was_missing, missing_of}

pub more_systems : (fs : List Found) (f : Found) (s : Constraints) (ss whole : List Constraints) → map system_found fs ++ s ∷ ss ≡ whole → system_found f ≡ s → map system_found (fs ++ f ∷ []) ++ ss ≡ whole
more_systems [] f s ss whole h same = ap (λ t. t ∷ ss) same ∙ h
more_systems (g ∷ gs) f s ss whole h same = ap (λ ts. system_found g ∷ ts) (more_systems gs f s ss (map system_found gs ++ s ∷ ss) refl same) ∙ h

first_of : (m : Constraints → Bool) (f : Found) (s : Constraints) (ss : List Constraints) → system_found f ≡ s → was_missing f ≡ m s → missing_of (f ∷ []) ++ filter m ss ≡ filter m (s ∷ ss)
first_of m (Kept k) s ss same missing = ap (λ b. cond b (s ∷ filter m ss) (filter m ss)) missing
first_of m (Missing t) s ss same missing = ap (λ u. u ∷ filter m ss) same ∙ ap (λ b. cond b (s ∷ filter m ss) (filter m ss)) missing

missing_of-append : (fs gs : List Found) → missing_of (fs ++ gs) ≡ missing_of fs ++ missing_of gs
missing_of-append [] gs = refl
missing_of-append (Kept k ∷ fs) gs = missing_of-append fs gs
missing_of-append (Missing s ∷ fs) gs = ap (λ ts. system_found (Missing s) ∷ ts) (missing_of-append fs gs)

pub more_missing : (m : Constraints → Bool) (fs : List Found) (f : Found) (s : Constraints) (ss whole : List Constraints) → missing_of fs ++ filter m (s ∷ ss) ≡ whole → system_found f ≡ s → was_missing f ≡ m s → missing_of (fs ++ f ∷ []) ++ filter m ss ≡ whole
more_missing m fs f s ss whole h same missing =
    ap (λ ts. ts ++ filter m ss) (missing_of-append fs (f ∷ []))
    ∙ append_assoc (missing_of fs) (missing_of (f ∷ [])) (filter m ss)
    ∙ ap (λ ts. missing_of fs ++ ts) (first_of m f s ss same missing)
    ∙ h
