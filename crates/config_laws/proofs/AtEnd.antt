-- The fields that are live at the end where some may differ there.
use Rattle.std.proofs.Common.{◌≡◌, ◌==◌, ◌<◌, ℕ, Bool, true, false, ◌||◌, not, List, []}
use Rattle.std.proofs.Common.{◌∷◌, refl, sym, ap, ◌∙◌, true≢false, eqb-true, arith}
use Rattle.std.specs.Prelude.{Contains, if◌then◌else◌, length}
use Rattle.std.proofs.lemmas.List.Elements.{Contains-append_right}
use Rattle.config_laws.specs.Live.LiveFits.{LiveAtEnd}
use Rattle.config_laws.specs.FieldRule.{is_listed, not_again}
use Rattle.config_laws.specs.Surely.{surely_behind}
use Rattle.config_laws.specs.Exits.{by_exit}
use Rattle.config_laws.specs.AtEnd.{lives_at_end, OthersLiveAtEnd, ListedStayDead}
use Rattle.config_laws.proofs.Exits.{holes_go_by_exit}

first_of : (f : ℕ) (fs : List ℕ) (g : ℕ) → g ≡ f → Contains (f ∷ fs) g
first_of f fs g e = (0, let less : 0 < length (f ∷ fs) = omega arith in less, sym e)

module _ (again : ℕ → Bool) where
  stays : (fs : List ℕ) (g : ℕ) → is_listed g fs ≡ true → again g ≡ false
      → Contains (not_again again fs) g
  stays [] g h k = absurd (true≢false (sym h))
  stays (f ∷ fs) g h k = go (g == f) refl h (again f) refl (λ h. stays fs g h k)
    where
      go : (same : Bool) → (g == f) ≡ same → (same || is_listed g fs) ≡ true → (w : Bool)
          → again f ≡ w → (is_listed g fs ≡ true → Contains (not_again again fs) g)
          → Contains (if w then not_again again fs else f ∷ not_again again fs) g
      go true e h true v rest =
          absurd (true≢false (sym v ∙ ap again (sym (eqb-true g f e)) ∙ k))
      go true e h false v rest = first_of f (not_again again fs) g (eqb-true g f e)
      go false e h true v rest = rest h
      go false e h false v rest =
          Contains-append_right (f ∷ []) (not_again again fs) g (rest h)

  pub at_end : (fs : List ℕ) → LiveAtEnd (not_again again fs) (lives_at_end again fs)
  at_end fs = record { others = λ g k. go g k (is_listed g fs) refl (again g) refl }
    where
      go : (g : ℕ) → (Contains (not_again again fs) g → ⊥) → (l : Bool) → is_listed g fs ≡ l
          → (w : Bool) → again g ≡ w → (not l || w) ≡ true
      go g k false e w v = refl
      go g k true e true v = refl
      go g k true e false v = absurd (k (stays fs g e v))

  -- a listed field that is not read before it is written is not live before its end
  pub not_live : (fs : List ℕ) (g : ℕ) → is_listed g fs ≡ true
      → by_exit false (again g) (lives_at_end again fs g) ≡ false
  not_live fs g h =
      ap (λ l. by_exit false (again g) (not l || again g)) h ∙ go (again g)
    where
      go : (w : Bool) → by_exit false w (false || w) ≡ false
      go true = refl
      go false = refl

pub others_live_at_end : OthersLiveAtEnd
others_live_at_end again fs = at_end again fs

pub listed_stay_dead : ListedStayDead
listed_stay_dead calls sure f old c fs goes is dead =
    holes_go_by_exit calls sure goes f old c (lives_at_end again fs f)
    ∙ ap (λ r. by_exit r (again f) (lives_at_end again fs f)) dead ∙ not_live again fs f is
  where
    again : ℕ → Bool
    again g = surely_behind sure g c
