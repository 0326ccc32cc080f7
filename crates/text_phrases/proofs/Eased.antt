-- What keeps limits keeps fewer of them; so a text is refused at one token, for one cause.
use Rattle.std.proofs.Common.{◌≡◌, ◌⊎◌, inl, inr, ⊎_elim, ℕ, zero, suc, ◌+◌, ◌<◌, ◌≤◌, List, [], ◌∷◌, ◌++◌, Option, Some, None, length, refl, sym, ap, ap₂, ◌∙◌, subst, arith, append_assoc}
use Rattle.std.proofs.lemmas.List.{length-append, append-nil}
use Rattle.text_phrases.specs.Limits.{Limits, unlimited, in_depth, in_length, in_size, Keeps, Cause, syntax, too_deep, too_long, too_large, passed}
use Rattle.text_phrases.specs.Phrase.{first, Phrase, Begins, GoesOn, Goes}
use Rattle.text_phrases.specs.Sequence.{AllFit, MaybeFits}
use Rattle.text_phrases.specs.Commas.{commas, listing}
use Rattle.text_phrases.specs.Text.{IsText, FaultAt}

-- the limits without the last one
abbrev pub eased : Limits → Limits
eased unlimited = unlimited
eased in_depth = unlimited
eased in_length = in_depth
eased in_size = in_length

-- a tree that keeps limits keeps fewer
abbrev pub Eases : {A T : Type 0} → Phrase A T → Type 0
Eases {T = T} kind = (limits : Limits) (tree : T) → kind.Fits limits tree → kind.Fits (eased limits) tree

pub keeps_eased : (limits : Limits) (D L S : Type 0) → Keeps limits D L S → Keeps (eased limits) D L S
keeps_eased unlimited D L S keeps = tt
keeps_eased in_depth D L S keeps = tt
keeps_eased in_length D L S keeps = keeps.0
keeps_eased in_size D L S keeps = (keeps.0, keeps.1)

pub all_eased : {A T : Type 0} (P : Phrase A T) → Eases P → (limits : Limits) (ts : List T) → AllFit P limits ts → AllFit P (eased limits) ts
all_eased P eases limits [] fits = tt
all_eased P eases limits (t ∷ ts) fits = (eases limits t fits.0, all_eased P eases limits ts fits.1)

pub maybe_eased : {A T : Type 0} (P : Phrase A T) → Eases P → (limits : Limits) (o : Option T) → MaybeFits P limits o → MaybeFits P (eased limits) o
maybe_eased P eases limits None fits = tt
maybe_eased P eases limits (Some t) fits = eases limits t fits

pub commas_ease : {A T : Type 0} (P : Phrase A T) (comma : A) (Short : List T → Type 0) (ends : Option A → Type 0) → Eases P → Eases (commas P comma Short ends)
commas_ease P comma Short ends eases limits l fits = (all_eased P eases limits l.0 fits.0, keeps_eased limits _ _ _ fits.1)

pub listing_eases : {A T : Type 0} (P : Phrase A T) (comma : A) (Short : List T → Type 0) (ends : Option A → Type 0) → Eases P → Eases (listing P comma Short ends)
listing_eases P comma Short ends eases limits [] fits = absurd fits
listing_eases P comma Short ends eases limits (t ∷ ts) fits = (eases limits t fits.0, all_eased P eases limits ts fits.1, keeps_eased limits _ _ _ fits.2)

-- ---- one cause

pub heads : {A : Type 0} {a b : A} {x y : List A} → a ∷ x ≡ b ∷ y → a ≡ b
heads e = cc

pub tails : {A : Type 0} {a b : A} {x y : List A} → a ∷ x ≡ b ∷ y → x ≡ y
tails e = cc

-- of two fronts the longer one begins with the shorter one
fronts : {A : Type 0} (a b c d : List A) → a ++ b ≡ c ++ d → length a ≤ length c → (w : List A) × (c ≡ a ++ w) × (b ≡ w ++ d)
fronts [] b c d e h = (c, refl, e)
fronts (x ∷ a) b [] d e h = absurd (omega arith)
fronts (x ∷ a) b (y ∷ c) d e h =
    let rest = fronts a b c d (tails e) (omega arith) in
    (rest.0, ap₂ ◌∷◌ (sym (heads e)) rest.1, rest.2)

either : (a b : ℕ) → (a ≤ b) ⊎ (b ≤ a)
either zero b = inl (omega arith)
either (suc a) zero = inr (omega arith)
either (suc a) (suc b) = ⊎_elim (λ (h : a ≤ b). let up : suc a ≤ suc b = omega arith in inl up) (λ (h : b ≤ a). let up : suc b ≤ suc a = omega arith in inr up) (either a b)

module _ {A T : Type 0} (kind : Phrase A T) (eases : Eases kind) where
  ease : (limits : Limits) (before rest : List A) → GoesOn kind limits before rest → GoesOn kind (eased limits) before rest
  ease limits before rest on = record { tree = on.tree; token = on.token; more = on.more; next = on.next; fits = eases limits on.tree on.fits; spelled = on.spelled }

  -- nothing goes on past the limits under which a fault is refused
  stops : (cause : Cause) (tokens : List A) (last : ℕ) (f : FaultAt kind cause tokens last) → GoesOn kind (passed cause) f.before f.rest → ⊥
  stops cause tokens last f on = f.none on.tree (on.token ∷ on.more) on.fits on.next on.spelled

  one_cause : (c d : Cause) (before rest : List A) → (GoesOn kind (passed c) before rest → ⊥) → (GoesOn kind (passed d) before rest → ⊥) → Goes c kind before rest → Goes d kind before rest → c ≡ d
  one_cause syntax syntax before rest stuck other goes on = refl
  one_cause syntax too_deep before rest stuck other goes on = absurd (stuck on)
  one_cause syntax too_long before rest stuck other goes on = absurd (stuck (ease in_depth before rest on))
  one_cause syntax too_large before rest stuck other goes on = absurd (stuck (ease in_depth before rest (ease in_length before rest on)))
  one_cause too_deep syntax before rest stuck other goes on = absurd (other goes)
  one_cause too_deep too_deep before rest stuck other goes on = refl
  one_cause too_deep too_long before rest stuck other goes on = absurd (stuck on)
  one_cause too_deep too_large before rest stuck other goes on = absurd (stuck (ease in_length before rest on))
  one_cause too_long syntax before rest stuck other goes on = absurd (other (ease in_depth before rest goes))
  one_cause too_long too_deep before rest stuck other goes on = absurd (other goes)
  one_cause too_long too_long before rest stuck other goes on = refl
  one_cause too_long too_large before rest stuck other goes on = absurd (stuck on)
  one_cause too_large syntax before rest stuck other goes on = absurd (other (ease in_depth before rest (ease in_length before rest goes)))
  one_cause too_large too_deep before rest stuck other goes on = absurd (other (ease in_length before rest goes))
  one_cause too_large too_long before rest stuck other goes on = absurd (other goes)
  one_cause too_large too_large before rest stuck other goes on = refl

  -- one fault's front is not a proper front of another's
  not_past : (c d : Cause) (tokens : List A) (last more : ℕ) (f : FaultAt kind c tokens last) (g : FaultAt kind d tokens more) (a : A) (w : List A)
      → g.before ≡ f.before ++ (a ∷ w) → f.rest ≡ (a ∷ w) ++ g.rest → ⊥
  not_past c d tokens last more f g a w longer rest =
      f.none g.begins.tree (a ∷ (w ++ g.begins.more)) (g.begins.fits (passed c)) (ap first rest)
      (sym (append_assoc f.before (a ∷ w) g.begins.more) ∙ ap (λ l. l ++ g.begins.more) (sym longer) ∙ g.begins.spelled)

  -- two faults of a text stand at one token, and have one cause
  abbrev pub AreOne : (c d : Cause) (tokens : List A) (last more : ℕ) → FaultAt kind c tokens last → FaultAt kind d tokens more → Type 0
  AreOne c d tokens last more f g = (c ≡ d) × (last ≡ more) × (f.before ≡ g.before) × (f.rest ≡ g.rest)

  in_order : (c d : Cause) (tokens : List A) (last more : ℕ) (f : FaultAt kind c tokens last) (g : FaultAt kind d tokens more) → length f.before ≤ length g.before → AreOne c d tokens last more f g
  in_order c d tokens last more f g h =
      let split = fronts f.before f.rest g.before g.rest (sym f.whole ∙ g.whole) h in
      go split.0 split.1 split.2
    where
      go : (w : List A) → g.before ≡ f.before ++ w → f.rest ≡ w ++ g.rest → AreOne c d tokens last more f g
      go [] longer rest =
          let before : f.before ≡ g.before = sym (longer ∙ append-nil f.before) in (
            one_cause c d f.before f.rest (stops c tokens last f)
                (λ on. stops d tokens more g (subst (λ r. GoesOn kind (passed d) g.before r) rest (subst (λ b. GoesOn kind (passed d) b f.rest) before on)))
                f.goes (subst (λ r. Goes d kind f.before r) (sym rest) (subst (λ b. Goes d kind b g.rest) (sym before) g.goes)),
            sym f.count ∙ ap length rest ∙ g.count,
            before,
            rest,
          )
      go (a ∷ w) longer rest = absurd (not_past c d tokens last more f g a w longer rest)

  -- a text is refused at one token, for one cause
  pub one_fault : (c d : Cause) (tokens : List A) (last more : ℕ) (f : FaultAt kind c tokens last) (g : FaultAt kind d tokens more) → AreOne c d tokens last more f g
  one_fault c d tokens last more f g = go (either (length f.before) (length g.before))
    where
      go : (length f.before ≤ length g.before) ⊎ (length g.before ≤ length f.before) → AreOne c d tokens last more f g
      go = ⊎_elim (λ h. in_order c d tokens last more f g h) (λ h. let one = in_order d c tokens more last g f h in (sym one.0, sym one.1, sym one.2, sym one.3))

-- what is a text is not refused
pub no_fault : {A T : Type 0} (kind : Phrase A T) (cause : Cause) (tokens : List A) (tree : T) (last : ℕ) → IsText kind tokens tree → FaultAt kind cause tokens last → ⊥
no_fault kind cause tokens tree last text f = f.none tree f.rest (text.fits (passed cause)) refl (sym f.whole ∙ text.spelled)
