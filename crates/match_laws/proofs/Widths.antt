-- What is said in width is the match.
use Rattle.std.proofs.Common.{◌≡◌, Bool, true, false, if◌then◌else◌, refl, sym, ap}
use Rattle.match_laws.specs.Matched.{Matched, matched}
use Rattle.match_laws.specs.Widths.{InWidth, Said, TooWide, match_is_short}
use Rattle.match_laws.specs.Widths.{WidthLaw, TooWideLaw}

said : (a b : Matched) → Said a ≡ Said b → a ≡ b
said a b e = cc

not_said : (a : Matched) → TooWide ≡ Said a → ⊥
not_said a e = cc

abbrev answer_by : Bool → Matched → InWidth
answer_by t a = if t then Said a else TooWide

pub width_law : WidthLaw
width_law at theirs block q answer e = go (match_is_short at theirs block q) e
  where
    go : (t : Bool) → answer_by t (matched at theirs block q) ≡ Said answer
        → matched at theirs block q ≡ answer
    go true h = said (matched at theirs block q) answer h
    go false h = absurd (not_said answer h)

pub too_wide_law : TooWideLaw
too_wide_law at theirs block q = (
  λ e. wide (match_is_short at theirs block q) e,
  λ e. ap (λ t. answer_by t (matched at theirs block q)) e,
)
  where
    wide : (t : Bool) → answer_by t (matched at theirs block q) ≡ TooWide → t ≡ false
    wide true h = absurd (not_said (matched at theirs block q) (sym h))
    wide false h = refl
