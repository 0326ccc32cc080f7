-- Ids with the numbers that they get, one after the other.
use Rattle.std.specs.Prelude.{ℕ, ◌+◌, is_some, if◌then◌else◌, List, [], ◌∷◌, Option, Some, None}
use Rattle.exo_meaning.specs.Scene.{updated}

pub record Numbered : Type 0 where
  pub given : ℕ → Option ℕ
  pub next : ℕ

abbrev pub numbered_from : ℕ → Numbered
numbered_from n = record { given = λ x. None; next = n }

-- one that comes again keeps its number
unfoldable pub with_id : ℕ → Numbered → Numbered
with_id i t = record {
  given = if is_some (t.given i) then t.given else updated t.given i (Some t.next);
  next = t.next + 1;
}

abbrev pub with_ids : List ℕ → Numbered → Numbered
with_ids [] t = t
with_ids (i ∷ is) t = with_ids is (with_id i t)

-- other ids stay
abbrev pub number_of : Numbered → ℕ → ℕ
number_of t x = elim (t.given x) [ None ↦ x | Some n ↦ n ]
