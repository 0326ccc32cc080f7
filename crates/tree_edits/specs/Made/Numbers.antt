-- Which numbers are taken for a name.
use Rattle.std.specs.Prelude.{◌≡◌, ◌<◌, ◌^◌, ◌==◌, ◌||◌, ℕ, zero, suc, Bool, true, false}
use Rattle.std.specs.Prelude.{if◌then◌else◌, List, [], ◌∷◌, length, get_or, Option, None, Some}
use Rattle.exo_meaning.specs.Units.{is_text}
use Rattle.tree_edits.specs.Made.Names.{Name, is_in}

abbrev pub is_number : Option ℕ → ℕ → Bool
is_number None k = false
is_number (Some n) k = k == n

-- of the numbers from 1 on below 2^64, the one that is written so; where none is, none of them
abbrev pub IsNumber : (ℕ → Name) → Name → Option ℕ → Type 0
IsNumber written text number =
    (k : ℕ) → suc k < 2 ^ 64 → is_text (written (suc k)) text ≡ is_number number (suc k)

-- marks: of each number from 1 on, whether it is taken

-- a name more takes the number that is written so
pub record Noted (written : ℕ → Name) (name : Name) (old new : List Bool) : Type 0 where
  pub same_length : length new ≡ length old
  pub each :
      (k : ℕ) → k < length old
      → get_or new k true ≡ (get_or old k true || is_text (written (suc k)) name)

-- those that the names take, of as many as there are names
pub record AllNoted (written : ℕ → Name) (names : List Name) (marks : List Bool) : Type 0 where
  pub one_each : length marks ≡ length names
  pub each :
      (k : ℕ) → k < length marks → get_or marks k true ≡ is_in names (written (suc k))

-- how many are set before the first that is not
abbrev pub set_before : List Bool → ℕ
set_before [] = zero
set_before (b ∷ bs) = if b then suc (set_before bs) else zero
