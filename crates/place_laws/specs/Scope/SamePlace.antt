-- One place may be opened with more or with fewer statements: a run comes there alike, and what is
-- known there is the same.
use Rattle.std.specs.Prelude.{◌≡◌, ◌≤◌, ◌↔◌, ℕ, suc, Some}
use Rattle.exo_tree.specs.Tree.{Block, joined, Procedure}
use Rattle.exo_tree.specs.Context.{Context, fill, rest_of}
use Rattle.exo_tree.specs.Places.{Path, Opened, parted, opened, first_of}
use Rattle.exo_meaning.specs.State.{State}
use Rattle.exo_meaning.specs.Run.{World}
use Rattle.exo_meaning.specs.Units.{Scope}
use Rattle.meaning_laws.specs.Context.{ComesTo}
use Rattle.meaning_laws.specs.Facts.{facts}
use Rattle.meaning_laws.specs.KnownFields.{Telling, known_fields}
use Rattle.meaning_laws.specs.PlaceFacts.{place_facts}
use Rattle.meaning_laws.specs.Sound.{on_way}
use Rattle.meaning_laws.specs.Sorted.{scope_at}
use Rattle.place_laws.specs.Scope.Holes.{with_rest, roots_at}

-- old in the hole of c and new in that of d begin at one place of one block
pub record IsSameHole (old : Block) (c : Context) (new : Block) (d : Context) : Type 0 where
  pub body : fill d new ≡ fill c old
  pub block : joined new (rest_of d) ≡ joined old (rest_of c)
  pub comes : (world : World) (s u : State) → ComesTo world old c s u ↔ ComesTo world new d s u
  pub scope : (scope : Scope) → scope_at d scope ≡ scope_at c scope
  pub roots : (root : ℕ → ℕ) → roots_at d root ≡ roots_at c root
  pub bound : (x : ℕ) → on_way d x ≡ on_way c x
  pub facts_round : facts d ≡ facts c
  pub known : (tell : Telling) → known_fields tell d new ≡ known_fields tell c old
  pub facts_there :
      (tell : Telling) (p : Procedure) → place_facts tell p d new ≡ place_facts tell p c old

-- so it is where as much of what follows is put into the hole, or left behind it
abbrev pub SameHole : Type 0
SameHole =
    (c : Context) (old new rest : Block)
    → joined new rest ≡ joined old (rest_of c)
    → IsSameHole old c new (with_rest c rest)

-- the first statements of an opening, with what is round them
abbrev pub start_of : Opened → Block × Block → Opened
start_of o p = record {
  around = with_rest o.around (joined p.1 (rest_of o.around));
  piece = p.0;
}

-- the first m statements of an opening are what is opened there with count m
pub record IsStart (m : ℕ) (path : Path) (body : Block) (o : Opened) (p : Block × Block)
    : Type 0 where
  pub parts : parted m o.piece ≡ Some p
  pub there : opened m path body ≡ Some (start_of o p)
  pub same : IsSameHole o.piece o.around p.0 (start_of o p).around

-- at a path with n statements there are as well any fewer
abbrev pub SamePlace : Type 0
SamePlace =
    (m n : ℕ) (path : Path) (body : Block) (o : Opened)
    → m ≤ n
    → opened n path body ≡ Some o
    → (p : Block × Block) × IsStart m path body o p

-- what o opens begins with the statement that i opens
pub record BeginsWith (path : Path) (body : Block) (o i : Opened) : Type 0 where
  pub there : opened 1 path body ≡ Some i
  pub first : first_of i.piece ≡ first_of o.piece
  pub same : IsSameHole o.piece o.around i.piece i.around

-- so a piece of one statement and more is at the place of its first statement
abbrev pub FirstPlace : Type 0
FirstPlace =
    (n : ℕ) (path : Path) (body : Block) (o : Opened)
    → opened (suc n) path body ≡ Some o
    → (i : Opened) × BeginsWith path body o i
