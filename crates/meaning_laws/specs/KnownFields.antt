-- What is known of configuration fields at a place of a procedure.
use Rattle.std.specs.Prelude.{◌++◌, ℕ, zero, suc, Bool, true, false, if◌then◌else◌, [], ◌∷◌}
use Rattle.exo_tree.specs.Tree.{Argument, Statement, Assign, Reduce, Config, Pass, If, For, Alloc}
use Rattle.exo_tree.specs.Tree.{View, Call, Block, end, next}
use Rattle.exo_tree.specs.Context.{Context, Here, After, InLoop, InThen, InElse, fill}
use Rattle.exo_tree.specs.Places.{Branch, Main, Else, Path}
pub use Rattle.exo_tree.specs.Places.{same_branch, same_step, same_path}
use Rattle.exo_meaning.specs.Scene.{updated}
use Rattle.meaning_laws.specs.Fields.{writes_field}

-- a field has the number that it had where the procedure begins, that of an expression or
-- condition, or one that the statement at a path made unknown
pub data FieldValue : Type 0 where
  AtEntry : FieldValue
  Known : Argument → FieldValue
  UnknownAt : Path → FieldValue

abbrev pub KnownFields : Type 0
KnownFields = ℕ → FieldValue

-- where a procedure begins
abbrev pub at_entry : KnownFields
at_entry f = AtEntry

-- which fields a call may write, how the right side of a write is written down, and which written
-- down values agree
pub record Telling : Type 0 where
  pub writes : ℕ → ℕ → Bool
  pub told : Argument → Argument
  pub agree : Argument → Argument → Bool

-- ---- paths

-- the statement of that number in a branch of the statement at a path
abbrev pub path_in : Path → Branch → ℕ → Path
path_in outer branch n = outer ++ record { branch = branch; index = n } ∷ []

-- ---- after a statement

-- the fields that a statement may write become unknown by it
abbrev pub forgotten : (ℕ → Bool) → Path → KnownFields → KnownFields
forgotten writes path known f = if writes f then UnknownAt path else known f

-- values on which the ends of two branches agree: known ones that agree, or one and the same other
abbrev pub same_value : (Argument → Argument → Bool) → FieldValue → FieldValue → Bool
same_value agree AtEntry w = elim w [ AtEntry ↦ true | Known b ↦ false | UnknownAt q ↦ false ]
same_value agree (Known a) w =
    elim w [ AtEntry ↦ false | Known b ↦ agree a b | UnknownAt q ↦ false ]
same_value agree (UnknownAt p) w =
    elim w [ AtEntry ↦ false | Known b ↦ false | UnknownAt q ↦ same_path p q ]

-- a field keeps a value on which both ends agree, else the branching statement makes it unknown
abbrev pub agreed : (Argument → Argument → Bool) → Path → KnownFields → KnownFields → KnownFields
agreed agree path known other f =
    if same_value agree (known f) (other f) then known f else UnknownAt path

module _ (tell : Telling) where
  abbrev mutual
    -- after the statement at a path
    pub after : Path → Statement → KnownFields → KnownFields
    after path (Assign x is e) known = known
    after path (Reduce x is e) known = known
    after path (Config f a) known = updated known f (Known (tell.told a))
    after path Pass known = known
    after path (If c a b) known =
        agreed tell.agree path (at_end path Main zero a known) (at_end path Else zero b known)
    after path (For i lo hi b) known = forgotten (λ f. writes_field tell.writes f b) path known
    after path (Alloc x cell dims memory) known = known
    after path (View w x coords) known = known
    after path (Call k args) known = forgotten (tell.writes k) path known

    -- at the end of a block, whose first statement has that number
    pub at_end : Path → Branch → ℕ → Block → KnownFields → KnownFields
    at_end outer branch n end known = known
    at_end outer branch n (next a b) known =
        at_end outer branch (suc n) b (after (path_in outer branch n) a known)

  -- at the hole, in a block whose first statement has that number
  abbrev pub known_at : Path → Branch → ℕ → Context → Block → KnownFields → KnownFields
  known_at outer branch n (Here rest) old known = known
  known_at outer branch n (After a c) old known =
      known_at outer branch (suc n) c old (after (path_in outer branch n) a known)
  known_at outer branch n (InLoop i lo hi c rest) old known =
      known_at (path_in outer branch n) Main zero c old
      (forgotten (λ f. writes_field tell.writes f (fill c old)) (path_in outer branch n) known)
  known_at outer branch n (InThen t c other rest) old known =
      known_at (path_in outer branch n) Main zero c old known
  known_at outer branch n (InElse t other c rest) old known =
      known_at (path_in outer branch n) Else zero c old known

  -- at the hole of a procedure's body
  abbrev pub known_fields : Context → Block → KnownFields
  known_fields c old = known_at [] Main zero c old at_entry
