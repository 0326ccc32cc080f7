-- Copies for turns, and branches for blocks, at closed places. In these x, n and i have ids 0 to 2.
use Rattle.std.proofs.Common.{ℕ, pos, true, [], ◌∷◌, refl}
use Rattle.exo_tree.specs.Tree.{Lit, Var, Condition, True, Const, Assign, Pass, If, For, Block, end, next}
use Rattle.exo_tree.specs.Context.{Here}
use Rattle.exo_meaning.specs.Units.{IsUnit}
use Rattle.place_laws.specs.Scope.BranchesAtPlaces.{specialized}
use Rattle.cursor_forward.specs.Shifts.{at_index}
use Rattle.place_laws.specs.Order.TurnsOfTwo.{Loop}
use Rattle.match_laws.specs.Simplify.Simplified.{literal}
use Rattle.step_rules.specs.Rule.{Spot}
use Rattle.step_rules.specs.Lawful.{IsSpot, Replaces}
use Rattle.loop_laws.specs.Copies.{TurnsMayBeWrittenOut}
use Rattle.loop_laws.specs.Copies.{LoopsOfNoTurnMayGo, BlocksMayBeSpecialized, TakenBranchesMayStand}
use Rattle.loop_laws.proofs.SmallUnits.{binder, unit_of, unit_is, target_of}
use Rattle.loop_laws.proofs.UnrollExamples.{is_target, two, two_written}
use Rattle.loop_laws.proofs.UnrollLoop.{literals_write}

abbrev whole : Block → Spot
whole b = record {
  target = target_of b;
  piece = record { path = at_index 0; count = 1 };
  opened = record { around = Here end; piece = b };
}

is_spot : IsSpot (whole two)
is_spot = record {
  target = is_target;
  runs = record {
    unit = is_target.unit.procedures;
    procedure = record {
      params = refl;
      asserts = refl;
      body = refl;
      filled = refl;
      ids = refl;
      distinct = refl;
      paths = refl;
      template = refl;
    };
  };
  opens = refl;
  body = refl;
  well = record { block = refl; piece = refl };
}

-- for i in seq(0, k): x[i] = 0
abbrev loop_to : ℕ → Loop
loop_to k = record {
  binder = binder 2 105;
  lo = Lit (pos 0);
  hi = Lit (pos k);
  body = next (Assign 0 (Var 2 ∷ []) (Const (pos 0))) end;
}

pub two_may_be_written_out : TurnsMayBeWrittenOut → Replaces (whole two) two_written []
two_may_be_written_out law =
    law (whole two) (loop_to 2) (pos 0 ∷ pos 1 ∷ []) literal 3 [] is_spot refl
    (record { is = refl; turns = λ first u good come stands. refl }) literals_write

abbrev never : Block
never = next (For (binder 2 105) (Lit (pos 0)) (Lit (pos 0)) (loop_to 0).body) end

pub none_may_go : LoopsOfNoTurnMayGo
    → Replaces (whole never) end [] × Replaces (whole never) (next Pass end) []
none_may_go law =
    law (whole never) (loop_to 0) []
    (record { is = refl; turns = λ first u good come stands. refl })

pub two_may_be_specialized :
    BlocksMayBeSpecialized → (c : Condition) → Replaces (whole two) (specialized 3 c two) []
two_may_be_specialized law c = law (whole two) c 3 [] is_spot refl refl

-- if True: pass
abbrev always : Block
always = next (If True (next Pass end) end) end

always_is_unit : IsUnit (unit_of always)
always_is_unit =
    unit_is always
    (record {
      params = refl;
      asserts = refl;
      body = refl;
      filled = refl;
      ids = refl;
      distinct = refl;
      paths = refl;
      template = refl;
    })

always_is_spot : IsSpot (whole always)
always_is_spot = record {
  target = record { unit = always_is_unit; there = refl; ids = refl };
  runs = record {
    unit = always_is_unit.procedures;
    procedure = record {
      params = refl;
      asserts = refl;
      body = refl;
      filled = refl;
      ids = refl;
      distinct = refl;
      paths = refl;
      template = refl;
    };
  };
  opens = refl;
  body = refl;
  well = record { block = refl; piece = refl };
}

pub first_is_taken : TakenBranchesMayStand → Replaces (whole always) (next Pass end) []
first_is_taken law =
    law (whole always) True (next Pass end) end true [] always_is_spot
    (record { is = refl; goes = λ first u good come stands. refl })
