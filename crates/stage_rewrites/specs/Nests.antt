-- The nests of a staged block over extents that are written already, and what all of it needs to be
-- written down.
use Rattle.std.specs.Prelude.{◌+◌, ◌==◌, ℕ, zero, suc, pos, Bool, not, ◌||◌, ◌&&◌, cond, List}
use Rattle.std.specs.Prelude.{[], ◌∷◌, length}
use Rattle.exo_tree.specs.Tree.{Cell, Control, Lit, Datum, Const, Read, Statement, Assign, Reduce}
use Rattle.exo_tree.specs.Tree.{For, Block, end, next, joined}
use Rattle.inplace_laws.specs.Filled.{Loop, nest}
use Rattle.buffer_laws.specs.Buffers.{allocation}
use Rattle.buffer_laws.specs.Simplified.{all_simpler, simplified}
use Rattle.buffer_laws.specs.Staging.Converted.{converted}
use Rattle.buffer_laws.specs.Staging.Stores.{spans}
use Rattle.buffer_laws.specs.StageMem.{Staging, loops_over}
use Rattle.step_rules.specs.Rule.{Writing}
use Rattle.alloc_laws.specs.Stage.Written.{written_as, are_written, accesses_written}
use Rattle.stage_rewrites.specs.Places.{variables_from, spots_from}

-- loops round a block
abbrev pub nest_round : List Loop → Block → Block
nest_round [] b = b
nest_round (l ∷ ls) b = next (For l.binder (Lit (pos 0)) l.extent (nest_round ls b)) end

module _ (how : Writing) (w : Staging) (base : ℕ) where
  -- the window's cell at the variables of loops
  abbrev pub spots_at : ℕ → List Control
  spots_at first = all_simpler (written_as how) (spots_from first w.coords)

  -- what goes into the buffer before the block
  abbrev pub value_loaded : Datum
  value_loaded = cond w.accum (Const (pos 0)) (Read w.root (spots_at (suc base)))

  abbrev pub loaded : List Control → Block
  loaded es =
      nest (loops_over (suc base) zero es)
      (Assign base (variables_from (suc base) es) value_loaded)

  -- what takes the buffer's cell behind the block
  abbrev pub taken : ℕ → Datum → Statement
  taken first value =
      cond w.accum (Reduce w.root (spots_at first) value) (Assign w.root (spots_at first) value)

  -- the first variable of the nest behind the block
  abbrev pub second : List Control → ℕ
  second es = suc (base + length es)

  abbrev pub stored : List Control → Block
  stored es =
      nest (loops_over (second es) zero es)
      (taken (second es) (Read base (variables_from (second es) es)))

  abbrev pub head : Cell → List Control → Block
  head cell es =
      next (allocation (record {
        binder = record { id = base; name = w.name };
        cell = cell;
        dims = es;
        memory = zero;
      })) (loaded es)

  -- the block on the buffer, with what is behind it
  abbrev pub rest : Bool → List Control → Block → Block
  rest writes es b =
      joined
      (simplified (written_as how) (λ y. y == base) (converted base w.root w.coords b))
      (cond writes (stored es) end)

  -- ---- what can be written down

  abbrev pub load_written : Bool
  load_written = w.accum || are_written how (spots_from (suc base) w.coords)

  abbrev pub store_written : List Control → Bool
  store_written es = are_written how (spots_from (second es) w.coords)

  -- the block and what is behind it
  abbrev pub rest_written : Bool → List Control → Block → Bool
  rest_written writes es b =
      accesses_written how base w.root w.coords b && (not writes || store_written es)

  abbrev pub stage_written : Bool → Block → Bool
  stage_written writes b =
      are_written how (spans w.coords)
      && (load_written
      && rest_written writes (all_simpler (written_as how) (spans w.coords)) b)
