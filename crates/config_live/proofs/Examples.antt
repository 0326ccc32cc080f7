-- Live fields of a closed unit.
use Rattle.std.proofs.Common.{◌≡◌, ◌==◌, ℕ, zero, suc, true, false, ◌&&◌, ◌||◌, [], ◌∷◌, refl, sym, arith}
use Rattle.std.specs.Prelude.{not}
use Rattle.exo_tree.specs.Places.{Else}
use Rattle.config_laws.specs.FieldRule.{Before, Behind}
use Rattle.config_laws.proofs.RuleExamples.{unit_of, stepping_unit, at}
use Rattle.config_state.specs.FieldSets.{contains}
use Rattle.config_laws.specs.FieldRule.{is_listed}
use Rattle.config_live.specs.declared.way.Way.{Way}
use Rattle.config_live.specs.Places.{live_in}
use Rattle.config_live.specs.Ways.{nothing, IsField, Went, Goes}
use Rattle.config_live.proofs.Truths.{or_none}

-- the second procedure writes the field, and calls the first, which asserts it
dead_before_write : live_in (unit_of stepping_unit) 1 (at 0) Before 0 ≡ false
dead_before_write = refl

live_behind_write : live_in (unit_of stepping_unit) 1 (at 0) Behind 0 ≡ true
live_behind_write = refl

live_before_call : live_in (unit_of stepping_unit) 1 (at 1) Before 0 ≡ true
live_before_call = refl

dead_at_end : live_in (unit_of stepping_unit) 1 (at 1) Behind 0 ≡ false
dead_at_end = refl

-- no such field, statement, path or procedure
other_field : live_in (unit_of stepping_unit) 1 (at 0) Behind 1 ≡ false
other_field = refl

no_statement : live_in (unit_of stepping_unit) 1 (at 3) Before 0 ≡ false
no_statement = refl

no_path : live_in (unit_of stepping_unit) 1 [] Behind 0 ≡ false
no_path = refl

not_in_body : live_in (unit_of stepping_unit) 1 (record { branch = Else; index = 1 } ∷ []) Before 0 ≡ false
not_in_body = refl

no_procedure : live_in (unit_of stepping_unit) 2 (at 1) Before 0 ≡ false
no_procedure = refl

-- ---- a way over a write of the first of two fields, and a read of it behind

abbrev fresh : Way
fresh = record { read = false ∷ false ∷ []; reads = []; written = false ∷ false ∷ [] }

abbrev wrote : Way
wrote = record { read = false ∷ false ∷ []; reads = []; written = true ∷ false ∷ [] }

written_first : (f : ℕ) → IsField fresh f
    → contains wrote.written f ≡ (contains fresh.written f || (f == 0))
written_first zero i = refl
written_first (suc zero) i = refl
written_first (suc (suc f)) i = absurd (let l = i.of_read in omega arith)

none_read : (f : ℕ) → IsField fresh f → contains wrote.read f ≡ (contains fresh.read f || (false && not (contains fresh.written f)))
none_read zero i = refl
none_read (suc zero) i = refl
none_read (suc (suc f)) i = absurd (let l = i.of_read in omega arith)

newly : (f : ℕ) → IsField fresh f
    → is_listed f (0 ∷ []) ≡ (is_listed f [] || ((f == 0) && not (contains fresh.written f)))
newly zero i = refl
newly (suc zero) i = refl
newly (suc (suc f)) i = absurd (let l = i.of_read in omega arith)

over_write : Goes nothing (λ f. f == 0) fresh wrote [] (0 ∷ [])
over_write = record {
  went = record {
    same_read = refl;
    same_written = refl;
    read = none_read;
    written = written_first;
    listed = λ l. l;
  };
  added = newly;
}

hidden : (f : ℕ) → IsField wrote f → contains wrote.read f ≡ (contains wrote.read f || ((f == 0) && not (contains wrote.written f)))
hidden zero i = refl
hidden (suc zero) i = refl
hidden (suc (suc f)) i = absurd (let l = i.of_read in omega arith)

over_read : Went (λ f. f == 0) nothing wrote wrote
over_read = record {
  same_read = refl;
  same_written = refl;
  read = hidden;
  written = λ f i. sym (or_none (contains wrote.written f));
  listed = λ l. l;
}
