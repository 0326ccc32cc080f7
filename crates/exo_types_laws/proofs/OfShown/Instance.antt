-- The closed unit keeps all rules, and its names are of the grammar.
use Rattle.std.proofs.Common.{◌≡◌, ◌==◌, List, [], ℕ, zero, suc, codes, refl, sym, ap, ◌∙◌, subst, Bool, true, false, ◌||◌, true≢false, eqb-true, Option, Some, None, slice_get}
use Rattle.exo_tree.specs.Tree.{Procedure}
use Rattle.exo_meaning.specs.Calls.{Callee}
use Rattle.exo_meaning.specs.Run.{program_world}
use Rattle.exo_meaning.specs.Units.{IsUnit}
use Rattle.exo_types.specs.UnitRules.{Above, nothing_above, after_items, signatures}
use Rattle.exo_types_laws.specs.Shown.Again.{calls, IsFound, HoldsWhatIsNamed, ShownIsTheSame}
use Rattle.exo_types_laws.specs.Shown.Names.{IsName}
use Rattle.exo_types_laws.specs.Shown.Named.{IsNamedProcedure, AreNamed}
use Rattle.exo_types_laws.specs.Shown.Naming.{NamedUnitsAreWritable}
use Rattle.exo_types_laws.specs.Shown.Instance.{fill, column, unit, items, NamesInstance}
use Rattle.exo_types_laws.specs.Shown.Instance.{VersionsInstance}

unit_formed : IsUnit unit
unit_formed = record {
  procedures = (
    record { params = refl; asserts = refl; body = refl; filled = refl; ids = refl; distinct = refl; paths = refl; template = refl },
    (
      record { params = refl; asserts = refl; body = refl; filled = refl; ids = refl; distinct = refl; paths = refl; template = refl },
      (
        record { params = refl; asserts = refl; body = refl; filled = refl; ids = refl; distinct = refl; paths = refl; template = refl },
        (record { params = refl; asserts = refl; body = refl; filled = refl; ids = refl; distinct = refl; paths = refl; template = refl }, tt),
      ),
    ),
  );
  fields = refl;
  memories = refl;
  spaces = refl;
  counts = refl;
}

fill_named : (name : List ℕ) (id : ℕ) → IsName name → IsNamedProcedure (fill name id)
fill_named name id is = record {
  name = is;
  params = (
    record { begins = refl; bytes = (refl, tt); some = refl; free = refl },
    (record { begins = refl; bytes = (refl, tt); some = refl; free = refl }, tt),
  );
  body = ((record { begins = refl; bytes = (refl, tt); some = refl; free = refl }, (tt, tt)), tt);
  template = tt;
}

first_name : IsName (codes "fill")
first_name = record { begins = refl; bytes = (refl, (refl, (refl, (refl, tt)))); some = refl; free = refl }

third_name : IsName (codes "fill_two")
third_name = record { begins = refl; bytes = (refl, (refl, (refl, (refl, (refl, (refl, (refl, (refl, tt)))))))); some = refl; free = refl }

column_named : (k : ℕ) → IsNamedProcedure (column k)
column_named k = record {
  name = record { begins = refl; bytes = (refl, (refl, (refl, (refl, (refl, (refl, tt)))))); some = refl; free = refl };
  params = (
    record { begins = refl; bytes = (refl, tt); some = refl; free = refl },
    (
      record { begins = refl; bytes = (refl, tt); some = refl; free = refl },
      (record { begins = refl; bytes = (refl, tt); some = refl; free = refl }, tt),
    ),
  );
  body = (tt, tt);
  template = tt;
}

unit_named : AreNamed unit
unit_named = record {
  procedures = (fill_named (codes "fill") 0 first_name, (column_named 0, (fill_named (codes "fill_two") 6 third_name, (column_named 2, tt))));
  fields = tt;
  memories = (record { begins = refl; bytes = (refl, (refl, (refl, (refl, tt)))); some = refl; free = refl }, tt);
}

pub names_instance : NamedUnitsAreWritable → NamesInstance
names_instance law = record { formed = unit_formed; named = unit_named; written = law unit 3 (column 2) unit_formed unit_named refl }

-- ---- a version that calls a version

abbrev above : Above
above = after_items nothing_above items

second : Callee
second = elim ((program_world unit).callees 2) [ None ↦ record { procedure = column 0; run = λ s. None; writes = λ x. false } | Some c ↦ c ]

none_there : (P : Type 0) (o : Option Procedure) (x : Procedure) → o ≡ None → o ≡ Some x → P
none_there P o x e f = absurd (by (sym e ∙ f))
  where
    by : None ≡ Some x → ⊥
    by h = cc

abbrev no_more : List Procedure
no_more = []

nothing : (j : ℕ) → slice_get no_more j ≡ None
nothing zero = refl
nothing (suc j) = refl

found : IsFound above 0 second
unfolding second
found = record {
  other = elim (slice_get above.program.procedures 0) [ None ↦ column 0 | Some p ↦ p ];
  there = refl;
  named = refl;
  once = once;
  signature = elim (slice_get (signatures above) 0) [ None ↦ record { params = []; writes = λ x. false } | Some s ↦ s ];
  here = refl;
  alike = (refl, refl, ((refl, refl), refl, tt));
}
  where
    once : (j : ℕ) (o : Procedure) → slice_get above.program.procedures j ≡ Some o → o.name ≡ codes "fill_two" → j ≡ 0
    once zero o e n = refl
    once (suc j) o e n = none_there (suc j ≡ 0) (slice_get no_more j) o (nothing j) e

calls_second : (k : ℕ) (q : Callee) → calls k (column 2).body ≡ true → (program_world unit).callees k ≡ Some q → IsFound above 0 q
unfolding second
calls_second k q c e = by (k == 2) refl c
  where
    by : (t : Bool) → (k == 2) ≡ t → (t || false) ≡ true → IsFound above 0 q
    by true s h =
        let there : (program_world unit).callees 2 ≡ Some q = ap (program_world unit).callees (sym (eqb-true k 2 s)) ∙ e in
        let same : second ≡ q = cc in subst (IsFound above 0) same found
    by false s h = absurd (true≢false (sym h))

holds : HoldsWhatIsNamed above unit (column 2)
holds = record { fields = refl; memories = refl; to = λ k. 0; called = calls_second; free = refl }

pub versions_instance : ShownIsTheSame → NamedUnitsAreWritable → VersionsInstance
versions_instance same written = record {
  keeps = refl;
  holds = holds;
  stands = same unit 3 (column 2) items unit_formed refl (written unit 3 (column 2) unit_formed unit_named refl) refl holds;
}
