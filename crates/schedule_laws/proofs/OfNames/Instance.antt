-- The names of the closed schedule.
use Rattle.std.proofs.Common.{◌≡◌, None, pos, refl, codes}
use Rattle.exo_tree.specs.Tree.{Lit}
use Rattle.exo_meaning.specs.Orders.{Each}
use Rattle.text_lexer.specs.Lexeme.{word_of}
use Rattle.exo_types_laws.specs.Shown.Names.{IsName}
use Rattle.exo_types_laws.specs.Shown.Named.{AreNamed}
use Rattle.schedule_laws.specs.Operators.Instance.{unit, schedule, result, ScheduleInstance}
use Rattle.schedule_laws.specs.Operators.LoopInstance as loops
use Rattle.schedule_laws.specs.Operators.OrderInstance as orders
use Rattle.schedule_laws.specs.Operators.ScopeInstance as scopes
use Rattle.schedule_laws.specs.Names.Instance.{NamesInstance}
use Rattle.schedule_laws.specs.Names.Schedules.{GivesNames, SchedulesKeepNames}
use Rattle.schedule_laws.proofs.OfNames.Numbered.{numbered_named}

named_f : IsName (codes "f")
named_f = record { begins = refl; bytes = (refl, tt); some = refl; free = refl }

named_g : IsName (codes "g")
named_g = record { begins = refl; bytes = (refl, tt); some = refl; free = refl }

named_x : IsName (codes "x")
named_x = record { begins = refl; bytes = (refl, tt); some = refl; free = refl }

named_unit : AreNamed unit
named_unit = record {
  procedures = (
    record { name = named_f; params = (named_x, tt); body = (tt, (tt, tt)); template = tt },
    tt,
  );
  fields = tt;
  memories = (
    record { begins = refl; bytes = (refl, (refl, (refl, (refl, tt)))); some = refl; free = refl },
    tt,
  );
}

named_i : IsName (codes "i")
named_i = record { begins = refl; bytes = (refl, tt); some = refl; free = refl }

named_io : IsName (codes "io")
named_io = record { begins = refl; bytes = (refl, (refl, tt)); some = refl; free = refl }

named_ii : IsName (codes "ii")
named_ii = record { begins = refl; bytes = (refl, (refl, tt)); some = refl; free = refl }

named_loop : AreNamed (loops.unit_of (Lit (pos 2)))
named_loop = record {
  procedures = (
    record {
      name = named_f;
      params = (named_x, tt);
      body = ((named_i, (tt, tt)), tt);
      template = tt;
    },
    tt,
  );
  fields = tt;
  memories = named_unit.memories;
}

loop_asked : Each GivesNames loops.schedule
loop_asked = ((named_io, named_ii), (tt, (tt, (tt, (tt, tt)))))

named_h : IsName (codes "h")
named_h = record { begins = refl; bytes = (refl, tt); some = refl; free = refl }

named_j : IsName (codes "j")
named_j = record { begins = refl; bytes = (refl, tt); some = refl; free = refl }

named_y : IsName (codes "y")
named_y = record { begins = refl; bytes = (refl, tt); some = refl; free = refl }

named_orders : AreNamed orders.unit
named_orders = record {
  procedures = (
    record {
      name = named_f;
      params = (named_x, (named_y, tt));
      body = ((named_i, (tt, (tt, tt))), tt);
      template = tt;
    },
    (
      record {
        name = named_g;
        params = (named_x, (named_y, tt));
        body = ((named_i, ((named_j, (tt, tt)), tt)), tt);
        template = tt;
      },
      (
        record {
          name = named_h;
          params = (named_x, (named_y, tt));
          body = ((((named_i, (tt, tt)), tt), tt), tt);
          template = tt;
        },
        tt,
      ),
    ),
  );
  fields = tt;
  memories = named_unit.memories;
}

order_asked : Each GivesNames orders.schedule
order_asked = (tt, (tt, (tt, (tt, (tt, (tt, (tt, (tt, tt))))))))

named_k : IsName (codes "k")
named_k = record { begins = refl; bytes = (refl, tt); some = refl; free = refl }

named_scopes : AreNamed scopes.unit
named_scopes = record {
  procedures = (
    named_loop.procedures.0,
    (
      record {
        name = named_g;
        params = (named_x, tt);
        body = ((named_i, ((named_j, (tt, tt)), tt)), tt);
        template = tt;
      },
      tt,
    ),
  );
  fields = tt;
  memories = named_unit.memories;
}

scope_asked : Each GivesNames scopes.schedule
scope_asked = (tt, (tt, (tt, (named_k, (tt, (tt, tt))))))

no_word : IsName (codes "for") → ⊥
no_word is = absurd (none is.free)
  where
    none : word_of (codes "for") ≡ None → ⊥
    none e = cc

pub names_instance :
    SchedulesKeepNames → ScheduleInstance → loops.LoopsInstance → orders.OrderInstance
    → scopes.ScopesInstance → NamesInstance
names_instance keep one other third fourth = record {
  text = named_unit;
  asked = (tt, (tt, (tt, (named_g, (tt, tt)))));
  versions = keep unit 0 schedule result named_unit (tt, (tt, (tt, (named_g, (tt, tt))))) one.runs;
  loop_text = named_loop;
  loop_asked = loop_asked;
  loop_versions =
      keep (loops.unit_of (Lit (pos 2))) 0 loops.schedule loops.result named_loop loop_asked
      other.runs;
  order_text = named_orders;
  order_asked = order_asked;
  order_versions = keep orders.unit 0 orders.schedule orders.result named_orders order_asked third.runs;
  scope_text = named_scopes;
  scope_asked = scope_asked;
  scope_versions = keep scopes.unit 0 scopes.schedule scopes.result named_scopes scope_asked fourth.runs;
  word = no_word;
  numbered_word = numbered_named (codes "for") 1 refl (refl, (refl, (refl, tt)));
}
