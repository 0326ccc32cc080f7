-- From a way over a procedure to the fields of its calls.
use Rattle.std.proofs.Common.{◌≡◌, ℕ, Bool, true, false, ◌&&◌, ◌||◌, List, [], length}
use Rattle.std.proofs.Common.{refl, sym, ap, ap₂, ◌∙◌, arith}
use Rattle.std.specs.Prelude.{not}
use Rattle.exo_tree.specs.Tree.{Procedure}
use Rattle.meaning_laws.specs.Live.{live}
use Rattle.meaning_laws.specs.UnitFields.{read_by_params, read_by_conditions}
use Rattle.config_state.specs.FieldSets.{contains, Changed}
use Rattle.config_laws.specs.FieldRule.{is_listed}
use Rattle.config_laws.specs.Surely.{surely_writes}
use Rattle.config_live.specs.declared.table.LiveTable.{LiveTable}
use Rattle.config_live.specs.declared.table.CallFields.{CallFields}
use Rattle.config_live.specs.declared.way.Way.{Way}
use Rattle.config_live.specs.Listed.{Lists}
use Rattle.config_live.specs.Tables.{writes_surely, calls_in}
use Rattle.config_live.specs.Ways.{nothing, Went, Goes, IsStart}
use Rattle.config_live.specs.Walks.{GoesOver}
use Rattle.config_live.specs.Heads.{read_by_head, CallsFrom}
use Rattle.config_live.proofs.Truths.{and_all, or_more}
use Rattle.config_live.proofs.Ways.{goes_back, reads_goes}

lists_at_start : (n : ℕ) (way : Way) → IsStart n way → Lists way.reads way.read
lists_at_start n way s f l =
    ap (is_listed f) s.none_listed
    ∙ sym (s.none_read f (let e = s.all_read in omega arith))

itself_out : (t : Bool) → (t && not t) ≡ false
itself_out true = refl
itself_out false = refl

pub from_start : (table : LiveTable) (p : Procedure) (old one two last : Way) (written : List ℕ)
    (left : List Bool) (c : CallFields)
    → Went (λ f. read_by_head f p) nothing old one
    → GoesOver table p.body one two [] written
    → Changed (λ f held. held && not (is_listed f written)) two.written left
    → c.read_first ≡ two.reads
    → c.surely_written ≡ written
    → last.reads ≡ []
    → Changed (λ f held. held && not (is_listed f two.reads)) two.read last.read
    → last.written ≡ left
    → CallsFrom table p old last c
from_start table p old one two last written left c h k out taken kept none gone same n s =
    let head = λ (f : ℕ). read_by_head f p in
    let body = λ (f : ℕ). live (calls_in table) f p.body false in
    let sure = λ (f : ℕ). surely_writes (writes_surely table) f p.body in
    let whole : Goes (λ f. head f || body f) sure old two [] written =
    reads_goes head body sure old one two [] written h k in
    let back = goes_back (λ f. head f || body f) sure old two written left whole out in
    let lists = whole.went.listed (lists_at_start n old s) in
    let wide : length two.read ≡ n = whole.went.same_read ∙ s.all_read in (
      record {
        reads = λ f l.
            ap (is_listed f) taken
            ∙ lists f (omega arith)
            ∙ whole.went.read f (record {
              of_read = let e = s.all_read in omega arith;
              of_written = let e = s.all_written in omega arith;
            })
            ∙ ap₂ (λ x y. x || ((head f || body f) && not y)) (s.none_read f l) (s.none_written f l)
            ∙ and_all (head f || body f)
            ∙ or_more (read_by_params f p.params) (read_by_conditions f p.asserts) (body f);
        writes = λ f l.
            ap (is_listed f) kept
            ∙ whole.added f (record {
              of_read = let e = s.all_read in omega arith;
              of_written = let e = s.all_written in omega arith;
            })
            ∙ ap (λ y. sure f && not y) (s.none_written f l)
            ∙ and_all (sure f);
      },
      record {
        all_read = gone.same_length ∙ wide;
        all_written = ap length same ∙ back.same_written ∙ s.all_written;
        none_read = λ f l.
            gone.each f (omega arith)
            ∙ ap (λ x. contains two.read f && not x) (lists f (omega arith))
            ∙ itself_out (contains two.read f);
        none_written = λ f l.
            ap (λ x. contains x f) same
            ∙ back.written f (record {
              of_read = let e = s.all_read in omega arith;
              of_written = let e = s.all_written in omega arith;
            })
            ∙ ap (λ x. x || false) (s.none_written f l);
        none_listed = none;
      },
    )
