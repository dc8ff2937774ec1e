use Rattle.std.proofs.Common.{List, Bor, ℕ, sym, subst}
use Rattle.gix_ref_queries.specs.Resolving.{targets_in}
use Rattle.gix_ref_queries.proofs.Names.{same_records}
use Rattle.gix_ref_session.specs.Clashes.{AreNamesOf, IsClashFailure, IsClearEdit, ListsNone, SeesClearEdit}
use Rattle.gix_ref_session.proofs.ClashLemmas.{all_taken, clear_edit_before, edit_look_before, free_after, free_before, told}
use Rattle.gix_ref_session.proofs.Looking.{looks_on}
use Rattle.gix_ref_session.proofs.SeenClashes.{clear_edit_before as sees_clear_before, free_after as sees_free_after, free_before as sees_free_before}
use Rattle.gix_ref_session.proofs.clash.check_names.Goals as goal

pub returns-in_err-last-clause-fails : goal.returns-in_err-last-clause-fails
returns-in_err-last-clause-fails g c =
    let F = g.F.Files in
    let G = g.F.Reader.ReadAt in
    let first = c.args.store.now in
    let edits = c.args.edits.now in
    let fatal = c.in_err-last.field-0.0 in
    let names = subst (λ (ns : List (Bor (List ℕ))). AreNamesOf edits ns) (sym c.deref.ensures.value) c.in_ok-edited.ensures in
    told c.from_residual-in_err-last.result fatal (IsClashFailure F.honest F.means F.faults G first edits) c.from_residual-in_err-last.ensures.1
    (edit_look_before F.honest F.means first c.loop-edit.store c.loop-edit.invariant.looked F.faults G edits c.loop-edit.edit-index c.edit-item.result fatal c.loop-edit-test.true c.edit-item.is (c.in_err-last.ensures.fails edits names))

pub loop-edit-preserved : goal.loop-edit-preserved
loop-edit-preserved g c =
    let F = g.F.Files in
    let first = c.args.store.now in
    let mid = c.loop-edit.store in
    let edits = c.args.edits.now in
    let looked = c.loop-edit.invariant.looked in
    let names = subst (λ (ns : List (Bor (List ℕ))). AreNamesOf edits ns) (sym c.deref.ensures.value) c.in_ok-edited.ensures in
    let last = c.loop-edit.last.items in
    record {
      looked = looks_on F.honest F.means first mid c.check_name.new.store looked c.check_name.ensures.unchanged;
      clear = λ h records are.
          all_taken (IsClearEdit (targets_in F.means first records) edits (ListsNone F.honest F.means first records)) edits c.loop-edit.edit-index c.edit-item.result c.loop-edit-test.true (c.loop-edit.invariant.clear h records are) c.edit-item.is
          (clear_edit_before F.honest F.means first mid looked records edits c.edit-item.result h
          (c.in_ok-last.ensures.clear h records (same_records F.honest F.means first mid records looked h are) edits names (free_after F.honest F.means first mid looked records edits last h (c.loop-edit.invariant.free h records are))));
      seen = λ h.
          let now = c.in_ok-last.ensures.seen h edits names (sees_free_after F.honest F.means F.faults first mid looked h edits last (c.loop-edit.invariant.seen_free h)) in
          all_taken (SeesClearEdit F.honest F.means F.faults first edits) edits c.loop-edit.edit-index c.edit-item.result c.loop-edit-test.true (c.loop-edit.invariant.seen h) c.edit-item.is
          (sees_clear_before F.honest F.means F.faults first mid looked h edits c.edit-item.result now.0);
      seen_free = λ h.
          sees_free_before F.honest F.means F.faults first mid looked h edits c.in_ok-last.last.items (c.in_ok-last.ensures.seen h edits names (sees_free_after F.honest F.means F.faults first mid looked h edits last (c.loop-edit.invariant.seen_free h))).1;
      free = λ h records are.
          free_before F.honest F.means first mid looked records edits c.in_ok-last.last.items h
          (c.in_ok-last.ensures.free h records (same_records F.honest F.means first mid records looked h are) edits names (free_after F.honest F.means first mid looked records edits last h (c.loop-edit.invariant.free h records are)));
    }
