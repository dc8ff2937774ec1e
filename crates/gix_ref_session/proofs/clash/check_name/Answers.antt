use Rattle.std.proofs.Common.{◌∙◌, ap, sym, subst, List, ℕ, Option}
use Rattle.std.specs.Option.{option_map}
use Rattle.std.specs.Prelude.{IfSome}
use Rattle.gix_ref_name.specs.Names.{full_bytes}
use Rattle.gix_ref_queries.specs.Resolving.{targets_in}
use Rattle.gix_ref_queries.proofs.Names.{same_records}
use Rattle.gix_ref_session.specs.Clashes.{HasFreeFolders, IsClearName, IsEditFailure, ListsNone, SeesClashes, SeesFreeFolders}
use Rattle.gix_ref_session.proofs.ClashLemmas.{clear_before, free_after, name_edit_before, own_edit, told, way_before}
use Rattle.gix_ref_session.proofs.SeenClashes.{cleared, way_before as sees_way_before}
use Rattle.gix_ref_session.proofs.clash.check_name.Goals as goal

pub returns-in_err-is_in_the_way-clause-fails : goal.returns-in_err-is_in_the_way-clause-fails
returns-in_err-is_in_the_way-clause-fails g c edits names =
    let F = g.F.Files in
    let G = g.F.Reader.ReadAt in
    let old = c.args.store.now in
    let edit = c.args.edit.now in
    let fatal = c.in_err-is_in_the_way.field-0.0 in
    told c.from_residual-in_err-is_in_the_way.result fatal (IsEditFailure F.honest F.means F.faults G old edits edit) c.from_residual-in_err-is_in_the_way.ensures.1
    (name_edit_before F.honest F.means old c.missing_name.new.store c.missing_name.ensures.unchanged F.faults G edits edit (full_bytes c.in-Some.name) fatal
    (λ h records are. sym (c.in_ok-name.ensures.makes h records are) ∙ ap (option_map full_bytes) c.in-Some.is) c.in_err-is_in_the_way.ensures.fails)

pub returns-then-branch-clause-fails : goal.returns-then-branch-clause-fails
returns-then-branch-clause-fails g c edits names =
    let F = g.F.Files in
    let old = c.args.store.now in
    let mid = c.missing_name.new.store in
    let looked = c.missing_name.ensures.unchanged in
    record {
      makes = λ h records are. sym (c.in_ok-name.ensures.makes h records are) ∙ ap (option_map full_bytes) c.in-Some.is;
      in_the_way = λ h records are.
          way_before F.honest F.means old mid looked F.faults records edits (full_bytes c.in-Some.name) h
          (c.in_ok-is_in_the_way.ensures.clashes h records (same_records F.honest F.means old mid records looked h are) edits names c.if-branch.true);
      seen = λ h. (
        rw c.in-Some.is at (c.in_ok-name.ensures.seen h),
        sees_way_before F.honest F.means F.faults old mid looked h edits (full_bytes c.in-Some.name)
            (subst (SeesClashes F.honest F.means F.faults mid edits c.deref.result.now (full_bytes c.in-Some.name)) c.if-branch.true (c.in_ok-is_in_the_way.ensures.seen h edits names)),
      );
    }

pub returns-clause-clear : goal.returns-clause-clear
returns-clause-clear g c h records are edits names free =
    let F = g.F.Files in
    let old = c.args.store.now in
    let mid = c.missing_name.new.store in
    let looked = c.missing_name.ensures.unchanged in
    let last = subst (λ (n : List ℕ). HasFreeFolders (targets_in F.means mid records) edits n) (sym c.deref.ensures.value) (free_after F.honest F.means old mid looked records edits c.args.last.items h free) in
    subst (λ (made : Option (List ℕ)). IfSome made (IsClearName (targets_in F.means old records) edits (ListsNone F.honest F.means old records))) (sym (sym (c.in_ok-name.ensures.makes h records are) ∙ ap (option_map full_bytes) c.in-Some.is))
    (clear_before F.honest F.means old mid looked records edits (full_bytes c.in-Some.name) h
    (c.in_ok-is_in_the_way.ensures.clear h records (same_records F.honest F.means old mid records looked h are) edits names last c.if-branch.false))

pub returns-clause-free : goal.returns-clause-free
returns-clause-free g c h records are edits names free =
    let F = g.F.Files in
    let old = c.args.store.now in
    let mid = c.missing_name.new.store in
    let looked = c.missing_name.ensures.unchanged in
    let last = subst (λ (n : List ℕ). HasFreeFolders (targets_in F.means mid records) edits n) (sym c.deref.ensures.value) (free_after F.honest F.means old mid looked records edits c.args.last.items h free) in
    subst (λ (n : List ℕ). HasFreeFolders (targets_in F.means old records) edits n) (sym c.into_inner.ensures)
    (clear_before F.honest F.means old mid looked records edits (full_bytes c.in-Some.name) h
    (c.in_ok-is_in_the_way.ensures.clear h records (same_records F.honest F.means old mid records looked h are) edits names last c.if-branch.false)).folders

pub returns-in_err-name-clause-fails : goal.returns-in_err-name-clause-fails
returns-in_err-name-clause-fails g c edits names =
    let F = g.F.Files in
    let G = g.F.Reader.ReadAt in
    let old = c.args.store.now in
    let edit = c.args.edit.now in
    let fatal = c.in_err-name.field-0.0 in
    told c.from_residual.result fatal (IsEditFailure F.honest F.means F.faults G old edits edit) c.from_residual.ensures.1
    (own_edit G F.honest F.means F.faults old edits edit fatal c.in_err-name.ensures.fails)

pub returns-clause-seen : goal.returns-clause-seen
returns-clause-seen g c h edits names free =
    let F = g.F.Files in
    let old = c.args.store.now in
    let mid = c.missing_name.new.store in
    let name = full_bytes c.in-Some.name in
    let clear = subst (SeesClashes F.honest F.means F.faults mid edits c.deref.result.now name) c.if-branch.false (c.in_ok-is_in_the_way.ensures.seen h edits names) in
    let is = cleared F.honest F.means F.faults old mid c.missing_name.ensures.unchanged h edits c.args.edit.now c.deref.result.now name (rw c.in-Some.is at (c.in_ok-name.ensures.seen h)) clear (subst (λ (n : List ℕ). SeesFreeFolders F.means old edits n) (sym c.deref.ensures.value) free) in
    (is.0, subst (λ (n : List ℕ). SeesFreeFolders F.means old edits n) (sym c.into_inner.ensures) is.1)
