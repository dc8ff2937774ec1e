use Rattle.std.proofs.Common.{rules, inl, inr, Some, None, refl, ◌≡◌, ◌∙◌, ap, sym, subst, List, ℕ, Option, IfOk}
use Rattle.std.specs.Option.{option_map}
use Rattle.gix_ref_edits.specs.RefEdits.{name_of}
use Rattle.gix_ref_name.specs.Names.{full_bytes, full_ref_bytes}
use Rattle.gix_ref_queries.specs.Resolving.{IsUnfollowedBy, targets_in}
use Rattle.gix_ref_session.specs.Clashes.{IsFindFailure, IsOwnUnread, SeesMade, SeesMissingEnd}
use Rattle.std.specs.Prelude.{is_some}
use Rattle.gix_ref_session.proofs.ClashLemmas.{err_map, find_map, own_missing, own_there, told, unread_as, makes_itself, makes_last, makes_none, makes_not}
use Rattle.gix_ref_queries.proofs.RowLemmas.{if_ok}
use Rattle.gix_ref_session.proofs.SeenClashes.{made_by_end, made_by_own}
use Rattle.gix_ref_session.proofs.clash.missing_name.Goals as goal

pub returns-then-expects_value-clause-makes : goal.returns-then-expects_value-clause-makes
returns-then-expects_value-clause-makes g c h records are =
    let find = targets_in g.F.Files.means c.args.store.now records in
    sym (makes_none find c.args.edit.now (sym c.expects_value.ensures ∙ c.if-expects_value.true))

pub returns-then-edit-clause-makes : goal.returns-then-edit-clause-makes
returns-then-edit-clause-makes g c h records are =
    let find = targets_in g.F.Files.means c.args.store.now records in
    subst (λ (made : Option (List ℕ)). IfOk c.missing_end.result (λ last. option_map full_bytes last ≡ made)) (sym (makes_last find c.args.edit.now (sym c.expects_value.ensures ∙ c.if-expects_value.false) c.if-edit.true))
    (c.missing_end.ensures.ends h records are)

pub returns-then-branch-clause-makes : goal.returns-then-branch-clause-makes
returns-then-branch-clause-makes g c h records are =
    let find = targets_in g.F.Files.means c.args.store.now records in
    sym (makes_not find c.args.edit.now (sym c.expects_value.ensures ∙ c.if-expects_value.false) c.if-edit.false
    (sym (c.in_ok-exists.ensures.finds h records are ∙ ap (λ (name : List ℕ). is_some (find name)) c.as_ref.ensures) ∙ c.if-branch.true))

pub returns-clause-makes : goal.returns-clause-makes
returns-clause-makes g c h records are =
    let find = targets_in g.F.Files.means c.args.store.now records in
    let same : full_bytes c.in_ok-clone.field-0 ≡ name_of c.args.edit.now = search rules in
    ap Some same ∙ sym (makes_itself find c.args.edit.now (sym c.expects_value.ensures ∙ c.if-expects_value.false) c.if-edit.false
    (sym (c.in_ok-exists.ensures.finds h records are ∙ ap (λ (name : List ℕ). is_some (find name)) c.as_ref.ensures) ∙ c.if-branch.false))

pub returns-then-edit-clause-fails : goal.returns-then-edit-clause-fails
returns-then-edit-clause-fails g c =
    let F = g.F.Files in
    let G = g.F.Reader.ReadAt in
    let old = c.args.store.now in
    let edit = c.args.edit.now in
    err_map c.missing_end.result (IsFindFailure (IsUnfollowedBy G F.honest F.means F.faults old (name_of edit))) (IsFindFailure (IsOwnUnread F.honest F.means F.faults G old edit)) c.missing_end.ensures.fails (find_map (λ error u. inr (c.if-edit.true, u)))

pub returns-in_err-exists-clause-fails : goal.returns-in_err-exists-clause-fails
returns-in_err-exists-clause-fails g c =
    let F = g.F.Files in
    let G = g.F.Reader.ReadAt in
    let old = c.args.store.now in
    let edit = c.args.edit.now in
    let fatal = c.in_err-exists.field-0.0 in
    told c.from_residual.result fatal (IsFindFailure (IsOwnUnread F.honest F.means F.faults G old edit)) c.from_residual.ensures.1
    (find_map (λ error u. inl (unread_as G F.honest F.means F.faults old (name_of edit) (full_ref_bytes c.as_ref.result) error c.as_ref.ensures u)) fatal c.in_err-exists.ensures.fails)

pub returns-then-expects_value-clause-seen : goal.returns-then-expects_value-clause-seen
returns-then-expects_value-clause-seen g c h = inl (sym c.expects_value.ensures ∙ c.if-expects_value.true, refl)

pub returns-then-edit-clause-seen : goal.returns-then-edit-clause-seen
returns-then-edit-clause-seen g c h =
    if_ok c.missing_end.result (λ last. SeesMissingEnd g.F.Files.means c.args.store.now (name_of c.args.edit.now) (option_map full_bytes last)) (λ last. SeesMade g.F.Files.means c.args.store.now c.args.edit.now (option_map full_bytes last))
    (λ last. made_by_end g.F.Files.means c.args.store.now c.args.edit.now (option_map full_bytes last) (sym c.expects_value.ensures ∙ c.if-expects_value.false) c.if-edit.true) (c.missing_end.ensures.seen h)

pub returns-then-branch-clause-seen : goal.returns-then-branch-clause-seen
returns-then-branch-clause-seen g c h =
    let edit = c.args.edit.now in
    made_by_own g.F.Files.means c.args.store.now edit None (full_ref_bytes c.as_ref.result) c.in_ok-exists.field-0 (sym c.expects_value.ensures ∙ c.if-expects_value.false) c.if-edit.false c.as_ref.ensures
    (λ target is. sym (own_there (name_of edit) target (sym is ∙ c.if-branch.true))) (c.in_ok-exists.ensures.seen h)

pub returns-clause-seen : goal.returns-clause-seen
returns-clause-seen g c h =
    let edit = c.args.edit.now in
    let same : full_bytes c.in_ok-clone.field-0 ≡ name_of edit = search rules in
    made_by_own g.F.Files.means c.args.store.now edit (Some (full_bytes c.in_ok-clone.field-0)) (full_ref_bytes c.as_ref.result) c.in_ok-exists.field-0 (sym c.expects_value.ensures ∙ c.if-expects_value.false) c.if-edit.false c.as_ref.ensures
    (λ target is. ap Some same ∙ sym (own_missing (name_of edit) target (sym is ∙ c.if-branch.false))) (c.in_ok-exists.ensures.seen h)
