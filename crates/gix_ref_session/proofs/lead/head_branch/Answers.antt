use Rattle.std.proofs.Common.{◌≡◌, ◌∙◌, sym, subst, codes, Bool, List, ℕ, IfOk}
use Rattle.std.specs.Option.{option_map}
use Rattle.gix_ref_name.specs.Names.{full_bytes, full_ref_bytes}
use Rattle.gix_ref_queries.specs.Resolving.{IsUnreadBy, targets_in}
use Rattle.gix_ref_session.specs.Clashes.{IsFindFailure, IsHeadUnread}
use Rattle.gix_ref_session.proofs.ClashLemmas.{err_map, find_map, unread_as}
use Rattle.gix_ref_session.specs.Leading.{branch_of, next_of}
use Rattle.gix_ref_session.proofs.lead.head_branch.Goals as goal

pub returns-clause-branch : goal.returns-clause-branch
returns-clause-branch g c h records are =
    let find = targets_in g.F.Files.means c.args.store.now records in
    subst (λ (writes : Bool). IfOk c.next_name.result (λ branch. option_map full_bytes branch ≡ branch_of find writes)) (sym c.if-not-writes_lines.false)
    (subst (λ (name : List ℕ). IfOk c.next_name.result (λ branch. option_map full_bytes branch ≡ next_of (find name))) (c.as_ref.ensures ∙ c.in_ok-head.ensures.is_head) (c.next_name.ensures.reads h records are))

pub returns-clause-fails : goal.returns-clause-fails
returns-clause-fails g c =
    let F = g.F.Files in
    let G = g.F.Reader.ReadAt in
    let old = c.args.store.now in
    let at = full_ref_bytes c.as_ref.result in
    err_map c.next_name.result (IsFindFailure (IsUnreadBy G F.honest F.means F.faults old at)) (IsFindFailure (IsHeadUnread F.honest F.means F.faults G old c.args.writes_lines)) c.next_name.ensures.fails
    (find_map (λ error u. (c.if-not-writes_lines.false, unread_as G F.honest F.means F.faults old (codes "HEAD") at error (c.as_ref.ensures ∙ c.in_ok-head.ensures.is_head) u)))
