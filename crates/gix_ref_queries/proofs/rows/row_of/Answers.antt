use Rattle.std.proofs.Common.{◌≡◌, ◌∙◌, ℕ, Option, Vec}
use Rattle.std.specs.Option.{option_map}
use Rattle.std.specs.declared.alloc.Global.{Global}
use Rattle.gix_ref_name.specs.Names.{full_bytes, full_ref_bytes}
use Rattle.gix_ref_queries.specs.Resolving.{IsUnread, targets_in, resolved}
use Rattle.gix_ref_queries.specs.Rows.{IsRowError, IsUnreadRow, SeesFollowedRow, SeesRow, followed_row, row_of}
use Rattle.gix_ref_queries.proofs.Names.{same_finds, same_records}
use Rattle.gix_ref_queries.proofs.RowLemmas.{if_err, if_ok, row_direct, row_led, sees_direct, sees_led, unread_short, unread_symbolic}
use Rattle.gix_ref_queries.proofs.rows.row_of.Goals as goal

pub returns-in_ok-text-in-Object-clause-rows : goal.returns-in_ok-text-in-Object-clause-rows
returns-in_ok-text-in-Object-clause-rows g c h records are =
    row_direct (targets_in g.F.Files.means c.args.store.now records) c.args.parts.now c.args.reference.now _ (full_ref_bytes c.as_ref-name.result) c.to_path.result.now c.in-Ok.short.now c.in_ok-text-in-Object.text.items c.in-Object.is
    c.as_ref-name.ensures (c.to_path.ensures.bytes ∙ c.as_ref-name.ensures) (c.in-Ok.ensures.short h records are) c.in_ok-text-in-Object.ensures

pub returns-in-Symbolic-clause-rows : goal.returns-in-Symbolic-clause-rows
returns-in-Symbolic-clause-rows g c h records are =
    let F = g.F.Files in
    let old = c.args.store.now in
    let mid = c.shown_short.new.store in
    let looked = c.shown_short.ensures.unchanged in
    let find = targets_in F.means old records in
    let parts = c.args.parts.now in
    let name = full_ref_bytes c.as_ref-name.result in
    let short = c.in-Ok.short.now in
    let texts = λ (row : Option (Vec ℕ Global)). option_map (λ (text : Vec ℕ Global). text.items) row in
    if_ok c.followed_row.result (λ o. texts o ≡ followed_row parts name short (resolved (targets_in F.means mid records) 5 name)) (λ o. texts o ≡ row_of find parts c.args.reference.now)
    (λ o is. row_led find (targets_in F.means mid records) parts c.args.reference.now c.in-Symbolic.field-0 name name short (texts o) c.in-Symbolic.is (same_finds F.honest F.means old mid records looked h)
    c.as_ref-name.ensures c.as_ref-name.ensures (c.in-Ok.ensures.short h records are) is) (c.followed_row.ensures.rows h records (same_records F.honest F.means old mid records looked h are))

pub returns-in-Symbolic-clause-failed : goal.returns-in-Symbolic-clause-failed
returns-in-Symbolic-clause-failed g c =
    let F = g.F.Files in
    let G = g.F.Reader.ReadAt in
    let old = c.args.store.now in
    let mid = c.shown_short.new.store in
    let parts = c.args.parts.now in
    let reference = c.args.reference.now in
    let name = full_ref_bytes c.as_ref-name.result in
    if_err c.followed_row.result (IsRowError (IsUnread G F.honest F.means F.faults mid name) name) (IsRowError (IsUnreadRow F.honest F.means F.faults G old parts reference) (full_bytes reference.name))
    (λ e is. unread_symbolic G F.honest F.means F.faults old mid parts reference c.in-Symbolic.field-0 name e c.shown_short.ensures.unchanged c.in-Symbolic.is c.as_ref-name.ensures is) c.followed_row.ensures.failed

pub returns-in-Err-clause-failed : goal.returns-in-Err-clause-failed
returns-in-Err-clause-failed g c =
    let F = g.F.Files in
    unread_short g.F.Reader.ReadAt F.honest F.means F.faults c.args.store.now c.args.parts.now c.args.reference.now (full_ref_bytes c.as_ref-name.result) c.in-Err.error c.as_ref-name.ensures c.in-Err.ensures.failed

pub returns-in_ok-text-in-Object-clause-seen : goal.returns-in_ok-text-in-Object-clause-seen
returns-in_ok-text-in-Object-clause-seen g c h =
    sees_direct g.F.Files.means c.args.store.now c.args.parts.now c.args.reference.now _ (full_ref_bytes c.as_ref-name.result) c.to_path.result.now c.in-Ok.short.now c.in_ok-text-in-Object.text.items c.in-Object.is
    c.as_ref-name.ensures (c.to_path.ensures.bytes ∙ c.as_ref-name.ensures) (c.in-Ok.ensures.seen h) c.in_ok-text-in-Object.ensures

pub returns-in-Symbolic-clause-seen : goal.returns-in-Symbolic-clause-seen
returns-in-Symbolic-clause-seen g c h =
    let F = g.F.Files in
    let old = c.args.store.now in
    let mid = c.shown_short.new.store in
    let parts = c.args.parts.now in
    let name = full_ref_bytes c.as_ref-name.result in
    let short = c.in-Ok.short.now in
    let texts = λ (row : Option (Vec ℕ Global)). option_map (λ (text : Vec ℕ Global). text.items) row in
    if_ok c.followed_row.result (λ o. SeesFollowedRow F.means mid parts name short (texts o)) (λ o. SeesRow F.means old parts c.args.reference.now (texts o))
    (λ o saw. sees_led F.honest F.means old mid c.shown_short.ensures.unchanged h parts c.args.reference.now c.in-Symbolic.field-0 name name short (texts o) c.in-Symbolic.is c.as_ref-name.ensures c.as_ref-name.ensures (c.in-Ok.ensures.seen h) saw)
    (c.followed_row.ensures.seen h)
