use Rattle.std.proofs.Common.{sym, subst, List, ℕ}
use Rattle.gix_ref_files.proofs.Meeting.{fewer_same}
use Rattle.gix_ref_store.specs.Listings.{AreHeldFor, walked_prefix}
use Rattle.gix_ref_store.specs.Store.{files_of}
use Rattle.gix_ref_store.proofs.Walked.{read_for, records_on, refused_before, walked_on}
use Rattle.gix_ref_read_back.proofs.EditedListings.{listed_from}
use Rattle.gix_ref_read_back.proofs.list.list.Goals as goal

pub returns-in-Ok-open_packed_prefixed-clause-lists : goal.returns-in-Ok-open_packed_prefixed-clause-lists
returns-in-Ok-open_packed_prefixed-clause-lists g c =
    let F = g.F.Files in
    let opened = c.in-Ok-open_packed_prefixed in
    let start = c.args.store.now in
    let mid = c.walk_prefixed.new.self in
    let now = c.open_packed_prefixed.new.self in
    let names = c.in-Ok.names in
    let prefix = c.args.prefix.now in
    listed_from F.honest F.means F.faults g.F.Reader.ReadAt start now c.list_among.new.store prefix names (AreHeldFor now (walked_prefix names) c.as_ref.result) c.in-Ok.ensures.judged c.in-Ok.ensures.asked
    (λ h. walked_on F.honest F.means F.faults start mid now names (c.in-Ok.ensures.walks h) opened.ensures.unchanged (fewer_same _ _ opened.ensures.no_fault))
    (λ h records are.
    subst (λ (p : List ℕ). AreHeldFor now p c.as_ref.result records) (sym c.in-Ok.ensures.asked)
    (read_for F.honest F.means mid now prefix opened.packed c.as_ref.result records opened.ensures.unchanged c.as_ref.ensures.value (opened.ensures.holds h records (records_on F.honest F.means start mid records h c.in-Ok.ensures.unchanged are))))
    c.list_among.result c.list_among.ensures.lists

pub returns-in-Err-open_packed_prefixed-clause-lists : goal.returns-in-Err-open_packed_prefixed-clause-lists
returns-in-Err-open_packed_prefixed-clause-lists g c = λ h.
    let F = g.F.Files in
    let start = c.args.store.now in
    let mid = c.walk_prefixed.new.self in
    let refused = c.in-Err-open_packed_prefixed in
    (refused_before F.honest F.means start mid refused.error h c.in-Ok.ensures.unchanged (refused.ensures.refused h), (F.faults (files_of mid), c.in-Ok.ensures.counts, refused.ensures.failed h))
