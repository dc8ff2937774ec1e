use Rattle.std.proofs.Common.{IfOk, List, ℕ, sym, subst}
use Rattle.std.specs.Prelude.{MatchBool}
use Rattle.gix_ref_files.proofs.Meeting.{fewer_same}
use Rattle.gix_ref_store.specs.Listings.{AreHeldFor}
use Rattle.gix_ref_store.proofs.Walked.{read_for, records_on, walked_on}
use Rattle.gix_ref_session.specs.Clashes.{ListsNone, ListsOne}
use Rattle.gix_ref_session.proofs.ClashLemmas.{open_failed, walk_failed}
use Rattle.gix_ref_queries.proofs.Listed.{follows_walked}
use Rattle.gix_ref_session.proofs.SeenClashes.{below_seen}
use Rattle.gix_ref_session.proofs.clash.has_below.Goals as goal

pub returns-in-Err-clause-fails : goal.returns-in-Err-clause-fails
returns-in-Err-clause-fails g c =
    let F = g.F.Files in
    walk_failed F.honest F.means F.faults g.F.Reader.ReadAt c.args.store.now c.args.prefix.now c.in-Err.error c.in-Err.ensures.judged

pub returns-in-Ok-open_packed_prefixed-clause-lists : goal.returns-in-Ok-open_packed_prefixed-clause-lists
returns-in-Ok-open_packed_prefixed-clause-lists g c h records are =
    let F = g.F.Files in
    let opened = c.in-Ok-open_packed_prefixed in
    let start = c.args.store.now in
    let mid = c.walk_prefixed.new.self in
    let now = c.open_packed_prefixed.new.self in
    subst (λ (p : List ℕ). IfOk c.lists_one.result (λ any. MatchBool any (ListsOne F.honest F.means F.faults start records p) (ListsNone F.honest F.means start records p))) c.in-Ok.ensures.asked
    (c.lists_one.ensures.lists h start records (walked_on F.honest F.means F.faults start mid now c.in-Ok.names (c.in-Ok.ensures.walks h) opened.ensures.unchanged (fewer_same _ _ opened.ensures.no_fault))
    (subst (λ (p : List ℕ). AreHeldFor now p c.as_ref.result records) (sym c.in-Ok.ensures.asked)
    (read_for F.honest F.means mid now c.args.prefix.now opened.packed c.as_ref.result records opened.ensures.unchanged c.as_ref.ensures.value (opened.ensures.holds h records (records_on F.honest F.means start mid records h c.in-Ok.ensures.unchanged are)))))

pub returns-in-Err-open_packed_prefixed-clause-fails : goal.returns-in-Err-open_packed_prefixed-clause-fails
returns-in-Err-open_packed_prefixed-clause-fails g c =
    let F = g.F.Files in
    let refused = c.in-Err-open_packed_prefixed in
    open_failed F.honest F.means F.faults g.F.Reader.ReadAt c.args.store.now c.walk_prefixed.new.self c.open_packed_prefixed.new.self c.args.prefix.now refused.error c.walk_prefixed.ensures.unchanged refused.ensures.refused refused.ensures.failed

pub returns-in-Ok-open_packed_prefixed-clause-seen : goal.returns-in-Ok-open_packed_prefixed-clause-seen
returns-in-Ok-open_packed_prefixed-clause-seen g c h =
    let F = g.F.Files in
    let opened = c.in-Ok-open_packed_prefixed in
    let start = c.args.store.now in
    let mid = c.walk_prefixed.new.self in
    let now = c.open_packed_prefixed.new.self in
    let prefix = c.args.prefix.now in
    below_seen F.honest F.means F.faults start now prefix c.in-Ok.names c.as_ref.result c.lists_one.result
    (follows_walked F.honest F.means F.faults h start mid now prefix c.in-Ok.names opened.packed c.as_ref.result c.in-Ok.ensures.unchanged c.in-Ok.ensures.asked c.as_ref.ensures.value (opened.ensures.asked h)
    (walked_on F.honest F.means F.faults start mid now c.in-Ok.names (c.in-Ok.ensures.walks h) opened.ensures.unchanged (fewer_same _ _ opened.ensures.no_fault))) (c.lists_one.ensures.seen h)
