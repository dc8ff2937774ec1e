use Rattle.std.proofs.Common.{codes, List, ℕ, [], sym, subst}
use Rattle.gix_ref_files.proofs.Meeting.{fewer_same}
use Rattle.gix_ref_store.specs.Listings.{AreHeldFor}
use Rattle.gix_ref_store.proofs.Walked.{read_for, records_on, walked_on}
use Rattle.gix_ref_queries.specs.Rows.{AreListedIn, EndsAtItem, as_items}
use Rattle.gix_ref_queries.proofs.Listed.{fault_given, follow_files, follows_walked}
use Rattle.gix_ref_queries.proofs.listing.list_asked.Goals as goal

pub returns-in-Ok-collect_among-clause-lists : goal.returns-in-Ok-collect_among-clause-lists
returns-in-Ok-collect_among-clause-lists g c =
    let F = g.F.Files in
    let opened = c.in-Ok-open_packed_prefixed in
    let start = c.args.store.now in
    let mid = c.walk_prefixed.new.self in
    let now = c.open_packed_prefixed.new.self in
    let new = c.collect_among.new.store in
    let names = c.in-Ok.names in
    let finds = c.in-Ok-collect_among.ensures.finds in
    let walked = λ (h : F.honest). walked_on F.honest F.means F.faults start mid now names (c.in-Ok.ensures.walks h) opened.ensures.unchanged (fewer_same _ _ opened.ensures.no_fault) in (
      c.in-Ok.ensures.judged,
      finds.0,
      finds.1,
      λ h.
          let gives = (finds.2 h).0 in (
            follow_files F.honest F.means F.faults start (codes "refs/") gives.0 finds.0
                (follows_walked F.honest F.means F.faults h start mid now (codes "refs/") names opened.packed c.as_ref.result c.in-Ok.ensures.unchanged c.in-Ok.ensures.asked c.as_ref.ensures.value (opened.ensures.asked h) (walked h) gives.0 gives.1)
                gives.2,
            λ records are.
                subst (λ (p : List ℕ). AreListedIn F.honest F.means F.faults start new records p [] (as_items finds.0)) c.in-Ok.ensures.asked
                ((finds.2 h).1 start records (walked h)
                (subst (λ (p : List ℕ). AreHeldFor now p c.as_ref.result records) (sym c.in-Ok.ensures.asked)
                (read_for F.honest F.means mid now (codes "refs/") opened.packed c.as_ref.result records opened.ensures.unchanged c.as_ref.ensures.value (opened.ensures.holds h records (records_on F.honest F.means start mid records h c.in-Ok.ensures.unchanged are))))),
          ),
    )

pub returns-in-Ok-open_packed_prefixed-clause-lists : goal.returns-in-Ok-open_packed_prefixed-clause-lists
returns-in-Ok-open_packed_prefixed-clause-lists g c h =
    let F = g.F.Files in
    let opened = c.in-Ok-open_packed_prefixed in
    let start = c.args.store.now in
    let mid = c.walk_prefixed.new.self in
    let now = c.open_packed_prefixed.new.self in
    let new = c.collect_among.new.store in
    let names = c.in-Ok.names in
    let error = c.in-Err-collect_among.error in
    let finds = c.in-Err-collect_among.ensures.finds h in
    let walked = walked_on F.honest F.means F.faults start mid now names (c.in-Ok.ensures.walks h) opened.ensures.unchanged (fewer_same _ _ opened.ensures.no_fault) in (
      fault_given F.honest F.means F.faults start now new (codes "refs/") names c.as_ref.result error
          (follows_walked F.honest F.means F.faults h start mid now (codes "refs/") names opened.packed c.as_ref.result c.in-Ok.ensures.unchanged c.in-Ok.ensures.asked c.as_ref.ensures.value (opened.ensures.asked h) walked)
          finds.0,
      λ records are.
          subst (λ (p : List ℕ). EndsAtItem F.honest F.means F.faults start new records p error) c.in-Ok.ensures.asked
          (finds.1 start records walked
          (subst (λ (p : List ℕ). AreHeldFor now p c.as_ref.result records) (sym c.in-Ok.ensures.asked)
          (read_for F.honest F.means mid now (codes "refs/") opened.packed c.as_ref.result records opened.ensures.unchanged c.as_ref.ensures.value (opened.ensures.holds h records (records_on F.honest F.means start mid records h c.in-Ok.ensures.unchanged are))))),
    )
