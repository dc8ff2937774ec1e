use Rattle.std.proofs.Common.{sym, subst, List, ℕ}
use Rattle.gix_ref_files.proofs.Meeting.{fewer_same}
use Rattle.std.specs.Prelude.{IfOk}
use Rattle.gix_ref_listing.specs.CleanPrefixes.{IsRefusedPrefix}
use Rattle.gix_ref_store.specs.Listings.{AreHeldFor, FollowsText, IsNoPlatformListing, IteratesListing, LacksNoLoose, platform_store}
use Rattle.gix_ref_store.proofs.Platforms.{not_opened}
use Rattle.gix_ref_store.proofs.Walked.{looks_on, read_for, records_on, walked_on}
use Rattle.gix_ref_lookup.proofs.Opening.{if_ok, ok_of}
use Rattle.gix_ref_listing.specs.PackedTexts.{IsTextOf}
use Rattle.gix_ref_listing.specs.WholeListings.{key_in}
use Rattle.gix_ref_store.specs.Lookup.{settings_of}
use Rattle.gix_ref_store.proofs.CompleteListings.{follows_file}
use Rattle.gix_ref_store.proofs.file.iter.Platform+F.prefixed.Goals as goal

pub returns-clause-lists : goal.returns-clause-lists
returns-clause-lists g c h records are =
    let F = g.F.Files in
    let start = platform_store c.args.self.now in
    let mid = c.walk_prefixed.new.self in
    let now = c.open_packed_prefixed.new.self in
    let names = c.in_ok-names.names in
    let prefix = c.args.prefix.now in
    let asked = c.in_ok-names.ensures.asked in
    let read = c.in-Ok.ensures.holds h records (records_on F.honest F.means start mid records h c.in_ok-names.ensures.unchanged are) in
    let held = read_for F.honest F.means mid now prefix c.in-Ok.packed c.as_ref.result records c.in-Ok.ensures.unchanged c.as_ref.ensures.value read in
    subst (λ (p : List ℕ). IfOk c.iter_walked.result (IteratesListing F.honest F.means F.faults start records p)) asked
    (c.iter_walked.ensures.lists h start records (walked_on F.honest F.means F.faults start mid now names (c.in_ok-names.ensures.walks h) c.in-Ok.ensures.unchanged (fewer_same _ _ c.in-Ok.ensures.no_fault))
    (subst (λ (p : List ℕ). AreHeldFor now p c.as_ref.result records) (sym asked) held))

pub returns-clause-complete : goal.returns-clause-complete
returns-clause-complete g c h =
    let F = g.F.Files in
    let start = platform_store c.args.self.now in
    let mid = c.walk_prefixed.new.self in
    let now = c.open_packed_prefixed.new.self in
    let names = c.in_ok-names.names in
    let prefix = c.args.prefix.now in
    let walked = walked_on F.honest F.means F.faults start mid now names (c.in_ok-names.ensures.walks h) c.in-Ok.ensures.unchanged (fewer_same _ _ c.in-Ok.ensures.no_fault) in
    let of_walk = c.iter_walked.ensures.complete h start walked in
    follows_file F.honest F.means F.faults h start mid prefix c.in-Ok.packed c.as_ref.result c.in_ok-names.ensures.unchanged c.as_ref.ensures.value (c.in-Ok.ensures.asked h) c.iter_walked.result
    (subst (λ (p : List ℕ). IfOk c.iter_walked.result (LacksNoLoose F.honest F.means F.faults start p)) c.in_ok-names.ensures.asked of_walk.0)
    (λ text of. subst (λ (p : List ℕ). IfOk c.iter_walked.result (FollowsText F.honest F.means F.faults start p text)) c.in_ok-names.ensures.asked
    (of_walk.1 text (subst (λ (p : List ℕ). IsTextOf (key_in (settings_of start) p) c.as_ref.result text) (sym c.in_ok-names.ensures.asked) of)))

pub returns-in-Err-clause-refused : goal.returns-in-Err-clause-refused
returns-in-Err-clause-refused g c =
    let F = g.F.Files in
    let G = g.F.Reader.ReadAt in
    let store = platform_store c.args.self.now in
    let refused = IsRefusedPrefix store.namespace c.args.prefix.now in
    subst (IsNoPlatformListing G F.honest F.means F.faults store refused) (sym c.of_open.ensures)
    (not_opened G F.honest F.means F.faults store c.walk_prefixed.new.self c.open_packed_prefixed.new.self refused c.in-Err.error c.in_ok-names.ensures.unchanged (λ h. c.in_ok-names.ensures.counts)
    c.in-Err.ensures.unchanged c.in-Err.ensures.refused c.in-Err.ensures.failed)

pub returns-clause-looks_up : goal.returns-clause-looks_up
returns-clause-looks_up g c =
    let F = g.F.Files in
    let start = platform_store c.args.self.now in
    let mid = c.walk_prefixed.new.self in
    let now = c.open_packed_prefixed.new.self in
    let looked = looks_on F.honest F.means start mid now c.in_ok-names.ensures.unchanged c.in-Ok.ensures.unchanged in
    if_ok c.iter_walked.result (λ it more. looks_on F.honest F.means start now it.store.now looked more) (ok_of _ _ c.iter_walked.result c.iter_walked.ensures.made)
