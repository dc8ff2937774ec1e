use Rattle.std.proofs.Common.{◌≡◌, ◌≢◌, ◌∙◌, [], sym, subst, List, ℕ, Vec, Global}
use Rattle.std.specs.List.{All}
use Rattle.std.proofs.lemmas.Slice.Eq.{bytes_eq-Decides}
use Rattle.gix_ref_files.specs.Tree.{Tree}
use Rattle.gix_ref_files.specs.Lock.{lock_of}
use Rattle.gix_ref_files.proofs.Meeting.{no_fewer_joins}
use Rattle.gix_ref_lookup.specs.Lookups.{meaning_in}
use Rattle.gix_ref_files.proofs.ReadOnly.{reads_more}
use Rattle.gix_ref_listing.proofs.StoreWalks.{all_none}
use Rattle.gix_ref_locks.specs.LockFiles.{IsLockFile}
use Rattle.gix_ref_locks.proofs.Failing.{fails_earlier}
use Rattle.gix_ref_locks.proofs.LockPlaces.{FindsIn, found_lock}
use Rattle.gix_ref_listing.proofs.CleanFolders.{clean_named}
use Rattle.gix_ref_locks.proofs.locks.find_locks.Goals as goal

pub search_in-requires-clause-folder : goal.search_in-requires-clause-folder
search_in-requires-clause-folder g c =
    let dirs = c.args.settings.dirs.now in
    subst (λ (p : List ℕ). p ≢ []) (sym c.common-common.ensures) (clean_named dirs.git_dir dirs.common_dir dirs.clean).1

pub search_in-requires-2-clause-folder : goal.search_in-requires-2-clause-folder
search_in-requires-2-clause-folder g c =
    let dirs = c.args.settings.dirs.now in
    subst (λ (p : List ℕ). p ≢ []) (sym c.deref.ensures.value) (clean_named dirs.git_dir dirs.common_dir dirs.clean).0

pub returns-then-eq-clause-looks : goal.returns-then-eq-clause-looks
returns-then-eq-clause-looks g c = reads_more _ _ _ _ _ _ c.look_for_packed_lock.ensures.looks c.search_in.ensures.looks

pub returns-then-eq-clause-only : goal.returns-then-eq-clause-only
returns-then-eq-clause-only g c h =
    let s = meaning_in c.args.settings in
    let T = (g.F.Files.means c.args.files.now).tree in
    let first = (c.look_for_packed_lock.ensures.looks.leaves h).tree in
    let packed = c.in_ok-look_for_packed_lock.ensures.only h (all_none (λ (p : Vec ℕ Global). IsLockFile s T p.items) c.new-found.result.keys c.new-found.ensures.len) in
    subst (λ (U : Tree). All (λ (p : Vec ℕ Global). IsLockFile s U p.items) c.search_in.new.found.keys) first
    (c.in_ok-search_in.ensures.only h (subst (λ (U : Tree). All (λ (p : Vec ℕ Global). IsLockFile s U p.items) c.look_for_packed_lock.new.found.keys) (sym first) packed))

pub returns-then-eq-clause-each : goal.returns-then-eq-clause-each
returns-then-eq-clause-each g c h =
    let settings = c.args.settings in
    let T = (g.F.Files.means c.args.files.now).tree in
    let keys = c.search_in.new.found.keys in
    let first = (c.look_for_packed_lock.ensures.looks.leaves h).tree in
    let common = subst (λ (U : Tree). FindsIn settings U keys c.common-common.result.now) first (c.in_ok-search_in.ensures.finds h) in
    let same : c.as_slice.result.now ≡ c.common-common.result.now = (bytes_eq-Decides c.as_slice.result.now c.common-common.result.now).0 (sym c.eq.ensures ∙ c.if-eq.true) in
    found_lock settings T keys (subst (FindsIn settings T keys) c.common-common.ensures common)
    (subst (FindsIn settings T keys) (sym same ∙ c.as_slice.ensures.value) common)
    (λ file. c.in_ok-search_in.ensures.stays (lock_of (meaning_in settings).packed_path) (c.in_ok-look_for_packed_lock.ensures.finds h file))

pub returns-in-Ok-clause-looks : goal.returns-in-Ok-clause-looks
returns-in-Ok-clause-looks g c = reads_more _ _ _ _ _ _ (reads_more _ _ _ _ _ _ c.look_for_packed_lock.ensures.looks c.search_in.ensures.looks) c.search_in-2.ensures.looks

pub returns-in-Err-clause-looks : goal.returns-in-Err-clause-looks
returns-in-Err-clause-looks g c = reads_more _ _ _ _ _ _ (reads_more _ _ _ _ _ _ c.look_for_packed_lock.ensures.looks c.search_in.ensures.looks) c.search_in-2.ensures.looks

pub returns-in-Err-clause-failed : goal.returns-in-Err-clause-failed
returns-in-Err-clause-failed g c =
    let faults = g.F.Files.faults in
    fails_earlier c.args.settings (faults c.args.files.now) (faults c.search_in.new.files) (faults c.search_in-2.new.files) c.in-Err.error (no_fewer_joins c.look_for_packed_lock.ensures.looks.no_fewer c.search_in.ensures.looks.no_fewer) c.in-Err.ensures.failed

pub returns-in-Ok-clause-only : goal.returns-in-Ok-clause-only
returns-in-Ok-clause-only g c h =
    let s = meaning_in c.args.settings in
    let F = g.F.Files in
    let T = (F.means c.args.files.now).tree in
    let first = (c.look_for_packed_lock.ensures.looks.leaves h).tree in
    let second = (c.search_in.ensures.looks.leaves h).tree in
    let packed = c.in_ok-look_for_packed_lock.ensures.only h (all_none (λ (p : Vec ℕ Global). IsLockFile s T p.items) c.new-found.result.keys c.new-found.ensures.len) in
    let common = c.in_ok-search_in.ensures.only h (subst (λ (U : Tree). All (λ (p : Vec ℕ Global). IsLockFile s U p.items) c.look_for_packed_lock.new.found.keys) (sym first) packed) in
    let git = c.in-Ok.ensures.only h (subst (λ (U : Tree). All (λ (p : Vec ℕ Global). IsLockFile s U p.items) c.search_in.new.found.keys) (sym second) common) in
    subst (λ (U : Tree). All (λ (p : Vec ℕ Global). IsLockFile s U p.items) c.search_in-2.new.found.keys) (second ∙ first) git

pub returns-in-Ok-clause-each : goal.returns-in-Ok-clause-each
returns-in-Ok-clause-each g c h =
    let settings = c.args.settings in
    let F = g.F.Files in
    let T = (F.means c.args.files.now).tree in
    let keys = c.search_in-2.new.found.keys in
    let first = (c.look_for_packed_lock.ensures.looks.leaves h).tree in
    let second = (c.search_in.ensures.looks.leaves h).tree in
    let common = subst (λ (U : Tree). FindsIn settings U c.search_in.new.found.keys c.common-common.result.now) first (c.in_ok-search_in.ensures.finds h) in
    let common_now : FindsIn settings T keys c.common-common.result.now = λ stem lock sought. c.in-Ok.ensures.stays _ (common stem lock sought) in
    let git = subst (λ (U : Tree). FindsIn settings U keys c.deref.result.now) (second ∙ first) (c.in-Ok.ensures.finds h) in
    found_lock settings T keys (subst (FindsIn settings T keys) c.common-common.ensures common_now)
    (subst (FindsIn settings T keys) c.deref.ensures.value git)
    (λ file. c.in-Ok.ensures.stays (lock_of (meaning_in settings).packed_path) (c.in_ok-search_in.ensures.stays (lock_of (meaning_in settings).packed_path) (c.in_ok-look_for_packed_lock.ensures.finds h file)))
