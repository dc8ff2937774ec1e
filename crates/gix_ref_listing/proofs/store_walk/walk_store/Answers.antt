use Rattle.std.proofs.Common.{◌≢◌, [], sym, subst, List, ℕ}
use Rattle.gix_ref_files.proofs.Meeting.{no_fewer_starts}
use Rattle.std.specs.List.{All}
use Rattle.gix_ref_target.specs.Layout.{below}
use Rattle.gix_ref_files.specs.Tree.{Tree}
use Rattle.gix_ref_theory.specs.OnRealTrees.{view_of}
use Rattle.gix_ref_lookup.specs.StoreLayout.{namespace_text}
use Rattle.gix_ref_listing.specs.LooseListings.{IsFoundIn, LooseIn}
use Rattle.gix_ref_listing.specs.Walks.{IsFileOrMet}
use Rattle.gix_ref_listing.proofs.CleanFolders.{clean_named}
use Rattle.gix_ref_listing.proofs.StoreWalks.{found_either, all_none}
use Rattle.gix_ref_listing.proofs.store_walk.walk_store.Goals as goal

pub returns-clause-finds : goal.returns-clause-finds
returns-clause-finds g c h =
    let settings = c.args.settings in
    let front = λ (folder : List ℕ). below folder (namespace_text settings.namespace.now) in
    let F = g.F.Files in
    let same = (c.walk_in.ensures.looks.leaves h).tree in
    found_either settings (view_of (F.means c.args.files.now).tree) c.args.prefix.now c.walk_in.new.found.entries c.walk_in-2.new.found.entries
    (λ name loose. c.in_ok-walk_in.ensures.finds h name (subst (λ (p : List ℕ). LooseIn settings (view_of (F.means c.args.files.now).tree) c.args.prefix.now (front p) name) (sym c.common-common.ensures) loose))
    c.in_ok-walk_in-2.ensures.stays
    (λ name loose. c.in_ok-walk_in-2.ensures.finds h name (subst (λ (p : List ℕ). LooseIn settings (view_of (F.means c.walk_in.new.files).tree) c.args.prefix.now (front p) name) (sym c.deref.ensures.value) (subst (λ (T : Tree). LooseIn settings (view_of T) c.args.prefix.now (front settings.dirs.now.git_dir.items) name) (sym same) loose)))

pub returns-clause-there : goal.returns-clause-there
returns-clause-there g c h =
    let settings = c.args.settings in
    let F = g.F.Files in
    let same = (c.walk_in.ensures.looks.leaves h).tree in
    let first = c.in_ok-walk_in.ensures.there h (all_none (IsFoundIn settings (view_of (F.means c.args.files.now).tree) c.args.prefix.now) c.new-found.result.entries c.new-found.ensures.len) in
    subst (λ (T : Tree). All (IsFoundIn settings (view_of T) c.args.prefix.now) c.walk_in-2.new.found.entries) same
    (c.in_ok-walk_in-2.ensures.there h (subst (λ (T : Tree). All (IsFoundIn settings (view_of T) c.args.prefix.now) c.walk_in.new.found.entries) (sym same) first))

pub walk_in-requires-clause-folder : goal.walk_in-requires-clause-folder
walk_in-requires-clause-folder g c =
    let dirs = c.args.settings.dirs.now in
    subst (λ (p : List ℕ). p ≢ []) (sym c.common-common.ensures) (clean_named dirs.git_dir dirs.common_dir dirs.clean).1

pub walk_in-requires-2-clause-folder : goal.walk_in-requires-2-clause-folder
walk_in-requires-2-clause-folder g c =
    let dirs = c.args.settings.dirs.now in
    subst (λ (p : List ℕ). p ≢ []) (sym c.deref.ensures.value) (clean_named dirs.git_dir dirs.common_dir dirs.clean).0

pub returns-then-eq-clause-files : goal.returns-then-eq-clause-files
returns-then-eq-clause-files g c =
    let old = g.F.Files.faults c.args.files.now in
    c.in_ok-walk_in.ensures.files old (no_fewer_starts old) (all_none (IsFileOrMet old old) c.new-found.result.entries c.new-found.ensures.len)

pub returns-clause-files : goal.returns-clause-files
returns-clause-files g c =
    let old = g.F.Files.faults c.args.files.now in
    c.in_ok-walk_in-2.ensures.files old c.walk_in.ensures.looks.no_fewer (c.in_ok-walk_in.ensures.files old (no_fewer_starts old) (all_none (IsFileOrMet old old) c.new-found.result.entries c.new-found.ensures.len))
