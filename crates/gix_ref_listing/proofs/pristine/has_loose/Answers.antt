use Rattle.std.proofs.Common.{⊎_elim, subst}
use Rattle.std.specs.List.{All}
use Rattle.gix_ref_files.specs.Tree.{Tree}
use Rattle.gix_ref_theory.specs.OnRealTrees.{view_of}
use Rattle.gix_ref_listing.specs.PlainSettings.{plain}
use Rattle.gix_ref_listing.specs.PristineStores.{IsReadableFile, IsUnreadableFile}
use Rattle.gix_ref_listing.specs.Walks.{FoundEntry}
use Rattle.gix_ref_listing.proofs.FolderWalks.{any_from, any_on}
use Rattle.gix_ref_listing.proofs.PristineLemmas.{says_too, files_or_met, has_one, has_none}
use Rattle.gix_ref_listing.proofs.pristine.has_loose.Goals as goal
use Rattle.gix_ref_lookup.specs.Lookups.{Among}

pub returns-clause-says : goal.returns-clause-says
returns-clause-says g c =
    let F = g.F.Files in
    let settings = c.args.settings in
    let view = view_of (F.means c.args.files.now).tree in
    let prefix = c.args.prefix.now in
    let es = c.in-Ok.found.entries in
    let before = F.faults c.args.files.now in
    let mid = F.faults c.walk_store.new.files in
    let now = F.faults c.any_readable.new.files in
    says_too c.any_readable.result
    (λ reads h. has_one settings view prefix es (c.in-Ok.ensures.there h) (subst (λ (T : Tree). Among (λ (e : FoundEntry). IsReadableFile (plain settings) (view_of T) e.1) es) (c.walk_store.ensures.looks.leaves h).tree (reads h)))
    (λ reads h. has_none settings view prefix es (c.in-Ok.ensures.there h) (c.in-Ok.ensures.finds h) (subst (λ (T : Tree). All (λ (e : FoundEntry). IsUnreadableFile (plain settings) (view_of T) e.1) es) (c.walk_store.ensures.looks.leaves h).tree (reads h)))
    (λ unread. ⊎_elim (λ files. any_from before mid now c.walk_store.ensures.looks.no_fewer (unread files)) (λ first. any_on before mid now first c.any_readable.ensures.looks.no_fewer) (files_or_met before mid es c.in-Ok.ensures.files)) c.any_readable.ensures.says
