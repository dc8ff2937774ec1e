use Rattle.gix_ref_files.specs.declared.files.FileError.TheVariants.{Memory}
use Rattle.gix_ref_files.proofs.Meeting.{met_after}
use Rattle.std.proofs.Common.{◌≡◌, ◌≢◌, sym, ◌∙◌, ap, ◌++◌, ◌∷◌, [], subst, false, rules}
use Rattle.gix_ref_files.specs.Tree.{is_folder}
use Rattle.gix_ref_files.specs.Calls.{ListsFolder}
use Rattle.gix_ref_lookup.specs.Lookups.{meaning_in}
use Rattle.gix_ref_listing.proofs.FolderWalks.{path_of_folder, counts_up}
use Rattle.gix_ref_listing.proofs.WalkLemmas.{not_both}
use Rattle.gix_ref_locks.proofs.LockFolders.{entries_there, entries_reach, folder_is_there, stem_path}
use Rattle.gix_ref_locks.proofs.walk.LockRoot.walk_folder.Goals as goal

pub returns-in-Ok-take_entries-clause-reaches : goal.returns-in-Ok-take_entries-clause-reaches
returns-in-Ok-take_entries-clause-reaches g c h stem lock begins =
    let F = g.F.Files in
    let T = (F.means c.args.files.now).tree in
    let s = meaning_in c.args.self.settings in
    let way = path_of_folder c.args.self.front.now c.args.folder.now c.requires.root c.requires.path in
    let listed = rw c.in-Ok-Some.field-0-is at (c.in-Ok-Some.ensures.answer h) in
    let here : c.deref.result.now ≡ way.0 = c.deref.ensures.value ∙ c.in-Ok.ensures way.0 way.2 in
    let entries = c.deref-in-Ok-Some.result.now in
    let listing : ListsFolder T way.0 entries = subst (ListsFolder T way.0) (sym c.deref-in-Ok-Some.ensures.value) (subst (λ p. ListsFolder T p c.in-Ok-Some.entries.items) here listed.1) in
    entries_reach s c.args.self.front.now T c.args.folder.now way.0 (g.met.F.Files.shaped c.args.files.now h) way.2 way.1 c.requires.path stem (stem_path c.args.self.settings stem _ lock.0) lock begins.0 begins.1 entries listing c.take_entries.new.found.keys c.take_entries.new.next.items c.in-Ok-take_entries.ensures.taken

pub returns-in-Ok-take_entries-clause-only : goal.returns-in-Ok-take_entries-clause-only
returns-in-Ok-take_entries-clause-only g c h all =
    let F = g.F.Files in
    let T = (F.means c.args.files.now).tree in
    let way = path_of_folder c.args.self.front.now c.args.folder.now c.requires.root c.requires.path in
    let listed = rw c.in-Ok-Some.field-0-is at (c.in-Ok-Some.ensures.answer h) in
    let here : c.deref.result.now ≡ way.0 = c.deref.ensures.value ∙ c.in-Ok.ensures way.0 way.2 in
    let entries = c.deref-in-Ok-Some.result.now in
    let listing : ListsFolder T way.0 entries = subst (ListsFolder T way.0) (sym c.deref-in-Ok-Some.ensures.value) (subst (λ p. ListsFolder T p c.in-Ok-Some.entries.items) here listed.1) in
    c.in-Ok-take_entries.ensures.only T (entries_there c.args.self.front.now T c.args.folder.now way.0 entries way.2 listing) all

pub returns-in-Ok-None-clause-reaches : goal.returns-in-Ok-None-clause-reaches
returns-in-Ok-None-clause-reaches g c h stem lock begins =
    let F = g.F.Files in
    let T = (F.means c.args.files.now).tree in
    let s = meaning_in c.args.self.settings in
    let way = path_of_folder c.args.self.front.now c.args.folder.now c.requires.root c.requires.path in
    let here : c.deref.result.now ≡ way.0 = c.deref.ensures.value ∙ c.in-Ok.ensures way.0 way.2 in
    let none : is_folder (T c.deref.result.now) ≡ false = rw c.in-Ok-None.field-0-is at (c.in-Ok-None.ensures.answer h) in
    absurd (not_both _ (folder_is_there s c.args.self.front.now T c.args.folder.now way.0 (g.met.F.Files.shaped c.args.files.now h) way.2 way.1 c.requires.path stem (stem_path c.args.self.settings stem _ lock.0) lock begins.0 begins.1) (subst (λ p. is_folder (T p) ≡ false) here none))

pub returns : goal.returns
returns g c =
    let other : c.in-Err.source ≢ Memory = search rules in
    let way = path_of_folder c.args.self.front.now c.args.folder.now c.requires.root c.requires.path in
    record {
      stays = _;
      adds = _;
      reaches = λ h. _;
      only = λ h. _;
      looks = record { leaves = c.list.ensures.leaves; passes = c.list.ensures.passes; no_fewer = counts_up c.in-Err.source _ _ c.in-Err.ensures.count };
      failed = (other, met_after c.in-Err.source _ _ other c.in-Err.ensures.count, (c.args.folder.now, ap (λ p. p ++ 47 ∷ []) (c.in-Ok.ensures way.0 way.2) ∙ sym way.2));
    }
