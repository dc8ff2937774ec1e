use Rattle.gix_ref_files.specs.declared.files.FileError.TheVariants.{Memory}
use Rattle.gix_ref_files.proofs.Meeting.{no_fewer_starts, met_wider, met_after, fewer_same}
use Rattle.std.proofs.Common.{◌≡◌, ◌≢◌, inl, sym, ◌∙◌, ap, ◌++◌, ◌∷◌, [], subst, false, rules}
use Rattle.gix_ref_files.specs.Tree.{is_folder}
use Rattle.gix_ref_files.specs.Calls.{ListsFolder}
use Rattle.gix_ref_theory.specs.OnRealTrees.{view_of}
use Rattle.gix_ref_listing.proofs.FolderWalks.{path_of_folder, entries_there, entries_reach, folder_is_there, counts_up, met_on}
use Rattle.gix_ref_listing.proofs.WalkLemmas.{not_both}
use Rattle.gix_ref_listing.proofs.walk.Root.walk_folder.Goals as goal

pub returns-in-Ok-take_entries-clause-reaches : goal.returns-in-Ok-take_entries-clause-reaches
returns-in-Ok-take_entries-clause-reaches g c h at name loose begins =
    let F = g.F.Files in
    let T = (F.means c.args.files.now).tree in
    let way = path_of_folder c.args.self.path.now c.args.folder.now c.requires at in
    let listed = rw c.in-Ok-Some.field-0-is at (c.in-Ok-Some.ensures.answer h) in
    let here : c.deref.result.now ≡ way.0 = c.deref.ensures.value ∙ c.in-Ok.ensures way.0 way.2 in
    let entries = c.deref-in-Ok-Some.result.now in
    let listing : ListsFolder T way.0 entries = subst (ListsFolder T way.0) (sym c.deref-in-Ok-Some.ensures.value) (subst (λ p. ListsFolder T p c.in-Ok-Some.entries.items) here listed.1) in
    entries_reach c.args.self T c.args.folder.now way.0 (g.met.F.Files.shaped c.args.files.now h) way.2 way.1 at name loose begins.0 begins.1 entries listing c.take_entries.new.found.entries c.take_entries.new.next.items c.in-Ok-take_entries.ensures.taken

pub returns-in-Ok-take_entries-clause-there : goal.returns-in-Ok-take_entries-clause-there
returns-in-Ok-take_entries-clause-there g c h at others all =
    let F = g.F.Files in
    let T = (F.means c.args.files.now).tree in
    let way = path_of_folder c.args.self.path.now c.args.folder.now c.requires at in
    let listed = rw c.in-Ok-Some.field-0-is at (c.in-Ok-Some.ensures.answer h) in
    let here : c.deref.result.now ≡ way.0 = c.deref.ensures.value ∙ c.in-Ok.ensures way.0 way.2 in
    let entries = c.deref-in-Ok-Some.result.now in
    let listing : ListsFolder T way.0 entries = subst (ListsFolder T way.0) (sym c.deref-in-Ok-Some.ensures.value) (subst (λ p. ListsFolder T p c.in-Ok-Some.entries.items) here listed.1) in
    c.in-Ok-take_entries.ensures.there (view_of T) (entries_there c.args.self T c.args.folder.now way.0 entries way.2 listing) others all

pub returns-in-Ok-None-clause-reaches : goal.returns-in-Ok-None-clause-reaches
returns-in-Ok-None-clause-reaches g c h at name loose begins =
    let F = g.F.Files in
    let T = (F.means c.args.files.now).tree in
    let way = path_of_folder c.args.self.path.now c.args.folder.now c.requires at in
    let here : c.deref.result.now ≡ way.0 = c.deref.ensures.value ∙ c.in-Ok.ensures way.0 way.2 in
    let none : is_folder (T c.deref.result.now) ≡ false = rw c.in-Ok-None.field-0-is at (c.in-Ok-None.ensures.answer h) in
    absurd (not_both _ (folder_is_there c.args.self T c.args.folder.now way.0 (g.met.F.Files.shaped c.args.files.now h) way.2 way.1 at name loose begins.0 begins.1) (subst (λ p. is_folder (T p) ≡ false) here none))

pub returns-in-Ok-keep_unlisted : goal.returns-in-Ok-keep_unlisted
returns-in-Ok-keep_unlisted g c =
    let other : c.in-Err.error ≢ Memory = search rules in
    record {
      stays = c.keep_unlisted.ensures.stays;
      adds = record { stays = λ name had. had; inner = λ all. all };
      reaches = λ h path name loose begins. inl (c.in-Ok-keep_unlisted.ensures.holds name begins);
      files = λ start le all.
          let old = g.F.Files.faults c.args.files.now in
          let new = g.F.Files.faults c.list.new.self in
          c.keep_unlisted.ensures.files start new (met_wider le (no_fewer_starts new) (met_after c.in-Err.error old new other c.in-Err.ensures.count)) (met_on start old new c.args.found.now.entries (counts_up c.in-Err.error old new c.in-Err.ensures.count) all);
      there = λ h at others all. let way = path_of_folder c.args.self.path.now c.args.folder.now c.requires at in c.keep_unlisted.ensures.there c.args.self (view_of (g.F.Files.means c.args.files.now).tree) other (ap (λ p. p ++ 47 ∷ []) (c.in-Ok.ensures way.0 way.2) ∙ sym way.2) others all;
      looks = record { leaves = c.list.ensures.leaves; passes = c.list.ensures.passes; no_fewer = counts_up c.in-Err.error _ _ c.in-Err.ensures.count };
      memory = _;
    }

pub returns-in-Ok-take_entries-clause-files : goal.returns-in-Ok-take_entries-clause-files
returns-in-Ok-take_entries-clause-files g c start le all =
    let old = g.F.Files.faults c.args.files.now in
    let new = g.F.Files.faults c.list.new.self in
    c.in-Ok-take_entries.ensures.files start new (met_on start old new c.args.found.now.entries (fewer_same old new c.in-Ok-Some.ensures.count) all)

pub returns-in-Ok-None-clause-files : goal.returns-in-Ok-None-clause-files
returns-in-Ok-None-clause-files g c start le all =
    let old = g.F.Files.faults c.args.files.now in
    let new = g.F.Files.faults c.list.new.self in
    met_on start old new c.args.found.now.entries (fewer_same old new c.in-Ok-None.ensures.count) all
