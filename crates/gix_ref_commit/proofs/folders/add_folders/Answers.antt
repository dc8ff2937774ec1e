use Rattle.std.proofs.Common.{List, Option, Vec, subst}
use Rattle.std.specs.declared.alloc.Global.{Global}
use Rattle.gix_ref_files.specs.Calls.{Lists}
use Rattle.gix_ref_files.specs.declared.files.Entry.{Entry}
use Rattle.gix_ref_transaction.specs.OwnLocks.{paths_of}
use Rattle.gix_ref_commit.specs.internal.Walks.{AddsAll}
use Rattle.gix_ref_commit.proofs.Whole.{adds_none, adds_listed}
use Rattle.gix_ref_commit.proofs.folders.add_folders.Goals as goal

pub returns-in_default-clause-adds : goal.returns-in_default-clause-adds
returns-in_default-clause-adds g c h all =
    adds_none (g.F.Files.means c.args.files.now).tree c.args.folder.now (paths_of c.args.found.now.items)
    (subst (λ (o : Option (Vec Entry Global)). Lists (g.F.Files.means c.args.files.now).tree c.args.folder.now o) c.in_default.is (c.in_ok-entries.ensures.answer h))

pub returns-in-Ok-clause-adds : goal.returns-in-Ok-clause-adds
returns-in-Ok-clause-adds g c h all =
    let listed = subst (λ (o : Option (Vec Entry Global)). Lists (g.F.Files.means c.args.files.now).tree c.args.folder.now o) c.in-Some.is (c.in_ok-entries.ensures.answer h) in
    adds_listed (g.F.Files.means c.args.files.now).tree c.args.folder.now c.in-Some.entries.items (paths_of c.args.found.now.items) (paths_of c.add_entries.new.found.items) listed.1
    (subst (λ (l : List Entry). AddsAll c.args.folder.now l (paths_of c.args.found.now.items) (paths_of c.add_entries.new.found.items)) c.deref.ensures.value (c.in-Ok.ensures.adds all))
