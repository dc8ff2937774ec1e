use Rattle.std.proofs.Common.{subst}
use Rattle.gix_ref_files.specs.Steps.{step_of}
use Rattle.gix_ref_files.specs.DiskSteps.{DoesOn}
use Rattle.gix_ref_files.specs.declared.steps.Action.{Action}
use Rattle.gix_ref_files.proofs.CleanFolders.{only_create, only_line, only_remove, only_rename, holds_append}
use Rattle.gix_ref_files.proofs.clean.Known.after_change.Goals as goal

pub returns-in-Create : goal.returns-in-Create
returns-in-Create c D E does known =
    c.after_entry.ensures D E (only_create D E c.in-Create.path.now (subst (λ (a : Action). DoesOn (step_of a) D E) c.in-Create.is does)) known

pub returns-in-Append : goal.returns-in-Append
returns-in-Append c D E does known =
    let x = c.in-Append in
    let line = c.args.self.line in
    let other = c.args.self.other_line in
    let place = c.args.self.place in
    let done = subst (λ (a : Action). DoesOn (step_of a) D E) x.is does in
    record {
      line = holds_append D E x.path.now x.bytes.now line.path.now line.from line.end done known.line;
      other_line = holds_append D E x.path.now x.bytes.now other.path.now other.from other.end done known.other_line;
      place = holds_append D E x.path.now x.bytes.now place.path.now place.from place.end done known.place;
    }

pub returns-in-Line : goal.returns-in-Line
returns-in-Line c D E does known =
    let x = c.in-Line in
    c.after_entry-in-Line.ensures D E (only_line D E x.path.now x.bytes.now (subst (λ (a : Action). DoesOn (step_of a) D E) x.is does)) known

pub returns-in-Rename : goal.returns-in-Rename
returns-in-Rename c D E does known =
    let x = c.in-Rename in
    let mid = only_rename D E x.from.now x.to.now (subst (λ (a : Action). DoesOn (step_of a) D E) x.is does) in
    c.after_entry-in-Rename-2.ensures mid.0 E mid.2 (c.after_entry-in-Rename.ensures D mid.0 mid.1 known)

pub returns-in-RemoveFile : goal.returns-in-RemoveFile
returns-in-RemoveFile c D E does known =
    let x = c.in-RemoveFile in
    c.after_entry-in-RemoveFile.ensures D E (only_remove D E x.path.now (subst (λ (a : Action). DoesOn (step_of a) D E) x.is does)) known

pub returns-in-MakeFolders : goal.returns-in-MakeFolders
returns-in-MakeFolders c D E does known =
    let x = c.in-MakeFolders in
    c.after_folders.ensures D E (subst (λ (a : Action). DoesOn (step_of a) D E) x.is does) known

pub returns-in-RemoveFolder : goal.returns-in-RemoveFolder
returns-in-RemoveFolder c D E does known = c.none.ensures E
