use Rattle.std.proofs.Common.{◌≡◌, List, ◌∷◌, true, false, sym, ◌∙◌, ap, subst}
use Rattle.gix_ref_files.specs.Disk.{Disk}
use Rattle.gix_ref_files.specs.Clean.{AreClean, AreKnown}
use Rattle.gix_ref_files.specs.declared.clean.Known.{Known}
use Rattle.gix_ref_files.specs.Settled.{Sync, synced, synced_by, climb}
use Rattle.gix_ref_files.specs.Settled.Sync.{OfFile}
use Rattle.gix_ref_files.specs.DiskSteps.{syncs_of, path_syncs, CanSettle}
use Rattle.gix_ref_files.specs.declared.steps.Action.{Action}
use Rattle.gix_ref_files.proofs.CleanFolders.{holds_synced_by}
use Rattle.gix_ref_files.proofs.clean.Known.after_syncs.Goals as goal

-- syncs leave all that is known
all_kept : (known : Known) (ss : List Sync) (D : Disk) → AreKnown D known → AreKnown (synced_by ss D) known
all_kept known ss D are = record {
  line = holds_synced_by ss D known.line.path.now known.line.from known.line.end are.line;
  other_line = holds_synced_by ss D known.other_line.path.now known.other_line.from known.other_line.end are.other_line;
  place = holds_synced_by ss D known.place.path.now known.place.from known.place.end are.place;
}

pub returns-in_default : goal.returns-in_default
returns-in_default c D can known =
    all_kept c.args.self (syncs_of c.args.action.now c.args.settle) D known

pub returns-in-Line : goal.returns-in-Line
returns-in-Line c D can known =
    let x = c.in-Line in
    let p = x.path.now in
    let root = c.in-UpTo.root in
    let ss = syncs_of c.args.action.now c.args.settle in
    let new = c.all.result in
    let other = c.other_line.result in
    let place = c.args.self.place in
    let are : ss ≡ OfFile p ∷ climb p root = ap (λ (a : Action). syncs_of a c.args.settle) x.is ∙ ap (path_syncs true p) c.in-UpTo.is in
    let ready = subst (λ (a : Action). CanSettle a D.tree) x.is can in
    record {
      line = subst (λ (l : List Sync). AreClean (synced_by l D) new.path.now new.from new.end) (sym are) (c.all.ensures (synced (OfFile p) D) ready.0);
      other_line = holds_synced_by ss D other.path.now other.from other.end (c.other_line.ensures D known);
      place = holds_synced_by ss D place.path.now place.from place.end known.place;
    }

pub returns-in-Rename : goal.returns-in-Rename
returns-in-Rename c D can known =
    let x = c.in-Rename in
    let p = x.to.now in
    let root = c.in-UpTo.root in
    let ss = syncs_of c.args.action.now c.args.settle in
    let new = c.all-in-Rename.result in
    let line = c.args.self.line in
    let other = c.args.self.other_line in
    let are : ss ≡ climb p root = ap (λ (a : Action). syncs_of a c.args.settle) x.is ∙ ap (path_syncs false p) c.in-UpTo.is in
    let ready = subst (λ (a : Action). CanSettle a D.tree) x.is can in
    record {
      line = holds_synced_by ss D line.path.now line.from line.end known.line;
      other_line = holds_synced_by ss D other.path.now other.from other.end known.other_line;
      place = subst (λ (l : List Sync). AreClean (synced_by l D) new.path.now new.from new.end) (sym are) (c.all-in-Rename.ensures D ready.0);
    }

pub returns-in-Create : goal.returns-in-Create
returns-in-Create c D can known =
    all_kept c.args.self (syncs_of c.args.action.now c.args.settle) D known
