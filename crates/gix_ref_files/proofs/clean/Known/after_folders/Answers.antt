use Rattle.std.proofs.Common.{◌≤◌, sym, subst, arith}
use Rattle.gix_ref_files.specs.Disk.{Disk}
use Rattle.gix_ref_files.specs.Clean.{AreKnown}
use Rattle.gix_ref_files.proofs.CleanFolders.{no_folder_made, only_below}
use Rattle.gix_ref_files.proofs.clean.Known.after_folders.Goals as goal

pub returns-then-is_below : goal.returns-then-is_below
returns-then-is_below c D E does known =
    let x = c.is_below.ensures.is c.if-is_below.true in
    subst (λ (X : Disk). AreKnown X c.args.self)
    (sym (no_folder_made D E c.args.path.now c.args.self.line.path.now x.within x.slash x.front known.line.folders does)) known

pub returns-then-is_below-2 : goal.returns-then-is_below-2
returns-then-is_below-2 c D E does known =
    let x = c.is_below-2.ensures.is c.if-is_below-2.true in
    subst (λ (X : Disk). AreKnown X c.args.self)
    (sym (no_folder_made D E c.args.path.now c.args.self.other_line.path.now x.within x.slash x.front known.other_line.folders does)) known

pub returns : goal.returns
returns c D E does known =
    let end = c.shared_end-end.result in
    let some : 1 ≤ end = omega (arith, c.if-end-eq0.false) in
    let x = c.shared_end-end.ensures some in
    let only = only_below D E c.args.path.now c.args.self.line.path.now end some x.within x.other x.slash x.other_slash x.same known.line.folders does in
    record {
      line = c.ending_before.ensures D E only known.line;
      other_line = c.ending_before-2.ensures D E only known.other_line;
      place = c.ending_before-3.ensures D E only known.place;
    }

pub returns-then-end-eq0 : goal.returns-then-end-eq0
returns-then-end-eq0 c D E does known = c.none.ensures E
