use Rattle.std.proofs.Common.{inr, subst}
use Rattle.gix_ref_listing.proofs.FolderWalks.{any_from}
use Rattle.gix_ref_files.specs.Tree.{Tree}
use Rattle.gix_ref_listing.specs.PlainSettings.{plain}
use Rattle.gix_ref_listing.specs.PristineStores.{HasNoReferences}
use Rattle.gix_ref_listing.proofs.pristine.is_pristine.Goals as goal

pub returns-in-Some-false-2-clause-says : goal.returns-in-Some-false-2-clause-says
returns-in-Some-false-2-clause-says g c h =
    let head = rw c.in-Some-true.field-0-test at (rw c.in-Some-true.is at c.in_ok-head_points_to.ensures.says) in
    let none = rw c.in-Some-false-2.field-0-test at (rw c.in-Some-false-2.is at c.in_ok-has_references-in-Some-true.ensures.says) in
    (head h, subst (λ (T : Tree). HasNoReferences (plain c.args.settings) T c.args.prefix.now) (c.head_points_to.ensures.looks.leaves h).tree (none h))

pub returns-in-None-2-clause-says : goal.returns-in-None-2-clause-says
returns-in-None-2-clause-says g c =
    let F = g.F.Files in
    inr (any_from (F.faults c.args.files.now) (F.faults c.head_points_to.new.files) (F.faults c.has_references.new.files) c.head_points_to.ensures.looks.no_fewer
    (rw c.in-None-2.is at c.in_ok-has_references-in-Some-true.ensures.says))
