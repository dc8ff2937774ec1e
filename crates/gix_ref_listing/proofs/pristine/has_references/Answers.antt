use Rattle.std.proofs.Common.{inr, subst}
use Rattle.gix_ref_files.specs.Tree.{Tree}
use Rattle.gix_ref_theory.specs.OnRealTrees.{view_of}
use Rattle.gix_ref_listing.specs.PlainSettings.{plain}
use Rattle.gix_ref_listing.specs.PristineStores.{HasLoose, HasNoLoose}
use Rattle.gix_ref_listing.proofs.FolderWalks.{any_from}
use Rattle.gix_ref_listing.proofs.PristineLemmas.{says_too}
use Rattle.gix_ref_listing.proofs.pristine.has_references.Goals as goal

pub returns-in-Some-false-clause-says : goal.returns-in-Some-false-clause-says
returns-in-Some-false-clause-says g c =
    let F = g.F.Files in
    let settings = c.args.settings in
    let prefix = c.args.prefix.now in
    let none = rw c.in-Some-false.field-0-test at (rw c.in-Some-false.is at c.in_ok-has_packed_refs.ensures.says) in
    says_too c.has_loose.result
    (λ has h. inr (subst (λ (T : Tree). HasLoose (plain settings) (view_of T) prefix) (c.has_packed_refs.ensures.looks.leaves h).tree (has h)))
    (λ has h. (none h, subst (λ (T : Tree). HasNoLoose (plain settings) (view_of T) prefix) (c.has_packed_refs.ensures.looks.leaves h).tree (has h)))
    (λ risen. any_from (F.faults c.args.files.now) (F.faults c.has_packed_refs.new.files) (F.faults c.has_loose.new.files) c.has_packed_refs.ensures.looks.no_fewer risen) c.has_loose.ensures.says
