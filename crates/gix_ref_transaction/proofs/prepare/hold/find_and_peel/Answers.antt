use Rattle.std.proofs.Common.{◌≡◌, ◌⊎◌, [], List, IfErr, subst}
use Rattle.gix_ref_packed.specs.OpenFiles.{HasReadFault}
use Rattle.gix_ref_edits.specs.declared.transaction.RefEdit.{RefEdit}
use Rattle.gix_ref_transaction.specs.Packing.{OfFinder, ends_of, mode_in}
use Rattle.gix_ref_transaction.specs.Peels.{IsFirstUnpeeled}
use Rattle.gix_ref_transaction.specs.PrepareSteps.{setting_of, updates}
use Rattle.gix_ref_transaction.specs.declared.prepare.error.Error.TheVariants.{Memory}
use Rattle.gix_ref_transaction.proofs.PackedLemmas.{updates_alike}
use Rattle.gix_ref_transaction.proofs.Puts.{held_back}
use Rattle.gix_ref_transaction.proofs.prepare.hold.find_and_peel.Goals as goal

pub returns-clause-failed : goal.returns-clause-failed
returns-clause-failed g c =
    let s = setting_of c.args.settings.now in
    let mode = mode_in c.args.packed_refs.now in
    let kind = c.args.settings.now.kind in
    let meaning = ends_of g.T.Find.meaning c.args.packed_refs.now in
    let U : updates c.find_records.new.edits ≡ updates c.args.edits.now = updates_alike c.args.edits.now c.find_records.new.edits c.find_records.ensures.asked in
    held_back g.F.Files.honest (HasReadFault g.F.Reader.ReadAt.faults) (OfFinder g.T.Find.claims c.args.packed_refs.now) g.F.Files.means g.F.Files.faults meaning s mode kind (updates c.args.edits.now) c.args.files.now c.find_records.new.files c.peel_edits.result
    c.peel_edits.ensures.error
    (λ hold. subst (λ (u : List RefEdit). IfErr c.peel_edits.result (λ error. (error ≡ Memory) ⊎ IsFirstUnpeeled s mode kind meaning [] u error)) U (c.peel_edits.ensures.refused hold))
