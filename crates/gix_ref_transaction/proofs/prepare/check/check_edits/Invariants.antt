use Rattle.std.proofs.Common.{[], take, drop}
use Rattle.gix_ref_transaction.specs.Causes.{AllValid, IsFirstInvalid}
use Rattle.gix_ref_transaction.specs.PrepareSteps.{setting_of}
use Rattle.gix_ref_transaction.specs.declared.prepare.error.Error.{Error}
use Rattle.gix_ref_transaction.proofs.prepare.check.check_edits.Given as goal

-- the rest of the edits gives the result of all
abbrev pub invariant-loop-edit : goal.invariant-loop-edit
invariant-loop-edit l =
    let s = setting_of l.settings in
    let kind = l.settings.kind in
    let seen = take l.edit-index l.edits in
    let rest = drop l.edit-index l.edits in
    record {
      fault : (error : Error) → IsFirstInvalid s kind seen rest error → IsFirstInvalid s kind [] l.edits error;
      pass : AllValid s kind seen rest → AllValid s kind [] l.edits;
    }
