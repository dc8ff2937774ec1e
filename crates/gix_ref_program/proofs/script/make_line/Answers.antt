use Rattle.std.proofs.Common.{inl, inr, sym, subst, map, List}
use Rattle.gix_ref_files.proofs.Moments.{loses_weaken}
use Rattle.gix_ref_store.specs.Store.{files_of}
use Rattle.gix_ref_program.specs.ScriptLines.{AllWrite, line_commands}
use Rattle.gix_ref_program.specs.Scripts.{IsLineLoss}
use Rattle.gix_ref_program.specs.Words.{command_asked}
use Rattle.gix_ref_program.specs.Writes.{terms_in}
use Rattle.gix_ref_program.specs.declared.words.Command.{Command}
use Rattle.gix_ref_program.proofs.ScriptEdits.{all_write}
use Rattle.gix_ref_program.proofs.Writing.{keeps_all}
use Rattle.gix_ref_program.proofs.script.make_line.Goals as goal

pub transact-requires : goal.transact-requires
transact-requires g c =
    subst (λ (commands : List Command). AllWrite (map command_asked commands)) (sym c.deref.ensures.value)
    (all_write (line_commands c.args.line.now) (map command_asked c.in-Ok-Some.commands.items) (rw c.in-Ok-Some.field-0-is at c.in-Ok-Some.ensures))

pub returns-in-Ok-Some-clause-loses : goal.returns-in-Ok-Some-clause-loses
returns-in-Ok-Some-clause-loses g c h good rests =
    loses_weaken (rw c.deref.ensures.value at c.transact.ensures.loses h good rests)
    (λ T loss. inr (map command_asked c.in-Ok-Some.commands.items, rw c.in-Ok-Some.field-0-is at c.in-Ok-Some.ensures, loss))

pub returns-in-Ok-None-clause-loses : goal.returns-in-Ok-None-clause-loses
returns-in-Ok-None-clause-loses g c h good rests =
    let F = g.F.Files in
    let store = c.args.store.now in
    keeps_all F.means (files_of store) (λ T. IsLineLoss F.honest F.means F.faults (terms_in c.args.terms.now c.args.packed_refs) T c.args.line.now store) (λ T is. inl is)

pub returns-in-Err-clause-loses : goal.returns-in-Err-clause-loses
returns-in-Err-clause-loses g c h good rests =
    let F = g.F.Files in
    let store = c.args.store.now in
    keeps_all F.means (files_of store) (λ T. IsLineLoss F.honest F.means F.faults (terms_in c.args.terms.now c.args.packed_refs) T c.args.line.now store) (λ T is. inl is)
