use Rattle.std.proofs.Common.{inr, sym, ◌∙◌}
use Rattle.std.specs.Option.{option_map}
use Rattle.gix_ref_program.specs.Words.{command_asked}
use Rattle.gix_ref_program.proofs.ScriptEdits.{next_edits, no_next, succeeded, write_at}
use Rattle.gix_ref_program.proofs.transact.edits_of.Goals as goal

pub edit_of-requires : goal.edit_of-requires
edit_of-requires c = write_at command_asked c.args.commands.now c.loop-command.command-index _ c.requires c.loop-command-test.true

pub returns-in-Err : goal.returns-in-Err
returns-in-Err c =
    inr (no_next c.args.kind (option_map (λ text. text.now) c.args.message) command_asked c.args.commands.now c.loop-command.command-index _ c.loop-command.edits.items c.in-Err.refusal c.loop-command-test.true c.loop-command.invariant c.in-Err.ensures)

pub loop-command-preserved : goal.loop-command-preserved
loop-command-preserved c =
    next_edits c.args.kind (option_map (λ text. text.now) c.args.message) command_asked c.args.commands.now c.loop-command.command-index _ c.loop-command.edits.items c.push_edit.new.edits.items c.in-Ok.edit c.loop-command-test.true c.loop-command.invariant
    c.in-Ok.ensures (succeeded c.push_edit.result _ (sym c.is_err.ensures.value ∙ c.if-is_err.false) c.push_edit.ensures)
