use Rattle.std.proofs.Common.{◌≡◌, map, ap, ◌∙◌, subst, sym}
use Rattle.std.specs.List.{slice_split}
use Rattle.gix_ref_program.specs.Words.{command_asked, texts}
use Rattle.gix_ref_program.specs.ScriptLines.{parts_commands, line_commands, AreCommands}
use Rattle.gix_ref_program.proofs.ScriptWords.{command_at, next_commands, no_other}
use Rattle.gix_ref_program.proofs.script_lines.commands_of.Goals as goal

pub returns-in_default : goal.returns-in_default
returns-in_default c asked are =
    let items = c.deref-part-items.result.now in
    let parts : map (λ part. texts part.now) items ≡ line_commands c.args.line.now =
    ap (map (λ part. texts part.now)) c.deref-part-items.ensures.value ∙ (c.in_ok-parts.ensures ∙ ap (slice_split parts_commands) (ap texts c.deref.ensures.value ∙ c.in_ok-words.ensures)) in
    let found = command_at (λ part. texts part.now) items _ c.loop-part.part-index asked (subst (λ ps. AreCommands ps asked) (sym parts) are) c.loop-part-test.true in
    c.in_default.ensures found.0 found.1

pub returns-then-not-writes : goal.returns-then-not-writes
returns-then-not-writes c asked are =
    let items = c.deref-part-items.result.now in
    let parts : map (λ part. texts part.now) items ≡ line_commands c.args.line.now =
    ap (map (λ part. texts part.now)) c.deref-part-items.ensures.value ∙ (c.in_ok-parts.ensures ∙ ap (slice_split parts_commands) (ap texts c.deref.ensures.value ∙ c.in_ok-words.ensures)) in
    let found = command_at (λ part. texts part.now) items _ c.loop-part.part-index asked (subst (λ ps. AreCommands ps asked) (sym parts) are) c.loop-part-test.true in
    no_other _ (command_asked c.in-Some.command) c.in-Some.ensures c.if-not-writes.ensures found.0 found.1 found.2

pub loop-part-preserved : goal.loop-part-preserved
loop-part-preserved c =
    next_commands (λ part. texts part.now) command_asked c.deref-part-items.result.now c.loop-part.part-index _ c.loop-part.commands.items c.push.new.self.items c.in-Some.command c.loop-part-test.true c.loop-part.invariant
    c.in-Some.ensures c.if-not-writes.ensures c.in_ok-push.ensures.items
