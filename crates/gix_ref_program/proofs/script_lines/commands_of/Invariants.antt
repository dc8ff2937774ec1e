use Rattle.std.proofs.Common.{map, take}
use Rattle.gix_ref_program.specs.Words.{command_asked, texts}
use Rattle.gix_ref_program.specs.ScriptLines.{AreCommands}
use Rattle.gix_ref_program.proofs.script_lines.commands_of.Given as goal

abbrev pub invariant-loop-part : goal.invariant-loop-part
invariant-loop-part l = AreCommands (map (λ part. texts part.now) (take l.part-index l.part-items)) (map command_asked l.commands.items)
