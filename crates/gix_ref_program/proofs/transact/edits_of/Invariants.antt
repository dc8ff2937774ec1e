use Rattle.std.proofs.Common.{map, take}
use Rattle.std.specs.Option.{option_map}
use Rattle.gix_ref_program.specs.AskedEdits.{AreAskedFor}
use Rattle.gix_ref_program.specs.Words.{command_asked}
use Rattle.gix_ref_program.proofs.transact.edits_of.Given as goal

abbrev pub invariant-loop-command : goal.invariant-loop-command
invariant-loop-command l = AreAskedFor l.kind (option_map (λ text. text.now) l.message) (map command_asked (take l.command-index l.commands)) l.edits.items
