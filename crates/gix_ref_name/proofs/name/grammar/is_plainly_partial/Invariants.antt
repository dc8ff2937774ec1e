use Rattle.std.proofs.Common.{◌≡◌, true, drop}
use Rattle.gix_ref_name.proofs.PlainNames.{letter, fits_on}
use Rattle.gix_ref_name.proofs.name.grammar.is_plainly_partial.Given as goal

abbrev pub invariant-loop-byte : goal.invariant-loop-byte
invariant-loop-byte l = l.clashes ≡ 0 → fits_on l.before (drop l.byte-index l.name) ≡ true → fits_on (letter 47) l.name ≡ true
