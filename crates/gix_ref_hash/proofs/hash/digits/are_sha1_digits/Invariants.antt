use Rattle.std.proofs.Common.{◌≡◌, ◌&&◌, take, drop}
use Rattle.std.specs.List.{list_all}
use Rattle.hex.specs.Hex.{is_hex_digit}
use Rattle.gix_ref_hash.proofs.hash.digits.are_sha1_digits.Given as goal

abbrev pub invariant-loop-i : goal.invariant-loop-i
invariant-loop-i l = l.are_digits ≡ (list_all is_hex_digit (take l.i l.digits) && (list_all is_hex_digit (take l.i (drop 16 l.digits)) && list_all is_hex_digit (take l.i (drop 24 l.digits))))
