use Rattle.std.proofs.Common.{sym, ◌∙◌, ap, ◌||◌, Bool, pos, to_z, of_z, w8}
use lib.Signed.{lt_z}
use Rattle.gix_ref_hash.proofs.HexRuns.{folded_hex}
use Rattle.gix_ref_hash.proofs.hash.digits.is_folded_hex.Goals as goal

pub returns-else-digit : goal.returns-else-digit
returns-else-digit c =
    ap (λ (w : Bool). w || lt_z (pos 121) (to_z w8 (of_z w8 c.cast_signed-letter.result))) (sym c.if-digit.false)
    ∙ folded_hex c.args.byte c.cast_signed-digit.result c.cast_signed-letter.result c.ranges.byte.fits c.cast_signed-digit.ensures c.cast_signed-letter.ensures
