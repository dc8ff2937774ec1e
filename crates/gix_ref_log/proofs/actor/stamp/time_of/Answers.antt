use Rattle.std.proofs.Common.{◌≡◌, ℕ, ◌<◌, ap, ◌∙◌, arith, rules}
use Rattle.std.specs.Int.{w32, w64, bit_at}
use Rattle.std.proofs.lemmas.Int.{to_z_pos, to_z-of_z}
use Rattle.gix_ref_log.proofs.StampNumbers.{seconds_number, zone_is}
use Rattle.gix_ref_log.proofs.Stamps.{is_stamp}
use Rattle.gix_ref_log.proofs.actor.stamp.time_of.Goals as goal

pub returns : goal.returns
returns c =
    let text = c.args.text.now in
    let digit = λ (k : ℕ) (within : k < 16) (set : bit_at 62463 k ≡ 1). c.digit_marks.ensures k within (ap (λ (m : ℕ). bit_at m k) c.if-digit_marks-ne-DIGITS.false ∙ set) in
    let number = seconds_number text c.pairs-pairs.result c.told-text digit c.pairs-pairs.ensures c.seconds_of.result c.seconds_of.ensures in
    let small = number.small in
    let zone = zone_is text c.pairs-pairs.result c.told-text digit c.pairs-pairs.ensures c.in_ok-offset.offset c.in_ok-offset.ensures.0 c.in_ok-offset.ensures.1 in
    is_stamp text c.seconds_of.result c.in_ok-offset.offset _ _ (to_z_pos w64 c.seconds_of.result (omega arith)) (to_z-of_z w32 c.in_ok-offset.offset (search rules))
    c.told-text c.if-text-ne62.false c.if-text-ne32.false c.if-text-ne32-2.false number zone
