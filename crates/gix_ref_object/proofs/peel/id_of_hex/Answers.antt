use Rattle.std.proofs.Common.{◌≡◌, ◌*◌, length, ◌∙◌}
use Rattle.gix_ref_hash.specs.Ids.{kind_len}
use Rattle.gix_ref_object.proofs.TagTargets.{id_read}
use Rattle.gix_ref_object.proofs.peel.id_of_hex.Goals as goal

pub returns : goal.returns
returns c =
    let len : length c.args.digits.now ≡ 2 * kind_len c.args.kind = c.if-digits-len_in_hex.false ∙ c.len_in_hex.ensures in
    id_read c.args.kind c.args.digits.now c.from_hex.result len c.from_hex.ensures
