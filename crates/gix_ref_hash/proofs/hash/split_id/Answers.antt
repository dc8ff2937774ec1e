use Rattle.std.proofs.Common.{sym, ◌∙◌}
use Rattle.gix_ref_hash.proofs.IdLemmas.{front_not_hex}
use Rattle.gix_ref_hash.proofs.hash.split_id.Goals as goal

pub returns-then-not-are_hex : goal.returns-then-not-are_hex
returns-then-not-are_hex c =
    front_not_hex c.args.kind c.args.text.now _ c.len_in_hex-len.result c.len_in_hex-len.ensures c.split_at.ensures.front (sym c.are_hex.ensures ∙ c.if-not-are_hex.true)
