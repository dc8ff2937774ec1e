use Rattle.std.proofs.Common.{arith}
use Rattle.hex.specs.Hex.{is_hex_digit}
use Rattle.gix_ref_hash.proofs.IdLemmas.{run_len, run_is_hex}
use Rattle.gix_ref_hash.proofs.hash.any_id.Goals as goal

pub split_at-requires : goal.split_at-requires
split_at-requires c = omega (arith, run_len is_hex_digit 64 c.args.text.now)

pub returns-in-40 : goal.returns-in-40
returns-in-40 c =
    rw (c.split_at.ensures.front, c.split_at.ensures.back) (run_is_hex c.args.text.now c.hex_run-len.result c.hex_run-len.ensures c.in-40.is)
