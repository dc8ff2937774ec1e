use Rattle.std.proofs.Common.{ltb, arith, w8}
use Rattle.std.specs.Simd.Lanes.{chunk}
use Rattle.std.proofs.lemmas.Simd.{length-chunk, bitmask_splat}
use Rattle.gix_ref_hash.specs.Bytes.{is_break}
use Rattle.gix_ref_hash.proofs.ByteSearches.{no_marks, first_mark}
use Rattle.gix_ref_hash.proofs.bytes.search.first_break_of_lanes.Goals as goal

pub returns-then-marks-eq0 : goal.returns-then-marks-eq0
returns-then-marks-eq0 c =
    let is = bitmask_splat w8 ltb (chunk c.args.start 16 c.args.text.now) 16 11 (length-chunk c.args.start 16 c.args.text.now c.requires) (omega arith) in
    no_marks is_break c.args.text.now c.args.start c.requires _ is c.if-marks-eq0.true

pub returns : goal.returns
returns c =
    let is = bitmask_splat w8 ltb (chunk c.args.start 16 c.args.text.now) 16 11 (length-chunk c.args.start 16 c.args.text.now c.requires) (omega arith) in
    first_mark is_break c.args.text.now c.args.start c.requires _ is (omega (arith, c.if-marks-eq0.false))
