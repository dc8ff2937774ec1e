use Rattle.std.proofs.Common.{arith}
use Rattle.gix_ref_packed_text.proofs.RecordBytes.{heads_at}
use Rattle.gix_ref_packed_text.proofs.packed.header_end.read_header_end.Goals as goal

pub returns : goal.returns
returns c = (heads_at c.args.text.now c.in-Some.header c.in-Some.rest.now c.in-Some.ensures, omega arith)
