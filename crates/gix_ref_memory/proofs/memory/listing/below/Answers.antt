use Rattle.std.proofs.Common.{arith}
use Rattle.gix_ref_memory.proofs.ListingLemmas.{below_some, below_longer, below_begins, below_slash}
use Rattle.gix_ref_memory.proofs.memory.listing.below.Goals as goal
use Rattle.gix_ref_memory.proofs.memory.listing.below.Goals.{else-end-path-via-then-end-path+then-eq+else-path-end-eq47, else-end-path-via-then-end-path+else-eq, else-end-path-via-else-end-path}

pub returns-then-path-end-eq47 : goal.returns-then-path-end-eq47
returns-then-path-end-eq47 c = below_some c.args.folder.now c.args.path.now c.if-end-path.true c.if-eq.ensures c.if-path-end-eq47.true

pub returns-else-end-path : goal.returns-else-end-path
returns-else-end-path c rest is =
    elim c.else-end-path.branch [
      | else-end-path-via-then-end-path+then-eq+else-path-end-eq47 w ↦ w.if-path-end-eq47.false (below_slash c.args.folder.now c.args.path.now rest is)
      | else-end-path-via-then-end-path+else-eq w ↦ let begins = below_begins c.args.folder.now c.args.path.now rest is in cc
      | else-end-path-via-else-end-path w ↦ let longer = below_longer c.args.folder.now c.args.path.now rest is in omega arith
    ]
