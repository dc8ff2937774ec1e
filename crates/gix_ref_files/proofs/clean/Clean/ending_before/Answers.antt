use Rattle.std.proofs.Common.{arith}
use Rattle.gix_ref_files.proofs.CleanFolders.{holds_all, holds_below}
use Rattle.gix_ref_files.proofs.clean.Clean.ending_before.Goals as goal

pub returns-then-self-end : goal.returns-then-self-end
returns-then-self-end c D E only holds =
    let clean = c.args.self in
    holds_all D E clean.path.now clean.from clean.end c.args.end c.if-self-end.true only holds

pub returns : goal.returns
returns c D E only holds =
    let clean = c.args.self in
    holds_below D E clean.path.now clean.from clean.end c.args.end (omega (arith, c.if-self-end.false)) only holds
