use Rattle.std.proofs.Common.{arith}
use Rattle.gix_ref_files.proofs.CleanFolders.{clean_alike}
use Rattle.gix_ref_files.proofs.clean.Clean.changed_from.Goals as goal

pub returns-then-same-self-clause-clean : goal.returns-then-same-self-clause-clean
returns-then-same-self-clause-clean c D holds k low below slash =
    let clean = c.args.self in
    clean_alike D c.args.path.now clean.path.now clean.from clean.end c.same_len-same.result k c.same_len-same.ensures.same holds
    (omega (arith, low, c.root_of-top.ensures.place, c.if-top-self.false)) (omega (arith, below, c.if-same-self.true)) below slash

pub returns-clause-clean : goal.returns-clause-clean
returns-clause-clean c D holds k low below slash =
    let clean = c.args.self in
    clean_alike D c.args.path.now clean.path.now clean.from clean.end c.same_len-same.result k c.same_len-same.ensures.same holds
    (omega (arith, low, c.root_of-top.ensures.place, c.if-top-self.false)) below (omega (arith, below, c.if-same-self.false)) slash
