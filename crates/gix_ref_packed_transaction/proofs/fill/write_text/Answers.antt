use Rattle.gix_ref_files.specs.Files.{disk_of}
use Rattle.gix_ref_files.specs.Lock.{lock_of}
use Rattle.gix_ref_theory.proofs.LockDisks.{filled_whole}
use Rattle.gix_ref_packed_transaction.proofs.fill.write_text.Goals as goal

pub returns-clause-whole : goal.returns-clause-whole
returns-clause-whole g c h whole =
    filled_whole (disk_of (g.F.Files.means c.args.files.now)) (disk_of (g.F.Files.means c.write.new.files)) (lock_of c.args.lock.now) c.args.text.now c.in_ok-write.field-0
    whole (c.in_ok-write.ensures.answer h) (c.in_ok-write.ensures.disk h)
