use Rattle.std.proofs.Common.{rules}
use Rattle.gix_ref_files.specs.Files.{disk_of, Passes}
use Rattle.gix_ref_files.specs.Lock.{Acquiring, LockingOn}
use Rattle.gix_ref_files.proofs.Stops.{leaves_of, locking_trees}
use Rattle.gix_ref_files.proofs.lock.LockFile.take.Goals as goal

pub returns-clause-leaves : goal.returns-clause-leaves
returns-clause-leaves g c h =
    let p = c.args.self.now in
    let old = g.F.Files.means c.args.files.now in
    let run : Passes old (g.F.Files.means c.make_lock.new.files) (LockingOn (disk_of old) p) = search rules in
    leaves_of (λ D. LockingOn D p) (λ T. Acquiring T p) (locking_trees p) run
