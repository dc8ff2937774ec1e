use Rattle.std.proofs.Common.{◌++◌, sym, subst, ◌∙◌}
use Rattle.gix_ref_files.specs.Lock.{lock_of}
use Rattle.gix_ref_lookup.specs.Lookups.{meaning_in}
use Rattle.gix_ref_locks.specs.LockFiles.{HasPath}
use Rattle.gix_ref_locks.specs.LockWalks.{IsLockBelow}
use Rattle.gix_ref_locks.proofs.search.search_in.Goals as goal

pub returns-clause-finds : goal.returns-clause-finds
returns-clause-finds g c h stem lock sought =
    let is = c.deref.ensures.value ∙ c.in-Ok.ensures.front in
    subst (λ f. HasPath (f ++ lock_of stem) c.search.new.found.keys) is
    (c.in_ok-search.ensures.finds h stem (subst (λ f. IsLockBelow (meaning_in c.args.settings) f (g.F.Files.means c.args.files.now).tree stem) (sym is) lock) sought)
