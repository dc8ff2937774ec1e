use Rattle.std.proofs.Common.{refl, ap}
use Rattle.gix_ref_theory.specs.OnRealTrees.{view_of}
use Rattle.gix_ref_store.specs.Lookup.{settings_of, view_in}
use Rattle.gix_ref_store.proofs.ListingRuns.{all_there, each_run}
use Rattle.gix_ref_store.proofs.CompleteListings.{follows_text, no_loose_lacks}
use Rattle.gix_ref_store.proofs.file.store.Store.list.Goals as goal

pub returns-in-Ok : goal.returns-in-Ok
returns-in-Ok g c = (
  (refl, (λ w. refl), _),
  record {
    rests = _;
    same_reference = refl;
    made = record {
      leaves = c.in-Ok.ensures.looks.leaves;
      passes = c.in-Ok.ensures.looks.passes;
      same = record { dirs = refl; namespace = refl; of_kind = refl; reflogs = refl; composes = refl; prohibits = refl; threshold = refl };
    };
    lists = λ h records held.
        let found = c.in-Ok.ensures.lists h records held in
        record {
          listed = found.listed;
          is = found.is;
          counts = c.in-Ok.ensures.looks.no_fewer;
          names = found.names;
          runs = each_run g.F.Files.honest g.F.Files.means g.F.Files.faults c.args.self.now _ found.listed h refl (ap view_of (c.in-Ok.ensures.looks.leaves h).tree) found.yet
              (all_there (settings_of c.args.self.now) (view_in g.F.Files.means c.args.self.now) records c.args.prefix.now found.listed found.is.only);
        };
    complete = λ h.
        let F = g.F.Files in (
          no_loose_lacks F.honest F.means F.faults c.args.self.now c.args.prefix.now _ _ _ (c.in-Ok.ensures.owes h).0,
          λ text of. follows_text F.honest F.means F.faults h c.args.self.now c.args.prefix.now text _ refl (ap view_of (c.in-Ok.ensures.looks.leaves h).tree) c.in-Ok.ensures.looks.no_fewer (c.in-Ok.ensures.owes h).0 ((c.in-Ok.ensures.owes h).1 text of),
        );
  },
)
