use Rattle.std.proofs.Common.{refl, sym, ap, subst, Ok}
use Rattle.gix_ref_files.proofs.Moments.{starts, passes_starts}
use Rattle.gix_ref_theory.specs.OnRealTrees.{view_of}
use Rattle.gix_ref_lookup.specs.declared.settings.Settings.{Settings}
use Rattle.gix_ref_listing.specs.WholeListings.{IsWalkOf, ListsAll, OwesHeld}
use Rattle.gix_ref_store.specs.Listings.{walked_prefix}
use Rattle.gix_ref_store.specs.Lookup.{settings_of, view_in}
use Rattle.gix_ref_store.specs.Store.{files_of}
use Rattle.gix_ref_store.proofs.ListingRuns.{all_there, each_run, same_settings}
use Rattle.gix_ref_store.proofs.CompleteListings.{follows_text, no_loose_lacks}
use Rattle.gix_ref_store.proofs.file.store.Store.iter_walked.Goals as goal

pub returns-in-Ok : goal.returns-in-Ok
returns-in-Ok g c = (
  (refl, (λ w. refl), _),
  record {
    rests = _;
    same_reference = refl;
    same = refl;
    made = record {
      leaves = λ h. starts (g.F.Files.means c.args.self.now.files) _ refl;
      passes = λ h. passes_starts (g.F.Files.means c.args.self.now.files) _ refl;
      same = record { dirs = refl; namespace = refl; of_kind = refl; reflogs = refl; composes = refl; prohibits = refl; threshold = refl };
    };
    lists = λ h start records walked held.
        let F = g.F.Files in
        let store = c.args.self.now in
        let prefix = walked_prefix c.args.names in
        let view = view_in F.means start in
        let before = F.faults (files_of start) in
        let now = F.faults (files_of store) in
        let same = same_settings start store walked.looks_up.same in
        let found : ListsAll (settings_of start) view records prefix before now c.in-Ok.merge = subst (λ (x : Settings). ListsAll x view records prefix before now c.in-Ok.merge) (sym same)
        (c.in-Ok.ensures.lists view before now (subst (λ (x : Settings). IsWalkOf x view before now c.args.names) same walked.walk) records held) in
        record {
          listed = found.listed;
          is = found.is;
          counts = walked.counts;
          names = found.names;
          runs = each_run F.honest F.means F.faults start _ found.listed h (sym same) (ap view_of (walked.looks_up.leaves h).tree) found.yet (all_there (settings_of start) view records prefix found.listed found.is.only);
        };
    complete = λ h start walked.
        let F = g.F.Files in
        let store = c.args.self.now in
        let same = same_settings start store walked.looks_up.same in
        let before = F.faults (files_of start) in
        let now = F.faults (files_of store) in
        let prefix = walked_prefix c.args.names in
        let view = view_in F.means start in
        let owes = subst (λ (x : Settings). OwesHeld x view prefix c.args.packed before now (Ok c.in-Ok.merge)) (sym same)
        (c.in-Ok.ensures.owes view before now (subst (λ (x : Settings). IsWalkOf x view before now c.args.names) same walked.walk)) in (
          no_loose_lacks F.honest F.means F.faults start prefix before now _ owes.0,
          λ text of. follows_text F.honest F.means F.faults h start prefix text _ (sym same) (ap view_of (walked.looks_up.leaves h).tree) walked.counts owes.0 (owes.1 text of),
        );
  },
)
