use Rattle.std.proofs.Common.{◌≡◌, ◌-◌, ◌≤◌, length, List, ◌∷◌, take, sym, ◌∙◌, ap, subst, arith}
use Rattle.gix_ref_files.specs.Disk.{Disk}
use Rattle.gix_ref_files.specs.Files.{disk_of}
use Rattle.gix_ref_files.specs.Settled.{Sync, synced_by, folders_up}
use Rattle.gix_ref_files.specs.Settled.Sync.{OfFolder}
use Rattle.gix_ref_files.specs.DiskSteps.{IsSomeSynced}
use Rattle.gix_ref_files.specs.Tree.{Tree, is_folder}
use Rattle.gix_ref_files.proofs.Moments.{passes_weaken, passes_joins}
use Rattle.gix_ref_files.proofs.Ready.{front_is_folder}
use Rattle.gix_ref_files.proofs.Runs.{first_synced, then_synced, slash_next, no_slash_next}
use Rattle.gix_ref_files.proofs.Stops.{some_synced_trees}
use Rattle.gix_ref_files.proofs.steps.sync_up.Goals as goal

pub loop-end-preserved-in-Continue-1 : goal.loop-end-preserved-in-Continue-1
loop-end-preserved-in-Continue-1 g c =
    let p = c.args.path.now in
    let top = c.args.top in
    let end = c.loop-end.end in
    let s : Sync = OfFolder (take (end - 1) p) in
    let rest = folders_up p top (end - 1 - top) in
    let mid = disk_of (g.F.Files.means c.loop-end.files) in
    let x = c.loop-end.invariant in
    let are : s ∷ rest ≡ folders_up p top (end - top) = sym (slash_next p top end c.loop-end-test.true c.if-path-end-eq47.true) in
    record {
      in_path = omega arith;
      count = c.in_ok-sync_entries.ensures.count.0 ∙ x.count;
      passes = λ h. passes_joins (x.passes h) (passes_weaken (c.sync_entries.ensures.passes h)
          (λ E settling. x.some h E (subst (λ (ss : List Sync). IsSomeSynced ss mid E) are (first_synced s rest mid E settling))));
      done = λ h. ap (synced_by rest) (c.in_ok-sync_entries.ensures.done h) ∙ (ap (λ (ss : List Sync). synced_by ss mid) are ∙ x.done h);
      some = λ h E some. x.some h E (subst (λ (ss : List Sync). IsSomeSynced ss mid E) are
          (then_synced s rest mid E (subst (λ (X : Disk). IsSomeSynced rest X E) (c.in_ok-sync_entries.ensures.done h) some)));
    }

pub returns-in_err-sync_entries-clause-passes : goal.returns-in_err-sync_entries-clause-passes
returns-in_err-sync_entries-clause-passes g c h =
    let p = c.args.path.now in
    let top = c.args.top in
    let end = c.loop-end.end in
    let s : Sync = OfFolder (take (end - 1) p) in
    let rest = folders_up p top (end - 1 - top) in
    let mid = disk_of (g.F.Files.means c.loop-end.files) in
    let x = c.loop-end.invariant in
    let are : s ∷ rest ≡ folders_up p top (end - top) = sym (slash_next p top end c.loop-end-test.true c.if-path-end-eq47.true) in
    passes_joins (x.passes h) (passes_weaken (c.sync_entries.ensures.passes h)
    (λ E settling. x.some h E (subst (λ (ss : List Sync). IsSomeSynced ss mid E) are (first_synced s rest mid E settling))))

pub sync_entries-requires : goal.sync_entries-requires
sync_entries-requires g c h =
    let p = c.args.path.now in
    let k = c.loop-end.end - 1 in
    let in_path : c.loop-end.end ≤ length p = c.loop-end.invariant.in_path in
    ap (λ (T : Tree). is_folder (T (take k p))) (some_synced_trees _ _ _ (c.loop-end.invariant.passes h).disk)
    ∙ front_is_folder (g.F.Files.means c.args.files.now).tree p k (omega (arith, c.loop-end-test.true, c.requires.top)) (omega (arith, c.loop-end-test.true, in_path)) c.if-path-end-eq47.true
    (c.requires.there h)

pub loop-end-preserved : goal.loop-end-preserved
loop-end-preserved g c =
    let are = no_slash_next c.args.path.now c.args.top c.loop-end.end c.loop-end-test.true c.if-path-end-eq47.false in
    let mid = disk_of (g.F.Files.means c.loop-end.files) in
    let x = c.loop-end.invariant in
    record {
      in_path = omega arith;
      count = x.count;
      passes = x.passes;
      done = λ h. ap (λ (ss : List Sync). synced_by ss mid) (sym are) ∙ x.done h;
      some = λ h E some. x.some h E (subst (λ (ss : List Sync). IsSomeSynced ss mid E) (sym are) some);
    }
