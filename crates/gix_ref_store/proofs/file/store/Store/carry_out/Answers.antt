use Rattle.std.proofs.Common.{◌≡◌, ◌∙◌, ◌<◌, ℕ, List, Option, None, Ok, Err, false, length, sym, ap, subst, arith, vec_len, Vec, Global}
use Rattle.gix_ref_files.proofs.Meeting.{no_fewer_starts, no_fewer_joins}
use Rattle.std.specs.Prelude.{if◌then◌else◌}
use Rattle.std.specs.List.{flat_map}
use Rattle.std.proofs.lemmas.List.{length-map}
use Rattle.gix_ref_files.specs.Files.{disk_of, HasRisenBy, Leaves, Meaning, Passes, FaultCounts, NoFewer}
use Rattle.gix_ref_files.specs.DiskSteps.{IsReachedBy, IsSyncedAfter}
use Rattle.gix_ref_files.specs.Steps.{IsAfter, IsLeftBy}
use Rattle.gix_ref_files.specs.Tree.{Path, Tree}
use Rattle.gix_ref_lookup.specs.declared.folders.Dirs.{Dirs}
use Rattle.gix_ref_edits.specs.declared.transaction.RefEdit.{RefEdit}
use Rattle.gix_ref_transaction.specs.CommitRenames.{log_at, path_in, place_at}
use Rattle.gix_ref_transaction.specs.OwnLocks.{paths_of, OnlyRemoves, RemovesLocks}
use Rattle.gix_ref_transaction.specs.PrepareSteps.{held_locks, updates}
use Rattle.gix_ref_transaction.specs.declared.edit.Edit.{Edit}
use Rattle.gix_ref_transaction.proofs.Faults.{risen_by_before, risen_by_on, risen_by_paths}
use Rattle.gix_ref_commit.specs.Cleared.{AllInWay, FoldersGo, LosesNoMore, OnlyFolders, all_removed, commit_entries, folder_lists}
use Rattle.gix_ref_commit.specs.Entries.{bare_steps, done_of, planned_entries, steps_in}
use Rattle.gix_ref_commit.proofs.Tidying.{none_tried, tried_go}
use Rattle.gix_ref_commit.specs.Failures.{AllOfEdits, SaysWhy}
use Rattle.gix_ref_commit.specs.Unfinished.{EndsIn, RunsAll, RunsTo, StopsEarly, tried_after}
use Rattle.gix_ref_commit.specs.declared.run.Unfinished.{Unfinished}
use Rattle.gix_ref_log.specs.declared.actor.SignatureRef.{SignatureRef}
use Rattle.gix_ref_commit.proofs.Alike.{updates_alike}
use Rattle.gix_ref_commit.proofs.Outcomes.{logs_are}
use Rattle.gix_ref_theory.specs.OnRealTrees.{view_of}
use Rattle.gix_ref_store.specs.CommitLines.{line_rules}
use Rattle.gix_ref_store.specs.CommittedFolders.{deleted_by, outcomes_in, written_in}
use Rattle.gix_ref_store.specs.Decisions.{IsPublished}
use Rattle.gix_ref_store.specs.declared.file.transaction.commit.decide.Published.{Published}
use Rattle.gix_ref_store.specs.Prepared.{tree_of}
use Rattle.gix_ref_store.specs.Store.{files_of, meaning_of, with_files}
use Rattle.gix_ref_store.specs.declared.file.store.Store.{Store}
use Rattle.gix_ref_store.proofs.CommitFailures.{all_of_edits, held_less, never_bad, of_no_line, only_locks, raised_wider, run_fails, undecided_fails, undecided_wider}
use Rattle.gix_ref_store.proofs.Commits.{committed, cut_gone, cut_packed_gone, good_on, kept_good, lost, ran_well, settled, start_edits, start_records, undecided_lost, undecided_well, whole_gone, whole_packed_gone}
use Rattle.gix_ref_store.proofs.FolderRuns.{folders_stay, no_folder_gone}
use Rattle.gix_ref_store.proofs.file.store.Store.carry_out.Goals as goal

-- the locks that are named where they were released, of which each had a fault
left_over : (left : Vec (Vec ℕ Global) Global) (a b d e : FaultCounts) → NoFewer a b → HasRisenBy (vec_len left) b d → NoFewer d e → HasRisenBy (length (paths_of left.items)) a e
left_over left a b d e before rose after =
    risen_by_paths left.items a e (subst (λ n. HasRisenBy n a e) (omega (arith, left.ok)) (risen_by_before (vec_len left) a b e before (risen_by_on (vec_len left) b d e after rose)))

-- where the run of a published commit ended early, and where all was run
stopped_in : {F : Type 0} (honest : Type 0) (means : F → Meaning) (faults : F → FaultCounts) (start new : Store F) (committer : Option SignatureRef) (packed : Option Path) (held ran : List Edit) (published : Published) (p : IsPublished honest means faults start new committer packed held ran published) (u : Unfinished) → published.ended ≡ Err u →
    StopsEarly honest means faults (commit_entries start.dirs ran packed published.rewrite p.ways) p.before (files_of new) u
stopped_in honest means faults start new committer packed held ran published p u is = subst (RunsTo honest means faults (commit_entries start.dirs ran packed published.rewrite p.ways) p.before (files_of new)) is p.ended

ran_in : {F : Type 0} (honest : Type 0) (means : F → Meaning) (faults : F → FaultCounts) (start new : Store F) (committer : Option SignatureRef) (packed : Option Path) (held ran : List Edit) (published : Published) (p : IsPublished honest means faults start new committer packed held ran published) → published.ended ≡ Ok tt →
    RunsAll honest (commit_entries start.dirs ran packed published.rewrite p.ways) (means p.before) (means (files_of new))
ran_in honest means faults start new committer packed held ran published p is = subst (RunsTo honest means faults (commit_entries start.dirs ran packed published.rewrite p.ways) p.before (files_of new)) is p.ended

pub returns-in-Err-clause-ended : goal.returns-in-Err-clause-ended
returns-in-Err-clause-ended g c =
    let F = g.F.Files in
    let start = c.args.self.now in
    let new = with_files c.publish.new.self c.release_all-remains.new.files in
    let held = c.args.edits.items in
    let e = c.release_all-remains.ensures in
    record {
      cause =
          undecided_fails F.honest F.means F.faults start new c.args.committer c.args.packed held c.publish.new.edits.items c.publish.ensures.alike c.in-Err.error
          (undecided_wider F.honest F.means F.faults start c.publish.new.self new c.args.committer held c.in-Err.error e.releases.no_fewer c.in-Err.ensures.failed)
          (λ h empty. only_locks F.honest F.means F.faults start new c.args.committer c.args.packed held c.publish.new.edits.items c.publish.ensures.alike false (F.means c.publish.new.self.files).tree (c.in-Err.ensures.fills.leaves h empty).tree (e.releases.leaves h).tree);
      sound = λ old mode given from h good bad.
          never_bad F.honest F.means F.faults start c.publish.new.self c.args.committer c.args.edits.items c.in-Err.error c.in-Err.ensures.failed bad h
          (start_edits F.honest F.means F.faults mode old start c.args.committer given c.args.packed c.args.edits.items from h good) good.0
          (start_records F.honest F.means F.faults mode old start c.args.committer given c.args.packed c.args.edits.items from h good);
    }

pub returns-in-Err-clause-safe : goal.returns-in-Err-clause-safe
returns-in-Err-clause-safe g c =
    let F = g.F.Files in
    let e = c.release_all-remains.ensures in
    let ran = c.publish.new.edits in
    record {
      stops = λ old mode given from.
          undecided_well F.honest F.means F.faults mode old c.args.self.now c.args.committer given c.args.packed c.args.edits.items from ran.items c.publish.ensures.alike _ (paths_of c.release_all-remains.result.left.items) (F.means c.publish.new.self.files)
          (λ h. c.in-Err.ensures.fills.leaves h (from.packed.empty h)) (λ h. c.in-Err.ensures.fills.passes h (from.packed.empty h))
          (λ h. e.releases.leaves h) (λ h. e.releases.passes h) (λ h. e.packed_gone h) (λ h k lt. e.gone h k (omega (arith, lt, ran.ok))) e.named.ours e.named.once;
      losses = λ old mode given from h good at_rest.
          undecided_lost F.honest F.means F.faults mode old c.args.self.now c.args.committer given c.args.packed c.args.edits.items from ran.items c.publish.ensures.alike _ (paths_of c.release_all-remains.result.left.items) (F.means c.publish.new.self.files)
          (λ h. c.in-Err.ensures.fills.leaves h (from.packed.empty h)) (λ h. c.in-Err.ensures.fills.passes h (from.packed.empty h))
          (λ h. e.releases.leaves h) (λ h. e.releases.passes h) (λ h. e.packed_gone h) (λ h k lt. e.gone h k (omega (arith, lt, ran.ok))) e.named.ours e.named.once h good at_rest;
    }

pub returns-in-Err-clause-kept : goal.returns-in-Err-clause-kept
returns-in-Err-clause-kept g c =
    let F = g.F.Files in
    let start = c.args.self.now in
    let held = c.args.edits.items in
    let packed = c.args.packed in
    record {
      folders = λ h empty.
          no_folder_gone start.dirs packed (written_in F.honest F.means F.faults start c.args.committer packed held) (flat_map (deleted_by (meaning_of start)) held) (held_locks packed c.publish.new.edits.items) (F.means start.files).tree (F.means c.publish.new.self.files).tree (F.means c.release_all-remains.new.files).tree
          empty (c.in-Err.ensures.fills.leaves h empty).tree (c.release_all-remains.ensures.releases.leaves h).tree;
      named = left_over c.release_all-remains.result.left (g.F.Files.faults c.args.self.now.files) (g.F.Files.faults c.publish.new.self.files) (g.F.Files.faults c.release_all-remains.new.files) (g.F.Files.faults c.release_all-remains.new.files) c.in-Err.ensures.fills.no_fewer c.release_all-remains.ensures.named.named (no_fewer_starts _);
    }

pub failure-requires : goal.failure-requires
failure-requires g c =
    let F = g.F.Files in
    let p = c.in-Ok.ensures.published in
    let stopped = stopped_in F.honest F.means F.faults c.args.self.now c.publish.new.self c.args.committer c.args.packed c.args.edits.items c.publish.new.edits.items c.in-Ok.published p c.in-Err-ended.unfinished c.in-Err-ended.is in
    let ran = c.publish.new.edits in
    let edits = c.release_all-edits.result.edits in
    subst (λ n. AllOfEdits n c.in-Err-ended.unfinished) (omega (arith, edits.ok, ap length c.release_all-edits.ensures.back.edits, length-map ran.items (λ (e : Edit). e.update)))
    (all_of_edits F.honest c.args.self.now.dirs ran.items c.args.packed c.in-Ok.published.rewrite p.ways (F.means p.before).tree (F.means c.publish.new.self.files).tree c.in-Err-ended.unfinished
    stopped.ended)

pub returns-in-Err-ended-clause-ended : goal.returns-in-Err-ended-clause-ended
returns-in-Err-ended-clause-ended g c =
    let F = g.F.Files in
    let p = c.in-Ok.ensures.published in
    let stopped = stopped_in F.honest F.means F.faults c.args.self.now c.publish.new.self c.args.committer c.args.packed c.args.edits.items c.publish.new.edits.items c.in-Ok.published p c.in-Err-ended.unfinished c.in-Err-ended.is in
    let start = c.args.self.now in
    let new = with_files c.publish.new.self c.remove_empty_folders.new.files in
    let held = c.args.edits.items in
    let ran = c.publish.new.edits in
    let packed = c.args.packed in
    let rewrite = c.in-Ok.published.rewrite in
    let ways = p.ways in
    let decided = F.means p.before in
    let mid = F.means c.publish.new.self.files in
    let u = c.in-Err-ended.unfinished in
    let e = c.release_all-edits.ensures in
    let renamed = c.is_packed_renamed.result in
    let alike = c.publish.ensures.alike in
    let ends : EndsIn F.honest (commit_entries start.dirs ran.items packed rewrite ways) decided.tree mid.tree u = stopped.ended in
    let released = F.means c.release_all-edits.new.files in
    let still : c.publish.new.self.dirs ≡ start.dirs = ap (λ (st : Store g.row.F.Denot). st.dirs) c.publish.ensures.same in
    let removed : paths_of c.deref.result.now ≡ all_removed ran.items = ap paths_of c.deref.ensures.value ∙ p.decided.removed in
    let len : c.len.result ≡ length ran.items = omega (arith, c.len.ensures, ran.ok) in
    let done : c.done-done.result ≡ done_of (length ran.items) u = c.done-done.ensures ∙ ap (λ n. done_of n u) len in
    let place = c.release_all-edits.result.place.items in
    let log = c.release_all-edits.result.log.items in
    let told = c.in-Ok.published.path.items in
    let says : SaysWhy (updates held) place log told u c.failure.result =
    subst (λ (l : List RefEdit). SaysWhy l place log told u c.failure.result) (e.back.edits ∙ updates_alike ran.items held alike) c.failure.ensures in
    let here : done_of (length ran.items) u < length ran.items → place ≡ place_at ran.items (done_of (length ran.items) u) =
    subst (λ n. n < length ran.items → place ≡ place_at ran.items n) done (λ lt. e.back.place (omega (arith, lt, ran.ok))) in
    let logged : done_of (length ran.items) u < length ran.items → log ≡ path_in (log_at ran.items (done_of (length ran.items) u)) =
    subst (λ n. n < length ran.items → log ≡ path_in (log_at ran.items n)) done (λ lt. e.back.log (omega (arith, lt, ran.ok))) in
    record {
      cause =
          let less : F.honest → RemovesLocks (held_locks (if renamed then None else packed) ran.items) mid.tree released.tree = λ h. rw c.still_held-packed.ensures at (e.releases.leaves h).tree in
          let tidied : F.honest → FoldersGo start.dirs (paths_of (tried_after u c.deref.result.now)) released.tree (tree_of F.means new) = λ h.
          subst (λ (d : Dirs). FoldersGo d (paths_of (tried_after u c.deref.result.now)) released.tree (tree_of F.means new)) still
          (subst (λ ps. FoldersGo c.publish.new.self.dirs (paths_of ps) released.tree (tree_of F.means new)) c.tried.ensures (c.remove_empty_folders.ensures.leaves h).tree) in
          let tidies : F.honest → FoldersGo start.dirs (all_removed ran.items) released.tree (tree_of F.means new) = λ h.
          subst (λ ps. FoldersGo start.dirs ps released.tree (tree_of F.means new)) removed (tried_go start.dirs u c.deref.result.now released.tree (tree_of F.means new) (tidied h)) in
          run_fails F.honest F.means F.faults start new c.args.committer packed held ran.items alike p.decided.texts.logs p.decided.texts.logged p.decided.texts.passed rewrite p.decided.texts.repacked decided.tree mid.tree released.tree ways p.decided.in_way
          (λ h empty. p.decided.texts.filled h empty) (λ h. held_less F.honest F.means F.faults start new c.args.committer packed held ran.items alike renamed mid.tree released.tree (less h)) tidies
          place log told u c.failure.result ends (record { here = here; logged = logged; at_packed = p.decided.texts.path }) says
          (raised_wider (F.faults start.files) (F.faults p.before) (F.faults c.publish.new.self.files) (F.faults c.remove_empty_folders.new.files) u p.fills.no_fewer (no_fewer_joins e.releases.no_fewer c.remove_empty_folders.ensures.no_fewer) stopped.counted)
          (λ none h empty.
          let still' : mid.tree ≡ decided.tree = ap (λ files. (F.means files).tree) (stopped.memory none) in
          only_locks F.honest F.means F.faults start new c.args.committer packed held ran.items alike renamed decided.tree (p.fills.leaves h empty).tree
          (subst (λ (S : Tree). RemovesLocks (held_locks (if renamed then None else packed) ran.items) S (tree_of F.means new)) still'
          (subst (λ (T : Tree). RemovesLocks (held_locks (if renamed then None else packed) ran.items) mid.tree T) (none_tried start.dirs u c.deref.result.now released.tree (tree_of F.means new) none (tidied h)) (less h))));
      sound = λ old mode given from h good bad.
          of_no_line c.release_all-edits.result.edits.items c.release_all-edits.result.place.items c.release_all-edits.result.log.items c.in-Ok.published.path.items c.in-Err-ended.unfinished c.failure.result c.failure.ensures bad;
    }

pub returns-in-Err-ended-clause-safe : goal.returns-in-Err-ended-clause-safe
returns-in-Err-ended-clause-safe g c =
    let F = g.F.Files in
    let p = c.in-Ok.ensures.published in
    let stopped = stopped_in F.honest F.means F.faults c.args.self.now c.publish.new.self c.args.committer c.args.packed c.args.edits.items c.publish.new.edits.items c.in-Ok.published p c.in-Err-ended.unfinished c.in-Err-ended.is in
    let start = c.args.self.now in
    let held = c.args.edits.items in
    let ran = c.publish.new.edits in
    let packed = c.args.packed in
    let rewrite = c.in-Ok.published.rewrite in
    let ways = p.ways in
    let decided = F.means p.before in
    let mid = F.means c.publish.new.self.files in
    let e = c.release_all-edits.ensures in
    let left = paths_of c.release_all-edits.result.left.items in
    let new = with_files c.publish.new.self c.remove_empty_folders.new.files in
    let renamed = c.is_packed_renamed.result in
    let alike = c.publish.ensures.alike in
    let released = F.means c.release_all-edits.new.files in
    let tidied = F.means c.remove_empty_folders.new.files in
    let paths = paths_of c.tried.result.now in
    let u = c.in-Err-ended.unfinished in
    let done = c.done-done.result in
    let len : c.len.result ≡ length ran.items = omega (arith, c.len.ensures, ran.ok) in
    let done_is : done ≡ done_of (length ran.items) u = c.done-done.ensures ∙ ap (λ n. done_of n u) len in
    record {
      stops = λ old mode given from.
          let same : start.dirs ≡ old.dirs = from.held.same.dirs in
          let in_way : F.honest → AllInWay ran.items old.dirs decided.tree (folder_lists ways) (planned_entries old.dirs ran.items packed rewrite) = λ h.
          subst (λ (d : Dirs). AllInWay ran.items d decided.tree (folder_lists ways) (planned_entries d ran.items packed rewrite)) from.held.same.dirs (p.decided.in_way h) in
          let still : c.publish.new.self.dirs ≡ old.dirs = ap (λ (st : Store g.row.F.Denot). st.dirs) c.publish.ensures.same ∙ same in
          let tidies : F.honest → Leaves released tidied (FoldersGo old.dirs paths released.tree) = λ h.
          subst (λ (d : Dirs). Leaves released tidied (FoldersGo d paths released.tree)) still (c.remove_empty_folders.ensures.leaves h) in
          let runs : F.honest → Leaves decided mid (IsLeftBy (bare_steps (commit_entries old.dirs ran.items packed rewrite ways)) decided.tree) = λ h.
          subst (λ (d : Dirs). Leaves decided mid (IsLeftBy (bare_steps (commit_entries d ran.items packed rewrite ways)) decided.tree)) same (p.runs.leaves h) in
          let releases : F.honest → Leaves mid (F.means c.release_all-edits.new.files) (RemovesLocks (held_locks (if renamed then None else packed) ran.items) mid.tree) = λ h. rw c.still_held-packed.ensures at (e.releases.leaves h) in
          let ends : EndsIn F.honest (commit_entries old.dirs ran.items packed rewrite ways) decided.tree mid.tree u =
          subst (λ (d : Dirs). EndsIn F.honest (commit_entries d ran.items packed rewrite ways) decided.tree mid.tree u) same stopped.ended in
          ran_well F.honest F.means F.faults mode old start c.args.committer given packed held from ran.items alike new left decided
          (λ h. p.fills.leaves h (from.packed.empty h)) (λ h. p.fills.passes h (from.packed.empty h))
          p.decided.texts.logs rewrite p.decided.texts.repacked (λ h. p.decided.texts.filled h (from.packed.empty h)) (λ h. p.decided.texts.wholes h (from.packed.empty h)) ways in_way
          mid released renamed paths runs releases tidies done
          (λ h. rw c.still_held-packed.ensures at (e.packed_gone h))
          (λ h text path some. cut_packed_gone F.honest F.means F.faults mode old start c.args.committer given packed held from ran.items alike new left decided
          (λ h. p.fills.leaves h (from.packed.empty h)) (λ h. p.fills.passes h (from.packed.empty h))
          p.decided.texts.logs rewrite p.decided.texts.repacked (λ h. p.decided.texts.filled h (from.packed.empty h)) (λ h. p.decided.texts.wholes h (from.packed.empty h)) ways in_way
          mid released renamed paths runs releases tidies u ends h (sym c.is_packed_renamed.ensures ∙ text) path some)
          (λ h k lt. e.gone h k (omega (arith, lt, ran.ok)))
          (λ h k lt early written. cut_gone F.honest F.means F.faults mode old start c.args.committer given packed held from ran.items alike new left decided
          (λ h. p.fills.leaves h (from.packed.empty h)) (λ h. p.fills.passes h (from.packed.empty h))
          p.decided.texts.logs rewrite p.decided.texts.repacked (λ h. p.decided.texts.filled h (from.packed.empty h)) (λ h. p.decided.texts.wholes h (from.packed.empty h)) ways in_way
          mid released renamed paths runs releases tidies u ends h k lt (subst (λ n. k < n) done_is early) written)
          (rw c.still_held-packed.ensures at e.named.ours) (rw c.still_held-packed.ensures at e.named.once);
      losses = λ old mode given from h good at_rest.
          let same : start.dirs ≡ old.dirs = from.held.same.dirs in
          let in_way : F.honest → AllInWay ran.items old.dirs decided.tree (folder_lists ways) (planned_entries old.dirs ran.items packed rewrite) = λ h.
          subst (λ (d : Dirs). AllInWay ran.items d decided.tree (folder_lists ways) (planned_entries d ran.items packed rewrite)) from.held.same.dirs (p.decided.in_way h) in
          let still : c.publish.new.self.dirs ≡ old.dirs = ap (λ (st : Store g.row.F.Denot). st.dirs) c.publish.ensures.same ∙ same in
          let tidies : F.honest → Leaves released tidied (FoldersGo old.dirs paths released.tree) = λ h.
          subst (λ (d : Dirs). Leaves released tidied (FoldersGo d paths released.tree)) still (c.remove_empty_folders.ensures.leaves h) in
          let runs : F.honest → Leaves decided mid (IsLeftBy (bare_steps (commit_entries old.dirs ran.items packed rewrite ways)) decided.tree) = λ h.
          subst (λ (d : Dirs). Leaves decided mid (IsLeftBy (bare_steps (commit_entries d ran.items packed rewrite ways)) decided.tree)) same (p.runs.leaves h) in
          let releases : F.honest → Leaves mid (F.means c.release_all-edits.new.files) (RemovesLocks (held_locks (if renamed then None else packed) ran.items) mid.tree) = λ h. rw c.still_held-packed.ensures at (e.releases.leaves h) in
          let passes : Passes decided mid (IsReachedBy (steps_in (commit_entries old.dirs ran.items packed rewrite ways)) (disk_of decided)) =
          subst (λ (d : Dirs). Passes decided mid (IsReachedBy (steps_in (commit_entries d ran.items packed rewrite ways)) (disk_of decided))) same (p.runs.passes h) in
          let only : OnlyRemoves (held_locks (if renamed then None else packed) ran.items) mid (F.means c.release_all-edits.new.files) = rw c.still_held-packed.ensures at (e.releases.passes h) in
          let less : Passes released tidied (LosesNoMore (disk_of released)) = c.remove_empty_folders.ensures.loses h in
          lost F.honest F.means F.faults mode old start c.args.committer given packed held from ran.items alike new left decided
          (λ h. p.fills.leaves h (from.packed.empty h)) (λ h. p.fills.passes h (from.packed.empty h))
          p.decided.texts.logs rewrite p.decided.texts.repacked (λ h. p.decided.texts.filled h (from.packed.empty h)) (λ h. p.decided.texts.wholes h (from.packed.empty h)) ways in_way
          mid released renamed paths runs releases tidies h at_rest only good passes less;
    }

pub returns-in-Err-ended-clause-kept : goal.returns-in-Err-ended-clause-kept
returns-in-Err-ended-clause-kept g c =
    let F = g.F.Files in
    let p = c.in-Ok.ensures.published in
    let start = c.args.self.now in
    let held = c.args.edits.items in
    let ran = c.publish.new.edits in
    let packed = c.args.packed in
    let rewrite = c.in-Ok.published.rewrite in
    let ways = p.ways in
    let first = F.means start.files in
    let decided = F.means p.before in
    let mid = F.means c.publish.new.self.files in
    let released = F.means c.release_all-edits.new.files in
    let tidied = F.means c.remove_empty_folders.new.files in
    let renamed = c.is_packed_renamed.result in
    let still : c.publish.new.self.dirs ≡ start.dirs = ap (λ (st : Store g.row.F.Denot). st.dirs) c.publish.ensures.same in
    let removed : paths_of c.deref.result.now ≡ all_removed ran.items = ap paths_of c.deref.ensures.value ∙ p.decided.removed in
    let u = c.in-Err-ended.unfinished in
    record {
      folders = λ h empty.
          let left : IsLeftBy (bare_steps (commit_entries start.dirs ran.items packed rewrite ways)) decided.tree mid.tree = (p.runs.leaves h).tree in
          let releases : Leaves mid released (RemovesLocks (held_locks (if renamed then None else packed) ran.items) mid.tree) = rw c.still_held-packed.ensures at (c.release_all-edits.ensures.releases.leaves h) in
          let tried : FoldersGo start.dirs (paths_of (tried_after u c.deref.result.now)) released.tree tidied.tree =
          subst (λ (d : Dirs). FoldersGo d (paths_of (tried_after u c.deref.result.now)) released.tree tidied.tree) still
          (subst (λ ps. FoldersGo c.publish.new.self.dirs (paths_of ps) released.tree tidied.tree) c.tried.ensures (c.remove_empty_folders.ensures.leaves h).tree) in
          let tidies : FoldersGo start.dirs (all_removed ran.items) released.tree tidied.tree =
          subst (λ (paths : List Path). FoldersGo start.dirs paths released.tree tidied.tree) removed (tried_go start.dirs u c.deref.result.now released.tree tidied.tree tried) in
          folders_stay (meaning_of start) start.dirs held ran.items packed rewrite (folder_lists ways) first.tree decided.tree mid.tree released.tree tidied.tree (held_locks (if renamed then None else packed) ran.items) (outcomes_in F.honest F.means F.faults start c.args.committer held)
          c.publish.ensures.alike (logs_are (line_rules start c.args.committer) (view_of first.tree) 0 held ran.items (p.decided.texts.logs h)) (p.decided.texts.logs h) empty (p.fills.leaves h empty).tree (p.decided.in_way h) left releases.tree tidies;
      named = left_over c.release_all-edits.result.left (g.F.Files.faults c.args.self.now.files) (g.F.Files.faults c.publish.new.self.files) (g.F.Files.faults c.release_all-edits.new.files) (g.F.Files.faults c.remove_empty_folders.new.files)
          (no_fewer_joins p.fills.no_fewer p.runs.no_fewer) c.release_all-edits.ensures.named.named c.remove_empty_folders.ensures.no_fewer;
    }

pub returns-clause-safe : goal.returns-clause-safe
returns-clause-safe g c =
    let F = g.F.Files in
    let p = c.in-Ok.ensures.published in
    let ran_all = ran_in F.honest F.means F.faults c.args.self.now c.publish.new.self c.args.committer c.args.packed c.args.edits.items c.publish.new.edits.items c.in-Ok.published p c.in_default.is in
    let start = c.args.self.now in
    let held = c.args.edits.items in
    let ran = c.publish.new.edits in
    let packed = c.args.packed in
    let rewrite = c.in-Ok.published.rewrite in
    let ways = p.ways in
    let paths = paths_of c.deref-2.result.now in
    let decided = F.means p.before in
    let mid = F.means c.publish.new.self.files in
    let new = with_files c.publish.new.self c.remove_empty_folders-2.new.files in
    let renamed = c.is_renamed.result in
    let alike = c.publish.ensures.alike in
    let released = F.means c.release_all-released.new.files in
    let tidied = F.means c.remove_empty_folders-2.new.files in
    let done = c.len-done.result in
    record {
      stops = λ old mode given from.
          let e = c.release_all-released.ensures in
          let left = paths_of c.release_all-released.result.left.items in
          let same : start.dirs ≡ old.dirs = from.held.same.dirs in
          let in_way : F.honest → AllInWay ran.items old.dirs decided.tree (folder_lists ways) (planned_entries old.dirs ran.items packed rewrite) = λ h.
          subst (λ (d : Dirs). AllInWay ran.items d decided.tree (folder_lists ways) (planned_entries d ran.items packed rewrite)) from.held.same.dirs (p.decided.in_way h) in
          let still : c.publish.new.self.dirs ≡ old.dirs = ap (λ (st : Store g.row.F.Denot). st.dirs) c.publish.ensures.same ∙ same in
          let tidies : F.honest → Leaves released tidied (FoldersGo old.dirs paths released.tree) = λ h.
          subst (λ (d : Dirs). Leaves released tidied (FoldersGo d paths released.tree)) still (c.remove_empty_folders-2.ensures.leaves h) in
          let runs : F.honest → Leaves decided mid (IsLeftBy (bare_steps (commit_entries old.dirs ran.items packed rewrite ways)) decided.tree) = λ h.
          subst (λ (d : Dirs). Leaves decided mid (IsLeftBy (bare_steps (commit_entries d ran.items packed rewrite ways)) decided.tree)) same (p.runs.leaves h) in
          let releases : F.honest → Leaves mid (F.means c.release_all-released.new.files) (RemovesLocks (held_locks (if renamed then None else packed) ran.items) mid.tree) = λ h. rw c.still_held-packed-2.ensures at (e.releases.leaves h) in
          let after : F.honest → IsAfter (bare_steps (commit_entries old.dirs ran.items packed rewrite ways)) decided.tree mid.tree = λ h.
          subst (λ (d : Dirs). IsAfter (bare_steps (commit_entries d ran.items packed rewrite ways)) decided.tree mid.tree) same (ran_all.done h) in
          ran_well F.honest F.means F.faults mode old start c.args.committer given packed held from ran.items alike new left decided
          (λ h. p.fills.leaves h (from.packed.empty h)) (λ h. p.fills.passes h (from.packed.empty h))
          p.decided.texts.logs rewrite p.decided.texts.repacked (λ h. p.decided.texts.filled h (from.packed.empty h)) (λ h. p.decided.texts.wholes h (from.packed.empty h)) ways in_way
          mid released renamed paths runs releases tidies done
          (λ h. rw c.still_held-packed-2.ensures at (e.packed_gone h))
          (λ h text path some. whole_packed_gone F.honest F.means F.faults mode old start c.args.committer given packed held from ran.items alike new left decided
          (λ h. p.fills.leaves h (from.packed.empty h)) (λ h. p.fills.passes h (from.packed.empty h))
          p.decided.texts.logs rewrite p.decided.texts.repacked (λ h. p.decided.texts.filled h (from.packed.empty h)) (λ h. p.decided.texts.wholes h (from.packed.empty h)) ways in_way
          mid released renamed paths runs releases tidies after h (sym c.is_renamed.ensures ∙ text) path some)
          (λ h k lt. e.gone h k (omega (arith, lt, ran.ok)))
          (λ h k lt early written. whole_gone F.honest F.means F.faults mode old start c.args.committer given packed held from ran.items alike new left decided
          (λ h. p.fills.leaves h (from.packed.empty h)) (λ h. p.fills.passes h (from.packed.empty h))
          p.decided.texts.logs rewrite p.decided.texts.repacked (λ h. p.decided.texts.filled h (from.packed.empty h)) (λ h. p.decided.texts.wholes h (from.packed.empty h)) ways in_way
          mid released renamed paths runs releases tidies after h k lt written)
          (rw c.still_held-packed-2.ensures at e.named.ours) (rw c.still_held-packed-2.ensures at e.named.once);
      losses = λ old mode given from h good at_rest.
          let e = c.release_all-released.ensures in
          let left = paths_of c.release_all-released.result.left.items in
          let same : start.dirs ≡ old.dirs = from.held.same.dirs in
          let in_way : F.honest → AllInWay ran.items old.dirs decided.tree (folder_lists ways) (planned_entries old.dirs ran.items packed rewrite) = λ h.
          subst (λ (d : Dirs). AllInWay ran.items d decided.tree (folder_lists ways) (planned_entries d ran.items packed rewrite)) from.held.same.dirs (p.decided.in_way h) in
          let still : c.publish.new.self.dirs ≡ old.dirs = ap (λ (st : Store g.row.F.Denot). st.dirs) c.publish.ensures.same ∙ same in
          let tidies : F.honest → Leaves released tidied (FoldersGo old.dirs paths released.tree) = λ h.
          subst (λ (d : Dirs). Leaves released tidied (FoldersGo d paths released.tree)) still (c.remove_empty_folders-2.ensures.leaves h) in
          let runs : F.honest → Leaves decided mid (IsLeftBy (bare_steps (commit_entries old.dirs ran.items packed rewrite ways)) decided.tree) = λ h.
          subst (λ (d : Dirs). Leaves decided mid (IsLeftBy (bare_steps (commit_entries d ran.items packed rewrite ways)) decided.tree)) same (p.runs.leaves h) in
          let releases : F.honest → Leaves mid (F.means c.release_all-released.new.files) (RemovesLocks (held_locks (if renamed then None else packed) ran.items) mid.tree) = λ h. rw c.still_held-packed-2.ensures at (e.releases.leaves h) in
          let passes : Passes decided mid (IsReachedBy (steps_in (commit_entries old.dirs ran.items packed rewrite ways)) (disk_of decided)) =
          subst (λ (d : Dirs). Passes decided mid (IsReachedBy (steps_in (commit_entries d ran.items packed rewrite ways)) (disk_of decided))) same (p.runs.passes h) in
          let only : OnlyRemoves (held_locks (if renamed then None else packed) ran.items) mid (F.means c.release_all-released.new.files) = rw c.still_held-packed-2.ensures at (e.releases.passes h) in
          let less : Passes released tidied (LosesNoMore (disk_of released)) = c.remove_empty_folders-2.ensures.loses h in
          lost F.honest F.means F.faults mode old start c.args.committer given packed held from ran.items alike new left decided
          (λ h. p.fills.leaves h (from.packed.empty h)) (λ h. p.fills.passes h (from.packed.empty h))
          p.decided.texts.logs rewrite p.decided.texts.repacked (λ h. p.decided.texts.filled h (from.packed.empty h)) (λ h. p.decided.texts.wholes h (from.packed.empty h)) ways in_way
          mid released renamed paths runs releases tidies h at_rest only good passes less;
    }

pub returns-clause-kept : goal.returns-clause-kept
returns-clause-kept g c =
    let F = g.F.Files in
    let p = c.in-Ok.ensures.published in
    let start = c.args.self.now in
    let held = c.args.edits.items in
    let ran = c.publish.new.edits in
    let packed = c.args.packed in
    let rewrite = c.in-Ok.published.rewrite in
    let ways = p.ways in
    let first = F.means start.files in
    let decided = F.means p.before in
    let mid = F.means c.publish.new.self.files in
    let released = F.means c.release_all-released.new.files in
    let tidied = F.means c.remove_empty_folders-2.new.files in
    let renamed = c.is_renamed.result in
    let still : c.publish.new.self.dirs ≡ start.dirs = ap (λ (st : Store g.row.F.Denot). st.dirs) c.publish.ensures.same in
    let removed : paths_of c.deref-2.result.now ≡ all_removed ran.items = ap paths_of c.deref-2.ensures.value ∙ p.decided.removed in
    record {
      folders = λ h empty.
          let left : IsLeftBy (bare_steps (commit_entries start.dirs ran.items packed rewrite ways)) decided.tree mid.tree = (p.runs.leaves h).tree in
          let releases : Leaves mid released (RemovesLocks (held_locks (if renamed then None else packed) ran.items) mid.tree) = rw c.still_held-packed-2.ensures at (c.release_all-released.ensures.releases.leaves h) in
          let tidies : FoldersGo start.dirs (all_removed ran.items) released.tree tidied.tree =
          subst (λ (paths : List Path). FoldersGo start.dirs paths released.tree tidied.tree) removed
          (subst (λ (d : Dirs). FoldersGo d (paths_of c.deref-2.result.now) released.tree tidied.tree) still (c.remove_empty_folders-2.ensures.leaves h).tree) in
          folders_stay (meaning_of start) start.dirs held ran.items packed rewrite (folder_lists ways) first.tree decided.tree mid.tree released.tree tidied.tree (held_locks (if renamed then None else packed) ran.items) (outcomes_in F.honest F.means F.faults start c.args.committer held)
          c.publish.ensures.alike (logs_are (line_rules start c.args.committer) (view_of first.tree) 0 held ran.items (p.decided.texts.logs h)) (p.decided.texts.logs h) empty (p.fills.leaves h empty).tree (p.decided.in_way h) left releases.tree tidies;
      named = left_over c.release_all-released.result.left (g.F.Files.faults c.args.self.now.files) (g.F.Files.faults c.publish.new.self.files) (g.F.Files.faults c.release_all-released.new.files) (g.F.Files.faults c.remove_empty_folders-2.new.files)
          (no_fewer_joins p.fills.no_fewer p.runs.no_fewer) c.release_all-released.ensures.named.named c.remove_empty_folders-2.ensures.no_fewer;
    }

pub returns-clause-ended : goal.returns-clause-ended
returns-clause-ended g c =
    let F = g.F.Files in
    let p = c.in-Ok.ensures.published in
    let ran_all = ran_in F.honest F.means F.faults c.args.self.now c.publish.new.self c.args.committer c.args.packed c.args.edits.items c.publish.new.edits.items c.in-Ok.published p c.in_default.is in
    let start = c.args.self.now in
    let held = c.args.edits.items in
    let ran = c.publish.new.edits in
    let packed = c.args.packed in
    let rewrite = c.in-Ok.published.rewrite in
    let ways = p.ways in
    let paths = paths_of c.deref-2.result.now in
    let decided = F.means p.before in
    let mid = F.means c.publish.new.self.files in
    let new = with_files c.publish.new.self c.remove_empty_folders-2.new.files in
    let renamed = c.is_renamed.result in
    let alike = c.publish.ensures.alike in
    let released = F.means c.release_all-released.new.files in
    let tidied = F.means c.remove_empty_folders-2.new.files in
    record {
      edits = c.release_all-released.ensures.back.edits ∙ updates_alike c.publish.new.edits.items c.args.edits.items c.publish.ensures.alike;
      commits = λ old mode given from h good.
          let e = c.release_all-released.ensures in
          let left = paths_of c.release_all-released.result.left.items in
          let same : start.dirs ≡ old.dirs = from.held.same.dirs in
          let in_way : F.honest → AllInWay ran.items old.dirs decided.tree (folder_lists ways) (planned_entries old.dirs ran.items packed rewrite) = λ h.
          subst (λ (d : Dirs). AllInWay ran.items d decided.tree (folder_lists ways) (planned_entries d ran.items packed rewrite)) from.held.same.dirs (p.decided.in_way h) in
          let still : c.publish.new.self.dirs ≡ old.dirs = ap (λ (st : Store g.row.F.Denot). st.dirs) c.publish.ensures.same ∙ same in
          let tidies : F.honest → Leaves released tidied (FoldersGo old.dirs paths released.tree) = λ h.
          subst (λ (d : Dirs). Leaves released tidied (FoldersGo d paths released.tree)) still (c.remove_empty_folders-2.ensures.leaves h) in
          let runs : F.honest → Leaves decided mid (IsLeftBy (bare_steps (commit_entries old.dirs ran.items packed rewrite ways)) decided.tree) = λ h.
          subst (λ (d : Dirs). Leaves decided mid (IsLeftBy (bare_steps (commit_entries d ran.items packed rewrite ways)) decided.tree)) same (p.runs.leaves h) in
          let releases : F.honest → Leaves mid (F.means c.release_all-released.new.files) (RemovesLocks (held_locks (if renamed then None else packed) ran.items) mid.tree) = λ h. rw c.still_held-packed-2.ensures at (e.releases.leaves h) in
          let after : F.honest → IsAfter (bare_steps (commit_entries old.dirs ran.items packed rewrite ways)) decided.tree mid.tree = λ h.
          subst (λ (d : Dirs). IsAfter (bare_steps (commit_entries d ran.items packed rewrite ways)) decided.tree mid.tree) same (ran_all.done h) in
          committed F.honest F.means F.faults mode old start c.args.committer given packed held from ran.items alike new left decided
          (λ h. p.fills.leaves h (from.packed.empty h)) (λ h. p.fills.passes h (from.packed.empty h))
          p.decided.texts.logs rewrite p.decided.texts.repacked (λ h. p.decided.texts.filled h (from.packed.empty h)) (λ h. p.decided.texts.wholes h (from.packed.empty h)) ways in_way
          mid released renamed paths runs releases tidies h good (after h) (((returns-clause-safe g c).stops old mode given from).gone h);
      good = λ old mode given from h good.
          let e = c.release_all-released.ensures in
          let left = paths_of c.release_all-released.result.left.items in
          let same : start.dirs ≡ old.dirs = from.held.same.dirs in
          let in_way : F.honest → AllInWay ran.items old.dirs decided.tree (folder_lists ways) (planned_entries old.dirs ran.items packed rewrite) = λ h.
          subst (λ (d : Dirs). AllInWay ran.items d decided.tree (folder_lists ways) (planned_entries d ran.items packed rewrite)) from.held.same.dirs (p.decided.in_way h) in
          let still : c.publish.new.self.dirs ≡ old.dirs = ap (λ (st : Store g.row.F.Denot). st.dirs) c.publish.ensures.same ∙ same in
          let tidies : F.honest → Leaves released tidied (FoldersGo old.dirs paths released.tree) = λ h.
          subst (λ (d : Dirs). Leaves released tidied (FoldersGo d paths released.tree)) still (c.remove_empty_folders-2.ensures.leaves h) in
          let runs : F.honest → Leaves decided mid (IsLeftBy (bare_steps (commit_entries old.dirs ran.items packed rewrite ways)) decided.tree) = λ h.
          subst (λ (d : Dirs). Leaves decided mid (IsLeftBy (bare_steps (commit_entries d ran.items packed rewrite ways)) decided.tree)) same (p.runs.leaves h) in
          let releases : F.honest → Leaves mid (F.means c.release_all-released.new.files) (RemovesLocks (held_locks (if renamed then None else packed) ran.items) mid.tree) = λ h. rw c.still_held-packed-2.ensures at (e.releases.leaves h) in
          let after : F.honest → IsAfter (bare_steps (commit_entries old.dirs ran.items packed rewrite ways)) decided.tree mid.tree = λ h.
          subst (λ (d : Dirs). IsAfter (bare_steps (commit_entries d ran.items packed rewrite ways)) decided.tree mid.tree) same (ran_all.done h) in
          good_on F.means old start new (files_of new) from.held.same (ap (λ (st : Store g.row.F.Denot). with_files st (files_of new)) c.publish.ensures.same)
          (kept_good F.honest F.means F.faults mode old start c.args.committer given packed held from ran.items alike new left decided
          (λ h. p.fills.leaves h (from.packed.empty h)) (λ h. p.fills.passes h (from.packed.empty h))
          p.decided.texts.logs rewrite p.decided.texts.repacked (λ h. p.decided.texts.filled h (from.packed.empty h)) (λ h. p.decided.texts.wholes h (from.packed.empty h)) ways in_way
          mid released renamed paths runs releases tidies h good (after h));
      passed = p.decided.texts.passed;
      read = p.decided.texts.repacked.read;
      settled = λ old mode given from h at_rest.
          let e = c.release_all-released.ensures in
          let left = paths_of c.release_all-released.result.left.items in
          let same : start.dirs ≡ old.dirs = from.held.same.dirs in
          let in_way : F.honest → AllInWay ran.items old.dirs decided.tree (folder_lists ways) (planned_entries old.dirs ran.items packed rewrite) = λ h.
          subst (λ (d : Dirs). AllInWay ran.items d decided.tree (folder_lists ways) (planned_entries d ran.items packed rewrite)) from.held.same.dirs (p.decided.in_way h) in
          let still : c.publish.new.self.dirs ≡ old.dirs = ap (λ (st : Store g.row.F.Denot). st.dirs) c.publish.ensures.same ∙ same in
          let tidies : F.honest → Leaves released tidied (FoldersGo old.dirs paths released.tree) = λ h.
          subst (λ (d : Dirs). Leaves released tidied (FoldersGo d paths released.tree)) still (c.remove_empty_folders-2.ensures.leaves h) in
          let runs : F.honest → Leaves decided mid (IsLeftBy (bare_steps (commit_entries old.dirs ran.items packed rewrite ways)) decided.tree) = λ h.
          subst (λ (d : Dirs). Leaves decided mid (IsLeftBy (bare_steps (commit_entries d ran.items packed rewrite ways)) decided.tree)) same (p.runs.leaves h) in
          let releases : F.honest → Leaves mid (F.means c.release_all-released.new.files) (RemovesLocks (held_locks (if renamed then None else packed) ran.items) mid.tree) = λ h. rw c.still_held-packed-2.ensures at (e.releases.leaves h) in
          let done : IsSyncedAfter (steps_in (commit_entries old.dirs ran.items packed rewrite ways)) (disk_of decided) (disk_of mid) =
          subst (λ (d : Dirs). IsSyncedAfter (steps_in (commit_entries d ran.items packed rewrite ways)) (disk_of decided) (disk_of mid)) same (ran_all.synced h) in
          let only : OnlyRemoves (held_locks (if renamed then None else packed) ran.items) mid (F.means c.release_all-released.new.files) = rw c.still_held-packed-2.ensures at (e.releases.passes h) in
          settled F.honest F.means F.faults mode old start c.args.committer given packed held from ran.items alike new left decided
          (λ h. p.fills.leaves h (from.packed.empty h)) (λ h. p.fills.passes h (from.packed.empty h))
          p.decided.texts.logs rewrite p.decided.texts.repacked (λ h. p.decided.texts.filled h (from.packed.empty h)) (λ h. p.decided.texts.wholes h (from.packed.empty h)) ways in_way
          mid released renamed paths runs releases tidies h at_rest only done (subst (λ (d : Dirs). OnlyFolders d released tidied) still (c.remove_empty_folders-2.ensures.passes h))
          (ap (λ (st : Store g.row.F.Denot). st.dirs) c.publish.ensures.same)
          (ap (λ (st : Store g.row.F.Denot). st.namespace) c.publish.ensures.same);
    }

pub done-done-requires : goal.done-done-requires
done-done-requires g c =
    let F = g.F.Files in
    let p = c.in-Ok.ensures.published in
    let stopped = stopped_in F.honest F.means F.faults c.args.self.now c.publish.new.self c.args.committer c.args.packed c.args.edits.items c.publish.new.edits.items c.in-Ok.published p c.in-Err-ended.unfinished c.in-Err-ended.is in
    let ran = c.publish.new.edits in
    subst (λ n. AllOfEdits n c.in-Err-ended.unfinished) (omega (arith, ran.ok, c.len.ensures))
    (all_of_edits F.honest c.args.self.now.dirs ran.items c.args.packed c.in-Ok.published.rewrite p.ways (F.means p.before).tree (F.means c.publish.new.self.files).tree c.in-Err-ended.unfinished
    stopped.ended)
