use Rattle.std.proofs.Common.{◌≡◌, ◌∙◌, List, sym, ap, subst}
use Rattle.gix_ref_files.specs.Disk.{Disk}
use Rattle.gix_ref_files.specs.Tree.{Tree}
use Rattle.gix_ref_lookup.specs.declared.folders.Dirs.{Dirs}
use Rattle.gix_ref_transaction.specs.PrepareSteps.{AreWholeLocks}
use Rattle.gix_ref_transaction.specs.declared.edit.Edit.{Edit}
use Rattle.gix_ref_commit.specs.Cleared.{AllInWay, all_removed, cleared, commit_entries, folder_lists}
use Rattle.gix_ref_commit.specs.Decided.{IsFilled}
use Rattle.gix_ref_commit.specs.Entries.{Entry, entries, planned_entries}
use Rattle.gix_ref_commit.specs.Failures.{IsOfListing}
use Rattle.gix_ref_commit.specs.Unfinished.{RunsOnly, RunsTo}
use Rattle.gix_ref_commit.specs.declared.folders.EmptyDirs.{EmptyDirs}
use Rattle.gix_ref_commit.proofs.Filling.{fills_then_reads}
use Rattle.gix_ref_store.specs.Store.{with_files}
use Rattle.gix_ref_store.specs.declared.file.store.Store.{Store}
use Rattle.gix_ref_store.proofs.CommitFailures.{unlisted_by}
use Rattle.gix_ref_store.proofs.file.store.Store.publish.Goals as goal

pub returns-in-Err-clause-fills : goal.returns-in-Err-clause-fills
returns-in-Err-clause-fills g c =
    let F = g.F.Files in
    fills_then_reads F.honest F.means F.faults c.args.packed.now c.args.self.now.files c.decide_texts.new.self.files c.decide_folders.new.files c.decide_texts.ensures.fills c.decide_folders.ensures.reads

pub returns-in-Err-clause-failed : goal.returns-in-Err-clause-failed
returns-in-Err-clause-failed g c =
    let F = g.F.Files in
    let start = c.args.self.now in
    let ran = c.decide_texts.new.edits in
    let new = with_files start c.decide_folders.new.files in
    unlisted_by F.honest F.means F.faults start new c.args.committer c.args.edits.now.items ran.items (F.faults c.decide_texts.new.self.files) c.in-Err.error c.decide_texts.ensures.alike
    c.in_ok-rewrite.ensures.decided.logs c.decide_texts.ensures.fills.no_fewer
    (subst (λ (l : List Edit). IsOfListing l (F.faults c.decide_texts.new.self.files) (F.faults c.decide_folders.new.files) c.in-Err.error) c.deref-3.ensures.value c.in-Err.ensures.failed)

pub decide_folders-requires : goal.decide_folders-requires
decide_folders-requires g c = (
  c.args.packed.now,
  c.in_ok-rewrite.field-0.rewrite,
  ap entries c.deref-4.ensures.value
      ∙ (c.in-Ok-plan_commit.ensures
      ∙ ap (λ (l : List Edit). planned_entries c.decide_texts.new.self.dirs l c.args.packed.now c.in_ok-rewrite.field-0.rewrite) (c.deref-2.ensures.value ∙ sym c.deref-3.ensures.value)),
)

pub returns-clause-published : goal.returns-clause-published
returns-clause-published g c =
    let F = g.F.Files in
    let start = c.args.self.now in
    let packed = c.args.packed.now in
    let e = c.in_ok-rewrite.ensures.decided in
    let rewrite = c.in_ok-rewrite.field-0.rewrite in
    let ran = c.decide_texts.new.edits.items in
    let decided = F.means c.decide_texts.new.self.files in
    let ways = c.in-Ok-decide_folders.ways.items in
    let plan = c.in-Ok-plan_commit.plan.items in
    let same : c.decide_texts.new.self.dirs ≡ start.dirs = ap (λ (st : Store g.row.F.Denot). st.dirs) c.decide_texts.ensures.same in
    let planned : entries plan ≡ planned_entries start.dirs ran packed rewrite =
    c.in-Ok-plan_commit.ensures
    ∙ (ap (λ (l : List Edit). planned_entries c.decide_texts.new.self.dirs l packed rewrite) c.deref-2.ensures.value
    ∙ ap (λ (d : Dirs). planned_entries d ran packed rewrite) same) in
    let steps : cleared (folder_lists c.deref-5.result.now) (entries plan) ≡ commit_entries start.dirs ran packed rewrite ways =
    ap (λ (w : List EmptyDirs). cleared (folder_lists w) (entries plan)) c.deref-5.ensures.value ∙ ap (cleared (folder_lists ways)) planned in
    record {
      before = c.decide_folders.new.files;
      fills = fills_then_reads F.honest F.means F.faults packed start.files c.decide_texts.new.self.files c.decide_folders.new.files c.decide_texts.ensures.fills c.decide_folders.ensures.reads;
      ways = ways;
      decided = record {
        texts = record {
          logs = e.logs;
          logged = e.logged;
          passed = e.passed;
          repacked = e.repacked;
          path = e.path;
          filled = λ h empty. subst (λ (T : Tree). IsFilled packed rewrite (F.means start.files).tree T) (sym (c.decide_folders.ensures.reads.leaves h).tree) (e.filled h empty);
          wholes = λ h empty locks whole. subst (λ (D : Disk). AreWholeLocks D locks) (sym (c.decide_folders.ensures.reads.passes h).disk) (e.wholes h empty locks whole);
        };
        removed = c.in-Ok.ensures ∙ ap all_removed c.deref.ensures.value;
        in_way = λ h.
            subst (λ (T : Tree). AllInWay ran start.dirs T (folder_lists ways) (planned_entries start.dirs ran packed rewrite)) (sym (c.decide_folders.ensures.reads.leaves h).tree)
            (subst (λ (es : List Entry). AllInWay ran start.dirs decided.tree (folder_lists ways) es) (ap entries c.deref-4.ensures.value ∙ planned)
            (subst (λ (d : Dirs). AllInWay ran d decided.tree (folder_lists ways) (entries c.deref-4.result.now)) same
            (subst (λ (l : List Edit). AllInWay l c.decide_texts.new.self.dirs decided.tree (folder_lists ways) (entries c.deref-4.result.now)) c.deref-3.ensures.value (c.in-Ok-decide_folders.ensures.in_way h))));
      };
      runs = subst (λ (es : List Entry). RunsOnly F.honest F.means F.faults es c.decide_folders.new.files c.run_plan-ended.new.files) steps c.run_plan-ended.ensures.runs;
      ended = subst (λ (es : List Entry). RunsTo F.honest F.means F.faults es c.decide_folders.new.files c.run_plan-ended.new.files c.run_plan-ended.result) steps c.run_plan-ended.ensures.ended;
    }
