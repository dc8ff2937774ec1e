use Rattle.std.proofs.Common.{◌≡◌, ◌∙◌, ◌++◌, ℕ, List, drop, length, take, sym, ap, subst, arith}
use Rattle.std.proofs.Math.Seq.{take-append_seam}
use Rattle.std.proofs.lemmas.List.{length-map}
use Rattle.gix_ref_files.specs.Disk.{Disk}
use Rattle.gix_ref_files.specs.Tree.{Tree}
use Rattle.gix_ref_lookup.specs.Lookups.{ArePackedRecords}
use Rattle.gix_ref_theory.specs.OnRealTrees.{view_of}
use Rattle.gix_ref_transaction.specs.CommitRenames.{SeeLogs}
use Rattle.gix_ref_transaction.specs.PrepareSteps.{AreWholeLocks}
use Rattle.gix_ref_transaction.specs.declared.edit.Edit.{Edit}
use Rattle.gix_ref_reflog.specs.AskedEdits.{all_but_logs, asked, but_log, outcomes_of}
use Rattle.gix_ref_reflog.specs.DueLines.{log_outcomes}
use Rattle.gix_ref_reflog.specs.LineCauses.{AllHaveNoCause}
use Rattle.gix_ref_packed_transaction.specs.Refusals.{IsReadFile, IsRefusedRewrite}
use Rattle.gix_ref_commit.specs.Decided.{IsFilled, IsPackedLockEmpty}
use Rattle.gix_ref_commit.proofs.Filling.{fills_none, reads_then_fills}
use Rattle.gix_ref_store.specs.CommitLines.{line_rules}
use Rattle.gix_ref_store.specs.Decisions.{IsUndecided}
use Rattle.gix_ref_store.specs.Store.{kind_of, meaning_of, with_files}
use Rattle.gix_ref_store.proofs.CommitFailures.{counted_from, repacked_by, undecided_by}
use Rattle.gix_ref_store.proofs.file.store.Store.decide_texts.Goals as goal

-- the edits of a vector whose logs were decided
taken : (len : ℕ) (now rest held seen : List Edit) → seen ≡ take len (now ++ rest) → length held ≡ len → all_but_logs now ≡ all_but_logs held → all_but_logs seen ≡ all_but_logs held
taken len now rest held seen is all alike =
    ap all_but_logs
    (is ∙ (ap (λ n. take n (now ++ rest)) (omega (arith, all, length-map now but_log, length-map held but_log, ap length alike)) ∙ take-append_seam now rest))
    ∙ alike

pub returns-in-Ok-clause-decided : goal.returns-in-Ok-clause-decided
returns-in-Ok-clause-decided g c =
    let F = g.F.Files in
    let start = c.args.self.now in
    let held = c.args.edits.now in
    let now = c.decide_logs.new.edits in
    let rest = drop (length now) held.items in
    let e = c.in-Ok.ensures.decided in
    let new = F.means c.decide_packed.new.files in
    let len : held.len ≡ length now = omega (arith, held.ok, length-map now but_log, length-map held.items but_log, ap length (c.decide_logs.ensures.but_logs ∙ ap all_but_logs c.deref_mut.ensures.value)) in
    let seen : take held.len (now ++ rest) ≡ now = ap (λ n. take n (now ++ rest)) len ∙ take-append_seam now rest in
    let alike = taken held.len now _ held.items c.deref.result.now c.deref.ensures.value (omega (arith, held.ok)) (c.decide_logs.ensures.but_logs ∙ ap all_but_logs c.deref_mut.ensures.value) in
    record {
      logs = λ h. ap outcomes_of seen ∙ (c.in_default.ensures.logs h ∙ ap (λ (l : List Edit). log_outcomes (line_rules start c.args.committer) (view_of (F.means start.files).tree) (asked l)) c.deref_mut.ensures.value);
      logged = λ h. subst (SeeLogs (F.means start.files).tree) (sym seen) (c.in_default.ensures.there h);
      passed = λ h. subst (λ (l : List Edit). AllHaveNoCause (line_rules start c.args.committer) (view_of (F.means start.files).tree) (asked l)) c.deref_mut.ensures.value (c.in_default.ensures.passed h);
      repacked = repacked_by F.honest F.means F.faults start c.args.packed.now held.items c.deref.result.now c.in-Ok.new_packed.rewrite alike
          (record {
            made = λ h mode apart rs are ids puts can. e.repacked h mode apart rs
                (subst (λ (T : Tree). ArePackedRecords (kind_of start) (view_of T (meaning_of start).packed_path) rs) (sym (c.decide_logs.ensures.reads.leaves h).tree) are) ids puts can;
            read = λ h some alters. subst (λ (T : Tree). IsReadFile (kind_of start) (T (meaning_of start).packed_path)) (c.decide_logs.ensures.reads.leaves h).tree (e.whole h some alters);
          });
      path = c.in-Ok.ensures.path;
      filled = λ h empty.
          let same = (c.decide_logs.ensures.reads.leaves h).tree in
          subst (λ (T : Tree). IsFilled c.args.packed.now c.in-Ok.new_packed.rewrite T new.tree) same (e.filled h (subst (IsPackedLockEmpty c.args.packed.now) (sym same) empty));
      wholes = λ h empty locks whole. e.wholes h (subst (IsPackedLockEmpty c.args.packed.now) (sym (c.decide_logs.ensures.reads.leaves h).tree) empty) locks
          (subst (λ (D : Disk). AreWholeLocks D locks) (sym (c.decide_logs.ensures.reads.passes h).disk) whole);
    }

pub returns-in-Ok-clause-fills : goal.returns-in-Ok-clause-fills
returns-in-Ok-clause-fills g c =
    let F = g.F.Files in
    reads_then_fills F.honest F.means F.faults c.args.packed.now c.args.self.now.files c.decide_logs.new.files c.decide_packed.new.files c.decide_logs.ensures.reads c.decide_packed.ensures.fills

pub returns-in-Err-clause-fills : goal.returns-in-Err-clause-fills
returns-in-Err-clause-fills g c =
    let F = g.F.Files in
    fills_none F.honest F.means F.faults c.args.packed.now c.args.self.now.files c.decide_logs.new.files c.decide_logs.ensures.reads

pub returns-in-Err-decide_packed-clause-fills : goal.returns-in-Err-decide_packed-clause-fills
returns-in-Err-decide_packed-clause-fills g c =
    let F = g.F.Files in
    reads_then_fills F.honest F.means F.faults c.args.packed.now c.args.self.now.files c.decide_logs.new.files c.decide_packed.new.files c.decide_logs.ensures.reads c.decide_packed.ensures.fills

pub returns-in-Err-decide_packed-clause-failed : goal.returns-in-Err-decide_packed-clause-failed
returns-in-Err-decide_packed-clause-failed g c =
    let F = g.F.Files in
    let start = c.args.self.now in
    let held = c.args.edits.now in
    let e = c.in-Err-decide_packed.ensures.undecided in
    let error = c.in-Err-decide_packed.error in
    let alike = taken held.len c.decide_logs.new.edits _ held.items c.deref.result.now c.deref.ensures.value (omega (arith, held.ok)) (c.decide_logs.ensures.but_logs ∙ ap all_but_logs c.deref_mut.ensures.value) in
    let new = with_files start c.decide_packed.new.files in
    subst (IsUndecided F.honest F.means F.faults start new c.args.committer held.items) (sym c.undecided.ensures)
    (undecided_by F.honest F.means F.faults start new c.args.committer held.items c.deref.result.now error alike
    (counted_from (F.faults start.files) (F.faults c.decide_logs.new.files) (F.faults c.decide_packed.new.files) error c.decide_logs.ensures.reads.no_fewer e.counted)
    (λ h. subst (λ (T : Tree). IsRefusedRewrite (kind_of start) (T (meaning_of start).packed_path) error) (c.decide_logs.ensures.reads.leaves h).tree (e.refused h))
    (λ h apart rs are. e.sound h apart rs
    (subst (λ (T : Tree). ArePackedRecords (kind_of start) (view_of T (meaning_of start).packed_path) rs) (sym (c.decide_logs.ensures.reads.leaves h).tree) are))
    (λ h. subst (λ (l : List Edit). AllHaveNoCause (line_rules start c.args.committer) (view_of (F.means start.files).tree) (asked l)) c.deref_mut.ensures.value (c.in_default.ensures.passed h)))
