use Rattle.std.proofs.Common.{◌≡◌, ◌<◌, ◌+◌, None, drop, get_or, length, refl, sym, subst, ap, ◌∙◌, arith}
use Rattle.std.specs.Prelude.{◌||◌, Bool, is_some}
use Rattle.std.proofs.Math.Bool.{or-false}
use Rattle.std.proofs.Math.Seq.{map-set_same}
use Rattle.std.proofs.lemmas.List.{get_or_default, get_or-set_other, length-map}
use Rattle.std.proofs.lemmas.Result.{err_from_is_err_and}
use Rattle.gix_ref_files.specs.Tree.{Tree}
use Rattle.gix_ref_files.proofs.ReadOnly.{reads_more, reads_none}
use Rattle.gix_ref_theory.specs.OnRealTrees.{view_of}
use Rattle.gix_ref_transaction.specs.CommitRenames.{SeesItsLog}
use Rattle.gix_ref_reflog.specs.AskedEdits.{asked_edit, but_log, leaf_after}
use Rattle.gix_ref_reflog.specs.DueLines.{with_log}
use Rattle.gix_ref_reflog.specs.internal.Leaves.{leaf_id}
use Rattle.gix_ref_reflog.specs.internal.LineSteps.{log_rules, Sees}
use Rattle.gix_ref_reflog.specs.internal.SeenLogs.{due_paths}
use Rattle.gix_ref_reflog.specs.declared.leaves.Leaf.TheVariants.{Itself}
use Rattle.gix_ref_reflog.proofs.Deciding.{decided_more, refused_at, there_more}
use Rattle.gix_ref_reflog.proofs.LeafSteps.{id_of_leaf}
use Rattle.gix_ref_reflog.proofs.decide.decide_logs.Goals as goal

pub loop-i-init : goal.loop-i-init
loop-i-init g c = record {
  but_logs = refl;
  rest = λ k d le. refl;
  reads = reads_none _ _ _ _;
  there = λ h k d lt. absurd (omega (arith, lt));
  bounded = c.new-due.ensures.bounded;
  decided = λ h. record {
    files = view_of (g.F.Files.means c.args.files.now).tree;
    sees = λ q. sym (ap (λ (b : Bool). is_some (view_of (g.F.Files.means c.args.files.now).tree q) || b) (c.new-due.ensures.none q) ∙ or-false _);
    logs = refl;
    passed = λ all. all;
    refused = λ e told. told;
  };
}

pub returns-in_err-decide_log-clause-but_logs : goal.returns-in_err-decide_log-clause-but_logs
returns-in_err-decide_log-clause-but_logs g c =
    let edits = c.loop-i.edits in
    let i = c.loop-i.i in
    let e = get_or edits i c.index-edits-i.result in
    let is : e ≡ get_or edits i e = ap (λ d. get_or edits i d) c.index-edits-i.is in
    map-set_same but_log edits i c.decide_log.new.edit e (c.decide_log.ensures.but_log ∙ ap but_log is) ∙ c.loop-i.invariant.but_logs

pub returns-in_err-decide_log-clause-refused : goal.returns-in_err-decide_log-clause-refused
returns-in_err-decide_log-clause-refused g c h =
    let x = c.loop-i.invariant in
    let given = c.args.edits.now in
    let edits = c.loop-i.edits in
    let i = c.loop-i.i in
    let e = get_or edits i c.index-edits-i.result in
    let is : e ≡ get_or edits i e = ap (λ d. get_or edits i d) c.index-edits-i.is in
    let len : length edits ≡ length given = omega (arith, length-map edits but_log, length-map given but_log, ap length x.but_logs) in
    let lt : i < length given = omega (arith, len, c.loop-i-test.true) in
    let leaves = c.in_ok-leaves.leaves.items in
    let leaf : c.id-leaf.result ≡ leaf_after i (i + 1) None (drop (i + 1) given) =
    c.id-leaf.ensures ∙ (ap leaf_id (c.index.ensures ∙ (get_or_default leaves i _ Itself (omega (arith, lt, c.in_ok-leaves.ensures.len)) ∙ c.in_ok-leaves.ensures.done i (omega arith) lt)) ∙ id_of_leaf i (i + 1) Itself (drop (i + 1) given)) in
    let told = err_from_is_err_and c.from_residual-in_err-decide_log.result c.from_residual-in_err-decide_log.ensures.1 in
    let so_far = x.decided h in
    let same = (x.reads.leaves h).tree in
    let sees = subst (λ (S : Tree). Sees so_far.files S (due_paths c.loop-i.due)) (sym same) so_far.sees in
    rw (told.1, told.2)
    (refused_at (log_rules (record { settings = c.args.settings; write_reflog = c.args.write_reflog; committer = c.args.committer })) (g.F.Files.means c.args.files.now).tree given i edits (due_paths c.loop-i.due) so_far e c.id-leaf.result lt (is ∙ x.rest i e (omega arith)) leaf
    c.in_err-decide_log.field-0.0 (c.in_err-decide_log.ensures.refused h so_far.files sees))

pub loop-i-preserved : goal.loop-i-preserved
loop-i-preserved g c =
    let x = c.loop-i.invariant in
    let given = c.args.edits.now in
    let edits = c.loop-i.edits in
    let i = c.loop-i.i in
    let e = get_or edits i c.index-edits-i.result in
    let is : e ≡ get_or edits i e = ap (λ d. get_or edits i d) c.index-edits-i.is in
    let new = c.decide_log.new.edit in
    let len : length edits ≡ length given = omega (arith, length-map edits but_log, length-map given but_log, ap length x.but_logs) in
    let lt : i < length given = omega (arith, len, c.loop-i-test.true) in
    let leaves = c.in_ok-leaves.leaves.items in
    let leaf : c.id-leaf.result ≡ leaf_after i (i + 1) None (drop (i + 1) given) =
    c.id-leaf.ensures ∙ (ap leaf_id (c.index.ensures ∙ (get_or_default leaves i _ Itself (omega (arith, lt, c.in_ok-leaves.ensures.len)) ∙ c.in_ok-leaves.ensures.done i (omega arith) lt)) ∙ id_of_leaf i (i + 1) Itself (drop (i + 1) given)) in
    record {
      but_logs = map-set_same but_log edits i new e (c.decide_log.ensures.but_log ∙ ap but_log is) ∙ x.but_logs;
      rest = λ k d le. get_or-set_other edits i k new d (λ same. absurd (omega (arith, le, same))) ∙ x.rest k d (omega (arith, le));
      reads = reads_more _ _ _ _ _ _ x.reads c.decide_log.ensures.reads;
      there = λ h. there_more edits i new (g.F.Files.means c.args.files.now).tree (omega (arith, lt, len)) (x.there h)
          (subst (λ (T : Tree). SeesItsLog T new) (x.reads.leaves h).tree (c.in_ok-decide_log.ensures.there h));
      bounded = c.in_ok-decide_log.ensures.bounded;
      decided = λ h.
          let so_far = x.decided h in
          let same = (x.reads.leaves h).tree in
          let sees = subst (λ (S : Tree). Sees so_far.files S (due_paths c.loop-i.due)) (sym same) so_far.sees in
          decided_more (log_rules (record { settings = c.args.settings; write_reflog = c.args.write_reflog; committer = c.args.committer })) (g.F.Files.means c.args.files.now).tree given i edits (due_paths c.loop-i.due) so_far e c.id-leaf.result lt (is ∙ x.rest i e (omega arith)) leaf
          new (due_paths c.decide_log.new.due) len (c.in_ok-decide_log.ensures.log h so_far.files sees) (c.in_ok-decide_log.ensures.passed h so_far.files sees)
          (subst (λ (S : Tree). Sees (with_log (log_rules (record { settings = c.args.settings; write_reflog = c.args.write_reflog; committer = c.args.committer })) so_far.files (asked_edit e c.id-leaf.result)) S (due_paths c.decide_log.new.due)) same (c.in_ok-decide_log.ensures.seen h so_far.files sees));
    }

pub returns-clause-there : goal.returns-clause-there
returns-clause-there g c h k d lt node seen = c.loop-i.invariant.there h k d (omega (arith, lt, c.loop-i-test.false)) node seen
