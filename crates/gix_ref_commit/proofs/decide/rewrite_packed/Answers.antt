use Rattle.std.proofs.Common.{◌≡◌, ◌∙◌, ℕ, List, [], Some, sym, ap, subst}
use Rattle.std.proofs.lemmas.Result.{err_from_is_err_and}
use Rattle.gix_ref_files.specs.Files.{disk_of}
use Rattle.gix_ref_files.specs.Disk.{Disk}
use Rattle.gix_ref_files.specs.Lock.{lock_of}
use Rattle.gix_ref_files.specs.Tree.{Tree, put}
use Rattle.gix_ref_files.specs.Tree.Content.{File}
use Rattle.gix_ref_packed_text.specs.declared.outcome.Rewrite.{Rewrite}
use Rattle.gix_ref_transaction.specs.PrepareSteps.{AreWholeLocks}
use Rattle.gix_ref_commit.specs.Decided.{IsFilled}
use Rattle.gix_ref_commit.proofs.Filling.{empty_at, fills_here, fills_none, not_filled, reads_then_fills, wholes_filled}
use Rattle.gix_ref_commit.proofs.decide.rewrite_packed.Goals as goal
use Rattle.gix_ref_commit.proofs.decide.rewrite_packed.Goals.{in-Text+in_default-write_text, in_default}

pub returns-in-Err-clause-fills : goal.returns-in-Err-clause-fills
returns-in-Err-clause-fills g c =
    let F = g.F.Files in
    reads_then_fills F.honest F.means F.faults (Some c.args.lock.now) c.args.files.now c.repack.new.files c.write_text.new.files c.repack.ensures.reads
    (fills_here F.honest F.means F.faults c.args.lock.now c.repack.new.files c.write_text.new.files c.write_text.ensures.leaves c.write_text.ensures.passes c.write_text.ensures.no_fewer)

pub returns-clause-decided : goal.returns-clause-decided
returns-clause-decided g c =
    let means = g.F.Files.means in
    let lock = lock_of c.args.lock.now in
    let old = means c.args.files.now in
    let mid = means c.repack.new.files in
    record {
      repacked = λ h mode apart rs are ids puts can some. c.in_ok-rewrite.ensures.repacked h mode apart rs are ids puts can;
      whole = λ h some alters. c.in_ok-rewrite.ensures.whole h alters;
      filled = λ h empty.
          elim c.match-rewrite.branch [
            | in-Text+in_default-write_text w ↦
                let same : mid.tree ≡ old.tree = (c.repack.ensures.reads.leaves h).tree in
                let at : mid.tree lock ≡ Some (File []) = ap (λ (T : Tree). T lock) same ∙ empty_at old.tree lock empty in
                let filled : (means w.write_text.new.files).tree ≡ put old.tree lock (Some (File w.in-Text.text.items)) =
                w.in_default-write_text.ensures.filled h at ∙ (ap (λ (T : Tree). put T lock (Some (File w.deref.result.now))) same ∙ ap (λ (l : List ℕ). put old.tree lock (Some (File l))) w.deref.ensures.value) in
                rw w.files-is (subst (λ (r : Rewrite). IsFilled (Some c.args.lock.now) r old.tree (means w.write_text.new.files).tree) (sym w.in-Text.is) filled)
            | in_default w ↦ rw w.files-is (not_filled c.args.lock.now c.in_ok-rewrite.rewrite old.tree mid.tree w.in_default.not-Text (c.repack.ensures.reads.leaves h).tree)
          ];
      wholes = λ h empty locks whole.
          let kept : AreWholeLocks (disk_of mid) locks = subst (λ (D : Disk). AreWholeLocks D locks) (sym (c.repack.ensures.reads.passes h).disk) whole in
          elim c.match-rewrite.branch [
            | in-Text+in_default-write_text w ↦
                let at : mid.tree lock ≡ Some (File []) = ap (λ (T : Tree). T lock) (c.repack.ensures.reads.leaves h).tree ∙ empty_at old.tree lock empty in
                rw w.files-is (wholes_filled (disk_of mid) (disk_of (means w.write_text.new.files)) lock w.deref.result.now at (w.in_default-write_text.ensures.whole h) (w.write_text.ensures.passes h).disk locks kept)
            | in_default w ↦ rw w.files-is kept
          ];
    }

pub returns-clause-fills : goal.returns-clause-fills
returns-clause-fills g c =
    let F = g.F.Files in
    elim c.match-rewrite.branch [
      | in-Text+in_default-write_text w ↦
          rw w.files-is (reads_then_fills F.honest F.means F.faults (Some c.args.lock.now) c.args.files.now c.repack.new.files w.write_text.new.files c.repack.ensures.reads
          (fills_here F.honest F.means F.faults c.args.lock.now c.repack.new.files w.write_text.new.files w.write_text.ensures.leaves w.write_text.ensures.passes w.write_text.ensures.no_fewer))
      | in_default w ↦ rw w.files-is (fills_none F.honest F.means F.faults (Some c.args.lock.now) c.args.files.now c.repack.new.files c.repack.ensures.reads)
    ]

pub returns-in_err-rewrite-clause-undecided : goal.returns-in_err-rewrite-clause-undecided
returns-in_err-rewrite-clause-undecided g c =
    let told = err_from_is_err_and c.from_residual.result c.from_residual.ensures.1 in
    rw (told.1, told.2) (record { sound = c.in_err-rewrite.ensures.sound; refused = c.in_err-rewrite.ensures.refused; counted = c.in_err-rewrite.ensures.counted })
