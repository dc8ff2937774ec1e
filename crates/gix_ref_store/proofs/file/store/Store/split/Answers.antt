use Rattle.std.proofs.Common.{Vec, Global}
use Rattle.gix_ref_edits.specs.declared.transaction.RefEdit.{RefEdit}
use Rattle.gix_ref_transaction.specs.SplitOutcomes.{IsNotSplit, IsSplitOf}
use Rattle.gix_ref_transaction.specs.declared.prepare.error.Error.{Error}
use Rattle.gix_ref_transaction.specs.declared.prepare.split.SplitEdits.{SplitEdits}
use Rattle.gix_ref_transaction.proofs.PackedLemmas.{if_err, if_ok}
use Rattle.gix_ref_store.specs.Prepared.{tree_of}
use Rattle.gix_ref_store.specs.Store.{files_of, kind_of, meaning_of}
use Rattle.gix_ref_store.proofs.SplitRuns.{split_cause, splits_from}
use Rattle.gix_ref_store.proofs.file.store.Store.split.Goals as goal

pub returns-clause-splits : goal.returns-clause-splits
returns-clause-splits g c =
    let F = g.F.Files in
    let e = c.split_edits.ensures in
    splits_from F.honest F.means F.faults c.args.self.now c.args.edits.items (rw c.deref.ensures.value at c.in_default.ensures.sound) c.split_edits.result e.split e.direct

pub returns-clause-valid : goal.returns-clause-valid
returns-clause-valid g c =
    let F = g.F.Files in
    let self = c.args.self.now in
    if_ok c.split_edits.result (λ (split : SplitEdits) (is : IsSplitOf F.honest (meaning_of self) (kind_of self) (tree_of F.means self) c.args.edits.items split). is.valid (rw c.deref.ensures.value at c.in_default.ensures.sound)) c.split_edits.ensures.split

pub returns-clause-parents : goal.returns-clause-parents
returns-clause-parents g c h =
    let F = g.F.Files in
    let self = c.args.self.now in
    if_ok c.split_edits.result (λ (split : SplitEdits) (is : IsSplitOf F.honest (meaning_of self) (kind_of self) (tree_of F.means self) c.args.edits.items split). is.parents h) c.split_edits.ensures.split

pub returns-clause-len : goal.returns-clause-len
returns-clause-len g c =
    let F = g.F.Files in
    let self = c.args.self.now in
    if_ok c.split_edits.result (λ (split : SplitEdits) (is : IsSplitOf F.honest (meaning_of self) (kind_of self) (tree_of F.means self) c.args.edits.items split). is.len) c.split_edits.ensures.split

pub returns-clause-counted : goal.returns-clause-counted
returns-clause-counted g c =
    let F = g.F.Files in
    let self = c.args.self.now in
    if_err c.split_edits.result (λ (r : Error × Vec RefEdit Global) (why : IsNotSplit F.honest F.means F.faults (meaning_of self) c.args.edits.items (files_of self) c.split_edits.new.files r.0). why.counted) c.split_edits.ensures.refused

pub returns-clause-refused : goal.returns-clause-refused
returns-clause-refused g c h =
    let F = g.F.Files in
    split_cause F.honest F.means F.faults c.args.self.now c.args.edits.items (rw c.deref.ensures.value at c.in_default.ensures.sound) c.split_edits.new.files c.split_edits.result c.split_edits.ensures.refused h
