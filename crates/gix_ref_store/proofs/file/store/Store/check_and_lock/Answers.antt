use Rattle.std.proofs.Common.{◌≡◌, List, [], sym, ap, subst, ◌∙◌}
use Rattle.gix_ref_packed.specs.OpenFiles.{HasReadFault}
use Rattle.gix_ref_edits.specs.declared.transaction.RefEdit.{RefEdit}
use Rattle.gix_ref_transaction.specs.Causes.{AllValid, IsCounted}
use Rattle.gix_ref_transaction.specs.OwnLocks.{paths_of}
use Rattle.gix_ref_transaction.specs.Packing.{OfFinder, ends_of, mode_in}
use Rattle.gix_ref_transaction.specs.Splits.{IsSplitCause}
use Rattle.gix_ref_transaction.specs.declared.prepare.hold.HeldLocks.{HeldLocks}
use Rattle.gix_ref_transaction.specs.declared.prepare.hold.NotHeld.{NotHeld}
use Rattle.gix_ref_transaction.proofs.PackedLemmas.{if_err, if_ok}
use Rattle.gix_ref_store.specs.Prepared.{HoldsSplit, LosesNothing, RefusesFrom, RefusesSplit, SplitsFrom, tree_of}
use Rattle.gix_ref_store.specs.Store.{files_of, kind_of, meaning_of}
use Rattle.gix_ref_store.specs.declared.file.store.Store.{Store}
use Rattle.gix_ref_store.proofs.Refusals.{if_asked, if_asked_of}
use Rattle.gix_ref_store.proofs.SplitRuns.{refused_before, refused_on, split_on}
use Rattle.gix_ref_store.proofs.file.store.Store.check_and_lock.Goals as goal

pub lock_split-requires : goal.lock_split-requires
lock_split-requires g c =
    record { valid = subst (λ (st : Store g.row.F.Denot). AllValid (meaning_of st) (kind_of st) [] c.in-Ok.split.edits.items) (sym c.in-Ok.ensures.same) c.in-Ok.ensures.valid; len = c.in-Ok.ensures.len }

pub returns-in-Ok-clause-splits : goal.returns-in-Ok-clause-splits
returns-in-Ok-clause-splits g c =
    let F = g.F.Files in
    let old = c.args.self.now in
    let split = c.in-Ok.split.edits.items in
    let new = c.lock_split.new.self in
    if_asked split c.lock_split.result c.lock_split.ensures.asked (λ (held : HeldLocks) (u : List RefEdit). SplitsFrom F.honest F.means F.faults old c.args.edits.items u)
    (λ held. c.in-Ok.ensures.splits)

pub returns-in-Ok-clause-refused : goal.returns-in-Ok-clause-refused
returns-in-Ok-clause-refused g c =
    let F = g.F.Files in
    let old = c.args.self.now in
    let split = c.in-Ok.split.edits.items in
    let new = c.lock_split.new.self in
    let read = HasReadFault g.F.Reader.ReadAt.faults in
    let same = c.in-Ok.ensures.same in
    if_err c.lock_split.result (λ (r : NotHeld) refused.
    let left = paths_of r.failure.locks_left.items in
    refused_on F.honest F.means F.faults (mode_in c.args.packed_refs.now) old (files_of c.split.new.self) c.in-Ok.ensures.reads read (OfFinder g.T.Find.claims c.args.packed_refs.now) (ends_of g.T.Find.meaning c.args.packed_refs.now) new c.args.edits.items split r.failure.error left c.in-Ok.ensures.splits
    (subst (λ (st : Store g.row.F.Denot). RefusesSplit F.honest read F.means F.faults (OfFinder g.T.Find.claims c.args.packed_refs.now) (ends_of g.T.Find.meaning c.args.packed_refs.now) (mode_in c.args.packed_refs.now) st new split r.failure.error left) same refused)
    (λ h. subst (λ (st : Store g.row.F.Denot). LosesNothing F.means (mode_in c.args.packed_refs.now) st new split) same (c.lock_split.ensures.lost h)))
    c.lock_split.ensures.refused

pub returns-in-Err-clause-refused : goal.returns-in-Err-clause-refused
returns-in-Err-clause-refused g c =
    let F = g.F.Files in
    let read = HasReadFault g.F.Reader.ReadAt.faults in
    let old = c.args.self.now in
    let given = c.args.edits.items in
    let files = files_of c.split.new.self in
    let error = c.refused_before_locks.result.failure.error in
    let is : error ≡ c.in-Err.error = c.refused_before_locks.ensures.error in
    let left = paths_of c.refused_before_locks.result.failure.locks_left.items in
    subst (λ (st : Store g.row.F.Denot). RefusesFrom F.honest read F.means F.faults (OfFinder g.T.Find.claims c.args.packed_refs.now) (ends_of g.T.Find.meaning c.args.packed_refs.now) (mode_in c.args.packed_refs.now) old st given error left) (sym c.in-Err.ensures.same)
    (refused_before F.honest F.means F.faults (mode_in c.args.packed_refs.now) old files c.in-Err.ensures.reads read (OfFinder g.T.Find.claims c.args.packed_refs.now) (ends_of g.T.Find.meaning c.args.packed_refs.now) given error left (ap paths_of c.refused_before_locks.ensures.none)
    (λ h. subst (IsSplitCause (meaning_of old) (kind_of old) (tree_of F.means old) given) (sym is) (c.in-Err.ensures.refused h))
    (subst (IsCounted (F.faults (files_of old)) (F.faults files)) (sym is) c.in-Err.ensures.counted))

pub returns-in-Ok-clause-direct : goal.returns-in-Ok-clause-direct
returns-in-Ok-clause-direct g c direct =
    if_err c.lock_split.result (λ (r : NotHeld) (same : r.edits.items ≡ c.in-Ok.split.edits.items). same ∙ c.in-Ok.ensures.splits.direct direct) c.lock_split.ensures.edits

pub returns-in-Ok-clause-parents : goal.returns-in-Ok-clause-parents
returns-in-Ok-clause-parents g c h =
    let parents = c.in-Ok.ensures.parents h in
    if_ok c.lock_split.result (λ (held : HeldLocks) same. same ∙ parents) c.lock_split.ensures.parents

pub returns-in-Ok-clause-held : goal.returns-in-Ok-clause-held
returns-in-Ok-clause-held g c =
    let F = g.F.Files in
    let old = c.args.self.now in
    let split = c.in-Ok.split.edits.items in
    let new = c.lock_split.new.self in
    let mode = mode_in c.args.packed_refs.now in
    let claims = OfFinder g.T.Find.claims c.args.packed_refs.now in
    let meaning = ends_of g.T.Find.meaning c.args.packed_refs.now in
    if_asked_of split c.lock_split.result c.lock_split.ensures.asked (λ (held : HeldLocks) (u : List RefEdit). HoldsSplit F.honest F.means F.faults claims meaning mode old new u held.packed held.edits.items)
    (λ held. HoldsSplit F.honest F.means F.faults claims meaning mode c.split.new.self new split held.packed held.edits.items)
    (λ held from. split_on F.honest F.means F.faults mode old (files_of c.split.new.self) c.in-Ok.ensures.reads claims meaning new split held.packed held.edits.items
    (subst (λ (st : Store g.row.F.Denot). HoldsSplit F.honest F.means F.faults claims meaning mode st new split held.packed held.edits.items) c.in-Ok.ensures.same from))
    c.lock_split.ensures.held
