use Rattle.std.proofs.Common.{inl}
use Rattle.gix_ref_files.specs.Files.{disk_of}
use Rattle.gix_ref_files.proofs.LockLemmas.{if_either, if_ok}
use Rattle.gix_ref_files.proofs.Moments.{passes_weaken, weaken}
use Rattle.gix_ref_transaction.proofs.Led.{acquiring, locked, locking, makes}
use Rattle.gix_ref_transaction.proofs.edit.take_lock.Goals as goal

pub returns-then-is_ready-clause-answer : goal.returns-then-is_ready-clause-answer
returns-then-is_ready-clause-answer g c h =
    let before = g.F.Files.means c.args.files.now in
    let after = g.F.Files.means c.create.new.files in
    if_either c.create.result (makes before.tree c.args.lock.now (c.requires.ready h c.if-is_ready.true) after.tree) (λ error same. inl same) (c.create.ensures.answer h)

pub returns-then-is_ready-clause-leaves : goal.returns-then-is_ready-clause-leaves
returns-then-is_ready-clause-leaves g c h =
    let before = g.F.Files.means c.args.files.now in
    weaken (c.create.ensures.leaves h) (acquiring before.tree c.args.lock.now (c.requires.ready h c.if-is_ready.true))

pub returns-then-is_ready-clause-disk : goal.returns-then-is_ready-clause-disk
returns-then-is_ready-clause-disk g c h =
    let before = g.F.Files.means c.args.files.now in
    let after = g.F.Files.means c.create.new.files in
    if_ok c.create.result (locked (disk_of before) c.args.lock.now (c.requires.ready h c.if-is_ready.true) (disk_of after)) (c.create.ensures.disk h)

pub returns-then-is_ready-clause-passes : goal.returns-then-is_ready-clause-passes
returns-then-is_ready-clause-passes g c h =
    let before = g.F.Files.means c.args.files.now in
    passes_weaken (c.create.ensures.passes h) (locking (disk_of before) c.args.lock.now (c.requires.ready h c.if-is_ready.true))
