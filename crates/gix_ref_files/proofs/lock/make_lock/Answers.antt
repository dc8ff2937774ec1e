use Rattle.std.proofs.Common.{◌≡◌, Bool, false, sym, subst}
use Rattle.std.proofs.lemmas.Result.{err_from_is_err_and}
use Rattle.gix_ref_files.specs.Tree.{is_blocked}
use Rattle.gix_ref_files.specs.Files.{disk_of}
use Rattle.gix_ref_files.specs.Lock.{readied, readied_on, Readies, Readying, after_readying}
use Rattle.gix_ref_files.proofs.LockLemmas.{makes_lock, locked_on, locking_on, if_either, if_ok_with}
use Rattle.gix_ref_files.specs.Tree.{Tree}
use Rattle.gix_ref_files.proofs.Stops.{readying_trees}
use Rattle.gix_ref_files.proofs.lock.make_lock.Goals as goal

pub returns-in_err-ready-clause-answer : goal.returns-in_err-ready-clause-answer
returns-in_err-ready-clause-answer g c h =
    rw (err_from_is_err_and c.from_residual.result c.from_residual.ensures.1).1 (readying_trees c.args.path.now _ _ (c.ready.ensures.passes h).disk)

pub returns-clause-answer : goal.returns-clause-answer
returns-clause-answer g c h =
    let old = g.F.Files.means c.args.files.now in
    let mid = g.F.Files.means c.ready.new.files in
    let new = g.F.Files.means c.create_new.new.self in
    let before = old.tree in
    let made : (is_blocked old.tree c.args.path.now ≡ false) × (mid.tree ≡ readied old.tree c.args.path.now) =
    subst (λ (b : Bool). Readies old.tree c.args.path.now mid.tree b) c.if-not-branch.false (c.in_ok-ready.ensures.answer h) in
    if_either c.create_new.result (λ create answer. makes_lock old.tree mid.tree new.tree c.args.path.now c.args.lock.now create c.requires made answer)
    (λ error same. subst (λ (T : Tree). Readying before c.args.path.now T) (sym same) (readying_trees c.args.path.now _ _ (c.ready.ensures.passes h).disk))
    (c.create_new.ensures.answer h)

pub returns-clause-disk : goal.returns-clause-disk
returns-clause-disk g c h =
    let old = g.F.Files.means c.args.files.now in
    let mid = g.F.Files.means c.ready.new.files in
    let new = g.F.Files.means c.create_new.new.self in
    let made : (is_blocked old.tree c.args.path.now ≡ false) × (mid.tree ≡ readied old.tree c.args.path.now) =
    subst (λ (b : Bool). Readies old.tree c.args.path.now mid.tree b) c.if-not-branch.false (c.in_ok-ready.ensures.answer h) in
    let ready : disk_of mid ≡ readied_on (disk_of old) c.args.path.now =
    subst (λ (b : Bool). disk_of mid ≡ after_readying (disk_of old) c.args.path.now b) c.if-not-branch.false (c.in_ok-ready.ensures.disk h) in
    if_ok_with _ c.create_new.result
    (λ create answer after. locked_on (disk_of old) (disk_of mid) (disk_of new) c.args.path.now c.args.lock.now create c.requires made.0 made.1 ready answer after)
    (c.create_new.ensures.answer h) (c.create_new.ensures.disk h)

pub returns-clause-passes : goal.returns-clause-passes
returns-clause-passes g c h =
    let old = g.F.Files.means c.args.files.now in
    let mid = g.F.Files.means c.ready.new.files in
    let made : (is_blocked old.tree c.args.path.now ≡ false) × (mid.tree ≡ readied old.tree c.args.path.now) =
    subst (λ (b : Bool). Readies old.tree c.args.path.now mid.tree b) c.if-not-branch.false (c.in_ok-ready.ensures.answer h) in
    let ready : disk_of mid ≡ readied_on (disk_of old) c.args.path.now =
    subst (λ (b : Bool). disk_of mid ≡ after_readying (disk_of old) c.args.path.now b) c.if-not-branch.false (c.in_ok-ready.ensures.disk h) in
    locking_on old mid (g.F.Files.means c.create_new.new.self) c.args.path.now c.args.lock.now c.requires (c.ready.ensures.passes h) made.0 ready (c.create_new.ensures.passes h)
