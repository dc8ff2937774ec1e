use Rattle.std.proofs.Common.{◌≡◌, false, inr, subst, sym, ap, ◌∙◌, ℕ, List, Some}
use Rattle.gix_ref_files.specs.Lock.{lock_of}
use Rattle.gix_ref_files.specs.Tree.{Tree, is_file, put}
use Rattle.gix_ref_files.specs.Tree.Content.{File}
use Rattle.gix_ref_files.proofs.Moments.{joins, weaken, passes_joins, passes_weaken}
use Rattle.gix_ref_files.specs.Files.{disk_of}
use Rattle.gix_ref_files.specs.Settled.{IsWholeAt}
use Rattle.gix_ref_packed_transaction.specs.PackedTransactions.{IsOldOrRewritten}
use Rattle.gix_ref_packed_transaction.proofs.LockSteps.{lock_moved, when_ok, on_ok, filling, renaming, is_renamed}
use Rattle.gix_ref_packed_transaction.proofs.Losses.{folder_there, keeps_fill, keeps_first, keeps_renaming, keeps_settling, lock_file, settles_renamed}
use Rattle.gix_ref_packed_transaction.proofs.transaction.commit.put_text.Goals as goal
use Rattle.gix_ref_packed_text.specs.declared.outcome.Rewrite.TheVariants.{Text}

pub returns-in-Err-clause-leaves : goal.returns-in-Err-clause-leaves
returns-in-Err-clause-leaves g c honest empty =
    weaken (c.write_text.ensures.leaves honest empty) (filling (g.F.Files.means c.args.files.now).tree c.args.lock.now (Text c.args.text.now))

pub returns-in_err-move_lock-clause-leaves : goal.returns-in_err-move_lock-clause-leaves
returns-in_err-move_lock-clause-leaves g c honest empty =
    let before = (g.F.Files.means c.args.files.now).tree in
    let first = weaken (c.write_text.ensures.leaves honest empty) (filling before c.args.lock.now (Text c.args.text.now)) in
    joins first (weaken (c.move_lock.ensures.leaves honest) (λ T moves. renaming before c.args.lock.now c.args.text.now _ T (c.in_default.ensures.filled honest empty ∙ ap (λ (bytes : List ℕ). put (g.F.Files.means c.args.files.now).tree (lock_of c.args.lock.now) (Some (File bytes))) c.deref.ensures.value) moves))

pub returns-clause-done : goal.returns-clause-done
returns-clause-done g c honest empty =
    when_ok c.settle.result (is_renamed (g.F.Files.means c.args.files.now).tree c.args.lock.now c.args.text.now _ _ _ (c.in_default.ensures.filled honest empty ∙ ap (λ (bytes : List ℕ). put (g.F.Files.means c.args.files.now).tree (lock_of c.args.lock.now) (Some (File bytes))) c.deref.ensures.value) (c.in_ok-move_lock.ensures.moved honest) (c.settle.ensures.leaves honest).tree)

pub returns-clause-leaves : goal.returns-clause-leaves
returns-clause-leaves g c honest empty =
    let before = (g.F.Files.means c.args.files.now).tree in
    let place = c.args.lock.now in
    let first = weaken (c.write_text.ensures.leaves honest empty) (filling before place (Text c.args.text.now)) in
    let second = joins first (weaken (c.move_lock.ensures.leaves honest) (λ T moves. renaming before place c.args.text.now _ T (c.in_default.ensures.filled honest empty ∙ ap (λ (bytes : List ℕ). put (g.F.Files.means c.args.files.now).tree (lock_of c.args.lock.now) (Some (File bytes))) c.deref.ensures.value) moves)) in
    joins second (weaken (c.settle.ensures.leaves honest) (λ T same. subst (IsOldOrRewritten (Text c.args.text.now) place before) (sym same) second.tree))

pub returns-in-Err-clause-passes : goal.returns-in-Err-clause-passes
returns-in-Err-clause-passes g c honest ready =
    let place = c.args.lock.now in
    let D = disk_of (g.F.Files.means c.args.files.now) in
    let t = Text c.args.text.now in
    passes_weaken (c.write_text.ensures.passes honest) (λ E fills. keeps_fill t place D D E (lock_file place D ready) fills (keeps_first t place D ready))

pub returns-in_err-move_lock-clause-passes : goal.returns-in_err-move_lock-clause-passes
returns-in_err-move_lock-clause-passes g c honest ready =
    let place = c.args.lock.now in
    let D = disk_of (g.F.Files.means c.args.files.now) in
    let t = Text c.args.text.now in
    let first = passes_weaken (c.write_text.ensures.passes honest) (λ E fills. keeps_fill t place D D E (lock_file place D ready) fills (keeps_first t place D ready)) in
    let whole = subst (λ (bytes : List ℕ). IsWholeAt (disk_of (g.F.Files.means c.write_text.new.files)) (lock_of place) bytes) c.deref.ensures.value (c.in_default.ensures.whole honest ready.lock) in
    passes_joins first (passes_weaken (c.move_lock.ensures.passes honest) (λ E renames. keeps_renaming place D _ c.args.text.now whole first.disk E renames))

pub returns-clause-passes : goal.returns-clause-passes
returns-clause-passes g c honest ready =
    let place = c.args.lock.now in
    let D = disk_of (g.F.Files.means c.args.files.now) in
    let t = Text c.args.text.now in
    let first = passes_weaken (c.write_text.ensures.passes honest) (λ E fills. keeps_fill t place D D E (lock_file place D ready) fills (keeps_first t place D ready)) in
    let whole = subst (λ (bytes : List ℕ). IsWholeAt (disk_of (g.F.Files.means c.write_text.new.files)) (lock_of place) bytes) c.deref.ensures.value (c.in_default.ensures.whole honest ready.lock) in
    let second = passes_joins first (passes_weaken (c.move_lock.ensures.passes honest) (λ E renames. keeps_renaming place D _ c.args.text.now whole first.disk E renames)) in
    passes_joins second (passes_weaken (c.settle.ensures.passes honest) (λ E settles. keeps_settling t place D _ E _ settles second.disk))

pub returns-clause-settled : goal.returns-clause-settled
returns-clause-settled g c honest ready =
    let place = c.args.lock.now in
    let D = disk_of (g.F.Files.means c.args.files.now) in
    let t = Text c.args.text.now in
    let first = keeps_fill t place D D _ (lock_file place D ready) (c.write_text.ensures.passes honest).disk (keeps_first t place D ready) in
    let whole = subst (λ (bytes : List ℕ). IsWholeAt (disk_of (g.F.Files.means c.write_text.new.files)) (lock_of place) bytes) c.deref.ensures.value (c.in_default.ensures.whole honest ready.lock) in
    let second = keeps_renaming place D _ c.args.text.now whole first _ (c.move_lock.ensures.passes honest).disk in
    on_ok c.settle.result (settles_renamed place D _ c.args.text.now whole first _ _ (c.in_ok-move_lock.ensures.moved_on honest)) (c.settle.ensures.synced honest (folder_there t place D _ second))

pub returns-clause-renamed : goal.returns-clause-renamed
returns-clause-renamed g c honest is =
    let place = c.args.lock.now in
    inr (subst (λ (T : Tree). is_file (T (lock_of place)) ≡ false) (sym ((c.settle.ensures.leaves honest).tree ∙ c.in_ok-move_lock.ensures.moved honest)) (lock_moved place (g.F.Files.means c.write_text.new.files).tree))
