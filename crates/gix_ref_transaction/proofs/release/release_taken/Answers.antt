use Rattle.std.proofs.Common.{◌≡◌, ◌∙◌, ◌++◌, ℕ, List, true, false, ap, sym, subst, arith, take, drop, reverse, vec_len, length}
use Rattle.std.proofs.lemmas.List.{length-take-le, map-append, reverse-append, reverse-reverse, take-append-drop}
use Rattle.gix_ref_files.specs.Tree.{Path, is_file}
use Rattle.gix_ref_edits.specs.declared.transaction.RefEdit.{RefEdit}
use Rattle.gix_ref_transaction.specs.LeftLocks.{NamesMore, OnlyReleases}
use Rattle.gix_ref_transaction.specs.OwnLocks.{paths_of, is_in}
use Rattle.gix_ref_transaction.specs.PrepareSteps.{lock_paths, updates}
use Rattle.gix_ref_transaction.specs.declared.edit.Edit.{Edit}
use Rattle.gix_ref_transaction.proofs.Renames.{lock_found, none_renamed}
use Rattle.gix_ref_transaction.proofs.release.release_taken.Goals as goal

-- the edits in order: the first, and then those after them
in_order : (taken : ℕ) (all : List Edit) → reverse (updates (drop taken all)) ++ reverse (updates (take taken all)) ≡ reverse (updates all)
in_order taken all = sym (reverse-append (updates (take taken all)) (updates (drop taken all)))
    ∙ ap reverse (sym (map-append (λ (e : Edit). e.update) (take taken all) (drop taken all)) ∙ ap updates (take-append-drop taken all))

pub release_each-remains-requires-clause-room : goal.release_each-remains-requires-clause-room
release_each-remains-requires-clause-room g c =
    let len = ap length c.move_updates.ensures.rest ∙ length-take-le c.args.taken c.args.edits.items (omega (arith, c.requires.0, c.args.edits.ok)) in
    omega (arith, len, c.move_updates.new.edits.ok, c.requires.0, c.requires.1.locks)

pub returns-clause-edits : goal.returns-clause-edits
returns-clause-edits g c =
    let all = c.args.edits.items in
    let taken = c.args.taken in
    let kept = c.move_updates.new.edits.items in
    let last = reverse (updates (drop taken all)) in
    let moved = c.move_updates.ensures.moved ∙ ap (λ (l : List RefEdit). l ++ last) c.requires.1.no_edits in
    c.reverse.ensures.items ∙ (ap reverse (c.release_each-remains.ensures.edits ∙ (ap (λ (l : List RefEdit). l ++ reverse (updates kept)) moved
    ∙ (ap (λ (l : List Edit). last ++ reverse (updates l)) c.move_updates.ensures.rest ∙ in_order taken all))) ∙ reverse-reverse (updates all))

pub returns-clause-gone : goal.returns-clause-gone
returns-clause-gone g c h q taken out =
    let held = c.move_updates.new.edits in
    let left = paths_of c.release_each-remains.result.left.items in
    let now = g.F.Files.means c.release_each-remains.new.files in
    let at = lock_found held.items q (subst (λ (l : List Edit). is_in (lock_paths l) q ≡ true) (sym c.move_updates.ensures.rest) taken) in
    subst (λ (p : Path). is_file (now.tree p) ≡ false) at.2
    (c.release_each-remains.ensures.gone h at.0 (omega (arith, at.1, held.ok)) (none_renamed held.items at.0) (subst (λ (p : Path). is_in left p ≡ false) (sym at.2) out))

pub returns-clause-named : goal.returns-clause-named
returns-clause-named g c =
    let faults = g.F.Files.faults in
    let kept = c.move_updates.new.edits in
    let len : vec_len kept ≡ c.args.taken = omega (arith, ap length c.move_updates.ensures.rest ∙ length-take-le c.args.taken c.args.edits.items (omega (arith, c.requires.0, c.args.edits.ok)), kept.ok) in
    subst (λ (l : List Edit). NamesMore (lock_paths l) c.args.taken c.args.remains.left c.release_each-remains.result.left (faults c.args.files.now) (faults c.release_each-remains.new.files)) c.move_updates.ensures.rest
    (subst (λ n. NamesMore (lock_paths kept.items) n c.args.remains.left c.release_each-remains.result.left (faults c.args.files.now) (faults c.release_each-remains.new.files)) len c.release_each-remains.ensures.named)

pub returns-clause-releases : goal.returns-clause-releases
returns-clause-releases g c =
    let F = g.F.Files in
    subst (λ (l : List Edit). OnlyReleases F.honest F.means F.faults (lock_paths l) c.args.files.now c.release_each-remains.new.files) c.move_updates.ensures.rest c.release_each-remains.ensures.releases
