use Rattle.std.proofs.Common.{◌≡◌, ◌++◌, true, sym, ◌∙◌, ap, subst, codes}
use Rattle.std.proofs.lemmas.List.{append_cancel_right}
use Rattle.gix_ref_files.specs.Tree.{is_file}
use Rattle.gix_ref_files.specs.Lock.{lock_of}
use Rattle.gix_ref_lookup.specs.Lookups.{meaning_in}
use Rattle.gix_ref_listing.proofs.WalkLemmas.{not_both}
use Rattle.gix_ref_locks.specs.LockFiles.{IsLockPlace}
use Rattle.gix_ref_locks.specs.LockWalks.{IsStemOf}
use Rattle.gix_ref_locks.proofs.FoundLocks.{stem_place}
use Rattle.gix_ref_locks.proofs.walk.LockRoot.take_file.Goals as goal

pub returns-in_ok-keep-clause-only : goal.returns-in_ok-keep-clause-only
returns-in_ok-keep-clause-only c T file all =
    let s = meaning_in c.args.self.settings in
    let place = subst (IsLockPlace s) c.deref.ensures.value (stem_place s c.in-Some.stem.now c.deref.result.now (c.in_ok-is_lock.ensures.0 c.if-branch.true)) in
    c.in_ok-keep.ensures.only s T (place, subst (λ p. is_file (T p) ≡ true) (sym c.in_ok-path.ensures) file) all

pub returns-else-branch-clause-finds : goal.returns-else-branch-clause-finds
returns-else-branch-clause-finds c stem is lock =
    let s = meaning_in c.args.self.settings in
    let front = c.args.self.front.now in
    let same : stem ≡ c.in-Some.stem.now = append_cancel_right stem c.in-Some.stem.now (codes ".lock") (sym is ∙ c.in-Some.ensures) in
    let at : c.deref.result.now ≡ front ++ lock_of stem = c.deref.ensures.value ∙ (c.in_ok-path.ensures ∙ ap (λ t. front ++ t) is) in
    absurd (not_both _ (c.in_ok-is_lock.ensures.1 (subst (IsStemOf s c.in-Some.stem.now) (sym at) (subst (λ t. IsStemOf s t (front ++ lock_of stem)) same lock))) c.if-branch.false)
