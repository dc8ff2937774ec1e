use Rattle.std.proofs.Common.{◌∙◌, ◌∷◌, ◌++◌, [], ℕ, List, inr, ap}
use Rattle.std.proofs.lemmas.List.{map-append}
use Rattle.gix_ref_transaction.specs.OwnLocks.{paths_of}
use Rattle.gix_ref_commit.proofs.Walking.{file_holds, one_more_folder, store_holds}
use Rattle.gix_ref_commit.proofs.folders.add_entry.Goals as goal

pub returns-then-not-entry-clause-stops : goal.returns-then-not-entry-clause-stops
returns-then-not-entry-clause-stops c T is stopped = file_holds c.args.dirs.now T c.args.folder.now c.args.entry.now is c.if-not-entry.true

pub returns-then-leads_to_store-clause-stops : goal.returns-then-leads_to_store-clause-stops
returns-then-leads_to_store-clause-stops c T is stopped =
    store_holds c.args.dirs.now T c.args.folder.now c.deref-2.result.now c.deref.result.now (c.deref-2.ensures.value ∙ c.in_ok-path.ensures) (c.leads_to_store.ensures.inside c.if-leads_to_store.true)

pub returns-clause-more : goal.returns-clause-more
returns-clause-more c =
    one_more_folder c.args.dirs.now c.args.folder.now c.in_ok-path.path.items (paths_of c.args.found.now.items) (paths_of c.push.new.self.items)
    (ap paths_of c.in_ok-push.ensures.items ∙ map-append (λ v. v.items) c.args.found.now.items (c.in_ok-path.path ∷ []))
    (inr (c.deref.result.now, c.in_ok-path.ensures))
    (λ within. c.leads_to_store.ensures.outside c.if-leads_to_store.false (rw c.deref-2.ensures.value within))

pub returns-clause-adds : goal.returns-clause-adds
returns-clause-adds c all = (
  c.if-not-entry.false,
  ap paths_of c.in_ok-push.ensures.items
      ∙ (map-append (λ v. v.items) c.args.found.now.items (c.in_ok-path.path ∷ [])
      ∙ ap (λ (p : List ℕ). paths_of c.args.found.now.items ++ p ∷ []) (c.in_ok-path.ensures ∙ ap (λ (n : List ℕ). c.args.folder.now ++ 47 ∷ n) c.deref.ensures.value)),
)
