use Rattle.std.proofs.Common.{[], List, refl, sym, ap, ◌∙◌, subst}
use Rattle.gix_ref_lookup.specs.StoreLayout.{folders_of, git_options}
use Rattle.gix_ref_edits.specs.declared.transaction.RefEdit.{RefEdit}
use Rattle.gix_ref_transaction.specs.Causes.{AllValid, LocksAreApart}
use Rattle.gix_ref_transaction.specs.OwnLocks.{OnlyLocks}
use Rattle.gix_ref_transaction.specs.Packing.{OfFinder, ends_of, mode_in}
use Rattle.gix_ref_transaction.specs.PrepareSteps.{own_locks, places_of}
use Rattle.gix_ref_transaction.proofs.Apart.{apart}
use Rattle.gix_ref_transaction.proofs.LockRounds.{own_all}
use Rattle.gix_ref_theory.proofs.LockDisks.{as_before}
use Rattle.gix_ref_store.specs.Prepared.{disk_in, places_in}
use Rattle.gix_ref_store.specs.Store.{meaning_of, with_files}
use Rattle.gix_ref_store.proofs.PreparedLosses.{kept_loses, untouched_loses}
use Rattle.gix_ref_store.proofs.Refusals.{refused_split, held_asked, held_parents, held_room, holds_split}
use Rattle.gix_ref_lookup.proofs.Laying.{folders_laid}
use Rattle.gix_ref_store.proofs.file.store.Store.lock_split.Goals as goal

pub lock_edits-requires-clause-ready : goal.lock_edits-requires-clause-ready
lock_edits-requires-clause-ready g c =
    let self = c.args.self.now in
    let is = sym c.in-Ok.ensures.asked in
    record {
      places = c.in-Ok.ensures.places ∙ ap (places_of (meaning_of self)) is;
      apart = subst (LocksAreApart (meaning_of self)) is
          (apart (folders_of self.dirs self.namespace) (git_options self.object_hash self.prohibit_windows_device_names) (folders_laid self.dirs self.namespace) self.object_hash c.args.split.edits.items
          c.requires.valid);
      valid = subst (AllValid (meaning_of self) self.object_hash []) is c.requires.valid;
    }

pub returns-in-Err-clause-lost : goal.returns-in-Err-clause-lost
returns-in-Err-clause-lost g c h = untouched_loses g.F.Files.means (mode_in c.args.packed_refs.now) c.args.self.now c.args.split.edits.items

pub returns-in-Err-begun-clause-lost : goal.returns-in-Err-begun-clause-lost
returns-in-Err-begun-clause-lost g c h = untouched_loses g.F.Files.means (mode_in c.args.packed_refs.now) c.args.self.now c.args.split.edits.items

pub returns-in-Ok-clause-asked : goal.returns-in-Ok-clause-asked
returns-in-Ok-clause-asked g c =
    let F = g.F.Files in
    let e = c.lock_edits.ensures in
    held_asked F.honest F.means F.faults (mode_in c.args.packed_refs.now) c.args.self.now (with_files c.args.self.now c.lock_edits.new.files) c.in-Ok.edits c.in-Ok.remains c.args.split.edits.items c.in-Ok.ensures.asked c.lock_edits.result e.held

pub returns-in-Ok-clause-parents : goal.returns-in-Ok-clause-parents
returns-in-Ok-clause-parents g c =
    let F = g.F.Files in
    let e = c.lock_edits.ensures in
    held_parents F.honest F.means F.faults (mode_in c.args.packed_refs.now) c.args.self.now (with_files c.args.self.now c.lock_edits.new.files) c.in-Ok.edits c.in-Ok.remains c.args.split.edits.items c.in-Ok.ensures.asked c.lock_edits.result e.held _ c.in-Ok.ensures.parents

pub returns-in-Ok-clause-room : goal.returns-in-Ok-clause-room
returns-in-Ok-clause-room g c =
    let F = g.F.Files in
    let e = c.lock_edits.ensures in
    held_room F.honest F.means F.faults (mode_in c.args.packed_refs.now) c.args.self.now (with_files c.args.self.now c.lock_edits.new.files) c.in-Ok.edits c.in-Ok.remains c.args.split.edits.items c.in-Ok.ensures.asked c.lock_edits.result e.held c.in-Ok.ensures.room

pub returns-in-Ok-clause-lost : goal.returns-in-Ok-clause-lost
returns-in-Ok-clause-lost g c h =
    let self = c.args.self.now in
    let s = meaning_of self in
    let split = c.args.split.edits.items in
    let D = disk_in g.F.Files.means self in
    let run = subst (λ (u : List RefEdit). OnlyLocks (own_locks s (mode_in c.args.packed_refs.now) (g.F.Files.means self.files).tree u) (g.F.Files.means self.files) (g.F.Files.means c.lock_edits.new.files)) c.in-Ok.ensures.asked (c.lock_edits.ensures.takes.passes h) in
    kept_loses g.F.Files.means (mode_in c.args.packed_refs.now) self _ split (λ staying stays. run (places_in g.F.Files.means (mode_in c.args.packed_refs.now) self split) staying D (own_all s (mode_in c.args.packed_refs.now) (g.F.Files.means self.files).tree split) (as_before (places_in g.F.Files.means (mode_in c.args.packed_refs.now) self split) staying D stays))

pub returns-in-Ok-clause-refused : goal.returns-in-Ok-clause-refused
returns-in-Ok-clause-refused g c =
    let F = g.F.Files in
    let is = c.in-Ok.ensures.asked in
    let e = c.lock_edits.ensures in
    refused_split F.honest _ F.means F.faults (OfFinder g.T.Find.claims c.args.packed_refs.now) (ends_of g.T.Find.meaning c.args.packed_refs.now) (mode_in c.args.packed_refs.now) c.args.self.now _ c.args.split.edits.items c.lock_edits.result (record { dirs = refl; namespace = refl; of_kind = refl; reflogs = refl; composes = refl; prohibits = refl; threshold = refl })
    c.in_default.ensures.single (rw is at e.refused) (rw is at e.removed) (rw is at e.takes)

pub returns-in-Ok-clause-held : goal.returns-in-Ok-clause-held
returns-in-Ok-clause-held g c =
    let F = g.F.Files in
    let e = c.lock_edits.ensures in
    holds_split F.honest F.means F.faults (mode_in c.args.packed_refs.now) c.args.self.now (with_files c.args.self.now c.lock_edits.new.files) c.in-Ok.edits c.in-Ok.remains c.args.split.edits.items c.in-Ok.ensures.asked
    (OfFinder g.T.Find.claims c.args.packed_refs.now) (ends_of g.T.Find.meaning c.args.packed_refs.now) c.lock_edits.result e.held e.packed e.opened
    (record { dirs = refl; namespace = refl; of_kind = refl; reflogs = refl; composes = refl; prohibits = refl; threshold = refl })
    c.requires.valid c.in_default.ensures.single e.takes (returns-in-Ok-clause-lost g c) c.in-Ok.ensures.places e.read e.put
