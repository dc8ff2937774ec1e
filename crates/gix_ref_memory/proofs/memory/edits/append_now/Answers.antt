use Rattle.std.proofs.Common.{◌≡◌, ◌++◌, Some, false, refl, sym, subst, ap, inl, rules}
use Rattle.gix_ref_files.specs.Tree.{IsShaped, is_file, no_tree}
use Rattle.gix_ref_files.proofs.Puts.{shaped_file}
use Rattle.gix_ref_files.specs.Tree.Content.{File}
use Rattle.gix_ref_memory.specs.Changes.{after_changes}
use Rattle.gix_ref_memory.proofs.Grows.{append_more, append_adds, nothing_adds, same_changes}
use Rattle.gix_ref_memory.proofs.memory.edits.append_now.Goals as goal

pub returns-in_ok-push-in-Some-FileOf-clause-answer : goal.returns-in_ok-push-in-Some-FileOf-clause-answer
returns-in_ok-push-in-Some-FileOf-clause-answer c =
    let at : c.in_ok-path-in-Some-FileOf.path.items ≡ c.args.path.now = search rules in
    let is : c.extend_from_slice.new.self.items ≡ c.in-Some-FileOf.old.now ++ c.args.bytes.now = search rules in
    let stood : Some (File c.in-Some-FileOf.old.now) ≡ after_changes c.args.changes.now.items no_tree c.args.path.now = search rules in
    (ap is_file (sym stood), (append_more _ _ _ _ _ _ _ _ at is refl stood c.in_ok-push-in-Some-FileOf.ensures.items).tree_is)

pub returns-in_ok-push-in-Some-FileOf-clause-disk : goal.returns-in_ok-push-in-Some-FileOf-clause-disk
returns-in_ok-push-in-Some-FileOf-clause-disk c =
    let at : c.in_ok-path-in-Some-FileOf.path.items ≡ c.args.path.now = search rules in
    let is : c.extend_from_slice.new.self.items ≡ c.in-Some-FileOf.old.now ++ c.args.bytes.now = search rules in
    let stood : Some (File c.in-Some-FileOf.old.now) ≡ after_changes c.args.changes.now.items no_tree c.args.path.now = search rules in
    (append_more _ _ _ _ _ _ _ _ at is refl stood c.in_ok-push-in-Some-FileOf.ensures.items).disk_is

pub returns-in_ok-push-in-Some-FileOf-clause-passes : goal.returns-in_ok-push-in-Some-FileOf-clause-passes
returns-in_ok-push-in-Some-FileOf-clause-passes c =
    let at : c.in_ok-path-in-Some-FileOf.path.items ≡ c.args.path.now = search rules in
    let is : c.extend_from_slice.new.self.items ≡ c.in-Some-FileOf.old.now ++ c.args.bytes.now = search rules in
    let stood : Some (File c.in-Some-FileOf.old.now) ≡ after_changes c.args.changes.now.items no_tree c.args.path.now = search rules in
    record {
      passes = (append_more _ _ _ _ _ _ _ _ at is refl stood c.in_ok-push-in-Some-FileOf.ensures.items).passes;
      adds = append_adds _ _ _ _ _ _ _ _ at is refl stood c.in_ok-push-in-Some-FileOf.ensures.items;
    }

pub returns-in_err-push-in-Some-FileOf-clause-passes : goal.returns-in_err-push-in-Some-FileOf-clause-passes
returns-in_err-push-in-Some-FileOf-clause-passes c =
    record { passes = same_changes c.args.changes.now.items c.push.new.self.items _ c.in_err-push-in-Some-FileOf.ensures.items (inl refl); adds = search rules }

pub returns-in_ok-push-in-Some-FileOf-clause-shape : goal.returns-in_ok-push-in-Some-FileOf-clause-shape
returns-in_ok-push-in-Some-FileOf-clause-shape c shape =
    let at : c.in_ok-path-in-Some-FileOf.path.items ≡ c.args.path.now = search rules in
    let is : c.extend_from_slice.new.self.items ≡ c.in-Some-FileOf.old.now ++ c.args.bytes.now = search rules in
    let stood : Some (File c.in-Some-FileOf.old.now) ≡ after_changes c.args.changes.now.items no_tree c.args.path.now = search rules in
    let grown = (append_more _ _ _ _ _ _ _ _ at is refl stood c.in_ok-push-in-Some-FileOf.ensures.items).tree_is in
    subst IsShaped (sym grown) (shaped_file (after_changes c.args.changes.now.items no_tree) c.args.path.now _ shape (ap is_file (sym stood)))

pub returns-in_default-clause-passes : goal.returns-in_default-clause-passes
returns-in_default-clause-passes c =
    let none : is_file (after_changes c.args.changes.now.items no_tree c.args.path.now) ≡ false = search rules in
    record {
      passes = same_changes c.args.changes.now.items c.args.changes.now.items _ refl (inl refl);
      adds = nothing_adds c.args.changes.now.items c.args.changes.now.items c.args.path.now c.args.bytes.now none refl;
    }

pub returns-in_default-2-clause-passes : goal.returns-in_default-2-clause-passes
returns-in_default-2-clause-passes c =
    let none : is_file (after_changes c.args.changes.now.items no_tree c.args.path.now) ≡ false = search rules in
    record {
      passes = same_changes c.args.changes.now.items c.args.changes.now.items _ refl (inl refl);
      adds = nothing_adds c.args.changes.now.items c.args.changes.now.items c.args.path.now c.args.bytes.now none refl;
    }
