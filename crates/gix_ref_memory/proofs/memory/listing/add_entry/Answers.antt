use Rattle.std.proofs.Common.{◌≡◌, ◌∷◌, ◌++◌, IsSome, List, true, false, Some, sym, ◌∙◌, ap, subst, rules}
use Rattle.std.specs.Prelude.{bytes_eq}
use Rattle.std.specs.List.{list_any}
use Rattle.gix_ref_files.specs.Tree.{no_tree, is_folder}
use Rattle.gix_ref_files.specs.Calls.{entry_name}
use Rattle.gix_ref_memory.specs.Changes.{after_changes, found_content}
use Rattle.gix_ref_files.specs.declared.files.Entry.{Entry}
use Rattle.gix_ref_memory.proofs.ListingLemmas.{listed, lists_same, lists_more, present_some}
use Rattle.gix_ref_memory.proofs.memory.listing.add_entry.Goals as goal

pub returns-then-is_listed : goal.returns-then-is_listed
returns-then-is_listed c =
    let entries = c.args.entries.now.items in
    let found : list_any (λ entry. bytes_eq (entry_name entry) c.args.name.now) entries ≡ true =
    ap (λ (l : List Entry). list_any (λ entry. bytes_eq (entry_name entry) c.args.name.now) l) (sym c.deref.ensures.value) ∙ sym c.if-is_listed.ensures in
    lists_same (after_changes c.args.changes.now no_tree) c.args.folder.now c.args.name.now entries (λ some. listed entries c.args.name.now found)

pub returns : goal.returns
returns c =
    let T = after_changes c.args.changes.now no_tree in
    let p = c.args.folder.now in
    let name = c.args.name.now in
    let entries = c.args.entries.now.items in
    let named : c.in_ok-name.name.items ≡ name = search rules in
    let found : found_content (Some c.in-Some.present) ≡ T (p ++ 47 ∷ name) = c.in-Some.ensures ∙ ap T c.requires.path in
    let there : IsSome (T (p ++ 47 ∷ name)) = subst IsSome found (present_some c.in-Some.present) in
    let none : list_any (λ entry. bytes_eq (entry_name entry) name) entries ≡ false =
    ap (λ (l : List Entry). list_any (λ entry. bytes_eq (entry_name entry) name) l) (sym c.deref.ensures.value) ∙ sym c.if-is_listed.ensures in
    lists_more T p name entries c.push.new.self.items _ c.in_ok-push.ensures.items named c.requires.name there (c.is_folder-is_folder.ensures ∙ ap is_folder found) none
