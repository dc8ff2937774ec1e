-- The log lines of a commit.
use Rattle.std.specs.Prelude.{ℕ, List, [], Option, get_or, map}
use Rattle.std.specs.Option.{option_map}
use Rattle.gix_ref_files.specs.Files.{Meaning}
use Rattle.gix_ref_files.specs.Tree.{Path}
use Rattle.gix_ref_edits.specs.RefEdits.{name_of}
use Rattle.gix_ref_log.specs.Signatures.{signature_ref_who}
use Rattle.gix_ref_log.specs.declared.actor.SignatureRef.{SignatureRef}
use Rattle.gix_ref_lookup.specs.StoreLayout.{namespace_text}
use Rattle.gix_ref_theory.specs.OnRealTrees.{view_of}
use Rattle.gix_ref_transaction.specs.declared.edit.Edit.{Edit}
use Rattle.gix_ref_reflog.specs.AskedEdits.{asked}
use Rattle.gix_ref_reflog.specs.DueLines.{LogRules, due_lines}
use Rattle.gix_ref_reflog.specs.LineCauses.{AllHaveNoCause}
use Rattle.gix_ref_commit.specs.LogEffects.{Extra, with_ends}
use Rattle.gix_ref_store.specs.Prepared.{tree_of}
use Rattle.gix_ref_store.specs.Store.{meaning_of}
use Rattle.gix_ref_store.specs.declared.file.store.Store.{Store}

-- what lines depend on: where the store keeps logs and which it makes, and who commits
abbrev pub line_rules : {F : Type 0} → Store F → (committer : Option SignatureRef) → LogRules
line_rules store committer = record {
  store = meaning_of store;
  namespace = namespace_text store.namespace;
  mode = store.write_reflog;
  committer = option_map signature_ref_who committer;
}

-- the lines that are due for prepared edits as their commit begins, edit by edit
abbrev pub lines_due : {F : Type 0} (means : F → Meaning) → Store F →
    (committer : Option SignatureRef) → List Edit → List (Option (List ℕ))
lines_due means store committer held = due_lines (line_rules store committer)
    (view_of (tree_of means store)) (asked held)

-- and with each the object at the end of the tags of what its edit puts into `packed-refs`
abbrev pub extras_due : {F : Type 0} (means : F → Meaning) → Store F →
    (committer : Option SignatureRef) → List Edit → List Extra
extras_due means store committer held = with_ends (lines_due means store committer held) held

-- each line that is due can be made and added: there is a committer, its signature and the message can be written, and no file is
-- in the path of the log
abbrev pub LinesPass : {F : Type 0} (honest : Type 0) (means : F → Meaning) → Store F →
    (committer : Option SignatureRef) → List Edit → Type 0
LinesPass honest means store committer held = honest →
    AllHaveNoCause (line_rules store committer) (view_of (tree_of means store)) (asked held)

-- the path of the log of the edit at this place of the list
abbrev pub log_path_at : {F : Type 0} → Store F → List Edit → ℕ → Path
log_path_at store held at =
    get_or (map (λ (e : Edit). (meaning_of store).log (name_of e.update)) held) at []
