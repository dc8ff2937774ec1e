-- The folders of a log: they are made, or none where there was a log.
use Rattle.std.proofs.Common.{ℕ, List, [], Bool, true, false, if◌then◌else◌}
use Rattle.gix_ref_transaction.specs.CommitRenames.{is_file_seen}
use Rattle.gix_ref_transaction.specs.declared.edit.Edit.{Edit}
use Rattle.gix_ref_commit.specs.Entries.{Entry, folders_entry, folders_for}

pub folders_either : (P : List Entry → Type 0) (at : ℕ) (e : Edit) → P [] → P (folders_for at e.log) → P (folders_entry at e)
folders_either P at e none some = by (is_file_seen e.log_seen)
  where
    by : (has_log : Bool) → P (if has_log then [] else folders_for at e.log)
    by true = none
    by false = some
