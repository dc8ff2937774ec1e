-- The changes of records that edits make.
use Rattle.std.specs.Prelude.{ℕ, List, Option, None, if◌then◌else◌}
use Rattle.std.specs.List.{filter_map}
use Rattle.std.specs.Option.{option_map}
use Rattle.gix_ref_theory.specs.Readings.{Store}
use Rattle.gix_ref_edits.specs.RefEdits.{name_of}
use Rattle.gix_ref_transaction.specs.declared.edit.Edit.{Edit}
use Rattle.gix_ref_packed_transaction.specs.Changes.{ChangeValue}
use Rattle.gix_ref_packed_transaction.specs.Repacks.{alters_record, new_put}

-- the change of the record of an edit's key, if it changes that
abbrev pub key_change : Store → Edit → Option ChangeValue
key_change s edit = if alters_record edit
    then option_map (λ (k : List ℕ). (k, new_put edit.put)) (s.key (name_of edit.update)) else None

abbrev pub key_changes : Store → List Edit → List ChangeValue
key_changes s edits = filter_map (key_change s) edits
