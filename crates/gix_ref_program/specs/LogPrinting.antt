-- How a reflog is printed, newest first (`git reflog show`).
use Rattle.std.specs.Prelude.{◌≡◌, ◌⊎◌, ℕ, List, [], ◌++◌, Bool, true, false, codes, Option, Some, None, Result, Ok, Err}
use Rattle.std.specs.List.{flat_map}
use Rattle.std.specs.Option.{option_map}
use Rattle.std.specs.Result.{is_err}
use Rattle.gix_ref_hash.specs.Digits.{lower_hex}
use Rattle.gix_ref_files.specs.Files.{FaultCounts}
use Rattle.gix_ref_files.specs.Tree.{Content, is_file, bytes_of}
use Rattle.gix_ref_log.specs.LogItems.{IsLentRun, items_from}
use Rattle.gix_ref_log.specs.LogWindows.{NextRefStep}
use Rattle.gix_ref_packed.specs.OpenFiles.{HasReadFault}
use Rattle.gix_ref_program.specs.Printed.{fault_line}
use Rattle.gix_ref_log.specs.declared.log.line.LineRef.{LineRef}
use Rattle.gix_ref_log.specs.declared.log.iter.backward.Reverse.{Reverse}
use Rattle.gix_ref_log.specs.declared.log.iter.error.ReverseError.{ReverseError}
use Rattle.gix_ref_log.specs.declared.log.iter.error.ReverseError.TheVariants.{Io, Decode, BufferTooSmall, Memory}

abbrev pub log_fault_word : ReverseError → List ℕ
log_fault_word (Io error) = codes "Io"
log_fault_word (Decode error) = codes "Decode"
log_fault_word BufferTooSmall = codes "BufferTooSmall"
log_fault_word Memory = codes "Memory"

-- a line: its ids in lower case and its message; or a fault
abbrev pub log_item_text : Result LineRef ReverseError → List ℕ
log_item_text (Ok l) =
    lower_hex l.previous_oid.now ++ (codes " "
    ++ (lower_hex l.new_oid.now ++ (codes " " ++ (l.message.now ++ codes "\n"))))
log_item_text (Err e) = fault_line (log_fault_word e)

abbrev pub log_text : List (Result LineRef ReverseError) → List ℕ
log_text items = flat_map log_item_text items

-- the items of a log, newest first, for which 4,096 bytes have room, all where `whole` says so; none where there is no log
abbrev pub AreLogItems : Option Content → (whole : Bool) → List (Result LineRef ReverseError) →
    Type 0
AreLogItems content whole items =
    ((is_file content ≡ false) × (items ≡ []))
    ⊎ ((is_file content ≡ true)
    × IsLentRun (whole ≡ true) (items_from 4096 1 (bytes_of content)) items)

-- where an item is a fault of reading, a reader has counted it
abbrev pub IsCountedFault : {R : Type 0} → (faults : R → FaultCounts) →
    Result LineRef ReverseError → Type 0
IsCountedFault faults (Err (Io error)) = HasReadFault faults error
IsCountedFault faults item = Unit {0}

-- the text of an item, if there is one
abbrev pub next_log_text : Option (Result LineRef ReverseError) → List ℕ
next_log_text None = []
next_log_text (Some item) = log_item_text item

-- The next item of a log is added to a text, and `fault` is whether it is a fault.
pub record PushesNext {R : Type 0} (honest : Type 0) (bytes : R → List ℕ) (faults : R → FaultCounts)
    (old new : Reverse R) (before after : List ℕ) (fault : Option Bool) : Type 0 where
  pub item : Option (Result LineRef ReverseError)
  pub gives : NextRefStep honest bytes faults old item new
  pub fault_is : fault ≡ option_map is_err item
  pub added : after ≡ before ++ next_log_text item
