-- A count of faults, as a contract sees it.
use Rattle.std.specs.Prelude.{slice_index_or}
use Rattle.gix_ref_files.specs.Files.{FaultCounts, number_of}
use Rattle.gix_ref_files.specs.declared.faults.Faults.{Faults}

-- how many faults were counted, and how many of each kind
abbrev pub counts_of : Faults → FaultCounts
counts_of faults = record {
  total = faults.total;
  each = λ fault. slice_index_or faults.each (number_of fault) 0;
}
