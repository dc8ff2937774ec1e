-- What is claimed of files that are not known to be honest: nothing.
use Rattle.std.specs.Prelude.{◌≡◌, ℕ, List, []}
use Rattle.gix_ref_files.specs.Disk.{no_disk}
use Rattle.gix_ref_files.specs.Files.{Meaning}

-- a meaning that says nothing: no contract speaks of it where files are not honest
abbrev pub no_meaning : Meaning
no_meaning = record {
  tree = no_disk.tree;
  unsynced = no_disk.unsynced;
  moment = 0;
  found_since = λ t D. D ≡ no_disk;
}

-- bytes that say nothing
abbrev pub no_bytes : List ℕ
no_bytes = []
