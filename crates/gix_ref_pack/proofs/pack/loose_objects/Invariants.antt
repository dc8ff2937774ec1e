use Rattle.std.proofs.Common.{◌≡◌, ◌++◌}
use Rattle.gix_ref_pack.specs.LooseObjects.{faults_among, loose_among}
use Rattle.gix_ref_pack.proofs.pack.loose_objects.Given as goal

-- what may be packed of the items so far, and the faults among them
abbrev pub invariant-loop-item : goal.invariant-loop-item
invariant-loop-item l = record {
  found : l.found.items ≡ loose_among l.yielded;
  broken : l.broken.items ≡ l.initial.broken.items ++ faults_among l.yielded;
}
