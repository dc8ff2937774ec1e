use Rattle.std.proofs.Common.{◌≡◌, ◌++◌, length}
use Rattle.gix_ref_name.specs.Namespaces.{expanded}
use Rattle.gix_ref_name.proofs.Expanding.{KeepsNames, Begun}
use Rattle.gix_ref_name.proofs.PartialNames.{IsPath}
use Rattle.gix_ref_name.proofs.namespace.expansion.expand.Given as goal

abbrev pub invariant-loop-component : goal.invariant-loop-component
invariant-loop-component l = record {
  value : l.bytes.items ++ expanded l.rest ≡ expanded l.initial.rest;
  begins : Begun l.bytes.items;
  keeps : KeepsNames l.bytes.items;
  path : IsPath l.rest;
}

abbrev pub decreases-loop-component : goal.decreases-loop-component
decreases-loop-component l = length l.rest
