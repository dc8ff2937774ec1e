use Rattle.std.proofs.Common.{◌≡◌, length}
use Rattle.gix_ref_name.specs.DeviceNames.{has_device}
use Rattle.gix_ref_name.proofs.name.device.has_device_name.Given as goal

abbrev pub invariant-loop-component : goal.invariant-loop-component
invariant-loop-component l = has_device l.rest ≡ has_device l.path

abbrev pub decreases-loop-component : goal.decreases-loop-component
decreases-loop-component l = length l.rest
