use Rattle.gix_ref_read_back.proofs.Namespaces.{others_stay}
use Rattle.gix_ref_read_back.proofs.OutsideLemmas.{keys_inside, logs_inside, losses_outside, own_are_locks, places_inside, readings_stay, stops_outside, these_are_locks}
use Rattle.gix_ref_read_back.proofs.ReadablePuts.{nothing_put}
use Rattle.gix_ref_read_back.proofs.laws.outside_is_as_before.Goals as goal

pub returns-clause-places : goal.returns-clause-places
returns-clause-places c = places_inside

pub returns-clause-logs : goal.returns-clause-logs
returns-clause-logs c = logs_inside

pub returns-clause-keys : goal.returns-clause-keys
returns-clause-keys c = keys_inside

pub returns-clause-deletions : goal.returns-clause-deletions
returns-clause-deletions c = nothing_put

pub returns-clause-stops : goal.returns-clause-stops
returns-clause-stops c = stops_outside

pub returns-clause-readings : goal.returns-clause-readings
returns-clause-readings c = readings_stay

pub returns-clause-others : goal.returns-clause-others
returns-clause-others c = others_stay

pub returns-clause-losses : goal.returns-clause-losses
returns-clause-losses c = losses_outside

pub returns-clause-own : goal.returns-clause-own
returns-clause-own c = own_are_locks

pub returns-clause-these : goal.returns-clause-these
returns-clause-these c = these_are_locks
