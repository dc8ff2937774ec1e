use Rattle.std.specs.Prelude.{unwrap_or}
use Rattle.gix_ref_target.specs.Locations.{location}
use Rattle.gix_ref_target.specs.Locations.Location.{Common}
use Rattle.gix_ref_target.proofs.LocationLemmas.{has_paths, paths_are_table, safe_is_tested, tested_is_safe}
use Rattle.gix_ref_theory.proofs.LockPlaces.{no_lock_below, no_lock_below_packed}
use Rattle.gix_ref_theory.proofs.PlaceLaws.{laws_hold, one_log}
use Rattle.gix_ref_theory.proofs.Roots.{in_namespace, places_settle}
use Rattle.gix_ref_theory.proofs.SharedLogs.{shared_logs}
use Rattle.gix_ref_theory.proofs.theorems.places_keep_the_laws.Goals as goal

pub returns-clause-table : goal.returns-clause-table
returns-clause-table c f name = (has_paths f name, paths_are_table f name)

pub returns-clause-safe : goal.returns-clause-safe
returns-clause-safe c name = (safe_is_tested name, tested_is_safe name)

pub returns-clause-laws : goal.returns-clause-laws
returns-clause-laws c = laws_hold

pub returns-clause-one_log : goal.returns-clause-one_log
returns-clause-one_log c = one_log

pub returns-clause-one_place : goal.returns-clause-one_place
returns-clause-one_place c = shared_logs

pub returns-clause-namespaces : goal.returns-clause-namespaces
returns-clause-namespaces c f o name = in_namespace f (unwrap_or (location name) (Common name))

pub returns-clause-settle : goal.returns-clause-settle
returns-clause-settle c = places_settle

pub returns-clause-locks : goal.returns-clause-locks
returns-clause-locks c = no_lock_below

pub returns-clause-packed_lock : goal.returns-clause-packed_lock
returns-clause-packed_lock c = no_lock_below_packed
