use Rattle.std.proofs.Common.{◌≡◌, refl}
use Rattle.gix_ref_files.specs.Tree.{file_of}
use Rattle.gix_ref_files.specs.Settled.{synced}
use Rattle.gix_ref_files.proofs.Climbing.{climbs}
use Rattle.gix_ref_files.proofs.Entries.{synced_may, synced_tree}
use Rattle.gix_ref_files.proofs.Folders.{with_folders_tree}
use Rattle.gix_ref_files.proofs.Losing as losing
use Rattle.gix_ref_files.proofs.Removals.{in_group, after_group}
use Rattle.gix_ref_files.proofs.Settling.{lost_holds, lost_more, settled_way, as_settles, stop_is_loss}
use Rattle.gix_ref_files.proofs.Shaped.{lost_shaped}
use Rattle.gix_ref_files.proofs.theorems.losses_of_power.Goals as goal

pub returns-clause-stops : goal.returns-clause-stops
returns-clause-stops c = stop_is_loss

pub returns-clause-shaped : goal.returns-clause-shaped
returns-clause-shaped c = lost_shaped

pub returns-clause-nothing : goal.returns-clause-nothing
returns-clause-nothing c D T settled lost q no_lock = lost_holds D T (file_of (D.tree q)) (λ f. f ≡ file_of (D.tree q)) q (settled q no_lock) refl lost

pub returns-clause-choice : goal.returns-clause-choice
returns-clause-choice c = losing.choices

pub returns-clause-left : goal.returns-clause-left
returns-clause-left c = losing.left_settled

pub returns-clause-syncs : goal.returns-clause-syncs
returns-clause-syncs c sync D = (synced_tree sync D, λ T lost. lost_more D (synced sync D) T (λ q content may. synced_may sync D q content may) lost)

pub returns-clause-stay : goal.returns-clause-stay
returns-clause-stay c D staying p syncs settles stay folders = settled_way staying p syncs D (as_settles staying p syncs settles) stay folders

pub returns-clause-folders : goal.returns-clause-folders
returns-clause-folders c = with_folders_tree

pub returns-clause-unsynced_lock : goal.returns-clause-unsynced_lock
returns-clause-unsynced_lock c = losing.unsynced_wrong

pub returns-clause-sync_at_end : goal.returns-clause-sync_at_end
returns-clause-sync_at_end c = losing.end_wrong

pub returns-clause-climb : goal.returns-clause-climb
returns-clause-climb c = climbs

pub returns-clause-in_group : goal.returns-clause-in_group
returns-clause-in_group c = in_group

pub returns-clause-group : goal.returns-clause-group
returns-clause-group c = after_group
