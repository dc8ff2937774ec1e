-- What the values of the code about the layout of a store mean.
use Rattle.gix_ref_target.specs.Layout.{Layout}
use Rattle.gix_ref_target.specs.Locations.{Location}
use Rattle.gix_ref_target.specs.Locations.Location.{Common, ThisWorktree, MainWorktree, LinkedWorktree}
use Rattle.gix_ref_target.specs.declared.layout.RefLayout.{RefLayout}
use Rattle.gix_ref_target.specs.declared.layout.Location.{Location as CodeLocation}
use Rattle.gix_ref_target.specs.declared.layout.Location.TheVariants as codes_of

-- the layout with these folders and this namespace
abbrev pub layout_of : RefLayout → Layout
layout_of l = record { git = l.git_dir.now; common = l.common_dir.now; namespace = l.namespace.now }

abbrev pub location_value : CodeLocation → Location
location_value (codes_of.Common name) = Common name.now
location_value (codes_of.ThisWorktree name) = ThisWorktree name.now
location_value (codes_of.MainWorktree name) = MainWorktree name.now
location_value (codes_of.LinkedWorktree worktree name) = LinkedWorktree worktree.now name.now
