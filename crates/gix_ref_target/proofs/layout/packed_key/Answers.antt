use Rattle.std.proofs.Common.{sym, ◌∙◌, ap}
use Rattle.gix_ref_target.specs.Layout.{RefPaths}
use Rattle.gix_ref_target.specs.Locations.{no_namespace, row_of}
use Rattle.gix_ref_target.specs.RefLayout.{location_value}
use Rattle.gix_ref_target.specs.declared.layout.Location.{Location}
use Rattle.gix_ref_target.proofs.layout.packed_key.Goals as goal

pub returns-in-Common : goal.returns-in-Common
returns-in-Common c =
    sym (ap (λ (r : RefPaths). r.key) (c.location_or_common.ensures no_namespace) ∙ ap (λ (l : Location). (row_of no_namespace (location_value l)).key) c.in-Common.is)

pub returns-in-ThisWorktree : goal.returns-in-ThisWorktree
returns-in-ThisWorktree c =
    sym (ap (λ (r : RefPaths). r.key) (c.location_or_common.ensures no_namespace) ∙ ap (λ (l : Location). (row_of no_namespace (location_value l)).key) c.in-ThisWorktree.is)

pub returns-in-MainWorktree : goal.returns-in-MainWorktree
returns-in-MainWorktree c =
    sym (ap (λ (r : RefPaths). r.key) (c.location_or_common.ensures no_namespace) ∙ ap (λ (l : Location). (row_of no_namespace (location_value l)).key) c.in-MainWorktree.is)

pub returns-in-LinkedWorktree : goal.returns-in-LinkedWorktree
returns-in-LinkedWorktree c =
    sym (ap (λ (r : RefPaths). r.key) (c.location_or_common.ensures no_namespace) ∙ ap (λ (l : Location). (row_of no_namespace (location_value l)).key) c.in-LinkedWorktree.is)
