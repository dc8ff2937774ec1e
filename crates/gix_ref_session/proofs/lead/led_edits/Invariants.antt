use Rattle.std.proofs.Common.{◌≡◌, List, take}
use Rattle.std.specs.Option.{option_map}
use Rattle.gix_ref_name.specs.Names.{full_bytes}
use Rattle.gix_ref_target.specs.PackedRecords.{Record}
use Rattle.gix_ref_store.specs.Lookup.{AreRecordsIn, LooksUp}
use Rattle.gix_ref_queries.specs.Resolving.{targets_in}
use Rattle.gix_ref_session.specs.Leading.{AreLed, LeadsIn, SeesBranch, branch_of}
use Rattle.gix_ref_session.proofs.lead.led_edits.Given as goal

abbrev pub invariant-loop-edit : goal.invariant-loop-edit
invariant-loop-edit g l =
    let F = g.F.Files in
    LooksUp F.honest F.means l.fn.store l.store
    × AreLed (LeadsIn F.honest F.means l.fn.store l.fn.writes_lines) (take l.edit-index l.edits) l.led.items
    × (F.honest → (records : List Record) → AreRecordsIn F.means l.fn.store records → option_map full_bytes l.branch ≡ branch_of (targets_in F.means l.fn.store records) l.fn.writes_lines)
    × (F.honest → SeesBranch F.means l.fn.store l.fn.writes_lines (option_map full_bytes l.branch))
