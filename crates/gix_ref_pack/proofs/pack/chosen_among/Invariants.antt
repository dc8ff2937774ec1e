use Rattle.std.proofs.Common.{◌≡◌, List}
use Rattle.std.specs.List.{filter}
use Rattle.gix_ref_target.specs.PackedRecords.{Record}
use Rattle.gix_ref_store.specs.Lookup.{AreHeld}
use Rattle.gix_ref_pack.specs.LooseObjects.{is_chosen}
use Rattle.gix_ref_pack.specs.Packings.{ArePicked, HasKey, IsNoTag, IsOfLent, IsTagOr}
use Rattle.gix_ref_pack.proofs.pack.chosen_among.Given as goal

-- those of the references so far that are chosen
abbrev pub invariant-loop-loose : goal.invariant-loop-loose
invariant-loop-loose l = record {
  chosen : (rs : List Record) → AreHeld l.records rs → l.chosen.items ≡ filter (is_chosen l.namespace rs) l.yielded;
  picked : ArePicked (IsTagOr (λ key. IsOfLent (HasKey key) l.records) l.namespace) IsNoTag l.yielded l.chosen.items;
}
