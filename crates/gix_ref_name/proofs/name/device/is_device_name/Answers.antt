use Rattle.std.proofs.Common.{inl, inr, ℕ, Bool, List, sym, ap, ◌∙◌}
use Rattle.std.specs.List.{list_any}
use Rattle.std.specs.Str.{str_eq_ignore_ascii_case}
use Rattle.gix_ref_name.specs.DeviceNames.{devices, is_device}
use Rattle.gix_ref_name.proofs.DeviceLemmas.{no_device}
use Rattle.gix_ref_name.proofs.name.device.is_device_name.Goals as goal
use Rattle.gix_ref_name.proofs.name.device.is_device_name.Goals.{then-stem-lt-SHORTEST-via-then-stem-lt-SHORTEST, then-stem-lt-SHORTEST-via-else-stem-lt-SHORTEST+then-stem-gt-LONGEST}

-- the test of a stem
abbrev among : List ℕ → Bool
among text = list_any (λ device. str_eq_ignore_ascii_case device text) devices

pub returns-then-stem-lt-SHORTEST : goal.returns-then-stem-lt-SHORTEST
unfolding is_device
returns-then-stem-lt-SHORTEST c =
    elim c.then-stem-lt-SHORTEST.branch [
      | then-stem-lt-SHORTEST-via-then-stem-lt-SHORTEST w ↦
          sym (no_device c.stem-stem.result.now (inl w.if-stem-lt-SHORTEST.true)) ∙ ap among c.stem-stem.ensures
      | then-stem-lt-SHORTEST-via-else-stem-lt-SHORTEST+then-stem-gt-LONGEST w ↦
          sym (no_device c.stem-stem.result.now (inr w.if-stem-gt-LONGEST.true)) ∙ ap among c.stem-stem.ensures
    ]

pub returns : goal.returns
unfolding is_device
returns c = c.is_among.ensures ∙ ap among c.stem-stem.ensures
