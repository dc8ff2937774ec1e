-- Settings as values.
use denote.Ref.{Bor}
use Rattle.gix_ref_lookup.specs.declared.settings.Settings.{Settings}

-- a value as it is lent; where it lies does not matter
abbrev pub lent : {A : Type 0} → A → Bor A
lent value = record { ref_ptr = (0, 0); now = value }

-- the same settings
abbrev pub plain : Settings → Settings
plain s = record {
  dirs = lent s.dirs.now;
  namespace = lent s.namespace.now;
  kind = s.kind;
  prohibit_windows_device_names = s.prohibit_windows_device_names;
  precompose_unicode = s.precompose_unicode;
}
