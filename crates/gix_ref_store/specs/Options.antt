-- The options of a store.
use Rattle.std.specs.Prelude.{false}
use Rattle.gix_ref_reflog.specs.declared.write_reflog.WriteReflog.TheVariants.{Normal}
use Rattle.gix_ref_store.specs.declared.store.Options.{Options}

-- what `Options::default()` returns
abbrev pub default_options : Options
default_options = record {
  write_reflog = Normal;
  precompose_unicode = false;
  prohibit_windows_device_names = false;
}
