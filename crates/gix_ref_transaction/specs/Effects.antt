-- What becomes of a loose file.
use Rattle.std.specs.Prelude.{Bool, true, false}
use Rattle.gix_ref_transaction.specs.declared.edit.Effect.{Effect}
use Rattle.gix_ref_transaction.specs.declared.edit.Effect.TheVariants.{Write, Remove, Keep}

-- it is written
abbrev pub is_write : Effect → Bool
is_write Write = true
is_write Remove = false
is_write Keep = false
