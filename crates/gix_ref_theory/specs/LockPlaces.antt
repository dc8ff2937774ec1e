-- Where locks lie.
use Rattle.std.specs.Prelude.{◌≡◌, ◌≢◌, ℕ, List, true}
use Rattle.gix_ref_files.specs.Lock.{lock_of}
use Rattle.gix_ref_target.specs.Layout.{Layout, IsLayout, below, packed_refs}
use Rattle.gix_ref_theory.specs.ConcreteStore.{Options, store_of}

-- No lock lies below another one: no component of a name ends with `.lock`.
abbrev pub NoLockIsBelowAnother : Type 0
NoLockIsBelowAnother =
    (f : Layout) (o : Options) → IsLayout f → (m n rest : List ℕ) →
    (store_of f o).is_reference m ≡ true → (store_of f o).is_reference n ≡ true →
    lock_of ((store_of f o).place m) ≢ below (lock_of ((store_of f o).place n)) rest

-- And none lies below that of `packed-refs`.
abbrev pub NoLockIsBelowThatOfPackedRefs : Type 0
NoLockIsBelowThatOfPackedRefs =
    (f : Layout) (o : Options) → IsLayout f → (m rest : List ℕ) → (store_of f o).is_reference m
    ≡ true → lock_of ((store_of f o).place m) ≢ below (lock_of (packed_refs f)) rest
