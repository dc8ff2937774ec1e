-- The parts of which a text is written.
use Rattle.std.specs.Prelude.{ℕ, List, flat_map}
use Rattle.std.specs.Borrow.{Bor}

-- the bytes of the slices, one after the other
abbrev pub concat_slices : List (Bor (List ℕ)) → List ℕ
concat_slices parts = flat_map (λ part. part.now) parts
