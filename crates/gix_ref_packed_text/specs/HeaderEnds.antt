-- Where the header of a text ends.
use Rattle.std.specs.Prelude.{◌≤◌, ℕ, List, length, drop}
use Rattle.gix_ref_packed_text.specs.declared.packed.header_end.HeaderEnd.{HeaderEnd}
use Rattle.gix_ref_packed_text.specs.OpenedText.{Heads}

-- the header of the text, and the offset of the first record in it
abbrev pub HeadsAt : List ℕ → HeaderEnd → Type 0
HeadsAt text heading = Heads text heading.header (drop heading.start text)
    × (heading.start ≤ length text)
