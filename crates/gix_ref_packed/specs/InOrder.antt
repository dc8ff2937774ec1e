-- The records of a text in the order of their names.
use Rattle.std.specs.Prelude.{ℕ, ◌==◌, ◌+◌, ◌*◌, ◌&&◌, Bool, false, not, List, [], ◌∷◌, drop, if◌then◌else◌, is_none}
use Rattle.std.specs.List.{flat_map, take_while}
use Rattle.std.specs.Cmp.Lexicographic.{slice_cmp}
use Rattle.std.specs.Ordering.{nat_cmp, is_lt}
use Rattle.gix_ref_hash.specs.declared.hash.Kind.{Kind}
use Rattle.gix_ref_hash.specs.Ids.{kind_len}
use Rattle.gix_ref_packed_text.specs.RecordGrammar.{in_record_line, is_caret}
use Rattle.gix_ref_packed.specs.RecordsOfText.{begins_hash, read_records}

-- before the first element whose name is not below that of this one
abbrev pub insert_by : {X : Type 0} → (X → List ℕ) → X → List X → List X
insert_by name x [] = x ∷ []
insert_by name x (y ∷ ys) =
    if is_lt (slice_cmp nat_cmp (name y) (name x)) then y ∷ insert_by name x ys
    else x ∷ y ∷ ys

-- in the order of the names, those of one name in their old order
abbrev pub sorted_by : {X : Type 0} → (X → List ℕ) → List X → List X
sorted_by name [] = []
sorted_by name (x ∷ xs) = insert_by name x (sorted_by name xs)

abbrev pub begins_with_caret : List ℕ → Bool
begins_with_caret [] = false
begins_with_caret (b ∷ text) = is_caret b

abbrev pub add_to_first : ℕ → List (List ℕ) → List (List ℕ)
add_to_first b [] = (b ∷ []) ∷ []
add_to_first b (first ∷ more) = (b ∷ first) ∷ more

-- the lines of each record: a line that begins with `^` belongs to the record before it
abbrev pub record_lines : List ℕ → List (List ℕ)
record_lines [] = []
record_lines (b ∷ text) =
    if (b == 10) && not (begins_with_caret text) then (b ∷ []) ∷ record_lines text
    else add_to_first b (record_lines text)

-- the name in the lines of a record
abbrev pub name_in_lines : Kind → List ℕ → List ℕ
name_in_lines kind lines = take_while in_record_line (drop (2 * kind_len kind + 1) lines)

-- the records of a text in the order of their names, those of one name in their old order
abbrev pub in_order : Kind → List ℕ → List ℕ
in_order kind text = flat_map (λ lines. lines) (sorted_by (name_in_lines kind) (record_lines text))

-- the text is records, without a header
abbrev pub are_records : Kind → List ℕ → Bool
are_records kind text = not (begins_hash text) && not (is_none (read_records kind text))
