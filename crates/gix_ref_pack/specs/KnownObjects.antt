-- Which objects a table knows, and what it has of them.
use Rattle.std.specs.Prelude.{ℕ, List, [], ◌∷◌, ◌++◌, Bool, Option, Some, None, codes, is_some, if◌then◌else◌}
use Rattle.std.specs.BTreeMap.{get}
use Rattle.std.specs.Ordering.{is_eq}
use Rattle.std.specs.declared.cmp.Ordering.{Ordering}
use Rattle.hex.specs.Hex.{encode_lower}
use Rattle.gix_ref_hash.specs.Ids.{id_bytes}
use Rattle.gix_ref_hash.specs.contracts.hash.ObjectIdOrd.TheImpl.{cmp-value}
use Rattle.gix_ref_hash.specs.declared.hash.ObjectId.{ObjectId}
use Rattle.gix_ref_object.specs.Objects.{Stored}
use Rattle.gix_ref_object.specs.Objects.Stored.{Absent, Object}
use Rattle.gix_ref_object.specs.declared.object.Kind.TheVariants.{Commit, Tag}
use Rattle.gix_ref_pack.specs.declared.objects.Objects.{Objects}
use Rattle.gix_ref_pack.specs.declared.objects.Row.{Row}

-- the order of ids (`ObjectId::cmp`)
abbrev pub id_order : ObjectId → ObjectId → Ordering
id_order = cmp-value.it

abbrev pub is_id : ObjectId → ObjectId → Bool
is_id a b = is_eq (id_order a b)

-- What a table has of an object: nothing, where it does not know it; else the object at the end of its tags, if it is a tag.
abbrev pub End : Type 0
End = Option (Option ObjectId)

abbrev pub end_in : Objects → ObjectId → End
end_in objects id = get id_order objects.ends id

-- the object is in the table
abbrev pub is_known : Objects → ObjectId → Bool
is_known objects id = is_some (end_in objects id)

-- an object is known afterwards, and stays a tag if it was one
abbrev pub known : End → End
known None = Some None
known (Some end) = Some end

-- what there is of an object once this one was added, unless it was known
abbrev pub known_after : (added : ObjectId) → (before : End) → ObjectId → End
known_after added before id = if is_id added id then known before else before

-- and once the end of a tag was added, if there is one
abbrev pub tagged_after : Option ObjectId → (before : End) → ObjectId → End
tagged_after None before id = before
tagged_after (Some end) before id = known_after end before id

-- and once a line was added: its object has what the line says
abbrev pub end_after : Row → (before : End) → ObjectId → End
end_after row before id = if is_id row.id id then Some row.end
    else tagged_after row.end before id

-- and these lines, one after the other
abbrev pub ends_after : List Row → (before : End) → ObjectId → End
ends_after [] before id = before
ends_after (row ∷ rows) before id = ends_after rows (end_after row before id) id

-- what a table of these lines has
abbrev pub end_by : List Row → ObjectId → End
end_by rows id = ends_after rows None id

-- the text of a tag of this object, as far as it is read
abbrev pub tag_text : ObjectId → List ℕ
tag_text end = codes "object " ++ (encode_lower (id_bytes end) ++ codes "\n")

-- what is stored of an object: none in the table is absent; one without an end is a commit, and any other a tag of that
abbrev pub stored_as : End → Stored
stored_as None = Absent
stored_as (Some None) = Object Commit []
stored_as (Some (Some end)) = Object Tag (tag_text end)

abbrev pub stored_in : Objects → ObjectId → Stored
stored_in objects id = stored_as (end_in objects id)
