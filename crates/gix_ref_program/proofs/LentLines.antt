-- The line of a record that is lent.
use Rattle.std.proofs.Common.{◌≡◌, arith, ℕ, ◌+◌, ◌%◌, ⊎_elim, true, List, ◌++◌, append_assoc, length, length-append, refl, ◌∙◌, ap, Some}
use Rattle.std.specs.Prelude.{◌<◌, ◌^◌, codes, Vec}
use Rattle.std.specs.declared.alloc.Global.{Global}
use Rattle.std.proofs.lemmas.List.Sums.{AllPass-from_list_all}
use Rattle.hex.specs.Hex.{encode_lower, decode_of, is_hex_digit}
use Rattle.hex.proofs.HexLemmas.{decode_of-digits}
use denote.RawPtr.{null_ptr}
use Rattle.gix_ref_hash.specs.Digits.{lower_hex}
use Rattle.gix_ref_hash.specs.Ids.{ReadsId, id_bytes, is_id_text}
use Rattle.gix_ref_hash.specs.declared.hash.ObjectId.TheVariants as ids
use Rattle.gix_ref_hash.proofs.IdDigits.{id_length, id_digits}
use Rattle.gix_ref_hash.proofs.LowerDigits.{lower_is_written}
use Rattle.gix_ref_hash.specs.declared.hash.ObjectId.{ObjectId}
use Rattle.gix_ref_name.specs.Names.{full_ref_bytes}
use Rattle.gix_ref_name.specs.declared.name.FullName.{FullName}
use Rattle.gix_ref_name.specs.declared.name.FullNameRef.{FullNameRef}
use Rattle.gix_ref_target.specs.declared.target.Target.TheVariants.{Object}
use Rattle.gix_ref_theory.specs.Readings.{reading_of_id}
use Rattle.gix_ref_theory.specs.Lookups.{peeled_of}
use Rattle.gix_ref_lookup.proofs.Answering.{digits_read}
use Rattle.gix_ref_listing.specs.OwnRecords.{own_of}
use Rattle.gix_ref_listing.specs.declared.own_records.OwnRecord.{OwnRecord}
use Rattle.gix_ref_program.specs.ListPrinting.{PushesRecord}

-- a part of the bytes of a vector is short
short : (v : Vec ℕ Global) (front name : List ℕ) → v.items ≡ front ++ name → length name < 2 ^ 63
short v front name is =
    let all : length v.items ≡ length front + length name = ap length is ∙ length-append front name in
    omega (arith, all, v.ok.0, v.ok.1, v.small)

-- the same bytes as a name that is owned
abbrev owned : (heap : Global) (name : FullNameRef) → length (full_ref_bytes name) < 2 ^ 63 → FullName
owned heap name small = record {
  bytes = record { ptr = null_ptr; len = length (full_ref_bytes name); cap = length (full_ref_bytes name); alloc = heap; items = full_ref_bytes name; ok = (refl, omega arith); small = small };
  valid = name.valid;
}

-- the digits of an id are those of some id
id_of : (digits : List ℕ) → is_id_text digits ≡ true → (id : ObjectId) × ReadsId digits id
id_of digits text =
    let len = id_length digits text in
    let even = ⊎_elim (λ (short : length digits ≡ 40). ap (λ (n : ℕ). n % 2) short) (λ (long : length digits ≡ 64). ap (λ (n : ℕ). n % 2) long) len in
    let read = decode_of-digits digits even (AllPass-from_list_all is_hex_digit digits (id_digits digits text)) in
    ⊎_elim (λ (short : length digits ≡ 40). (ids.Sha1 read.0, record { len = short; digits = read.1 })) (λ (long : length digits ≡ 64). (ids.Sha256 read.0, record { len = long; digits = read.1 })) len

-- the pieces of the line
pub line_pushed : (own : OwnRecord) (v : Vec ℕ Global) (before digits spaced named all : List ℕ) →
    digits ≡ before ++ lower_hex own.record.target.now → spaced ≡ digits ++ codes " " → named ≡ spaced ++ full_ref_bytes own.name → all ≡ named ++ codes "\n" → v.items ≡ named →
    PushesRecord own before all
line_pushed own v before digits spaced named all first second third last held =
    let known = id_of own.record.target.now own.record.target_reads in
    let id = known.0 in
    let reads = known.1 in
    record {
      reference = record {
        name = owned v.alloc own.name (short v spaced (full_ref_bytes own.name) (held ∙ third));
        target = Object id;
        peeled = peeled_of (Some (own_of own).of);
      };
      is = (refl, ap reading_of_id (digits_read own.record.target.now id reads), refl);
      added =
          let hex = encode_lower (id_bytes id) in
          let written : digits ≡ before ++ hex = first ∙ ap (λ x. before ++ x) (lower_is_written own.record.target.now id reads) in
          let name = full_ref_bytes own.name in
          last ∙ (ap (λ x. x ++ codes "\n") (third ∙ ap (λ x. x ++ name) (second ∙ ap (λ x. x ++ codes " ") written))
          ∙ (append_assoc ((before ++ hex) ++ codes " ") name (codes "\n")
          ∙ (append_assoc (before ++ hex) (codes " ") (name ++ codes "\n") ∙ append_assoc before hex (codes " " ++ (name ++ codes "\n")))));
    }
