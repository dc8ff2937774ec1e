-- The test for a text of records.
use Rattle.std.proofs.Common.{◌≡◌, ℕ, ◌&&◌, Bool, true, false, not, List, [], ◌∷◌, ◌++◌, codes, refl, sym, ◌∙◌, ap, subst, arith, Option, Some, None, is_none, eqb-true}
use Rattle.std.proofs.lemmas.List.Elements.{All-head}
use Rattle.hex.specs.Hex.{is_hex_digit}
use Rattle.gix_ref_hash.specs.declared.hash.Kind.{Kind}
use Rattle.gix_ref_hash.specs.Ids.{IsHexOf}
use Rattle.gix_ref_hash.specs.Bytes.{StopsAt}
use Rattle.gix_ref_target.specs.PackedRecords.{Record}
use Rattle.gix_ref_packed_text.specs.declared.packed.decode.options.Header.{Header}
use Rattle.gix_ref_packed_text.specs.RecordGrammar.{Records}
use Rattle.gix_ref_packed_text.specs.OpenedText.{Heads, is_hash}
use Rattle.gix_ref_packed_text.proofs.RecordBytes.{two_digits}
use Rattle.gix_ref_packed.specs.InOrder.{are_records}
use Rattle.gix_ref_packed.specs.RecordsOfText.{begins_hash, read_records}
use Rattle.gix_ref_packed.proofs.RecordsOfText.{records_read}
use Rattle.gix_ref_packed.proofs.RecordsRead.{texts_are_read}

-- a record begins with a digit
digits_no_hash : (k : Kind) (d more : List ℕ) → IsHexOf k d → StopsAt is_hash (d ++ more)
digits_no_hash k [] more id = let some = two_digits k 0 id.len in absurd (omega arith)
digits_no_hash k (b ∷ d) more id = by (is_hash b) refl
  where
    by : (x : Bool) → is_hash b ≡ x → is_hash b ≡ false
    by false is = is
    by true is =
        let bad : is_hex_digit 35 ≡ true = subst (λ (c : ℕ). is_hex_digit c ≡ true) (eqb-true b 35 is) (All-head (λ c. is_hex_digit c ≡ true) b d id.digits) in absurd (cc)

no_hash : (k : Kind) (t : List ℕ) (rs : List Record) → Records k t rs → StopsAt is_hash t
no_hash k t [] h = subst (StopsAt is_hash) (sym h) tt
no_hash k t (r ∷ rs) h = subst (StopsAt is_hash) (sym h.1.line.whole) (digits_no_hash k r.target (32 ∷ h.1.line.after) h.1.id)

stops_no_hash : (t : List ℕ) → StopsAt is_hash t → begins_hash t ≡ false
stops_no_hash [] stops = refl
stops_no_hash (b ∷ t) stops = stops

-- a text of records passes
pub pass_records : (k : Kind) (t : List ℕ) (rs : List Record) → Records k t rs → are_records k t ≡ true
pass_records k t rs h =
    let stops = no_hash k t rs h in
    ap (λ x. not x && not (is_none (read_records k t))) (stops_no_hash t stops) ∙ ap (λ o. not (is_none o)) (records_read k t None rs (t, (refl, stops), h))

-- a text that passes is records
pub passed_records : (k : Kind) (t : List ℕ) → are_records k t ≡ true → (rs : List Record) × Records k t rs
passed_records k t pass = by (begins_hash t) (read_records k t) refl refl pass
  where
    headed : begins_hash t ≡ false → (h : Option Header) (rest : List ℕ) (rs : List Record) → Heads t h rest → Records k rest rs → (rs : List Record) × Records k t rs
    headed plain None rest rs heads h = (rs, subst (λ (u : List ℕ). Records k u rs) (sym heads.0) h)
    headed plain (Some header) rest rs heads h =
        let bad : begins_hash (codes "# pack-refs with: " ++ heads.after) ≡ false = subst (λ (u : List ℕ). begins_hash u ≡ false) heads.whole plain in absurd (cc)

    by : (x : Bool) (o : Option (List Record)) → begins_hash t ≡ x → read_records k t ≡ o → (not x && not (is_none o)) ≡ true → (rs : List Record) × Records k t rs
    by true o hash read pass = absurd (cc)
    by false None hash read pass = absurd (cc)
    by false (Some rs) hash read pass =
        let found = (texts_are_read k t rs).0 read in
        headed hash found.0 found.1.0 rs found.1.1 found.1.2
