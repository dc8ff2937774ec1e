-- A record of one line that ends in LF.
use Rattle.std.proofs.Common.{◌≡◌, ℕ, List, ◌∷◌, ◌++◌, refl, ◌∙◌, ap, inl, None}
use Rattle.gix_ref_hash.specs.declared.hash.Kind.{Kind}
use Rattle.gix_ref_hash.specs.Ids.{IsHexOf}
use Rattle.gix_ref_hash.specs.Bytes.{Cuts, StopsAt}
use Rattle.gix_ref_name.specs.NameGrammar.{IsFullName}
use Rattle.gix_ref_target.specs.PackedRecords.{Record}
use Rattle.gix_ref_packed_text.specs.RecordGrammar.{Takes, is_caret}
use Rattle.gix_ref_packed_text.specs.OpenedText.{lines_of}
use Rattle.gix_ref_packed_text.proofs.ReadBack.{name_in_line}

pub one_line : (k : Kind) (text digits behind line name after : List ℕ) → IsHexOf k digits → text ≡ digits ++ behind → behind ≡ 32 ∷ line → Cuts 10 line name after → IsFullName name → StopsAt is_caret after →
    (r : Record) × Takes k text r after × (lines_of r ≡ 1)
one_line k text digits behind line name after id whole space cuts valid stops = (
  record { name = name; target = digits; object = None },
  record {
    after = after;
    line = record {
      after = line;
      whole = whole ∙ ap (λ b. digits ++ b) space;
      len = id.len;
      line = record {
        after = 10 ∷ after;
        cut = record { whole = cuts.whole; front_passes = name_in_line name valid; stops = refl };
        newline = inl refl;
      };
    };
    id = id;
    valid = valid;
    peeled = (refl, stops);
  },
  refl,
)
