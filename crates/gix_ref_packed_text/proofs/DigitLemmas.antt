-- Digits of ids, by their test and by their kind.
use Rattle.std.proofs.Common.{◌≡◌, ◌*◌, ℕ, true, List, [], ◌++◌, length, refl, sym, ◌∙◌, subst, Option, Some, None}
use Rattle.std.specs.Option.{option_map}
use Rattle.std.proofs.lemmas.List.{append-nil}
use denote.Ref.{Bor}
use Rattle.gix_ref_hash.specs.declared.hash.Kind.{Kind}
use Rattle.gix_ref_hash.specs.Ids.{kind_len, IsHexOf}
use Rattle.gix_ref_hash.proofs.IdDigits.{kind_text}
use Rattle.gix_ref_packed_text.specs.RecordGrammar.{OptionalPeeledLine}
use Rattle.gix_ref_packed_text.specs.IdDigits.{is_id_if_any}
use Rattle.gix_ref_packed_text.proofs.OneReading.{same_front}

pub peeled_text : (k : Kind) (t : List ℕ) (o : Option (Bor (List ℕ))) (rest : List ℕ) → OptionalPeeledLine k t (option_map (λ (b : Bor (List ℕ)). b.now) o) rest → is_id_if_any o ≡ true
peeled_text k t None rest f = refl
peeled_text k t (Some b) rest f = kind_text k b.now f.id

-- digits at the front of a text of their length are the text
pub whole_id : (k : Kind) (t d rest : List ℕ) → length t ≡ 2 * kind_len k → IsHexOf k d → t ≡ d ++ rest → IsHexOf k t
whole_id k t d rest len h whole =
    let same = same_front d rest t [] (h.len ∙ sym len) (sym whole ∙ sym (append-nil t)) in
    subst (IsHexOf k) same.0 h
