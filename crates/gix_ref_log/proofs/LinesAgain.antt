-- A line that was written is read again.
use Rattle.std.proofs.Common.{◌≡◌, ℕ, List, [], ◌∷◌, ◌++◌, inl, inr, refl, sym, ◌∙◌, ap, arith}
use Rattle.std.proofs.lemmas.List.{append_assoc}
use Rattle.hex.specs.Hex.{encode_lower}
use Rattle.gix_ref_hash.specs.Bytes.{NoByte}
use Rattle.gix_ref_hash.specs.Ids.{id_bytes, id_kind, IsWhole, IsHex, IsHexOf, IsIdText}
use Rattle.gix_ref_log.specs.Signatures.{Who, signature_text, signature_who, trimmed_who}
use Rattle.gix_ref_hash.specs.declared.hash.Kind.{Kind}
use Rattle.gix_ref_hash.specs.declared.hash.Kind.TheVariants as kinds
use Rattle.gix_ref_hash.specs.declared.hash.ObjectId.{ObjectId}
use Rattle.gix_ref_hash.proofs.IdLemmas.{written_reads, reads_whole}
use Rattle.gix_ref_log.proofs.SignaturesAgain.{none_append, none_cons, none_signature, signature_again}
use Rattle.gix_ref_log.specs.LogLines.{IsLine, IsReadAs, IsReadableLine, written_parts, head_text, line_text, appended_text}
use Rattle.gix_ref_log.specs.declared.log.line.Line.{Line}
use Rattle.gix_ref_hash.proofs.IdDigits.{hex_id}

either_kind : (kind : Kind) (text : List ℕ) → IsHexOf kind text → IsHex text
either_kind kinds.Sha1 text h = inl h
either_kind kinds.Sha256 text h = inr h

written_id : (id : ObjectId) → IsWhole id → IsIdText (encode_lower (id_bytes id))
written_id id whole = hex_id (encode_lower (id_bytes id)) (either_kind (id_kind id) (encode_lower (id_bytes id)) (reads_whole (encode_lower (id_bytes id)) id (written_reads id whole)).0)

-- what follows the head follows the signature
head_then : (previous new : ObjectId) (who : Who) (more : List ℕ)
    → head_text previous new who ++ more ≡ encode_lower (id_bytes previous) ++ 32 ∷ (encode_lower (id_bytes new) ++ 32 ∷ (signature_text who ++ more))
head_then previous new who more =
    let p = encode_lower (id_bytes previous) in
    let n = encode_lower (id_bytes new) in
    append_assoc p (32 ∷ (n ++ 32 ∷ signature_text who)) more
    ∙ ap (λ (t : List ℕ). p ++ 32 ∷ t) (append_assoc n (32 ∷ signature_text who) more)

module _ (previous new : ObjectId) (who : Who) (message : List ℕ) (r : IsReadableLine previous new who message) where
  no_feed : NoByte 10 (signature_text who)
  no_feed = none_signature who r.writable.signature r.seconds 10 (omega arith) r.writable.signature.name.2 r.writable.signature.email.2

  no_tab : NoByte 9 (signature_text who)
  no_tab = none_signature who r.writable.signature r.seconds 9 (omega arith) r.name r.email

  pub with_tab : IsLine (head_text previous new who ++ 9 ∷ (message ++ 10 ∷ [])) (written_parts previous new who message)
  with_tab = record {
    ids = encode_lower (id_bytes new) ++ 32 ∷ (signature_text who ++ 9 ∷ (message ++ 10 ∷ []));
    rest = signature_text who ++ 9 ∷ (message ++ 10 ∷ []);
    line = signature_text who ++ 9 ∷ message;
    next_lines = [];
    signature = signature_text who;
    previous = (written_id previous r.previous_whole, head_then previous new who (9 ∷ (message ++ 10 ∷ [])));
    new = (written_id new r.new_whole, refl);
    cut = inl (record { whole = sym (append_assoc (signature_text who) (9 ∷ message) (10 ∷ [])); none = none_append 10 (signature_text who) (9 ∷ message) no_feed (none_cons 10 9 message (omega arith) r.writable.one_line) });
    message = inl (record { whole = refl; none = no_tab });
    who = signature_again who r.writable.signature r.seconds;
  }

module _ (previous new : ObjectId) (who : Who) (r : IsReadableLine previous new who []) where
  without_tab : IsLine (head_text previous new who ++ 10 ∷ []) (written_parts previous new who [])
  without_tab = record {
    ids = encode_lower (id_bytes new) ++ 32 ∷ (signature_text who ++ 10 ∷ []);
    rest = signature_text who ++ 10 ∷ [];
    line = signature_text who;
    next_lines = [];
    signature = signature_text who;
    previous = (written_id previous r.previous_whole, head_then previous new who (10 ∷ []));
    new = (written_id new r.new_whole, refl);
    cut = inl (record { whole = refl; none = no_feed previous new who [] r });
    message = inr (no_tab previous new who [] r, refl, refl);
    who = signature_again who r.writable.signature r.seconds;
  }

pub appended_again : (previous new : ObjectId) (who : Who) (message : List ℕ) → IsReadableLine previous new (trimmed_who who) message
    → IsLine (appended_text previous new who message) (written_parts previous new (trimmed_who who) message)
appended_again previous new who [] r = without_tab previous new (trimmed_who who) r
appended_again previous new who (b ∷ message) r = with_tab previous new (trimmed_who who) (b ∷ message) r

pub written_again : (line : Line) → IsReadableLine line.previous_oid line.new_oid (signature_who line.signature) line.message.items → IsReadAs (line_text line) line
written_again line r = (
  written_parts line.previous_oid line.new_oid (signature_who line.signature) line.message.items,
  with_tab line.previous_oid line.new_oid (signature_who line.signature) line.message.items r,
  record { previous = written_reads line.previous_oid r.previous_whole; new = written_reads line.new_oid r.new_whole; who = refl; message = refl },
)
