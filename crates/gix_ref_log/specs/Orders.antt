-- The orders of times, signatures and lines: by their fields, as they are declared.
use Rattle.std.specs.Prelude.{ℕ, ℤ, List, ◌≡◌}
use Rattle.std.specs.Ordering.{nat_cmp, int_cmp, ordering_then}
use Rattle.std.specs.Cmp.Lexicographic.{slice_cmp}
use Rattle.std.specs.declared.cmp.Ordering.{Ordering}
use Rattle.gix_ref_hash.specs.Orders.{id_cmp}
use Rattle.gix_ref_log.specs.declared.log.line.Line.{Line}
use Rattle.gix_ref_log.specs.declared.log.line.LineRef.{LineRef}
use Rattle.gix_ref_log.specs.Signatures.{Who, signature_who, signature_ref_who}

-- texts by their bytes
abbrev pub text_cmp : List ℕ → List ℕ → Ordering
text_cmp a b = slice_cmp nat_cmp a b

-- by the seconds, and then by the offset
abbrev pub time_cmp : ℤ → ℤ → ℤ → ℤ → Ordering
time_cmp s o s' o' = ordering_then (int_cmp s s') (int_cmp o o')

-- by the name, the email, the seconds and the offset
abbrev pub who_cmp : Who → Who → Ordering
who_cmp a b = ordering_then (ordering_then (text_cmp a.name b.name) (text_cmp a.email b.email))
    (time_cmp a.seconds a.offset b.seconds b.offset)

-- by the ids, the signature and the message
abbrev pub line_cmp : Line → Line → Ordering
line_cmp a b = ordering_then
    (ordering_then (ordering_then (id_cmp a.previous_oid b.previous_oid) (id_cmp a.new_oid
    b.new_oid)) (who_cmp (signature_who a.signature) (signature_who b.signature)))
    (text_cmp a.message.items b.message.items)

-- by the digits of the ids as they are written, the signature and the message
abbrev pub line_ref_cmp : LineRef → LineRef → Ordering
line_ref_cmp a b = ordering_then
    (ordering_then (ordering_then (text_cmp a.previous_oid.now b.previous_oid.now)
    (text_cmp a.new_oid.now b.new_oid.now))
    (who_cmp (signature_ref_who a.signature) (signature_ref_who b.signature)))
    (text_cmp a.message.now b.message.now)

-- the same ids, signature and message
pub record IsSameLine (a b : Line) : Type 0 where
  pub previous : a.previous_oid ≡ b.previous_oid
  pub new : a.new_oid ≡ b.new_oid
  pub who : signature_who a.signature ≡ signature_who b.signature
  pub message : a.message.items ≡ b.message.items
