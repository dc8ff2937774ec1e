-- What `==` of lines returns.
use Rattle.std.proofs.Common.{◌≡◌, Bool, ◌&&◌, ap, nat_eq, IsTrue, int_eq}
use Rattle.std.specs.Bool.{Decides}
use Rattle.std.specs.Cmp.Lexicographic.{pointwise, bytes_decides}
use Rattle.std.proofs.lemmas.Bool.Decides.{Decides-and, Decides-int_eq}
use Rattle.gix_ref_hash.proofs.IdEquality.{id_eq, id_eq-decides}
use Rattle.gix_ref_log.specs.Signatures.{Who, signature_who, signature_ref_who}
use Rattle.gix_ref_log.specs.LogLines.{LogLine, line_ref_parts}
use Rattle.gix_ref_log.specs.Orders.{IsSameLine}
use Rattle.gix_ref_log.specs.declared.log.line.Line.{Line}
use Rattle.gix_ref_log.specs.declared.log.line.LineRef.{LineRef}

abbrev who_eq : Who → Who → Bool
who_eq a b = pointwise nat_eq a.name b.name && (pointwise nat_eq a.email b.email && (int_eq a.seconds b.seconds && int_eq a.offset b.offset))

who_parts : (a b : Who) → Decides (who_eq a b) ((a.name ≡ b.name) × ((a.email ≡ b.email) × ((a.seconds ≡ b.seconds) × (a.offset ≡ b.offset))))
who_parts a b = Decides-and _ _ (bytes_decides a.name b.name) (Decides-and _ _ (bytes_decides a.email b.email) (Decides-and _ _ (Decides-int_eq a.seconds b.seconds) (Decides-int_eq a.offset b.offset)))

who_eq-decides : (a b : Who) → Decides (who_eq a b) (a ≡ b)
who_eq-decides a b = (
  λ h. let p = (who_parts a b).0 h in λ i. record { name = p.0 i; email = p.1.0 i; seconds = p.1.1.0 i; offset = p.1.1.1 i },
  λ e. (who_parts a b).1 (ap (λ (w : Who). w.name) e, (ap (λ (w : Who). w.email) e, (ap (λ (w : Who). w.seconds) e, ap (λ (w : Who). w.offset) e))),
)

line_parts : (a b : Line) → Decides
    (id_eq a.previous_oid b.previous_oid && (id_eq a.new_oid b.new_oid && (who_eq (signature_who a.signature) (signature_who b.signature) && pointwise nat_eq a.message.items b.message.items)))
    ((a.previous_oid ≡ b.previous_oid) × ((a.new_oid ≡ b.new_oid) × ((signature_who a.signature ≡ signature_who b.signature) × (a.message.items ≡ b.message.items))))
line_parts a b = Decides-and _ _ (id_eq-decides a.previous_oid b.previous_oid)
    (Decides-and _ _ (id_eq-decides a.new_oid b.new_oid)
    (Decides-and _ _ (who_eq-decides (signature_who a.signature) (signature_who b.signature)) (bytes_decides a.message.items b.message.items)))

pub same_line : (a b : Line) (r : Bool)
    → r ≡ (id_eq a.previous_oid b.previous_oid && (id_eq a.new_oid b.new_oid && (who_eq (signature_who a.signature) (signature_who b.signature) && pointwise nat_eq a.message.items b.message.items)))
    → (IsTrue r → IsSameLine a b) × (IsSameLine a b → IsTrue r)
same_line a b r is = rw is (
  λ h. let p = (line_parts a b).0 h in record { previous = p.0; new = p.1.0; who = p.1.1.0; message = p.1.1.1 },
  λ s. (line_parts a b).1 (s.previous, (s.new, (s.who, s.message))),
)

parts_of : (a b : LogLine) → Decides
    (pointwise nat_eq a.previous b.previous && (pointwise nat_eq a.new b.new && (who_eq a.who b.who && pointwise nat_eq a.message b.message)))
    ((a.previous ≡ b.previous) × ((a.new ≡ b.new) × ((a.who ≡ b.who) × (a.message ≡ b.message))))
parts_of a b = Decides-and _ _ (bytes_decides a.previous b.previous)
    (Decides-and _ _ (bytes_decides a.new b.new) (Decides-and _ _ (who_eq-decides a.who b.who) (bytes_decides a.message b.message)))

same_parts : (a b : LogLine) (r : Bool)
    → r ≡ (pointwise nat_eq a.previous b.previous && (pointwise nat_eq a.new b.new && (who_eq a.who b.who && pointwise nat_eq a.message b.message)))
    → (IsTrue r → a ≡ b) × (a ≡ b → IsTrue r)
same_parts a b r is = rw is (
  λ h. let p = (parts_of a b).0 h in λ i. record { previous = p.0 i; new = p.1.0 i; who = p.1.1.0 i; message = p.1.1.1 i },
  λ e. (parts_of a b).1 (ap (λ (l : LogLine). l.previous) e, (ap (λ (l : LogLine). l.new) e, (ap (λ (l : LogLine). l.who) e, ap (λ (l : LogLine). l.message) e))),
)

pub same_line_ref : (a b : LineRef) (r : Bool)
    → r ≡ (pointwise nat_eq a.previous_oid.now b.previous_oid.now && (pointwise nat_eq a.new_oid.now b.new_oid.now
    && (who_eq (signature_ref_who a.signature) (signature_ref_who b.signature) && pointwise nat_eq a.message.now b.message.now)))
    → (IsTrue r → line_ref_parts a ≡ line_ref_parts b) × (line_ref_parts a ≡ line_ref_parts b → IsTrue r)
same_line_ref a b r is = same_parts (line_ref_parts a) (line_ref_parts b) r is
