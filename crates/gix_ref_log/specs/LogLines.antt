-- Lines of a reflog: their text, and how they are written. Git's page is `git reflog`, with `git update-ref`, which
-- writes them.
use Rattle.std.specs.Prelude.{◌≡◌, ℕ, ◌⊎◌, List, [], ◌∷◌, ◌++◌, FitsSigned}
use Rattle.std.specs.Int.{w64}
use Rattle.hex.specs.Hex.{encode_lower}
use Rattle.gix_ref_hash.specs.Bytes.{NoByte, Cuts}
use Rattle.gix_ref_hash.specs.Ids.{id_bytes, IsWhole, ReadsId}
use Rattle.gix_ref_log.specs.Signatures.{Who, IsSignature, CanWrite, signature_text, signature_who, signature_ref_who, trimmed_who}
use Rattle.gix_ref_hash.specs.declared.hash.ObjectId.{ObjectId}
use Rattle.gix_ref_log.specs.LogIds.{IdFront}
use Rattle.gix_ref_log.specs.declared.log.line.Line.{Line}
use Rattle.gix_ref_log.specs.declared.log.line.LineRef.{LineRef}

-- the parts of a line, its ids by their hex digits
pub record LogLine : Type 0 where
  pub previous : List ℕ
  pub new : List ℕ
  pub who : Who
  pub message : List ℕ

-- cut at the first such byte, or all of a text that has none
abbrev pub CutsOrAll : ℕ → List ℕ → List ℕ → List ℕ → Type 0
CutsOrAll b text before after = Cuts b text before after
    ⊎ (NoByte b text × (before ≡ text) × (after ≡ []))

-- The text of a line: an id, a space, an id, a space; then, up to LF or the end, a signature, and after the first tab
-- the message.
pub record IsLine (text : List ℕ) (l : LogLine) : Type 0 where
  pub ids : List ℕ
  pub rest : List ℕ
  pub line : List ℕ
  pub next_lines : List ℕ
  pub signature : List ℕ
  pub previous : IdFront text l.previous ids
  pub new : IdFront ids l.new rest
  pub cut : CutsOrAll 10 rest line next_lines
  pub message : CutsOrAll 9 line signature l.message
  pub who : IsSignature signature l.who

abbrev pub NoLine : List ℕ → Type 0
NoLine text = (l : LogLine) → IsLine text l → ⊥

-- all before the first LF, or the whole text
abbrev pub IsFirstLine : List ℕ → List ℕ → Type 0
IsFirstLine text line = (rest : List ℕ) × CutsOrAll 10 text line rest

abbrev pub line_ref_parts : LineRef → LogLine
line_ref_parts l = record {
  previous = l.previous_oid.now;
  new = l.new_oid.now;
  who = signature_ref_who l.signature;
  message = l.message.now;
}

-- an owned line is the same line, its ids read
pub record IsOwned (l : LogLine) (line : Line) : Type 0 where
  pub previous : ReadsId l.previous line.previous_oid
  pub new : ReadsId l.new line.new_oid
  pub who : signature_who line.signature ≡ l.who
  pub message : line.message.items ≡ l.message

-- the text is read as this line
abbrev pub IsReadAs : List ℕ → Line → Type 0
IsReadAs text line = (l : LogLine) × IsLine text l × IsOwned l line

-- the ids in lower case, each with a space after it, and the signature
abbrev pub head_text : ObjectId → ObjectId → Who → List ℕ
head_text previous new who = encode_lower (id_bytes previous) ++ 32
    ∷ (encode_lower (id_bytes new) ++ 32 ∷ signature_text who)

-- how a line is written: also before an empty message there is a tab
abbrev pub line_text : Line → List ℕ
line_text l = head_text l.previous_oid l.new_oid
    (signature_who l.signature) ++ 9 ∷ (l.message.items ++ 10 ∷ [])

-- a tab and the message, or nothing where it is empty
abbrev pub message_part : List ℕ → List ℕ
message_part [] = []
message_part (b ∷ message) = 9 ∷ b ∷ message

-- how a transaction writes a line: the signature trimmed, and no tab before an empty message
abbrev pub appended_text : ObjectId → ObjectId → Who → List ℕ → List ℕ
appended_text previous new who message = head_text previous new
    (trimmed_who who) ++ (message_part message ++ 10 ∷ [])

-- the parts of a line as it is written
abbrev pub written_parts : ObjectId → ObjectId → Who → List ℕ → LogLine
written_parts previous new who message = record {
  previous = encode_lower (id_bytes previous);
  new = encode_lower (id_bytes new);
  who = who;
  message = message;
}

-- a line that can be written
pub record CanWriteLine (who : Who) (message : List ℕ) : Type 0 where
  pub one_line : NoByte 10 message
  pub signature : CanWrite who

-- a line that is read again as it was written: it can be written, and no tab is in name or email
pub record IsReadableLine (previous new : ObjectId) (who : Who) (message : List ℕ) : Type 0 where
  pub previous_whole : IsWhole previous
  pub new_whole : IsWhole new
  pub seconds : FitsSigned w64 who.seconds
  pub writable : CanWriteLine who message
  pub name : NoByte 9 who.name
  pub email : NoByte 9 who.email
