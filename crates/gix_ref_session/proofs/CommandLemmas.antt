-- Texts that are no command.
use Rattle.std.proofs.Common.{◌≡◌, ◌≢◌, inl, inr, ℕ, List, [], ◌∷◌, ◌++◌, Option, Some, None, Result, Ok, Err, IfErr, codes, arith, refl, sym, ◌∙◌, subst}
use Rattle.gix_ref_hash.specs.Bytes.{NoByte}
use Rattle.gix_ref_hash.specs.Ids.{IsHex, IsHexOf, ReadsId, id_kind, null_id}
use Rattle.gix_ref_hash.specs.declared.hash.Kind.{Kind}
use Rattle.gix_ref_hash.specs.declared.hash.Kind.TheVariants as kinds
use Rattle.gix_ref_hash.specs.declared.hash.ObjectId.{ObjectId}
use Rattle.gix_ref_hash.proofs.ByteLemmas.{no_byte, no_split, same_split}
use Rattle.gix_ref_hash.proofs.IdLemmas.{reads_whole}
use Rattle.gix_ref_session.specs.Commands.{Ask, Update, Create, Delete, Verify, SymrefUpdate, SymrefCreate, SymrefDelete, SymrefVerify, Heard, Edit, NoDeref, Start, Prepare, Commit, Abort, IsAsk, IsCommand, IsIdField, IsNewId, IsNoAsk, IsNoCommand, IsOldId, IsOldTarget, IsOneWord, IsVerbAndName, OldAsk, OldName, OldId, no_deref_words}
use Rattle.gix_ref_session.specs.declared.input.Format.{Format}
use Rattle.gix_ref_session.specs.declared.input.Format.TheVariants.{Lines, Nul}

-- what holds anyway holds where a call fails
pub at_err : {T E Q : Type 0} (r : Result T E) → Q → IfErr r (λ _. Q)
at_err (Ok x) q = tt
at_err (Err e) q = q

first_of : {A : Type 0} {x y : A} {xs ys : List A} → x ∷ xs ≡ y ∷ ys → x ≡ y
first_of e = cc

rest_of : {A : Type 0} {x y : A} {xs ys : List A} → x ∷ xs ≡ y ∷ ys → xs ≡ ys
rest_of e = cc

no_bytes : {x : ℕ} {xs : List ℕ} → x ∷ xs ≡ [] → ⊥
no_bytes e = cc

-- Fields.

-- digits that read as an id are hex
is_hex : (digits : List ℕ) (id : ObjectId) → ReadsId digits id → IsHex digits
is_hex digits id reads = by (id_kind id) (reads_whole digits id reads).0
  where
    by : (kind : Kind) → IsHexOf kind digits → IsHex digits
    by kinds.Sha1 h = inl h
    by kinds.Sha256 h = inr h

pub no_id : (kind : Kind) (field : List ℕ) → field ≢ [] → (IsHex field → ⊥) → (id : ObjectId) → IsIdField kind field id → ⊥
no_id kind field some never id (inl is) = some is.0
no_id kind field some never id (inr reads) = never (is_hex field id reads)

module _ (kind : Kind) (fields : List (List ℕ)) where
  another_id : (field other : List ℕ) (after rest : List (List ℕ)) → fields ≡ field ∷ after → fields ≡ other ∷ rest → ((id : ObjectId) → IsIdField kind field id → ⊥) → (id : ObjectId) → IsIdField kind other id → ⊥
  another_id field other after rest are be never id is = never id (subst (λ (f : List ℕ). IsIdField kind f id) (first_of (sym be ∙ are)) is)

  pub no_new_id : (field : List ℕ) (after : List (List ℕ)) → fields ≡ field ∷ after → ((id : ObjectId) → IsIdField kind field id → ⊥) → (id : ObjectId) (rest : List (List ℕ)) → IsNewId kind fields id rest → ⊥
  no_new_id field after are never id rest new = another_id field new.field after rest are new.are never id new.is

  pub no_old_id : (format : Format) (field : List ℕ) (after : List (List ℕ)) → fields ≡ field ∷ after → ((id : ObjectId) → IsIdField kind field id → ⊥) → (old : Option ObjectId) → IsOldId format kind fields old → ⊥
  no_old_id Lines field after are never None is = cc
  no_old_id Nul field after are never None is = never (null_id kind) (inl (first_of (sym are ∙ is), refl))
  no_old_id Lines field after are never (Some id) (other, be, is) = another_id field other after [] are be never id is
  no_old_id Nul field after are never (Some id) (other, be, some, is) = another_id field other after [] are be never id is

  -- `oid` and what is no id
  pub no_old_oid : (format : Format) (word value : List ℕ) (more after : List (List ℕ)) → fields ≡ word ∷ more → more ≡ value ∷ after → word ≡ codes "oid" → ((id : ObjectId) → IsIdField kind value id → ⊥) →
      (old : Option OldAsk) → IsOldTarget format kind fields old → ⊥
  no_old_oid Lines word value more after are then oid never None is = cc
  no_old_oid Nul word value more after are then oid never None is = no_bytes (sym oid ∙ first_of (sym are ∙ is))
  no_old_oid format word value more after are then oid never (Some (OldName name)) is = omega (arith, first_of (sym oid ∙ first_of (sym are ∙ is)))
  no_old_oid format word value more after are then oid never (Some (OldId id)) (field, be, is) =
      never id (subst (λ (f : List ℕ). IsIdField kind f id) (first_of (sym (rest_of (sym are ∙ be)) ∙ then)) is)

-- What a verb asks.

module _ (format : Format) (kind : Kind) (fields : List (List ℕ)) (never : (id : ObjectId) (rest : List (List ℕ)) → IsNewId kind fields id rest → ⊥) where
  pub no_update : IsNoAsk format kind (codes "update") fields
  no_update (Update new old) (is, (rest, new_is, old_is)) = never new rest new_is
  no_update ask asked = omega (arith, first_of asked.0)

  pub no_create : IsNoAsk format kind (codes "create") fields
  no_create (Create new) (is, new_is, some) = never new [] new_is
  no_create ask asked = omega (arith, first_of asked.0)

-- Names.

no_space : (verb word : List ℕ) → verb ≡ word → NoByte 32 word → NoByte 32 verb
no_space verb word is none = subst (λ (w : List ℕ). NoByte 32 w) (sym is) none

-- a verb has no space
verb_is_word : (format : Format) (kind : Kind) (verb : List ℕ) (fields : List (List ℕ)) (ask : Ask) → IsAsk format kind verb fields ask → NoByte 32 verb
verb_is_word format kind verb fields (Update new old) asked = no_space verb (codes "update") asked.0 (no_byte 32 (codes "update") refl)
verb_is_word format kind verb fields (Create new) asked = no_space verb (codes "create") asked.0 (no_byte 32 (codes "create") refl)
verb_is_word format kind verb fields (Delete old) asked = no_space verb (codes "delete") asked.0 (no_byte 32 (codes "delete") refl)
verb_is_word format kind verb fields (Verify old) asked = no_space verb (codes "verify") asked.0 (no_byte 32 (codes "verify") refl)
verb_is_word format kind verb fields (SymrefUpdate target old) asked = no_space verb (codes "symref-update") asked.0 (no_byte 32 (codes "symref-update") refl)
verb_is_word format kind verb fields (SymrefCreate target) asked = no_space verb (codes "symref-create") asked.0 (no_byte 32 (codes "symref-create") refl)
verb_is_word format kind verb fields (SymrefDelete old) asked = no_space verb (codes "symref-delete") asked.0 (no_byte 32 (codes "symref-delete") refl)
verb_is_word format kind verb fields (SymrefVerify old) asked = no_space verb (codes "symref-verify") asked.0 (no_byte 32 (codes "symref-verify") refl)

-- without a space in the first word it has no verb and no name
pub no_parts : (words : List (List ℕ)) (first : List ℕ) (rest : List (List ℕ)) → words ≡ first ∷ rest → NoByte 32 first → (verb name : List ℕ) (fields : List (List ℕ)) → IsVerbAndName Nul words verb name fields → ⊥
no_parts words first rest are none verb name fields be = no_split 32 verb name (no_space (verb ++ 32 ∷ name) first (first_of (sym be ∙ are)) none)

-- the verb and the name are where the first space is
same_parts : (format : Format) (words : List (List ℕ)) (verb name v n : List ℕ) (fields f : List (List ℕ)) → IsVerbAndName format words verb name fields → (format ≡ Nul → NoByte 32 verb) → IsVerbAndName format words v n f → NoByte 32 v →
    (v ≡ verb) × (n ≡ name) × (f ≡ fields)
same_parts Lines words verb name v n fields f are first be word =
    let same : v ∷ (n ∷ f) ≡ verb ∷ (name ∷ fields) = sym be ∙ are in
    (first_of same, first_of (rest_of same), rest_of (rest_of same))
same_parts Nul words verb name v n fields f are first be word =
    let same : (v ++ 32 ∷ n) ∷ f ≡ (verb ++ 32 ∷ name) ∷ fields = sym be ∙ are in
    let parts = same_split 32 v verb n name word (first refl) (first_of same) in
    (parts.0, parts.1, rest_of same)

module _ (format : Format) (kind : Kind) (words : List (List ℕ)) (verb name : List ℕ) (fields : List (List ℕ)) (are : IsVerbAndName format words verb name fields) (first : format ≡ Nul → NoByte 32 verb) where
  pub no_name : name ≡ [] → (n : List ℕ) (ask : Ask) → IsCommand format kind words (Edit n ask) → ⊥
  no_name none n ask (v, f, be, some, asked) =
      some ((same_parts format words verb name v n fields f are first be (verb_is_word format kind v f ask asked)).1 ∙ none)

  pub no_asked : IsNoAsk format kind verb fields → (n : List ℕ) (ask : Ask) → IsCommand format kind words (Edit n ask) → ⊥
  no_asked never n ask (v, f, be, some, asked) =
      let same = same_parts format words verb name v n fields f are first be (verb_is_word format kind v f ask asked) in
      never ask (subst (λ (w : List ℕ). IsAsk format kind w fields ask) same.0 (subst (λ (g : List (List ℕ)). IsAsk format kind v g ask) same.2 asked))

-- Commands.

pub no_command : (format : Format) (kind : Kind) (words : List (List ℕ)) → words ≢ no_deref_words format → ((heard : Heard) → IsOneWord words heard → ⊥) → ((name : List ℕ) (ask : Ask) → IsCommand format kind words (Edit name ask) → ⊥) →
    IsNoCommand format kind words
no_command format kind words deref word edit (Edit name ask) is = edit name ask is
no_command format kind words deref word edit NoDeref is = deref is
no_command format kind words deref word edit Start is = word Start is
no_command format kind words deref word edit Prepare is = word Prepare is
no_command format kind words deref word edit Commit is = word Commit is
no_command format kind words deref word edit Abort is = word Abort is
